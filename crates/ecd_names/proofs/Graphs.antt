-- Names that reach each other, and nodes that reach each other.
use Rattle.std.proofs.Common.{ℕ, zero, suc, ◌≡◌, Bool, true, false, List, [], ◌∷◌, refl, ap, sym, ◌∙◌, subst}
use Rattle.std.specs.Prelude.{Option, Some, None, flat_map}
use Rattle.std.specs.List.{Contains}
use Rattle.ecd_graph.specs.declared.edge.Edge.{Edge}
use Rattle.ecd_graph.specs.Graphs.{IsEdge, Walks, Reaches}
use Rattle.ecd_syntax.specs.declared.tree.Name.{Name}
use Rattle.ecd_syntax.specs.declared.tree.Rule.{Rule}
use Rattle.ecd_uses.specs.declared.site.Asked.{Asked}
use Rattle.ecd_uses.specs.declared.site.Site.{Site}
use Rattle.ecd_uses.specs.declared.site.Site.TheVariants.{Use, Parenthesis}
use Rattle.ecd_uses.specs.Sites.{sites_of}
use Rattle.ecd_bodies.specs.Named.{is_parameter}
use Rattle.ecd_bodies.specs.Reaching.{IsUse, Uses, ReachesWithin, ReachesName}
use Rattle.ecd_graph.specs.Edges.{edge_between}
use Rattle.ecd_names.specs.Edges.{site_edges, rule_edges}
use Rattle.ecd_names.proofs.Walking.{some_same, none_in, only_in, in_only, flat_in, in_flat}
use Rattle.ecd_names.proofs.Linking.{free-edges, parameter-edges}

-- ---- edges are uses

-- a rule uses a name, and both names have nodes
pub record IsUseEdge (node : List ℕ → Option ℕ) (rules : List Rule) (from to : ℕ) : Type 0 where
  pub rule : Rule
  pub among : Contains rules rule
  pub name : Name
  pub args : ℕ
  pub asked : Asked
  pub used : IsUse rule name args asked
  pub starts : node rule.name.text ≡ Some from
  pub ends : node name.text ≡ Some to

between : (a b : Option ℕ) (from to : ℕ) → Contains (edge_between a b) (record { from = from; to = to }) → (a ≡ Some from) × (b ≡ Some to)
between (Some a) (Some b) from to c =
    let e : record { from = a; to = b } ≡ record { from = from; to = to } = only_in (record { from = a; to = b }) (record { from = from; to = to }) c in
    (ap (λ (x : Edge). Some x.from) e, ap (λ (x : Edge). Some x.to) e)
between (Some a) None from to c = absurd (none_in (record { from = from; to = to }) c)
between None b from to c = absurd (none_in (record { from = from; to = to }) c)

module _ (node : List ℕ → Option ℕ) (rules : List Rule) where
  pub use-edge : (from to : ℕ) → Contains (flat_map (rule_edges node) rules) (record { from = from; to = to }) → IsUseEdge node rules from to
  use-edge from to c =
      let r = in_flat (rule_edges node) rules (record { from = from; to = to }) c in
      let s = in_flat (site_edges node r.0) (sites_of r.0) (record { from = from; to = to }) r.2 in
      by_site s.0 r.0 r.1 s.1 s.2
    where
      by_test : (b : Bool) (rule : Rule) (name : Name) (args : ℕ) (asked : Asked) → is_parameter rule.params name.text ≡ b → Contains rules rule → Contains (sites_of rule) (Use name args asked) → Contains (site_edges node rule (Use name args asked)) (record { from = from; to = to }) → IsUseEdge node rules from to
      by_test true rule name args asked e r u h = absurd (none_in (record { from = from; to = to }) (subst (λ (l : List Edge). Contains l (record { from = from; to = to })) (parameter-edges node rule name args asked e) h))
      by_test false rule name args asked e r u h =
          let ends = between (node rule.name.text) (node name.text) from to (subst (λ (l : List Edge). Contains l (record { from = from; to = to })) (free-edges node rule name args asked e) h) in
          record { rule = rule; among = r; name = name; args = args; asked = asked; used = record { among = u; free = e }; starts = ends.0; ends = ends.1 }

      by_site : (site : Site) (rule : Rule) → Contains rules rule → Contains (sites_of rule) site → Contains (site_edges node rule site) (record { from = from; to = to }) → IsUseEdge node rules from to
      by_site (Use name args asked) rule r u h = by_test (is_parameter rule.params name.text) rule name args asked refl r u h
      by_site (Parenthesis at lead) rule r u h = absurd (none_in (record { from = from; to = to }) h)

  pub edge-use : (rule : Rule) (name : Name) (args : ℕ) (asked : Asked) (from to : ℕ) → Contains rules rule → IsUse rule name args asked → node rule.name.text ≡ Some from → node name.text ≡ Some to → Contains (flat_map (rule_edges node) rules) (record { from = from; to = to })
  edge-use rule name args asked from to r u e f =
      let here : site_edges node rule (Use name args asked) ≡ record { from = from; to = to } ∷ [] = free-edges node rule name args asked u.free ∙ (ap (λ x. edge_between x (node name.text)) e ∙ ap (edge_between (Some from)) f) in
      flat_in (rule_edges node) rules rule (record { from = from; to = to }) r
      (flat_in (site_edges node rule) (sites_of rule) (Use name args asked) (record { from = from; to = to }) u.among
      (subst (λ (l : List Edge). Contains l (record { from = from; to = to })) (sym here) (in_only (record { from = from; to = to }))))

-- ---- walks are the reaching of names

-- what is known of the nodes
pub record AreNodes (text : List Rule) (edges : List Edge) (node : List ℕ → Option ℕ) : Type 0 where
  pub one : (a b : List ℕ) (n : ℕ) → node a ≡ Some n → node b ≡ Some n → a ≡ b
  pub starts : (a b : List ℕ) → Uses text a b → (n : ℕ) × (node a ≡ Some n)
  pub edged : (a b : List ℕ) (x y : ℕ) → Uses text a b → node a ≡ Some x → node b ≡ Some y → IsEdge edges x y
  pub used : (x y : ℕ) → IsEdge edges x y → (a : List ℕ) × (b : List ℕ) × Uses text a b × (node a ≡ Some x) × (node b ≡ Some y)

module _ (text : List Rule) (edges : List Edge) (node : List ℕ → Option ℕ) (are : AreNodes text edges node) where
  walk-of : (steps x y : ℕ) (a b : List ℕ) → Walks edges steps x y → node a ≡ Some x → node b ≡ Some y → ReachesWithin text steps a b
  walk-of zero x y a b same e f = are.one a b x e (f ∙ ap Some (sym same))
  walk-of (suc steps) x y a b walk e f =
      let u = are.used x walk.0 walk.1 in
      (u.1, subst (λ (n : List ℕ). Uses text n u.1) (are.one u.0 a x u.3 e) u.2, walk-of steps walk.0 y u.1 b walk.2 u.4 f)

  start-of : (steps : ℕ) (a b : List ℕ) (y : ℕ) → ReachesWithin text steps a b → node b ≡ Some y → (x : ℕ) × (node a ≡ Some x)
  start-of zero a b y same f = (y, ap node same ∙ f)
  start-of (suc steps) a b y walk f = are.starts a walk.0 walk.1

  steps-walk : (steps : ℕ) (a b : List ℕ) (x y : ℕ) → ReachesWithin text steps a b → node a ≡ Some x → node b ≡ Some y → Walks edges steps x y
  steps-walk zero a b x y same e f = some_same (sym e ∙ (ap node same ∙ f))
  steps-walk (suc steps) a b x y walk e f =
      let c = start-of steps walk.0 b y walk.2 f in
      (c.0, are.edged a walk.0 x c.0 walk.1 e c.1, steps-walk steps walk.0 b c.0 y walk.2 c.1 f)

  pub name-reached : (x y : ℕ) (a b : List ℕ) → node a ≡ Some x → node b ≡ Some y → Reaches edges x y → ReachesName text a b
  name-reached x y a b e f r = record { steps = r.steps; walk = walk-of r.steps x y a b r.walk e f }

  pub node-reached : (x y : ℕ) (a b : List ℕ) → node a ≡ Some x → node b ≡ Some y → ReachesName text a b → Reaches edges x y
  node-reached x y a b e f l = record { steps = l.steps; walk = steps-walk l.steps a b x y l.walk e f }

  -- a name that reaches one with a node has one
  pub start-node : (a b : List ℕ) (y : ℕ) → node b ≡ Some y → ReachesName text a b → (x : ℕ) × (node a ≡ Some x)
  start-node a b y f l = start-of l.steps a b y l.walk f
