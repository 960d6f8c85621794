-- What the graph of causes reaches from its source is what is a group.
use Rattle.std.proofs.Common.{◌≡◌, ◌↔◌, ◌⊎◌, inl, inr, ℕ, zero, suc, ◌+◌, ◌-◌, ◌<◌, ◌≤◌, Bool, true, false, cond, List, [], ◌∷◌, length, get_or, Option, Some, None, refl, sym, ap, ◌∙◌, subst, arith, Contains, is_some}
use Rattle.std.specs.Prelude.{slice_get, IsSome, flat_map}
use Rattle.std.specs.List.{position}
use Rattle.std.proofs.lemmas.Bool.{cases_lt}
use Rattle.std.proofs.lemmas.Option.{slice_get_within}
use Rattle.ecd_graph.specs.declared.edge.Edge.{Edge}
use Rattle.ecd_graph.specs.Graphs.{IsEdge, Walks, Reaches, IsMarked, IsReached, AreAmong}
use Rattle.ecd_graph.proofs.Reaching.{reaches_itself, reaches_by, reaches_on}
use Rattle.ecd_syntax.specs.declared.tree.Assign.{Assign}
use Rattle.ecd_syntax.specs.declared.tree.Assign.TheVariants.{Define, TypeMore, GroupMore}
use Rattle.ecd_syntax.specs.declared.tree.Name.{Name}
use Rattle.ecd_syntax.specs.declared.tree.Rule.{Rule}
use Rattle.ecd_uses.specs.declared.site.Lead.{Lead}
use Rattle.ecd_uses.specs.declared.site.Lead.TheVariants as leads
use Rattle.ecd_uses.specs.Leads.{lead_of}
use Rattle.ecd_bodies.specs.Named.{all_rules, is_named, is_parameter}
use Rattle.ecd_bodies.specs.Kinds.{LeadsToGroup, MakesGroup, GroupWithin, IsGroup}
use Rattle.ecd_bodies.specs.Causes.{is_group_more, node_or_source, lead_cause, rule_cause, edges_of_rule}
use Rattle.ecd_graph.specs.Edges.{edge_between}
use Rattle.ecd_prelude.specs.Sockets.{is_socket, is_group_socket}
use Rattle.ecd_bodies.proofs.Firsts.{FirstAt, first_at, among, one_name, has_first}
use Rattle.ecd_bodies.proofs.Numbering.{slice_get_left, slice_get_right}
use Rattle.ecd_bodies.proofs.Sockets.{no_group_socket}

-- ---- the edges of a list of rules

pub record EdgeOf (A : Type 0) (f : A → List Edge) (xs : List A) (x : Edge) : Type 0 where
  pub one : A
  pub there : Contains xs one
  pub place : ℕ
  pub stands : slice_get (f one) place ≡ Some x

module _ {A : Type 0} (f : A → List Edge) where
  pub edge_of : (xs : List A) (e : ℕ) (x : Edge) → slice_get (flat_map f xs) e ≡ Some x → EdgeOf A f xs x
  edge_of [] e x h = cc
  edge_of (a ∷ more) e x h = by (edge_of more (e - length (f a)) x) (cases_lt e (length (f a)))
    where
      by : (slice_get (flat_map f more) (e - length (f a)) ≡ Some x → EdgeOf A f more x) → (e < length (f a)) ⊎ (length (f a) ≤ e) → EdgeOf A f (a ∷ more) x
      by rest (inl lt) = record { one = a; there = (0, omega arith, refl); place = e; stands = sym (slice_get_left (f a) (flat_map f more) e lt) ∙ h }
      by rest (inr le) =
          let r = rest (sym (slice_get_right (f a) (flat_map f more) e le) ∙ h) in
          record { one = r.one; there = (suc r.there.0, omega (arith, r.there.1), r.there.2); place = r.place; stands = r.stands }

  pub edge_from : (xs : List A) (a : A) (k i : ℕ) (x : Edge) → k < length xs → get_or xs k a ≡ a → slice_get (f a) i ≡ Some x → (e : ℕ) × (slice_get (flat_map f xs) e ≡ Some x)
  edge_from [] a k i x lt is h = absurd (omega (arith, lt))
  edge_from (b ∷ bs) a zero i x lt is h =
      let at_it : slice_get (f b) i ≡ Some x = ap (λ (y : A). slice_get (f y) i) is ∙ h in
      (i, slice_get_left (f b) (flat_map f bs) i (slice_get_within (f b) i x at_it) ∙ at_it)
  edge_from (b ∷ bs) a (suc k) i x lt is h =
      let r = edge_from bs a k i x (omega (arith, lt)) is h in
      let behind : length (f b) ≤ length (f b) + r.0 = omega arith in
      let same : length (f b) + r.0 - length (f b) ≡ r.0 = omega arith in
      (length (f b) + r.0, slice_get_right (f b) (flat_map f bs) (length (f b) + r.0) behind ∙ (ap (slice_get (flat_map f bs)) same ∙ r.1))

-- ---- one edge

pub between : (from to : Option ℕ) (i : ℕ) (x : Edge) → slice_get (edge_between from to) i ≡ Some x → (from ≡ Some x.from) × (to ≡ Some x.to)
between (Some a) (Some b) zero x h = let same : record { from = a; to = b } ≡ x = cc in (ap (λ (y : Edge). Some y.from) same, ap (λ (y : Edge). Some y.to) same)
between (Some a) (Some b) (suc i) x h = cc
between (Some a) None i x h = cc
between None to i x h = cc

pub group_more : (assign : Assign) → is_group_more assign ≡ true → assign ≡ GroupMore
group_more Define h = cc
group_more TypeMore h = cc
group_more GroupMore h = refl

module _ (text rules : List Rule) (all : rules ≡ all_rules text) (first : List ℕ → Option ℕ) (is_first : (name : List ℕ) → first name ≡ position (is_named name) rules) (source : ℕ) (counted : source ≡ length rules) where
  abbrev pub edges : List Edge
  edges = flat_map (edges_of_rule first source) rules

  at_first : (name : List ℕ) (k : ℕ) → first name ≡ Some k → FirstAt rules name k
  at_first name k h = first_at rules name k (sym (is_first name) ∙ h)

  within : (name : List ℕ) (k : ℕ) → first name ≡ Some k → k < source
  within name k h = let f = at_first name k h in let lt = slice_get_within rules k f.rule f.stands in omega (arith, lt, counted)

  some_first : (rule : Rule) → Contains rules rule → (k : ℕ) × (first rule.name.text ≡ Some k)
  some_first rule c = by (first rule.name.text) refl
    where
      there : IsSome (first rule.name.text)
      there = subst IsSome (sym (is_first rule.name.text)) (has_first rules rule c)

      by : (o : Option ℕ) → first rule.name.text ≡ o → (k : ℕ) × (first rule.name.text ≡ Some k)
      by (Some k) e = (k, e)
      by None e = let none : false ≡ true = sym (ap is_some e) ∙ there in cc

  -- ---- what an edge says

  abbrev AllGroups : ℕ → Type 0
  AllGroups v = (name : List ℕ) → first name ≡ Some v → IsGroup text name

  socket_group : (name : List ℕ) → is_group_socket name ≡ true → IsGroup text name
  socket_group name h = record { steps = 1; shown = inl h }

  made : (rule : Rule) → Contains rules rule → is_socket rule.name.text ≡ false → (steps : ℕ) → MakesGroup (GroupWithin text steps) rule → IsGroup text rule.name.text
  made rule c not steps m = record { steps = suc steps; shown = inr (not, record { rule = rule; among = subst (λ (l : List Rule). Contains l rule) all c; named = refl; makes = m }) }

  lead_made : (params : List Name) (lead : Lead) (u : ℕ) → lead_cause first source params lead ≡ Some u → AllGroups u → (steps : ℕ) × LeadsToGroup (GroupWithin text steps) params lead
  lead_made params leads.Group u h g = (0, tt)
  lead_made params leads.Type u h g = cc
  lead_made params (leads.Named name) u h g = by (is_parameter params name.text) refl (first name.text) refl (is_group_socket name.text) refl h
    where
      by : (b : Bool) → is_parameter params name.text ≡ b → (o : Option ℕ) → first name.text ≡ o → (s : Bool) → is_group_socket name.text ≡ s
          → cond b None (node_or_source source name.text o) ≡ Some u → (steps : ℕ) × LeadsToGroup (GroupWithin text steps) params (leads.Named name)
      by true is o f s t e = cc
      by false is (Some m) f s t e = let same : m ≡ u = cc in let group = g name.text (f ∙ ap Some same) in (group.steps, (is, group.shown))
      by false is None f true t e = (1, (is, inl t))
      by false is None f false t e = let none : None ≡ Some u = ap (λ (b : Bool). cond b (Some source) None) (sym t) ∙ e in cc

  rule_made : (rule : Rule) → Contains rules rule → (u : ℕ) → rule_cause first source rule ≡ Some u → AllGroups u → IsGroup text rule.name.text
  rule_made rule c u h g = by (is_group_socket rule.name.text) refl (is_socket rule.name.text) refl (is_group_more rule.assign) refl h
    where
      by : (a : Bool) → is_group_socket rule.name.text ≡ a → (b : Bool) → is_socket rule.name.text ≡ b → (d : Bool) → is_group_more rule.assign ≡ d
          → cond a (Some source) (cond b None (cond d (Some source) (lead_cause first source rule.params (lead_of rule.body)))) ≡ Some u → IsGroup text rule.name.text
      by true is b f d m e = socket_group rule.name.text is
      by false is true f d m e = cc
      by false is false f true m e = made rule c f 0 (inl (group_more rule.assign m))
      by false is false f false m e = let r = lead_made rule.params (lead_of rule.body) u e g in made rule c f r.0 (inr r.1)

  edge_made : (u v : ℕ) → IsEdge edges u v → AllGroups u → AllGroups v
  edge_made u v e g name is =
      let x : Edge = record { from = u; to = v } in
      let r = edge_of (edges_of_rule first source) rules e.0 x e.1 in
      let ends = between (rule_cause first source r.one) (first r.one.name.text) r.place x r.stands in
      let same : r.one.name.text ≡ name = one_name rules r.one.name.text name v (at_first r.one.name.text v ends.1) (at_first name v is) in
      subst (IsGroup text) same (rule_made r.one r.there u ends.0 g)

  walk_made : (n u v : ℕ) → Walks edges n u v → AllGroups u → AllGroups v
  walk_made zero u v w g = subst AllGroups w g
  walk_made (suc n) u v w g = walk_made n w.0 v w.2 (edge_made u w.0 w.1 g)

  source_made : AllGroups source
  source_made name h = absurd (let lt = within name source h in omega (arith, lt))

  pub is_sound : (marked : List Bool) → ((v : ℕ) → IsMarked marked v → v ≡ source) → (v : ℕ) (name : List ℕ) → first name ≡ Some v → IsReached edges marked v → IsGroup text name
  is_sound marked only v name is r = walk_made r.reaches.steps r.from v r.reaches.walk (subst AllGroups (sym (only r.from r.is_marked)) source_made) name is

  -- ---- what is a group is reached

  record Caused (name : List ℕ) : Type 0 where
    node : ℕ
    is : node_or_source source name (first name) ≡ Some node
    reaches : Reaches edges source node

  caused_by : (rule : Rule) → Contains rules rule → (m : ℕ) → rule_cause first source rule ≡ Some m → Reaches edges source m → Caused rule.name.text
  caused_by rule c m cause r =
      let f = some_first rule c in
      let x : Edge = record { from = m; to = f.0 } in
      let stands : slice_get (edges_of_rule first source rule) 0 ≡ Some x =
      ap (λ (o : Option ℕ). slice_get (edge_between o (first rule.name.text)) 0) cause ∙ ap (λ (o : Option ℕ). slice_get (edge_between (Some m) o) 0) f.1 in
      let e = edge_from (edges_of_rule first source) rules rule c.0 0 x c.1 c.2 stands in
      record { node = f.0; is = ap (node_or_source source rule.name.text) f.1; reaches = reaches_on edges source m f.0 r (reaches_by edges e.0 x e.1) }

  lead_caused : (Groups : List ℕ → Type 0) → ((name : List ℕ) → Groups name → Caused name) → (params : List Name) (lead : Lead) → LeadsToGroup Groups params lead
      → (m : ℕ) × (lead_cause first source params lead ≡ Some m) × Reaches edges source m
  lead_caused Groups each params leads.Group h = (source, refl, reaches_itself edges source)
  lead_caused Groups each params leads.Type h = absurd h
  lead_caused Groups each params (leads.Named name) h =
      let c = each name.text h.1 in
      (c.node, ap (λ (b : Bool). cond b None (node_or_source source name.text (first name.text))) h.0 ∙ c.is, c.reaches)

  plain : (rule : Rule) → is_socket rule.name.text ≡ false → rule_cause first source rule ≡ cond (is_group_more rule.assign) (Some source) (lead_cause first source rule.params (lead_of rule.body))
  plain rule not =
      let rest : Option ℕ = cond (is_group_more rule.assign) (Some source) (lead_cause first source rule.params (lead_of rule.body)) in
      ap (λ (b : Bool). cond b (Some source) (cond (is_socket rule.name.text) None rest)) (no_group_socket rule.name.text not) ∙ ap (λ (b : Bool). cond b None rest) not

  made_caused : (Groups : List ℕ → Type 0) → ((name : List ℕ) → Groups name → Caused name) → (rule : Rule) → Contains rules rule → is_socket rule.name.text ≡ false → MakesGroup Groups rule → Caused rule.name.text
  made_caused Groups each rule c not (inl more) =
      let cause : rule_cause first source rule ≡ Some source =
      plain rule not ∙ ap (λ (a : Assign). cond (is_group_more a) (Some source) (lead_cause first source rule.params (lead_of rule.body))) more in
      caused_by rule c source cause (reaches_itself edges source)
  made_caused Groups each rule c not (inr lead) = by (is_group_more rule.assign) refl
    where
      by : (b : Bool) → is_group_more rule.assign ≡ b → Caused rule.name.text
      by true is =
          caused_by rule c source (plain rule not ∙ ap (λ (b : Bool). cond b (Some source) (lead_cause first source rule.params (lead_of rule.body))) is) (reaches_itself edges source)
      by false is =
          let r = lead_caused Groups each rule.params (lead_of rule.body) lead in
          caused_by rule c r.0 (plain rule not ∙ (ap (λ (b : Bool). cond b (Some source) (lead_cause first source rule.params (lead_of rule.body))) is ∙ r.1)) r.2

  socket_caused : (name : List ℕ) → is_group_socket name ≡ true → Caused name
  socket_caused name s = by (first name) refl
    where
      by : (o : Option ℕ) → first name ≡ o → Caused name
      by None e = record { node = source; is = ap (node_or_source source name) e ∙ ap (λ (b : Bool). cond b (Some source) None) s; reaches = reaches_itself edges source }
      by (Some k) e =
          let f = at_first name k e in
          let yes : is_group_socket f.rule.name.text ≡ true = ap is_group_socket f.named ∙ s in
          let rest : Option ℕ = cond (is_socket f.rule.name.text) None (cond (is_group_more f.rule.assign) (Some source) (lead_cause first source f.rule.params (lead_of f.rule.body))) in
          let cause : rule_cause first source f.rule ≡ Some source = ap (λ (b : Bool). cond b (Some source) rest) yes in
          subst Caused f.named (caused_by f.rule (among rules name k f) source cause (reaches_itself edges source))

  caused : (steps : ℕ) (name : List ℕ) → GroupWithin text steps name → Caused name
  caused zero name h = absurd h
  caused (suc steps) name (inl s) = socket_caused name s
  caused (suc steps) name (inr h) =
      let g = h.1 in
      let not : is_socket g.rule.name.text ≡ false = ap is_socket g.named ∙ h.0 in
      subst Caused g.named (made_caused (GroupWithin text steps) (caused steps) g.rule (subst (λ (l : List Rule). Contains l g.rule) (sym all) g.among) not g.makes)

  pub is_complete : (marked : List Bool) → IsMarked marked source → (k : ℕ) (name : List ℕ) → first name ≡ Some k → IsGroup text name → IsReached edges marked k
  is_complete marked m k name is g =
      let c = caused g.steps name g.shown in
      let both : Some k ≡ Some c.node = sym (ap (node_or_source source name) is) ∙ c.is in
      let same : c.node ≡ k = cc in
      record { from = source; is_marked = m; reaches = subst (Reaches edges source) same c.reaches }

  -- ---- names without a rule

  pub without_rule : (name : List ℕ) → first name ≡ None → (is_group_socket name ≡ true) ↔ IsGroup text name
  without_rule name none = (socket_group name, λ g. back g.steps g.shown)
    where
      back : (steps : ℕ) → GroupWithin text steps name → is_group_socket name ≡ true
      back zero h = absurd h
      back (suc steps) (inl s) = s
      back (suc steps) (inr h) =
          let g = h.1 in
          let f = some_first g.rule (subst (λ (l : List Rule). Contains l g.rule) (sym all) g.among) in
          let clash : None ≡ Some f.0 = sym none ∙ (ap first (sym g.named) ∙ f.1) in
          cc

  -- ---- the ends of edges

  lead_within : (params : List Name) (lead : Lead) (u : ℕ) → lead_cause first source params lead ≡ Some u → u < suc source
  lead_within params leads.Group u h = let same : source ≡ u = cc in omega arith
  lead_within params leads.Type u h = cc
  lead_within params (leads.Named name) u h = by (is_parameter params name.text) (first name.text) refl (is_group_socket name.text) refl h
    where
      by : (b : Bool) (o : Option ℕ) → first name.text ≡ o → (s : Bool) → is_group_socket name.text ≡ s → cond b None (node_or_source source name.text o) ≡ Some u → u < suc source
      by true o f s t e = cc
      by false (Some m) f s t e = let same : m ≡ u = cc in let lt = within name.text m f in omega arith
      by false None f true t e = let both : Some source ≡ Some u = ap (λ (b : Bool). cond b (Some source) None) (sym t) ∙ e in let same : source ≡ u = cc in omega arith
      by false None f false t e = let none : None ≡ Some u = ap (λ (b : Bool). cond b (Some source) None) (sym t) ∙ e in cc

  rule_within : (rule : Rule) (u : ℕ) → rule_cause first source rule ≡ Some u → u < suc source
  rule_within rule u h = by (is_group_socket rule.name.text) (is_socket rule.name.text) (is_group_more rule.assign) h
    where
      by : (a b d : Bool) → cond a (Some source) (cond b None (cond d (Some source) (lead_cause first source rule.params (lead_of rule.body)))) ≡ Some u → u < suc source
      by true b d e = let same : source ≡ u = cc in omega arith
      by false true d e = cc
      by false false true e = let same : source ≡ u = cc in omega arith
      by false false false e = lead_within rule.params (lead_of rule.body) u e

  pub are_among : AreAmong (suc source) edges
  are_among e x h =
      let r = edge_of (edges_of_rule first source) rules e x h in
      let ends = between (rule_cause first source r.one) (first r.one.name.text) r.place x r.stands in
      let lt = within r.one.name.text x.to ends.1 in
      (rule_within r.one x.from ends.0, omega (arith, lt))
