-- The edges of a site.
use Rattle.std.proofs.Common.{ℕ, ◌≡◌, true, false, Bool, List, [], ◌++◌, ap, sym, ◌∙◌, append-nil}
use Rattle.std.specs.Prelude.{Option, if◌then◌else◌}
use Rattle.ecd_graph.specs.declared.edge.Edge.{Edge}
use Rattle.ecd_syntax.specs.declared.tree.Name.{Name}
use Rattle.ecd_syntax.specs.declared.tree.Rule.{Rule}
use Rattle.ecd_uses.specs.declared.site.Asked.{Asked}
use Rattle.ecd_uses.specs.declared.site.Site.{Site}
use Rattle.ecd_uses.specs.declared.site.Site.TheVariants.{Use}
use Rattle.ecd_bodies.specs.Named.{is_parameter}
use Rattle.ecd_graph.specs.Edges.{edge_between}
use Rattle.ecd_names.specs.Edges.{site_edges}

module _ (node : List ℕ → Option ℕ) (rule : Rule) (name : Name) (args : ℕ) (asked : Asked) where
  choose : {A : Type 0} (b c : Bool) (x y : A) → b ≡ c → (if b then x else y) ≡ (if c then x else y)
  choose b c x y e = ap (λ d. if d then x else y) e

  pub free-edges : is_parameter rule.params name.text ≡ false → site_edges node rule (Use name args asked) ≡ edge_between (node rule.name.text) (node name.text)
  free-edges e = choose (is_parameter rule.params name.text) false [] (edge_between (node rule.name.text) (node name.text)) e

  pub parameter-edges : is_parameter rule.params name.text ≡ true → site_edges node rule (Use name args asked) ≡ []
  parameter-edges e = choose (is_parameter rule.params name.text) true [] (edge_between (node rule.name.text) (node name.text)) e

  pub adds_edge : (old new : List Edge) (site : Site) (from to : Option ℕ) → site ≡ Use name args asked → is_parameter rule.params name.text ≡ false → from ≡ node rule.name.text → to ≡ node name.text → new ≡ old ++ edge_between from to → new ≡ old ++ site_edges node rule site
  adds_edge old new site from to e free f t more =
      let same : edge_between from to ≡ edge_between (node rule.name.text) (node name.text) = ap (λ x. edge_between x to) f ∙ ap (edge_between (node rule.name.text)) t in
      let site_is : site_edges node rule site ≡ edge_between (node rule.name.text) (node name.text) = ap (site_edges node rule) e ∙ free-edges free in
      more ∙ ap (λ (l : List Edge). old ++ l) (same ∙ sym site_is)

  pub adds_none : (old : List Edge) (site : Site) → site ≡ Use name args asked → is_parameter rule.params name.text ≡ true → old ≡ old ++ site_edges node rule site
  adds_none old site e is = sym (append-nil old) ∙ ap (λ (l : List Edge). old ++ l) (sym (ap (site_edges node rule) e ∙ parameter-edges is))
