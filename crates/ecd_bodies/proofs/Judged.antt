-- The marks of a table's names.
use Rattle.std.proofs.Common.{◌≡◌, ◌↔◌, ℕ, suc, Bool, List, [], ◌++◌, length, Vec, Global, ap, sym, ◌∙◌, subst, refl}
use Rattle.std.specs.Prelude.{flat_map, slice_get}
use Rattle.std.specs.List.{position}
use Rattle.std.proofs.lemmas.Grind.{flat_map-append}
use Rattle.ecd_graph.specs.declared.edge.Edge.{Edge}
use Rattle.ecd_graph.specs.Graphs.{AreAmong, IsMarked, IsReached}
use Rattle.ecd_prelude.specs.Prelude.{prelude_rules}
use Rattle.ecd_syntax.specs.declared.tree.Rule.{Rule}
use Rattle.ecd_bodies.specs.Named.{all_rules, is_named}
use Rattle.ecd_bodies.specs.Numbers.{first_in, IsNumbered}
use Rattle.ecd_bodies.specs.Causes.{edges_of_rule, AreJudged}
use Rattle.ecd_bodies.proofs.Judging.{is_sound, is_complete, are_among}
use Rattle.ecd_bodies.proofs.Numbering.{first_number}

module _ (entries : List (Vec ℕ Global × List ℕ)) (count : ℕ) (prelude text : List Rule) where
  abbrev of_rule : Rule → List Edge
  of_rule = edges_of_rule (first_in entries) count

  pub gathered_edges : (mid new : List Edge) → mid ≡ [] ++ flat_map of_rule prelude → new ≡ mid ++ flat_map of_rule text → new ≡ flat_map of_rule (prelude ++ text)
  gathered_edges mid new first second = second ∙ (ap (λ (l : List Edge). l ++ flat_map of_rule text) first ∙ sym (flat_map-append of_rule prelude text))

  module _ (is_prelude : prelude ≡ prelude_rules) (counted : count ≡ length (all_rules text)) (numbered : IsNumbered entries (all_rules text)) where
    all : prelude ++ text ≡ all_rules text
    all = ap (λ (l : List Rule). l ++ text) is_prelude

    is_first : (name : List ℕ) → first_in entries name ≡ position (is_named name) (all_rules text)
    is_first name = ap (λ (l : List ℕ). slice_get l 0) (numbered name) ∙ first_number name (all_rules text)

    pub among_source : (edges : List Edge) (marks : List Bool) → edges ≡ flat_map of_rule (prelude ++ text) → length marks ≡ suc count → AreAmong (length marks) edges
    among_source edges marks is nodes =
        subst (λ (n : ℕ). AreAmong n edges) (sym nodes) (subst (AreAmong (suc count)) (sym (is ∙ ap (flat_map of_rule) all)) (are_among text (all_rules text) refl (first_in entries) is_first count counted))

    pub is_judged : (edges : List Edge) (marks reached : List Bool) → edges ≡ flat_map of_rule (prelude ++ text) → ((v : ℕ) → IsMarked marks v ↔ (v ≡ count)) → ((v : ℕ) → IsMarked reached v ↔ IsReached edges marks v) → AreJudged text (first_in entries) reached
    is_judged edges marks reached is marked reaches name node first =
        let same : edges ≡ flat_map of_rule (all_rules text) = is ∙ ap (flat_map of_rule) all in
        let r = reaches node in (
          (λ m. is_sound text (all_rules text) refl (first_in entries) is_first count counted marks (λ v. (marked v).0) node name first (subst (λ (es : List Edge). IsReached es marks node) same (r.0 m))),
          (λ g. r.1 (subst (λ (es : List Edge). IsReached es marks node) (sym same) (is_complete text (all_rules text) refl (first_in entries) is_first count counted marks ((marked count).1 refl) node name first g))),
        )
