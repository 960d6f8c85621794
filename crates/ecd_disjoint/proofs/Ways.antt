-- Choices, and shapes that are no choices.
use Rattle.std.proofs.Common.{◌≡◌, ◌↔◌, ◌⊎◌, inl, inr, Bool, true, List, refl, ap, ◌∙◌, sym}
use mathlib.Core.Former.{Count}
use Rattle.ecd_core.specs.declared.shape.Kind.{Kind, Choice', Tag', Cbor', AnyTag', Array', Map', Row_of-Shape, end_of-Shape, more_of-Shape, items-the_row-Shape}
use Rattle.ecd_core.specs.declared.shape.Kind.TheVariants as k
use Rattle.ecd_core.specs.declared.shape.Kind.TheBlock as block
use Rattle.ecd_core.specs.declared.shape.Shape.{Shape}
use Rattle.ecd_apart.specs.Keys.{HasCut}
use Rattle.ecd_apart.specs.Boxes.{BoxesApart}
use Rattle.ecd_apart.specs.Apart.{AtLeaves, IsOtherBytes, IsOtherText, OfTagged, OfCbor, OfEnds, MapNeeds, Apart, OnlyApart, EachApart, FirstApart, LastApart, NeededMisses, AreMissed}
use Rattle.ecd_apart.proofs.BothWays.{turn}
use Rattle.ecd_disjoint.specs.Leaves.{LiteralsDiffer}
use Rattle.ecd_disjoint.specs.Inside.{InsideApart, EachIsApart}
use Rattle.ecd_disjoint.proofs.Loops.{along, carried, holds}
use Rattle.ecd_disjoint.proofs.Rows.{Choice-row}

each_row : {n : Count} (row : Row_of-Shape n) (t : Kind) → EachApart row t ≡ EachIsApart (items-the_row-Shape n row) t
unfolding Apart
each_row end_of-Shape t = refl
each_row (more_of-Shape at kind rest) t = ap (λ (X : Type 0). Apart kind t × X) (each_row rest t)

apart-Choice : (ss : List Shape) (t : Kind) → Apart (k.Choice ss) t ≡ EachIsApart ss t
unfolding Apart
apart-Choice ss t = each_row (block.hidden-the_row-Shape-1 ss) t ∙ ap (λ (l : List Shape). EachIsApart l t) (block.items_hidden-the_row-Shape-1 ss)

pub first_choice : {r : Bool} (s t : Kind) (ss given : List Shape) → s ≡ k.Choice ss → given ≡ ss → (r ≡ true) ↔ EachIsApart given t → (r ≡ true) ↔ Apart s t
first_choice s t ss given e f h = along ((λ j. EachIsApart (f j) t) ∙ (sym (apart-Choice ss t) ∙ (λ j. Apart (sym e j) t))) h

pub second_choice : {r : Bool} (s t : Kind) (ts given : List Shape) → t ≡ k.Choice ts → given ≡ ts → (r ≡ true) ↔ EachIsApart given s → (r ≡ true) ↔ Apart s t
second_choice s t ts given e f h = carried (λ a. turn t s a) (λ a. turn s t a) (first_choice t s ts given e f h)

-- ---- no choices

abbrev pub IsNoChoice : Kind → Type 0
IsNoChoice kind = (ss : List Shape) → kind ≡ k.Choice ss → ⊥

leaf_is : (P : Kind → Type 0) (t : Kind) → IsNoChoice t → AtLeaves P t ↔ P t
unfolding AtLeaves
leaf_is P (Choice' s ways) n = absurd (n _ (Choice-row s ways))
leaf_is P t n = ((λ a. a), (λ a. a))

module _ (A B D : Type 0) where
  as_literal : A ↔ (B ⊎ D) → A ↔ (B ⊎ (D ⊎ ⊥))
  as_literal h = ((λ a. elim (h.0 a) [ inl b ↦ inl b | inr d ↦ inr (inl d) ]), (λ s. elim s [ inl b ↦ h.1 (inl b) | inr (inl d) ↦ h.1 (inr d) | inr (inr e) ↦ absurd e ]))

  as_inside : A ↔ (B ⊎ D) → A ↔ (B ⊎ (⊥ ⊎ D))
  as_inside h = ((λ a. elim (h.0 a) [ inl b ↦ inl b | inr d ↦ inr (inr d) ]), (λ s. elim s [ inl b ↦ h.1 (inl b) | inr (inl e) ↦ absurd e | inr (inr d) ↦ h.1 (inr d) ]))

as_boxes : (A B : Type 0) → A ↔ B → A ↔ (B ⊎ (⊥ ⊎ ⊥))
as_boxes A B h = ((λ a. inl (h.0 a)), (λ s. elim s [ inl b ↦ h.1 b | inr (inl e) ↦ absurd e | inr (inr e) ↦ absurd e ]))

leaf_apart : (s t : Kind) → IsNoChoice s → IsNoChoice t → Apart s t ↔ (BoxesApart s t ⊎ (LiteralsDiffer s t ⊎ InsideApart s t))
unfolding Apart
leaf_apart (Choice' x ways) t n l = absurd (n _ (Choice-row x ways))
leaf_apart (k.BytesIs bytes) t n l = as_literal _ _ _ (leaf_is (λ leaf. BoxesApart (k.BytesIs bytes) leaf ⊎ IsOtherBytes bytes leaf) t l)
leaf_apart (k.TextIs bytes) t n l = as_literal _ _ _ (leaf_is (λ leaf. BoxesApart (k.TextIs bytes) leaf ⊎ IsOtherText bytes leaf) t l)
leaf_apart (Tag' m x inner) t n l = as_inside _ _ _ (leaf_is (λ leaf. BoxesApart (Tag' m x inner) leaf ⊎ OfTagged (OnlyApart inner) leaf) t l)
leaf_apart (AnyTag' x inner) t n l = as_inside _ _ _ (leaf_is (λ leaf. BoxesApart (AnyTag' x inner) leaf ⊎ OfTagged (OnlyApart inner) leaf) t l)
leaf_apart (Cbor' x inner) t n l = as_inside _ _ _ (leaf_is (λ leaf. BoxesApart (Cbor' x inner) leaf ⊎ OfCbor (OnlyApart inner) leaf) t l)
leaf_apart (Array' x parts) t n l = as_inside _ _ _ (leaf_is (λ leaf. BoxesApart (Array' x parts) leaf ⊎ OfEnds (FirstApart parts) (LastApart parts) leaf) t l)
leaf_apart (Map' x entries) t n l =
    as_inside _ _ _ (leaf_is (λ leaf. BoxesApart (Map' x entries) leaf ⊎ (NeededMisses entries leaf ⊎ MapNeeds (λ key kind. AreMissed entries key kind (HasCut entries key)) leaf)) t l)
leaf_apart kind t n l = as_boxes _ _ (leaf_is (BoxesApart kind) t l)

module _ (s t : Kind) (n : IsNoChoice s) (l : IsNoChoice t) where
  pub by_heads : BoxesApart s t → (true ≡ true) ↔ Apart s t
  by_heads b = let same = leaf_apart s t n l in holds (same.1 (inl b))

  pub by_literals : LiteralsDiffer s t → (true ≡ true) ↔ Apart s t
  by_literals d = let same = leaf_apart s t n l in holds (same.1 (inr (inl d)))

  pub by_inside : {r : Bool} → (BoxesApart s t → ⊥) → (LiteralsDiffer s t → ⊥) → (r ≡ true) ↔ InsideApart s t → (r ≡ true) ↔ Apart s t
  by_inside b d h = let same = leaf_apart s t n l in
      carried (λ i. same.1 (inr (inr i))) (λ a. elim (same.0 a) [ inl x ↦ absurd (b x) | inr (inl x) ↦ absurd (d x) | inr (inr i) ↦ i ]) h
