-- The groups of a text are the same by every test, and so is what a schema means.
use Rattle.std.proofs.Common.{ℕ, ◌≡◌, ◌↔◌, ◌⊎◌, inl, inr, Bool, true, false, List, refl, sym, subst}
use Rattle.ecd_core.specs.declared.shape.Shape.{Shape}
use Rattle.ecd_syntax.specs.declared.tree.Name.{Name}
use Rattle.ecd_syntax.specs.declared.tree.Rule.{Rule}
use Rattle.ecd_uses.specs.declared.site.Lead.{Lead}
use Rattle.ecd_expansion.specs.Expansion.{FirstFault, ShapeOf, MeansFault, MeansShape, setting}
use Rattle.ecd_expansion.specs.Kinds.{GroupTest, IsGroupTest}
use Rattle.ecd_expansion.specs.Laws.{HasOneFirst, HasOneShape, NeverBoth, OneOfBoth}
use Rattle.ecd_expansion.specs.Told.{Fault}
use Rattle.ecd_expansion.proofs.OneOfBoth.{one_first as first_of_setting, one_shape as shape_of_setting, never_both as never_of_setting, one_of_both as one_of_setting}

same_truth : (a b : Bool) → (a ≡ true → b ≡ true) → (b ≡ true → a ≡ true) → a ≡ b
same_truth true true f g = refl
same_truth true false f g = sym (f refl)
same_truth false true f g = g refl
same_truth false false f g = refl

one_test : (text : List Rule) (a b : GroupTest) → IsGroupTest text a → IsGroupTest text b → a ≡ b
one_test text a b h g = λ i. λ (params : List Name) (lead : Lead). same_truth (a params lead) (b params lead) (λ t. (g params lead).1 ((h params lead).0 t)) (λ t. (h params lead).1 ((g params lead).0 t)) i

pub one_first : HasOneFirst
one_first text depth root end a b h g =
    first_of_setting (setting text h.is_group depth) root end a b h.means (subst (λ (t : GroupTest). FirstFault (setting text t depth) root end b) (one_test text g.is_group h.is_group g.test h.test) g.means)

pub one_shape : HasOneShape
one_shape text depth root end a b h g =
    shape_of_setting (setting text h.is_group depth) root end a b h.means (subst (λ (t : GroupTest). ShapeOf (setting text t depth) root end b) (one_test text g.is_group h.is_group g.test h.test) g.means)

pub never_both : NeverBoth
never_both text depth root end one shape h g =
    never_of_setting (setting text h.is_group depth) root end one shape h.means (subst (λ (t : GroupTest). ShapeOf (setting text t depth) root end shape) (one_test text g.is_group h.is_group g.test h.test) g.means)

pub one_of_both : OneOfBoth
one_of_both text depth root end is_group test = by_setting (one_of_setting (setting text is_group depth) root end)
  where
    by_setting : ((shape : Shape) × ShapeOf (setting text is_group depth) root end shape) ⊎ ((one : Fault) × FirstFault (setting text is_group depth) root end one)
        → ((shape : Shape) × MeansShape text depth root end shape) ⊎ ((one : Fault) × MeansFault text depth root end one)
    by_setting (inl h) = inl (h.0, record { is_group = is_group; test = test; means = h.1 })
    by_setting (inr h) = inr (h.0, record { is_group = is_group; test = test; means = h.1 })
