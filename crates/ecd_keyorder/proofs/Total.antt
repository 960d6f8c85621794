-- The orders are total.
use Rattle.std.proofs.Common.{◌≡◌, ℕ, List, length, refl, subst}
use Rattle.std.specs.Ordering.{nat_cmp, ordering_reverse, ordering_then}
use Rattle.std.specs.Cmp.{IsTotalOrder}
use Rattle.std.specs.Cmp.Lexicographic.{slice_cmp}
use Rattle.std.specs.declared.cmp.Ordering.{Ordering}
use Rattle.std.specs.declared.cmp.Ordering.TheVariants.{Less, Equal, Greater}
use Rattle.std.proofs.lemmas.Cmp.{nat_cmp_total, nat_list_cmp_total, on_total, then_total}
use Rattle.std.proofs.lemmas.Map.Lookups.{exact_bytes}
use Rattle.ecd_keyorder.specs.declared.Order.{Order}
use Rattle.ecd_keyorder.specs.declared.Order.TheVariants.{Bytewise, LengthFirst}
use Rattle.ecd_keyorder.specs.Order.{comparison}
use Rattle.ecd_keyorder.specs.Laws.{EqualIsSame, SwapsAround, IsTransitive}

-- both orders are total in the library's sense
is_total : (order : Order) → IsTotalOrder (comparison order)
is_total Bytewise = nat_list_cmp_total
is_total LengthFirst = then_total (on_total length nat_cmp_total) nat_list_cmp_total

own_reverse : (o : Ordering) → o ≡ ordering_reverse o → o ≡ Equal
own_reverse Less e = absurd cc
own_reverse Equal e = refl
own_reverse Greater e = absurd cc

second_equal : (o p : Ordering) → ordering_then o p ≡ Equal → p ≡ Equal
second_equal Less p e = absurd cc
second_equal Equal p e = e
second_equal Greater p e = absurd cc

equal_bytes : (order : Order) (a b : List ℕ) → comparison order a b ≡ Equal → slice_cmp nat_cmp a b ≡ Equal
equal_bytes Bytewise a b e = e
equal_bytes LengthFirst a b e = second_equal (nat_cmp (length a) (length b)) (slice_cmp nat_cmp a b) e

pub swaps_around : SwapsAround
swaps_around order a b = (is_total order).antisymm a b

pub is_transitive : IsTransitive
is_transitive order a b c p q = (is_total order).trans a b c p q

pub equal_is_same : EqualIsSame
equal_is_same order a b = (
  (λ e. exact_bytes a b (equal_bytes order a b e)),
  (λ e. subst (λ (x : List ℕ). comparison order a x ≡ Equal) e (own_reverse (comparison order a a) (swaps_around order a a))),
)
