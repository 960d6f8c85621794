-- Of finitely many faults there is none, or a first.
use Rattle.std.proofs.Common.{ℕ, zero, suc, ◌≡◌, ◌<◌, ◌⊎◌, inl, inr, List, refl, sym, ◌∙◌, subst, arith}
use Rattle.std.specs.Prelude.{Option, Some, None, length, slice_get}
use Rattle.std.proofs.lemmas.Bool.{cases_lt, cases_order}
use Rattle.std.proofs.lemmas.Option.{slice_get_within}
use Rattle.ecd_first.specs.Firsts.{Faults, EachOf, AnyBelow}
use Rattle.ecd_names.specs.Breaks.{ComesNoLater}
use Rattle.ecd_names.proofs.Walking.{some_same, element_at, at_element}
use Rattle.ecd_schema_laws.proofs.Deciding.{Decided}

-- the first of the faults
pub record Least (faults : Faults ℕ) : Type 0 where
  pub place : ℕ
  pub number : ℕ
  pub broken : faults place number
  pub first : (other_place other : ℕ) → faults other_place other → ComesNoLater place number other_place other

-- none of the faults, or the first
abbrev pub Found : Faults ℕ → Type 0
Found faults = ((place number : ℕ) → faults place number → ⊥) ⊎ Least faults

-- ---- the order

itself : (p r : ℕ) → ComesNoLater p r p r
itself p r = inr (refl, omega arith)

then : (p r q s t u : ℕ) → ComesNoLater p r q s → ComesNoLater q s t u → ComesNoLater p r t u
then p r q s t u (inl a) (inl b) = inl (omega arith)
then p r q s t u (inl a) (inr b) = inl (omega (arith, b.0))
then p r q s t u (inr a) (inl b) = inl (omega (arith, a.0))
then p r q s t u (inr a) (inr b) = inr (a.0 ∙ b.0, omega (arith, a.1, b.1))

one_first : (p r q s : ℕ) → ComesNoLater p r q s ⊎ ComesNoLater q s p r
one_first p r q s = elim (cases_order p q) [
  | inl same ↦ elim (cases_lt r s) [ inl lt ↦ inl (inr (same, omega arith)) | inr le ↦ inr (inr (sym same, le)) ]
  | inr other ↦ elim other [ inl lt ↦ inl (inl lt) | inr gt ↦ inr (inl gt) ]
]

-- ---- one fault, and those of two kinds

pub found_one : (faults : Faults ℕ) (at rule : ℕ) → ((place number : ℕ) → faults place number → (place ≡ at) × (number ≡ rule)) → Decided (faults at rule) → Found faults
found_one faults at rule only (inl h) = inr (record { place = at; number = rule; broken = h; first = λ p n f. let o = only p n f in inr (sym o.0, omega (arith, o.1)) })
found_one faults at rule only (inr none) = inl (λ p n f. let o = only p n f in none (subst (λ (x : ℕ). faults at x) o.1 (subst (λ (x : ℕ). faults x n) o.0 f)))

module _ (faults one other : Faults ℕ) (left : (place number : ℕ) → one place number → faults place number) (right : (place number : ℕ) → other place number → faults place number) (cases : (place number : ℕ) → faults place number → one place number ⊎ other place number) where
  least_left : Least one → ((place number : ℕ) → other place number → ⊥) → Least faults
  least_left l none = record { place = l.place; number = l.number; broken = left l.place l.number l.broken; first = λ p n f. by p n (cases p n f) }
    where
      by : (p n : ℕ) → one p n ⊎ other p n → ComesNoLater l.place l.number p n
      by p n (inl f) = l.first p n f
      by p n (inr f) = absurd (none p n f)

  least_right : Least other → ((place number : ℕ) → one place number → ⊥) → Least faults
  least_right l none = record { place = l.place; number = l.number; broken = right l.place l.number l.broken; first = λ p n f. by p n (cases p n f) }
    where
      by : (p n : ℕ) → one p n ⊎ other p n → ComesNoLater l.place l.number p n
      by p n (inl f) = absurd (none p n f)
      by p n (inr f) = l.first p n f

  least_both : (l : Least one) (r : Least other) → ComesNoLater l.place l.number r.place r.number ⊎ ComesNoLater r.place r.number l.place l.number → Least faults
  least_both l r (inl c) = record { place = l.place; number = l.number; broken = left l.place l.number l.broken; first = λ p n f. by p n (cases p n f) }
    where
      by : (p n : ℕ) → one p n ⊎ other p n → ComesNoLater l.place l.number p n
      by p n (inl f) = l.first p n f
      by p n (inr f) = then l.place l.number r.place r.number p n c (r.first p n f)
  least_both l r (inr c) = record { place = r.place; number = r.number; broken = right r.place r.number r.broken; first = λ p n f. by p n (cases p n f) }
    where
      by : (p n : ℕ) → one p n ⊎ other p n → ComesNoLater r.place r.number p n
      by p n (inl f) = then r.place r.number l.place l.number p n c (l.first p n f)
      by p n (inr f) = r.first p n f

  pub found_two : Found one → Found other → Found faults
  found_two (inl a) (inl b) = inl (λ p n f. by p n (cases p n f))
    where
      by : (p n : ℕ) → one p n ⊎ other p n → ⊥
      by p n (inl f) = a p n f
      by p n (inr f) = b p n f
  found_two (inl a) (inr r) = inr (least_right r a)
  found_two (inr l) (inl b) = inr (least_left l b)
  found_two (inr l) (inr r) = inr (least_both l r (one_first l.place l.number r.place r.number))

pub found_as : (faults same : Faults ℕ) → ((place number : ℕ) → faults place number → same place number) → ((place number : ℕ) → same place number → faults place number) → Found faults → Found same
found_as faults same to from (inl none) = inl (λ p n f. none p n (from p n f))
found_as faults same to from (inr l) = inr (record { place = l.place; number = l.number; broken = to l.place l.number l.broken; first = λ p n f. l.first p n (from p n f) })

-- ---- those of each number, and of each of a list

pub found_below : (faults : ℕ → Faults ℕ) (end : ℕ) → ((i : ℕ) → i < end → Found (faults i)) → Found (AnyBelow faults end)
found_below faults zero each = inl (λ p n f. omega (arith, f.below))
found_below faults (suc end) each =
    found_two (AnyBelow faults (suc end)) (AnyBelow faults end) (faults end) (λ p n f. record { index = f.index; below = omega (arith, f.below); broken = f.broken }) (λ p n f. record { index = end; below = omega arith; broken = f }) last
    (found_below faults end (λ i lt. each i (omega arith))) (each end (omega arith))
  where
    last : (p n : ℕ) → AnyBelow faults (suc end) p n → AnyBelow faults end p n ⊎ faults end p n
    last p n f = elim (cases_lt f.index end) [
      | inl lt ↦ inl (record { index = f.index; below = lt; broken = f.broken })
      | inr le ↦ let same : f.index ≡ end = omega (arith, f.below, le) in inr (subst (λ (i : ℕ). faults i p n) same f.broken)
    ]

-- the faults of what stands at the number
pub record AtIndex {A : Type 0} (faults : A → Faults ℕ) (xs : List A) (index : ℕ) (place number : ℕ) : Type 0 where
  pub one : A
  pub stands : slice_get xs index ≡ Some one
  pub broken : faults one place number

module _ {A : Type 0} (faults : A → Faults ℕ) (xs : List A) where
  pub found_at : (index : ℕ) → ((x : A) → slice_get xs index ≡ Some x → Found (faults x)) → Found (AtIndex faults xs index)
  found_at index each = by (slice_get xs index) refl
    where
      by : (o : Option A) → slice_get xs index ≡ o → Found (AtIndex faults xs index)
      by None e = inl (λ p n f. let bad : None ≡ Some f.one = sym e ∙ f.stands in cc)
      by (Some x) e = found_as (faults x) (AtIndex faults xs index) (λ p n f. record { one = x; stands = e; broken = f }) (λ p n f. subst (λ (y : A). faults y p n) (some_same (sym f.stands ∙ e)) f.broken) (each x e)

  pub found_each : ((x : A) → Found (faults x)) → Found (EachOf faults xs)
  found_each each =
      found_as (AnyBelow (AtIndex faults xs) (length xs)) (EachOf faults xs)
      (λ p n f. record { one = f.broken.one; among = element_at xs f.index f.broken.one f.broken.stands; broken = f.broken.broken })
      (λ p n f. let at = at_element xs f.one f.among in record { index = at.0; below = slice_get_within xs at.0 f.one at.1; broken = record { one = f.one; stands = at.1; broken = f.broken } })
      (found_below (AtIndex faults xs) (length xs) (λ i lt. found_at i (λ x e. each x)))
