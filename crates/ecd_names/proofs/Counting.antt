-- The rules of the prelude stand before those of the text.
use Rattle.std.proofs.Common.{ℕ, ◌+◌, ◌-◌, ◌≡◌, ◌<◌, List, ◌++◌, length, get_or, refl, ap, ◌∙◌, subst, length-append, arith}
use Rattle.std.specs.Prelude.{Some, slice_get}
use Rattle.std.proofs.lemmas.Option.{slice_get_read}
use Rattle.ecd_names.proofs.Resolving.{slice_get-past}

module _ {A : Type 0} (before text rules : List A) (same : rules ≡ text) (count : ℕ) (all : count ≡ length (before ++ text)) where
  pub count-before : count - length rules ≡ length before
  count-before = let l : length rules ≡ length text = ap length same in omega (arith, all, length-append before text, l)

  module _ (index : ℕ) (x : A) (within : index < length rules) where
    pub count-within : count - length rules + index < count
    count-within = let l : length rules ≡ length text = ap length same in omega (arith, all, length-append before text, l)

    pub stands-text : x ≡ get_or rules index x → slice_get text index ≡ Some x
    stands-text e = subst (λ (l : List A). slice_get l index ≡ Some x) same (slice_get_read rules (length rules) index x refl within e)

    pub stands-all : x ≡ get_or rules index x → slice_get (before ++ text) (count - length rules + index) ≡ Some x
    stands-all e = ap (λ n. slice_get (before ++ text) (n + index)) count-before ∙ (slice_get-past before text index ∙ stands-text e)
