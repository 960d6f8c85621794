-- What the first byte of a head says of it.
use Rattle.std.proofs.Common.{◌≡◌, ℕ, ◌+◌, ◌<◌, ◌≤◌, ◌%◌, ◌/◌, List, [], ◌∷◌, length, ap, sym, ◌∙◌, arith, inl, inr}
use Rattle.std.specs.Prelude.{◌≢◌, Ok}
use Rattle.std.proofs.lemmas.Bool.{cases_lt}
use Rattle.std.proofs.lemmas.Bool.Decides.{nat_tests}
use Rattle.ecd_head.specs.declared.Head.{Head}
use Rattle.ecd_head.specs.Fault.{head_at, argument_of}
use Rattle.ecd_fixed_heads.specs.Firsts.{size_from, least_from}
use Rattle.ecd_fixed_heads.specs.Meanings.{end_of}
use Rattle.ecd_fixed_heads.specs.Standing.{FirstBytesTell}
use Rattle.ecd_fixed_heads.proofs.Arguments.{no_size, too_small, head_is, head_only, size_small}

no_head : (first : ℕ) → first < 256 → size_from first ≡ 0 → (size : ℕ) (rest : List ℕ) (head : Head) → head_at (first ∷ rest) ≢ Ok (head, size)
no_head first lt none size rest head e = absurd (let z : 1 + size ≡ 0 = ap (end_of 1) (sym e) ∙ no_size first rest 1 lt none in omega arith)

-- what behind any first byte makes the argument the greatest
abbrev full : List ℕ
full = 255 ∷ 255 ∷ 255 ∷ 255 ∷ 255 ∷ 255 ∷ 255 ∷ 255 ∷ []

enough : (first : ℕ) → first < 256 → size_from first ≢ 0 → least_from first ≤ argument_of (first % 32) full
unfolding size_from least_from
enough first lt some = grind (arith, nat_tests, some)

some_head : (first : ℕ) → first < 256 → size_from first ≢ 0 → (head : Head) × (rest : List ℕ) × (head_at (first ∷ rest) ≡ Ok (head, size_from first))
some_head first lt some =
    let room : size_from first ≤ length full + 1 = let small = size_small first in omega arith in
    (record { major = first / 32; arg = argument_of (first % 32) full }, full, head_is first full lt some room (enough first lt some))

each_head : (first size : ℕ) (rest : List ℕ) (head : Head) → first < 256 → head_at (first ∷ rest) ≡ Ok (head, size) → (size ≡ size_from first) × (least_from first ≤ head.arg)
each_head first size rest head lt e =
    let o = head_only first rest head size lt e in
    let same : head.arg ≡ argument_of (first % 32) rest = ap (λ (h : Head). h.arg) o.2 in
    let above : least_from first ≤ head.arg =
    elim (cases_lt head.arg (least_from first)) [
      | inl l ↦ absurd (let z : 1 + size ≡ 0 = ap (end_of 1) (sym e) ∙ too_small first rest 1 lt (omega (arith, same, l)) o.0 in omega arith)
      | inr g ↦ g
    ] in
    (o.3, above)

pub first_bytes_tell : FirstBytesTell
first_bytes_tell = record { none = no_head; some = some_head; each = each_head }
