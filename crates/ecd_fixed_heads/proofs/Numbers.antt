-- What the functions that load numbers answer.
use Rattle.std.proofs.Common.{◌≡◌, ℕ, ◌+◌, ◌*◌, ◌%◌, ◌<◌, ◌≤◌, List, [], ◌∷◌, refl, arith, take, drop, get_or}
use Rattle.std.specs.Prelude.{codes}
use Rattle.std.specs.Int.{w16, w32, w64, from_be_bytes}
use denote.Hole.Carrier.{hidden}
use Rattle.ecd_cast.specs.declared.tree.Expr.TheBlock as exprs
use Rattle.ecd_cast.specs.declared.value.Value.TheVariants.{Number as Num, Bytes as Ptr}
use Rattle.ecd_cast.specs.Memory.{Memory}
use Rattle.ecd_cast.specs.Expressions.{modulus}
use Rattle.ecd_cast.specs.Meaning.{Calls, called}
use Rattle.ecd_calculus.specs.Ends.{Answers}
use Rattle.ecd_calculus.proofs.Rules.{return_rule, call_rule, called_rule}
use Rattle.ecd_emit.specs.Windows.{Window, placed}
use Rattle.ecd_fixed_heads.specs.Meanings.{LoadsNumber}
use Rattle.ecd_fixed_heads.specs.Heads.{load_be16, load_be32, load_be64}
use Rattle.ecd_emit.proofs.Windows.{small, one_byte, part_byte}

-- ---- the bodies

pub be16_answers : (calls : Calls) (k block offset len at : ℕ) (m : Memory) (bytes : List ℕ) → Window m block offset len bytes → at + 2 ≤ len →
    Answers (called calls k load_be16 (placed block offset at) m) (λ n. n ≡ from_be_bytes w16 (take 2 (drop at bytes))) 1
unfolding load_be16 exprs.shape-the_row-Expr-0 exprs.hidden-the_row-Expr-0 hidden
be16_answers calls k block offset len at m bytes w le =
    let x = get_or bytes at 0 in
    let y = get_or bytes (at + 1) 0 in
    let next : (at + 1) % modulus ≡ at + 1 = small (at + 1) (omega (arith, w.short)) in
    let fx : get_or bytes at 0 < 256 = w.each at in
    let fy : get_or bytes (at + 1) 0 < 256 = w.each (at + 1) in
    let high : (x * 256) % modulus ≡ x * 256 = small (x * 256) (omega arith) in
    let sum : (x * 256 + y) % modulus ≡ x * 256 + y = small (x * 256 + y) (omega arith) in
    called_rule calls m k load_be16 (placed block offset at) (λ n. n ≡ from_be_bytes w16 (take 2 (drop at bytes))) 1 (
    return_rule {n = x * 256 + y} (record { is = rw (w.there, one_byte w at (omega arith), next, one_byte w (at + 1) (omega arith), high, sum) refl })
    (omega (arith, part_byte 2 at 0 at bytes (omega arith) (omega arith), part_byte 2 at 1 (at + 1) bytes (omega arith) refl, fx, fy)))

module _ (calls : Calls) (k block offset len at : ℕ) (m : Memory) (bytes : List ℕ) (w : Window m block offset len bytes) where
  pub be32_answers : LoadsNumber w16 1 (calls (codes "load_be16")) → at + 4 ≤ len → Answers (called calls k load_be32 (placed block offset at) m) (λ n. n ≡ from_be_bytes w32 (take 4 (drop at bytes))) 5
  unfolding load_be32 exprs.shape-the_row-Expr-0 exprs.hidden-the_row-Expr-0 hidden
  be32_answers part le =
      let half : (at + 2) % modulus ≡ at + 2 = small (at + 2) (omega (arith, w.short)) in
      called_rule calls m k load_be32 (placed block offset at) (λ n. n ≡ from_be_bytes w32 (take 4 (drop at bytes))) 5 (
      call_rule {c = 1} {k = 3} (Ptr block offset ∷ Num at ∷ []) (λ n. n ≡ from_be_bytes w16 (take 2 (drop at bytes))) (record { hands = λ p f. refl }) (part.answers block offset len at m bytes w (omega arith)) (λ x ex.
      call_rule {c = 1} {k = 1} (Ptr block offset ∷ Num (at + 2) ∷ []) (λ n. n ≡ from_be_bytes w16 (take 2 (drop (at + 2) bytes))) (record { hands = λ p f. rw half refl }) (part.answers block offset len (at + 2) m bytes w (omega arith)) (λ y ey.
      let f0 = w.each at in
      let f1 = w.each (at + 1) in
      let f2 = w.each (at + 2) in
      let f3 = w.each (at + 3) in
      let is-x : x ≡ get_or bytes at 0 * 256 + get_or bytes (at + 1) 0 = omega (arith, ex, part_byte 2 at 0 at bytes (omega arith) (omega arith), part_byte 2 at 1 (at + 1) bytes (omega arith) refl) in
      let is-y : y ≡ get_or bytes (at + 2) 0 * 256 + get_or bytes (at + 3) 0 = omega (arith, ey, part_byte 2 (at + 2) 0 (at + 2) bytes (omega arith) (omega arith), part_byte 2 (at + 2) 1 (at + 3) bytes (omega arith) (omega arith)) in
      let high : (x * 65536) % modulus ≡ x * 65536 = small (x * 65536) (omega (arith, is-x, f0, f1)) in
      let sum : (x * 65536 + y) % modulus ≡ x * 65536 + y = small (x * 65536 + y) (omega (arith, is-x, is-y, f0, f1, f2, f3)) in
      return_rule {n = x * 65536 + y} (record { is = rw (high, sum) refl })
      (omega (arith, is-x, is-y, part_byte 4 at 0 at bytes (omega arith) (omega arith), part_byte 4 at 1 (at + 1) bytes (omega arith) refl, part_byte 4 at 2 (at + 2) bytes (omega arith) refl, part_byte 4 at 3 (at + 3) bytes (omega arith) refl)))))

  pub be64_answers : LoadsNumber w32 5 (calls (codes "load_be32")) → at + 8 ≤ len → Answers (called calls k load_be64 (placed block offset at) m) (λ n. n ≡ from_be_bytes w64 (take 8 (drop at bytes))) 13
  unfolding load_be64 exprs.shape-the_row-Expr-0 exprs.hidden-the_row-Expr-0 hidden
  be64_answers part le =
      let half : (at + 4) % modulus ≡ at + 4 = small (at + 4) (omega (arith, w.short)) in
      called_rule calls m k load_be64 (placed block offset at) (λ n. n ≡ from_be_bytes w64 (take 8 (drop at bytes))) 13 (
      call_rule {c = 5} {k = 7} (Ptr block offset ∷ Num at ∷ []) (λ n. n ≡ from_be_bytes w32 (take 4 (drop at bytes))) (record { hands = λ p f. refl }) (part.answers block offset len at m bytes w (omega arith)) (λ x ex.
      call_rule {c = 5} {k = 1} (Ptr block offset ∷ Num (at + 4) ∷ []) (λ n. n ≡ from_be_bytes w32 (take 4 (drop (at + 4) bytes))) (record { hands = λ p f. rw half refl }) (part.answers block offset len (at + 4) m bytes w (omega arith)) (λ y ey.
      let is-x : x ≡ get_or bytes at 0 * 16777216 + get_or bytes (at + 1) 0 * 65536 + get_or bytes (at + 2) 0 * 256 + get_or bytes (at + 3) 0 =
      omega (arith, ex, part_byte 4 at 0 at bytes (omega arith) (omega arith), part_byte 4 at 1 (at + 1) bytes (omega arith) refl, part_byte 4 at 2 (at + 2) bytes (omega arith) refl, part_byte 4 at 3 (at + 3) bytes (omega arith) refl) in
      let is-y : y ≡ get_or bytes (at + 4) 0 * 16777216 + get_or bytes (at + 5) 0 * 65536 + get_or bytes (at + 6) 0 * 256 + get_or bytes (at + 7) 0 =
      omega (arith, ey, part_byte 4 (at + 4) 0 (at + 4) bytes (omega arith) (omega arith), part_byte 4 (at + 4) 1 (at + 5) bytes (omega arith) (omega arith), part_byte 4 (at + 4) 2 (at + 6) bytes (omega arith) (omega arith), part_byte 4 (at + 4) 3 (at + 7) bytes (omega arith) (omega arith)) in
      let low-x : x < 4294967296 = omega (arith, is-x, w.each at, w.each (at + 1), w.each (at + 2), w.each (at + 3)) in
      let low-y : y < 4294967296 = omega (arith, is-y, w.each (at + 4), w.each (at + 5), w.each (at + 6), w.each (at + 7)) in
      let high : (x * 4294967296) % modulus ≡ x * 4294967296 = small (x * 4294967296) (omega (arith, low-x)) in
      let sum : (x * 4294967296 + y) % modulus ≡ x * 4294967296 + y = small (x * 4294967296 + y) (omega (arith, low-x, low-y)) in
      return_rule {n = x * 4294967296 + y} (record { is = rw (high, sum) refl })
      (omega (
        arith,
        is-x,
        is-y,
        part_byte 8 at 0 at bytes (omega arith) (omega arith),
        part_byte 8 at 1 (at + 1) bytes (omega arith) refl,
        part_byte 8 at 2 (at + 2) bytes (omega arith) refl,
        part_byte 8 at 3 (at + 3) bytes (omega arith) refl,
        part_byte 8 at 4 (at + 4) bytes (omega arith) refl,
        part_byte 8 at 5 (at + 5) bytes (omega arith) refl,
        part_byte 8 at 6 (at + 6) bytes (omega arith) refl,
        part_byte 8 at 7 (at + 7) bytes (omega arith) refl,
      )))))
