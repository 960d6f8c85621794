-- The bytes of an array, put together.
use Rattle.std.proofs.Common.{◌≡◌, ℕ, ◌+◌, ◌-◌, ◌^◌, ◌<◌, ◌≤◌, List, ◌∷◌, ◌++◌, length, take, refl, arith}
use Rattle.std.specs.Prelude.{replicate}
use Rattle.std.specs.Int.{w32, to_be_bytes}
use Rattle.std.proofs.lemmas.List.{take_all}
use Rattle.ecd_head.proofs.Heads.{head_bytes-5}
use Rattle.ecd_bench.specs.Sample.{array_of_ones}

-- The first byte, the count in four bytes, and then the rest of the length filled up with ones.
pub filled : (count : ℕ) (front whole : List ℕ) (held long : ℕ) → 2 ^ 16 ≤ count → count < 2 ^ 32 → front ≡ 154 ∷ to_be_bytes w32 count → held ≡ length front → long ≡ 5 + count → whole ≡ take long front ++ replicate (long - held) 1 → whole ≡ array_of_ones count
filled count front whole held long least most is_front is_held is_long is_whole =
    let five : length front ≡ 5 = rw is_front refl in
    let kept : take long front ≡ front = take_all long front (omega (arith, five, is_long)) in
    let ones : long - held ≡ count = omega (arith, five, is_held, is_long) in
    rw (is_whole, kept, ones, is_front, head_bytes-5 4 count least most) refl
