-- Numbers below 2^64, and the bytes of parts of blocks.
use Rattle.std.proofs.Common.{◌≡◌, ℕ, suc, ◌+◌, ◌%◌, ◌<◌, List, ◌∷◌, length, ap, ◌∙◌, arith, take, drop, get_or, get_or-take, get_or-drop, length-take, length-drop, drop-cons}
use Rattle.std.specs.Prelude.{Some, slice_get}
use Rattle.std.proofs.lemmas.Option.{slice_get-get_or}
use Rattle.std.proofs.Math.Nat.{mod-eq_of_lt}
use Rattle.ecd_cast.specs.Memory.{Memory}
use Rattle.ecd_cast.specs.Expressions.{modulus}
use Rattle.ecd_emit.specs.Windows.{Window}

pub small : (n : ℕ) → n < modulus → n % modulus ≡ n
small n lt = mod-eq_of_lt lt

-- ---- windows

module _ {m : Memory} {block offset len : ℕ} {bytes : List ℕ} (w : Window m block offset len bytes) where
  pub long : length bytes ≡ len
  long = rw w.is (omega (arith, length-take len (drop offset w.whole), length-drop offset w.whole, w.fits))

  pub one_byte : (at : ℕ) → at < len → slice_get w.whole (offset + at) ≡ Some (get_or bytes at 0)
  one_byte at lt =
      let same : get_or (take len (drop offset w.whole)) at 0 ≡ get_or w.whole (offset + at) 0 = get_or-take len (drop offset w.whole) at 0 lt ∙ get_or-drop offset w.whole at 0 in
      rw (w.is, same) (slice_get-get_or w.whole (offset + at) 0 (omega (arith, w.fits)))

  pub from_at : (at : ℕ) → at < len → drop at bytes ≡ get_or bytes at 0 ∷ drop (suc at) bytes
  from_at at lt = drop-cons bytes at 0 (omega (arith, long))

-- a byte of a part, by its place in the whole
pub part_byte : (n at k j : ℕ) (bytes : List ℕ) → k < n → at + k ≡ j → get_or (take n (drop at bytes)) k 0 ≡ get_or bytes j 0
part_byte n at k j bytes lt e = get_or-take n (drop at bytes) k 0 lt ∙ (get_or-drop at bytes k 0 ∙ ap (λ (x : ℕ). get_or bytes x 0) e)
