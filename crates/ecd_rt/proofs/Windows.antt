-- Parts of windows, and pointers to them.
use Rattle.std.proofs.Common.{◌≡◌, ℕ, ◌+◌, ◌-◌, ◌≤◌, List, length, take, drop, ap, sym, ◌∙◌, arith, true}
use Rattle.std.specs.Prelude.{nat_le}
use Rattle.std.proofs.lemmas.Bool.{le-leb}
use Rattle.std.proofs.lemmas.List.{drop-take, drop-drop, take-take}
use Rattle.ecd_cast.specs.Memory.{Memory}
use Rattle.ecd_head.proofs.Heads.{IsBytes-drop, IsBytes-take}
use Rattle.ecd_emit.specs.Windows.{Window}

module _ {m : Memory} {block offset len : ℕ} {bytes : List ℕ} (w : Window m block offset len bytes) where
  pub part : (from n : ℕ) → from + n ≤ len → Window m block (offset + from) n (take n (drop from bytes))
  part from n le =
      let left : from + (len - from) ≡ len = omega arith in
      let rest : drop from bytes ≡ take (len - from) (drop from (drop offset w.whole)) =
      ap (drop from) (w.is ∙ ap (λ (k : ℕ). take k (drop offset w.whole)) (sym left)) ∙ drop-take from (len - from) (drop offset w.whole) in
      let same : take n (drop from bytes) ≡ take n (drop (offset + from) w.whole) =
      ap (take n) rest ∙ (take-take n (len - from) (drop from (drop offset w.whole)) (omega arith) ∙ ap (take n) (drop-drop from offset w.whole)) in
      record {
        whole = w.whole;
        there = w.there;
        fits = omega (arith, w.fits);
        is = same;
        short = omega (arith, w.short);
        each = IsBytes-take n (drop from bytes) (IsBytes-drop from bytes w.each);
      }

  -- a pointer into the window may be made
  pub inside : (from : ℕ) → from ≤ len → nat_le (offset + from) (length w.whole) ≡ true
  inside from le = le-leb (offset + from) (length w.whole) (omega (arith, w.fits))
