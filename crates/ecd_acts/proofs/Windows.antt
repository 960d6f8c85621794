-- Parts of windows, and windows behind writes.
use Rattle.std.proofs.Common.{◌≡◌, ℕ, zero, suc, ◌+◌, ◌-◌, ◌<◌, ◌≤◌, List, [], ◌∷◌, ap, sym, ◌∙◌, subst, arith, take, drop, get_or-drop, drop-drop, take-take}
use Rattle.std.proofs.lemmas.List.{drop-take}
use Rattle.ecd_cast.specs.Memory.{Memory, Event, after}
use Rattle.ecd_calculus.specs.Laws.{Spares}
use Rattle.ecd_calculus.proofs.Frame.{after_other}
use Rattle.ecd_emit.specs.Windows.{Window, IsBytes}
use Rattle.ecd_acts.specs.Ends.{WindowParts}

pub bytes_behind : (at : ℕ) (bytes : List ℕ) → IsBytes bytes → IsBytes (drop at bytes)
bytes_behind at bytes h i = subst (λ (n : ℕ). n < 256) (sym (get_or-drop at bytes i 0)) (h (at + i))

pub bytes_front : (count : ℕ) (bytes : List ℕ) → IsBytes bytes → IsBytes (take count bytes)
bytes_front zero bytes h i = omega arith
bytes_front (suc count) [] h i = omega arith
bytes_front (suc count) (b ∷ bytes) h zero = h 0
bytes_front (suc count) (b ∷ bytes) h (suc i) = bytes_front count bytes (λ j. h (suc j)) i

pub window_behind : {m : Memory} {block offset len : ℕ} {bytes : List ℕ} (at : ℕ) → Window m block offset len bytes → at ≤ len → Window m block (offset + at) (len - at) (drop at bytes)
window_behind {m} {block} {offset} {len} {bytes} at w le =
    let split : len ≡ at + (len - at) = omega (arith, le) in
    record {
      whole = w.whole;
      there = w.there;
      fits = omega (arith, le, w.fits);
      is = ap (λ (l : List ℕ). drop at l) (w.is ∙ ap (λ (n : ℕ). take n (drop offset w.whole)) split) ∙ (drop-take at (len - at) (drop offset w.whole) ∙ ap (λ (l : List ℕ). take (len - at) l) (drop-drop at offset w.whole));
      short = omega (arith, w.short);
      each = bytes_behind at bytes w.each;
    }

pub window_front : {m : Memory} {block offset len : ℕ} {bytes : List ℕ} (count : ℕ) → Window m block offset len bytes → count ≤ len → Window m block offset count (take count bytes)
window_front {m} {block} {offset} {len} {bytes} count w le = record {
  whole = w.whole;
  there = w.there;
  fits = omega (arith, le, w.fits);
  is = ap (λ (l : List ℕ). take count l) w.is ∙ take-take count len (drop offset w.whole) le;
  short = omega (arith, le, w.short);
  each = bytes_front count bytes w.each;
}

pub window_kept : {m : Memory} {block offset len : ℕ} {bytes : List ℕ} (es : List Event) → Window m block offset len bytes → Spares block es → Window (after es m) block offset len bytes
window_kept {m} {block} es w h = record { whole = w.whole; there = after_other es block m h ∙ w.there; fits = w.fits; is = w.is; short = w.short; each = w.each }

pub window_parts : WindowParts
window_parts = record {
  behind = λ m block offset len at bytes. window_behind at;
  front = λ m block offset len count bytes. window_front count;
  kept = λ m block offset len bytes es. window_kept es;
}
