-- Bytes that stand at places of a window, and framed places.
use Rattle.std.proofs.Common.{◌≡◌, ℕ, ◌+◌, ◌-◌, ◌≤◌, inl, inr, List, ◌++◌, length, refl, ap, sym, ◌∙◌, subst, arith, take, drop, drop-drop, append_assoc, length-drop, length-take, length-append}
use Rattle.std.specs.Prelude.{◌⊎◌}
use Rattle.std.proofs.Math.Seq.{take-append-add, take-append_seam, drop-append_seam}
use Rattle.std.proofs.lemmas.Bool.{cases_eq}
use Rattle.std.proofs.lemmas.List.{drop-take, drop-append-le, take-append-drop}
use Rattle.ecd_cast.specs.Memory.{Memory}
use Rattle.ecd_head.specs.Place.{StandsAt}
use Rattle.ecd_emit.specs.Windows.{Window, IsEnd}
use Rattle.ecd_emit.proofs.Windows.{long}
use Rattle.ecd_acts.specs.Standing.{EndOnce, Framed, StandingParts, FramedPlaces}
use Rattle.ecd_acts.proofs.Windows.{window_behind, window_front}

-- ---- what stands

-- how many bytes are there from the place on
room : (at e : ℕ) (bytes text : List ℕ) → StandsAt bytes at text e → length text ≤ length bytes - at
room at e bytes text s = omega (arith, sym (length-drop at bytes) ∙ (ap length s.there.1 ∙ length-append text s.there.0))

pub stands_inside : {m : Memory} {block offset len at e : ℕ} {bytes text : List ℕ} → Window m block offset len bytes → at ≤ len → StandsAt bytes at text e → e ≤ len
stands_inside {at = at} {e} {bytes} {text} w le s = omega (arith, room at e bytes text s, s.behind, long w, le)

pub stands_window : {m : Memory} {block offset len at e : ℕ} {bytes text : List ℕ} → Window m block offset len bytes → at ≤ len → StandsAt bytes at text e → Window m block (offset + at) (length text) text
stands_window {m} {block} {offset} {len} {at} {e} {bytes} {text} w le s =
    let is : take (length text) (drop at bytes) ≡ text = ap (λ (l : List ℕ). take (length text) l) s.there.1 ∙ take-append_seam text s.there.0 in
    subst (λ (l : List ℕ). Window m block (offset + at) (length text) l) is (window_front (length text) (window_behind at w le) (omega (arith, room at e bytes text s, long w)))

pub stands_cut : {at e : ℕ} (n : ℕ) {bytes text : List ℕ} → StandsAt bytes at text e → e ≤ n → StandsAt (take n bytes) at text e
stands_cut {at} {e} n {bytes} {text} s le =
    let rest : List ℕ = s.there.0 in
    let more : ℕ = n - e in
    let split : n ≡ at + (length text + (n - e)) = omega (arith, s.behind, le) in
    record {
      there = (take more rest, ap (λ (k : ℕ). drop at (take k bytes)) split ∙ (drop-take at (length text + more) bytes ∙ (ap (λ (l : List ℕ). take (length text + more) l) s.there.1 ∙ take-append-add text rest more)));
      behind = s.behind;
    }

pub stands_whole : {at e : ℕ} (n : ℕ) {bytes text : List ℕ} → at ≤ n → n ≤ length bytes → StandsAt (take n bytes) at text e → StandsAt bytes at text e
stands_whole {at} {e} n {bytes} {text} le inside s =
    let front : List ℕ = take n bytes in
    let all : take n bytes ++ drop n bytes ≡ bytes = take-append-drop n bytes in
    let long_enough : at ≤ length (take n bytes) = omega (arith, length-take n bytes, le, inside) in
    record {
      there = (s.there.0 ++ drop n bytes, ap (λ (l : List ℕ). drop at l) (sym all) ∙ (drop-append-le at front (drop n bytes) long_enough ∙ (ap (λ (l : List ℕ). l ++ drop n bytes) s.there.1 ∙ append_assoc text s.there.0 (drop n bytes))));
      behind = s.behind;
    }

-- the bytes behind what stands
pub drop_behind : {at e : ℕ} {bytes text : List ℕ} (s : StandsAt bytes at text e) → drop e bytes ≡ s.there.0
drop_behind {at} {e} {bytes} {text} s =
    ap (λ (k : ℕ). drop k bytes) s.behind ∙ (sym (drop-drop (length text) at bytes) ∙ (ap (λ (l : List ℕ). drop (length text) l) s.there.1 ∙ drop-append_seam text s.there.0))

pub stands_joined : {at mid e : ℕ} {bytes text other : List ℕ} → StandsAt bytes at text mid → StandsAt bytes mid other e → StandsAt bytes at (text ++ other) e
stands_joined {at} {mid} {e} {bytes} {text} {other} s t = record {
  there = (t.there.0, s.there.1 ∙ (ap (λ (l : List ℕ). text ++ l) (sym (drop_behind s) ∙ t.there.1) ∙ sym (append_assoc text other t.there.0)));
  behind = omega (arith, s.behind, t.behind, length-append text other);
}

pub stands_first : {at e : ℕ} {bytes : List ℕ} (text other : List ℕ) → StandsAt bytes at (text ++ other) e → StandsAt bytes at text (at + length text)
stands_first text other s = record { there = (other ++ s.there.0, s.there.1 ∙ append_assoc text other s.there.0); behind = refl }

pub stands_second : {at e : ℕ} {bytes : List ℕ} (text other : List ℕ) → StandsAt bytes at (text ++ other) e → StandsAt bytes (at + length text) other e
unfolding stands_first
stands_second text other s = let first = stands_first text other s in record { there = (s.there.0, drop_behind first); behind = omega (arith, s.behind, length-append text other) }

pub stands_within : {at e i j : ℕ} {bytes text part : List ℕ} → StandsAt bytes at text e → i ≤ length text → StandsAt text i part j → StandsAt bytes (at + i) part (at + j)
stands_within {at} {e} {i} {j} {bytes} {text} {part} s le t = record {
  there = (
    t.there.0 ++ s.there.0,
    sym (drop-drop i at bytes) ∙ (ap (λ (l : List ℕ). drop i l) s.there.1 ∙ (drop-append-le i text s.there.0 le ∙ (ap (λ (l : List ℕ). l ++ s.there.0) t.there.1 ∙ append_assoc part t.there.0 s.there.0))),
  );
  behind = omega (arith, t.behind);
}

pub standing_parts : StandingParts
standing_parts = record {
  inside = λ m block offset len at e bytes text. stands_inside;
  window = λ m block offset len at e bytes text. stands_window;
  cut = λ at e n bytes text. stands_cut n;
  whole = λ at e n bytes text. stands_whole n;
  joined = λ at mid e bytes text other. stands_joined;
  first = λ at e bytes text other. stands_first text other;
  second = λ at e bytes text other. stands_second text other;
  within = λ at e i j bytes text part. stands_within;
}

-- ---- framed places

pub framed_end : {T : List ℕ → Type 0} {bytes : List ℕ} {at e : ℕ} → EndOnce T → Framed T bytes at e → IsEnd (Framed T bytes at) e
framed_end {T} {bytes} {at} {e} once f = record {
  found = λ ne. f;
  only = λ d g.
      let same : f.stands.there.0 ≡ g.stands.there.0 = once.once f.text g.text f.stands.there.0 g.stands.there.0 f.is g.is (sym f.stands.there.1 ∙ g.stands.there.1) in
      let sums = ap length (sym f.stands.there.1 ∙ g.stands.there.1) in
      let here = length-append f.text f.stands.there.0 in
      let there = length-append g.text g.stands.there.0 in
      (omega (arith, ap length same, sums, here, there, f.stands.behind, g.stands.behind), omega (arith, once.some f.text f.is, f.stands.behind, g.stands.behind, ap length same, sums, here, there));
}

pub framed_cut : {T : List ℕ → Type 0} {bytes : List ℕ} {at e : ℕ} (n : ℕ) → Framed T bytes at e → e ≤ n → Framed T (take n bytes) at e
framed_cut n f le = record { text = f.text; is = f.is; stands = stands_cut n f.stands le }

pub framed_whole : {T : List ℕ → Type 0} {bytes : List ℕ} {at e : ℕ} (n : ℕ) → at ≤ n → n ≤ length bytes → Framed T (take n bytes) at e → Framed T bytes at e
framed_whole n le inside f = record { text = f.text; is = f.is; stands = stands_whole n le inside f.stands }

pub framed_window : {T : List ℕ → Type 0} {m : Memory} {block offset len at e : ℕ} {bytes : List ℕ} → Window m block offset len bytes → at ≤ len → Framed T bytes at e → Window m block offset e (take e bytes)
framed_window {e = e} w le f = window_front e w (stands_inside w le f.stands)

pub framed_found : {T : List ℕ → Type 0} {S : ℕ → Type 0} {bytes : List ℕ} {at e n : ℕ} → EndOnce T → Framed T bytes at e → ((d : ℕ) → S d → Framed T bytes at d) → IsEnd S n → (n ≡ 0) ⊎ (n ≡ e)
framed_found {T} {S} {bytes} {at} {e} {n} once f frames h = elim (cases_eq n 0) [
  | inl z ↦ inl z
  | inr ne ↦ inr (sym ((framed_end once f).only n (frames n (h.found ne))).0)
]

pub framed_places : (T : List ℕ → Type 0) → FramedPlaces T
framed_places T = record {
  end = λ bytes at e. framed_end;
  cut = λ bytes at e n. framed_cut n;
  whole = λ bytes at e n. framed_whole n;
  window = λ m block offset len at e bytes. framed_window;
  found = λ S bytes at e n. framed_found;
}
