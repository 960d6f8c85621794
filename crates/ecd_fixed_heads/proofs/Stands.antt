-- Where a head is read, and where head_within finds one, its shortest bytes stand, and nowhere else.
use Rattle.std.proofs.Common.{◌≡◌, ℕ, ◌+◌, ◌<◌, ◌≤◌, List, length, refl, ap, sym, ◌∙◌, arith, Bool, true, false, cond, drop}
use Rattle.std.specs.Prelude.{nat_eq, nat_le, ◌&&◌, ◌≢◌, Result, Ok, Err}
use Rattle.std.proofs.lemmas.Bool.Decides.{nat_tests}
use Rattle.ecd_head.specs.declared.HeadFault.{HeadFault}
use Rattle.ecd_head.specs.declared.Head.{Head}
use Rattle.ecd_head.specs.Head.{head_bytes}
use Rattle.ecd_head.specs.Place.{StandsAt}
use Rattle.ecd_head.specs.Fault.{head_at}
use Rattle.ecd_head.proofs.Heads.{head_takes, head_again, IsBytes-drop}
use Rattle.ecd_emit.specs.Windows.{IsBytes}
use Rattle.ecd_fixed_heads.specs.Meanings.{HeadIsAt, HeadStands, end_within}
use Rattle.ecd_fixed_heads.specs.Standing.{HeadsAreRead, HeadsEnd}

head_long : (major argument : ℕ) → 0 < length (head_bytes major argument)
unfolding head_bytes
head_long major argument = grind (arith, nat_tests)

-- ---- any head

module _ (at size : ℕ) (bytes : List ℕ) (head : Head) where
  read_stands : IsBytes bytes → head_at (drop at bytes) ≡ Ok (head, size) → HeadIsAt bytes at size head
  read_stands fits e =
      let t = head_takes (drop at bytes) head size (IsBytes-drop at bytes fits) e in
      record {
        writable = t.writable;
        stands = record { there = (drop size (drop at bytes), t.whole); behind = ap (λ (n : ℕ). at + n) (sym t.long) };
      }

  stands_read : HeadIsAt bytes at size head → head_at (drop at bytes) ≡ Ok (head, size)
  stands_read s =
      let again : head_at (drop at bytes) ≡ Ok (head, length (head_bytes head.major head.arg)) = rw s.stands.there.1 (head_again head.major head.arg s.stands.there.0 s.writable) in
      let long : length (head_bytes head.major head.arg) ≡ size = omega (arith, s.stands.behind) in
      again ∙ ap (λ (n : ℕ). Ok (head, n)) long

pub heads_are_read : HeadsAreRead
heads_are_read at size bytes head fits = ((λ e. read_stands at size bytes head fits e), (λ s. stands_read at size bytes head s))

-- ---- a head that head_within asks for

-- its test
abbrev asked_for : (major lo hi : ℕ) → Head → Bool
asked_for major lo hi head = nat_eq head.major major && (nat_le lo head.arg && nat_le head.arg hi)

is_asked : (major lo hi : ℕ) (head : Head) → asked_for major lo hi head ≡ true → (head.major ≡ major) × (lo ≤ head.arg) × (head.arg ≤ hi)
is_asked major lo hi head h = grind (arith, nat_tests, h)

asks : (major lo hi arg : ℕ) → lo ≤ arg → arg ≤ hi → asked_for major lo hi (record { major = major; arg = arg }) ≡ true
asks major lo hi arg h k = grind (arith, nat_tests, h, k)

module _ (major lo hi at : ℕ) (bytes : List ℕ) (fits : IsBytes bytes) where
  found_head : (x : Head × ℕ) → head_at (drop at bytes) ≡ Ok x → (t : Bool) → asked_for major lo hi x.0 ≡ t → cond t (at + x.1) 0 ≢ 0 → HeadStands major lo hi bytes at (cond t (at + x.1) 0)
  found_head x e false h ne = absurd (ne refl)
  found_head x e true h ne =
      let t = head_takes (drop at bytes) x.0 x.1 (IsBytes-drop at bytes fits) e in
      let is = is_asked major lo hi x.0 h in
      let there : StandsAt bytes at (head_bytes x.0.major x.0.arg) (at + x.1) = record { there = (drop x.1 (drop at bytes), t.whole); behind = ap (λ (n : ℕ). at + n) (sym t.long) } in
      record {
        argument = x.0.arg;
        writable = rw is.0 at t.writable;
        least = is.1;
        most = is.2;
        stands = rw is.0 at there;
      }

  found : (r : Result (Head × ℕ) HeadFault) → head_at (drop at bytes) ≡ r → end_within major lo hi at r ≢ 0 → HeadStands major lo hi bytes at (end_within major lo hi at r)
  found (Err fault) e ne = absurd (ne refl)
  found (Ok x) e ne = found_head x e (asked_for major lo hi x.0) refl ne

  only : (e : ℕ) → HeadStands major lo hi bytes at e → (end_within major lo hi at (head_at (drop at bytes)) ≡ e) × (0 < e)
  only e s =
      let again : head_at (drop at bytes) ≡ Ok (record { major = major; arg = s.argument }, length (head_bytes major s.argument)) = rw s.stands.there.1 (head_again major s.argument s.stands.there.0 s.writable) in
      let here : cond (asked_for major lo hi (record { major = major; arg = s.argument })) (at + length (head_bytes major s.argument)) 0 ≡ e = rw (asks major lo hi s.argument s.least s.most) (sym s.stands.behind) in
      (rw again here, omega (arith, s.stands.behind, head_long major s.argument))

pub heads_end : HeadsEnd
heads_end major lo hi at bytes fits = record { found = found major lo hi at bytes fits (head_at (drop at bytes)) refl; only = only major lo hi at bytes fits }
