-- The argument of a head.
use Rattle.std.proofs.Common.{◌≡◌, ℕ, ◌+◌, ◌%◌, ◌/◌, ◌<◌, ◌≤◌, List, [], ◌∷◌, length, refl, ap, sym, ◌∙◌, arith, true, false, drop, take, get_or, get_or-drop, length-drop, add-one, inl, inr}
use Rattle.std.specs.Prelude.{codes, nat_eq, nat_lt, ◌≢◌, Result, Ok}
use Rattle.std.specs.Int.{w16, w32, w64, from_be_bytes}
use Rattle.std.proofs.lemmas.Bool.{cases_lt}
use Rattle.std.proofs.lemmas.Bool.Decides.{nat_tests}
use Rattle.std.proofs.lemmas.List.{drop_all}
use denote.Hole.Carrier.{hidden}
use Rattle.ecd_cast.specs.declared.tree.Expr.TheBlock as exprs
use Rattle.ecd_cast.specs.declared.value.Value.TheVariants.{Number as Num, Bytes as Ptr}
use Rattle.ecd_cast.specs.Memory.{Memory}
use Rattle.ecd_cast.specs.Expressions.{modulus, Gives}
use Rattle.ecd_cast.specs.Meaning.{Calls, called}
use Rattle.ecd_calculus.specs.Ends.{Answers}
use Rattle.ecd_calculus.proofs.Rules.{return_rule, let_rule, call_rule, if_rule, guard_rule, called_rule, works_within}
use Rattle.ecd_head.specs.declared.HeadFault.{HeadFault}
use Rattle.ecd_head.specs.declared.Head.{Head}
use Rattle.ecd_head.specs.Fault.{head_at, info_of, argument_of}
use Rattle.ecd_head.specs.Steps.{judged, checked}
use Rattle.ecd_head.proofs.Heads.{head_at_steps}
use Rattle.ecd_emit.specs.Windows.{Window, placed}
use Rattle.ecd_fixed_heads.specs.Firsts.{size_from, least_from}
use Rattle.ecd_fixed_heads.specs.Meanings.{LoadsNumber, end_of}
use Rattle.ecd_fixed_heads.specs.Heads.{head_argument}
use Rattle.ecd_emit.proofs.Windows.{small, long, one_byte, from_at}
use Rattle.ecd_fixed_heads.proofs.FirstBytes.{low_bits}

-- ---- what the first byte and the bytes behind it carry

in_first : (i : ℕ) (rest : List ℕ) → nat_lt i 24 ≡ true → i ≡ argument_of i rest
in_first i rest h = grind (arith, nat_tests, h)

in_next : (i : ℕ) (rest : List ℕ) → nat_eq i 24 ≡ true → get_or rest 0 0 ≡ argument_of i rest
in_next i rest h = rw h refl

in_two : (i : ℕ) (rest : List ℕ) → nat_eq i 24 ≡ false → nat_eq i 25 ≡ true → from_be_bytes w16 (take 2 rest) ≡ argument_of i rest
in_two i rest h1 h2 = rw (h1, h2) refl

in_four : (i : ℕ) (rest : List ℕ) → nat_eq i 24 ≡ false → nat_eq i 25 ≡ false → nat_eq i 26 ≡ true → from_be_bytes w32 (take 4 rest) ≡ argument_of i rest
in_four i rest h1 h2 h3 = rw (h1, h2, h3) refl

in_eight : (i : ℕ) (rest : List ℕ) → nat_eq i 24 ≡ false → nat_eq i 25 ≡ false → nat_eq i 26 ≡ false → nat_eq i 27 ≡ true → from_be_bytes w64 (take 8 rest) ≡ argument_of i rest
in_eight i rest h1 h2 h3 h4 = rw (h1, h2, h3, h4) refl

two_bytes : (b : ℕ) → size_from b ≢ 0 → nat_lt (b % 32) 24 ≡ false → nat_eq (b % 32) 24 ≡ true → size_from b ≡ 2
unfolding size_from
two_bytes b some h1 h = rw (h1, h) refl

three_bytes : (b : ℕ) → size_from b ≢ 0 → nat_lt (b % 32) 24 ≡ false → nat_eq (b % 32) 24 ≡ false → nat_eq (b % 32) 25 ≡ true → size_from b ≡ 3
unfolding size_from
three_bytes b some h1 h2 h = grind (arith, nat_tests, h1, h2, h, some)

five_bytes : (b : ℕ) → size_from b ≢ 0 → nat_lt (b % 32) 24 ≡ false → nat_eq (b % 32) 24 ≡ false → nat_eq (b % 32) 25 ≡ false → nat_eq (b % 32) 26 ≡ true → size_from b ≡ 5
unfolding size_from
five_bytes b some h1 h2 h3 h = grind (arith, nat_tests, h1, h2, h3, h, some)

nine_bytes : (b : ℕ) → size_from b ≢ 0 → nat_lt (b % 32) 24 ≡ false → nat_eq (b % 32) 24 ≡ false → nat_eq (b % 32) 25 ≡ false → nat_eq (b % 32) 26 ≡ false → (size_from b ≡ 9) × (nat_eq (b % 32) 27 ≡ true)
unfolding size_from
nine_bytes b some h1 h2 h3 h4 = grind (arith, nat_tests, h1, h2, h3, h4, some)

module _ (calls : Calls) (k block offset len at : ℕ) (m : Memory) (bytes : List ℕ) (w : Window m block offset len bytes) where
  pub argument_answers : LoadsNumber w16 1 (calls (codes "load_be16")) → LoadsNumber w32 5 (calls (codes "load_be32")) → LoadsNumber w64 13 (calls (codes "load_be64")) →
      size_from (get_or bytes at 0) ≢ 0 → at + size_from (get_or bytes at 0) ≤ len →
      Answers (called calls k head_argument (placed block offset at) m) (λ n. n ≡ argument_of (info_of (get_or bytes at 0)) (drop (at + 1) bytes)) 22
  unfolding head_argument exprs.shape-the_row-Expr-0 exprs.hidden-the_row-Expr-0 hidden
  argument_answers be16 be32 be64 some room =
      let b = get_or bytes at 0 in
      let i = get_or bytes at 0 % 32 in
      let rest = drop (at + 1) bytes in
      let here : at < len = omega (arith, some, room) in
      let next : (at + 1) % modulus ≡ at + 1 = small (at + 1) (omega (arith, w.short)) in
      called_rule calls m k head_argument (placed block offset at) (λ n. n ≡ argument_of (info_of (get_or bytes at 0)) (drop (at + 1) bytes)) 22 (
      let_rule {n = b} (record { is = rw (w.there, one_byte w at here) refl }) (
      let_rule {n = i} (record { is = ap (λ (x : ℕ). Gives (Num x)) (low_bits b) }) (
      guard_rule (nat_lt i 24) i (record { tells = refl }) (record { is = refl }) (in_first i rest) (λ h1.
      if_rule {k = 17} (nat_eq i 24) (record { tells = refl }) (λ h.
      let more : at + 1 < len = omega (arith, two_bytes b some h1 h, room) in
      let same : get_or bytes (at + 1) 0 ≡ get_or rest 0 0 = sym (get_or-drop (at + 1) bytes 0 0 ∙ ap (λ (x : ℕ). get_or bytes x 0) (omega arith)) in
      works_within 1 17 (omega arith) (return_rule {n = get_or bytes (at + 1) 0} (record { is = rw (next, w.there, one_byte w (at + 1) more) refl }) (same ∙ in_next i rest h))) (λ h2.
      if_rule {k = 16} (nat_eq i 25) (record { tells = refl }) (λ h.
      let more : at + 1 + 2 ≤ len = omega (arith, three_bytes b some h1 h2 h, room) in
      works_within 3 16 (omega arith) (call_rule {c = 1} {k = 1} (Ptr block offset ∷ Num (at + 1) ∷ []) (λ n. n ≡ from_be_bytes w16 (take 2 rest)) (record { hands = λ p f. rw next refl })
      (be16.answers block offset len (at + 1) m bytes w more) (λ x ex. return_rule {n = x} (record { is = refl }) (ex ∙ in_two i rest h2 h)))) (λ h3.
      if_rule {k = 15} (nat_eq i 26) (record { tells = refl }) (λ h.
      let more : at + 1 + 4 ≤ len = omega (arith, five_bytes b some h1 h2 h3 h, room) in
      works_within 7 15 (omega arith) (call_rule {c = 5} {k = 1} (Ptr block offset ∷ Num (at + 1) ∷ []) (λ n. n ≡ from_be_bytes w32 (take 4 rest)) (record { hands = λ p f. rw next refl })
      (be32.answers block offset len (at + 1) m bytes w more) (λ x ex. return_rule {n = x} (record { is = refl }) (ex ∙ in_four i rest h2 h3 h)))) (λ h4.
      let nine = nine_bytes b some h1 h2 h3 h4 in
      let more : at + 1 + 8 ≤ len = omega (arith, nine.0, room) in
      call_rule {c = 13} {k = 1} (Ptr block offset ∷ Num (at + 1) ∷ []) (λ n. n ≡ from_be_bytes w64 (take 8 rest)) (record { hands = λ p f. rw next refl })
      (be64.answers block offset len (at + 1) m bytes w more) (λ x ex. return_rule {n = x} (record { is = refl }) (ex ∙ in_eight i rest h2 h3 h4 nine.1)))))))))

-- ---- what is read behind a first byte

pub no_size : (b : ℕ) (rest : List ℕ) (at : ℕ) → b < 256 → size_from b ≡ 0 → end_of at (head_at (b ∷ rest)) ≡ 0
unfolding judged size_from
no_size b rest at lt e = rw (head_at_steps b rest) (grind (arith, nat_tests, e))

pub too_short : (b : ℕ) (rest : List ℕ) (at : ℕ) → b < 256 → length rest + 1 < size_from b → end_of at (head_at (b ∷ rest)) ≡ 0
unfolding judged size_from
too_short b rest at lt e = rw (head_at_steps b rest) (grind (arith, nat_tests, e))

pub too_small : (b : ℕ) (rest : List ℕ) (at : ℕ) → b < 256 → argument_of (b % 32) rest < least_from b → size_from b ≢ 0 → end_of at (head_at (b ∷ rest)) ≡ 0
unfolding judged checked size_from least_from
too_small b rest at lt e some = rw (head_at_steps b rest) (grind (arith, nat_tests, e, some))

pub head_is : (b : ℕ) (rest : List ℕ) → b < 256 → size_from b ≢ 0 → size_from b ≤ length rest + 1 → least_from b ≤ argument_of (b % 32) rest →
    head_at (b ∷ rest) ≡ Ok (record { major = b / 32; arg = argument_of (b % 32) rest }, size_from b)
unfolding judged checked size_from least_from
head_is b rest lt some room e = rw (head_at_steps b rest) (grind (arith, nat_tests, e, some, room))

pub size_small : (b : ℕ) → size_from b < 10
unfolding size_from
size_small b = grind (arith, nat_tests)

abbrev read : Head → ℕ → Result (Head × ℕ) HeadFault
read h n = Ok (h, n)

ok_is : (x y : Head × ℕ) → read x.0 x.1 ≡ read y.0 y.1 → x ≡ y
ok_is x y e = cc

pub same_read : (h j : Head) (n k : ℕ) → read h n ≡ read j k → (h ≡ j) × (n ≡ k)
same_read h j n k e = let same = ok_is (h, n) (j, k) e in (ap (λ (x : Head × ℕ). x.0) same, ap (λ (x : Head × ℕ). x.1) same)

-- a head that is read is what its first byte and the bytes behind it say
pub head_only : (b : ℕ) (rest : List ℕ) (h : Head) (n : ℕ) → b < 256 → head_at (b ∷ rest) ≡ Ok (h, n) →
    (size_from b ≢ 0) × (size_from b ≤ length rest + 1) × (h ≡ record { major = b / 32; arg = argument_of (b % 32) rest }) × (n ≡ size_from b)
head_only b rest h n lt e =
    let not_none : size_from b ≢ 0 = λ z. absurd (omega (arith, ends 0 (no_size b rest 1 lt z))) in
    let fits : size_from b ≤ length rest + 1 = elim (cases_lt (length rest + 1) (size_from b)) [ inl l ↦ absurd (omega (arith, ends 0 (too_short b rest 1 lt l))) | inr g ↦ g ] in
    let above : least_from b ≤ argument_of (b % 32) rest = elim (cases_lt (argument_of (b % 32) rest) (least_from b)) [ inl l ↦ absurd (omega (arith, ends 0 (too_small b rest 1 lt l not_none))) | inr g ↦ g ] in
    let both = same_read h (record { major = b / 32; arg = argument_of (b % 32) rest }) n (size_from b) (sym e ∙ head_is b rest lt not_none fits above) in
    (not_none, fits, both.0, both.1)
  where
    ends : (z : ℕ) → end_of 1 (head_at (b ∷ rest)) ≡ z → 1 + n ≡ z
    ends z q = ap (end_of 1) (sym e) ∙ q

-- ---- a head that is read in a window

module _ (block offset len at : ℕ) (m : Memory) (bytes : List ℕ) (w : Window m block offset len bytes) where
  pub inside : (h : Head) (n : ℕ) → head_at (drop at bytes) ≡ Ok (h, n) → at < len
  unfolding head_at
  inside h n e = elim (cases_lt at len) [ inl lt ↦ lt | inr le ↦ absurd (let none : drop at bytes ≡ [] = drop_all at bytes (omega (arith, long w)) in let q = rw none at e in cc q) ]

  pub behind : at < len → drop at bytes ≡ get_or bytes at 0 ∷ drop (at + 1) bytes
  behind lt = rw add-one (from_at w at lt)

  pub left : at < len → at + (length (drop (at + 1) bytes) + 1) ≡ len
  left lt = omega (arith, long w, length-drop (at + 1) bytes)

  pub read_there : (h : Head) (n : ℕ) → head_at (drop at bytes) ≡ Ok (h, n) →
      (size_from (get_or bytes at 0) ≢ 0) × (at + size_from (get_or bytes at 0) ≤ len) × (h ≡ record { major = get_or bytes at 0 / 32; arg = argument_of (get_or bytes at 0 % 32) (drop (at + 1) bytes) }) × (n ≡ size_from (get_or bytes at 0))
  read_there h n e =
      let here = inside h n e in
      let q : head_at (get_or bytes at 0 ∷ drop (at + 1) bytes) ≡ Ok (h, n) = rw (← behind here) e in
      let o = head_only (get_or bytes at 0) (drop (at + 1) bytes) h n (w.each at) q in
      (o.0, omega (arith, o.1, left here), o.2, o.3)
