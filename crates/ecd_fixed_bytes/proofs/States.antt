-- The states of the check say which bytes are UTF-8.
use Rattle.std.proofs.Common.{◌≡◌, ℕ, zero, suc, ◌+◌, ◌-◌, ◌*◌, ◌/◌, ◌%◌, ◌<◌, ◌≤◌, List, [], ◌∷◌, ◌++◌, length, refl, ap, sym, subst, ◌∙◌, arith, Bool, true, false, inl, inr, IsUtf8}
use Rattle.std.specs.Prelude.{nat_eq, ◌≢◌, if◌then◌else◌}
use Rattle.std.specs.Str.{is_utf8}
use Rattle.std.proofs.Math.Utf8.{scalar, scalars, encode, encodes, scalar_cases, low_scalar}
use Rattle.std.proofs.lemmas.Bool.{and_parts, cases_lt, cases_eq, lt-ltb, le-ltb, eqb-false, eqb-true}
use Rattle.std.proofs.lemmas.Bool.Decides.{nat_tests}
use Rattle.std.proofs.lemmas.Str.{IsUtf8-append, IsUtf8-nil, IsUtf8-encode, IsUtf8-from_is_utf8, is_utf8-from_IsUtf8}
use Rattle.ecd_fixed_bytes.specs.Utf8.{begun, gone_on, next_state, state_behind, one_where, StatesTell}

abbrev pub Follows : ℕ → Type 0
Follows b = (128 ≤ b) × (b < 192)

-- ---- one byte on

first_0 : (a : ℕ) → a < 128 → next_state 0 a ≡ 0
unfolding next_state begun
first_0 a h = grind (arith, nat_tests, h)

first_8 : (a : ℕ) → 128 ≤ a → a < 194 → next_state 0 a ≡ 8
unfolding next_state begun
first_8 a h k = grind (arith, nat_tests, h, k)

first_1 : (a : ℕ) → 194 ≤ a → a < 224 → next_state 0 a ≡ 1
unfolding next_state begun
first_1 a h k = grind (arith, nat_tests, h, k)

first_2 : (a : ℕ) → 224 < a → a < 240 → a ≢ 237 → next_state 0 a ≡ 2
unfolding next_state begun
first_2 a h k ne = grind (arith, nat_tests, h, k, ne)

first_3 : (a : ℕ) → 240 < a → a < 244 → next_state 0 a ≡ 3
unfolding next_state begun
first_3 a h k = grind (arith, nat_tests, h, k)

first_over : (a : ℕ) → 244 < a → next_state 0 a ≡ 8
unfolding next_state begun
first_over a h = grind (arith, nat_tests, h)

first_4 : next_state 0 224 ≡ 4
unfolding next_state begun
first_4 = refl

first_5 : next_state 0 237 ≡ 5
unfolding next_state begun
first_5 = refl

first_6 : next_state 0 240 ≡ 6
unfolding next_state begun
first_6 = refl

first_7 : next_state 0 244 ≡ 7
unfolding next_state begun
first_7 = refl

next_1 : (b : ℕ) → 128 ≤ b → b < 192 → next_state 1 b ≡ 0
unfolding next_state gone_on
next_1 b h k = grind (arith, nat_tests, h, k)

next_2 : (b : ℕ) → 128 ≤ b → b < 192 → next_state 2 b ≡ 1
unfolding next_state gone_on
next_2 b h k = grind (arith, nat_tests, h, k)

next_3 : (b : ℕ) → 128 ≤ b → b < 192 → next_state 3 b ≡ 2
unfolding next_state gone_on
next_3 b h k = grind (arith, nat_tests, h, k)

next_4 : (b : ℕ) → 160 ≤ b → b < 192 → next_state 4 b ≡ 1
unfolding next_state gone_on
next_4 b h k = grind (arith, nat_tests, h, k)

next_5 : (b : ℕ) → 128 ≤ b → b < 160 → next_state 5 b ≡ 1
unfolding next_state gone_on
next_5 b h k = grind (arith, nat_tests, h, k)

next_6 : (b : ℕ) → 144 ≤ b → b < 192 → next_state 6 b ≡ 2
unfolding next_state gone_on
next_6 b h k = grind (arith, nat_tests, h, k)

next_7 : (b : ℕ) → 128 ≤ b → b < 144 → next_state 7 b ≡ 2
unfolding next_state gone_on
next_7 b h k = grind (arith, nat_tests, h, k)

-- the ranges that go on
range_1 : (b : ℕ) → next_state 1 b ≢ 8 → Follows b
unfolding next_state gone_on
range_1 b ne = grind (arith, nat_tests, ne)

range_2 : (b : ℕ) → next_state 2 b ≢ 8 → Follows b
unfolding next_state gone_on
range_2 b ne = grind (arith, nat_tests, ne)

range_3 : (b : ℕ) → next_state 3 b ≢ 8 → Follows b
unfolding next_state gone_on
range_3 b ne = grind (arith, nat_tests, ne)

range_4 : (b : ℕ) → next_state 4 b ≢ 8 → (160 ≤ b) × (b < 192)
unfolding next_state gone_on
range_4 b ne = grind (arith, nat_tests, ne)

range_5 : (b : ℕ) → next_state 5 b ≢ 8 → (128 ≤ b) × (b < 160)
unfolding next_state gone_on
range_5 b ne = grind (arith, nat_tests, ne)

range_6 : (b : ℕ) → next_state 6 b ≢ 8 → (144 ≤ b) × (b < 192)
unfolding next_state gone_on
range_6 b ne = grind (arith, nat_tests, ne)

range_7 : (b : ℕ) → next_state 7 b ≢ 8 → (128 ≤ b) × (b < 144)
unfolding next_state gone_on
range_7 b ne = grind (arith, nat_tests, ne)

-- ---- whole characters lead from 0 to 0

goes : (s t b : ℕ) (rest : List ℕ) → next_state s b ≡ t → nat_eq t 8 ≡ false → state_behind s (b ∷ rest) ≡ state_behind t rest
goes s t b rest h k = rw (h, k) refl

over : (s b : ℕ) (rest : List ℕ) → next_state s b ≡ 8 → state_behind s (b ∷ rest) ≡ 8
over s b rest h = rw h refl

encode_1 : (c : ℕ) → c < 128 → encode c ≡ c ∷ []
unfolding encode
encode_1 c h = rw (lt-ltb c 128 h) refl

encode_2 : (c : ℕ) → 128 ≤ c → c < 2048 → encode c ≡ (192 + c / 64) ∷ (128 + c % 64) ∷ []
unfolding encode
encode_2 c l h = rw (le-ltb c 128 l, lt-ltb c 2048 h) refl

encode_3 : (c : ℕ) → 2048 ≤ c → c < 65536 → encode c ≡ (224 + c / 4096) ∷ (128 + (c / 64) % 64) ∷ (128 + c % 64) ∷ []
unfolding encode
encode_3 c l h = rw (le-ltb c 128 (omega arith), le-ltb c 2048 l, lt-ltb c 65536 h) refl

encode_4 : (c : ℕ) → 65536 ≤ c → encode c ≡ (240 + c / 262144) ∷ (128 + (c / 4096) % 64) ∷ (128 + (c / 64) % 64) ∷ (128 + c % 64) ∷ []
unfolding encode
encode_4 c l = rw (le-ltb c 128 (omega arith), le-ltb c 2048 (omega arith), le-ltb c 65536 l) refl

through_2 : (a b : ℕ) (rest : List ℕ) → 194 ≤ a → a < 224 → Follows b → state_behind 0 (a ∷ b ∷ rest) ≡ state_behind 0 rest
through_2 a b rest l h f = goes 0 1 a (b ∷ rest) (first_1 a l h) refl ∙ goes 1 0 b rest (next_1 b f.0 f.1) refl

through_3 : (a b d : ℕ) (rest : List ℕ) → 224 ≤ a → a < 240 → Follows b → Follows d → (a ≡ 224 → 160 ≤ b) → (a ≡ 237 → b < 160) → state_behind 0 (a ∷ b ∷ d ∷ rest) ≡ state_behind 0 rest
through_3 a b d rest l h f g lo hi =
    let last : state_behind 1 (d ∷ rest) ≡ state_behind 0 rest = goes 1 0 d rest (next_1 d g.0 g.1) refl in
    elim (cases_eq a 224) [
      | inl e ↦ goes 0 4 a (b ∷ d ∷ rest) (rw e first_4) refl ∙ (goes 4 1 b (d ∷ rest) (next_4 b (lo e) f.1) refl ∙ last)
      | inr ne ↦ elim (cases_eq a 237) [
        | inl e ↦ goes 0 5 a (b ∷ d ∷ rest) (rw e first_5) refl ∙ (goes 5 1 b (d ∷ rest) (next_5 b f.0 (hi e)) refl ∙ last)
        | inr nf ↦ goes 0 2 a (b ∷ d ∷ rest) (first_2 a (omega arith) h nf) refl ∙ (goes 2 1 b (d ∷ rest) (next_2 b f.0 f.1) refl ∙ last)
      ]
    ]

through_4 : (a b d e : ℕ) (rest : List ℕ) → 240 ≤ a → a ≤ 244 → Follows b → Follows d → Follows e → (a ≡ 240 → 144 ≤ b) → (a ≡ 244 → b < 144) → state_behind 0 (a ∷ b ∷ d ∷ e ∷ rest) ≡ state_behind 0 rest
through_4 a b d e rest l h f g k lo hi =
    let last : state_behind 2 (d ∷ e ∷ rest) ≡ state_behind 0 rest = goes 2 1 d (e ∷ rest) (next_2 d g.0 g.1) refl ∙ goes 1 0 e rest (next_1 e k.0 k.1) refl in
    elim (cases_eq a 240) [
      | inl q ↦ goes 0 6 a (b ∷ d ∷ e ∷ rest) (rw q first_6) refl ∙ (goes 6 2 b (d ∷ e ∷ rest) (next_6 b (lo q) f.1) refl ∙ last)
      | inr ne ↦ elim (cases_eq a 244) [
        | inl q ↦ goes 0 7 a (b ∷ d ∷ e ∷ rest) (rw q first_7) refl ∙ (goes 7 2 b (d ∷ e ∷ rest) (next_7 b f.0 (hi q)) refl ∙ last)
        | inr nf ↦ goes 0 3 a (b ∷ d ∷ e ∷ rest) (first_3 a (omega arith) (omega arith)) refl ∙ (goes 3 2 b (d ∷ e ∷ rest) (next_3 b f.0 f.1) refl ∙ last)
      ]
    ]

through : (c : ℕ) (rest : List ℕ) → scalar c ≡ true → state_behind 0 (encode c ++ rest) ≡ state_behind 0 rest
through c rest s = elim (cases_lt c 128) [
  | inl h ↦ rw (encode_1 c h) (goes 0 0 c rest (first_0 c h) refl)
  | inr l ↦ elim (cases_lt c 2048) [
    | inl h ↦ rw (encode_2 c l h) (through_2 (192 + c / 64) (128 + c % 64) rest (omega arith) (omega arith) (omega arith, omega arith))
    | inr m ↦ elim (cases_lt c 65536) [
      | inl h ↦ rw (encode_3 c m h) (through_3 (224 + c / 4096) (128 + (c / 64) % 64) (128 + c % 64) rest (omega arith) (omega arith) (omega arith, omega arith) (omega arith, omega arith) (λ e. omega arith)
          (λ e. elim (scalar_cases c s) [ inl lt ↦ omega arith | inr ge ↦ absurd (omega arith) ]))
      | inr n ↦
          let high : c < 1114112 = elim (scalar_cases c s) [ inl lt ↦ omega arith | inr ge ↦ ge.1 ] in
          rw (encode_4 c n) (through_4 (240 + c / 262144) (128 + (c / 4096) % 64) (128 + (c / 64) % 64) (128 + c % 64) rest (omega arith) (omega arith) (omega arith, omega arith) (omega arith, omega arith) (omega arith, omega arith)
          (λ e. omega arith) (λ e. omega arith))
    ]
  ]
]

complete : (cs : List ℕ) → scalars cs ≡ true → state_behind 0 (encodes cs) ≡ 0
complete [] s = refl
complete (c ∷ cs) s = let p = and_parts (scalar c) (scalars cs) s in through c (encodes cs) p.0 ∙ complete cs p.1

-- ---- bytes that lead from 0 to 0 are characters

text_2 : (a b : ℕ) → 194 ≤ a → a < 224 → Follows b → IsUtf8 (a ∷ b ∷ [])
text_2 a b l h f =
    let c = (a - 192) * 64 + (b - 128) in
    let p : 192 + c / 64 ≡ a = omega arith in
    let q : 128 + c % 64 ≡ b = omega arith in
    let e : encode c ≡ a ∷ b ∷ [] = encode_2 c (omega arith) (omega arith) ∙ (λ k. p k ∷ q k ∷ []) in
    subst IsUtf8 e (IsUtf8-encode c (low_scalar c (omega arith)))

high_scalar : (c : ℕ) → 57344 ≤ c → c < 1114112 → scalar c ≡ true
high_scalar c l h = grind (arith, nat_tests, l, h)

text_3 : (a b d : ℕ) → 224 ≤ a → a < 240 → Follows b → Follows d → (a ≡ 224 → 160 ≤ b) → (a ≡ 237 → b < 160) → IsUtf8 (a ∷ b ∷ d ∷ [])
text_3 a b d l h f g lo hi =
    let c = (a - 224) * 4096 + (b - 128) * 64 + (d - 128) in
    let p : 224 + c / 4096 ≡ a = omega arith in
    let q : 128 + (c / 64) % 64 ≡ b = omega arith in
    let r : 128 + c % 64 ≡ d = omega arith in
    let above : 2048 ≤ (a - 224) * 4096 + (b - 128) * 64 + (d - 128) = elim (cases_eq a 224) [ inl e ↦ let m = lo e in omega arith | inr ne ↦ omega arith ] in
    let is_scalar : scalar ((a - 224) * 4096 + (b - 128) * 64 + (d - 128)) ≡ true = elim (cases_lt a 237) [
      | inl lt ↦ low_scalar ((a - 224) * 4096 + (b - 128) * 64 + (d - 128)) (omega arith)
      | inr ge ↦ elim (cases_eq a 237) [
        | inl e ↦ let m = hi e in low_scalar ((a - 224) * 4096 + (b - 128) * 64 + (d - 128)) (omega arith)
        | inr ne ↦ high_scalar ((a - 224) * 4096 + (b - 128) * 64 + (d - 128)) (omega arith) (omega arith)
      ]
    ] in
    let e : encode c ≡ a ∷ b ∷ d ∷ [] = encode_3 c above (omega arith) ∙ (λ k. p k ∷ q k ∷ r k ∷ []) in
    subst IsUtf8 e (IsUtf8-encode c is_scalar)

text_4 : (a b d x : ℕ) → 240 ≤ a → a ≤ 244 → Follows b → Follows d → Follows x → (a ≡ 240 → 144 ≤ b) → (a ≡ 244 → b < 144) → IsUtf8 (a ∷ b ∷ d ∷ x ∷ [])
text_4 a b d x l h f g k lo hi =
    let c = (a - 240) * 262144 + (b - 128) * 4096 + (d - 128) * 64 + (x - 128) in
    let p : 240 + c / 262144 ≡ a = omega arith in
    let q : 128 + (c / 4096) % 64 ≡ b = omega arith in
    let r : 128 + (c / 64) % 64 ≡ d = omega arith in
    let t : 128 + c % 64 ≡ x = omega arith in
    let above : 65536 ≤ (a - 240) * 262144 + (b - 128) * 4096 + (d - 128) * 64 + (x - 128) = elim (cases_eq a 240) [ inl e ↦ let m = lo e in omega arith | inr ne ↦ omega arith ] in
    let below : (a - 240) * 262144 + (b - 128) * 4096 + (d - 128) * 64 + (x - 128) < 1114112 = elim (cases_eq a 244) [ inl e ↦ let m = hi e in omega arith | inr ne ↦ omega arith ] in
    let e : encode c ≡ a ∷ b ∷ d ∷ x ∷ [] = encode_4 c above ∙ (λ z. p z ∷ q z ∷ r z ∷ t z ∷ []) in
    subst IsUtf8 e (IsUtf8-encode c (high_scalar c (omega (arith, above)) below))

-- what stands where bytes are wanting
record Further (s : ℕ) (xs : List ℕ) : Type 0 where
  byte : ℕ
  rest : List ℕ
  are : xs ≡ byte ∷ rest
  good : next_state s byte ≢ 8
  then_on : state_behind (next_state s byte) rest ≡ 0

further : (s : ℕ) (xs : List ℕ) → 0 < s → state_behind s xs ≡ 0 → Further s xs
further s [] some e = absurd (omega (arith, e, some))
further s (b ∷ rest) some e = by_state (nat_eq (next_state s b) 8) refl e
  where
    by_state : (t : Bool) → nat_eq (next_state s b) 8 ≡ t → (if t then 8 else state_behind (next_state s b) rest) ≡ 0 → Further s (b ∷ rest)
    by_state true h q = absurd (omega (arith, q))
    by_state false h q = record { byte = b; rest = rest; are = refl; good = eqb-false (next_state s b) 8 h; then_on = q }

module _ (n : ℕ) (ih : (bs : List ℕ) → length bs ≤ n → state_behind 0 bs ≡ 0 → IsUtf8 bs) where
  -- a character's bytes, and the rest
  joined : (front rest : List ℕ) → IsUtf8 front → length rest ≤ n → state_behind 0 rest ≡ 0 → IsUtf8 (front ++ rest)
  joined front rest u le e = IsUtf8-append front rest u (ih rest le e)

  with_2 : (a : ℕ) (xs : List ℕ) → 194 ≤ a → a < 224 → length xs ≤ n → state_behind 1 xs ≡ 0 → IsUtf8 (a ∷ xs)
  with_2 a xs l h le e =
      let x = further 1 xs (omega arith) e in
      let f = range_1 x.byte x.good in
      rw x.are (joined (a ∷ x.byte ∷ []) x.rest (text_2 a x.byte l h f) (omega (arith, ap length x.are, le)) (rw (next_1 x.byte f.0 f.1) at x.then_on))

  last_of_3 : (a b : ℕ) (xs : List ℕ) → 224 ≤ a → a < 240 → Follows b → (a ≡ 224 → 160 ≤ b) → (a ≡ 237 → b < 160) → length xs < n → state_behind 1 xs ≡ 0 → IsUtf8 (a ∷ b ∷ xs)
  last_of_3 a b xs l h f lo hi le e =
      let x = further 1 xs (omega arith) e in
      let g = range_1 x.byte x.good in
      rw x.are (joined (a ∷ b ∷ x.byte ∷ []) x.rest (text_3 a b x.byte l h f g lo hi) (omega (arith, ap length x.are, le)) (rw (next_1 x.byte g.0 g.1) at x.then_on))

  with_3 : (a s : ℕ) (xs : List ℕ) → 224 ≤ a → a < 240 → 0 < s → ((b : ℕ) → next_state s b ≢ 8 → Follows b × (a ≡ 224 → 160 ≤ b) × (a ≡ 237 → b < 160) × (next_state s b ≡ 1)) → length xs ≤ n → state_behind s xs ≡ 0 → IsUtf8 (a ∷ xs)
  with_3 a s xs l h some range le e =
      let x = further s xs some e in
      let f = range x.byte x.good in
      rw x.are (last_of_3 a x.byte x.rest l h f.0 f.1 f.2 (omega (arith, ap length x.are, le)) (rw f.3 at x.then_on))

  last_of_4 : (a b d : ℕ) (xs : List ℕ) → 240 ≤ a → a ≤ 244 → Follows b → Follows d → (a ≡ 240 → 144 ≤ b) → (a ≡ 244 → b < 144) → length xs < n → state_behind 1 xs ≡ 0 → IsUtf8 (a ∷ b ∷ d ∷ xs)
  last_of_4 a b d xs l h f g lo hi le e =
      let x = further 1 xs (omega arith) e in
      let k = range_1 x.byte x.good in
      rw x.are (joined (a ∷ b ∷ d ∷ x.byte ∷ []) x.rest (text_4 a b d x.byte l h f g k lo hi) (omega (arith, ap length x.are, le)) (rw (next_1 x.byte k.0 k.1) at x.then_on))

  third_of_4 : (a b : ℕ) (xs : List ℕ) → 240 ≤ a → a ≤ 244 → Follows b → (a ≡ 240 → 144 ≤ b) → (a ≡ 244 → b < 144) → length xs < n → state_behind 2 xs ≡ 0 → IsUtf8 (a ∷ b ∷ xs)
  third_of_4 a b xs l h f lo hi le e =
      let x = further 2 xs (omega arith) e in
      let g = range_2 x.byte x.good in
      rw x.are (last_of_4 a b x.byte x.rest l h f g lo hi (omega (arith, ap length x.are, le)) (rw (next_2 x.byte g.0 g.1) at x.then_on))

  with_4 : (a s : ℕ) (xs : List ℕ) → 240 ≤ a → a ≤ 244 → 0 < s → ((b : ℕ) → next_state s b ≢ 8 → Follows b × (a ≡ 240 → 144 ≤ b) × (a ≡ 244 → b < 144) × (next_state s b ≡ 2)) → length xs ≤ n → state_behind s xs ≡ 0 → IsUtf8 (a ∷ xs)
  with_4 a s xs l h some range le e =
      let x = further s xs some e in
      let f = range x.byte x.good in
      rw x.are (third_of_4 a x.byte x.rest l h f.0 f.1 f.2 (omega (arith, ap length x.are, le)) (rw f.3 at x.then_on))

  -- by the first byte
  begins : (a : ℕ) (xs : List ℕ) → length xs ≤ n → state_behind 0 (a ∷ xs) ≡ 0 → IsUtf8 (a ∷ xs)
  begins a xs le e = elim (cases_lt a 128) [
    | inl h ↦ joined (a ∷ []) xs (subst IsUtf8 (encode_1 a h) (IsUtf8-encode a (low_scalar a (omega arith)))) le (sym (goes 0 0 a xs (first_0 a h) refl) ∙ e)
    | inr l ↦ elim (cases_lt a 194) [
      | inl h ↦ let bad : 8 ≡ 0 = sym (over 0 a xs (first_8 a l h)) ∙ e in absurd (omega (arith, bad))
      | inr l2 ↦ elim (cases_lt a 224) [
        | inl h ↦ with_2 a xs l2 h le (sym (goes 0 1 a xs (first_1 a l2 h) refl) ∙ e)
        | inr l3 ↦ elim (cases_lt a 240) [
          | inl h ↦ elim (cases_eq a 224) [
            | inl q ↦ with_3 a 4 xs l3 h (omega arith) (λ b ne. let r = range_4 b ne in ((omega (arith, r.0), r.1), (λ z. r.0), (λ z. omega (arith, q, z)), next_4 b r.0 r.1)) le (sym (goes 0 4 a xs (rw q first_4) refl) ∙ e)
            | inr n1 ↦ elim (cases_eq a 237) [
              | inl q ↦ with_3 a 5 xs l3 h (omega arith) (λ b ne. let r = range_5 b ne in ((r.0, omega (arith, r.1)), (λ z. omega (arith, q, z)), (λ z. r.1), next_5 b r.0 r.1)) le (sym (goes 0 5 a xs (rw q first_5) refl) ∙ e)
              | inr n2 ↦ with_3 a 2 xs l3 h (omega arith) (λ b ne. let r = range_2 b ne in ((r.0, r.1), (λ z. absurd (n1 z)), (λ z. absurd (n2 z)), next_2 b r.0 r.1)) le (sym (goes 0 2 a xs (first_2 a (omega arith) h n2) refl) ∙ e)
            ]
          ]
          | inr l4 ↦ elim (cases_lt 244 a) [
            | inl h ↦ let bad : 8 ≡ 0 = sym (over 0 a xs (first_over a h)) ∙ e in absurd (omega (arith, bad))
            | inr h ↦ elim (cases_eq a 240) [
              | inl q ↦ with_4 a 6 xs l4 h (omega arith) (λ b ne. let r = range_6 b ne in ((omega (arith, r.0), r.1), (λ z. r.0), (λ z. omega (arith, q, z)), next_6 b r.0 r.1)) le (sym (goes 0 6 a xs (rw q first_6) refl) ∙ e)
              | inr n1 ↦ elim (cases_eq a 244) [
                | inl q ↦ with_4 a 7 xs l4 h (omega arith) (λ b ne. let r = range_7 b ne in ((r.0, omega (arith, r.1)), (λ z. omega (arith, q, z)), (λ z. r.1), next_7 b r.0 r.1)) le (sym (goes 0 7 a xs (rw q first_7) refl) ∙ e)
                | inr n2 ↦ with_4 a 3 xs l4 h (omega arith) (λ b ne. let r = range_3 b ne in ((r.0, r.1), (λ z. absurd (n1 z)), (λ z. absurd (n2 z)), next_3 b r.0 r.1)) le (sym (goes 0 3 a xs (first_3 a (omega arith) (omega arith)) refl) ∙ e)
              ]
            ]
          ]
        ]
      ]
    ]
  ]

sound : (n : ℕ) (bs : List ℕ) → length bs ≤ n → state_behind 0 bs ≡ 0 → IsUtf8 bs
sound n [] le e = IsUtf8-nil
sound zero (a ∷ xs) le e = absurd (omega (arith, le))
sound (suc n) (a ∷ xs) le e = begins n (sound n) a xs (omega (arith, le)) e

-- ---- the law

pub states_tell : StatesTell
states_tell bytes = (
  (λ e. is_utf8-from_IsUtf8 bytes (sound (length bytes) bytes (omega arith) e)),
  (λ k. let text = IsUtf8-from_is_utf8 bytes k in ap (state_behind 0) (sym text.1.1) ∙ complete text.0 text.1.0),
)

-- ---- the test

pub text_is : (bytes : List ℕ) → one_where (nat_eq (state_behind 0 bytes) 0) ≡ one_where (is_utf8 bytes)
text_is bytes = by_state (nat_eq (state_behind 0 bytes) 0) refl (is_utf8 bytes) refl
  where
    by_state : (t : Bool) → nat_eq (state_behind 0 bytes) 0 ≡ t → (u : Bool) → is_utf8 bytes ≡ u → one_where t ≡ one_where u
    by_state true h true k = refl
    by_state false h false k = refl
    by_state true h false k =
        let good = is_utf8-from_IsUtf8 bytes (sound (length bytes) bytes (omega arith) (eqb-true (state_behind 0 bytes) 0 h)) in
        let bad : true ≡ false = sym good ∙ k in
        absurd cc
    by_state false h true k =
        let text = IsUtf8-from_is_utf8 bytes k in
        let zero_behind : state_behind 0 bytes ≡ 0 = ap (state_behind 0) (sym text.1.1) ∙ complete text.0 text.1.0 in
        absurd (eqb-false (state_behind 0 bytes) 0 h zero_behind)
