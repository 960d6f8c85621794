-- What each first byte opens is a lexeme.
use Rattle.std.proofs.Common.{◌≡◌, ◌⊎◌, inl, inr, ℕ, ◌+◌, ◌<◌, Bool, true, false, ◌&&◌, List, [], ◌∷◌, ◌++◌, length, take, drop, get_or, refl, sym, ◌∙◌, ap, subst, arith, one-add, cond, eqb, length-take, Option, Some, None, Ok}
use Rattle.std.specs.Prelude.{nat_lt}
use Rattle.std.proofs.lemmas.List.{take-append-drop}
use Rattle.ecd_lex.specs.declared.token.Bound.TheVariants.{Missing}
use Rattle.ecd_lex.specs.declared.token.Sign.{Sign}
use Rattle.ecd_lex.specs.declared.token.Sign.TheVariants as signs
use Rattle.ecd_lex.specs.declared.token.TokenKind.TheVariants as kinds
use Rattle.ecd_lex.specs.declared.found.Found.{Found}
use Rattle.ecd_lex.specs.Characters.{is_decimal, is_name_start, is_letter, digit_value}
use Rattle.ecd_lex.specs.Forms.{IsName, IsLexeme, bound_of, sign_bytes}
use Rattle.ecd_lex.specs.Scan.{name_rest, numeral_at, numeral_len, numeral_value, argument_found, hash_found, as_sign, lone_sign, bracket_sign, define_sign, slash_sign, dot_sign, sign_found, or_none, dot_found}
use Rattle.ecd_lex.proofs.Booleans.{tests, is_same}
use Rattle.ecd_lex.proofs.Names.{name_rest_sound, name_rest_within}
use Rattle.ecd_lex.proofs.Numerals.{numeral_sound}
use Rattle.ecd_lex.proofs.Founds.{Sound, sound_of, at_zero, at_none, ok_one, and_true, true_lt}

-- ---- data items by major type

hash_plain : (text : List ℕ) → Sound (35 ∷ text) (record { end = 1; kind = kinds.Hash None Missing; number = Some 0 })
unfolding IsLexeme
hash_plain text =
    sound_of (35 ∷ text) (35 ∷ []) text (record { end = 1; kind = kinds.Hash None Missing; number = Some 0 }) refl refl (omega arith) (inl (refl, refl, refl)) at_zero

hash_major : (d : ℕ) (text : List ℕ) → is_decimal d ≡ true → Sound (35 ∷ d ∷ text) (record { end = 2; kind = kinds.Hash (Some (digit_value d)) Missing; number = Some 0 })
unfolding IsLexeme
hash_major d text e =
    sound_of (35 ∷ d ∷ text) (35 ∷ d ∷ []) text (record { end = 2; kind = kinds.Hash (Some (digit_value d)) Missing; number = Some 0 }) refl refl (omega arith)
    (inr (d, [], refl, e, refl, inl (refl, refl))) at_zero

hash_argument : (d : ℕ) (text : List ℕ) → is_decimal d ≡ true → 0 < (numeral_at text).digits →
    Sound (35 ∷ d ∷ 46 ∷ text) (record { end = 3 + numeral_len (numeral_at text); kind = kinds.Hash (Some (digit_value d)) (bound_of (numeral_value (numeral_at text) text)); number = Some 0 })
unfolding IsLexeme
hash_argument d text e h =
    let f = numeral_sound text h in
    let n : ℕ = numeral_len (numeral_at text) in
    let w = f.within in
    sound_of (35 ∷ d ∷ 46 ∷ text) (35 ∷ d ∷ 46 ∷ take n text) (drop n text) (record { end = 3 + n; kind = kinds.Hash (Some (digit_value d)) (bound_of (numeral_value (numeral_at text) text)); number = Some 0 })
    (ap (λ x. 35 ∷ d ∷ 46 ∷ x) (sym (take-append-drop n text)))
    (omega (arith, length-take n text))
    (omega arith)
    (inr (d, 46 ∷ take n text, refl, e, refl, inr (take n text, numeral_value (numeral_at text) text, refl, f.unsigned, refl)))
    at_zero

argument_sound : (d : ℕ) (text : List ℕ) → is_decimal d ≡ true → Sound (35 ∷ d ∷ text) (argument_found (digit_value d) text)
unfolding argument_found
argument_sound d [] e = hash_major d [] e
argument_sound d (c ∷ text) e = elim (tests (eqb c 46 && nat_lt 0 (numeral_at text).digits)) as (λ _. Sound (35 ∷ d ∷ c ∷ text) (argument_found (digit_value d) (c ∷ text))) [
  | inl h ↦ (let t = and_true (eqb c 46) (nat_lt 0 (numeral_at text).digits) h in
      rw h (subst (λ x. Sound (35 ∷ d ∷ x ∷ text) (record { end = 3 + numeral_len (numeral_at text); kind = kinds.Hash (Some (digit_value d)) (bound_of (numeral_value (numeral_at text) text)); number = Some 0 })) (sym (is_same c 46 t.0)) (hash_argument d text e (true_lt (numeral_at text).digits t.1))))
  | inr h ↦ rw h (hash_major d (c ∷ text) e)
]

zero_no_decimal : is_decimal 0 ≡ false
unfolding is_decimal
zero_no_decimal = refl

pub hash_sound : (text : List ℕ) → Sound (35 ∷ text) (hash_found text)
unfolding hash_found
hash_sound [] = rw zero_no_decimal (hash_plain [])
hash_sound (c ∷ text) = elim (tests (is_decimal c)) as (λ _. Sound (35 ∷ c ∷ text) (hash_found (c ∷ text))) [
  | inl e ↦ rw e (argument_sound c text e)
  | inr e ↦ rw e (hash_plain (c ∷ text))
]

-- ---- signs

sign_sound : (sign : Sign) (rest : List ℕ) (end : ℕ) → end ≡ length (sign_bytes sign) → 0 < end → Sound (sign_bytes sign ++ rest) (record { end = end; kind = kinds.Sign sign; number = None })
unfolding IsLexeme
sign_sound sign rest end e h =
    sound_of (sign_bytes sign ++ rest) (sign_bytes sign) rest (record { end = end; kind = kinds.Sign sign; number = None }) refl e (omega (arith, e)) refl at_none

some_found : (x y : Found) → ◌≡◌ {A = Option Found} (Some x) (Some y) → x ≡ y
some_found x y e = cc

no_some : (A : Type 0) (y : Found) → ◌≡◌ {A = Option Found} None (Some y) → A
no_some A y e = cc

chosen : (b : Bool) (x y z : Option Found) → cond b x y ≡ z → ((b ≡ true) × (x ≡ z)) ⊎ ((b ≡ false) × (y ≡ z))
chosen true x y z e = inl (refl, e)
chosen false x y z e = inr (refl, e)

-- a sign of one byte
lone : (sign : Sign) (c n : ℕ) (text : List ℕ) (found : Found) → sign_bytes sign ≡ n ∷ [] → eqb c n ≡ true → as_sign sign 1 ≡ Some found → Sound (c ∷ text) found
lone sign c n text found b e f =
    subst (Sound (c ∷ text)) (some_found (record { end = 1; kind = kinds.Sign sign; number = None }) found f)
    (subst (λ x. Sound x (record { end = 1; kind = kinds.Sign sign; number = None })) (ap (λ x. x ++ text) b ∙ ap (λ x. x ∷ text) (sym (is_same c n e)))
    (sign_sound sign text 1 (ap length (sym b)) (omega arith)))

bracket_sound : (c : ℕ) (text : List ℕ) (found : Found) → bracket_sign c ≡ Some found → Sound (c ∷ text) found
unfolding bracket_sign
bracket_sound c text found e =
    elim (chosen (eqb c 91) (as_sign signs.OpenBracket 1) (cond (eqb c 93) (as_sign signs.CloseBracket 1) (cond (eqb c 123) (as_sign signs.OpenBrace 1) (cond (eqb c 125) (as_sign signs.CloseBrace 1) (cond (eqb c 126) (as_sign signs.Tilde 1) (cond (eqb c 38) (as_sign signs.Ampersand 1) None))))) (Some found) e) as (λ _. Sound (c ∷ text) found) [
      | inl h ↦ lone signs.OpenBracket c 91 text found refl h.0 h.1
      | inr h ↦ elim (chosen (eqb c 93) (as_sign signs.CloseBracket 1) (cond (eqb c 123) (as_sign signs.OpenBrace 1) (cond (eqb c 125) (as_sign signs.CloseBrace 1) (cond (eqb c 126) (as_sign signs.Tilde 1) (cond (eqb c 38) (as_sign signs.Ampersand 1) None)))) (Some found) h.1) as (λ _. Sound (c ∷ text) found) [
        | inl h ↦ lone signs.CloseBracket c 93 text found refl h.0 h.1
        | inr h ↦ elim (chosen (eqb c 123) (as_sign signs.OpenBrace 1) (cond (eqb c 125) (as_sign signs.CloseBrace 1) (cond (eqb c 126) (as_sign signs.Tilde 1) (cond (eqb c 38) (as_sign signs.Ampersand 1) None))) (Some found) h.1) as (λ _. Sound (c ∷ text) found) [
          | inl h ↦ lone signs.OpenBrace c 123 text found refl h.0 h.1
          | inr h ↦ elim (chosen (eqb c 125) (as_sign signs.CloseBrace 1) (cond (eqb c 126) (as_sign signs.Tilde 1) (cond (eqb c 38) (as_sign signs.Ampersand 1) None)) (Some found) h.1) as (λ _. Sound (c ∷ text) found) [
            | inl h ↦ lone signs.CloseBrace c 125 text found refl h.0 h.1
            | inr h ↦ elim (chosen (eqb c 126) (as_sign signs.Tilde 1) (cond (eqb c 38) (as_sign signs.Ampersand 1) None) (Some found) h.1) as (λ _. Sound (c ∷ text) found) [
              | inl h ↦ lone signs.Tilde c 126 text found refl h.0 h.1
              | inr h ↦ elim (chosen (eqb c 38) (as_sign signs.Ampersand 1) None (Some found) h.1) as (λ _. Sound (c ∷ text) found) [
                | inl h ↦ lone signs.Ampersand c 38 text found refl h.0 h.1
                | inr h ↦ no_some (Sound (c ∷ text) found) found h.1
              ]
            ]
          ]
        ]
      ]
    ]

lone_sound : (c : ℕ) (text : List ℕ) (found : Found) → lone_sign c ≡ Some found → Sound (c ∷ text) found
unfolding lone_sign
lone_sound c text found e =
    elim (chosen (eqb c 94) (as_sign signs.Caret 1) (cond (eqb c 58) (as_sign signs.Colon 1) (cond (eqb c 44) (as_sign signs.Comma 1) (cond (eqb c 60) (as_sign signs.Less 1) (cond (eqb c 62) (as_sign signs.Greater 1) (cond (eqb c 40) (as_sign signs.OpenParen 1) (cond (eqb c 41) (as_sign signs.CloseParen 1) (bracket_sign c))))))) (Some found) e) as (λ _. Sound (c ∷ text) found) [
      | inl h ↦ lone signs.Caret c 94 text found refl h.0 h.1
      | inr h ↦ elim (chosen (eqb c 58) (as_sign signs.Colon 1) (cond (eqb c 44) (as_sign signs.Comma 1) (cond (eqb c 60) (as_sign signs.Less 1) (cond (eqb c 62) (as_sign signs.Greater 1) (cond (eqb c 40) (as_sign signs.OpenParen 1) (cond (eqb c 41) (as_sign signs.CloseParen 1) (bracket_sign c)))))) (Some found) h.1) as (λ _. Sound (c ∷ text) found) [
        | inl h ↦ lone signs.Colon c 58 text found refl h.0 h.1
        | inr h ↦ elim (chosen (eqb c 44) (as_sign signs.Comma 1) (cond (eqb c 60) (as_sign signs.Less 1) (cond (eqb c 62) (as_sign signs.Greater 1) (cond (eqb c 40) (as_sign signs.OpenParen 1) (cond (eqb c 41) (as_sign signs.CloseParen 1) (bracket_sign c))))) (Some found) h.1) as (λ _. Sound (c ∷ text) found) [
          | inl h ↦ lone signs.Comma c 44 text found refl h.0 h.1
          | inr h ↦ elim (chosen (eqb c 60) (as_sign signs.Less 1) (cond (eqb c 62) (as_sign signs.Greater 1) (cond (eqb c 40) (as_sign signs.OpenParen 1) (cond (eqb c 41) (as_sign signs.CloseParen 1) (bracket_sign c)))) (Some found) h.1) as (λ _. Sound (c ∷ text) found) [
            | inl h ↦ lone signs.Less c 60 text found refl h.0 h.1
            | inr h ↦ elim (chosen (eqb c 62) (as_sign signs.Greater 1) (cond (eqb c 40) (as_sign signs.OpenParen 1) (cond (eqb c 41) (as_sign signs.CloseParen 1) (bracket_sign c))) (Some found) h.1) as (λ _. Sound (c ∷ text) found) [
              | inl h ↦ lone signs.Greater c 62 text found refl h.0 h.1
              | inr h ↦ elim (chosen (eqb c 40) (as_sign signs.OpenParen 1) (cond (eqb c 41) (as_sign signs.CloseParen 1) (bracket_sign c)) (Some found) h.1) as (λ _. Sound (c ∷ text) found) [
                | inl h ↦ lone signs.OpenParen c 40 text found refl h.0 h.1
                | inr h ↦ elim (chosen (eqb c 41) (as_sign signs.CloseParen 1) (bracket_sign c) (Some found) h.1) as (λ _. Sound (c ∷ text) found) [
                  | inl h ↦ lone signs.CloseParen c 41 text found refl h.0 h.1
                  | inr h ↦ bracket_sound c text found h.1
                ]
              ]
            ]
          ]
        ]
      ]
    ]

-- a sign of more bytes
longer : (sign : Sign) (rest : List ℕ) (end : ℕ) (found : Found) → end ≡ length (sign_bytes sign) → 0 < end → as_sign sign end ≡ Some found → Sound (sign_bytes sign ++ rest) found
longer sign rest end found e h f = subst (Sound (sign_bytes sign ++ rest)) (some_found (record { end = end; kind = kinds.Sign sign; number = None }) found f) (sign_sound sign rest end e h)

define_sound : (text : List ℕ) (found : Found) → define_sign text ≡ Some found → Sound (61 ∷ text) found
unfolding define_sign
define_sound [] found e = longer signs.Define [] 1 found refl (omega arith) e
define_sound (c ∷ text) found e = elim (chosen (eqb c 62) (as_sign signs.Arrow 2) (as_sign signs.Define 1) (Some found) e) as (λ _. Sound (61 ∷ c ∷ text) found) [
  | inl h ↦ subst (λ x. Sound (61 ∷ x ∷ text) found) (sym (is_same c 62 h.0)) (longer signs.Arrow text 2 found refl (omega arith) h.1)
  | inr h ↦ longer signs.Define (c ∷ text) 1 found refl (omega arith) h.1
]

double_slash_sound : (text : List ℕ) (found : Found) → (cond (eqb (get_or text 0 0) 61) (as_sign signs.GroupMore 3) (as_sign signs.DoubleSlash 2)) ≡ Some found → Sound (47 ∷ 47 ∷ text) found
double_slash_sound [] found e = longer signs.DoubleSlash [] 2 found refl (omega arith) e
double_slash_sound (c ∷ text) found e = elim (chosen (eqb c 61) (as_sign signs.GroupMore 3) (as_sign signs.DoubleSlash 2) (Some found) e) as (λ _. Sound (47 ∷ 47 ∷ c ∷ text) found) [
  | inl h ↦ subst (λ x. Sound (47 ∷ 47 ∷ x ∷ text) found) (sym (is_same c 61 h.0)) (longer signs.GroupMore text 3 found refl (omega arith) h.1)
  | inr h ↦ longer signs.DoubleSlash (c ∷ text) 2 found refl (omega arith) h.1
]

slash_sound : (text : List ℕ) (found : Found) → slash_sign text ≡ Some found → Sound (47 ∷ text) found
unfolding slash_sign
slash_sound [] found e = longer signs.Slash [] 1 found refl (omega arith) e
slash_sound (c ∷ text) found e = elim (chosen (eqb c 61) (as_sign signs.TypeMore 2) (cond (eqb c 47) (cond (eqb (get_or text 0 0) 61) (as_sign signs.GroupMore 3) (as_sign signs.DoubleSlash 2)) (as_sign signs.Slash 1)) (Some found) e) as (λ _. Sound (47 ∷ c ∷ text) found) [
  | inl h ↦ subst (λ x. Sound (47 ∷ x ∷ text) found) (sym (is_same c 61 h.0)) (longer signs.TypeMore text 2 found refl (omega arith) h.1)
  | inr h ↦ elim (chosen (eqb c 47) (cond (eqb (get_or text 0 0) 61) (as_sign signs.GroupMore 3) (as_sign signs.DoubleSlash 2)) (as_sign signs.Slash 1) (Some found) h.1) as (λ _. Sound (47 ∷ c ∷ text) found) [
    | inl k ↦ subst (λ x. Sound (47 ∷ x ∷ text) found) (sym (is_same c 47 k.0)) (double_slash_sound text found k.1)
    | inr k ↦ longer signs.Slash (c ∷ text) 1 found refl (omega arith) k.1
  ]
]

range_sound : (text : List ℕ) (found : Found) → (cond (eqb (get_or text 0 0) 46) (as_sign signs.RangeHalf 3) (as_sign signs.RangeClosed 2)) ≡ Some found → Sound (46 ∷ 46 ∷ text) found
range_sound [] found e = longer signs.RangeClosed [] 2 found refl (omega arith) e
range_sound (c ∷ text) found e = elim (chosen (eqb c 46) (as_sign signs.RangeHalf 3) (as_sign signs.RangeClosed 2) (Some found) e) as (λ _. Sound (46 ∷ 46 ∷ c ∷ text) found) [
  | inl h ↦ subst (λ x. Sound (46 ∷ 46 ∷ x ∷ text) found) (sym (is_same c 46 h.0)) (longer signs.RangeHalf text 3 found refl (omega arith) h.1)
  | inr h ↦ longer signs.RangeClosed (c ∷ text) 2 found refl (omega arith) h.1
]

dot_sign_sound : (text : List ℕ) (found : Found) → dot_sign text ≡ Some found → Sound (46 ∷ text) found
unfolding dot_sign
dot_sign_sound [] found e = no_some (Sound (46 ∷ []) found) found e
dot_sign_sound (c ∷ text) found e = elim (chosen (eqb c 46) (cond (eqb (get_or text 0 0) 46) (as_sign signs.RangeHalf 3) (as_sign signs.RangeClosed 2)) None (Some found) e) as (λ _. Sound (46 ∷ c ∷ text) found) [
  | inl h ↦ subst (λ x. Sound (46 ∷ x ∷ text) found) (sym (is_same c 46 h.0)) (range_sound text found h.1)
  | inr h ↦ no_some (Sound (46 ∷ c ∷ text) found) found h.1
]

pub sign_found_sound : (c : ℕ) (text : List ℕ) (found : Found) → sign_found c text ≡ Some found → Sound (c ∷ text) found
unfolding sign_found
sign_found_sound c text found e = elim (chosen (eqb c 61) (define_sign text) (cond (eqb c 47) (slash_sign text) (lone_sign c)) (Some found) e) as (λ _. Sound (c ∷ text) found) [
  | inl h ↦ subst (λ x. Sound (x ∷ text) found) (sym (is_same c 61 h.0)) (define_sound text found h.1)
  | inr h ↦ elim (chosen (eqb c 47) (slash_sign text) (lone_sign c) (Some found) h.1) as (λ _. Sound (c ∷ text) found) [
    | inl k ↦ subst (λ x. Sound (x ∷ text) found) (sym (is_same c 47 k.0)) (slash_sound text found k.1)
    | inr k ↦ lone_sound c text found k.1
  ]
]

pub or_none_ok : (o : Option Found) (found : Found) → or_none o ≡ Ok found → o ≡ Some found
or_none_ok None found e = cc
or_none_ok (Some x) found e = cc

control_sound : (c : ℕ) (text : List ℕ) → is_name_start c ≡ true → Sound (46 ∷ c ∷ text) (record { end = 2 + name_rest text; kind = kinds.Control (take (1 + name_rest text) (c ∷ text)); number = None })
unfolding IsLexeme
control_sound c text e =
    let w = name_rest_within text in
    let t : take (1 + name_rest text) (c ∷ text) ≡ c ∷ take (name_rest text) text = rw one-add refl in
    sound_of (46 ∷ c ∷ text) (46 ∷ c ∷ take (name_rest text) text) (drop (name_rest text) text) (record { end = 2 + name_rest text; kind = kinds.Control (take (1 + name_rest text) (c ∷ text)); number = None })
    (ap (λ x. 46 ∷ c ∷ x) (sym (take-append-drop (name_rest text) text)))
    (omega (arith, length-take (name_rest text) text))
    (omega arith)
    (subst IsName (sym t) (e, name_rest_sound text), ap (λ x. 46 ∷ x) (sym t))
    at_none

zero_no_start : is_name_start 0 ≡ false
unfolding is_name_start is_letter
zero_no_start = refl

pub dot_sound : (text : List ℕ) (found : Found) → dot_found text ≡ Ok found → Sound (46 ∷ text) found
unfolding dot_found
dot_sound [] found e = dot_sign_sound [] found (or_none_ok (dot_sign []) found (rw zero_no_start at e))
dot_sound (c ∷ text) found e = elim (tests (is_name_start c)) as (λ _. Sound (46 ∷ c ∷ text) found) [
  | inl h ↦ subst (Sound (46 ∷ c ∷ text)) (ok_one (record { end = 2 + name_rest text; kind = kinds.Control (take (1 + name_rest text) (c ∷ text)); number = None }) found (rw h at e)) (control_sound c text h)
  | inr h ↦ dot_sign_sound (c ∷ text) found (or_none_ok (dot_sign (c ∷ text)) found (rw h at e))
]
