-- What stands at the front of a text, by its first byte.
use Rattle.std.proofs.Common.{◌≡◌, ◌⊎◌, inl, inr, ℕ, ◌+◌, suc, Bool, true, false, ◌&&◌, List, [], ◌∷◌, ◌++◌, length, take, drop, get_or, refl, sym, ◌∙◌, ap, subst, arith, eqb, length-append, append_assoc, Option, Some, None, Result, Ok, Err}
use Rattle.std.proofs.lemmas.List.{take_at}
use Rattle.ecd_lex.specs.declared.token.Bound.{Bound}
use Rattle.ecd_lex.specs.declared.token.Bound.TheVariants.{Missing, Is}
use Rattle.ecd_lex.specs.declared.token.TokenKind.{TokenKind}
use Rattle.ecd_lex.specs.declared.token.TokenKind.TheVariants as kinds
use Rattle.ecd_lex.specs.declared.found.Found.{Found}
use Rattle.ecd_lex.specs.declared.front.Opening.{Opening}
use Rattle.ecd_lex.specs.declared.front.Opening.TheVariants as opens
use Rattle.ecd_lex.specs.Characters.{is_decimal, is_name_start, is_letter, is_b, is_h}
use Rattle.ecd_lex.specs.Forms.{IsQuoted, IsBody, IsHexBody, IsLexeme, decoded, hex_decoded}
use Rattle.ecd_lex.specs.Scan.{name_found, star_found, number_found, hash_found, lone_sign, bracket_sign, sign_found, quoted, hex_quoted, ending, placed, string_found, body_len, hex_len, or_none, leads_with_zero, signed_found, minus_found, occurrence, is_base64, letter_found, opening_of, opening_of_mark, found_by, candidate, Fault}
use Rattle.ecd_lex.proofs.Booleans.{tests, is_same}
use Rattle.ecd_lex.proofs.Strings.{Closes, body_closes, hex_closes}
use Rattle.ecd_lex.proofs.Founds.{Sound, NumberIs, sound_of, at_none, ok_one, no_ok, and_true, name_sound, star_sound, numeral_some, number_sound}
use Rattle.ecd_lex.proofs.Signs.{hash_sound, dot_sound, sign_found_sound, or_none_ok}

-- ---- strings

by_option : (o : Option ℕ) → (o ≡ None) ⊎ ((n : ℕ) × (o ≡ Some n))
by_option None = inl refl
by_option (Some n) = inr (n, refl)

by_read : (r : Result (List ℕ) ℕ) → ((bytes : List ℕ) × (r ≡ Ok bytes)) ⊎ ((offset : ℕ) × (r ≡ Err offset))
by_read (Ok bytes) = inl (bytes, refl)
by_read (Err offset) = inr (offset, refl)

-- what comes of a string, by its body
pub data Outcome (quote : ℕ) (text : List ℕ) (read : Result (ℕ × List ℕ) Fault) : Type 0 where
  unclosed : body_len quote false text ≡ None → read ≡ Err (0, 2) → Outcome quote text read
  spelled : (n : ℕ) (k : Closes (IsBody quote) quote text n) (chars : List ℕ) → decoded quote k.body ≡ Ok chars → read ≡ Ok (n + 2, chars) → Outcome quote text read
  bad : (n : ℕ) (k : Closes (IsBody quote) quote text n) (offset : ℕ) → decoded quote k.body ≡ Err offset → read ≡ Err (1 + offset, 3) → Outcome quote text read

quoted_none : (quote : ℕ) (text : List ℕ) → body_len quote false text ≡ None → quoted quote text ≡ Err (0, 2)
unfolding quoted
quoted_none quote text e = rw e refl

pub quoted_some : (quote : ℕ) (text : List ℕ) (n : ℕ) (body : List ℕ) → body_len quote false text ≡ Some n → take n text ≡ body → quoted quote text ≡ ending (n + 2) (placed 1 3 (decoded quote body))
unfolding quoted
quoted_some quote text n body e t = rw (e, t) refl

pub closed_body : (P : List ℕ → Type 0) (quote : ℕ) (text : List ℕ) (n : ℕ) (k : Closes P quote text n) → take n text ≡ k.body
closed_body P quote text n k = ap (take n) k.is ∙ take_at k.body (quote ∷ k.rest) n (sym k.count)

pub quoted_outcome : (quote : ℕ) (text : List ℕ) → Outcome quote text (quoted quote text)
quoted_outcome quote text = elim (by_option (body_len quote false text)) as (λ _. Outcome quote text (quoted quote text)) [
  | inl e ↦ unclosed e (quoted_none quote text e)
  | inr s ↦ (let k : Closes (IsBody quote) quote text s.0 = body_closes quote false text s.0 s.1 in
      let q = quoted_some quote text s.0 k.body s.1 (closed_body (IsBody quote) quote text s.0 k) in
      elim (by_read (decoded quote k.body)) as (λ _. Outcome quote text (quoted quote text)) [
        | inl r ↦ spelled s.0 k r.0 r.1 (q ∙ ap (λ x. ending (s.0 + 2) (placed 1 3 x)) r.1)
        | inr r ↦ bad s.0 k r.0 r.1 (q ∙ ap (λ x. ending (s.0 + 2) (placed 1 3 x)) r.1)
      ])
]

-- the same of a hexadecimal string
pub data HexOutcome (text : List ℕ) (read : Result (ℕ × List ℕ) Fault) : Type 0 where
  hex_unclosed : hex_len false text ≡ None → read ≡ Err (1, 2) → HexOutcome text read
  hex_spelled : (n : ℕ) (k : Closes IsHexBody 39 text n) (bytes : List ℕ) → hex_decoded k.body ≡ Ok bytes → read ≡ Ok (n + 3, bytes) → HexOutcome text read
  hex_bad : (n : ℕ) (k : Closes IsHexBody 39 text n) (offset : ℕ) → hex_decoded k.body ≡ Err offset → read ≡ Err (2 + offset, 5) → HexOutcome text read

hex_none : (text : List ℕ) → hex_len false text ≡ None → hex_quoted text ≡ Err (1, 2)
unfolding hex_quoted
hex_none text e = rw e refl

pub hex_some : (text : List ℕ) (n : ℕ) (body : List ℕ) → hex_len false text ≡ Some n → take n text ≡ body → hex_quoted text ≡ ending (n + 3) (placed 2 5 (hex_decoded body))
unfolding hex_quoted
hex_some text n body e t = rw (e, t) refl

pub hex_outcome : (text : List ℕ) → HexOutcome text (hex_quoted text)
hex_outcome text = elim (by_option (hex_len false text)) as (λ _. HexOutcome text (hex_quoted text)) [
  | inl e ↦ hex_unclosed e (hex_none text e)
  | inr s ↦ (let k : Closes IsHexBody 39 text s.0 = hex_closes false text s.0 s.1 in
      let q = hex_some text s.0 k.body s.1 (closed_body IsHexBody 39 text s.0 k) in
      elim (by_read (hex_decoded k.body)) as (λ _. HexOutcome text (hex_quoted text)) [
        | inl r ↦ hex_spelled s.0 k r.0 r.1 (q ∙ ap (λ x. ending (s.0 + 3) (placed 2 5 x)) r.1)
        | inr r ↦ hex_bad s.0 k r.0 r.1 (q ∙ ap (λ x. ending (s.0 + 3) (placed 2 5 x)) r.1)
      ])
]

string_ok : (quote : ℕ) (text : List ℕ) (n : ℕ) (k : Closes (IsBody quote) quote text n) (chars : List ℕ) (kind : TokenKind) → decoded quote k.body ≡ Ok chars →
    (IsQuoted quote (quote ∷ k.body ++ quote ∷ []) chars → IsLexeme kind (quote ∷ k.body ++ quote ∷ [])) → NumberIs kind (quote ∷ k.body ++ quote ∷ []) None →
    Sound (quote ∷ text) (record { end = n + 2; kind = kind; number = None })
string_ok quote text n k chars kind d l m =
    let size : length (quote ∷ k.body ++ quote ∷ []) ≡ n + 2 = omega (arith, length-append k.body (quote ∷ []), k.count) in
    sound_of (quote ∷ text) (quote ∷ k.body ++ quote ∷ []) k.rest (record { end = n + 2; kind = kind; number = None })
    (ap (λ x. quote ∷ x) (k.is ∙ sym (append_assoc k.body (quote ∷ []) k.rest)))
    (sym size)
    (omega arith)
    (l (record { body = k.body; is = refl; closed = k.closed; spells = d }))
    m

string_sound : (kind : List ℕ → TokenKind) (quote : ℕ) (text : List ℕ) (found : Found) → ((bytes chars : List ℕ) → IsQuoted quote bytes chars → IsLexeme (kind chars) bytes) → ((bytes chars : List ℕ) → NumberIs (kind chars) bytes None) →
    (read : Result (ℕ × List ℕ) Fault) → Outcome quote text read → string_found kind read ≡ Ok found → Sound (quote ∷ text) found
string_sound kind quote text found l m read (unclosed e r) f = no_ok (Sound (quote ∷ text) found) (0, 2) found (sym (ap (string_found kind) r) ∙ f)
string_sound kind quote text found l m read (spelled n k chars d r) f =
    subst (Sound (quote ∷ text)) (ok_one (record { end = n + 2; kind = kind chars; number = None }) found (sym (ap (string_found kind) r) ∙ f))
    (string_ok quote text n k chars (kind chars) d (λ q. l (quote ∷ k.body ++ quote ∷ []) chars q) (m (quote ∷ k.body ++ quote ∷ []) chars))
string_sound kind quote text found l m read (bad n k offset d r) f = no_ok (Sound (quote ∷ text) found) (1 + offset, 3) found (sym (ap (string_found kind) r) ∙ f)

text_sound : (text : List ℕ) (found : Found) → string_found kinds.Text (quoted 34 text) ≡ Ok found → Sound (34 ∷ text) found
unfolding IsLexeme
text_sound text found e = string_sound kinds.Text 34 text found (λ bytes chars q. q) (λ bytes chars. at_none) (quoted 34 text) (quoted_outcome 34 text) e

bytes_sound : (text : List ℕ) (found : Found) → string_found kinds.Bytes (quoted 39 text) ≡ Ok found → Sound (39 ∷ text) found
unfolding IsLexeme
bytes_sound text found e = string_sound kinds.Bytes 39 text found (λ bytes chars q. inl q) (λ bytes chars. at_none) (quoted 39 text) (quoted_outcome 39 text) e

hex_sound_by : (c : ℕ) (text : List ℕ) (found : Found) → is_h c ≡ true → (read : Result (ℕ × List ℕ) Fault) → HexOutcome text read → string_found kinds.Bytes read ≡ Ok found → Sound (c ∷ 39 ∷ text) found
unfolding IsLexeme
hex_sound_by c text found h read (hex_unclosed e r) f = no_ok (Sound (c ∷ 39 ∷ text) found) (1, 2) found (sym (ap (string_found kinds.Bytes) r) ∙ f)
hex_sound_by c text found h read (hex_spelled n k bytes d r) f =
    let size : length (c ∷ 39 ∷ k.body ++ 39 ∷ []) ≡ n + 3 = omega (arith, length-append k.body (39 ∷ []), k.count) in
    subst (Sound (c ∷ 39 ∷ text)) (ok_one (record { end = n + 3; kind = kinds.Bytes bytes; number = None }) found (sym (ap (string_found kinds.Bytes) r) ∙ f))
    (sound_of (c ∷ 39 ∷ text) (c ∷ 39 ∷ k.body ++ 39 ∷ []) k.rest (record { end = n + 3; kind = kinds.Bytes bytes; number = None })
    (ap (λ x. c ∷ 39 ∷ x) (k.is ∙ sym (append_assoc k.body (39 ∷ []) k.rest)))
    (sym size)
    (omega arith)
    (inr record { mark = c; body = k.body; marks = h; is = refl; closed = k.closed; spells = d })
    at_none)
hex_sound_by c text found h read (hex_bad n k offset d r) f = no_ok (Sound (c ∷ 39 ∷ text) found) (2 + offset, 5) found (sym (ap (string_found kinds.Bytes) r) ∙ f)

-- ---- names, and strings behind their marks

-- how a text of a letter goes on
pub data Letter (c : ℕ) (text : List ℕ) (read : Result Found Fault) : Type 0 where
  hexadecimal : (rest : List ℕ) → text ≡ 39 ∷ rest → is_h c ≡ true → read ≡ string_found kinds.Bytes (hex_quoted rest) → Letter c text read
  base64 : (rest : List ℕ) → text ≡ 54 ∷ 52 ∷ 39 ∷ rest → is_b c ≡ true → read ≡ Err (0, 6) → Letter c text read
  word : ((rest : List ℕ) → is_h c ≡ true → text ≡ 39 ∷ rest → ⊥) → read ≡ Ok (name_found (c ∷ text)) → Letter c text read

first_three : (a b c : ℕ) (text : List ℕ) → get_or text 0 0 ≡ suc a → get_or text 1 0 ≡ suc b → get_or text 2 0 ≡ suc c → text ≡ suc a ∷ suc b ∷ suc c ∷ drop 3 text
first_three a b c [] e f g = absurd (omega (arith, e))
first_three a b c (x ∷ []) e f g = absurd (omega (arith, f))
first_three a b c (x ∷ y ∷ []) e f g = absurd (omega (arith, g))
first_three a b c (x ∷ y ∷ z ∷ text) e f g = ap (λ k. k ∷ y ∷ z ∷ text) e ∙ (ap (λ k. suc a ∷ k ∷ z ∷ text) f ∙ ap (λ k. suc a ∷ suc b ∷ k ∷ text) g)

base64_is : (c : ℕ) (text : List ℕ) → is_base64 (c ∷ text) ≡ true → (is_b c ≡ true) × (text ≡ 54 ∷ 52 ∷ 39 ∷ drop 3 text)
unfolding is_base64
base64_is c text e =
    let p = and_true (is_b c && eqb (get_or text 0 0) 54) (eqb (get_or text 1 0) 52 && eqb (get_or text 2 0) 39) e in
    let q = and_true (is_b c) (eqb (get_or text 0 0) 54) p.0 in
    let r = and_true (eqb (get_or text 1 0) 52) (eqb (get_or text 2 0) 39) p.1 in
    (q.0, first_three 53 51 38 text (is_same (get_or text 0 0) 54 q.1) (is_same (get_or text 1 0) 52 r.0) (is_same (get_or text 2 0) 39 r.1))

first_one : (a : ℕ) (text : List ℕ) → get_or text 0 0 ≡ suc a → text ≡ suc a ∷ drop 1 text
first_one a [] e = absurd (omega (arith, e))
first_one a (x ∷ text) e = ap (λ k. k ∷ text) e

pub letter_hex : (c : ℕ) (text : List ℕ) → (is_h c && eqb (get_or text 0 0) 39) ≡ true → letter_found (c ∷ text) ≡ string_found kinds.Bytes (hex_quoted (drop 1 text))
unfolding letter_found
letter_hex c text e = rw e refl

pub letter_base64 : (c : ℕ) (text : List ℕ) → (is_h c && eqb (get_or text 0 0) 39) ≡ false → is_base64 (c ∷ text) ≡ true → letter_found (c ∷ text) ≡ Err (0, 6)
unfolding letter_found
letter_base64 c text e f = rw (e, f) refl

letter_name : (c : ℕ) (text : List ℕ) → (is_h c && eqb (get_or text 0 0) 39) ≡ false → is_base64 (c ∷ text) ≡ false → letter_found (c ∷ text) ≡ Ok (name_found (c ∷ text))
unfolding letter_found
letter_name c text e f = rw (e, f) refl

no_true : (a b : Bool) → (a && b) ≡ false → a ≡ true → b ≡ true → ⊥
no_true true true e h t = cc
no_true true false e h t = cc
no_true false b e h t = cc

not_hex : (c : ℕ) (text rest : List ℕ) → (is_h c && eqb (get_or text 0 0) 39) ≡ false → is_h c ≡ true → text ≡ 39 ∷ rest → ⊥
not_hex c text rest e h t = no_true (is_h c) (eqb (get_or text 0 0) 39) e h (ap (λ x. eqb (get_or x 0 0) 39) t)

pub letter_kind : (c : ℕ) (text : List ℕ) → Letter c text (letter_found (c ∷ text))
letter_kind c text = elim (tests (is_h c && eqb (get_or text 0 0) 39)) as (λ _. Letter c text (letter_found (c ∷ text))) [
  | inl e ↦ (let p = and_true (is_h c) (eqb (get_or text 0 0) 39) e in hexadecimal (drop 1 text) (first_one 38 text (is_same (get_or text 0 0) 39 p.1)) p.0 (letter_hex c text e))
  | inr e ↦ elim (tests (is_base64 (c ∷ text))) as (λ _. Letter c text (letter_found (c ∷ text))) [
    | inl f ↦ (let p = base64_is c text f in base64 (drop 3 text) p.1 p.0 (letter_base64 c text e f))
    | inr f ↦ word (λ rest h t. not_hex c text rest e h t) (letter_name c text e f)
  ]
]

letter_sound_by : (c : ℕ) (text : List ℕ) (found : Found) → is_name_start c ≡ true → (read : Result Found Fault) → Letter c text read → read ≡ Ok found → Sound (c ∷ text) found
letter_sound_by c text found s read (hexadecimal rest t h r) e = subst (λ x. Sound (c ∷ x) found) (sym t) (hex_sound_by c rest found h (hex_quoted rest) (hex_outcome rest) (sym r ∙ e))
letter_sound_by c text found s read (base64 rest t b r) e = no_ok (Sound (c ∷ text) found) (0, 6) found (sym r ∙ e)
letter_sound_by c text found s read (word n r) e = subst (Sound (c ∷ text)) (ok_one (name_found (c ∷ text)) found (sym r ∙ e)) (name_sound c text s)

-- ---- by the opening

abbrev pub Opens : Opening → ℕ → Type 0
Opens opens.Letter c = is_name_start c ≡ true
Opens opens.Digit c = is_decimal c ≡ true
Opens opens.Minus c = c ≡ 45
Opens opens.Quote c = c ≡ 34
Opens opens.Apostrophe c = c ≡ 39
Opens opens.Question c = c ≡ 63
Opens opens.Plus c = c ≡ 43
Opens opens.Star c = c ≡ 42
Opens opens.Hash c = c ≡ 35
Opens opens.Dot c = c ≡ 46
Opens opens.Other c = Unit {0}

opens_mark : (c : ℕ) → Opens (opening_of_mark c) c
unfolding opening_of_mark
opens_mark c =
    elim (tests (eqb c 63)) as (λ _. Opens (opening_of_mark c) c) [
      | inl e0 ↦ rw e0 (is_same c 63 e0)
      | inr e0 ↦ elim (tests (eqb c 43)) as (λ _. Opens (opening_of_mark c) c) [
        | inl e1 ↦ rw (e0, e1) (is_same c 43 e1)
        | inr e1 ↦ elim (tests (eqb c 42)) as (λ _. Opens (opening_of_mark c) c) [
          | inl e2 ↦ rw (e0, e1, e2) (is_same c 42 e2)
          | inr e2 ↦ elim (tests (eqb c 35)) as (λ _. Opens (opening_of_mark c) c) [
            | inl e3 ↦ rw (e0, e1, e2, e3) (is_same c 35 e3)
            | inr e3 ↦ elim (tests (eqb c 46)) as (λ _. Opens (opening_of_mark c) c) [
              | inl e4 ↦ rw (e0, e1, e2, e3, e4) (is_same c 46 e4)
              | inr e4 ↦ rw (e0, e1, e2, e3, e4) tt
            ]
          ]
        ]
      ]
    ]

pub opens_is : (c : ℕ) → Opens (opening_of c) c
unfolding opening_of
opens_is c = elim (tests (is_name_start c)) as (λ _. Opens (opening_of c) c) [
  | inl e ↦ rw e e
  | inr e ↦ elim (tests (is_decimal c)) as (λ _. Opens (opening_of c) c) [
    | inl f ↦ rw (e, f) f
    | inr f ↦ elim (tests (eqb c 45)) as (λ _. Opens (opening_of c) c) [
      | inl g ↦ rw (e, f, g) (is_same c 45 g)
      | inr g ↦ elim (tests (eqb c 34)) as (λ _. Opens (opening_of c) c) [
        | inl h ↦ rw (e, f, g, h) (is_same c 34 h)
        | inr h ↦ elim (tests (eqb c 39)) as (λ _. Opens (opening_of c) c) [
          | inl i ↦ rw (e, f, g, h, i) (is_same c 39 i)
          | inr i ↦ rw (e, f, g, h, i) (opens_mark c)
        ]
      ]
    ]
  ]
]

signed_ok : (negative : Bool) (number : List ℕ) (found : Found) → signed_found negative number ≡ Ok found → number_found negative number ≡ found
unfolding signed_found
signed_ok negative number found e = elim (tests (leads_with_zero number)) as (λ _. number_found negative number ≡ found) [
  | inl h ↦ no_ok (number_found negative number ≡ found) (0, 4) found (rw h at e)
  | inr h ↦ ok_one (number_found negative number) found (rw h at e)
]

digit_sound : (c : ℕ) (text : List ℕ) (found : Found) → is_decimal c ≡ true → signed_found false (c ∷ text) ≡ Ok found → Sound (c ∷ text) found
digit_sound c text found d e = subst (Sound (c ∷ text)) (signed_ok false (c ∷ text) found e) (number_sound false (c ∷ text) (numeral_some c text d))

pub zero_no_decimal : is_decimal 0 ≡ false
unfolding is_decimal
zero_no_decimal = refl

minus_sound : (text : List ℕ) (found : Found) → minus_found (45 ∷ text) ≡ Ok found → Sound (45 ∷ text) found
unfolding minus_found
minus_sound [] found e = no_ok (Sound (45 ∷ []) found) (0, 1) found (rw zero_no_decimal at e)
minus_sound (c ∷ text) found e = elim (tests (is_decimal c)) as (λ _. Sound (45 ∷ c ∷ text) found) [
  | inl h ↦ subst (Sound (45 ∷ c ∷ text)) (signed_ok true (c ∷ text) found (rw h at e)) (number_sound true (c ∷ text) (numeral_some c text h))
  | inr h ↦ no_ok (Sound (45 ∷ c ∷ text) found) (0, 1) found (rw h at e)
]

no_number : (lo hi : Bound) (c : ℕ) → NumberIs (kinds.Occur lo hi) (c ∷ []) None
no_number lo hi c offset = (λ q. cc, λ q. absurd (omega (arith, q.0, q.1)))

question_sound : (text : List ℕ) → Sound (63 ∷ text) (occurrence (Is 0) (Is 1))
unfolding IsLexeme
question_sound text = sound_of (63 ∷ text) (63 ∷ []) text (occurrence (Is 0) (Is 1)) refl refl (omega arith) (inl (refl, refl, refl)) (no_number (Is 0) (Is 1) 63)

plus_sound : (text : List ℕ) → Sound (43 ∷ text) (occurrence (Is 1) Missing)
unfolding IsLexeme
plus_sound text = sound_of (43 ∷ text) (43 ∷ []) text (occurrence (Is 1) Missing) refl refl (omega arith) (inr (inl (refl, refl, refl))) (no_number (Is 1) Missing 43)

found_sound : (o : Opening) (c : ℕ) (text : List ℕ) (found : Found) → Opens o c → found_by o (c ∷ text) ≡ Ok found → Sound (c ∷ text) found
found_sound opens.Letter c text found p e = letter_sound_by c text found p (letter_found (c ∷ text)) (letter_kind c text) e
found_sound opens.Digit c text found p e = digit_sound c text found p e
found_sound opens.Minus c text found p e = subst (λ x. Sound (x ∷ text) found) (sym p) (minus_sound text found (subst (λ x. minus_found (x ∷ text) ≡ Ok found) p e))
found_sound opens.Quote c text found p e = subst (λ x. Sound (x ∷ text) found) (sym p) (text_sound text found e)
found_sound opens.Apostrophe c text found p e = subst (λ x. Sound (x ∷ text) found) (sym p) (bytes_sound text found e)
found_sound opens.Question c text found p e = subst (λ x. Sound (x ∷ text) found) (sym p) (subst (Sound (63 ∷ text)) (ok_one (occurrence (Is 0) (Is 1)) found e) (question_sound text))
found_sound opens.Plus c text found p e = subst (λ x. Sound (x ∷ text) found) (sym p) (subst (Sound (43 ∷ text)) (ok_one (occurrence (Is 1) Missing) found e) (plus_sound text))
found_sound opens.Star c text found p e = subst (λ x. Sound (x ∷ text) found) (sym p) (subst (Sound (42 ∷ text)) (ok_one (star_found Missing 0 text) found e) (star_sound [] text Missing 0 refl (inl (refl, refl)) tt))
found_sound opens.Hash c text found p e = subst (λ x. Sound (x ∷ text) found) (sym p) (subst (Sound (35 ∷ text)) (ok_one (hash_found text) found e) (hash_sound text))
found_sound opens.Dot c text found p e = subst (λ x. Sound (x ∷ text) found) (sym p) (dot_sound text found e)
found_sound opens.Other c text found p e = sign_found_sound c text found (or_none_ok (sign_found c text) found e)

zero_other : opening_of 0 ≡ opens.Other
unfolding opening_of opening_of_mark is_name_start is_letter is_decimal
zero_other = refl

no_sign : sign_found 0 [] ≡ None
unfolding sign_found lone_sign bracket_sign
no_sign = refl

pub candidate_sound : (text : List ℕ) (found : Found) → candidate text ≡ Ok found → Sound text found
unfolding candidate
candidate_sound [] found e = no_ok (Sound [] found) (0, 1) found (sym (ap (λ o. found_by o []) zero_other ∙ ap or_none no_sign) ∙ e)
candidate_sound (c ∷ text) found e = found_sound (opening_of c) c text found (opens_is c) e
