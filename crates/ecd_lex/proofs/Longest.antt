-- Each lexeme at the front of a text is found, or a longer one: data items, signs, strings, and all kinds.
use Rattle.std.proofs.Common.{◌≡◌, ◌⊎◌, inl, inr, ℕ, ◌+◌, ◌≤◌, ◌<◌, true, false, ◌&&◌, List, [], ◌∷◌, ◌++◌, length, take, get_or, refl, sym, ◌∙◌, ap, subst, arith, eqb, length-append, append_assoc, Option, Some, None, Ok}
use Rattle.std.specs.Prelude.{nat_lt}
use Rattle.std.proofs.lemmas.Bool.Decides.{nat_tests}
use Rattle.std.proofs.lemmas.List.{take_at}
use Rattle.ecd_lex.specs.declared.token.Bound.{Bound}
use Rattle.ecd_lex.specs.declared.token.Bound.TheVariants.{Missing}
use Rattle.ecd_lex.specs.declared.token.Sign.{Sign}
use Rattle.ecd_lex.specs.declared.token.Sign.TheVariants as signs
use Rattle.ecd_lex.specs.declared.token.TokenKind.{TokenKind}
use Rattle.ecd_lex.specs.declared.token.TokenKind.TheVariants as kinds
use Rattle.ecd_lex.specs.declared.found.Found.{Found}
use Rattle.ecd_lex.specs.declared.front.Opening.{Opening}
use Rattle.ecd_lex.specs.declared.front.Opening.TheVariants as opens
use Rattle.ecd_lex.specs.Characters.{is_decimal, is_name_start, is_letter, is_h, digit_value}
use Rattle.ecd_lex.specs.Forms.{IsNameRest, is_character, IsUnsigned, IsArgument, IsHash, IsName, IsQuoted, IsHexString, IsBody, IsHexBody, IsLexeme, bound_of, sign_bytes, decoded, hex_decoded}
use Rattle.ecd_lex.specs.Scan.{name_rest, numeral_at, numeral_len, numeral_value, argument_found, hash_found, as_sign, lone_sign, bracket_sign, define_sign, slash_sign, dot_sign, sign_found, quoted, hex_quoted, ending, placed, string_found, or_none, dot_found, opening_of, opening_of_mark, found_by, candidate}
use Rattle.ecd_lex.proofs.Booleans.{tests}
use Rattle.ecd_lex.proofs.Names.{name_rest_most}
use Rattle.ecd_lex.proofs.Numerals.{numeral_most}
use Rattle.ecd_lex.proofs.Strings.{body_found, hex_found}
use Rattle.ecd_lex.proofs.Candidates.{quoted_some, hex_some, letter_hex}
use Rattle.ecd_lex.proofs.Covers.{Covered, covered_same, candidate_at, letter_opens, lt_true, cover_name, cover_int, cover_float, cover_occur}

-- ---- data items by major type

hash_opens : opening_of 35 ≡ opens.Hash
unfolding opening_of opening_of_mark is_name_start is_letter is_decimal
hash_opens = refl

argument_yes : (major c : ℕ) (text : List ℕ) → (eqb c 46 && nat_lt 0 (numeral_at text).digits) ≡ true →
    argument_found major (c ∷ text) ≡ record { end = 3 + numeral_len (numeral_at text); kind = kinds.Hash (Some major) (bound_of (numeral_value (numeral_at text) text)); number = Some 0 }
unfolding argument_found
argument_yes major c text e = rw e refl

argument_no : (major c : ℕ) (text : List ℕ) → (eqb c 46 && nat_lt 0 (numeral_at text).digits) ≡ false → argument_found major (c ∷ text) ≡ record { end = 2; kind = kinds.Hash (Some major) Missing; number = Some 0 }
unfolding argument_found
argument_no major c text e = rw e refl

argument_nil : (major : ℕ) → argument_found major [] ≡ record { end = 2; kind = kinds.Hash (Some major) Missing; number = Some 0 }
unfolding argument_found
argument_nil major = refl

-- a digit alone
argument_covered : (c d : ℕ) (major : ℕ) (text : List ℕ) → Covered (kinds.Hash (Some major) Missing) (c ∷ d ∷ []) (Ok (argument_found major text))
argument_covered c d major [] = subst (λ f. Covered (kinds.Hash (Some major) Missing) (c ∷ d ∷ []) (Ok f)) (sym (argument_nil major)) (omega arith, λ e. refl)
argument_covered c d major (x ∷ text) = elim (tests (eqb x 46 && nat_lt 0 (numeral_at text).digits)) as (λ _. Covered (kinds.Hash (Some major) Missing) (c ∷ d ∷ []) (Ok (argument_found major (x ∷ text)))) [
  | inl h ↦ subst (λ f. Covered (kinds.Hash (Some major) Missing) (c ∷ d ∷ []) (Ok f)) (sym (argument_yes major x text h)) (omega arith, λ e. absurd (omega (arith, e)))
  | inr h ↦ subst (λ f. Covered (kinds.Hash (Some major) Missing) (c ∷ d ∷ []) (Ok f)) (sym (argument_no major x text h)) (omega arith, λ e. refl)
]

argument_end : (major : ℕ) (text : List ℕ) → 2 ≤ (argument_found major text).end
argument_end major [] = subst (λ f. 2 ≤ f.end) (sym (argument_nil major)) (omega arith)
argument_end major (x ∷ text) = elim (tests (eqb x 46 && nat_lt 0 (numeral_at text).digits)) as (λ _. 2 ≤ (argument_found major (x ∷ text)).end) [
  | inl h ↦ subst (λ f. 2 ≤ f.end) (sym (argument_yes major x text h)) (omega arith)
  | inr h ↦ subst (λ f. 2 ≤ f.end) (sym (argument_no major x text h)) (omega arith)
]

-- a digit and a number
argument_number : (c d : ℕ) (major : ℕ) (number more : List ℕ) (n : ℕ) → IsUnsigned number n → Covered (kinds.Hash (Some major) (bound_of n)) (c ∷ d ∷ 46 ∷ number) (Ok (argument_found major (46 ∷ (number ++ more))))
argument_number c d major number more n u =
    let m = numeral_most number more n u in
    let longer = m.longer in
    let h : nat_lt 0 (numeral_at (number ++ more)).digits ≡ true = lt_true (numeral_at (number ++ more)).digits m.some in
    subst (λ f. Covered (kinds.Hash (Some major) (bound_of n)) (c ∷ d ∷ 46 ∷ number) (Ok f)) (sym (argument_yes major 46 (number ++ more) (rw h refl)))
    (omega (arith, longer), λ e. ap (λ v. kinds.Hash (Some major) (bound_of v)) (sym (m.same (omega (arith, e)))))

hash_yes : (c : ℕ) (text : List ℕ) → is_decimal c ≡ true → hash_found (c ∷ text) ≡ argument_found (digit_value c) text
unfolding hash_found
hash_yes c text e = rw e refl

hash_no : (c : ℕ) (text : List ℕ) → is_decimal c ≡ false → hash_found (c ∷ text) ≡ record { end = 1; kind = kinds.Hash None Missing; number = Some 0 }
unfolding hash_found
hash_no c text e = rw e refl

hash_nil : hash_found [] ≡ record { end = 1; kind = kinds.Hash None Missing; number = Some 0 }
unfolding hash_found is_decimal
hash_nil = refl

hash_alone : (text : List ℕ) → Covered (kinds.Hash None Missing) (35 ∷ []) (Ok (hash_found text))
hash_alone [] = subst (λ f. Covered (kinds.Hash None Missing) (35 ∷ []) (Ok f)) (sym hash_nil) (omega arith, λ e. refl)
hash_alone (c ∷ text) = elim (tests (is_decimal c)) as (λ _. Covered (kinds.Hash None Missing) (35 ∷ []) (Ok (hash_found (c ∷ text)))) [
  | inl h ↦ (let w = argument_end (digit_value c) text in subst (λ f. Covered (kinds.Hash None Missing) (35 ∷ []) (Ok f)) (sym (hash_yes c text h)) (omega (arith, w), λ e. absurd (omega (arith, e, w))))
  | inr h ↦ subst (λ f. Covered (kinds.Hash None Missing) (35 ∷ []) (Ok f)) (sym (hash_no c text h)) (omega arith, λ e. refl)
]

hash_argument : (d : ℕ) (argument more : List ℕ) (arg : Bound) → is_decimal d ≡ true → IsArgument argument arg → Covered (kinds.Hash (Some (digit_value d)) arg) (35 ∷ d ∷ argument) (Ok (hash_found (d ∷ (argument ++ more))))
hash_argument d argument more arg h (inl (b, q)) =
    subst (λ f. Covered (kinds.Hash (Some (digit_value d)) arg) (35 ∷ d ∷ argument) (Ok f)) (sym (hash_yes d (argument ++ more) h))
    (subst (λ x. Covered (kinds.Hash (Some (digit_value d)) arg) (35 ∷ d ∷ x) (Ok (argument_found (digit_value d) (x ++ more)))) (sym b)
    (subst (λ x. Covered (kinds.Hash (Some (digit_value d)) x) (35 ∷ d ∷ []) (Ok (argument_found (digit_value d) more))) (sym q) (argument_covered 35 d (digit_value d) more)))
hash_argument d argument more arg h (inr (number, n, b, u, q)) =
    subst (λ f. Covered (kinds.Hash (Some (digit_value d)) arg) (35 ∷ d ∷ argument) (Ok f)) (sym (hash_yes d (argument ++ more) h))
    (subst (λ x. Covered (kinds.Hash (Some (digit_value d)) arg) (35 ∷ d ∷ x) (Ok (argument_found (digit_value d) (x ++ more)))) (sym b)
    (subst (λ x. Covered (kinds.Hash (Some (digit_value d)) x) (35 ∷ d ∷ 46 ∷ number) (Ok (argument_found (digit_value d) (46 ∷ (number ++ more))))) (sym q) (argument_number 35 d (digit_value d) number more n u)))

hash_candidate : (text : List ℕ) → candidate (35 ∷ text) ≡ Ok (hash_found text)
hash_candidate text = candidate_at 35 text opens.Hash hash_opens

cover_hash : (bytes more : List ℕ) (major : Option ℕ) (arg : Bound) → IsHash bytes major arg → Covered (kinds.Hash major arg) bytes (candidate (bytes ++ more))
cover_hash bytes more major arg (inl (b, m, q)) =
    subst (λ x. Covered (kinds.Hash major arg) x (candidate (x ++ more))) (sym b)
    (covered_same (kinds.Hash major arg) (35 ∷ []) (candidate (35 ∷ more)) (Ok (hash_found more)) (hash_candidate more)
    (subst (λ k. Covered k (35 ∷ []) (Ok (hash_found more))) (ap (λ x. kinds.Hash x Missing) (sym m) ∙ ap (kinds.Hash major) (sym q)) (hash_alone more)))
cover_hash bytes more major arg (inr (d, argument, b, h, m, q)) =
    subst (λ x. Covered (kinds.Hash major arg) x (candidate (x ++ more))) (sym b)
    (covered_same (kinds.Hash major arg) (35 ∷ d ∷ argument) (candidate (35 ∷ d ∷ (argument ++ more))) (Ok (hash_found (d ∷ (argument ++ more)))) (hash_candidate (d ∷ (argument ++ more)))
    (subst (λ x. Covered (kinds.Hash x arg) (35 ∷ d ∷ argument) (Ok (hash_found (d ∷ (argument ++ more))))) (sym m) (hash_argument d argument more arg h q)))

-- ---- control operators and signs

dot_opens : opening_of 46 ≡ opens.Dot
unfolding opening_of opening_of_mark is_name_start is_letter is_decimal
dot_opens = refl

control_found : (c : ℕ) (text : List ℕ) → is_name_start c ≡ true → dot_found (c ∷ text) ≡ Ok (record { end = 2 + name_rest text; kind = kinds.Control (take (1 + name_rest text) (c ∷ text)); number = None })
unfolding dot_found
control_found c text e = rw e refl

control_covered : (c : ℕ) (b more : List ℕ) → IsNameRest b → Covered (kinds.Control (c ∷ b)) (46 ∷ c ∷ b) (Ok (record { end = 2 + name_rest (b ++ more); kind = kinds.Control (take (1 + name_rest (b ++ more)) (c ∷ (b ++ more))); number = None }))
control_covered c b more n =
    let m = name_rest_most b more n in
    (omega (arith, m), λ e. ap kinds.Control (sym (take_at (c ∷ b) more (1 + name_rest (b ++ more)) (omega (arith, e)))))

cover_control : (bytes more name : List ℕ) → IsName name → bytes ≡ 46 ∷ name → Covered (kinds.Control name) bytes (candidate (bytes ++ more))
cover_control bytes more [] n e = absurd n
cover_control bytes more (c ∷ b) n e =
    subst (λ x. Covered (kinds.Control (c ∷ b)) x (candidate (x ++ more))) (sym e)
    (covered_same (kinds.Control (c ∷ b)) (46 ∷ c ∷ b) (candidate (46 ∷ c ∷ (b ++ more))) (Ok (record { end = 2 + name_rest (b ++ more); kind = kinds.Control (take (1 + name_rest (b ++ more)) (c ∷ (b ++ more))); number = None })) (candidate_at 46 (c ∷ (b ++ more)) opens.Dot dot_opens ∙ control_found c (b ++ more) n.0) (control_covered c b more n.1))

sign_made : Sign → ℕ → Found
sign_made s n = record { end = n; kind = kinds.Sign s; number = None }

define_any : (text : List ℕ) → (define_sign text ≡ as_sign signs.Arrow 2) ⊎ (define_sign text ≡ as_sign signs.Define 1)
unfolding define_sign
define_any text = elim (tests (eqb (get_or text 0 0) 62)) as (λ _. (define_sign text ≡ as_sign signs.Arrow 2) ⊎ (define_sign text ≡ as_sign signs.Define 1)) [ inl e ↦ inl (rw e refl) | inr e ↦ inr (rw e refl) ]

double_any : (text : List ℕ) → (slash_sign (47 ∷ text) ≡ as_sign signs.GroupMore 3) ⊎ (slash_sign (47 ∷ text) ≡ as_sign signs.DoubleSlash 2)
unfolding slash_sign
double_any text = elim (tests (eqb (get_or text 0 0) 61)) as (λ _. (slash_sign (47 ∷ text) ≡ as_sign signs.GroupMore 3) ⊎ (slash_sign (47 ∷ text) ≡ as_sign signs.DoubleSlash 2)) [ inl e ↦ inl (rw e refl) | inr e ↦ inr (rw e refl) ]

-- what a single slash may be
slash_any : (text : List ℕ) → (slash_sign text ≡ as_sign signs.Slash 1) ⊎ ((s : Sign) × (n : ℕ) × (2 ≤ n) × (slash_sign text ≡ as_sign s n))
unfolding slash_sign
slash_any text = elim (tests (eqb (get_or text 0 0) 61)) as (λ _. (slash_sign text ≡ as_sign signs.Slash 1) ⊎ ((s : Sign) × (n : ℕ) × (2 ≤ n) × (slash_sign text ≡ as_sign s n))) [
  | inl e ↦ inr (signs.TypeMore, 2, omega arith, rw e refl)
  | inr e ↦ elim (tests (eqb (get_or text 0 0) 47)) as (λ _. (slash_sign text ≡ as_sign signs.Slash 1) ⊎ ((s : Sign) × (n : ℕ) × (2 ≤ n) × (slash_sign text ≡ as_sign s n))) [
    | inl f ↦ elim (tests (eqb (get_or text 1 0) 61)) as (λ _. (slash_sign text ≡ as_sign signs.Slash 1) ⊎ ((s : Sign) × (n : ℕ) × (2 ≤ n) × (slash_sign text ≡ as_sign s n))) [
      | inl g ↦ inr (signs.GroupMore, 3, omega arith, rw (e, f, g) refl)
      | inr g ↦ inr (signs.DoubleSlash, 2, omega arith, rw (e, f, g) refl)
    ]
    | inr f ↦ inl (rw (e, f) refl)
  ]
]

range_any : (text : List ℕ) → (dot_sign (46 ∷ text) ≡ as_sign signs.RangeHalf 3) ⊎ (dot_sign (46 ∷ text) ≡ as_sign signs.RangeClosed 2)
unfolding dot_sign
range_any text = elim (tests (eqb (get_or text 0 0) 46)) as (λ _. (dot_sign (46 ∷ text) ≡ as_sign signs.RangeHalf 3) ⊎ (dot_sign (46 ∷ text) ≡ as_sign signs.RangeClosed 2)) [ inl e ↦ inl (rw e refl) | inr e ↦ inr (rw e refl) ]

-- a sign that is found, as long as another or longer
sign_same : (s : Sign) (bytes text : List ℕ) (o : Option Found) → candidate text ≡ or_none o → o ≡ as_sign s (length bytes) → Covered (kinds.Sign s) bytes (candidate text)
sign_same s bytes text o e f = covered_same (kinds.Sign s) bytes (candidate text) (Ok (sign_made s (length bytes))) (e ∙ ap or_none f ∙ unfold sign_made in refl) (unfold sign_made in (omega arith, λ q. refl))

sign_longer : (s t : Sign) (n : ℕ) (bytes text : List ℕ) (o : Option Found) → length bytes < n → candidate text ≡ or_none o → o ≡ as_sign t n → Covered (kinds.Sign s) bytes (candidate text)
sign_longer s t n bytes text o h e f = covered_same (kinds.Sign s) bytes (candidate text) (Ok (sign_made t n)) (e ∙ ap or_none f ∙ unfold sign_made in refl) (unfold sign_made in (omega (arith, h), λ q. absurd (omega (arith, h, q))))

other_candidate : (c : ℕ) (text : List ℕ) → opening_of c ≡ opens.Other → candidate (c ∷ text) ≡ or_none (sign_found c text)
other_candidate c text e = candidate_at c text opens.Other e

dots_found : (text : List ℕ) → dot_found (46 ∷ text) ≡ or_none (dot_sign (46 ∷ text))
unfolding dot_found is_name_start is_letter
dots_found text = refl

dots_candidate : (text : List ℕ) → candidate (46 ∷ 46 ∷ text) ≡ or_none (dot_sign (46 ∷ text))
dots_candidate text = candidate_at 46 (46 ∷ text) opens.Dot dot_opens ∙ dots_found text

opens_38 : opening_of 38 ≡ opens.Other
unfolding opening_of opening_of_mark is_name_start is_letter is_decimal
opens_38 = refl

opens_40 : opening_of 40 ≡ opens.Other
unfolding opening_of opening_of_mark is_name_start is_letter is_decimal
opens_40 = refl

opens_41 : opening_of 41 ≡ opens.Other
unfolding opening_of opening_of_mark is_name_start is_letter is_decimal
opens_41 = refl

opens_44 : opening_of 44 ≡ opens.Other
unfolding opening_of opening_of_mark is_name_start is_letter is_decimal
opens_44 = refl

opens_47 : opening_of 47 ≡ opens.Other
unfolding opening_of opening_of_mark is_name_start is_letter is_decimal
opens_47 = refl

opens_58 : opening_of 58 ≡ opens.Other
unfolding opening_of opening_of_mark is_name_start is_letter is_decimal
opens_58 = refl

opens_60 : opening_of 60 ≡ opens.Other
unfolding opening_of opening_of_mark is_name_start is_letter is_decimal
opens_60 = refl

opens_61 : opening_of 61 ≡ opens.Other
unfolding opening_of opening_of_mark is_name_start is_letter is_decimal
opens_61 = refl

opens_62 : opening_of 62 ≡ opens.Other
unfolding opening_of opening_of_mark is_name_start is_letter is_decimal
opens_62 = refl

opens_91 : opening_of 91 ≡ opens.Other
unfolding opening_of opening_of_mark is_name_start is_letter is_decimal
opens_91 = refl

opens_93 : opening_of 93 ≡ opens.Other
unfolding opening_of opening_of_mark is_name_start is_letter is_decimal
opens_93 = refl

opens_94 : opening_of 94 ≡ opens.Other
unfolding opening_of opening_of_mark is_name_start is_letter is_decimal
opens_94 = refl

opens_123 : opening_of 123 ≡ opens.Other
unfolding opening_of opening_of_mark is_name_start is_letter is_decimal
opens_123 = refl

opens_125 : opening_of 125 ≡ opens.Other
unfolding opening_of opening_of_mark is_name_start is_letter is_decimal
opens_125 = refl

opens_126 : opening_of 126 ≡ opens.Other
unfolding opening_of opening_of_mark is_name_start is_letter is_decimal
opens_126 = refl

define_candidate : (text : List ℕ) → candidate (61 ∷ text) ≡ or_none (define_sign text)
unfolding sign_found
define_candidate text = other_candidate 61 text opens_61

slash_candidate : (text : List ℕ) → candidate (47 ∷ text) ≡ or_none (slash_sign text)
unfolding sign_found
slash_candidate text = other_candidate 47 text opens_47

lone_cover : (s : Sign) (c : ℕ) (text : List ℕ) → opening_of c ≡ opens.Other → sign_found c text ≡ as_sign s 1 → Covered (kinds.Sign s) (c ∷ []) (candidate (c ∷ text))
lone_cover s c text e f = sign_same s (c ∷ []) (c ∷ text) (sign_found c text) (other_candidate c text e) f

slash_cover : (more : List ℕ) → Covered (kinds.Sign signs.Slash) (47 ∷ []) (candidate (47 ∷ more))
slash_cover more = elim (slash_any more) as (λ _. Covered (kinds.Sign signs.Slash) (47 ∷ []) (candidate (47 ∷ more))) [
  | inl e ↦ sign_same signs.Slash (47 ∷ []) (47 ∷ more) (slash_sign more) (slash_candidate more) e
  | inr q ↦ sign_longer signs.Slash q.0 q.1 (47 ∷ []) (47 ∷ more) (slash_sign more) q.2 (slash_candidate more) q.3
]

type_more : (text : List ℕ) → slash_sign (61 ∷ text) ≡ as_sign signs.TypeMore 2
unfolding slash_sign
type_more text = refl

group_more : (text : List ℕ) → slash_sign (47 ∷ 61 ∷ text) ≡ as_sign signs.GroupMore 3
unfolding slash_sign
group_more text = refl

half_range : (text : List ℕ) → dot_sign (46 ∷ 46 ∷ text) ≡ as_sign signs.RangeHalf 3
unfolding dot_sign
half_range text = refl

arrow_sign : (text : List ℕ) → define_sign (62 ∷ text) ≡ as_sign signs.Arrow 2
unfolding define_sign
arrow_sign text = refl

found_caret : (text : List ℕ) → sign_found 94 text ≡ as_sign signs.Caret 1
unfolding sign_found lone_sign bracket_sign
found_caret text = refl

found_colon : (text : List ℕ) → sign_found 58 text ≡ as_sign signs.Colon 1
unfolding sign_found lone_sign bracket_sign
found_colon text = refl

found_comma : (text : List ℕ) → sign_found 44 text ≡ as_sign signs.Comma 1
unfolding sign_found lone_sign bracket_sign
found_comma text = refl

found_less : (text : List ℕ) → sign_found 60 text ≡ as_sign signs.Less 1
unfolding sign_found lone_sign bracket_sign
found_less text = refl

found_greater : (text : List ℕ) → sign_found 62 text ≡ as_sign signs.Greater 1
unfolding sign_found lone_sign bracket_sign
found_greater text = refl

found_openparen : (text : List ℕ) → sign_found 40 text ≡ as_sign signs.OpenParen 1
unfolding sign_found lone_sign bracket_sign
found_openparen text = refl

found_closeparen : (text : List ℕ) → sign_found 41 text ≡ as_sign signs.CloseParen 1
unfolding sign_found lone_sign bracket_sign
found_closeparen text = refl

found_openbracket : (text : List ℕ) → sign_found 91 text ≡ as_sign signs.OpenBracket 1
unfolding sign_found lone_sign bracket_sign
found_openbracket text = refl

found_closebracket : (text : List ℕ) → sign_found 93 text ≡ as_sign signs.CloseBracket 1
unfolding sign_found lone_sign bracket_sign
found_closebracket text = refl

found_openbrace : (text : List ℕ) → sign_found 123 text ≡ as_sign signs.OpenBrace 1
unfolding sign_found lone_sign bracket_sign
found_openbrace text = refl

found_closebrace : (text : List ℕ) → sign_found 125 text ≡ as_sign signs.CloseBrace 1
unfolding sign_found lone_sign bracket_sign
found_closebrace text = refl

found_tilde : (text : List ℕ) → sign_found 126 text ≡ as_sign signs.Tilde 1
unfolding sign_found lone_sign bracket_sign
found_tilde text = refl

found_ampersand : (text : List ℕ) → sign_found 38 text ≡ as_sign signs.Ampersand 1
unfolding sign_found lone_sign bracket_sign
found_ampersand text = refl

cover_sign : (sign : Sign) (more : List ℕ) → Covered (kinds.Sign sign) (sign_bytes sign) (candidate (sign_bytes sign ++ more))
cover_sign signs.Define more = elim (define_any more) as (λ _. Covered (kinds.Sign signs.Define) (61 ∷ []) (candidate (61 ∷ more))) [
  | inl e ↦ sign_longer signs.Define signs.Arrow 2 (61 ∷ []) (61 ∷ more) (define_sign more) (omega arith) (define_candidate more) e
  | inr e ↦ sign_same signs.Define (61 ∷ []) (61 ∷ more) (define_sign more) (define_candidate more) e
]
cover_sign signs.TypeMore more = sign_same signs.TypeMore (47 ∷ 61 ∷ []) (47 ∷ 61 ∷ more) (slash_sign (61 ∷ more)) (slash_candidate (61 ∷ more)) (type_more more)
cover_sign signs.GroupMore more = sign_same signs.GroupMore (47 ∷ 47 ∷ 61 ∷ []) (47 ∷ 47 ∷ 61 ∷ more) (slash_sign (47 ∷ 61 ∷ more)) (slash_candidate (47 ∷ 61 ∷ more)) (group_more more)
cover_sign signs.Slash more = slash_cover more
cover_sign signs.DoubleSlash more = elim (double_any more) as (λ _. Covered (kinds.Sign signs.DoubleSlash) (47 ∷ 47 ∷ []) (candidate (47 ∷ 47 ∷ more))) [
  | inl e ↦ sign_longer signs.DoubleSlash signs.GroupMore 3 (47 ∷ 47 ∷ []) (47 ∷ 47 ∷ more) (slash_sign (47 ∷ more)) (omega arith) (slash_candidate (47 ∷ more)) e
  | inr e ↦ sign_same signs.DoubleSlash (47 ∷ 47 ∷ []) (47 ∷ 47 ∷ more) (slash_sign (47 ∷ more)) (slash_candidate (47 ∷ more)) e
]
cover_sign signs.RangeClosed more = elim (range_any more) as (λ _. Covered (kinds.Sign signs.RangeClosed) (46 ∷ 46 ∷ []) (candidate (46 ∷ 46 ∷ more))) [
  | inl e ↦ sign_longer signs.RangeClosed signs.RangeHalf 3 (46 ∷ 46 ∷ []) (46 ∷ 46 ∷ more) (dot_sign (46 ∷ more)) (omega arith) (dots_candidate more) e
  | inr e ↦ sign_same signs.RangeClosed (46 ∷ 46 ∷ []) (46 ∷ 46 ∷ more) (dot_sign (46 ∷ more)) (dots_candidate more) e
]
cover_sign signs.RangeHalf more = sign_same signs.RangeHalf (46 ∷ 46 ∷ 46 ∷ []) (46 ∷ 46 ∷ 46 ∷ more) (dot_sign (46 ∷ 46 ∷ more)) (dots_candidate (46 ∷ more)) (half_range more)
cover_sign signs.Arrow more = sign_same signs.Arrow (61 ∷ 62 ∷ []) (61 ∷ 62 ∷ more) (define_sign (62 ∷ more)) (define_candidate (62 ∷ more)) (arrow_sign more)
cover_sign signs.Caret more = lone_cover signs.Caret 94 more opens_94 (found_caret more)
cover_sign signs.Colon more = lone_cover signs.Colon 58 more opens_58 (found_colon more)
cover_sign signs.Comma more = lone_cover signs.Comma 44 more opens_44 (found_comma more)
cover_sign signs.Less more = lone_cover signs.Less 60 more opens_60 (found_less more)
cover_sign signs.Greater more = lone_cover signs.Greater 62 more opens_62 (found_greater more)
cover_sign signs.OpenParen more = lone_cover signs.OpenParen 40 more opens_40 (found_openparen more)
cover_sign signs.CloseParen more = lone_cover signs.CloseParen 41 more opens_41 (found_closeparen more)
cover_sign signs.OpenBracket more = lone_cover signs.OpenBracket 91 more opens_91 (found_openbracket more)
cover_sign signs.CloseBracket more = lone_cover signs.CloseBracket 93 more opens_93 (found_closebracket more)
cover_sign signs.OpenBrace more = lone_cover signs.OpenBrace 123 more opens_123 (found_openbrace more)
cover_sign signs.CloseBrace more = lone_cover signs.CloseBrace 125 more opens_125 (found_closebrace more)
cover_sign signs.Tilde more = lone_cover signs.Tilde 126 more opens_126 (found_tilde more)
cover_sign signs.Ampersand more = lone_cover signs.Ampersand 38 more opens_38 (found_ampersand more)

-- ---- strings

pub quote_opens : opening_of 34 ≡ opens.Quote
unfolding opening_of opening_of_mark is_name_start is_letter is_decimal
quote_opens = refl

pub apostrophe_opens : opening_of 39 ≡ opens.Apostrophe
unfolding opening_of opening_of_mark is_name_start is_letter is_decimal
apostrophe_opens = refl

pub quoted_is : (quote : ℕ) (body rest : List ℕ) → is_character quote ≡ true → IsBody quote body → quoted quote (body ++ quote ∷ rest) ≡ ending (length body + 2) (placed 1 3 (decoded quote body))
quoted_is quote body rest q b = quoted_some quote (body ++ quote ∷ rest) (length body) body (body_found quote body rest q b) (take_at body (quote ∷ rest) (length body) refl)

pub hex_is : (body rest : List ℕ) → IsHexBody body → hex_quoted (body ++ 39 ∷ rest) ≡ ending (length body + 3) (placed 2 5 (hex_decoded body))
hex_is body rest b = hex_some (body ++ 39 ∷ rest) (length body) body (hex_found body rest b) (take_at body (39 ∷ rest) (length body) refl)

pub quote_character : (is_character 34 ≡ true) × (is_character 39 ≡ true)
unfolding is_character
quote_character = (refl, refl)

-- a string in quotes, in the text that it begins
around : (quote : ℕ) (body more : List ℕ) → (quote ∷ body ++ quote ∷ []) ++ more ≡ quote ∷ body ++ quote ∷ more
around quote body more = ap (λ x. quote ∷ x) (append_assoc body (quote ∷ []) more)

quoted_cover : (kind : List ℕ → TokenKind) (quote : ℕ) (o : Opening) (bytes more chars : List ℕ) → opening_of quote ≡ o → ((text : List ℕ) → found_by o (quote ∷ text) ≡ string_found kind (quoted quote text)) → is_character quote ≡ true →
    IsQuoted quote bytes chars → Covered (kind chars) bytes (candidate (bytes ++ more))
quoted_cover kind quote o bytes more chars e f c q =
    let text : List ℕ = q.body ++ quote ∷ more in
    let size = length-append q.body (quote ∷ []) in
    subst (λ x. Covered (kind chars) x (candidate (x ++ more))) (sym q.is)
    (subst (λ t. Covered (kind chars) (quote ∷ q.body ++ quote ∷ []) (candidate t)) (sym (around quote q.body more))
    (covered_same (kind chars) (quote ∷ q.body ++ quote ∷ []) (candidate (quote ∷ text)) (Ok (record { end = length q.body + 2; kind = kind chars; number = None }))
    (candidate_at quote text o e ∙ (f text ∙ (ap (string_found kind) (quoted_is quote q.body more c q.closed) ∙ ap (λ r. string_found kind (ending (length q.body + 2) (placed 1 3 r))) q.spells)))
    (omega (arith, size), λ z. refl)))

cover_text : (bytes more chars : List ℕ) → IsQuoted 34 bytes chars → Covered (kinds.Text chars) bytes (candidate (bytes ++ more))
cover_text bytes more chars q = quoted_cover kinds.Text 34 opens.Quote bytes more chars quote_opens (λ text. refl) quote_character.0 q

h_starts : (c : ℕ) → is_h c ≡ true → is_name_start c ≡ true
unfolding is_h is_name_start is_letter
h_starts c e = grind (arith, nat_tests)

pub hex_candidate : (c : ℕ) (text : List ℕ) → is_h c ≡ true → candidate (c ∷ 39 ∷ text) ≡ string_found kinds.Bytes (hex_quoted text)
hex_candidate c text h = candidate_at c (39 ∷ text) opens.Letter (letter_opens c (h_starts c h)) ∙ letter_hex c (39 ∷ text) (rw h refl)

hex_cover : (bytes more spelled : List ℕ) → IsHexString bytes spelled → Covered (kinds.Bytes spelled) bytes (candidate (bytes ++ more))
hex_cover bytes more spelled q =
    let text : List ℕ = q.body ++ 39 ∷ more in
    let size = length-append q.body (39 ∷ []) in
    subst (λ x. Covered (kinds.Bytes spelled) x (candidate (x ++ more))) (sym q.is)
    (subst (λ t. Covered (kinds.Bytes spelled) (q.mark ∷ 39 ∷ q.body ++ 39 ∷ []) (candidate t)) (ap (λ x. q.mark ∷ x) (sym (around 39 q.body more)))
    (covered_same (kinds.Bytes spelled) (q.mark ∷ 39 ∷ q.body ++ 39 ∷ []) (candidate (q.mark ∷ 39 ∷ text)) (Ok (record { end = length q.body + 3; kind = kinds.Bytes spelled; number = None }))
    (hex_candidate q.mark text q.marks ∙ (ap (string_found kinds.Bytes) (hex_is q.body more q.closed) ∙ ap (λ r. string_found kinds.Bytes (ending (length q.body + 3) (placed 2 5 r))) q.spells))
    (omega (arith, size), λ z. refl)))

cover_bytes : (bytes more spelled : List ℕ) → IsQuoted 39 bytes spelled ⊎ IsHexString bytes spelled → Covered (kinds.Bytes spelled) bytes (candidate (bytes ++ more))
cover_bytes bytes more spelled (inl q) = quoted_cover kinds.Bytes 39 opens.Apostrophe bytes more spelled apostrophe_opens (λ text. refl) quote_character.1 q
cover_bytes bytes more spelled (inr q) = hex_cover bytes more spelled q

-- ---- every kind

pub candidate_most : (kind : TokenKind) (bytes more : List ℕ) → IsLexeme kind bytes → Covered kind bytes (candidate (bytes ++ more))
unfolding IsLexeme
candidate_most (kinds.Name name) bytes more (n, e) = subst (λ k. Covered (kinds.Name k) bytes (candidate (bytes ++ more))) (sym e) (cover_name bytes more n)
candidate_most (kinds.Int value) bytes more i = cover_int bytes more value i
candidate_most kinds.Float bytes more f = cover_float bytes more f
candidate_most (kinds.Occur lo hi) bytes more o = cover_occur bytes more lo hi o
candidate_most (kinds.Text chars) bytes more q = cover_text bytes more chars q
candidate_most (kinds.Bytes spelled) bytes more q = cover_bytes bytes more spelled q
candidate_most (kinds.Hash major arg) bytes more h = cover_hash bytes more major arg h
candidate_most (kinds.Control name) bytes more (n, e) = cover_control bytes more name n e
candidate_most (kinds.Sign sign) bytes more e = subst (λ b. Covered (kinds.Sign sign) b (candidate (b ++ more))) (sym e) (cover_sign sign more)
