-- The faults at the front of a text.
use Rattle.std.proofs.Common.{◌≡◌, ◌⊎◌, inl, inr, ℕ, ◌+◌, Bool, true, false, List, [], ◌∷◌, ◌++◌, length, take, drop, get_or, refl, sym, ◌∙◌, ap, subst, arith, eqb, append_assoc, Option, Some, None, Result, Ok, Err}
use Rattle.std.proofs.lemmas.Bool.Decides.{nat_tests}
use Rattle.ecd_lex.specs.declared.character.Radix.TheVariants.{Decimal}
use Rattle.ecd_lex.specs.declared.token.Bound.TheVariants.{Missing, Is}
use Rattle.ecd_lex.specs.declared.token.TokenKind.{TokenKind}
use Rattle.ecd_lex.specs.declared.token.TokenKind.TheVariants as kinds
use Rattle.ecd_lex.specs.declared.found.Found.{Found}
use Rattle.ecd_lex.specs.declared.front.Opening.{Opening}
use Rattle.ecd_lex.specs.declared.front.Opening.TheVariants as opens
use Rattle.ecd_lex.specs.Characters.{base_of, number_after, is_decimal, is_digit, is_name_start, is_letter, is_b, is_h, digit_value}
use Rattle.ecd_lex.specs.Forms.{LeadsWithZero, is_character, IsBody, IsHexBody, IsLexeme, minus, int_of, decoded, hex_decoded}
use Rattle.ecd_lex.specs.Faults.{IsQuote, IsBadByte, IsOpenString, IsBadEscape, IsPadded, IsBadHex, IsBase64, Breaks}
use Rattle.ecd_lex.specs.Scan.{name_rest, name_found, star_found, number_found, hash_found, dot_sign, sign_found, quoted, hex_quoted, string_found, body_len, hex_len, or_none, dot_found, leads_with_zero, signed_found, minus_found, occurrence, letter_found, opening_of, opening_of_mark, found_by, candidate, Fault}
use Rattle.ecd_lex.proofs.Booleans.{tests, is_same}
use Rattle.ecd_lex.proofs.Strings.{Closes, body_found, hex_found}
use Rattle.ecd_lex.proofs.Founds.{and_true}
use Rattle.ecd_lex.proofs.Candidates.{Outcome, unclosed, spelled, bad, quoted_outcome, HexOutcome, hex_unclosed, hex_spelled, hex_bad, hex_outcome, Letter, hexadecimal, base64, word, letter_kind, Opens, opens_is, zero_no_decimal}
use Rattle.ecd_lex.proofs.Covers.{Covered, candidate_at}
use Rattle.ecd_lex.proofs.Longest.{candidate_most, quote_character}

-- a rule that is broken at the front, but for numbers that go on
abbrev pub Stops : (text : List ℕ) (offset rule : ℕ) → Type 0
Stops text offset rule =
    ((rule ≡ 1) × IsBadByte text offset)
    ⊎ (((rule ≡ 2) × IsOpenString text offset)
    ⊎ (((rule ≡ 3) × IsBadEscape text offset)
    ⊎ (((rule ≡ 4) × IsPadded text × (offset ≡ 0))
    ⊎ (((rule ≡ 5) × IsBadHex text offset)
    ⊎ ((rule ≡ 6) × IsBase64 text offset)))))

pub stops_break : (text : List ℕ) (offset rule : ℕ) → Stops text offset rule → Breaks text offset rule
stops_break text offset rule (inl s) = inl s
stops_break text offset rule (inr (inl s)) = inr (inl s)
stops_break text offset rule (inr (inr (inl s))) = inr (inr (inl s))
stops_break text offset rule (inr (inr (inr (inl (r, p, o))))) = inr (inr (inr (inl (r, inl (p, o)))))
stops_break text offset rule (inr (inr (inr (inr (inl s))))) = inr (inr (inr (inr (inl s))))
stops_break text offset rule (inr (inr (inr (inr (inr s))))) = inr (inr (inr (inr (inr s))))

err_one : (a b : Fault) → ◌≡◌ {A = Result Found Fault} (Err a) (Err b) → a ≡ b
err_one a b e = cc

pub no_err : (A : Type 0) (f : Fault) (y : Found) → ◌≡◌ {A = Result Found Fault} (Ok y) (Err f) → A
no_err A f y e = cc

-- a fault, by what was found instead
stops_at : (text : List ℕ) (read : Result Found Fault) (p q : Fault) → read ≡ Err p → read ≡ Err q → Stops text p.0 p.1 → Stops text q.0 q.1
stops_at text read p q e f s = subst (λ x. Stops text x.0 x.1) (err_one p q (sym e ∙ f)) s

no_length : (n : ℕ) (o : Option ℕ) → o ≡ None → o ≡ Some n → ⊥
no_length n o e f = cc

-- ---- strings

quote_is : (quote : ℕ) → IsQuote quote → is_character quote ≡ true
quote_is quote (inl e) = ap is_character e ∙ quote_character.0
quote_is quote (inr e) = ap is_character e ∙ quote_character.1

open_stops : (quote : ℕ) (text : List ℕ) → IsQuote quote → body_len quote false text ≡ None → Stops (quote ∷ text) 0 2
open_stops quote text q e = inr (inl (
  refl,
  inl record {
    quote = quote;
    rest = text;
    quotes = q;
    is = refl;
    front = refl;
    open_ = λ body more b t. no_length (length body) (body_len quote false text) e (ap (body_len quote false) t ∙ body_found quote body more (quote_is quote q) b);
  },
))

escape_stops : (quote : ℕ) (text : List ℕ) (n : ℕ) (k : Closes (IsBody quote) quote text n) (offset : ℕ) → IsQuote quote → decoded quote k.body ≡ Err offset → Stops (quote ∷ text) (1 + offset) 3
escape_stops quote text n k offset q d = inr (inr (inl (
  refl,
  record {
    quote = quote;
    body = k.body;
    more = k.rest;
    at_ = offset;
    quotes = q;
    is = ap (λ x. quote ∷ x) k.is;
    closed = k.closed;
    bad = d;
    behind = refl;
  },
)))

string_stops : (kind : List ℕ → TokenKind) (quote : ℕ) (text : List ℕ) (p : Fault) → IsQuote quote → (read : Result (ℕ × List ℕ) Fault) → Outcome quote text read → string_found kind read ≡ Err p → Stops (quote ∷ text) p.0 p.1
string_stops kind quote text p q read (unclosed e r) f = stops_at (quote ∷ text) (string_found kind read) (0, 2) p (ap (string_found kind) r) f (open_stops quote text q e)
string_stops kind quote text p q read (spelled n k chars d r) f = no_err (Stops (quote ∷ text) p.0 p.1) p (record { end = n + 2; kind = kind chars; number = None }) (sym (ap (string_found kind) r) ∙ f)
string_stops kind quote text p q read (bad n k offset d r) f = stops_at (quote ∷ text) (string_found kind read) (1 + offset, 3) p (ap (string_found kind) r) f (escape_stops quote text n k offset q d)

hex_open_stops : (c : ℕ) (text : List ℕ) → is_h c ≡ true → hex_len false text ≡ None → Stops (c ∷ 39 ∷ text) 1 2
hex_open_stops c text h e = inr (inl (
  refl,
  inr record {
    mark = c;
    rest = text;
    marks = h;
    is = refl;
    behind = refl;
    open_ = λ body more b t. no_length (length body) (hex_len false text) e (ap (hex_len false) t ∙ hex_found body more b);
  },
))

hex_bad_stops : (c : ℕ) (text : List ℕ) (n : ℕ) (k : Closes IsHexBody 39 text n) (offset : ℕ) → is_h c ≡ true → hex_decoded k.body ≡ Err offset → Stops (c ∷ 39 ∷ text) (2 + offset) 5
hex_bad_stops c text n k offset h d = inr (inr (inr (inr (inl (
  refl,
  record {
    mark = c;
    body = k.body;
    more = k.rest;
    at_ = offset;
    marks = h;
    is = ap (λ x. c ∷ 39 ∷ x) k.is;
    closed = k.closed;
    bad = d;
    behind = refl;
  },
)))))

hex_stops : (c : ℕ) (text : List ℕ) (p : Fault) → is_h c ≡ true → (read : Result (ℕ × List ℕ) Fault) → HexOutcome text read → string_found kinds.Bytes read ≡ Err p → Stops (c ∷ 39 ∷ text) p.0 p.1
hex_stops c text p h read (hex_unclosed e r) f = stops_at (c ∷ 39 ∷ text) (string_found kinds.Bytes read) (1, 2) p (ap (string_found kinds.Bytes) r) f (hex_open_stops c text h e)
hex_stops c text p h read (hex_spelled n k made d r) f = no_err (Stops (c ∷ 39 ∷ text) p.0 p.1) p (record { end = n + 3; kind = kinds.Bytes made; number = None }) (sym (ap (string_found kinds.Bytes) r) ∙ f)
hex_stops c text p h read (hex_bad n k offset d r) f = stops_at (c ∷ 39 ∷ text) (string_found kinds.Bytes read) (2 + offset, 5) p (ap (string_found kinds.Bytes) r) f (hex_bad_stops c text n k offset h d)

letter_stops : (c : ℕ) (text : List ℕ) (p : Fault) (read : Result Found Fault) → Letter c text read → read ≡ Err p → Stops (c ∷ text) p.0 p.1
letter_stops c text p read (hexadecimal rest t h r) e = subst (λ x. Stops (c ∷ x) p.0 p.1) (sym t) (hex_stops c rest p h (hex_quoted rest) (hex_outcome rest) (sym r ∙ e))
letter_stops c text p read (base64 rest t b r) e = stops_at (c ∷ text) read (0, 6) p r e (inr (inr (inr (inr (inr (refl, record { mark = c; more = rest; marks = b; is = ap (λ x. c ∷ x) t; front = refl }))))))
letter_stops c text p read (word n r) e = no_err (Stops (c ∷ text) p.0 p.1) p (name_found (c ∷ text)) (sym r ∙ e)

-- ---- numbers

pub differ : {A : Type 0} (b : Bool) → b ≡ true → b ≡ false → A
differ b e f = cc

leads_to : (number : List ℕ) → leads_with_zero number ≡ true → LeadsWithZero number
unfolding leads_with_zero
leads_to [] e = cc
leads_to (c ∷ []) e = differ (is_decimal 0) (and_true (eqb c 48) (is_decimal 0) e).1 zero_no_decimal
leads_to (c ∷ d ∷ number) e = let p = and_true (eqb c 48) (is_decimal d) e in (is_same c 48 p.0, p.1)

padded_stops : (negative : Bool) (number : List ℕ) → leads_with_zero number ≡ true → Stops (minus negative ++ number) 0 4
padded_stops negative number e = inr (inr (inr (inl (refl, record { negative = negative; number = number; is = refl; padded = leads_to number e }, refl))))

signed_stops : (negative : Bool) (number : List ℕ) (p : Fault) → signed_found negative number ≡ Err p → Stops (minus negative ++ number) p.0 p.1
unfolding signed_found
signed_stops negative number p e = elim (tests (leads_with_zero number)) as (λ _. Stops (minus negative ++ number) p.0 p.1) [
  | inl h ↦ stops_at (minus negative ++ number) (Err (0, 4)) (0, 4) p refl (rw h at e) (padded_stops negative number h)
  | inr h ↦ no_err (Stops (minus negative ++ number) p.0 p.1) p (number_found negative number) (rw h at e)
]

-- ---- bad bytes

bad_covered : (kind : TokenKind) (bytes : List ℕ) (read : Result Found Fault) → read ≡ Err (0, 1) → Covered kind bytes read → ⊥
bad_covered kind bytes read e c = let k : Covered kind bytes (Err (0, 1)) = subst (Covered kind bytes) e c in omega (arith, k.0)

bad_stops : (text : List ℕ) → candidate text ≡ Err (0, 1) → ((quote : ℕ) (more : List ℕ) → IsQuote quote → text ≡ quote ∷ more → ⊥) → Stops text 0 1
bad_stops text e plain = inl (
  refl,
  record {
    front = refl;
    plain = plain;
    none = λ kind bytes more l t. bad_covered kind bytes (candidate text) e (subst (λ x. Covered kind bytes (candidate x)) (sym t) (candidate_most kind bytes more l));
  },
)

quote_opens_none : (o : Opening) (c quote : ℕ) → opening_of c ≡ o → IsQuote quote → c ≡ quote → ((o ≡ opens.Quote) ⊎ (o ≡ opens.Apostrophe))
unfolding opening_of opening_of_mark is_name_start is_letter is_decimal
quote_opens_none o c quote e (inl q) t = inl (sym e ∙ ap opening_of (t ∙ q))
quote_opens_none o c quote e (inr q) t = inr (sym e ∙ ap opening_of (t ∙ q))

plain_by : (o : Opening) (c : ℕ) (text : List ℕ) → opening_of c ≡ o → (o ≡ opens.Quote → ⊥) → (o ≡ opens.Apostrophe → ⊥) → (quote : ℕ) (more : List ℕ) → IsQuote quote → c ∷ text ≡ quote ∷ more → ⊥
plain_by o c text e n m quote more q t = neither (quote_opens_none o c quote e q (ap (λ x. get_or x 0 0) t))
  where
    neither : (o ≡ opens.Quote) ⊎ (o ≡ opens.Apostrophe) → ⊥
    neither (inl h) = n h
    neither (inr h) = m h

or_none_err : (o : Option Found) (p : Fault) → or_none o ≡ Err p → (p ≡ (0, 1)) × (or_none o ≡ Err (0, 1))
or_none_err None p e = (sym (err_one (0, 1) p e), refl)
or_none_err (Some x) p e = no_err ((p ≡ (0, 1)) × (Ok x ≡ Err (0, 1))) p x e

bad_at : (text : List ℕ) (p : Fault) → p ≡ (0, 1) → Stops text 0 1 → Stops text p.0 p.1
bad_at text p e s = subst (λ x. Stops text x.0 x.1) (sym e) s

minus_stops : (c : ℕ) (text : List ℕ) (p : Fault) → c ≡ 45 → opening_of c ≡ opens.Minus → minus_found (c ∷ text) ≡ Err p → Stops (c ∷ text) p.0 p.1
unfolding minus_found
minus_stops c [] p q o e = bad_at (c ∷ []) p (sym (err_one (0, 1) p (rw zero_no_decimal at e))) (bad_stops (c ∷ []) (candidate_at c [] opens.Minus o ∙ rw zero_no_decimal refl) (plain_by opens.Minus c [] o (λ z. cc) (λ z. cc)))
minus_stops c (d ∷ text) p q o e = elim (tests (is_decimal d)) as (λ _. Stops (c ∷ d ∷ text) p.0 p.1) [
  | inl h ↦ subst (λ x. Stops (x ∷ d ∷ text) p.0 p.1) (sym q) (signed_stops true (d ∷ text) p (rw h at e))
  | inr h ↦ bad_at (c ∷ d ∷ text) p (sym (err_one (0, 1) p (rw h at e))) (bad_stops (c ∷ d ∷ text) (candidate_at c (d ∷ text) opens.Minus o ∙ rw h refl) (plain_by opens.Minus c (d ∷ text) o (λ z. cc) (λ z. cc)))
]

dot_stops : (c : ℕ) (text : List ℕ) (p : Fault) → opening_of c ≡ opens.Dot → dot_found text ≡ Err p → Stops (c ∷ text) p.0 p.1
unfolding dot_found
dot_stops c text p o e = elim (tests (is_name_start (get_or text 0 0))) as (λ _. Stops (c ∷ text) p.0 p.1) [
  | inl h ↦ no_err (Stops (c ∷ text) p.0 p.1) p (record { end = 2 + name_rest (drop 1 text); kind = kinds.Control (take (1 + name_rest (drop 1 text)) text); number = None }) (rw h at e)
  | inr h ↦ (let n = or_none_err (dot_sign text) p (rw h at e) in
      bad_at (c ∷ text) p n.0 (bad_stops (c ∷ text) (candidate_at c text opens.Dot o ∙ rw h n.1) (plain_by opens.Dot c text o (λ z. cc) (λ z. cc))))
]

other_stops : (c : ℕ) (text : List ℕ) (p : Fault) → opening_of c ≡ opens.Other → or_none (sign_found c text) ≡ Err p → Stops (c ∷ text) p.0 p.1
other_stops c text p o e =
    let n = or_none_err (sign_found c text) p e in
    bad_at (c ∷ text) p n.0 (bad_stops (c ∷ text) (candidate_at c text opens.Other o ∙ n.1) (plain_by opens.Other c text o (λ z. cc) (λ z. cc)))

-- ---- every opening

found_stops : (o : Opening) (c : ℕ) (text : List ℕ) (p : Fault) → opening_of c ≡ o → Opens o c → found_by o (c ∷ text) ≡ Err p → Stops (c ∷ text) p.0 p.1
found_stops opens.Letter c text p o k e = letter_stops c text p (letter_found (c ∷ text)) (letter_kind c text) e
found_stops opens.Digit c text p o k e = signed_stops false (c ∷ text) p e
found_stops opens.Minus c text p o k e = minus_stops c text p k o e
found_stops opens.Quote c text p o k e = subst (λ x. Stops (x ∷ text) p.0 p.1) (sym k) (string_stops kinds.Text 34 text p (inl refl) (quoted 34 text) (quoted_outcome 34 text) e)
found_stops opens.Apostrophe c text p o k e = subst (λ x. Stops (x ∷ text) p.0 p.1) (sym k) (string_stops kinds.Bytes 39 text p (inr refl) (quoted 39 text) (quoted_outcome 39 text) e)
found_stops opens.Question c text p o k e = no_err (Stops (c ∷ text) p.0 p.1) p (occurrence (Is 0) (Is 1)) e
found_stops opens.Plus c text p o k e = no_err (Stops (c ∷ text) p.0 p.1) p (occurrence (Is 1) Missing) e
found_stops opens.Star c text p o k e = no_err (Stops (c ∷ text) p.0 p.1) p (star_found Missing 0 text) e
found_stops opens.Hash c text p o k e = no_err (Stops (c ∷ text) p.0 p.1) p (hash_found text) e
found_stops opens.Dot c text p o k e = dot_stops c text p o e
found_stops opens.Other c text p o k e = other_stops c text p o e

pub candidate_stops : (c : ℕ) (text : List ℕ) (p : Fault) → candidate (c ∷ text) ≡ Err p → Stops (c ∷ text) p.0 p.1
unfolding candidate
candidate_stops c text p e = found_stops (opening_of c) c text p refl (opens_is c) e

-- ---- the other way: what is broken at the front is the fault that is found

zero_int : (negative : Bool) → IsLexeme (kinds.Int (int_of negative 0)) (minus negative ++ 48 ∷ [])
unfolding IsLexeme number_after digit_value is_digit is_decimal base_of
zero_int negative = record {
  negative = negative;
  number = 48 ∷ [];
  magnitude = 0;
  is = refl;
  unsigned = record { radix = Decimal; digits = 48 ∷ []; are = (λ q. cc, (refl, tt)); marked = refl; short = λ q. q; value = refl };
  counts = refl;
}

padded_by : (negative : Bool) (number text : List ℕ) → text ≡ minus negative ++ number → LeadsWithZero number → (kind : TokenKind) × (bytes : List ℕ) × (more : List ℕ) × IsLexeme kind bytes × (text ≡ bytes ++ more)
padded_by negative [] text e l = absurd l
padded_by negative (c ∷ []) text e l = absurd l
padded_by negative (c ∷ d ∷ number) text e l =
    (kinds.Int (int_of negative 0), minus negative ++ 48 ∷ [], d ∷ number, zero_int negative, e ∙ (ap (λ x. minus negative ++ x ∷ d ∷ number) l.0 ∙ sym (append_assoc (minus negative) (48 ∷ []) (d ∷ number))))

padded_lexeme : (text : List ℕ) → IsPadded text → (kind : TokenKind) × (bytes : List ℕ) × (more : List ℕ) × IsLexeme kind bytes × (text ≡ bytes ++ more)
padded_lexeme text p = padded_by p.negative p.number text p.is p.padded

letter_lexeme : (c : ℕ) → is_name_start c ≡ true → IsLexeme (kinds.Name (c ∷ [])) (c ∷ [])
unfolding IsLexeme
letter_lexeme c e = ((e, tt), refl)

pub h_starts : (c : ℕ) → is_h c ≡ true → is_name_start c ≡ true
unfolding is_h is_name_start is_letter
h_starts c e = grind (arith, nat_tests)

pub b_starts : (c : ℕ) → is_b c ≡ true → is_name_start c ≡ true
unfolding is_b is_name_start is_letter
b_starts c e = grind (arith, nat_tests)

-- where a bad byte stands no other rule is broken
pub bad_only : (text : List ℕ) (offset : ℕ) (p : Fault) → IsBadByte text offset → Stops text p.0 p.1 → (p.0 ≡ offset) × (p.1 ≡ 1)
bad_only text offset p b (inl s) = (s.1.front ∙ sym b.front, s.0)
bad_only text offset p b (inr (inl (r, inl s))) = absurd (b.plain s.quote s.rest s.quotes s.is)
bad_only text offset p b (inr (inl (r, inr s))) = absurd (b.none (kinds.Name (s.mark ∷ [])) (s.mark ∷ []) (39 ∷ s.rest) (letter_lexeme s.mark (h_starts s.mark s.marks)) s.is)
bad_only text offset p b (inr (inr (inl (r, s)))) = absurd (b.plain s.quote (s.body ++ s.quote ∷ s.more) s.quotes s.is)
bad_only text offset p b (inr (inr (inr (inl (r, s, z))))) = absurd (let l = padded_lexeme text s in b.none l.0 l.1 l.2 l.3 l.4)
bad_only text offset p b (inr (inr (inr (inr (inl (r, s)))))) = absurd (b.none (kinds.Name (s.mark ∷ [])) (s.mark ∷ []) (39 ∷ (s.body ++ 39 ∷ s.more)) (letter_lexeme s.mark (h_starts s.mark s.marks)) s.is)
bad_only text offset p b (inr (inr (inr (inr (inr (r, s)))))) = absurd (b.none (kinds.Name (s.mark ∷ [])) (s.mark ∷ []) (54 ∷ 52 ∷ 39 ∷ s.more) (letter_lexeme s.mark (b_starts s.mark s.marks)) s.is)
