-- What is broken at the front of a text is the fault that is found there, and what is found is the longest lexeme.
use Rattle.std.proofs.Common.{◌≡◌, ◌⊎◌, inl, inr, ℕ, ◌+◌, Bool, true, false, ◌&&◌, List, [], ◌∷◌, ◌++◌, length, take, drop, get_or, refl, sym, ◌∙◌, ap, subst, arith, length-take, append-nil, Option, Some, None, Result, Ok, Err}
use Rattle.std.proofs.lemmas.Bool.Decides.{nat_tests}
use Rattle.std.proofs.lemmas.List.{take_at, take-append-drop, get_or_at}
use Rattle.ecd_lex.specs.declared.token.TokenKind.{TokenKind}
use Rattle.ecd_lex.specs.declared.token.TokenKind.TheVariants as kinds
use Rattle.ecd_lex.specs.declared.found.Found.{Found}
use Rattle.ecd_lex.specs.declared.front.Opening.TheVariants as opens
use Rattle.ecd_lex.specs.Characters.{is_decimal, is_name_byte, is_b, is_h}
use Rattle.ecd_lex.specs.Forms.{IsLongest, LeadsWithZero, is_character, IsBody, IsHexBody, IsLexeme, minus}
use Rattle.ecd_lex.specs.Faults.{EndsInNumber, IsQuote, IsBadByte, IsPadded, GoesOn, Breaks}
use Rattle.ecd_lex.specs.Scan.{ended, follows, then_ended, front_found, quoted, hex_quoted, ending, placed, string_found, leads_with_zero, signed_found, is_base64, candidate, Fault}
use Rattle.ecd_lex.proofs.Booleans.{tests}
use Rattle.ecd_lex.proofs.Candidates.{Outcome, unclosed, spelled, bad, quoted_outcome, HexOutcome, hex_unclosed, hex_spelled, hex_bad, hex_outcome, candidate_sound}
use Rattle.ecd_lex.proofs.Covers.{Covered, MayEndInNumber, candidate_at, letter_opens, digit_opens, minus_opens, minus_is, leads_is}
use Rattle.ecd_lex.proofs.Longest.{candidate_most, quoted_is, hex_is, quote_character, hex_candidate}
use Rattle.ecd_lex.proofs.Errors.{Stops, candidate_stops, bad_only, b_starts}
use Rattle.ecd_lex.proofs.Candidates.{letter_base64}
use Rattle.ecd_lex.proofs.Longest.{quote_opens, apostrophe_opens}

pub by_found : (r : Result Found Fault) → ((f : Found) × (r ≡ Ok f)) ⊎ ((p : Fault) × (r ≡ Err p))
by_found (Ok f) = inl (f, refl)
by_found (Err p) = inr (p, refl)

-- ---- each rule

open_quoted : (quote : ℕ) (text : List ℕ) → ((body more : List ℕ) → IsBody quote body → text ≡ body ++ quote ∷ more → ⊥) → (read : Result (ℕ × List ℕ) Fault) → Outcome quote text read → read ≡ Err (0, 2)
open_quoted quote text n read (unclosed e r) = r
open_quoted quote text n read (spelled m k chars d r) = absurd (n k.body k.rest k.closed k.is)
open_quoted quote text n read (bad m k offset d r) = absurd (n k.body k.rest k.closed k.is)

open_hex : (text : List ℕ) → ((body more : List ℕ) → IsHexBody body → text ≡ body ++ 39 ∷ more → ⊥) → (read : Result (ℕ × List ℕ) Fault) → HexOutcome text read → read ≡ Err (1, 2)
open_hex text n read (hex_unclosed e r) = r
open_hex text n read (hex_spelled m k made d r) = absurd (n k.body k.rest k.closed k.is)
open_hex text n read (hex_bad m k offset d r) = absurd (n k.body k.rest k.closed k.is)

-- a text that begins with a quote
quote_candidate : (quote : ℕ) (text : List ℕ) (p : Fault) → IsQuote quote → quoted quote text ≡ Err p → candidate (quote ∷ text) ≡ Err p
quote_candidate quote text p (inl q) e =
    ap (λ x. candidate (x ∷ text)) q ∙ (candidate_at 34 text opens.Quote quote_opens ∙ ap (string_found kinds.Text) (sym (ap (λ x. quoted x text) q) ∙ e))
quote_candidate quote text p (inr q) e =
    ap (λ x. candidate (x ∷ text)) q ∙ (candidate_at 39 text opens.Apostrophe apostrophe_opens ∙ ap (string_found kinds.Bytes) (sym (ap (λ x. quoted x text) q) ∙ e))

quote_character_of : (quote : ℕ) → IsQuote quote → is_character quote ≡ true
quote_character_of quote (inl e) = ap is_character e ∙ quote_character.0
quote_character_of quote (inr e) = ap is_character e ∙ quote_character.1

zero_is_decimal : (c : ℕ) → c ≡ 48 → is_decimal c ≡ true
unfolding is_decimal
zero_is_decimal c e = grind (arith, nat_tests)

signed_padded : (negative : Bool) (number : List ℕ) → leads_with_zero number ≡ true → signed_found negative number ≡ Err (0, 4)
unfolding signed_found
signed_padded negative number e = rw e refl

padded_number : (number : List ℕ) → LeadsWithZero number → leads_with_zero number ≡ true
padded_number number l = ap leads_with_zero (sym (append-nil number)) ∙ leads_is number [] l

padded_by : (negative : Bool) (number : List ℕ) → LeadsWithZero number → candidate (minus negative ++ number) ≡ Err (0, 4)
padded_by negative [] l = absurd l
padded_by negative (c ∷ []) l = absurd l
padded_by true (c ∷ d ∷ number) l =
    candidate_at 45 (c ∷ d ∷ number) opens.Minus minus_opens ∙ (minus_is c (d ∷ number) (zero_is_decimal c l.0) ∙ signed_padded true (c ∷ d ∷ number) (padded_number (c ∷ d ∷ number) l))
padded_by false (c ∷ d ∷ number) l =
    candidate_at c (d ∷ number) opens.Digit (digit_opens c (zero_is_decimal c l.0)) ∙ signed_padded false (c ∷ d ∷ number) (padded_number (c ∷ d ∷ number) l)

and_no : (b : Bool) → (b && false) ≡ false
and_no true = refl
and_no false = refl

base64_yes : (c : ℕ) (more : List ℕ) → is_b c ≡ true → is_base64 (c ∷ 54 ∷ 52 ∷ 39 ∷ more) ≡ true
unfolding is_base64
base64_yes c more e = rw e refl

base64_candidate : (c : ℕ) (more : List ℕ) → is_b c ≡ true → candidate (c ∷ 54 ∷ 52 ∷ 39 ∷ more) ≡ Err (0, 6)
base64_candidate c more e =
    candidate_at c (54 ∷ 52 ∷ 39 ∷ more) opens.Letter (letter_opens c (b_starts c e)) ∙ letter_base64 c (54 ∷ 52 ∷ 39 ∷ more) (and_no (is_h c)) (base64_yes c more e)

same_fault : (a b : Fault) → a.0 ≡ b.0 → a.1 ≡ b.1 → a ≡ b
same_fault (a, b) (c, d) e f = ap (λ x. (x, b)) e ∙ ap (λ x. (c, x)) f

bad_candidate : (c : ℕ) (text : List ℕ) (offset : ℕ) → IsBadByte (c ∷ text) offset → candidate (c ∷ text) ≡ Err (offset, 1)
bad_candidate c text offset b = elim (by_found (candidate (c ∷ text))) as (λ _. candidate (c ∷ text) ≡ Err (offset, 1)) [
  | inl f ↦ absurd (let s = candidate_sound (c ∷ text) f.0 f.1 in b.none f.0.kind (take f.0.end (c ∷ text)) (drop f.0.end (c ∷ text)) s.lexeme (sym (take-append-drop f.0.end (c ∷ text))))
  | inr p ↦ (let o = bad_only (c ∷ text) offset p.0 b (candidate_stops c text p.0 p.1) in p.1 ∙ ap Err (same_fault p.0 (offset, 1) o.0 o.1))
]

-- a number that goes on, or the fault that is found
abbrev pub Unique : List ℕ → ℕ → ℕ → Type 0
Unique text offset rule = (candidate text ≡ Err (offset, rule)) ⊎ ((rule ≡ 4) × (¬ IsPadded text) × GoesOn text offset)

at_rule : (text : List ℕ) (o p : ℕ) (r s : ℕ) → candidate text ≡ Err (o, r) → p ≡ o → s ≡ r → Unique text p s
at_rule text o p r s e f g = inl (e ∙ ap Err (same_fault (o, r) (p, s) (sym f) (sym g)))

pub breaks_unique : (c : ℕ) (text : List ℕ) (offset rule : ℕ) → Breaks (c ∷ text) offset rule → Unique (c ∷ text) offset rule
breaks_unique c text offset rule (inl (r, b)) = at_rule (c ∷ text) offset offset 1 rule (bad_candidate c text offset b) refl r
breaks_unique c text offset rule (inr (inl (r, inl s))) =
    at_rule (c ∷ text) 0 offset 2 rule (ap candidate s.is ∙ quote_candidate s.quote s.rest (0, 2) s.quotes (open_quoted s.quote s.rest s.open_ (quoted s.quote s.rest) (quoted_outcome s.quote s.rest))) s.front r
breaks_unique c text offset rule (inr (inl (r, inr s))) =
    at_rule (c ∷ text) 1 offset 2 rule (ap candidate s.is ∙ (hex_candidate s.mark s.rest s.marks ∙ ap (string_found kinds.Bytes) (open_hex s.rest s.open_ (hex_quoted s.rest) (hex_outcome s.rest)))) s.behind r
breaks_unique c text offset rule (inr (inr (inl (r, s)))) =
    at_rule (c ∷ text) (1 + s.at_) offset 3 rule (ap candidate s.is ∙ quote_candidate s.quote (s.body ++ s.quote ∷ s.more) (1 + s.at_, 3) s.quotes (quoted_is s.quote s.body s.more (quote_character_of s.quote s.quotes) s.closed ∙ ap (λ x. ending (length s.body + 2) (placed 1 3 x)) s.bad)) s.behind r
breaks_unique c text offset rule (inr (inr (inr (inl (r, inl (p, z)))))) =
    at_rule (c ∷ text) 0 offset 4 rule (ap candidate p.is ∙ padded_by p.negative p.number p.padded) z r
breaks_unique c text offset rule (inr (inr (inr (inl (r, inr (n, g)))))) = inr (r, n, g)
breaks_unique c text offset rule (inr (inr (inr (inr (inl (r, s)))))) =
    at_rule (c ∷ text) (2 + s.at_) offset 5 rule (ap candidate s.is ∙ (hex_candidate s.mark (s.body ++ 39 ∷ s.more) s.marks ∙ ap (string_found kinds.Bytes) (hex_is s.body s.more s.closed ∙ ap (λ x. ending (length s.body + 3) (placed 2 5 x)) s.bad))) s.behind r
breaks_unique c text offset rule (inr (inr (inr (inr (inr (r, s)))))) =
    at_rule (c ∷ text) 0 offset 6 rule (ap candidate s.is ∙ base64_candidate s.mark s.more s.marks) s.front r

-- ---- the longest lexeme is the one that is found

pub record SameLexeme (text : List ℕ) (found : Found) (kind : TokenKind) (bytes : List ℕ) : Type 0 where
  pub end : found.end ≡ length bytes
  pub kind_is : kind ≡ found.kind
  pub bytes_are : take found.end text ≡ bytes

pub found_same : (text : List ℕ) (found : Found) (kind : TokenKind) (bytes more : List ℕ) → candidate text ≡ Ok found → text ≡ bytes ++ more → IsLexeme kind bytes → IsLongest text bytes → SameLexeme text found kind bytes
found_same text found kind bytes more e t l longest =
    let s = candidate_sound text found e in
    let upper = longest found.kind (take found.end text) (drop found.end text) s.lexeme (sym (take-append-drop found.end text)) in
    let c : Covered kind bytes (Ok found) = subst (Covered kind bytes) (ap candidate (sym t) ∙ e) (candidate_most kind bytes more l) in
    let w = s.within in
    let q : found.end ≡ length bytes = omega (arith, upper, c.0, length-take found.end text, w) in
    record { end = q; kind_is = c.1 (sym q); bytes_are = ap (take found.end) t ∙ take_at bytes more found.end (sym q) }

-- ---- numbers that go on

ended_none : (text : List ℕ) (found : Found) → found.number ≡ None → ended text found ≡ Ok found
unfolding ended
ended_none text found e = ap (follows text found) e

ended_goes : (text : List ℕ) (found : Found) (k : ℕ) → found.number ≡ Some k → is_name_byte (get_or text found.end 0) ≡ true → ended text found ≡ Err (k, 4)
unfolding ended
ended_goes text found k e h = ap (follows text found) e ∙ rw h refl

ended_stays : (text : List ℕ) (found : Found) (k : ℕ) → found.number ≡ Some k → is_name_byte (get_or text found.end 0) ≡ false → ended text found ≡ Ok found
unfolding ended
ended_stays text found k e h = ap (follows text found) e ∙ rw h refl

by_number : (o : Option ℕ) → (o ≡ None) ⊎ ((n : ℕ) × (o ≡ Some n))
by_number None = inl refl
by_number (Some n) = inr (n, refl)

-- what ending may come to
pub ended_kind : (text : List ℕ) (found : Found) → (ended text found ≡ Ok found) ⊎ ((k : ℕ) × (found.number ≡ Some k) × (is_name_byte (get_or text found.end 0) ≡ true) × (ended text found ≡ Err (k, 4)))
ended_kind text found = elim (by_number found.number) as (λ _. (ended text found ≡ Ok found) ⊎ ((k : ℕ) × (found.number ≡ Some k) × (is_name_byte (get_or text found.end 0) ≡ true) × (ended text found ≡ Err (k, 4)))) [
  | inl e ↦ inl (ended_none text found e)
  | inr s ↦ elim (tests (is_name_byte (get_or text found.end 0))) as (λ _. (ended text found ≡ Ok found) ⊎ ((k : ℕ) × (found.number ≡ Some k) × (is_name_byte (get_or text found.end 0) ≡ true) × (ended text found ≡ Err (k, 4)))) [
    | inl h ↦ inr (s.0, s.1, h, ended_goes text found s.0 s.1 h)
    | inr h ↦ inl (ended_stays text found s.0 s.1 h)
  ]
]

may_end : (kind : TokenKind) (bytes : List ℕ) (offset : ℕ) → EndsInNumber kind bytes offset → MayEndInNumber kind
may_end (kinds.Int value) bytes offset e = tt
may_end kinds.Float bytes offset e = tt
may_end (kinds.Hash major arg) bytes offset e = tt
may_end (kinds.Occur lo hi) bytes offset e = tt
may_end (kinds.Name x) bytes offset e = absurd e
may_end (kinds.Text chars) bytes offset e = absurd e
may_end (kinds.Bytes made) bytes offset e = absurd e
may_end (kinds.Control x) bytes offset e = absurd e
may_end (kinds.Sign sign) bytes offset e = absurd e

padded_of : (text : List ℕ) → Stops text 0 4 → IsPadded text
padded_of text (inl s) = absurd (omega (arith, s.0))
padded_of text (inr (inl s)) = absurd (omega (arith, s.0))
padded_of text (inr (inr (inl s))) = absurd (omega (arith, s.0))
padded_of text (inr (inr (inr (inl (r, p, z))))) = p
padded_of text (inr (inr (inr (inr (inl s))))) = absurd (omega (arith, s.0))
padded_of text (inr (inr (inr (inr (inr s))))) = absurd (omega (arith, s.0))

stops_padded : (text : List ℕ) (p : Fault) → p ≡ (0, 4) → Stops text p.0 p.1 → IsPadded text
stops_padded text p e s = padded_of text (subst (λ x. Stops text x.0 x.1) e s)

pub front_of : (text : List ℕ) (read : Result Found Fault) → candidate text ≡ read → front_found text ≡ then_ended text read
unfolding front_found
front_of text read e = ap (then_ended text) e

goes_on_err : (c : ℕ) (text : List ℕ) (offset : ℕ) → ¬ IsPadded (c ∷ text) → GoesOn (c ∷ text) offset → front_found (c ∷ text) ≡ Err (offset, 4)
goes_on_err c text offset n g = elim (by_found (candidate (c ∷ text))) as (λ _. front_found (c ∷ text) ≡ Err (offset, 4)) [
  | inl f ↦ (let s = candidate_sound (c ∷ text) f.0 f.1 in
      let m = found_same (c ∷ text) f.0 g.kind g.bytes (g.next ∷ g.more) f.1 g.is g.lexeme g.longest in
      let ends : EndsInNumber f.0.kind (take f.0.end (c ∷ text)) offset = subst (λ b. EndsInNumber f.0.kind b offset) (sym m.bytes_are) (subst (λ k. EndsInNumber k g.bytes offset) m.kind_is g.ends) in
      let number : f.0.number ≡ Some offset = (s.number offset).1 ends in
      let next : get_or (c ∷ text) f.0.end 0 ≡ g.next = ap (λ x. get_or x f.0.end 0) g.is ∙ get_or_at g.bytes g.next g.more 0 f.0.end (sym m.end) in
      front_of (c ∷ text) (Ok f.0) f.1 ∙ ended_goes (c ∷ text) f.0 offset number (ap is_name_byte next ∙ g.goes_on))
  | inr p ↦ absurd (let k : Covered g.kind g.bytes (Err p.0) = subst (Covered g.kind g.bytes) (ap candidate (sym g.is) ∙ p.1) (candidate_most g.kind g.bytes (g.next ∷ g.more) g.lexeme) in
      n (stops_padded (c ∷ text) p.0 (k.1 (may_end g.kind g.bytes offset g.ends)) (candidate_stops c text p.0 p.1)))
]

pub front_unique : (c : ℕ) (text : List ℕ) (offset rule : ℕ) → Breaks (c ∷ text) offset rule → front_found (c ∷ text) ≡ Err (offset, rule)
front_unique c text offset rule b = elim (breaks_unique c text offset rule b) as (λ _. front_found (c ∷ text) ≡ Err (offset, rule)) [
  | inl e ↦ front_of (c ∷ text) (Err (offset, rule)) e
  | inr s ↦ goes_on_err c text offset s.1 s.2 ∙ ap (λ r. Err (offset, r)) (sym s.0)
]
