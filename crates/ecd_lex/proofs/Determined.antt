-- A text has at most one list of tokens, or one first fault.
use Rattle.std.proofs.Common.{◌≡◌, ◌≢◌, ◌↔◌, ◌<◌, ◌≤◌, inl, inr, ℕ, Bool, true, false, List, [], ◌∷◌, ◌++◌, length, length-append, take, get_or, refl, sym, ◌∙◌, ap, subst, arith, eqb, Option, Result, Ok, Err, ℤ}
use Rattle.std.specs.Prelude.{IfOk, IfErr, MatchResult}
use Rattle.std.proofs.lemmas.List.{take_at, append_cancel_left}
use Rattle.ecd_lex.specs.declared.found.Found.{Found}
use Rattle.ecd_lex.specs.declared.token.Token.{Token}
use Rattle.ecd_lex.specs.declared.token.TokenKind.{TokenKind}
use Rattle.ecd_lex.specs.declared.token.TokenKind.TheVariants as kinds
use Rattle.ecd_lex.specs.declared.token.Bound.{Bound}
use Rattle.ecd_lex.specs.declared.token.Sign.{Sign}
use Rattle.ecd_lex.specs.declared.token.Sign.TheVariants as signs
use Rattle.ecd_lex.specs.declared.text.LexFault.{LexFault}
use Rattle.ecd_lex.specs.declared.text.LexFault.TheVariants.{At, OutOfMemory}
use Rattle.ecd_lex.specs.declared.character.Radix.{Radix}
use Rattle.ecd_lex.specs.declared.character.Radix.TheVariants.{Decimal, Hexadecimal, Binary}
use Rattle.ecd_lex.specs.Characters.{is_blank, is_white, is_name_start, is_letter, is_decimal}
use Rattle.ecd_lex.specs.Forms.{IsLexeme, IsMarked, IsOccur, IsFloat, IsInteger, IsQuoted, IsHexString, IsHash, minus, sign_bytes}
use Rattle.ecd_lex.specs.Faults.{Breaks}
use Rattle.ecd_lex.specs.Scan.{candidate, opening_of, opening_of_mark, sign_found, lone_sign, bracket_sign, front_found, Fault}
use Rattle.ecd_lex.specs.Lexemes.{IsInside, IsTrailing, IsFront, TokenStands, Reads, Lexemes, FaultStands, FirstFault, IfAt, IsAt, IsUnheld}
use Rattle.ecd_lex.proofs.Booleans.{tests, is_same}
use Rattle.ecd_lex.proofs.Covers.{Covered}
use Rattle.ecd_lex.proofs.Longest.{candidate_most}
use Rattle.ecd_lex.proofs.Errors.{differ}
use Rattle.ecd_lex.proofs.Unique.{front_unique}
use Rattle.ecd_lex.proofs.Fronts.{stands_found}
use Rattle.std.specs.List.{AllByRecursion}
use Rattle.ecd_lex.proofs.Readings.{same_gap, no_front_trails}
use Rattle.ecd_lex.proofs.Within.{breaks_within}

-- ---- no lexeme is empty, and none begins with white space or a semicolon

append_nil_left : (a b : List ℕ) → [] ≡ a ++ b → a ≡ []
append_nil_left [] b e = refl
append_nil_left (c ∷ a) b e = cc

append_nil_right : (a b : List ℕ) → [] ≡ a ++ b → b ≡ []
append_nil_right [] b e = sym e
append_nil_right (c ∷ a) b e = cc

no_cons : (A : Type 0) (a b : List ℕ) (c : ℕ) → [] ≡ a ++ c ∷ b → A
no_cons A [] b c e = cc
no_cons A (d ∷ a) b c e = cc

no_marked : (radix : Radix) (digits : List ℕ) → digits ≢ [] → IsMarked radix digits [] → ⊥
no_marked Decimal digits e m = e (sym m)
no_marked Hexadecimal digits e (x, k, m) = cc
no_marked Binary digits e (x, k, m) = cc

no_occur : (lo hi : Bound) → IsOccur [] lo hi → ⊥
no_occur lo hi (inl (b, l, h)) = cc
no_occur lo hi (inr (inl (b, l, h))) = cc
no_occur lo hi (inr (inr s)) = no_cons ⊥ s.before s.behind 42 s.is

no_hash : (major : Option ℕ) (arg : Bound) → IsHash [] major arg → ⊥
no_hash major arg (inl (b, m, q)) = cc
no_hash major arg (inr (d, argument, b, h, m, q)) = cc

no_float : IsFloat [] → ⊥
no_float f =
    let n : f.number ≡ [] = append_nil_left f.number f.tail (sym (append_nil_right (minus f.negative) (f.number ++ f.tail) f.is)) in
    no_marked f.radix f.digits f.are.0 (subst (IsMarked f.radix f.digits) n f.marked)

no_integer : (value : Option ℤ) → IsInteger [] value → ⊥
no_integer value i =
    let n : i.number ≡ [] = append_nil_right (minus i.negative) i.number i.is in
    no_marked i.unsigned.radix i.unsigned.digits i.unsigned.are.0 (subst (IsMarked i.unsigned.radix i.unsigned.digits) n i.unsigned.marked)

nil_cons : (c : ℕ) (b : List ℕ) → [] ≡ c ∷ b → ⊥
nil_cons c b e = cc

no_quoted : (quote : ℕ) (chars : List ℕ) → IsQuoted quote [] chars → ⊥
no_quoted quote chars q = nil_cons quote (q.body ++ quote ∷ []) q.is

no_hex : (spelled : List ℕ) → IsHexString [] spelled → ⊥
no_hex spelled q = nil_cons q.mark (39 ∷ q.body ++ 39 ∷ []) q.is

no_sign : (sign : Sign) → [] ≡ sign_bytes sign → ⊥
no_sign signs.Define e = cc
no_sign signs.TypeMore e = cc
no_sign signs.GroupMore e = cc
no_sign signs.Slash e = cc
no_sign signs.DoubleSlash e = cc
no_sign signs.RangeClosed e = cc
no_sign signs.RangeHalf e = cc
no_sign signs.Arrow e = cc
no_sign signs.Caret e = cc
no_sign signs.Colon e = cc
no_sign signs.Comma e = cc
no_sign signs.Less e = cc
no_sign signs.Greater e = cc
no_sign signs.OpenParen e = cc
no_sign signs.CloseParen e = cc
no_sign signs.OpenBracket e = cc
no_sign signs.CloseBracket e = cc
no_sign signs.OpenBrace e = cc
no_sign signs.CloseBrace e = cc
no_sign signs.Tilde e = cc
no_sign signs.Ampersand e = cc

no_lexeme : (kind : TokenKind) → IsLexeme kind [] → ⊥
unfolding IsLexeme
no_lexeme (kinds.Name x) l = l.0
no_lexeme (kinds.Int value) l = no_integer value l
no_lexeme kinds.Float l = no_float l
no_lexeme (kinds.Occur lo hi) l = no_occur lo hi l
no_lexeme (kinds.Text chars) l = no_quoted 34 chars l
no_lexeme (kinds.Bytes spelled) (inl q) = no_quoted 39 spelled q
no_lexeme (kinds.Bytes spelled) (inr q) = no_hex spelled q
no_lexeme (kinds.Hash major arg) l = no_hash major arg l
no_lexeme (kinds.Control x) l = nil_cons 46 x l.1
no_lexeme (kinds.Sign sign) l = no_sign sign l

-- the bytes that begin no lexeme, though they are no bad ones
data Gap (c : ℕ) : Type 0 where
  is_space : c ≡ 32 → Gap c
  is_tab : c ≡ 9 → Gap c
  is_feed : c ≡ 10 → Gap c
  is_return : c ≡ 13 → Gap c
  is_semicolon : c ≡ 59 → Gap c

blank_gap : (c : ℕ) → is_blank c ≡ true → Gap c
unfolding is_blank
blank_gap c e = elim (tests (eqb c 32)) as (λ _. Gap c) [
  | inl h ↦ is_space (is_same c 32 h)
  | inr h ↦ elim (tests (eqb c 9)) as (λ _. Gap c) [
    | inl k ↦ is_tab (is_same c 9 k)
    | inr k ↦ is_feed (is_same c 10 (rw (h, k) at e))
  ]
]

white_gap : (c next : ℕ) → is_white c next ≡ true → Gap c
unfolding is_white
white_gap c next e = elim (tests (is_blank c)) as (λ _. Gap c) [
  | inl h ↦ blank_gap c h
  | inr h ↦ elim (tests (eqb c 13)) as (λ _. Gap c) [
    | inl k ↦ is_return (is_same c 13 k)
    | inr k ↦ differ false (rw (h, k) at e) refl
  ]
]

gap_32 : (text : List ℕ) → candidate (32 ∷ text) ≡ Err (0, 1)
unfolding candidate opening_of opening_of_mark is_name_start is_letter is_decimal sign_found lone_sign bracket_sign
gap_32 text = refl

gap_9 : (text : List ℕ) → candidate (9 ∷ text) ≡ Err (0, 1)
unfolding candidate opening_of opening_of_mark is_name_start is_letter is_decimal sign_found lone_sign bracket_sign
gap_9 text = refl

gap_10 : (text : List ℕ) → candidate (10 ∷ text) ≡ Err (0, 1)
unfolding candidate opening_of opening_of_mark is_name_start is_letter is_decimal sign_found lone_sign bracket_sign
gap_10 text = refl

gap_13 : (text : List ℕ) → candidate (13 ∷ text) ≡ Err (0, 1)
unfolding candidate opening_of opening_of_mark is_name_start is_letter is_decimal sign_found lone_sign bracket_sign
gap_13 text = refl

gap_59 : (text : List ℕ) → candidate (59 ∷ text) ≡ Err (0, 1)
unfolding candidate opening_of opening_of_mark is_name_start is_letter is_decimal sign_found lone_sign bracket_sign
gap_59 text = refl

gap_candidate : (c : ℕ) (text : List ℕ) → Gap c → candidate (c ∷ text) ≡ Err (0, 1)
gap_candidate c text (is_space e) = ap (λ x. candidate (x ∷ text)) e ∙ gap_32 text
gap_candidate c text (is_tab e) = ap (λ x. candidate (x ∷ text)) e ∙ gap_9 text
gap_candidate c text (is_feed e) = ap (λ x. candidate (x ∷ text)) e ∙ gap_10 text
gap_candidate c text (is_return e) = ap (λ x. candidate (x ∷ text)) e ∙ gap_13 text
gap_candidate c text (is_semicolon e) = ap (λ x. candidate (x ∷ text)) e ∙ gap_59 text

no_gap : (kind : TokenKind) (c : ℕ) (bytes more : List ℕ) → IsLexeme kind (c ∷ bytes) → Gap c → ⊥
no_gap kind c bytes more l g =
    let k : Covered kind (c ∷ bytes) (Err (0, 1)) = subst (Covered kind (c ∷ bytes)) (gap_candidate c (bytes ++ more) g) (candidate_most kind (c ∷ bytes) more l) in
    omega (arith, k.0)

white_false : (b : Bool) → (b ≡ true → ⊥) → b ≡ false
white_false true f = absurd (f refl)
white_false false f = refl

lexeme_front : (kind : TokenKind) (bytes more : List ℕ) → IsLexeme kind bytes → IsFront (bytes ++ more)
lexeme_front kind [] more l = absurd (no_lexeme kind l)
lexeme_front kind (c ∷ bytes) more l =
    (white_false (is_white c (get_or (bytes ++ more) 0 0)) (λ w. no_gap kind c bytes more l (white_gap c (get_or (bytes ++ more) 0 0) w)), λ e. no_gap kind c bytes more l (is_semicolon e))

-- ---- one token

same_flag : (a b : Bool) (P : Type 0) → ((a ≡ true) ↔ P) → ((b ≡ true) ↔ P) → a ≡ b
same_flag true true P f g = refl
same_flag true false P f g = sym (g.1 (f.0 refl))
same_flag false true P f g = f.1 (g.0 refl)
same_flag false false P f g = refl

token_of : ℕ → ℕ → Bool → TokenKind → Token
token_of start end glued kind = record { at = start; end = end; glued = glued; kind = kind }

same_token : (s t : Token) → s.at ≡ t.at → s.end ≡ t.end → s.glued ≡ t.glued → s.kind ≡ t.kind → s ≡ t
unfolding token_of
same_token s t a e g k =
    ap (λ x. token_of x s.end s.glued s.kind) a ∙ (ap (λ x. token_of t.at x s.glued s.kind) e ∙ (ap (λ x. token_of t.at t.end x s.kind) g ∙ ap (λ x. token_of t.at t.end t.glued x) k))

ok_same : (a b : Found) → ◌≡◌ {A = Result Found Fault} (Ok a) (Ok b) → a ≡ b
ok_same a b e = cc

err_same : (a b : Fault) → ◌≡◌ {A = Result Found Fault} (Err a) (Err b) → a ≡ b
err_same a b e = cc

err_parts : (a b r s : ℕ) → ◌≡◌ {A = Result Found Fault} (Err (a, r)) (Err (b, s)) → (a ≡ b) × (r ≡ s)
err_parts a b r s e = let p = err_same (a, r) (b, s) e in (ap (λ z. z.0) p, ap (λ z. z.1) p)

glued_along : (glued : Bool) (F : Type 0) (g h : List ℕ) → g ≡ h → ((glued ≡ true) ↔ (F × (g ≡ []))) → ((glued ≡ true) ↔ (F × (h ≡ [])))
glued_along glued F g h e k = subst (λ x. (glued ≡ true) ↔ (F × (x ≡ []))) e k

same_stands : (whole : ℕ) (follows : Bool) (text : List ℕ) (s t : Token) (a b : List ℕ) → TokenStands whole follows text s a → TokenStands whole follows text t b → (s ≡ t) × (a ≡ b)
same_stands whole follows text s t a b p q =
    let f = lexeme_front s.kind p.bytes a p.stands.lexeme in
    let k = lexeme_front t.kind q.bytes b q.stands.lexeme in
    let g = same_gap p.gap q.gap (p.bytes ++ a) (q.bytes ++ b) p.blank q.blank f k (sym p.is ∙ q.is) in
    let x = stands_found s.kind p.bytes a f p.stands in
    let y = stands_found t.kind q.bytes b k q.stands in
    let found : x.0 ≡ y.0 = ok_same x.0 y.0 (sym x.1 ∙ (ap front_found g.1 ∙ y.1)) in
    let n : length p.bytes ≡ length q.bytes = sym x.2 ∙ (ap (λ z. z.end) found ∙ y.2) in
    let bytes : p.bytes ≡ q.bytes = sym (take_at p.bytes a (length p.bytes) refl) ∙ (ap (take (length p.bytes)) g.1 ∙ take_at q.bytes b (length p.bytes) (sym n)) in
    let rest : a ≡ b = append_cancel_left q.bytes a b (ap (λ z. z ++ a) (sym bytes) ∙ g.1) in
    let kind : s.kind ≡ t.kind = x.3 ∙ (ap (λ z. z.kind) found ∙ sym y.3) in
    let u = p.begins in
    let v = q.begins in
    let place : s.at ≡ t.at = omega (arith, u, v, ap length g.1) in
    let ue = p.ends in
    let ve = q.ends in
    let end : s.end ≡ t.end = omega (arith, ue, ve, ap length rest) in
    (same_token s t place end (same_flag s.glued t.glued ((follows ≡ true) × (q.gap ≡ [])) (glued_along s.glued (follows ≡ true) p.gap q.gap g.0 p.glued) q.glued) kind, rest)

-- ---- one list of tokens

no_token_trails : (whole : ℕ) (follows : Bool) (text : List ℕ) (t : Token) (more : List ℕ) → IsTrailing text → TokenStands whole follows text t more → ⊥
no_token_trails whole follows text t more trails s = no_front_trails text s.gap (s.bytes ++ more) trails s.is s.blank (lexeme_front t.kind s.bytes more s.stands.lexeme)

same_reads : (whole : ℕ) (follows : Bool) (text : List ℕ) (s t : List Token) (a b : List ℕ) → Reads whole follows text s a → IsTrailing a → Reads whole follows text t b → IsTrailing b → s ≡ t
same_reads whole follows text [] [] a b p ta q tb = refl
same_reads whole follows text [] (y ∷ t) a b p ta q tb = absurd (no_token_trails whole follows text y q.0 (subst IsTrailing (sym p) ta) q.1)
same_reads whole follows text (x ∷ s) [] a b p ta q tb = absurd (no_token_trails whole follows text x p.0 (subst IsTrailing (sym q) tb) p.1)
same_reads whole follows text (x ∷ s) (y ∷ t) a b p ta q tb =
    let k = same_stands whole follows text x y p.0 q.0 p.1 q.1 in
    ap (λ z. z ∷ s) k.0 ∙ ap (λ z. y ∷ z) (same_reads whole true q.0 s t a b (subst (λ z. Reads whole true z s a) k.1 p.2) ta q.2 tb)

pub one_list : (text : List ℕ) (tokens others : List Token) → Lexemes text tokens → Lexemes text others → tokens ≡ others
one_list text tokens others p q = same_reads (length text) false text tokens others p.rest q.rest p.reads p.trailing q.reads q.trailing

-- ---- one first fault

no_fault_trails : (whole : ℕ) (text : List ℕ) (place rule : ℕ) → IsTrailing text → FaultStands whole text place rule → ⊥
no_fault_trails whole text place rule trails f = no_front_trails text f.gap f.front trails f.is f.blank f.begins

no_fault_stands : (whole other : ℕ) (follows : Bool) (text : List ℕ) (t : Token) (more : List ℕ) (place rule : ℕ) → TokenStands whole follows text t more → FaultStands other text place rule → ⊥
no_fault_stands whole other follows text t more place rule s f =
    let g = same_gap s.gap f.gap (s.bytes ++ more) f.front s.blank f.blank (lexeme_front t.kind s.bytes more s.stands.lexeme) f.begins (sym s.is ∙ f.is) in
    s.stands.unbroken f.offset rule (subst (λ z. Breaks z f.offset rule) (sym g.1) f.breaks)

fault_found : (front : List ℕ) (offset rule : ℕ) → IsFront front → Breaks front offset rule → front_found front ≡ Err (offset, rule)
fault_found [] offset rule f b = absurd f
fault_found (c ∷ front) offset rule f b = front_unique c front offset rule b

same_fault : (whole : ℕ) (text : List ℕ) (p q : ℕ) (r s : ℕ) → FaultStands whole text p r → FaultStands whole text q s → (p ≡ q) × (r ≡ s)
same_fault whole text p q r s f g =
    let k = same_gap f.gap g.gap f.front g.front f.blank g.blank f.begins g.begins (sym f.is ∙ g.is) in
    let e = err_parts f.offset g.offset r s (sym (fault_found f.front f.offset r f.begins f.breaks) ∙ (ap front_found k.1 ∙ fault_found g.front g.offset s g.begins g.breaks)) in
    let u = f.stands in
    let v = g.stands in
    (omega (arith, u, v, ap length k.1, e.0), e.1)

no_both_reads : (whole : ℕ) (follows : Bool) (text : List ℕ) (s t : List Token) (a b : List ℕ) (place rule : ℕ) → Reads whole follows text s a → IsTrailing a → Reads whole follows text t b → FaultStands whole b place rule → ⊥
no_both_reads whole follows text [] [] a b place rule p ta q f = no_fault_trails whole b place rule (subst IsTrailing (sym p ∙ q) ta) f
no_both_reads whole follows text [] (y ∷ t) a b place rule p ta q f = no_token_trails whole follows text y q.0 (subst IsTrailing (sym p) ta) q.1
no_both_reads whole follows text (x ∷ s) [] a b place rule p ta q f = no_fault_stands whole whole follows text x p.0 place rule p.1 (subst (λ z. FaultStands whole z place rule) (sym q) f)
no_both_reads whole follows text (x ∷ s) (y ∷ t) a b place rule p ta q f =
    let k = same_stands whole follows text x y p.0 q.0 p.1 q.1 in
    no_both_reads whole true q.0 s t a b place rule (subst (λ z. Reads whole true z s a) k.1 p.2) ta q.2 f

pub no_list_and_fault : (text : List ℕ) (tokens : List Token) (place rule : ℕ) → Lexemes text tokens → FirstFault text place rule → ⊥
no_list_and_fault text tokens place rule p f = no_both_reads (length text) false text tokens f.tokens p.rest f.rest place rule p.reads p.trailing f.reads f.fault

same_faults : (whole : ℕ) (follows : Bool) (text : List ℕ) (s t : List Token) (a b : List ℕ) (p q : ℕ) (r k : ℕ) → Reads whole follows text s a → FaultStands whole a p r → Reads whole follows text t b → FaultStands whole b q k → (p ≡ q) × (r ≡ k)
same_faults whole follows text [] [] a b p q r k x f y g = same_fault whole a p q r k f (subst (λ z. FaultStands whole z q k) (sym y ∙ x) g)
same_faults whole follows text [] (y ∷ t) a b p q r k x f z g = absurd (no_fault_stands whole whole follows text y z.0 p r z.1 (subst (λ w. FaultStands whole w p r) (sym x) f))
same_faults whole follows text (x ∷ s) [] a b p q r k z f y g = absurd (no_fault_stands whole whole follows text x z.0 q k z.1 (subst (λ w. FaultStands whole w q k) (sym y) g))
same_faults whole follows text (x ∷ s) (y ∷ t) a b p q r k u f v g =
    let e = same_stands whole follows text x y u.0 v.0 u.1 v.1 in
    same_faults whole true v.0 s t a b p q r k (subst (λ z. Reads whole true z s a) e.1 u.2) f v.2 g

pub one_fault : (text : List ℕ) (p q : ℕ) (r s : ℕ) → FirstFault text p r → FirstFault text q s → (p ≡ q) × (r ≡ s)
one_fault text p q r s f g = same_faults (length text) false text f.tokens g.tokens f.rest g.rest p q r s f.reads f.fault g.reads g.fault

-- ---- what an answer leaves to no other

pub only_answer : (text : List ℕ) (result : Result (List Token) LexFault) → IfOk result (λ tokens. Lexemes text tokens) → IfErr result (λ fault. IfAt fault (FirstFault text)) →
    (tokens : List Token) → Lexemes text tokens → MatchResult result (λ found. found ≡ tokens) IsUnheld
only_answer text (Ok found) p f tokens l = one_list text found tokens p l
only_answer text (Err (At place rule)) p f tokens l = no_list_and_fault text tokens place rule l f
only_answer text (Err OutOfMemory) p f tokens l = tt

pub first_answer : (text : List ℕ) (result : Result (List Token) LexFault) → IfOk result (λ tokens. Lexemes text tokens) → IfErr result (λ fault. IfAt fault (FirstFault text)) →
    (place rule : ℕ) → FirstFault text place rule → MatchResult result (λ _. ⊥) (λ fault. IsAt fault place rule)
first_answer text (Ok found) p f place rule g = no_list_and_fault text found place rule p g
first_answer text (Err (At q s)) p f place rule g = one_fault text q place s rule f g
first_answer text (Err OutOfMemory) p f place rule g = tt

-- ---- places

some_bytes : (kind : TokenKind) (bytes : List ℕ) → IsLexeme kind bytes → 0 < length bytes
some_bytes kind [] l = absurd (no_lexeme kind l)
some_bytes kind (c ∷ bytes) l = omega arith

token_inside : (whole : ℕ) (follows : Bool) (text : List ℕ) (t : Token) (more : List ℕ) → TokenStands whole follows text t more → IsInside whole t
token_inside whole follows text t more s =
    let b = s.begins in
    let e = s.ends in
    let n = some_bytes t.kind s.bytes s.stands.lexeme in
    (omega (arith, b, e, n, length-append s.bytes more), omega (arith, e))

reads_inside : (whole : ℕ) (follows : Bool) (text : List ℕ) (tokens : List Token) (rest : List ℕ) → Reads whole follows text tokens rest → AllByRecursion (IsInside whole) tokens
reads_inside whole follows text [] rest r = tt
reads_inside whole follows text (t ∷ tokens) rest r = (token_inside whole follows text t r.0 r.1, reads_inside whole true r.0 tokens rest r.2)

pub places_answer : (text : List ℕ) (result : Result (List Token) LexFault) → IfOk result (λ tokens. Lexemes text tokens) → IfOk result (λ tokens. AllByRecursion (IsInside (length text)) tokens)
places_answer text (Ok tokens) l = reads_inside (length text) false text tokens l.rest l.reads
places_answer text (Err fault) l = tt

fault_within : (whole : ℕ) (text : List ℕ) (place rule : ℕ) → FaultStands whole text place rule → place ≤ whole
fault_within whole text place rule f =
    let b = breaks_within f.front f.offset rule f.breaks in
    let s = f.stands in
    omega (arith, b, s)

pub within_answer : (text : List ℕ) (result : Result (List Token) LexFault) → IfErr result (λ fault. IfAt fault (FirstFault text)) → IfErr result (λ fault. IfAt fault (λ place rule. place ≤ length text))
within_answer text (Ok tokens) f = tt
within_answer text (Err (At place rule)) f = fault_within (length text) f.rest place rule f.fault
within_answer text (Err OutOfMemory) f = tt
