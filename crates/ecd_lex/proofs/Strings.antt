-- Where strings end.
use Rattle.std.proofs.Common.{◌≡◌, inl, inr, ℕ, ◌+◌, suc, Bool, true, false, List, [], ◌∷◌, ◌++◌, length, refl, sym, ◌∙◌, ap, subst, one-add, eqb, Option, Some, None}
use Rattle.std.specs.Prelude.{IsTrue}
use Rattle.std.specs.Bool.{MatchBool}
use Rattle.ecd_lex.specs.Forms.{is_character, is_hex_character, IsBody, IsEscapedBody, IsHexBody, IsLineBody}
use Rattle.ecd_lex.specs.Scan.{body_len, hex_len, more}
use Rattle.ecd_lex.proofs.Booleans.{tests, other_is, same_is, is_same, is_other}

-- a body of so many bytes, and the quote
pub record Closes (P : List ℕ → Type 0) (quote : ℕ) (text : List ℕ) (n : ℕ) : Type 0 where
  pub body : List ℕ
  pub rest : List ℕ
  pub is : text ≡ body ++ quote ∷ rest
  pub closed : P body
  pub count : n ≡ length body

closes_more : (P Q : List ℕ → Type 0) (quote c : ℕ) (text : List ℕ) (n : ℕ) → ((body : List ℕ) → P body → Q (c ∷ body)) → Closes P quote text n → Closes Q quote (c ∷ text) (suc n)
closes_more P Q quote c text n f k = record { body = c ∷ k.body; rest = k.rest; is = ap (λ x. c ∷ x) k.is; closed = f k.body k.closed; count = ap suc k.count }

-- the body's form behind a backslash or not
abbrev BodyOf : ℕ → Bool → List ℕ → Type 0
BodyOf quote true = IsEscapedBody quote
BodyOf quote false = IsBody quote

body_nil : (quote : ℕ) → IsBody quote []
unfolding IsBody
body_nil quote = tt

body_match : (quote : ℕ) (escaped : Bool) (body : List ℕ) → BodyOf quote escaped body → MatchBool escaped (IsEscapedBody quote body) (IsBody quote body)
body_match quote true body b = b
body_match quote false body b = b

body_matched : (quote : ℕ) (escaped : Bool) (body : List ℕ) → MatchBool escaped (IsEscapedBody quote body) (IsBody quote body) → BodyOf quote escaped body
body_matched quote true body b = b
body_matched quote false body b = b

body_cons : (quote c : ℕ) (body : List ℕ) → is_character c ≡ true → eqb c quote ≡ false → BodyOf quote (eqb c 92) body → IsBody quote (c ∷ body)
unfolding IsBody
body_cons quote c body e f b = (e, is_other c quote f, body_match quote (eqb c 92) body b)

escaped_cons : (quote c : ℕ) (body : List ℕ) → is_character c ≡ true → IsBody quote body → IsEscapedBody quote (c ∷ body)
unfolding IsBody
escaped_cons quote c body e b = (e, b)

zero_of : (n : ℕ) → Some n ≡ Some 0 → n ≡ 0
zero_of n e = cc

more_some : (k : ℕ) (o : Option ℕ) (n : ℕ) → more k o ≡ Some n → (m : ℕ) × (o ≡ Some m) × (n ≡ k + m)
more_some k None n e = cc
more_some k (Some m) n e = (m, refl, cc)

body_len_nil : (quote : ℕ) (escaped : Bool) → body_len quote escaped [] ≡ None
unfolding body_len
body_len_nil quote escaped = refl

body_len_bad : (quote c : ℕ) (escaped : Bool) (text : List ℕ) → is_character c ≡ false → body_len quote escaped (c ∷ text) ≡ None
unfolding body_len
body_len_bad quote c escaped text e = rw e refl

body_len_escaped : (quote c : ℕ) (text : List ℕ) → is_character c ≡ true → body_len quote true (c ∷ text) ≡ more 1 (body_len quote false text)
unfolding body_len
body_len_escaped quote c text e = rw e refl

body_len_quote : (quote c : ℕ) (text : List ℕ) → is_character c ≡ true → eqb c quote ≡ true → body_len quote false (c ∷ text) ≡ Some 0
unfolding body_len
body_len_quote quote c text e f = rw (e, f) refl

body_len_other : (quote c : ℕ) (text : List ℕ) → is_character c ≡ true → eqb c quote ≡ false → body_len quote false (c ∷ text) ≡ more 1 (body_len quote (eqb c 92) text)
unfolding body_len
body_len_other quote c text e f = rw (e, f) refl

no_length : (A : Type 0) (n : ℕ) (o : Option ℕ) → o ≡ None → o ≡ Some n → A
no_length A n o e f = cc

pub body_closes : (quote : ℕ) (escaped : Bool) (text : List ℕ) (n : ℕ) → body_len quote escaped text ≡ Some n → Closes (BodyOf quote escaped) quote text n
body_closes quote escaped [] n e = no_length (Closes (BodyOf quote escaped) quote [] n) n (body_len quote escaped []) (body_len_nil quote escaped) e
body_closes quote true (c ∷ text) n e = elim (tests (is_character c)) as (λ _. Closes (BodyOf quote true) quote (c ∷ text) n) [
  | inl k ↦ (let m = more_some 1 (body_len quote false text) n (sym (body_len_escaped quote c text k) ∙ e) in
      subst (λ x. Closes (BodyOf quote true) quote (c ∷ text) x) (sym (m.2 ∙ one-add m.0)) (closes_more (BodyOf quote false) (BodyOf quote true) quote c text m.0 (λ body b. escaped_cons quote c body k b) (body_closes quote false text m.0 m.1)))
  | inr k ↦ no_length (Closes (BodyOf quote true) quote (c ∷ text) n) n (body_len quote true (c ∷ text)) (body_len_bad quote c true text k) e
]
body_closes quote false (c ∷ text) n e = elim (tests (is_character c)) as (λ _. Closes (BodyOf quote false) quote (c ∷ text) n) [
  | inl k ↦ elim (tests (eqb c quote)) as (λ _. Closes (BodyOf quote false) quote (c ∷ text) n) [
    | inl q ↦ record { body = []; rest = text; is = ap (λ x. x ∷ text) (is_same c quote q); closed = body_nil quote; count = zero_of n (sym e ∙ body_len_quote quote c text k q) }
    | inr q ↦ (let m = more_some 1 (body_len quote (eqb c 92) text) n (sym (body_len_other quote c text k q) ∙ e) in
        subst (λ x. Closes (BodyOf quote false) quote (c ∷ text) x) (sym (m.2 ∙ one-add m.0)) (closes_more (BodyOf quote (eqb c 92)) (BodyOf quote false) quote c text m.0 (λ body b. body_cons quote c body k q b) (body_closes quote (eqb c 92) text m.0 m.1)))
  ]
  | inr k ↦ no_length (Closes (BodyOf quote false) quote (c ∷ text) n) n (body_len quote false (c ∷ text)) (body_len_bad quote c false text k) e
]

body_found_by : (quote : ℕ) (escaped : Bool) (body rest : List ℕ) → is_character quote ≡ true → BodyOf quote escaped body → body_len quote escaped (body ++ quote ∷ rest) ≡ Some (length body)
unfolding IsBody
body_found_by quote true [] rest q b = absurd b
body_found_by quote false [] rest q b = body_len_quote quote quote rest q (same_is quote quote refl)
body_found_by quote true (c ∷ body) rest q b = body_len_escaped quote c (body ++ quote ∷ rest) b.0 ∙ (ap (more 1) (body_found_by quote false body rest q b.1) ∙ ap Some (one-add (length body)))
body_found_by quote false (c ∷ body) rest q b =
    body_len_other quote c (body ++ quote ∷ rest) b.0 (other_is c quote b.1)
    ∙ (ap (more 1) (body_found_by quote (eqb c 92) body rest q (body_matched quote (eqb c 92) body b.2)) ∙ ap Some (one-add (length body)))

pub body_found : (quote : ℕ) (body rest : List ℕ) → is_character quote ≡ true → IsBody quote body → body_len quote false (body ++ quote ∷ rest) ≡ Some (length body)
body_found quote body rest q b = body_found_by quote false body rest q b

-- ---- the same of hexadecimal strings

abbrev HexOf : Bool → List ℕ → Type 0
HexOf true = IsLineBody
HexOf false = IsHexBody

hex_nil : IsHexBody []
unfolding IsHexBody
hex_nil = tt

line_cons : (c : ℕ) (body : List ℕ) → eqb c 10 ≡ true → IsHexBody body → IsLineBody (c ∷ body)
unfolding IsHexBody
line_cons c body e b = (is_same c 10 e, b)

hex_return : (c : ℕ) (body : List ℕ) → eqb c 39 ≡ false → eqb c 13 ≡ true → IsLineBody body → IsHexBody (c ∷ body)
unfolding IsHexBody
hex_return c body e f b = (is_other c 39 e, rw f b)

hex_cons : (c : ℕ) (body : List ℕ) → eqb c 39 ≡ false → eqb c 13 ≡ false → is_hex_character c ≡ true → IsHexBody body → IsHexBody (c ∷ body)
unfolding IsHexBody
hex_cons c body e f k b = (is_other c 39 e, rw f (k, b))

hex_len_nil : (returned : Bool) → hex_len returned [] ≡ None
unfolding hex_len
hex_len_nil returned = refl

hex_len_line : (c : ℕ) (text : List ℕ) → eqb c 10 ≡ true → hex_len true (c ∷ text) ≡ more 1 (hex_len false text)
unfolding hex_len
hex_len_line c text e = rw e refl

hex_len_no_line : (c : ℕ) (text : List ℕ) → eqb c 10 ≡ false → hex_len true (c ∷ text) ≡ None
unfolding hex_len
hex_len_no_line c text e = rw e refl

hex_len_quote : (c : ℕ) (text : List ℕ) → eqb c 39 ≡ true → hex_len false (c ∷ text) ≡ Some 0
unfolding hex_len
hex_len_quote c text e = rw e refl

hex_len_return : (c : ℕ) (text : List ℕ) → eqb c 39 ≡ false → eqb c 13 ≡ true → hex_len false (c ∷ text) ≡ more 1 (hex_len true text)
unfolding hex_len
hex_len_return c text e f = rw (e, f) refl

hex_len_cons : (c : ℕ) (text : List ℕ) → eqb c 39 ≡ false → eqb c 13 ≡ false → is_hex_character c ≡ true → hex_len false (c ∷ text) ≡ more 1 (hex_len false text)
unfolding hex_len
hex_len_cons c text e f k = rw (e, f, k) refl

hex_len_bad : (c : ℕ) (text : List ℕ) → eqb c 39 ≡ false → eqb c 13 ≡ false → is_hex_character c ≡ false → hex_len false (c ∷ text) ≡ None
unfolding hex_len
hex_len_bad c text e f k = rw (e, f, k) refl

hex_step : (returned : Bool) (P : List ℕ → Type 0) (c : ℕ) (text : List ℕ) (n : ℕ) (o : Option ℕ) → o ≡ more 1 (hex_len returned text) → o ≡ Some n → ((body : List ℕ) → HexOf returned body → P (c ∷ body)) →
    ((m : ℕ) → hex_len returned text ≡ Some m → Closes (HexOf returned) 39 text m) → Closes P 39 (c ∷ text) n
hex_step returned P c text n o e f g k =
    let m = more_some 1 (hex_len returned text) n (sym e ∙ f) in
    subst (λ x. Closes P 39 (c ∷ text) x) (sym (m.2 ∙ one-add m.0)) (closes_more (HexOf returned) P 39 c text m.0 g (k m.0 m.1))

pub hex_closes : (returned : Bool) (text : List ℕ) (n : ℕ) → hex_len returned text ≡ Some n → Closes (HexOf returned) 39 text n
hex_closes returned [] n e = no_length (Closes (HexOf returned) 39 [] n) n (hex_len returned []) (hex_len_nil returned) e
hex_closes true (c ∷ text) n e = elim (tests (eqb c 10)) as (λ _. Closes (HexOf true) 39 (c ∷ text) n) [
  | inl k ↦ hex_step false (HexOf true) c text n (hex_len true (c ∷ text)) (hex_len_line c text k) e (λ body b. line_cons c body k b) (hex_closes false text)
  | inr k ↦ no_length (Closes (HexOf true) 39 (c ∷ text) n) n (hex_len true (c ∷ text)) (hex_len_no_line c text k) e
]
hex_closes false (c ∷ text) n e = elim (tests (eqb c 39)) as (λ _. Closes (HexOf false) 39 (c ∷ text) n) [
  | inl q ↦ record { body = []; rest = text; is = ap (λ x. x ∷ text) (is_same c 39 q); closed = hex_nil; count = zero_of n (sym e ∙ hex_len_quote c text q) }
  | inr q ↦ elim (tests (eqb c 13)) as (λ _. Closes (HexOf false) 39 (c ∷ text) n) [
    | inl r ↦ hex_step true (HexOf false) c text n (hex_len false (c ∷ text)) (hex_len_return c text q r) e (λ body b. hex_return c body q r b) (hex_closes true text)
    | inr r ↦ elim (tests (is_hex_character c)) as (λ _. Closes (HexOf false) 39 (c ∷ text) n) [
      | inl k ↦ hex_step false (HexOf false) c text n (hex_len false (c ∷ text)) (hex_len_cons c text q r k) e (λ body b. hex_cons c body q r k b) (hex_closes false text)
      | inr k ↦ no_length (Closes (HexOf false) 39 (c ∷ text) n) n (hex_len false (c ∷ text)) (hex_len_bad c text q r k) e
    ]
  ]
]

hex_found_by : (returned : Bool) (body rest : List ℕ) → HexOf returned body → hex_len returned (body ++ 39 ∷ rest) ≡ Some (length body)
unfolding IsHexBody
hex_found_by true [] rest b = absurd b
hex_found_by false [] rest b = hex_len_quote 39 rest refl
hex_found_by true (c ∷ body) rest b = hex_len_line c (body ++ 39 ∷ rest) (same_is c 10 b.0) ∙ (ap (more 1) (hex_found_by false body rest b.1) ∙ ap Some (one-add (length body)))
hex_found_by false (c ∷ body) rest b = elim (tests (eqb c 13)) as (λ _. hex_len false (c ∷ (body ++ 39 ∷ rest)) ≡ Some (suc (length body))) [
  | inl r ↦ (let l : IsLineBody body = rw r at b.1 in
      hex_len_return c (body ++ 39 ∷ rest) (other_is c 39 b.0) r ∙ (ap (more 1) (hex_found_by true body rest l) ∙ ap Some (one-add (length body))))
  | inr r ↦ (let k : IsTrue (is_hex_character c) × IsHexBody body = rw r at b.1 in
      hex_len_cons c (body ++ 39 ∷ rest) (other_is c 39 b.0) r k.0 ∙ (ap (more 1) (hex_found_by false body rest k.1) ∙ ap Some (one-add (length body))))
]

pub hex_found : (body rest : List ℕ) → IsHexBody body → hex_len false (body ++ 39 ∷ rest) ≡ Some (length body)
hex_found body rest b = hex_found_by false body rest b
