-- A text is cut into the lexemes at its front, up to its end or to a byte that begins none.
use Rattle.std.proofs.Common.{◌≡◌, ℕ, zero, suc, ◌<◌, ◌≤◌, ◌⊎◌, inl, inr, Bool, true, false, List, [], ◌∷◌, ◌++◌, length, take, drop, refl, ap, sym, ◌∙◌, arith, append_assoc}
use Rattle.std.specs.List.{list_all}
use Rattle.std.proofs.Math.Seq.{take-append_seam}
use Rattle.std.proofs.lemmas.Bool.{cases_Bool, cases_eq, and_from}
use Rattle.std.proofs.lemmas.List.{length-append, length-take-le, take-append-drop}
use Rattle.ecd_cast.specs.Lexemes.{Lexeme, AreLexemes, IsLongest, is_lexeme, is_blank}
use Rattle.ecd_cgrammar.specs.Faults.{Reaches, begins_blank}
use Rattle.ecd_cgrammar.proofs.Lexing.{some_bytes}

-- ---- blanks

-- blanks, and behind them the end or what is none
pub record Gap (text : List ℕ) : Type 0 where
  pub blanks : List ℕ
  pub rest : List ℕ
  pub are : list_all is_blank blanks ≡ true
  pub is : text ≡ blanks ++ rest
  pub clear : begins_blank rest ≡ false

gap : (text : List ℕ) → Gap text
gap [] = record { blanks = []; rest = []; are = refl; is = refl; clear = refl }
gap (c ∷ text) = by (is_blank c) refl (gap text)
  where
    by : (b : Bool) → is_blank c ≡ b → Gap text → Gap (c ∷ text)
    by true e g = record { blanks = c ∷ g.blanks; rest = g.rest; are = and_from (is_blank c) (list_all is_blank g.blanks) e g.are; is = ap (λ (t : List ℕ). c ∷ t) g.is; clear = g.clear }
    by false e g = record { blanks = []; rest = c ∷ text; are = refl; is = refl; clear = e }

-- ---- the longest lexeme at the front

module _ (test : ℕ → Bool) where
  -- the greatest number below the end that passes
  record Greatest (end : ℕ) : Type 0 where
    number : ℕ
    below : number < end
    passes : test number ≡ true
    last : (other : ℕ) → number < other → other < end → test other ≡ true → ⊥

  greatest : (end : ℕ) → Greatest end ⊎ ((number : ℕ) → number < end → test number ≡ true → ⊥)
  greatest zero = inr (λ n lt h. omega arith)
  greatest (suc end) = elim (cases_Bool (test end)) [
    | inl holds ↦ inl (record { number = end; below = omega arith; passes = holds; last = λ n more lt h. omega arith })
    | inr fails ↦ behind fails (greatest end)
  ]
    where
      behind : test end ≡ false → Greatest end ⊎ ((number : ℕ) → number < end → test number ≡ true → ⊥) → Greatest (suc end) ⊎ ((number : ℕ) → number < suc end → test number ≡ true → ⊥)
      behind fails (inl g) = inl (record { number = g.number; below = omega (arith, g.below); passes = g.passes; last = λ n more lt h. elim (cases_eq n end) [ inl same ↦ (let bad : true ≡ false = sym h ∙ (ap test same ∙ fails) in cc) | inr other ↦ g.last n more (omega (arith, other)) h ] })
      behind fails (inr none) = inr (λ n lt h. elim (cases_eq n end) [ inl same ↦ (let bad : true ≡ false = sym h ∙ (ap test same ∙ fails) in cc) | inr other ↦ none n (omega (arith, other)) h ])

-- a lexeme and what stands behind it
pub record Front (text : List ℕ) : Type 0 where
  pub lexeme : Lexeme
  pub behind : List ℕ
  pub is : text ≡ lexeme ++ behind
  pub known : is_lexeme lexeme ≡ true
  pub longest : IsLongest lexeme behind

module _ (text : List ℕ) where
  is_front : ℕ → Bool
  is_front n = is_lexeme (take n text)

  -- a front of the text by its length
  front_is : (l after : List ℕ) → text ≡ l ++ after → (take (length l) text ≡ l) × (length l < suc (length text))
  front_is l after e = (ap (take (length l)) e ∙ take-append_seam l after, omega (arith, ap length e, length-append l after))

  longest_front : Greatest is_front (suc (length text)) → Front text
  unfolding is_front
  longest_front g = record { lexeme = take g.number text; behind = drop g.number text; is = sym whole; known = g.passes; longest = longest }
    where
      whole : take g.number text ++ drop g.number text ≡ text
      whole = take-append-drop g.number text

      size : length (take g.number text) ≡ g.number
      size = length-take-le g.number text (omega (arith, g.below))

      longest : IsLongest (take g.number text) (drop g.number text)
      longest more after e some h =
          let split : text ≡ (take g.number text ++ more) ++ after = sym whole ∙ (ap (λ (t : List ℕ). take g.number text ++ t) e ∙ sym (append_assoc (take g.number text) more after)) in
          let f = front_is (take g.number text ++ more) after split in
          g.last (length (take g.number text ++ more)) (omega (arith, size, some, length-append (take g.number text) more)) f.1 (ap is_lexeme f.0 ∙ h)

  no_front : ((n : ℕ) → n < suc (length text) → is_front n ≡ true → ⊥) → (l after : List ℕ) → text ≡ l ++ after → is_lexeme l ≡ true → ⊥
  unfolding is_front
  no_front none l after e h = let f = front_is l after e in none (length l) f.1 (ap is_lexeme f.0 ∙ h)

-- ---- a text as lexemes

pub record Cut (text : List ℕ) : Type 0 where
  pub lexemes : List Lexeme
  pub rest : List ℕ
  pub known : AreLexemes lexemes
  pub reaches : Reaches lexemes rest text
  pub clear : begins_blank rest ≡ false
  pub dead : (l after : List ℕ) → rest ≡ l ++ after → is_lexeme l ≡ true → ⊥

module _ (text : List ℕ) (g : Gap text) where
  ended : ((l after : List ℕ) → g.rest ≡ l ++ after → is_lexeme l ≡ true → ⊥) → Cut text
  ended dead = record { lexemes = []; rest = g.rest; known = tt; reaches = (g.blanks, g.are, g.is); clear = g.clear; dead = dead }

  begun : (f : Front g.rest) → Cut f.behind → Cut text
  begun f c = record {
    lexemes = f.lexeme ∷ c.lexemes;
    rest = c.rest;
    known = (f.known, c.known);
    reaches = (g.blanks, f.behind, g.are, g.is ∙ ap (λ (t : List ℕ). g.blanks ++ t) f.is, f.longest, c.reaches);
    clear = c.clear;
    dead = c.dead;
  }

  shorter : (f : Front g.rest) → length f.behind < length text
  shorter f = omega (arith, ap length g.is, length-append g.blanks g.rest, ap length f.is, length-append f.lexeme f.behind, some_bytes f.lexeme f.known)

cut_within : (size : ℕ) (text : List ℕ) → length text < size → Cut text
cut_within zero text lt = absurd (omega arith)
cut_within (suc size) text lt = by (λ behind less. cut_within size behind less) (greatest (is_front (gap text).rest) (suc (length (gap text).rest)))
  where
    by : ((behind : List ℕ) → length behind < size → Cut behind) → Greatest (is_front (gap text).rest) (suc (length (gap text).rest)) ⊎ ((n : ℕ) → n < suc (length (gap text).rest) → is_front (gap text).rest n ≡ true → ⊥) → Cut text
    by later (inl n) = let f = longest_front (gap text).rest n in begun text (gap text) f (later f.behind (omega (arith, shorter text (gap text) f)))
    by later (inr none) = ended text (gap text) (no_front (gap text).rest none)

pub cut : (text : List ℕ) → Cut text
cut text = cut_within (suc (length text)) text (omega arith)

-- what is reached before a lexeme
pub record Before (front : List Lexeme) (lexeme : Lexeme) (text : List ℕ) : Type 0 where
  pub behind : List ℕ
  pub known : is_lexeme lexeme ≡ true
  pub reaches : Reaches front (lexeme ++ behind) text
  pub longest : IsLongest lexeme behind

pub before : (front : List Lexeme) (m : Lexeme) (more : List Lexeme) (rest text : List ℕ) → AreLexemes (front ++ m ∷ more) → Reaches (front ++ m ∷ more) rest text → Before front m text
before [] m more rest text a r = record { behind = r.1; known = a.0; reaches = (r.0, r.2, r.3); longest = r.4 }
before (l ∷ front) m more rest text a r = let b = before front m more rest r.1 a.1 r.5 in record { behind = b.behind; known = b.known; reaches = (r.0, r.1, r.2, r.3, r.4, b.reaches); longest = b.longest }

-- what is left behind lexemes is no longer than the text
pub no_longer : (ls : List Lexeme) (rest text : List ℕ) → Reaches ls rest text → length rest ≤ length text
no_longer [] rest text r = omega (arith, ap length r.2, length-append r.0 rest)
no_longer (l ∷ ls) rest text r = omega (arith, ap length r.3, length-append r.0 (l ++ r.1), length-append l r.1, no_longer ls rest r.1 r.5)
