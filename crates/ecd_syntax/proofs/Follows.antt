-- What may stand behind each part, and lists of parts that are read again.
use Rattle.std.proofs.Common.{◌≡◌, ◌≢◌, ℕ, zero, suc, ◌<◌, ◌≤◌, Bool, true, false, List, [], ◌∷◌, ◌++◌, length, Option, Result, refl, ap, ◌∙◌, arith, append_assoc}
use Rattle.std.proofs.lemmas.List.{length-append}
use Rattle.ecd_lex.specs.declared.token.Sign.{Sign}
use Rattle.ecd_lex.specs.declared.token.Sign.TheVariants as signs
use Rattle.ecd_syntax.specs.Marks.{Mark, place, sign_of, number_of}
use Rattle.ecd_syntax.specs.Grammar.{One, OneSign, Then, Each, Listed, Angled}
use Rattle.ecd_syntax.specs.Reading.{Taken, Halted, Reader, ◌>>=◌, taken, stuck, on, token, begins, behind, many, each, more_listed, listed, angled, made}
use Rattle.ecd_reading.specs.Reading.{after}
use Rattle.ecd_syntax.proofs.Classes.{lead, Classed, Told, sign_class_of, peek_none, on_no, on_yes}

-- ---- what may stand behind a part

abbrev pub AfterOperand : ℕ → Type 0
AfterOperand n = (n ≢ 12) × (n ≢ 3)

abbrev pub AfterChoice : ℕ → Type 0
AfterChoice n = (n ≢ 12) × (n ≢ 3) × (n ≢ 6)

abbrev pub AfterType : ℕ → Type 0
AfterType n = (n ≢ 12) × (n ≢ 3) × (n ≢ 6) × (n ≢ 4)

abbrev pub AfterEntry : ℕ → Type 0
AfterEntry n = (n ≢ 12) × (n ≢ 3) × (n ≢ 6) × (n ≢ 4) × (n ≢ 8) × (n ≢ 9) × (n ≢ 10)

abbrev pub AfterInWay : ℕ → Type 0
AfterInWay n = (n ≢ 12) × (n ≢ 3) × (n ≢ 6) × (n ≢ 4) × (n ≢ 8) × (n ≢ 9) × (n ≢ 10) × (n ≢ 11)

-- what begins a type
abbrev pub Begins : ℕ → Type 0
Begins n = (16 < n) × (n ≢ 24)

-- ---- steps

pub after_is : {A B : Type 0} (p : Reader A) (q : A → Reader B) (x : A) (ms rest : List Mark) → p ms ≡ taken x rest → after p q ms ≡ q x rest
after_is p q x ms rest h = ap (λ (o : Result (Taken _) Halted). o >>= λ y. q y.value y.rest) h

pub made_is : {A B : Type 0} (f : A → B) (p : Reader A) (x : A) (ms rest : List Mark) → p ms ≡ taken x rest → made f p ms ≡ taken (f x) rest
made_is f p x ms rest h = ap (λ (o : Result (Taken _) Halted). o >>= λ y. taken (f y.value) y.rest) h

pub token_is : {A : Type 0} (table : Mark → Option A) (x : A) (ms rest : List Mark) → One table x ms → token table (ms ++ rest) ≡ taken x rest
token_is table x ms rest h = rw h.alone (on_yes table taken stuck h.mark x rest h.is)

-- the first mark of one alone
pub one_lead : {A : Type 0} (table : Mark → Option A) (k : ℕ) → Classed table k → (x : A) (ms rest : List Mark) → One table x ms → lead (ms ++ rest) ≡ k
one_lead table k classed x ms rest h = rw h.alone (classed h.mark x h.is)

pub on_one : {A B : Type 0} (table : Mark → Option A) (p : A → Reader B) (q : Reader B) (x : A) (ms rest : List Mark) → One table x ms → on table p q (ms ++ rest) ≡ p x rest
on_one table p q x ms rest h = rw h.alone (on_yes table p q h.mark x rest h.is)

pub then_is : (P Q : List Mark → Type 0) (ms rest : List Mark) (h : Then P Q ms) → ms ++ rest ≡ h.front ++ (h.back ++ rest)
then_is P Q ms rest h = ap (λ (t : List Mark). t ++ rest) h.whole ∙ append_assoc h.front h.back rest

pub lead_some : (ms rest : List Mark) → 0 < lead ms → lead (ms ++ rest) ≡ lead ms
lead_some [] rest h = absurd (omega arith)
lead_some (m ∷ ms) rest h = refl

pub place_some : (ms rest : List Mark) → 0 < lead ms → place (ms ++ rest) ≡ place ms
place_some [] rest h = absurd (omega arith)
place_some (m ∷ ms) rest h = refl

-- ---- one after the other

module _ {A : Type 0} (G : A → List Mark → Type 0) (test : List Mark → Bool) (one : Reader A) (Fol : ℕ → Type 0) where
  pub each_fol : ((x : A) (a rest : List Mark) → G x a → (test (a ++ rest) ≡ true) × Fol (lead (a ++ rest))) → (xs : List A) (ms rest : List Mark) → Each G xs ms → Fol (lead rest) → Fol (lead (ms ++ rest))
  each_fol begin [] ms rest h fol = rw h fol
  each_fol begin (x ∷ xs) ms rest h fol = rw (then_is (G x) (Each G xs) ms rest h) ((begin x h.front (h.back ++ rest) h.first).1)

  pub many_is : ((x : A) (a rest : List Mark) → G x a → Fol (lead rest) → one (a ++ rest) ≡ taken x rest)
      → ((x : A) (a rest : List Mark) → G x a → (test (a ++ rest) ≡ true) × Fol (lead (a ++ rest)))
      → (xs : List A) (ms rest : List Mark) (n : ℕ) → Each G xs ms → Fol (lead rest) → test rest ≡ false → length xs < n → many test one (taken []) n (ms ++ rest) ≡ taken xs rest
  unfolding many
  many_is reads begin xs ms rest zero h fol apart lt = absurd (omega arith)
  many_is reads begin [] ms rest (suc n) h fol apart lt = rw (h, apart) refl
  many_is reads begin (x ∷ xs) ms rest (suc n) h fol apart lt =
      let next : Fol (lead (h.back ++ rest)) = each_fol begin xs h.back rest h.second fol in
      let first : one (h.front ++ (h.back ++ rest)) ≡ taken x (h.back ++ rest) = reads x h.front (h.back ++ rest) h.first next in
      let more : many test one (taken []) n (h.back ++ rest) ≡ taken xs rest = many_is reads begin xs h.back rest n h.second fol apart (omega arith) in
      rw (then_is (G x) (Each G xs) ms rest h, (begin x h.front (h.back ++ rest) h.first).0, first, more) refl

  pub each_count : ((x : A) (a rest : List Mark) → G x a → 0 < length a) → (xs : List A) (ms : List Mark) → Each G xs ms → length xs ≤ length ms
  each_count have [] ms h = omega arith
  each_count have (x ∷ xs) ms h = omega (arith, ap length h.whole, length-append h.front h.back, have x h.front [] h.first, each_count have xs h.back h.second)

  pub each_is : ((x : A) (a rest : List Mark) → G x a → 0 < length a)
      → ((x : A) (a rest : List Mark) → G x a → Fol (lead rest) → one (a ++ rest) ≡ taken x rest)
      → ((x : A) (a rest : List Mark) → G x a → (test (a ++ rest) ≡ true) × Fol (lead (a ++ rest)))
      → (xs : List A) (ms rest : List Mark) → Each G xs ms → Fol (lead rest) → test rest ≡ false → each test one (ms ++ rest) ≡ taken xs rest
  each_is have reads begin xs ms rest h fol apart = many_is reads begin xs ms rest (suc (length (ms ++ rest))) h fol apart (omega (arith, each_count have xs ms h, length-append ms rest))

-- ---- lists with a sign between each two

pub begins_yes : {A : Type 0} (table : Mark → Option A) (x : A) (ms rest : List Mark) → One table x ms → begins table (ms ++ rest) ≡ true
begins_yes table x ms rest h = rw (h.alone, h.is) refl

pub begins_no : {A : Type 0} (table : Mark → Option A) (k : ℕ) → Classed table k → (ms : List Mark) → lead ms ≢ k → begins table ms ≡ false
begins_no table k classed ms h = rw (peek_none table k classed ms h) refl

module _ {A : Type 0} (G : A → List Mark → Type 0) (one : Reader A) (Fol : ℕ → Type 0) (have : (x : A) (a : List Mark) → G x a → 0 < length a) (reads : (x : A) (a rest : List Mark) → G x a → Fol (lead rest) → one (a ++ rest) ≡ taken x rest) (sign : Sign) (told : Told (number_of sign)) (fol : Fol (number_of sign)) where
  pub sign_lead : (ms rest : List Mark) → OneSign sign ms → lead (ms ++ rest) ≡ number_of sign
  sign_lead ms rest h = one_lead (sign_of sign) (number_of sign) (sign_class_of sign told) tt ms rest h

  pub next_lead : (x : A) (a rest : List Mark) → Then (OneSign sign) (G x) a → lead (a ++ rest) ≡ number_of sign
  next_lead x a rest h = rw (then_is (OneSign sign) (G x) a rest h) (sign_lead h.front (h.back ++ rest) h.first)

  pub next_is : (x : A) (a rest : List Mark) → Then (OneSign sign) (G x) a → Fol (lead rest) → behind (sign_of sign) one (a ++ rest) ≡ taken x rest
  next_is x a rest h f = rw (then_is (OneSign sign) (G x) a rest h) (after_is (token (sign_of sign)) (λ _. one) tt (h.front ++ (h.back ++ rest)) (h.back ++ rest) (token_is (sign_of sign) tt h.front (h.back ++ rest) h.first) ∙ reads x h.back rest h.second f)

  pub next_begins : (x : A) (a rest : List Mark) → Then (OneSign sign) (G x) a → (begins (sign_of sign) (a ++ rest) ≡ true) × Fol (lead (a ++ rest))
  next_begins x a rest h = (rw (then_is (OneSign sign) (G x) a rest h) (begins_yes (sign_of sign) tt h.front (h.back ++ rest) h.first), rw (next_lead x a rest h) fol)

  pub next_have : (x : A) (a rest : List Mark) → Then (OneSign sign) (G x) a → 0 < length a
  next_have x a rest h = omega (arith, ap length h.whole, length-append h.front h.back, have x h.back h.second)

  abbrev pub Next : A → List Mark → Type 0
  Next y = Then (OneSign sign) (G y)

  pub more_fol : (xs : List A) (ms rest : List Mark) → Each Next xs ms → Fol (lead rest) → Fol (lead (ms ++ rest))
  more_fol xs ms rest h f = each_fol Next (begins (sign_of sign)) (behind (sign_of sign) one) Fol next_begins xs ms rest h f

  pub more_listed_is : (x : A) (xs : List A) (ms rest : List Mark) → Each Next xs ms → Fol (lead rest) → lead rest ≢ number_of sign → more_listed sign one x (ms ++ rest) ≡ taken (x ∷ xs) rest
  more_listed_is x xs ms rest h f apart =
      after_is (each (begins (sign_of sign)) (behind (sign_of sign) one)) (λ ys. taken (x ∷ ys)) xs (ms ++ rest) rest
      (each_is Next (begins (sign_of sign)) (behind (sign_of sign) one) Fol next_have next_is next_begins xs ms rest h f (begins_no (sign_of sign) (number_of sign) (sign_class_of sign told) rest apart))

  pub listed_is : (xs : List A) (ms rest : List Mark) → Listed sign G xs ms → Fol (lead rest) → lead rest ≢ number_of sign → listed sign one (ms ++ rest) ≡ taken xs rest
  listed_is [] ms rest h f apart = absurd h
  listed_is (x ∷ xs) ms rest h f apart =
      rw (then_is (G x) (Each Next xs) ms rest h)
      (after_is one (λ y. more_listed sign one y) x (h.front ++ (h.back ++ rest)) (h.back ++ rest) (reads x h.front (h.back ++ rest) h.first (more_fol xs h.back rest h.second f)) ∙ more_listed_is x xs h.back rest h.second f apart)

pub told_by : (n : ℕ) → 3 < n → n ≢ 6 → n ≢ 7 → Told n
told_by n a b c = (a, b, c)

pub told_less : Told 12
told_less = (omega arith, omega arith, omega arith)

pub told_comma : Told 11
told_comma = (omega arith, omega arith, omega arith)

pub told_greater : Told 13
told_greater = (omega arith, omega arith, omega arith)

module _ {A : Type 0} (G : A → List Mark → Type 0) (one : Reader A) (Fol : ℕ → Type 0) (have : (x : A) (a : List Mark) → G x a → 0 < length a) (reads : (x : A) (a rest : List Mark) → G x a → Fol (lead rest) → one (a ++ rest) ≡ taken x rest) (comma : Fol 11) (greater : Fol 13) where
  pub angled_is : (xs : List A) (ms rest : List Mark) → Angled G xs ms → lead rest ≢ 12 → angled one (ms ++ rest) ≡ taken xs rest
  unfolding angled
  angled_is [] ms rest h apart = rw h (on_no (sign_of signs.Less) 12 (sign_class_of signs.Less told_less) (λ _. after (listed signs.Comma one) (λ xs. after (token (sign_of signs.Greater)) (λ _. taken xs))) (taken []) rest apart)
  angled_is (x ∷ xs) ms rest h apart =
      let g = h.second in
      let l : lead (g.back ++ rest) ≡ 13 = one_lead (sign_of signs.Greater) 13 (sign_class_of signs.Greater told_greater) tt g.back rest g.second in
      let f : Fol (lead (g.back ++ rest)) = rw l greater in
      let n : lead (g.back ++ rest) ≢ 11 = omega arith in
      rw (then_is (OneSign signs.Less) (Then (Listed signs.Comma G (x ∷ xs)) (OneSign signs.Greater)) ms rest h)
      (on_one (sign_of signs.Less) (λ _. after (listed signs.Comma one) (λ xs. after (token (sign_of signs.Greater)) (λ _. taken xs))) (taken []) tt h.front (h.back ++ rest) h.first
      ∙ rw (then_is (Listed signs.Comma G (x ∷ xs)) (OneSign signs.Greater) h.back rest g)
      (after_is (listed signs.Comma one) (λ xs. after (token (sign_of signs.Greater)) (λ _. taken xs)) (x ∷ xs) (g.front ++ (g.back ++ rest)) (g.back ++ rest) (listed_is G one Fol have reads signs.Comma told_comma comma (x ∷ xs) g.front (g.back ++ rest) g.first f n)
      ∙ after_is (token (sign_of signs.Greater)) (λ _. taken (x ∷ xs)) tt (g.back ++ rest) rest (token_is (sign_of signs.Greater) tt g.back rest g.second)))

pub told_slash : Told 4
told_slash = (omega arith, omega arith, omega arith)

pub told_caret : Told 9
told_caret = (omega arith, omega arith, omega arith)

pub told_arrow : Told 8
told_arrow = (omega arith, omega arith, omega arith)

pub told_colon : Told 10
told_colon = (omega arith, omega arith, omega arith)
