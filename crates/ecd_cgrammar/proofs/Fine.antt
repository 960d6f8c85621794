-- Readers that take what is spelled, unless it stands too deep.
use Rattle.std.proofs.Common.{◌≡◌, ℕ, zero, suc, ◌⊎◌, inl, inr, Bool, true, false, List, [], ◌∷◌, ◌++◌, Option, Some, None, Result, Err, refl, append_assoc}
use Rattle.std.specs.Prelude.{flat_map}
use Rattle.ecd_cast.specs.Memory.{Name}
use Rattle.ecd_cast.specs.Lexemes.{Lexeme}
use Rattle.ecd_cast.specs.Spelling.{IsName}
use Rattle.ecd_reading.specs.Reading.{after as then_}
use Rattle.ecd_cgrammar.specs.Reading.{Taken, Halted, Deep, Reader, taken, deep, peek, on, token, after, same, name_of, expect, named, when, many}
use Rattle.ecd_cgrammar.proofs.Tables.{same_self}

-- the value is taken and this is left, or what is looked at stands too deep
pub record Fine {A : Type 0} (p : List Lexeme → Result (Taken A) Halted) (ms : List Lexeme) (x : A) (rest : List Lexeme) : Type 0 where
  pub is : (p ms ≡ taken x rest) ⊎ (p ms ≡ Err Deep)

pub fine_taken : {A : Type 0} (x : A) (ms : List Lexeme) → Fine (taken x) ms x ms
fine_taken x ms = record { is = inl refl }

pub fine_deep : {A : Type 0} (x : A) (ms rest : List Lexeme) → Fine deep ms x rest
fine_deep x ms rest = record { is = inr refl }

fine_bind : {A B : Type 0} (p : Reader A) (q : A → Reader B) (x : A) (ms mid : List Lexeme) (y : B) (rest : List Lexeme) → Fine p ms x mid → Fine (q x) mid y rest → Fine (then_ p q) ms y rest
fine_bind p q x ms mid y rest f g = elim f.is [
  | inl e ↦ record { is = elim g.is [ inl h ↦ inl (rw e h) | inr h ↦ inr (rw e h) ] }
  | inr e ↦ record { is = inr (rw e refl) }
]

pub fine_after : {A B : Type 0} (p : Reader A) (q : A → Reader B) (x : A) (y : B) (ms mid rest : List Lexeme) → Fine p ms x mid → Fine (q x) mid y rest → Fine (after p q) ms y rest
unfolding after
fine_after {A} {B} p q x y ms mid rest f g = record { is = (fine_bind p q x ms mid y rest f g).is }

module _ {A : Type 0} where
  pub fine_expect : (q : Reader A) (l : Lexeme) (ms : List Lexeme) (y : A) (rest : List Lexeme) → Fine q ms y rest → Fine (expect l q) (l ∷ ms) y rest
  unfolding expect
  fine_expect q l ms y rest f = record { is = rw (same_self l) f.is }

  pub fine_named : (q : Name → Reader A) (x : Name) (ms : List Lexeme) (y : A) (rest : List Lexeme) → IsName x → Fine (q x) ms y rest → Fine (named q) (x ∷ ms) y rest
  unfolding named
  fine_named q x ms y rest n f = record { is = rw n f.is }

  pub fine_here : (p q : Reader A) (l : Lexeme) (ms : List Lexeme) (y : A) (rest : List Lexeme) → Fine p ms y rest → Fine (when l p q) (l ∷ ms) y rest
  unfolding when
  fine_here p q l ms y rest f = record { is = rw (same_self l) f.is }

  pub fine_past : (p q : Reader A) (l : Lexeme) (ms : List Lexeme) (y : A) (rest : List Lexeme) → peek (same l) ms ≡ None → Fine q ms y rest → Fine (when l p q) ms y rest
  unfolding when
  fine_past p q l ms y rest e f = record { is = rw e f.is }

  pub fine_on_name : (p : Name → Reader A) (q : Reader A) (x : Name) (ms : List Lexeme) (y : A) (rest : List Lexeme) → IsName x → Fine (p x) ms y rest → Fine (on name_of p q) (x ∷ ms) y rest
  unfolding on
  fine_on_name p q x ms y rest n f = record { is = rw n f.is }

  pub fine_on : {B : Type 0} (table : Lexeme → Option B) (p : B → Reader A) (q : Reader A) (m : Lexeme) (x : B) (ms : List Lexeme) (y : A) (rest : List Lexeme) → table m ≡ Some x → Fine (p x) ms y rest → Fine (on table p q) (m ∷ ms) y rest
  unfolding on
  fine_on table p q m x ms y rest e f = record { is = rw e f.is }

  pub fine_off : {B : Type 0} (table : Lexeme → Option B) (p : B → Reader A) (q : Reader A) (m : Lexeme) (ms : List Lexeme) (y : A) (rest : List Lexeme) → table m ≡ None → Fine q (m ∷ ms) y rest → Fine (on table p q) (m ∷ ms) y rest
  unfolding on
  fine_off table p q m ms y rest e f = record { is = rw e f.is }

pub fine_token : {A : Type 0} (table : Lexeme → Option A) (m : Lexeme) (x : A) (ms : List Lexeme) → table m ≡ Some x → Fine (token table) (m ∷ ms) x ms
fine_token table m x ms e = record { is = inl (rw e refl) }

-- ---- one after the other

pub fine_stop : {A : Type 0} (test : List Lexeme → Bool) (one : Reader A) (n : ℕ) (ms : List Lexeme) → test ms ≡ false → Fine (many test one deep n) ms [] ms
unfolding many
fine_stop test one zero ms e = record { is = inr refl }
fine_stop test one (suc n) ms e = record { is = inl (rw e refl) }

pub fine_more : {A : Type 0} (test : List Lexeme → Bool) (one : Reader A) (x : A) (xs : List A) (ms mid rest : List Lexeme) → test ms ≡ true → Fine one ms x mid → ((n : ℕ) → Fine (many test one deep n) mid xs rest) → (n : ℕ) → Fine (many test one deep n) ms (x ∷ xs) rest
unfolding many
fine_more {A} test one x xs ms mid rest e f g zero = record { is = inr refl }
fine_more {A} test one x xs ms mid rest e f g (suc n) =
    let both = fine_bind one (λ (y : A). then_ (many test one deep n) (λ (ys : List A). taken (y ∷ ys))) x ms mid (x ∷ xs) rest f
    (fine_bind (many test one deep n) (λ (ys : List A). taken (x ∷ ys)) xs mid rest (x ∷ xs) rest (g n) (fine_taken (x ∷ xs) rest)) in
    record { is = rw e both.is }

module _ {A : Type 0} (f : A → List Lexeme) (V : A → Type 0) (Vs : List A → Type 0) (parts : (x : A) (xs : List A) → Vs (x ∷ xs) → V x × Vs xs) (Follows : List Lexeme → Type 0) (follows : (x : A) (rest : List Lexeme) → Follows (f x ++ rest))
    (test : List Lexeme → Bool) (one : Reader A) (reads : (x : A) (rest : List Lexeme) → V x → Follows rest → Fine one (f x ++ rest) x rest) (goes : (x : A) (rest : List Lexeme) → V x → test (f x ++ rest) ≡ true) where
  next : (xs : List A) (rest : List Lexeme) → Follows rest → Follows (flat_map f xs ++ rest)
  next [] rest h = h
  next (x ∷ xs) rest h = rw (append_assoc (f x) (flat_map f xs) rest) (follows x (flat_map f xs ++ rest))

  pub fine_many : (xs : List A) (rest : List Lexeme) → Vs xs → Follows rest → test rest ≡ false → (n : ℕ) → Fine (many test one deep n) (flat_map f xs ++ rest) xs rest
  fine_many [] rest v h e n = fine_stop test one n rest e
  fine_many (x ∷ xs) rest v h e n =
      let p = parts x xs v in
      let tail = flat_map f xs ++ rest in
      rw (append_assoc (f x) (flat_map f xs) rest) (fine_more test one x xs (f x ++ tail) tail rest (goes x tail p.0) (reads x tail p.0 (next xs rest h)) (λ k. fine_many xs rest p.1 h e k) n)
