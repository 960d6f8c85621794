-- What every reader of lexemes keeps, and how readers that keep it are joined.
use Rattle.std.proofs.Common.{◌≡◌, ℕ, zero, suc, Bool, true, false, List, [], ◌∷◌, ◌++◌, Option, Some, Result, refl, ap, sym, subst, append-nil}
use Rattle.std.specs.Prelude.{bytes_eq, codes, not, flat_map}
use Rattle.std.proofs.lemmas.Slice.Eq.{bytes_eq-Decides}
use Rattle.ecd_cast.specs.Memory.{Name}
use Rattle.ecd_cast.specs.Lexemes.{Lexeme, is_name}
use Rattle.ecd_cast.specs.Spelling.{IsName}
use Rattle.ecd_reading.specs.Reading.{after as then_}
use Rattle.ecd_reading.proofs.Readers as read
use Rattle.ecd_reading.proofs.Readers.{TestsFirst, good_taken, good_stuck, good_deep, good_choice, good_if, begins_tests}
use Rattle.ecd_cgrammar.specs.Reading.{Taken, Halted, Reader, taken, stuck, deep, on, token, after, said, same, named_if, name_of, expect, named, when, many, is_before}

-- an example is made of any lexemes
abbrev pub Any : Lexeme → Type 0
Any m = Unit {0}

abbrev pub Example : {A : Type 0} → (A → List Lexeme → Type 0) → Type 0
Example G = read.Example Any G

abbrev pub Good : {A : Type 0} → (A → List Lexeme → Type 0) → (List Lexeme → Result (Taken A) Halted) → Type 0
Good G p = read.Good Any G p

-- ---- lexemes

said_true : (b : Bool) (u : Unit {0}) → said b ≡ Some u → b ≡ true
said_true true u h = refl
said_true false u h = absurd cc

pub same_is : (l m : Lexeme) (u : Unit {0}) → same l m ≡ Some u → m ≡ l
same_is l m u h = sym ((bytes_eq-Decides l m).0 (said_true (bytes_eq l m) u h))

named_true : (b : Bool) (m x : Name) → named_if b m ≡ Some x → (b ≡ true) × (m ≡ x)
named_true true m x h = let e : m ≡ x = cc in (refl, e)
named_true false m x h = absurd cc

pub name_is : (m x : Lexeme) → name_of m ≡ Some x → IsName x × (m ≡ x)
name_is m x h = let r = named_true (is_name m) m x h in (subst IsName r.1 r.0, r.1)

-- ---- the readers of the grammar

-- lexemes that are those of a value that fits
abbrev pub Spelled : {A : Type 0} → (A → List Lexeme) → (A → Type 0) → A → List Lexeme → Type 0
Spelled f V x ms = (ms ≡ f x) × V x

pub good_after : {A B : Type 0} {f : A → List Lexeme} {V : A → Type 0} {K : B → List Lexeme → Type 0} {p : Reader A} {q : A → Reader B} → Good (Spelled f V) p → ((x : A) → V x → Good (λ y b. K y (f x ++ b)) (q x)) → Good K (after p q)
unfolding after
good_after {A} {B} {f} {V} {K} {p} {q} good goods =
    read.good_after p q good (λ x a g. subst (λ (t : List Lexeme). Good (λ y b. K y (t ++ b)) (q x)) (sym g.0) (goods x g.1))

-- the same where what is read begins something
pub good_bind : {A B : Type 0} {G : A → List Lexeme → Type 0} {K : B → List Lexeme → Type 0} {p : Reader A} {q : A → Reader B} → Good G p → ((x : A) (a : List Lexeme) → G x a → Good (λ y b. K y (a ++ b)) (q x)) → Good K (after p q)
unfolding after
good_bind {A} {B} {G} {K} {p} {q} good goods = read.good_after p q good goods

pub good_on : {A B : Type 0} {K : B → List Lexeme → Type 0} {table : Lexeme → Option A} {p : A → Reader B} {q : Reader B} → ((x : A) (m : Lexeme) → table m ≡ Some x → Good (λ y b. K y (m ∷ b)) (p x)) → Good K q → Good K (on table p q)
unfolding on
good_on {A} {B} {K} {table} {p} {q} goods good = good_choice table p q goods good

pub good_on_name : {B : Type 0} {K : B → List Lexeme → Type 0} {p : Name → Reader B} {q : Reader B} → ((x : Name) → IsName x → Good (λ y b. K y (x ∷ b)) (p x)) → Good K q → Good K (on name_of p q)
good_on_name {B} {K} {p} {q} goods good =
    good_on (λ x m e. let r = name_is m x e in subst (λ (l : Lexeme). Good (λ y b. K y (l ∷ b)) (p x)) (sym r.1) (goods x r.0)) good

pub good_when : {B : Type 0} {K : B → List Lexeme → Type 0} {p q : Reader B} (l : Lexeme) → Good (λ y b. K y (l ∷ b)) p → Good K q → Good K (when l p q)
unfolding when
good_when {B} {K} {p} {q} l good other =
    good_choice (same l) (λ _. p) q (λ x m e. subst (λ (t : Lexeme). Good (λ y b. K y (t ∷ b)) p) (sym (same_is l m x e)) good) other

pub good_table : {A : Type 0} (table : Lexeme → Option A) (f : A → List Lexeme) (V : A → Type 0) → ((x : A) (m : Lexeme) → table m ≡ Some x → (m ∷ [] ≡ f x) × V x) → Example (Spelled f V) → Good (Spelled f V) (token table)
good_table {A} table f V is example = good_choice table taken stuck (λ x m e. good_taken x (is x m e)) (good_stuck example)

pub good_same : (l : Lexeme) → Good (λ u ms. ms ≡ l ∷ []) (token (same l))
good_same l = good_choice (same l) taken stuck (λ x m e. good_taken x (ap (λ (t : Lexeme). t ∷ []) (same_is l m x e))) (good_stuck (record { value = tt; text = l ∷ []; plain = (tt, tt); spells = refl }))

pub good_expect : {A : Type 0} {K : A → List Lexeme → Type 0} {q : Reader A} (l : Lexeme) → Good (λ y b. K y (l ∷ b)) q → Good K (expect l q)
unfolding expect
good_expect {A} {K} {q} l good =
    read.good_after (token (same l)) (λ _. q) (good_same l) (λ u a g. subst (λ (t : List Lexeme). Good (λ y b. K y (t ++ b)) q) (sym g) good)

pub good_name : Good (λ x ms. (ms ≡ x ∷ []) × IsName x) (token name_of)
good_name = good_choice name_of taken stuck (λ x m e. let r = name_is m x e in good_taken x (ap (λ (t : Lexeme). t ∷ []) r.1, r.0)) (good_stuck (record { value = codes "a"; text = codes "a" ∷ []; plain = (tt, tt); spells = (refl, refl) }))

pub good_named : {A : Type 0} {K : A → List Lexeme → Type 0} {q : Name → Reader A} → ((x : Name) → IsName x → Good (λ y b. K y (x ∷ b)) (q x)) → Good K (named q)
unfolding named
good_named {A} {K} {q} goods =
    read.good_after (token name_of) q good_name (λ x a g. subst (λ (t : List Lexeme). Good (λ y b. K y (t ++ b)) (q x)) (sym g.0) (goods x g.1))

-- ---- one after the other

pub before_tests : (close : Lexeme) → TestsFirst (is_before close)
before_tests close front rest other h = ap not (begins_tests (same close) front rest other h)

-- lists of what fits, spelled one after the other
module _ {A : Type 0} (f : A → List Lexeme) (V : A → Type 0) (Vs : List A → Type 0) (none : Vs []) (more : (x : A) (xs : List A) → V x → Vs xs → Vs (x ∷ xs)) where
  pub good_many : (test : List Lexeme → Bool) (one : Reader A) → TestsFirst test → Good (Spelled f V) one → (n : ℕ) → Good (Spelled (flat_map f) Vs) (many test one deep n)
  unfolding many
  good_many test one tests good zero = good_deep (record { value = []; text = []; plain = tt; spells = (refl, none) })
  good_many test one tests good (suc n) =
      good_if test (then_ one (λ x. then_ (many test one deep n) (λ xs. taken (x ∷ xs)))) (taken []) tests
      (read.good_after one (λ x. then_ (many test one deep n) (λ xs. taken (x ∷ xs))) good
      (λ x a g. read.good_after (many test one deep n) (λ xs. taken (x ∷ xs)) (good_many test one tests good n)
      (λ xs b h. good_taken (x ∷ xs) (rw (g.0, h.0, append-nil (flat_map f xs)) refl, more x xs g.1 h.1))))
      (good_taken [] (refl, none))
