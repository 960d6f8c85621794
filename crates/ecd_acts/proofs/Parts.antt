-- The rules of validity at a body that is put together.
use Rattle.std.proofs.Common.{◌≡◌, ℕ, ◌+◌, List, [], ◌∷◌, ◌++◌, refl, ap, sym, ◌∙◌, arith, append_assoc}
use Rattle.std.specs.Prelude.{not}
use Rattle.ecd_cast.specs.declared.tree.Stmt.{Stmt}
use Rattle.ecd_cast.specs.Memory.{Name}
use Rattle.ecd_cast.specs.Kinds.{Known, unless}
use Rattle.ecd_cast.specs.Meaning.{Place, shifted, count_of, count_all}
use Rattle.ecd_cast.specs.Validity.{Fault, Around, Naming, known_after, stmt_faults, named_by, block_faults, block_returns, named_in, twice, at_place, is_among}
use Rattle.ecd_acts.specs.Parts.{known_behind, names_behind, ValidByParts}

no_shift : (p : Place) → p ≡ shifted p 0
no_shift p = let sum : p.statement ≡ p.statement + 0 = omega arith in ap (λ (n : ℕ). record { item = p.item; statement = n }) sum

both_shifts : (p : Place) (a b : ℕ) → shifted (shifted p a) b ≡ shifted p (a + b)
both_shifts p a b = let sum : p.statement + a + b ≡ p.statement + (a + b) = omega arith in ap (λ (n : ℕ). record { item = p.item; statement = n }) sum

pub count_append : (xs ys : List Stmt) → count_all (xs ++ ys) ≡ count_all xs + count_all ys
count_append [] ys = omega arith
count_append (s ∷ xs) ys = let h = count_append xs ys in omega (arith, h)

pub faults_append : (around : Around) (known : Known) (xs ys : List Stmt) (p : Place) → block_faults around known (xs ++ ys) p ≡ block_faults around known xs p ++ block_faults around (known_behind xs known) ys (shifted p (count_all xs))
faults_append around known [] ys p = ap (λ (q : Place). block_faults around known ys q) (no_shift p)
faults_append around known (s ∷ xs) ys p =
    let here : List Fault = stmt_faults around known s p in
    let q : Place = shifted p (count_of s) in
    let known1 : Known = known_after s known in
    ap (λ (l : List Fault). here ++ l) (faults_append around known1 xs ys q ∙ ap (λ (r : Place). block_faults around known1 xs q ++ block_faults around (known_behind xs known1) ys r) (both_shifts p (count_of s) (count_all xs)))
    ∙ sym (append_assoc here (block_faults around known1 xs q) (block_faults around (known_behind xs known1) ys (shifted p (count_of s + count_all xs))))

pub known_append : (xs ys : List Stmt) (known : Known) → known_behind (xs ++ ys) known ≡ known_behind ys (known_behind xs known)
known_append [] ys known = refl
known_append (s ∷ xs) ys known = known_append xs ys (known_after s known)

pub names_append : (xs ys : List Stmt) (p : Place) → named_in (xs ++ ys) p ≡ named_in xs p ++ named_in ys (shifted p (count_all xs))
names_append [] ys p = ap (λ (q : Place). named_in ys q) (no_shift p)
names_append (s ∷ xs) ys p =
    let here : List Naming = named_by s p in
    let q : Place = shifted p (count_of s) in
    ap (λ (l : List Naming). here ++ l) (names_append xs ys q ∙ ap (λ (r : Place). named_in xs q ++ named_in ys r) (both_shifts p (count_of s) (count_all xs)))
    ∙ sym (append_assoc here (named_in xs q) (named_in ys (shifted p (count_of s + count_all xs))))

pub twice_append : (earlier : List Name) (ns ms : List Naming) → twice earlier (ns ++ ms) ≡ twice earlier ns ++ twice (names_behind ns earlier) ms
twice_append earlier [] ms = refl
twice_append earlier (n ∷ ns) ms =
    let here : List Fault = at_place n.place (unless (not (is_among earlier n.name)) 6) in
    ap (λ (l : List Fault). here ++ l) (twice_append (n.name ∷ earlier) ns ms) ∙ sym (append_assoc here (twice (n.name ∷ earlier) ns) (twice (names_behind ns (n.name ∷ earlier)) ms))

pub returns_append : (xs : List Stmt) (y : Stmt) (ys : List Stmt) → block_returns (xs ++ y ∷ ys) ≡ block_returns (y ∷ ys)
returns_append [] y ys = refl
returns_append (x ∷ []) y ys = refl
returns_append (x ∷ (z ∷ xs)) y ys = returns_append (z ∷ xs) y ys

pub by_parts : ValidByParts
by_parts = record { count = count_append; faults = faults_append; known_rest = known_append; names = names_append; given_twice = twice_append; returns_last = returns_append }
