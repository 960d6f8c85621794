-- The ends of arrays by rows are those by lists.
use Rattle.std.proofs.Common.{◌≡◌, ℕ, zero, suc, inl, inr, Bool, true, false, cond, List, [], ◌∷◌, ◌++◌, reverse, refl, ap, sym, ◌∙◌, append_assoc}
use Rattle.std.proofs.lemmas.List.{reverse-append}
use mathlib.Core.Former.{Count}
use Rattle.ecd_core.specs.declared.shape.Kind.{Kind}
use Rattle.ecd_core.specs.declared.shape.Kind.TheBlock as block
use Rattle.ecd_core.specs.declared.shape.Group.{Row_of-Part, end_of-Part, more_of-Part, items-the_row-Part}
use Rattle.ecd_core.specs.declared.shape.Part.{Part, One', Opt', Many', Alt'}
use Rattle.ecd_core.specs.Listed.{IsAt}
use Rattle.ecd_core.proofs.Layers.{fwd}
use Rattle.ecd_apart.specs.Apart.{Apart, is_one, one_of, are_ones, fixed_prefix, fixed_suffix, FirstApart, LastApart}
use Rattle.ecd_apart.proofs.BothWays.{turn, turn_last}
use Rattle.ecd_apart.proofs.TurningMaps.{Place, last_apart}
use Rattle.ecd_disjoint.specs.Ends.{singles, SomeApart}

-- ---- from the front

prefix_row : {n : Count} (row : Row_of-Part n) → fixed_prefix row ≡ singles (items-the_row-Part n row)
prefix_row end_of-Part = refl
prefix_row (more_of-Part part rest) = ap (λ (ks : List Kind). cond (is_one part) (one_of part ++ ks) []) (prefix_row rest)

pub prefix-parts : (parts : List Part) → fixed_prefix (block.hidden-the_row-Part-2 parts) ≡ singles parts
prefix-parts parts = prefix_row (block.hidden-the_row-Part-2 parts) ∙ ap singles (block.items_hidden-the_row-Part-2 parts)

pub first_to : {n : Count} (row : Row_of-Part n) (others : List Kind) → FirstApart row others → SomeApart (fixed_prefix row) others
unfolding Apart
first_to end_of-Part others a = absurd a
first_to (more_of-Part part rest) [] a = absurd a
first_to (more_of-Part (One' at kind) rest) (other ∷ others) (e, inl a) = inl a
first_to (more_of-Part (One' at kind) rest) (other ∷ others) (e, inr a) = inr (first_to rest others a)
first_to (more_of-Part (Opt' at s body) rest) (other ∷ others) (e, a) = absurd cc
first_to (more_of-Part (Many' at lo hi s body) rest) (other ∷ others) (e, a) = absurd cc
first_to (more_of-Part (Alt' at s ways) rest) (other ∷ others) (e, a) = absurd cc

pub first_from : {n : Count} (row : Row_of-Part n) (others : List Kind) → SomeApart (fixed_prefix row) others → FirstApart row others
unfolding Apart
first_from end_of-Part others a = absurd a
first_from (more_of-Part (One' at kind) rest) [] a = absurd a
first_from (more_of-Part (One' at kind) rest) (other ∷ others) (inl a) = (refl, inl a)
first_from (more_of-Part (One' at kind) rest) (other ∷ others) (inr a) = (refl, inr (first_from rest others a))
first_from (more_of-Part (Opt' at s body) rest) others a = absurd a
first_from (more_of-Part (Many' at lo hi s body) rest) others a = absurd a
first_from (more_of-Part (Alt' at s ways) rest) others a = absurd a

-- ---- from the end

abbrev all_single : List Part → Bool
all_single [] = true
all_single (part ∷ parts) = cond (is_one part) (all_single parts) false

ones_row : {n : Count} (row : Row_of-Part n) → are_ones row ≡ all_single (items-the_row-Part n row)
ones_row end_of-Part = refl
ones_row (more_of-Part part rest) = ap (λ (b : Bool). cond (is_one part) b false) (ones_row rest)

single_more : (xs : List Part) (part : Part) → all_single (xs ++ part ∷ []) ≡ cond (is_one part) (all_single xs) false
single_more [] part = refl
single_more (x ∷ xs) part = ap (λ (b : Bool). cond (is_one x) b false) (single_more xs part) ∙ by_tests (is_one x) (is_one part)
  where
    by_tests : (a b : Bool) → cond a (cond b (all_single xs) false) false ≡ cond b (cond a (all_single xs) false) false
    by_tests true true = refl
    by_tests true false = refl
    by_tests false true = refl
    by_tests false false = refl

single_turned : (xs : List Part) → all_single (reverse xs) ≡ all_single xs
single_turned [] = refl
single_turned (x ∷ xs) = ap all_single (reverse-append (x ∷ []) xs) ∙ (single_more (reverse xs) x ∙ ap (λ (b : Bool). cond (is_one x) b false) (single_turned xs))

one_alone : (part : Part) → cond (is_one part) (one_of part ++ []) [] ≡ one_of part
one_alone (One' at kind) = refl
one_alone (Opt' at s body) = refl
one_alone (Many' at lo hi s body) = refl
one_alone (Alt' at s ways) = refl

singles_more : (xs : List Part) (part : Part) → singles (xs ++ part ∷ []) ≡ cond (all_single xs) (singles xs ++ one_of part) (singles xs)
singles_more [] part = one_alone part
singles_more (x ∷ xs) part = ap (λ (ks : List Kind). cond (is_one x) (one_of x ++ ks) []) (singles_more xs part) ∙ by_tests (is_one x) (all_single xs)
  where
    by_tests : (a b : Bool) → cond a (one_of x ++ cond b (singles xs ++ one_of part) (singles xs)) [] ≡ cond (cond a b false) (cond a (one_of x ++ singles xs) [] ++ one_of part) (cond a (one_of x ++ singles xs) [])
    by_tests true true = sym (append_assoc (one_of x) (singles xs) (one_of part))
    by_tests true false = refl
    by_tests false b = refl

suffix_row : {n : Count} (row : Row_of-Part n) → fixed_suffix row ≡ singles (reverse (items-the_row-Part n row))
suffix_row end_of-Part = refl
suffix_row (more_of-Part part rest) =
    let own = suffix_row rest in
    let ones = ones_row rest ∙ sym (single_turned (items-the_row-Part _ rest)) in
    (λ j. cond (ones j) (own j ++ one_of part) (own j)) ∙ (sym (singles_more (reverse (items-the_row-Part _ rest)) part) ∙ ap singles (sym (reverse-append (part ∷ []) (items-the_row-Part _ rest))))

pub suffix-parts : (parts : List Part) → fixed_suffix (block.hidden-the_row-Part-2 parts) ≡ singles (reverse parts)
suffix-parts parts = suffix_row (block.hidden-the_row-Part-2 parts) ∙ ap (λ (l : List Part). singles (reverse l)) (block.items_hidden-the_row-Part-2 parts)

some_there : (kinds others : List Kind) (number : ℕ) (kind other : Kind) → IsAt (λ x. x ≡ kind) kinds number → IsAt (λ x. x ≡ other) others number → Apart kind other → SomeApart kinds others
some_there [] others number kind other h t a = absurd h
some_there (x ∷ xs) [] number kind other h t a = absurd t
some_there (x ∷ xs) (y ∷ ys) zero kind other h t a = inl (fwd (λ j. Apart (sym h j) (sym t j)) a)
some_there (x ∷ xs) (y ∷ ys) (suc number) kind other h t a = inr (some_there xs ys number kind other h t a)

placed : (kinds others : List Kind) → SomeApart kinds others → Place kinds others
placed [] others a = absurd a
placed (x ∷ xs) [] a = absurd a
placed (x ∷ xs) (y ∷ ys) (inl a) = record { number = 0; kind = x; other = y; here = refl; there = refl; apart = a }
placed (x ∷ xs) (y ∷ ys) (inr a) = let p = placed xs ys a in record { number = suc p.number; kind = p.kind; other = p.other; here = p.here; there = p.there; apart = p.apart }

pub last_to : {n : Count} (row : Row_of-Part n) (others : List Kind) → LastApart row others → SomeApart (fixed_suffix row) others
last_to row others a = let p = turn_last row others a in some_there (fixed_suffix row) others p.number p.other p.kind p.there p.here (turn p.kind p.other p.apart)

pub last_from : {n : Count} (row : Row_of-Part n) (others : List Kind) → SomeApart (fixed_suffix row) others → LastApart row others
last_from row others a = last_apart row others (placed (fixed_suffix row) others a)
