-- The owner of a pair that no field takes is a table whose key's shape gives its key a value.
use Rattle.std.proofs.Common.{◌≡◌, ℕ, zero, suc, ◌+◌, ◌<◌, inl, inr, Bool, true, false, cond, eqb, List, [], ◌∷◌, length, refl, subst, arith}
use Rattle.std.proofs.lemmas.Bool.{eqb-false}
use Rattle.ecd_item_laws.specs.declared.item.Pair.{Pair}
use Rattle.ecd_core.specs.declared.value.Value.{Value}
use Rattle.ecd_core.specs.Lists.{HasSome, EachWith, IsIn}
use Rattle.ecd_core.specs.Listed.{entries_mean}
use Rattle.ecd_core.specs.Maps.{ItemValues, EntryMeaning, AField, APick, ATable, Takes, RowHas}
use Rattle.ecd_core.specs.Owners.{owned, OwnerFits, EntryFits, EntriesFit}
use Rattle.ecd_map_laws.specs.Tables.{IsTableOf, IsTableAt, OwnerIsTable}

-- ---- lists side by side

with_so : (R Q : Pair → ℕ → Type 0) → ((p : Pair) (x : ℕ) → R p x → Q p x) → (ps : List Pair) (xs : List ℕ) → EachWith R ps xs → EachWith Q ps xs
with_so R Q f [] [] h = tt
with_so R Q f [] (x ∷ xs) h = absurd h
with_so R Q f (p ∷ ps) [] h = absurd h
with_so R Q f (p ∷ ps) (x ∷ xs) h = (f p x h.0, with_so R Q f ps xs h.1)

with_both : (R Q : Pair → ℕ → Type 0) (ps : List Pair) (xs : List ℕ) → EachWith R ps xs → EachWith Q ps xs → EachWith (λ p x. R p x × Q p x) ps xs
with_both R Q [] [] h g = tt
with_both R Q [] (x ∷ xs) h g = absurd h
with_both R Q (p ∷ ps) [] h g = absurd h
with_both R Q (p ∷ ps) (x ∷ xs) h g = ((h.0, g.0), with_both R Q ps xs h.1 g.1)

-- ---- each pair is among those that its owner owns

first_owned : (p : Pair) (ps : List Pair) (x : ℕ) (xs : List ℕ) → IsIn p (owned x (p ∷ ps) (x ∷ xs))
first_owned p ps x xs = by_test (eqb x x) refl
  where
    by_test : (b : Bool) → eqb x x ≡ b → IsIn p (cond b (p ∷ owned x ps xs) (owned x ps xs))
    by_test true t = inl refl
    by_test false t = absurd (eqb-false x x t refl)

later_owned : (p q : Pair) (ps : List Pair) (n x : ℕ) (xs : List ℕ) → IsIn p (owned n ps xs) → IsIn p (owned n (q ∷ ps) (x ∷ xs))
later_owned p q ps n x xs h = by_test (eqb x n)
  where
    by_test : (b : Bool) → IsIn p (cond b (q ∷ owned n ps xs) (owned n ps xs))
    by_test true = inr h
    by_test false = h

each_owned : (R : Pair → ℕ → Type 0) (ps : List Pair) (xs : List ℕ) → EachWith R ps xs → EachWith (λ p x. IsIn p (owned x ps xs)) ps xs
each_owned R [] [] h = tt
each_owned R [] (x ∷ xs) h = absurd h
each_owned R (p ∷ ps) [] h = absurd h
each_owned R (q ∷ ps) (y ∷ xs) h =
    (first_owned q ps y xs, with_so (λ p x. IsIn p (owned x ps xs)) (λ p x. IsIn p (owned x (q ∷ ps) (y ∷ xs))) (λ p x i. later_owned p q ps x y xs i) ps xs (each_owned R ps xs h.1))

-- ---- what is owned has a key of the table

row_key : (keys under : ItemValues) (listed : List Pair) (rows : List Value) (p : Pair) → EachWith (RowHas keys under) listed rows → IsIn p listed → (value : Value) × keys p.key value
row_key keys under [] rows p h i = absurd i
row_key keys under (q ∷ listed) [] p h i = absurd h
row_key keys under (q ∷ listed) (row ∷ rows) p h (inl e) = (h.0.0, subst (λ (x : Pair). keys x.key h.0.0) e h.0.2)
row_key keys under (q ∷ listed) (row ∷ rows) p h (inr i) = row_key keys under listed rows p h.1 i

module _ (pairs : List Pair) (owners : List ℕ) where
  entry_table : (entry : EntryMeaning) (listed : List Pair) (value : Value) (p : Pair) → EntryFits pairs entry listed value → IsIn p listed → IsTableOf p.key entry
  entry_table (AField field) listed value p h i = absurd (subst (IsIn p) h.0 i)
  entry_table (APick needed ways) listed value p h i = absurd (subst (IsIn p) h.0 i)
  entry_table (ATable lo hi keys under) listed value p h i = row_key keys under listed h.0 p h.3 i

  owned_at : (n : ℕ) (entries : List EntryMeaning) (values : List Value) (p : Pair) (j : ℕ) → EntriesFit pairs owners n entries values → j < length entries → IsIn p (owned (n + j) pairs owners) → IsTableAt p.key entries j
  owned_at n [] values p j h lt i = absurd (omega (arith, lt))
  owned_at n (entry ∷ entries) [] p j h lt i = absurd h
  owned_at n (entry ∷ entries) (value ∷ values) p zero h lt i =
      let e : n + 0 ≡ n = omega arith in
      entry_table entry (owned n pairs owners) value p h.0 (subst (λ (k : ℕ). IsIn p (owned k pairs owners)) e i)
  owned_at n (entry ∷ entries) (value ∷ values) p (suc j) h lt i =
      let e : n + suc j ≡ (n + 1) + j = omega arith in
      owned_at (n + 1) entries values p j h.1 (omega (arith, lt)) (subst (λ (k : ℕ). IsIn p (owned k pairs owners)) e i)

  owner_table : (entries : List EntryMeaning) (values : List Value) → EntriesFit pairs owners 0 entries values → (p : Pair) (x : ℕ) → OwnerFits entries pairs p x × IsIn p (owned x pairs owners)
      → (HasSome (Takes pairs p) entries → ⊥) → IsTableAt p.key entries x
  owner_table entries values fit p x (inl t, i) free = absurd (free t.0)
  owner_table entries values fit p x (inr h, i) free =
      let e : x ≡ 0 + x = omega arith in
      owned_at 0 entries values p x fit h.2 (subst (λ (k : ℕ). IsIn p (owned k pairs owners)) e i)

pub owner_is_table : OwnerIsTable
owner_is_table order entries pairs owners values all fit =
    with_so (λ p x. OwnerFits (entries_mean order entries) pairs p x × IsIn p (owned x pairs owners)) (λ p x. (HasSome (Takes pairs p) (entries_mean order entries) → ⊥) → IsTableAt p.key (entries_mean order entries) x)
    (owner_table pairs owners (entries_mean order entries) values fit) pairs owners
    (with_both (OwnerFits (entries_mean order entries) pairs) (λ p x. IsIn p (owned x pairs owners)) pairs owners all (each_owned (OwnerFits (entries_mean order entries) pairs) pairs owners all))
