-- Which maps have values.
use Rattle.std.proofs.Common.{◌≡◌, ℕ, zero, suc, ◌⊎◌, inl, inr, Bool, List, [], ◌∷◌, length, map, refl, ap, sym, ◌∙◌, subst, arith}
use Rattle.ecd_keyorder.specs.declared.Order.{Order}
use Rattle.ecd_item_laws.specs.declared.item.Pair.{Pair}
use Rattle.ecd_core.specs.declared.value.Value.{Value}
use Rattle.ecd_core.specs.declared.value.Value.TheVariants as v
use Rattle.ecd_core.specs.Lists.{Each, HasSome, EachWith, IsIn}
use Rattle.ecd_core.specs.Listed.{entries_mean}
use Rattle.ecd_core.specs.Maps.{ItemValues, FieldMeaning, EntryMeaning, AField, APick, ATable, way_of, Takes, Blocks, held, FieldHas, PickHas, RowHas, EntryHas, list_of, IsInOneList, value_of, MapHas}
use Rattle.ecd_core.proofs.Ascending.{each_in, same_members}
use Rattle.ecd_core.proofs.Taking.{some_value, value_some}
use Rattle.ecd_one_value.proofs.OneMap.{IsKeyOf, TablesApart, one_table, listed_key}
use Rattle.ecd_map_laws.specs.Existence.{HoldsPair, GoesTo, FieldMay, PickMay, EntryMay, PairMay, MapMay, HasValues}
use Rattle.ecd_map_laws.proofs.Rules.{tables_apart_by_rules}
use Rattle.ecd_map_laws.proofs.Choosing.{number_of, chosen}

-- ---- lists and rows

each_of : (P : Pair → Type 0) (ps : List Pair) → ((p : Pair) → IsIn p ps → P p) → Each P ps
each_of P [] f = tt
each_of P (p ∷ ps) f = (f p (inl refl), each_of P ps (λ q i. f q (inr i)))

row_of : (keys under : ItemValues) (listed : List Pair) (rows : List Value) (p : Pair) → EachWith (RowHas keys under) listed rows → IsIn p listed → (row : Value) × RowHas keys under p row
row_of keys under [] rows p h i = absurd i
row_of keys under (q ∷ listed) [] p h i = absurd h
row_of keys under (q ∷ listed) (row ∷ rows) p h (inl e) = (row, subst (λ (x : Pair). RowHas keys under x row) e h.0)
row_of keys under (q ∷ listed) (row ∷ rows) p h (inr i) = row_of keys under listed rows p h.1 i

rows_of : (keys under : ItemValues) (listed : List Pair) → ((p : Pair) → IsIn p listed → (row : Value) × RowHas keys under p row) → (rows : List Value) × EachWith (RowHas keys under) listed rows
rows_of keys under [] f = ([], tt)
rows_of keys under (p ∷ listed) f =
    let one = f p (inl refl) in
    let others = rows_of keys under listed (λ q i. f q (inr i)) in
    (one.0 ∷ others.0, (one.1, others.1))

holds_key : (p : Pair) (entry : EntryMeaning) → HoldsPair p entry → IsKeyOf p.key entry
holds_key p (AField field) h = absurd h
holds_key p (APick needed ways) h = absurd h
holds_key p (ATable lo hi keys under) h = (h.1.0, h.1.2)

-- ---- from values

module _ (order : Order) (pairs : List Pair) where
  field_may : (field : FieldMeaning) (value : Value) → FieldHas pairs field value → FieldMay pairs field
  field_may field value (inl h) = inl (value_some field pairs h.0 h.1)
  field_may field value (inr h) = inr (h.0, h.1)

  fields_may : (way : List FieldMeaning) (values : List Value) → EachWith (FieldHas pairs) way values → Each (FieldMay pairs) way
  fields_may [] values h = tt
  fields_may (field ∷ way) [] h = absurd h
  fields_may (field ∷ way) (value ∷ values) h = (field_may field value h.0, fields_may way values h.1)

  pick_may : (needed : Bool) (ways : List (List FieldMeaning)) (value : Value) → PickHas pairs needed ways value → PickMay pairs needed ways
  pick_may needed ways value (inl h) = inl (h.0, h.2, fields_may (way_of ways h.0) h.1 h.3)
  pick_may needed ways value (inr h) = inr (h.0, h.1)

  stands_holds : (entry : EntryMeaning) (it : List Pair × Value) (p : Pair) → EntryHas order pairs entry it → IsIn p it.0 → HoldsPair p entry
  stands_holds (AField field) it p h i = subst (IsIn p) h.0 i
  stands_holds (APick needed ways) it p h i = subst (IsIn p) h.0 i
  stands_holds (ATable lo hi keys under) it p h i = row_of keys under it.0 h.0 p h.4 i

  some_holds : (entries : List EntryMeaning) (each : List (List Pair × Value)) (n : ℕ) (p : Pair) → EachWith (EntryHas order pairs) entries each → IsIn p (list_of each n) → HasSome (HoldsPair p) entries
  some_holds [] [] n p h i = absurd i
  some_holds [] (it ∷ each) n p h i = absurd h
  some_holds (entry ∷ entries) [] n p h i = absurd h
  some_holds (entry ∷ entries) (it ∷ each) zero p h i = inl (stands_holds entry it p h.0 i)
  some_holds (entry ∷ entries) (it ∷ each) (suc n) p h i = inr (some_holds entries each n p h.1 i)

  -- it is settled whether the entry holds the pair; if so, it stands in its list
  abbrev Settled : Pair → EntryMeaning → List Pair × Value → Type 0
  Settled p entry it = IsIn p it.0 ⊎ (HoldsPair p entry → ⊥)

  some_key : (p : Pair) (entries : List EntryMeaning) → HasSome (HoldsPair p) entries → HasSome (IsKeyOf p.key) entries
  some_key p [] h = h
  some_key p (entry ∷ entries) (inl h) = inl (holds_key p entry h)
  some_key p (entry ∷ entries) (inr h) = inr (some_key p entries h)

  none_settled : (p : Pair) (entries : List EntryMeaning) (each : List (List Pair × Value)) → (HasSome (IsKeyOf p.key) entries → ⊥) → EachWith (EntryHas order pairs) entries each → EachWith (Settled p) entries each
  none_settled p [] [] f h = tt
  none_settled p [] (it ∷ each) f h = absurd h
  none_settled p (entry ∷ entries) [] f h = absurd h
  none_settled p (entry ∷ entries) (it ∷ each) f h = (inr (λ g. f (inl (holds_key p entry g))), none_settled p entries each (λ g. f (inr g)) h.1)

  settled : (p : Pair) (entries : List EntryMeaning) (each : List (List Pair × Value)) (n : ℕ) → TablesApart entries → EachWith (EntryHas order pairs) entries each → IsIn p (list_of each n) → EachWith (Settled p) entries each
  settled p [] [] n apart h i = tt
  settled p [] (it ∷ each) n apart h i = absurd h
  settled p (entry ∷ entries) [] n apart h i = absurd h
  settled p (entry ∷ entries) (it ∷ each) zero apart h i =
      (inl i, none_settled p entries each (λ g. apart.0 p.key (holds_key p entry (stands_holds entry it p h.0 i)) g) h.1)
  settled p (entry ∷ entries) (it ∷ each) (suc n) apart h i =
      (inr (λ g. apart.0 p.key (holds_key p entry g) (some_key p entries (some_holds entries each n p h.1 i))), settled p entries each n apart.1 h.1 i)

module _ (order : Order) (entries : List EntryMeaning) (apart : TablesApart entries) (pairs : List Pair) (values : List Value) (whole : MapHas order entries pairs values) where
  abbrev Free : Pair → Type 0
  Free p = HasSome (Takes pairs p) entries → ⊥

  all_settled : (p : Pair) → IsIn p pairs → HasSome (Takes pairs p) entries ⊎ (Free p × EachWith (Settled order pairs p) entries whole.each)
  all_settled p here = from (whole.covered p here)
    where
      from : HasSome (Takes pairs p) entries ⊎ IsInOneList whole.each p → HasSome (Takes pairs p) entries ⊎ (Free p × EachWith (Settled order pairs p) entries whole.each)
      from (inl t) = inl t
      from (inr o) = inr ((whole.listed o.0 p o.1).1, settled order pairs p entries whole.each o.0 apart whole.has o.1)

  table_may : (lo hi : ℕ) (keys under : ItemValues) (it : List Pair × Value) → EntryHas order pairs (ATable lo hi keys under) it → ((p : Pair) → IsIn p it.0 → IsIn p pairs × Free p)
      → ((p : Pair) → IsIn p pairs → HasSome (Takes pairs p) entries ⊎ (Free p × Settled order pairs p (ATable lo hi keys under) it)) → EntryMay entries pairs (ATable lo hi keys under)
  table_may lo hi keys under it h inside known =
      let number = number_of (GoesTo entries pairs (ATable lo hi keys under)) pairs (λ p i. decide p (known p i)) in
      let c = chosen order (GoesTo entries pairs (ATable lo hi keys under)) pairs number.0 whole.ascend number.1 in
      let same = same_members order c.all it.0 c.ascends h.1 (λ p i. let g = c.inside p i in stands p g.1 (known p g.0)) (λ p i. let g = inside p i in c.reached p g.0 (g.1, row_of keys under it.0 h.0 p h.4 i)) in
      let long : length it.0 ≡ number.0 = sym (ap (λ (l : List Pair). length l) same) ∙ c.long in
      (number.0, number.1, omega (arith, h.2, long), omega (arith, h.3, long))
    where
      decide : (p : Pair) → HasSome (Takes pairs p) entries ⊎ (Free p × Settled order pairs p (ATable lo hi keys under) it) → GoesTo entries pairs (ATable lo hi keys under) p ⊎ (GoesTo entries pairs (ATable lo hi keys under) p → ⊥)
      decide p (inl t) = inr (λ g. g.0 t)
      decide p (inr (free, inl i)) = inl (free, row_of keys under it.0 h.0 p h.4 i)
      decide p (inr (free, inr never)) = inr (λ g. never g.1)

      stands : (p : Pair) → GoesTo entries pairs (ATable lo hi keys under) p → HasSome (Takes pairs p) entries ⊎ (Free p × Settled order pairs p (ATable lo hi keys under) it) → IsIn p it.0
      stands p g (inl t) = absurd (g.0 t)
      stands p g (inr (free, inl i)) = i
      stands p g (inr (free, inr never)) = absurd (never g.1)

  entries_may : (rest : List EntryMeaning) (more : List (List Pair × Value)) → EachWith (EntryHas order pairs) rest more → ((p : Pair) (n : ℕ) → IsIn p (list_of more n) → IsIn p pairs × Free p)
      → ((p : Pair) → IsIn p pairs → HasSome (Takes pairs p) entries ⊎ (Free p × EachWith (Settled order pairs p) rest more)) → Each (EntryMay entries pairs) rest
  entries_may [] more h inside known = tt
  entries_may (entry ∷ rest) [] h inside known = absurd h
  entries_may (entry ∷ rest) (it ∷ more) h inside known = (one entry h.0 (λ p i. first p (known p i)), entries_may rest more h.1 (λ p n i. inside p (suc n) i) (λ p i. later p (known p i)))
    where
      first : (p : Pair) → HasSome (Takes pairs p) entries ⊎ (Free p × EachWith (Settled order pairs p) (entry ∷ rest) (it ∷ more)) → HasSome (Takes pairs p) entries ⊎ (Free p × Settled order pairs p entry it)
      first p (inl t) = inl t
      first p (inr s) = inr (s.0, s.1.0)

      later : (p : Pair) → HasSome (Takes pairs p) entries ⊎ (Free p × EachWith (Settled order pairs p) (entry ∷ rest) (it ∷ more)) → HasSome (Takes pairs p) entries ⊎ (Free p × EachWith (Settled order pairs p) rest more)
      later p (inl t) = inl t
      later p (inr s) = inr (s.0, s.1.1)

      one : (entry : EntryMeaning) → EntryHas order pairs entry it → ((p : Pair) → IsIn p pairs → HasSome (Takes pairs p) entries ⊎ (Free p × Settled order pairs p entry it)) → EntryMay entries pairs entry
      one (AField field) g s = field_may order pairs field it.1 g.1
      one (APick needed ways) g s = pick_may order pairs needed ways it.1 g.1
      one (ATable lo hi keys under) g s = table_may lo hi keys under it g (λ p i. inside p zero i) s

  pair_may : (p : Pair) → IsIn p pairs → PairMay entries pairs p
  pair_may p here = from (whole.covered p here)
    where
      from : HasSome (Takes pairs p) entries ⊎ IsInOneList whole.each p → PairMay entries pairs p
      from (inl t) = inl t
      from (inr o) = let l = whole.listed o.0 p o.1 in inr (l.1, l.2, some_holds order pairs entries whole.each o.0 p whole.has o.1)

  pub values_may : MapMay order entries pairs
  values_may = record {
    valid = whole.valid;
    ascend = whole.ascend;
    allowed = entries_may entries whole.each whole.has (λ p n i. let l = whole.listed n p i in (l.0, l.1)) all_settled;
    placed = each_of (PairMay entries pairs) pairs pair_may;
  }

-- ---- to values

module _ (order : Order) (entries : List EntryMeaning) (pairs : List Pair) (may : MapMay order entries pairs) where
  field_value : (field : FieldMeaning) → FieldMay pairs field → (value : Value) × FieldHas pairs field value
  field_value field (inl fits) = let r = some_value field pairs fits in (held field.needed r.0, inl (r.0, r.1, refl))
  field_value field (inr h) = (v.Absent, inr (h.0, h.1, refl))

  fields_values : (way : List FieldMeaning) → Each (FieldMay pairs) way → (values : List Value) × EachWith (FieldHas pairs) way values
  fields_values [] h = ([], tt)
  fields_values (field ∷ way) h =
      let one = field_value field h.0 in
      let others = fields_values way h.1 in
      (one.0 ∷ others.0, (one.1, others.1))

  pick_value : (needed : Bool) (ways : List (List FieldMeaning)) → PickMay pairs needed ways → (value : Value) × PickHas pairs needed ways value
  pick_value needed ways (inl h) = let r = fields_values (way_of ways h.0) h.2 in (v.Way h.0 (v.Group r.0), inl (h.0, r.0, h.1, r.1, refl))
  pick_value needed ways (inr h) = (v.Absent, inr (h.0, h.1, refl))

  -- the pairs that go to the entry stand in its list, and no others
  abbrev Lists : EntryMeaning → List Pair × Value → Type 0
  Lists entry it = (p : Pair) → (IsIn p it.0 → IsIn p pairs × GoesTo entries pairs entry p) × (IsIn p pairs → GoesTo entries pairs entry p → IsIn p it.0)

  entry_value : (entry : EntryMeaning) → EntryMay entries pairs entry → (it : List Pair × Value) × EntryHas order pairs entry it × Lists entry it
  entry_value (AField field) h = let r = field_value field h in (([], r.0), (refl, r.1), λ p. ((λ i. absurd i), λ i g. absurd g.1))
  entry_value (APick needed ways) h = let r = pick_value needed ways h in (([], r.0), (refl, r.1), λ p. ((λ i. absurd i), λ i g. absurd g.1))
  entry_value (ATable lo hi keys under) h =
      let c = chosen order (GoesTo entries pairs (ATable lo hi keys under)) pairs h.0 may.ascend h.1 in
      let rows = rows_of keys under c.all (λ p i. (c.inside p i).1.1) in
      ((c.all, v.Many rows.0), (rows.0, c.ascends, omega (arith, c.long, h.2), omega (arith, c.long, h.3), rows.1, refl), λ p. (c.inside p, c.reached p))

  entries_values : (rest : List EntryMeaning) → Each (EntryMay entries pairs) rest → (more : List (List Pair × Value)) × EachWith (EntryHas order pairs) rest more × EachWith Lists rest more
  entries_values [] h = ([], tt, tt)
  entries_values (entry ∷ rest) h =
      let one = entry_value entry h.0 in
      let others = entries_values rest h.1 in
      (one.0 ∷ others.0, (one.1, others.1), (one.2, others.2))

  -- the number of a list in which it stands
  stands_in : (rest : List EntryMeaning) (more : List (List Pair × Value)) (p : Pair) → EachWith Lists rest more → IsIn p pairs → (HasSome (Takes pairs p) entries → ⊥) → HasSome (HoldsPair p) rest → (n : ℕ) × IsIn p (list_of more n)
  stands_in [] more p l here free h = absurd h
  stands_in (entry ∷ rest) [] p l here free h = absurd l
  stands_in (entry ∷ rest) (it ∷ more) p l here free (inl h) = (0, (l.0 p).1 here (free, h))
  stands_in (entry ∷ rest) (it ∷ more) p l here free (inr h) = let r = stands_in rest more p l.1 here free h in (suc r.0, r.1)

  listed_so : (rest : List EntryMeaning) (more : List (List Pair × Value)) (n : ℕ) (p : Pair) → EachWith Lists rest more → IsIn p (list_of more n) → IsIn p pairs × (HasSome (Takes pairs p) entries → ⊥)
  listed_so [] [] n p l i = absurd i
  listed_so [] (it ∷ more) n p l i = absurd l
  listed_so (entry ∷ rest) [] n p l i = absurd l
  listed_so (entry ∷ rest) (it ∷ more) zero p l i = let g = (l.0 p).0 i in (g.0, g.1.0)
  listed_so (entry ∷ rest) (it ∷ more) (suc n) p l i = listed_so rest more n p l.1 i

  pub may_values : TablesApart entries → (values : List Value) × MapHas order entries pairs values
  may_values apart =
      let r = entries_values entries may.allowed in (
        map value_of r.0,
        record {
          valid = may.valid;
          ascend = may.ascend;
          each = r.0;
          values_are = refl;
          has = r.1;
          covered = λ p here. cover r.0 r.1 r.2 p here (each_in (PairMay entries pairs) pairs p may.placed here);
          listed = λ n p i. let g = listed_so entries r.0 n p r.2 i in (g.0, g.1, open' p g.1 (each_in (PairMay entries pairs) pairs p may.placed g.0));
        },
      )
    where
      cover : (each : List (List Pair × Value)) → EachWith (EntryHas order pairs) entries each → EachWith Lists entries each → (p : Pair) → IsIn p pairs → PairMay entries pairs p → HasSome (Takes pairs p) entries ⊎ IsInOneList each p
      cover each has l p here (inl t) = inl t
      cover each has l p here (inr h) =
          let s = stands_in entries each p l here h.0 h.2 in
          inr (s.0, s.1, λ other i. one_table p.key entries other s.0 apart (listed_key order pairs entries each other p has i) (listed_key order pairs entries each s.0 p has s.1))

      open' : (p : Pair) → (HasSome (Takes pairs p) entries → ⊥) → PairMay entries pairs p → HasSome (Blocks pairs p) entries → ⊥
      open' p free (inl t) b = free t
      open' p free (inr h) b = h.1 b

pub has_values : HasValues
has_values order shape entries pairs e keeps =
    let apart = tables_apart_by_rules order shape entries e keeps in
    ((λ h. values_may order (entries_mean order entries) apart pairs h.0 h.1), λ m. may_values order (entries_mean order entries) pairs m apart)
