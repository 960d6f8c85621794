-- The pairs of a map have at most one list of values, where each entry's shapes give an item at most one value and no key has values under the keys of two tables.
use Rattle.std.proofs.Common.{◌≡◌, ℕ, zero, suc, ◌⊎◌, inl, inr, Bool, List, [], ◌∷◌, map, refl, ap, sym, ◌∙◌, subst}
use Rattle.ecd_keyorder.specs.declared.Order.{Order}
use Rattle.ecd_item_laws.specs.declared.item.Item.{Item}
use Rattle.ecd_item_laws.specs.declared.item.Pair.{Pair}
use Rattle.ecd_item_laws.specs.Encoding.{key_bytes}
use Rattle.ecd_item_laws.specs.Valid.{Ascend}
use Rattle.ecd_core.specs.declared.value.Value.{Value}
use Rattle.ecd_core.specs.declared.value.Value.TheVariants as v
use Rattle.ecd_core.specs.Lists.{Each, HasSome, EachWith, IsIn}
use Rattle.ecd_core.specs.Maps.{ItemValues, FieldMeaning, EntryMeaning, AField, APick, ATable, GivesPair, way_of, Takes, held, FieldHas, PickHas, RowHas, EntryHas, list_of, IsInOneList, value_of, MapHas}
use Rattle.ecd_core.proofs.Ascending.{in_from_some, each_at, same_key, same_members}
use Rattle.ecd_core.proofs.Taking.{one_taken, value_some}

-- an item has at most one value
abbrev pub OneValue : ItemValues → Type 0
OneValue values = (item : Item) (u w : Value) → values item u → values item w → u ≡ w

abbrev pub OneUnder : FieldMeaning → Type 0
OneUnder field = OneValue field.under

abbrev pub OneEntry : EntryMeaning → Type 0
OneEntry (AField field) = OneUnder field
OneEntry (APick needed ways) = Each (Each OneUnder) ways
OneEntry (ATable lo hi keys under) = OneValue keys × OneValue under

-- the entry is a table whose keys' shape gives the item a value
abbrev pub IsKeyOf : Item → EntryMeaning → Type 0
IsKeyOf item (AField field) = ⊥
IsKeyOf item (APick needed ways) = ⊥
IsKeyOf item (ATable lo hi keys under) = (value : Value) × keys item value

-- the entry of this number is such a table
abbrev pub IsKeyAt : Item → List EntryMeaning → ℕ → Type 0
IsKeyAt item [] number = ⊥
IsKeyAt item (entry ∷ entries) zero = IsKeyOf item entry
IsKeyAt item (entry ∷ entries) (suc number) = IsKeyAt item entries number

-- no key is one of two tables
abbrev pub TablesApart : List EntryMeaning → Type 0
TablesApart [] = Unit {0}
TablesApart (entry ∷ entries) = ((item : Item) → IsKeyOf item entry → HasSome (IsKeyOf item) entries → ⊥) × TablesApart entries

some_at : (item : Item) (entries : List EntryMeaning) (n : ℕ) → IsKeyAt item entries n → HasSome (IsKeyOf item) entries
some_at item [] n h = h
some_at item (entry ∷ entries) zero h = inl h
some_at item (entry ∷ entries) (suc n) h = inr (some_at item entries n h)

pub one_table : (item : Item) (entries : List EntryMeaning) (m n : ℕ) → TablesApart entries → IsKeyAt item entries m → IsKeyAt item entries n → m ≡ n
one_table item [] m n t h g = absurd h
one_table item (entry ∷ entries) zero zero t h g = refl
one_table item (entry ∷ entries) zero (suc n) t h g = absurd (t.0 item h (some_at item entries n g))
one_table item (entry ∷ entries) (suc m) zero t h g = absurd (t.0 item g (some_at item entries m h))
one_table item (entry ∷ entries) (suc m) (suc n) t h g = ap suc (one_table item entries m n t.1 h g)

-- ---- fields and picks

module _ (order : Order) (pairs : List Pair) (ascend : Ascend order (map key_bytes pairs)) where
  one_field : (field : FieldMeaning) → OneUnder field → (u w : Value) → FieldHas pairs field u → FieldHas pairs field w → u ≡ w
  one_field field one u w (inl p) (inl q) =
      let a = in_from_some (GivesPair field p.0) pairs p.1 in
      let b = in_from_some (GivesPair field q.0) pairs q.1 in
      let key : a.0.key ≡ b.0.key = cc (sym a.2.0 ∙ b.2.0) in
      let same = same_key order pairs a.0 b.0 ascend a.1 b.1 key in
      let value = one b.0.value p.0 q.0 (subst (λ (x : Pair). field.under x.value p.0) same a.2.1) b.2.1 in
      p.2 ∙ (ap (held field.needed) value ∙ sym q.2)
  one_field field one u w (inl p) (inr q) = absurd (q.1 (value_some field pairs p.0 p.1))
  one_field field one u w (inr p) (inl q) = absurd (p.1 (value_some field pairs q.0 q.1))
  one_field field one u w (inr p) (inr q) = p.2 ∙ sym q.2

  one_way : (way : List FieldMeaning) → Each OneUnder way → (us ws : List Value) → EachWith (FieldHas pairs) way us → EachWith (FieldHas pairs) way ws → us ≡ ws
  one_way [] one [] [] p q = refl
  one_way [] one [] (w ∷ ws) p q = absurd q
  one_way [] one (u ∷ us) ws p q = absurd p
  one_way (field ∷ way) one [] ws p q = absurd p
  one_way (field ∷ way) one (u ∷ us) [] p q = absurd q
  one_way (field ∷ way) one (u ∷ us) (w ∷ ws) p q =
      let first = one_field field one.0 u w p.0 q.0 in
      let others = one_way way one.1 us ws p.1 q.1 in
      cc

  one_pick : (needed : Bool) (ways : List (List FieldMeaning)) → Each (Each OneUnder) ways → (u w : Value) → PickHas pairs needed ways u → PickHas pairs needed ways w → u ≡ w
  one_pick needed ways one u w (inl p) (inl q) =
      let same = one_taken pairs ways p.0 q.0 p.2 q.2 in
      let values = one_way (way_of ways q.0) (each_at OneUnder ways q.0 one) p.1 q.1 (subst (λ (n : ℕ). EachWith (FieldHas pairs) (way_of ways n) p.1) same p.3) q.3 in
      p.4 ∙ (ap (λ (n : ℕ). v.Way n (v.Group p.1)) same ∙ (ap (λ (l : List Value). v.Way q.0 (v.Group l)) values ∙ sym q.4))
  one_pick needed ways one u w (inl p) (inr q) = absurd (q.1 p.0 p.2)
  one_pick needed ways one u w (inr p) (inl q) = absurd (p.1 q.0 q.2)
  one_pick needed ways one u w (inr p) (inr q) = p.2 ∙ sym q.2

-- ---- tables

one_row : (keys under : ItemValues) → OneValue keys → OneValue under → (pair : Pair) (u w : Value) → RowHas keys under pair u → RowHas keys under pair w → u ≡ w
one_row keys under f g pair u w p q =
    let key = f pair.key p.0 q.0 p.2 q.2 in
    let value = g pair.value p.1 q.1 p.3 q.3 in
    p.4 ∙ ((λ i. v.Group (key i ∷ value i ∷ [])) ∙ sym q.4)

one_table_rows : (keys under : ItemValues) → OneValue keys → OneValue under → (listed : List Pair) (us ws : List Value) → EachWith (RowHas keys under) listed us → EachWith (RowHas keys under) listed ws → us ≡ ws
one_table_rows keys under f g [] [] [] p q = refl
one_table_rows keys under f g [] [] (w ∷ ws) p q = absurd q
one_table_rows keys under f g [] (u ∷ us) ws p q = absurd p
one_table_rows keys under f g (pair ∷ listed) [] ws p q = absurd p
one_table_rows keys under f g (pair ∷ listed) (u ∷ us) [] p q = absurd q
one_table_rows keys under f g (pair ∷ listed) (u ∷ us) (w ∷ ws) p q =
    let first = one_row keys under f g pair u w p.0 q.0 in
    let others = one_table_rows keys under f g listed us ws p.1 q.1 in
    cc

row_key : (keys under : ItemValues) (listed : List Pair) (rows : List Value) (pair : Pair) → EachWith (RowHas keys under) listed rows → IsIn pair listed → (value : Value) × keys pair.key value
row_key keys under [] rows pair h there = absurd there
row_key keys under (p ∷ listed) [] pair h there = absurd h
row_key keys under (p ∷ listed) (row ∷ rows) pair h (inl e) = (h.0.0, subst (λ (x : Pair). keys x.key h.0.0) e h.0.2)
row_key keys under (p ∷ listed) (row ∷ rows) pair h (inr there) = row_key keys under listed rows pair h.1 there

module _ (order : Order) (pairs : List Pair) where
  -- what stands in an entry's list is a pair of a table
  entry_key : (entry : EntryMeaning) (it : List Pair × Value) (pair : Pair) → EntryHas order pairs entry it → IsIn pair it.0 → IsKeyOf pair.key entry
  entry_key (AField field) it pair h there = subst (IsIn pair) h.0 there
  entry_key (APick needed ways) it pair h there = subst (IsIn pair) h.0 there
  entry_key (ATable lo hi keys under) it pair h there = row_key keys under it.0 h.0 pair h.4 there

  pub listed_key : (entries : List EntryMeaning) (each : List (List Pair × Value)) (n : ℕ) (pair : Pair) → EachWith (EntryHas order pairs) entries each → IsIn pair (list_of each n) → IsKeyAt pair.key entries n
  listed_key [] [] n pair h there = absurd there
  listed_key [] (it ∷ each) n pair h there = absurd h
  listed_key (entry ∷ entries) [] n pair h there = absurd h
  listed_key (entry ∷ entries) (it ∷ each) zero pair h there = entry_key entry it pair h.0 there
  listed_key (entry ∷ entries) (it ∷ each) (suc n) pair h there = listed_key entries each n pair h.1 there

  none_ascends : (listed : List Pair) → listed ≡ [] → Ascend order (map key_bytes listed)
  none_ascends listed e = subst (λ (l : List Pair). Ascend order (map key_bytes l)) (sym e) tt

  entry_ascends : (entry : EntryMeaning) (it : List Pair × Value) → EntryHas order pairs entry it → Ascend order (map key_bytes it.0)
  entry_ascends (AField field) it h = none_ascends it.0 h.0
  entry_ascends (APick needed ways) it h = none_ascends it.0 h.0
  entry_ascends (ATable lo hi keys under) it h = h.1

  list_ascends : (entries : List EntryMeaning) (each : List (List Pair × Value)) (n : ℕ) → EachWith (EntryHas order pairs) entries each → Ascend order (map key_bytes (list_of each n))
  list_ascends [] [] n h = tt
  list_ascends [] (it ∷ each) n h = absurd h
  list_ascends (entry ∷ entries) [] n h = absurd h
  list_ascends (entry ∷ entries) (it ∷ each) zero h = entry_ascends entry it h.0
  list_ascends (entry ∷ entries) (it ∷ each) (suc n) h = list_ascends entries each n h.1

-- ---- the lists of two readings

module _ (order : Order) (entries : List EntryMeaning) (apart : TablesApart entries) (pairs : List Pair) where
  lists_inside : (us ws : List Value) (p : MapHas order entries pairs us) (q : MapHas order entries pairs ws) (n : ℕ) (pair : Pair) → IsIn pair (list_of p.each n) → IsIn pair (list_of q.each n)
  lists_inside us ws p q n pair there =
      let known = p.listed n pair there in
      from known.1 (q.covered pair known.0)
    where
      from : (HasSome (Takes pairs pair) entries → ⊥) → HasSome (Takes pairs pair) entries ⊎ IsInOneList q.each pair → IsIn pair (list_of q.each n)
      from free (inl taken) = absurd (free taken)
      from free (inr stands) =
          let same = one_table pair.key entries stands.0 n apart (listed_key order pairs entries q.each stands.0 pair q.has stands.1) (listed_key order pairs entries p.each n pair p.has there) in
          subst (λ (m : ℕ). IsIn pair (list_of q.each m)) same stands.1

  pub same_lists : (us ws : List Value) (p : MapHas order entries pairs us) (q : MapHas order entries pairs ws) (n : ℕ) → list_of p.each n ≡ list_of q.each n
  same_lists us ws p q n =
      same_members order (list_of p.each n) (list_of q.each n) (list_ascends order pairs entries p.each n p.has) (list_ascends order pairs entries q.each n q.has)
      (λ pair there. lists_inside us ws p q n pair there) (λ pair there. lists_inside ws us q p n pair there)

-- ---- values

module _ (order : Order) (pairs : List Pair) (ascend : Ascend order (map key_bytes pairs)) where
  one_entry : (entry : EntryMeaning) → OneEntry entry → (u w : List Pair × Value) → u.0 ≡ w.0 → EntryHas order pairs entry u → EntryHas order pairs entry w → u.1 ≡ w.1
  one_entry (AField field) one u w e p q = one_field order pairs ascend field one u.1 w.1 p.1 q.1
  one_entry (APick needed ways) one u w e p q = one_pick order pairs ascend needed ways one u.1 w.1 p.1 q.1
  one_entry (ATable lo hi keys under) one u w e p q =
      let rows = one_table_rows keys under one.0 one.1 w.0 p.0 q.0 (subst (λ (l : List Pair). EachWith (RowHas keys under) l p.0) e p.4) q.4 in
      p.5 ∙ (ap (λ (l : List Value). v.Many l) rows ∙ sym q.5)

  one_each : (entries : List EntryMeaning) → Each OneEntry entries → (us ws : List (List Pair × Value)) → ((n : ℕ) → list_of us n ≡ list_of ws n) → EachWith (EntryHas order pairs) entries us → EachWith (EntryHas order pairs) entries ws
      → map value_of us ≡ map value_of ws
  one_each [] one [] [] e p q = refl
  one_each [] one [] (w ∷ ws) e p q = absurd q
  one_each [] one (u ∷ us) ws e p q = absurd p
  one_each (entry ∷ entries) one [] ws e p q = absurd p
  one_each (entry ∷ entries) one (u ∷ us) [] e p q = absurd q
  one_each (entry ∷ entries) one (u ∷ us) (w ∷ ws) e p q =
      let first = one_entry entry one.0 u w (e 0) p.0 q.0 in
      let others = one_each entries one.1 us ws (λ n. e (suc n)) p.1 q.1 in
      λ i. first i ∷ others i

pub one_map_value : (order : Order) (entries : List EntryMeaning) → Each OneEntry entries → TablesApart entries → (pairs : List Pair) (us ws : List Value) → MapHas order entries pairs us → MapHas order entries pairs ws → us ≡ ws
one_map_value order entries one apart pairs us ws p q =
    p.values_are ∙ (one_each order pairs p.ascend entries one p.each q.each (same_lists order entries apart pairs us ws p q) p.has q.has ∙ sym q.values_are)
