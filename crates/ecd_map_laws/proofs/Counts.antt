-- Under the rules the values of a map tell how many pairs it has.
use Rattle.std.proofs.Common.{◌≡◌, ℕ, zero, suc, ◌<◌, ◌⊎◌, inl, inr, Bool, true, false, cond, List, [], ◌∷◌, length, map, refl, ap, sym, ◌∙◌, subst, arith}
use Rattle.ecd_keyorder.specs.declared.Order.{Order}
use Rattle.ecd_item_laws.specs.declared.item.Item.{Item}
use Rattle.ecd_item_laws.specs.declared.item.Pair.{Pair}
use Rattle.ecd_item_laws.specs.Encoding.{key_bytes}
use Rattle.ecd_item_laws.specs.Valid.{Ascend}
use Rattle.ecd_core.specs.declared.value.Value.{Value}
use Rattle.ecd_core.specs.declared.value.Value.TheVariants as v
use Rattle.ecd_core.specs.declared.value.Value.TheBlock as block
use denote.Hole.Carrier.{hidden}
use Rattle.ecd_core.specs.Lists.{Each, HasSome, EachWith, IsIn}
use Rattle.ecd_core.specs.Listed.{entries_mean, ways_mean}
use Rattle.ecd_core.specs.Maps.{ItemValues, FieldMeaning, EntryMeaning, AField, APick, ATable, GivesPair, Suits, way_of, Takes, held, FieldHas, PickHas, RowHas, EntryHas, list_of, IsInOneList, value_of, MapHas}
use Rattle.ecd_core.proofs.Ascending.{some_from_in, in_from_some, same_key}
use Rattle.ecd_core.proofs.Taking.{one_taken}
use Rattle.ecd_apart.proofs.Distinct.{ascending_differ, no_longer}
use Rattle.ecd_map_laws.specs.Counts.{present_count, field_count, fields_count, group_values, pick_count, table_count, entry_count, pairs_count, NumberIsTold, PresentCounts, PickCounts, TableCounts}
use Rattle.ecd_map_laws.proofs.FieldsApart.{OfKey, MayTake, WayApart, InsideApart, FieldsApart, fields_apart_by_rules}
use Rattle.ecd_map_laws.proofs.Dealt.{Dealt, nothing, retold, join}

-- ---- counts by the forms of values

pub present_counts : PresentCounts
present_counts one = (refl, refl)

group_of : (values : List Value) → group_values (v.Group values) ≡ values
group_of values = block.items_hidden-the_row-Value-1 values

pick_of : (ways : List (List FieldMeaning)) (number : ℕ) (values : List Value) → pick_count ways (v.Way number (v.Group values)) ≡ fields_count (way_of ways number) values
unfolding block.hidden-the_row-Value-0 hidden
pick_of ways number values = ap (fields_count (way_of ways number)) (group_of values)

pub pick_counts : PickCounts
pick_counts order ways number values = (pick_of (ways_mean order ways) number values, refl)

pub table_counts : TableCounts
table_counts rows = ap (λ (l : List Value). length l) (block.items_hidden-the_row-Value-1 rows)

held_count : (b : Bool) (one : Value) → 1 ≡ cond b 1 (present_count (held b one))
held_count true one = refl
held_count false one = refl

absent_count : (b : Bool) → b ≡ false → 0 ≡ cond b 1 (present_count v.Absent)
absent_count true e = absurd cc
absent_count false e = refl

rows_long : (keys under : ItemValues) (listed : List Pair) (rows : List Value) → EachWith (RowHas keys under) listed rows → length listed ≡ length rows
rows_long keys under [] [] h = refl
rows_long keys under [] (row ∷ rows) h = absurd h
rows_long keys under (pair ∷ listed) [] h = absurd h
rows_long keys under (pair ∷ listed) (row ∷ rows) h = ap suc (rows_long keys under listed rows h.1)

way_at : (ways : List (List FieldMeaning)) (number : ℕ) → number < length ways → Each WayApart ways → WayApart (way_of ways number)
way_at [] number lt h = absurd (omega (arith, lt))
way_at (way ∷ ways) zero lt h = h.0
way_at (way ∷ ways) (suc number) lt h = way_at ways number (omega (arith, lt)) h.1

way_keys_at : (ways : List (List FieldMeaning)) (number : ℕ) (key : Item) → number < length ways → HasSome (OfKey key) (way_of ways number) → HasSome (HasSome (OfKey key)) ways
way_keys_at [] number key lt h = absurd (omega (arith, lt))
way_keys_at (way ∷ ways) zero key lt h = inl h
way_keys_at (way ∷ ways) (suc number) key lt h = inr (way_keys_at ways number key (omega (arith, lt)) h)

-- ---- one entry

-- no pair
abbrev NoPair : Pair → Type 0
NoPair p = ⊥

module _ (order : Order) (pairs : List Pair) (ascend : Ascend order (map key_bytes pairs)) where
  field_dealt : (field : FieldMeaning) (value : Value) → FieldHas pairs field value → Dealt pairs (Suits field) NoPair (λ key. OfKey key field) (field_count field value)
  field_dealt field value (inr h) =
      nothing pairs (Suits field) NoPair (λ key. OfKey key field) (field_count field value) (absent_count field.needed h.0 ∙ ap (field_count field) (sym h.2)) (λ p i s. h.1 (some_from_in (Suits field) pairs p i s)) (λ p s. s)
  field_dealt field value (inl h) =
      let a = in_from_some (GivesPair field h.0) pairs h.1 in
      record {
        all = a.0 ∷ [];
        long = held_count field.needed h.0 ∙ ap (field_count field) (sym h.2);
        differ = (λ i. i, tt);
        whence = λ p i. from a.0 a.1 a.2 p i;
        taken = λ p i s. inl (same_key order pairs a.0 p ascend a.1 i (let e : a.0.key ≡ p.key = cc (sym a.2.0 ∙ s.1.0) in e));
        standing = λ p s. absurd s;
      }
    where
      from : (q : Pair) → IsIn q pairs → GivesPair field h.0 q → (p : Pair) → IsIn p (q ∷ []) → IsIn p pairs × ((Suits field p × OfKey p.key field) ⊎ ⊥)
      from q i g p (inr j) = absurd j
      from q i g p (inl e) = subst (λ (x : Pair). IsIn x pairs × ((Suits field x × OfKey x.key field) ⊎ ⊥)) e (i, inl ((h.0, g), g.0))

  fields_dealt : (way : List FieldMeaning) (values : List Value) → WayApart way → EachWith (FieldHas pairs) way values
      → Dealt pairs (λ p. HasSome (λ field. Suits field p) way) NoPair (λ key. HasSome (OfKey key) way) (fields_count way values)
  fields_dealt [] values d h = nothing pairs (λ p. ⊥) NoPair (λ key. ⊥) 0 refl (λ p i t. t) (λ p s. s)
  fields_dealt (field ∷ way) [] d h = absurd h
  fields_dealt (field ∷ way) (value ∷ values) d h =
      join pairs (Suits field) (λ p. HasSome (λ field. Suits field p) way) NoPair NoPair NoPair (λ key. OfKey key field) (λ key. HasSome (OfKey key) way) (field_count field value) (fields_count way values) d.0 (λ p s u. s) (λ p t r. r) (λ p s r. s)
      (λ p q. absurd q) (λ p s. elim s [ inl a ↦ a | inr b ↦ b ]) (field_dealt field value h.0) (fields_dealt way values d.1 h.1)

  pick_dealt : (needed : Bool) (ways : List (List FieldMeaning)) (value : Value) → Each WayApart ways → PickHas pairs needed ways value
      → Dealt pairs (λ p. Takes pairs p (APick needed ways)) NoPair (λ key. HasSome (HasSome (OfKey key)) ways) (pick_count ways value)
  pick_dealt needed ways value d (inr h) =
      nothing pairs (λ p. Takes pairs p (APick needed ways)) NoPair (λ key. HasSome (HasSome (OfKey key)) ways) (pick_count ways value) (ap (pick_count ways) (sym h.2)) (λ p i t. h.1 t.0 t.1) (λ p s. s)
  pick_dealt needed ways value d (inl h) =
      let taken = h.2 in
      retold pairs (λ p. HasSome (λ field. Suits field p) (way_of ways h.0)) (λ p. Takes pairs p (APick needed ways)) NoPair (λ key. HasSome (OfKey key) (way_of ways h.0)) (λ key. HasSome (HasSome (OfKey key)) ways) _ _
      (sym (ap (pick_count ways) h.4 ∙ pick_of ways h.0 h.1)) (λ p t. (h.0, taken, t))
      (λ p t. subst (λ (j : ℕ). HasSome (λ field. Suits field p) (way_of ways j)) (one_taken pairs ways t.0 h.0 t.1 taken) t.2)
      (λ key k. way_keys_at ways h.0 key taken.there k) (fields_dealt (way_of ways h.0) h.1 (way_at ways h.0 taken.there d) h.3)

  no_list : (T : Pair → Type 0) (K : Item → Type 0) (n : ℕ) (listed : List Pair) → listed ≡ [] → Dealt pairs T NoPair K n → Dealt pairs T (λ p. IsIn p listed) K n
  no_list T K n listed e d = subst (λ (l : List Pair). Dealt pairs T (λ p. IsIn p l) K n) (sym e) d

  entry_dealt : (entry : EntryMeaning) (it : List Pair × Value) → ((p : Pair) → IsIn p it.0 → IsIn p pairs) → InsideApart entry → EntryHas order pairs entry it
      → Dealt pairs (λ p. Takes pairs p entry) (λ p. IsIn p it.0) (λ key. MayTake key entry) (entry_count entry it.1)
  entry_dealt (AField field) it inside d h = no_list (Suits field) (λ key. OfKey key field) _ it.0 h.0 (field_dealt field it.1 h.1)
  entry_dealt (APick needed ways) it inside d h = no_list (λ p. Takes pairs p (APick needed ways)) (λ key. HasSome (HasSome (OfKey key)) ways) _ it.0 h.0 (pick_dealt needed ways it.1 d h.1)
  entry_dealt (ATable lo hi keys under) it inside d h = record {
    all = it.0;
    long = rows_long keys under it.0 h.0 h.4 ∙ sym (ap table_count h.5 ∙ table_counts h.0);
    differ = ascending_differ order it.0 h.1;
    whence = λ p i. (inside p i, inr i);
    taken = λ p i t. absurd t;
    standing = λ p s. s;
  }

  -- ---- all entries

  -- the pair stands in one of the lists
  abbrev Stands : List (List Pair × Value) → Pair → Type 0
  Stands each p = HasSome (λ it. IsIn p it.0) each

  -- no pair stands in two lists
  abbrev Alone : List (List Pair × Value) → Type 0
  Alone [] = Unit {0}
  Alone (it ∷ each) = ((p : Pair) → IsIn p it.0 → Stands each p → ⊥) × Alone each

  entries_dealt : (entries : List EntryMeaning) (each : List (List Pair × Value)) → FieldsApart entries → EachWith (EntryHas order pairs) entries each → Alone each → ((p : Pair) → Stands each p → IsIn p pairs)
      → ((p : Pair) → Stands each p → HasSome (Takes pairs p) entries → ⊥) → Dealt pairs (λ p. HasSome (Takes pairs p) entries) (Stands each) (λ key. HasSome (MayTake key) entries) (pairs_count entries (map value_of each))
  entries_dealt [] [] d h alone inside free = nothing pairs (λ p. ⊥) (λ p. ⊥) (λ key. ⊥) 0 refl (λ p i t. t) (λ p s. s)
  entries_dealt [] (it ∷ each) d h alone inside free = absurd h
  entries_dealt (entry ∷ entries) [] d h alone inside free = absurd h
  entries_dealt (entry ∷ entries) (it ∷ each) d h alone inside free =
      join pairs (λ p. Takes pairs p entry) (λ p. HasSome (Takes pairs p) entries) (λ p. IsIn p it.0) (Stands each) (Stands (it ∷ each)) (λ key. MayTake key entry) (λ key. HasSome (MayTake key) entries) _ _ d.1
      (λ p s u. free p (inl s) (inr u)) (λ p t r. free p (inr r) (inl t)) alone.0 (λ p s. s) (λ p s. s)
      (entry_dealt entry it (λ p i. inside p (inl i)) d.0 h.0) (entries_dealt entries each d.2 h.1 alone.1 (λ p s. inside p (inr s)) (λ p s t. free p (inr s) (inr t)))

  place_stands : (each : List (List Pair × Value)) (number : ℕ) (p : Pair) → IsIn p (list_of each number) → Stands each p
  place_stands [] number p i = absurd i
  place_stands (it ∷ each) zero p i = inl i
  place_stands (it ∷ each) (suc number) p i = inr (place_stands each number p i)

  stands_place : (each : List (List Pair × Value)) (p : Pair) → Stands each p → (number : ℕ) × IsIn p (list_of each number)
  stands_place [] p s = absurd s
  stands_place (it ∷ each) p (inl i) = (0, i)
  stands_place (it ∷ each) p (inr s) = let r = stands_place each p s in (suc r.0, r.1)

  one_list_alone : (each : List (List Pair × Value)) → ((p : Pair) (a b : ℕ) → IsIn p (list_of each a) → IsIn p (list_of each b) → a ≡ b) → Alone each
  one_list_alone [] f = tt
  one_list_alone (it ∷ each) f =
      ((λ p i s. let r = stands_place each p s in let e : 0 ≡ suc r.0 = f p 0 (suc r.0) i r.1 in omega (arith, e)), one_list_alone each (λ p a b i j. let e : suc a ≡ suc b = f p (suc a) (suc b) i j in omega (arith, e)))

-- ---- the count

pub number_told : (order : Order) (entries : List EntryMeaning) (pairs : List Pair) (values : List Value) → FieldsApart entries → MapHas order entries pairs values → length pairs ≡ pairs_count entries values
number_told order entries pairs values d h =
    let dealt = entries_dealt order pairs h.ascend entries h.each d h.has (one_list_alone order pairs h.ascend h.each once) (λ p s. (listed p s).0) (λ p s t. (listed p s).1 t) in
    let a = no_longer dealt.all pairs dealt.differ (λ p i. (dealt.whence p i).0) in
    let b = no_longer pairs dealt.all (ascending_differ order pairs h.ascend) (λ p i. cover dealt p i (h.covered p i)) in
    let c : length pairs ≡ pairs_count entries (map value_of h.each) = omega (arith, a, b, dealt.long) in
    c ∙ ap (pairs_count entries) (sym h.values_are)
  where
    listed : (p : Pair) → HasSome (λ (it : List Pair × Value). IsIn p it.0) h.each → IsIn p pairs × (HasSome (Takes pairs p) entries → ⊥)
    listed p s = let r = stands_place order pairs h.ascend h.each p s in let l = h.listed r.0 p r.1 in (l.0, l.1)

    once : (p : Pair) (a b : ℕ) → IsIn p (list_of h.each a) → IsIn p (list_of h.each b) → a ≡ b
    once p a b i j = from (h.covered p (h.listed a p i).0)
      where
        from : HasSome (Takes pairs p) entries ⊎ IsInOneList h.each p → a ≡ b
        from (inl t) = absurd ((h.listed a p i).1 t)
        from (inr o) = o.2 a i ∙ sym (o.2 b j)

    cover : (dealt : Dealt pairs (λ p. HasSome (Takes pairs p) entries) (λ p. HasSome (λ (it : List Pair × Value). IsIn p it.0) h.each) (λ key. HasSome (MayTake key) entries) (pairs_count entries (map value_of h.each)))
        (p : Pair) → IsIn p pairs → HasSome (Takes pairs p) entries ⊎ IsInOneList h.each p → IsIn p dealt.all
    cover dealt p i (inl t) = dealt.taken p i t
    cover dealt p i (inr o) = dealt.standing p (place_stands order pairs h.ascend h.each o.0 p o.1)

pub number_is_told : NumberIsTold
number_is_told order shape entries pairs values e keeps whole = number_told order (entries_mean order entries) pairs values (fields_apart_by_rules order shape entries e keeps) whole
