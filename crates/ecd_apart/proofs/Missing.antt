-- A pair of a needed field that has no place in another map.
use Rattle.std.proofs.Common.{◌≡◌, ℕ, zero, suc, ◌≤◌, ◌⊎◌, inl, inr, Bool, List, [], ◌∷◌, Some, refl, ap, sym, ◌∙◌, subst, arith}
use Rattle.std.proofs.lemmas.Bool.{ltb-false}
use Rattle.ecd_keyorder.specs.declared.Order.{Order}
use Rattle.ecd_item_laws.specs.declared.item.Item.{Item, out-Item}
use Rattle.ecd_item_laws.specs.declared.item.Item.TheVariants as i
use Rattle.ecd_item_laws.specs.declared.item.Item.TheOpen as o
use Rattle.ecd_item_laws.specs.declared.item.Pair.{Pair}
use Rattle.ecd_core.specs.declared.shape.Kind.{Kind, Map', Row_of-MapEntry, end_of-MapEntry, more_of-MapEntry}
use Rattle.ecd_core.specs.declared.shape.MapEntry.{Field', Table'}
use Rattle.ecd_core.specs.declared.shape.MapEntry.TheVariants as m
use Rattle.ecd_core.specs.declared.shape.Pick.{Pick, Pick', Row_of-MapWay, end_of-MapWay, more_of-MapWay}
use Rattle.ecd_core.specs.declared.value.Value.{Value}
use Rattle.ecd_core.specs.Lists.{HasSome, EachWith, IsIn}
use Rattle.ecd_core.specs.Maps.{ItemValues, GivesPair, Suits, way_of, Takes, Blocks, FieldHas, RowHas, EntryHas, list_of, IsInOneList, MapHas}
use Rattle.ecd_core.specs.Values.{Gives, key_of, field_meaning, meanings, pick_meaning, way_meanings, field_meanings}
use Rattle.ecd_core.proofs.Ascending.{in_from_some}
use Rattle.ecd_core.proofs.Keys.{has_one_key}
use Rattle.ecd_apart.specs.Keys.{HasCut, KeysDiffer, EntriesDiffer, PickInside, MapWaysInside}
use Rattle.ecd_apart.specs.Apart.{FieldsMiss, WaysMiss, PickMisses, EntriesMiss, MapMisses, HasNeeded, MapNeeds}

pub maps_alike : (ps qs : List Pair) → i.Map ps ≡ i.Map qs → ps ≡ qs
maps_alike ps qs e = let f : o.Map ps ≡ o.Map qs = sym (i.outs-Map ps) ∙ (ap out-Item e ∙ i.outs-Map qs) in cc

-- ---- a needed field has a pair

-- A pair of the map with this key, and a value of what stands under it.
pub record Found (order : Order) (pairs : List Pair) (key kind : Kind) : Type 0 where
  pub pair : Pair
  pub here : IsIn pair pairs
  pub own : key_of key ≡ Some pair.key
  pub value : Value
  pub given : Gives order kind pair.value value

module _ (order : Order) (pairs : List Pair) where
  pub needed_found : (key : Kind) (cut : Bool) (lo : ℕ) (kind : Kind) (value : Value) → 1 ≤ lo → FieldHas pairs (field_meaning order key cut lo kind) value → Found order pairs key kind
  needed_found key cut lo kind value le (inl h) =
      let a = in_from_some (GivesPair (field_meaning order key cut lo kind) h.0) pairs h.1 in
      record { pair = a.0; here = a.1; own = a.2.0; value = h.0; given = a.2.1 }
  needed_found key cut lo kind value le (inr h) = absurd (omega (arith, le, ltb-false 0 lo h.0))

  -- a field of which this holds has one, and the keys in its shapes differ
  abbrev pub FoundSome : (Kind → Kind → Type 0) → Type 0
  FoundSome P = (key : Kind) × (kind : Kind) × P key kind × KeysDiffer key × KeysDiffer kind × Found order pairs key kind

  some_found : (P : Kind → Kind → Type 0) {n : _} (row : Row_of-MapEntry n) (each : List (List Pair × Value)) → EntriesDiffer row → HasNeeded P row → EachWith (EntryHas order pairs) (meanings order row) each → FoundSome P
  unfolding Gives KeysDiffer
  some_found P end_of-MapEntry each d a h = absurd a
  some_found P (more_of-MapEntry entry rest) [] d a h = absurd h
  some_found P (more_of-MapEntry (Field' at _ key cut lo _ kind) rest) (it ∷ each) d (inl a) h = (key, kind, a.1, d.0.0, d.0.1, needed_found key cut lo kind it.1 a.0 h.0.1)
  some_found P (more_of-MapEntry (Field' at _ key cut lo _ kind) rest) (it ∷ each) d (inr a) h = some_found P rest each d.1 a h.1
  some_found P (more_of-MapEntry (m.Pick pick) rest) (it ∷ each) d a h = some_found P rest each d.1 a h.1
  some_found P (more_of-MapEntry (Table' at lo hi _ key _ kind) rest) (it ∷ each) d a h = some_found P rest each d.1 a h.1

  pub some_found_in : (P : Kind → Kind → Type 0) (kind : Kind) (value : Value) → KeysDiffer kind → MapNeeds P kind → Gives order kind (i.Map pairs) value → FoundSome P
  unfolding Gives KeysDiffer
  some_found_in P (Map' s entries) value d a h =
      let whole = subst (λ (x : List Pair). MapHas order (meanings order entries) x h.1) (sym (maps_alike pairs h.0 h.2)) h.4 in
      some_found P entries whole.each d.1 a whole.has
  some_found_in P kind value d a h = absurd a

-- what is found has a value under its key's shape
pub key_given : (order : Order) (key : Kind) (item : Item) → key_of key ≡ Some item → (value : Value) × Gives order key item value
key_given order key item e = (has_one_key order (record { at = 0; kind = key }) item item e).1 refl

-- ---- it has no place in the other map

module _ (order : Order) (key : Kind) (K V : Kind → Type 0) (pair : Pair) (own : key_of key ≡ Some pair.key)
    (no_key : (kind : Kind) (value : Value) → KeysDiffer kind → K kind → Gives order kind pair.key value → ⊥) (no_value : (kind : Kind) (value : Value) → KeysDiffer kind → V kind → Gives order kind pair.value value → ⊥) where
  fields_miss : {n : _} (row : Row_of-MapEntry n) → EntriesDiffer row → FieldsMiss key V row → HasSome (λ field. Suits field pair) (field_meanings order row) → ⊥
  unfolding Gives KeysDiffer
  fields_miss end_of-MapEntry d a h = h
  fields_miss (more_of-MapEntry (Field' at _ other cut lo _ kind) rest) d a (inl h) = no_value kind h.0 d.0.1 (a.0 (pair.key, own, h.1.0)) h.1.1
  fields_miss (more_of-MapEntry (Field' at _ other cut lo _ kind) rest) d a (inr h) = fields_miss rest d.1 a.1 h
  fields_miss (more_of-MapEntry (m.Pick pick) rest) d a h = fields_miss rest d.1 a h
  fields_miss (more_of-MapEntry (Table' at lo hi _ other _ kind) rest) d a h = fields_miss rest d.1 a h

  ways_miss : {n : _} (row : Row_of-MapWay n) (number : ℕ) → MapWaysInside row → WaysMiss key V row → HasSome (λ field. Suits field pair) (way_of (way_meanings order row) number) → ⊥
  unfolding Gives KeysDiffer
  ways_miss end_of-MapWay number d a h = h
  ways_miss (more_of-MapWay at _ entries rest) zero d a h = fields_miss entries d.0 a.0 h
  ways_miss (more_of-MapWay at _ entries rest) (suc number) d a h = ways_miss rest number d.1 a.1 h

  pick_misses : (pick : Pick) (pairs : List Pair) → PickInside pick → PickMisses key V pick → Takes pairs pair (pick_meaning order pick) → ⊥
  unfolding Gives KeysDiffer
  pick_misses (Pick' at needed _ ways) pairs d a h = ways_miss ways h.0 d a h.2

  taken_misses : (C : Type 0) {n : _} (row : Row_of-MapEntry n) (pairs : List Pair) → EntriesDiffer row → EntriesMiss key K V C row → HasSome (Takes pairs pair) (meanings order row) → ⊥
  unfolding Gives KeysDiffer
  taken_misses C end_of-MapEntry pairs d a h = h
  taken_misses C (more_of-MapEntry (Field' at _ other cut lo _ kind) rest) pairs d a (inl h) = no_value kind h.0 d.0.1 (a.0 (pair.key, own, h.1.0)) h.1.1
  taken_misses C (more_of-MapEntry (Field' at _ other cut lo _ kind) rest) pairs d a (inr h) = taken_misses C rest pairs d.1 a.1 h
  taken_misses C (more_of-MapEntry (m.Pick pick) rest) pairs d a (inl h) = pick_misses pick pairs d.0 a.0 h
  taken_misses C (more_of-MapEntry (m.Pick pick) rest) pairs d a (inr h) = taken_misses C rest pairs d.1 a.1 h
  taken_misses C (more_of-MapEntry (Table' at lo hi _ other _ kind) rest) pairs d a (inl h) = h
  taken_misses C (more_of-MapEntry (Table' at lo hi _ other _ kind) rest) pairs d a (inr h) = taken_misses C rest pairs d.1 a.1 h

  -- ---- nor in a list, but where there is a cut

  row_at : (keys under : ItemValues) (listed : List Pair) (rows : List Value) → EachWith (RowHas keys under) listed rows → IsIn pair listed → (row : Value) × RowHas keys under pair row
  row_at keys under [] rows h there = absurd there
  row_at keys under (p ∷ listed) [] h there = absurd h
  row_at keys under (p ∷ listed) (row ∷ rows) h (inl e) = (row, subst (λ (x : Pair). RowHas keys under x row) e h.0)
  row_at keys under (p ∷ listed) (row ∷ rows) h (inr there) = row_at keys under listed rows h.1 there

  in_none : (listed : List Pair) → listed ≡ [] → IsIn pair listed → ⊥
  in_none listed e there = subst (IsIn pair) e there

  pick_lists_none : (pick : Pick) (pairs : List Pair) (it : List Pair × Value) → EntryHas order pairs (pick_meaning order pick) it → it.0 ≡ []
  unfolding Gives
  pick_lists_none (Pick' at needed _ ways) pairs it h = h.0

  listed_cut : (C : Type 0) {n : _} (row : Row_of-MapEntry n) (pairs : List Pair) (each : List (List Pair × Value)) (number : ℕ) → EntriesDiffer row → EntriesMiss key K V C row → EachWith (EntryHas order pairs) (meanings order row) each
      → IsIn pair (list_of each number) → C
  unfolding Gives KeysDiffer
  listed_cut C end_of-MapEntry pairs [] number d a h there = absurd there
  listed_cut C end_of-MapEntry pairs (it ∷ each) number d a h there = absurd h
  listed_cut C (more_of-MapEntry entry rest) pairs [] number d a h there = absurd h
  listed_cut C (more_of-MapEntry (Field' _ _ other cut lo _ kind) rest) pairs (it ∷ each) zero d a h there = absurd (in_none it.0 h.0.0 there)
  listed_cut C (more_of-MapEntry (m.Pick pick) rest) pairs (it ∷ each) zero d a h there = absurd (in_none it.0 (pick_lists_none pick pairs it h.0) there)
  listed_cut C (more_of-MapEntry (Table' _ lo hi _ other _ kind) rest) pairs (it ∷ each) zero d a h there =
      let r = row_at (Gives order other) (Gives order kind) it.0 h.0.0 h.0.4 there in
      from r.1.0 r.1.1 a.0 r.1.2 r.1.3
    where
      from : (key_value value : Value) → K other ⊎ (V kind ⊎ C) → Gives order other pair.key key_value → Gives order kind pair.value value → C
      from key_value value (inl b) g f = absurd (no_key other key_value d.0.0 b g)
      from key_value value (inr (inl b)) g f = absurd (no_value kind value d.0.1 b f)
      from key_value value (inr (inr c)) g f = c
  listed_cut C (more_of-MapEntry (Field' _ _ other cut lo _ kind) rest) pairs (it ∷ each) (suc number) d a h there = listed_cut C rest pairs each number d.1 a.1 h.1 there
  listed_cut C (more_of-MapEntry (m.Pick pick) rest) pairs (it ∷ each) (suc number) d a h there = listed_cut C rest pairs each number d.1 a.1 h.1 there
  listed_cut C (more_of-MapEntry (Table' _ lo hi _ other _ kind) rest) pairs (it ∷ each) (suc number) d a h there = listed_cut C rest pairs each number d.1 a.1 h.1 there

  cut_blocks : {n : _} (row : Row_of-MapEntry n) (pairs : List Pair) → HasCut row key → (HasSome (Takes pairs pair) (meanings order row) → ⊥) → HasSome (Blocks pairs pair) (meanings order row)
  unfolding Gives HasCut
  cut_blocks end_of-MapEntry pairs c free = absurd c
  cut_blocks (more_of-MapEntry (Field' at _ other cut lo _ kind) rest) pairs (inl c) free = let same : key_of other ≡ Some pair.key = c.1.2 ∙ (sym c.1.1 ∙ own) in inl (c.0, same, λ s. free (inl s))
  cut_blocks (more_of-MapEntry (Field' at _ other cut lo _ kind) rest) pairs (inr c) free = inr (cut_blocks rest pairs c (λ t. free (inr t)))
  cut_blocks (more_of-MapEntry (m.Pick pick) rest) pairs c free = inr (cut_blocks rest pairs c (λ t. free (inr t)))
  cut_blocks (more_of-MapEntry (Table' at lo hi _ other _ kind) rest) pairs c free = inr (cut_blocks rest pairs c (λ t. free (inr t)))

  pub no_place : {n : _} (row : Row_of-MapEntry n) (pairs : List Pair) (values : List Value) → EntriesDiffer row → EntriesMiss key K V (HasCut row key) row → MapHas order (meanings order row) pairs values → IsIn pair pairs → ⊥
  no_place row pairs values d a h here = from (h.covered pair here)
    where
      from : HasSome (Takes pairs pair) (meanings order row) ⊎ IsInOneList h.each pair → ⊥
      from (inl t) = taken_misses (HasCut row key) row pairs d a t
      from (inr s) = let l = h.listed s.0 pair s.1 in l.2 (cut_blocks row pairs (listed_cut (HasCut row key) row pairs h.each s.0 d a h.has s.1) l.1)

  pub no_place_in : (kind : Kind) (pairs : List Pair) (value : Value) → KeysDiffer kind → MapMisses key K V kind → Gives order kind (i.Map pairs) value → IsIn pair pairs → ⊥
  unfolding Gives KeysDiffer
  no_place_in (Map' s entries) pairs value d a h here = no_place entries h.0 h.1 d.1 a h.4 (subst (IsIn pair) (maps_alike pairs h.0 h.2) here)
  no_place_in kind pairs value d a h here = absurd a
