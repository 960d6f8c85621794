-- Each value has cells: the walk of the relation of item and value finds them.
use Rattle.std.proofs.Common.{◌≡◌, ℕ, zero, suc, ◌+◌, ◌<◌, ◌⊎◌, inl, inr, Bool, true, false, List, [], ◌∷◌, ◌++◌, length, map, Option, Some, refl, ap, sym, subst, arith}
use Rattle.std.specs.Prelude.{nat_lt, get_or}
use Rattle.ecd_keyorder.specs.declared.Order.{Order}
use Rattle.ecd_item_laws.specs.declared.item.Item.{Item}
use Rattle.ecd_item_laws.specs.declared.item.Pair.{Pair}
use Rattle.ecd_item_laws.specs.Encoding.{encoded_length}
use Rattle.ecd_core.specs.declared.shape.Kind.{Kind, Choice', Tag', Cbor', AnyTag', Array', Map', Row_of-Shape, end_of-Shape, more_of-Shape, Row_of-MapEntry, end_of-MapEntry, more_of-MapEntry}
use Rattle.ecd_core.specs.declared.shape.Kind.TheVariants as k
use Rattle.ecd_core.specs.declared.shape.Group.{Row_of-Part, end_of-Part, more_of-Part}
use Rattle.ecd_core.specs.declared.shape.Part.{Part, One', Opt', Many', Alt', Row_of-Way, end_of-Way, more_of-Way}
use Rattle.ecd_core.specs.declared.shape.MapEntry.{MapEntry, Field', Table'}
use Rattle.ecd_core.specs.declared.shape.MapEntry.TheVariants as m
use Rattle.ecd_core.specs.declared.shape.Pick.{Pick, Pick', Row_of-MapWay, end_of-MapWay, more_of-MapWay}
use Rattle.ecd_core.specs.declared.value.Value.{Value}
use Rattle.ecd_core.specs.declared.value.Value.TheVariants as v
use Rattle.ecd_core.specs.Lists.{HasSome, EachWith}
use Rattle.ecd_core.specs.Maps.{FieldMeaning, GivesPair, FieldHas, PickHas, EntryHas, held, value_of, way_of}
use Rattle.ecd_core.specs.Values.{Gives, OnlyGives, AlternativeGives, PartsGive, PartGives, WayGives, meanings, meaning, way_meanings, field_meanings, field_meaning, key_of, run_value}
use Rattle.ecd_cells.specs.Laws.{ValuesHaveCells}
use Rattle.ecd_cells.specs.Paths.{Path, start, part, tag_name, content_path}
use Rattle.ecd_cells.specs.Structs.{cells, has_table}
use Rattle.ecd_cells.specs.Reads.{Setting, PairStands, number_set, string_set, view_set, list_set, flag_set, choice_set, region_set, head_length, items_length, pairs_length, struct_sets, Reads, OnlyReads, AlternativeReads, PartsRead, PartReads, WayReads, EntriesRead, EntryReads, FieldReads, PickReads, MapWayReads, FieldsRead, way_count}

-- ---- a pair that is somewhere stands somewhere

pub record Somewhere (P : Pair → Type 0) (pairs : List Pair) : Type 0 where
  pub pair : Pair
  pub before : List Pair
  pub after : List Pair
  pub there : pairs ≡ before ++ pair ∷ after
  pub so : P pair

somewhere : (P : Pair → Type 0) (pairs : List Pair) → HasSome P pairs → Somewhere P pairs
somewhere P [] h = absurd h
somewhere P (pair ∷ pairs) (inl h) = record { pair = pair; before = []; after = pairs; there = refl; so = h }
somewhere P (pair ∷ pairs) (inr h) =
    let r = somewhere P pairs h in
    record { pair = r.pair; before = pair ∷ r.before; after = r.after; there = ap (λ (l : List Pair). pair ∷ l) r.there; so = r.so }

module _ (order : Order) (block : ℕ) where
  abbrev Read : Path → Kind → Item → Value → ℕ → Type 0
  Read path kind item value at = (sets : List Setting) × Reads order block path kind item value at sets

  -- a field, by what the shape of its value gives
  field_reads : (pairs : List Pair) (base : ℕ) (path : Path) (key : Kind) (cut needed : Bool) (kind : Kind) (value : Value)
      → ((item : Item) (one : Value) (at : ℕ) → Gives order kind item one → Read path kind item one at)
      → FieldHas pairs (record { key = key_of key; cut = cut; needed = needed; under = Gives order kind }) value
      → (sets : List Setting) × FieldReads order block pairs base path key needed (Reads order block path kind) value sets
  unfolding Reads
  field_reads pairs base path key cut true kind value each (inl h) =
      let r = somewhere (GivesPair (record { key = key_of key; cut = cut; needed = true; under = Gives order kind }) h.0) pairs h.1 in
      let at : ℕ = base + (pairs_length r.before + encoded_length r.pair.key) in
      let read = each r.pair.value value at (subst (λ (x : Value). Gives order kind r.pair.value x) (sym h.2) r.so.1) in
      (read.0, (r.pair, at, record { before = r.before; after = r.after; there = r.there; has_key = r.so.0; value_at = refl }, read.1))
  field_reads pairs base path key cut true kind value each (inr h) = let none : ⊥ = cc in absurd none
  field_reads pairs base path key cut false kind value each (inl h) =
      let r = somewhere (GivesPair (record { key = key_of key; cut = cut; needed = false; under = Gives order kind }) h.0) pairs h.1 in
      let at : ℕ = base + (pairs_length r.before + encoded_length r.pair.key) in
      let read = each r.pair.value h.0 at r.so.1 in
      (flag_set path 1 ∷ read.0, inr (r.pair, at, h.0, read.0, h.2, refl, record { before = r.before; after = r.after; there = r.there; has_key = r.so.0; value_at = refl }, read.1))
  field_reads pairs base path key cut false kind value each (inr h) = (flag_set path 0 ∷ [], inl (h.2, refl))

  mutual
    unfolding Gives Reads

    pub reads : (path : Path) (kind : Kind) (item : Item) (value : Value) (at : ℕ) → Gives order kind item value → Read path kind item value at
    reads path (k.Uint lo hi) item value at h = (number_set path value, refl)
    reads path (k.Nint lo hi) item value at h = (number_set path value, refl)
    reads path (k.Bytes lo hi) item value at h = (string_set order block path item at, refl)
    reads path (k.Text lo hi) item value at h = (string_set order block path item at, refl)
    reads path (k.BytesIs bytes) item value at h = ([], refl)
    reads path (k.TextIs bytes) item value at h = ([], refl)
    reads path (k.Simple n) item value at h = ([], refl)
    reads path (Tag' n s inner) item value at h = let r = only_reads path inner h.0 value (at + head_length 6 n) h.3 in (r.0, (h.0, h.1, r.1))
    reads path (AnyTag' s inner) item value at h =
        let r = only_reads (content_path path) inner h.1 h.2 (at + head_length 6 h.0) h.6 in
        (_, (h.0, h.1, h.2, r.0, h.3, h.5, refl, r.1))
    reads path (k.Any depth) item value at h = (view_set order block path at (encoded_length item), refl)
    reads path (k.AnyOf major depth) item value at h = (view_set order block path at (encoded_length item), refl)
    reads path (Cbor' s inner) item value at h = let r = only_reads path inner h.0 value (at + head_length 2 (encoded_length h.0)) h.3 in (r.0, (h.0, h.1, h.2, r.1))
    reads path (Choice' s shapes) item value at h = let r = alternative_reads path 0 shapes h.0 item h.1 at h.3 in (choice_set path h.0 ∷ r.0, (h.0, h.1, r.0, h.2, refl, r.1))
    reads path (Array' s parts) item value at h = let r = parts_read path 0 parts h.0 h.1 (at + head_length 4 (length h.0)) h.4 in (r.0, (h.0, h.1, h.2, h.3, r.1))
    reads path (Map' s entries) item value at h =
        let base : ℕ = at + head_length 5 (length h.0) in
        let r = entries_read h.0 base path 0 entries h.4.each h.4.has in
        let values : EntriesRead order block h.0 base path 0 entries h.1 r.0 = subst (λ (vs : List Value). EntriesRead order block h.0 base path 0 entries vs r.0) (sym h.4.values_are) r.1 in
        (r.0 ++ region_set order block path (has_table entries) base h.0, (h.0, h.1, r.0, h.2, h.3, h.4.ascend, refl, values))

    only_reads : {n : _} (path : Path) (row : Row_of-Shape n) (item : Item) (value : Value) (at : ℕ) → OnlyGives order row item value → (sets : List Setting) × OnlyReads order block path row item value at sets
    only_reads path end_of-Shape item value at h = absurd h
    only_reads path (more_of-Shape _ kind rest) item value at h = reads path kind item value at h

    alternative_reads : {n : _} (path : Path) (first : ℕ) (row : Row_of-Shape n) (number : ℕ) (item : Item) (value : Value) (at : ℕ) → AlternativeGives order row number item value
        → (sets : List Setting) × AlternativeReads order block path first row number item value at sets
    alternative_reads path first end_of-Shape number item value at h = absurd h
    alternative_reads path first (more_of-Shape _ kind rest) zero item value at h = reads (part path first) kind item value at h
    alternative_reads path first (more_of-Shape _ kind rest) (suc number) item value at h = alternative_reads path (suc first) rest number item value at h

    parts_read : {n : _} (path : Path) (first : ℕ) (row : Row_of-Part n) (items : List Item) (values : List Value) (at : ℕ) → PartsGive order row items values
        → (sets : List Setting) × PartsRead order block path first row items values at sets
    parts_read path first end_of-Part items values at h = ([], (h.0, h.1, refl))
    parts_read path first (more_of-Part one rest) items values at h =
        let some = part_reads (part path first) one h.0 h.2 at h.6 in
        let more = parts_read path (suc first) rest h.1 h.3 (at + items_length h.0) h.7 in
        (some.0 ++ more.0, (h.0, h.1, h.2, h.3, some.0, more.0, h.4, h.5, refl, h.6, some.1, more.1))

    part_reads : (path : Path) (one : Part) (items : List Item) (value : Value) (at : ℕ) → PartGives order one items value → (sets : List Setting) × PartReads order block path one items value at sets
    part_reads path (One' _ kind) items value at h = let r = reads path kind h.0 value at h.2 in (r.0, (h.0, h.1, r.1))
    part_reads path (Opt' _ s body) items value at (inl h) = (flag_set path 0 ∷ [], inl (h.0, h.1, refl))
    part_reads path (Opt' _ s body) items value at (inr h) = let r = parts_read path 0 body items h.0 at h.2 in (flag_set path 1 ∷ r.0, inr (h.0, r.0, h.1, refl, r.1))
    part_reads path (Many' _ lo hi s body) items value at h = (list_set order block path at (items_length items) (length (map run_value h.0)), (map run_value h.0, h.2, refl))
    part_reads path (Alt' _ s ways) items value at h = let r = way_reads path 0 ways h.0 items h.1 at h.3 in (choice_set path h.0 ∷ r.0, (h.0, h.1, r.0, h.2, refl, r.1))

    way_reads : {n : _} (path : Path) (first : ℕ) (row : Row_of-Way n) (number : ℕ) (items : List Item) (values : List Value) (at : ℕ) → WayGives order row number items values
        → (sets : List Setting) × WayReads order block path first row number items values at sets
    way_reads path first end_of-Way number items values at h = absurd h
    way_reads path first (more_of-Way _ s body rest) zero items values at h = parts_read (part path first) 0 body items values at h
    way_reads path first (more_of-Way _ s body rest) (suc number) items values at h = way_reads path (suc first) rest number items values at h

    entries_read : {n : _} (pairs : List Pair) (base : ℕ) (path : Path) (first : ℕ) (row : Row_of-MapEntry n) (each : List (List Pair × Value)) → EachWith (EntryHas order pairs) (meanings order row) each
        → (sets : List Setting) × EntriesRead order block pairs base path first row (map value_of each) sets
    entries_read pairs base path first end_of-MapEntry [] h = ([], (refl, refl))
    entries_read pairs base path first end_of-MapEntry (it ∷ each) h = absurd h
    entries_read pairs base path first (more_of-MapEntry entry rest) [] h = absurd h
    entries_read pairs base path first (more_of-MapEntry entry rest) (it ∷ each) h =
        let some = entry_reads pairs base (part path first) entry it h.0 in
        let more = entries_read pairs base path (suc first) rest each h.1 in
        (some.0 ++ more.0, (it.1, map value_of each, some.0, more.0, refl, refl, some.1, more.1))

    entry_reads : (pairs : List Pair) (base : ℕ) (path : Path) (entry : MapEntry) (it : List Pair × Value) → EntryHas order pairs (meaning order entry) it
        → (sets : List Setting) × EntryReads order block pairs base path entry it.1 sets
    entry_reads pairs base path (Field' _ _ key cut lo _ kind) it h = field_reads pairs base path key cut (nat_lt 0 lo) kind it.1 (λ item one at g. reads path kind item one at g) h.1
    entry_reads pairs base path (m.Pick pick) it h = pick_reads pairs base path pick it h
    entry_reads pairs base path (Table' _ lo hi _ key _ kind) it h = ([], refl)

    pick_reads : (pairs : List Pair) (base : ℕ) (path : Path) (pick : Pick) (it : List Pair × Value) → EntryHas order pairs (meaning order (m.Pick pick)) it
        → (sets : List Setting) × PickReads order block pairs base path pick it.1 sets
    pick_reads pairs base path (Pick' _ needed s ways) it (e, inl h) =
        let r = map_way_reads pairs base path 0 ways h.0 h.1 h.2.there h.3 in
        (choice_set path h.0 ∷ r.0, inr (h.0, h.1, r.0, h.4, refl, r.1))
    pick_reads pairs base path (Pick' _ needed s ways) it (e, inr h) = (choice_set path (way_count ways) ∷ [], inl (h.2, refl))

    map_way_reads : {n : _} (pairs : List Pair) (base : ℕ) (path : Path) (first : ℕ) (row : Row_of-MapWay n) (number : ℕ) (values : List Value)
        → number < length (way_meanings order row) → EachWith (FieldHas pairs) (way_of (way_meanings order row) number) values → (sets : List Setting) × MapWayReads order block pairs base path first row number values sets
    map_way_reads pairs base path first end_of-MapWay number values lt h = absurd (omega (arith, lt))
    map_way_reads pairs base path first (more_of-MapWay _ s entries rest) zero values lt h = fields_read pairs base (part path first) 0 entries values h
    map_way_reads pairs base path first (more_of-MapWay _ s entries rest) (suc number) values lt h = map_way_reads pairs base path (suc first) rest number values (omega (arith, lt)) h

    fields_read : {n : _} (pairs : List Pair) (base : ℕ) (path : Path) (first : ℕ) (row : Row_of-MapEntry n) (values : List Value) → EachWith (FieldHas pairs) (field_meanings order row) values
        → (sets : List Setting) × FieldsRead order block pairs base path first row values sets
    fields_read pairs base path first end_of-MapEntry [] h = ([], (refl, refl))
    fields_read pairs base path first end_of-MapEntry (x ∷ values) h = absurd h
    fields_read pairs base path first (more_of-MapEntry (Field' _ _ key cut lo _ kind) rest) [] h = absurd h
    fields_read pairs base path first (more_of-MapEntry (Field' _ _ key cut lo _ kind) rest) (value ∷ values) h =
        let some = field_reads pairs base (part path first) key cut (nat_lt 0 lo) kind value (λ item one at g. reads (part path first) kind item one at g) h.0 in
        let more = fields_read pairs base path (suc first) rest values h.1 in
        (some.0 ++ more.0, (value, values, some.0, more.0, refl, refl, some.1, more.1))
    fields_read pairs base path first (more_of-MapEntry (m.Pick pick) rest) values h = fields_read pairs base path (suc first) rest values h
    fields_read pairs base path first (more_of-MapEntry (Table' _ lo hi _ key _ kind) rest) values h = fields_read pairs base path (suc first) rest values h

pub values_have_cells : ValuesHaveCells
values_have_cells order shape item value block at h =
    let r = reads order block start shape.kind item value at h in
    (struct_sets order block (cells start shape.kind) r.0, record { own = r.0; reads = r.1; sets_are = refl })
