-- Items that have values are valid where their encodings are shorter than 2^63 bytes.
use Rattle.std.proofs.Common.{◌≡◌, ℕ, zero, suc, ◌<◌, ◌^◌, ◌⊎◌, inl, inr, List, [], ◌∷◌, ◌++◌, length, refl, sym, subst, arith}
use Rattle.std.specs.List.{AllByRecursion}
use Rattle.ecd_keyorder.specs.declared.Order.{Order}
use Rattle.ecd_item_laws.specs.declared.item.Item.{Item}
use Rattle.ecd_item_laws.specs.declared.item.Item.TheVariants as i
use Rattle.ecd_item_laws.specs.declared.item.Pair.{Pair}
use Rattle.ecd_item_laws.specs.Encoding.{encoding}
use Rattle.ecd_item_laws.specs.Valid.{IsValid, IsValidPair}
use Rattle.ecd_item_laws.proofs.Layers.{Array_valid, Map_valid, Tag_valid}
use Rattle.ecd_core.specs.declared.shape.Kind.{Kind, Choice', Tag', Cbor', AnyTag', Array', Map', Row_of-Shape, end_of-Shape, more_of-Shape, Row_of-MapEntry, end_of-MapEntry, more_of-MapEntry}
use Rattle.ecd_core.specs.declared.shape.Kind.TheVariants as k
use Rattle.ecd_core.specs.declared.shape.Group.{Row_of-Part, end_of-Part, more_of-Part}
use Rattle.ecd_core.specs.declared.shape.Part.{Part, One', Opt', Many', Alt', Row_of-Way, end_of-Way, more_of-Way}
use Rattle.ecd_core.specs.declared.shape.MapEntry.{MapEntry, Field', Table'}
use Rattle.ecd_core.specs.declared.shape.MapEntry.TheVariants as m
use Rattle.ecd_core.specs.declared.shape.Pick.{Pick, Pick', Row_of-MapWay, end_of-MapWay, more_of-MapWay}
use Rattle.ecd_core.specs.declared.value.Value.{Value}
use Rattle.ecd_core.specs.Lists.{Each, HasSome, EachWith, IsIn}
use Rattle.ecd_core.specs.Maps.{ItemValues, FieldMeaning, EntryMeaning, AField, APick, ATable, Suits, way_of, Takes, EntryHas, list_of, IsInOneList, RowHas, MapHas}
use Rattle.ecd_core.specs.Values.{Run, run_items, Gives, OnlyGives, AlternativeGives, PartsGive, PartGives, WayGives, meanings, meaning, pick_meaning, way_meanings, field_meanings}
use Rattle.ecd_core.proofs.Ascending.{each_in}
use Rattle.ecd_map_laws.specs.Valid.{ValuedIsValid}
use Rattle.ecd_map_laws.proofs.Sizes.{sizes, sizes_first, sizes_both, no_more_items, no_more_pairs, value_inside, bytes_size, text_size, tag_size, array_size, map_size, all_both}

-- its encoding is short
abbrev IsShort : Item → Type 0
IsShort x = length (encoding x) < 2 ^ 63

module _ (order : Order) where
  -- short items with these values are valid
  abbrev AreGood : ItemValues → Type 0
  AreGood values = (x : Item) (w : Value) → values x w → IsShort x → IsValid order x

  abbrev GoodField : FieldMeaning → Type 0
  GoodField field = AreGood field.under

  abbrev GoodEntry : EntryMeaning → Type 0
  GoodEntry (AField field) = GoodField field
  GoodEntry (APick needed ways) = Each (Each GoodField) ways
  GoodEntry (ATable lo hi keys under) = AreGood under

  -- ---- the values of a map's pairs

  fields_good : (way : List FieldMeaning) (p : Pair) → Each GoodField way → HasSome (λ field. Suits field p) way → IsShort p.value → IsValid order p.value
  fields_good [] p g h s = absurd h
  fields_good (field ∷ way) p g (inl h) s = g.0 p.value h.0 h.1.1 s
  fields_good (field ∷ way) p g (inr h) s = fields_good way p g.1 h s

  ways_good : (ways : List (List FieldMeaning)) (n : ℕ) (p : Pair) → Each (Each GoodField) ways → HasSome (λ field. Suits field p) (way_of ways n) → IsShort p.value → IsValid order p.value
  ways_good [] n p g h s = absurd h
  ways_good (way ∷ ways) zero p g h s = fields_good way p g.0 h s
  ways_good (way ∷ ways) (suc n) p g h s = ways_good ways n p g.1 h s

  taken_good : (pairs : List Pair) (entries : List EntryMeaning) (p : Pair) → Each GoodEntry entries → HasSome (Takes pairs p) entries → IsShort p.value → IsValid order p.value
  taken_good pairs [] p g h s = absurd h
  taken_good pairs (entry ∷ entries) p g (inr h) s = taken_good pairs entries p g.1 h s
  taken_good pairs (entry ∷ entries) p g (inl h) s = one entry g.0 h
    where
      one : (entry : EntryMeaning) → GoodEntry entry → Takes pairs p entry → IsValid order p.value
      one (AField field) f t = f p.value t.0 t.1.1 s
      one (APick needed ways) f t = ways_good ways t.0 p f t.2 s
      one (ATable lo hi keys under) f t = absurd t

  rows_good : (keys under : ItemValues) (listed : List Pair) (rows : List Value) (p : Pair) → AreGood under → EachWith (RowHas keys under) listed rows → IsIn p listed → IsShort p.value → IsValid order p.value
  rows_good keys under [] rows p g h here s = absurd here
  rows_good keys under (q ∷ listed) [] p g h here s = absurd h
  rows_good keys under (q ∷ listed) (row ∷ rows) p g h (inl e) s = g p.value h.0.1 (subst (λ (x : Pair). under x.value h.0.1) e h.0.3) s
  rows_good keys under (q ∷ listed) (row ∷ rows) p g h (inr here) s = rows_good keys under listed rows p g h.1 here s

  entry_good : (pairs : List Pair) (entry : EntryMeaning) (it : List Pair × Value) (p : Pair) → GoodEntry entry → EntryHas order pairs entry it → IsIn p it.0 → IsShort p.value → IsValid order p.value
  entry_good pairs (AField field) it p g h here s = absurd (subst (IsIn p) h.0 here)
  entry_good pairs (APick needed ways) it p g h here s = absurd (subst (IsIn p) h.0 here)
  entry_good pairs (ATable lo hi keys under) it p g h here s = rows_good keys under it.0 h.0 p g h.4 here s

  listed_good : (pairs : List Pair) (entries : List EntryMeaning) (each : List (List Pair × Value)) (n : ℕ) (p : Pair) → Each GoodEntry entries → EachWith (EntryHas order pairs) entries each → IsIn p (list_of each n) → IsShort p.value → IsValid order p.value
  listed_good pairs [] [] n p g h here s = absurd here
  listed_good pairs [] (it ∷ each) n p g h here s = absurd h
  listed_good pairs (entry ∷ entries) [] n p g h here s = absurd h
  listed_good pairs (entry ∷ entries) (it ∷ each) zero p g h here s = entry_good pairs entry it p g.0 h.0 here s
  listed_good pairs (entry ∷ entries) (it ∷ each) (suc n) p g h here s = listed_good pairs entries each n p g.1 h.1 here s

  all_pairs : (ps : List Pair) → ((p : Pair) → IsIn p ps → IsValidPair order p) → AllByRecursion (IsValidPair order) ps
  all_pairs [] f = tt
  all_pairs (p ∷ ps) f = (f p (inl refl), all_pairs ps (λ q here. f q (inr here)))

  map_good : (entries : List EntryMeaning) → Each GoodEntry entries → (pairs : List Pair) (values : List Value) → MapHas order entries pairs values → IsShort (i.Map pairs) → IsValid order (i.Map pairs)
  map_good entries g pairs values whole s =
      Map_valid order pairs (omega (arith, s, map_size pairs, no_more_pairs pairs)) (all_pairs pairs (λ p here. (each_in (λ pair. IsValid order pair.key) pairs p whole.valid here, from p here (omega (arith, s, map_size pairs, value_inside pairs p here)) (whole.covered p here)))) whole.ascend
    where
      from : (p : Pair) → IsIn p pairs → IsShort p.value → HasSome (Takes pairs p) entries ⊎ IsInOneList whole.each p → IsValid order p.value
      from p here short (inl t) = taken_good pairs entries p g t short
      from p here short (inr o) = listed_good pairs entries whole.each o.0 p g whole.has o.1 short

  -- ---- shape by shape

  bytes_good : (bytes : List ℕ) (x : Item) → x ≡ i.Bytes bytes → IsShort x → IsValid order x
  unfolding IsValid
  bytes_good bytes x e s =
      let short : IsShort (i.Bytes bytes) = subst IsShort e s in
      subst (IsValid order) (sym e) (omega (arith, short, bytes_size bytes))

  runs_good : (P : List Item → List Value → Type 0) → ((xs : List Item) (ws : List Value) → P xs ws → sizes xs < 2 ^ 63 → AllByRecursion (IsValid order) xs) → (runs : List Run) → Each (λ run. P run.0 run.1) runs
      → sizes (run_items runs) < 2 ^ 63 → AllByRecursion (IsValid order) (run_items runs)
  runs_good P f [] h s = tt
  runs_good P f (run ∷ runs) h s =
      all_both (IsValid order) run.0 (run_items runs) (f run.0 run.1 h.0 (omega (arith, s, sizes_both run.0 (run_items runs)))) (runs_good P f runs h.1 (omega (arith, s, sizes_both run.0 (run_items runs))))

  mutual
    unfolding Gives IsValid

    pub good : (kind : Kind) → AreGood (Gives order kind)
    good (k.Uint lo hi) x w h s = subst (IsValid order) (sym h.1) h.2.0
    good (k.Nint lo hi) x w h s = subst (IsValid order) (sym h.1) h.2.0
    good (k.Bytes lo hi) x w h s = bytes_good h.0 x h.1 s
    good (k.Text lo hi) x w h s = let short : IsShort (i.Text h.0) = subst IsShort h.1 s in subst (IsValid order) (sym h.1) (omega (arith, short, text_size h.0), h.2)
    good (k.BytesIs bytes) x w h s = bytes_good bytes x h.0 s
    good (k.TextIs bytes) x w h s = let short : IsShort (i.Text bytes) = subst IsShort h.0 s in subst (IsValid order) (sym h.0) (omega (arith, short, text_size bytes), h.1)
    good (k.Simple n) x w h s = h.1
    good (Tag' n _ inner) x w h s =
        let short : IsShort (i.Tag n h.0) = subst IsShort h.1 s in
        subst (IsValid order) (sym h.1) (Tag_valid order n h.0 h.2 (only_good inner h.0 w h.3 (omega (arith, short, tag_size n h.0))))
    good (AnyTag' _ inner) x w h s =
        let short : IsShort (i.Tag h.0 h.1) = subst IsShort h.3 s in
        subst (IsValid order) (sym h.3) (Tag_valid order h.0 h.1 h.4 (only_good inner h.1 h.2 h.6 (omega (arith, short, tag_size h.0 h.1))))
    good (k.Any depth) x w h s = h.0.0
    good (k.AnyOf major depth) x w h s = h.0.0
    good (Cbor' _ inner) x w h s = bytes_good (encoding h.0) x h.1 s
    good (Choice' _ shapes) x w h s = alternative_good shapes h.0 x h.1 h.3 s
    good (Array' _ parts) x w h s =
        let short : IsShort (i.Array h.0) = subst IsShort h.2 s in
        subst (IsValid order) (sym h.2) (Array_valid order h.0 (omega (arith, short, array_size h.0, no_more_items h.0)) (parts_good parts h.0 h.1 h.4 (omega (arith, short, array_size h.0))))
    good (Map' _ entries) x w h s = subst (IsValid order) (sym h.2) (map_good (meanings order entries) (entries_good entries) h.0 h.1 h.4 (subst IsShort h.2 s))

    only_good : {n : _} (row : Row_of-Shape n) (x : Item) (w : Value) → OnlyGives order row x w → IsShort x → IsValid order x
    only_good end_of-Shape x w h s = absurd h
    only_good (more_of-Shape at kind rest) x w h s = good kind x w h s

    alternative_good : {n : _} (row : Row_of-Shape n) (number : ℕ) (x : Item) (w : Value) → AlternativeGives order row number x w → IsShort x → IsValid order x
    alternative_good end_of-Shape number x w h s = absurd h
    alternative_good (more_of-Shape at kind rest) zero x w h s = good kind x w h s
    alternative_good (more_of-Shape at kind rest) (suc number) x w h s = alternative_good rest number x w h s

    parts_good : {n : _} (row : Row_of-Part n) (xs : List Item) (ws : List Value) → PartsGive order row xs ws → sizes xs < 2 ^ 63 → AllByRecursion (IsValid order) xs
    parts_good end_of-Part xs ws h s = subst (AllByRecursion (IsValid order)) (sym h.0) tt
    parts_good (more_of-Part part rest) xs ws h s =
        let short : sizes (h.0 ++ h.1) < 2 ^ 63 = subst (λ (l : List Item). sizes l < 2 ^ 63) h.4 s in
        subst (AllByRecursion (IsValid order)) (sym h.4)
        (all_both (IsValid order) h.0 h.1 (part_good part h.0 h.2 h.6 (omega (arith, short, sizes_both h.0 h.1))) (parts_good rest h.1 h.3 h.7 (omega (arith, short, sizes_both h.0 h.1))))

    part_good : (part : Part) (xs : List Item) (w : Value) → PartGives order part xs w → sizes xs < 2 ^ 63 → AllByRecursion (IsValid order) xs
    part_good (One' at kind) xs w h s =
        let short : sizes (h.0 ∷ []) < 2 ^ 63 = subst (λ (l : List Item). sizes l < 2 ^ 63) h.1 s in
        subst (AllByRecursion (IsValid order)) (sym h.1) (good kind h.0 w h.2 (omega (arith, short, sizes_first h.0 [])), tt)
    part_good (Opt' at _ body) xs w (inl h) s = subst (AllByRecursion (IsValid order)) (sym h.0) tt
    part_good (Opt' at _ body) xs w (inr h) s = parts_good body xs h.0 h.2 s
    part_good (Many' at lo hi _ body) xs w h s = subst (AllByRecursion (IsValid order)) (sym h.1) (runs_good (λ ys us. PartsGive order body ys us) (λ ys us g short. parts_good body ys us g short) h.0 h.4 (subst (λ (l : List Item). sizes l < 2 ^ 63) h.1 s))
    part_good (Alt' at _ ways) xs w h s = way_good ways h.0 xs h.1 h.3 s

    way_good : {n : _} (row : Row_of-Way n) (number : ℕ) (xs : List Item) (ws : List Value) → WayGives order row number xs ws → sizes xs < 2 ^ 63 → AllByRecursion (IsValid order) xs
    way_good end_of-Way number xs ws h s = absurd h
    way_good (more_of-Way at _ body rest) zero xs ws h s = parts_good body xs ws h s
    way_good (more_of-Way at _ body rest) (suc number) xs ws h s = way_good rest number xs ws h s

    entries_good : {n : _} (row : Row_of-MapEntry n) → Each GoodEntry (meanings order row)
    entries_good end_of-MapEntry = tt
    entries_good (more_of-MapEntry entry rest) = (one_good entry, entries_good rest)

    one_good : (entry : MapEntry) → GoodEntry (meaning order entry)
    one_good (Field' at _ key cut lo _ kind) = good kind
    one_good (m.Pick pick) = pick_good pick
    one_good (Table' at lo hi _ key _ kind) = good kind

    pick_good : (pick : Pick) → GoodEntry (pick_meaning order pick)
    pick_good (Pick' at needed _ ways) = map_ways_good ways

    map_ways_good : {n : _} (row : Row_of-MapWay n) → Each (Each GoodField) (way_meanings order row)
    map_ways_good end_of-MapWay = tt
    map_ways_good (more_of-MapWay at _ entries rest) = (way_fields_good entries, map_ways_good rest)

    way_fields_good : {n : _} (row : Row_of-MapEntry n) → Each GoodField (field_meanings order row)
    way_fields_good end_of-MapEntry = tt
    way_fields_good (more_of-MapEntry (Field' at _ key cut lo _ kind) rest) = (good kind, way_fields_good rest)
    way_fields_good (more_of-MapEntry (m.Pick pick) rest) = way_fields_good rest
    way_fields_good (more_of-MapEntry (Table' at lo hi _ key _ kind) rest) = way_fields_good rest

pub valued_is_valid : ValuedIsValid
valued_is_valid order shape item value h s = good order shape.kind item value h s
