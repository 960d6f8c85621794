-- Shapes that are equal but for their places give the same values; a shape is such a one of itself.
use Rattle.std.proofs.Common.{◌≡◌, ℕ, zero, suc, ◌<◌, ◌^◌, ◌⊎◌, List, [], ◌∷◌, ◌++◌, length, map, refl, ap, sym}
use mathlib.Core.Former.{Count}
use Rattle.ecd_keyorder.specs.declared.Order.{Order}
use Rattle.ecd_item_laws.specs.declared.item.Item.{Item}
use Rattle.ecd_item_laws.specs.declared.item.Item.TheVariants as i
use Rattle.ecd_item_laws.specs.declared.item.Pair.{Pair}
use Rattle.ecd_item_laws.specs.Encoding.{encoding}
use Rattle.ecd_item_laws.specs.Valid.{IsValid}
use Rattle.ecd_core.specs.declared.shape.Kind.{Kind, Choice', Tag', Cbor', AnyTag', Array', Map', Row_of-Shape, end_of-Shape, more_of-Shape, Row_of-MapEntry, end_of-MapEntry, more_of-MapEntry, items-the_row-MapEntry}
use Rattle.ecd_core.specs.declared.shape.Group.{Row_of-Part, end_of-Part, more_of-Part, items-the_row-Part}
use Rattle.ecd_core.specs.declared.shape.Part.{Part, One', Opt', Many', Alt', Row_of-Way, end_of-Way, more_of-Way}
use Rattle.ecd_core.specs.declared.shape.MapEntry.{MapEntry, Field', Table'}
use Rattle.ecd_core.specs.declared.shape.MapEntry.TheVariants as m
use Rattle.ecd_core.specs.declared.shape.Pick.{Pick, Pick', Row_of-MapWay, end_of-MapWay, more_of-MapWay}
use Rattle.ecd_core.specs.declared.value.Value.{Value}
use Rattle.ecd_core.specs.declared.value.Value.TheVariants as v
use Rattle.ecd_core.specs.Lists.{Each}
use Rattle.ecd_core.specs.Maps.{APick, ATable, AField, MapHas}
use Rattle.ecd_core.specs.Values.{IsWithin, Run, run_items, run_value, key_of, field_from, Gives, OnlyGives, AlternativeGives, PartsGive, PartGives, WayGives, meanings, meaning, pick_meaning, way_meanings, field_meanings}
use Rattle.ecd_core.proofs.Layers.{fwd, bwd}
use Rattle.ecd_shape_rules.specs.Alike.{kinds_of, bodies_of, ways_of, OfPickWays, IsAlike, ShapesAlike, PartsAlike, PartAlike, BodiesAlike, EntriesAlike, EntryAlike, PickAlike, MapWaysAlike}
use Rattle.ecd_shape_rules.specs.Laws.{IsAlikeItself, AlikeGiveTheSame}

-- ---- itself

mutual
  unfolding IsAlike

  alike_itself : (kind : Kind) → IsAlike kind kind
  alike_itself (Tag' n _ inner) = (refl, shapes_themselves inner)
  alike_itself (AnyTag' _ inner) = shapes_themselves inner
  alike_itself (Cbor' _ inner) = shapes_themselves inner
  alike_itself (Choice' _ ways) = shapes_themselves ways
  alike_itself (Array' _ parts) = parts_themselves parts
  alike_itself (Map' _ entries) = entries_themselves entries
  alike_itself kind = refl

  shapes_themselves : {n : _} (row : Row_of-Shape n) → ShapesAlike row (kinds_of row)
  shapes_themselves end_of-Shape = tt
  shapes_themselves (more_of-Shape at kind rest) = (alike_itself kind, shapes_themselves rest)

  parts_themselves : {n : _} (row : Row_of-Part n) → PartsAlike row (items-the_row-Part n row)
  parts_themselves end_of-Part = tt
  parts_themselves (more_of-Part part rest) = (part_itself part, parts_themselves rest)

  part_itself : (part : Part) → PartAlike part part
  part_itself (One' at kind) = alike_itself kind
  part_itself (Opt' at _ body) = parts_themselves body
  part_itself (Many' at lo hi _ body) = (refl, refl, parts_themselves body)
  part_itself (Alt' at _ ways) = bodies_themselves ways

  bodies_themselves : {n : _} (row : Row_of-Way n) → BodiesAlike row (bodies_of row)
  bodies_themselves end_of-Way = tt
  bodies_themselves (more_of-Way at _ body rest) = (parts_themselves body, bodies_themselves rest)

  entries_themselves : {n : _} (row : Row_of-MapEntry n) → EntriesAlike row (items-the_row-MapEntry n row)
  entries_themselves end_of-MapEntry = tt
  entries_themselves (more_of-MapEntry entry rest) = (entry_itself entry, entries_themselves rest)

  entry_itself : (entry : MapEntry) → EntryAlike entry entry
  entry_itself (Field' at _ key cut lo _ kind) = (alike_itself key, refl, refl, alike_itself kind)
  entry_itself (m.Pick pick) = pick_itself pick
  entry_itself (Table' at lo hi _ key _ kind) = (refl, refl, alike_itself key, alike_itself kind)

  pick_itself : (pick : Pick) → OfPickWays (PickAlike pick) pick
  pick_itself (Pick' at needed _ ways) = (refl, map_ways_themselves ways)

  map_ways_themselves : {n : _} (row : Row_of-MapWay n) → MapWaysAlike row (ways_of row)
  map_ways_themselves end_of-MapWay = tt
  map_ways_themselves (more_of-MapWay at _ entries rest) = (entries_themselves entries, map_ways_themselves rest)

pub is_alike_itself : IsAlikeItself
is_alike_itself shape = alike_itself shape.kind

-- ---- keys

same_key_of : (kind other : Kind) → IsAlike kind other → key_of kind ≡ key_of other
unfolding IsAlike
same_key_of (Tag' n _ inner) (Tag' number _ others) h = refl
same_key_of (Tag' n _ inner) other h = absurd h
same_key_of (AnyTag' _ inner) (AnyTag' _ others) h = refl
same_key_of (AnyTag' _ inner) other h = absurd h
same_key_of (Cbor' _ inner) (Cbor' _ others) h = refl
same_key_of (Cbor' _ inner) other h = absurd h
same_key_of (Choice' _ ways) (Choice' _ others) h = refl
same_key_of (Choice' _ ways) other h = absurd h
same_key_of (Array' _ parts) (Array' _ others) h = refl
same_key_of (Array' _ parts) other h = absurd h
same_key_of (Map' _ entries) (Map' _ others) h = refl
same_key_of (Map' _ entries) other h = absurd h
same_key_of kind other h = ap key_of (sym h)

-- ---- values

module _ (order : Order) where
  mutual
    unfolding IsAlike Gives

    same_values : (kind other : Kind) → IsAlike kind other → (item : Item) (value : Value) → Gives order kind item value ≡ Gives order other item value
    same_values (Tag' n _ inner) (Tag' number _ others) h item value =
        let only = same_only inner others h.1 in
        λ j. (content : Item) × (item ≡ i.Tag (h.0 j) content) × (h.0 j < 2 ^ 64) × only content value j
    same_values (Tag' n _ inner) other h item value = absurd h
    same_values (AnyTag' _ inner) (AnyTag' _ others) h item value =
        let only = same_only inner others h in
        λ j. (n : ℕ) × (content : Item) × (one : Value) × (item ≡ i.Tag n content) × (n < 2 ^ 64) × (value ≡ v.Tagged n one) × only content one j
    same_values (AnyTag' _ inner) other h item value = absurd h
    same_values (Cbor' _ inner) (Cbor' _ others) h item value =
        let only = same_only inner others h in
        λ j. (content : Item) × (item ≡ i.Bytes (encoding content)) × IsValid order content × only content value j
    same_values (Cbor' _ inner) other h item value = absurd h
    same_values (Choice' _ ways) (Choice' _ others) h item value =
        let one_of = same_alternatives ways others h in
        λ j. (number : ℕ) × (one : Value) × (value ≡ v.Way number one) × one_of number item one j
    same_values (Choice' _ ways) other h item value = absurd h
    same_values (Array' _ parts) (Array' _ others) h item value =
        let under = same_parts parts others h in
        λ j. (items : List Item) × (values : List Value) × (item ≡ i.Array items) × (value ≡ v.Group values) × under items values j
    same_values (Array' _ parts) other h item value = absurd h
    same_values (Map' _ entries) (Map' _ others) h item value =
        let means = same_meanings entries others h in
        λ j. (pairs : List Pair) × (values : List Value) × (item ≡ i.Map pairs) × (value ≡ v.Group values) × MapHas order (means j) pairs values
    same_values (Map' _ entries) other h item value = absurd h
    same_values kind other h item value = ap (λ (x : Kind). Gives order x item value) (sym h)

    same_only : {n : _} (row : Row_of-Shape n) {l : Count} (other : Row_of-Shape l) → ShapesAlike row (kinds_of other) → (item : Item) (value : Value) → OnlyGives order row item value ≡ OnlyGives order other item value
    same_only end_of-Shape end_of-Shape h item value = refl
    same_only end_of-Shape (more_of-Shape at kind others) h item value = absurd h
    same_only (more_of-Shape at kind rest) end_of-Shape h item value = absurd h
    same_only (more_of-Shape at kind rest) (more_of-Shape by other others) h item value = same_values kind other h.0 item value

    same_alternatives : {n : _} (row : Row_of-Shape n) {l : Count} (other : Row_of-Shape l) → ShapesAlike row (kinds_of other) → (number : ℕ) (item : Item) (value : Value)
        → AlternativeGives order row number item value ≡ AlternativeGives order other number item value
    same_alternatives end_of-Shape end_of-Shape h number item value = refl
    same_alternatives end_of-Shape (more_of-Shape at kind others) h number item value = absurd h
    same_alternatives (more_of-Shape at kind rest) end_of-Shape h number item value = absurd h
    same_alternatives (more_of-Shape at kind rest) (more_of-Shape by other others) h zero item value = same_values kind other h.0 item value
    same_alternatives (more_of-Shape at kind rest) (more_of-Shape by other others) h (suc number) item value = same_alternatives rest others h.1 number item value

    same_parts : {n : _} (row : Row_of-Part n) {l : Count} (other : Row_of-Part l) → PartsAlike row (items-the_row-Part l other) → (items : List Item) (values : List Value) → PartsGive order row items values ≡ PartsGive order other items values
    same_parts end_of-Part end_of-Part h items values = refl
    same_parts end_of-Part (more_of-Part part others) h items values = absurd h
    same_parts (more_of-Part part rest) end_of-Part h items values = absurd h
    same_parts (more_of-Part part rest) (more_of-Part other others) h items values =
        let first = same_part part other h.0 in
        let behind = same_parts rest others h.1 in
        λ j. (front : List Item) × (back : List Item) × (one : Value) × (more : List Value) × (items ≡ front ++ back) × (values ≡ one ∷ more) × first front one j × behind back more j

    same_part : (part other : Part) → PartAlike part other → (items : List Item) (value : Value) → PartGives order part items value ≡ PartGives order other items value
    same_part (One' at kind) (One' by other) h items value =
        let under = same_values kind other h in
        λ j. (item : Item) × (items ≡ item ∷ []) × under item value j
    same_part (One' at kind) other h items value = absurd h
    same_part (Opt' at _ body) (Opt' by _ other) h items value =
        let under = same_parts body other h in
        λ j. ((items ≡ []) × (value ≡ v.Absent)) ⊎ ((values : List Value) × (value ≡ v.Present (v.Group values)) × under items values j)
    same_part (Opt' at _ body) other h items value = absurd h
    same_part (Many' at lo hi _ body) (Many' by least most _ other) h items value =
        let under = same_parts body other h.2 in
        λ j. (runs : List Run) × (items ≡ run_items runs) × (value ≡ v.Many (map run_value runs)) × IsWithin (h.0 j) (h.1 j) (length runs) × Each (λ run. under run.0 run.1 j) runs
    same_part (Many' at lo hi _ body) other h items value = absurd h
    same_part (Alt' at _ ways) (Alt' by _ others) h items value =
        let one_of = same_ways ways others h in
        λ j. (number : ℕ) × (values : List Value) × (value ≡ v.Way number (v.Group values)) × one_of number items values j
    same_part (Alt' at _ ways) other h items value = absurd h

    same_ways : {n : _} (row : Row_of-Way n) {l : Count} (other : Row_of-Way l) → BodiesAlike row (bodies_of other) → (number : ℕ) (items : List Item) (values : List Value)
        → WayGives order row number items values ≡ WayGives order other number items values
    same_ways end_of-Way end_of-Way h number items values = refl
    same_ways end_of-Way (more_of-Way at _ body others) h number items values = absurd h
    same_ways (more_of-Way at _ body rest) end_of-Way h number items values = absurd h
    same_ways (more_of-Way at _ body rest) (more_of-Way by _ other others) h zero items values = same_parts body other h.0 items values
    same_ways (more_of-Way at _ body rest) (more_of-Way by _ other others) h (suc number) items values = same_ways rest others h.1 number items values

    same_meanings : {n : _} (row : Row_of-MapEntry n) {l : Count} (other : Row_of-MapEntry l) → EntriesAlike row (items-the_row-MapEntry l other) → meanings order row ≡ meanings order other
    same_meanings end_of-MapEntry end_of-MapEntry h = refl
    same_meanings end_of-MapEntry (more_of-MapEntry entry others) h = absurd h
    same_meanings (more_of-MapEntry entry rest) end_of-MapEntry h = absurd h
    same_meanings (more_of-MapEntry entry rest) (more_of-MapEntry other others) h =
        let first = same_meaning entry other h.0 in
        let behind = same_meanings rest others h.1 in
        λ j. first j ∷ behind j

    same_meaning : (entry other : MapEntry) → EntryAlike entry other → meaning order entry ≡ meaning order other
    same_meaning (Field' at _ key cut lo _ kind) (Field' by _ own is_cut least _ under) h =
        let keys = same_key_of key own h.0 in
        let values = same_values kind under h.3 in
        λ j. AField (field_from (keys j) (h.1 j) (h.2 j) (λ item value. values item value j))
    same_meaning (Field' at _ key cut lo _ kind) other h = absurd h
    same_meaning (m.Pick pick) (m.Pick other) h = same_pick pick other h
    same_meaning (m.Pick pick) other h = absurd h
    same_meaning (Table' at lo hi _ key _ kind) (Table' by least most _ own _ under) h =
        let keys = same_values key own h.2 in
        let values = same_values kind under h.3 in
        λ j. ATable (h.0 j) (h.1 j) (λ item value. keys item value j) (λ item value. values item value j)
    same_meaning (Table' at lo hi _ key _ kind) other h = absurd h

    same_pick : (pick other : Pick) → OfPickWays (PickAlike pick) other → pick_meaning order pick ≡ pick_meaning order other
    same_pick (Pick' at needed _ ways) (Pick' by is_needed _ others) h =
        let under = same_way_meanings ways others h.1 in
        λ j. APick (h.0 j) (under j)

    same_way_meanings : {n : _} (row : Row_of-MapWay n) {l : Count} (other : Row_of-MapWay l) → MapWaysAlike row (ways_of other) → way_meanings order row ≡ way_meanings order other
    same_way_meanings end_of-MapWay end_of-MapWay h = refl
    same_way_meanings end_of-MapWay (more_of-MapWay at _ entries others) h = absurd h
    same_way_meanings (more_of-MapWay at _ entries rest) end_of-MapWay h = absurd h
    same_way_meanings (more_of-MapWay at _ entries rest) (more_of-MapWay by _ other others) h =
        let first = same_field_meanings entries other h.0 in
        let behind = same_way_meanings rest others h.1 in
        λ j. first j ∷ behind j

    same_field_meanings : {n : _} (row : Row_of-MapEntry n) {l : Count} (other : Row_of-MapEntry l) → EntriesAlike row (items-the_row-MapEntry l other) → field_meanings order row ≡ field_meanings order other
    same_field_meanings end_of-MapEntry end_of-MapEntry h = refl
    same_field_meanings end_of-MapEntry (more_of-MapEntry entry others) h = absurd h
    same_field_meanings (more_of-MapEntry entry rest) end_of-MapEntry h = absurd h
    same_field_meanings (more_of-MapEntry (Field' at _ key cut lo _ kind) rest) (more_of-MapEntry (Field' by _ own is_cut least _ under) others) h =
        let keys = same_key_of key own h.0.0 in
        let values = same_values kind under h.0.3 in
        let behind = same_field_meanings rest others h.1 in
        λ j. field_from (keys j) (h.0.1 j) (h.0.2 j) (λ item value. values item value j) ∷ behind j
    same_field_meanings (more_of-MapEntry (Field' at _ key cut lo _ kind) rest) (more_of-MapEntry other others) h = absurd h.0
    same_field_meanings (more_of-MapEntry (m.Pick pick) rest) (more_of-MapEntry (m.Pick other) others) h = same_field_meanings rest others h.1
    same_field_meanings (more_of-MapEntry (m.Pick pick) rest) (more_of-MapEntry other others) h = absurd h.0
    same_field_meanings (more_of-MapEntry (Table' at lo hi _ key _ kind) rest) (more_of-MapEntry (Table' by least most _ own _ under) others) h = same_field_meanings rest others h.1
    same_field_meanings (more_of-MapEntry (Table' at lo hi _ key _ kind) rest) (more_of-MapEntry other others) h = absurd h.0

pub alike_give_the_same : AlikeGiveTheSame
alike_give_the_same order s t item value h = let e = same_values order s.kind t.kind h item value in (fwd e, bwd e)
