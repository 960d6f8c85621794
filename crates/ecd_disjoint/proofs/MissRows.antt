-- Pairs without a place, by rows and by lists.
use Rattle.std.proofs.Common.{◌⊎◌, inl, inr, List, sym, subst}
use Rattle.std.proofs.Math.Logic.{⊎_map}
use mathlib.Core.Former.{Count}
use Rattle.ecd_core.specs.declared.shape.Kind.{Kind, Row_of-MapEntry, end_of-MapEntry, more_of-MapEntry, items-the_row-MapEntry}
use Rattle.ecd_core.specs.declared.shape.Kind.TheVariants as k
use Rattle.ecd_core.specs.declared.shape.Kind.TheBlock as block
use Rattle.ecd_core.specs.declared.shape.MapEntry.{MapEntry, Field', Table'}
use Rattle.ecd_core.specs.declared.shape.MapEntry.TheVariants as m
use Rattle.ecd_core.specs.declared.shape.Pick.{Pick, Pick', Row_of-MapWay, end_of-MapWay, more_of-MapWay, items-the_row-MapWay, out-Pick}
use Rattle.ecd_core.specs.Lists.{Each}
use Rattle.ecd_core.proofs.Layers.{entries-shown, pick-out}
use Rattle.ecd_apart.specs.Keys.{HasCut}
use Rattle.ecd_apart.specs.Apart.{Apart, FieldsMiss, WaysMiss, PickMisses, EntriesMiss, MapMisses, MapNeeds, NeededMisses, AreMissed}
use Rattle.ecd_apart.proofs.BothWays.{turn_needed, turn_missed}
use Rattle.ecd_apart.proofs.TurningMaps.{needed_misses}
use Rattle.ecd_disjoint.specs.Misses.{CutAmong, FieldsMissPair, WaysMissPair, EntryMisses, PairMisses, SomeMissed}

-- ---- cuts

cut_to : {n : Count} (row : Row_of-MapEntry n) (key : Kind) → HasCut row key → CutAmong (items-the_row-MapEntry n row) key
unfolding HasCut
cut_to end_of-MapEntry key h = h
cut_to (more_of-MapEntry (Field' at _ other cut lo _ kind) rest) key (inl h) = inl h
cut_to (more_of-MapEntry (Field' at _ other cut lo _ kind) rest) key (inr h) = inr (cut_to rest key h)
cut_to (more_of-MapEntry (m.Pick pick) rest) key h = inr (cut_to rest key h)
cut_to (more_of-MapEntry (Table' at lo hi _ other _ kind) rest) key h = inr (cut_to rest key h)

cut_from : {n : Count} (row : Row_of-MapEntry n) (key : Kind) → CutAmong (items-the_row-MapEntry n row) key → HasCut row key
unfolding HasCut
cut_from end_of-MapEntry key h = h
cut_from (more_of-MapEntry (Field' at _ other cut lo _ kind) rest) key (inl h) = inl h
cut_from (more_of-MapEntry (Field' at _ other cut lo _ kind) rest) key (inr h) = inr (cut_from rest key h)
cut_from (more_of-MapEntry (m.Pick pick) rest) key (inl h) = absurd h
cut_from (more_of-MapEntry (m.Pick pick) rest) key (inr h) = cut_from rest key h
cut_from (more_of-MapEntry (Table' at lo hi _ other _ kind) rest) key (inl h) = absurd h
cut_from (more_of-MapEntry (Table' at lo hi _ other _ kind) rest) key (inr h) = cut_from rest key h

-- ---- one pair

module _ (key value : Kind) where
  fields_to : {n : Count} (row : Row_of-MapEntry n) → FieldsMiss key (Apart value) row → FieldsMissPair key value (items-the_row-MapEntry n row)
  fields_to end_of-MapEntry h = tt
  fields_to (more_of-MapEntry (Field' at _ other cut lo _ kind) rest) h = (h.0, fields_to rest h.1)
  fields_to (more_of-MapEntry (m.Pick pick) rest) h = (tt, fields_to rest h)
  fields_to (more_of-MapEntry (Table' at lo hi _ other _ kind) rest) h = (tt, fields_to rest h)

  fields_from : {n : Count} (row : Row_of-MapEntry n) → FieldsMissPair key value (items-the_row-MapEntry n row) → FieldsMiss key (Apart value) row
  fields_from end_of-MapEntry h = tt
  fields_from (more_of-MapEntry (Field' at _ other cut lo _ kind) rest) h = (h.0, fields_from rest h.1)
  fields_from (more_of-MapEntry (m.Pick pick) rest) h = fields_from rest h.1
  fields_from (more_of-MapEntry (Table' at lo hi _ other _ kind) rest) h = fields_from rest h.1

  ways_to : {n : Count} (row : Row_of-MapWay n) → WaysMiss key (Apart value) row → WaysMissPair key value (items-the_row-MapWay n row)
  ways_to end_of-MapWay h = tt
  ways_to (more_of-MapWay at s entries rest) h = (subst (FieldsMissPair key value) (sym (entries-shown s entries)) (fields_to entries h.0), ways_to rest h.1)

  ways_from : {n : Count} (row : Row_of-MapWay n) → WaysMissPair key value (items-the_row-MapWay n row) → WaysMiss key (Apart value) row
  ways_from end_of-MapWay h = tt
  ways_from (more_of-MapWay at s entries rest) h = (fields_from entries (subst (FieldsMissPair key value) (entries-shown s entries) h.0), ways_from rest h.1)

  pick_to : (pick : Pick) → PickMisses key (Apart value) pick → WaysMissPair key value (out-Pick pick).ways
  pick_to (Pick' at needed s ways) h = subst (λ x. WaysMissPair key value x.ways) (sym (pick-out at needed s ways)) (ways_to ways h)

  pick_from : (pick : Pick) → WaysMissPair key value (out-Pick pick).ways → PickMisses key (Apart value) pick
  pick_from (Pick' at needed s ways) h = ways_from ways (subst (λ x. WaysMissPair key value x.ways) (pick-out at needed s ways) h)

  module _ (C D : Type 0) where
    entries_to : (C → D) → {n : Count} (row : Row_of-MapEntry n) → EntriesMiss key (Apart key) (Apart value) C row → Each (EntryMisses key value D) (items-the_row-MapEntry n row)
    entries_to f end_of-MapEntry h = tt
    entries_to f (more_of-MapEntry (Field' at _ other cut lo _ kind) rest) h = (h.0, entries_to f rest h.1)
    entries_to f (more_of-MapEntry (m.Pick pick) rest) h = (pick_to pick h.0, entries_to f rest h.1)
    entries_to f (more_of-MapEntry (Table' at lo hi _ other _ kind) rest) h = (⊎_map (λ a. a) (⊎_map (λ a. a) f) h.0, entries_to f rest h.1)

    entries_from : (D → C) → {n : Count} (row : Row_of-MapEntry n) → Each (EntryMisses key value D) (items-the_row-MapEntry n row) → EntriesMiss key (Apart key) (Apart value) C row
    entries_from f end_of-MapEntry h = tt
    entries_from f (more_of-MapEntry (Field' at _ other cut lo _ kind) rest) h = (h.0, entries_from f rest h.1)
    entries_from f (more_of-MapEntry (m.Pick pick) rest) h = (pick_from pick h.0, entries_from f rest h.1)
    entries_from f (more_of-MapEntry (Table' at lo hi _ other _ kind) rest) h = (⊎_map (λ a. a) (⊎_map (λ a. a) f) h.0, entries_from f rest h.1)

  map_to : (entries : List MapEntry) → MapMisses key (Apart key) (Apart value) (k.Map entries) → PairMisses key value entries
  map_to entries h =
      let row = block.hidden-the_row-MapEntry-3 entries in
      subst (PairMisses key value) (block.items_hidden-the_row-MapEntry-3 entries) (entries_to (HasCut row key) (CutAmong (items-the_row-MapEntry _ row) key) (λ c. cut_to row key c) row h)

  map_from : (entries : List MapEntry) → PairMisses key value entries → MapMisses key (Apart key) (Apart value) (k.Map entries)
  map_from entries h =
      let row = block.hidden-the_row-MapEntry-3 entries in
      entries_from (HasCut row key) (CutAmong (items-the_row-MapEntry _ row) key) (λ c. cut_from row key c) row (subst (PairMisses key value) (sym (block.items_hidden-the_row-MapEntry-3 entries)) h)

-- ---- needed fields

module _ (others : List MapEntry) where
  needed_to : {n : Count} (row : Row_of-MapEntry n) → NeededMisses row (k.Map others) → SomeMissed (items-the_row-MapEntry n row) others
  unfolding Apart
  needed_to end_of-MapEntry h = h
  needed_to (more_of-MapEntry (Field' at _ key cut lo _ kind) rest) (inl h) = inl (h.0, map_to key kind others h.1)
  needed_to (more_of-MapEntry (Field' at _ key cut lo _ kind) rest) (inr h) = inr (needed_to rest h)
  needed_to (more_of-MapEntry (m.Pick pick) rest) (inl h) = absurd h
  needed_to (more_of-MapEntry (m.Pick pick) rest) (inr h) = inr (needed_to rest h)
  needed_to (more_of-MapEntry (Table' at lo hi _ key _ kind) rest) (inl h) = absurd h
  needed_to (more_of-MapEntry (Table' at lo hi _ key _ kind) rest) (inr h) = inr (needed_to rest h)

  needed_from : {n : Count} (row : Row_of-MapEntry n) → SomeMissed (items-the_row-MapEntry n row) others → NeededMisses row (k.Map others)
  unfolding Apart
  needed_from end_of-MapEntry h = h
  needed_from (more_of-MapEntry (Field' at _ key cut lo _ kind) rest) (inl h) = inl (h.0, map_from key kind others h.1)
  needed_from (more_of-MapEntry (Field' at _ key cut lo _ kind) rest) (inr h) = inr (needed_from rest h)
  needed_from (more_of-MapEntry (m.Pick pick) rest) (inl h) = absurd h
  needed_from (more_of-MapEntry (m.Pick pick) rest) (inr h) = inr (needed_from rest h)
  needed_from (more_of-MapEntry (Table' at lo hi _ key _ kind) rest) (inl h) = absurd h
  needed_from (more_of-MapEntry (Table' at lo hi _ key _ kind) rest) (inr h) = inr (needed_from rest h)

  missed_to : (entries : List MapEntry) → NeededMisses (block.hidden-the_row-MapEntry-3 entries) (k.Map others) → SomeMissed entries others
  missed_to entries h = subst (λ (l : List MapEntry). SomeMissed l others) (block.items_hidden-the_row-MapEntry-3 entries) (needed_to (block.hidden-the_row-MapEntry-3 entries) h)

  missed_from : (entries : List MapEntry) → SomeMissed entries others → NeededMisses (block.hidden-the_row-MapEntry-3 entries) (k.Map others)
  missed_from entries h = needed_from (block.hidden-the_row-MapEntry-3 entries) (subst (λ (l : List MapEntry). SomeMissed l others) (sym (block.items_hidden-the_row-MapEntry-3 entries)) h)

module _ (entries others : List MapEntry) where
  pub maps_to : NeededMisses (block.hidden-the_row-MapEntry-3 entries) (k.Map others) ⊎ MapNeeds (λ key kind. AreMissed (block.hidden-the_row-MapEntry-3 entries) key kind (HasCut (block.hidden-the_row-MapEntry-3 entries) key)) (k.Map others) → SomeMissed entries others ⊎ SomeMissed others entries
  maps_to (inl h) = inl (missed_to others entries h)
  maps_to (inr h) =
      inr (missed_to entries others (needed_misses (λ key kind. AreMissed (block.hidden-the_row-MapEntry-3 entries) key kind (HasCut (block.hidden-the_row-MapEntry-3 entries) key)) (k.Map entries) (λ key kind a. turn_missed (block.hidden-the_row-MapEntry-3 entries) (block.hidden-the_row-MapEntry-3 entries) key kind a) (block.hidden-the_row-MapEntry-3 others) h))

  pub maps_from : SomeMissed entries others ⊎ SomeMissed others entries → NeededMisses (block.hidden-the_row-MapEntry-3 entries) (k.Map others) ⊎ MapNeeds (λ key kind. AreMissed (block.hidden-the_row-MapEntry-3 entries) key kind (HasCut (block.hidden-the_row-MapEntry-3 entries) key)) (k.Map others)
  maps_from (inl h) = inl (missed_from others entries h)
  maps_from (inr h) = inr (turn_needed (block.hidden-the_row-MapEntry-3 others) (k.Map entries) (missed_from entries others h))
