-- Pairs that have no place in a map, over the lists of the source.
use Rattle.std.specs.Prelude.{◌≡◌, ◌≤◌, ◌⊎◌, true, List}
use Rattle.ecd_core.specs.declared.shape.Kind.{Kind}
use Rattle.ecd_core.specs.declared.shape.MapEntry.{MapEntry, Field', Table'}
use Rattle.ecd_core.specs.declared.shape.MapEntry.TheVariants as m
use Rattle.ecd_core.specs.declared.shape.MapWay.{MapWay}
use Rattle.ecd_core.specs.declared.shape.Pick.{out-Pick}
use Rattle.ecd_core.specs.Lists.{Each, HasSome}
use Rattle.ecd_apart.specs.Keys.{IsSameKey}
use Rattle.ecd_apart.specs.Apart.{Apart}

-- It is a field of this key with a cut (RFC 8610, section 3.5.4).
abbrev pub CutsKey : Kind → MapEntry → Type 0
CutsKey key (Field' at _ other cut lo _ kind) = (cut ≡ true) × IsSameKey key other
CutsKey key (m.Pick pick) = ⊥
CutsKey key (Table' at lo hi _ other _ kind) = ⊥

abbrev pub CutAmong : List MapEntry → Kind → Type 0
CutAmong entries key = HasSome (CutsKey key) entries

-- Among the entries of a way: a field of this key has a value shape that is apart.
abbrev pub FieldMisses : (key value : Kind) → MapEntry → Type 0
FieldMisses key value (Field' at _ other cut lo _ kind) = IsSameKey key other → Apart value kind
FieldMisses key value (m.Pick pick) = Unit {0}
FieldMisses key value (Table' at lo hi _ other _ kind) = Unit {0}

abbrev pub FieldsMissPair : (key value : Kind) → List MapEntry → Type 0
FieldsMissPair key value entries = Each (FieldMisses key value) entries

abbrev pub WaysMissPair : (key value : Kind) → List MapWay → Type 0
WaysMissPair key value ways = Each (λ (way : MapWay). FieldsMissPair key value way.entries) ways

-- A pair of this key and value has no place in the entry, where C says that a plain field of the key has a cut.
abbrev pub EntryMisses : (key value : Kind) (C : Type 0) → MapEntry → Type 0
EntryMisses key value C (Field' at _ other cut lo _ kind) = IsSameKey key other → Apart value kind
EntryMisses key value C (m.Pick pick) = WaysMissPair key value (out-Pick pick).ways
EntryMisses key value C (Table' at lo hi _ other _ kind) = Apart key other ⊎ (Apart value kind ⊎ C)

abbrev pub PairMisses : (key value : Kind) → List MapEntry → Type 0
PairMisses key value entries = Each (EntryMisses key value (CutAmong entries key)) entries

-- It is a needed field, and its pair has no place among the others.
abbrev pub IsMissedBy : List MapEntry → MapEntry → Type 0
IsMissedBy others (Field' at _ key cut lo _ kind) = (1 ≤ lo) × PairMisses key kind others
IsMissedBy others (m.Pick pick) = ⊥
IsMissedBy others (Table' at lo hi _ key _ kind) = ⊥

abbrev pub SomeMissed : (entries others : List MapEntry) → Type 0
SomeMissed entries others = HasSome (IsMissedBy others) entries
