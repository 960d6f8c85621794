-- How many items the parts of a group take, and how many pairs the entries of a map: a least and a greatest number. Sums and products stop at the greatest
-- argument of a head (RFC 8949, section 3).
use Rattle.std.specs.Prelude.{ℕ, ◌+◌, ◌*◌, min, max, nat_lt, if◌then◌else◌}
use Rattle.ecd_core.specs.declared.shape.Kind.{Row_of-MapEntry, end_of-MapEntry, more_of-MapEntry}
use Rattle.ecd_core.specs.declared.shape.Group.{Row_of-Part, end_of-Part, more_of-Part}
use Rattle.ecd_core.specs.declared.shape.Part.{Part, One', Opt', Many', Alt', Row_of-Way, end_of-Way, more_of-Way}
use Rattle.ecd_core.specs.declared.shape.MapEntry.{MapEntry, Field', Table'}
use Rattle.ecd_core.specs.declared.shape.MapEntry.TheVariants as m
use Rattle.ecd_core.specs.declared.shape.Pick.{Pick, Pick', Row_of-MapWay, end_of-MapWay, more_of-MapWay}

-- The greatest argument: 2^64 - 1.
abbrev pub top : ℕ
top = 18446744073709551615

unfoldable pub cap : ℕ → ℕ
cap n = min n top

-- ---- arrays

-- The least number of items. A choice of groups without a way takes none.
unfoldable mutual
  pub least : {m : _} → Row_of-Part m → ℕ
  least end_of-Part = 0
  least (more_of-Part part rest) = cap (part_least part + least rest)

  pub part_least : Part → ℕ
  part_least (One' at kind) = 1
  part_least (Opt' at _ body) = 0
  part_least (Many' at lo hi _ body) = cap (lo * least body)
  part_least (Alt' at _ ways) = ways_least ways

  pub ways_least : {m : _} → Row_of-Way m → ℕ
  ways_least end_of-Way = top
  ways_least (more_of-Way at _ body rest) = min (least body) (ways_least rest)

-- The greatest number of items.
unfoldable mutual
  pub greatest : {m : _} → Row_of-Part m → ℕ
  greatest end_of-Part = 0
  greatest (more_of-Part part rest) = cap (part_greatest part + greatest rest)

  pub part_greatest : Part → ℕ
  part_greatest (One' at kind) = 1
  part_greatest (Opt' at _ body) = greatest body
  part_greatest (Many' at lo hi _ body) = cap (hi * greatest body)
  part_greatest (Alt' at _ ways) = ways_greatest ways

  pub ways_greatest : {m : _} → Row_of-Way m → ℕ
  ways_greatest end_of-Way = 0
  ways_greatest (more_of-Way at _ body rest) = max (greatest body) (ways_greatest rest)

-- ---- maps

-- One pair for a field that is needed (RFC 8610, section 3.2).
abbrev pub needed_count : ℕ → ℕ
needed_count lo = if nat_lt 0 lo then 1 else 0

-- The needed fields of a way, and all its fields. Nothing else in a way counts.
unfoldable pub fields_least : {m : _} → Row_of-MapEntry m → ℕ
fields_least end_of-MapEntry = 0
fields_least (more_of-MapEntry (Field' at _ key cut lo _ kind) rest) = cap (needed_count lo + fields_least rest)
fields_least (more_of-MapEntry (m.Pick pick) rest) = fields_least rest
fields_least (more_of-MapEntry (Table' at lo hi _ key _ kind) rest) = fields_least rest

unfoldable pub fields_greatest : {m : _} → Row_of-MapEntry m → ℕ
fields_greatest end_of-MapEntry = 0
fields_greatest (more_of-MapEntry (Field' at _ key cut lo _ kind) rest) = cap (1 + fields_greatest rest)
fields_greatest (more_of-MapEntry (m.Pick pick) rest) = fields_greatest rest
fields_greatest (more_of-MapEntry (Table' at lo hi _ key _ kind) rest) = fields_greatest rest

unfoldable pub map_ways_least : {m : _} → Row_of-MapWay m → ℕ
map_ways_least end_of-MapWay = top
map_ways_least (more_of-MapWay at _ entries rest) = min (fields_least entries) (map_ways_least rest)

unfoldable pub map_ways_greatest : {m : _} → Row_of-MapWay m → ℕ
map_ways_greatest end_of-MapWay = 0
map_ways_greatest (more_of-MapWay at _ entries rest) = max (fields_greatest entries) (map_ways_greatest rest)

-- A needed pick has the pairs of one of its ways; one without a way is in no map.
unfoldable pub pick_least : Pick → ℕ
pick_least (Pick' at needed _ ways) = if needed then map_ways_least ways else 0

unfoldable pub pick_greatest : Pick → ℕ
pick_greatest (Pick' at needed _ ways) = map_ways_greatest ways

unfoldable pub entry_least : MapEntry → ℕ
entry_least (Field' at _ key cut lo _ kind) = needed_count lo
entry_least (m.Pick pick) = pick_least pick
entry_least (Table' at lo hi _ key _ kind) = lo

unfoldable pub entry_greatest : MapEntry → ℕ
entry_greatest (Field' at _ key cut lo _ kind) = 1
entry_greatest (m.Pick pick) = pick_greatest pick
entry_greatest (Table' at lo hi _ key _ kind) = hi

unfoldable pub pairs_least : {m : _} → Row_of-MapEntry m → ℕ
pairs_least end_of-MapEntry = 0
pairs_least (more_of-MapEntry entry rest) = cap (entry_least entry + pairs_least rest)

unfoldable pub pairs_greatest : {m : _} → Row_of-MapEntry m → ℕ
pairs_greatest end_of-MapEntry = 0
pairs_greatest (more_of-MapEntry entry rest) = cap (entry_greatest entry + pairs_greatest rest)
