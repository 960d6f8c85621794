-- The structs of a shape, and their cells.
use Rattle.std.specs.Prelude.{ℕ, zero, suc, ◌+◌, ◌==◌, nat_lt, Bool, true, false, if◌then◌else◌, List, [], ◌∷◌, ◌++◌, length}
use Rattle.ecd_cast.specs.declared.tree.CellInfo.{CellInfo}
use Rattle.ecd_core.specs.declared.shape.Kind.{Kind, Choice', Tag', Cbor', AnyTag', Array', Map', Row_of-Shape, end_of-Shape, more_of-Shape, Row_of-MapEntry, end_of-MapEntry, more_of-MapEntry}
use Rattle.ecd_core.specs.declared.shape.Kind.TheVariants as k
use Rattle.ecd_core.specs.declared.shape.Shape.{Shape}
use Rattle.ecd_core.specs.declared.shape.Group.{Row_of-Part, end_of-Part, more_of-Part}
use Rattle.ecd_core.specs.declared.shape.Part.{Part, One', Opt', Many', Alt', Row_of-Way, end_of-Way, more_of-Way}
use Rattle.ecd_core.specs.declared.shape.MapEntry.{MapEntry, Field', Table'}
use Rattle.ecd_core.specs.declared.shape.MapEntry.TheVariants as m
use Rattle.ecd_core.specs.declared.shape.Pick.{Pick, Pick', Row_of-MapWay, end_of-MapWay, more_of-MapWay}
use Rattle.ecd_cells.specs.declared.layout.Layout.{Layout}
use Rattle.ecd_cells.specs.declared.layout.StructInfo.{StructInfo}
use Rattle.ecd_cells.specs.Paths.{Path, start, part, choice_name, flag_name, pointer_name, length_name, count_name, tag_name, content_path, unit_name, a_number, a_pointer}

-- ---- the cells of a struct, by a walk with a path

-- an integer with one value needs no cell
abbrev pub bounded : Path → ℕ → ℕ → List CellInfo
bounded path lo hi = if lo == hi then [] else a_number path ∷ []

-- bytes: where they begin, and how many there are
abbrev pub viewed : Path → List CellInfo
viewed path = a_pointer (pointer_name path) ∷ a_number (length_name path) ∷ []

-- a list, or the pairs of a map: where it begins, how many bytes it has, and how many elements
abbrev pub listed : Path → List CellInfo
listed path = a_pointer (pointer_name path) ∷ a_number (length_name path) ∷ a_number (count_name path) ∷ []

-- a field with the lower bound 0 may be absent
abbrev pub flagged : Path → ℕ → List CellInfo
flagged path lo = if nat_lt 0 lo then [] else a_number (flag_name path) ∷ []

-- whether there is a table among the entries
abbrev pub has_table : {m : _} → Row_of-MapEntry m → Bool
has_table end_of-MapEntry = false
has_table (more_of-MapEntry (Field' at _ key cut lo _ kind) rest) = has_table rest
has_table (more_of-MapEntry (m.Pick pick) rest) = has_table rest
has_table (more_of-MapEntry (Table' at lo hi _ key _ kind) rest) = true

abbrev pub region : Path → Bool → List CellInfo
region path true = listed path
region path false = []

unfoldable mutual
  pub cells : Path → Kind → List CellInfo
  cells path (k.Uint lo hi) = bounded path lo hi
  cells path (k.Nint lo hi) = bounded path lo hi
  cells path (k.Bytes lo hi) = viewed path
  cells path (k.Text lo hi) = viewed path
  cells path (k.BytesIs bytes) = []
  cells path (k.TextIs bytes) = []
  cells path (k.Simple n) = []
  cells path (Tag' n _ inner) = only_cells path inner
  cells path (AnyTag' _ inner) = a_number (tag_name path) ∷ only_cells (content_path path) inner
  cells path (k.Any depth) = viewed path
  cells path (k.AnyOf major depth) = viewed path
  cells path (Cbor' _ inner) = only_cells path inner
  cells path (Choice' _ shapes) = a_number (choice_name path) ∷ alternatives_cells path 0 shapes
  cells path (Array' _ parts) = parts_cells path 0 parts
  cells path (Map' _ entries) = entries_cells path 0 entries ++ region path (has_table entries)

  pub only_cells : Path → {m : _} → Row_of-Shape m → List CellInfo
  only_cells path end_of-Shape = []
  only_cells path (more_of-Shape at kind rest) = cells path kind

  pub alternatives_cells : Path → ℕ → {m : _} → Row_of-Shape m → List CellInfo
  alternatives_cells path number end_of-Shape = []
  alternatives_cells path number (more_of-Shape at kind rest) = cells (part path number) kind ++ alternatives_cells path (suc number) rest

  pub parts_cells : Path → ℕ → {m : _} → Row_of-Part m → List CellInfo
  parts_cells path number end_of-Part = []
  parts_cells path number (more_of-Part one rest) = part_cells (part path number) one ++ parts_cells path (suc number) rest

  pub part_cells : Path → Part → List CellInfo
  part_cells path (One' at kind) = cells path kind
  part_cells path (Opt' at _ body) = a_number (flag_name path) ∷ parts_cells path 0 body
  part_cells path (Many' at lo hi _ body) = listed path
  part_cells path (Alt' at _ ways) = a_number (choice_name path) ∷ ways_cells path 0 ways

  pub ways_cells : Path → ℕ → {m : _} → Row_of-Way m → List CellInfo
  ways_cells path number end_of-Way = []
  ways_cells path number (more_of-Way at _ body rest) = parts_cells (part path number) 0 body ++ ways_cells path (suc number) rest

  pub entries_cells : Path → ℕ → {m : _} → Row_of-MapEntry m → List CellInfo
  entries_cells path number end_of-MapEntry = []
  entries_cells path number (more_of-MapEntry entry rest) = entry_cells (part path number) entry ++ entries_cells path (suc number) rest

  -- a table has none in its owner
  pub entry_cells : Path → MapEntry → List CellInfo
  entry_cells path (Field' at _ key cut lo _ kind) = flagged path lo ++ cells path kind
  entry_cells path (m.Pick pick) = pick_cells path pick
  entry_cells path (Table' at lo hi _ key _ kind) = []

  pub pick_cells : Path → Pick → List CellInfo
  pick_cells path (Pick' at needed _ ways) = a_number (choice_name path) ∷ map_ways_cells path 0 ways

  pub map_ways_cells : Path → ℕ → {m : _} → Row_of-MapWay m → List CellInfo
  map_ways_cells path number end_of-MapWay = []
  map_ways_cells path number (more_of-MapWay at _ entries rest) = fields_cells (part path number) 0 entries ++ map_ways_cells path (suc number) rest

  -- a pick or a table in a way has no part in it
  pub fields_cells : Path → ℕ → {m : _} → Row_of-MapEntry m → List CellInfo
  fields_cells path number end_of-MapEntry = []
  fields_cells path number (more_of-MapEntry (Field' at _ key cut lo _ kind) rest) = (flagged (part path number) lo ++ cells (part path number) kind) ++ fields_cells path (suc number) rest
  fields_cells path number (more_of-MapEntry (m.Pick pick) rest) = fields_cells path (suc number) rest
  fields_cells path number (more_of-MapEntry (Table' at lo hi _ key _ kind) rest) = fields_cells path (suc number) rest

-- a struct has a cell at least
abbrev pub or_unit : List CellInfo → List CellInfo
or_unit [] = a_number unit_name ∷ []
or_unit (cell ∷ more) = cell ∷ more

-- ---- the structs

abbrev pub struct_of : ℕ → Path → List CellInfo → StructInfo
struct_of owner prefix own = record { cells = or_unit own; owner = owner; prefix = prefix }

-- some structs, and then those behind them, which are numbered on
abbrev pub then_from : ℕ → List StructInfo → (ℕ → List StructInfo) → List StructInfo
then_from next some others = some ++ others (next + length some)

-- The structs of the lists and tables inside, numbered from `next` on as the walk of their owner meets them. A list or table gets the next number, and its own
-- struct is walked at once.
unfoldable mutual
  pub structs_in : (owner next : ℕ) → Path → Kind → List StructInfo
  structs_in owner next path (k.Uint lo hi) = []
  structs_in owner next path (k.Nint lo hi) = []
  structs_in owner next path (k.Bytes lo hi) = []
  structs_in owner next path (k.Text lo hi) = []
  structs_in owner next path (k.BytesIs bytes) = []
  structs_in owner next path (k.TextIs bytes) = []
  structs_in owner next path (k.Simple n) = []
  structs_in owner next path (Tag' n _ inner) = only_structs owner next path inner
  structs_in owner next path (AnyTag' _ inner) = only_structs owner next (content_path path) inner
  structs_in owner next path (k.Any depth) = []
  structs_in owner next path (k.AnyOf major depth) = []
  structs_in owner next path (Cbor' _ inner) = only_structs owner next path inner
  structs_in owner next path (Choice' _ shapes) = alternatives_structs owner next path 0 shapes
  structs_in owner next path (Array' _ parts) = parts_structs owner next path 0 parts
  structs_in owner next path (Map' _ entries) = entries_structs owner next path 0 entries

  pub only_structs : (owner next : ℕ) → Path → {m : _} → Row_of-Shape m → List StructInfo
  only_structs owner next path end_of-Shape = []
  only_structs owner next path (more_of-Shape at kind rest) = structs_in owner next path kind

  pub alternatives_structs : (owner next : ℕ) → Path → ℕ → {m : _} → Row_of-Shape m → List StructInfo
  alternatives_structs owner next path number end_of-Shape = []
  alternatives_structs owner next path number (more_of-Shape at kind rest) =
      then_from next (structs_in owner next (part path number) kind) (λ after. alternatives_structs owner after path (suc number) rest)

  pub parts_structs : (owner next : ℕ) → Path → ℕ → {m : _} → Row_of-Part m → List StructInfo
  parts_structs owner next path number end_of-Part = []
  parts_structs owner next path number (more_of-Part one rest) = then_from next (part_structs owner next (part path number) one) (λ after. parts_structs owner after path (suc number) rest)

  pub part_structs : (owner next : ℕ) → Path → Part → List StructInfo
  part_structs owner next path (One' at kind) = structs_in owner next path kind
  part_structs owner next path (Opt' at _ body) = parts_structs owner next path 0 body
  part_structs owner next path (Many' at lo hi _ body) = struct_of owner path (parts_cells start 0 body) ∷ parts_structs next (suc next) start 0 body
  part_structs owner next path (Alt' at _ ways) = ways_structs owner next path 0 ways

  pub ways_structs : (owner next : ℕ) → Path → ℕ → {m : _} → Row_of-Way m → List StructInfo
  ways_structs owner next path number end_of-Way = []
  ways_structs owner next path number (more_of-Way at _ body rest) = then_from next (parts_structs owner next (part path number) 0 body) (λ after. ways_structs owner after path (suc number) rest)

  pub entries_structs : (owner next : ℕ) → Path → ℕ → {m : _} → Row_of-MapEntry m → List StructInfo
  entries_structs owner next path number end_of-MapEntry = []
  entries_structs owner next path number (more_of-MapEntry entry rest) =
      then_from next (entry_structs owner next (part path number) entry) (λ after. entries_structs owner after path (suc number) rest)

  pub entry_structs : (owner next : ℕ) → Path → MapEntry → List StructInfo
  entry_structs owner next path (Field' at _ key cut lo _ kind) = structs_in owner next path kind
  entry_structs owner next path (m.Pick pick) = pick_structs owner next path pick
  entry_structs owner next path (Table' at lo hi _ key _ kind) =
      struct_of owner path (cells (part start 0) key ++ cells (part start 1) kind)
      ∷ then_from (suc next) (structs_in next (suc next) (part start 0) key) (λ after. structs_in next after (part start 1) kind)

  pub pick_structs : (owner next : ℕ) → Path → Pick → List StructInfo
  pick_structs owner next path (Pick' at needed _ ways) = map_ways_structs owner next path 0 ways

  pub map_ways_structs : (owner next : ℕ) → Path → ℕ → {m : _} → Row_of-MapWay m → List StructInfo
  map_ways_structs owner next path number end_of-MapWay = []
  map_ways_structs owner next path number (more_of-MapWay at _ entries rest) =
      then_from next (fields_structs owner next (part path number) 0 entries) (λ after. map_ways_structs owner after path (suc number) rest)

  pub fields_structs : (owner next : ℕ) → Path → ℕ → {m : _} → Row_of-MapEntry m → List StructInfo
  fields_structs owner next path number end_of-MapEntry = []
  fields_structs owner next path number (more_of-MapEntry (Field' at _ key cut lo _ kind) rest) =
      then_from next (structs_in owner next (part path number) kind) (λ after. fields_structs owner after path (suc number) rest)
  fields_structs owner next path number (more_of-MapEntry (m.Pick pick) rest) = fields_structs owner next path (suc number) rest
  fields_structs owner next path number (more_of-MapEntry (Table' at lo hi _ key _ kind) rest) = fields_structs owner next path (suc number) rest

-- the structs of a shape, the root's first
abbrev pub layout_of : Shape → List StructInfo
layout_of shape = struct_of 0 [] (cells start shape.kind) ∷ structs_in 0 1 start shape.kind
