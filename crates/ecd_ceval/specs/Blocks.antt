-- What contracts see of a machine's blocks.
use Rattle.std.specs.Prelude.{ℕ, ◌≡◌, List, [], ◌∷◌, map, length, Some, slice_get}
use Rattle.ecd_cast.specs.declared.tree.CellInfo.{CellInfo}
use Rattle.ecd_cast.specs.declared.tree.StructDecl.{StructDecl}
use Rattle.ecd_cast.specs.declared.value.Cell.{Cell}
use Rattle.ecd_cast.specs.Memory.{Name, Memory, Block, Bytes, Cells}
use Rattle.ecd_cast.specs.Fitting.{BlockKind, Fixed, Output, CellsOf, AreCellsOf}
use Rattle.ecd_ceval.specs.declared.blocks.Held.{Held}
use Rattle.ecd_ceval.specs.declared.blocks.Held.TheVariants.{Fixed as HeldFixed, Output as HeldOutput, Cells as HeldCells}

-- cells under the names that their struct gives them
abbrev pub named : List CellInfo → List Cell → List (Name × Cell)
named [] cells = []
named (i ∷ is) [] = []
named (i ∷ is) (c ∷ cs) = (i.name, c) ∷ named is cs

abbrev pub block_of : Held → Block
block_of (HeldFixed bytes) = Bytes bytes.now
block_of (HeldOutput bytes) = Bytes bytes.items
block_of (HeldCells number declaration cells) = Cells (named declaration.now.cells cells.items)

-- the memory that blocks make
abbrev pub memory_of : List Held → Memory
memory_of blocks = map block_of blocks

abbrev pub kind_of : Held → BlockKind
kind_of (HeldFixed bytes) = Fixed
kind_of (HeldOutput bytes) = Output
kind_of (HeldCells number declaration cells) = CellsOf number

-- what no call changes of a block: fixed bytes, an output's length, a struct's number
pub data Lasting : Type 0 where
  FixedBytes : List ℕ → Lasting
  OutputOf : (length : ℕ) → Lasting
  CellsOfStruct : (number : ℕ) → Lasting

abbrev pub lasting_of : Held → Lasting
lasting_of (HeldFixed bytes) = FixedBytes bytes.now
lasting_of (HeldOutput bytes) = OutputOf (length bytes.items)
lasting_of (HeldCells number declaration cells) = CellsOfStruct number

-- a block of cells is that of its struct, and each cell holds what its kind may hold
abbrev pub IsHeld : List StructDecl → Memory → Held → Type 0
IsHeld structs m (HeldFixed bytes) = Unit {0}
IsHeld structs m (HeldOutput bytes) = Unit {0}
IsHeld structs m (HeldCells number declaration cells) =
    (slice_get structs number ≡ Some declaration.now) × (length cells.items ≡ length declaration.now.cells) × AreCellsOf m declaration.now.cells (named declaration.now.cells cells.items)

abbrev pub AreHeld : List StructDecl → Memory → List Held → Type 0
AreHeld structs m [] = Unit {0}
AreHeld structs m (b ∷ bs) = IsHeld structs m b × AreHeld structs m bs

pub record AreAllHeld (structs : List StructDecl) (blocks : List Held) : Type 0 where
  pub all : AreHeld structs (memory_of blocks) blocks
