-- What is written, and where.
use Rattle.std.specs.Prelude.{ℕ, zero, suc, ◌+◌, ◌%◌, ◌<◌, Bool, true, false, ◌≡◌, List, [], ◌∷◌, map, length, Option, Some, None, Result, Ok, Err, slice_get, nat_lt, if◌then◌else◌, bytes_eq}
use Rattle.ecd_cast.specs.declared.tree.CellInfo.{CellInfo}
use Rattle.ecd_cast.specs.declared.tree.StructDecl.{StructDecl}
use Rattle.ecd_cast.specs.declared.value.Cell.{Cell}
use Rattle.ecd_cast.specs.Fitting.{may_hold}
use Rattle.ecd_cast.specs.declared.value.Value.{Value}
use Rattle.ecd_cast.specs.declared.value.Value.TheVariants.{Number as Num, Bytes as Ptr}
use Rattle.ecd_cast.specs.Memory.{Name, Memory, Block, Bytes, Cells, Event, WritesByte, event}
use Rattle.ecd_ceval.specs.declared.blocks.Held.{Held}
use Rattle.ecd_ceval.specs.declared.blocks.Held.TheVariants.{Fixed as HeldFixed, Output as HeldOutput, Cells as HeldCells}
use Rattle.ecd_ceval.specs.declared.blocks.ByteWrite.{ByteWrite}
use Rattle.ecd_ceval.specs.declared.reason.Reason.{Reason}
use Rattle.ecd_ceval.specs.Outcomes.{number_of}
use Rattle.ecd_ceval.specs.Blocks.{memory_of, lasting_of, AreAllHeld}

-- no cell has this name
abbrev pub IsNoCell : Name → List CellInfo → Type 0
IsNoCell x [] = Unit {0}
IsNoCell x (i ∷ is) = (bytes_eq i.name x ≡ false) × IsNoCell x is

-- the first cell of this name stands at this place
abbrev pub IsFirstCell : Name → List CellInfo → ℕ → Type 0
IsFirstCell x [] at = ⊥
IsFirstCell x (i ∷ is) zero = bytes_eq i.name x ≡ true
IsFirstCell x (i ∷ is) (suc at) = (bytes_eq i.name x ≡ false) × IsFirstCell x is at

-- the write of a store, or the reason that there is none
abbrev pub stored_in : Option Block → ℕ → ℕ → ℕ → Result Event ℕ
stored_in (Some (Bytes bytes)) block at n = if nat_lt at (length bytes) then Ok (WritesByte block at (n % 256)) else Err 2
stored_in (Some (Cells cells)) block at n = Err 0
stored_in None block at n = Err 0

abbrev pub stored : Memory → Value → Value → Value → Result Event ℕ
stored m (Ptr block offset) (Num i) (Num n) = stored_in (slice_get m block) block (offset + i) n
stored m _ _ _ = Err 0

abbrev pub byte_outcome : Result ByteWrite Reason → Result Event ℕ
byte_outcome (Ok w) = Ok (WritesByte w.block w.at w.byte)
byte_outcome (Err r) = Err (number_of r)

-- the blocks after a write: the memory is as the write makes it, what lasts stays, and cells keep their kinds
pub record IsWritten (e : Event) (old new : List Held) : Type 0 where
  pub memory : memory_of new ≡ event e (memory_of old)
  pub lasting : map lasting_of new ≡ map lasting_of old
  pub kept : (structs : List StructDecl) → AreAllHeld structs old → AreAllHeld structs new

abbrev pub kind_holds : Memory → Option CellInfo → Cell → Bool
kind_holds m (Some i) c = may_hold m i.kind c
kind_holds m None c = false

abbrev pub MayWriteIn : Memory → Option Held → Name → Cell → ℕ → Type 0
MayWriteIn m (Some (HeldCells number declaration cells)) x to at = IsFirstCell x declaration.now.cells at × (kind_holds m (slice_get declaration.now.cells at) to ≡ true)
MayWriteIn m (Some (HeldFixed bytes)) x to at = ⊥
MayWriteIn m (Some (HeldOutput bytes)) x to at = ⊥
MayWriteIn m None x to at = ⊥

-- the cell of a name is at this place of a block, and may hold this
pub record MayWrite (blocks : List Held) (block : ℕ) (x : Name) (to : Cell) (at : ℕ) : Type 0 where
  pub may : MayWriteIn (memory_of blocks) (slice_get blocks block) x to at

-- ---- cells by their numbers

abbrev pub HasCellIn : Option Held → ℕ → Type 0
HasCellIn (Some (HeldCells number declaration cells)) cell = cell < length cells.items
HasCellIn (Some (HeldFixed bytes)) cell = ⊥
HasCellIn (Some (HeldOutput bytes)) cell = ⊥
HasCellIn None cell = ⊥

-- the block has a cell of this number
pub record HasCell (blocks : List Held) (block cell : ℕ) : Type 0 where
  pub has : HasCellIn (slice_get blocks block) cell

abbrev pub CellHoldsIn : Memory → Option Held → ℕ → Cell → Type 0
CellHoldsIn m (Some (HeldCells number declaration cells)) cell to = kind_holds m (slice_get declaration.now.cells cell) to ≡ true
CellHoldsIn m (Some (HeldFixed bytes)) cell to = ⊥
CellHoldsIn m (Some (HeldOutput bytes)) cell to = ⊥
CellHoldsIn m None cell to = ⊥

-- the cell of this number may hold this
pub record CellHolds (blocks : List Held) (block cell : ℕ) (to : Cell) : Type 0 where
  pub holds : CellHoldsIn (memory_of blocks) (slice_get blocks block) cell to
