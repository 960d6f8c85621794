-- What contracts see of a machine, and what its calls promise.
use Rattle.std.specs.Prelude.{ℕ, ◌+◌, ◌-◌, ◌≡◌, ◌≤◌, ◌<◌, min, List, [], ◌∷◌, map, take, drop, length, Option, Some, None, Result, Ok, Err, slice_get, slice_set, zero, suc, true}
use Rattle.ecd_cast.specs.declared.tree.CItem.{CItem}
use Rattle.ecd_cast.specs.declared.tree.CItem.TheVariants.{Struct as AStruct, Function as AFunction}
use Rattle.ecd_cast.specs.declared.tree.StructDecl.{StructDecl}
use Rattle.ecd_cast.specs.declared.tree.CellInfo.{CellInfo}
use Rattle.ecd_cast.specs.declared.tree.Program.{Program}
use Rattle.ecd_cast.specs.declared.value.Value.{Value}
use Rattle.ecd_cast.specs.declared.value.Value.TheVariants.{Number as Num, Bytes as Ptr, Struct as Str}
use Rattle.ecd_cast.specs.declared.value.Cell.{Cell}
use Rattle.ecd_cast.specs.declared.value.Cell.TheVariants.{Unset, Number as HoldsNumber, Bytes as HoldsPointer}
use Rattle.ecd_cast.specs.Memory.{Name, Memory, Block, Bytes, Cells, after, steps_of, first_steps}
use Rattle.ecd_cast.specs.Meaning.{Run, Falls, Returns, Stuck, calls_of, called, events_of}
use Rattle.ecd_cast.specs.Fitting.{BlockKind, Fixed, Output, CellsOf}
use Rattle.ecd_ceval.specs.declared.blocks.Held.{Held}
use Rattle.ecd_ceval.specs.Blocks.{named, block_of, kind_of, lasting_of, IsHeld, AreAllHeld}
use Rattle.ecd_ceval.specs.declared.state.State.{State}
use Rattle.ecd_ceval.specs.Following.{memory_in}
use Rattle.ecd_ceval.specs.Writes.{kind_holds}
use Rattle.ecd_ceval.specs.declared.machine.Block.{Block as Given}
use Rattle.ecd_ceval.specs.declared.machine.Block.TheVariants.{Fixed as GivenFixed, Output as GivenOutput, Cells as GivenCells}
use Rattle.ecd_ceval.specs.declared.meter.Meter.{Meter}
use Rattle.ecd_ceval.specs.declared.meter.Meter.TheVariants.{Left, Taken}
use Rattle.ecd_ceval.specs.declared.machine.Arg.{Arg}
use Rattle.ecd_ceval.specs.declared.machine.Arg.TheVariants.{Number as NumberArg, Bytes as BytesArg, Struct as StructArg}
use Rattle.ecd_ceval.specs.declared.machine.Halt.{Halt}
use Rattle.ecd_ceval.specs.declared.machine.Halt.TheVariants as halt

-- ---- what a machine is made with

abbrev pub value_of_arg : Arg → Value
value_of_arg (NumberArg n) = Num n
value_of_arg (BytesArg block offset) = Ptr block offset
value_of_arg (StructArg block) = Str block

abbrev pub kind_given : Given → BlockKind
kind_given (GivenFixed bytes) = Fixed
kind_given (GivenOutput bytes) = Output
kind_given (GivenCells number) = CellsOf number

-- the cells of a struct, all unset
abbrev pub unset : List CellInfo → List (Name × Cell)
unset infos = map (λ i. (i.name, Unset)) infos

abbrev pub unset_of : Option StructDecl → Block
unset_of (Some s) = Cells (unset s.cells)
unset_of None = Cells []

abbrev pub block_given : List StructDecl → Given → Block
block_given structs (GivenFixed bytes) = Bytes bytes.now
block_given structs (GivenOutput bytes) = Bytes bytes
block_given structs (GivenCells number) = unset_of (slice_get structs number)

-- the struct is one of the program
abbrev pub IsNumbered : List StructDecl → Given → Type 0
IsNumbered structs (GivenFixed bytes) = Unit {0}
IsNumbered structs (GivenOutput bytes) = Unit {0}
IsNumbered structs (GivenCells number) = number < length structs

abbrev pub AreNumbered : List StructDecl → List Given → Type 0
AreNumbered structs [] = Unit {0}
AreNumbered structs (b ∷ bs) = IsNumbered structs b × AreNumbered structs bs

-- a block is held as it was given
pub record IsHeldAs (structs : List StructDecl) (given : Given) (held : Held) : Type 0 where
  pub block : block_of held ≡ block_given structs given
  pub kind : kind_of held ≡ kind_given given
  pub holds : (m : Memory) → IsHeld structs m held

-- ---- calls

abbrev pub meaning_of : List CItem → ℕ → Option CItem → List Value → Memory → Run
meaning_of items number (Some (AFunction f)) vs m = called (calls_of (take number items)) number f vs m
meaning_of items number (Some (AStruct s)) vs m = Stuck 0 0 0 []
meaning_of items number None vs m = Stuck 0 0 0 []

-- What the function of an item number does. It calls the functions before it.
abbrev pub meaning : List CItem → ℕ → List Value → Memory → Run
meaning items number vs m = meaning_of items number (slice_get items number) vs m

-- the meter of a call that begins
abbrev pub started : Option ℕ → Meter
started (Some limit) = Left limit
started None = Taken 0

-- the steps that a meter has counted, from the limit that it began with
abbrev pub taken_by : Option ℕ → Meter → ℕ
taken_by (Some limit) (Left left) = limit - left
taken_by (Some limit) (Taken steps) = steps
taken_by None (Left left) = 0
taken_by None (Taken steps) = steps

-- a limit that 64 bits hold
abbrev pub IsSmall : Option ℕ → Type 0
IsSmall (Some limit) = limit ≤ 18446744073709551615
IsSmall None = Unit {0}

-- no limit, or no more steps than it
abbrev pub IsWithin : Option ℕ → ℕ → Type 0
IsWithin (Some limit) steps = steps ≤ limit
IsWithin None steps = Unit {0}

-- memory was wanting behind so many steps
pub record Wanted (run : Run) (limit : Option ℕ) (steps : ℕ) (old new : Memory) : Type 0 where
  pub taken : ℕ
  pub few : taken ≤ steps_of (events_of run)
  pub within : IsWithin limit taken
  pub counted : steps ≡ min taken 18446744073709551615
  pub memory : new ≡ after (first_steps taken (events_of run)) old

-- What a call answers where its function runs so, and what the memory is then.
abbrev pub Answers : Run → Option ℕ → Result ℕ Halt → Memory → Memory → Type 0
Answers (Returns n es) limit (Ok k) old new = (k ≡ n) × IsWithin limit (steps_of es) × (new ≡ after es old)
Answers (Stuck r i s es) limit (Ok k) old new = ⊥
Answers (Falls env es) limit (Ok k) old new = ⊥
Answers (Stuck r i s es) limit (Err (halt.Stuck a b c)) old new = (a ≡ r) × (b ≡ i) × (c ≡ s) × IsWithin limit (steps_of es) × (new ≡ after es old)
Answers (Returns n es) limit (Err (halt.Stuck a b c)) old new = ⊥
Answers (Falls env es) limit (Err (halt.Stuck a b c)) old new = ⊥
Answers run limit (Err (halt.Spent steps)) old new = (limit ≡ Some steps) × (steps < steps_of (events_of run)) × (new ≡ after (first_steps steps (events_of run)) old)
Answers run limit (Err (halt.OutOfMemory steps)) old new = Wanted run limit steps old new

-- a call of a function that runs so: its answer, and the state behind it
pub record Runs (run : Run) (limit : Option ℕ) (result : Result ℕ Halt) (old new : State) : Type 0 where
  pub answers : Answers run limit result (memory_in old) (memory_in new)
  pub lasting : map lasting_of new.blocks.items ≡ map lasting_of old.blocks.items
  pub kept : (structs : List StructDecl) → AreAllHeld structs old.blocks.items → AreAllHeld structs new.blocks.items

-- how many bytes a block has
abbrev pub bytes_in : Block → Option ℕ
bytes_in (Bytes bytes) = Some (length bytes)
bytes_in (Cells cells) = None

-- ---- a machine

pub record Seen : Type 0 where
  pub program : Program
  pub kinds : List BlockKind
  pub memory : Memory

-- what stays over a call: the program, what each block is for, the bytes of fixed blocks, the lengths of all
pub record Stays (old new : Seen) : Type 0 where
  pub program : new.program ≡ old.program
  pub kinds : new.kinds ≡ old.kinds
  pub fixed : (b : ℕ) → slice_get old.kinds b ≡ Some Fixed → slice_get new.memory b ≡ slice_get old.memory b
  pub lengths : map bytes_in new.memory ≡ map bytes_in old.memory

-- ---- cells and bytes

-- the block holds the cells of a struct
abbrev pub IsOfCells : Option BlockKind → Type 0
IsOfCells (Some (CellsOf number)) = Unit {0}
IsOfCells (Some Fixed) = ⊥
IsOfCells (Some Output) = ⊥
IsOfCells None = ⊥

-- what the cells of a block hold, in the order of their struct
abbrev pub cells_in : Option Block → List Cell
cells_in (Some (Cells cells)) = map (λ c. c.1) cells
cells_in (Some (Bytes bytes)) = []
cells_in None = []

abbrev pub AreNamedBy : Option StructDecl → List Cell → Option Block → Type 0
AreNamedBy (Some s) cells block = block ≡ Some (Cells (named s.cells cells))
AreNamedBy None cells block = ⊥

-- a block is these cells under the names of its struct's
abbrev pub AreNamed : List StructDecl → Option BlockKind → List Cell → Option Block → Type 0
AreNamed structs (Some (CellsOf number)) cells block = AreNamedBy (slice_get structs number) cells block
AreNamed structs (Some Fixed) cells block = ⊥
AreNamed structs (Some Output) cells block = ⊥
AreNamed structs None cells block = ⊥

abbrev pub info_in : Option StructDecl → ℕ → Option CellInfo
info_in (Some s) cell = slice_get s.cells cell
info_in None cell = None

-- the block has a cell of this number, which may hold this
abbrev pub MaySet : List StructDecl → Memory → Option BlockKind → ℕ → Cell → Type 0
MaySet structs m (Some (CellsOf number)) cell to = kind_holds m (info_in (slice_get structs number) cell) to ≡ true
MaySet structs m (Some Fixed) cell to = ⊥
MaySet structs m (Some Output) cell to = ⊥
MaySet structs m None cell to = ⊥

abbrev pub with_cell_at : List (Name × Cell) → ℕ → Cell → List (Name × Cell)
with_cell_at [] at to = []
with_cell_at (c ∷ cs) zero to = (c.0, to) ∷ cs
with_cell_at (c ∷ cs) (suc at) to = c ∷ with_cell_at cs at to

abbrev pub set_in : Option Block → ℕ → Cell → Memory → ℕ → Memory
set_in (Some (Cells cells)) cell to m block = slice_set m block (Cells (with_cell_at cells cell to))
set_in (Some (Bytes bytes)) cell to m block = m
set_in None cell to m block = m

abbrev pub bytes_of : Option Block → List ℕ
bytes_of (Some (Bytes bytes)) = bytes
bytes_of (Some (Cells cells)) = []
bytes_of None = []

-- the cell points into a fixed block, with so many bytes left
abbrev pub CanView : List BlockKind → Memory → Option Cell → ℕ → Type 0
CanView kinds m (Some (HoldsPointer block offset)) n = (slice_get kinds block ≡ Some Fixed) × (offset + n ≤ length (bytes_of (slice_get m block)))
CanView kinds m (Some (HoldsNumber k)) n = ⊥
CanView kinds m (Some Unset) n = ⊥
CanView kinds m None n = ⊥

-- the bytes there
abbrev pub viewed : Memory → Option Cell → ℕ → List ℕ
viewed m (Some (HoldsPointer block offset)) n = take n (drop offset (bytes_of (slice_get m block)))
viewed m (Some (HoldsNumber k)) n = []
viewed m (Some Unset) n = []
viewed m None n = []
