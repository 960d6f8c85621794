-- Numbers below 2^64 and bytes below 256, in values, in memories and in what runs do.
use Rattle.std.specs.Prelude.{ℕ, ◌<◌, ◌^◌, List, take}
use Rattle.std.specs.List.{All}
use Rattle.ecd_cast.specs.declared.tree.Program.{Program}
use Rattle.ecd_cast.specs.declared.value.Cell.{Cell}
use Rattle.ecd_cast.specs.declared.value.Cell.TheVariants.{Unset, Number as HoldsNumber, Bytes as HoldsPointer}
use Rattle.ecd_cast.specs.declared.value.Value.{Value}
use Rattle.ecd_cast.specs.declared.value.Value.TheVariants.{Number as Num, Truth, Bytes as Ptr, Struct as Str}
use Rattle.ecd_cast.specs.Memory.{Name, Memory, Block, Bytes, Cells, Event, Step, Enters, Leaves, WritesByte, WritesCell, after}
use Rattle.ecd_cast.specs.Meaning.{Run, Falls, Returns, Stuck, events_of, calls_of}
use Rattle.ecd_cast.specs.Spelling.{IsSpelledProgram}

-- what a uint64_t holds
abbrev pub IsNumber : ℕ → Type 0
IsNumber n = n < 2 ^ 64

-- what a uint8_t holds
abbrev pub IsByte : ℕ → Type 0
IsByte b = b < 256

-- ---- values and memories

abbrev pub IsValueInRange : Value → Type 0
IsValueInRange (Num n) = IsNumber n
IsValueInRange (Truth b) = Unit {0}
IsValueInRange (Ptr block offset) = Unit {0}
IsValueInRange (Str block) = Unit {0}

abbrev pub IsCellInRange : Cell → Type 0
IsCellInRange Unset = Unit {0}
IsCellInRange (HoldsNumber n) = IsNumber n
IsCellInRange (HoldsPointer block offset) = Unit {0}

abbrev pub IsBlockInRange : Block → Type 0
IsBlockInRange (Bytes bytes) = All IsByte bytes
IsBlockInRange (Cells cells) = All (λ c. IsCellInRange c.1) cells

abbrev pub IsMemoryInRange : Memory → Type 0
IsMemoryInRange m = All IsBlockInRange m

-- ---- runs

-- what is written is in range
abbrev pub IsEventInRange : Event → Type 0
IsEventInRange (WritesByte block offset byte) = IsByte byte
IsEventInRange (WritesCell block name cell) = IsCellInRange cell
IsEventInRange Step = Unit {0}
IsEventInRange Enters = Unit {0}
IsEventInRange Leaves = Unit {0}

-- the run returns a number in range, or is stuck
abbrev pub EndsInRange : Run → Type 0
EndsInRange (Falls env es) = ⊥
EndsInRange (Returns n es) = IsNumber n
EndsInRange (Stuck reason item statement es) = Unit {0}

-- a run that ends in range and writes in range, and whose memory is in range after each first part of what it does
pub record IsRunInRange (m : Memory) (r : Run) : Type 0 where
  pub ends : EndsInRange r
  pub writes : All IsEventInRange (events_of r)
  pub keeps : (n : ℕ) → IsMemoryInRange (after (take n (events_of r)) m)

-- the call of a function of a program that has a spelling, with arguments in range and in a memory in range, stuck or not
abbrev pub CallsInRange : Type 0
CallsInRange =
    (p : Program) (g : Name) (vs : List Value) (m : Memory) → IsSpelledProgram p → All IsValueInRange vs → IsMemoryInRange m → IsRunInRange m (calls_of p.items g vs m)
