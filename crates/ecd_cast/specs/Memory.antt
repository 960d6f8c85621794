-- Memory, and what a run does to it.
use Rattle.std.specs.Prelude.{ℕ, zero, suc, ◌+◌, Option, Some, if◌then◌else◌, bytes_eq, List, [], ◌∷◌, slice_get, slice_set, max, ◌-◌}
pub use Rattle.ecd_cast.specs.declared.value.Cell.{Cell}
pub use Rattle.ecd_cast.specs.declared.value.Cell.TheVariants.{Unset, Number as HoldsNumber, Bytes as HoldsPointer}
pub use Rattle.ecd_cast.specs.declared.value.Value.{Value}
pub use Rattle.ecd_cast.specs.declared.value.Value.TheVariants.{Number as Num, Truth, Bytes as Ptr, Struct as Str}

abbrev pub Name : Type 0
Name = List ℕ

-- a block is bytes, or the cells of one struct under their names
pub data Block : Type 0 where
  Bytes : List ℕ → Block
  Cells : List (Name × Cell) → Block

-- a memory is its blocks, numbered from 0
abbrev pub Memory : Type 0
Memory = List Block

-- What a run does, in order. A step is a statement that is begun or a turn of a loop; a call is entered and left.
pub data Event : Type 0 where
  Step : Event
  Enters : Event
  Leaves : Event
  WritesByte : (block offset byte : ℕ) → Event
  WritesCell : (block : ℕ) → Name → Cell → Event

abbrev pub with_cell : List (Name × Cell) → Name → Cell → List (Name × Cell)
with_cell [] x c = []
with_cell (w ∷ ws) x c = if bytes_eq w.0 x then (x, c) ∷ ws else w ∷ with_cell ws x c

abbrev pub with_byte_in : Option Block → ℕ → ℕ → Memory → ℕ → Memory
with_byte_in (Some (Bytes bytes)) offset byte m block = slice_set m block (Bytes (slice_set bytes offset byte))
with_byte_in _ offset byte m block = m

abbrev pub with_cell_in : Option Block → Name → Cell → Memory → ℕ → Memory
with_cell_in (Some (Cells cells)) x c m block = slice_set m block (Cells (with_cell cells x c))
with_cell_in _ x c m block = m

abbrev pub event : Event → Memory → Memory
event (WritesByte block offset byte) m = with_byte_in (slice_get m block) offset byte m block
event (WritesCell block x c) m = with_cell_in (slice_get m block) x c m block
event Step m = m
event Enters m = m
event Leaves m = m

-- the memory after these events
abbrev pub after : List Event → Memory → Memory
after [] m = m
after (e ∷ es) m = after es (event e m)

-- ---- what a list of events counts to

-- what was written, in order
abbrev pub writes_of : List Event → List Event
writes_of [] = []
writes_of (WritesByte block offset byte ∷ es) = WritesByte block offset byte ∷ writes_of es
writes_of (WritesCell block x c ∷ es) = WritesCell block x c ∷ writes_of es
writes_of (Step ∷ es) = writes_of es
writes_of (Enters ∷ es) = writes_of es
writes_of (Leaves ∷ es) = writes_of es

-- the number of steps
abbrev pub steps_of : List Event → ℕ
steps_of [] = 0
steps_of (Step ∷ es) = 1 + steps_of es
steps_of (WritesByte block offset byte ∷ es) = steps_of es
steps_of (WritesCell block x c ∷ es) = steps_of es
steps_of (Enters ∷ es) = steps_of es
steps_of (Leaves ∷ es) = steps_of es

-- the most calls that are active at once, where so many are active before
abbrev pub most_active : ℕ → List Event → ℕ
most_active now [] = now
most_active now (Enters ∷ es) = most_active (now + 1) es
most_active now (Leaves ∷ es) = max now (most_active (now - 1) es)
most_active now (Step ∷ es) = most_active now es
most_active now (WritesByte block offset byte ∷ es) = most_active now es
most_active now (WritesCell block x c ∷ es) = most_active now es

-- what is done in the first n steps
abbrev pub first_steps : ℕ → List Event → List Event
first_steps n [] = []
first_steps n (WritesByte block offset byte ∷ es) = WritesByte block offset byte ∷ first_steps n es
first_steps n (WritesCell block x c ∷ es) = WritesCell block x c ∷ first_steps n es
first_steps n (Enters ∷ es) = Enters ∷ first_steps n es
first_steps n (Leaves ∷ es) = Leaves ∷ first_steps n es
first_steps zero (Step ∷ es) = []
first_steps (suc n) (Step ∷ es) = Step ∷ first_steps n es
