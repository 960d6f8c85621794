-- A C file's reader, called on data with a struct of unset cells.
use Rattle.std.specs.Prelude.{◌≡◌, ◌≤◌, ◌<◌, ◌⊎◌, ℕ, List, [], ◌∷◌, ◌++◌, length, map, flat_map, codes, decimal, slice_get, bytes_eq, if◌then◌else◌, Option, Some, None}
use Rattle.ecd_cast.specs.declared.tree.CellInfo.{CellInfo}
use Rattle.ecd_cast.specs.declared.tree.StructDecl.{StructDecl}
use Rattle.ecd_cast.specs.declared.tree.Function.{Function}
use Rattle.ecd_cast.specs.declared.tree.CItem.{CItem}
use Rattle.ecd_cast.specs.declared.tree.CItem.TheVariants.{Function as AFunction}
use Rattle.ecd_cast.specs.declared.tree.Program.{Program}
use Rattle.ecd_cast.specs.declared.value.Cell.{Cell}
use Rattle.ecd_cast.specs.declared.value.Cell.TheVariants.{Unset, Number as HoldsNumber, Bytes as HoldsPointer}
use Rattle.ecd_cast.specs.declared.value.Value.TheVariants.{Number as Num, Bytes as Ptr, Struct as Str}
use Rattle.ecd_cast.specs.Memory.{Name, Memory, Block, Bytes, Cells, Event, after, steps_of}
use Rattle.ecd_cast.specs.Meaning.{Run, Returns, Stuck as StuckRun, calls_of, events_of}
use Rattle.ecd_cast.specs.Validity.{Fault, IsValid, IsFirstFault, structs_of}
use Rattle.ecd_cbuild.specs.Lookup.{AreReaderParams}
use Rattle.ecd_cast.specs.declared.fault.CFault.{CFault}
use Rattle.ecd_cast.specs.declared.fault.CFault.TheVariants as faults
use Rattle.ecd_ceval.specs.declared.machine.Halt.{Halt}
use Rattle.ecd_ceval.specs.declared.machine.Halt.TheVariants as halts
use Rattle.ecd_cast.specs.Spelling.{IsSpelling}
use Rattle.ecd_cgrammar.specs.Faults.{FaultAt}
use Rattle.ecd_commands.specs.Outcomes.{Outcome, OutOfMemory, NoSpelling, BreaksC, Stuck, Spent, NoFunction}

-- the struct of a name
abbrev pub struct_named : List StructDecl → Name → Option StructDecl
struct_named [] x = None
struct_named (s ∷ ss) x = if bytes_eq s.name x then Some s else struct_named ss x

-- the program has a function of this name with a reader's parameters, and the struct that it takes has these cells
pub record HasReader (p : Program) (name : Name) (infos : List CellInfo) : Type 0 where
  pub number : ℕ
  pub function : Function
  pub stands : slice_get p.items number ≡ Some (AFunction function)
  pub is_named : function.name ≡ name
  pub takes : AreReaderParams function.params
  pub declaration : StructDecl
  pub declared : struct_named (structs_of p.items) takes.struct_ ≡ Some declaration
  pub cells : declaration.cells ≡ infos

-- a function of this number with a reader's parameters, and the name of the struct that it takes
pub record TakesStruct (items : List CItem) (number : ℕ) (s : Name) : Type 0 where
  pub function : Function
  pub stands : slice_get items number ≡ Some (AFunction function)
  pub takes : AreReaderParams function.params
  pub is : takes.struct_ ≡ s

-- no such function
abbrev pub TakesNone : List CItem → ℕ → Type 0
TakesNone items number = (f : Function) → slice_get items number ≡ Some (AFunction f) → AreReaderParams f.params → ⊥

-- the reader of this name: its number, and the number and the declaration of its struct
pub record IsReader (p : Program) (name : Name) (number place : ℕ) (declaration : StructDecl) : Type 0 where
  pub function : Function
  pub stands : slice_get p.items number ≡ Some (AFunction function)
  pub is_named : function.name ≡ name
  pub takes : AreReaderParams function.params
  pub declared : struct_named (structs_of p.items) takes.struct_ ≡ Some declaration
  pub placed : slice_get (structs_of p.items) place ≡ Some declaration

abbrev pub unset : CellInfo → Name × Cell
unset info = (info.name, Unset)

-- the data, and a struct of unset cells
abbrev pub memory_for : List ℕ → List CellInfo → Memory
memory_for input infos = Bytes input ∷ Cells (map unset infos) ∷ []

-- the reader, called with the data, their length and the struct
abbrev pub run_of : Program → Name → List ℕ → List CellInfo → Run
run_of p name input infos = calls_of p.items name (Ptr 0 0 ∷ Num (length input) ∷ Str 1 ∷ []) (memory_for input infos)

-- the program's reader of this name, called on the data, runs so
pub record Runs (p : Program) (name input : List ℕ) (infos : List CellInfo) (run : Run) : Type 0 where
  pub reader : HasReader p name infos
  pub runs : run_of p name input infos ≡ run

-- ---- calls that do not return

-- the program has no such reader
abbrev pub HasNoReader : Program → List ℕ → Outcome → Type 0
HasNoReader p name outcome = ((infos : List CellInfo) → HasReader p name infos → ⊥) × (outcome ≡ NoFunction name)

-- the run is stuck, in no more than so many steps
pub record IsStuckWithin (p : Program) (name input : List ℕ) (steps : ℕ) (outcome : Outcome) : Type 0 where
  pub infos : List CellInfo
  pub reason : ℕ
  pub item : ℕ
  pub statement : ℕ
  pub events : List Event
  pub runs : Runs p name input infos (StuckRun reason item statement events)
  pub few : steps_of events ≤ steps
  pub is : outcome ≡ Stuck reason item statement

-- the run takes more steps
pub record TakesMore (p : Program) (name input : List ℕ) (steps : ℕ) (outcome : Outcome) : Type 0 where
  pub infos : List CellInfo
  pub run : Run
  pub runs : Runs p name input infos run
  pub more : steps < steps_of (events_of run)
  pub is : outcome ≡ Spent steps

-- what a call that halts is answered by
abbrev pub outcome_of_halt : Halt → Outcome
outcome_of_halt (halts.Stuck reason item statement) = Stuck reason item statement
outcome_of_halt (halts.Spent steps) = Spent steps
outcome_of_halt (halts.OutOfMemory steps) = OutOfMemory

abbrev pub IsHalted : Program → List ℕ → List ℕ → ℕ → Outcome → Type 0
IsHalted p name input steps outcome = HasNoReader p name outcome ⊎ (IsStuckWithin p name input steps outcome ⊎ TakesMore p name input steps outcome)

-- ---- calls that return

-- the run returns a number within so many steps
pub record IsReturned (p : Program) (name input : List ℕ) (steps : ℕ) : Type 0 where
  pub infos : List CellInfo
  pub number : ℕ
  pub events : List Event
  pub runs : Runs p name input infos (Returns number events)
  pub few : steps_of events ≤ steps

abbrev pub held_text : Cell → List ℕ
held_text Unset = codes " unset\n"
held_text (HoldsNumber n) = codes " = " ++ (decimal n ++ codes "\n")
held_text (HoldsPointer block offset) = codes " = data+" ++ (decimal offset ++ codes "\n")

-- a line for a cell
abbrev pub cell_line : Name × Cell → List ℕ
cell_line c = c.0 ++ held_text c.1

abbrev pub cells_in : Option Block → List (Name × Cell)
cells_in (Some (Cells cells)) = cells
cells_in (Some (Bytes bytes)) = []
cells_in None = []

-- the number that is returned, and the struct's cells in order
abbrev pub result_text : ℕ → List (Name × Cell) → List ℕ
result_text n cells = codes "result " ++ (decimal n ++ (codes "\n" ++ flat_map cell_line cells))

abbrev pub text_of_return : (p : Program) (name input : List ℕ) (steps : ℕ) → IsReturned p name input steps → List ℕ
text_of_return p name input steps r = result_text r.number (cells_in (slice_get (after r.events (memory_for input r.infos)) 1))

abbrev pub IsReturnText : Program → List ℕ → List ℕ → ℕ → List ℕ → Type 0
IsReturnText p name input steps text = (r : IsReturned p name input steps) × (text ≡ text_of_return p name input steps r)

-- ---- C files

-- the text spells the valid program
pub record IsProgram (c_text : List ℕ) (p : Program) : Type 0 where
  pub spells : IsSpelling p c_text
  pub valid : IsValid p

-- the text is no spelling: its first place of fault
abbrev pub HasNoProgram : List ℕ → Outcome → Type 0
HasNoProgram c_text outcome = (place : ℕ) × FaultAt c_text place × (outcome ≡ NoSpelling place)

-- the program breaks a rule, this one first
abbrev pub BreaksRule : List ℕ → Outcome → Type 0
BreaksRule c_text outcome = (p : Program) × (fault : Fault) × IsSpelling p c_text × IsFirstFault p fault × (outcome ≡ BreaksC fault.rule fault.item fault.statement)

-- what the refusal of a C text is answered by
abbrev pub outcome_of_fault : CFault → Outcome
outcome_of_fault (faults.Text place) = NoSpelling place
outcome_of_fault (faults.Rule rule item statement) = BreaksC rule item statement
outcome_of_fault faults.OutOfMemory = OutOfMemory

-- the C text is refused, or the call does not return
abbrev pub IsNotRun : List ℕ → List ℕ → List ℕ → ℕ → Outcome → Type 0
IsNotRun c_text name input steps outcome = HasNoProgram c_text outcome ⊎ (BreaksRule c_text outcome ⊎ ((p : Program) × IsProgram c_text p × IsHalted p name input steps outcome))

abbrev pub IsRun : List ℕ → List ℕ → List ℕ → ℕ → Type 0
IsRun c_text name input steps = (p : Program) × IsProgram c_text p × IsReturned p name input steps

abbrev pub IsRunText : List ℕ → List ℕ → List ℕ → ℕ → List ℕ → Type 0
IsRunText c_text name input steps text = (p : Program) × IsProgram c_text p × IsReturnText p name input steps text
