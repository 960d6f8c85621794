-- How a call can end, with the status and the line on standard error that go with it.
use Rattle.std.specs.Prelude.{ℕ, List, [], ◌++◌, codes, decimal}
use Rattle.ecd_commands.specs.declared.status.Status.{Status}
use Rattle.ecd_commands.specs.declared.status.Status.TheVariants as statuses

-- the name of a rule of schemas: a letter and a number
pub record RuleName : Type 0 where
  pub letter : List ℕ
  pub number : ℕ

pub data Outcome : Type 0 where
  Done : Outcome
  -- the data begins with no item of the root
  NoEncoding : Outcome
  -- a rule of schemas is broken at a place
  Broken : (line column place : ℕ) → RuleName → Outcome
  Usage : Outcome
  ReadFault : Outcome
  WriteFault : Outcome
  -- the file of that name is longer than its limit
  TooLarge : (name : List ℕ) → Outcome
  OutOfMemory : Outcome
  -- the C file is no spelling: the first place of fault
  NoSpelling : (place : ℕ) → Outcome
  -- a rule of the C subset is broken in a statement of an item
  BreaksC : (rule item statement : ℕ) → Outcome
  -- the run is stuck at a statement of an item
  Stuck : (reason item statement : ℕ) → Outcome
  -- the run takes more steps than it may
  Spent : (steps : ℕ) → Outcome
  -- the C file has no function of that name with a reader's parameters
  NoFunction : (name : List ℕ) → Outcome
  NotBuilt : Outcome

abbrev pub status_of : Outcome → Status
status_of Done = statuses.Done
status_of NoEncoding = statuses.Refused
status_of (Broken line column place rule) = statuses.Schema
status_of Usage = statuses.Usage
status_of ReadFault = statuses.ReadFault
status_of WriteFault = statuses.WriteFault
status_of (TooLarge name) = statuses.TooLarge
status_of OutOfMemory = statuses.OutOfMemory
status_of (NoSpelling place) = statuses.CFile
status_of (BreaksC rule item statement) = statuses.CFile
status_of (Stuck reason item statement) = statuses.Stuck
status_of (Spent steps) = statuses.Spent
status_of (NoFunction name) = statuses.NoFunction
status_of NotBuilt = statuses.NotBuilt

-- the line on standard error
abbrev pub line_of : Outcome → List ℕ
line_of Done = []
line_of NoEncoding = codes "refused: no encoding\n"
line_of (Broken line column place rule) =
    codes "schema " ++ (decimal line ++ (codes ":" ++ (decimal column ++ (codes " byte " ++ (decimal place ++ (codes " rule " ++ (rule.letter ++ (decimal rule.number ++ codes "\n"))))))))
line_of Usage = codes "usage: check, compile, read, write, copy, run, sample\n"
line_of ReadFault = codes "read fault\n"
line_of WriteFault = codes "write fault\n"
line_of (TooLarge name) = codes "too large: " ++ name ++ codes "\n"
line_of OutOfMemory = codes "out of memory\n"
line_of (NoSpelling place) = codes "c file rule C0 byte " ++ (decimal place ++ codes "\n")
line_of (BreaksC rule item statement) = codes "c file rule C" ++ (decimal rule ++ (codes " item " ++ (decimal item ++ (codes " statement " ++ (decimal statement ++ codes "\n")))))
line_of (Stuck reason item statement) = codes "stuck " ++ (decimal reason ++ (codes " item " ++ (decimal item ++ (codes " statement " ++ (decimal statement ++ codes "\n")))))
line_of (Spent steps) = codes "spent " ++ (decimal steps ++ codes "\n")
line_of (NoFunction name) = codes "no function " ++ name ++ codes "\n"
line_of NotBuilt = codes "not built\n"

-- the number of a status is its place in the list, from 0
abbrev pub number_of : Status → ℕ
number_of statuses.Done = 0
number_of statuses.Refused = 1
number_of statuses.Schema = 2
number_of statuses.Usage = 3
number_of statuses.ReadFault = 4
number_of statuses.WriteFault = 5
number_of statuses.TooLarge = 6
number_of statuses.OutOfMemory = 7
number_of statuses.CFile = 8
number_of statuses.Stuck = 9
number_of statuses.Spent = 10
number_of statuses.Notation = 11
number_of statuses.NoFunction = 12
number_of statuses.NotBuilt = 13
