-- What an answer of the code stands for.
use Rattle.std.specs.Prelude.{ℕ, List, string_bytes}
use Rattle.ecd_commands.specs.Outcomes.{Outcome, Done, NoEncoding, Broken, Usage, ReadFault, WriteFault, TooLarge, OutOfMemory, NoSpelling, BreaksC, Stuck, Spent, NoFunction, NotBuilt}
use Rattle.ecd_commands.specs.declared.answer.Answer.{Answer}
use Rattle.ecd_commands.specs.declared.answer.Answer.TheVariants as answers
use Rattle.ecd_commands.specs.declared.answer.Line.{Line}
use Rattle.ecd_commands.specs.declared.answer.Line.TheVariants as lines

abbrev pub outcome_of : Answer → Outcome
outcome_of answers.Done = Done
outcome_of answers.NoEncoding = NoEncoding
outcome_of (answers.Broken line column place letter rule) = Broken line column place (record { letter = letter.now; number = rule })
outcome_of answers.Usage = Usage
outcome_of answers.ReadFault = ReadFault
outcome_of answers.WriteFault = WriteFault
outcome_of (answers.TooLarge name) = TooLarge name.now
outcome_of answers.OutOfMemory = OutOfMemory
outcome_of (answers.NoSpelling place) = NoSpelling place
outcome_of (answers.BreaksC rule item statement) = BreaksC rule item statement
outcome_of (answers.Stuck reason item statement) = Stuck reason item statement
outcome_of (answers.Spent steps) = Spent steps
outcome_of (answers.NoFunction name) = NoFunction name.now
outcome_of answers.NotBuilt = NotBuilt

abbrev pub bytes_in : Line → List ℕ
bytes_in (lines.Fixed text) = text.now
bytes_in (lines.Made text) = string_bytes text

-- an outcome whose line says more than its status
abbrev pub HasDetail : Outcome → Type 0
HasDetail Done = ⊥
HasDetail NoEncoding = ⊥
HasDetail (Broken line column place rule) = Unit {0}
HasDetail Usage = ⊥
HasDetail ReadFault = ⊥
HasDetail WriteFault = ⊥
HasDetail (TooLarge name) = Unit {0}
HasDetail OutOfMemory = ⊥
HasDetail (NoSpelling place) = Unit {0}
HasDetail (BreaksC rule item statement) = Unit {0}
HasDetail (Stuck reason item statement) = Unit {0}
HasDetail (Spent steps) = Unit {0}
HasDetail (NoFunction name) = Unit {0}
HasDetail NotBuilt = ⊥
