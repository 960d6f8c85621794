-- Why a call ends as it does: what the words and the contents of their files make due.
use Rattle.std.specs.Prelude.{◌≡◌, ◌⊎◌, ◌+◌, ℕ, Bool, true, List, [], ◌∷◌, codes, Option, ⊤}
use Rattle.std.specs.Io.KnownBytes.{append_known}
use Rattle.ecd_outside.specs.Causes.{IsFaultFree, Rose}
use Rattle.ecd_outside.specs.Told.{Told, IsLonger, TakesExactly, MayFail, AppendsFront}
use Rattle.ecd_lex.specs.Places.{line_of as line_at, column_of as column_at}
use Rattle.ecd_judge.specs.declared.refusal.Refusal.{Refusal}
use Rattle.ecd_judge.specs.declared.refusal.Refusal.TheVariants as refusals
use Rattle.ecd_judge.specs.Request.{Request, request}
use Rattle.ecd_judge.specs.Schema.{IsTold}
use Rattle.ecd_compile.specs.Schema.{IsNumber, HasCause}
use Rattle.ecd_compile.specs.Reads.{IsCompiled}
use Rattle.ecd_cast.specs.declared.tree.Program.{Program}
use Rattle.ecd_reader.specs.Takes.{BeginsWith}
use Rattle.ecd_commands.specs.Asked.{SchemaAsked, Asked, check, compile, read, write, copy, run, sample}
use Rattle.ecd_commands.specs.Calls.{IsNotRun, IsRun, IsRunText}
use Rattle.ecd_commands.specs.Files.{Wanted, files_of, AreRead, IsTooLarge, IsOneMissing, TakesOneMore}
use Rattle.ecd_commands.specs.Outcomes.{Outcome, Done, NoEncoding, Broken, Usage, ReadFault, WriteFault, TooLarge, OutOfMemory, NoSpelling, BreaksC, Stuck, Spent, NoFunction, NotBuilt}
use Rattle.ecd_commands.specs.declared.status.Status.{Status}
use Rattle.ecd_commands.specs.declared.status.Status.TheVariants as statuses

-- ---- schemas

abbrev pub broken : List ℕ → ℕ → List ℕ → ℕ → Outcome
broken schema place letter number = Broken (line_at schema place) (column_at schema place) place (record { letter = letter; number = number })

-- what the refusal of a schema is answered by
abbrev pub outcome_of_refusal : List ℕ → Refusal → Outcome
outcome_of_refusal schema (refusals.NotUtf8 place) = broken schema place (codes "T") 0
outcome_of_refusal schema (refusals.Lex place rule) = broken schema place (codes "X") rule
outcome_of_refusal schema (refusals.Parse place rule) = broken schema place (codes "P") rule
outcome_of_refusal schema (refusals.Name place rule) = broken schema place (codes "N") rule
outcome_of_refusal schema refusals.NotBuilt = NotBuilt
outcome_of_refusal schema refusals.OutOfMemory = OutOfMemory

-- what is asked of these bytes of a schema
abbrev pub request_for : List ℕ → SchemaAsked → Request
request_for schema s = request schema s.root s.depth s.order

-- the schema is refused for this
pub record IsRefused (q : Request) (outcome : Outcome) : Type 0 where
  pub refusal : Refusal
  pub cause : HasCause q refusal
  pub names_cause : IsTold refusal
  pub is : outcome ≡ outcome_of_refusal q.schema refusal

-- the schema is compiled to the text
pub record IsCompiledTo (q : Request) (text : List ℕ) : Type 0 where
  pub program : Program
  pub compiled : IsCompiled q text program

-- ---- data: the schemas that are taken so far are one small number

abbrev pub IsAnyNumber : Request → Type 0
IsAnyNumber q = (number : ℕ) × IsNumber q number

abbrev pub BeginWithItem : Request → List ℕ → Type 0
BeginWithItem q input = (number : ℕ) × IsNumber q number × BeginsWith number input

abbrev pub BeginWithNone : Request → List ℕ → Type 0
BeginWithNone q input = (number : ℕ) × IsNumber q number × (BeginsWith number input → ⊥)

-- ---- commands over the contents of their files

abbrev pub OfOne : List (List ℕ) → (List ℕ → Type 0) → Type 0
OfOne (first ∷ []) P = P first
OfOne _ P = ⊥

abbrev pub OfTwo : List (List ℕ) → (List ℕ → List ℕ → Type 0) → Type 0
OfTwo (first ∷ second ∷ []) P = P first second
OfTwo _ P = ⊥

-- what a command makes of the contents of its files: a refusal, or what has a text, and that text
pub data Made : Type 0 where
  Denied : Outcome → Made
  Accepted : Made
  Text : (text : List ℕ) → Made

abbrev pub CheckMakes : Request → Made → Type 0
CheckMakes q (Denied outcome) = IsRefused q outcome
CheckMakes q Accepted = IsAnyNumber q
CheckMakes q (Text text) = IsAnyNumber q × (text ≡ codes "ok\n")

abbrev pub CompileMakes : Request → Made → Type 0
CompileMakes q (Denied outcome) = IsRefused q outcome
CompileMakes q Accepted = IsAnyNumber q
CompileMakes q (Text text) = IsCompiledTo q text

abbrev pub ReadMakes : Request → (input : List ℕ) → Made → Type 0
ReadMakes q input (Denied outcome) = IsRefused q outcome ⊎ (BeginWithNone q input × (outcome ≡ NoEncoding))
ReadMakes q input Accepted = BeginWithItem q input
ReadMakes q input (Text text) = BeginWithItem q input × (text ≡ codes "1 _\n")

abbrev pub RunMakes : (c_text name input : List ℕ) (steps : ℕ) → Made → Type 0
RunMakes c_text name input steps (Denied outcome) = IsNotRun c_text name input steps outcome
RunMakes c_text name input steps Accepted = IsRun c_text name input steps
RunMakes c_text name input steps (Text text) = IsRunText c_text name input steps text

-- a command that is not built
abbrev pub UnbuiltMakes : Made → Type 0
UnbuiltMakes (Denied outcome) = outcome ≡ NotBuilt
UnbuiltMakes Accepted = ⊥
UnbuiltMakes (Text text) = ⊥

-- this is made of what is asked for, over these contents
abbrev pub Makes : Asked → List (List ℕ) → Made → Type 0
Makes (check s) contents made = OfOne contents (λ schema. CheckMakes (request_for schema s) made)
Makes (compile s) contents made = OfOne contents (λ schema. CompileMakes (request_for schema s) made)
Makes (read s d) contents made = OfTwo contents (λ schema input. ReadMakes (request_for schema s) input made)
Makes (write s v cap) contents made = UnbuiltMakes made
Makes (copy s d cap) contents made = UnbuiltMakes made
Makes (run c f d steps) contents made = OfTwo contents (λ c_text input. RunMakes c_text f input steps made)
Makes (sample n) contents made = UnbuiltMakes made

-- a file is too large
pub record IsTooLargeFor (told : Told) (asked : Asked) (outcome : Outcome) : Type 0 where
  pub name : List ℕ
  pub is : outcome ≡ TooLarge name
  pub large : IsTooLarge told (files_of asked) name

-- the files are read, and what is asked for is refused
pub record IsDeniedFor (told : Told) (asked : Asked) (outcome : Outcome) : Type 0 where
  pub contents : List (List ℕ)
  pub are_read : AreRead told (files_of asked) contents
  pub denied : Makes asked contents (Denied outcome)

-- the words and the contents of their files ask for this refusal
abbrev pub IsDue : Told → Asked → Outcome → Type 0
IsDue told asked outcome = IsTooLargeFor told asked outcome ⊎ IsDeniedFor told asked outcome

-- the words and the contents of their files ask for this text
pub record IsText (told : Told) (asked : Asked) (text : List ℕ) : Type 0 where
  pub contents : List (List ℕ)
  pub are_read : AreRead told (files_of asked) contents
  pub is : Makes asked contents (Text text)

-- the words and the contents of their files ask for a text
pub record IsAcceptedFor (told : Told) (asked : Asked) : Type 0 where
  pub contents : List (List ℕ)
  pub are_read : AreRead told (files_of asked) contents
  pub accepted : Makes asked contents Accepted

-- a refusal that the words and the contents of their files decide
abbrev pub IsDecided : Outcome → Type 0
IsDecided Done = ⊥
IsDecided NoEncoding = ⊤
IsDecided (Broken line column place rule) = ⊤
IsDecided Usage = ⊥
IsDecided ReadFault = ⊥
IsDecided WriteFault = ⊥
IsDecided (TooLarge name) = ⊤
IsDecided OutOfMemory = ⊥
IsDecided (NoSpelling place) = ⊤
IsDecided (BreaksC rule item statement) = ⊤
IsDecided (Stuck reason item statement) = ⊤
IsDecided (Spent steps) = ⊤
IsDecided (NoFunction name) = ⊤
IsDecided NotBuilt = ⊤

-- reading may fail: the count of faults rose, or stands at its last value, or the first file that is not read is not there
abbrev pub MayFailToRead : Told → Asked → ℕ → ℕ → Type 0
MayFailToRead told asked before now = Rose before now ⊎ IsOneMissing told (files_of asked)

-- reading stopped at the file of the name, which is begun: one byte more was taken of it than it may have
abbrev pub StopsAt : Told → Asked → Bool → Option (List ℕ) → List ℕ → Type 0
StopsAt told asked begun left name = (begun ≡ true) × TakesOneMore told (files_of asked) left name

-- Why there is no text to write. The counts are those of the faults of files; a file is begun or not, with so much left.
pub record HasNoText (told : Told) (asked : Asked) (before now : ℕ) (begun : Bool) (left : Option (List ℕ)) (outcome : Outcome) : Type 0 where
  pub not_done : outcome ≡ Done → ⊥
  pub not_usage : outcome ≡ Usage → ⊥
  pub not_write : outcome ≡ WriteFault → ⊥
  pub fault : outcome ≡ ReadFault → MayFailToRead told asked before now
  pub due : IsDecided outcome → IsDue told asked outcome
  pub stops : (name : List ℕ) → outcome ≡ TooLarge name → StopsAt told asked begun left name

-- a file is longer than it may be: it is begun, and one byte more was taken of it
pub record IsOverLimit (told : Told) (file : Wanted) (begun : Bool) (left : Option (List ℕ)) : Type 0 where
  pub longer : IsLonger told file.name file.limit
  pub is_begun : begun ≡ true
  pub taken : TakesExactly told file.name left (file.limit + 1)

-- Why a file is not read. The counts are those of the faults of files; a file is begun or not, with so much left.
abbrev pub IsUnread : Told → Wanted → ℕ → ℕ → Bool → Option (List ℕ) → Outcome → Type 0
IsUnread told file before now begun left outcome =
    (outcome ≡ OutOfMemory) ⊎ (((outcome ≡ ReadFault) × MayFail told file.name before now) ⊎ ((outcome ≡ TooLarge file.name) × IsOverLimit told file begun left))

-- want of memory, or the schema is refused
abbrev pub IsRefusedOrWants : Request → Outcome → Type 0
IsRefusedOrWants q outcome = (outcome ≡ OutOfMemory) ⊎ IsRefused q outcome

-- ---- what is written

-- a status that writes to the output: the text was written, or a fault came while it was
abbrev pub MayWrite : Status → Type 0
MayWrite statuses.Done = ⊤
MayWrite statuses.WriteFault = ⊤
MayWrite status = ⊥

-- such a text was written
pub record Writes (told : Told) (asked : Asked) (before now : Option (List ℕ)) : Type 0 where
  pub text : List ℕ
  pub is_text : IsText told asked text
  pub appended : now ≡ append_known before text

-- a front of such a text was written
pub record WritesFront (told : Told) (asked : Asked) (before now : Option (List ℕ)) : Type 0 where
  pub text : List ℕ
  pub is_text : IsText told asked text
  pub front : AppendsFront before text now

-- a line was written, or a front of it where the count of faults rose or stands at its last value
pub record TellsLine (line : List ℕ) (before now : Option (List ℕ)) (faults_before faults_now : ℕ) : Type 0 where
  pub front : AppendsFront before line now
  pub whole : IsFaultFree faults_before faults_now → now ≡ append_known before line
