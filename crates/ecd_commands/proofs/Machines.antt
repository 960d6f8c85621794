-- A reader that is called on a machine with the data and its struct.
use Rattle.std.proofs.Common.{◌≡◌, ℕ, ◌<◌, ◌⊎◌, inl, inr, true, List, [], ◌∷◌, length, refl, ap, sym, ◌∙◌, subst}
use Rattle.std.specs.Prelude.{Some, Result, Ok, Err, map, slice_get, bytes_eq, nat_le}
use Rattle.std.proofs.Math.Dec.{leb-zero}
use Rattle.std.proofs.lemmas.Option.{slice_get_within}
use Rattle.ecd_cast.specs.declared.tree.CellInfo.{CellInfo}
use Rattle.ecd_cast.specs.declared.tree.StructDecl.{StructDecl}
use Rattle.ecd_cast.specs.declared.tree.Program.{Program}
use Rattle.ecd_cast.specs.declared.value.Cell.{Cell}
use Rattle.ecd_cast.specs.declared.value.Value.{Value}
use Rattle.ecd_cast.specs.declared.value.Value.TheVariants.{Number as Num, Bytes as Ptr, Struct as Str}
use Rattle.ecd_cast.specs.Memory.{Name, Memory, Bytes, Cells, after, steps_of}
use Rattle.ecd_cast.specs.Meaning.{Run, Falls, Returns, Stuck as StuckRun, calls_of, events_of}
use Rattle.ecd_cast.specs.Validity.{IsValid, structs_of}
use Rattle.ecd_cast.specs.Fitting.{BlockKind, Fixed, CellsOf, Fits}
use Rattle.ecd_ceval.specs.declared.machine.Halt.{Halt}
use Rattle.ecd_ceval.specs.declared.machine.Halt.TheVariants as halt
use Rattle.ecd_ceval.specs.declared.machine.Block.{Block as Given}
use Rattle.ecd_ceval.specs.declared.machine.Block.TheVariants.{Cells as GivenCells}
use Rattle.ecd_ceval.specs.Blocks.{named}
use Rattle.ecd_ceval.specs.Machines.{Seen, Answers, Stays, AreNamed, IsOfCells, meaning, kind_given, block_given, unset_of}
use Rattle.ecd_ceval.proofs.Naming.{numbers_mean_names}
use Rattle.ecd_commands.specs.Outcomes.{OutOfMemory, Stuck, Spent}
use Rattle.ecd_commands.specs.Calls.{HasReader, IsReader, IsHalted, IsReturnText, memory_for, run_of, cells_in, result_text, outcome_of_halt}
use Rattle.ecd_commands.proofs.Calling.{struct_name}

abbrev pub kinds_for : ℕ → List BlockKind
kinds_for place = Fixed ∷ CellsOf place ∷ []

abbrev pub values_for : List ℕ → List Value
values_for input = Ptr 0 0 ∷ Num (length input) ∷ Str 1 ∷ []

-- the machine before the call
abbrev pub seen_for : Program → List ℕ → ℕ → List CellInfo → Seen
seen_for p input place infos = record { program = p; kinds = kinds_for place; memory = memory_for input infos }

pub struct_there : (p : Program) (name : Name) (number place : ℕ) (d : StructDecl) → IsReader p name number place d → place < length (structs_of p.items)
struct_there p name number place d r = slice_get_within (structs_of p.items) place d r.placed

pub has_reader : (p : Program) (name : Name) (number place : ℕ) (d : StructDecl) → IsReader p name number place d → HasReader p name d.cells
has_reader p name number place d r = record {
  number = number;
  function = r.function;
  stands = r.stands;
  is_named = r.is_named;
  takes = r.takes;
  declaration = d;
  declared = r.declared;
  cells = refl;
}

pub machine_for : (m : Seen) (p : Program) (blocks : List Given) (first : Given) (input : List ℕ) (place : ℕ) (d : StructDecl)
    → m ≡ record { program = p; kinds = map kind_given blocks; memory = map (block_given (structs_of p.items)) blocks } → blocks ≡ first ∷ GivenCells place ∷ []
    → kind_given first ≡ Fixed → block_given (structs_of p.items) first ≡ Bytes input → slice_get (structs_of p.items) place ≡ Some d
    → m ≡ seen_for p input place d.cells
machine_for m p blocks first input place d is are kind bytes placed =
    let cells : block_given (structs_of p.items) (GivenCells place) ≡ unset_of (Some d) = ap unset_of placed in
    is ∙ (λ i. record { program = p; kinds = map kind_given (are i); memory = map (block_given (structs_of p.items)) (are i) })
    ∙ (λ i. record { program = p; kinds = kind i ∷ CellsOf place ∷ []; memory = bytes i ∷ cells i ∷ [] })

-- the arguments fit
pub call_fits : (p : Program) (name : Name) (number place : ℕ) (d : StructDecl) (input : List ℕ) → IsReader p name number place d
    → Fits p.items (kinds_for place) (memory_for input d.cells) number (values_for input)
call_fits p name number place d input r =
    let same : bytes_eq d.name r.takes.struct_ ≡ true = struct_name (structs_of p.items) r.takes.struct_ d r.declared in
    let least : nat_le 0 (length input) ≡ true = leb-zero (length input) in
    rw (r.stands, r.takes.are, r.takes.reads, least, r.takes.counts, r.takes.fills, r.placed, same) refl

-- the function of the number does what its name means
pub call_means : (p : Program) (name : Name) (number place : ℕ) (d : StructDecl) (input : List ℕ) → IsValid p → IsReader p name number place d
    → meaning p.items number (values_for input) (memory_for input d.cells) ≡ run_of p name input d.cells
call_means p name number place d input valid r =
    let m : Memory = memory_for input d.cells in
    numbers_mean_names p number r.function (values_for input) m valid r.stands ∙ ap (λ (x : Name). calls_of p.items x (values_for input) m) r.is_named

-- ---- calls that halt

stuck_so : (p : Program) (name input : List ℕ) (infos : List CellInfo) (steps a b c : ℕ) (old new : Memory) (run : Run) → HasReader p name infos → run_of p name input infos ≡ run
    → Answers run (Some steps) (Err (halt.Stuck a b c)) old new → IsHalted p name input steps (Stuck a b c)
stuck_so p name input infos steps a b c old new (Returns n es) reader runs answers = absurd answers
stuck_so p name input infos steps a b c old new (Falls env es) reader runs answers = absurd answers
stuck_so p name input infos steps a b c old new (StuckRun r i s es) reader runs answers =
    let reasons : a ≡ r = answers.0 in
    let items : b ≡ i = answers.1 in
    let statements : c ≡ s = answers.2 in
    inr (inl record {
      infos = infos;
      reason = r;
      item = i;
      statement = s;
      events = es;
      runs = record { reader = reader; runs = runs };
      few = answers.3;
      is = λ j. Stuck (reasons j) (items j) (statements j);
    })

spent_parts : (steps k : ℕ) (old new : Memory) (run : Run) → Answers run (Some steps) (Err (halt.Spent k)) old new → (Some steps ≡ Some k) × (k < steps_of (events_of run))
spent_parts steps k old new (Returns n es) a = (a.0, a.1)
spent_parts steps k old new (Falls env es) a = (a.0, a.1)
spent_parts steps k old new (StuckRun r i s es) a = (a.0, a.1)

spent_so : (p : Program) (name input : List ℕ) (infos : List CellInfo) (steps k : ℕ) (old new : Memory) (run : Run) → HasReader p name infos → run_of p name input infos ≡ run
    → Answers run (Some steps) (Err (halt.Spent k)) old new → IsHalted p name input steps (Spent k)
spent_so p name input infos steps k old new run reader runs answers =
    let parts : (Some steps ≡ Some k) × (k < steps_of (events_of run)) = spent_parts steps k old new run answers in
    let limits : Some steps ≡ Some k = parts.0 in
    let same : steps ≡ k = cc in
    inr (inr record {
      infos = infos;
      run = run;
      runs = record { reader = reader; runs = runs };
      more = subst (λ (s : ℕ). s < steps_of (events_of run)) (sym same) parts.1;
      is = ap Spent (sym same);
    })

-- what a call of the reader answers, on the machine that is prepared for it
abbrev pub AnswersFor : List ℕ → ℕ → ℕ → Result ℕ Halt → Seen → Seen → Type 0
AnswersFor input number steps result old new = Answers (meaning old.program.items number (values_for input) old.memory) (Some steps) result old.memory new.memory

of_run : (p : Program) (name input : List ℕ) (number place : ℕ) (d : StructDecl) (steps : ℕ) (result : Result ℕ Halt) (old new : Seen) → IsValid p → IsReader p name number place d
    → old ≡ seen_for p input place d.cells → AnswersFor input number steps result old new
    → Answers (run_of p name input d.cells) (Some steps) result (memory_for input d.cells) new.memory
of_run p name input number place d steps result old new valid r is answers =
    subst (λ (run : Run). Answers run (Some steps) result (memory_for input d.cells) new.memory) (call_means p name number place d input valid r)
    (subst (λ (m : Seen). AnswersFor input number steps result m new) is answers)

-- a call that halts, unless memory was wanting
pub call_halts : (p : Program) (name input : List ℕ) (number place : ℕ) (d : StructDecl) (steps : ℕ) (h : Halt) (old new : Seen) → IsValid p → IsReader p name number place d
    → old ≡ seen_for p input place d.cells → AnswersFor input number steps (Err h) old new → (outcome_of_halt h ≡ OutOfMemory) ⊎ IsHalted p name input steps (outcome_of_halt h)
call_halts p name input number place d steps (halt.Stuck a b c) old new valid r is answers =
    inr (stuck_so p name input d.cells steps a b c (memory_for input d.cells) new.memory (run_of p name input d.cells) (has_reader p name number place d r) refl
    (of_run p name input number place d steps (Err (halt.Stuck a b c)) old new valid r is answers))
call_halts p name input number place d steps (halt.Spent k) old new valid r is answers =
    inr (spent_so p name input d.cells steps k (memory_for input d.cells) new.memory (run_of p name input d.cells) (has_reader p name number place d r) refl
    (of_run p name input number place d steps (Err (halt.Spent k)) old new valid r is answers))
call_halts p name input number place d steps (halt.OutOfMemory k) old new valid r is answers = inl refl

-- ---- calls that return

returned_so : (p : Program) (name input : List ℕ) (infos : List CellInfo) (steps k : ℕ) (new : Memory) (cells : List Cell) (text : List ℕ) (run : Run) → HasReader p name infos → run_of p name input infos ≡ run
    → Answers run (Some steps) (Ok k) (memory_for input infos) new → slice_get new 1 ≡ Some (Cells (named infos cells)) → text ≡ result_text k (named infos cells)
    → IsReturnText p name input steps text
returned_so p name input infos steps k new cells text (Falls env es) reader runs answers held is = absurd answers
returned_so p name input infos steps k new cells text (StuckRun r i s es) reader runs answers held is = absurd answers
returned_so p name input infos steps k new cells text (Returns n es) reader runs answers held is =
    let shown : cells_in (slice_get (after es (memory_for input infos)) 1) ≡ named infos cells = ap (λ (m : Memory). cells_in (slice_get m 1)) (sym answers.2) ∙ ap cells_in held in
    let numbers : k ≡ n = answers.0 in (
      record { infos = infos; number = n; events = es; runs = record { reader = reader; runs = runs }; few = answers.1 },
      is ∙ (λ i. result_text (numbers i) (sym shown i)),
    )

-- the block of the struct behind the call
cells_there : (p : Program) (input : List ℕ) (place : ℕ) (d : StructDecl) (old new : Seen) (cells : List Cell) → slice_get (structs_of p.items) place ≡ Some d → old ≡ seen_for p input place d.cells → Stays old new
    → AreNamed (structs_of new.program.items) (slice_get new.kinds 1) cells (slice_get new.memory 1) → slice_get new.memory 1 ≡ Some (Cells (named d.cells cells))
cells_there p input place d old new cells placed is stays are =
    let programs : new.program ≡ p = stays.program ∙ ap (λ (m : Seen). m.program) is in
    let kinds : new.kinds ≡ kinds_for place = stays.kinds ∙ ap (λ (m : Seen). m.kinds) is in
    let here : AreNamed (structs_of p.items) (slice_get (kinds_for place) 1) cells (slice_get new.memory 1) =
    subst (λ (ks : List BlockKind). AreNamed (structs_of p.items) (slice_get ks 1) cells (slice_get new.memory 1)) kinds
    (subst (λ (q : Program). AreNamed (structs_of q.items) (slice_get new.kinds 1) cells (slice_get new.memory 1)) programs are) in
    rw placed at here

pub block_of_cells : (p : Program) (input : List ℕ) (place : ℕ) (infos : List CellInfo) (old new : Seen) → old ≡ seen_for p input place infos → Stays old new → IsOfCells (slice_get new.kinds 1)
block_of_cells p input place infos old new is stays = subst (λ (ks : List BlockKind). IsOfCells (slice_get ks 1)) (sym (stays.kinds ∙ ap (λ (m : Seen). m.kinds) is)) tt

pub call_returns : (p : Program) (name input : List ℕ) (number place : ℕ) (d : StructDecl) (steps k : ℕ) (old new : Seen) (cells : List Cell) (text : List ℕ) → IsValid p → IsReader p name number place d
    → old ≡ seen_for p input place d.cells → AnswersFor input number steps (Ok k) old new → Stays old new
    → AreNamed (structs_of new.program.items) (slice_get new.kinds 1) cells (slice_get new.memory 1) → text ≡ result_text k (named d.cells cells) → IsReturnText p name input steps text
call_returns p name input number place d steps k old new cells text valid r is answers stays are text_is =
    returned_so p name input d.cells steps k new.memory cells text (run_of p name input d.cells) (has_reader p name number place d r) refl
    (of_run p name input number place d steps (Ok k) old new valid r is answers) (cells_there p input place d old new cells r.placed is stays are) text_is
