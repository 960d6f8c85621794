-- What each command comes to.
use Rattle.std.proofs.Common.{◌≡◌, ℕ, ◌⊎◌, ⊎_elim, inl, inr, List, [], ◌∷◌, refl}
use Rattle.std.specs.Prelude.{Some}
use Rattle.std.proofs.lemmas.Bool.{cases_eq}
use Rattle.ecd_cast.specs.declared.tree.Program.{Program}
use Rattle.ecd_cast.specs.Spelling.{IsSpelling}
use Rattle.ecd_cast.specs.Validity.{Fault, IsValid, IsFirstFault}
use Rattle.ecd_cgrammar.specs.Faults.{FaultAt}
use Rattle.ecd_judge.specs.declared.refusal.Refusal.{Refusal}
use Rattle.ecd_judge.specs.declared.refusal.Refusal.TheVariants as refusals
use Rattle.ecd_judge.specs.Request.{Request}
use Rattle.ecd_judge.specs.Schema.{IsTold}
use Rattle.ecd_compile.specs.Schema.{IsNumber, HasCause}
use Rattle.ecd_reader.specs.Takes.{BeginsWith}
use Rattle.ecd_schema_laws.specs.Laws.{IsOnlyCause}
use Rattle.ecd_schema_laws.proofs.Compiling.{schemas_are_compiled}
use Rattle.ecd_c_laws.proofs.Reading.{texts_are_judged}
use Rattle.ecd_commands.specs.Asked.{SchemaAsked, Asked, check, compile, read, write, copy, run, sample}
use Rattle.ecd_commands.specs.Files.{Wanted, files_of, AreRead, IsTooLarge, IsOneMissing}
use Rattle.ecd_commands.specs.Calls.{IsHalted, IsReturned, IsNotRun, IsRun}
use Rattle.ecd_commands.specs.Outcomes.{Outcome, NoEncoding, TooLarge, NoSpelling, BreaksC, NotBuilt}
use Rattle.ecd_commands.specs.Causes.{Made, Denied, Accepted, Makes, IsDecided, IsRefused, IsAnyNumber, request_for, outcome_of_refusal}
use Rattle.ecd_command_laws.specs.Laws.{CommandsEnd}
use Rattle.ecd_command_laws.proofs.Files.{Contents, looked}
use Rattle.ecd_command_laws.proofs.Readers.{halts_or_returns}

-- ---- schemas

abbrev pub Refuses : Request → Type 0
Refuses q = (outcome : Outcome) × IsDecided outcome × IsRefused q outcome

decided : (schema : List ℕ) (refusal : Refusal) → IsTold refusal → IsDecided (outcome_of_refusal schema refusal)
decided schema (refusals.NotUtf8 place) told = tt
decided schema (refusals.Lex place rule) told = tt
decided schema (refusals.Parse place rule) told = tt
decided schema (refusals.Name place rule) told = tt
decided schema refusals.NotBuilt told = tt
decided schema refusals.OutOfMemory told = absurd told

refused_or_number : (q : Request) → Refuses q ⊎ IsAnyNumber q
refused_or_number q =
    ⊎_elim
    (λ (is : (number : ℕ) × IsNumber q number × ((refusal : Refusal) → IsTold refusal → HasCause q refusal → ⊥)). inr (is.0, is.1))
    (λ (is : (refusal : Refusal) × IsOnlyCause HasCause q refusal × ((number : ℕ) → IsNumber q number → ⊥)).
    inl (outcome_of_refusal q.schema is.0, decided q.schema is.0 is.1.told, record { refusal = is.0; cause = is.1.has; names_cause = is.1.told; is = refl }))
    (schemas_are_compiled q)

-- ---- data

begins_or_not : (number : ℕ) (input : List ℕ) → BeginsWith number input ⊎ (BeginsWith number input → ⊥)
begins_or_not number [] = inr (λ e. e)
begins_or_not number (byte ∷ bytes) = cases_eq byte number

-- ---- what is made of contents

abbrev pub Comes : Asked → List (List ℕ) → Type 0
Comes asked found = ((outcome : Outcome) × IsDecided outcome × Makes asked found (Denied outcome)) ⊎ Makes asked found Accepted

checked : (s : SchemaAsked) (schema : List ℕ) → Comes (check s) (schema ∷ [])
checked s schema = refused_or_number (request_for schema s)

compiled : (s : SchemaAsked) (schema : List ℕ) → Comes (compile s) (schema ∷ [])
compiled s schema = refused_or_number (request_for schema s)

read_on : (s : SchemaAsked) (d schema input : List ℕ) → Comes (read s d) (schema ∷ input ∷ [])
read_on s d schema input =
    ⊎_elim
    (λ (is : Refuses (request_for schema s)). inl (is.0, is.1, inl is.2))
    (λ (is : IsAnyNumber (request_for schema s)). ⊎_elim
    (λ (begins : BeginsWith is.0 input). inr (is.0, is.1, begins))
    (λ (none : BeginsWith is.0 input → ⊥). inl (NoEncoding, tt, inr ((is.0, is.1, none), refl))) (begins_or_not is.0 input))
    (refused_or_number (request_for schema s))

run_on : (c f d : List ℕ) (steps : ℕ) (c_text input : List ℕ) → Comes (run c f d steps) (c_text ∷ input ∷ [])
run_on c f d steps c_text input =
    ⊎_elim
    (λ (good : (p : Program) × IsSpelling p c_text × IsValid p). ⊎_elim
    (λ (halts : (outcome : Outcome) × IsDecided outcome × IsHalted good.0 f input steps outcome).
    inl (halts.0, halts.1, inr (inr (good.0, record { spells = good.1; valid = good.2 }, halts.2))))
    (λ (returns : IsReturned good.0 f input steps). inr (good.0, record { spells = good.1; valid = good.2 }, returns)) (halts_or_returns good.0 f input steps good.2))
    (λ (bad : ((place : ℕ) × FaultAt c_text place) ⊎ ((p : Program) × (fault : Fault) × IsSpelling p c_text × IsFirstFault p fault)). ⊎_elim
    (λ (none : (place : ℕ) × FaultAt c_text place). inl (NoSpelling none.0, tt, inl (none.0, none.1, refl)))
    (λ (breaks : (p : Program) × (fault : Fault) × IsSpelling p c_text × IsFirstFault p fault).
    inl (BreaksC breaks.1.rule breaks.1.item breaks.1.statement, tt, inr (inl (breaks.0, breaks.1, breaks.2, breaks.3, refl)))) bad)
    (texts_are_judged c_text)

comes : (contents : Contents) (asked : Asked) (found : List (List ℕ)) → AreRead (Some contents) (files_of asked) found → Comes asked found
comes contents (check s) [] are = absurd are
comes contents (check s) (schema ∷ []) are = checked s schema
comes contents (check s) (schema ∷ more ∷ found) are = absurd are.1
comes contents (compile s) [] are = absurd are
comes contents (compile s) (schema ∷ []) are = compiled s schema
comes contents (compile s) (schema ∷ more ∷ found) are = absurd are.1
comes contents (read s d) [] are = absurd are
comes contents (read s d) (schema ∷ []) are = absurd are.1
comes contents (read s d) (schema ∷ input ∷ []) are = read_on s d schema input
comes contents (read s d) (schema ∷ input ∷ more ∷ found) are = absurd are.1.1
comes contents (write s v cap) found are = inl (NotBuilt, tt, refl)
comes contents (copy s d cap) found are = inl (NotBuilt, tt, refl)
comes contents (run c f d steps) [] are = absurd are
comes contents (run c f d steps) (c_text ∷ []) are = absurd are.1
comes contents (run c f d steps) (c_text ∷ input ∷ []) are = run_on c f d steps c_text input
comes contents (run c f d steps) (c_text ∷ input ∷ more ∷ found) are = absurd are.1.1
comes contents (sample n) found are = inl (NotBuilt, tt, refl)

-- ---- the law

pub commands_end : CommandsEnd
commands_end contents asked =
    ⊎_elim
    (λ (all : (found : List (List ℕ)) × AreRead (Some contents) (files_of asked) found). ⊎_elim
    (λ (denied : (outcome : Outcome) × IsDecided outcome × Makes asked all.0 (Denied outcome)).
    inr (inl (denied.0, denied.1, inr (record { contents = all.0; are_read = all.1; denied = denied.2 }))))
    (λ (accepted : Makes asked all.0 Accepted). inr (inr (record { contents = all.0; are_read = all.1; accepted = accepted }))) (comes contents asked all.0 all.1))
    (λ (other : ((name : List ℕ) × IsTooLarge (Some contents) (files_of asked) name) ⊎ IsOneMissing (Some contents) (files_of asked)). ⊎_elim
    (λ (large : (name : List ℕ) × IsTooLarge (Some contents) (files_of asked) name).
    inr (inl (TooLarge large.0, tt, inl (record { name = large.0; is = refl; large = large.1 }))))
    (λ (missing : IsOneMissing (Some contents) (files_of asked)). inl missing) other)
    (looked contents (files_of asked))
