-- A C file's reader over data does one thing.
use Rattle.std.proofs.Common.{◌≡◌, ℕ, zero, suc, ◌+◌, ◌-◌, ◌<◌, ◌≤◌, ◌⊎◌, ⊎_elim, inl, inr, Bool, true, false, List, [], ◌∷◌, drop, arith, refl, ap, sym, ◌∙◌, subst}
use Rattle.std.specs.Prelude.{Some, None, Result, Err, slice_get, bytes_eq, if◌then◌else◌}
use Rattle.std.proofs.lemmas.Bool.{cases_lt}
use Rattle.std.proofs.lemmas.Slice.Eq.{bytes_eq-Decides}
use Rattle.ecd_cast.specs.declared.tree.Param.{Param}
use Rattle.ecd_cast.specs.declared.tree.ParamKind.TheVariants.{Struct as StructParam}
use Rattle.ecd_cast.specs.declared.tree.CellInfo.{CellInfo}
use Rattle.ecd_cast.specs.declared.tree.StructDecl.{StructDecl}
use Rattle.ecd_cast.specs.declared.tree.Function.{Function}
use Rattle.ecd_cast.specs.declared.tree.CItem.{CItem}
use Rattle.ecd_cast.specs.declared.tree.CItem.TheVariants.{Struct as AStruct, Function as AFunction}
use Rattle.ecd_cast.specs.declared.tree.Program.{Program}
use Rattle.ecd_cast.specs.Memory.{Name, steps_of}
use Rattle.ecd_cast.specs.Meaning.{Run, Returns, Stuck as StuckRun, events_of}
use Rattle.ecd_cast.specs.Kept.{IsNew}
use Rattle.ecd_cast.specs.Validity.{Fault, IsValid, IsFirstFault, structs_of, faults_from}
use Rattle.ecd_cast.proofs.Kept.{get_drop}
use Rattle.ecd_cbuild.specs.Lookup.{AreReaderParams, IsFunctionAt}
use Rattle.ecd_cast.proofs.Verdicts.{first_fault}
use Rattle.ecd_ceval.proofs.Naming.{behind_it}
use Rattle.ecd_cast.specs.Spelling.{IsSpelling}
use Rattle.ecd_cgrammar.specs.Faults.{FaultAt}
use Rattle.ecd_cgrammar.proofs.Verdicts.{one_fault, no_fault, one_program}
use Rattle.ecd_cast.specs.declared.fault.CFault.{CFault}
use Rattle.ecd_cast.specs.declared.fault.CFault.TheVariants as faults
use Rattle.ecd_cread.specs.Answers.{Breaks}
use Rattle.ecd_commands.specs.Outcomes.{Outcome, OutOfMemory, NoSpelling, BreaksC, Stuck}
use Rattle.ecd_commands.specs.Calls.{struct_named, HasReader, TakesStruct, TakesNone, IsReader, run_of, Runs, IsStuckWithin, TakesMore, IsHalted, IsReturned, IsProgram, HasNoProgram, BreaksRule, IsNotRun, IsRun, outcome_of_fault}

-- ---- names of functions

-- no function of a new name
pub new_or_there : (items : List CItem) (number : ℕ) (f : Function) (g : Name) → IsNew g items → slice_get items number ≡ Some (AFunction f) → f.name ≡ g → ⊥
new_or_there [] zero f g new e named = cc
new_or_there [] (suc n) f g new e named = cc
new_or_there (AStruct s ∷ is) zero f g new e named = cc
new_or_there (AStruct s ∷ is) (suc n) f g new e named = new_or_there is n f g new e named
new_or_there (AFunction h ∷ is) zero f g new e named =
    let same : h ≡ f = cc in
    let name : h.name ≡ g = ap (λ (k : Function). k.name) same ∙ named in
    let yes : bytes_eq h.name g ≡ true = (bytes_eq-Decides h.name g).1 name in
    let both : false ≡ true = sym new.0 ∙ yes in
    cc
new_or_there (AFunction h ∷ is) (suc n) f g new e named = new_or_there is n f g new.1 e named

not_behind : (items : List CItem) (i j : ℕ) (f g : Function) → faults_from [] items 0 ≡ [] → slice_get items i ≡ Some (AFunction f) → slice_get items j ≡ Some (AFunction g) → f.name ≡ g.name → i < j → ⊥
not_behind items i j f g sound a b e lt =
    let new : IsNew f.name (drop (suc i) items) = behind_it [] items 0 i f sound a in
    let place : suc i + (j - suc i) ≡ j = omega (arith, lt) in
    let there : slice_get (drop (suc i) items) (j - suc i) ≡ Some (AFunction g) = get_drop (suc i) (j - suc i) items ∙ (ap (slice_get items) place ∙ b) in
    new_or_there (drop (suc i) items) (j - suc i) g f.name new there (sym e)

-- two functions of one name are one
pub one_function : (items : List CItem) (i j : ℕ) (f g : Function) → faults_from [] items 0 ≡ [] → slice_get items i ≡ Some (AFunction f) → slice_get items j ≡ Some (AFunction g) → f.name ≡ g.name → f ≡ g
one_function items i j f g sound a b e =
    ⊎_elim
    (λ (lt : i < j). absurd (not_behind items i j f g sound a b e lt))
    (λ (le : j ≤ i). ⊎_elim (λ (gt : j < i). absurd (not_behind items j i g f sound b a (sym e) gt)) (λ (ge : i ≤ j).
    let place : i ≡ j = omega (arith, le, ge) in
    let both : Some (AFunction f) ≡ Some (AFunction g) = sym a ∙ (ap (slice_get items) place ∙ b) in
    cc) (cases_lt j i))
    (cases_lt i j)

-- ---- one reader, and one run of it

same_struct : (ps qs : List Param) (a : AreReaderParams ps) (b : AreReaderParams qs) → ps ≡ qs → a.struct_ ≡ b.struct_
same_struct ps qs a b e =
    let lists : a.buffer ∷ a.length_ ∷ a.cells ∷ [] ≡ b.buffer ∷ b.length_ ∷ b.cells ∷ [] = sym a.are ∙ e ∙ b.are in
    let cells : a.cells ≡ b.cells = cc in
    let kinds : StructParam a.struct_ ≡ StructParam b.struct_ = sym a.fills ∙ ap (λ (q : Param). q.kind) cells ∙ b.fills in
    cc

same_cells : (p : Program) (name : Name) (i j : List CellInfo) → IsValid p → HasReader p name i → HasReader p name j → i ≡ j
same_cells p name i j valid a b =
    let function : a.function ≡ b.function = one_function p.items a.number b.number a.function b.function valid.sound a.stands b.stands (a.is_named ∙ sym b.is_named) in
    let struct : a.takes.struct_ ≡ b.takes.struct_ = same_struct a.function.params b.function.params a.takes b.takes (ap (λ (f : Function). f.params) function) in
    let both : Some a.declaration ≡ Some b.declaration = sym a.declared ∙ ap (struct_named (structs_of p.items)) struct ∙ b.declared in
    let declaration : a.declaration ≡ b.declaration = cc in
    sym a.cells ∙ ap (λ (s : StructDecl). s.cells) declaration ∙ b.cells

runs_once : (p : Program) (name input : List ℕ) (i j : List CellInfo) (r s : Run) → IsValid p → Runs p name input i r → Runs p name input j s → r ≡ s
runs_once p name input i j r s valid a b =
    let cells : i ≡ j = same_cells p name i j valid a.reader b.reader in
    sym a.runs ∙ ap (run_of p name input) cells ∙ b.runs

stuck_once : (p : Program) (name input : List ℕ) (steps : ℕ) (o q : Outcome) → IsValid p → IsStuckWithin p name input steps o → IsStuckWithin p name input steps q → o ≡ q
stuck_once p name input steps o q valid a b =
    let runs : StuckRun a.reason a.item a.statement a.events ≡ StuckRun b.reason b.item b.statement b.events =
    runs_once p name input a.infos b.infos (StuckRun a.reason a.item a.statement a.events) (StuckRun b.reason b.item b.statement b.events) valid a.runs b.runs in
    let reasons : a.reason ≡ b.reason = cc in
    let items : a.item ≡ b.item = cc in
    let statements : a.statement ≡ b.statement = cc in
    a.is ∙ (λ i. Stuck (reasons i) (items i) (statements i)) ∙ sym b.is

stuck_or_more : (p : Program) (name input : List ℕ) (steps : ℕ) (o q : Outcome) → IsValid p → IsStuckWithin p name input steps o → TakesMore p name input steps q → ⊥
stuck_or_more p name input steps o q valid a b =
    let runs : StuckRun a.reason a.item a.statement a.events ≡ b.run = runs_once p name input a.infos b.infos (StuckRun a.reason a.item a.statement a.events) b.run valid a.runs b.runs in
    let same : steps_of a.events ≡ steps_of (events_of b.run) = ap (λ (r : Run). steps_of (events_of r)) runs in
    omega (arith, a.few, b.more, same)

halted_once : (p : Program) (name input : List ℕ) (steps : ℕ) (o q : Outcome) → IsValid p → IsHalted p name input steps o → IsHalted p name input steps q → o ≡ q
halted_once p name input steps o q valid (inl a) (inl b) = a.1 ∙ sym b.1
halted_once p name input steps o q valid (inl a) (inr (inl b)) = absurd (a.0 b.infos b.runs.reader)
halted_once p name input steps o q valid (inl a) (inr (inr b)) = absurd (a.0 b.infos b.runs.reader)
halted_once p name input steps o q valid (inr (inl a)) (inl b) = absurd (b.0 a.infos a.runs.reader)
halted_once p name input steps o q valid (inr (inl a)) (inr (inl b)) = stuck_once p name input steps o q valid a b
halted_once p name input steps o q valid (inr (inl a)) (inr (inr b)) = absurd (stuck_or_more p name input steps o q valid a b)
halted_once p name input steps o q valid (inr (inr a)) (inl b) = absurd (b.0 a.infos a.runs.reader)
halted_once p name input steps o q valid (inr (inr a)) (inr (inl b)) = absurd (stuck_or_more p name input steps q o valid b a)
halted_once p name input steps o q valid (inr (inr a)) (inr (inr b)) = a.is ∙ sym b.is

halted_or_returned : (p : Program) (name input : List ℕ) (steps : ℕ) (o : Outcome) → IsValid p → IsHalted p name input steps o → IsReturned p name input steps → ⊥
halted_or_returned p name input steps o valid (inl a) b = a.0 b.infos b.runs.reader
halted_or_returned p name input steps o valid (inr (inl a)) b =
    let runs : StuckRun a.reason a.item a.statement a.events ≡ Returns b.number b.events =
    runs_once p name input a.infos b.infos (StuckRun a.reason a.item a.statement a.events) (Returns b.number b.events) valid a.runs b.runs in
    cc
halted_or_returned p name input steps o valid (inr (inr a)) b =
    let runs : a.run ≡ Returns b.number b.events = runs_once p name input a.infos b.infos a.run (Returns b.number b.events) valid a.runs b.runs in
    let same : steps_of (events_of a.run) ≡ steps_of b.events = ap (λ (r : Run). steps_of (events_of r)) runs in
    omega (arith, a.more, b.few, same)

-- ---- C files

text_or_program : (c_text : List ℕ) (o : Outcome) (p : Program) → HasNoProgram c_text o → IsSpelling p c_text → ⊥
text_or_program c_text o p a s = no_fault p c_text a.0 s a.1

rule_or_valid : (c_text : List ℕ) (o : Outcome) (p : Program) → BreaksRule c_text o → IsProgram c_text p → ⊥
rule_or_valid c_text o p a b =
    let programs : a.0 ≡ p = one_program a.0 p c_text a.2 b.spells in
    first_fault.none a.0 a.1 (subst (λ (q : Program). IsValid q) (sym programs) b.valid) a.3

text_once : (c_text : List ℕ) (o q : Outcome) → HasNoProgram c_text o → HasNoProgram c_text q → o ≡ q
text_once c_text o q a b = a.2 ∙ ap NoSpelling (one_fault c_text a.0 b.0 a.1 b.1) ∙ sym b.2

rule_once : (c_text : List ℕ) (o q : Outcome) → BreaksRule c_text o → BreaksRule c_text q → o ≡ q
rule_once c_text o q a b =
    let programs : a.0 ≡ b.0 = one_program a.0 b.0 c_text a.2 b.2 in
    let faults : a.1 ≡ b.1 = first_fault.one b.0 a.1 b.1 (subst (λ (r : Program). IsFirstFault r a.1) programs a.3) b.3 in
    a.4 ∙ ap (λ (f : Fault). BreaksC f.rule f.item f.statement) faults ∙ sym b.4

pub not_run_once : (c_text name input : List ℕ) (steps : ℕ) (o q : Outcome) → IsNotRun c_text name input steps o → IsNotRun c_text name input steps q → o ≡ q
not_run_once c_text name input steps o q (inl a) (inl b) = text_once c_text o q a b
not_run_once c_text name input steps o q (inl a) (inr (inl b)) = absurd (text_or_program c_text o b.0 a b.2)
not_run_once c_text name input steps o q (inl a) (inr (inr b)) = absurd (text_or_program c_text o b.0 a b.1.spells)
not_run_once c_text name input steps o q (inr (inl a)) (inl b) = absurd (text_or_program c_text q a.0 b a.2)
not_run_once c_text name input steps o q (inr (inl a)) (inr (inl b)) = rule_once c_text o q a b
not_run_once c_text name input steps o q (inr (inl a)) (inr (inr b)) = absurd (rule_or_valid c_text o b.0 a b.1)
not_run_once c_text name input steps o q (inr (inr a)) (inl b) = absurd (text_or_program c_text q a.0 b a.1.spells)
not_run_once c_text name input steps o q (inr (inr a)) (inr (inl b)) = absurd (rule_or_valid c_text q a.0 b a.1)
not_run_once c_text name input steps o q (inr (inr a)) (inr (inr b)) =
    let programs : a.0 ≡ b.0 = one_program a.0 b.0 c_text a.1.spells b.1.spells in
    halted_once b.0 name input steps o q b.1.valid (subst (λ (r : Program). IsHalted r name input steps o) programs a.2) b.2

pub not_run_or_run : (c_text name input : List ℕ) (steps : ℕ) (o : Outcome) → IsNotRun c_text name input steps o → IsRun c_text name input steps → ⊥
not_run_or_run c_text name input steps o (inl a) b = text_or_program c_text o b.0 a b.1.spells
not_run_or_run c_text name input steps o (inr (inl a)) b = rule_or_valid c_text o b.0 a b.1
not_run_or_run c_text name input steps o (inr (inr a)) b =
    let programs : a.0 ≡ b.0 = one_program a.0 b.0 c_text a.1.spells b.1.spells in
    halted_or_returned b.0 name input steps o b.1.valid (subst (λ (r : Program). IsHalted r name input steps o) programs a.2) b.2

-- ---- a reader that is found

same_function : (items : List CItem) (number : ℕ) (f g : Function) → slice_get items number ≡ Some (AFunction f) → slice_get items number ≡ Some (AFunction g) → f ≡ g
same_function items number f g a b =
    let both : Some (AFunction f) ≡ Some (AFunction g) = sym a ∙ b in
    cc

-- the struct that is found has its name
pub struct_name : (ss : List StructDecl) (x : Name) (s : StructDecl) → struct_named ss x ≡ Some s → bytes_eq s.name x ≡ true
struct_name [] x s e = let none : ⊥ = cc in absurd none
struct_name (d ∷ ds) x s e = by (bytes_eq d.name x) refl (struct_name ds x s)
  where
    by : (b : Bool) → b ≡ bytes_eq d.name x → (struct_named ds x ≡ Some s → bytes_eq s.name x ≡ true) → bytes_eq s.name x ≡ true
    by true is later =
        let found : struct_named (d ∷ ds) x ≡ Some d = ap (λ (b : Bool). if b then Some d else struct_named ds x) (sym is) in
        let both : Some d ≡ Some s = sym found ∙ e in
        let same : d ≡ s = cc in
        subst (λ (t : StructDecl). bytes_eq t.name x ≡ true) same (sym is)
    by false is later =
        let found : struct_named (d ∷ ds) x ≡ struct_named ds x = ap (λ (b : Bool). if b then Some d else struct_named ds x) (sym is) in
        later (sym found ∙ e)

-- no function of the name
pub none_named : (p : Program) (name : Name) → IsNew name p.items → (infos : List CellInfo) → HasReader p name infos → ⊥
none_named p name new infos r = new_or_there p.items r.number r.function name new r.stands r.is_named

-- the function of the name takes other parameters
pub none_taken : (p : Program) (name : Name) (number : ℕ) → IsValid p → IsFunctionAt p.items name number → TakesNone p.items number → (infos : List CellInfo) → HasReader p name infos → ⊥
none_taken p name number valid f takes infos r =
    let same : r.function ≡ f.function = one_function p.items r.number number r.function f.function valid.sound r.stands f.stands (r.is_named ∙ sym f.is_named) in
    takes f.function f.stands (subst (λ (g : Function). AreReaderParams g.params) same r.takes)

-- the struct that it takes is not there
pub none_declared : (p : Program) (name s : Name) (number : ℕ) → IsValid p → IsFunctionAt p.items name number → TakesStruct p.items number s → struct_named (structs_of p.items) s ≡ None
    → (infos : List CellInfo) → HasReader p name infos → ⊥
none_declared p name s number valid f t none infos r =
    let same : r.function ≡ t.function =
    one_function p.items r.number number r.function f.function valid.sound r.stands f.stands (r.is_named ∙ sym f.is_named) ∙ same_function p.items number f.function t.function f.stands t.stands in
    let struct : r.takes.struct_ ≡ s = same_struct r.function.params t.function.params r.takes t.takes (ap (λ (g : Function). g.params) same) ∙ t.is in
    let both : Some r.declaration ≡ None = sym r.declared ∙ ap (struct_named (structs_of p.items)) struct ∙ none in
    let absurdity : ⊥ = cc in absurdity

pub reader_is : (p : Program) (name s : Name) (number place : ℕ) (d : StructDecl) → IsFunctionAt p.items name number → TakesStruct p.items number s → struct_named (structs_of p.items) s ≡ Some d
    → slice_get (structs_of p.items) place ≡ Some d → IsReader p name number place d
reader_is p name s number place d f t declared placed = record {
  function = t.function;
  stands = t.stands;
  is_named = ap (λ (g : Function). g.name) (same_function p.items number t.function f.function t.stands f.stands) ∙ f.is_named;
  takes = t.takes;
  declared = ap (struct_named (structs_of p.items)) t.is ∙ declared;
  placed = placed;
}

-- ---- C files that are refused

-- the answer of a reader of C texts
pub fault_refuses : (c_text : List ℕ) (fault : CFault) → ((place : ℕ) → ◌≡◌ {A = Result Program CFault} (Err fault) (Err (faults.Text place)) → FaultAt c_text place)
    → ((rule item statement : ℕ) → ◌≡◌ {A = Result Program CFault} (Err fault) (Err (faults.Rule rule item statement)) → Breaks c_text (record { rule = rule; item = item; statement = statement }))
    → (outcome_of_fault fault ≡ OutOfMemory) ⊎ (HasNoProgram c_text (outcome_of_fault fault) ⊎ BreaksRule c_text (outcome_of_fault fault))
fault_refuses c_text (faults.Text place) text rule = inr (inl (place, text place refl, refl))
fault_refuses c_text (faults.Rule r i s) text rule =
    let breaks = rule r i s refl in
    inr (inr (breaks.program, record { rule = r; item = i; statement = s }, breaks.spelled, breaks.first, refl))
fault_refuses c_text faults.OutOfMemory text rule = inl refl
