-- A program has a reader of a name or none, and its call on data ends one way.
use Rattle.std.proofs.Common.{◌≡◌, ℕ, zero, suc, ◌<◌, ◌≤◌, ◌⊎◌, ⊎_elim, inl, inr, Bool, true, false, List, [], ◌∷◌, refl, ap, sym, ◌∙◌, subst}
use Rattle.std.specs.Prelude.{Option, Some, None, slice_get, bytes_eq}
use Rattle.std.proofs.lemmas.Bool.{cases_lt}
use Rattle.std.proofs.lemmas.Slice.Eq.{bytes_eq-Decides}
use Rattle.ecd_cast.specs.declared.tree.Param.{Param}
use Rattle.ecd_cast.specs.declared.tree.ParamKind.{ParamKind}
use Rattle.ecd_cast.specs.declared.tree.ParamKind.TheVariants.{Number, ReadPointer, WritePointer, Struct}
use Rattle.ecd_cast.specs.declared.tree.CellInfo.{CellInfo}
use Rattle.ecd_cast.specs.declared.tree.StructDecl.{StructDecl}
use Rattle.ecd_cast.specs.declared.tree.Function.{Function}
use Rattle.ecd_cast.specs.declared.tree.CItem.{CItem}
use Rattle.ecd_cast.specs.declared.tree.CItem.TheVariants.{Struct as AStruct, Function as AFunction}
use Rattle.ecd_cast.specs.declared.tree.Program.{Program}
use Rattle.ecd_cast.specs.Kept.{IsNew}
use Rattle.ecd_cast.specs.Memory.{Name, steps_of}
use Rattle.ecd_cast.specs.Meaning.{Run, Falls, Returns, Stuck as StuckRun, events_of}
use Rattle.ecd_cast.specs.Validity.{IsValid, structs_of}
use Rattle.ecd_cbuild.specs.Lookup.{AreReaderParams, IsFunctionAt}
use Rattle.ecd_commands.specs.Outcomes.{Outcome, Stuck, Spent, NoFunction}
use Rattle.ecd_commands.specs.Causes.{IsDecided}
use Rattle.ecd_commands.specs.Calls.{struct_named, HasReader, TakesStruct, TakesNone, memory_for, run_of, IsHalted, IsReturned}
use Rattle.ecd_commands.proofs.Calling.{none_named, none_taken, none_declared}
use Rattle.ecd_command_laws.proofs.Runs.{Ends, calls_end}

-- ---- the function of a name

abbrev pub Found : List CItem → Name → Type 0
Found items name = IsNew name items ⊎ ((number : ℕ) × IsFunctionAt items name number)

further : (i : CItem) (is : List CItem) (name : Name) → (IsNew name is → IsNew name (i ∷ is)) → Found is name → Found (i ∷ is) name
further i is name new (inl none) = inl (new none)
further i is name new (inr found) = inr (suc found.0, record { function = found.1.function; stands = found.1.stands; is_named = found.1.is_named })

found : (items : List CItem) (name : Name) → Found items name
found [] name = inl tt
found (AStruct s ∷ is) name = further (AStruct s) is name (λ (new : IsNew name is). new) (found is name)
found (AFunction f ∷ is) name = by (found is name) (bytes_eq f.name name) refl
  where
    by : Found is name → (b : Bool) → b ≡ bytes_eq f.name name → Found (AFunction f ∷ is) name
    by rest true e = inr (zero, record { function = f; stands = refl; is_named = (bytes_eq-Decides f.name name).0 (sym e) })
    by rest false e = further (AFunction f) is name (λ (new : IsNew name is). (sym e, new)) rest

-- ---- its parameters

abbrev Has3 : (a b c : Param) → Type 0
Has3 a b c = AreReaderParams (a ∷ b ∷ c ∷ []) ⊎ (AreReaderParams (a ∷ b ∷ c ∷ []) → ⊥)

first_kind : (a b c : Param) (takes : AreReaderParams (a ∷ b ∷ c ∷ [])) → a.kind ≡ ReadPointer
first_kind a b c takes =
    let lists : a ∷ b ∷ c ∷ [] ≡ takes.buffer ∷ takes.length_ ∷ takes.cells ∷ [] = takes.are in
    let same : a ≡ takes.buffer = cc in
    ap (λ (p : Param). p.kind) same ∙ takes.reads

second_kind : (a b c : Param) (takes : AreReaderParams (a ∷ b ∷ c ∷ [])) → b.kind ≡ Number
second_kind a b c takes =
    let lists : a ∷ b ∷ c ∷ [] ≡ takes.buffer ∷ takes.length_ ∷ takes.cells ∷ [] = takes.are in
    let same : b ≡ takes.length_ = cc in
    ap (λ (p : Param). p.kind) same ∙ takes.counts

third_kind : (a b c : Param) (takes : AreReaderParams (a ∷ b ∷ c ∷ [])) → c.kind ≡ Struct takes.struct_
third_kind a b c takes =
    let lists : a ∷ b ∷ c ∷ [] ≡ takes.buffer ∷ takes.length_ ∷ takes.cells ∷ [] = takes.are in
    let same : c ≡ takes.cells = cc in
    ap (λ (p : Param). p.kind) same ∙ takes.fills

is_read : (k : ParamKind) → (k ≡ ReadPointer) ⊎ (k ≡ ReadPointer → ⊥)
is_read Number = inr (λ e. cc)
is_read ReadPointer = inl refl
is_read WritePointer = inr (λ e. cc)
is_read (Struct s) = inr (λ e. cc)

is_number : (k : ParamKind) → (k ≡ Number) ⊎ (k ≡ Number → ⊥)
is_number Number = inl refl
is_number ReadPointer = inr (λ e. cc)
is_number WritePointer = inr (λ e. cc)
is_number (Struct s) = inr (λ e. cc)

is_struct : (k : ParamKind) → ((s : Name) × (k ≡ Struct s)) ⊎ ((s : Name) → k ≡ Struct s → ⊥)
is_struct Number = inr (λ s e. cc)
is_struct ReadPointer = inr (λ s e. cc)
is_struct WritePointer = inr (λ s e. cc)
is_struct (Struct s) = inl (s, refl)

has_three : (a b c : Param) → Has3 a b c
has_three a b c =
    ⊎_elim
    (λ (reads : a.kind ≡ ReadPointer). ⊎_elim
    (λ (counts : b.kind ≡ Number). ⊎_elim
    (λ (fills : (s : Name) × (c.kind ≡ Struct s)).
    inl (record { buffer = a; length_ = b; cells = c; are = refl; reads = reads; counts = counts; struct_ = fills.0; fills = fills.1 }))
    (λ (none : (s : Name) → c.kind ≡ Struct s → ⊥). inr (λ takes. none takes.struct_ (third_kind a b c takes))) (is_struct c.kind))
    (λ (none : b.kind ≡ Number → ⊥). inr (λ takes. none (second_kind a b c takes))) (is_number b.kind))
    (λ (none : a.kind ≡ ReadPointer → ⊥). inr (λ takes. none (first_kind a b c takes)))
    (is_read a.kind)

has_params : (ps : List Param) → AreReaderParams ps ⊎ (AreReaderParams ps → ⊥)
has_params [] = inr (λ takes. let e : [] ≡ takes.buffer ∷ takes.length_ ∷ takes.cells ∷ [] = takes.are in cc)
has_params (a ∷ []) = inr (λ takes. let e : a ∷ [] ≡ takes.buffer ∷ takes.length_ ∷ takes.cells ∷ [] = takes.are in cc)
has_params (a ∷ b ∷ []) = inr (λ takes. let e : a ∷ b ∷ [] ≡ takes.buffer ∷ takes.length_ ∷ takes.cells ∷ [] = takes.are in cc)
has_params (a ∷ b ∷ c ∷ []) = has_three a b c
has_params (a ∷ b ∷ c ∷ d ∷ more) = inr (λ takes. let e : a ∷ b ∷ c ∷ d ∷ more ≡ takes.buffer ∷ takes.length_ ∷ takes.cells ∷ [] = takes.are in cc)

-- ---- the reader of a name

abbrev pub HasOrNot : Program → Name → Type 0
HasOrNot p name = ((infos : List CellInfo) × HasReader p name infos) ⊎ ((infos : List CellInfo) → HasReader p name infos → ⊥)

declared_or_not : (p : Program) (name : Name) (number : ℕ) → IsValid p → (at : IsFunctionAt p.items name number) → (takes : AreReaderParams at.function.params) →
    (d : Option StructDecl) → struct_named (structs_of p.items) takes.struct_ ≡ d → HasOrNot p name
declared_or_not p name number valid at takes (Some d) e =
    inl (d.cells, record { number = number; function = at.function; stands = at.stands; is_named = at.is_named; takes = takes; declaration = d; declared = e; cells = refl })
declared_or_not p name number valid at takes None e =
    inr (none_declared p name takes.struct_ number valid at (record { function = at.function; stands = at.stands; takes = takes; is = refl }) e)

not_taken : (items : List CItem) (name : Name) (number : ℕ) → (at : IsFunctionAt items name number) → (AreReaderParams at.function.params → ⊥) → TakesNone items number
not_taken items name number at none f stands takes =
    let both : Some (AFunction at.function) ≡ Some (AFunction f) = sym at.stands ∙ stands in
    let same : f ≡ at.function = cc in
    none (subst (λ (g : Function). AreReaderParams g.params) same takes)

taken_or_not : (p : Program) (name : Name) (number : ℕ) → IsValid p → (at : IsFunctionAt p.items name number) → HasOrNot p name
taken_or_not p name number valid at =
    ⊎_elim
    (λ (takes : AreReaderParams at.function.params). declared_or_not p name number valid at takes (struct_named (structs_of p.items) takes.struct_) refl)
    (λ (none : AreReaderParams at.function.params → ⊥). inr (none_taken p name number valid at (not_taken p.items name number at none)))
    (has_params at.function.params)

pub has_or_not : (p : Program) (name : Name) → IsValid p → HasOrNot p name
has_or_not p name valid =
    ⊎_elim
    (λ (new : IsNew name p.items). inr (none_named p name new))
    (λ (at : (number : ℕ) × IsFunctionAt p.items name number). taken_or_not p name at.0 valid at.1)
    (found p.items name)

-- ---- its call

abbrev pub HaltsOrReturns : Program → (name input : List ℕ) → ℕ → Type 0
HaltsOrReturns p name input steps = ((outcome : Outcome) × IsDecided outcome × IsHalted p name input steps outcome) ⊎ IsReturned p name input steps

run_ends : (p : Program) (name input : List ℕ) (steps : ℕ) (infos : List CellInfo) → HasReader p name infos → (r : Run) → run_of p name input infos ≡ r → Ends r
    → HaltsOrReturns p name input steps
run_ends p name input steps infos reader (Falls env es) e ends = absurd ends
run_ends p name input steps infos reader (Returns n es) e ends =
    ⊎_elim
    (λ (more : steps < steps_of es).
    inl (Spent steps, tt, inr (inr (record { infos = infos; run = Returns n es; runs = record { reader = reader; runs = e }; more = more; is = refl }))))
    (λ (few : steps_of es ≤ steps). inr (record { infos = infos; number = n; events = es; runs = record { reader = reader; runs = e }; few = few }))
    (cases_lt steps (steps_of es))
run_ends p name input steps infos reader (StuckRun r i s es) e ends =
    ⊎_elim
    (λ (more : steps < steps_of es).
    inl (Spent steps, tt, inr (inr (record { infos = infos; run = StuckRun r i s es; runs = record { reader = reader; runs = e }; more = more; is = refl }))))
    (λ (few : steps_of es ≤ steps).
    inl (Stuck r i s, tt, inr (inl (record { infos = infos; reason = r; item = i; statement = s; events = es; runs = record { reader = reader; runs = e }; few = few; is = refl }))))
    (cases_lt steps (steps_of es))

pub halts_or_returns : (p : Program) (name input : List ℕ) (steps : ℕ) → IsValid p → HaltsOrReturns p name input steps
halts_or_returns p name input steps valid =
    ⊎_elim
    (λ (reader : (infos : List CellInfo) × HasReader p name infos).
    run_ends p name input steps reader.0 reader.1 (run_of p name input reader.0) refl (calls_end p.items name _ (memory_for input reader.0)))
    (λ (none : (infos : List CellInfo) → HasReader p name infos → ⊥). inl (NoFunction name, tt, inl (none, refl)))
    (has_or_not p name valid)
