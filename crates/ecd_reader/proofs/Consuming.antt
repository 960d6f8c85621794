-- The emitted reader of a number, called on data.
use Rattle.std.proofs.Common.{◌≡◌, ℕ, zero, suc, ◌<◌, ◌≤◌, ◌^◌, ◌⊎◌, ⊎_elim, inl, inr, true, false, List, [], ◌∷◌, ◌++◌, length, refl, ap, sym, ◌∙◌, subst, arith}
use Rattle.std.specs.Prelude.{Some, None, Ok, map, slice_get, codes, bytes_eq, nat_le}
use Rattle.std.proofs.lemmas.Slice.Eq.{bytes_eq-Decides}
use Rattle.std.proofs.lemmas.Bool.{cases_lt}
use Rattle.std.proofs.Math.Dec.{leb-zero}
use Rattle.ecd_cast.specs.declared.tree.Param.{Param}
use Rattle.ecd_cast.specs.declared.tree.CItem.{CItem}
use Rattle.ecd_cast.specs.declared.tree.CItem.TheVariants.{Struct as AStruct, Function as AFunction}
use Rattle.ecd_cast.specs.declared.tree.Function.{Function}
use Rattle.ecd_cast.specs.declared.tree.Program.{Program}
use Rattle.ecd_cast.specs.declared.value.Value.{Value}
use Rattle.ecd_cast.specs.declared.value.Value.TheVariants.{Number as Num, Bytes as Ptr, Struct as Str}
use Rattle.ecd_cast.specs.Memory.{Name, Memory, Bytes, Cells, Event}
use Rattle.ecd_cast.specs.Kept.{IsNew}
use Rattle.ecd_cast.specs.Meaning.{Run, Returns, calls_of}
use Rattle.ecd_cast.specs.Validity.{IsValid, structs_of, functions_of, function_names}
use Rattle.ecd_cast.specs.Fitting.{BlockKind, Fixed, CellsOf, Fits}
use Rattle.ecd_ceval.specs.declared.machine.Block.{Block as Given}
use Rattle.ecd_ceval.specs.declared.machine.Block.TheVariants.{Cells as GivenCells}
use Rattle.ecd_ceval.specs.Machines.{Seen, Answers, meaning, unset, kind_given, block_given}
use Rattle.ecd_cast.specs.declared.tree.StructDecl.{StructDecl}
use Rattle.ecd_ceval.proofs.Naming.{numbers_mean_names}
use Rattle.ecd_compile.specs.Reader.{unit_struct, reader_params}
use Rattle.ecd_compile.specs.Reads.{HasInterface, ReadsByte, Gives, reading}
use Rattle.ecd_reader.specs.Takes.{Takes}

same_name : (x : Name) → bytes_eq x x ≡ true
same_name x = (bytes_eq-Decides x x).1 refl

-- the interface has its reader
pub reader_there : (items : List CItem) → function_names items ≡ codes "read_0" ∷ [] → IsNew (codes "read_0") items → ⊥
reader_there [] names new = cc
reader_there (AStruct s ∷ is) names new = reader_there is names new
reader_there (AFunction f ∷ is) names new =
    let name : f.name ≡ codes "read_0" = cc in
    let same : bytes_eq f.name (codes "read_0") ≡ true = subst (λ (x : Name). bytes_eq x (codes "read_0") ≡ true) (sym name) (same_name (codes "read_0")) in
    let both : false ≡ true = sym new.0 ∙ same in
    cc

-- every function of the interface has the reader's parameters
HasParams : List (List Param) → List Param → Type 0
HasParams [] ps = ⊥
HasParams (x ∷ xs) ps = (x ≡ ps) ⊎ HasParams xs ps

params_of : List CItem → List (List Param)
params_of items = map (λ f. f.params) (functions_of items)

has_params : (items : List CItem) (number : ℕ) (f : Function) → slice_get items number ≡ Some (AFunction f) → HasParams (map (λ (g : Function). g.params) (functions_of items)) f.params
unfolding HasParams
has_params [] zero f e = absurd cc
has_params [] (suc n) f e = absurd cc
has_params (AStruct s ∷ is) zero f e = absurd cc
has_params (AStruct s ∷ is) (suc n) f e = has_params is n f e
has_params (AFunction g ∷ is) zero f e =
    let same : g ≡ f = cc in
    inl (ap (λ (h : Function). h.params) same)
has_params (AFunction g ∷ is) (suc n) f e = inr (has_params is n f e)

pub reader_params_are : (items : List CItem) (number : ℕ) (f : Function) → map (λ (g : Function). g.params) (functions_of items) ≡ reader_params ∷ [] → slice_get items number ≡ Some (AFunction f) → f.params ≡ reader_params
unfolding HasParams
reader_params_are items number f params e =
    let has : HasParams (reader_params ∷ []) f.params = subst (λ (xs : List (List Param)). HasParams xs f.params) params (has_params items number f e) in
    ⊎_elim (λ (x : reader_params ≡ f.params). sym x) (λ (x : ⊥). absurd x) has

abbrev pub memory_for : List ℕ → Memory
memory_for input = Bytes input ∷ Cells (unset unit_struct.cells) ∷ []

abbrev pub kinds_for : List BlockKind
kinds_for = Fixed ∷ CellsOf 0 ∷ []

abbrev pub values_for : List ℕ → List Value
values_for input = Ptr 0 0 ∷ Num (length input) ∷ Str 1 ∷ []

least_is : (n : ℕ) → nat_le 0 n ≡ true
least_is n = leb-zero n

-- the arguments fit
pub reader_fits : (items : List CItem) (input : List ℕ) (number : ℕ) (f : Function) → HasInterface items → slice_get items number ≡ Some (AFunction f) → Fits items kinds_for (memory_for input) number (values_for input)
reader_fits items input number f interface e =
    let params = reader_params_are items number f interface.params e in
    rw (e, interface.structs, params, least_is (length input)) refl

-- ---- what the reader answers

answer_is : (run : Run) (n : ℕ) (writes : List Event) (depth k : ℕ) (old new : Memory) → Gives run n writes depth → Answers run None (Ok k) old new → k ≡ n
answer_is run n writes depth k old new gives answers =
    let at : Answers (Returns n gives.events) None (Ok k) old new = subst (λ (r : Run). Answers r None (Ok k) old new) gives.returns answers in
    at.0

takes_of : (p : Program) (input : List ℕ) (k n : ℕ) (new : Memory) → length input < 2 ^ 62 → ReadsByte n p
    → Answers (reading p.items 0 0 (length input) 1 (memory_for input)) None (Ok k) (memory_for input) new → Takes n input k
takes_of p [] k n new short reads answers =
    inr (answer_is _ 0 [] p.depth k (memory_for []) new (reads.refuses 0 0 0 1 (memory_for []) [] refl (omega arith) (omega arith) (λ (le : 1 ≤ 0). let none : ⊥ = omega (arith, le) in absurd none)) answers, λ (x : ⊥). x)
takes_of p (b ∷ bs) k n new short reads answers =
    ⊎_elim
    (λ (lt : b < n). other (λ (e : b ≡ n). omega (arith, lt, e)))
    (λ (le : n ≤ b). ⊎_elim (λ (gt : n < b). other (λ (e : b ≡ n). omega (arith, gt, e))) (λ (ge : b ≤ n). same (omega (arith, le, ge))) (cases_lt n b))
    (cases_lt b n)
  where
    m : Memory
    m = memory_for (b ∷ bs)

    other : (b ≡ n → ⊥) → Takes n (b ∷ bs) k
    other differs = inr (answer_is _ 0 [] p.depth k m new (reads.refuses 0 0 (length (b ∷ bs)) 1 m (b ∷ bs) refl (omega arith) short (λ _ e. differs cc)) answers, differs)

    same : b ≡ n → Takes n (b ∷ bs) k
    same e = inl (answer_is _ 1 _ p.depth k m new (reads.takes 0 0 (length (b ∷ bs)) 1 m (b ∷ bs) refl (omega arith) short (omega arith) (ap Some e)) answers, e)

pub reader_takes : (p : Program) (input : List ℕ) (number : ℕ) (f : Function) (k n : ℕ) (new : Memory) → IsValid p → slice_get p.items number ≡ Some (AFunction f) → f.name ≡ codes "read_0" → length input < 2 ^ 62
    → ReadsByte n p → Answers (meaning p.items number (values_for input) (memory_for input)) None (Ok k) (memory_for input) new → Takes n input k
reader_takes p input number f k n new valid stands named short reads answers =
    let name : meaning p.items number (values_for input) (memory_for input) ≡ calls_of p.items f.name (values_for input) (memory_for input) = numbers_mean_names p number f (values_for input) (memory_for input) valid stands in
    let means : meaning p.items number (values_for input) (memory_for input) ≡ reading p.items 0 0 (length input) 1 (memory_for input) =
    name ∙ ap (λ (x : Name). calls_of p.items x (values_for input) (memory_for input)) named in
    takes_of p input k n new short reads (subst (λ (r : Run). Answers r None (Ok k) (memory_for input) new) means answers)

-- the machine that is prepared
pub two_blocks : (empty one two : List Given) (a b : Given) → empty ≡ [] → one ≡ empty ++ a ∷ [] → two ≡ one ++ b ∷ [] → two ≡ a ∷ b ∷ []
two_blocks empty one two a b e f g = g ∙ ap (λ (l : List Given). l ++ b ∷ []) (f ∙ ap (λ (l : List Given). l ++ a ∷ []) e)

pub machine_is : (m : Seen) (p : Program) (blocks : List Given) (first : Given) (input : List ℕ)
    → m ≡ record { program = p; kinds = map kind_given blocks; memory = map (block_given (structs_of p.items)) blocks } → blocks ≡ first ∷ GivenCells 0 ∷ []
    → kind_given first ≡ Fixed → block_given (structs_of p.items) first ≡ Bytes input → structs_of p.items ≡ unit_struct ∷ []
    → m ≡ record { program = p; kinds = kinds_for; memory = memory_for input }
machine_is m p blocks first input is are kind bytes structs =
    let cells : block_given (structs_of p.items) (GivenCells 0) ≡ Cells (unset unit_struct.cells) = ap (λ (ss : List StructDecl). block_given ss (GivenCells 0)) structs in
    is ∙ (λ i. record { program = p; kinds = map kind_given (are i); memory = map (block_given (structs_of p.items)) (are i) })
    ∙ (λ i. record { program = p; kinds = kind i ∷ CellsOf 0 ∷ []; memory = bytes i ∷ cells i ∷ [] })
