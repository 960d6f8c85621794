-- The rules that items break are C1 to C6.
use Rattle.std.proofs.Common.{ℕ, ◌+◌, ◌<◌, List, [], ◌∷◌, ◌++◌, arith, Bool, true, false, get_or, length, zero, suc, subst}
use Rattle.std.specs.Prelude.{Option, Some, None, flat_map, map, not, Contains}
use Rattle.ecd_cast.specs.declared.tree.Expr.{Expr, Row_of-Expr, end_of-Expr, more_of-Expr}
use Rattle.ecd_cast.specs.declared.tree.Expr.TheVariants.{Number, Var, Cell as CellOf, Load', Binary', Not'}
use Rattle.ecd_cast.specs.declared.tree.Source.{Source}
use Rattle.ecd_cast.specs.declared.tree.Source.TheVariants.{Value as FromValue, Call as FromCall}
use Rattle.ecd_cast.specs.declared.tree.Stmt.{Stmt, Row_of-Stmt, end_of-Stmt, more_of-Stmt}
use Rattle.ecd_cast.specs.declared.tree.Stmt.TheVariants.{Number as DeclNumber, Pointer as DeclPointer, Assign, Store, SetCell, If', For', Return}
use Rattle.ecd_cast.specs.declared.tree.Param.{Param}
use Rattle.ecd_cast.specs.declared.tree.ParamKind.{ParamKind}
use Rattle.ecd_cast.specs.declared.tree.ParamKind.TheVariants.{Number as NumberParam, ReadPointer as ReadPointerParam, WritePointer as WritePointerParam, Struct as StructParam}
use Rattle.ecd_cast.specs.declared.tree.CellInfo.{CellInfo}
use Rattle.ecd_cast.specs.declared.tree.StructDecl.{StructDecl}
use Rattle.ecd_cast.specs.declared.tree.Function.{Function}
use Rattle.ecd_cast.specs.declared.tree.CItem.{CItem}
use Rattle.ecd_cast.specs.declared.tree.CItem.TheVariants.{Struct as AStructDecl, Function as AFunction}
use Rattle.ecd_cast.specs.Memory.{Name}
use Rattle.ecd_cast.specs.Meaning.{Place, shifted, count_of}
use Rattle.ecd_cast.specs.Kinds.{Kind, ANumber, ATruth, AReadPointer, AWritePointer, Unknown, AStruct, Known, takes, cell_of, broken_by, operand_broken, broken_as, unless, unless_known, asked, asked_pointer, asked_cell}
use Rattle.ecd_cast.specs.Validity.{Fault, at_place, Around, source_broken, call_broken, call_later, assignable, stmt_faults, row_faults, block_faults, twice, Naming, is_among, param_broken, item_faults, faults_from, function_named, known_after, structs_of, functions_of, struct_names, function_names, head_names, named_in, block_returns, params_known}

abbrev pub AreSmall : List ℕ → Type 0
AreSmall [] = Unit {0}
AreSmall (r ∷ rs) = (r < 7) × AreSmall rs

record Small (rules : List ℕ) : Type 0 where
  pub all : AreSmall rules

abbrev pub AreSmallFaults : List Fault → Type 0
AreSmallFaults [] = Unit {0}
AreSmallFaults (f ∷ fs) = (f.rule < 7) × AreSmallFaults fs

pub record SmallFaults (faults : List Fault) : Type 0 where
  pub all : AreSmallFaults faults

rules_both : (a b : List ℕ) → AreSmall a → AreSmall b → AreSmall (a ++ b)
rules_both [] b h k = k
rules_both (r ∷ a) b h k = (h.0, rules_both a b h.1 k)

and_then : (a b : List ℕ) → Small a → Small b → Small (a ++ b)
and_then a b h k = record { all = rules_both a b h.all k.all }

faults_both : (a b : List Fault) → AreSmallFaults a → AreSmallFaults b → AreSmallFaults (a ++ b)
faults_both [] b h k = k
faults_both (f ∷ a) b h k = (h.0, faults_both a b h.1 k)

both : (a b : List Fault) → SmallFaults a → SmallFaults b → SmallFaults (a ++ b)
both a b h k = record { all = faults_both a b h.all k.all }

all_placed : (p : Place) (rs : List ℕ) → AreSmall rs → AreSmallFaults (at_place p rs)
all_placed p [] h = tt
all_placed p (r ∷ rs) h = (h.0, all_placed p rs h.1)

placed : (p : Place) (rs : List ℕ) → Small rs → SmallFaults (at_place p rs)
placed p rs h = record { all = all_placed p rs h.all }

none : Small []
none = record { all = tt }

nothing : SmallFaults []
nothing = record { all = tt }

one : (r : ℕ) → r < 7 → Small (r ∷ [])
one r h = record { all = (h, tt) }

unless_small : (b : Bool) (r : ℕ) → r < 7 → Small (unless b r)
unless_small true r h = none
unless_small false r h = one r h

flat : {X : Type 0} (f : X → List ℕ) → ((x : X) → Small (f x)) → (xs : List X) → Small (flat_map f xs)
flat f h [] = none
flat f h (x ∷ xs) = and_then (f x) (flat_map f xs) (h x) (flat f h xs)

known_small : (o : Option Kind) → Small (unless_known o)
known_small (Some k) = none
known_small None = one 1 (omega arith)

asked_small : (k : Kind) (o : Option Kind) → Small (asked k o)
asked_small k (Some got) = unless_small (takes k got) 2 (omega arith)
asked_small k None = one 1 (omega arith)

pointer_small : (o : Option Kind) → Small (asked_pointer o)
pointer_small (Some ANumber) = one 2 (omega arith)
pointer_small (Some ATruth) = one 2 (omega arith)
pointer_small (Some AReadPointer) = none
pointer_small (Some AWritePointer) = none
pointer_small (Some Unknown) = none
pointer_small (Some (AStruct s)) = one 2 (omega arith)
pointer_small None = one 1 (omega arith)

cell_small : (structs : List StructDecl) (o : Option Kind) (c : Name) → Small (asked_cell structs o c)
cell_small structs (Some ANumber) c = one 2 (omega arith)
cell_small structs (Some ATruth) c = one 2 (omega arith)
cell_small structs (Some AReadPointer) c = one 2 (omega arith)
cell_small structs (Some AWritePointer) c = one 2 (omega arith)
cell_small structs (Some Unknown) c = none
cell_small structs (Some (AStruct s)) c = known_small (cell_of structs s c)
cell_small structs None c = one 1 (omega arith)

assignable_small : (o : Option Kind) → Small (assignable o)
assignable_small (Some ANumber) = none
assignable_small (Some ATruth) = one 2 (omega arith)
assignable_small (Some AReadPointer) = none
assignable_small (Some AWritePointer) = one 2 (omega arith)
assignable_small (Some Unknown) = none
assignable_small (Some (AStruct s)) = one 2 (omega arith)
assignable_small None = one 1 (omega arith)

module _ (structs : List StructDecl) (known : Known) where
  mutual
    expr_small : (e : Expr) → Small (broken_by structs known e)
    expr_small (Number n) = none
    expr_small (Var x) = known_small _
    expr_small (CellOf x c) = cell_small structs _ c
    expr_small (Load' x s i) = and_then _ _ (and_then _ _ (pointer_small _) (operand_small i)) (unless_small _ 2 (omega arith))
    expr_small (Binary' op s a t b) = and_then _ _ (and_then _ _ (operand_small a) (operand_small b)) (unless_small _ 2 (omega arith))
    expr_small (Not' s a) = and_then _ _ (operand_small a) (unless_small _ 2 (omega arith))

    operand_small : {n : _} (r : Row_of-Expr n) → Small (operand_broken structs known r)
    operand_small end_of-Expr = none
    operand_small (more_of-Expr e rest) = expr_small e

  as_small : (k : Kind) (e : Expr) → Small (broken_as k structs known e)
  as_small k e = and_then _ _ (expr_small e) (unless_small _ 2 (omega arith))

later_small : (around : Around) (known : Known) (args : List Expr) (o : Option Function) → Small (call_later around known args o)
later_small around known args (Some f) = and_then _ _ (unless_small _ 2 (omega arith)) (one 3 (omega arith))
later_small around known args None = one 1 (omega arith)

call_small : (around : Around) (known : Known) (args : List Expr) (g : Name) (o : Option Function) → Small (call_broken around known args g o)
call_small around known args g (Some f) = unless_small _ 2 (omega arith)
call_small around known args g None = later_small around known args (function_named around.later g)

source_small : (around : Around) (known : Known) (k : Kind) (s : Source) → Small (source_broken around known k s)
source_small around known k (FromValue e) = as_small around.structs known k e
source_small around known k (FromCall g args) =
    and_then _ _ (and_then _ _ (flat (broken_by around.structs known) (expr_small around.structs known) args) (call_small around known args g (function_named around.earlier g))) (unless_small _ 2 (omega arith))

mutual
  stmt_small : (around : Around) (known : Known) (s : Stmt) (p : Place) → SmallFaults (stmt_faults around known s p)
  stmt_small around known (DeclNumber x e) p = placed p _ (source_small around known ANumber e)
  stmt_small around known (DeclPointer x e) p = placed p _ (as_small around.structs known AReadPointer e)
  stmt_small around known (Assign x e) p = placed p _ (and_then _ _ (and_then _ _ (assignable_small _) (source_small around known _ e)) (unless_small _ 4 (omega arith)))
  stmt_small around known (Store x i e) p = placed p _ (and_then _ _ (and_then _ _ (asked_small AWritePointer _) (as_small around.structs known ANumber i)) (as_small around.structs known ANumber e))
  stmt_small around known (SetCell x c e) p = placed p _ (and_then _ _ (cell_small around.structs _ c) (as_small around.structs known _ e))
  stmt_small around known (If' t s ys u ns) p = both _ _ (both _ _ (placed p _ (as_small around.structs known ATruth t)) (row_small around known ys _)) (row_small around known ns _)
  stmt_small around known (For' x b s body) p = both _ _ (placed p _ (asked_small ANumber _)) (row_small _ _ body _)
  stmt_small around known (Return e) p = placed p _ (as_small around.structs known ANumber e)

  row_small : {n : _} (around : Around) (known : Known) (r : Row_of-Stmt n) (p : Place) → SmallFaults (row_faults around known r p)
  row_small around known end_of-Stmt p = nothing
  row_small around known (more_of-Stmt s rest) p = both _ _ (stmt_small around known s p) (row_small around _ rest _)

block_small : (around : Around) (known : Known) (ss : List Stmt) (p : Place) → SmallFaults (block_faults around known ss p)
block_small around known [] p = nothing
block_small around known (s ∷ rest) p = both _ _ (stmt_small around known s p) (block_small around (known_after s known) rest (shifted p (count_of s)))

twice_small : (earlier : List Name) (ns : List Naming) → SmallFaults (twice earlier ns)
twice_small earlier [] = nothing
twice_small earlier (n ∷ ns) = both _ _ (placed n.place _ (unless_small _ 6 (omega arith))) (twice_small (n.name ∷ earlier) ns)

param_small : (structs : List Name) (k : ParamKind) → Small (param_broken structs k)
param_small structs NumberParam = none
param_small structs ReadPointerParam = none
param_small structs WritePointerParam = none
param_small structs (StructParam s) = unless_small _ 1 (omega arith)

item_small : (before : List CItem) (i : CItem) (from : List CItem) (n : ℕ) → SmallFaults (item_faults before i from n)
item_small before (AStructDecl s) from n =
    let head : Place = record { item = n; statement = 0 } in
    both _ _ (placed head _ (unless_small (not (is_among (struct_names before) s.name)) 6 (omega arith))) (twice_small [] (head_names head (map (λ (c : CellInfo). c.name) s.cells)))
item_small before (AFunction f) from n =
    let head : Place = record { item = n; statement = 0 } in
    let begin : Place = record { item = n; statement = 1 } in
    let around : Around = record { structs = structs_of before; earlier = functions_of before; later = functions_of from; loops = [] } in
    let params = flat (λ (q : Param). param_broken (struct_names before) q.kind) (λ q. param_small (struct_names before) q.kind) f.params in
    let rules = and_then _ _ (and_then _ _ params (unless_small (block_returns f.body) 5 (omega arith))) (unless_small (not (is_among (function_names before) f.name)) 6 (omega arith)) in
    both _ _ (both _ _ (placed head _ rules) (twice_small [] (head_names head (map (λ (q : Param). q.name) f.params) ++ named_in f.body begin))) (block_small around (params_known f.params) f.body begin)

pub file_small : (before items : List CItem) (n : ℕ) → SmallFaults (faults_from before items n)
file_small before [] n = nothing
file_small before (i ∷ is) n = both _ _ (item_small before i (i ∷ is) n) (file_small (before ++ i ∷ []) is (n + 1))

at_each : (fs : List Fault) (k : ℕ) (d : Fault) → AreSmallFaults fs → k < length fs → (get_or fs k d).rule < 7
at_each [] k d h lt = absurd (omega arith)
at_each (f ∷ fs) zero d h lt = h.0
at_each (f ∷ fs) (suc k) d h lt = at_each fs k d h.1 (omega arith)

pub small_each : (fs : List Fault) (g : Fault) → SmallFaults fs → Contains fs g → g.rule < 7
small_each fs g h c = subst (λ (f : Fault). f.rule < 7) c.2 (at_each fs c.0 g h.all c.1)
