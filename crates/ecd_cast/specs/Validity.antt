-- The rules C1 to C7, and where a program breaks them.
use Rattle.std.specs.Prelude.{ℕ, ◌+◌, ◌≡◌, ◌<◌, ◌⊎◌, Bool, true, false, not, ◌&&◌, if◌then◌else◌, List, [], ◌∷◌, ◌++◌, flat_map, map, Contains, Option, Some, None, bytes_eq, nat_eq, nat_lt, length, max}
use Rattle.std.specs.List.{list_any}
use Rattle.ecd_cast.specs.declared.tree.Expr.{Expr}
use Rattle.ecd_cast.specs.declared.tree.Source.{Source}
use Rattle.ecd_cast.specs.declared.tree.Source.TheVariants.{Value as FromValue, Call as FromCall}
use Rattle.ecd_cast.specs.declared.tree.Stmt.{Stmt, Row_of-Stmt, end_of-Stmt, more_of-Stmt}
use Rattle.ecd_cast.specs.declared.tree.Stmt.TheVariants.{Number as DeclNumber, Pointer as DeclPointer, Assign, Store, SetCell, If', For', Return}
use Rattle.ecd_cast.specs.declared.tree.Param.{Param}
use Rattle.ecd_cast.specs.declared.tree.ParamKind.{ParamKind}
use Rattle.ecd_cast.specs.declared.tree.ParamKind.TheVariants.{Number as NumberParam, ReadPointer as ReadPointerParam, WritePointer as WritePointerParam, Struct as StructParam}
use Rattle.ecd_cast.specs.declared.tree.StructDecl.{StructDecl}
use Rattle.ecd_cast.specs.declared.tree.Function.{Function}
use Rattle.ecd_cast.specs.declared.tree.CItem.{CItem}
use Rattle.ecd_cast.specs.declared.tree.CItem.TheVariants.{Struct as AStructDecl, Function as AFunction}
use Rattle.ecd_cast.specs.declared.tree.Program.{Program}
use Rattle.ecd_cast.specs.Memory.{Name}
use Rattle.ecd_cast.specs.Meaning.{Place, shifted, count_of, count_in}
use Rattle.ecd_cast.specs.Kinds.{Kind, ANumber, ATruth, AReadPointer, AWritePointer, Unknown, takes, Known, kind_in, member, broken_by, broken_as, asked, asked_cell, unless, args_fit, param_kind}

-- a broken rule: C1 is 1, and so on
pub record Fault : Type 0 where
  pub rule : ℕ
  pub item : ℕ
  pub statement : ℕ

abbrev pub at_place : Place → List ℕ → List Fault
at_place p rules = map (λ r. record { rule = r; item = p.item; statement = p.statement }) rules

abbrev pub is_among : List Name → Name → Bool
is_among names x = list_any (λ y. bytes_eq y x) names

-- ---- the structs and functions of a file

abbrev pub structs_of : List CItem → List StructDecl
structs_of [] = []
structs_of (AStructDecl s ∷ is) = s ∷ structs_of is
structs_of (AFunction f ∷ is) = structs_of is

abbrev pub struct_names : List CItem → List Name
struct_names items = map (λ s. s.name) (structs_of items)

abbrev pub functions_of : List CItem → List Function
functions_of [] = []
functions_of (AStructDecl s ∷ is) = functions_of is
functions_of (AFunction f ∷ is) = f ∷ functions_of is

abbrev pub function_names : List CItem → List Name
function_names items = map (λ f. f.name) (functions_of items)

-- the first function of a name
abbrev pub function_named : List Function → Name → Option Function
function_named [] g = None
function_named (f ∷ fs) g = if bytes_eq f.name g then Some f else function_named fs g

-- What stands round a statement: the structs and functions before its function, its function and those behind it, and the variables and bounds of the loops round it.
pub record Around : Type 0 where
  pub structs : List StructDecl
  pub earlier : List Function
  pub later : List Function
  pub loops : List Name

abbrev pub in_loop : Around → Name → Name → Around
in_loop around x b = record around { loops = x ∷ b ∷ around.loops }

-- ---- calls: C1 to C3

abbrev pub call_later : Around → Known → List Expr → Option Function → List ℕ
call_later around known args (Some f) = unless (args_fit around.structs known f.params args) 2 ++ 3 ∷ []
call_later around known args None = 1 ∷ []

abbrev pub call_broken : Around → Known → List Expr → Name → Option Function → List ℕ
call_broken around known args g (Some f) = unless (args_fit around.structs known f.params args) 2
call_broken around known args g None = call_later around known args (function_named around.later g)

-- where a number, or what the kind asks for, comes from
abbrev pub source_broken : Around → Known → Kind → Source → List ℕ
source_broken around known k (FromValue e) = broken_as k around.structs known e
source_broken around known k (FromCall g args) =
    flat_map (broken_by around.structs known) args ++ call_broken around known args g (function_named around.earlier g) ++ unless (takes k ANumber) 2

-- ---- assignments: C1, C2 and C4

-- what an assignment to a variable of this kind takes
abbrev pub assigned_kind : Option Kind → Kind
assigned_kind (Some ANumber) = ANumber
assigned_kind (Some AReadPointer) = AReadPointer
assigned_kind _ = Unknown

abbrev pub assignable : Option Kind → List ℕ
assignable (Some ANumber) = []
assignable (Some AReadPointer) = []
assignable (Some Unknown) = []
assignable (Some _) = 2 ∷ []
assignable None = 1 ∷ []

-- ---- statements: C1 to C4

-- what is known behind a statement in its block
abbrev pub known_after : Stmt → Known → Known
known_after (DeclNumber x e) known = (x, ANumber) ∷ known
known_after (DeclPointer x e) known = (x, AReadPointer) ∷ known
known_after (Assign x e) known = known
known_after (Store x i e) known = known
known_after (SetCell x c e) known = known
known_after (If' t s ys u ns) known = known
known_after (For' x b s body) known = known
known_after (Return e) known = known

-- the rules that a statement breaks by itself, without those inside it
abbrev pub own_rules : Around → Known → Stmt → List ℕ
own_rules around known (DeclNumber x e) = source_broken around known ANumber e
own_rules around known (DeclPointer x e) = broken_as AReadPointer around.structs known e
own_rules around known (Assign x e) = assignable (kind_in known x) ++ source_broken around known (assigned_kind (kind_in known x)) e ++ unless (not (is_among around.loops x)) 4
own_rules around known (Store x i e) = asked AWritePointer (kind_in known x) ++ broken_as ANumber around.structs known i ++ broken_as ANumber around.structs known e
own_rules around known (SetCell x c e) = asked_cell around.structs (kind_in known x) c ++ broken_as (member around.structs (kind_in known x) c) around.structs known e
own_rules around known (If' t s ys u ns) = broken_as ATruth around.structs known t
own_rules around known (For' x b s body) = asked ANumber (kind_in known b)
own_rules around known (Return e) = broken_as ANumber around.structs known e

abbrev mutual
  pub stmt_faults : Around → Known → Stmt → Place → List Fault
  stmt_faults around known (DeclNumber x e) p = at_place p (own_rules around known (DeclNumber x e))
  stmt_faults around known (DeclPointer x e) p = at_place p (own_rules around known (DeclPointer x e))
  stmt_faults around known (Assign x e) p = at_place p (own_rules around known (Assign x e))
  stmt_faults around known (Store x i e) p = at_place p (own_rules around known (Store x i e))
  stmt_faults around known (SetCell x c e) p = at_place p (own_rules around known (SetCell x c e))
  stmt_faults around known (If' t s ys u ns) p =
      at_place p (own_rules around known (If' t s ys u ns)) ++ row_faults around known ys (shifted p 1) ++ row_faults around known ns (shifted p (1 + count_in ys))
  stmt_faults around known (For' x b s body) p =
      at_place p (own_rules around known (For' x b s body)) ++ row_faults (in_loop around x b) ((x, ANumber) ∷ known) body (shifted p 1)
  stmt_faults around known (Return e) p = at_place p (own_rules around known (Return e))

  pub row_faults : {n : _} → Around → Known → Row_of-Stmt n → Place → List Fault
  row_faults around known end_of-Stmt p = []
  row_faults around known (more_of-Stmt s rest) p = stmt_faults around known s p ++ row_faults around (known_after s known) rest (shifted p (count_of s))

abbrev pub block_faults : Around → Known → List Stmt → Place → List Fault
block_faults around known [] p = []
block_faults around known (s ∷ rest) p = stmt_faults around known s p ++ block_faults around (known_after s known) rest (shifted p (count_of s))

-- ---- C5: the last statement is a return, or an if whose blocks end so

abbrev mutual
  pub returns : Stmt → Bool
  returns (Return e) = true
  returns (If' t s ys u ns) = row_returns ys && row_returns ns
  returns (DeclNumber x e) = false
  returns (DeclPointer x e) = false
  returns (Assign x e) = false
  returns (Store x i e) = false
  returns (SetCell x c e) = false
  returns (For' x b s body) = false

  pub row_returns : {n : _} → Row_of-Stmt n → Bool
  row_returns end_of-Stmt = false
  row_returns (more_of-Stmt s end_of-Stmt) = returns s
  row_returns (more_of-Stmt s (more_of-Stmt t rest)) = row_returns (more_of-Stmt t rest)

abbrev pub block_returns : List Stmt → Bool
block_returns [] = false
block_returns (s ∷ []) = returns s
block_returns (s ∷ (t ∷ rest)) = block_returns (t ∷ rest)

-- ---- C6: names that are given twice

-- the variables that statements declare, each with its place
pub record Naming : Type 0 where
  pub name : Name
  pub place : Place

abbrev mutual
  pub named_by : Stmt → Place → List Naming
  named_by (DeclNumber x e) p = record { name = x; place = p } ∷ []
  named_by (DeclPointer x e) p = record { name = x; place = p } ∷ []
  named_by (For' x b s body) p = record { name = x; place = p } ∷ named_in_row body (shifted p 1)
  named_by (If' t s ys u ns) p = named_in_row ys (shifted p 1) ++ named_in_row ns (shifted p (1 + count_in ys))
  named_by (Assign x e) p = []
  named_by (Store x i e) p = []
  named_by (SetCell x c e) p = []
  named_by (Return e) p = []

  pub named_in_row : {n : _} → Row_of-Stmt n → Place → List Naming
  named_in_row end_of-Stmt p = []
  named_in_row (more_of-Stmt s rest) p = named_by s p ++ named_in_row rest (shifted p (count_of s))

abbrev pub named_in : List Stmt → Place → List Naming
named_in [] p = []
named_in (s ∷ rest) p = named_by s p ++ named_in rest (shifted p (count_of s))

-- each name that stands among the earlier ones, at its own place
abbrev pub twice : List Name → List Naming → List Fault
twice earlier [] = []
twice earlier (n ∷ ns) = at_place n.place (unless (not (is_among earlier n.name)) 6) ++ twice (n.name ∷ earlier) ns

abbrev pub head_names : Place → List Name → List Naming
head_names p names = map (λ x. record { name = x; place = p }) names

-- ---- items

abbrev pub params_known : List Param → Known
params_known params = map (λ q. (q.name, param_kind q.kind)) params

-- C1 for the structs of parameters
abbrev pub param_broken : List Name → ParamKind → List ℕ
param_broken structs NumberParam = []
param_broken structs ReadPointerParam = []
param_broken structs WritePointerParam = []
param_broken structs (StructParam s) = unless (is_among structs s) 1

-- what an item breaks, with the items before it, it and the items behind it, and its number
abbrev pub item_faults : List CItem → CItem → List CItem → ℕ → List Fault
item_faults before (AStructDecl s) from at =
    let head : Place = record { item = at; statement = 0 } in
    at_place head (unless (not (is_among (struct_names before) s.name)) 6) ++ twice [] (head_names head (map (λ c. c.name) s.cells))
item_faults before (AFunction f) from at =
    let head : Place = record { item = at; statement = 0 } in
    let first : Place = record { item = at; statement = 1 } in
    let around : Around = record { structs = structs_of before; earlier = functions_of before; later = functions_of from; loops = [] } in
    at_place head (flat_map (λ q. param_broken (struct_names before) q.kind) f.params ++ unless (block_returns f.body) 5 ++ unless (not (is_among (function_names before) f.name)) 6) ++
    twice [] (head_names head (map (λ q. q.name) f.params) ++ named_in f.body first) ++
    block_faults around (params_known f.params) f.body first

abbrev pub faults_from : List CItem → List CItem → ℕ → List Fault
faults_from before [] at = []
faults_from before (i ∷ is) at = item_faults before i (i ∷ is) at ++ faults_from (before ++ i ∷ []) is (at + 1)

-- ---- C7: the longest chain of calls

-- the longest or heaviest chain that begins with a function, for the functions known so far
abbrev pub Chains : Type 0
Chains = Name → ℕ

abbrev pub source_chain : Chains → Source → ℕ
source_chain chains (FromValue e) = 0
source_chain chains (FromCall g args) = chains g

abbrev mutual
  pub chain_of : Chains → Stmt → ℕ
  chain_of chains (DeclNumber x e) = source_chain chains e
  chain_of chains (DeclPointer x e) = 0
  chain_of chains (Assign x e) = source_chain chains e
  chain_of chains (Store x i e) = 0
  chain_of chains (SetCell x c e) = 0
  chain_of chains (If' t s ys u ns) = max (chain_in chains ys) (chain_in chains ns)
  chain_of chains (For' x b s body) = chain_in chains body
  chain_of chains (Return e) = 0

  pub chain_in : {n : _} → Chains → Row_of-Stmt n → ℕ
  chain_in chains end_of-Stmt = 0
  chain_in chains (more_of-Stmt s rest) = max (chain_of chains s) (chain_in chains rest)

abbrev pub block_chain : Chains → List Stmt → ℕ
block_chain chains [] = 0
block_chain chains (s ∷ rest) = max (chain_of chains s) (block_chain chains rest)

abbrev pub with_chain : Name → ℕ → Chains → Chains
with_chain g n chains h = if bytes_eq g h then n else chains h

-- the most of any chain of calls, where each function of a chain counts by its weight
abbrev pub heaviest_from : (Function → ℕ) → Chains → ℕ → List CItem → ℕ
heaviest_from weight chains most [] = most
heaviest_from weight chains most (AStructDecl s ∷ is) = heaviest_from weight chains most is
heaviest_from weight chains most (AFunction f ∷ is) =
    let here : ℕ = weight f + block_chain chains f.body in heaviest_from weight (with_chain f.name here chains) (max most here) is

abbrev pub heaviest_of : (Function → ℕ) → List CItem → ℕ
heaviest_of weight items = heaviest_from weight (λ g. 0) 0 items

-- the longest chain of calls: 1 for functions without calls, and 0 without functions
abbrev pub call_depth_of : List CItem → ℕ
call_depth_of items = heaviest_of (λ f. 1) items

-- ---- the variables of a chain of calls

-- how many variables a statement declares, those inside counted
abbrev mutual
  pub declared_by : Stmt → ℕ
  declared_by (DeclNumber x e) = 1
  declared_by (DeclPointer x e) = 1
  declared_by (Assign x e) = 0
  declared_by (Store x i e) = 0
  declared_by (SetCell x c e) = 0
  declared_by (If' t s ys u ns) = declared_in ys + declared_in ns
  declared_by (For' x b s body) = 1 + declared_in body
  declared_by (Return e) = 0

  pub declared_in : {n : _} → Row_of-Stmt n → ℕ
  declared_in end_of-Stmt = 0
  declared_in (more_of-Stmt s rest) = declared_by s + declared_in rest

abbrev pub block_declares : List Stmt → ℕ
block_declares [] = 0
block_declares (s ∷ rest) = declared_by s + block_declares rest

-- the variables and parameters of a function
abbrev pub variables_of : Function → ℕ
variables_of f = length f.params + block_declares f.body

-- the most variables and parameters that the functions of one chain of calls have together
abbrev pub spaces_of : List CItem → ℕ
spaces_of items = heaviest_of variables_of items

-- ---- programs

abbrev pub depth_fault : Program → List Fault
depth_fault p = map (λ r. record { rule = r; item = 0; statement = 0 }) (unless (nat_eq p.depth (call_depth_of p.items)) 7)

abbrev pub faults_of : Program → List Fault
faults_of p = faults_from [] p.items 0 ++ depth_fault p

pub record IsValid (p : Program) : Type 0 where
  pub sound : faults_from [] p.items 0 ≡ []
  pub depth : p.depth ≡ call_depth_of p.items

-- the order of faults: by item, then statement, then rule
abbrev pub is_in_order : Fault → Fault → Bool
is_in_order a b = if nat_eq a.item b.item then (if nat_eq a.statement b.statement then nat_lt a.rule b.rule else nat_lt a.statement b.statement) else nat_lt a.item b.item

abbrev pub earlier : Option Fault → Fault → Option Fault
earlier None f = Some f
earlier (Some g) f = if is_in_order f g then Some f else Some g

-- the first of one that may be there already and of these
abbrev pub first_of : Option Fault → List Fault → Option Fault
first_of o [] = o
first_of o (f ∷ fs) = first_of (earlier o f) fs

-- C7 comes behind all others
abbrev pub IsBefore : Fault → Fault → Type 0
IsBefore a b = (a.rule < 7) × ((b.rule ≡ 7) ⊎ ((b.rule < 7) × (is_in_order a b ≡ true)))

-- the fault that is named: the first broken rule
pub record IsFirstFault (p : Program) (f : Fault) : Type 0 where
  pub broken : Contains (faults_of p) f
  pub first : (g : Fault) → Contains (faults_of p) g → (g ≡ f) ⊎ IsBefore f g

-- whether an item is valid behind these items
pub record IsValidAfter (before : List CItem) (item : CItem) : Type 0 where
  pub sound : item_faults before item (item ∷ []) (length before) ≡ []
