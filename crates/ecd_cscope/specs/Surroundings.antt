-- What a program's judge keeps of what stands round a statement, as the definitions have it.
use Rattle.std.specs.Prelude.{ℕ, ◌+◌, not, flat_map, ◌≡◌, ◌<◌, ◌^◌, Bool, true, false, if◌then◌else◌, List, [], ◌∷◌, ◌++◌, Option, Some, None, bytes_eq, length, take, drop}
use Rattle.std.specs.BTreeMap.{BTreeMap}
use Rattle.std.specs.declared.vec.Vec.{Vec}
use Rattle.ecd_cast.specs.declared.tree.CItem.{CItem}
use Rattle.ecd_cast.specs.declared.tree.CItem.TheVariants.{Struct as AStructDecl, Function as AFunction}
use Rattle.ecd_cast.specs.declared.tree.StructDecl.{StructDecl}
use Rattle.ecd_cast.specs.declared.tree.Param.{Param}
use Rattle.ecd_cast.specs.declared.tree.Stmt.{Stmt}
use Rattle.ecd_cscope.specs.declared.directory.Directory.{Directory}
use Rattle.ecd_cscope.specs.declared.directory.Surroundings.{Surroundings}
use Rattle.ecd_cscope.specs.declared.directory.Found.{Found}
use Rattle.ecd_cast.specs.declared.tree.Function.{Function}
use Rattle.ecd_cast.specs.declared.tree.CellKind.{CellKind}
use Rattle.ecd_cast.specs.declared.tree.CellKind.TheVariants.{Number as NumberCell, Pointer as PointerCell}
use Rattle.ecd_cast.specs.Memory.{Name}
use Rattle.ecd_cast.specs.Kinds.{Kind, ANumber, AReadPointer, Known, takes, param_kind, unless, cell_among}
use Rattle.ecd_cast.specs.Validity.{Around, structs_of, functions_of, function_named, known_after, is_among, param_broken, struct_names, function_names, block_returns}
use Rattle.ecd_cast.specs.ByName.{under}
use Rattle.ecd_cscope.specs.Variables.{names_of}

-- ---- the numbers of functions and structs

-- the number of the first function of a name, where the first item has the number n
abbrev pub first_function : ℕ → List CItem → Name → Option ℕ
first_function n [] g = None
first_function n (AStructDecl s ∷ is) g = first_function (n + 1) is g
first_function n (AFunction f ∷ is) g = if bytes_eq f.name g then Some n else first_function (n + 1) is g

abbrev pub first_struct : ℕ → List CItem → Name → Option ℕ
first_struct n [] g = None
first_struct n (AStructDecl s ∷ is) g = if bytes_eq s.name g then Some n else first_struct (n + 1) is g
first_struct n (AFunction f ∷ is) g = first_struct (n + 1) is g

abbrev pub or_first : {X : Type 0} → Option X → Option X → Option X
or_first (Some n) o = Some n
or_first None o = o

abbrev pub struct_in : Option CItem → Option StructDecl
struct_in (Some (AStructDecl s)) = Some s
struct_in (Some (AFunction f)) = None
struct_in None = None

abbrev pub function_in : Option CItem → Option Function
function_in (Some (AStructDecl s)) = None
function_in (Some (AFunction f)) = Some f
function_in None = None

-- ---- cells

abbrev pub cell_kind : CellKind → Kind
cell_kind NumberCell = ANumber
cell_kind PointerCell = AReadPointer

-- the cells of an item, which only a struct has
abbrev pub cells_in : Option StructDecl → Name → Option Kind
cells_in None c = None
cells_in (Some s) c = cell_among s.cells c

abbrev pub cell_if : Option CellKind → Option Kind
cell_if None = None
cell_if (Some k) = Some (cell_kind k)

-- each item's map has the first cell of each name
abbrev pub HasCells : {A : Type 0} → List CItem → List (BTreeMap (Vec ℕ A) CellKind) → Type 0
HasCells [] [] = Unit {0}
HasCells (i ∷ is) (m ∷ ms) = ((c : Name) → cell_if (under m c) ≡ cells_in (struct_in (Some i)) c) × HasCells is ms
HasCells _ _ = ⊥

-- ---- surroundings

-- the directory has the first item of each name
pub record Directs (items : List CItem) (d : Directory) : Type 0 where
  pub functions_are : (g : Name) → under d.functions g ≡ first_function 0 items g
  pub structs_are : (g : Name) → under d.structs g ≡ first_struct 0 items g

-- the surroundings of an item that is there
pub record Surrounds (s : Surroundings) : Type 0 where
  pub directs : Directs s.items.now s.directory.now
  pub cells : HasCells s.items.now s.directory.now.cells.items
  pub there : s.at_ < length s.items.now
  pub few : length s.items.now < 2 ^ 32

abbrev pub IsFoundAs : List Function → List Function → Name → Function → Bool → Type 0
IsFoundAs earlier later g f true = function_named earlier g ≡ Some f
IsFoundAs earlier later g f false = (function_named earlier g ≡ None) × (function_named later g ≡ Some f)

abbrev pub structs_before : Surroundings → List StructDecl
structs_before s = structs_of (take s.at_ s.items.now)

-- what stands round a statement, by the variables and bounds of the loops round it
abbrev pub around_as : Surroundings → Known → Around
around_as s loops = record {
  structs = structs_before s;
  earlier = functions_of (take s.at_ s.items.now);
  later = functions_of (drop s.at_ s.items.now);
  loops = names_of loops;
}

-- the function of a name in the whole file, and whether it stands before the item
abbrev pub IsFound : Surroundings → Name → Option Found → Type 0
IsFound s g None = (function_named (functions_of (take s.at_ s.items.now)) g ≡ None) × (function_named (functions_of (drop s.at_ s.items.now)) g ≡ None)
IsFound s g (Some f) = IsFoundAs (functions_of (take s.at_ s.items.now)) (functions_of (drop s.at_ s.items.now)) g f.function.now f.is_earlier

-- the rules that a call breaks, by the function that is called and whether the arguments match its parameters
abbrev pub called_broken : Option Found → Bool → List ℕ
called_broken None fit = 1 ∷ []
called_broken (Some f) fit = unless fit 2 ++ unless f.is_earlier 3

abbrev pub params_in : Option Found → List Param
params_in None = []
params_in (Some f) = f.function.now.params

abbrev pub takes_at : Option Param → Kind → Bool
takes_at (Some p) k = takes (param_kind p.kind) k
takes_at None k = false

-- the variables that are known behind statements
abbrev pub known_behind : List Stmt → Known → Known
known_behind [] known = known
known_behind (s ∷ rest) known = known_behind rest (known_after s known)

-- the rules that the head of a function breaks, but for its names
abbrev pub head_rules : List CItem → Function → List ℕ
head_rules before f =
    flat_map (λ q. param_broken (struct_names before) q.kind) f.params ++ unless (block_returns f.body) 5 ++ unless (not (is_among (function_names before) f.name)) 6
