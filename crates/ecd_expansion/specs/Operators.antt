-- Ranges and controls, by the shapes of their two sides (RFC 8610, sections 2.2.2.1, 3.8.1, 3.8.4 and 3.8.6).
use Rattle.std.specs.Prelude.{ℕ, zero, suc, ◌-◌, ◌^◌, Bool, true, false, ◌&&◌, ◌==◌, nat_le, min, bytes_eq, if◌then◌else◌, List, [], ◌∷◌, ◌++◌, flat_map, reverse, map, Option, Some, None, ℤ, pos, negsuc, codes}
use Rattle.ecd_syntax.specs.declared.tree.OpKind.{OpKind}
use Rattle.ecd_syntax.specs.declared.tree.OpKind.TheVariants as ops
use Rattle.ecd_core.specs.declared.shape.Shape.{Shape}
use Rattle.ecd_core.specs.declared.shape.Kind.{Kind}
use Rattle.ecd_core.specs.declared.shape.Kind.TheVariants as k
use Rattle.ecd_core.specs.Nodes.{shape_at}
use Rattle.ecd_expansion.specs.declared.rule.ElabRule.TheVariants.{E1, E2, U2}
use Rattle.ecd_expansion.specs.Told.{Told, told, refused}
use Rattle.ecd_expansion.specs.Leaves.{greatest_argument, gives}

-- the shape of some alternatives: a choice, but the only one is itself. A choice stands where its first alternative does
abbrev pub shape_of : ℕ → List Shape → Shape
shape_of at [] = shape_at at (k.Choice [])
shape_of at (shape ∷ []) = shape
shape_of at (shape ∷ other ∷ rest) = shape_at shape.at (k.Choice (shape ∷ other ∷ rest))

-- ---- integers

-- the integers from the one to the other
pub record Interval : Type 0 where
  pub from : ℤ
  pub to : ℤ

abbrev pub interval : ℤ → ℤ → Interval
interval from to = record { from = from; to = to }

abbrev pub next_below : ℤ → ℤ
next_below (pos zero) = negsuc zero
next_below (pos (suc n)) = pos n
next_below (negsuc n) = negsuc (suc n)

abbrev pub next_above : ℤ → ℤ
next_above (pos n) = pos (suc n)
next_above (negsuc zero) = pos zero
next_above (negsuc (suc n)) = negsuc n

-- the least and the greatest integer that an item may be
abbrev pub least_integer : ℤ
least_integer = negsuc greatest_argument

abbrev pub greatest_integer : ℤ
greatest_integer = pos greatest_argument

-- a run of arguments, where it is not empty
abbrev pub run : (ℕ → ℕ → Kind) → ℕ → ℕ → List Kind
run kind lo hi = if nat_le lo hi then kind lo hi ∷ [] else []

-- the integers of an interval that are not negative, by their arguments
abbrev pub uints_in : ℤ → ℤ → List Kind
uints_in (pos lo) (pos hi) = run k.Uint lo hi
uints_in (negsuc n) (pos hi) = run k.Uint 0 hi
uints_in from (negsuc n) = []

-- and those that are negative: a greater integer has a lesser argument
abbrev pub nints_in : ℤ → ℤ → List Kind
nints_in (negsuc hi) (negsuc lo) = run k.Nint lo hi
nints_in (negsuc hi) (pos n) = run k.Nint 0 hi
nints_in (pos n) to = []

-- ---- sides

abbrev pub kinds : List Shape → List Kind
kinds shapes = map (λ (shape : Shape). shape.kind) shapes

-- the one integer that the alternatives are
abbrev pub kind_integer : Kind → Option ℤ
kind_integer (k.Uint lo hi) = if lo == hi then Some (pos lo) else None
kind_integer (k.Nint lo hi) = if lo == hi then Some (negsuc lo) else None
kind_integer _ = None

abbrev pub integer_of : List Kind → Option ℤ
integer_of (kind ∷ []) = kind_integer kind
integer_of _ = None

-- what an operator may stand on: whole types, and what is none of them
pub data Target : Type 0 where
  WholeUint : Target
  WholeNint : Target
  WholeInt : Target
  WholeBytes : Target
  WholeText : Target
  AnotherType : Target

abbrev pub is_whole : ℕ → ℕ → Bool
is_whole lo hi = lo == 0 && hi == greatest_argument

abbrev pub kind_target : Kind → Target
kind_target (k.Uint lo hi) = if is_whole lo hi then WholeUint else AnotherType
kind_target (k.Nint lo hi) = if is_whole lo hi then WholeNint else AnotherType
kind_target (k.Bytes lo hi) = if is_whole lo hi then WholeBytes else AnotherType
kind_target (k.Text lo hi) = if is_whole lo hi then WholeText else AnotherType
kind_target _ = AnotherType

-- all of `uint` and then all of `nint`
abbrev pub pair_target : Target → Target → Target
pair_target WholeUint WholeNint = WholeInt
pair_target _ _ = AnotherType

abbrev pub target_of : List Kind → Target
target_of (kind ∷ []) = kind_target kind
target_of (kind ∷ other ∷ []) = pair_target (kind_target kind) (kind_target other)
target_of _ = AnotherType

-- ---- what an operator gives: kinds, or a rule that it breaks; nothing is no kind at all
pub data Operated : Type 0 where
  Kinds : List Kind → Operated
  Misplaced : Operated

-- `..` holds its upper bound, `...` does not
abbrev pub range_between : Option ℤ → Option ℤ → Operated
range_between (Some from) (Some to) = Kinds (uints_in from to ++ nints_in from to)
range_between _ _ = Misplaced

abbrev pub below_of : Option ℤ → Option ℤ
below_of None = None
below_of (Some i) = Some (next_below i)

-- `.size` on `uint`: the integers of so many bytes, and all of them from 8 bytes on
abbrev pub bytes_bound : ℕ → ℕ
bytes_bound n = 256 ^ min n 8 - 1

abbrev pub uint_sized : List Kind → Operated
uint_sized (k.Uint lo hi ∷ []) = if lo == hi then Kinds (k.Uint 0 (bytes_bound lo) ∷ []) else Misplaced
uint_sized _ = Misplaced

-- on a string it bounds the number of bytes
abbrev pub string_sized : (ℕ → ℕ → Kind) → List Kind → Operated
string_sized kind (k.Uint lo hi ∷ []) = Kinds (kind lo hi ∷ [])
string_sized kind _ = Misplaced

abbrev pub sized : Target → List Kind → Operated
sized WholeUint controller = uint_sized controller
sized WholeBytes controller = string_sized k.Bytes controller
sized WholeText controller = string_sized k.Text controller
sized _ controller = Misplaced

-- `.cbor` on `bstr`: the contents are the encoding of one item
abbrev pub embedded : Target → Shape → Operated
embedded WholeBytes inner = Kinds (k.Cbor inner ∷ [])
embedded _ inner = Misplaced

-- ---- comparisons

pub data Comparison : Type 0 where
  Lt : Comparison
  Le : Comparison
  Gt : Comparison
  Ge : Comparison
  Eq : Comparison
  Ne : Comparison

-- the integers that compare so with the controller, in ascending intervals
abbrev pub comparing : Comparison → ℤ → List Interval
comparing Lt i = interval least_integer (next_below i) ∷ []
comparing Le i = interval least_integer i ∷ []
comparing Gt i = interval (next_above i) greatest_integer ∷ []
comparing Ge i = interval i greatest_integer ∷ []
comparing Eq i = interval i i ∷ []
comparing Ne i = interval least_integer (next_below i) ∷ interval (next_above i) greatest_integer ∷ []

abbrev pub uint_runs : List Interval → List Kind
uint_runs is = flat_map (λ i. uints_in i.from i.to) is

-- by ascending arguments, so by descending integers
abbrev pub nint_runs : List Interval → List Kind
nint_runs is = flat_map (λ i. nints_in i.from i.to) (reverse is)

-- the integers of the target in these intervals
abbrev pub runs_of : Target → List Interval → Operated
runs_of WholeUint is = Kinds (uint_runs is)
runs_of WholeNint is = Kinds (nint_runs is)
runs_of WholeInt is = Kinds (uint_runs is ++ nint_runs is)
runs_of _ is = Misplaced

abbrev pub compared : Comparison → Target → Option ℤ → Operated
compared comparison target None = Misplaced
compared comparison target (Some i) = runs_of target (comparing comparison i)

-- ---- operators by their names

pub data Operator : Type 0 where
  Closed : Operator
  HalfOpen : Operator
  Size : Operator
  Cbor : Operator
  Compare : Comparison → Operator
  Refused : Operator

-- the operator of a control's name, among these
abbrev pub named_among : List (List ℕ × Operator) → List ℕ → Operator
named_among [] name = Refused
named_among ((known, operator) ∷ rest) name = if bytes_eq known name then operator else named_among rest name

abbrev pub controls : List (List ℕ × Operator)
controls =
    (codes "size", Size) ∷ (codes "cbor", Cbor) ∷ (codes "lt", Compare Lt) ∷ (codes "le", Compare Le) ∷ (codes "gt", Compare Gt) ∷ (codes "ge", Compare Ge) ∷ (codes "eq", Compare Eq)
    ∷ (codes "ne", Compare Ne) ∷ []

abbrev pub operator_of : OpKind → Operator
operator_of ops.RangeClosed = Closed
operator_of ops.RangeHalf = HalfOpen
operator_of (ops.Control name) = named_among controls name.text

-- what an operator gives of its sides; the place is the right one's, for a choice of nothing
abbrev pub operated : Operator → ℕ → List Shape → List Shape → Operated
operated Closed at left right = range_between (integer_of (kinds left)) (integer_of (kinds right))
operated HalfOpen at left right = range_between (integer_of (kinds left)) (below_of (integer_of (kinds right)))
operated Size at left right = sized (target_of (kinds left)) (kinds right)
operated Cbor at left right = embedded (target_of (kinds left)) (shape_of at right)
operated (Compare comparison) at left right = compared comparison (target_of (kinds left)) (integer_of (kinds right))
operated Refused at left right = Misplaced

-- what it gives stands at the first token of the choice, and what it breaks at the operator
abbrev pub operated_told : ℕ → ℕ → Operated → Told (List Shape)
operated_told at operator_at Misplaced = refused operator_at E1
operated_told at operator_at (Kinds []) = refused operator_at E2
operated_told at operator_at (Kinds (kind ∷ more)) = told (map (shape_at at) (kind ∷ more))
