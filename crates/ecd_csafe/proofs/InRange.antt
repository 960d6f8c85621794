-- Expressions of spelled code give values in range, and events in range leave a memory in range.
use Rattle.std.proofs.Common.{ℕ, zero, suc, ◌+◌, ◌-◌, ◌*◌, ◌/◌, ◌%◌, ◌^◌, ◌<◌, List, [], ◌∷◌, ◌++◌, take, arith, Bool, true, false}
use Rattle.std.specs.Prelude.{Option, Some, None, slice_get, slice_set, nat_lt, nat_le, length, if◌then◌else◌, bytes_eq, bit_and}
use Rattle.std.specs.List.{All, AllByRecursion}
use Rattle.std.proofs.Math.Nat.{div-le_self}
use Rattle.std.proofs.lemmas.Nat.{and_le_l, or_lt}
use Rattle.std.proofs.lemmas.List.Elements.{All-from_recursion, recursion_from_All, All-set}
use Rattle.ecd_cast.specs.declared.tree.Op.{Op}
use Rattle.ecd_cast.specs.declared.tree.Op.TheVariants.{Add, Sub, Mul, Shl, Shr, BitAnd, BitOr, Eq, Ne, Lt, Le, Gt, Ge, And, Or}
use Rattle.ecd_cast.specs.declared.tree.Expr.{Expr, Row_of-Expr, end_of-Expr, more_of-Expr}
use Rattle.ecd_cast.specs.declared.tree.Expr.TheVariants.{Number, Var, Cell as CellOf, Load', Binary', Not'}
use Rattle.ecd_cast.specs.declared.value.Cell.{Cell}
use Rattle.ecd_cast.specs.declared.value.Cell.TheVariants.{Unset, Number as HoldsNumber, Bytes as HoldsPointer}
use Rattle.ecd_cast.specs.declared.value.Value.{Value}
use Rattle.ecd_cast.specs.declared.value.Value.TheVariants.{Number as Num, Truth, Bytes as Ptr, Struct as Str}
use Rattle.ecd_cast.specs.Memory.{Name, Memory, Block, Bytes, Cells, Event, Step, Enters, Leaves, WritesByte, WritesCell, with_cell, with_byte_in, with_cell_in, event, after}
use Rattle.ecd_cast.specs.Expressions.{Outcome, Gives, Fails, Frame, Scopes, in_frame, or_else, lookup, given, with_value, modulus, on_numbers, moved, on_pointer, applied, given_byte, byte_in, load, held, cell_named, cell_in, cell, negated, must_be_truth, both, either, binary, value_of, operand}
use Rattle.ecd_cast.specs.Spelling.{IsSpelledExpr, IsSpelledOperand}
use Rattle.ecd_csafe.specs.Ranges.{IsNumber, IsByte, IsValueInRange, IsCellInRange, IsBlockInRange, IsMemoryInRange, IsEventInRange}

-- ---- lists

abbrev pub IfThere : {X : Type 0} → (X → Type 0) → Option X → Type 0
IfThere P None = Unit {0}
IfThere P (Some x) = P x

got : {X : Type 0} (P : X → Type 0) (xs : List X) (k : ℕ) → AllByRecursion P xs → IfThere P (slice_get xs k)
got P [] k h = tt
got P (x ∷ xs) zero h = h.0
got P (x ∷ xs) (suc k) h = got P xs k h.1

pub there : {X : Type 0} (P : X → Type 0) (xs : List X) (k : ℕ) → All P xs → IfThere P (slice_get xs k)
there P xs k h = got P xs k (recursion_from_All P xs h)

-- ---- variables

abbrev pub AreIn : Frame → Type 0
AreIn [] = Unit {0}
AreIn (v ∷ vs) = IsValueInRange v.1 × AreIn vs

abbrev pub ScopesIn : Scopes → Type 0
ScopesIn [] = Unit {0}
ScopesIn (f ∷ fs) = AreIn f × ScopesIn fs

frame_in : (f : Frame) (x : Name) → AreIn f → IfThere IsValueInRange (in_frame f x)
frame_in [] x h = tt
frame_in (v ∷ vs) x h = by_test (bytes_eq v.0 x) (frame_in vs x h.1)
  where
    by_test : (t : Bool) → IfThere IsValueInRange (in_frame vs x) → IfThere IsValueInRange (if t then Some v.1 else in_frame vs x)
    by_test true k = h.0
    by_test false k = k

pub lookup_in : (env : Scopes) (x : Name) → ScopesIn env → IfThere IsValueInRange (lookup env x)
lookup_in [] x h = tt
lookup_in (f ∷ fs) x h = by_frame (in_frame f x) (frame_in f x h.0) (lookup_in fs x h.1)
  where
    by_frame : (o : Option Value) → IfThere IsValueInRange o → IfThere IsValueInRange (lookup fs x) → IfThere IsValueInRange (or_else o (lookup fs x))
    by_frame (Some v) k l = k
    by_frame None k l = l

-- ---- outcomes

abbrev pub OutcomeIn : Outcome → Type 0
OutcomeIn (Gives v) = IsValueInRange v
OutcomeIn (Fails r) = Unit {0}

pub given_in : (o : Option Value) → IfThere IsValueInRange o → OutcomeIn (given o)
given_in None h = tt
given_in (Some v) h = h

value_then : (o : Outcome) (f : Value → Outcome) → OutcomeIn o → ((v : Value) → IsValueInRange v → OutcomeIn (f v)) → OutcomeIn (with_value o f)
value_then (Gives v) f h g = g v h
value_then (Fails r) f h g = tt

-- ---- numbers

shifted_left : (t : Bool) (a b : ℕ) → OutcomeIn (if t then Gives (Num ((a * 2 ^ b) % modulus)) else Fails 4)
shifted_left true a b = let n : ℕ = a * 2 ^ b in let below : n % modulus < modulus = omega arith in below
shifted_left false a b = tt

shifted_right : (t : Bool) (a b : ℕ) → IsNumber a → OutcomeIn (if t then Gives (Num (a / 2 ^ b)) else Fails 4)
shifted_right true a b h = let below : a / 2 ^ b < 2 ^ 64 = omega (arith, h, div-le_self a (2 ^ b)) in below
shifted_right false a b h = tt

numbers_in : (op : Op) (a b : ℕ) → IsNumber a → IsNumber b → OutcomeIn (on_numbers op a b)
numbers_in Add a b h k = let below : (a + b) % modulus < modulus = omega arith in below
numbers_in Sub a b h k = let below : (a + modulus - b) % modulus < modulus = omega arith in below
numbers_in Mul a b h k = let n : ℕ = a * b in let below : n % modulus < modulus = omega arith in below
numbers_in Shl a b h k = shifted_left (nat_lt b 64) a b
numbers_in Shr a b h k = shifted_right (nat_lt b 64) a b h
numbers_in BitAnd a b h k = let below : bit_and a b < 2 ^ 64 = omega (arith, h, and_le_l a b) in below
numbers_in BitOr a b h k = or_lt 64 a b h k
numbers_in Eq a b h k = tt
numbers_in Ne a b h k = tt
numbers_in Lt a b h k = tt
numbers_in Le a b h k = tt
numbers_in Gt a b h k = tt
numbers_in Ge a b h k = tt
numbers_in And a b h k = tt
numbers_in Or a b h k = tt

-- ---- pointers

moved_in : (o : Option Block) (block offset n : ℕ) → OutcomeIn (moved o block offset n)
moved_in (Some (Bytes bytes)) block offset n = by_test (nat_le (offset + n) (length bytes))
  where
    by_test : (t : Bool) → OutcomeIn (if t then Gives (Ptr block (offset + n)) else Fails 3)
    by_test true = tt
    by_test false = tt
moved_in (Some (Cells cells)) block offset n = tt
moved_in None block offset n = tt

pointer_in : (op : Op) (m : Memory) (block offset n : ℕ) → OutcomeIn (on_pointer op m block offset n)
pointer_in Add m block offset n = moved_in (slice_get m block) block offset n
pointer_in Sub m block offset n = tt
pointer_in Mul m block offset n = tt
pointer_in Shl m block offset n = tt
pointer_in Shr m block offset n = tt
pointer_in BitAnd m block offset n = tt
pointer_in BitOr m block offset n = tt
pointer_in Eq m block offset n = tt
pointer_in Ne m block offset n = tt
pointer_in Lt m block offset n = tt
pointer_in Le m block offset n = tt
pointer_in Gt m block offset n = tt
pointer_in Ge m block offset n = tt
pointer_in And m block offset n = tt
pointer_in Or m block offset n = tt

applied_in : (m : Memory) (op : Op) (v w : Value) → IsValueInRange v → IsValueInRange w → OutcomeIn (applied m op v w)
applied_in m op (Num a) (Num b) h k = numbers_in op a b h k
applied_in m op (Ptr block offset) (Num n) h k = pointer_in op m block offset n
applied_in m op (Num a) (Truth t) h k = tt
applied_in m op (Num a) (Ptr c o) h k = tt
applied_in m op (Num a) (Str c) h k = tt
applied_in m op (Ptr block offset) (Truth t) h k = tt
applied_in m op (Ptr block offset) (Ptr c o) h k = tt
applied_in m op (Ptr block offset) (Str c) h k = tt
applied_in m op (Truth t) w h k = tt
applied_in m op (Str block) w h k = tt

-- ---- bytes and cells

byte_given : (o : Option ℕ) → IfThere IsByte o → OutcomeIn (given_byte o)
byte_given (Some b) h = let below : b < 2 ^ 64 = omega (arith, h) in below
byte_given None h = tt

byte_there : (o : Option Block) (at_ : ℕ) → IfThere IsBlockInRange o → OutcomeIn (byte_in o at_)
byte_there (Some (Bytes bytes)) at_ h = byte_given (slice_get bytes at_) (there IsByte bytes at_ h)
byte_there (Some (Cells cells)) at_ h = tt
byte_there None at_ h = tt

load_in : (m : Memory) (p i : Value) → IsMemoryInRange m → OutcomeIn (load m p i)
load_in m (Ptr block offset) (Num i) h = byte_there (slice_get m block) (offset + i) (there IsBlockInRange m block h)
load_in m (Ptr block offset) (Truth t) h = tt
load_in m (Ptr block offset) (Ptr c o) h = tt
load_in m (Ptr block offset) (Str c) h = tt
load_in m (Num n) i h = tt
load_in m (Truth t) i h = tt
load_in m (Str block) i h = tt

held_in : (c : Cell) → IsCellInRange c → OutcomeIn (held c)
held_in Unset h = tt
held_in (HoldsNumber n) h = h
held_in (HoldsPointer block offset) h = tt

named_in : (cells : List (Name × Cell)) (x : Name) → AllByRecursion (λ c. IsCellInRange c.1) cells → OutcomeIn (cell_named cells x)
named_in [] x h = tt
named_in (w ∷ ws) x h = by_test (bytes_eq w.0 x) (named_in ws x h.1)
  where
    by_test : (t : Bool) → OutcomeIn (cell_named ws x) → OutcomeIn (if t then held w.1 else cell_named ws x)
    by_test true k = held_in w.1 h.0
    by_test false k = k

cell_there : (o : Option Block) (x : Name) → IfThere IsBlockInRange o → OutcomeIn (cell_in o x)
cell_there (Some (Cells cells)) x h = named_in cells x (recursion_from_All (λ c. IsCellInRange c.1) cells h)
cell_there (Some (Bytes bytes)) x h = tt
cell_there None x h = tt

cell_of_in : (m : Memory) (x : Name) (v : Value) → IsMemoryInRange m → OutcomeIn (cell m x v)
cell_of_in m x (Str block) h = cell_there (slice_get m block) x (there IsBlockInRange m block h)
cell_of_in m x (Num n) h = tt
cell_of_in m x (Truth t) h = tt
cell_of_in m x (Ptr block offset) h = tt

-- ---- truths

negated_in : (v : Value) → OutcomeIn (negated v)
negated_in (Truth t) = tt
negated_in (Num n) = tt
negated_in (Ptr block offset) = tt
negated_in (Str block) = tt

truth_in : (v : Value) → OutcomeIn (must_be_truth v)
truth_in (Truth t) = tt
truth_in (Num n) = tt
truth_in (Ptr block offset) = tt
truth_in (Str block) = tt

both_in : (v : Value) (b : Outcome) → OutcomeIn b → OutcomeIn (both v (λ _. b))
both_in (Truth true) b h = value_then b must_be_truth h (λ w k. truth_in w)
both_in (Truth false) b h = tt
both_in (Num n) b h = tt
both_in (Ptr block offset) b h = tt
both_in (Str block) b h = tt

either_in : (v : Value) (b : Outcome) → OutcomeIn b → OutcomeIn (either v (λ _. b))
either_in (Truth false) b h = value_then b must_be_truth h (λ w k. truth_in w)
either_in (Truth true) b h = tt
either_in (Num n) b h = tt
either_in (Ptr block offset) b h = tt
either_in (Str block) b h = tt

-- ---- expressions

two_in : (m : Memory) (op : Op) (a b : Outcome) → OutcomeIn a → OutcomeIn b → OutcomeIn (with_value a (λ v. with_value b (λ w. applied m op v w)))
two_in m op a b h k = value_then a _ h (λ v hv. value_then b _ k (λ w hw. applied_in m op v w hv hw))

binary_in : (m : Memory) (op : Op) (a b : Outcome) → OutcomeIn a → OutcomeIn b → OutcomeIn (binary m op a (λ _. b))
binary_in m And a b h k = value_then a _ h (λ v hv. both_in v b k)
binary_in m Or a b h k = value_then a _ h (λ v hv. either_in v b k)
binary_in m Add a b h k = two_in m Add a b h k
binary_in m Sub a b h k = two_in m Sub a b h k
binary_in m Mul a b h k = two_in m Mul a b h k
binary_in m Shl a b h k = two_in m Shl a b h k
binary_in m Shr a b h k = two_in m Shr a b h k
binary_in m BitAnd a b h k = two_in m BitAnd a b h k
binary_in m BitOr a b h k = two_in m BitOr a b h k
binary_in m Eq a b h k = two_in m Eq a b h k
binary_in m Ne a b h k = two_in m Ne a b h k
binary_in m Lt a b h k = two_in m Lt a b h k
binary_in m Le a b h k = two_in m Le a b h k
binary_in m Gt a b h k = two_in m Gt a b h k
binary_in m Ge a b h k = two_in m Ge a b h k

module _ (env : Scopes) (m : Memory) (known : ScopesIn env) (holds : IsMemoryInRange m) where
  mutual
    pub value_in : (e : Expr) → IsSpelledExpr e → OutcomeIn (value_of e env m)
    value_in (Number n) s = s
    value_in (Var x) s = given_in (lookup env x) (lookup_in env x known)
    value_in (CellOf x c) s = value_then (given (lookup env x)) (cell m c) (given_in (lookup env x) (lookup_in env x known)) (λ v h. cell_of_in m c v holds)
    value_in (Load' x n i) s = value_then (given (lookup env x)) _ (given_in (lookup env x) (lookup_in env x known)) (λ p h. value_then (operand i env m) (load m p) (operand_in i s.1) (λ v k. load_in m p v holds))
    value_in (Binary' op n a k b) s = binary_in m op (operand a env m) (operand b env m) (operand_in a s.0) (operand_in b s.1)
    value_in (Not' n a) s = value_then (operand a env m) negated (operand_in a s) (λ v h. negated_in v)

    operand_in : {n : _} (r : Row_of-Expr n) → IsSpelledOperand r → OutcomeIn (operand r env m)
    operand_in end_of-Expr s = tt
    operand_in (more_of-Expr e rest) s = value_in e s

-- ---- what is written

cells_with : (cells : List (Name × Cell)) (x : Name) (c : Cell) → IsCellInRange c → AllByRecursion (λ w. IsCellInRange w.1) cells → AllByRecursion (λ w. IsCellInRange w.1) (with_cell cells x c)
cells_with [] x c h k = tt
cells_with (w ∷ ws) x c h k = by_test (bytes_eq w.0 x) (cells_with ws x c h k.1)
  where
    by_test : (t : Bool) → AllByRecursion (λ v. IsCellInRange v.1) (with_cell ws x c) → AllByRecursion (λ v. IsCellInRange v.1) (if t then (x, c) ∷ ws else w ∷ with_cell ws x c)
    by_test true l = (h, k.1)
    by_test false l = (k.0, l)

byte_written : (m : Memory) (block offset byte : ℕ) (o : Option Block) → IfThere IsBlockInRange o → IsByte byte → IsMemoryInRange m → IsMemoryInRange (with_byte_in o offset byte m block)
byte_written m block offset byte (Some (Bytes bytes)) h b k = All-set IsBlockInRange m block (Bytes (slice_set bytes offset byte)) (All-set IsByte bytes offset byte b h) k
byte_written m block offset byte (Some (Cells cells)) h b k = k
byte_written m block offset byte None h b k = k

cell_written : (m : Memory) (block : ℕ) (x : Name) (c : Cell) (o : Option Block) → IfThere IsBlockInRange o → IsCellInRange c → IsMemoryInRange m → IsMemoryInRange (with_cell_in o x c m block)
cell_written m block x c (Some (Cells cells)) h r k =
    let whole = cells_with cells x c r (recursion_from_All (λ w. IsCellInRange w.1) cells h) in
    All-set IsBlockInRange m block (Cells (with_cell cells x c)) (All-from_recursion (λ w. IsCellInRange w.1) (with_cell cells x c) whole) k
cell_written m block x c (Some (Bytes bytes)) h r k = k
cell_written m block x c None h r k = k

event_in : (e : Event) (m : Memory) → IsEventInRange e → IsMemoryInRange m → IsMemoryInRange (event e m)
event_in (WritesByte block offset byte) m h k = byte_written m block offset byte (slice_get m block) (there IsBlockInRange m block k) h k
event_in (WritesCell block x c) m h k = cell_written m block x c (slice_get m block) (there IsBlockInRange m block k) h k
event_in Step m h k = k
event_in Enters m h k = k
event_in Leaves m h k = k

-- events in range
abbrev pub WritesIn : List Event → Type 0
WritesIn es = AllByRecursion IsEventInRange es

pub writes_then : (a b : List Event) → WritesIn a → WritesIn b → WritesIn (a ++ b)
writes_then [] b h k = k
writes_then (e ∷ a) b h k = (h.0, writes_then a b h.1 k)

pub after_in : (es : List Event) (m : Memory) → WritesIn es → IsMemoryInRange m → IsMemoryInRange (after es m)
after_in [] m h k = k
after_in (e ∷ es) m h k = after_in es (event e m) h.1 (event_in e m h.0 k)

-- and so each first part of them
pub first_in : (n : ℕ) (es : List Event) → WritesIn es → WritesIn (take n es)
first_in zero es h = tt
first_in (suc n) [] h = tt
first_in (suc n) (e ∷ es) h = (h.0, first_in n es h.1)
