-- The value of an expression.
use Rattle.std.specs.Prelude.{ℕ, ◌+◌, ◌-◌, ◌*◌, ◌/◌, ◌%◌, ◌^◌, Bool, true, false, not, List, [], ◌∷◌, length, Option, Some, None, nat_lt, nat_le, nat_eq, if◌then◌else◌, slice_get, bit_and, bit_or, bytes_eq}
use Rattle.ecd_cast.specs.declared.tree.Op.{Op}
use Rattle.ecd_cast.specs.declared.tree.Op.TheVariants.{Add, Sub, Mul, Shl, Shr, BitAnd, BitOr, Eq, Ne, Lt, Le, Gt, Ge, And, Or}
use Rattle.ecd_cast.specs.declared.tree.Expr.{Expr, Row_of-Expr, end_of-Expr, more_of-Expr}
use Rattle.ecd_cast.specs.declared.tree.Expr.TheVariants.{Number, Var, Cell as CellOf, Load', Binary', Not'}
use Rattle.ecd_cast.specs.Memory.{Name, Memory, Block, Bytes, Cells, Cell, Unset, HoldsNumber, HoldsPointer, Value, Num, Truth, Ptr, Str}

-- a value, or the reason that there is none: 1 to 5 of the table, and 0 where a rule of validity is broken
pub data Outcome : Type 0 where
  Gives : Value → Outcome
  Fails : (reason : ℕ) → Outcome

-- the variables of the open blocks, the innermost first
abbrev pub Frame : Type 0
Frame = List (Name × Value)

abbrev pub Scopes : Type 0
Scopes = List Frame

abbrev pub in_frame : Frame → Name → Option Value
in_frame [] x = None
in_frame (v ∷ vs) x = if bytes_eq v.0 x then Some v.1 else in_frame vs x

abbrev pub or_else : Option Value → Option Value → Option Value
or_else (Some v) o = Some v
or_else None o = o

abbrev pub lookup : Scopes → Name → Option Value
lookup [] x = None
lookup (f ∷ fs) x = or_else (in_frame f x) (lookup fs x)

abbrev pub given : Option Value → Outcome
given None = Fails 0
given (Some v) = Gives v

abbrev pub with_value : Outcome → (Value → Outcome) → Outcome
with_value (Gives v) f = f v
with_value (Fails r) f = Fails r

-- ---- numbers, modulo 2^64

abbrev pub modulus : ℕ
modulus = 18446744073709551616

abbrev pub wrapped : ℕ → Outcome
wrapped n = Gives (Num (n % modulus))

abbrev pub truth : Bool → Outcome
truth b = Gives (Truth b)

abbrev pub on_numbers : Op → ℕ → ℕ → Outcome
on_numbers Add a b = wrapped (a + b)
on_numbers Sub a b = wrapped (a + modulus - b)
on_numbers Mul a b = wrapped (a * b)
on_numbers Shl a b = if nat_lt b 64 then wrapped (a * 2 ^ b) else Fails 4
on_numbers Shr a b = if nat_lt b 64 then Gives (Num (a / 2 ^ b)) else Fails 4
on_numbers BitAnd a b = Gives (Num (bit_and a b))
on_numbers BitOr a b = Gives (Num (bit_or a b))
on_numbers Eq a b = truth (nat_eq a b)
on_numbers Ne a b = truth (not (nat_eq a b))
on_numbers Lt a b = truth (nat_lt a b)
on_numbers Le a b = truth (nat_le a b)
on_numbers Gt a b = truth (nat_lt b a)
on_numbers Ge a b = truth (nat_le b a)
on_numbers And a b = Fails 0
on_numbers Or a b = Fails 0

-- ---- pointers: whole numbers, which never wrap

abbrev pub moved : Option Block → ℕ → ℕ → ℕ → Outcome
moved (Some (Bytes bytes)) block offset n = if nat_le (offset + n) (length bytes) then Gives (Ptr block (offset + n)) else Fails 3
moved _ block offset n = Fails 0

abbrev pub on_pointer : Op → Memory → ℕ → ℕ → ℕ → Outcome
on_pointer Add m block offset n = moved (slice_get m block) block offset n
on_pointer _ m block offset n = Fails 0

abbrev pub applied : Memory → Op → Value → Value → Outcome
applied m op (Num a) (Num b) = on_numbers op a b
applied m op (Ptr block offset) (Num n) = on_pointer op m block offset n
applied m op _ _ = Fails 0

-- ---- bytes and cells

abbrev pub given_byte : Option ℕ → Outcome
given_byte (Some b) = Gives (Num b)
given_byte None = Fails 1

abbrev pub byte_in : Option Block → ℕ → Outcome
byte_in (Some (Bytes bytes)) at = given_byte (slice_get bytes at)
byte_in _ at = Fails 0

abbrev pub load : Memory → Value → Value → Outcome
load m (Ptr block offset) (Num i) = byte_in (slice_get m block) (offset + i)
load m _ _ = Fails 0

abbrev pub held : Cell → Outcome
held Unset = Fails 5
held (HoldsNumber n) = Gives (Num n)
held (HoldsPointer block offset) = Gives (Ptr block offset)

abbrev pub cell_named : List (Name × Cell) → Name → Outcome
cell_named [] x = Fails 0
cell_named (w ∷ ws) x = if bytes_eq w.0 x then held w.1 else cell_named ws x

abbrev pub cell_in : Option Block → Name → Outcome
cell_in (Some (Cells cells)) x = cell_named cells x
cell_in _ x = Fails 0

abbrev pub cell : Memory → Name → Value → Outcome
cell m x (Str block) = cell_in (slice_get m block) x
cell m x _ = Fails 0

-- ---- truths: the right side counts only where the left one leaves it open

abbrev pub negated : Value → Outcome
negated (Truth b) = truth (not b)
negated _ = Fails 0

abbrev pub must_be_truth : Value → Outcome
must_be_truth (Truth b) = truth b
must_be_truth _ = Fails 0

abbrev pub both : Value → (Unit {0} → Outcome) → Outcome
both (Truth true) rest = with_value (rest tt) must_be_truth
both (Truth false) rest = truth false
both _ rest = Fails 0

abbrev pub either : Value → (Unit {0} → Outcome) → Outcome
either (Truth false) rest = with_value (rest tt) must_be_truth
either (Truth true) rest = truth true
either _ rest = Fails 0

abbrev pub binary : Memory → Op → Outcome → (Unit {0} → Outcome) → Outcome
binary m And a b = with_value a (λ v. both v b)
binary m Or a b = with_value a (λ v. either v b)
binary m op a b = with_value a (λ v. with_value (b tt) (λ w. applied m op v w))

-- ---- the value of an expression, operands from left to right

abbrev mutual
  pub value_of : Expr → Scopes → Memory → Outcome
  value_of (Number n) env m = Gives (Num n)
  value_of (Var x) env m = given (lookup env x)
  value_of (CellOf x c) env m = with_value (given (lookup env x)) (cell m c)
  value_of (Load' x s i) env m = with_value (given (lookup env x)) (λ p. with_value (operand i env m) (load m p))
  value_of (Binary' op s a t b) env m = binary m op (operand a env m) (λ _. operand b env m)
  value_of (Not' s a) env m = with_value (operand a env m) negated

  pub operand : {n : _} → Row_of-Expr n → Scopes → Memory → Outcome
  operand end_of-Expr env m = Fails 0
  operand (more_of-Expr e rest) env m = value_of e env m
