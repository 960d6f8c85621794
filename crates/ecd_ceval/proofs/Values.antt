-- The value of an expression from those of its operands.
use Rattle.std.proofs.Common.{◌≡◌, ℕ, refl, ap, sym, ◌∙◌}
use Rattle.std.specs.Prelude.{Some, None}
use Rattle.std.specs.Prelude.{Result}
use Rattle.ecd_cast.specs.declared.tree.Op.{Op}
use Rattle.ecd_cast.specs.declared.tree.Op.TheVariants.{Add, Sub, Mul, Shl, Shr, BitAnd, BitOr, Eq, Ne, Lt, Le, Gt, Ge, And, Or}
use Rattle.ecd_cast.specs.declared.tree.Expr.{Expr}
use Rattle.ecd_cast.specs.declared.tree.Expr.TheVariants.{Load, Binary}
use Rattle.ecd_cast.specs.declared.value.Value.{Value}
use Rattle.ecd_cast.specs.Memory.{Name, Memory}
use Rattle.ecd_cast.specs.Expressions.{Outcome, Gives, Fails, Scopes, lookup, given, with_value, load, binary, value_of}
use Rattle.ecd_cast.proofs.Layers.{value-Load, value-Binary}
use Rattle.ecd_ceval.specs.declared.reason.Reason.{Reason}
use Rattle.ecd_ceval.specs.Outcomes.{outcome}
use Rattle.ecd_ceval.specs.Operators.{IsDecided, finished}

pub load_fails : (x : Name) (i : Expr) (env : Scopes) (m : Memory) (p : Value) (r : ℕ) → Gives p ≡ given (lookup env x) → Fails r ≡ value_of i env m → Fails r ≡ value_of (Load x i) env m
load_fails x i env m p r h k = rw (value-Load, ← h, ← k)

pub load_gives : (x : Name) (i : Expr) (env : Scopes) (m : Memory) (p j : Value) → Gives p ≡ given (lookup env x) → Gives j ≡ value_of i env m → load m p j ≡ value_of (Load x i) env m
load_gives x i env m p j h k = rw (value-Load, ← h, ← k)

fails : (m : Memory) (op : Op) (r : ℕ) (b : Unit {0} → Outcome) → binary m op (Fails r) b ≡ Fails r
fails m Add r b = refl
fails m Sub r b = refl
fails m Mul r b = refl
fails m Shl r b = refl
fails m Shr r b = refl
fails m BitAnd r b = refl
fails m BitOr r b = refl
fails m Eq r b = refl
fails m Ne r b = refl
fails m Lt r b = refl
fails m Le r b = refl
fails m Gt r b = refl
fails m Ge r b = refl
fails m And r b = refl
fails m Or r b = refl

pub left_fails : (op : Op) (a b : Expr) (env : Scopes) (m : Memory) (r : ℕ) → Fails r ≡ value_of a env m → Fails r ≡ value_of (Binary op a b) env m
left_fails op a b env m r h = sym (value-Binary op a b env m ∙ (ap (λ o. binary m op o (λ _. value_of b env m)) (sym h) ∙ fails m op r (λ _. value_of b env m)))

opened : (op : Op) (a b : Expr) (env : Scopes) (m : Memory) (v : Value) → Gives v ≡ value_of a env m → value_of (Binary op a b) env m ≡ binary m op (Gives v) (λ _. value_of b env m)
opened op a b env m v h = value-Binary op a b env m ∙ ap (λ o. binary m op o (λ _. value_of b env m)) (sym h)

pub left_decides : (op : Op) (a b : Expr) (env : Scopes) (m : Memory) (v : Value) (o : Result Value Reason) → Gives v ≡ value_of a env m → IsDecided (Some o) op v → outcome o ≡ value_of (Binary op a b) env m
left_decides op a b env m v o h d = sym (opened op a b env m v h ∙ d m (λ _. value_of b env m))

pub right_fails : (op : Op) (a b : Expr) (env : Scopes) (m : Memory) (v : Value) (r : ℕ) → Gives v ≡ value_of a env m → IsDecided None op v → Fails r ≡ value_of b env m → Fails r ≡ value_of (Binary op a b) env m
right_fails op a b env m v r h d k = sym (opened op a b env m v h ∙ (d m (λ _. value_of b env m) ∙ ap (λ o. with_value o (finished m op v)) (sym k)))

pub both_give : (op : Op) (a b : Expr) (env : Scopes) (m : Memory) (v w : Value) → Gives v ≡ value_of a env m → IsDecided None op v → Gives w ≡ value_of b env m → finished m op v w ≡ value_of (Binary op a b) env m
both_give op a b env m v w h d k = sym (opened op a b env m v h ∙ (d m (λ _. value_of b env m) ∙ ap (λ o. with_value o (finished m op v)) (sym k)))
