-- Shorthands for the trees of functions.
use Rattle.std.specs.Prelude.{ℕ, List, [], ◌∷◌, codes}
use Rattle.ecd_cast.specs.declared.tree.Op.{Op}
use Rattle.ecd_cast.specs.declared.tree.Op.TheVariants.{Add, Shr}
use Rattle.ecd_cast.specs.declared.tree.Expr.{Expr}
use Rattle.ecd_cast.specs.declared.tree.Expr.TheVariants.{Number, Var, Load, Binary}
use Rattle.ecd_cast.specs.declared.tree.Source.TheVariants.{Value as FromValue, Call as FromCall}
use Rattle.ecd_cast.specs.declared.tree.Stmt.{Stmt}
use Rattle.ecd_cast.specs.declared.tree.Stmt.TheVariants.{Number as DeclNumber, Assign, If, Return}
use Rattle.ecd_cast.specs.declared.tree.Param.{Param}
use Rattle.ecd_cast.specs.declared.tree.ParamKind.TheVariants.{Number as NumberParam, ReadPointer as ReadPointerParam, WritePointer as WritePointerParam}
use Rattle.ecd_cast.specs.Memory.{Name}
use Rattle.ecd_emit.specs.Variables as v

-- `uint64_t x`
abbrev pub number : Name → Param
number x = record { name = x; kind = NumberParam }

-- `const uint8_t *x`
abbrev pub pointer : Name → Param
pointer x = record { name = x; kind = ReadPointerParam }

-- `uint8_t *x`
abbrev pub output : Name → Param
output x = record { name = x; kind = WritePointerParam }

-- `(x + n)`
abbrev pub plus : Name → ℕ → Expr
plus x n = Binary Add (Var x) (Number n)

-- `uint64_t x = e;`
abbrev pub let_number : Name → Expr → Stmt
let_number x e = DeclNumber x (FromValue e)

-- `uint64_t x = g(args);`
abbrev pub let_call : Name → Name → List Expr → Stmt
let_call x g args = DeclNumber x (FromCall g args)

-- `if (left op right) { return e; } else { }`
abbrev pub guard : Op → Expr → Expr → Expr → Stmt
guard op left right e = If (Binary op left right) (Return e ∷ []) []

-- `if (left op right) { uint64_t x = g(args); return x; } else { }`
abbrev pub guard_call : Op → Expr → Expr → Name → Name → List Expr → Stmt
guard_call op left right x g args = If (Binary op left right) (let_call x g args ∷ Return (Var x) ∷ []) []

-- `if (left op right) { return 0ull; } else { }`
abbrev pub none_where : Op → Expr → Expr → Stmt
none_where op left right = guard op left right (Number 0)

-- `x = e;`
abbrev pub assign : Name → Expr → Stmt
assign x e = Assign x (FromValue e)

-- `(uint64_t)buf[at]`
abbrev pub byte_here : Expr
byte_here = Load v.buf (Var v.at)

-- `uint64_t major = ((uint64_t)buf[at] >> 5ull);`
abbrev pub let_major : Stmt
let_major = let_number v.major (Binary Shr byte_here (Number 5))

-- `(left op right)` of two variables
abbrev pub of_two : Op → Name → Name → Expr
of_two op left right = Binary op (Var left) (Var right)

-- `uint64_t argument = head_argument(buf, at);`
abbrev pub let_argument : Stmt
let_argument = let_call v.argument (codes "head_argument") (Var v.buf ∷ Var v.at ∷ [])
