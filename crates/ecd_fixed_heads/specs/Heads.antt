-- The functions over heads, as trees.
use Rattle.std.specs.Prelude.{ℕ, List, [], ◌∷◌, ◌++◌, codes}
use Rattle.ecd_cast.specs.declared.tree.Op.TheVariants.{Add, Shl, Shr, BitAnd, Eq, Ne, Lt, Gt, Ge}
use Rattle.ecd_cast.specs.declared.tree.Expr.{Expr}
use Rattle.ecd_cast.specs.declared.tree.Expr.TheVariants.{Number, Var, Load, Binary}
use Rattle.ecd_cast.specs.declared.tree.Stmt.{Stmt}
use Rattle.ecd_cast.specs.declared.tree.Stmt.TheVariants.{Return}
use Rattle.ecd_cast.specs.declared.tree.Function.{Function}
use Rattle.ecd_cast.specs.declared.tree.CItem.{CItem}
use Rattle.ecd_cast.specs.declared.tree.CItem.TheVariants.{Function as AFunction}
use Rattle.ecd_cast.specs.Memory.{Name}
use Rattle.ecd_emit.specs.Shorthands.{number, pointer, plus, let_number, let_call, guard, guard_call}
use Rattle.ecd_emit.specs.Variables as v
use Rattle.ecd_emit.specs.Shorthands.{byte_here, none_where}

-- ---- big-endian numbers

-- `((high << bits) + low)`
abbrev pub joined : Expr → ℕ → Expr → Expr
joined high bits low = Binary Add (Binary Shl high (Number bits)) low

-- a number from its two halves, each of so many bytes, that a function loads
abbrev pub halves : Name → (half bits : ℕ) → List Stmt
halves g half bits =
    let_call v.high g (Var v.buf ∷ Var v.at ∷ []) ∷
    let_call v.low g (Var v.buf ∷ plus v.at half ∷ []) ∷
    Return (joined (Var v.high) bits (Var v.low)) ∷ []

unfoldable pub load_be16 : Function
load_be16 = record {
  name = codes "load_be16";
  params = pointer v.buf ∷ number v.at ∷ [];
  body = Return (joined byte_here 8 (Load v.buf (plus v.at 1))) ∷ [];
}

unfoldable pub load_be32 : Function
load_be32 = record { name = codes "load_be32"; params = pointer v.buf ∷ number v.at ∷ []; body = halves (codes "load_be16") 2 16 }

unfoldable pub load_be64 : Function
load_be64 = record { name = codes "load_be64"; params = pointer v.buf ∷ number v.at ∷ []; body = halves (codes "load_be32") 4 32 }

-- ---- what the first byte of a head says

-- `uint64_t info = (first & 31ull);`
abbrev pub let_info : Stmt
let_info = let_number v.info (Binary BitAnd (Var v.first) (Number 31))

-- `if (info == n) { return answer; } else { }`
abbrev pub where_info : (n answer : ℕ) → Stmt
where_info n answer = guard Eq (Var v.info) (Number n) (Number answer)

abbrev pub size_body : List Stmt
size_body =
    let_info ∷
    guard Lt (Var v.info) (Number 24) (Number 1) ∷
    where_info 24 2 ∷
    guard Gt (Var v.first) (Number 223) (Number 0) ∷
    where_info 25 3 ∷
    where_info 26 5 ∷
    where_info 27 9 ∷
    Return (Number 0) ∷ []

unfoldable pub head_size : Function
head_size = record { name = codes "head_size"; params = number v.first ∷ []; body = size_body }

abbrev pub least_body : List Stmt
least_body =
    let_info ∷
    guard Lt (Var v.info) (Number 24) (Number 0) ∷
    guard Eq (Var v.first) (Number 248) (Number 32) ∷
    where_info 24 24 ∷
    where_info 25 256 ∷
    where_info 26 65536 ∷
    Return (Number 4294967296) ∷ []

unfoldable pub head_least : Function
head_least = record { name = codes "head_least"; params = number v.first ∷ []; body = least_body }

-- ---- the argument of a head

-- `if (info == n) { uint64_t x = g(buf, (at + 1ull)); return x; } else { }`
abbrev pub where_wide : ℕ → Name → Name → Stmt
where_wide n x g = guard_call Eq (Var v.info) (Number n) x g (Var v.buf ∷ plus v.at 1 ∷ [])

abbrev pub narrow_cases : List Stmt
narrow_cases =
    let_number v.first byte_here ∷
    let_info ∷
    guard Lt (Var v.info) (Number 24) (Var v.info) ∷
    guard Eq (Var v.info) (Number 24) (Load v.buf (plus v.at 1)) ∷ []

abbrev pub argument_body : List Stmt
argument_body =
    narrow_cases ++
    where_wide 25 v.argument16 (codes "load_be16") ∷
    where_wide 26 v.argument32 (codes "load_be32") ∷
    let_call v.argument64 (codes "load_be64") (Var v.buf ∷ plus v.at 1 ∷ []) ∷
    Return (Var v.argument64) ∷ []

unfoldable pub head_argument : Function
head_argument = record { name = codes "head_argument"; params = pointer v.buf ∷ number v.at ∷ []; body = argument_body }

-- ---- the place behind a head

-- `(at + size)`
abbrev pub behind_head : Expr
behind_head = Binary Add (Var v.at) (Var v.size)

abbrev pub end_body : List Stmt
end_body =
    none_where Ge (Var v.at) (Var v.len) ∷
    let_number v.first byte_here ∷
    let_call v.size (codes "head_size") (Var v.first ∷ []) ∷
    none_where Eq (Var v.size) (Number 0) ∷
    none_where Gt behind_head (Var v.len) ∷
    let_call v.argument (codes "head_argument") (Var v.buf ∷ Var v.at ∷ []) ∷
    let_call v.least (codes "head_least") (Var v.first ∷ []) ∷
    none_where Lt (Var v.argument) (Var v.least) ∷
    Return behind_head ∷ []

unfoldable pub head_end : Function
head_end = record { name = codes "head_end"; params = pointer v.buf ∷ number v.len ∷ number v.at ∷ []; body = end_body }

abbrev pub within_body : List Stmt
within_body =
    let_call v.end (codes "head_end") (Var v.buf ∷ Var v.len ∷ Var v.at ∷ []) ∷
    none_where Eq (Var v.end) (Number 0) ∷
    none_where Ne (Binary Shr byte_here (Number 5)) (Var v.major) ∷
    let_call v.argument (codes "head_argument") (Var v.buf ∷ Var v.at ∷ []) ∷
    none_where Lt (Var v.argument) (Var v.lo) ∷
    none_where Gt (Var v.argument) (Var v.hi) ∷
    Return (Var v.end) ∷ []

unfoldable pub head_within : Function
head_within = record {
  name = codes "head_within";
  params = pointer v.buf ∷ number v.len ∷ number v.at ∷ number v.major ∷ number v.lo ∷ number v.hi ∷ [];
  body = within_body;
}

-- ---- all of them, in their order

abbrev pub head_functions : List CItem
head_functions =
    AFunction load_be16 ∷ AFunction load_be32 ∷ AFunction load_be64 ∷ AFunction head_size ∷ AFunction head_least ∷ AFunction head_argument ∷ AFunction head_end ∷
    AFunction head_within ∷ []

abbrev pub head_names : List Name
head_names =
    codes "load_be16" ∷ codes "load_be32" ∷ codes "load_be64" ∷ codes "head_size" ∷ codes "head_least" ∷ codes "head_argument" ∷ codes "head_end" ∷
    codes "head_within" ∷ []
