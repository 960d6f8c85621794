-- The functions with a depth, as trees. An item of depth 0 has no items inside; one that is a level deeper calls the functions of the level below for what is inside it.
use Rattle.std.specs.Prelude.{ℕ, zero, suc, List, [], ◌∷◌, ◌++◌, codes}
use Rattle.ecd_cast.specs.declared.tree.Op.TheVariants.{Add, Sub, Eq, Lt, Gt}
use Rattle.ecd_cast.specs.declared.tree.Expr.{Expr}
use Rattle.ecd_cast.specs.declared.tree.Expr.TheVariants.{Number, Var, Binary}
use Rattle.ecd_cast.specs.declared.tree.Source.TheVariants.{Call as FromCall}
use Rattle.ecd_cast.specs.declared.tree.Stmt.{Stmt}
use Rattle.ecd_cast.specs.declared.tree.Stmt.TheVariants.{Assign, For, Return}
use Rattle.ecd_cast.specs.declared.tree.Param.{Param}
use Rattle.ecd_cast.specs.declared.tree.Function.{Function}
use Rattle.ecd_cast.specs.declared.tree.CItem.{CItem}
use Rattle.ecd_cast.specs.declared.tree.CItem.TheVariants.{Function as AFunction}
use Rattle.ecd_cast.specs.Memory.{Name}
use Rattle.ecd_emit.specs.Shorthands.{number, pointer, let_number, let_call, guard, guard_call, none_where, let_major, let_argument, of_two, assign}
use Rattle.ecd_emit.specs.Variables as v
use Rattle.ecd_rt.specs.Names.{any_name, items_name, pairs_name}
use Rattle.ecd_rt.specs.Variables as w

-- ---- a text

-- `(buf + place)`
abbrev pub buf_from : Expr → Expr
buf_from place = Binary Add (Var v.buf) place

-- whether the string that ends at `end` is UTF-8
abbrev pub text_body : List Stmt
text_body =
    let_argument ∷
    let_call w.valid (codes "utf8_valid") (buf_from (of_two Sub v.end v.argument) ∷ Var v.argument ∷ []) ∷
    none_where Eq (Var w.valid) (Number 0) ∷
    Return (Var v.end) ∷ []

unfoldable pub text_end : Function
text_end = record { name = codes "text_end"; params = pointer v.buf ∷ number v.at ∷ number v.end ∷ []; body = text_body }

-- ---- items one behind the other

-- (const uint8_t *buf, uint64_t len, uint64_t at, uint64_t count)
abbrev pub counted_params : List Param
counted_params = pointer v.buf ∷ number v.len ∷ number v.at ∷ number v.count ∷ []

-- `end = g(buf, len, place);`
abbrev pub end_by : Name → Name → Stmt
end_by g place = Assign v.end (FromCall g (Var v.buf ∷ Var v.len ∷ Var place ∷ []))

abbrev pub items_turn : ℕ → List Stmt
items_turn deepest = end_by (any_name deepest) v.end ∷ none_where Eq (Var v.end) (Number 0) ∷ []

abbrev pub items_body : ℕ → List Stmt
items_body deepest = let_number v.end (Var v.at) ∷ For v.i v.count (items_turn deepest) ∷ Return (Var v.end) ∷ []

unfoldable pub items_end : ℕ → Function
items_end deepest = record { name = items_name deepest; params = counted_params; body = items_body deepest }

-- ---- pairs one behind the other

-- a key, which is greater than the one before
abbrev pub key_turn : ℕ → List Stmt
key_turn deepest =
    let_call w.behind (any_name deepest) (Var v.buf ∷ Var v.len ∷ Var v.end ∷ []) ∷
    none_where Eq (Var w.behind) (Number 0) ∷
    let_number v.size (of_two Sub w.behind v.end) ∷
    let_call w.order (codes "compare_bytes") (buf_from (Var w.key) ∷ Var w.key_size ∷ buf_from (Var v.end) ∷ Var v.size ∷ []) ∷
    none_where Gt (Var w.order) (Number 0) ∷ []

-- and the value behind it
abbrev pub value_turn : ℕ → List Stmt
value_turn deepest =
    assign w.key (Var v.end) ∷
    assign w.key_size (Var v.size) ∷
    end_by (any_name deepest) w.behind ∷
    none_where Eq (Var v.end) (Number 0) ∷ []

-- Before the first pair the key before is taken to be empty, which every key is greater than.
abbrev pub pairs_body : ℕ → List Stmt
pairs_body deepest =
    let_number v.end (Var v.at) ∷
    let_number w.key (Var v.at) ∷
    let_number w.key_size (Number 0) ∷
    For v.i v.count (key_turn deepest ++ value_turn deepest) ∷
    Return (Var v.end) ∷ []

unfoldable pub pairs_end : ℕ → Function
pairs_end deepest = record { name = pairs_name deepest; params = counted_params; body = pairs_body deepest }

-- ---- an item

-- what has no items inside: own_end says where it ends, and only a text is looked into
abbrev pub any_front : List Stmt
any_front =
    let_call v.end (codes "own_end") (Var v.buf ∷ Var v.len ∷ Var v.at ∷ []) ∷
    none_where Eq (Var v.end) (Number 0) ∷
    let_major ∷
    guard Lt (Var v.major) (Number 3) (Var v.end) ∷
    guard Gt (Var v.major) (Number 6) (Var v.end) ∷
    guard_call Eq (Var v.major) (Number 3) v.text (codes "text_end") (Var v.buf ∷ Var v.at ∷ Var v.end ∷ []) ∷ []

-- `(buf, len, end, argument)`
abbrev pub counted_args : List Expr
counted_args = Var v.buf ∷ Var v.len ∷ Var v.end ∷ Var v.argument ∷ []

-- what has: a tag, a map or an array, whose parts are of the level below
abbrev pub any_behind : ℕ → List Stmt
any_behind zero = Return (Number 0) ∷ []
any_behind (suc below) =
    guard_call Eq (Var v.major) (Number 6) w.content (any_name below) (Var v.buf ∷ Var v.len ∷ Var v.end ∷ []) ∷
    let_argument ∷
    guard_call Eq (Var v.major) (Number 5) w.pairs (pairs_name below) counted_args ∷
    let_call w.items (items_name below) counted_args ∷
    Return (Var w.items) ∷ []

unfoldable pub any_end : ℕ → Function
any_end deepest = record { name = any_name deepest; params = pointer v.buf ∷ number v.len ∷ number v.at ∷ []; body = any_front ++ any_behind deepest }

-- ---- all of them, in their order

-- a level, behind those below
abbrev pub level_functions : ℕ → List CItem
level_functions below = AFunction (items_end below) ∷ AFunction (pairs_end below) ∷ AFunction (any_end (suc below)) ∷ []

abbrev pub any_functions : ℕ → List CItem
any_functions zero = AFunction text_end ∷ AFunction (any_end 0) ∷ []
any_functions (suc below) = any_functions below ++ level_functions below

abbrev pub level_names : ℕ → List Name
level_names below = items_name below ∷ pairs_name below ∷ any_name (suc below) ∷ []

abbrev pub any_names : ℕ → List Name
any_names zero = codes "text_end" ∷ any_name 0 ∷ []
any_names (suc below) = any_names below ++ level_names below
