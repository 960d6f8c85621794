-- Reading the lexemes of a program from left to right, up to the first that cannot be taken. The first lexeme of a form, or the one behind its name, decides which form it is.
use Rattle.std.specs.Prelude.{ℕ, zero, suc, ◌-◌, ◌^◌, Bool, true, false, not, ◌&&◌, List, [], ◌∷◌, length, take, drop, Option, Some, None, nat_lt, codes, bytes_eq}
use Rattle.std.specs.Str.Parse.{digits_value}
use Rattle.ecd_cast.specs.declared.tree.Op.{Op}
use Rattle.ecd_cast.specs.declared.tree.Op.TheVariants.{Add, Sub, Mul, Shl, Shr, BitAnd, BitOr, Eq, Ne, Lt, Le, Gt, Ge, And, Or}
use Rattle.ecd_cast.specs.declared.tree.Expr.{Expr}
use Rattle.ecd_cast.specs.declared.tree.Expr.TheVariants.{Number, Var, Cell as CellOf, Load, Binary, Not}
use Rattle.ecd_cast.specs.declared.tree.Source.{Source}
use Rattle.ecd_cast.specs.declared.tree.Source.TheVariants.{Value as FromValue, Call as FromCall}
use Rattle.ecd_cast.specs.declared.tree.Stmt.{Stmt}
use Rattle.ecd_cast.specs.declared.tree.Stmt.TheVariants.{Number as DeclNumber, Pointer as DeclPointer, Assign, Store, SetCell, If, For, Return}
use Rattle.ecd_cast.specs.declared.tree.Param.{Param}
use Rattle.ecd_cast.specs.declared.tree.ParamKind.{ParamKind}
use Rattle.ecd_cast.specs.declared.tree.ParamKind.TheVariants.{Number as NumberParam, ReadPointer as ReadPointerParam, WritePointer as WritePointerParam, Struct as StructParam}
use Rattle.ecd_cast.specs.declared.tree.CellInfo.{CellInfo}
use Rattle.ecd_cast.specs.declared.tree.CellKind.{CellKind}
use Rattle.ecd_cast.specs.declared.tree.CellKind.TheVariants.{Number as NumberCell, Pointer as PointerCell}
use Rattle.ecd_cast.specs.declared.tree.CItem.{CItem}
use Rattle.ecd_cast.specs.declared.tree.CItem.TheVariants.{Struct as AStructDecl, Function as AFunction}
use Rattle.ecd_cast.specs.declared.tree.Program.{Program}
use Rattle.ecd_cast.specs.Memory.{Name}
use Rattle.ecd_cast.specs.Lexemes.{Lexeme, is_name, is_digits}
use Rattle.ecd_cast.specs.Spelling.{sign}
use Rattle.ecd_reading.specs.Reading as read
pub use Rattle.ecd_reading.specs.Reading.{Stuck, Deep, ◌>>=◌, taken, stuck, deep, with_rest, peek, choose, token, begins, is_more}
unfoldable pub use Rattle.ecd_reading.specs.Reading.{many}

-- ---- readers

abbrev pub Taken : Type 0 → Type 0
Taken A = read.Taken Lexeme A

abbrev pub Halted : Type 0
Halted = read.Halted Lexeme

abbrev pub Reader : Type 0 → Type 0
Reader A = read.Reader Lexeme A

-- the one behind a lexeme of which the table says something, and else the other
unfoldable pub on : {A B : Type 0} → (Lexeme → Option A) → (A → Reader B) → Reader B → Reader B
on table p q ms = read.on table p q ms

-- the one, and then the other
unfoldable pub after : {A B : Type 0} → Reader A → (A → Reader B) → Reader B
after p q ms = read.after p q ms

-- ---- what a lexeme is: a table for each kind

abbrev pub said : Bool → Option (Unit {0})
said true = Some tt
said false = None

-- this very lexeme
abbrev pub same : Lexeme → Lexeme → Option (Unit {0})
same l m = said (bytes_eq l m)

abbrev pub named_if : Bool → Name → Option Name
named_if true x = Some x
named_if false x = None

abbrev pub name_of : Lexeme → Option Name
name_of m = named_if (is_name m) m

abbrev pub number_if : Bool → ℕ → Option ℕ
number_if true n = Some n
number_if false n = None

-- digits of a number below the limit
abbrev pub number_below : ℕ → Lexeme → Option ℕ
number_below limit m = number_if (is_digits m && nat_lt (digits_value 10 m) limit) (digits_value 10 m)

abbrev pub depth_of : Lexeme → Option ℕ
depth_of m = number_below (2 ^ 32) m

abbrev pub digits_if : Bool → Lexeme → Option ℕ
digits_if true m = number_below (2 ^ 64) m
digits_if false m = None

-- digits, and then ull
abbrev pub literal_of : Lexeme → Option ℕ
literal_of m = digits_if (bytes_eq (drop (length m - 3) m) (codes "ull")) (take (length m - 3) m)

abbrev pub first_op : Bool → Op → Option Op → Option Op
first_op true op other = Some op
first_op false op other = other

abbrev pub op_among : List Op → Lexeme → Option Op
op_among [] m = None
op_among (op ∷ ops) m = first_op (bytes_eq m (sign op)) op (op_among ops m)

abbrev pub operators : List Op
operators = Add ∷ Sub ∷ Mul ∷ Shl ∷ Shr ∷ BitAnd ∷ BitOr ∷ Eq ∷ Ne ∷ Lt ∷ Le ∷ Gt ∷ Ge ∷ And ∷ Or ∷ []

abbrev pub op_of : Lexeme → Option Op
op_of m = op_among operators m

-- ---- small readers

-- this lexeme, and then the other
unfoldable pub expect : {A : Type 0} → Lexeme → Reader A → Reader A
expect l q ms = read.behind (same l) q ms

-- a name, and then the other
unfoldable pub named : {A : Type 0} → (Name → Reader A) → Reader A
named q ms = read.after (token name_of) q ms

-- the one behind this lexeme, where it stands there, and else the other
unfoldable pub when : {A : Type 0} → Lexeme → Reader A → Reader A → Reader A
when l p q ms = read.on (same l) (λ _. p) q ms

abbrev pub is_before : Lexeme → List Lexeme → Bool
is_before close ms = not (begins (same close) ms)

-- fewer than so many, up to the closing lexeme
unfoldable pub up_to : {A : Type 0} → Lexeme → Reader A → ℕ → Reader (List A)
up_to close one size = after (many (is_before close) one deep size) (λ xs. expect close (taken xs))

-- the one, and then fewer than so many while the test holds
unfoldable pub one_or_more : {A : Type 0} → (List Lexeme → Bool) → Reader A → Reader A → ℕ → Reader (List A)
one_or_more test next one size = after one (λ x. after (many test next deep size) (λ xs. taken (x ∷ xs)))

-- one or more with commas between them
unfoldable pub separated : {A : Type 0} → Reader A → ℕ → Reader (List A)
separated one size = one_or_more (begins (same (codes ","))) (expect (codes ",") one) one size

-- these, up to `)`
unfoldable pub listed : {A : Type 0} → Reader A → ℕ → Reader (List A)
listed one size = after (separated one size) (λ xs. expect (codes ")") (taken xs))

-- ---- expressions

unfoldable pub behind_name : Name → Reader Expr
behind_name x = when (codes "->") (named (λ c. taken (CellOf x c))) (taken (Var x))

unfoldable pub load_at : Reader Expr → Reader Expr
load_at one = expect (codes ")") (named (λ x. expect (codes "[") (after one (λ i. expect (codes "]") (taken (Load x i))))))

unfoldable pub not_at : Reader Expr → Reader Expr
not_at one = after one (λ e. expect (codes ")") (taken (Not e)))

unfoldable pub binary_at : Reader Expr → Reader Expr
binary_at one = after one (λ a. after (token op_of) (λ op. after one (λ b. expect (codes ")") (taken (Binary op a b)))))

unfoldable pub behind_open : Reader Expr → Reader Expr
behind_open one = when (codes "uint64_t") (load_at one) (when (codes "!") (not_at one) (binary_at one))

unfoldable pub expr_layer : Reader Expr → Reader Expr
expr_layer one = on name_of behind_name (on literal_of (λ k. taken (Number k)) (expect (codes "(") (behind_open one)))

-- an expression, inside which no more than so many others stand inside each other
unfoldable pub expr_at : ℕ → Reader Expr
expr_at zero = deep
expr_at (suc n) = expr_layer (expr_at n)

-- ---- statements

unfoldable pub source_behind : ℕ → Reader Expr → Name → Reader Source
source_behind size one x = when (codes "(") (after (listed one size) (λ args. taken (FromCall x args))) (after (behind_name x) (λ e. taken (FromValue e)))

unfoldable pub source_at : ℕ → Reader Expr → Reader Source
source_at size one = on name_of (source_behind size one) (after one (λ e. taken (FromValue e)))

unfoldable pub number_at : ℕ → Reader Expr → Reader Stmt
number_at size e = named (λ x. expect (codes "=") (after (source_at size e) (λ s. expect (codes ";") (taken (DeclNumber x s)))))

unfoldable pub pointer_at : Reader Expr → Reader Stmt
pointer_at e = expect (codes "uint8_t") (expect (codes "*") (named (λ x. expect (codes "=") (after e (λ v. expect (codes ";") (taken (DeclPointer x v)))))))

unfoldable pub assign_at : ℕ → Reader Expr → Name → Reader Stmt
assign_at size e x = after (source_at size e) (λ s. expect (codes ";") (taken (Assign x s)))

unfoldable pub store_at : Reader Expr → Name → Reader Stmt
store_at e x =
    after e (λ i. expect (codes "]") (expect (codes "=") (expect (codes "(") (expect (codes "uint8_t") (expect (codes ")") (after e (λ v. expect (codes ";") (taken (Store x i v)))))))))

unfoldable pub set_cell_at : Reader Expr → Name → Reader Stmt
set_cell_at e x = named (λ c. expect (codes "=") (after e (λ v. expect (codes ";") (taken (SetCell x c v)))))

unfoldable pub behind_target : ℕ → Reader Expr → Name → Reader Stmt
behind_target size e x = when (codes "=") (assign_at size e x) (when (codes "[") (store_at e x) (expect (codes "->") (set_cell_at e x)))

unfoldable pub block_at : ℕ → Reader Stmt → Reader (List Stmt)
block_at size one = expect (codes "{") (up_to (codes "}") one size)

unfoldable pub if_at : ℕ → Reader Expr → Reader Stmt → Reader Stmt
if_at size e one = after e (λ t. after (block_at size one) (λ ys. expect (codes "else") (after (block_at size one) (λ ns. taken (If t ys ns)))))

-- the head of a loop behind its variable: the bound
unfoldable pub bound_at : Name → Reader Name
bound_at x = expect (codes "=") (expect (codes "0ull") (expect (codes ";") (expect x (expect (codes "<") (named (λ b. taken b))))))

-- the head of a loop behind its bound
unfoldable pub turn_at : Name → Reader (Unit {0})
turn_at x = expect (codes ";") (expect x (expect (codes "+=") (expect (codes "1ull") (expect (codes ")") (taken tt)))))

unfoldable pub for_at : ℕ → Reader Stmt → Reader Stmt
for_at size one =
    expect (codes "(") (expect (codes "uint64_t") (named (λ x. after (bound_at x) (λ b. after (turn_at x) (λ _. after (block_at size one) (λ body. taken (For x b body)))))))

unfoldable pub return_at : Reader Expr → Reader Stmt
return_at e = after e (λ v. expect (codes ";") (taken (Return v)))

abbrev pub nested_at : ℕ → Reader Expr → Reader Stmt → Reader Stmt
nested_at size e one = when (codes "if") (if_at size e one) (when (codes "for") (for_at size one) (expect (codes "return") (return_at e)))

abbrev pub keyword_at : ℕ → Reader Expr → Reader Stmt → Reader Stmt
keyword_at size e one = when (codes "uint64_t") (number_at size e) (when (codes "const") (pointer_at e) (nested_at size e one))

unfoldable pub stmt_layer : ℕ → Reader Expr → Reader Stmt → Reader Stmt
stmt_layer size e one = on name_of (behind_target size e) (keyword_at size e one)

-- a statement, inside which no more than so many statements and expressions stand inside each other
unfoldable pub stmt_at : ℕ → ℕ → Reader Stmt
stmt_at size zero = deep
stmt_at size (suc n) = stmt_layer size (expr_at n) (stmt_at size n)

-- ---- items

abbrev pub param : Name → ParamKind → Param
param x kind = record { name = x; kind = kind }

unfoldable pub param_at : Reader Param
param_at =
    when (codes "uint64_t") (named (λ x. taken (param x NumberParam)))
    (when (codes "const") (expect (codes "uint8_t") (expect (codes "*") (named (λ x. taken (param x ReadPointerParam)))))
    (when (codes "uint8_t") (expect (codes "*") (named (λ x. taken (param x WritePointerParam))))
    (expect (codes "struct") (named (λ s. expect (codes "*") (named (λ x. taken (param x (StructParam s)))))))))

abbrev pub cell : Name → CellKind → CellInfo
cell x kind = record { name = x; kind = kind }

unfoldable pub cell_at : Reader CellInfo
cell_at =
    when (codes "uint64_t") (named (λ x. expect (codes ";") (taken (cell x NumberCell))))
    (expect (codes "const") (expect (codes "uint8_t") (expect (codes "*") (named (λ x. expect (codes ";") (taken (cell x PointerCell)))))))

unfoldable pub cells_at : ℕ → Reader (List CellInfo)
cells_at size = one_or_more (is_before (codes "}")) cell_at cell_at size

unfoldable pub struct_at : ℕ → Reader CItem
struct_at size =
    named (λ x. expect (codes "{") (after (cells_at size) (λ cs. expect (codes "}") (expect (codes ";") (taken (AStructDecl (record { name = x; cells = cs })))))))

unfoldable pub function_at : ℕ → Reader Stmt → Reader CItem
function_at size one =
    named (λ f. expect (codes "(") (after (listed param_at size) (λ qs. after (block_at size one) (λ body. taken (AFunction (record { name = f; params = qs; body = body }))))))

unfoldable pub item_at : ℕ → Reader Stmt → Reader CItem
item_at size one = when (codes "struct") (struct_at size) (expect (codes "uint64_t") (function_at size one))

unfoldable pub depth_at : Reader ℕ
depth_at =
    expect (codes "enum") (expect (codes "{") (expect (codes "call_depth") (expect (codes "=") (after (token depth_of) (λ d. expect (codes "}") (expect (codes ";") (taken d)))))))

-- a program, up to the end of the lexemes
unfoldable pub program_at : ℕ → ℕ → Reader Program
program_at size levels = after depth_at (λ d. after (many is_more (item_at size (stmt_at size levels)) deep size) (λ items. taken (record { depth = d; items = items })))
