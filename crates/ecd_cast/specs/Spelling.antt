-- How a text spells a program.
use Rattle.std.specs.Prelude.{ℕ, ◌≡◌, ◌<◌, ◌^◌, true, List, [], ◌∷◌, ◌++◌, length, codes, decimal, flat_map}
use Rattle.ecd_cast.specs.declared.tree.Op.{Op}
use Rattle.ecd_cast.specs.declared.tree.Op.TheVariants.{Add, Sub, Mul, Shl, Shr, BitAnd, BitOr, Eq, Ne, Lt, Le, Gt, Ge, And, Or}
use Rattle.ecd_cast.specs.declared.tree.Expr.{Expr, Row_of-Expr, end_of-Expr, more_of-Expr}
use Rattle.ecd_cast.specs.declared.tree.Expr.TheVariants.{Number, Var, Cell as CellOf, Load', Binary', Not'}
use Rattle.ecd_cast.specs.declared.tree.Source.{Source}
use Rattle.ecd_cast.specs.declared.tree.Source.TheVariants.{Value as FromValue, Call as FromCall}
use Rattle.ecd_cast.specs.declared.tree.Stmt.{Stmt, Row_of-Stmt, end_of-Stmt, more_of-Stmt}
use Rattle.ecd_cast.specs.declared.tree.Stmt.TheVariants.{Number as DeclNumber, Pointer as DeclPointer, Assign, Store, SetCell, If', For', Return}
use Rattle.ecd_cast.specs.declared.tree.Param.{Param}
use Rattle.ecd_cast.specs.declared.tree.ParamKind.{ParamKind}
use Rattle.ecd_cast.specs.declared.tree.ParamKind.TheVariants.{Number as NumberParam, ReadPointer as ReadPointerParam, WritePointer as WritePointerParam, Struct as StructParam}
use Rattle.ecd_cast.specs.declared.tree.CellInfo.{CellInfo}
use Rattle.ecd_cast.specs.declared.tree.CellKind.TheVariants.{Number as NumberCell, Pointer as PointerCell}
use Rattle.ecd_cast.specs.declared.tree.CItem.{CItem}
use Rattle.ecd_cast.specs.declared.tree.CItem.TheVariants.{Struct as AStructDecl, Function as AFunction}
use Rattle.ecd_cast.specs.declared.tree.Program.{Program}
use Rattle.ecd_cast.specs.Memory.{Name}
use Rattle.ecd_cast.specs.Lexemes.{Lexeme, Laid, is_name}

-- ---- the lexemes of each tree

abbrev pub sign : Op → Lexeme
sign Add = codes "+"
sign Sub = codes "-"
sign Mul = codes "*"
sign Shl = codes "<<"
sign Shr = codes ">>"
sign BitAnd = codes "&"
sign BitOr = codes "|"
sign Eq = codes "=="
sign Ne = codes "!="
sign Lt = codes "<"
sign Le = codes "<="
sign Gt = codes ">"
sign Ge = codes ">="
sign And = codes "&&"
sign Or = codes "||"

abbrev pub literal : ℕ → Lexeme
literal n = decimal n ++ codes "ull"

abbrev mutual
  pub expr_lexemes : Expr → List Lexeme
  expr_lexemes (Number n) = literal n ∷ []
  expr_lexemes (Var x) = x ∷ []
  expr_lexemes (CellOf x c) = x ∷ codes "->" ∷ c ∷ []
  expr_lexemes (Load' x s i) = codes "(" ∷ codes "uint64_t" ∷ codes ")" ∷ x ∷ codes "[" ∷ (operand_lexemes i ++ codes "]" ∷ [])
  expr_lexemes (Binary' op s a t b) = codes "(" ∷ (operand_lexemes a ++ sign op ∷ (operand_lexemes b ++ codes ")" ∷ []))
  expr_lexemes (Not' s a) = codes "(" ∷ codes "!" ∷ (operand_lexemes a ++ codes ")" ∷ [])

  pub operand_lexemes : {n : _} → Row_of-Expr n → List Lexeme
  operand_lexemes end_of-Expr = []
  operand_lexemes (more_of-Expr e rest) = expr_lexemes e

-- a list with commas between its members
abbrev pub with_commas : {X : Type 0} → (X → List Lexeme) → List X → List Lexeme
with_commas f [] = []
with_commas f (x ∷ xs) = f x ++ flat_map (λ y. codes "," ∷ f y) xs

abbrev pub source_lexemes : Source → List Lexeme
source_lexemes (FromValue e) = expr_lexemes e
source_lexemes (FromCall g args) = g ∷ codes "(" ∷ (with_commas expr_lexemes args ++ codes ")" ∷ [])

abbrev mutual
  pub stmt_lexemes : Stmt → List Lexeme
  stmt_lexemes (DeclNumber x e) = codes "uint64_t" ∷ x ∷ codes "=" ∷ (source_lexemes e ++ codes ";" ∷ [])
  stmt_lexemes (DeclPointer x e) = codes "const" ∷ codes "uint8_t" ∷ codes "*" ∷ x ∷ codes "=" ∷ (expr_lexemes e ++ codes ";" ∷ [])
  stmt_lexemes (Assign x e) = x ∷ codes "=" ∷ (source_lexemes e ++ codes ";" ∷ [])
  stmt_lexemes (Store x i e) = x ∷ codes "[" ∷ (expr_lexemes i ++ codes "]" ∷ codes "=" ∷ codes "(" ∷ codes "uint8_t" ∷ codes ")" ∷ (expr_lexemes e ++ codes ";" ∷ []))
  stmt_lexemes (SetCell x c e) = x ∷ codes "->" ∷ c ∷ codes "=" ∷ (expr_lexemes e ++ codes ";" ∷ [])
  stmt_lexemes (If' t s ys u ns) =
      codes "if" ∷ (expr_lexemes t ++ codes "{" ∷ (row_lexemes ys ++ codes "}" ∷ codes "else" ∷ codes "{" ∷ (row_lexemes ns ++ codes "}" ∷ [])))
  stmt_lexemes (For' x b s body) =
      codes "for" ∷ codes "(" ∷ codes "uint64_t" ∷ x ∷ codes "=" ∷ codes "0ull" ∷ codes ";" ∷ x ∷ codes "<" ∷ b ∷ codes ";" ∷ x ∷ codes "+=" ∷ codes "1ull" ∷ codes ")" ∷
      codes "{" ∷ (row_lexemes body ++ codes "}" ∷ [])
  stmt_lexemes (Return e) = codes "return" ∷ (expr_lexemes e ++ codes ";" ∷ [])

  pub row_lexemes : {n : _} → Row_of-Stmt n → List Lexeme
  row_lexemes end_of-Stmt = []
  row_lexemes (more_of-Stmt s rest) = stmt_lexemes s ++ row_lexemes rest

abbrev pub stmts_lexemes : List Stmt → List Lexeme
stmts_lexemes stmts = flat_map stmt_lexemes stmts

abbrev pub param_lexemes : Param → List Lexeme
param_lexemes q = elim q.kind [
  | NumberParam ↦ codes "uint64_t" ∷ q.name ∷ []
  | ReadPointerParam ↦ codes "const" ∷ codes "uint8_t" ∷ codes "*" ∷ q.name ∷ []
  | WritePointerParam ↦ codes "uint8_t" ∷ codes "*" ∷ q.name ∷ []
  | StructParam s ↦ codes "struct" ∷ s ∷ codes "*" ∷ q.name ∷ []
]

abbrev pub cell_lexemes : CellInfo → List Lexeme
cell_lexemes c = elim c.kind [
  | NumberCell ↦ codes "uint64_t" ∷ c.name ∷ codes ";" ∷ []
  | PointerCell ↦ codes "const" ∷ codes "uint8_t" ∷ codes "*" ∷ c.name ∷ codes ";" ∷ []
]

abbrev pub item_lexemes : CItem → List Lexeme
item_lexemes (AStructDecl s) = codes "struct" ∷ s.name ∷ codes "{" ∷ (flat_map cell_lexemes s.cells ++ codes "}" ∷ codes ";" ∷ [])
item_lexemes (AFunction f) =
    codes "uint64_t" ∷ f.name ∷ codes "(" ∷ (with_commas param_lexemes f.params ++ codes ")" ∷ codes "{" ∷ (stmts_lexemes f.body ++ codes "}" ∷ []))

abbrev pub program_lexemes : Program → List Lexeme
program_lexemes p = codes "enum" ∷ codes "{" ∷ codes "call_depth" ∷ codes "=" ∷ decimal p.depth ∷ codes "}" ∷ codes ";" ∷ flat_map item_lexemes p.items

-- ---- the text

-- #include <stdint.h> and a line feed, one lexeme
abbrev pub first_line : List ℕ
first_line = codes "#include <stdint.h>" ++ 10 ∷ []

-- the text is the first line, and then the program's lexemes with free white space
pub record Spells (p : Program) (text : List ℕ) : Type 0 where
  pub rest : List ℕ
  pub begins : text ≡ first_line ++ rest
  pub laid : Laid (program_lexemes p) rest

-- ---- trees that have a spelling: each name is a name, each number fits, each struct has a cell, each function a parameter and each call an argument

abbrev pub IsName : Name → Type 0
IsName x = is_name x ≡ true

abbrev pub IsLiteral : ℕ → Type 0
IsLiteral n = n < 2 ^ 64

abbrev mutual
  pub IsSpelledExpr : Expr → Type 0
  IsSpelledExpr (Number n) = IsLiteral n
  IsSpelledExpr (Var x) = IsName x
  IsSpelledExpr (CellOf x c) = IsName x × IsName c
  IsSpelledExpr (Load' x s i) = IsName x × IsSpelledOperand i
  IsSpelledExpr (Binary' op s a t b) = IsSpelledOperand a × IsSpelledOperand b
  IsSpelledExpr (Not' s a) = IsSpelledOperand a

  pub IsSpelledOperand : {n : _} → Row_of-Expr n → Type 0
  IsSpelledOperand end_of-Expr = Unit {0}
  IsSpelledOperand (more_of-Expr e rest) = IsSpelledExpr e

abbrev pub AreSpelled : List Expr → Type 0
AreSpelled [] = Unit {0}
AreSpelled (e ∷ es) = IsSpelledExpr e × AreSpelled es

abbrev pub IsSpelledSource : Source → Type 0
IsSpelledSource (FromValue e) = IsSpelledExpr e
IsSpelledSource (FromCall g args) = IsName g × (0 < length args) × AreSpelled args

abbrev mutual
  pub IsSpelledStmt : Stmt → Type 0
  IsSpelledStmt (DeclNumber x e) = IsName x × IsSpelledSource e
  IsSpelledStmt (DeclPointer x e) = IsName x × IsSpelledExpr e
  IsSpelledStmt (Assign x e) = IsName x × IsSpelledSource e
  IsSpelledStmt (Store x i e) = IsName x × IsSpelledExpr i × IsSpelledExpr e
  IsSpelledStmt (SetCell x c e) = IsName x × IsName c × IsSpelledExpr e
  IsSpelledStmt (If' t s ys u ns) = IsSpelledExpr t × IsSpelledRow ys × IsSpelledRow ns
  IsSpelledStmt (For' x b s body) = IsName x × IsName b × IsSpelledRow body
  IsSpelledStmt (Return e) = IsSpelledExpr e

  pub IsSpelledRow : {n : _} → Row_of-Stmt n → Type 0
  IsSpelledRow end_of-Stmt = Unit {0}
  IsSpelledRow (more_of-Stmt s rest) = IsSpelledStmt s × IsSpelledRow rest

abbrev pub IsSpelledBlock : List Stmt → Type 0
IsSpelledBlock [] = Unit {0}
IsSpelledBlock (s ∷ rest) = IsSpelledStmt s × IsSpelledBlock rest

abbrev pub IsSpelledParamKind : ParamKind → Type 0
IsSpelledParamKind NumberParam = Unit {0}
IsSpelledParamKind ReadPointerParam = Unit {0}
IsSpelledParamKind WritePointerParam = Unit {0}
IsSpelledParamKind (StructParam s) = IsName s

abbrev pub AreSpelledParams : List Param → Type 0
AreSpelledParams [] = Unit {0}
AreSpelledParams (q ∷ qs) = IsName q.name × IsSpelledParamKind q.kind × AreSpelledParams qs

abbrev pub AreSpelledCells : List CellInfo → Type 0
AreSpelledCells [] = Unit {0}
AreSpelledCells (c ∷ cs) = IsName c.name × AreSpelledCells cs

abbrev pub IsSpelledItem : CItem → Type 0
IsSpelledItem (AStructDecl s) = IsName s.name × (0 < length s.cells) × AreSpelledCells s.cells
IsSpelledItem (AFunction f) = IsName f.name × (0 < length f.params) × AreSpelledParams f.params × IsSpelledBlock f.body

abbrev pub AreSpelledItems : List CItem → Type 0
AreSpelledItems [] = Unit {0}
AreSpelledItems (i ∷ is) = IsSpelledItem i × AreSpelledItems is

-- a program that has a spelling: its depth fits too
pub record IsSpelledProgram (p : Program) : Type 0 where
  pub fits : p.depth < 2 ^ 32
  pub items_are : AreSpelledItems p.items

-- the text spells the program, which has a spelling
pub record IsSpelling (program : Program) (text : List ℕ) : Type 0 where
  pub spelled : IsSpelledProgram program
  pub spells : Spells program text
