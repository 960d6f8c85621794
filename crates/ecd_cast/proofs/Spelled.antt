-- The lexemes of a tree that has a spelling are lexemes.
use Rattle.std.proofs.Common.{◌≡◌, ℕ, zero, suc, ◌<◌, ◌^◌, Bool, true, false, ◌||◌, ◌&&◌, List, [], ◌∷◌, ◌++◌, length, get_or, refl, ap, sym, subst, arith}
use Rattle.std.specs.Prelude.{codes, decimal, flat_map, nat_eq, nat_le, not, bytes_eq}
use Rattle.std.specs.List.{list_all}
use Rattle.std.specs.Str.Parse.{AllDigits}
use Rattle.std.proofs.lemmas.Fmt.{decimal_digit, decimal_is_IsNumeral, first_decimal}
use Rattle.std.proofs.lemmas.Str.Parse.{digit_at}
use Rattle.std.proofs.lemmas.Bool.{le-leb, eqb-true}
use Rattle.ecd_cast.specs.declared.tree.Program.{Program}
use Rattle.ecd_cast.specs.declared.tree.Op.{Op}
use Rattle.ecd_cast.specs.declared.tree.Op.TheVariants.{Add, Sub, Mul, Shl, Shr, BitAnd, BitOr, Eq, Ne, Lt, Le, Gt, Ge, And, Or}
use Rattle.ecd_cast.specs.declared.tree.Expr.{Expr, Row_of-Expr, end_of-Expr, more_of-Expr}
use Rattle.ecd_cast.specs.declared.tree.Expr.TheVariants.{Number, Var, Cell as CellOf, Load', Binary', Not'}
use Rattle.ecd_cast.specs.declared.tree.Source.{Source}
use Rattle.ecd_cast.specs.declared.tree.Source.TheVariants.{Value as FromValue, Call as FromCall}
use Rattle.ecd_cast.specs.declared.tree.Stmt.{Stmt, Row_of-Stmt, end_of-Stmt, more_of-Stmt}
use Rattle.ecd_cast.specs.declared.tree.Stmt.TheVariants.{Number as DeclNumber, Pointer as DeclPointer, Assign, Store, SetCell, If', For', Return}
use Rattle.ecd_cast.specs.declared.tree.Param.{Param}
use Rattle.ecd_cast.specs.declared.tree.ParamKind.{ParamKind}
use Rattle.ecd_cast.specs.declared.tree.ParamKind.TheVariants.{Number as NumberParam, ReadPointer as ReadPointerParam, WritePointer as WritePointerParam, Struct as StructParam}
use Rattle.ecd_cast.specs.declared.tree.CellInfo.{CellInfo}
use Rattle.ecd_cast.specs.declared.tree.CellKind.{CellKind}
use Rattle.ecd_cast.specs.declared.tree.CellKind.TheVariants.{Number as NumberCell, Pointer as PointerCell}
use Rattle.ecd_cast.specs.declared.tree.CItem.{CItem}
use Rattle.ecd_cast.specs.declared.tree.CItem.TheVariants.{Struct as AStructDecl, Function as AFunction}
use Rattle.ecd_cast.specs.Memory.{Name}
use Rattle.ecd_cast.specs.Lexemes.{Lexeme, AreLexemes, is_lexeme, is_word, is_reserved, is_digits, is_literal, digits_and_ull, is_sign, is_digit}
use Rattle.ecd_cast.specs.Spelling.{IsName, sign, literal, expr_lexemes, operand_lexemes, source_lexemes, stmt_lexemes, row_lexemes, stmts_lexemes, param_lexemes, cell_lexemes, item_lexemes, with_commas, program_lexemes, IsSpelledExpr, IsSpelledOperand, AreSpelled, IsSpelledSource, IsSpelledStmt, IsSpelledRow, IsSpelledBlock, IsSpelledParamKind, AreSpelledParams, AreSpelledCells, IsSpelledItem, AreSpelledItems, IsSpelledProgram}

-- ---- numbers

and_true : (a b : Bool) → a ≡ true → b ≡ true → (a && b) ≡ true
and_true a b e h = rw (e, h)

or_right : (a b : Bool) → b ≡ true → (a || b) ≡ true
or_right true b e = refl
or_right false b e = e

or_left : (a b : Bool) → a ≡ true → (a || b) ≡ true
or_left a b e = rw e

a_digit : (c : ℕ) (cs : List ℕ) → AllDigits 10 (c ∷ cs) → is_digit c ≡ true
a_digit c cs h = let r = digit_at (c ∷ cs) 0 h (omega arith) in and_true (nat_le 48 c) (nat_le c 57) (le-leb 48 c r.0) (le-leb c 57 r.1)

all_digits : (cs : List ℕ) → AllDigits 10 cs → list_all is_digit cs ≡ true
all_digits [] h = refl
all_digits (c ∷ cs) h = and_true (is_digit c) (list_all is_digit cs) (a_digit c cs h) (all_digits cs h.1)

not_zero : (c : ℕ) → 48 < c → nat_eq c 48 ≡ false
not_zero c h = by_test (nat_eq c 48) refl
  where
    by_test : (b : Bool) → nat_eq c 48 ≡ b → b ≡ false
    by_test false e = refl
    by_test true e = let same = eqb-true c 48 e in absurd (omega arith)

digits_of : (ds : List ℕ) → 0 < length ds → AllDigits 10 ds → 48 < get_or ds 0 0 → is_digits ds ≡ true
digits_of [] pos h first = absurd (omega arith)
digits_of (c ∷ []) pos h first = a_digit c [] h
digits_of (c ∷ d ∷ cs) pos h first =
    and_true (is_digit c && not (nat_eq c 48)) (list_all is_digit (d ∷ cs)) (and_true (is_digit c) (not (nat_eq c 48)) (a_digit c (d ∷ cs) h) (ap not (not_zero c first))) (all_digits (d ∷ cs) h.1)

tail_of : (ds : List ℕ) → AllDigits 10 ds → digits_and_ull (ds ++ codes "ull") ≡ true
tail_of [] h = refl
tail_of (c ∷ cs) h =
    or_left (is_digit c && digits_and_ull (cs ++ codes "ull")) (bytes_eq (c ∷ (cs ++ codes "ull")) (codes "ull"))
    (and_true (is_digit c) (digits_and_ull (cs ++ codes "ull")) (a_digit c cs h) (tail_of cs h.1))

literal_of : (ds : List ℕ) → 0 < length ds → AllDigits 10 ds → 48 < get_or ds 0 0 → is_literal (ds ++ codes "ull") ≡ true
literal_of [] pos h first = absurd (omega arith)
literal_of (c ∷ cs) pos h first = rw (not_zero c first) (and_true (is_digit c) (digits_and_ull (cs ++ codes "ull")) (a_digit c cs h) (tail_of cs h.1))

digits_lexeme : (w : Lexeme) → is_digits w ≡ true → is_lexeme w ≡ true
digits_lexeme w e = or_left (is_word w || is_digits w || is_literal w) (is_sign w) (or_left (is_word w || is_digits w) (is_literal w) (or_right (is_word w) (is_digits w) e))

literal_lexeme : (w : Lexeme) → is_literal w ≡ true → is_lexeme w ≡ true
literal_lexeme w e = or_left (is_word w || is_digits w || is_literal w) (is_sign w) (or_right (is_word w || is_digits w) (is_literal w) e)

pub decimal_digits : (n : ℕ) → n < 2 ^ 64 → is_digits (decimal n) ≡ true
decimal_digits zero h = subst (λ (w : List ℕ). is_digits w ≡ true) (sym (decimal_digit 0 (omega arith))) refl
decimal_digits (suc n) h =
    let all = decimal_is_IsNumeral (suc n) h in
    digits_of (decimal (suc n)) all.0.0 all.0.1 (first_decimal (suc n) (omega arith) h)

decimal_lexeme : (n : ℕ) → n < 2 ^ 64 → is_lexeme (decimal n) ≡ true
decimal_lexeme n h = digits_lexeme (decimal n) (decimal_digits n h)

number_lexeme : (n : ℕ) → n < 2 ^ 64 → is_lexeme (literal n) ≡ true
number_lexeme zero h = subst (λ (w : List ℕ). is_lexeme (w ++ codes "ull") ≡ true) (sym (decimal_digit 0 (omega arith))) refl
number_lexeme (suc n) h =
    let all = decimal_is_IsNumeral (suc n) h in
    literal_lexeme (literal (suc n)) (literal_of (decimal (suc n)) all.0.0 all.0.1 (first_decimal (suc n) (omega arith) h))

name_lexeme : (x : Name) → IsName x → is_lexeme x ≡ true
name_lexeme x h = or_left (is_word x || is_digits x || is_literal x) (is_sign x) (or_left (is_word x || is_digits x) (is_literal x) (or_left (is_word x) (is_digits x) (first (is_word x) (not (is_reserved x)) h)))
  where
    first : (a b : Bool) → (a && b) ≡ true → a ≡ true
    first true b e = refl
    first false b e = e

-- ---- lists

are_both : (xs ys : List Lexeme) → AreLexemes xs → AreLexemes ys → AreLexemes (xs ++ ys)
are_both [] ys h k = k
are_both (x ∷ xs) ys h k = (h.0, are_both xs ys h.1 k)

-- ---- trees

sign_lexeme : (op : Op) → is_lexeme (sign op) ≡ true
sign_lexeme Add = refl
sign_lexeme Sub = refl
sign_lexeme Mul = refl
sign_lexeme Shl = refl
sign_lexeme Shr = refl
sign_lexeme BitAnd = refl
sign_lexeme BitOr = refl
sign_lexeme Eq = refl
sign_lexeme Ne = refl
sign_lexeme Lt = refl
sign_lexeme Le = refl
sign_lexeme Gt = refl
sign_lexeme Ge = refl
sign_lexeme And = refl
sign_lexeme Or = refl

mutual
  expr_are : (e : Expr) → IsSpelledExpr e → AreLexemes (expr_lexemes e)
  expr_are (Number n) h = (number_lexeme n h, tt)
  expr_are (Var x) h = (name_lexeme x h, tt)
  expr_are (CellOf x c) h = (name_lexeme x h.0, (refl, (name_lexeme c h.1, tt)))
  expr_are (Load' x s i) h = (refl, (refl, (refl, (name_lexeme x h.0, (refl, are_both (operand_lexemes i) _ (operand_are i h.1) (refl, tt))))))
  expr_are (Binary' op s a t b) h = (refl, are_both (operand_lexemes a) _ (operand_are a h.0) (sign_lexeme op, are_both (operand_lexemes b) _ (operand_are b h.1) (refl, tt)))
  expr_are (Not' s a) h = (refl, (refl, are_both (operand_lexemes a) _ (operand_are a h) (refl, tt)))

  operand_are : {n : _} (r : Row_of-Expr n) → IsSpelledOperand r → AreLexemes (operand_lexemes r)
  operand_are end_of-Expr h = tt
  operand_are (more_of-Expr e rest) h = expr_are e h

more_are : (es : List Expr) → AreSpelled es → AreLexemes (flat_map (λ e. codes "," ∷ expr_lexemes e) es)
more_are [] h = tt
more_are (e ∷ es) h = (refl, are_both (expr_lexemes e) _ (expr_are e h.0) (more_are es h.1))

args_are : (es : List Expr) → AreSpelled es → AreLexemes (with_commas expr_lexemes es)
args_are [] h = tt
args_are (e ∷ es) h = are_both (expr_lexemes e) _ (expr_are e h.0) (more_are es h.1)

source_are : (s : Source) → IsSpelledSource s → AreLexemes (source_lexemes s)
source_are (FromValue e) h = expr_are e h
source_are (FromCall g args) h = (name_lexeme g h.0, (refl, are_both (with_commas expr_lexemes args) _ (args_are args h.2) (refl, tt)))

mutual
  stmt_are : (s : Stmt) → IsSpelledStmt s → AreLexemes (stmt_lexemes s)
  stmt_are (DeclNumber x e) h = (refl, (name_lexeme x h.0, (refl, are_both (source_lexemes e) _ (source_are e h.1) (refl, tt))))
  stmt_are (DeclPointer x e) h = (refl, (refl, (refl, (name_lexeme x h.0, (refl, are_both (expr_lexemes e) _ (expr_are e h.1) (refl, tt))))))
  stmt_are (Assign x e) h = (name_lexeme x h.0, (refl, are_both (source_lexemes e) _ (source_are e h.1) (refl, tt)))
  stmt_are (Store x i e) h =
      (name_lexeme x h.0, (refl, are_both (expr_lexemes i) _ (expr_are i h.1) (refl, (refl, (refl, (refl, (refl, are_both (expr_lexemes e) _ (expr_are e h.2) (refl, tt))))))))
  stmt_are (SetCell x c e) h = (name_lexeme x h.0, (refl, (name_lexeme c h.1, (refl, are_both (expr_lexemes e) _ (expr_are e h.2) (refl, tt)))))
  stmt_are (If' t s ys u ns) h =
      (refl, are_both (expr_lexemes t) _ (expr_are t h.0) (refl, are_both (row_lexemes ys) _ (row_are ys h.1) (refl, (refl, (refl, are_both (row_lexemes ns) _ (row_are ns h.2) (refl, tt))))))
  stmt_are (For' x b s body) h =
      (refl, (refl, (refl, (name_lexeme x h.0, (refl, (refl, (refl, (name_lexeme x h.0, (refl, (name_lexeme b h.1, (refl, (name_lexeme x h.0, (refl, (refl, (refl, (refl, are_both (row_lexemes body) _ (row_are body h.2) (refl, tt)))))))))))))))))
  stmt_are (Return e) h = (refl, are_both (expr_lexemes e) _ (expr_are e h) (refl, tt))

  row_are : {n : _} (r : Row_of-Stmt n) → IsSpelledRow r → AreLexemes (row_lexemes r)
  row_are end_of-Stmt h = tt
  row_are (more_of-Stmt s rest) h = are_both (stmt_lexemes s) (row_lexemes rest) (stmt_are s h.0) (row_are rest h.1)

stmts_are : (ss : List Stmt) → IsSpelledBlock ss → AreLexemes (stmts_lexemes ss)
stmts_are [] h = tt
stmts_are (s ∷ rest) h = are_both (stmt_lexemes s) _ (stmt_are s h.0) (stmts_are rest h.1)

kind_are : (x : Name) (k : ParamKind) → IsName x → IsSpelledParamKind k → AreLexemes (param_lexemes (record { name = x; kind = k }))
kind_are x NumberParam h k = (refl, (name_lexeme x h, tt))
kind_are x ReadPointerParam h k = (refl, (refl, (refl, (name_lexeme x h, tt))))
kind_are x WritePointerParam h k = (refl, (refl, (name_lexeme x h, tt)))
kind_are x (StructParam s) h k = (refl, (name_lexeme s k, (refl, (name_lexeme x h, tt))))

more_params_are : (ps : List Param) → AreSpelledParams ps → AreLexemes (flat_map (λ q. codes "," ∷ param_lexemes q) ps)
more_params_are [] h = tt
more_params_are (q ∷ qs) h = (refl, are_both (param_lexemes q) _ (kind_are q.name q.kind h.0 h.1) (more_params_are qs h.2))

params_are : (ps : List Param) → AreSpelledParams ps → AreLexemes (with_commas param_lexemes ps)
params_are [] h = tt
params_are (q ∷ qs) h = are_both (param_lexemes q) _ (kind_are q.name q.kind h.0 h.1) (more_params_are qs h.2)

cell_are : (x : Name) (k : CellKind) → IsName x → AreLexemes (cell_lexemes (record { name = x; kind = k }))
cell_are x NumberCell h = (refl, (name_lexeme x h, (refl, tt)))
cell_are x PointerCell h = (refl, (refl, (refl, (name_lexeme x h, (refl, tt)))))

cells_are : (cs : List CellInfo) → AreSpelledCells cs → AreLexemes (flat_map cell_lexemes cs)
cells_are [] h = tt
cells_are (c ∷ cs) h = are_both (cell_lexemes c) _ (cell_are c.name c.kind h.0) (cells_are cs h.1)

item_are : (i : CItem) → IsSpelledItem i → AreLexemes (item_lexemes i)
item_are (AStructDecl s) h = (refl, (name_lexeme s.name h.0, (refl, are_both (flat_map cell_lexemes s.cells) _ (cells_are s.cells h.2) (refl, (refl, tt)))))
item_are (AFunction f) h =
    (refl, (name_lexeme f.name h.0, (refl, are_both (with_commas param_lexemes f.params) _ (params_are f.params h.2) (refl, (refl, are_both (stmts_lexemes f.body) _ (stmts_are f.body h.3) (refl, tt))))))

items_are : (is : List CItem) → AreSpelledItems is → AreLexemes (flat_map item_lexemes is)
items_are [] h = tt
items_are (i ∷ is) h = are_both (item_lexemes i) _ (item_are i h.0) (items_are is h.1)

pub program_are : (p : Program) → IsSpelledProgram p → AreLexemes (program_lexemes p)
program_are p h = (refl, (refl, (refl, (refl, (decimal_lexeme p.depth (omega (arith, h.fits)), (refl, (refl, items_are p.items h.items_are)))))))
