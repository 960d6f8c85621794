-- The definitions on trees, at each form that has parts, with the parts as they stand in the source.
use Rattle.std.proofs.Common.{◌≡◌, ◌+◌, List, [], ◌∷◌, ◌++◌, refl, ap, ◌∙◌, subst, sym}
use Rattle.std.specs.Prelude.{codes}
use Rattle.ecd_cast.specs.declared.tree.Op.{Op}
use Rattle.ecd_cast.specs.declared.tree.Expr.{Expr}
use Rattle.ecd_cast.specs.declared.tree.Expr.TheVariants.{Load, Binary, Not}
use Rattle.ecd_cast.specs.declared.tree.Expr.TheBlock as exprs
use Rattle.ecd_cast.specs.declared.tree.Stmt.{Stmt, Row_of-Stmt, end_of-Stmt, more_of-Stmt, items-the_row-Stmt, items_hidden-the_row-Stmt-0}
use Rattle.ecd_cast.specs.declared.tree.Stmt.TheVariants.{If, For}
use Rattle.ecd_cast.specs.declared.tree.Stmt.TheBlock as stmts
use denote.Hole.Carrier.{hidden}
use Rattle.ecd_cast.specs.Memory.{Step, Name, Memory}
use Rattle.ecd_cast.specs.Expressions.{Scopes, lookup, binary, given, with_value, load, negated, value_of}
use Rattle.ecd_cast.specs.Meaning.{Calls, Place, shifted, does, does_row, block, count_of, count_in, scoped, with, on_truth, on_number, turns, and_then, doing}
use Rattle.ecd_cast.specs.Meaning.{count_all}
use Rattle.ecd_cast.specs.Spelling.{expr_lexemes, stmt_lexemes, row_lexemes, stmts_lexemes, sign, IsName, IsSpelledExpr, IsSpelledStmt, IsSpelledRow, IsSpelledBlock}

-- ---- expressions

pub value-Binary : (op : Op) (a b : Expr) (env : Scopes) (m : Memory) → value_of (Binary op a b) env m ≡ binary m op (value_of a env m) (λ _. value_of b env m)
unfolding exprs.shape-the_row-Expr-0 exprs.hidden-the_row-Expr-0 hidden
value-Binary op a b env m = refl

pub value-Load : (x : Name) (i : Expr) (env : Scopes) (m : Memory) → value_of (Load x i) env m ≡ with_value (given (lookup env x)) (λ p. with_value (value_of i env m) (load m p))
unfolding exprs.shape-the_row-Expr-0 exprs.hidden-the_row-Expr-0 hidden
value-Load x i env m = refl

pub value-Not : (a : Expr) (env : Scopes) (m : Memory) → value_of (Not a) env m ≡ with_value (value_of a env m) negated
unfolding exprs.shape-the_row-Expr-0 exprs.hidden-the_row-Expr-0 hidden
value-Not a env m = refl

pub lexemes-Load : (x : Name) (i : Expr) → expr_lexemes (Load x i) ≡ codes "(" ∷ codes "uint64_t" ∷ codes ")" ∷ x ∷ codes "[" ∷ (expr_lexemes i ++ codes "]" ∷ [])
unfolding exprs.shape-the_row-Expr-0 exprs.hidden-the_row-Expr-0 hidden
lexemes-Load x i = refl

pub lexemes-Binary : (op : Op) (a b : Expr) → expr_lexemes (Binary op a b) ≡ codes "(" ∷ (expr_lexemes a ++ sign op ∷ (expr_lexemes b ++ codes ")" ∷ []))
unfolding exprs.shape-the_row-Expr-0 exprs.hidden-the_row-Expr-0 hidden
lexemes-Binary op a b = refl

pub lexemes-Not : (a : Expr) → expr_lexemes (Not a) ≡ codes "(" ∷ codes "!" ∷ (expr_lexemes a ++ codes ")" ∷ [])
unfolding exprs.shape-the_row-Expr-0 exprs.hidden-the_row-Expr-0 hidden
lexemes-Not a = refl

-- ---- statements

count-row : {n : _} (r : Row_of-Stmt n) → count_in r ≡ count_all (items-the_row-Stmt n r)
count-row end_of-Stmt = refl
count-row (more_of-Stmt s rest) = ap (λ k. count_of s + k) (count-row rest)

pub count-hidden : (xs : List Stmt) → count_in (stmts.hidden-the_row-Stmt-0 xs) ≡ count_all xs
count-hidden xs = count-row (stmts.hidden-the_row-Stmt-0 xs) ∙ ap count_all (items_hidden-the_row-Stmt-0 xs)

does-row : {n : _} (calls : Calls) (r : Row_of-Stmt n) (p : Place) (env : Scopes) (m : Memory) → does_row calls r p env m ≡ block calls (items-the_row-Stmt n r) p env m
does-row calls end_of-Stmt p env m = refl
does-row calls (more_of-Stmt s rest) p env m = λ i. doing (Step ∷ []) (and_then (does calls s p env m) m (λ env' m'. does-row calls rest (shifted p (count_of s)) env' m' i))

pub does-hidden : (calls : Calls) (xs : List Stmt) (p : Place) → does_row calls (stmts.hidden-the_row-Stmt-0 xs) p ≡ block calls xs p
does-hidden calls xs p = λ i env m. (does-row calls (stmts.hidden-the_row-Stmt-0 xs) p env m ∙ ap (λ l. block calls l p env m) (items_hidden-the_row-Stmt-0 xs)) i

pub does-If : (calls : Calls) (t : Expr) (ys ns : List Stmt) (p : Place) (env : Scopes) (m : Memory) →
    does calls (If t ys ns) p env m ≡ with p (value_of t env m) (λ v. on_truth p v (λ _. scoped (block calls ys (shifted p 1)) env m) (λ _. scoped (block calls ns (shifted p (1 + count_all ys))) env m))
does-If calls t ys ns p env m = λ i. with p (value_of t env m) (λ v. on_truth p v (λ _. scoped (does-hidden calls ys (shifted p 1) i) env m) (λ _. scoped (second i) env m))
  where
    second : does_row calls (stmts.hidden-the_row-Stmt-0 ns) (shifted p (1 + count_in (stmts.hidden-the_row-Stmt-0 ys))) ≡ block calls ns (shifted p (1 + count_all ys))
    second = ap (λ k. does_row calls (stmts.hidden-the_row-Stmt-0 ns) (shifted p (1 + k))) (count-hidden ys) ∙ does-hidden calls ns (shifted p (1 + count_all ys))

pub does-For : (calls : Calls) (x b : Name) (body : List Stmt) (p : Place) (env : Scopes) (m : Memory) →
    does calls (For x b body) p env m ≡ with p (given (lookup env b)) (λ v. on_number p v (λ n. turns n 0 x (block calls body (shifted p 1)) env m))
does-For calls x b body p env m = λ i. with p (given (lookup env b)) (λ v. on_number p v (λ n. turns n 0 x (does-hidden calls body (shifted p 1) i) env m))

lexemes-row : {n : _} (r : Row_of-Stmt n) → row_lexemes r ≡ stmts_lexemes (items-the_row-Stmt n r)
lexemes-row end_of-Stmt = refl
lexemes-row (more_of-Stmt s rest) = ap (λ ls. stmt_lexemes s ++ ls) (lexemes-row rest)

lexemes-hidden : (xs : List Stmt) → row_lexemes (stmts.hidden-the_row-Stmt-0 xs) ≡ stmts_lexemes xs
lexemes-hidden xs = lexemes-row (stmts.hidden-the_row-Stmt-0 xs) ∙ ap stmts_lexemes (items_hidden-the_row-Stmt-0 xs)

pub lexemes-If : (t : Expr) (ys ns : List Stmt) →
    stmt_lexemes (If t ys ns) ≡ codes "if" ∷ (expr_lexemes t ++ codes "{" ∷ (stmts_lexemes ys ++ codes "}" ∷ codes "else" ∷ codes "{" ∷ (stmts_lexemes ns ++ codes "}" ∷ [])))
lexemes-If t ys ns = λ i. codes "if" ∷ (expr_lexemes t ++ codes "{" ∷ (lexemes-hidden ys i ++ codes "}" ∷ codes "else" ∷ codes "{" ∷ (lexemes-hidden ns i ++ codes "}" ∷ [])))

pub lexemes-For : (x b : Name) (body : List Stmt) →
    stmt_lexemes (For x b body) ≡
    codes "for" ∷ codes "(" ∷ codes "uint64_t" ∷ x ∷ codes "=" ∷ codes "0ull" ∷ codes ";" ∷ x ∷ codes "<" ∷ b ∷ codes ";" ∷ x ∷ codes "+=" ∷ codes "1ull" ∷ codes ")" ∷
    codes "{" ∷ (stmts_lexemes body ++ codes "}" ∷ [])
lexemes-For x b body =
    ap (λ ls. codes "for" ∷ codes "(" ∷ codes "uint64_t" ∷ x ∷ codes "=" ∷ codes "0ull" ∷ codes ";" ∷ x ∷ codes "<" ∷ b ∷ codes ";" ∷ x ∷ codes "+=" ∷ codes "1ull" ∷ codes ")" ∷ codes "{" ∷ (ls ++ codes "}" ∷ []))
    (lexemes-hidden body)

-- ---- trees that have a spelling

pub spelled-Not : (a : Expr) → IsSpelledExpr a → IsSpelledExpr (Not a)
unfolding exprs.shape-the_row-Expr-0 exprs.hidden-the_row-Expr-0 hidden
spelled-Not a h = h

spelled-row : {n : _} (r : Row_of-Stmt n) → IsSpelledBlock (items-the_row-Stmt n r) → IsSpelledRow r
spelled-row end_of-Stmt h = tt
spelled-row (more_of-Stmt s rest) h = (h.0, spelled-row rest h.1)

pub spelled-For : (x b : Name) (body : List Stmt) → IsName x → IsName b → IsSpelledBlock body → IsSpelledStmt (For x b body)
spelled-For x b body h k l = (h, k, spelled-row (stmts.hidden-the_row-Stmt-0 body) (subst IsSpelledBlock (sym (items_hidden-the_row-Stmt-0 body)) l))

pub ruleset layers = (value-Binary, value-Load, value-Not)
