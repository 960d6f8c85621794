-- Trees with parts, by the parts as they stand in the source.
use Rattle.std.proofs.Common.{◌≡◌, List, refl, ap, sym, ◌∙◌, subst, rules}
use denote.Hole.Carrier.{hidden, shown}
use Rattle.ecd_cast.specs.declared.tree.Op.{Op}
use Rattle.ecd_cast.specs.declared.tree.Expr.{Expr, Row_of-Expr, end_of-Expr, more_of-Expr, roll-Expr, roll-out-Expr}
use Rattle.ecd_cast.specs.declared.tree.Expr.TheVariants.{Load, Load', Binary, Binary', Not, Not', rolls-Load, rolls-Binary, rolls-Not}
use Rattle.ecd_cast.specs.declared.tree.Expr.TheViews.{outs-Load', outs-Binary', outs-Not'}
use Rattle.ecd_cast.specs.declared.tree.Expr.TheBlock as exprs
use Rattle.ecd_cast.specs.declared.tree.Stmt.{Stmt, Row_of-Stmt, end_of-Stmt, more_of-Stmt, items-the_row-Stmt, items_hidden-the_row-Stmt-0, roll-Stmt, roll-out-Stmt, the_lemmas}
use Rattle.ecd_cast.specs.declared.tree.Stmt.TheVariants.{If, If', For, For', rolls-If, rolls-For}
use Rattle.ecd_cast.specs.declared.tree.Stmt.TheViews.{outs-If', outs-For'}
use Rattle.ecd_cast.specs.declared.tree.Stmt.TheBlock as stmts
use Rattle.ecd_cast.specs.Memory.{Name}
use Rattle.ecd_cast.specs.Spelling.{IsName, IsSpelledExpr, IsSpelledStmt, IsSpelledRow, IsSpelledBlock}

pub spelled-Load : (x : Name) (i : Expr) → IsName x → IsSpelledExpr i → IsSpelledExpr (Load x i)
unfolding exprs.shape-the_row-Expr-0 exprs.hidden-the_row-Expr-0 hidden
spelled-Load x i n h = (n, h)

pub Load-row : (x : Name) (s : Unit {0}) (r : Row_of-Expr 1) → Load' x s r ≡ Load x (exprs.shown-the_row-Expr-0 s r)
Load-row x s r = sym (roll-out-Expr (Load' x s r)) ∙ (ap roll-Expr (outs-Load' x s r) ∙ rolls-Load x _)

pub spelled-Binary : (op : Op) (a b : Expr) → IsSpelledExpr a → IsSpelledExpr b → IsSpelledExpr (Binary op a b)
unfolding exprs.shape-the_row-Expr-0 exprs.hidden-the_row-Expr-0 hidden
spelled-Binary op a b g h = (g, h)

pub spelled-Not : (a : Expr) → IsSpelledExpr a → IsSpelledExpr (Not a)
unfolding exprs.shape-the_row-Expr-0 exprs.hidden-the_row-Expr-0 hidden
spelled-Not a h = h

pub Binary-row : (op : Op) (s : Unit {0}) (a : Row_of-Expr 1) (t : Unit {0}) (b : Row_of-Expr 1) → Binary' op s a t b ≡ Binary op (exprs.shown-the_row-Expr-0 s a) (exprs.shown-the_row-Expr-0 t b)
Binary-row op s a t b = sym (roll-out-Expr (Binary' op s a t b)) ∙ (ap roll-Expr (outs-Binary' op s a t b) ∙ rolls-Binary op _ _)

pub Not-row : (s : Unit {0}) (r : Row_of-Expr 1) → Not' s r ≡ Not (exprs.shown-the_row-Expr-0 s r)
Not-row s r = sym (roll-out-Expr (Not' s r)) ∙ (ap roll-Expr (outs-Not' s r) ∙ rolls-Not _)

pub operand : (e : Expr) (s : Unit {0}) → exprs.shown-the_row-Expr-0 s (more_of-Expr e end_of-Expr) ≡ e
unfolding exprs.shown-the_row-Expr-0 shown
operand e s = refl

spelled-row : {n : _} (r : Row_of-Stmt n) → IsSpelledRow r ≡ IsSpelledBlock (items-the_row-Stmt n r)
spelled-row end_of-Stmt = refl
spelled-row (more_of-Stmt s rest) = ap (λ (X : Type 0). IsSpelledStmt s × X) (spelled-row rest)

pub spelled_items : {n : _} (r : Row_of-Stmt n) → IsSpelledRow r → IsSpelledBlock (items-the_row-Stmt n r)
spelled_items r h = subst (λ (X : Type 0). X) (spelled-row r) h

spelled_block : (ss : List Stmt) → IsSpelledBlock ss → IsSpelledRow (stmts.hidden-the_row-Stmt-0 ss)
spelled_block ss h = subst (λ (X : Type 0). X) (sym (spelled-row (stmts.hidden-the_row-Stmt-0 ss))) (subst IsSpelledBlock (sym (items_hidden-the_row-Stmt-0 ss)) h)

pub spelled-If : (t : Expr) (ys ns : List Stmt) → IsSpelledExpr t → IsSpelledBlock ys → IsSpelledBlock ns → IsSpelledStmt (If t ys ns)
spelled-If t ys ns g h k = (g, spelled_block ys h, spelled_block ns k)

pub spelled-For : (x b : Name) (body : List Stmt) → IsName x → IsName b → IsSpelledBlock body → IsSpelledStmt (For x b body)
spelled-For x b body g h k = (g, h, spelled_block body k)

pub If-row : (t : Expr) (s : List (Unit {0})) (ys : _) (u : List (Unit {0})) (ns : _) → If' t s ys u ns ≡ If t (items-the_row-Stmt _ ys) (items-the_row-Stmt _ ns)
If-row t s ys u ns =
    let first : stmts.shown-the_row-Stmt-0 s ys ≡ items-the_row-Stmt _ ys = search (rules, the_lemmas) in
    let second : stmts.shown-the_row-Stmt-0 u ns ≡ items-the_row-Stmt _ ns = search (rules, the_lemmas) in
    sym (roll-out-Stmt (If' t s ys u ns)) ∙ (ap roll-Stmt (outs-If' t s ys u ns) ∙ (rolls-If t _ _ ∙ rw (first, second) refl))

pub For-row : (x b : Name) (s : List (Unit {0})) (body : _) → For' x b s body ≡ For x b (items-the_row-Stmt _ body)
For-row x b s body =
    let same : stmts.shown-the_row-Stmt-0 s body ≡ items-the_row-Stmt _ body = search (rules, the_lemmas) in
    sym (roll-out-Stmt (For' x b s body)) ∙ (ap roll-Stmt (outs-For' x b s body) ∙ (rolls-For x b _ ∙ rw same refl))
