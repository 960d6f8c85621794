-- Statements, counted.
use Rattle.std.proofs.Common.{◌≡◌, ℕ, zero, suc, ◌+◌, ◌<◌, List, [], ◌∷◌, length, get_or, take, ap, sym, subst, ◌∙◌, arith}
use Rattle.ecd_cast.specs.declared.tree.Expr.{Expr}
use Rattle.ecd_cast.specs.declared.tree.Stmt.{Stmt}
use Rattle.ecd_cast.specs.declared.tree.Stmt.TheBlock as stmts
use Rattle.ecd_cast.specs.declared.tree.Stmt.TheVariants.{If, For}
use Rattle.ecd_cast.specs.Memory.{Name}
use Rattle.ecd_cast.specs.Meaning.{count_of, count_in}
use Rattle.ecd_cast.specs.Meaning.{count_all}
use Rattle.ecd_cast.proofs.Layers.{count-hidden}

pub count-If : (t : Expr) (ys ns : List Stmt) → count_of (If t ys ns) ≡ 1 + count_all ys + count_all ns
count-If t ys ns = ap (λ k. 1 + k + count_in (stmts.hidden-the_row-Stmt-0 ns)) (count-hidden ys) ∙ ap (λ k. 1 + count_all ys + k) (count-hidden ns)

pub count-For : (x b : Name) (body : List Stmt) → count_of (For x b body) ≡ 1 + count_all body
count-For x b body = ap (λ k. 1 + k) (count-hidden body)

-- one more statement
pub count_more : (xs : List Stmt) (i n : ℕ) (s d : Stmt) → n ≡ suc i → i < length xs → s ≡ get_or xs i d → count_all (take n xs) ≡ count_all (take i xs) + count_of s
count_more xs i n s d e lt h = subst (λ j. count_all (take j xs) ≡ count_all (take i xs) + count_of s) (sym e) (by xs i s d lt h)
  where
    by : (xs : List Stmt) (i : ℕ) (s d : Stmt) → i < length xs → s ≡ get_or xs i d → count_all (take (suc i) xs) ≡ count_all (take i xs) + count_of s
    by [] i s d lt h = absurd (omega arith)
    by (x ∷ xs) zero s d lt h = let k : count_of s ≡ count_of x = ap count_of h in omega arith
    by (x ∷ xs) (suc i) s d lt h = let k = by xs i s d (omega arith) h in omega arith
