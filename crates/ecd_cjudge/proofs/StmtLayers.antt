-- Faults and counts of statements, at each form that has parts, and one statement a turn.
use Rattle.std.proofs.Common.{◌≡◌, ℕ, ◌+◌, ◌<◌, List, [], ◌∷◌, ◌++◌, length, get_or, take, refl, ap, sym, ◌∙◌, arith, append-nil, append_assoc}
use Rattle.std.proofs.lemmas.List.{take_more}
use Rattle.ecd_cast.specs.declared.tree.Expr.{Expr}
use Rattle.ecd_cast.specs.declared.tree.Stmt.{Stmt, Row_of-Stmt, end_of-Stmt, more_of-Stmt, items-the_row-Stmt, items_hidden-the_row-Stmt-0}
use Rattle.ecd_cast.specs.declared.tree.Stmt.TheVariants.{If, For}
use Rattle.ecd_cast.specs.declared.tree.Stmt.TheBlock as stmts
use Rattle.ecd_first.specs.declared.first.First.{First}
use Rattle.ecd_cjudge.specs.declared.spot.Spot.{Spot}
use Rattle.ecd_cast.specs.Memory.{Name}
use Rattle.ecd_cast.specs.Meaning.{Place, shifted, count_of, count_in}
use Rattle.ecd_cast.specs.Meaning.{count_all}
use Rattle.ecd_cast.specs.Kinds.{ANumber, ATruth, Known, kind_in, broken_as, asked}
use Rattle.ecd_cast.specs.Validity.{Around, in_loop, at_place, known_after, own_rules, stmt_faults, row_faults, block_faults}
use Rattle.ecd_cjudge.specs.Faults.{SeesAll}
use Rattle.ecd_cscope.specs.Surroundings.{known_behind}
use Rattle.ecd_cast.proofs.Layers.{count-hidden}
use Rattle.ecd_cjudge.proofs.Taking.{all_then, all_same}

-- ---- forms with parts

faults-row : {n : _} (around : Around) (known : Known) (r : Row_of-Stmt n) (p : Place) → row_faults around known r p ≡ block_faults around known (items-the_row-Stmt n r) p
faults-row around known end_of-Stmt p = refl
faults-row around known (more_of-Stmt s rest) p = ap (λ l. stmt_faults around known s p ++ l) (faults-row around (known_after s known) rest (shifted p (count_of s)))

faults-hidden : (around : Around) (known : Known) (xs : List Stmt) (p : Place) → row_faults around known (stmts.hidden-the_row-Stmt-0 xs) p ≡ block_faults around known xs p
faults-hidden around known xs p = faults-row around known (stmts.hidden-the_row-Stmt-0 xs) p ∙ ap (λ l. block_faults around known l p) (items_hidden-the_row-Stmt-0 xs)

pub faults-If : (around : Around) (known : Known) (t : Expr) (ys ns : List Stmt) (p : Place) →
    stmt_faults around known (If t ys ns) p ≡ at_place p (own_rules around known (If t ys ns)) ++ block_faults around known ys (shifted p 1) ++ block_faults around known ns (shifted p (1 + count_all ys))
faults-If around known t ys ns p = λ i. at_place p (broken_as ATruth around.structs known t) ++ faults-hidden around known ys (shifted p 1) i ++ second i
  where
    second : row_faults around known (stmts.hidden-the_row-Stmt-0 ns) (shifted p (1 + count_in (stmts.hidden-the_row-Stmt-0 ys))) ≡ block_faults around known ns (shifted p (1 + count_all ys))
    second = ap (λ k. row_faults around known (stmts.hidden-the_row-Stmt-0 ns) (shifted p (1 + k))) (count-hidden ys) ∙ faults-hidden around known ns (shifted p (1 + count_all ys))

pub faults-For : (around : Around) (known : Known) (x b : Name) (body : List Stmt) (p : Place) →
    stmt_faults around known (For x b body) p ≡ at_place p (own_rules around known (For x b body)) ++ block_faults (in_loop around x b) ((x, ANumber) ∷ known) body (shifted p 1)
faults-For around known x b body p = ap (λ l. at_place p (asked ANumber (kind_in known b)) ++ l) (faults-hidden (in_loop around x b) ((x, ANumber) ∷ known) body (shifted p 1))

pub count-If : (t : Expr) (ys ns : List Stmt) → count_of (If t ys ns) ≡ 1 + count_all ys + count_all ns
count-If t ys ns = λ i. 1 + count-hidden ys i + count-hidden ns i

pub count-For : (x b : Name) (body : List Stmt) → count_of (For x b body) ≡ 1 + count_all body
count-For x b body = λ i. 1 + count-hidden body i

-- ---- one more statement

count-append : (xs : List Stmt) (s : Stmt) → count_all (xs ++ s ∷ []) ≡ count_all xs + count_of s
count-append [] s = omega arith
count-append (x ∷ xs) s = let h = count-append xs s in omega arith

behind-append : (xs : List Stmt) (s : Stmt) (known : Known) → known_behind (xs ++ s ∷ []) known ≡ known_after s (known_behind xs known)
behind-append [] s known = refl
behind-append (x ∷ xs) s known = behind-append xs s (known_after x known)

pub moved_on : (p : Place) (a b : ℕ) → shifted (shifted p a) b ≡ shifted p (a + b)
moved_on p a b = λ i. record { item = p.item; statement = same i }
  where
    same : p.statement + a + b ≡ p.statement + (a + b)
    same = omega arith

stays : (p : Place) → p ≡ shifted p 0
stays p = λ i. record { item = p.item; statement = same i }
  where
    same : p.statement ≡ p.statement + 0
    same = omega arith

faults-append : (around : Around) (known : Known) (xs : List Stmt) (s : Stmt) (p : Place) →
    block_faults around known (xs ++ s ∷ []) p ≡ block_faults around known xs p ++ stmt_faults around (known_behind xs known) s (shifted p (count_all xs))
faults-append around known [] s p = append-nil (stmt_faults around known s p) ∙ ap (stmt_faults around known s) (stays p)
faults-append around known (x ∷ xs) s p =
    ap (λ l. stmt_faults around known x p ++ l) (faults-append around (known_after x known) xs s (shifted p (count_of x)) ∙
    ap (λ q. block_faults around (known_after x known) xs (shifted p (count_of x)) ++ stmt_faults around (known_behind xs (known_after x known)) s q) (moved_on p (count_of x) (count_all xs))) ∙
    sym (append_assoc (stmt_faults around known x p) (block_faults around (known_after x known) xs (shifted p (count_of x))) (stmt_faults around (known_behind xs (known_after x known)) s (shifted p (count_of x + count_all xs))))

module _ (xs : List Stmt) (i : ℕ) (s : Stmt) (h : i < length xs) (e : s ≡ get_or xs i s) where
  one_more : take (i + 1) xs ≡ take i xs ++ s ∷ []
  one_more = take_more xs i s h ∙ ap (λ x. take i xs ++ x ∷ []) (sym e)

  pub count-more : count_all (take (i + 1) xs) ≡ count_all (take i xs) + count_of s
  count-more = ap count_all one_more ∙ count-append (take i xs) s

  pub behind-more : (known : Known) → known_behind (take (i + 1) xs) known ≡ known_after s (known_behind (take i xs) known)
  behind-more known = ap (λ l. known_behind l known) one_more ∙ behind-append (take i xs) s known

  pub faults-more : (around : Around) (known : Known) (p : Place) → block_faults around known (take (i + 1) xs) p ≡ block_faults around known (take i xs) p ++ stmt_faults around (known_behind (take i xs) known) s (shifted p (count_all (take i xs)))
  faults-more around known p = ap (λ l. block_faults around known l p) one_more ∙ faults-append around known (take i xs) s p

  -- what is taken in by one more statement
  pub sees_more : {a b c : First Spot} (around other : Around) (known now : Known) (p q : Place) → SeesAll a b (block_faults around known (take i xs) p) → SeesAll b c (stmt_faults other now s q) →
      other ≡ around → now ≡ known_behind (take i xs) known → q ≡ shifted p (count_all (take i xs)) → SeesAll a c (block_faults around known (take (i + 1) xs) p)
  sees_more around other known now p q k l same kinds place =
      all_same (sym (faults-more around known p)) (all_then k (all_same (λ j. stmt_faults (same j) (kinds j) s (place j)) l))
