-- Names that are taken in, piece by piece; how blocks end.
use Rattle.std.proofs.Common.{◌≡◌, ℕ, suc, ◌+◌, ◌-◌, ◌<◌, List, [], ◌∷◌, ◌++◌, length, get_or, take, refl, ap, sym, ◌∙◌, subst, arith, append-nil, append_assoc, Bool, true, false}
use Rattle.std.specs.Prelude.{Option, Some, None, map, not, slice_get, ◌&&◌, ◌||◌, bytes_eq}
use Rattle.std.specs.List.{list_any}
use Rattle.std.specs.BTreeMap.{is_at}
use Rattle.std.specs.BTreeSet.{BTreeSet, Updates, IsEmpty}
use Rattle.std.specs.Cmp.Lexicographic.{slice_cmp}
use Rattle.std.specs.Ordering.{nat_cmp}
use Rattle.std.proofs.lemmas.List.{take_more}
use denote.Ref.{Bor}
use Rattle.ecd_cast.specs.declared.tree.Expr.{Expr}
use Rattle.ecd_cast.specs.declared.tree.Stmt.{Stmt, Row_of-Stmt, end_of-Stmt, more_of-Stmt, items-the_row-Stmt, items_hidden-the_row-Stmt-0}
use Rattle.ecd_cast.specs.declared.tree.Stmt.TheVariants.{If, For}
use Rattle.ecd_cast.specs.declared.tree.Stmt.TheBlock as stmts
use Rattle.ecd_first.specs.declared.first.First.{First}
use Rattle.ecd_cjudge.specs.declared.spot.Spot.{Spot}
use Rattle.ecd_cast.specs.Memory.{Name}
use Rattle.ecd_cast.specs.Meaning.{Place, shifted, count_of, count_in}
use Rattle.ecd_cast.specs.Meaning.{count_all}
use Rattle.ecd_cast.specs.Kinds.{unless}
use Rattle.ecd_cast.specs.Validity.{Naming, at_place, is_among, twice, named_by, named_in, named_in_row, head_names, returns, row_returns, block_returns}
use Rattle.ecd_cjudge.specs.Faults.{Finds}
use Rattle.ecd_cast.specs.ByName.{has}
use Rattle.ecd_cjudge.specs.Names.{names_after, Holds, Named}
use Rattle.ecd_cast.proofs.Layers.{count-hidden}
use Rattle.ecd_cjudge.proofs.Taking.{all_then, all_same}
use Rattle.ecd_cast.proofs.Names.{has-put}
use Rattle.ecd_cjudge.proofs.StmtLayers.{moved_on}

abbrev Names : Type 0
Names = BTreeSet (Bor (List ℕ))

-- ---- pieces

twice-append : (a b : List Naming) (e : List Name) → twice e (a ++ b) ≡ twice e a ++ twice (names_after a e) b
twice-append [] b e = refl
twice-append (n ∷ a) b e =
    ap (λ l. at_place n.place (unless (not (is_among e n.name)) 6) ++ l) (twice-append a b (n.name ∷ e)) ∙
    sym (append_assoc (at_place n.place (unless (not (is_among e n.name)) 6)) (twice (n.name ∷ e) a) (twice (names_after a (n.name ∷ e)) b))

after-append : (a b : List Naming) (e : List Name) → names_after (a ++ b) e ≡ names_after b (names_after a e)
after-append [] b e = refl
after-append (n ∷ a) b e = after-append a b (n.name ∷ e)

pub named_then : {s t u : Names} {f f' f'' : First Spot} {a b : List Naming} → Named s f t f' a → Named t f' u f'' b → Named s f u f'' (a ++ b)
named_then {u = u} {a = a} {b} h k = record {
  sees = λ l e. all_same (sym (twice-append a b l)) (all_then (h.sees l e) (k.sees (names_after a l) (h.there l e)));
  there = λ l e. subst (λ (m : List Name). Holds u m) (sym (after-append a b l)) (k.there (names_after a l) (h.there l e));
}

pub named_same : {s t : Names} {f f' : First Spot} {a b : List Naming} → a ≡ b → Named s f t f' a → Named s f t f' b
named_same {s} {t} {f} {f'} e h = subst (λ (l : List Naming). Named s f t f' l) e h

pub named_one : (s t : Names) (f f' : First Spot) (x : Bor (List ℕ)) (p : Place) (is_new : Bool) → is_new ≡ not (has s x.now) → Finds f f' p (unless is_new 6) → Updates (λ a b. slice_cmp nat_cmp a.now b.now) s t x true →
    Named s f t f' (record { name = x.now; place = p } ∷ [])
named_one s t f f' x p is_new e h u = record {
  sees = λ l k. all_same (ap (λ b. at_place p (unless b 6)) (e ∙ ap not (k.has_them x.now)) ∙ sym (append-nil (at_place p (unless (not (is_among l x.now)) 6)))) h.sees;
  there = λ l k. record { has_them = λ y. has-put s t x u y ∙ ap (λ b. bytes_eq x.now y || b) (k.has_them y) };
}

-- no names yet
pub holds_none : (s : Names) → IsEmpty s → Holds s []
holds_none s e = record { has_them = λ x. ap (λ (ks : List (Bor (List ℕ))). list_any (λ k. is_at (λ (q : Bor (List ℕ)). slice_cmp nat_cmp x q.now) k) ks) e }

-- ---- forms with parts

named-row : {n : _} (r : Row_of-Stmt n) (p : Place) → named_in_row r p ≡ named_in (items-the_row-Stmt n r) p
named-row end_of-Stmt p = refl
named-row (more_of-Stmt s rest) p = ap (λ l. named_by s p ++ l) (named-row rest (shifted p (count_of s)))

named-hidden : (xs : List Stmt) (p : Place) → named_in_row (stmts.hidden-the_row-Stmt-0 xs) p ≡ named_in xs p
named-hidden xs p = named-row (stmts.hidden-the_row-Stmt-0 xs) p ∙ ap (λ l. named_in l p) (items_hidden-the_row-Stmt-0 xs)

pub named-If : (t : Expr) (ys ns : List Stmt) (p : Place) → named_by (If t ys ns) p ≡ named_in ys (shifted p 1) ++ named_in ns (shifted p (1 + count_all ys))
named-If t ys ns p = λ i. named-hidden ys (shifted p 1) i ++ second i
  where
    second : named_in_row (stmts.hidden-the_row-Stmt-0 ns) (shifted p (1 + count_in (stmts.hidden-the_row-Stmt-0 ys))) ≡ named_in ns (shifted p (1 + count_all ys))
    second = ap (λ k. named_in_row (stmts.hidden-the_row-Stmt-0 ns) (shifted p (1 + k))) (count-hidden ys) ∙ named-hidden ns (shifted p (1 + count_all ys))

pub named-For : (x b : Name) (body : List Stmt) (p : Place) → named_by (For x b body) p ≡ (record { name = x; place = p } ∷ []) ++ named_in body (shifted p 1)
named-For x b body p = λ i. (record { name = x; place = p } ∷ []) ++ named-hidden body (shifted p 1) i

-- ---- one more

stays : (p : Place) → p ≡ shifted p 0
stays p = λ i. record { item = p.item; statement = same i }
  where
    same : p.statement ≡ p.statement + 0
    same = omega arith

named-append : (xs : List Stmt) (s : Stmt) (p : Place) → named_in (xs ++ s ∷ []) p ≡ named_in xs p ++ named_by s (shifted p (count_all xs))
named-append [] s p = append-nil (named_by s p) ∙ ap (named_by s) (stays p)
named-append (x ∷ xs) s p =
    ap (λ l. named_by x p ++ l) (named-append xs s (shifted p (count_of x)) ∙ ap (λ q. named_in xs (shifted p (count_of x)) ++ named_by s q) (moved_on p (count_of x) (count_all xs))) ∙
    sym (append_assoc (named_by x p) (named_in xs (shifted p (count_of x))) (named_by s (shifted p (count_of x + count_all xs))))

pub named-more : (xs : List Stmt) (i : ℕ) (s : Stmt) → i < length xs → s ≡ get_or xs i s → (p : Place) → named_in (take (i + 1) xs) p ≡ named_in (take i xs) p ++ named_by s (shifted p (count_all (take i xs)))
named-more xs i s h e p = ap (λ l. named_in l p) (take_more xs i s h ∙ ap (λ x. take i xs ++ x ∷ []) (sym e)) ∙ named-append (take i xs) s p

head-append : {X : Type 0} (f : X → Name) (xs : List X) (x : X) (p : Place) → head_names p (map f (xs ++ x ∷ [])) ≡ head_names p (map f xs) ++ record { name = f x; place = p } ∷ []
head-append f [] x p = refl
head-append f (y ∷ xs) x p = ap (λ (l : List Naming). record { name = f y; place = p } ∷ l) (head-append f xs x p)

pub head-more : {X : Type 0} (f : X → Name) (xs : List X) (i : ℕ) (x : X) → i < length xs → x ≡ get_or xs i x → (p : Place) → head_names p (map f (take (i + 1) xs)) ≡ head_names p (map f (take i xs)) ++ record { name = f x; place = p } ∷ []
head-more f xs i x h e p = ap (λ l. head_names p (map f l)) (take_more xs i x h ∙ ap (λ y. take i xs ++ y ∷ []) (sym e)) ∙ head-append f (take i xs) x p

-- ---- ends

returns-row : {n : _} (r : Row_of-Stmt n) → row_returns r ≡ block_returns (items-the_row-Stmt n r)
returns-row end_of-Stmt = refl
returns-row (more_of-Stmt s end_of-Stmt) = refl
returns-row (more_of-Stmt s (more_of-Stmt t rest)) = returns-row (more_of-Stmt t rest)

returns-hidden : (xs : List Stmt) → row_returns (stmts.hidden-the_row-Stmt-0 xs) ≡ block_returns xs
returns-hidden xs = returns-row (stmts.hidden-the_row-Stmt-0 xs) ∙ ap block_returns (items_hidden-the_row-Stmt-0 xs)

pub returns-If : (t : Expr) (ys ns : List Stmt) → returns (If t ys ns) ≡ (block_returns ys && block_returns ns)
returns-If t ys ns = λ i. returns-hidden ys i && returns-hidden ns i

abbrev pub last_returns : Option Stmt → Bool
last_returns None = false
last_returns (Some s) = returns s

pub returns-last : (xs : List Stmt) → block_returns xs ≡ last_returns (slice_get xs (length xs - 1))
returns-last [] = refl
returns-last (s ∷ []) = refl
returns-last (s ∷ (t ∷ rest)) = returns-last (t ∷ rest) ∙ ap (λ k. last_returns (slice_get (s ∷ (t ∷ rest)) k)) same
  where
    same : suc (length (t ∷ rest) - 1) ≡ length (s ∷ (t ∷ rest)) - 1
    same = omega arith
