-- Reading with as many levels and turns as there are lexemes is never too deep.
use Rattle.std.proofs.Common.{◌≡◌, ℕ, zero, suc, ◌<◌, ◌≤◌, Bool, true, false, cond, List, [], ◌∷◌, length, Option, Some, None, Result, Ok, Err, refl, ap, arith}
use Rattle.std.specs.Prelude.{codes}
use Rattle.std.proofs.lemmas.List.{length-append}
use Rattle.ecd_cast.specs.declared.tree.Expr.{Expr}
use Rattle.ecd_cast.specs.declared.tree.Expr.TheVariants.{Number, Var, Cell as CellOf, Load, Load', Binary, Binary', Not, Not'}
use Rattle.ecd_cast.specs.declared.tree.Source.TheVariants.{Value as FromValue, Call as FromCall}
use Rattle.ecd_cast.specs.declared.tree.Stmt.{Stmt}
use Rattle.ecd_cast.specs.declared.tree.Stmt.TheVariants.{Number as DeclNumber, Pointer as DeclPointer, Assign, Store, SetCell, If, If', For, For', Return}
use Rattle.ecd_cast.specs.declared.tree.ParamKind.{ParamKind}
use Rattle.ecd_cast.specs.declared.tree.ParamKind.TheVariants.{Number as NumberParam, ReadPointer as ReadPointerParam, WritePointer as WritePointerParam, Struct as StructParam}
use Rattle.ecd_cast.specs.declared.tree.CellKind.{CellKind}
use Rattle.ecd_cast.specs.declared.tree.CellKind.TheVariants.{Number as NumberCell, Pointer as PointerCell}
use Rattle.ecd_cast.specs.declared.tree.CItem.{CItem}
use Rattle.ecd_cast.specs.declared.tree.CItem.TheVariants.{Struct as AStructDecl, Function as AFunction}
use Rattle.ecd_cast.specs.Spelling.{expr_lexemes, stmt_lexemes, param_lexemes, cell_lexemes, item_lexemes, IsSpelledExpr, IsSpelledStmt}
use Rattle.ecd_cast.specs.Memory.{Name}
use Rattle.ecd_cast.specs.Lexemes.{Lexeme}
use Rattle.ecd_reading.specs.Reading.{after as then_}
use Rattle.ecd_reading.proofs.Readers.{ok_is}
use Rattle.ecd_cgrammar.proofs.Readers.{Good, Spelled}
use Rattle.ecd_cgrammar.proofs.Sound.{good_comma, good_expr, good_stmt, fits_param, good_param, fits_cell, good_cell, good_item}
use Rattle.ecd_cgrammar.specs.Reading.{Taken, Halted, Stuck, Deep, Reader, ◌>>=◌, taken, stuck, deep, with_rest, choose, peek, on, token, begins, after, same, name_of, literal_of, op_of, depth_of, expect, named, when, many, is_before, is_more, up_to, one_or_more, separated, listed, behind_name, load_at, not_at, binary_at, behind_open, expr_layer, expr_at, source_behind, source_at, number_at, pointer_at, assign_at, store_at, set_cell_at, behind_target, block_at, if_at, bound_at, turn_at, for_at, return_at, stmt_layer, stmt_at, param, param_at, cell, cell_at, cells_at, struct_at, function_at, item_at, depth_at, program_at}

-- with fewer lexemes than this, reading is not too deep, and leaves no more than there were
pub record Shallow {A : Type 0} (k : ℕ) (p : List Lexeme → Result (Taken A) Halted) : Type 0 where
  pub not_deep : (ms : List Lexeme) → length ms < k → p ms ≡ Err Deep → ⊥
  pub no_longer : (ms rest : List Lexeme) (x : A) → p ms ≡ taken x rest → length rest ≤ length ms

shallow_taken : {A : Type 0} (k : ℕ) (x : A) → Shallow k (taken x)
shallow_taken k x = record { not_deep = λ ms lt h. cc; no_longer = λ ms rest y h. omega (arith, ap length (ok_is x y ms rest h).1) }

-- ---- one reader behind another

module _ (A B : Type 0) (k : ℕ) (p : Reader A) (q : A → Reader B) (first : Shallow k p) (second : (x : A) → Shallow k (q x)) where
  both_not_deep : (ms : List Lexeme) → length ms < k → (o : Result (Taken A) Halted) → p ms ≡ o → (o >>= λ x. q x.value x.rest) ≡ Err Deep → ⊥
  both_not_deep ms lt (Ok x) e h = (second x.value).not_deep x.rest (omega (arith, first.no_longer ms x.rest x.value e)) h
  both_not_deep ms lt (Err (Stuck rest)) e h = cc
  both_not_deep ms lt (Err Deep) e h = first.not_deep ms lt e

  both_no_longer : (ms rest : List Lexeme) (y : B) (o : Result (Taken A) Halted) → p ms ≡ o → (o >>= λ x. q x.value x.rest) ≡ taken y rest → length rest ≤ length ms
  both_no_longer ms rest y (Ok x) e h = omega (arith, first.no_longer ms x.rest x.value e, (second x.value).no_longer x.rest rest y h)
  both_no_longer ms rest y (Err z) e h = absurd cc

  both : Shallow k (then_ p q)
  both = record { not_deep = λ ms lt h. both_not_deep ms lt (p ms) refl h; no_longer = λ ms rest y h. both_no_longer ms rest y (p ms) refl h }

shallow_after : {A B : Type 0} (k : ℕ) {p : Reader A} {q : A → Reader B} → Shallow k p → ((x : A) → Shallow k (q x)) → Shallow k (after p q)
unfolding after
shallow_after {A} {B} k {p} {q} f g = both A B k p q f g

-- ---- a choice by the first lexeme: behind it there is one lexeme less

module _ (A B : Type 0) (k : ℕ) (table : Lexeme → Option A) (p : A → Reader B) (q : Reader B) (first : (x : A) → Shallow k (p x)) (second : Shallow (suc k) q) where
  pick_not_deep : (m : Lexeme) (ms : List Lexeme) (o : Option A) → length (m ∷ ms) < suc k → choose (with_rest ms o) p q (m ∷ ms) ≡ Err Deep → ⊥
  pick_not_deep m ms None lt h = second.not_deep (m ∷ ms) lt h
  pick_not_deep m ms (Some x) lt h = (first x).not_deep ms (omega arith) h

  pick_no_longer : (m : Lexeme) (ms rest : List Lexeme) (y : B) (o : Option A) → choose (with_rest ms o) p q (m ∷ ms) ≡ taken y rest → length rest ≤ length (m ∷ ms)
  pick_no_longer m ms rest y None h = second.no_longer (m ∷ ms) rest y h
  pick_no_longer m ms rest y (Some x) h = omega (arith, (first x).no_longer ms rest y h)

  at_not_deep : (ms : List Lexeme) → length ms < suc k → choose (peek table ms) p q ms ≡ Err Deep → ⊥
  at_not_deep [] lt h = second.not_deep [] lt h
  at_not_deep (m ∷ ms) lt h = pick_not_deep m ms (table m) lt h

  at_no_longer : (ms rest : List Lexeme) (y : B) → choose (peek table ms) p q ms ≡ taken y rest → length rest ≤ length ms
  at_no_longer [] rest y h = second.no_longer [] rest y h
  at_no_longer (m ∷ ms) rest y h = pick_no_longer m ms rest y (table m) h

  picks : Shallow (suc k) (λ ms. choose (peek table ms) p q ms)
  picks = record { not_deep = at_not_deep; no_longer = at_no_longer }

shallow_stuck : (A : Type 0) (k : ℕ) → Shallow {A = A} k stuck
shallow_stuck A k = record { not_deep = λ ms lt h. cc; no_longer = λ ms rest x h. absurd cc }

shallow_less : {A : Type 0} (k : ℕ) {p : Reader A} → Shallow (suc k) p → Shallow k p
shallow_less k s = record { not_deep = λ ms lt h. s.not_deep ms (omega arith) h; no_longer = s.no_longer }

shallow_token : {A : Type 0} (k : ℕ) (table : Lexeme → Option A) → Shallow (suc k) (token table)
shallow_token {A} k table = picks A A k table taken stuck (λ x. shallow_taken k x) (shallow_stuck A (suc k))

shallow_on : {A B : Type 0} (k : ℕ) (table : Lexeme → Option A) {p : A → Reader B} {q : Reader B} → ((x : A) → Shallow k (p x)) → Shallow (suc k) q → Shallow (suc k) (on table p q)
unfolding on
shallow_on {A} {B} k table {p} {q} f g = picks A B k table p q f g

shallow_when : {A : Type 0} (k : ℕ) (l : Lexeme) {p q : Reader A} → Shallow k p → Shallow (suc k) q → Shallow (suc k) (when l p q)
unfolding when
shallow_when {A} k l {p} {q} f g = picks (Unit {0}) A k (same l) (λ _. p) q (λ _. f) g

module _ (A B : Type 0) (k : ℕ) (table : Lexeme → Option A) (q : A → Reader B) (next : (x : A) → Shallow k (q x)) where
  first_not_deep : (ms : List Lexeme) → length ms < suc k → then_ (token table) q ms ≡ Err Deep → ⊥
  first_not_deep [] lt h = cc
  first_not_deep (m ∷ ms) lt h = by_table (table m) h
    where
      by_table : (o : Option A) → (choose (with_rest ms o) taken stuck (m ∷ ms) >>= λ x. q x.value x.rest) ≡ Err Deep → ⊥
      by_table None h = cc
      by_table (Some x) h = (next x).not_deep ms (omega arith) h

  first_no_longer : (ms rest : List Lexeme) (y : B) → then_ (token table) q ms ≡ taken y rest → length rest ≤ length ms
  first_no_longer [] rest y h = absurd cc
  first_no_longer (m ∷ ms) rest y h = by_table (table m) h
    where
      by_table : (o : Option A) → (choose (with_rest ms o) taken stuck (m ∷ ms) >>= λ x. q x.value x.rest) ≡ taken y rest → length rest ≤ length (m ∷ ms)
      by_table None h = absurd cc
      by_table (Some x) h = omega (arith, (next x).no_longer ms rest y h)

  firsts : Shallow (suc k) (then_ (token table) q)
  firsts = record { not_deep = first_not_deep; no_longer = first_no_longer }

shallow_expect : {A : Type 0} (k : ℕ) (l : Lexeme) {q : Reader A} → Shallow k q → Shallow (suc k) (expect l q)
unfolding expect
shallow_expect {A} k l {q} f = firsts (Unit {0}) A k (same l) (λ _. q) (λ _. f)

shallow_named : {A : Type 0} (k : ℕ) {q : Name → Reader A} → ((x : Name) → Shallow k (q x)) → Shallow (suc k) (named q)
unfolding named
shallow_named {A} k {q} f = firsts Name A k name_of q f

-- at one count
flat_expect : {A : Type 0} (k : ℕ) (l : Lexeme) {q : Reader A} → Shallow k q → Shallow k (expect l q)
flat_expect k l f = shallow_less k (shallow_expect k l f)

flat_named : {A : Type 0} (k : ℕ) {q : Name → Reader A} → ((x : Name) → Shallow k (q x)) → Shallow k (named q)
flat_named k f = shallow_less k (shallow_named k f)

pick_shorter : {A B : Type 0} (j k : ℕ) (table : Lexeme → Option A) (p : A → Reader B) (q : Reader B) → ((x : A) → Shallow j (p x)) → Shallow k q → (ms rest : List Lexeme) (y : B) → choose (peek table ms) p q ms ≡ taken y rest → length rest ≤ length ms
pick_shorter j k table p q f g [] rest y h = g.no_longer [] rest y h
pick_shorter {A} {B} j k table p q f g (m ∷ ms) rest y h = by_table (table m) h
  where
    by_table : (o : Option A) → choose (with_rest ms o) p q (m ∷ ms) ≡ taken y rest → length rest ≤ length (m ∷ ms)
    by_table None e = g.no_longer (m ∷ ms) rest y e
    by_table (Some x) e = omega (arith, (f x).no_longer ms rest y e)

flat_on : {A B : Type 0} (k : ℕ) (table : Lexeme → Option A) {p : A → Reader B} {q : Reader B} → ((x : A) → Shallow k (p x)) → Shallow k q → Shallow k (on table p q)
unfolding on
flat_on zero table {p} {q} f g = record { not_deep = λ ms lt h. omega arith; no_longer = pick_shorter zero zero table p q f g }
flat_on (suc k) table {p} {q} f g = shallow_on k table (λ x. shallow_less k (f x)) g

flat_when : {A : Type 0} (k : ℕ) (l : Lexeme) {p q : Reader A} → Shallow k p → Shallow k q → Shallow k (when l p q)
unfolding when
flat_when zero l {p} {q} f g = record { not_deep = λ ms lt h. omega arith; no_longer = pick_shorter zero zero (same l) (λ _. p) q (λ _. f) g }
flat_when (suc k) l {p} {q} f g = shallow_when k l (shallow_less k f) g

-- ---- one after the other

-- each takes a lexeme at least
abbrev Progresses : {A : Type 0} → Reader A → Type 0
Progresses one = (ms rest : List Lexeme) (x : _) → one ms ≡ taken x rest → length rest < length ms

module _ (A : Type 0) (test : List Lexeme → Bool) (one : Reader A) (k : ℕ) (f : Shallow k one) (progress : Progresses one) where
  pass : (x : Taken A) (o : Result (Taken (List A)) Halted) → (o >>= λ xs. taken (x.value ∷ xs.value) xs.rest) ≡ Err Deep → o ≡ Err Deep
  pass x (Ok xs) h = absurd cc
  pass x (Err (Stuck rest)) h = absurd cc
  pass x (Err Deep) h = refl

  many_not_deep : (n : ℕ) (ms : List Lexeme) → length ms < n → length ms < k → many test one deep n ms ≡ Err Deep → ⊥
  unfolding many
  many_not_deep zero ms lt le h = omega arith
  many_not_deep (suc n) ms lt le h = by_test (λ m a b e. many_not_deep n m a b e) (test ms) h
    where
      by_one : ((m : List Lexeme) → length m < n → length m < k → many test one deep n m ≡ Err Deep → ⊥) → (o : Result (Taken A) Halted) → one ms ≡ o → (o >>= λ x. many test one deep n x.rest >>= λ xs. taken (x.value ∷ xs.value) xs.rest) ≡ Err Deep → ⊥
      by_one next (Ok x) e g = let less = progress ms x.rest x.value e in next x.rest (omega (arith, less)) (omega (arith, less)) (pass x (many test one deep n x.rest) g)
      by_one next (Err (Stuck rest)) e g = cc
      by_one next (Err Deep) e g = f.not_deep ms le e

      by_test : ((m : List Lexeme) → length m < n → length m < k → many test one deep n m ≡ Err Deep → ⊥) → (b : Bool) → cond b (one ms >>= λ x. many test one deep n x.rest >>= λ xs. taken (x.value ∷ xs.value) xs.rest) (taken [] ms) ≡ Err Deep → ⊥
      by_test next true g = by_one next (one ms) refl g
      by_test next false g = cc

  many_no_longer : (n : ℕ) (ms rest : List Lexeme) (xs : List A) → many test one deep n ms ≡ taken xs rest → length rest ≤ length ms
  unfolding many
  many_no_longer zero ms rest xs h = absurd cc
  many_no_longer (suc n) ms rest xs h = by_test (λ m r ys e. many_no_longer n m r ys e) (test ms) h
    where
      by_many : ((m r : List Lexeme) (ys : List A) → many test one deep n m ≡ taken ys r → length r ≤ length m) → (x : Taken A) → one ms ≡ Ok x → (o : Result (Taken (List A)) Halted) → many test one deep n x.rest ≡ o → (o >>= λ ys. taken (x.value ∷ ys.value) ys.rest) ≡ taken xs rest → length rest ≤ length ms
      by_many next x e (Ok ys) i g = omega (arith, progress ms x.rest x.value e, next x.rest ys.rest ys.value i, ap length (ok_is (x.value ∷ ys.value) xs ys.rest rest g).1)
      by_many next x e (Err z) i g = absurd cc

      by_one : ((m r : List Lexeme) (ys : List A) → many test one deep n m ≡ taken ys r → length r ≤ length m) → (o : Result (Taken A) Halted) → one ms ≡ o → (o >>= λ x. many test one deep n x.rest >>= λ ys. taken (x.value ∷ ys.value) ys.rest) ≡ taken xs rest → length rest ≤ length ms
      by_one next (Ok x) e g = by_many next x e (many test one deep n x.rest) refl g
      by_one next (Err z) e g = absurd cc

      by_test : ((m r : List Lexeme) (ys : List A) → many test one deep n m ≡ taken ys r → length r ≤ length m) → (b : Bool) → cond b (one ms >>= λ x. many test one deep n x.rest >>= λ ys. taken (x.value ∷ ys.value) ys.rest) (taken [] ms) ≡ taken xs rest → length rest ≤ length ms
      by_test next true g = by_one next (one ms) refl g
      by_test next false g = omega (arith, ap length (ok_is [] xs ms rest g).1)

  shallow_many : (size : ℕ) → k ≤ size → Shallow k (many test one deep size)
  shallow_many size le = record { not_deep = λ ms lt h. many_not_deep size ms (omega arith) lt h; no_longer = many_no_longer size }

progress_of : {A : Type 0} {f : A → List Lexeme} {V : A → Type 0} {p : Reader A} → Good (Spelled f V) p → ((x : A) → 0 < length (f x)) → Progresses p
progress_of {A} {f} {V} {p} good some ms rest x h =
    let r = good.sound ms rest x h in
    omega (arith, ap length r.whole, length-append r.front rest, ap length r.spells.0, some x)

module _ {A : Type 0} (f : A → List Lexeme) (V : A → Type 0) (some : (x : A) → 0 < length (f x)) (one : Reader A) (good : Good (Spelled f V) one) (size k : ℕ) (le : k ≤ size) (shallow : Shallow k one) where
  shallow_up_to : (close : Lexeme) → Shallow k (up_to close one size)
  unfolding up_to
  shallow_up_to close = shallow_after k (shallow_many A (is_before close) one k shallow (progress_of good some) size le) (λ xs. flat_expect k close (shallow_taken k xs))

  shallow_one_or_more : (test : List Lexeme → Bool) (next : Reader A) → Shallow k next → Progresses next → Shallow k (one_or_more test next one size)
  unfolding one_or_more
  shallow_one_or_more test next g progress = shallow_after k shallow (λ x. shallow_after k (shallow_many A test next k g progress size le) (λ xs. shallow_taken k (x ∷ xs)))

  shallow_listed : Shallow k (listed one size)
  unfolding listed separated
  shallow_listed =
      shallow_after k (shallow_one_or_more (begins (same (codes ","))) (expect (codes ",") one) (flat_expect k (codes ",") shallow) (progress_of (good_comma f V one good) (λ y. omega arith)))
      (λ xs. flat_expect k (codes ")") (shallow_taken k xs))

-- ---- expressions

shallow_name : (k : ℕ) (x : Name) → Shallow k (behind_name x)
unfolding behind_name
shallow_name k x = shallow_less k (shallow_when k (codes "->") (flat_named k (λ c. shallow_taken k (CellOf x c))) (shallow_taken (suc k) (Var x)))

module _ (k : ℕ) (one : Reader Expr) (f : Shallow k one) where
  shallow_load : Shallow k (load_at one)
  unfolding load_at
  shallow_load = flat_expect k (codes ")") (flat_named k (λ x. flat_expect k (codes "[") (shallow_after k f (λ i. flat_expect k (codes "]") (shallow_taken k (Load x i))))))

  shallow_not : Shallow k (not_at one)
  unfolding not_at
  shallow_not = shallow_after k f (λ e. flat_expect k (codes ")") (shallow_taken k (Not e)))

  shallow_binary : Shallow k (binary_at one)
  unfolding binary_at
  shallow_binary = shallow_after k f (λ a. shallow_after k (shallow_less k (shallow_token k op_of)) (λ op. shallow_after k f (λ b. flat_expect k (codes ")") (shallow_taken k (Binary op a b)))))

  shallow_open : Shallow k (behind_open one)
  unfolding behind_open
  shallow_open = flat_when k (codes "uint64_t") shallow_load (flat_when k (codes "!") shallow_not shallow_binary)

  shallow_layer : Shallow (suc k) (expr_layer one)
  unfolding expr_layer
  shallow_layer = shallow_on k name_of (λ x. shallow_name k x) (shallow_on k literal_of (λ n. shallow_taken k (Number n)) (shallow_expect k (codes "(") shallow_open))

shallow_deep : (A : Type 0) → Shallow {A = A} zero deep
shallow_deep A = record { not_deep = λ ms lt h. omega arith; no_longer = λ ms rest x h. absurd cc }

shallow_expr : (n : ℕ) → Shallow n (expr_at n)
unfolding expr_at
shallow_expr zero = shallow_deep Expr
shallow_expr (suc n) = shallow_layer n (expr_at n) (shallow_expr n)

expr_some : (e : Expr) → 0 < length (expr_lexemes e)
expr_some (Number n) = omega arith
expr_some (Var x) = omega arith
expr_some (CellOf x c) = omega arith
expr_some (Load' x s i) = omega arith
expr_some (Binary' op s a t b) = omega arith
expr_some (Not' s a) = omega arith

-- ---- statements

module _ (size k : ℕ) (le : k ≤ size) (e : Reader Expr) (f : Shallow k e) (good : Good (Spelled expr_lexemes IsSpelledExpr) e) where
  shallow_source_behind : (x : Name) → Shallow k (source_behind size e x)
  unfolding source_behind
  shallow_source_behind x =
      flat_when k (codes "(") (shallow_after k (shallow_listed expr_lexemes IsSpelledExpr expr_some e good size k le f) (λ args. shallow_taken k (FromCall x args)))
      (shallow_after k (shallow_name k x) (λ v. shallow_taken k (FromValue v)))

  shallow_source : Shallow k (source_at size e)
  unfolding source_at
  shallow_source = flat_on k name_of (λ x. shallow_source_behind x) (shallow_after k f (λ v. shallow_taken k (FromValue v)))

  shallow_number : Shallow k (number_at size e)
  unfolding number_at
  shallow_number = flat_named k (λ x. flat_expect k (codes "=") (shallow_after k shallow_source (λ s. flat_expect k (codes ";") (shallow_taken k (DeclNumber x s)))))

  shallow_pointer : Shallow k (pointer_at e)
  unfolding pointer_at
  shallow_pointer = flat_expect k (codes "uint8_t") (flat_expect k (codes "*") (flat_named k (λ x. flat_expect k (codes "=") (shallow_after k f (λ v. flat_expect k (codes ";") (shallow_taken k (DeclPointer x v)))))))

  shallow_target : (x : Name) → Shallow k (behind_target size e x)
  unfolding behind_target assign_at store_at set_cell_at
  shallow_target x =
      flat_when k (codes "=") (shallow_after k shallow_source (λ s. flat_expect k (codes ";") (shallow_taken k (Assign x s))))
      (flat_when k (codes "[") (shallow_after k f (λ i. flat_expect k (codes "]") (flat_expect k (codes "=") (flat_expect k (codes "(") (flat_expect k (codes "uint8_t") (flat_expect k (codes ")") (shallow_after k f (λ v. flat_expect k (codes ";") (shallow_taken k (Store x i v))))))))))
      (flat_expect k (codes "->") (flat_named k (λ c. flat_expect k (codes "=") (shallow_after k f (λ v. flat_expect k (codes ";") (shallow_taken k (SetCell x c v))))))))

  shallow_return : Shallow k (return_at e)
  unfolding return_at
  shallow_return = shallow_after k f (λ v. flat_expect k (codes ";") (shallow_taken k (Return v)))

stmt_some : (s : Stmt) → 0 < length (stmt_lexemes s)
stmt_some (DeclNumber x e) = omega arith
stmt_some (DeclPointer x e) = omega arith
stmt_some (Assign x e) = omega arith
stmt_some (Store x i e) = omega arith
stmt_some (SetCell x c e) = omega arith
stmt_some (If' t s ys u ns) = omega arith
stmt_some (For' x b s body) = omega arith
stmt_some (Return e) = omega arith

module _ (size k : ℕ) (le : k ≤ size) (one : Reader Stmt) (g : Shallow k one) (each : Good (Spelled stmt_lexemes IsSpelledStmt) one) where
  shallow_block : Shallow k (block_at size one)
  unfolding block_at
  shallow_block = flat_expect k (codes "{") (shallow_up_to stmt_lexemes IsSpelledStmt stmt_some one each size k le g (codes "}"))

  shallow_bound : (x : Name) → Shallow k (bound_at x)
  unfolding bound_at
  shallow_bound x = flat_expect k (codes "=") (flat_expect k (codes "0ull") (flat_expect k (codes ";") (flat_expect k x (flat_expect k (codes "<") (flat_named k (λ b. shallow_taken k b))))))

  shallow_turn : (x : Name) → Shallow k (turn_at x)
  unfolding turn_at
  shallow_turn x = flat_expect k (codes ";") (flat_expect k x (flat_expect k (codes "+=") (flat_expect k (codes "1ull") (flat_expect k (codes ")") (shallow_taken k tt)))))

  shallow_for : Shallow k (for_at size one)
  unfolding for_at
  shallow_for =
      flat_expect k (codes "(") (flat_expect k (codes "uint64_t") (flat_named k (λ x. shallow_after k (shallow_bound x) (λ b. shallow_after k (shallow_turn x) (λ _. shallow_after k shallow_block (λ body. shallow_taken k (For x b body)))))))

  module _ (e : Reader Expr) (f : Shallow k e) (good : Good (Spelled expr_lexemes IsSpelledExpr) e) where
    shallow_if : Shallow k (if_at size e one)
    unfolding if_at
    shallow_if = shallow_after k f (λ t. shallow_after k shallow_block (λ ys. flat_expect k (codes "else") (shallow_after k shallow_block (λ ns. shallow_taken k (If t ys ns)))))

    shallow_stmt_layer : Shallow (suc k) (stmt_layer size e one)
    unfolding stmt_layer
    shallow_stmt_layer =
        shallow_on k name_of (λ x. shallow_target size k le e f good x)
        (shallow_when k (codes "uint64_t") (shallow_number size k le e f good)
        (shallow_when k (codes "const") (shallow_pointer size k le e f good)
        (shallow_when k (codes "if") shallow_if
        (shallow_when k (codes "for") shallow_for
        (shallow_expect k (codes "return") (shallow_return size k le e f good))))))

shallow_stmt : (size n : ℕ) → n ≤ size → Shallow n (stmt_at size n)
unfolding stmt_at
shallow_stmt size zero le = shallow_deep Stmt
shallow_stmt size (suc n) le = shallow_stmt_layer size n (omega arith) (stmt_at size n) (shallow_stmt size n (omega arith)) (good_stmt size n) (expr_at n) (shallow_expr n) (good_expr n)

-- ---- items

shallow_param : (k : ℕ) → Shallow k param_at
unfolding param_at
shallow_param k =
    flat_when k (codes "uint64_t") (flat_named k (λ x. shallow_taken k (param x NumberParam)))
    (flat_when k (codes "const") (flat_expect k (codes "uint8_t") (flat_expect k (codes "*") (flat_named k (λ x. shallow_taken k (param x ReadPointerParam)))))
    (flat_when k (codes "uint8_t") (flat_expect k (codes "*") (flat_named k (λ x. shallow_taken k (param x WritePointerParam))))
    (flat_expect k (codes "struct") (flat_named k (λ s. flat_expect k (codes "*") (flat_named k (λ x. shallow_taken k (param x (StructParam s)))))))))

kind_some : (x : Name) (kind : ParamKind) → 0 < length (param_lexemes (param x kind))
kind_some x NumberParam = omega arith
kind_some x ReadPointerParam = omega arith
kind_some x WritePointerParam = omega arith
kind_some x (StructParam s) = omega arith

shallow_cell : (k : ℕ) → Shallow k cell_at
unfolding cell_at
shallow_cell k =
    flat_when k (codes "uint64_t") (flat_named k (λ x. flat_expect k (codes ";") (shallow_taken k (cell x NumberCell))))
    (flat_expect k (codes "const") (flat_expect k (codes "uint8_t") (flat_expect k (codes "*") (flat_named k (λ x. flat_expect k (codes ";") (shallow_taken k (cell x PointerCell)))))))

cell_some : (x : Name) (kind : CellKind) → 0 < length (cell_lexemes (cell x kind))
cell_some x NumberCell = omega arith
cell_some x PointerCell = omega arith

item_some : (i : CItem) → 0 < length (item_lexemes i)
item_some (AStructDecl s) = omega arith
item_some (AFunction f) = omega arith

module _ (size k : ℕ) (le : k ≤ size) where
  shallow_struct : Shallow k (struct_at size)
  unfolding struct_at cells_at
  shallow_struct =
      flat_named k (λ x. flat_expect k (codes "{") (shallow_after k
      (shallow_one_or_more cell_lexemes fits_cell (λ y. cell_some y.name y.kind) cell_at good_cell size k le (shallow_cell k) (is_before (codes "}")) cell_at (shallow_cell k) (progress_of good_cell (λ y. cell_some y.name y.kind)))
      (λ cs. flat_expect k (codes "}") (flat_expect k (codes ";") (shallow_taken k (AStructDecl (record { name = x; cells = cs })))))))

  shallow_function : Shallow k (function_at size (stmt_at size k))
  unfolding function_at
  shallow_function =
      flat_named k (λ f. flat_expect k (codes "(") (shallow_after k (shallow_listed param_lexemes fits_param (λ q. kind_some q.name q.kind) param_at good_param size k le (shallow_param k))
      (λ qs. shallow_after k (shallow_block size k le (stmt_at size k) (shallow_stmt size k le) (good_stmt size k)) (λ body. shallow_taken k (AFunction (record { name = f; params = qs; body = body }))))))

  shallow_item : Shallow k (item_at size (stmt_at size k))
  unfolding item_at
  shallow_item = flat_when k (codes "struct") shallow_struct (flat_expect k (codes "uint64_t") shallow_function)

  shallow_depth : Shallow k depth_at
  unfolding depth_at
  shallow_depth =
      flat_expect k (codes "enum") (flat_expect k (codes "{") (flat_expect k (codes "call_depth") (flat_expect k (codes "=") (shallow_after k (shallow_less k (shallow_token k depth_of)) (λ d. flat_expect k (codes "}") (flat_expect k (codes ";") (shallow_taken k d)))))))

  shallow_program : Shallow k (program_at size k)
  unfolding program_at
  shallow_program =
      shallow_after k shallow_depth (λ d. shallow_after k (shallow_many CItem is_more (item_at size (stmt_at size k)) k shallow_item (progress_of (good_item size (stmt_at size k) (good_stmt size k)) item_some) size le) (λ items. shallow_taken k (record { depth = d; items = items })))

-- with enough levels and turns nothing is too deep
pub enough : (ms : List Lexeme) → program_at (suc (length ms)) (suc (length ms)) ms ≡ Err Deep → ⊥
enough ms h = (shallow_program (suc (length ms)) (suc (length ms)) (omega arith)).not_deep ms (omega arith) h
