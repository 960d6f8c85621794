-- Chains of calls: of blocks, one statement a turn, and of items with one more.
use Rattle.std.proofs.Common.{◌≡◌, ℕ, zero, suc, ◌+◌, ◌<◌, ◌≤◌, List, [], ◌∷◌, ◌++◌, length, get_or, take, refl, ap, sym, ◌∙◌, arith}
use Rattle.std.specs.Prelude.{max}
use Rattle.std.proofs.lemmas.List.{take_more}
use Rattle.ecd_cast.specs.declared.tree.Expr.{Expr}
use Rattle.ecd_cast.specs.declared.tree.Stmt.{Stmt, Row_of-Stmt, end_of-Stmt, more_of-Stmt, items-the_row-Stmt, items_hidden-the_row-Stmt-0}
use Rattle.ecd_cast.specs.declared.tree.Stmt.TheVariants.{If, For}
use Rattle.ecd_cast.specs.declared.tree.Stmt.TheBlock as stmts
use Rattle.ecd_cast.specs.declared.tree.StructDecl.{StructDecl}
use Rattle.ecd_cast.specs.declared.tree.Function.{Function}
use Rattle.ecd_cast.specs.declared.tree.CItem.{CItem}
use Rattle.ecd_cast.specs.declared.tree.CItem.TheVariants.{Struct as AStructDecl, Function as AFunction}
use Rattle.ecd_cast.specs.Memory.{Name}
use Rattle.ecd_cast.specs.Validity.{Chains, chain_of, chain_in, block_chain, declared_by, declared_in, block_declares, with_chain, heaviest_from}
use Rattle.ecd_cbuild.specs.Chains.{chains_behind}

-- ---- blocks

chain-row : {n : _} (chains : Chains) (r : Row_of-Stmt n) → chain_in chains r ≡ block_chain chains (items-the_row-Stmt n r)
chain-row chains end_of-Stmt = refl
chain-row chains (more_of-Stmt s rest) = ap (λ k. max (chain_of chains s) k) (chain-row chains rest)

pub chain-hidden : (chains : Chains) (xs : List Stmt) → chain_in chains (stmts.hidden-the_row-Stmt-0 xs) ≡ block_chain chains xs
chain-hidden chains xs = chain-row chains (stmts.hidden-the_row-Stmt-0 xs) ∙ ap (block_chain chains) (items_hidden-the_row-Stmt-0 xs)

pub chain-If : (chains : Chains) (t : Expr) (ys ns : List Stmt) → chain_of chains (If t ys ns) ≡ max (block_chain chains ys) (block_chain chains ns)
chain-If chains t ys ns = λ i. max (chain-hidden chains ys i) (chain-hidden chains ns i)

pub chain-For : (chains : Chains) (x b : Name) (body : List Stmt) → chain_of chains (For x b body) ≡ block_chain chains body
chain-For chains x b body = chain-hidden chains body

declared-row : {n : _} (r : Row_of-Stmt n) → declared_in r ≡ block_declares (items-the_row-Stmt n r)
declared-row end_of-Stmt = refl
declared-row (more_of-Stmt s rest) = ap (λ k. declared_by s + k) (declared-row rest)

declared-hidden : (xs : List Stmt) → declared_in (stmts.hidden-the_row-Stmt-0 xs) ≡ block_declares xs
declared-hidden xs = declared-row (stmts.hidden-the_row-Stmt-0 xs) ∙ ap block_declares (items_hidden-the_row-Stmt-0 xs)

pub declared-If : (t : Expr) (ys ns : List Stmt) → declared_by (If t ys ns) ≡ block_declares ys + block_declares ns
declared-If t ys ns = λ i. declared-hidden ys i + declared-hidden ns i

pub declared-For : (x b : Name) (body : List Stmt) → declared_by (For x b body) ≡ 1 + block_declares body
declared-For x b body = λ i. 1 + declared-hidden body i

-- ---- one statement a turn

chain-append : (chains : Chains) (xs : List Stmt) (s : Stmt) → block_chain chains (xs ++ s ∷ []) ≡ max (block_chain chains xs) (chain_of chains s)
chain-append chains [] s = omega arith
chain-append chains (x ∷ xs) s = let h = chain-append chains xs s in omega arith

pub chain-more : (chains : Chains) (xs : List Stmt) (i : ℕ) (s : Stmt) → i < length xs → s ≡ get_or xs i s → block_chain chains (take (i + 1) xs) ≡ max (block_chain chains (take i xs)) (chain_of chains s)
chain-more chains xs i s h e =
    ap (block_chain chains) (take_more xs i s h) ∙ (chain-append chains (take i xs) (get_or xs i s) ∙ ap (λ x. max (block_chain chains (take i xs)) (chain_of chains x)) (sym e))

declares-append : (xs : List Stmt) (s : Stmt) → block_declares (xs ++ s ∷ []) ≡ block_declares xs + declared_by s
declares-append [] s = omega arith
declares-append (x ∷ xs) s = let h = declares-append xs s in omega arith

pub declares-more : (xs : List Stmt) (i : ℕ) (s : Stmt) → i < length xs → s ≡ get_or xs i s → block_declares (take (i + 1) xs) ≡ block_declares (take i xs) + declared_by s
declares-more xs i s h e =
    ap block_declares (take_more xs i s h) ∙ (declares-append (take i xs) (get_or xs i s) ∙ ap (λ x. block_declares (take i xs) + declared_by x) (sym e))

pub max_of : {n a b x y z : ℕ} → n ≡ max a b → a ≡ x → b ≡ y → z ≡ max x y → n ≡ z
max_of e h k l = e ∙ ((λ i. max (h i) (k i)) ∙ sym l)

pub take_whole : {X : Type 0} (xs : List X) (n : ℕ) → length xs ≤ n → take n xs ≡ xs
take_whole [] zero h = refl
take_whole [] (suc n) h = refl
take_whole (x ∷ xs) zero h = absurd (omega arith)
take_whole (x ∷ xs) (suc n) h = ap (λ l. x ∷ l) (take_whole xs n (omega arith))

-- ---- one more item

module _ (weight : Function → ℕ) where
  pub heaviest_with_struct : (chains : Chains) (most : ℕ) (items : List CItem) (s : StructDecl) → heaviest_from weight chains most (items ++ AStructDecl s ∷ []) ≡ heaviest_from weight chains most items
  heaviest_with_struct chains most [] s = refl
  heaviest_with_struct chains most (AStructDecl t ∷ is) s = heaviest_with_struct chains most is s
  heaviest_with_struct chains most (AFunction f ∷ is) s = heaviest_with_struct (with_chain f.name (weight f + block_chain chains f.body) chains) (max most (weight f + block_chain chains f.body)) is s

  pub heaviest_with_function : (chains : Chains) (most : ℕ) (items : List CItem) (f : Function) →
      heaviest_from weight chains most (items ++ AFunction f ∷ []) ≡ max (heaviest_from weight chains most items) (weight f + block_chain (chains_behind weight chains items) f.body)
  heaviest_with_function chains most [] f = refl
  heaviest_with_function chains most (AStructDecl t ∷ is) f = heaviest_with_function chains most is f
  heaviest_with_function chains most (AFunction g ∷ is) f = heaviest_with_function (with_chain g.name (weight g + block_chain chains g.body) chains) (max most (weight g + block_chain chains g.body)) is f

  pub chains_with_struct : (chains : Chains) (items : List CItem) (s : StructDecl) → chains_behind weight chains (items ++ AStructDecl s ∷ []) ≡ chains_behind weight chains items
  chains_with_struct chains [] s = refl
  chains_with_struct chains (AStructDecl t ∷ is) s = chains_with_struct chains is s
  chains_with_struct chains (AFunction f ∷ is) s = chains_with_struct (with_chain f.name (weight f + block_chain chains f.body) chains) is s

  pub chains_with_function : (chains : Chains) (items : List CItem) (f : Function) →
      chains_behind weight chains (items ++ AFunction f ∷ []) ≡ with_chain f.name (weight f + block_chain (chains_behind weight chains items) f.body) (chains_behind weight chains items)
  chains_with_function chains [] f = refl
  chains_with_function chains (AStructDecl t ∷ is) f = chains_with_function chains is f
  chains_with_function chains (AFunction g ∷ is) f = chains_with_function (with_chain g.name (weight g + block_chain chains g.body) chains) is f
