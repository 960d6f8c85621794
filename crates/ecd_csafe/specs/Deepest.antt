-- Chains of calls, by the numbers of their functions.
use Rattle.std.specs.Prelude.{ℕ, ◌+◌, ◌≡◌, ◌<◌, ◌≤◌, Bool, true, false, ◌||◌, List, [], ◌∷◌, Option, Some, None, slice_get, length, bytes_eq}
use Rattle.ecd_cast.specs.declared.tree.Source.{Source}
use Rattle.ecd_cast.specs.declared.tree.Source.TheVariants.{Value as FromValue, Call as FromCall}
use Rattle.ecd_cast.specs.declared.tree.Stmt.{Stmt, Row_of-Stmt, end_of-Stmt, more_of-Stmt}
use Rattle.ecd_cast.specs.declared.tree.Stmt.TheVariants.{Number as DeclNumber, Pointer as DeclPointer, Assign, Store, SetCell, If', For', Return}
use Rattle.ecd_cast.specs.declared.tree.Function.{Function}
use Rattle.ecd_cast.specs.declared.tree.CItem.{CItem}
use Rattle.ecd_cast.specs.declared.tree.CItem.TheVariants.{Struct as AStruct, Function as AFunction}
use Rattle.ecd_cast.specs.Memory.{Name}
use Rattle.ecd_cast.specs.declared.tree.Program.{Program}
use Rattle.ecd_cast.specs.Validity.{IsValid, heaviest_of, call_depth_of}

-- ---- whether a function of this name is called

abbrev pub source_calls : Source → Name → Bool
source_calls (FromValue e) g = false
source_calls (FromCall h args) g = bytes_eq h g

abbrev mutual
  pub calls : Stmt → Name → Bool
  calls (DeclNumber x e) g = source_calls e g
  calls (DeclPointer x e) g = false
  calls (Assign x e) g = source_calls e g
  calls (Store x i e) g = false
  calls (SetCell x c e) g = false
  calls (If' t s ys u ns) g = row_calls ys g || row_calls ns g
  calls (For' x b s body) g = row_calls body g
  calls (Return e) g = false

  pub row_calls : {n : _} → Row_of-Stmt n → Name → Bool
  row_calls end_of-Stmt g = false
  row_calls (more_of-Stmt s rest) g = calls s g || row_calls rest g

abbrev pub block_calls : List Stmt → Name → Bool
block_calls [] g = false
block_calls (s ∷ rest) g = calls s g || block_calls rest g

-- ---- chains

-- the item of this number is this function
abbrev pub IsFunction : List CItem → ℕ → Function → Type 0
IsFunction items number f = slice_get items number ≡ Some (AFunction f)

-- the item of a number is a function that calls the one of an earlier number, by its name
pub record CallsEarlier (items : List CItem) (number earlier : ℕ) : Type 0 where
  pub caller : Function
  pub callee : Function
  pub stands : IsFunction items number caller
  pub called : IsFunction items earlier callee
  pub before : earlier < number
  pub by_name : block_calls caller.body callee.name ≡ true

-- each of these items is a function, and calls the next
abbrev pub IsChain : List CItem → List ℕ → Type 0
IsChain items [] = Unit {0}
IsChain items (n ∷ []) = (f : Function) × IsFunction items n f
IsChain items (n ∷ (k ∷ rest)) = CallsEarlier items n k × IsChain items (k ∷ rest)

-- the weight of the function that has a number
abbrev pub weight_in : (Function → ℕ) → Option CItem → ℕ
weight_in weight (Some (AFunction f)) = weight f
weight_in weight (Some (AStruct s)) = 0
weight_in weight None = 0

-- the weights of a chain's functions together
abbrev pub chain_weight : (Function → ℕ) → List CItem → List ℕ → ℕ
chain_weight weight items [] = 0
chain_weight weight items (n ∷ rest) = weight_in weight (slice_get items n) + chain_weight weight items rest

-- a chain of calls of this weight
pub record ChainOf (weight : Function → ℕ) (items : List CItem) (n : ℕ) : Type 0 where
  pub chain : List ℕ
  pub is : IsChain items chain
  pub weighs : chain_weight weight items chain ≡ n

-- whatever the weights of functions are, every program has a chain of the weight that is the most
abbrev pub HasHeaviestChain : Type 0
HasHeaviestChain = (weight : Function → ℕ) (items : List CItem) → ChainOf weight items (heaviest_of weight items)

-- in a valid program none is heavier
abbrev pub HasNoHeavierChain : Type 0
HasNoHeavierChain = (weight : Function → ℕ) (p : Program) (chain : List ℕ) → IsValid p → IsChain p.items chain → chain_weight weight p.items chain ≤ heaviest_of weight p.items

-- a chain of calls as long as the call depth
pub record DeepestChain (items : List CItem) : Type 0 where
  pub chain : List ℕ
  pub is : IsChain items chain
  pub deep : length chain ≡ call_depth_of items

-- every program has one
abbrev pub HasDeepestChain : Type 0
HasDeepestChain = (items : List CItem) → DeepestChain items

-- in a valid program none is longer
abbrev pub HasNoLongerChain : Type 0
HasNoLongerChain = (p : Program) (chain : List ℕ) → IsValid p → IsChain p.items chain → length chain ≤ call_depth_of p.items
