-- Directed graphs, given by their edges.
use Rattle.std.specs.Prelude.{◌≡◌, ◌≤◌, ◌<◌, ◌↔◌, ℕ, zero, suc, Bool, true, false, List, get_or, slice_get, Some}
use Rattle.ecd_graph.specs.declared.edge.Edge.{Edge}

-- an edge leads from the one node to the other
abbrev pub IsEdge : List Edge → ℕ → ℕ → Type 0
IsEdge edges a b = (e : ℕ) × (slice_get edges e ≡ Some record { from = a; to = b })

-- a walk along so many edges
abbrev pub Walks : List Edge → ℕ → ℕ → ℕ → Type 0
Walks edges zero a b = a ≡ b
Walks edges (suc n) a b = (c : ℕ) × IsEdge edges a c × Walks edges n c b

-- some walk leads from the one node to the other; each node reaches itself
pub record Reaches (edges : List Edge) (a b : ℕ) : Type 0 where
  pub steps : ℕ
  pub walk : Walks edges steps a b

-- the ends of each edge are among the nodes
abbrev pub AreAmong : ℕ → List Edge → Type 0
AreAmong nodes edges = (e : ℕ) (x : Edge) → slice_get edges e ≡ Some x → (x.from < nodes) × (x.to < nodes)

-- the nodes of one number reach each other, and no others do
abbrev pub NumbersComponents : ℕ → List Edge → List ℕ → Type 0
NumbersComponents nodes edges numbers = (a b : ℕ) → a < nodes → b < nodes → (get_or numbers a 0 ≡ get_or numbers b 0) ↔ (Reaches edges a b × Reaches edges b a)

-- no node reaches one of a greater number
abbrev pub AreInOrder : ℕ → List Edge → List ℕ → Type 0
AreInOrder nodes edges numbers = (a b : ℕ) → a < nodes → b < nodes → Reaches edges a b → get_or numbers b 0 ≤ get_or numbers a 0

-- the node is marked
abbrev pub IsMarked : List Bool → ℕ → Type 0
IsMarked marked v = get_or marked v false ≡ true

-- a marked node reaches it
pub record IsReached (edges : List Edge) (marked : List Bool) (v : ℕ) : Type 0 where
  pub from : ℕ
  pub is_marked : IsMarked marked from
  pub reaches : Reaches edges from v
