-- The edges from each node, as a chain from the last to the first. An edge is named by its number and one, so that 0 is none.
use Rattle.std.specs.Prelude.{◌≡◌, ◌≤◌, ◌<◌, ℕ, suc, List, length, get_or, slice_get, Some}
use Rattle.ecd_graph.specs.declared.edge.Edge.{Edge}

-- the edge leads from the node
pub record IsFrom (edges : List Edge) (e node : ℕ) : Type 0 where
  pub edge : Edge
  pub stands : slice_get edges e ≡ Some edge
  pub from : edge.from ≡ node

-- the last of the node's edges before one
pub record IsLast (edges : List Edge) (node before link : ℕ) : Type 0 where
  pub below : link ≤ before
  pub all : (e : ℕ) → IsFrom edges e node → e < before → e < link
  pub leads : (e : ℕ) → link ≡ suc e → IsFrom edges e node

-- behind each edge, the one before it from the same node
abbrev pub ArePrevious : List Edge → List ℕ → Type 0
ArePrevious edges previous = (e : ℕ) (x : Edge) → slice_get edges e ≡ Some x → e < length previous → IsLast edges x.from e (get_or previous e 0)
