-- What marked nodes reach, found from edge to edge: what is known at each moment.
use Rattle.std.specs.Prelude.{◌≡◌, ◌<◌, ◌⊎◌, ◌+◌, ◌*◌, ◌++◌, ℕ, Bool, true, false, List, [], ◌∷◌, length, slice_get, Some}
use Rattle.ecd_graph.specs.declared.edge.Edge.{Edge}
use Rattle.ecd_graph.specs.declared.spread.Spread.{Spread}
use Rattle.ecd_graph.specs.Graphs.{AreAmong, IsMarked, IsReached}
use Rattle.ecd_graph.specs.Chains.{IsLast, ArePrevious}
use Rattle.ecd_graph.specs.Searches.{slot, IsOn}

-- each edge from a reached node leads to a reached node, or the node waits, or it is this node and the edge is before the link
abbrev pub IsClosedBut : List Edge → List Bool → List ℕ → ℕ → ℕ → Type 0
IsClosedBut edges reached pending node link = (e : ℕ) (x : Edge) → slice_get edges e ≡ Some x → IsMarked reached x.from →
    IsMarked reached x.to ⊎ (IsOn pending x.from ⊎ ((x.from ≡ node) × (e < link)))

-- the edges of this node before the link, and of those that wait, are to be followed
pub record IsSpread (s : Spread) (node link : ℕ) : Type 0 where
  pub nodes : length s.reached.items ≡ length s.marked.now
  pub kept : (v : ℕ) → IsMarked s.marked.now v → IsMarked s.reached.items v
  pub sound : (v : ℕ) → IsMarked s.reached.items v → IsReached s.edges.now s.marked.now v
  pub waits : (i : ℕ) → i < length s.pending.items → IsMarked s.reached.items (slot s.pending.items i)
  pub closed : IsClosedBut s.edges.now s.reached.items s.pending.items node link

-- the graph of it
pub record IsLinked (s : Spread) : Type 0 where
  pub among : AreAmong (length s.marked.now) s.edges.now
  pub lasts : length s.last.items ≡ length s.marked.now
  pub each : length s.previous.items ≡ length s.edges.now
  pub last : (v : ℕ) → v < length s.marked.now → IsLast s.edges.now v (length s.edges.now) (slot s.last.items v)
  pub previous : ArePrevious s.edges.now s.previous.items

-- the graph stays, and what is reached stays reached
pub record Spreads (old new : Spread) : Type 0 where
  pub edges : new.edges.now ≡ old.edges.now
  pub marked : new.marked.now ≡ old.marked.now
  pub last : new.last.items ≡ old.last.items
  pub previous : new.previous.items ≡ old.previous.items
  pub stays : (v : ℕ) → IsMarked old.reached.items v → IsMarked new.reached.items v

-- how many are not marked
abbrev pub unmarked : List Bool → ℕ
unmarked [] = 0
unmarked (true ∷ bs) = unmarked bs
unmarked (false ∷ bs) = 1 + unmarked bs

-- how much is left to do
abbrev pub spread_work : Spread → ℕ
spread_work s = 2 * unmarked s.reached.items + length s.pending.items

-- the nodes, with one more where it is marked
abbrev pub with_marked : List ℕ → ℕ → Bool → List ℕ
with_marked nodes node true = nodes ++ node ∷ []
with_marked nodes node false = nodes
