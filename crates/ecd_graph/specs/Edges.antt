-- Edges of a graph between nodes that may be missing.
use Rattle.std.specs.Prelude.{ℕ, List, [], ◌∷◌, Option, Some, None}
use Rattle.ecd_graph.specs.declared.edge.Edge.{Edge}

-- an edge where it has both ends
abbrev pub edge_between : Option ℕ → Option ℕ → List Edge
edge_between (Some from) (Some to) = record { from = from; to = to } ∷ []
edge_between (Some from) None = []
edge_between None to = []
