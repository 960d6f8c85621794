use Rattle.std.proofs.Common.{◌≡◌, ◌<◌, ℕ, length}
use Rattle.ecd_graph.specs.Graphs.{IsMarked}
use Rattle.ecd_graph.specs.Searches.{slot, IsOn}
use Rattle.ecd_graph.proofs.spread.marked_nodes.Given as goal

abbrev pub invariant-loop-is_marked : goal.invariant-loop-is_marked
invariant-loop-is_marked l = record {
  counted : l.node ≡ l.is_marked-index;
  each : (i : ℕ) → i < length l.nodes.items → IsMarked l.marked (slot l.nodes.items i);
  all : (v : ℕ) → v < l.is_marked-index → IsMarked l.marked v → IsOn l.nodes.items v;
}
