use Rattle.std.proofs.Common.{◌≡◌, ◌<◌, ℕ, length, get_or}
use Rattle.ecd_graph.specs.Chains.{IsLast, ArePrevious}
use Rattle.ecd_graph.proofs.chains.chains_of.Given as goal

abbrev pub invariant-loop-edge : goal.invariant-loop-edge
invariant-loop-edge l = record {
  nodes_are : length l.last.items ≡ l.nodes;
  edges_are : length l.previous.items ≡ l.edge-index;
  counted : l.link ≡ l.edge-index;
  ends : (v : ℕ) → v < l.nodes → IsLast l.edges v l.edge-index (get_or l.last.items v 0);
  linked : ArePrevious l.edges l.previous.items;
}
