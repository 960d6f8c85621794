use Rattle.std.proofs.Common.{◌≡◌, ◌<◌, ℕ, length}
use Rattle.ecd_graph.specs.declared.search.Mark.TheVariants.{Unseen}
use Rattle.ecd_graph.specs.Searches.{IsHeld, IsSound, mark}
use Rattle.ecd_graph.proofs.numbers.run.Given as goal

abbrev pub invariant-loop-node : goal.invariant-loop-node
invariant-loop-node l = record {
  held : IsHeld l.search;
  sound : IsSound l.search;
  nodes_are : length l.search.marks.items ≡ l.nodes;
  idle : length l.search.path.items ≡ 0;
  edges_are : l.search.edges.now ≡ l.fn.search.edges.now;
  seen : (v : ℕ) → v < l.node → mark l.search.marks.items v ≡ Unseen → ⊥;
}
