use Rattle.std.proofs.Common.{◌≡◌, ◌<◌, ℕ, length}
use Rattle.ecd_graph.specs.declared.search.Mark.TheVariants.{Done}
use Rattle.ecd_graph.specs.Searches.{mark, slot}
use Rattle.ecd_graph.proofs.numbers.numbers_of.Given as goal

abbrev pub invariant-loop-mark : goal.invariant-loop-mark
invariant-loop-mark l = record {
  each : length l.numbers.items ≡ l.mark-index;
  are : (v : ℕ) → v < l.mark-index → mark l.search.marks.items v ≡ Done (slot l.numbers.items v);
}
