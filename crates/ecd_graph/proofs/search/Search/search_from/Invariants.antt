use Rattle.std.proofs.Common.{◌≡◌}
use Rattle.ecd_graph.specs.declared.search.Mark.TheVariants.{Unseen}
use Rattle.ecd_graph.specs.Searches.{IsHeld, IsSound, Stays, mark, work}
use Rattle.ecd_graph.proofs.search.Search.search_from.Given as goal

abbrev pub invariant-loop-last : goal.invariant-loop-last
invariant-loop-last l = record {
  held : IsHeld l.self;
  sound : IsSound l.self;
  stays : Stays l.fn.self l.self;
  met : mark l.self.marks.items l.node ≡ Unseen → ⊥;
}

abbrev pub decreases-loop-last : goal.decreases-loop-last
decreases-loop-last l = work l.self
