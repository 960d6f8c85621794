use Rattle.ecd_graph.specs.Spreads.{IsSpread, IsLinked, Spreads, spread_work}
use Rattle.ecd_graph.proofs.spread.Spread.follow_pending.Given as goal

abbrev pub invariant-loop-node : goal.invariant-loop-node
invariant-loop-node l = record {
  held : IsSpread l.self 0 0;
  linked : IsLinked l.self;
  spreads : Spreads l.fn.self l.self;
}

abbrev pub decreases-loop-node : goal.decreases-loop-node
decreases-loop-node l = spread_work l.self
