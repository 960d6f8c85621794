use Rattle.std.proofs.Common.{◌≡◌, ◌≤◌, ℕ, suc}
use Rattle.ecd_graph.specs.Chains.{IsFrom}
use Rattle.ecd_graph.specs.Graphs.{IsMarked}
use Rattle.ecd_graph.specs.Spreads.{IsSpread, IsLinked, Spreads, spread_work}
use Rattle.ecd_graph.proofs.spread.Spread.follow_all.Given as goal

abbrev pub invariant-loop-edge : goal.invariant-loop-edge
invariant-loop-edge l = record {
  held : IsSpread l.self l.node l.link;
  linked : IsLinked l.self;
  spreads : Spreads l.fn.self l.self;
  reached : IsMarked l.self.reached.items l.node;
  leads : (e : ℕ) → l.link ≡ suc e → IsFrom l.self.edges.now e l.node;
  work : spread_work l.self ≤ spread_work l.fn.self;
}

abbrev pub decreases-loop-edge : goal.decreases-loop-edge
decreases-loop-edge l = l.link
