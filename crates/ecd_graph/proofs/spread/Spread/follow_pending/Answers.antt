use Rattle.ecd_graph.specs.Spreads.{Spreads}
use Rattle.ecd_graph.proofs.Spreading.{closed_for_all, linked_on, spreads_on}
use Rattle.ecd_graph.proofs.spread.Spread.follow_pending.Goals as goal

pub loop-node-preserved : goal.loop-node-preserved
loop-node-preserved c =
    let h = c.loop-node.invariant in
    let e = c.in_ok-follow_all.ensures in
    let n = c.follow_all.new.self in
    let s : Spreads c.loop-node.self n = record { edges = e.spreads.edges; marked = e.spreads.marked; last = e.spreads.last; previous = e.spreads.previous; stays = e.spreads.stays } in
    record {
      held = record { nodes = e.held.nodes; kept = e.held.kept; sound = e.held.sound; waits = e.held.waits; closed = closed_for_all n.edges.now n.reached.items n.pending.items c.in-Some.node 0 e.held.closed };
      linked = linked_on c.loop-node.self n h.linked s;
      spreads = spreads_on c.args.self.now c.loop-node.self n h.spreads s;
    }
