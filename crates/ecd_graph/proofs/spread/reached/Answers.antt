use Rattle.std.proofs.Common.{◌∙◌, sym, subst, List, Bool}
use Rattle.ecd_graph.specs.declared.edge.Edge.{Edge}
use Rattle.ecd_graph.specs.Graphs.{IsMarked, IsReached}
use Rattle.ecd_graph.proofs.Spreading.{along}
use Rattle.ecd_graph.proofs.spread.reached.Goals as goal

pub returns-clause-reached : goal.returns-clause-reached
returns-clause-reached c =
    let n = c.follow_pending.new.self in
    let e = c.in_ok-follow_pending.ensures in
    let edges = e.spreads.edges ∙ c.in_ok-spread.ensures.edges in
    let marked = e.spreads.marked ∙ c.in_ok-spread.ensures.marked in
    λ v. (
      (λ m. subst (λ (es : List Edge). IsReached es c.args.marked.now v) edges (subst (λ (bs : List Bool). IsReached n.edges.now bs v) marked (e.held.sound v m))),
      (λ r.
          let walk = subst (λ (es : List Edge). IsReached es c.args.marked.now v) (sym edges) r in
          along n.edges.now n.reached.items n.pending.items 0 e.held.closed e.none walk.reaches.steps walk.from v walk.reaches.walk (e.held.kept walk.from (subst (λ (bs : List Bool). IsMarked bs walk.from) (sym marked) walk.is_marked))),
    )
