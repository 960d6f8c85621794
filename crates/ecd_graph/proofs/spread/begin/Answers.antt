use Rattle.std.proofs.Common.{rules, ◌∙◌, ◌≡◌, length, arith}
use Rattle.ecd_graph.proofs.spread.begin.Goals as goal

pub returns-clause-linked : goal.returns-clause-linked
returns-clause-linked c =
    let nodes : c.in_ok-nodes.nodes ≡ length c.args.marked.now = search rules in
    let k = c.in_ok-chains.ensures in
    record {
      among = c.requires;
      lasts = k.nodes ∙ nodes;
      each = k.edges;
      last = λ v lt. k.last v (omega (arith, lt, nodes));
      previous = k.previous;
    }
