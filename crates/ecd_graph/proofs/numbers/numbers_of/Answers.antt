use Rattle.std.proofs.Common.{◌∙◌, ◌<◌, ap, length, arith}
use Rattle.ecd_graph.specs.Searches.{mark}
use Rattle.ecd_graph.proofs.numbers.numbers_of.Goals as goal

pub unreachable-requires : goal.unreachable-requires
unreachable-requires c =
    let e = c.deref-mark-items.ensures.value in
    let lt : c.loop-mark.mark-index < length c.args.search.now.marks.items = let l = ap length e in let t = c.loop-mark-test.true in omega (arith, l, t) in
    let d = c.requires.every c.loop-mark.mark-index lt in
    c.in_default.not-Done d.0 (ap (λ ms. mark ms c.loop-mark.mark-index) e ∙ d.1)
