use Rattle.std.proofs.Common.{◌*◌, ℕ, ap, sym, ◌∙◌}
use Rattle.ecd_core.specs.declared.shape.Way.{Way}
use Rattle.ecd_apart.specs.Counts.{cap, part_least}
use Rattle.ecd_disjoint.specs.Counts.{items_least, ways_least_of}
use Rattle.ecd_disjoint.proofs.Sums.{sum_start, sum_more, sum_end, cap_is, least_start}
use Rattle.ecd_disjoint.proofs.CountRows.{least-One, least-Opt, least-Many, least-Alt}
use Rattle.ecd_disjoint.proofs.counts.+least.Goals as goal

pub least_items-loop-part-init : goal.least_items-loop-part-init
least_items-loop-part-init t c = sum_start part_least c.args.parts.now

pub least_items-loop-part-preserved : goal.least_items-loop-part-preserved
least_items-loop-part-preserved t c =
    sum_more part_least c.args.parts.now c.loop-part.part-index c.part-item.result c.loop-part.count c.least_of.result c.saturating_add-count.result c.loop-part-test.true c.part-item.is c.least_of.ensures c.saturating_add-count.ensures c.loop-part.invariant

pub least_items-returns : goal.least_items-returns
least_items-returns t c = sum_end part_least c.args.parts.now c.loop-part.part-index c.loop-part.count c.loop-part-test.false c.loop-part.invariant

pub least_of-returns-in-One : goal.least_of-returns-in-One
least_of-returns-in-One t c = sym (ap part_least c.in-One.is ∙ least-One c.in-One.field-0)

pub least_of-returns-in-Opt : goal.least_of-returns-in-Opt
least_of-returns-in-Opt t c = sym (ap part_least c.in-Opt.is ∙ least-Opt c.in-Opt.at c.in-Opt.body)

pub least_of-returns-in-Many : goal.least_of-returns-in-Many
least_of-returns-in-Many t c =
    let many = ap part_least c.in-Many.is ∙ least-Many c.in-Many.at c.in-Many.lo c.in-Many.hi c.in-Many.body in
    let inner = c.least_items.ensures ∙ ap items_least c.as_slice.ensures in
    c.saturating_mul.ensures ∙ (cap_is (c.in-Many.lo * c.least_items.result) ∙ (ap (λ (n : ℕ). cap (c.in-Many.lo * n)) inner ∙ sym many))

pub least_of-returns-in-Alt : goal.least_of-returns-in-Alt
least_of-returns-in-Alt t c = c.least_way.ensures ∙ (ap ways_least_of c.as_slice-in-Alt.ensures ∙ sym (ap part_least c.in-Alt.is ∙ least-Alt c.in-Alt.at c.in-Alt.ways))

pub least_way-loop-way-init : goal.least_way-loop-way-init
least_way-loop-way-init t c = least_start (λ (way : Way). items_least way.body.parts) c.args.ways.now
