use Rattle.std.proofs.Common.{◌*◌, ℕ, ap, sym, ◌∙◌}
use Rattle.ecd_apart.specs.Counts.{cap, part_greatest}
use Rattle.ecd_disjoint.specs.Counts.{items_greatest, ways_greatest_of}
use Rattle.ecd_disjoint.proofs.Sums.{sum_start, sum_more, sum_end, cap_is}
use Rattle.ecd_disjoint.proofs.CountRows.{greatest-One, greatest-Opt, greatest-Many, greatest-Alt}
use Rattle.ecd_disjoint.proofs.counts.+greatest.Goals as goal

pub greatest_items-loop-part-init : goal.greatest_items-loop-part-init
greatest_items-loop-part-init t c = sum_start part_greatest c.args.parts.now

pub greatest_items-loop-part-preserved : goal.greatest_items-loop-part-preserved
greatest_items-loop-part-preserved t c =
    sum_more part_greatest c.args.parts.now c.loop-part.part-index c.part-item.result c.loop-part.count c.greatest_of.result c.saturating_add-count.result c.loop-part-test.true c.part-item.is c.greatest_of.ensures c.saturating_add-count.ensures c.loop-part.invariant

pub greatest_items-returns : goal.greatest_items-returns
greatest_items-returns t c = sum_end part_greatest c.args.parts.now c.loop-part.part-index c.loop-part.count c.loop-part-test.false c.loop-part.invariant

pub greatest_of-returns-in-One : goal.greatest_of-returns-in-One
greatest_of-returns-in-One t c = sym (ap part_greatest c.in-One.is ∙ greatest-One c.in-One.field-0)

pub greatest_of-returns-in-Opt : goal.greatest_of-returns-in-Opt
greatest_of-returns-in-Opt t c = c.greatest_items.ensures ∙ (ap items_greatest c.as_slice.ensures ∙ sym (ap part_greatest c.in-Opt.is ∙ greatest-Opt c.in-Opt.at c.in-Opt.body))

pub greatest_of-returns-in-Many : goal.greatest_of-returns-in-Many
greatest_of-returns-in-Many t c =
    let many = ap part_greatest c.in-Many.is ∙ greatest-Many c.in-Many.at c.in-Many.lo c.in-Many.hi c.in-Many.body in
    let inner = c.greatest_items-in-Many.ensures ∙ ap items_greatest c.as_slice-in-Many.ensures in
    c.saturating_mul.ensures ∙ (cap_is (c.in-Many.hi * c.greatest_items-in-Many.result) ∙ (ap (λ (n : ℕ). cap (c.in-Many.hi * n)) inner ∙ sym many))

pub greatest_of-returns-in-Alt : goal.greatest_of-returns-in-Alt
greatest_of-returns-in-Alt t c = c.greatest_way.ensures ∙ (ap ways_greatest_of c.as_slice-in-Alt.ensures ∙ sym (ap part_greatest c.in-Alt.is ∙ greatest-Alt c.in-Alt.at c.in-Alt.ways))
