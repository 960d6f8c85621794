use Rattle.std.proofs.Common.{ap, sym, ◌∙◌}
use Rattle.ecd_shape_rules.specs.Starts.{part_may_be_empty}
use Rattle.ecd_shape_rules.specs.Listed.{are_emptiable, some_is_emptiable}
use Rattle.ecd_shape_rules.proofs.Listed.{starts_over_lists}
use Rattle.ecd_starts.proofs.Steps.{many_none, many_some}
use Rattle.ecd_starts.proofs.emptiable.+emptiable.Goals as goal

pub is_emptiable-returns-in-One : goal.is_emptiable-returns-in-One
is_emptiable-returns-in-One t c = let e = starts_over_lists.one c.in-One.field-0 in sym (ap part_may_be_empty c.in-One.is ∙ e.0)

pub is_emptiable-returns-in-Opt : goal.is_emptiable-returns-in-Opt
is_emptiable-returns-in-Opt t c = let e = starts_over_lists.opt c.in-Opt.at c.in-Opt.body in sym (ap part_may_be_empty c.in-Opt.is ∙ e.0)

pub is_emptiable-returns-then-lo-eq0 : goal.is_emptiable-returns-then-lo-eq0
is_emptiable-returns-then-lo-eq0 t c = let e = starts_over_lists.many c.in-Many.at c.in-Many.lo c.in-Many.hi c.in-Many.body in sym (ap part_may_be_empty c.in-Many.is ∙ (e.0 ∙ many_none c.in-Many.lo (are_emptiable c.in-Many.body.parts) c.if-lo-eq0.true))

pub is_emptiable-returns-else-lo-eq0 : goal.is_emptiable-returns-else-lo-eq0
is_emptiable-returns-else-lo-eq0 t c = let e = starts_over_lists.many c.in-Many.at c.in-Many.lo c.in-Many.hi c.in-Many.body in c.are_emptiable.ensures ∙ (ap are_emptiable c.as_slice.ensures ∙ sym (ap part_may_be_empty c.in-Many.is ∙ (e.0 ∙ many_some c.in-Many.lo (are_emptiable c.in-Many.body.parts) c.if-lo-eq0.false)))

pub is_emptiable-returns-in-Alt : goal.is_emptiable-returns-in-Alt
is_emptiable-returns-in-Alt t c =
    let e = starts_over_lists.alt c.in-Alt.at c.in-Alt.ways in c.some_is_emptiable.ensures ∙ (ap some_is_emptiable c.as_slice-in-Alt.ensures ∙ sym (ap part_may_be_empty c.in-Alt.is ∙ e.0))
