use Rattle.std.proofs.Common.{Bool, cond, ap, sym, ◌∙◌}
use Rattle.ecd_core.specs.declared.shape.Pick.{out-Pick}
use Rattle.ecd_apart.specs.Counts.{entry_least}
use Rattle.ecd_disjoint.specs.Counts.{needed_pairs, map_ways_least_of}
use Rattle.ecd_disjoint.proofs.CountRows.{least-Field, least-Pick, least-Table}
use Rattle.ecd_disjoint.proofs.map_counts.least_of.Goals as goal

pub returns-in-Field : goal.returns-in-Field
returns-in-Field c = c.needed_of.ensures ∙ (ap needed_pairs c.in-Field.is ∙ sym (ap entry_least c.in-Field.is ∙ least-Field c.in-Field.field-0))

pub returns-then-not-pick : goal.returns-then-not-pick
returns-then-not-pick c =
    let pick = c.in-Pick.pick in
    sym (ap entry_least c.in-Pick.is ∙ (least-Pick pick ∙ ap (λ (b : Bool). cond b (map_ways_least_of (out-Pick pick).ways) 0) c.if-not-pick.true))

pub returns-else-not-pick : goal.returns-else-not-pick
returns-else-not-pick c =
    let pick = c.in-Pick.pick in
    c.least_way.ensures
    ∙ (ap map_ways_least_of c.as_slice.ensures ∙ sym (ap entry_least c.in-Pick.is ∙ (least-Pick pick ∙ ap (λ (b : Bool). cond b (map_ways_least_of (out-Pick pick).ways) 0) c.if-not-pick.false)))

pub returns-in-Table : goal.returns-in-Table
returns-in-Table c = sym (ap entry_least c.in-Table.is ∙ least-Table c.in-Table.table)
