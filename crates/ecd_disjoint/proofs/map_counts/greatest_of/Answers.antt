use Rattle.std.proofs.Common.{ap, sym, ◌∙◌}
use Rattle.ecd_apart.specs.Counts.{entry_greatest}
use Rattle.ecd_disjoint.specs.Counts.{map_ways_greatest_of}
use Rattle.ecd_disjoint.proofs.CountRows.{greatest-Field, greatest-Pick, greatest-Table}
use Rattle.ecd_disjoint.proofs.map_counts.greatest_of.Goals as goal

pub returns-in-Field : goal.returns-in-Field
returns-in-Field c = sym (ap entry_greatest c.in-Field.is ∙ greatest-Field c.in-Field.field-0)

pub returns-in-Pick : goal.returns-in-Pick
returns-in-Pick c = c.greatest_way.ensures ∙ (ap map_ways_greatest_of c.as_slice.ensures ∙ sym (ap entry_greatest c.in-Pick.is ∙ greatest-Pick c.in-Pick.pick))

pub returns-in-Table : goal.returns-in-Table
returns-in-Table c = sym (ap entry_greatest c.in-Table.is ∙ greatest-Table c.in-Table.table)
