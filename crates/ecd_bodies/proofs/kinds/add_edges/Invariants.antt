use Rattle.std.proofs.Common.{◌≡◌, ◌++◌, take}
use Rattle.std.specs.Prelude.{flat_map}
use Rattle.ecd_bodies.specs.Numbers.{first_in}
use Rattle.ecd_bodies.specs.Causes.{edges_of_rule}
use Rattle.ecd_bodies.proofs.kinds.add_edges.Given as goal

abbrev pub invariant-loop-rule : goal.invariant-loop-rule
invariant-loop-rule l = l.edges.items ≡ l.initial.edges.items ++ flat_map (edges_of_rule (first_in l.numbers.entries) l.source) (take l.rule-index l.rules)
