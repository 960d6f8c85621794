use Rattle.std.proofs.Common.{◌≡◌, take}
use Rattle.std.specs.Prelude.{flat_map}
use Rattle.ecd_bodies.specs.Named.{all_rules, first_of}
use Rattle.ecd_names.specs.Edges.{rule_edges}
use Rattle.ecd_names.proofs.edges.edges.Given as goal

abbrev pub invariant-loop-number : goal.invariant-loop-number
invariant-loop-number l = l.edges.items ≡ flat_map (rule_edges (first_of l.table)) (take l.number (all_rules l.table))
