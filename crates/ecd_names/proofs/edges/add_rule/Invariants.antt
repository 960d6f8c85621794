use Rattle.std.proofs.Common.{◌≡◌, ◌++◌, take}
use Rattle.std.specs.Prelude.{flat_map}
use Rattle.ecd_bodies.specs.Named.{first_of}
use Rattle.ecd_names.specs.Edges.{site_edges}
use Rattle.ecd_names.proofs.edges.add_rule.Given as goal

abbrev pub invariant-loop-site : goal.invariant-loop-site
invariant-loop-site l = l.edges.items ≡ l.initial.edges.items ++ flat_map (site_edges (first_of l.table) l.rule) (take l.site-index l.site-items)
