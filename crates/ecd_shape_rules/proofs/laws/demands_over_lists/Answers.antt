use Rattle.ecd_shape_rules.proofs.OverLists.{shapes_demand_over_lists, parts_demand_over_lists, entries_demand_over_lists}
use Rattle.ecd_shape_rules.proofs.laws.demands_over_lists.Goals as goal

pub returns : goal.returns
returns c = record { shapes = shapes_demand_over_lists; parts = parts_demand_over_lists; entries = entries_demand_over_lists }
