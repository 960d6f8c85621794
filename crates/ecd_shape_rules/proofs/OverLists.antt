-- What shapes, parts and entries demand, by the lists that they hold.
use Rattle.std.proofs.Common.{◌≡◌, List, sym, subst}
use Rattle.ecd_shape_rules.specs.Demands.{Demand, IsBrokenIn}
use Rattle.ecd_shape_rules.specs.OverLists.{DemandTheSame, ShapesDemand, PartsDemand, EntriesDemand}
use Rattle.ecd_shape_rules.proofs.Kept.{Kept}
use Rattle.ecd_shape_rules.proofs.ListedDemands.{demands-Tag, demands-AnyTag, demands-Cbor, demands-Choice, demands-Array, part_demands-One, part_demands-Opt, part_demands-Many, part_demands-Alt}
use Rattle.ecd_shape_rules.proofs.ListedMaps.{demands-Map, entry_demands-Field, entry_demands-Pick, entry_demands-Table, inner_keys-Field, inner_keys-Pick, inner_keys-Table, entry_fields-Field, entry_fields-Pick, entry_fields-Table}

demand_the_same : (demanded others : List Demand) → demanded ≡ others → DemandTheSame demanded others
demand_the_same demanded others e =
    ((subst Kept e, subst Kept (sym e)), (λ rule place. (subst (λ (l : List Demand). IsBrokenIn l rule place) e, subst (λ (l : List Demand). IsBrokenIn l rule place) (sym e))))

pub shapes_demand_over_lists : ShapesDemand
shapes_demand_over_lists = record {
  tag = λ n s. demand_the_same _ _ (demands-Tag n s);
  any_tag = λ s. demand_the_same _ _ (demands-AnyTag s);
  cbor = λ s. demand_the_same _ _ (demands-Cbor s);
  choice = λ ss. demand_the_same _ _ (demands-Choice ss);
  array = λ g. demand_the_same _ _ (demands-Array g);
  pairs = λ entries. demand_the_same _ _ (demands-Map entries);
}

pub parts_demand_over_lists : PartsDemand
parts_demand_over_lists = record {
  one = λ s after. demand_the_same _ _ (part_demands-One s after);
  opt = λ at g after. demand_the_same _ _ (part_demands-Opt at g after);
  many = λ at lo hi g after. demand_the_same _ _ (part_demands-Many at lo hi g after);
  alt = λ at ways after. demand_the_same _ _ (part_demands-Alt at ways after);
}

pub entries_demand_over_lists : EntriesDemand
entries_demand_over_lists = record {
  field = λ f. demand_the_same _ _ (entry_demands-Field f);
  pick = λ p. demand_the_same _ _ (entry_demands-Pick p);
  table = λ t. demand_the_same _ _ (entry_demands-Table t);
  field_keys = λ f. demand_the_same _ _ (inner_keys-Field f);
  pick_keys = λ p. demand_the_same _ _ (inner_keys-Pick p);
  table_keys = λ t. demand_the_same _ _ (inner_keys-Table t);
  field_fields = entry_fields-Field;
  pick_fields = entry_fields-Pick;
  table_fields = entry_fields-Table;
}
