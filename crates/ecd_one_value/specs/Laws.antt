-- What holds of shapes that keep the rules.
use Rattle.std.specs.Prelude.{◌≡◌}
use Rattle.ecd_keyorder.specs.declared.Order.{Order}
use Rattle.ecd_item_laws.specs.declared.item.Item.{Item}
use Rattle.ecd_core.specs.declared.shape.Shape.{Shape}
use Rattle.ecd_core.specs.declared.value.Value.{Value}
use Rattle.ecd_core.specs.Values.{HasValue}
use Rattle.ecd_shape_rules.specs.Demands.{KeepsRules}

-- A shape that keeps the rules gives each item at most one value.
abbrev pub HasOneValue : Type 0
HasOneValue = (order : Order) (shape : Shape) (item : Item) (value other : Value) → KeepsRules shape → HasValue order shape item value → HasValue order shape item other → value ≡ other
