-- What holds of shapes that keep the rules.
use Rattle.std.specs.Prelude.{◌≡◌}
use Rattle.ecd_keyorder.specs.declared.Order.{Order}
use Rattle.ecd_item_laws.specs.declared.item.Item.{Item}
use Rattle.ecd_core.specs.declared.shape.Shape.{Shape}
use Rattle.ecd_core.specs.declared.value.Value.{Value}
use Rattle.ecd_core.specs.Values.{HasValue}

-- The shape gives each item at most one value, in either order of keys.
abbrev pub GivesOneValue : Shape → Type 0
GivesOneValue shape = (order : Order) (item : Item) (value other : Value) → HasValue order shape item value → HasValue order shape item other → value ≡ other
