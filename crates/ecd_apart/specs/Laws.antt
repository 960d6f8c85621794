-- What holds of shapes that are apart.
use Rattle.ecd_keyorder.specs.declared.Order.{Order}
use Rattle.ecd_item_laws.specs.declared.item.Item.{Item}
use Rattle.ecd_core.specs.declared.shape.Shape.{Shape}
use Rattle.ecd_core.specs.declared.value.Value.{Value}
use Rattle.ecd_core.specs.Values.{HasValue}
use Rattle.ecd_apart.specs.Keys.{KeysDiffer}
use Rattle.ecd_apart.specs.Apart.{Apart}

-- No item has values under two shapes that are apart, where the fields of each map in them that may be taken at once have different keys.
abbrev pub ApartShareNone : Type 0
ApartShareNone =
    (order : Order) (s t : Shape) (item : Item) (value other : Value) → KeysDiffer s.kind → KeysDiffer t.kind → Apart s.kind t.kind
    → HasValue order s item value → HasValue order t item other → ⊥

-- The one shape is apart from the other where the other is apart from the one.
abbrev pub IsApartBothWays : Type 0
IsApartBothWays = (s t : Shape) → Apart s.kind t.kind → Apart t.kind s.kind
