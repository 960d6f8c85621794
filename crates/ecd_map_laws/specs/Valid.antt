-- Items that have values are valid (RFC 8949, sections 3 and 4.2.1).
use Rattle.std.specs.Prelude.{◌<◌, ◌^◌}
use Rattle.ecd_keyorder.specs.declared.Order.{Order}
use Rattle.ecd_item_laws.specs.declared.item.Item.{Item}
use Rattle.ecd_item_laws.specs.Encoding.{encoded_length}
use Rattle.ecd_item_laws.specs.Valid.{IsValid}
use Rattle.ecd_core.specs.declared.shape.Shape.{Shape}
use Rattle.ecd_core.specs.declared.value.Value.{Value}
use Rattle.ecd_core.specs.Values.{HasValue}

-- An item with a value is valid where its encoding is shorter than 2^63 bytes: a value bounds no length of a string and no count of an array or map to 64 bits.
abbrev pub ValuedIsValid : Type 0
ValuedIsValid = (order : Order) (shape : Shape) (item : Item) (value : Value) → HasValue order shape item value → encoded_length item < 2 ^ 63 → IsValid order item
