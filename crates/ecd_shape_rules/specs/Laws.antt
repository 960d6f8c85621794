-- What holds of the rules.
use Rattle.std.specs.Prelude.{◌↔◌, ℕ}
use Rattle.ecd_keyorder.specs.declared.Order.{Order}
use Rattle.ecd_item_laws.specs.declared.item.Item.{Item}
use Rattle.ecd_core.specs.declared.shape.Shape.{Shape}
use Rattle.ecd_core.specs.declared.value.Value.{Value}
use Rattle.ecd_core.specs.Values.{HasValue}
use Rattle.ecd_apart.specs.Keys.{KeysDiffer}
use Rattle.ecd_shape_rules.specs.Alike.{IsAlike}
use Rattle.ecd_shape_rules.specs.declared.rule.Rule.{Rule}
use Rattle.ecd_shape_rules.specs.Demands.{KeepsRules, BreaksRule}

-- In a shape that keeps the rules the fields of each map that may be taken at once have different keys.
abbrev pub KeepingHasDifferentKeys : Type 0
KeepingHasDifferentKeys = (shape : Shape) → KeepsRules shape → KeysDiffer shape.kind

-- A shape that keeps the rules breaks none of them, at no place.
abbrev pub KeepingBreaksNone : Type 0
KeepingBreaksNone = (shape : Shape) (rule : Rule) (place : ℕ) → KeepsRules shape → BreaksRule shape rule place → ⊥

-- A shape is alike itself.
abbrev pub IsAlikeItself : Type 0
IsAlikeItself = (shape : Shape) → IsAlike shape.kind shape.kind

-- Two shapes that are equal but for their places give an item the same values.
abbrev pub AlikeGiveTheSame : Type 0
AlikeGiveTheSame = (order : Order) (s t : Shape) (item : Item) (value : Value) → IsAlike s.kind t.kind → HasValue order s item value ↔ HasValue order t item value
