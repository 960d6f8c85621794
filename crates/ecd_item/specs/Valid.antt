-- Validity in one of the orders of keys.
use Rattle.std.specs.Prelude.{List}
use Rattle.std.specs.List.{AllByRecursion}
use Rattle.ecd_keyorder.specs.declared.Order.{Order}
use Rattle.ecd_item_laws.specs.declared.item.Item.{Item}
use Rattle.ecd_item_laws.specs.declared.item.Pair.{Pair}
use Rattle.ecd_item_laws.specs.Valid.{IsValid, IsValidPair}

-- The item is valid in one of the orders.
abbrev pub HasEncoding : Item → Type 0
HasEncoding item = (order : Order) × IsValid order item

-- Both items are valid in one order.
abbrev pub HaveEncodings : Item → Item → Type 0
HaveEncodings one other = (order : Order) × IsValid order one × IsValid order other

-- All of these items are valid in one order.
abbrev pub ItemsHaveEncodings : List Item → List Item → Type 0
ItemsHaveEncodings some others = (order : Order) × AllByRecursion (IsValid order) some × AllByRecursion (IsValid order) others

-- The same of pairs.
abbrev pub PairsHaveEncodings : List Pair → List Pair → Type 0
PairsHaveEncodings some others = (order : Order) × AllByRecursion (IsValidPair order) some × AllByRecursion (IsValidPair order) others
