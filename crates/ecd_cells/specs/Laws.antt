-- What holds of the cells of a read.
use Rattle.std.specs.Prelude.{ℕ, ◌≡◌, List}
use Rattle.ecd_keyorder.specs.declared.Order.{Order}
use Rattle.ecd_item_laws.specs.declared.item.Item.{Item}
use Rattle.ecd_core.specs.declared.shape.Shape.{Shape}
use Rattle.ecd_core.specs.declared.value.Value.{Value}
use Rattle.ecd_core.specs.Values.{HasValue}
use Rattle.ecd_cells.specs.Reads.{Setting, RootReads}

-- wherever an item with a value stands, there are cells that a read of it sets
abbrev pub ValuesHaveCells : Type 0
ValuesHaveCells = (order : Order) (shape : Shape) (item : Item) (value : Value) (block at : ℕ) → HasValue order shape item value → (sets : List Setting) × RootReads order block shape item value at sets

-- and there is one list of them
abbrev pub HasOneRead : Type 0
HasOneRead = (order : Order) (shape : Shape) (item : Item) (value : Value) (block at : ℕ) (sets others : List Setting) →
    RootReads order block shape item value at sets → RootReads order block shape item value at others → sets ≡ others
