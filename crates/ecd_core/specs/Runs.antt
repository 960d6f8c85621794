-- Parts in two groups, and runs of a body one after another.
use Rattle.std.specs.Prelude.{◌≡◌, ◌↔◌, ℕ, List, [], ◌∷◌, ◌++◌, length, map}
use Rattle.ecd_keyorder.specs.declared.Order.{Order}
use Rattle.ecd_item_laws.specs.declared.item.Item.{Item}
use Rattle.ecd_core.specs.declared.shape.Group.{Group}
use Rattle.ecd_core.specs.declared.shape.Part.{Part}
use Rattle.ecd_core.specs.declared.shape.Part.TheVariants as p
use Rattle.ecd_core.specs.declared.value.Value.{Value}
use Rattle.ecd_core.specs.declared.value.Value.TheVariants as v
use Rattle.ecd_core.specs.Lists.{Each}
use Rattle.ecd_core.specs.Listed.{PartsHave}
use Rattle.ecd_core.specs.Values.{PartGives, IsWithin, Run, run_items, run_value}

-- Some parts and then others: the items split in two, and so do the values.
abbrev pub PartsInTwo : Type 0
PartsInTwo = (order : Order) (parts others : List Part) (items : List Item) (values : List Value) →
    PartsHave order (parts ++ others) items values
    ↔ ((front : List Item) × (back : List Item) × (some : List Value) × (more : List Value) × (items ≡ front ++ back) × (values ≡ some ++ more) × PartsHave order parts front some × PartsHave order others back more)

-- The items are runs of the body, one after another, with these values.
abbrev pub RunsAre : Order → Group → List Item → List Value → Type 0
RunsAre order body items values = (runs : List Run) × (items ≡ run_items runs) × (values ≡ map run_value runs) × Each (λ run. PartsHave order body.parts run.0 run.1) runs

-- A part of many bodies has as many runs as its bounds allow.
abbrev pub ManyByRuns : Type 0
ManyByRuns = (order : Order) (at lo hi : ℕ) (body : Group) (items : List Item) (value : Value) →
    PartGives order (p.Many at lo hi body) items value ↔ ((values : List Value) × (value ≡ v.Many values) × IsWithin lo hi (length values) × RunsAre order body items values)

-- No runs are no items.
abbrev pub NoRuns : Type 0
NoRuns = (order : Order) (body : Group) (items : List Item) → RunsAre order body items [] ↔ (items ≡ [])

-- The first run stands in front of the others.
abbrev pub FirstRun : Type 0
FirstRun = (order : Order) (body : Group) (items : List Item) (value : Value) (others : List Value) →
    RunsAre order body items (value ∷ others)
    ↔ ((front : List Item) × (back : List Item) × (values : List Value) × (items ≡ front ++ back) × (value ≡ v.Group values) × PartsHave order body.parts front values × RunsAre order body back others)
