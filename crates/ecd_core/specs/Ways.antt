-- Fields that fit, and what the taken way of a pick decides.
use Rattle.std.specs.Prelude.{◌≡◌, ◌↔◌, ℕ, suc, ◌<◌, Bool, false, List, ◌∷◌, length}
use Rattle.ecd_keyorder.specs.declared.Order.{Order}
use Rattle.ecd_item_laws.specs.declared.item.Pair.{Pair}
use Rattle.ecd_core.specs.declared.shape.Field.{Field}
use Rattle.ecd_core.specs.declared.shape.MapWay.{MapWay}
use Rattle.ecd_core.specs.declared.value.Value.{Value}
use Rattle.ecd_core.specs.declared.value.Value.TheVariants as v
use Rattle.ecd_core.specs.Lists.{HasSome, EachWith}
use Rattle.ecd_core.specs.Listed.{field_of, fields_mean, ways_mean}
use Rattle.ecd_core.specs.Maps.{FieldMeaning, APick, GivesPair, Suits, Fits, Stops, NeededFit, way_of, IsTaken, Takes, Blocks, FieldHas, PickHas}

-- A field fits exactly where some pair gives it some value.
abbrev pub FitsBySome : Type 0
FitsBySome = (order : Order) (pairs : List Pair) (field : Field) → Fits pairs (field_of order field) ↔ ((value : Value) × HasSome (GivesPair (field_of order field) value) pairs)

-- The first way is taken exactly where its needed fields fit.
abbrev pub FirstTaken : Type 0
FirstTaken = (order : Order) (pairs : List Pair) (way : MapWay) (ways : List MapWay) → IsTaken pairs (ways_mean order (way ∷ ways)) 0 ↔ NeededFit pairs (fields_mean order way.entries)

-- A later way is taken exactly where they don't, and it is the one that is taken of the later ways.
abbrev pub LaterTaken : Type 0
LaterTaken = (order : Order) (pairs : List Pair) (way : MapWay) (ways : List MapWay) (number : ℕ) →
    IsTaken pairs (ways_mean order (way ∷ ways)) (suc number) ↔ ((NeededFit pairs (fields_mean order way.entries) → ⊥) × IsTaken pairs (ways_mean order ways) number)

-- A field of one of the first ways, so many of them, stops the pair.
abbrev pub WayStops : ℕ → List (List FieldMeaning) → Pair → Type 0
WayStops count ways pair = (number : ℕ) × (number < count) × (number < length ways) × HasSome (λ field. Stops field pair) (way_of ways number)

-- What the way of this number decides of a pick, where it is taken: no other is, the pick takes the pairs that suit a field of this way, blocks those that a
-- field of one of the ways up to it stops, and has values of this way.
pub record IsDecided (pairs : List Pair) (needed : Bool) (ways : List (List FieldMeaning)) (number : ℕ) : Type 0 where
  pub one : (other : ℕ) → IsTaken pairs ways other → other ≡ number
  pub takes : (pair : Pair) → Takes pairs pair (APick needed ways) ↔ HasSome (λ field. Suits field pair) (way_of ways number)
  pub blocks : (pair : Pair) → Blocks pairs pair (APick needed ways) ↔ WayStops (suc number) ways pair
  pub has : (value : Value) → PickHas pairs needed ways value ↔ ((values : List Value) × (value ≡ v.Way number (v.Group values)) × EachWith (FieldHas pairs) (way_of ways number) values)

-- Where no way is taken, the pick takes no pair, blocks those that a field of any way stops, and is absent, where it may be.
pub record IsLeftOut (pairs : List Pair) (needed : Bool) (ways : List (List FieldMeaning)) : Type 0 where
  pub takes : (pair : Pair) → Takes pairs pair (APick needed ways) → ⊥
  pub blocks : (pair : Pair) → Blocks pairs pair (APick needed ways) ↔ WayStops (length ways) ways pair
  pub has : (value : Value) → PickHas pairs needed ways value ↔ ((needed ≡ false) × (value ≡ v.Absent))

-- A pick by its taken way, or where there is none.
abbrev pub TakenDecides : Type 0
TakenDecides = (order : Order) (pairs : List Pair) (needed : Bool) (ways : List MapWay) (number : ℕ) → IsTaken pairs (ways_mean order ways) number → IsDecided pairs needed (ways_mean order ways) number

abbrev pub NoneLeavesOut : Type 0
NoneLeavesOut = (order : Order) (pairs : List Pair) (needed : Bool) (ways : List MapWay) → ((number : ℕ) → IsTaken pairs (ways_mean order ways) number → ⊥) → IsLeftOut pairs needed (ways_mean order ways)
