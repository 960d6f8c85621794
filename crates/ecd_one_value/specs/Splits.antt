-- Splits of the items of an array, with what may follow, and what holds of them.
use Rattle.std.specs.Prelude.{◌≡◌, true, List, [], ◌∷◌, ◌++◌}
use Rattle.ecd_keyorder.specs.declared.Order.{Order}
use Rattle.ecd_item_laws.specs.declared.item.Item.{Item}
use Rattle.ecd_core.specs.declared.shape.Kind.{Kind}
use Rattle.ecd_core.specs.declared.shape.Part.{Part}
use Rattle.ecd_core.specs.declared.value.Value.{Value}
use Rattle.ecd_core.specs.Lists.{Each, HasSome}
use Rattle.ecd_core.specs.Listed.{PartsHave}
use Rattle.ecd_core.specs.Values.{Gives}
use Rattle.ecd_apart.specs.Keys.{KeysDiffer}
use Rattle.ecd_shape_rules.specs.Starts.{AreApart}
use Rattle.ecd_shape_rules.specs.Demands.{Demand}
use Rattle.ecd_shape_rules.specs.Listed.{are_emptiable, starts_of, follow_of, parts_demanded}

-- The item has a value under one of these shapes.
abbrev pub IsUnder : Order → List Kind → Item → Type 0
IsUnder order kinds item = HasSome (λ (kind : Kind). (value : Value) × Gives order kind item value) kinds

-- The items end, or go on with one of these shapes.
abbrev pub Follows : Order → List Kind → List Item → Type 0
Follows order kinds [] = Unit {0}
Follows order kinds (item ∷ items) = IsUnder order kinds item

-- Of two fronts of one list that have values, behind each of which the list ends or goes on with one of these shapes, neither is longer, and they have one value.
abbrev pub OneSplit : Order → {V : Type 0} → (List Item → V → Type 0) → List Kind → Type 0
OneSplit order {V} R after =
    (xs ys r s : List Item) (u w : V) → R xs u → R ys w → Follows order after r → Follows order after s → xs ++ r ≡ ys ++ s → (xs ≡ ys) × (u ≡ w)

-- In each of these shapes the fields of a map that may be taken at once have different keys.
abbrev pub AllDiffer : List Kind → Type 0
AllDiffer kinds = Each (λ (kind : Kind). KeysDiffer kind) kinds

-- Parts that keep the rules have one split, and one list of values, before what may follow them.
abbrev pub PartsSplitOnce : Type 0
PartsSplitOnce =
    (order : Order) (parts : List Part) (after : List Kind) → AllDiffer after → Each (λ (d : Demand). d.holds) (parts_demanded parts after) → OneSplit order (PartsHave order parts) after

-- The items of parts begin with one of their starts.
abbrev pub BeginWithStart : Type 0
BeginWithStart = (order : Order) (parts : List Part) (items : List Item) (values : List Value) → PartsHave order parts items values → Follows order (starts_of parts) items

-- Parts without items may be empty.
abbrev pub EmptyMayBe : Type 0
EmptyMayBe = (order : Order) (parts : List Part) (values : List Value) → PartsHave order parts [] values → are_emptiable parts ≡ true

-- What stands behind a part may follow it.
abbrev pub MayFollow : Type 0
MayFollow =
    (order : Order) (rest : List Part) (after : List Kind) (front behind : List Item) (values : List Value) → PartsHave order rest front values → Follows order after behind
    → Follows order (follow_of rest after) (front ++ behind)

-- Where the first of the items in front has a value under a start of a body that is apart from what may follow it, no split has the body absent and these items
-- for the parts behind it.
abbrev pub NoneWhereAbsent : Type 0
NoneWhereAbsent =
    (order : Order) (body rest : List Part) (after : List Kind) (item : Item) (items front behind : List Item) (values : List Value)
    → AllDiffer (starts_of body) → AllDiffer (follow_of rest after) → AreApart (starts_of body) (follow_of rest after) → IsUnder order (starts_of body) item
    → item ∷ items ≡ front ++ behind → PartsHave order rest front values → Follows order after behind → ⊥

-- Where the parts keep the rules, the shapes with which they begin and those that may follow have maps whose keys differ.
abbrev pub StartsDiffer : Type 0
StartsDiffer = (parts : List Part) (after : List Kind) → Each (λ (d : Demand). d.holds) (parts_demanded parts after) → AllDiffer (starts_of parts) × (AllDiffer after → AllDiffer (follow_of parts after))
