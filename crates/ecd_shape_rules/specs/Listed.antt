-- Starts, and what is demanded, over the lists of the source, by which the crates above cite them.
use Rattle.std.specs.Prelude.{◌≡◌, ℕ, ◌==◌, nat_lt, if◌then◌else◌, List, [], ◌∷◌, ◌++◌, Bool, true, false}
use Rattle.ecd_core.specs.declared.shape.Kind.{Kind}
use Rattle.ecd_core.specs.declared.shape.Shape.{Shape}
use Rattle.ecd_core.specs.declared.shape.Group.{Group}
use Rattle.ecd_core.specs.declared.shape.Part.{Part}
use Rattle.ecd_core.specs.declared.shape.Part.TheVariants as p
use Rattle.ecd_core.specs.declared.shape.Way.{Way}
use Rattle.ecd_apart.specs.Apart.{Apart}
use Rattle.ecd_shape_rules.specs.Starts.{part_may_be_empty, part_starts, AreApart}
use Rattle.ecd_shape_rules.specs.declared.rule.Rule.TheVariants.{A1, A2}
use Rattle.ecd_shape_rules.specs.Demands.{Demand, demand, demands, part_demands}

-- Whether all parts may take no item.
abbrev pub are_emptiable : List Part → Bool
are_emptiable [] = true
are_emptiable (part ∷ parts) = if part_may_be_empty part then are_emptiable parts else false

-- The shapes of the items with which the parts may begin.
abbrev pub starts_of : List Part → List Kind
starts_of [] = []
starts_of (part ∷ parts) = part_starts part ++ (if part_may_be_empty part then starts_of parts else [])

-- Those of the items that may follow a part, in front of these parts and of what follows the group.
abbrev pub follow_of : List Part → List Kind → List Kind
follow_of parts after = starts_of parts ++ (if are_emptiable parts then after else [])

-- Of the bodies of ways.
abbrev pub some_is_emptiable : List Way → Bool
some_is_emptiable [] = false
some_is_emptiable (way ∷ ways) = if are_emptiable way.body.parts then true else some_is_emptiable ways

abbrev pub ways_start : List Way → List Kind
ways_start [] = []
ways_start (way ∷ ways) = starts_of way.body.parts ++ ways_start ways

-- What parts demand before what may follow them.
abbrev pub parts_demanded : List Part → List Kind → List Demand
parts_demanded [] after = []
parts_demanded (part ∷ parts) after = part_demands part (follow_of parts after) ++ parts_demanded parts after

-- What may follow one body of a repetition.
abbrev pub follow_body_of : ℕ → List Part → List Kind → List Kind
follow_body_of hi parts after = if nat_lt 1 hi then starts_of parts ++ after else after

-- What two ways demand, an earlier one and a later one.
abbrev pub two_ways_of : Way → Way → List Kind → List Demand
two_ways_of one other after =
    demand A2 other.at (AreApart (starts_of one.body.parts) (starts_of other.body.parts)) ∷ demand A2 other.at (are_emptiable one.body.parts ≡ true → are_emptiable other.body.parts ≡ true → ⊥)
    ∷ demand A2 other.at (are_emptiable one.body.parts ≡ true → AreApart (starts_of other.body.parts) after) ∷ demand A2 one.at (are_emptiable other.body.parts ≡ true → AreApart (starts_of one.body.parts) after) ∷ []

abbrev pub way_beside_all : Way → List Way → List Kind → List Demand
way_beside_all way [] after = []
way_beside_all way (other ∷ others) after = two_ways_of way other after ++ way_beside_all way others after

abbrev pub ways_beside_of : List Way → List Kind → List Demand
ways_beside_of [] after = []
ways_beside_of (way ∷ ways) after = way_beside_all way ways after ++ ways_beside_of ways after

abbrev pub groups_demanded : List Way → List Kind → List Demand
groups_demanded [] after = []
groups_demanded (way ∷ ways) after = parts_demanded way.body.parts after ++ groups_demanded ways after

-- What the alternatives of a choice demand.
abbrev pub apart_from_all : Kind → List Shape → List Demand
apart_from_all kind [] = []
apart_from_all kind (other ∷ others) = demand A1 other.at (Apart kind other.kind) ∷ apart_from_all kind others

abbrev pub alternatives_demanded : List Shape → List Demand
alternatives_demanded [] = []
alternatives_demanded (s ∷ ss) = apart_from_all s.kind ss ++ alternatives_demanded ss

abbrev pub shapes_demanded : List Shape → List Demand
shapes_demanded [] = []
shapes_demanded (s ∷ ss) = demands s.kind ++ shapes_demanded ss

-- What a part may begin with, and whether it may be empty, by what it holds.
pub record StartsOverLists : Type 0 where
  pub one : (s : Shape) → (part_may_be_empty (p.One s) ≡ false) × (part_starts (p.One s) ≡ s.kind ∷ [])
  pub opt : (at : ℕ) (g : Group) → (part_may_be_empty (p.Opt at g) ≡ true) × (part_starts (p.Opt at g) ≡ starts_of g.parts)
  pub many : (at lo hi : ℕ) (g : Group) → (part_may_be_empty (p.Many at lo hi g) ≡ (if lo == 0 then true else are_emptiable g.parts)) × (part_starts (p.Many at lo hi g) ≡ starts_of g.parts)
  pub alt : (at : ℕ) (ways : List Way) → (part_may_be_empty (p.Alt at ways) ≡ some_is_emptiable ways) × (part_starts (p.Alt at ways) ≡ ways_start ways)
