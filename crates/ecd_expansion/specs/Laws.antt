-- What holds of shapes and first faults.
use Rattle.std.specs.Prelude.{ℕ, suc, ◌≤◌, ◌≡◌, ◌<◌, ◌⊎◌, List}
use Rattle.ecd_syntax.specs.declared.tree.Rule.{Rule}
use Rattle.ecd_core.specs.declared.shape.Shape.{Shape}
use Rattle.ecd_expansion.specs.Expansion.{MeansFault, MeansShape}
use Rattle.ecd_expansion.specs.Kinds.{GroupTest, IsGroupTest}
use Rattle.ecd_expansion.specs.Told.{Fault}
use Rattle.ecd_expansion.specs.Visits.{Visit, total, visits}

-- there is at most one first fault
abbrev pub HasOneFirst : Type 0
HasOneFirst = (text : List Rule) (depth : ℕ) (root : List ℕ) (end : ℕ) (a b : Fault) → MeansFault text depth root end a → MeansFault text depth root end b → a ≡ b

-- and at most one shape
abbrev pub HasOneShape : Type 0
HasOneShape = (text : List Rule) (depth : ℕ) (root : List ℕ) (end : ℕ) (a b : Shape) → MeansShape text depth root end a → MeansShape text depth root end b → a ≡ b

-- never both
abbrev pub NeverBoth : Type 0
NeverBoth = (text : List Rule) (depth : ℕ) (root : List ℕ) (end : ℕ) (one : Fault) (shape : Shape) → MeansFault text depth root end one → MeansShape text depth root end shape → ⊥

-- and one of them, where it is known which leads are groups
abbrev pub OneOfBoth : Type 0
OneOfBoth =
    (text : List Rule) (depth : ℕ) (root : List ℕ) (end : ℕ) (is_group : GroupTest) →
    IsGroupTest text is_group → ((shape : Shape) × MeansShape text depth root end shape) ⊎ ((one : Fault) × MeansFault text depth root end one)

-- where more than 4,096 steps are found in whatever many levels, they are found in 4,097
abbrev pub StepsShowSoon : Type 0
StepsShowSoon = (text : List Rule) (roots : List Visit) (levels : ℕ) → 4096 < total (visits levels text) roots → 4096 < total (visits 4097 text) roots

-- with more levels no fewer steps are found
abbrev pub StepsGrow : Type 0
StepsGrow = (text : List Rule) (roots : List Visit) (levels : ℕ) → total (visits levels text) roots ≤ total (visits (suc levels) text) roots
