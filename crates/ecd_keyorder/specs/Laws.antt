-- The order of keys is a total order.
use Rattle.std.specs.Prelude.{◌≡◌, ◌↔◌, ℕ, List}
use Rattle.std.specs.Ordering.{ordering_reverse}
use Rattle.std.specs.declared.cmp.Ordering.TheVariants.{Equal}
use Rattle.ecd_keyorder.specs.declared.Order.{Order}
use Rattle.ecd_keyorder.specs.Order.{comparison, IsBefore}

-- Equal are an encoding and itself alone.
abbrev pub EqualIsSame : Type 0
EqualIsSame = (order : Order) (a b : List ℕ) → (comparison order a b ≡ Equal) ↔ (a ≡ b)

-- The answer for two encodings turns round with them.
abbrev pub SwapsAround : Type 0
SwapsAround = (order : Order) (a b : List ℕ) → comparison order a b ≡ ordering_reverse (comparison order b a)

-- What stands before the one stands before what that stands before.
abbrev pub IsTransitive : Type 0
IsTransitive = (order : Order) (a b c : List ℕ) → IsBefore order a b → IsBefore order b c → IsBefore order a c
