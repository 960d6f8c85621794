-- A shape that keeps the rules, and the order in which the keys of its maps stand.
use Rattle.std.specs.Prelude.{◌≡◌, Bool, true, false, refl}
use Rattle.std.specs.Coded.{Coded, code_by, coded×, coded_bool}
use Rattle.ecd_keyorder.specs.declared.Order.{Order}
use Rattle.ecd_keyorder.specs.declared.Order.TheVariants.{Bytewise, LengthFirst}
use Rattle.ecd_core.specs.declared.shape.Shape.{Shape}
use Rattle.ecd_core.specs.contracts.shape.Shape as shape_of

pub record Judging : Type 0 where
  pub shape : Shape
  pub order : Order

-- It is stored as the shape, and whether the order is the bytewise one.
abbrev is_bytewise : Order → Bool
is_bytewise Bytewise = true
is_bytewise LengthFirst = false

abbrev order_of : Bool → Order
order_of true = Bytewise
order_of false = LengthFirst

pub back : (order : Order) → order_of (is_bytewise order) ≡ order
back Bytewise = refl
back LengthFirst = refl

abbrev pub judging_code : Coded Judging
judging_code =
    code_by (Shape × Bool) (coded× shape_of.the_row.coded coded_bool) (λ j. (j.shape, is_bytewise j.order)) (λ p. record { shape = p.0; order = order_of p.1 })
    (λ j. λ i. record { shape = j.shape; order = back j.order i })
