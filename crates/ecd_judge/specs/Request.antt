-- What is asked of a schema, as one record: every relation that speaks of a schema takes it.
use Rattle.std.specs.Prelude.{ℕ, List}
use Rattle.ecd_keyorder.specs.declared.Order.{Order}

-- the schema's bytes, the name of its root, how many levels items under `any` may have, and the order in which the keys of maps ascend
pub record Request : Type 0 where
  pub schema : List ℕ
  pub root : List ℕ
  pub depth : ℕ
  pub order : Order

abbrev pub request : List ℕ → List ℕ → ℕ → Order → Request
request schema root depth order = record { schema = schema; root = root; depth = depth; order = order }
