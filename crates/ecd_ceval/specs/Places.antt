-- What contracts see of a context.
use Rattle.std.specs.Prelude.{ℕ, take}
use Rattle.ecd_cast.specs.Meaning as meaning
use Rattle.ecd_cast.specs.Meaning.{Calls, calls_of}
use Rattle.ecd_ceval.specs.declared.context.Context.{Context}

-- what the functions before the item do
abbrev pub calls_in : Context → Calls
calls_in c = calls_of (take c.item c.items.now)

-- the place of a statement of the item
abbrev pub place_in : Context → ℕ → meaning.Place
place_in c number = record { item = c.item; statement = number }
