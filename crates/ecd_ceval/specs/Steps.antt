-- What a meter counts.
use Rattle.std.specs.Prelude.{ℕ, ◌+◌, min, max, ◌≡◌}
use Rattle.ecd_ceval.specs.declared.meter.Meter.{Meter}
use Rattle.ecd_ceval.specs.declared.meter.Meter.TheVariants.{Left, Taken}

-- the second meter is the first one so many steps later
abbrev pub Passes : Meter → ℕ → Meter → Type 0
Passes (Left a) n (Left b) = a ≡ n + b
Passes (Taken a) n (Taken b) = b ≡ max a (min (a + n) 18446744073709551615)
Passes (Left a) n (Taken b) = ⊥
Passes (Taken a) n (Left b) = ⊥
