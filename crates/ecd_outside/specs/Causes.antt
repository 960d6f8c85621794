-- When a call on the outside may fail: a count of faults rises at each fault, never falls, and stands still at its last value.
use Rattle.std.specs.Prelude.{◌≡◌, ℕ, ◌+◌, ◌-◌, ◌^◌, ◌<◌, ◌≤◌, min}

-- the count after one more: it stands still at the last value of a u64
abbrev pub raised : ℕ → ℕ
raised count = min (count + 1) (2 ^ 64 - 1)

-- the count rose, or stands at its last value
abbrev pub Rose : ℕ → ℕ → Type 0
Rose before now = raised before ≤ now

-- the count neither rose nor stands at its last value
abbrev pub IsFaultFree : ℕ → ℕ → Type 0
IsFaultFree before now = (now ≡ before) × (now < 2 ^ 64 - 1)
