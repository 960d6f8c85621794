-- Heads of CBOR data items: RFC 8949, section 3.
use Rattle.std.specs.Prelude.{◌≡◌, ℕ, ◌+◌, ◌*◌, ◌^◌, ◌<◌, ◌≤◌, List, [], ◌∷◌, nat_lt, if◌then◌else◌, ◌⊎◌}
use Rattle.std.specs.Int.{w16, w32, w64, to_be_bytes}

-- What a head of deterministic CBOR without floats holds: a major type and an argument of 64 bits.
-- Of major type 7 it holds the simple values, which are 0 to 23 and 32 to 255 (section 3.3).
pub record IsWritable (major arg : ℕ) : Type 0 where
  pub known : major ≤ 7
  pub fits : arg < 2 ^ 64
  pub simple : major ≡ 7 → (arg < 24) ⊎ ((32 ≤ arg) × (arg < 256))

-- The shortest head (section 3, and section 4.2.1 on preferred serialization). The first byte has the major type in its three high bits.
-- An argument below 24 stands in its five low bits; there 24, 25, 26 and 27 say that the argument follows in one, two, four or eight bytes, the highest first.
unfoldable pub head_bytes : ℕ → ℕ → List ℕ
head_bytes major arg =
    if nat_lt arg 24 then (32 * major + arg) ∷ []
    else (if nat_lt arg (2 ^ 8) then (32 * major + 24) ∷ arg ∷ []
    else (if nat_lt arg (2 ^ 16) then (32 * major + 25) ∷ to_be_bytes w16 arg
    else (if nat_lt arg (2 ^ 32) then (32 * major + 26) ∷ to_be_bytes w32 arg
    else (32 * major + 27) ∷ to_be_bytes w64 arg)))
