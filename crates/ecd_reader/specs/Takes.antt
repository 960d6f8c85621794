-- What the reader of one small number answers on data.
use Rattle.std.specs.Prelude.{◌≡◌, ◌⊎◌, ℕ, List, [], ◌∷◌}

-- the data begin with the number's encoding, which is one byte (RFC 8949, section 3.1)
abbrev pub BeginsWith : ℕ → List ℕ → Type 0
BeginsWith number [] = ⊥
BeginsWith number (byte ∷ bytes) = byte ≡ number

-- one byte is taken where the data begin with the number's encoding, else none
abbrev pub Takes : ℕ → List ℕ → ℕ → Type 0
Takes number input taken = ((taken ≡ 1) × BeginsWith number input) ⊎ ((taken ≡ 0) × (BeginsWith number input → ⊥))
