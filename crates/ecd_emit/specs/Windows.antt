-- Parts of blocks, and what functions are called with.
use Rattle.std.specs.Prelude.{ℕ, ◌+◌, ◌^◌, ◌<◌, ◌≤◌, ◌≡◌, ◌≢◌, List, [], ◌∷◌, Some, slice_get, get_or, length, take, drop}
use Rattle.ecd_cast.specs.declared.value.Value.{Value}
use Rattle.ecd_cast.specs.declared.value.Value.TheVariants.{Number as Num, Bytes as Ptr}
use Rattle.ecd_cast.specs.Memory.{Memory, Bytes}
use Rattle.ecd_cast.specs.Meaning.{Run}

-- what a function does, by its arguments and the memory
abbrev pub Callee : Type 0
Callee = List Value → Memory → Run

abbrev pub IsBytes : List ℕ → Type 0
IsBytes bytes = (i : ℕ) → get_or bytes i 0 < 256

-- A part of a block holds these bytes. The block may end right behind it, so what answers for every window reads nothing behind one.
pub record Window (m : Memory) (block offset len : ℕ) (bytes : List ℕ) : Type 0 where
  pub whole : List ℕ
  pub there : slice_get m block ≡ Some (Bytes whole)
  pub fits : offset + len ≤ length whole
  pub is : bytes ≡ take len (drop offset whole)
  pub short : len < 2 ^ 62
  pub each : IsBytes bytes

-- the arguments (buf, at)
abbrev pub placed : (block offset at : ℕ) → List Value
placed block offset at = Ptr block offset ∷ Num at ∷ []

-- the arguments (buf, len, at)
abbrev pub asked : (block offset len at : ℕ) → List Value
asked block offset len at = Ptr block offset ∷ Num len ∷ Num at ∷ []

-- the number is the one place with S, or 0 where none has it
pub record IsEnd (S : ℕ → Type 0) (n : ℕ) : Type 0 where
  pub found : n ≢ 0 → S n
  pub only : (e : ℕ) → S e → (n ≡ e) × (0 < e)
