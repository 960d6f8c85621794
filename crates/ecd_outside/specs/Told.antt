-- What is told of files and of what is written, and what calls do to it. Where nothing is told, nothing is claimed.
use Rattle.std.specs.Prelude.{◌≡◌, ◌⊎◌, ◌↔◌, ℕ, ◌<◌, ◌≤◌, List, [], ◌++◌, length, Option, Some, None, IsSome, ⊤}
use Rattle.std.specs.Io.KnownBytes.{prepend_known, append_known}
use Rattle.ecd_outside.specs.Causes.{Rose}

-- what is told of files: nothing, or the contents of each name, where `None` is a name that no file has
abbrev pub Told : Type 0
Told = Option (List ℕ → Option (List ℕ))

-- contents are told, and no file has the name
abbrev pub IsMissing : Told → List ℕ → Type 0
IsMissing None name = ⊥
IsMissing (Some contents) name = contents name ≡ None

-- where contents are told, the bytes are those of the name
abbrev pub IsContents : Told → List ℕ → List ℕ → Type 0
IsContents None name bytes = ⊤
IsContents (Some contents) name bytes = contents name ≡ Some bytes

-- where contents are told, those of the name are more than so many bytes
abbrev pub IsLonger : Told → List ℕ → ℕ → Type 0
IsLonger None name limit = ⊤
IsLonger (Some contents) name limit = (bytes : List ℕ) × (contents name ≡ Some bytes) × (limit < length bytes)

-- where contents are told, those of the name are the bytes that were taken and then the bytes left
abbrev pub IsTaken : Told → List ℕ → List ℕ → Option (List ℕ) → Type 0
IsTaken None name taken left = ⊤
IsTaken (Some contents) name taken left = IsSome left × (contents name ≡ prepend_known taken left)

-- the same, and no more than so many bytes were taken
abbrev pub TakesAtMost : Told → List ℕ → Option (List ℕ) → ℕ → Type 0
TakesAtMost told name left most = (taken : List ℕ) × IsTaken told name taken left × (length taken ≤ most)

-- the same, and exactly so many bytes were taken
abbrev pub TakesExactly : Told → List ℕ → Option (List ℕ) → ℕ → Type 0
TakesExactly told name left count = (taken : List ℕ) × IsTaken told name taken left × (length taken ≡ count)

-- a read gave so many bytes: none exactly at the end
abbrev pub IsNoneAtEnd : Option (List ℕ) → ℕ → Type 0
IsNoneAtEnd None count = ⊤
IsNoneAtEnd (Some left) count = (count ≡ 0) ↔ (left ≡ [])

-- a file may fail to begin: the count of faults rose, or stands at its last value, or contents are told and no file has the name
abbrev pub MayFail : Told → List ℕ → ℕ → ℕ → Type 0
MayFail told name before now = Rose before now ⊎ IsMissing told name

-- a front of the bytes was appended
pub record AppendsFront (before : Option (List ℕ)) (bytes : List ℕ) (now : Option (List ℕ)) : Type 0 where
  pub front : List ℕ
  pub rest : List ℕ
  pub parts : bytes ≡ front ++ rest
  pub appended : now ≡ append_known before front
