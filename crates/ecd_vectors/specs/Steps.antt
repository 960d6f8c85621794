-- What the steps of judging a case find.
use Rattle.std.specs.Prelude.{ℕ, ◌≡◌, ◌≢◌, List, Option, Some, None, Ok}
use Rattle.std.specs.declared.vec.Vec.{Vec}
use Rattle.hex.specs.Hex.{decode_of}
use Rattle.ecd_compile.specs.declared.Compiled.{Compiled}
use Rattle.ecd_compile.specs.Schema.{IsNumber}
use Rattle.ecd_compile.specs.Reads.{IsCompiled}
use Rattle.ecd_vectors.specs.declared.case.Case.{Case}
use Rattle.ecd_vectors.specs.Passing.{request_of}

-- the bytes of the digits, or none where they are those of no bytes
abbrev pub IsDecoded : {A : Type 0} → List ℕ → Option (Vec ℕ A) → Type 0
IsDecoded digits None = (bytes : List ℕ) → decode_of digits ≢ Ok bytes
IsDecoded digits (Some bytes) = decode_of digits ≡ Ok bytes.items

-- the compiled schema, or none where it cannot be compiled
abbrev pub IsOfCase : Case → Option Compiled → Type 0
IsOfCase case None = (number : ℕ) → IsNumber (request_of case) number → ⊥
IsOfCase case (Some compiled) = IsCompiled (request_of case) compiled.text compiled.program
