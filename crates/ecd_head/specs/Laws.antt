-- What holds of heads.
use Rattle.std.specs.Prelude.{◌≡◌, ℕ, List, ◌++◌}
use Rattle.ecd_head.specs.Head.{IsWritable, head_bytes}

-- Bytes that begin with two heads begin with one: they are the same, and so is what follows.
abbrev pub NoHeadBeginsAnother : (major arg : ℕ) → List ℕ → (other_major other_arg : ℕ) → List ℕ → Type 0
NoHeadBeginsAnother major arg rest other_major other_arg other_rest =
    IsWritable major arg → IsWritable other_major other_arg → head_bytes major arg ++ rest ≡ head_bytes other_major other_arg ++ other_rest
    → (major ≡ other_major) × (arg ≡ other_arg) × (rest ≡ other_rest)
