-- The numbers of the rules of each name, in order, as a table keeps them.
use Rattle.std.specs.Prelude.{◌≡◌, ℕ, ◌+◌, if◌then◌else◌, List, [], ◌∷◌, ◌++◌, Option, nat_eq, bytes_eq, slice_get}
use Rattle.std.specs.Cmp.Lexicographic.{pointwise}
use Rattle.std.specs.Map.{lookup}
use Rattle.std.specs.Option.{unwrap_or}
use Rattle.std.specs.declared.alloc.Global.{Global}
use Rattle.std.specs.declared.vec.Vec.{Vec}
use Rattle.ecd_syntax.specs.declared.tree.Rule.{Rule}
use Rattle.ecd_bodies.specs.Named.{is_named}

-- the numbers that a map has for a name, and none where it has no entry
abbrev pub numbers_in : List (Vec ℕ Global × List ℕ) → List ℕ → List ℕ
numbers_in entries name = unwrap_or (lookup (λ k. pointwise nat_eq name k.items) entries) []

-- the first of them
abbrev pub first_in : List (Vec ℕ Global × List ℕ) → List ℕ → Option ℕ
first_in entries name = slice_get (numbers_in entries name) 0

-- the numbers with one more, where it is of this name
abbrev pub with_number : List ℕ → List ℕ → List ℕ → ℕ → List ℕ
with_number numbers name added number = if bytes_eq added name then numbers ++ number ∷ [] else numbers

-- the numbers of a name's rules, where the first rule of all has this number
abbrev pub numbers_from : ℕ → List Rule → List ℕ → List ℕ
numbers_from n [] name = []
numbers_from n (rule ∷ rules) name = if is_named name rule then n ∷ numbers_from (n + 1) rules name else numbers_from (n + 1) rules name

-- the map has the numbers of these rules
abbrev pub IsNumbered : List (Vec ℕ Global × List ℕ) → List Rule → Type 0
IsNumbered entries rules = (name : List ℕ) → numbers_in entries name ≡ numbers_from 0 rules name
