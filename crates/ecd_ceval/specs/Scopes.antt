-- What contracts see of variables.
use Rattle.std.specs.Prelude.{ℕ, zero, suc, Bool, true, false, ◌≡◌, List, [], ◌∷◌, bytes_eq}
use Rattle.ecd_cast.specs.declared.value.Value.{Value}
use Rattle.ecd_cast.specs.Memory.{Name}
use Rattle.ecd_cast.specs.Expressions.{Scopes}
use Rattle.ecd_cast.specs.Meaning.{declare}
use Rattle.ecd_ceval.specs.declared.variables.Slot.{Slot}
use Rattle.ecd_ceval.specs.declared.variables.Slot.TheVariants.{Opened, Variable}

-- scopes with one more slot
abbrev pub with_slot : Scopes → Slot → Scopes
with_slot env Opened = [] ∷ env
with_slot env (Variable name value) = declare name.now value env

abbrev pub scopes_from : Scopes → List Slot → Scopes
scopes_from env [] = env
scopes_from env (s ∷ ss) = scopes_from (with_slot env s) ss

-- the scopes that slots make, the last slot innermost
abbrev pub scopes_of : List Slot → Scopes
scopes_of slots = scopes_from [] slots

-- ---- the last variable of a name

abbrev pub is_variable : Name → Slot → Bool
is_variable x Opened = false
is_variable x (Variable name value) = bytes_eq name.now x

-- no slot is a variable of this name
abbrev pub IsFree : Name → List Slot → Type 0
IsFree x [] = Unit {0}
IsFree x (s ∷ ss) = (is_variable x s ≡ false) × IsFree x ss

abbrev pub Has : Name → Slot → Value → Type 0
Has x Opened v = ⊥
Has x (Variable name value) v = (bytes_eq name.now x ≡ true) × (v ≡ value)

-- the variable of this name at this place, with this value, is the last one
abbrev pub IsLast : Name → List Slot → ℕ → Value → Type 0
IsLast x [] at v = ⊥
IsLast x (s ∷ ss) zero v = Has x s v × IsFree x ss
IsLast x (s ∷ ss) (suc at) v = IsLast x ss at v
