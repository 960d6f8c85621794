-- Facts about the rules, as statements.
use Rattle.std.specs.Prelude.{ℕ, ◌≡◌, List, []}
use Rattle.ecd_cast.specs.declared.tree.CItem.{CItem}
use Rattle.ecd_cast.specs.declared.tree.Program.{Program}
use Rattle.ecd_cast.specs.Validity.{Fault, IsValid, IsFirstFault, item_faults}

-- an item that is valid where it stands stays so whatever is put behind it
abbrev pub ValidityIsKept : Type 0
ValidityIsKept = (before : List CItem) (i : CItem) (from more : List CItem) (at : ℕ) → item_faults before i from at ≡ [] → item_faults before i more at ≡ []

-- a valid program has no first fault, every other one has one, and no program two
pub record FirstFault : Type 0 where
  pub some : (p : Program) → (IsValid p → ⊥) → (f : Fault) × IsFirstFault p f
  pub none : (p : Program) (f : Fault) → IsValid p → IsFirstFault p f → ⊥
  pub one : (p : Program) (f g : Fault) → IsFirstFault p f → IsFirstFault p g → f ≡ g
