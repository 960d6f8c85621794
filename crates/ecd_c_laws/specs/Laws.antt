-- The definitions of the phases have no hole: what each C text has.
use Rattle.std.specs.Prelude.{ℕ, ◌⊎◌, List}
use Rattle.ecd_cast.specs.declared.tree.Program.{Program}
use Rattle.ecd_cast.specs.Spelling.{IsSpelling}
use Rattle.ecd_cast.specs.Validity.{Fault, IsValid, IsFirstFault}
use Rattle.ecd_cgrammar.specs.Faults.{FaultAt}

-- a text spells a program, or has a first place of fault
abbrev pub TextsAreRead : Type 0
TextsAreRead = (text : List ℕ) → ((program : Program) × IsSpelling program text) ⊎ ((place : ℕ) × FaultAt text place)

-- a text spells a valid program, or has a first place of fault, or spells a program with a first broken rule
abbrev pub TextsAreJudged : Type 0
TextsAreJudged = (text : List ℕ) →
    ((program : Program) × IsSpelling program text × IsValid program)
    ⊎ (((place : ℕ) × FaultAt text place) ⊎ ((program : Program) × (fault : Fault) × IsSpelling program text × IsFirstFault program fault))
