-- Why a program is refused.
use Rattle.ecd_cast.specs.declared.fault.CFault.{CFault}
use Rattle.ecd_cast.specs.declared.fault.CFault.TheVariants.{Text, Rule, OutOfMemory}
use Rattle.ecd_cast.specs.declared.tree.Program.{Program}
use Rattle.ecd_cast.specs.Validity.{IsFirstFault}

-- what an error says of the program: its first fault, or nothing
abbrev pub IsCause : Program → CFault → Type 0
IsCause p (Text place) = ⊥
IsCause p (Rule rule item statement) = IsFirstFault p (record { rule = rule; item = item; statement = statement })
IsCause p OutOfMemory = Unit {0}
