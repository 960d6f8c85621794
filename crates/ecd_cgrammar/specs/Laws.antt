-- Facts about the definitions, as statements.
use Rattle.std.specs.Prelude.{ℕ, ◌≡◌, List}
use Rattle.ecd_cast.specs.declared.tree.Program.{Program}
use Rattle.ecd_cast.specs.Lexemes.{Lexeme, AreLexemes, Laid}
use Rattle.ecd_cast.specs.Spelling.{IsSpelling, IsSpelledProgram, program_lexemes}
use Rattle.ecd_cgrammar.specs.Faults.{FaultAt}

-- the lexemes of a program that has a spelling are lexemes
abbrev pub ProgramsAreLexemes : Type 0
ProgramsAreLexemes = (p : Program) → IsSpelledProgram p → AreLexemes (program_lexemes p)

-- no two lists of lexemes are laid out to one text
abbrev pub OneLaying : Type 0
OneLaying = (ls ms : List Lexeme) (text : List ℕ) → AreLexemes ls → AreLexemes ms → Laid ls text → Laid ms text → ls ≡ ms

-- a text spells no more than one program
abbrev pub OneProgram : Type 0
OneProgram = (p q : Program) (text : List ℕ) → IsSpelling p text → IsSpelling q text → p ≡ q

-- a text has no more than one first place of fault
abbrev pub OneFault : Type 0
OneFault = (text : List ℕ) (a b : ℕ) → FaultAt text a → FaultAt text b → a ≡ b

-- a text that spells a program has no fault
abbrev pub NoFault : Type 0
NoFault = (p : Program) (text : List ℕ) (place : ℕ) → IsSpelling p text → FaultAt text place → ⊥
