-- What the reader answers.
use Rattle.std.specs.Prelude.{◌≡◌, ◌⊎◌, ◌++◌, ℕ, List, [], ◌∷◌, Result, Ok, Err}
use Rattle.ecd_cast.specs.declared.tree.Program.{Program}
use Rattle.ecd_cast.specs.Spelling.{first_line, IsSpelling}
use Rattle.ecd_clex.specs.declared.token.Token.{Token}
use Rattle.ecd_cast.specs.Validity.{Fault, IsValid, IsFirstFault}
use Rattle.ecd_cast.specs.declared.fault.CFault.{CFault}
use Rattle.ecd_cast.specs.declared.fault.CFault.TheVariants as causes
use Rattle.ecd_cgrammar.specs.Faults.{FaultAt}
use Rattle.ecd_cread.specs.declared.fault.TextFault.{TextFault}
use Rattle.ecd_cread.specs.declared.fault.TextFault.TheVariants as faults

-- the text begins with the first line
abbrev pub BeginsWell : List ℕ → Type 0
BeginsWell text = (body : List ℕ) × (text ≡ first_line ++ body)

-- the place of the first token, or the place behind all
abbrev pub place_or : ℕ → List Token → ℕ
place_or end [] = end
place_or end (t ∷ ts) = t.at

-- the text spells a program whose first broken rule is this
pub record Breaks (text : List ℕ) (fault : Fault) : Type 0 where
  pub program : Program
  pub spelled : IsSpelling program text
  pub first : IsFirstFault program fault

-- the answer to a text, unless memory runs out
abbrev pub Answers : List ℕ → Result Program TextFault → Type 0
Answers text (Ok program) = IsSpelling program text
Answers text (Err (faults.At place)) = FaultAt text place
Answers text (Err faults.OutOfMemory) = Unit {0}

-- it is this, unless memory runs out
abbrev pub Is : Result Program TextFault → Result Program TextFault → Type 0
Is result answer = (result ≡ answer) ⊎ (result ≡ Err faults.OutOfMemory)

-- the answer to a text with the rules, unless memory runs out
abbrev pub AnswersWith : List ℕ → Result Program CFault → Type 0
AnswersWith text (Ok program) = IsSpelling program text × IsValid program
AnswersWith text (Err (causes.Text place)) = FaultAt text place
AnswersWith text (Err (causes.Rule rule item statement)) = Breaks text (record { rule = rule; item = item; statement = statement })
AnswersWith text (Err causes.OutOfMemory) = Unit {0}

-- it is this, unless memory runs out
abbrev pub IsAnswer : Result Program CFault → Result Program CFault → Type 0
IsAnswer result answer = (result ≡ answer) ⊎ (result ≡ Err causes.OutOfMemory)
