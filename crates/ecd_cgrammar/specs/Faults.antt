-- Texts that spell a program, and the first place of fault of those that do not.
use Rattle.std.specs.Prelude.{ℕ, ◌+◌, ◌≡◌, ◌⊎◌, Bool, true, false, List, [], ◌∷◌, ◌++◌, length}
use Rattle.std.specs.List.{list_all}
use Rattle.ecd_cast.specs.declared.tree.Program.{Program}
use Rattle.ecd_cast.specs.Lexemes.{Lexeme, IsLongest, is_lexeme, is_blank}
use Rattle.ecd_cast.specs.Spelling.{IsSpelledProgram, program_lexemes, first_line}

-- some program begins with these lexemes
pub record Begins (before : List Lexeme) : Type 0 where
  pub program : Program
  pub spelled : IsSpelledProgram program
  pub more : List Lexeme
  pub lexemes : program_lexemes program ≡ before ++ more

-- no program has the lexeme at the front of the rest behind these; where the rest is empty, these are no program
abbrev pub NoneGoesOn : List Lexeme → List ℕ → Type 0
NoneGoesOn before [] = (p : Program) → IsSpelledProgram p → program_lexemes p ≡ before → ⊥
NoneGoesOn before (c ∷ cs) = (l after : List ℕ) → c ∷ cs ≡ l ++ after → is_lexeme l ≡ true → IsLongest l after → Begins (before ++ l ∷ []) → ⊥

-- the text is these lexemes in turn, each the longest at its place, with any blanks before each, then blanks, and then the rest
abbrev pub Reaches : List Lexeme → List ℕ → List ℕ → Type 0
Reaches [] rest text = (blanks : List ℕ) × (list_all is_blank blanks ≡ true) × (text ≡ blanks ++ rest)
Reaches (l ∷ ls) rest text = (blanks : List ℕ) × (behind : List ℕ) × (list_all is_blank blanks ≡ true) × (text ≡ blanks ++ (l ++ behind)) × IsLongest l behind × Reaches ls rest behind

abbrev pub begins_blank : List ℕ → Bool
begins_blank [] = false
begins_blank (c ∷ cs) = is_blank c

-- the first lexeme, or byte that begins no lexeme, that no program has after those before it; or the end, where the text ends too early
pub record IsFault (body rest : List ℕ) : Type 0 where
  pub before : List Lexeme
  pub reaches : Reaches before rest body
  pub clear : begins_blank rest ≡ false
  pub begins : Begins before
  pub ends : NoneGoesOn before rest

-- a text that does not begin with the first line
pub record NoFirstLine (text : List ℕ) (place : ℕ) : Type 0 where
  pub other : (body : List ℕ) → text ≡ first_line ++ body → ⊥
  pub first : place ≡ 0

-- a fault behind the first line
pub record FaultBehind (text : List ℕ) (place : ℕ) : Type 0 where
  pub body : List ℕ
  pub begins : text ≡ first_line ++ body
  pub rest : List ℕ
  pub fault : IsFault body rest
  pub stands : place + length rest ≡ length text

-- the first place at which the text is no spelling
abbrev pub FaultAt : List ℕ → ℕ → Type 0
FaultAt text place = NoFirstLine text place ⊎ FaultBehind text place
