-- What the functions of the reader give, against reading.
use Rattle.std.specs.Prelude.{◌≡◌, ℕ, List, [], drop, Option, Some, None, Result, Ok, Err}
use Rattle.ecd_cast.specs.Lexemes.{Lexeme}
use Rattle.ecd_cgrammar.specs.Reading.{Taken, Halted, Stuck}
use Rattle.ecd_cread.specs.declared.cursor.Halt.{Halt}
use Rattle.ecd_cread.specs.declared.cursor.Halt.TheVariants as halts

-- a value, and the lexemes from a number on
abbrev pub seen : {A : Type 0} → List Lexeme → A × ℕ → Taken A
seen ms x = record { value = x.0; rest = drop x.1 ms }

abbrev pub seen_if : {A : Type 0} → List Lexeme → Option (A × ℕ) → Option (Taken A)
seen_if ms None = None
seen_if ms (Some x) = Some (seen ms x)

abbrev pub passed : List Lexeme → Option ℕ → Option (Taken (Unit {0}))
passed ms None = None
passed ms (Some end) = Some record { value = tt; rest = drop end ms }

abbrev pub Fails : {A : Type 0} → List Lexeme → Halt → Result (Taken A) Halted → Type 0
Fails ms halts.OutOfMemory read = Unit {0}
Fails ms (halts.Unexpected at) read = read ≡ Err (Stuck (drop at ms))

-- what is returned is what reading gives, unless memory runs out
abbrev pub Gives : {A : Type 0} → List Lexeme → Result (A × ℕ) Halt → Result (Taken A) Halted → Type 0
Gives ms (Ok x) read = read ≡ Ok (seen ms x)
Gives ms (Err e) read = Fails ms e read

abbrev pub Passes : List Lexeme → Result ℕ Halt → Result (Taken (Unit {0})) Halted → Type 0
Passes ms (Ok end) read = read ≡ Ok record { value = tt; rest = drop end ms }
Passes ms (Err e) read = Fails ms e read

-- what is returned is what reading gives, with no lexeme left behind it
abbrev pub GivesAll : {A : Type 0} → List Lexeme → Result A Halt → Result (Taken A) Halted → Type 0
GivesAll ms (Ok x) read = read ≡ Ok record { value = x; rest = [] }
GivesAll ms (Err e) read = Fails ms e read
