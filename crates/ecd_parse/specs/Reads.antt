-- What the functions of the parser give, against reading.
use Rattle.std.specs.Prelude.{◌≡◌, ℕ, List, [], drop, Option, Some, None, Result, Ok, Err}
use Rattle.ecd_syntax.specs.Marks.{Mark}
use Rattle.ecd_syntax.specs.Reading.{Taken, Halted, Stuck, Reader}
use Rattle.ecd_parse.specs.declared.cursor.Halt.{Halt}
use Rattle.ecd_parse.specs.declared.cursor.Halt.TheVariants as halts

-- a value, and the marks from a place on
abbrev pub seen : {A : Type 0} → List Mark → A × ℕ → Taken A
seen ms x = record { value = x.0; rest = drop x.1 ms }

abbrev pub seen_if : {A : Type 0} → List Mark → Option (A × ℕ) → Option (Taken A)
seen_if ms None = None
seen_if ms (Some x) = Some (seen ms x)

abbrev pub passed : List Mark → Option ℕ → Option (Taken (Unit {0}))
passed ms None = None
passed ms (Some end) = Some record { value = tt; rest = drop end ms }

abbrev pub Fails : {A : Type 0} → List Mark → Halt → Result (Taken A) Halted → Type 0
Fails ms halts.OutOfMemory read = Unit {0}
Fails ms (halts.Unexpected at) read = read ≡ Err (Stuck (drop at ms))

-- what is returned is what reading gives, unless memory runs out
abbrev pub Gives : {A : Type 0} → List Mark → Result (A × ℕ) Halt → Result (Taken A) Halted → Type 0
Gives ms (Ok x) read = read ≡ Ok (seen ms x)
Gives ms (Err e) read = Fails ms e read

abbrev pub Passes : List Mark → Result ℕ Halt → Result (Taken (Unit {0})) Halted → Type 0
Passes ms (Ok end) read = read ≡ Ok record { value = tt; rest = drop end ms }
Passes ms (Err e) read = Fails ms e read

-- what is returned is what reading gives, with no mark left behind it
abbrev pub GivesAll : {A : Type 0} → List Mark → Result A Halt → Result (Taken A) Halted → Type 0
GivesAll ms (Ok x) read = read ≡ Ok record { value = x; rest = [] }
GivesAll ms (Err e) read = Fails ms e read

-- what is returned leads to the rest of what reading gives, unless memory runs out
abbrev pub Leads : {A B : Type 0} → List Mark → Result (A × ℕ) Halt → (A → Reader B) → Result (Taken B) Halted → Type 0
Leads ms (Ok x) next read = read ≡ next x.0 (drop x.1 ms)
Leads ms (Err e) next read = Fails ms e read

-- the same, or reading gives the other
abbrev pub LeadsOr : {A B : Type 0} → List Mark → Result (Option (A × ℕ)) Halt → (A → Reader B) → Result (Taken B) Halted → Result (Taken B) Halted → Type 0
LeadsOr ms (Ok None) next other read = read ≡ other
LeadsOr ms (Ok (Some x)) next other read = read ≡ next x.0 (drop x.1 ms)
LeadsOr ms (Err e) next other read = Fails ms e read
