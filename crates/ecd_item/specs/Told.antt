-- What the answers of reading tell.
use Rattle.std.specs.Prelude.{◌≡◌, ℕ, ◌⊎◌, List, drop, Result, Ok, Err}
use Rattle.ecd_keyorder.specs.declared.Order.{Order}
use Rattle.ecd_item_laws.specs.declared.fault.Cause.{Cause}
use Rattle.ecd_item_laws.specs.declared.fault.Fault.{Fault}
use Rattle.ecd_item_laws.specs.FirstFault.{IsFirstFault, number_of}
use Rattle.ecd_item_laws.specs.Reading.{Taken}
use Rattle.ecd_item.specs.declared.fault.Stop.{Stop}
use Rattle.ecd_item.specs.declared.fault.Stop.TheVariants as stop
use Rattle.ecd_item.specs.declared.fault.ItemFault.{ItemFault}
use Rattle.ecd_item.specs.declared.fault.ItemFault.TheVariants as f

-- What a caller is told of why reading stopped.
abbrev pub told_as : Stop → ItemFault
told_as stop.Memory = f.OutOfMemory
told_as (stop.Fault fault) = f.At fault.place (number_of fault.cause)

-- What was read, or what a caller is told.
abbrev pub told_result : {A : Type 0} → Result A Stop → Result A ItemFault
told_result (Ok x) = Ok x
told_result (Err s) = Err (told_as s)

-- What a function returned, seen by view, is what reading gives, unless memory ran out.
abbrev pub Fails : {Y : Type 0} → Stop → Result Y Fault → Type 0
Fails stop.Memory read = Unit {0}
Fails (stop.Fault f) read = read ≡ Err f

abbrev pub Gives : {X Y : Type 0} → (X → Y) → Result X Stop → Result Y Fault → Type 0
Gives view (Ok x) read = read ≡ Ok (view x)
Gives view (Err e) read = Fails e read

-- A value that ends at a place, and the bytes from there on.
abbrev pub seen : {A : Type 0} → List ℕ → A × ℕ → Taken A
seen bytes x = record { value = x.0; at = x.1; rest = drop x.1 bytes }

-- A fault that is answered is the first one; want of memory may stand in its place.
abbrev pub TellsFirstFault : Order → ℕ → ℕ → List ℕ → ItemFault → Type 0
TellsFirstFault order deepest at bytes f.OutOfMemory = Unit {0}
TellsFirstFault order deepest at bytes (f.At place number) = (cause : Cause) × (number ≡ number_of cause) × IsFirstFault order deepest at bytes place cause

-- The call answers this, or that memory ran out.
abbrev pub Answers : {A : Type 0} → Result A ItemFault → Result A ItemFault → Type 0
Answers result answer = (result ≡ answer) ⊎ (result ≡ Err f.OutOfMemory)
