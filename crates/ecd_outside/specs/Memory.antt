-- Files and a sink that are held in memory, and the calls of theirs that are to fail.
use Rattle.std.specs.Prelude.{ℕ, ◌-◌, min, List, [], length, drop, Option, Contains, find, slice_get, unwrap_or}
use Rattle.std.specs.Option.{option_map}
use Rattle.std.specs.Str.{bytes_eq}
use Rattle.ecd_outside.specs.Causes.{raised}
use Rattle.ecd_outside.specs.declared.plan.CallPlan.{CallPlan}
use Rattle.ecd_outside.specs.declared.stored.StoredFile.{StoredFile}

-- the contents of the first file of that name
abbrev pub contents_in : List StoredFile → List ℕ → Option (List ℕ)
contents_in files name = option_map (λ (file : StoredFile). file.contents) (find (λ (file : StoredFile). bytes_eq file.name name) files)

-- the next call is one of those that are to fail
abbrev pub IsToFail : CallPlan → Type 0
IsToFail plan = Contains plan.fails plan.calls

-- one more call was counted, and no fault
abbrev pub counted : CallPlan → CallPlan
counted plan = record plan { calls = raised plan.calls }

-- one more call was counted, and one more fault
abbrev pub failed : CallPlan → CallPlan
failed plan = record plan { calls = raised plan.calls; faults = raised plan.faults }

-- files in memory, the plan of their calls, and the bytes left of the file begun last, where one is begun
pub record FilesShown : Type 0 where
  pub files : List StoredFile
  pub plan : CallPlan
  pub left : Option (List ℕ)

-- the bytes written, how many there may be, and the plan of the calls
pub record SinkShown : Type 0 where
  pub written : List ℕ
  pub room : ℕ
  pub plan : CallPlan

-- the contents of the file of that number, from 0, without their first bytes
abbrev pub left_at : List StoredFile → ℕ → ℕ → List ℕ
left_at files number taken = drop taken (unwrap_or (option_map (λ (file : StoredFile). file.contents) (slice_get files number)) [])

-- the bytes left, or none where no file is begun
abbrev pub left_bytes : FilesShown → List ℕ
left_bytes shown = unwrap_or shown.left []

-- how many bytes a read gives: as many as have room and are left
abbrev pub read_count : FilesShown → List ℕ → ℕ
read_count shown into = min (length into) (length (left_bytes shown))

-- how many bytes a put takes: as many as still fit
abbrev pub put_count : SinkShown → List ℕ → ℕ
put_count shown piece = min (length piece) (shown.room - length shown.written)
