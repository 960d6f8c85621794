-- The files of a command.
use Rattle.std.specs.Prelude.{◌≡◌, ◌≤◌, ◌+◌, ◌⊎◌, ℕ, List, [], ◌∷◌, Option, length, ⊤}
use Rattle.ecd_outside.specs.Told.{Told, IsContents, IsLonger, IsMissing, TakesAtMost, TakesExactly}
use Rattle.ecd_commands.specs.Asked.{Asked, SchemaAsked, check, compile, read, write, copy, run, sample}

-- a file that is read: its name, and the most bytes that it may have
pub record Wanted : Type 0 where
  pub name : List ℕ
  pub limit : ℕ

abbrev pub wanted : List ℕ → ℕ → Wanted
wanted name limit = record { name = name; limit = limit }

abbrev pub schema_wanted : SchemaAsked → Wanted
schema_wanted s = wanted s.file 262144

abbrev pub data_wanted : List ℕ → Wanted
data_wanted name = wanted name 16777216

abbrev pub c_wanted : List ℕ → Wanted
c_wanted name = wanted name 67108864

-- the files of a command, in the order in which they are read; none where the command is not built
abbrev pub files_of : Asked → List Wanted
files_of (check s) = schema_wanted s ∷ []
files_of (compile s) = schema_wanted s ∷ []
files_of (read s d) = schema_wanted s ∷ data_wanted d ∷ []
files_of (write s v cap) = []
files_of (copy s d cap) = []
files_of (run c f d steps) = c_wanted c ∷ data_wanted d ∷ []
files_of (sample n) = []

-- where contents are told, the bytes are those of the file, and no more than it may have
pub record IsRead (told : Told) (file : Wanted) (bytes : List ℕ) : Type 0 where
  pub contents : IsContents told file.name bytes
  pub within : length bytes ≤ file.limit

-- each file's bytes
abbrev pub AreRead : Told → List Wanted → List (List ℕ) → Type 0
AreRead told [] [] = ⊤
AreRead told [] (bytes ∷ more) = ⊥
AreRead told (f ∷ fs) [] = ⊥
AreRead told (f ∷ fs) (bytes ∷ more) = IsRead told f bytes × AreRead told fs more

-- the first file that is not read has more bytes than it may have, and it is that of the name
abbrev pub IsTooLarge : Told → List Wanted → List ℕ → Type 0
IsTooLarge told [] name = ⊥
IsTooLarge told (f ∷ fs) name = ((name ≡ f.name) × IsLonger told f.name f.limit) ⊎ ((bytes : List ℕ) × IsRead told f bytes × IsTooLarge told fs name)

-- contents are told, and the first file that is not read is not there
abbrev pub IsOneMissing : Told → List Wanted → Type 0
IsOneMissing told [] = ⊥
IsOneMissing told (f ∷ fs) = IsMissing told f.name ⊎ ((bytes : List ℕ) × IsRead told f bytes × IsOneMissing told fs)

-- of the file that was begun last at most one byte more was taken than it may have
abbrev pub TakesFew : Told → List Wanted → Option (List ℕ) → Type 0
TakesFew told [] left = ⊥
TakesFew told (f ∷ fs) left = TakesAtMost told f.name left (f.limit + 1) ⊎ TakesFew told fs left

-- the first file that is not read is that of the name, and one byte more was taken of it than it may have
abbrev pub TakesOneMore : Told → List Wanted → Option (List ℕ) → List ℕ → Type 0
TakesOneMore told [] left name = ⊥
TakesOneMore told (f ∷ fs) left name = ((name ≡ f.name) × TakesExactly told f.name left (f.limit + 1)) ⊎ ((bytes : List ℕ) × IsRead told f bytes × TakesOneMore told fs left name)
