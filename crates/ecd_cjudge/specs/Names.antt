-- Names that are taken in, and which of them are given twice.
use Rattle.std.specs.Prelude.{ℕ, ◌≡◌, List, [], ◌∷◌}
use Rattle.std.specs.BTreeSet.{BTreeSet}
use denote.Ref.{Bor}
use Rattle.ecd_first.specs.declared.first.First.{First}
use Rattle.ecd_cjudge.specs.declared.spot.Spot.{Spot}
use Rattle.ecd_cast.specs.Memory.{Name}
use Rattle.ecd_cast.specs.Validity.{Naming, twice, is_among}
use Rattle.ecd_cjudge.specs.Faults.{SeesAll}
use Rattle.ecd_cast.specs.ByName.{has}

-- the names that are there behind more of them
abbrev pub names_after : List Naming → List Name → List Name
names_after [] names = names
names_after (n ∷ ns) names = names_after ns (n.name ∷ names)

-- the set has exactly the names of the list
pub record Holds (set : BTreeSet (Bor (List ℕ))) (names : List Name) : Type 0 where
  pub has_them : (x : Name) → has set x ≡ is_among names x

-- the names have been taken in, and what they break, whatever list it is whose names were there
pub record Named (set : BTreeSet (Bor (List ℕ))) (first : First Spot) (set' : BTreeSet (Bor (List ℕ))) (first' : First Spot) (namings : List Naming) : Type 0 where
  pub sees : (names : List Name) → Holds set names → SeesAll first first' (twice names namings)
  pub there : (names : List Name) → Holds set names → Holds set' (names_after namings names)
