-- The faults that are met, as the judge takes them in.
use Rattle.std.specs.Prelude.{ℕ, List, Contains}
use Rattle.ecd_first.specs.declared.first.First.{First}
use Rattle.ecd_first.specs.Firsts.{Rank, Faults, Sees}
use Rattle.ecd_cast.specs.Meaning.{Place}
use Rattle.ecd_cast.specs.Validity.{Fault, at_place}
use Rattle.ecd_cjudge.specs.declared.spot.Spot.{Spot}

-- where a spot stands: by item, then by statement
abbrev pub spot_rank : Spot → Rank
spot_rank s = record { major = s.item; minor = s.statement }

abbrev pub place_as : Spot → Place
place_as s = record { item = s.item; statement = s.statement }

-- the faults of a list
abbrev pub Among : List Fault → Faults Spot
Among faults spot rule = Contains faults (record { rule = rule; item = spot.item; statement = spot.statement })

-- the faults of a list have been taken in
pub record SeesAll (old new : First Spot) (faults : List Fault) : Type 0 where
  pub seen : Sees spot_rank old.broken new.broken (Among faults)

-- the rules that are broken at a place have been taken in
pub record Finds (old new : First Spot) (p : Place) (rules : List ℕ) : Type 0 where
  pub sees : SeesAll old new (at_place p rules)
