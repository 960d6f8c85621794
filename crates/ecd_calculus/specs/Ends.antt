-- How a run ends, what it writes, and the most steps that it takes.
use Rattle.std.specs.Prelude.{ℕ, ◌≡◌, ◌≤◌, List, []}
use Rattle.ecd_cast.specs.Memory.{Event, writes_of, steps_of}
use Rattle.ecd_cast.specs.Expressions.{Scopes}
use Rattle.ecd_cast.specs.Meaning.{Run, Falls, Returns}

-- the two ends of a run that is not stuck
pub data End : Type 0 where
  Behind : Scopes → End
  With : ℕ → End

abbrev pub run_to : End → List Event → Run
run_to (Behind env) es = Falls env es
run_to (With n) es = Returns n es

-- the run ends so, writes exactly these, and takes at most so many steps
pub record Ends (r : Run) (e : End) (writes : List Event) (most : ℕ) : Type 0 where
  pub events : List Event
  pub is : r ≡ run_to e events
  pub wrote : writes_of events ≡ writes
  pub short : steps_of events ≤ most

-- the run returns n, writes exactly these, and takes at most so many steps
abbrev pub Does : Run → ℕ → List Event → ℕ → Type 0
Does r n writes most = Ends r (With n) writes most

-- the run returns a number with P, writes nothing, and takes at most so many steps
pub record Answers (r : Run) (P : ℕ → Type 0) (most : ℕ) : Type 0 where
  pub answer : ℕ
  pub does : Does r answer [] most
  pub has : P answer
