-- How a call ended, and that words and contents decide it.
use Rattle.std.specs.Prelude.{◌≡◌, ℕ, Bool, List, Option, Some}
use Rattle.ecd_commands.specs.Asked.{Asked, ForAsked}
use Rattle.ecd_commands.specs.Outcomes.{Outcome, TooLarge, status_of, line_of}
use Rattle.ecd_commands.specs.Causes.{IsDecided, IsDue, IsAcceptedFor, StopsAt, TellsLine}
use Rattle.ecd_commands.specs.declared.status.Status.{Status}
use Rattle.ecd_outside.specs.Told.{Told}

-- the outcome behind a status: where it is a refusal that words and contents decide, it is due; and its line was told
pub record Ended (words : List (List ℕ)) (told : Told) (status : Status) (before now : Option (List ℕ)) (faults_before faults_now : ℕ) : Type 0 where
  pub outcome : Outcome
  pub status_is : status ≡ status_of outcome
  pub due : IsDecided outcome → ForAsked words (λ asked. IsDue told asked outcome)
  pub line : TellsLine (line_of outcome) before now faults_before faults_now

-- reading stopped at a file that is too large, and its line was told
pub record StopsAtNamed (told : Told) (asked : Asked) (begun : Bool) (left : Option (List ℕ)) (before now : Option (List ℕ)) (faults_before faults_now : ℕ) : Type 0 where
  pub name : List ℕ
  pub line : TellsLine (line_of (TooLarge name)) before now faults_before faults_now
  pub stops : StopsAt told asked begun left name

-- words and told contents ask for one refusal at most, and for none where they ask for a text
pub record OneIsDue : Type 0 where
  pub one : (contents : List ℕ → Option (List ℕ)) (asked : Asked) (one other : Outcome) → IsDue (Some contents) asked one → IsDue (Some contents) asked other → one ≡ other
  pub none : (contents : List ℕ → Option (List ℕ)) (asked : Asked) (one : Outcome) → IsDue (Some contents) asked one → IsAcceptedFor (Some contents) asked → ⊥
