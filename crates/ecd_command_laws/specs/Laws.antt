-- The table of commands has no hole.
use Rattle.std.specs.Prelude.{ℕ, ◌⊎◌, List, Option, Some}
use Rattle.ecd_commands.specs.Asked.{Asked}
use Rattle.ecd_commands.specs.Files.{files_of, IsOneMissing}
use Rattle.ecd_commands.specs.Outcomes.{Outcome}
use Rattle.ecd_commands.specs.Causes.{IsDue, IsAcceptedFor, IsDecided}

-- where contents are told: the first file of a command that is not read is missing, or a refusal is due, or the command is accepted
abbrev pub CommandsEnd : Type 0
CommandsEnd = (contents : List ℕ → Option (List ℕ)) (asked : Asked) →
    IsOneMissing (Some contents) (files_of asked)
    ⊎ (((outcome : Outcome) × IsDecided outcome × IsDue (Some contents) asked outcome) ⊎ IsAcceptedFor (Some contents) asked)
