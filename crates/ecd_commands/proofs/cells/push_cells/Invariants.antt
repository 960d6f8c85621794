use Rattle.std.proofs.Common.{◌≡◌, ◌++◌, length}
use Rattle.std.specs.Prelude.{flat_map}
use Rattle.ecd_ceval.specs.Blocks.{named}
use Rattle.ecd_commands.specs.Calls.{cell_line}
use Rattle.ecd_commands.proofs.cells.push_cells.Given as goal

abbrev pub invariant-loop-infos : goal.invariant-loop-infos
invariant-loop-infos l = l.text.items ++ flat_map cell_line (named l.infos l.cells) ≡ l.fn.text.items ++ flat_map cell_line (named l.fn.infos l.fn.cells)

abbrev pub decreases-loop-infos : goal.decreases-loop-infos
decreases-loop-infos l = length l.infos
