use Rattle.std.proofs.Common.{take}
use Rattle.std.specs.Prelude.{flat_map}
use Rattle.ecd_cprint.specs.Layout.{Grows}
use Rattle.ecd_cast.specs.Spelling.{cell_lexemes}
use Rattle.ecd_cprint.proofs.items.print_cells.Given as goal

abbrev pub invariant-loop-cell : goal.invariant-loop-cell
invariant-loop-cell l = Grows l.initial.out.text.items l.out.text.items (flat_map cell_lexemes (take l.cell-index l.cells))
