use Rattle.std.proofs.Common.{arith, refl, ◌+◌, ◌*◌}
use Rattle.ecd_cprint.proofs.Joins.{line_gap}
use Rattle.ecd_cprint.proofs.layout.white_space.Goals as goal

pub returns-in-Line : goal.returns-in-Line
returns-in-Line c = line_gap c.args.text.now c.args.lexeme.now _ (1 + c.min.result * 4) (omega arith) refl
