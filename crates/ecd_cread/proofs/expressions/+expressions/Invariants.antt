use Rattle.std.proofs.Common.{◌+◌, ◌*◌}
use Rattle.ecd_cread.proofs.expressions.+expressions.Given as goal

abbrev pub decreases-read_expr : goal.decreases-read_expr
decreases-read_expr l = 4 * l.levels + 0

abbrev pub decreases-read_load : goal.decreases-read_load
decreases-read_load l = 4 * l.levels + 1

abbrev pub decreases-read_not : goal.decreases-read_not
decreases-read_not l = 4 * l.levels + 1

abbrev pub decreases-read_binary : goal.decreases-read_binary
decreases-read_binary l = 4 * l.levels + 1

abbrev pub decreases-read_behind_open : goal.decreases-read_behind_open
decreases-read_behind_open l = 4 * l.levels + 2
