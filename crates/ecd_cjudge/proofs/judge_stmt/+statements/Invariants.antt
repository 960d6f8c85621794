use Rattle.std.proofs.Common.{◌≡◌, ◌+◌, take}
use Rattle.ecd_cast.specs.Meaning.{count_all}
use Rattle.ecd_cast.specs.Validity.{block_faults}
use Rattle.ecd_cjudge.specs.Faults.{SeesAll, place_as}
use Rattle.ecd_cscope.specs.Surroundings.{around_as, known_behind}
use Rattle.ecd_cjudge.proofs.judge_stmt.+statements.Given as goal

abbrev pub invariant-judge_block-loop-stmt : goal.invariant-judge_block-loop-stmt
invariant-judge_block-loop-stmt l = record {
  counts : l.statement ≡ l.spot.statement + count_all (take l.stmt-index l.stmts);
  sees : SeesAll l.initial.first l.first (block_faults (around_as l.around l.initial.scope.loops) l.initial.scope.known (take l.stmt-index l.stmts) (place_as l.spot));
  known : l.scope.known ≡ known_behind (take l.stmt-index l.stmts) l.initial.scope.known;
  loops : l.scope.loops ≡ l.initial.scope.loops;
}
