use Rattle.std.proofs.Common.{◌≡◌, ◌+◌, take}
use Rattle.ecd_cast.specs.Meaning.{count_all}
use Rattle.ecd_cast.specs.Validity.{named_in}
use Rattle.ecd_cjudge.specs.Faults.{place_as}
use Rattle.ecd_cjudge.specs.Names.{Named}
use Rattle.ecd_cjudge.proofs.judge_names.+names.Given as goal

abbrev pub invariant-name_block-loop-stmt : goal.invariant-name_block-loop-stmt
invariant-name_block-loop-stmt l = record {
  counts : l.statement ≡ l.spot.statement + count_all (take l.stmt-index l.stmts);
  named : Named l.initial.names l.initial.first l.names l.first (named_in (take l.stmt-index l.stmts) (place_as l.spot));
}
