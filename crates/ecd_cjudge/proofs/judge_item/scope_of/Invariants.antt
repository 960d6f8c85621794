use Rattle.std.proofs.Common.{◌≡◌, drop, []}
use Rattle.ecd_cast.specs.Validity.{params_known}
use Rattle.ecd_cjudge.proofs.judge_item.scope_of.Given as goal

abbrev pub invariant-loop-number : goal.invariant-loop-number
invariant-loop-number l = record {
  known : l.scope.known ≡ params_known (drop l.number l.params);
  loops : l.scope.loops ≡ [];
}
