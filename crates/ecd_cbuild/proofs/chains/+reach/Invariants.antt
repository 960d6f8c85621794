use Rattle.std.proofs.Common.{◌≡◌, take}
use Rattle.ecd_cast.specs.Validity.{block_chain}
use Rattle.ecd_cast.specs.ByName.{under}
use Rattle.ecd_cbuild.specs.Chains.{calls_in, variables_in}
use Rattle.ecd_cbuild.proofs.chains.+reach.Given as goal

abbrev pub invariant-block_reach-loop-stmt : goal.invariant-block_reach-loop-stmt
invariant-block_reach-loop-stmt l = record {
  calls_are : l.reach.calls ≡ block_chain (λ g. calls_in (under l.reaches g)) (take l.stmt-index l.body);
  variables_are : l.reach.variables ≡ block_chain (λ g. variables_in (under l.reaches g)) (take l.stmt-index l.body);
}
