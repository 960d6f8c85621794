use Rattle.ecd_cast.specs.ByName.{under}
use Rattle.ecd_cbuild.specs.Chains.{calls_in, variables_in}
use Rattle.ecd_cbuild.proofs.Heaviest.{max_of, chain-more, chain-If, chain-For}
use Rattle.ecd_cbuild.proofs.chains.+reach.Goals as goal

pub block_reach-loop-stmt-preserved : goal.block_reach-loop-stmt-preserved
block_reach-loop-stmt-preserved t c = record {
  calls_are =
      max_of c.max-reach.ensures.calls c.loop-stmt.invariant.calls_are c.in_ok-stmt_reach.ensures.calls
      (chain-more (λ g. calls_in (under c.args.reaches.now g)) c.args.body.now c.loop-stmt.stmt-index c.stmt-item.result c.loop-stmt-test.true c.stmt-item.is);
  variables_are =
      max_of c.max-reach.ensures.variables c.loop-stmt.invariant.variables_are c.in_ok-stmt_reach.ensures.variables
      (chain-more (λ g. variables_in (under c.args.reaches.now g)) c.args.body.now c.loop-stmt.stmt-index c.stmt-item.result c.loop-stmt-test.true c.stmt-item.is);
}

pub stmt_reach-returns-in_ok-second-in-If-clause-calls : goal.stmt_reach-returns-in_ok-second-in-If-clause-calls
stmt_reach-returns-in_ok-second-in-If-clause-calls t c =
    rw (c.in-If.is, chain-If, ← c.as_slice.ensures, ← c.as_slice-in-If.ensures, ← c.in_ok-first-in-If.ensures.calls, ← c.in_ok-second-in-If.ensures.calls) c.max.ensures.calls

pub stmt_reach-returns-in_ok-second-in-If-clause-variables : goal.stmt_reach-returns-in_ok-second-in-If-clause-variables
stmt_reach-returns-in_ok-second-in-If-clause-variables t c =
    rw (c.in-If.is, chain-If, ← c.as_slice.ensures, ← c.as_slice-in-If.ensures, ← c.in_ok-first-in-If.ensures.variables, ← c.in_ok-second-in-If.ensures.variables) c.max.ensures.variables

pub stmt_reach-returns-in_ok-reach-in-For-clause-calls : goal.stmt_reach-returns-in_ok-reach-in-For-clause-calls
stmt_reach-returns-in_ok-reach-in-For-clause-calls t c = rw (c.in-For.is, chain-For, ← c.as_slice-in-For.ensures) c.in_ok-reach-in-For.ensures.calls

pub stmt_reach-returns-in_ok-reach-in-For-clause-variables : goal.stmt_reach-returns-in_ok-reach-in-For-clause-variables
stmt_reach-returns-in_ok-reach-in-For-clause-variables t c = rw (c.in-For.is, chain-For, ← c.as_slice-in-For.ensures) c.in_ok-reach-in-For.ensures.variables
