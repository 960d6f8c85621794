use Rattle.std.proofs.Common.{take, ◌≡◌, ◌∙◌, sym, ap, arith, ◌+◌, ◌∷◌}
use Rattle.ecd_cjudge.specs.Faults.{place_as}
use Rattle.ecd_cast.specs.Kinds.{ANumber}
use Rattle.ecd_cast.specs.Meaning.{count_all}
use Rattle.ecd_cast.specs.Validity.{known_after, at_place, own_rules, block_faults, in_loop}
use Rattle.ecd_cscope.specs.Surroundings.{around_as}
use Rattle.ecd_cscope.proofs.Known.{left_block}
use Rattle.ecd_cjudge.proofs.Taking.{all_then, all_same}
use Rattle.ecd_cjudge.proofs.StmtLayers.{faults-If, faults-For, count-If, count-For, count-more, behind-more, sees_more}
use Rattle.ecd_cjudge.proofs.judge_stmt.+statements.Goals as goal

pub judge_block-loop-stmt-preserved : goal.judge_block-loop-stmt-preserved
judge_block-loop-stmt-preserved t c =
    let xs = c.args.stmts.now in
    let i = c.loop-stmt.stmt-index in
    let s = c.stmt-item.result in
    let inv = c.loop-stmt.invariant in
    let count = count-more xs i s c.loop-stmt-test.true c.stmt-item.is in
    let loops = ap (around_as c.args.around.now) inv.loops in
    record {
      counts = omega (arith, count, inv.counts, c.in_ok-statement.ensures.next);
      sees =
          sees_more xs i s c.loop-stmt-test.true c.stmt-item.is (around_as c.args.around.now c.args.scope.now.loops) _ c.args.scope.now.known _ (place_as c.args.spot) _ inv.sees c.in_ok-statement.ensures.faults loops inv.known
          (λ j. record { item = c.args.spot.item; statement = inv.counts j });
      known = c.in_ok-statement.ensures.known ∙ (ap (known_after s) inv.known ∙ sym (behind-more xs i s c.loop-stmt-test.true c.stmt-item.is c.args.scope.now.known));
      loops = c.in_ok-statement.ensures.loops ∙ inv.loops;
    }

pub judge_block-returns-clause-known : goal.judge_block-returns-clause-known
judge_block-returns-clause-known t c = left_block (take c.loop-stmt.stmt-index c.args.stmts.now) c.args.scope.now.known c.loop-stmt.scope.known c.leave.new.self c.len-outer.result c.len-outer.ensures c.loop-stmt.invariant.known c.in_ok-leave.ensures

pub judge_stmt-returns-in_ok-next-in-If-clause-faults : goal.judge_stmt-returns-in_ok-next-in-If-clause-faults
judge_stmt-returns-in_ok-next-in-If-clause-faults t c =
    let a = c.args.around.now in
    let loops = c.args.scope.now.loops in
    let known = c.args.scope.now.known in
    let first : c.in_ok-inner.inner ≡ c.args.spot.statement + 1 = grind arith in
    let second : c.in_ok-behind-in-If.behind ≡ c.args.spot.statement + (1 + count_all c.in-If.yes) =
    omega (arith, first, c.in_ok-behind-in-If.ensures.next, ap count_all c.as_slice-in-If.ensures) in
    let own = all_same (λ j. at_place (place_as c.args.spot) (own_rules (around_as a loops) known (c.in-If.is j))) c.in_ok-judge_own.ensures.sees in
    let yes = all_same (λ j. block_faults (around_as a loops) known (c.as_slice-in-If.ensures j) (record { item = c.args.spot.item; statement = first j })) c.in_ok-behind-in-If.ensures.faults in
    let no = all_same (λ j. block_faults (around_as a (c.in_ok-behind-in-If.ensures.loops j)) (c.in_ok-behind-in-If.ensures.known j) (c.as_slice-in-If-2.ensures j) (record { item = c.args.spot.item; statement = second j })) c.in_ok-next-in-If.ensures.faults in
    rw (c.in-If.is, faults-If) (all_then (all_then own yes) no)

pub judge_stmt-returns-in_ok-next-in-If-clause-next : goal.judge_stmt-returns-in_ok-next-in-If-clause-next
judge_stmt-returns-in_ok-next-in-If-clause-next t c =
    let first : c.in_ok-inner.inner ≡ c.args.spot.statement + 1 = grind arith in
    let yes = c.in_ok-behind-in-If.ensures.next in
    let no = c.in_ok-next-in-If.ensures.next in
    rw (c.in-If.is, count-If) (omega (arith, first, yes, no, ap count_all c.as_slice-in-If.ensures, ap count_all c.as_slice-in-If-2.ensures))

pub judge_stmt-returns-in_ok-leave-in-For-2-clause-faults : goal.judge_stmt-returns-in_ok-leave-in-For-2-clause-faults
judge_stmt-returns-in_ok-leave-in-For-2-clause-faults t c =
    let a = c.args.around.now in
    let loops = c.args.scope.now.loops in
    let known = c.args.scope.now.known in
    let first : c.in_ok-inner.inner ≡ c.args.spot.statement + 1 = grind arith in
    let own = all_same (λ j. at_place (place_as c.args.spot) (own_rules (around_as a loops) known (c.in-For.is j))) c.in_ok-judge_own.ensures.sees in
    let around = ap (around_as a) c.in_ok-enter-in-For.ensures.loops ∙ (λ j. in_loop (around_as a loops) (c.as_slice-in-For.ensures j) (c.as_slice-in-For-2.ensures j)) in
    let variables = c.in_ok-enter-in-For.ensures.known ∙ (λ j. (c.as_slice-in-For.ensures j, ANumber) ∷ known) in
    let body = all_same (λ j. block_faults (around j) (variables j) (c.as_slice-in-For-3.ensures j) (record { item = c.args.spot.item; statement = first j })) c.in_ok-next-in-For.ensures.faults in
    rw (c.in-For.is, faults-For) (all_then own body)

pub judge_stmt-returns-in_ok-leave-in-For-2-clause-next : goal.judge_stmt-returns-in_ok-leave-in-For-2-clause-next
judge_stmt-returns-in_ok-leave-in-For-2-clause-next t c =
    let first : c.in_ok-inner.inner ≡ c.args.spot.statement + 1 = grind arith in
    let body = c.in_ok-next-in-For.ensures.next in
    rw (c.in-For.is, count-For) (omega (arith, first, body, ap count_all c.as_slice-in-For-3.ensures))
