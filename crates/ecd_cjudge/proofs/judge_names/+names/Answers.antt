use Rattle.std.proofs.Common.{◌≡◌, sym, ap, arith, ◌+◌, ◌∷◌, []}
use Rattle.ecd_cast.specs.Memory.{Name}
use Rattle.ecd_cast.specs.Meaning.{count_all}
use Rattle.ecd_cast.specs.Validity.{Naming, named_in, named_by}
use Rattle.ecd_cjudge.specs.Faults.{place_as}
use Rattle.ecd_cjudge.proofs.StmtLayers.{count-If, count-For, count-more}
use Rattle.ecd_cjudge.proofs.NameLayers.{named_then, named_same, named-If, named-For, named-more}
use Rattle.ecd_cjudge.proofs.judge_names.+names.Goals as goal

pub name_block-loop-stmt-preserved : goal.name_block-loop-stmt-preserved
name_block-loop-stmt-preserved t c =
    let xs = c.args.stmts.now in
    let i = c.loop-stmt.stmt-index in
    let s = c.stmt-item.result in
    let inv = c.loop-stmt.invariant in
    let count = count-more xs i s c.loop-stmt-test.true c.stmt-item.is in
    record {
      counts = omega (arith, count, inv.counts, c.in_ok-statement.ensures.next);
      named = named_same (sym (named-more xs i s c.loop-stmt-test.true c.stmt-item.is (place_as c.args.spot))) (named_then inv.named (named_same (λ j. named_by s (record { item = c.args.spot.item; statement = inv.counts j })) c.in_ok-statement.ensures.named));
    }

pub name_stmt-returns-in_ok-next-in-If-clause-named : goal.name_stmt-returns-in_ok-next-in-If-clause-named
name_stmt-returns-in_ok-next-in-If-clause-named t c =
    let first : c.in_ok-inner.inner ≡ c.args.spot.statement + 1 = grind arith in
    let second : c.in_ok-behind-in-If.behind ≡ c.args.spot.statement + (1 + count_all c.in-If.yes) = omega (arith, first, c.in_ok-behind-in-If.ensures.next, ap count_all c.as_slice-in-If.ensures) in
    let yes = named_same (λ j. named_in (c.as_slice-in-If.ensures j) (record { item = c.args.spot.item; statement = first j })) c.in_ok-behind-in-If.ensures.named in
    let no = named_same (λ j. named_in (c.as_slice-in-If-2.ensures j) (record { item = c.args.spot.item; statement = second j })) c.in_ok-next-in-If.ensures.named in
    rw (c.in-If.is, named-If) (named_then yes no)

pub name_stmt-returns-in_ok-next-in-If-clause-next : goal.name_stmt-returns-in_ok-next-in-If-clause-next
name_stmt-returns-in_ok-next-in-If-clause-next t c =
    let first : c.in_ok-inner.inner ≡ c.args.spot.statement + 1 = grind arith in
    let yes = c.in_ok-behind-in-If.ensures.next in
    let no = c.in_ok-next-in-If.ensures.next in
    rw (c.in-If.is, count-If) (omega (arith, first, yes, no, ap count_all c.as_slice-in-If.ensures, ap count_all c.as_slice-in-If-2.ensures))

pub name_stmt-returns-in_ok-next-in-For-clause-named : goal.name_stmt-returns-in_ok-next-in-For-clause-named
name_stmt-returns-in_ok-next-in-For-clause-named t c =
    let first : c.in_ok-inner.inner ≡ c.args.spot.statement + 1 = grind arith in
    let one = ap (λ (x : Name). let n : Naming = record { name = x; place = place_as c.args.spot } in n ∷ []) c.as_slice-in-For.ensures in
    let body = named_same (λ j. named_in (c.as_slice-in-For-2.ensures j) (record { item = c.args.spot.item; statement = first j })) c.in_ok-next-in-For.ensures.named in
    rw (c.in-For.is, named-For) (named_then (named_same one c.in_ok-name_one-in-For.ensures) body)

pub name_stmt-returns-in_ok-next-in-For-clause-next : goal.name_stmt-returns-in_ok-next-in-For-clause-next
name_stmt-returns-in_ok-next-in-For-clause-next t c =
    let first : c.in_ok-inner.inner ≡ c.args.spot.statement + 1 = grind arith in
    let body = c.in_ok-next-in-For.ensures.next in
    rw (c.in-For.is, count-For) (omega (arith, first, body, ap count_all c.as_slice-in-For-2.ensures))
