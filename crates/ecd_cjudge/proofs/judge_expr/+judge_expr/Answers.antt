use Rattle.ecd_cast.proofs.KindLayers.{broken-Load, broken-Binary, broken-Not, kind-Binary}
use Rattle.ecd_cjudge.proofs.Taking.{finds_then}
use Rattle.ecd_cjudge.proofs.judge_expr.+judge_expr.Goals as goal

pub returns-in_ok-kind-in-Load-clause-faults : goal.returns-in_ok-kind-in-Load-clause-faults
returns-in_ok-kind-in-Load-clause-faults t c =
    rw (c.in-Load.is, broken-Load, ← c.as_slice-in-Load.ensures, ← c.get.ensures, ← c.in_ok-kind-in-Load.ensures.kind, ← c.takes.ensures)
    (finds_then (finds_then c.judge_pointer.ensures c.in_ok-kind-in-Load.ensures.faults) c.unless.ensures)

pub returns-in_ok-right-in-Binary-clause-faults : goal.returns-in_ok-right-in-Binary-clause-faults
returns-in_ok-right-in-Binary-clause-faults t c =
    rw (c.in-Binary.is, broken-Binary, ← c.get-in-Binary.ensures, ← c.get-in-Binary-2.ensures, ← c.in_ok-left-in-Binary.ensures.kind, ← c.in_ok-right-in-Binary.ensures.kind, ← c.fit.ensures)
    (finds_then (finds_then c.in_ok-left-in-Binary.ensures.faults c.in_ok-right-in-Binary.ensures.faults) c.unless-in-Binary.ensures)

pub returns-in_ok-right-in-Binary-clause-kind : goal.returns-in_ok-right-in-Binary-clause-kind
returns-in_ok-right-in-Binary-clause-kind t c =
    rw (c.in-Binary.is, kind-Binary, ← c.get-in-Binary.ensures, ← c.in_ok-left-in-Binary.ensures.kind) c.of_result.ensures

pub returns-in_ok-kind-in-Not-clause-faults : goal.returns-in_ok-kind-in-Not-clause-faults
returns-in_ok-kind-in-Not-clause-faults t c =
    rw (c.in-Not.is, broken-Not, ← c.get-in-Not.ensures, ← c.in_ok-kind-in-Not.ensures.kind, ← c.takes-in-Not.ensures)
    (finds_then c.in_ok-kind-in-Not.ensures.faults c.unless-in-Not.ensures)
