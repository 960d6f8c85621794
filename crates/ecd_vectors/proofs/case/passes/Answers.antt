use Rattle.std.proofs.Common.{refl, subst}
use Rattle.ecd_vectors.proofs.Judging.{judged, no_schema}
use Rattle.ecd_vectors.specs.Steps.{IsDecoded, IsOfCase}
use Rattle.ecd_vectors.proofs.case.passes.Goals as goal

pub returns-in_default-2 : goal.returns-in_default-2
returns-in_default-2 c = no_schema c.args.case.now (subst (λ found. IsOfCase c.args.case.now found) c.in_default-2.is c.in_ok-compiled.ensures)

pub returns : goal.returns
returns c =
    let within = c.if-not-is_within.ensures.0 refl in
    let digits = subst (λ found. IsDecoded c.args.case.now.bytes.now found) c.in-Some.is c.in_ok-bytes.ensures.bytes in
    let compiled = subst (λ found. IsOfCase c.args.case.now found) c.in-Some-2.is c.in_ok-compiled.ensures in
    judged c.args.case.now c.in-Some.bytes.items c.in-Some-2.compiled.text c.in-Some-2.compiled.program c.in_ok-taken.taken within digits compiled
    (rw c.as_slice.ensures.value at c.in_ok-taken.ensures compiled.number compiled.reads)
