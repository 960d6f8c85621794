use Rattle.std.proofs.Common.{◌∙◌, subst}
use Rattle.ecd_cast.specs.Memory.{Name}
use Rattle.ecd_cast.specs.Kinds.{args_fit}
use Rattle.ecd_cscope.specs.Surroundings.{structs_before, IsFound}
use Rattle.ecd_cjudge.proofs.Args.{call-found}
use Rattle.ecd_cjudge.proofs.Taking.{finds_then, finds_same}
use Rattle.ecd_cjudge.proofs.judge_source.judge_source.Goals as goal

pub returns-in_ok-fit-in-Call : goal.returns-in_ok-fit-in-Call
returns-in_ok-fit-in-Call c =
    let around = c.args.scene.now.around.now in
    let known = c.args.scene.now.known.now in
    let found = subst (λ (g : Name). IsFound around g c.function-found.result) c.as_slice.ensures c.function-found.ensures in
    let fit = c.in_ok-fit-in-Call.ensures.fit ∙ (λ i. args_fit (structs_before around) known (c.params_of.ensures i) (c.as_slice-in-Call.ensures i)) in
    let call = call-found around c.args.scene.now.loops.now known c.in-Call.args c.in-Call.name c.function-found.result c.in_ok-fit-in-Call.fit found fit in
    rw (c.in-Call.is, ← c.takes.ensures, ← c.as_slice-in-Call.ensures) (finds_then (finds_then c.in_ok-fit-in-Call.ensures.faults (rw c.as_slice-in-Call.ensures (finds_same call c.judge_called.ensures))) c.unless.ensures)
