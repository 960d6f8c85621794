use Rattle.ecd_judge.specs.Request.{request}
use Rattle.ecd_compile.proofs.Causes.{never_refused}
use Rattle.ecd_compile.proofs.Exact.{only_refusal, only_compiled}
use Rattle.ecd_compile.specs.Reads.{IsCompiled}
use Rattle.ecd_compile.proofs.compile.Goals as goal

pub returns-clause-only_compiled : goal.returns-clause-only_compiled
returns-clause-only_compiled c = λ number is.
    only_compiled c.compile_thin.result (request c.args.schema.now c.args.root.now c.args.depth c.args.order) number c.compile_thin.ensures.refused is

pub returns-clause-only_refused : goal.returns-clause-only_refused
returns-clause-only_refused c = λ cause told has.
    let q = request c.args.schema.now c.args.root.now c.args.depth c.args.order in
    only_refusal c.compile_thin.result (λ x. IsCompiled q x.text x.program) q
    c.compile_thin.ensures.compiled c.compile_thin.ensures.refused
    (λ x r compiled t h. never_refused q compiled.number r compiled.is_number t h) cause told has
