use Rattle.std.proofs.Common.{◌≡◌, true, false}
use Rattle.ecd_judge.specs.declared.refusal.Refusal.TheVariants.{OutOfMemory}
use Rattle.ecd_vectors.proofs.Judging.{not_compiled}
use Rattle.ecd_vectors.proofs.case.compiled_of.Goals as goal

pub returns-in-Err-2 : goal.returns-in-Err-2
returns-in-Err-2 c = λ number is.
    not_compiled c.compile.result c.in-Err.refusal c.in-Err.is
    (λ (e : c.in-Err.refusal ≡ OutOfMemory). let no : false ≡ true = c.if-wants_memory.ensures.1 e in cc)
    (c.compile.ensures.only_compiled number (rw c.as_bytes.ensures.value is))
