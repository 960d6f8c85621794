-- An answer with a cause is the only one.
use Rattle.std.proofs.Common.{◌≡◌, ℕ, ◌⊎◌, ⊎_elim, inl, inr}
use Rattle.std.specs.Prelude.{Result, Ok, Err, IfOk, IfErr, MatchResult}
use Rattle.ecd_judge.specs.declared.refusal.Refusal.{Refusal}
use Rattle.ecd_judge.specs.declared.refusal.Refusal.TheVariants.{OutOfMemory}
use Rattle.ecd_judge.specs.Request.{Request}
use Rattle.ecd_judge.specs.Schema.{IsTold}
use Rattle.ecd_judge.proofs.Exact.{told_or_wants}
use Rattle.ecd_compile.specs.Schema.{IsNumber, HasCause}
use Rattle.ecd_compile.proofs.Causes.{one_cause, never_refused}

pub only_refusal : {A : Type 0} (result : Result A Refusal) (P : A → Type 0) (q : Request) → IfOk result P → IfErr result (λ r. HasCause q r)
    → ((a : A) (r : Refusal) → P a → IsTold r → HasCause q r → ⊥)
    → (cause : Refusal) → IsTold cause → HasCause q cause → MatchResult result (λ _. ⊥) (λ r. (r ≡ cause) ⊎ (r ≡ OutOfMemory))
only_refusal (Ok a) P q ok err none cause told has = none a cause ok told has
only_refusal (Err r) P q ok err none cause told has =
    ⊎_elim (λ (t : IsTold r). inl (one_cause q r cause t told err has)) (λ (e : r ≡ OutOfMemory). inr e) (told_or_wants r)

pub only_compiled : {A : Type 0} (result : Result A Refusal) (q : Request) (number : ℕ) → IfErr result (λ r. HasCause q r)
    → IsNumber q number → IfErr result (λ r. r ≡ OutOfMemory)
only_compiled (Ok a) q number err is = tt
only_compiled (Err r) q number err is =
    ⊎_elim (λ (t : IsTold r). absurd (never_refused q number r is t err)) (λ (e : r ≡ OutOfMemory). e) (told_or_wants r)
