-- Calls of functions that answer within a number of steps and write nothing.
use Rattle.std.proofs.Common.{ℕ, suc, ◌+◌, ◌≤◌, List, ◌∷◌}
use Rattle.ecd_cast.specs.declared.tree.Expr.{Expr}
use Rattle.ecd_cast.specs.declared.tree.Stmt.{Stmt}
use Rattle.ecd_cast.specs.declared.tree.Stmt.TheVariants.{Number as DeclNumber, Assign}
use Rattle.ecd_cast.specs.declared.tree.Source.TheVariants.{Call as FromCall}
use Rattle.ecd_cast.specs.declared.value.Value.{Value}
use Rattle.ecd_cast.specs.declared.value.Value.TheVariants.{Number as Num}
use Rattle.ecd_cast.specs.Memory.{Name, Memory}
use Rattle.ecd_cast.specs.Expressions.{Scopes}
use Rattle.ecd_cast.specs.Meaning.{Calls, declare, assign}
use Rattle.ecd_calculus.specs.Ends.{Answers}
use Rattle.ecd_acts.specs.Acts.{Known, Acts, Hands}
use Rattle.ecd_acts.proofs.Statements.{ask_rule, assign_ask_rule, silent_quiet}
use Rattle.ecd_acts.proofs.Ends.{answers_said}

module _ {calls : Calls} {m : Memory} {x g : Name} {args : List Expr} {rest : List Stmt} {env : Scopes} {P : Known ℕ} {F : Known Scopes} (vs : List Value) {Q : ℕ → Type 0} {most : ℕ} where
  pub answer_rule : Hands args env m vs → Answers (calls g vs m) Q most →
      ((n k : ℕ) → Q n → k ≤ most → Acts calls m rest (declare x (Num n) env) (λ r ws j. P r ws (suc (k + j))) (λ e ws j. F e ws (suc (k + j)))) → Acts calls m (DeclNumber x (FromCall g args) ∷ rest) env P F
  answer_rule h a w = ask_rule vs (λ n k. Q n × (k ≤ most)) h (silent_quiet (answers_said a)) (λ n k z. w n k z.0 z.1)

  pub assign_answer_rule : Hands args env m vs → Answers (calls g vs m) Q most →
      ((n k : ℕ) → Q n → k ≤ most → Acts calls m rest (assign x (Num n) env) (λ r ws j. P r ws (suc (k + j))) (λ e ws j. F e ws (suc (k + j)))) → Acts calls m (Assign x (FromCall g args) ∷ rest) env P F
  assign_answer_rule h a w = assign_ask_rule vs (λ n k. Q n × (k ≤ most)) h (silent_quiet (answers_said a)) (λ n k z. w n k z.0 z.1)
