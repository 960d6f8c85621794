-- What is asked for over given contents is refused for one thing at most, and never where it is a text.
use Rattle.std.proofs.Common.{◌≡◌, ℕ, ◌⊎◌, ⊎_elim, List, [], ◌∷◌, ap, sym, ◌∙◌, subst}
use Rattle.ecd_judge.specs.Request.{Request}
use Rattle.ecd_compile.proofs.Causes.{one_cause, never_refused, one_number}
use Rattle.ecd_commands.proofs.Calling.{not_run_once, not_run_or_run}
use Rattle.ecd_commands.specs.Asked.{Asked, check, compile, read, write, copy, run, sample}
use Rattle.ecd_commands.specs.Outcomes.{Outcome, NoEncoding}
use Rattle.ecd_reader.specs.Takes.{BeginsWith}
use Rattle.ecd_commands.specs.Causes.{request_for, IsRefused, IsCompiledTo, IsAnyNumber, BeginWithItem, BeginWithNone, Denied, Accepted, Text, Makes, outcome_of_refusal}

refused_once : (q : Request) (o p : Outcome) → IsRefused q o → IsRefused q p → o ≡ p
refused_once q o p a b =
    let refusal : a.refusal ≡ b.refusal = one_cause q a.refusal b.refusal a.names_cause b.names_cause a.cause b.cause in
    a.is ∙ ap (outcome_of_refusal q.schema) refusal ∙ sym b.is

refused_or_number : (q : Request) (o : Outcome) → IsRefused q o → IsAnyNumber q → ⊥
refused_or_number q o a b = never_refused q b.0 a.refusal b.1 a.names_cause a.cause

compiled_number : (q : Request) (text : List ℕ) → IsCompiledTo q text → IsAnyNumber q
compiled_number q text t = (t.compiled.number, t.compiled.is_number)

none_or_item : (q : Request) (input : List ℕ) → BeginWithNone q input → BeginWithItem q input → ⊥
none_or_item q input a b =
    let same : b.0 ≡ a.0 = one_number q b.0 a.0 b.1 a.1 in
    a.2 (subst (λ (n : ℕ). BeginsWith n input) same b.2)

read_once : (q : Request) (input : List ℕ) (o p : Outcome) → IsRefused q o ⊎ (BeginWithNone q input × (o ≡ NoEncoding)) → IsRefused q p ⊎ (BeginWithNone q input × (p ≡ NoEncoding)) → o ≡ p
read_once q input o p a b =
    ⊎_elim
    (λ (x : IsRefused q o). ⊎_elim
    (λ (y : IsRefused q p). refused_once q o p x y)
    (λ (y : BeginWithNone q input × (p ≡ NoEncoding)). absurd (refused_or_number q o x (y.0.0, y.0.1))) b)
    (λ (x : BeginWithNone q input × (o ≡ NoEncoding)). ⊎_elim
    (λ (y : IsRefused q p). absurd (refused_or_number q p y (x.0.0, x.0.1)))
    (λ (y : BeginWithNone q input × (p ≡ NoEncoding)). x.1 ∙ sym y.1) b)
    a

read_or_item : (q : Request) (input : List ℕ) (o : Outcome) → IsRefused q o ⊎ (BeginWithNone q input × (o ≡ NoEncoding)) → BeginWithItem q input → ⊥
read_or_item q input o a b =
    ⊎_elim
    (λ (x : IsRefused q o). refused_or_number q o x (b.0, b.1))
    (λ (x : BeginWithNone q input × (o ≡ NoEncoding)). none_or_item q input x.0 b)
    a

pub denied_once : (asked : Asked) (contents : List (List ℕ)) (o p : Outcome) → Makes asked contents (Denied o) → Makes asked contents (Denied p) → o ≡ p
denied_once (check s) [] o p a b = absurd a
denied_once (check s) (x ∷ []) o p a b = refused_once (request_for x s) o p a b
denied_once (check s) (x ∷ y ∷ more) o p a b = absurd a
denied_once (compile s) [] o p a b = absurd a
denied_once (compile s) (x ∷ []) o p a b = refused_once (request_for x s) o p a b
denied_once (compile s) (x ∷ y ∷ more) o p a b = absurd a
denied_once (read s d) [] o p a b = absurd a
denied_once (read s d) (x ∷ []) o p a b = absurd a
denied_once (read s d) (x ∷ y ∷ []) o p a b = read_once (request_for x s) y o p a b
denied_once (read s d) (x ∷ y ∷ z ∷ more) o p a b = absurd a
denied_once (write s v m) contents o p a b = a ∙ sym b
denied_once (copy s d m) contents o p a b = a ∙ sym b
denied_once (run c f d n) [] o p a b = absurd a
denied_once (run c f d n) (x ∷ []) o p a b = absurd a
denied_once (run c f d n) (x ∷ y ∷ []) o p a b = not_run_once x f y n o p a b
denied_once (run c f d n) (x ∷ y ∷ z ∷ more) o p a b = absurd a
denied_once (sample n) contents o p a b = a ∙ sym b

pub denied_or_accepted : (asked : Asked) (contents : List (List ℕ)) (o : Outcome) → Makes asked contents (Denied o) → Makes asked contents Accepted → ⊥
denied_or_accepted (check s) [] o a b = a
denied_or_accepted (check s) (x ∷ []) o a b = refused_or_number (request_for x s) o a b
denied_or_accepted (check s) (x ∷ y ∷ more) o a b = a
denied_or_accepted (compile s) [] o a b = a
denied_or_accepted (compile s) (x ∷ []) o a b = refused_or_number (request_for x s) o a b
denied_or_accepted (compile s) (x ∷ y ∷ more) o a b = a
denied_or_accepted (read s d) [] o a b = a
denied_or_accepted (read s d) (x ∷ []) o a b = a
denied_or_accepted (read s d) (x ∷ y ∷ []) o a b = read_or_item (request_for x s) y o a b
denied_or_accepted (read s d) (x ∷ y ∷ z ∷ more) o a b = a
denied_or_accepted (write s v m) contents o a b = b
denied_or_accepted (copy s d m) contents o a b = b
denied_or_accepted (run c f d n) [] o a b = a
denied_or_accepted (run c f d n) (x ∷ []) o a b = a
denied_or_accepted (run c f d n) (x ∷ y ∷ []) o a b = not_run_or_run x f y n o a b
denied_or_accepted (run c f d n) (x ∷ y ∷ z ∷ more) o a b = a
denied_or_accepted (sample n) contents o a b = b

-- what has a text is accepted
pub text_accepted : (asked : Asked) (contents : List (List ℕ)) (text : List ℕ) → Makes asked contents (Text text) → Makes asked contents Accepted
text_accepted (check s) [] text b = b
text_accepted (check s) (x ∷ []) text b = b.0
text_accepted (check s) (x ∷ y ∷ more) text b = b
text_accepted (compile s) [] text b = b
text_accepted (compile s) (x ∷ []) text b = compiled_number (request_for x s) text b
text_accepted (compile s) (x ∷ y ∷ more) text b = b
text_accepted (read s d) [] text b = b
text_accepted (read s d) (x ∷ []) text b = b
text_accepted (read s d) (x ∷ y ∷ []) text b = b.0
text_accepted (read s d) (x ∷ y ∷ z ∷ more) text b = b
text_accepted (write s v m) contents text b = b
text_accepted (copy s d m) contents text b = b
text_accepted (run c f d n) [] text b = b
text_accepted (run c f d n) (x ∷ []) text b = b
text_accepted (run c f d n) (x ∷ y ∷ []) text b = (b.0, b.1, b.2.0)
text_accepted (run c f d n) (x ∷ y ∷ z ∷ more) text b = b
text_accepted (sample n) contents text b = b
