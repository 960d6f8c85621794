-- Loops, by what is known before each of their turns.
use Rattle.std.proofs.Common.{◌≡◌, ℕ, zero, suc, ◌+◌, ◌<◌, List, [], ◌∷◌, ◌++◌, refl, sym, subst, arith, append-nil, append_assoc, add-one}
use Rattle.ecd_cast.specs.declared.tree.Stmt.{Stmt}
use Rattle.ecd_cast.specs.declared.tree.Stmt.TheVariants.{For}
use Rattle.ecd_cast.specs.declared.tree.Expr.TheVariants.{Var}
use Rattle.ecd_cast.specs.declared.value.Value.TheVariants.{Number as Num}
use Rattle.ecd_cast.specs.Memory.{Name, Memory, Event, after}
use Rattle.ecd_cast.specs.Expressions.{Scopes}
use Rattle.ecd_cast.specs.Meaning.{Run, Place, Calls, Code, block, turns, and_then, leave, shifted}
use Rattle.ecd_cast.proofs.Layers.{does-For}
use Rattle.ecd_calculus.proofs.Calculus.{after-append}
use Rattle.ecd_acts.specs.Acts.{Known, Meets, Acts, step, behind, Is}
use Rattle.ecd_acts.specs.Rules.{Repeating, RepeatingStill, RepeatingMoving}
use Rattle.ecd_acts.proofs.Meeting.{weaker_run, meets_step, meets_then, Rest}
use Rattle.ecd_acts.proofs.Statements.{begins, weaken}

known_as : {X : Type 0} (R : Known X) (x : X) (a b : List Event) (j k : ℕ) → a ≡ b → j ≡ k → R x a j → R x b k
known_as R x a b j k e f h = subst (λ (ws : List Event). R x ws k) e (subst (λ (n : ℕ). R x a n) f h)

module _ (calls : Calls) (m : Memory) (x : Name) (body : List Stmt) (P : Known ℕ) (n : ℕ) (I : ℕ → Known Scopes)
    (turn : (i : ℕ) (now : Scopes) (ws : List Event) (k : ℕ) → i < n → I i now ws k →
    Acts calls (after ws m) body (((x, Num i) ∷ []) ∷ now) (λ r vs j. P r (ws ++ vs) (suc (suc (k + j)))) (λ next vs j. I (suc i) (leave next) (ws ++ vs) (suc (k + j)))) where
  -- what is to be shown behind the turns so far
  abbrev Answered : List Event → ℕ → Known ℕ
  Answered ws k r vs j = P r (ws ++ vs) (suc (k + j))

  abbrev Fallen : List Event → ℕ → Known Scopes
  Fallen ws k e vs j = I n e (ws ++ vs) (k + j)

  goes : (left i : ℕ) → i + left ≡ n → (now : Scopes) (ws : List Event) (k : ℕ) → I i now ws k → (p : Place) → Meets (turns left i x (block calls body p) now (after ws m)) (Answered ws k) (Fallen ws k)
  goes zero i e now ws k h p =
      let same : i ≡ n = omega (arith, e) in
      known_as (I n) now ws (ws ++ []) k (k + 0) (sym (append-nil ws)) (omega arith) (subst (λ (j : ℕ). I j now ws k) same h)
  goes (suc left) i e now ws k h p =
      let code : Code = block calls body p in
      let next : Scopes → Memory → Run = λ env' m'. turns left (i + 1) x code (leave env') m' in
      let here : Run = code (((x, Num i) ∷ []) ∷ now) (after ws m) in
      let one : (env' : Scopes) (vs : List Event) (j : ℕ) → I (suc i) (leave env') (ws ++ vs) (suc (k + j)) → Rest (after ws m) next (step (Answered ws k)) (step (Fallen ws k)) env' vs j =
      λ env' vs j z.
      let again = goes left (i + 1) (omega (arith, e)) (leave env') (ws ++ vs) (suc (k + j)) (subst (λ (a : ℕ). I a (leave env') (ws ++ vs) (suc (k + j))) (sym (add-one i)) z) p in
      let there : Meets (next env' (after vs (after ws m))) (Answered (ws ++ vs) (suc (k + j))) (Fallen (ws ++ vs) (suc (k + j))) =
      subst (λ (mm : Memory). Meets (next env' mm) (Answered (ws ++ vs) (suc (k + j))) (Fallen (ws ++ vs) (suc (k + j)))) (after-append ws vs m) again in
      weaker_run (next env' (after vs (after ws m))) (Answered (ws ++ vs) (suc (k + j))) (behind vs j (step (Answered ws k))) (Fallen (ws ++ vs) (suc (k + j))) (behind vs j (step (Fallen ws k)))
      (λ r us l y. known_as P r ((ws ++ vs) ++ us) (ws ++ (vs ++ us)) (suc (suc (k + j) + l)) (suc (k + suc (j + l))) (append_assoc ws vs us) (omega arith) y)
      (λ e' us l y. known_as (I n) e' ((ws ++ vs) ++ us) (ws ++ (vs ++ us)) (suc (k + j) + l) (k + suc (j + l)) (append_assoc ws vs us) (omega arith) y) there in
      let parts : Meets here (step (Answered ws k)) (Rest (after ws m) next (step (Answered ws k)) (step (Fallen ws k))) =
      weaker_run here (λ r vs j. P r (ws ++ vs) (suc (suc (k + j)))) (step (Answered ws k)) (λ env' vs j. I (suc i) (leave env') (ws ++ vs) (suc (k + j))) (Rest (after ws m) next (step (Answered ws k)) (step (Fallen ws k)))
      (λ r vs j y. known_as P r (ws ++ vs) (ws ++ vs) (suc (suc (k + j))) (suc (k + suc j)) refl (omega arith) y) one ((turn i now ws k (omega (arith, e)) h).run p) in
      meets_step (and_then here (after ws m) next) (Answered ws k) (Fallen ws k) (meets_then here (after ws m) next (step (Answered ws k)) (step (Fallen ws k)) parts)

pub for_rule : {calls : Calls} {m : Memory} {x b : Name} {body rest : List Stmt} {env : Scopes} {P : Known ℕ} {F : Known Scopes} (n : ℕ) (I : ℕ → Known Scopes) → Is (Var b) env m (Num n) → I 0 env [] 0 →
    ((i : ℕ) (now : Scopes) (ws : List Event) (k : ℕ) → i < n → I i now ws k →
    Acts calls (after ws m) body (((x, Num i) ∷ []) ∷ now) (λ r vs j. P r (ws ++ vs) (suc (suc (k + j)))) (λ next vs j. I (suc i) (leave next) (ws ++ vs) (suc (k + j)))) →
    ((now : Scopes) (ws : List Event) (k : ℕ) → I n now ws k → Acts calls (after ws m) rest now (behind ws k (step P)) (behind ws k (step F))) → Acts calls m (For x b body ∷ rest) env P F
for_rule {calls} {m} {x} {b} {body} {rest} {env} {P} {F} n I v start turn then_rest = begins (λ p.
    let code : Code = block calls body (shifted p 1) in
    rw (does-For calls x b body p env m, v.is) (weaker_run (turns n 0 x code env m) (λ r vs j. P r ([] ++ vs) (suc (0 + j))) (step P) (λ e vs j. I n e ([] ++ vs) (0 + j)) (λ e ws k. Acts calls (after ws m) rest e (behind ws k (step P)) (behind ws k (step F)))
    (λ r vs j y. known_as P r vs vs (suc (0 + j)) (suc j) refl (omega arith) y)
    (λ e vs j y. then_rest e vs j (known_as (I n) e vs vs (0 + j) j refl (omega arith) y))
    (goes calls m x body P n I turn n 0 (omega arith) env [] 0 start (shifted p 1))))

pub repeating : (P : Known ℕ) (F : Known Scopes) (I : ℕ → Known Scopes) → Repeating P F I
repeating P F I = record { loop = λ n. for_rule n I }

-- ---- loops that write nothing

pub moving_rule : {calls : Calls} {m : Memory} {x b : Name} {body rest : List Stmt} {P : Known ℕ} {F : Known Scopes} {X : Type 0} (scopes : X → Scopes) (n : ℕ) (J : ℕ → X → ℕ → Type 0) (start : X) → Is (Var b) (scopes start) m (Num n) → J 0 start 0 →
    ((i : ℕ) (v : X) (k : ℕ) → i < n → J i v k →
    Acts calls m body (((x, Num i) ∷ []) ∷ scopes v) (λ r vs j. P r vs (suc (suc (k + j)))) (λ next vs j. (u : X) × (leave next ≡ scopes u) × (vs ≡ []) × J (suc i) u (suc (k + j)))) →
    ((v : X) (k : ℕ) → J n v k → Acts calls m rest (scopes v) (λ r vs j. P r vs (suc (k + j))) (λ next vs j. F next vs (suc (k + j)))) → Acts calls m (For x b body ∷ rest) (scopes start) P F
moving_rule {calls} {m} {x} {b} {body} {rest} {P} {F} {X} scopes n J start v first turn then_rest =
    for_rule n (λ i e ws k. (u : X) × (e ≡ scopes u) × (ws ≡ []) × J i u k) v (start, refl, refl, first)
    (λ i now ws k lt h.
    subst (λ (us : List Event). Acts calls (after us m) body (((x, Num i) ∷ []) ∷ now) (λ r vs j. P r (us ++ vs) (suc (suc (k + j)))) (λ next vs j. (u : X) × (leave next ≡ scopes u) × (us ++ vs ≡ []) × J (suc i) u (suc (k + j)))) (sym h.2)
    (subst (λ (e : Scopes). Acts calls m body (((x, Num i) ∷ []) ∷ e) (λ r vs j. P r vs (suc (suc (k + j)))) (λ next vs j. (u : X) × (leave next ≡ scopes u) × (vs ≡ []) × J (suc i) u (suc (k + j)))) (sym h.1) (turn i h.0 k lt h.3)))
    (λ now ws k h.
    subst (λ (us : List Event). Acts calls (after us m) rest now (behind us k (step P)) (behind us k (step F))) (sym h.2)
    (subst (λ (e : Scopes). Acts calls m rest e (λ r vs j. P r vs (suc (k + j))) (λ next vs j. F next vs (suc (k + j)))) (sym h.1) (then_rest h.0 k h.3)))

pub repeating_moving : {X : Type 0} (scopes : X → Scopes) (P : Known ℕ) (F : Known Scopes) (J : ℕ → X → ℕ → Type 0) → RepeatingMoving scopes P F J
repeating_moving scopes P F J = record { loop = λ n. moving_rule scopes n J }

-- ---- and leave the variables round them

pub still_rule : {calls : Calls} {m : Memory} {x b : Name} {body rest : List Stmt} {env : Scopes} {P : Known ℕ} {F : Known Scopes} (n : ℕ) (J : ℕ → ℕ → Type 0) → Is (Var b) env m (Num n) → J 0 0 →
    ((i k : ℕ) → i < n → J i k → Acts calls m body (((x, Num i) ∷ []) ∷ env) (λ r vs j. P r vs (suc (suc (k + j)))) (λ next vs j. (leave next ≡ env) × (vs ≡ []) × J (suc i) (suc (k + j)))) →
    ((k : ℕ) → J n k → Acts calls m rest env (λ r vs j. P r vs (suc (k + j))) (λ next vs j. F next vs (suc (k + j)))) → Acts calls m (For x b body ∷ rest) env P F
still_rule {calls} {m} {x} {b} {body} {rest} {env} {P} {F} n J v start turn then_rest =
    moving_rule (λ (u : Unit {0}). env) n (λ i u k. J i k) tt v start
    (λ i u k lt h. weaken (λ r vs j z. z) (λ next vs j z. (tt, z.0, z.1, z.2)) (turn i k lt h)) (λ u k h. then_rest k h)

pub repeating_still : (P : Known ℕ) (F : Known Scopes) (J : ℕ → ℕ → Type 0) → RepeatingStill P F J
repeating_still P F J = record { loop = λ n. still_rule n J }
