-- Loops whose turns take different numbers of steps.
use Rattle.std.proofs.Common.{◌≡◌, ℕ, zero, suc, ◌+◌, ◌<◌, ◌≤◌, ◌⊎◌, inl, inr, List, [], ◌∷◌, subst, arith}
use Rattle.ecd_cast.specs.declared.tree.Stmt.{Stmt}
use Rattle.ecd_cast.specs.declared.tree.Stmt.TheVariants.{For}
use Rattle.ecd_cast.specs.declared.value.Value.TheVariants.{Number as Num}
use Rattle.ecd_cast.specs.Memory.{Name, Memory}
use Rattle.ecd_cast.specs.Expressions.{Scopes, lookup, given, Gives}
use Rattle.ecd_cast.specs.Meaning.{Run, Calls, Place, Code, block, does, shifted, count_of, turns, leave}
use Rattle.ecd_calculus.specs.Ends.{Ends, Behind, With, Does}
use Rattle.ecd_calculus.specs.Rules.{Works, Goes}
use Rattle.ecd_calculus.proofs.Calculus.{block_falls, block_returns, ends_step, ends_then, returns_then, ends_within, fall_ends}
use Rattle.ecd_cast.proofs.Layers.{does-For}

-- A turn that may take so many steps, where others are spent before it. It returns, and all steps so far are within a bound, or the next turn may begin.
pub record Turn (calls : Calls) (m : Memory) (x : Name) (body : List Stmt) (J : ℕ → ℕ → Scopes → Type 0) (P : ℕ → Type 0) (most i used : ℕ) (env : Scopes) : Type 0 where
  pub cost : ℕ
  pub goes : Goes calls m body (((x, Num i) ∷ []) ∷ env) (λ a. P a × (used + suc cost ≤ most)) (λ env'. J (i + 1) (used + suc cost) (leave env')) cost

-- turns that return
record Stops (r : Run) (P : ℕ → Type 0) (most used : ℕ) : Type 0 where
  pub answer : ℕ
  pub spent : ℕ
  pub does : Does r answer [] spent
  pub has : P answer
  pub bound : used + spent ≤ most

-- turns that all fall through
record Passes (r : Run) (F : ℕ → Scopes → Type 0) (used : ℕ) : Type 0 where
  pub scopes : Scopes
  pub spent : ℕ
  pub falls : Ends r (Behind scopes) [] spent
  pub has : F (used + spent) scopes

module _ {calls : Calls} {m : Memory} where
  loop : (x : Name) (body : List Stmt) (n most : ℕ) (J : ℕ → ℕ → Scopes → Type 0) (P : ℕ → Type 0) → ((i used : ℕ) (env : Scopes) → i < n → J i used env → Turn calls m x body J P most i used env) →
      (left i used : ℕ) → i + left ≡ n → (env : Scopes) → J i used env → (p : Place) → Stops (turns left i x (block calls body p) env m) P most used ⊎ Passes (turns left i x (block calls body p) env m) (J n) used
  loop x body n most J P turn zero i used e env h p =
      let same : i ≡ n = omega arith in
      let none : used ≡ used + 0 = omega arith in
      inr (record { scopes = env; spent = 0; falls = fall_ends env; has = subst (λ (k : ℕ). J n k env) none (subst (λ (j : ℕ). J j used env) same h) })
  loop x body n most J P turn (suc left) i used e env h p =
      let code : Code = block calls body p in
      let start : Scopes = ((x, Num i) ∷ []) ∷ env in
      let next : Scopes → Memory → Run = λ env' m'. turns left (i + 1) x code (leave env') m' in
      let t = turn i used env (omega arith) h in
      let k : ℕ = t.cost in
      elim (t.goes.run p) [
        | inl r ↦ inl (record {
          answer = r.answer;
          spent = suc k;
          does = ends_step _ (With r.answer) [] k (returns_then (code start m) m next r.answer [] k r.does);
          has = r.has.0;
          bound = r.has.1;
        })
        | inr r ↦ elim (loop x body n most J P turn left (i + 1) (used + suc k) (omega arith) (leave r.scopes) r.has p) [
          | inl s ↦ inl (record {
            answer = s.answer;
            spent = suc (k + s.spent);
            does = ends_step _ (With s.answer) [] (k + s.spent) (ends_then (code start m) m next r.scopes (With s.answer) [] [] k s.spent r.falls s.does);
            has = s.has;
            bound = omega (arith, s.bound);
          })
          | inr s ↦
              let sum : used + suc k + s.spent ≡ used + suc (k + s.spent) = omega arith in
              inr (record {
                scopes = s.scopes;
                spent = suc (k + s.spent);
                falls = ends_step _ (Behind s.scopes) [] (k + s.spent) (ends_then (code start m) m next r.scopes (Behind s.scopes) [] [] k s.spent r.falls s.falls);
                has = subst (λ (j : ℕ). J n j s.scopes) sum s.has;
              })
        ]
      ]

  -- a loop, by what holds at the beginning of each turn where so many steps are spent; what is behind the loop takes at most j
  pub for_spends : {x b : Name} {body rest : List Stmt} {env : Scopes} {P : ℕ → Type 0} (n j most : ℕ) (J : ℕ → ℕ → Scopes → Type 0) → given (lookup env b) ≡ Gives (Num n) → J 0 0 env →
      ((i used : ℕ) (env' : Scopes) → i < n → J i used env' → Turn calls m x body J P most i used env') → ((used : ℕ) (env' : Scopes) → J n used env' → Works calls m rest env' P j × (used + j ≤ most)) →
      Works calls m (For x b body ∷ rest) env P (suc most)
  for_spends {x} {b} {body} {rest} {env} {P} n j most J v start turn behind = record {
    run = λ p. elim (loop x body n most J P turn n 0 0 (omega arith) env start (shifted p 1)) [
      | inl r ↦
          let here : Ends (does calls (For x b body) p env m) (With r.answer) [] r.spent = rw (does-For calls x b body p env m, v) r.does in
          let le : suc r.spent ≤ suc most = omega (arith, r.bound) in
          record {
            answer = r.answer;
            does = ends_within (block calls (For x b body ∷ rest) p env m) (With r.answer) [] (suc r.spent) (suc most) le (block_returns calls (For x b body) rest p env m r.answer [] r.spent here);
            has = r.has;
          }
      | inr r ↦
          let here : Ends (does calls (For x b body) p env m) (Behind r.scopes) [] r.spent = rw (does-For calls x b body p env m, v) r.falls in
          let after = behind (0 + r.spent) r.scopes r.has in
          let w = after.0.run (shifted p (count_of (For x b body))) in
          let le : suc (r.spent + j) ≤ suc most = omega (arith, after.1) in
          record {
            answer = w.answer;
            does = ends_within (block calls (For x b body ∷ rest) p env m) (With w.answer) [] (suc (r.spent + j)) (suc most) le (block_falls calls (For x b body) rest p env m r.scopes (With w.answer) [] [] r.spent j here w.does);
            has = w.has;
          }
    ];
  }
