-- A loop that returns at a turn at the latest.
use Rattle.std.proofs.Common.{◌≡◌, ℕ, zero, suc, ◌+◌, ◌*◌, ◌<◌, ◌≤◌, inl, inr, List, [], ◌∷◌, sym, subst, arith}
use Rattle.ecd_cast.specs.declared.tree.Stmt.{Stmt}
use Rattle.ecd_cast.specs.declared.tree.Stmt.TheVariants.{For}
use Rattle.ecd_cast.specs.declared.value.Value.TheVariants.{Number as Num}
use Rattle.ecd_cast.specs.Memory.{Name, Memory}
use Rattle.ecd_cast.specs.Expressions.{Scopes, lookup, given, Gives}
use Rattle.ecd_cast.specs.Meaning.{Run, Calls, Place, Code, block, does, shifted, turns, leave}
use Rattle.ecd_calculus.specs.Ends.{Ends, With, Answers}
use Rattle.ecd_calculus.specs.Rules.{Works, Goes}
use Rattle.ecd_calculus.proofs.Calculus.{block_returns, ends_step, ends_then, returns_then, ends_within}
use Rattle.ecd_cast.proofs.Layers.{does-For}

-- what a turn before the turn j does
abbrev pub Passing : (calls : Calls) (m : Memory) (x : Name) (body : List Stmt) (j k : ℕ) (I : ℕ → Scopes → Type 0) (P : ℕ → Type 0) → Type 0
Passing calls m x body j k I P = (i : ℕ) (env : Scopes) → i < j → I i env → Goes calls m body (((x, Num i) ∷ []) ∷ env) P (λ env'. I (i + 1) (leave env')) k

-- and that one
abbrev pub Stopping : (calls : Calls) (m : Memory) (x : Name) (body : List Stmt) (j c : ℕ) (I : ℕ → Scopes → Type 0) (P : ℕ → Type 0) → Type 0
Stopping calls m x body j c I P = (env : Scopes) → I j env → Works calls m body (((x, Num j) ∷ []) ∷ env) P c

module _ {calls : Calls} {m : Memory} where
  loop : (x : Name) (body : List Stmt) (j k c : ℕ) (I : ℕ → Scopes → Type 0) (P : ℕ → Type 0) → Passing calls m x body j k I P → Stopping calls m x body j c I P →
      (left ahead i : ℕ) → ahead < left → i + ahead ≡ j → (env : Scopes) → I i env → (p : Place) → Answers (turns left i x (block calls body p) env m) P (ahead * suc k + suc c)
  loop x body j k c I P turn last zero ahead i lt e env h p = absurd (omega (arith, lt))
  loop x body j k c I P turn last (suc left) zero i lt e env h p =
      let same : i ≡ j = omega (arith, e) in
      let code : Code = block calls body p in
      let start : Scopes = ((x, Num i) ∷ []) ∷ env in
      let next : Scopes → Memory → Run = λ env' m'. turns left (i + 1) x code (leave env') m' in
      let all : Run = turns (suc left) i x code env m in
      let w : Works calls m body start P c = subst (λ (n : ℕ). Works calls m body (((x, Num n) ∷ []) ∷ env) P c) (sym same) (last env (subst (λ (n : ℕ). I n env) same h)) in
      let r = w.run p in
      record {
        answer = r.answer;
        does = ends_within all (With r.answer) [] (suc c) (0 * suc k + suc c) (omega arith) (ends_step _ (With r.answer) [] c (returns_then (code start m) m next r.answer [] c r.does));
        has = r.has;
      }
  loop x body j k c I P turn last (suc left) (suc ahead) i lt e env h p =
      let code : Code = block calls body p in
      let start : Scopes = ((x, Num i) ∷ []) ∷ env in
      let next : Scopes → Memory → Run = λ env' m'. turns left (i + 1) x code (leave env') m' in
      let all : Run = turns (suc left) i x code env m in
      let rest : ℕ = ahead * suc k + suc c in
      let small : suc k ≤ suc ahead * suc k + suc c = grind arith in
      let whole : suc (k + (ahead * suc k + suc c)) ≤ suc ahead * suc k + suc c = grind arith in
      elim ((turn i env (omega (arith, e)) h).run p) [
        | inl r ↦ record {
          answer = r.answer;
          does = ends_within all (With r.answer) [] (suc k) (suc ahead * suc k + suc c) small (ends_step _ (With r.answer) [] k (returns_then (code start m) m next r.answer [] k r.does));
          has = r.has;
        }
        | inr r ↦
            let s = loop x body j k c I P turn last left ahead (i + 1) (omega (arith, lt)) (omega (arith, e)) (leave r.scopes) r.has p in
            record {
              answer = s.answer;
              does = ends_within all (With s.answer) [] (suc (k + rest)) (suc ahead * suc k + suc c) whole (ends_step _ (With s.answer) [] (k + rest) (ends_then (code start m) m next r.scopes (With s.answer) [] [] k rest r.falls s.does));
              has = s.has;
            }
      ]

  -- the turns before the turn j take at most k steps besides their own, and that turn at most c
  pub stops_rule : {x b : Name} {body rest : List Stmt} {env : Scopes} {P : ℕ → Type 0} (n j k c : ℕ) (I : ℕ → Scopes → Type 0) → given (lookup env b) ≡ Gives (Num n) → j < n → I 0 env → Passing calls m x body j k I P → Stopping calls m x body j c I P →
      Works calls m (For x b body ∷ rest) env P (suc (j * suc k + suc c))
  stops_rule {x} {b} {body} {rest} {env} {P} n j k c I v lt start turn last = record {
    run = λ p.
        let r = loop x body j k c I P turn last n j 0 lt (omega arith) env start (shifted p 1) in
        let here : Ends (does calls (For x b body) p env m) (With r.answer) [] (j * suc k + suc c) = rw (does-For calls x b body p env m, v) r.does in
        record { answer = r.answer; does = block_returns calls (For x b body) rest p env m r.answer [] (j * suc k + suc c) here; has = r.has };
  }
