-- Code whose steps are bounded by what it answers.
use Rattle.std.proofs.Common.{◌≡◌, ℕ, zero, suc, ◌+◌, ◌*◌, ◌<◌, ◌≤◌, ◌⊎◌, inl, inr, List, [], ◌∷◌, subst, arith}
use Rattle.ecd_cast.specs.declared.tree.Expr.{Expr}
use Rattle.ecd_cast.specs.declared.tree.Stmt.{Stmt}
use Rattle.ecd_cast.specs.declared.tree.Stmt.TheVariants.{Number as DeclNumber, For}
use Rattle.ecd_cast.specs.declared.tree.Source.TheVariants.{Value as FromValue}
use Rattle.ecd_cast.specs.declared.tree.Function.{Function}
use Rattle.ecd_cast.specs.declared.value.Value.{Value}
use Rattle.ecd_cast.specs.declared.value.Value.TheVariants.{Number as Num}
use Rattle.ecd_cast.specs.Memory.{Name, Memory}
use Rattle.ecd_cast.specs.Expressions.{Scopes, lookup, given, Gives}
use Rattle.ecd_cast.specs.Meaning.{Run, Calls, Place, Code, block, does, called, frame_of, shifted, count_of, turns, declare, leave, fall}
use Rattle.ecd_calculus.specs.Ends.{Ends, Behind, With, Does}
use Rattle.ecd_calculus.specs.Rules.{Works, Passes, Goes, Is}
use Rattle.ecd_calculus.proofs.Calculus.{block_falls, block_returns, ends_called, ends_step, ends_then, returns_then, ends_within, fall_ends}
use Rattle.ecd_cast.proofs.Layers.{does-For}
use Rattle.ecd_fixed_heads.specs.Extents.{AnswersWithin}

-- the statements return a number with P in at most the steps that go with it, and write nothing
pub record WorksWithin (calls : Calls) (m : Memory) (body : List Stmt) (env : Scopes) (P : ℕ → Type 0) (most : ℕ → ℕ) : Type 0 where
  pub run : (q : Place) → AnswersWithin (block calls body q env m) P most

pub answers_most : (r : Run) (P : ℕ → Type 0) (a b : ℕ → ℕ) → ((n : ℕ) → a n ≤ b n) → AnswersWithin r P a → AnswersWithin r P b
answers_most r P a b le h = record { answer = h.answer; does = ends_within r (With h.answer) [] (a h.answer) (b h.answer) (le h.answer) h.does; has = h.has }

pub called_within : (calls : Calls) (m : Memory) (at : ℕ) (f : Function) (args : List Value) (P : ℕ → Type 0) (most : ℕ → ℕ) → WorksWithin calls m f.body (frame_of f.params args ∷ []) P most → AnswersWithin (called calls at f args m) P most
called_within calls m at f args P most w =
    let r = w.run (record { item = at; statement = 1 }) in
    record { answer = r.answer; does = ends_called calls at f args m r.answer [] (most r.answer) r.does; has = r.has }

-- Turns that return, the first of them the turn i. The steps of all turns up to the one that returns go with the answer.
record Stops (r : Run) (P : ℕ → Type 0) (most : ℕ → ℕ) (k i : ℕ) : Type 0 where
  pub passed : ℕ
  pub answer : ℕ
  pub does : Does r answer [] (suc passed * suc k)
  pub has : P answer
  pub bound : suc ((i + suc passed) * suc k) ≤ most answer

-- what a turn i answers goes with the steps of i + 1 turns, and one more for the loop
abbrev pub Turn : (calls : Calls) (m : Memory) (x : Name) (body : List Stmt) (n k : ℕ) (I : ℕ → Scopes → Type 0) (P : ℕ → Type 0) (most : ℕ → ℕ) → Type 0
Turn calls m x body n k I P most = (i : ℕ) (env : Scopes) → i < n → I i env → Goes calls m body (((x, Num i) ∷ []) ∷ env) (λ a. P a × (suc (suc i * suc k) ≤ most a)) (λ env'. I (i + 1) (leave env')) k

module _ {calls : Calls} {m : Memory} where
  pub let_within : {x : Name} {e : Expr} {rest : List Stmt} {env : Scopes} {n : ℕ} {P : ℕ → Type 0} {most : ℕ → ℕ} → Is e env m n → WorksWithin calls m rest (declare x (Num n) env) P most →
      WorksWithin calls m (DeclNumber x (FromValue e) ∷ rest) env P (λ a. suc (most a))
  let_within {x} {e} {rest} {env} {n} {P} {most} v w = record {
    run = λ p.
        let r = w.run (shifted p (count_of (DeclNumber x (FromValue e)))) in
        let here : Ends (does calls (DeclNumber x (FromValue e)) p env m) (Behind (declare x (Num n) env)) [] 0 = rw v.is (fall_ends (declare x (Num n) env)) in
        let le : suc (0 + most r.answer) ≤ suc (most r.answer) = omega arith in
        record {
          answer = r.answer;
          does = ends_within (block calls (DeclNumber x (FromValue e) ∷ rest) p env m) (With r.answer) [] (suc (0 + most r.answer)) (suc (most r.answer)) le
              (block_falls calls (DeclNumber x (FromValue e)) rest p env m (declare x (Num n) env) (With r.answer) [] [] 0 (most r.answer) here r.does);
          has = r.has;
        };
  }

  loop : (x : Name) (body : List Stmt) (n k : ℕ) (I : ℕ → Scopes → Type 0) (P : ℕ → Type 0) (most : ℕ → ℕ) → Turn calls m x body n k I P most →
      (left i : ℕ) → i + left ≡ n → (env : Scopes) → I i env → (p : Place) → Stops (turns left i x (block calls body p) env m) P most k i ⊎ Passes (turns left i x (block calls body p) env m) (I n) (left * suc k)
  loop x body n k I P most turn zero i e env h p =
      let same : i ≡ n = omega arith in
      inr (record { scopes = env; falls = ends_within (fall env) (Behind env) [] 0 (0 * suc k) (omega arith) (fall_ends env); has = subst (λ (j : ℕ). I j env) same h })
  loop x body n k I P most turn (suc left) i e env h p =
      let code : Code = block calls body p in
      let start : Scopes = ((x, Num i) ∷ []) ∷ env in
      let next : Scopes → Memory → Run = λ env' m'. turns left (i + 1) x code (leave env') m' in
      let all : Run = turns (suc left) i x code env m in
      let small : suc k ≤ suc 0 * suc k = grind arith in
      let whole : suc (k + left * suc k) ≤ suc left * suc k = grind arith in
      elim ((turn i env (omega arith) h).run p) [
        | inl r ↦
            let same : suc i ≡ i + suc 0 = omega arith in
            inl (record {
              passed = 0;
              answer = r.answer;
              does = ends_within all (With r.answer) [] (suc k) (suc 0 * suc k) small (ends_step _ (With r.answer) [] k (returns_then (code start m) m next r.answer [] k r.does));
              has = r.has.0;
              bound = subst (λ (j : ℕ). suc (j * suc k) ≤ most r.answer) same r.has.1;
            })
        | inr r ↦ elim (loop x body n k I P most turn left (i + 1) (omega arith) (leave r.scopes) r.has p) [
          | inl s ↦
              let same : i + 1 + suc s.passed ≡ i + suc (suc s.passed) = omega arith in
              let more : suc (k + suc s.passed * suc k) ≤ suc (suc s.passed) * suc k = grind arith in
              inl (record {
                passed = suc s.passed;
                answer = s.answer;
                does = ends_within all (With s.answer) [] (suc (k + suc s.passed * suc k)) (suc (suc s.passed) * suc k) more
                    (ends_step _ (With s.answer) [] (k + suc s.passed * suc k) (ends_then (code start m) m next r.scopes (With s.answer) [] [] k (suc s.passed * suc k) r.falls s.does));
                has = s.has;
                bound = subst (λ (j : ℕ). suc (j * suc k) ≤ most s.answer) same s.bound;
              })
          | inr s ↦ inr (record {
            scopes = s.scopes;
            falls = ends_within all (Behind s.scopes) [] (suc (k + left * suc k)) (suc left * suc k) whole (ends_step _ (Behind s.scopes) [] (k + left * suc k) (ends_then (code start m) m next r.scopes (Behind s.scopes) [] [] k (left * suc k) r.falls s.falls));
            has = s.has;
          })
        ]
      ]

  -- a loop, by what holds at the beginning of each turn; a turn takes at most k steps besides its own, and what is behind the loop at most j
  pub for_within : {x b : Name} {body rest : List Stmt} {env : Scopes} {P : ℕ → Type 0} {most : ℕ → ℕ} (n k j : ℕ) (I : ℕ → Scopes → Type 0) → given (lookup env b) ≡ Gives (Num n) → I 0 env → Turn calls m x body n k I P most →
      ((env' : Scopes) → I n env' → Works calls m rest env' (λ a. P a × (suc (n * suc k + j) ≤ most a)) j) → WorksWithin calls m (For x b body ∷ rest) env P most
  for_within {x} {b} {body} {rest} {env} {P} {most} n k j I v start turn behind = record {
    run = λ p. elim (loop x body n k I P most turn n 0 (omega arith) env start (shifted p 1)) [
      | inl r ↦
          let here : Ends (does calls (For x b body) p env m) (With r.answer) [] (suc r.passed * suc k) = rw (does-For calls x b body p env m, v) r.does in
          let same : 0 + suc r.passed ≡ suc r.passed = omega arith in
          let le : suc (suc r.passed * suc k) ≤ most r.answer = subst (λ (i : ℕ). suc (i * suc k) ≤ most r.answer) same r.bound in
          record {
            answer = r.answer;
            does = ends_within (block calls (For x b body ∷ rest) p env m) (With r.answer) [] (suc (suc r.passed * suc k)) (most r.answer) le (block_returns calls (For x b body) rest p env m r.answer [] (suc r.passed * suc k) here);
            has = r.has;
          }
      | inr r ↦
          let here : Ends (does calls (For x b body) p env m) (Behind r.scopes) [] (n * suc k) = rw (does-For calls x b body p env m, v) r.falls in
          let w = (behind r.scopes r.has).run (shifted p (count_of (For x b body))) in
          record {
            answer = w.answer;
            does = ends_within (block calls (For x b body ∷ rest) p env m) (With w.answer) [] (suc (n * suc k + j)) (most w.answer) w.has.1 (block_falls calls (For x b body) rest p env m r.scopes (With w.answer) [] [] (n * suc k) j here w.does);
            has = w.has.0;
          }
    ];
  }
