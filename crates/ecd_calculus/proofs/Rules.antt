-- What code answers, statement by statement.
use Rattle.std.proofs.Common.{◌≡◌, ℕ, zero, suc, ◌+◌, ◌*◌, ◌<◌, ◌≤◌, inl, inr, List, [], ◌∷◌, refl, subst, arith, Bool, true, false}
use Rattle.ecd_cast.specs.declared.tree.Expr.{Expr}
use Rattle.ecd_cast.specs.declared.tree.Stmt.{Stmt}
use Rattle.ecd_cast.specs.declared.tree.Stmt.TheVariants.{Number as DeclNumber, Assign, If, For, Return}
use Rattle.ecd_cast.specs.declared.tree.Source.TheVariants.{Value as FromValue, Call as FromCall}
use Rattle.ecd_cast.specs.declared.tree.Function.{Function}
use Rattle.ecd_cast.specs.Memory.{Name, Memory}
use Rattle.ecd_cast.specs.declared.value.Value.{Value}
use Rattle.ecd_cast.specs.declared.value.Value.TheVariants.{Number as Num}
use Rattle.ecd_cast.specs.Expressions.{Scopes, lookup, given, Gives}
use Rattle.ecd_cast.specs.Meaning.{Run, Calls, Place, block, does, called, frame_of, shifted, count_of, turns, Code, declare, assign, leave, fall}
use Rattle.ecd_calculus.specs.Ends.{Ends, Behind, With, Answers}
use Rattle.ecd_calculus.specs.Rules.{Works, Passes, GoesOn, Goes, Is, Tells, Hands}
use Rattle.ecd_calculus.proofs.Calculus.{block_falls, block_returns, call_declares, call_assigns, returns_scoped, ends_called, ends_step, ends_then, returns_then, ends_within, fall_ends}
use Rattle.ecd_cast.proofs.Layers.{does-If, does-For}

answers_within : (r : Run) (P : ℕ → Type 0) (a b : ℕ) → a ≤ b → Answers r P a → Answers r P b
answers_within r P a b le h = record { answer = h.answer; does = ends_within r (With h.answer) [] a b le h.does; has = h.has }

returned : (r : Run) (n most : ℕ) → Ends r (With n) [] most → (P : ℕ → Type 0) → P n → Answers r P most
returned r n most d P h = record { answer = n; does = d; has = h }

one_step : (k : ℕ) → suc (0 + k) ≤ suc k
one_step k = omega arith

module _ {calls : Calls} {m : Memory} where
  pub works_within : {body : List Stmt} {env : Scopes} {P : ℕ → Type 0} (a b : ℕ) → a ≤ b → Works calls m body env P a → Works calls m body env P b
  works_within {body} {env} {P} a b le h = record { run = λ q. answers_within (block calls body q env m) P a b le (h.run q) }

  pub return_rule : {e : Expr} {rest : List Stmt} {env : Scopes} {n : ℕ} {P : ℕ → Type 0} → Is e env m n → P n → Works calls m (Return e ∷ rest) env P 1
  return_rule {e} {rest} {env} {n} {P} v h = record {
    run = λ p.
        let here : Ends (does calls (Return e) p env m) (With n) [] 0 = rw v.is (record { events = []; is = refl; wrote = refl; short = omega arith }) in
        returned (block calls (Return e ∷ rest) p env m) n 1 (block_returns calls (Return e) rest p env m n [] 0 here) P h;
  }

  falls_rule : (s : Stmt) (rest : List Stmt) (env env' : Scopes) (P : ℕ → Type 0) (a k : ℕ) → ((p : Place) → Ends (does calls s p env m) (Behind env') [] a) → Works calls m rest env' P k → Works calls m (s ∷ rest) env P (suc (a + k))
  falls_rule s rest env env' P a k h w = record {
    run = λ p.
        let r = w.run (shifted p (count_of s)) in
        returned (block calls (s ∷ rest) p env m) r.answer (suc (a + k)) (block_falls calls s rest p env m env' (With r.answer) [] [] a k (h p) r.does) P r.has;
  }

  pub let_rule : {x : Name} {e : Expr} {rest : List Stmt} {env : Scopes} {n : ℕ} {P : ℕ → Type 0} {k : ℕ} → Is e env m n → Works calls m rest (declare x (Num n) env) P k → Works calls m (DeclNumber x (FromValue e) ∷ rest) env P (suc k)
  let_rule {x} {e} {rest} {env} {n} {P} {k} v w =
      works_within (suc (0 + k)) (suc k) (one_step k) (falls_rule (DeclNumber x (FromValue e)) rest env (declare x (Num n) env) P 0 k (λ p. rw v.is (fall_ends (declare x (Num n) env))) w)

  pub assign_rule : {x : Name} {e : Expr} {rest : List Stmt} {env : Scopes} {n : ℕ} {P : ℕ → Type 0} {k : ℕ} → Is e env m n → Works calls m rest (assign x (Num n) env) P k → Works calls m (Assign x (FromValue e) ∷ rest) env P (suc k)
  assign_rule {x} {e} {rest} {env} {n} {P} {k} v w =
      works_within (suc (0 + k)) (suc k) (one_step k) (falls_rule (Assign x (FromValue e)) rest env (assign x (Num n) env) P 0 k (λ p. rw v.is (fall_ends (assign x (Num n) env))) w)

  pub call_rule : {x g : Name} {args : List Expr} {rest : List Stmt} {env : Scopes} {P : ℕ → Type 0} {c k : ℕ} (vs : List Value) (Q : ℕ → Type 0) → Hands args env m vs → Answers (calls g vs m) Q c →
      ((n : ℕ) → Q n → Works calls m rest (declare x (Num n) env) P k) → Works calls m (DeclNumber x (FromCall g args) ∷ rest) env P (suc (c + k))
  call_rule {x} {g} {args} {rest} {env} {P} {c} {k} vs Q w a then_rest =
      falls_rule (DeclNumber x (FromCall g args)) rest env (declare x (Num a.answer) env) P c k (λ p. call_declares calls x g args p env m a.answer vs [] c (w.hands p) a.does) (then_rest a.answer a.has)

  pub assign_call_rule : {x g : Name} {args : List Expr} {rest : List Stmt} {env : Scopes} {P : ℕ → Type 0} {c k : ℕ} (vs : List Value) (Q : ℕ → Type 0) → Hands args env m vs → Answers (calls g vs m) Q c →
      ((n : ℕ) → Q n → Works calls m rest (assign x (Num n) env) P k) → Works calls m (Assign x (FromCall g args) ∷ rest) env P (suc (c + k))
  assign_call_rule {x} {g} {args} {rest} {env} {P} {c} {k} vs Q w a then_rest =
      falls_rule (Assign x (FromCall g args)) rest env (assign x (Num a.answer) env) P c k (λ p. call_assigns calls x g args p env m a.answer vs [] c (w.hands p) a.does) (then_rest a.answer a.has)

  -- `if t { ys } else { }`, whose first block returns
  pub if_rule : {t : Expr} {ys rest : List Stmt} {env : Scopes} {P : ℕ → Type 0} {k : ℕ} (b : Bool) → Tells t env m b → (b ≡ true → Works calls m ys ([] ∷ env) P k) → (b ≡ false → Works calls m rest env P k) → Works calls m (If t ys [] ∷ rest) env P (suc k)
  if_rule {t} {ys} {rest} {env} {P} {k} true v taken passed =
      let w = taken refl in
      record {
        run = λ p.
            let r = w.run (shifted p 1) in
            let here : Ends (does calls (If t ys []) p env m) (With r.answer) [] k = rw (does-If calls t ys [] p env m, v.tells) (returns_scoped (block calls ys (shifted p 1)) env m r.answer [] k r.does) in
            returned (block calls (If t ys [] ∷ rest) p env m) r.answer (suc k) (block_returns calls (If t ys []) rest p env m r.answer [] k here) P r.has;
      }
  if_rule {t} {ys} {rest} {env} {P} {k} false v taken passed =
      works_within (suc (0 + k)) (suc k) (one_step k) (falls_rule (If t ys []) rest env env P 0 k (λ p. rw (does-If calls t ys [] p env m, v.tells) (fall_ends env)) (passed refl))

  -- `if t { return e; } else { }`
  pub guard_rule : {t e : Expr} {rest : List Stmt} {env : Scopes} {P : ℕ → Type 0} {k : ℕ} (b : Bool) (n : ℕ) → Tells t env m b → Is e ([] ∷ env) m n → (b ≡ true → P n) → (b ≡ false → Works calls m rest env P k) →
      Works calls m (If t (Return e ∷ []) [] ∷ rest) env P (suc (suc k))
  guard_rule {P = P} {k} b n v w taken passed =
      if_rule {k = suc k} b v (λ h. works_within 1 (suc k) (omega arith) (return_rule {P = P} w (taken h))) (λ h. works_within k (suc k) (omega arith) (passed h))

pub called_rule : (calls : Calls) (m : Memory) (at : ℕ) (f : Function) (args : List Value) (P : ℕ → Type 0) (most : ℕ) → Works calls m f.body (frame_of f.params args ∷ []) P most → Answers (called calls at f args m) P most
called_rule calls m at f args P most w =
    let r = w.run (record { item = at; statement = 1 }) in
    returned (called calls at f args m) r.answer most (ends_called calls at f args m r.answer [] most r.does) P r.has

-- ---- loops

passed_to : (r : Run) (env : Scopes) (most : ℕ) → Ends r (Behind env) [] most → (F : Scopes → Type 0) → F env → Passes r F most
passed_to r env most d F h = record { scopes = env; falls = d; has = h }

module _ {calls : Calls} {m : Memory} where
  pub nil_goes : {env : Scopes} {P : ℕ → Type 0} {F : Scopes → Type 0} → F env → Goes calls m [] env P F 0
  nil_goes {env} {P} {F} h = record { run = λ q. inr (passed_to (block calls [] q env m) env 0 (fall_ends env) F h) }

  falls_goes : (s : Stmt) (rest : List Stmt) (env env' : Scopes) (P : ℕ → Type 0) (F : Scopes → Type 0) (a k : ℕ) → ((p : Place) → Ends (does calls s p env m) (Behind env') [] a) → Goes calls m rest env' P F k → Goes calls m (s ∷ rest) env P F (suc (a + k))
  falls_goes s rest env env' P F a k h w = record {
    run = λ p. elim (w.run (shifted p (count_of s))) [
      | inl r ↦ inl (returned (block calls (s ∷ rest) p env m) r.answer (suc (a + k)) (block_falls calls s rest p env m env' (With r.answer) [] [] a k (h p) r.does) P r.has)
      | inr r ↦ inr (passed_to (block calls (s ∷ rest) p env m) r.scopes (suc (a + k)) (block_falls calls s rest p env m env' (Behind r.scopes) [] [] a k (h p) r.falls) F r.has)
    ];
  }

  pub let_goes : {x : Name} {e : Expr} {rest : List Stmt} {env : Scopes} {n : ℕ} {P : ℕ → Type 0} {F : Scopes → Type 0} {k : ℕ} → Is e env m n → Goes calls m rest (declare x (Num n) env) P F k → Goes calls m (DeclNumber x (FromValue e) ∷ rest) env P F (suc (0 + k))
  let_goes {x} {e} {rest} {env} {n} {P} {F} {k} v w = falls_goes (DeclNumber x (FromValue e)) rest env (declare x (Num n) env) P F 0 k (λ p. rw v.is (fall_ends (declare x (Num n) env))) w

  pub assign_goes : {x : Name} {e : Expr} {rest : List Stmt} {env : Scopes} {n : ℕ} {P : ℕ → Type 0} {F : Scopes → Type 0} {k : ℕ} → Is e env m n → Goes calls m rest (assign x (Num n) env) P F k → Goes calls m (Assign x (FromValue e) ∷ rest) env P F (suc (0 + k))
  assign_goes {x} {e} {rest} {env} {n} {P} {F} {k} v w = falls_goes (Assign x (FromValue e)) rest env (assign x (Num n) env) P F 0 k (λ p. rw v.is (fall_ends (assign x (Num n) env))) w

  pub call_goes : {x g : Name} {args : List Expr} {rest : List Stmt} {env : Scopes} {P : ℕ → Type 0} {F : Scopes → Type 0} {c k : ℕ} (vs : List Value) (Q : ℕ → Type 0) → Hands args env m vs → Answers (calls g vs m) Q c →
      ((n : ℕ) → Q n → Goes calls m rest (declare x (Num n) env) P F k) → Goes calls m (DeclNumber x (FromCall g args) ∷ rest) env P F (suc (c + k))
  call_goes {x} {g} {args} {rest} {env} {P} {F} {c} {k} vs Q w a then_rest =
      falls_goes (DeclNumber x (FromCall g args)) rest env (declare x (Num a.answer) env) P F c k (λ p. call_declares calls x g args p env m a.answer vs [] c (w.hands p) a.does) (then_rest a.answer a.has)

  pub assign_call_goes : {x g : Name} {args : List Expr} {rest : List Stmt} {env : Scopes} {P : ℕ → Type 0} {F : Scopes → Type 0} {c k : ℕ} (vs : List Value) (Q : ℕ → Type 0) → Hands args env m vs → Answers (calls g vs m) Q c →
      ((n : ℕ) → Q n → Goes calls m rest (assign x (Num n) env) P F k) → Goes calls m (Assign x (FromCall g args) ∷ rest) env P F (suc (c + k))
  assign_call_goes {x} {g} {args} {rest} {env} {P} {F} {c} {k} vs Q w a then_rest =
      falls_goes (Assign x (FromCall g args)) rest env (assign x (Num a.answer) env) P F c k (λ p. call_assigns calls x g args p env m a.answer vs [] c (w.hands p) a.does) (then_rest a.answer a.has)

  pub guard_goes : {t e : Expr} {rest : List Stmt} {env : Scopes} {P : ℕ → Type 0} {F : Scopes → Type 0} {k : ℕ} (b : Bool) (n : ℕ) → Tells t env m b → Is e ([] ∷ env) m n → (b ≡ true → P n) → (b ≡ false → Goes calls m rest env P F k) →
      Goes calls m (If t (Return e ∷ []) [] ∷ rest) env P F (suc (1 + k))
  guard_goes {t} {e} {rest} {env} {P} {F} {k} true n v w taken passed =
      let r = return_rule {calls = calls} {m = m} {e = e} {rest = []} {P = P} w (taken refl) in
      record {
        run = λ p.
            let a = r.run (shifted p 1) in
            let here : Ends (does calls (If t (Return e ∷ []) []) p env m) (With a.answer) [] 1 = rw (does-If calls t (Return e ∷ []) [] p env m, v.tells) (returns_scoped (block calls (Return e ∷ []) (shifted p 1)) env m a.answer [] 1 a.does) in
            inl (answers_within _ P 2 (suc (1 + k)) (omega arith) (returned (block calls (If t (Return e ∷ []) [] ∷ rest) p env m) a.answer 2 (block_returns calls (If t (Return e ∷ []) []) rest p env m a.answer [] 1 here) P a.has));
      }
  guard_goes {t} {e} {rest} {env} {P} {F} {k} false n v w taken passed =
      falls_goes (If t (Return e ∷ []) []) rest env env P F 1 k (λ p. rw (does-If calls t (Return e ∷ []) [] p env m, v.tells) (ends_within _ (Behind env) [] 0 1 (omega arith) (fall_ends env))) (passed refl)

  loop : (x : Name) (body : List Stmt) (n k : ℕ) (I : ℕ → Scopes → Type 0) (P : ℕ → Type 0) → ((i : ℕ) (env : Scopes) → i < n → I i env → Goes calls m body (((x, Num i) ∷ []) ∷ env) P (λ env'. I (i + 1) (leave env')) k) →
      (left i : ℕ) → i + left ≡ n → (env : Scopes) → I i env → (p : Place) → GoesOn (turns left i x (block calls body p) env m) P (I n) (left * suc k)
  loop x body n k I P turn zero i e env h p =
      let same : i ≡ n = omega arith in
      inr (passed_to (fall env) env (0 * suc k) (ends_within _ (Behind env) [] 0 (0 * suc k) (omega arith) (fall_ends env)) (I n) (subst (λ (j : ℕ). I j env) same h))
  loop x body n k I P turn (suc left) i e env h p =
      let code : Code = block calls body p in
      let start : Scopes = ((x, Num i) ∷ []) ∷ env in
      let next : Scopes → Memory → Run = λ env' m'. turns left (i + 1) x code (leave env') m' in
      let all : Run = turns (suc left) i x code env m in
      let rest : (env' : Scopes) → I (i + 1) (leave env') → GoesOn (turns left (i + 1) x code (leave env') m) P (I n) (left * suc k) = λ env' h'. loop x body n k I P turn left (i + 1) (omega arith) (leave env') h' p in
      let small : suc k ≤ suc left * suc k = grind arith in
      let whole : suc (k + left * suc k) ≤ suc left * suc k = grind arith in
      elim ((turn i env (omega arith) h).run p) [
        | inl r ↦ inl (answers_within all P (suc k) (suc left * suc k) small (returned all r.answer (suc k) (ends_step _ (With r.answer) [] k (returns_then (code start m) m next r.answer [] k r.does)) P r.has))
        | inr r ↦ elim (rest r.scopes r.has) [
          | inl s ↦ inl (answers_within all P (suc (k + left * suc k)) (suc left * suc k) whole (returned all s.answer (suc (k + left * suc k)) (ends_step _ (With s.answer) [] (k + left * suc k) (ends_then (code start m) m next r.scopes (With s.answer) [] [] k (left * suc k) r.falls s.does)) P s.has))
          | inr s ↦ inr (passed_to all s.scopes (suc left * suc k) (ends_within all (Behind s.scopes) [] (suc (k + left * suc k)) (suc left * suc k) whole (ends_step _ (Behind s.scopes) [] (k + left * suc k) (ends_then (code start m) m next r.scopes (Behind s.scopes) [] [] k (left * suc k) r.falls s.falls))) (I n) s.has)
        ]
      ]

  -- a loop, by what holds at the beginning of each turn; a turn takes at most k steps besides its own
  pub for_rule : {x b : Name} {body rest : List Stmt} {env : Scopes} {P : ℕ → Type 0} (n k j : ℕ) (I : ℕ → Scopes → Type 0) → given (lookup env b) ≡ Gives (Num n) → I 0 env →
      ((i : ℕ) (env' : Scopes) → i < n → I i env' → Goes calls m body (((x, Num i) ∷ []) ∷ env') P (λ env''. I (i + 1) (leave env'')) k) → ((env' : Scopes) → I n env' → Works calls m rest env' P j) →
      Works calls m (For x b body ∷ rest) env P (suc (n * suc k + j))
  for_rule {x} {b} {body} {rest} {env} {P} n k j I v start turn behind = record {
    run = λ p. elim (loop x body n k I P turn n 0 (omega arith) env start (shifted p 1)) [
      | inl r ↦
          let here : Ends (does calls (For x b body) p env m) (With r.answer) [] (n * suc k) = rw (does-For calls x b body p env m, v) r.does in
          answers_within (block calls (For x b body ∷ rest) p env m) P (suc (n * suc k)) (suc (n * suc k + j)) (omega arith) (returned (block calls (For x b body ∷ rest) p env m) r.answer (suc (n * suc k)) (block_returns calls (For x b body) rest p env m r.answer [] (n * suc k) here) P r.has)
      | inr r ↦
          let here : Ends (does calls (For x b body) p env m) (Behind r.scopes) [] (n * suc k) = rw (does-For calls x b body p env m, v) r.falls in
          let w = (behind r.scopes r.has).run (shifted p (count_of (For x b body))) in
          returned (block calls (For x b body ∷ rest) p env m) w.answer (suc (n * suc k + j)) (block_falls calls (For x b body) rest p env m r.scopes (With w.answer) [] [] (n * suc k) j here w.does) P w.has
    ];
  }
