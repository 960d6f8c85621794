-- Loops that write, turn by turn.
use Rattle.std.proofs.Common.{◌≡◌, ℕ, zero, suc, ◌+◌, ◌*◌, ◌<◌, ◌≤◌, inl, inr, List, [], ◌∷◌, ◌++◌, sym, subst, arith, append-nil, append_assoc}
use Rattle.ecd_cast.specs.declared.tree.Stmt.{Stmt}
use Rattle.ecd_cast.specs.declared.tree.Stmt.TheVariants.{For}
use Rattle.ecd_cast.specs.Memory.{Name, Memory, Event, after}
use Rattle.ecd_cast.specs.declared.value.Value.TheVariants.{Number as Num}
use Rattle.ecd_cast.specs.Expressions.{Scopes, Frame, lookup, given, Gives}
use Rattle.ecd_cast.specs.Meaning.{Run, Calls, Place, Code, block, does, shifted, count_of, turns, fall, leave}
use Rattle.ecd_calculus.specs.Ends.{End, Ends, Behind, With}
use Rattle.ecd_calculus.specs.Rules.{Acts, Gives_back, Falls_on}
use Rattle.ecd_calculus.specs.Laws.{written, LoopFalls, LoopReturns}
use Rattle.ecd_calculus.proofs.Calculus.{ends_within, ends_then, ends_step, returns_then, fall_ends, block_falls, block_returns, after-append}
use Rattle.ecd_cast.proofs.Layers.{does-For}

-- ---- turns that fall through, one by one

abbrev OneFalls : Code → Name → (ℕ → Scopes) → (ℕ → Memory) → (ℕ → List Event) → (k i : ℕ) → Type 0
OneFalls body x E M W k i = (M (i + 1) ≡ after (W i) (M i)) × ((f : Frame) × Ends (body (((x, Num i) ∷ []) ∷ E i) (M i)) (Behind (f ∷ E (i + 1))) (W i) k)

module _ (x : Name) (body : Code) (E : ℕ → Scopes) (M : ℕ → Memory) (W : ℕ → List Event) (n k : ℕ) where
  -- one turn that falls through, and the turns behind it
  one_turn : (left i : ℕ) (e : End) (ws : List Event) (most : ℕ) → OneFalls body x E M W k i → Ends (turns left (i + 1) x body (E (i + 1)) (M (i + 1))) e ws most →
      Ends (turns (suc left) i x body (E i) (M i)) e (W i ++ ws) (suc (k + most))
  one_turn left i e ws most t rest =
      let there = subst (λ (m : Memory). Ends (turns left (i + 1) x body (E (i + 1)) m) e ws most) t.0 rest in
      ends_step _ _ _ _ (ends_then (body (((x, Num i) ∷ []) ∷ E i) (M i)) (M i) (λ env' m'. turns left (i + 1) x body (leave env') m') (t.1.0 ∷ E (i + 1)) e (W i) ws k most t.1.1 there)

  all_fall : ((i : ℕ) → i < n → OneFalls body x E M W k i) → (left i : ℕ) → i + left ≡ n → Ends (turns left i x body (E i) (M i)) (Behind (E n)) (written W i left) (left * suc k)
  all_fall turn zero i e =
      let same : n ≡ i = omega arith in
      ends_within _ _ _ 0 (0 * suc k) (omega arith) (subst (λ (j : ℕ). Ends (fall (E j)) (Behind (E n)) [] 0) same (fall_ends (E n)))
  all_fall turn (suc left) i e =
      let le : suc (k + left * suc k) ≤ suc left * suc k = grind arith in
      ends_within _ _ _ (suc (k + left * suc k)) (suc left * suc k) le (one_turn left i (Behind (E n)) (written W (i + 1) left) (left * suc k) (turn i (omega arith)) (all_fall turn left (i + 1) (omega arith)))

  one_returns : (j r : ℕ) (V : List Event) → ((i : ℕ) → i < j → OneFalls body x E M W k i) → Ends (body (((x, Num j) ∷ []) ∷ E j) (M j)) (With r) V k →
      (d left i : ℕ) → i + d ≡ j → d < left → Ends (turns left i x body (E i) (M i)) (With r) (written W i d ++ V) (suc d * suc k)
  one_returns j r V turn h d zero i e lt = absurd (omega arith)
  one_returns j r V turn h zero (suc left) i e lt =
      let same : j ≡ i = omega arith in
      let here = subst (λ (a : ℕ). Ends (body (((x, Num a) ∷ []) ∷ E a) (M a)) (With r) V k) same h in
      let le : suc k ≤ suc 0 * suc k = grind arith in
      ends_within _ _ _ (suc k) (suc 0 * suc k) le (ends_step _ _ _ _ (returns_then (body (((x, Num i) ∷ []) ∷ E i) (M i)) (M i) (λ env' m'. turns left (i + 1) x body (leave env') m') r V k here))
  one_returns j r V turn h (suc d) (suc left) i e lt =
      let le : suc (k + suc d * suc k) ≤ suc (suc d) * suc k = grind arith in
      let rest = one_turn left i (With r) (written W (i + 1) d ++ V) (suc d * suc k) (turn i (omega arith)) (one_returns j r V turn h d left (i + 1) (omega arith) (omega arith)) in
      subst (λ (ws : List Event). Ends (turns (suc left) i x body (E i) (M i)) (With r) ws (suc (suc d) * suc k)) (sym (append_assoc (W i) (written W (i + 1) d) V))
      (ends_within _ _ _ (suc (k + suc d * suc k)) (suc (suc d) * suc k) le rest)

pub loop_falls : LoopFalls
loop_falls calls x b body p E M W n k v turn = rw (does-For calls x b body p (E 0) (M 0), v) (all_fall x (block calls body (shifted p 1)) E M W n k turn n 0 (omega arith))

pub loop_returns : LoopReturns
loop_returns calls x b body p E M W n k j v lt turn r V h = rw (does-For calls x b body p (E 0) (M 0), v) (one_returns x (block calls body (shifted p 1)) E M W n k j r V turn h j n 0 (omega arith) lt)

-- ---- by an invariant

gives_within : (r : Run) (P : ℕ → List Event → Type 0) (a b : ℕ) → a ≤ b → Gives_back r P a → Gives_back r P b
gives_within r P a b le h = record { answer = h.answer; writes = h.writes; does = ends_within r (With h.answer) h.writes a b le h.does; has = h.has }

falls_within : (r : Run) (F : Scopes → List Event → Type 0) (a b : ℕ) → a ≤ b → Falls_on r F a → Falls_on r F b
falls_within r F a b le h = record { scopes = h.scopes; writes = h.writes; falls = ends_within r (Behind h.scopes) h.writes a b le h.falls; has = h.has }

pub acts_within : (r : Run) (P : ℕ → List Event → Type 0) (F : Scopes → List Event → Type 0) (a b : ℕ) → a ≤ b → Acts r P F a → Acts r P F b
acts_within r P F a b le h = elim h [ inl x ↦ inl (gives_within r P a b le x) | inr x ↦ inr (falls_within r F a b le x) ]

module _ (x : Name) (code : Code) (m : Memory) (n k : ℕ) (I : ℕ → Scopes → List Event → Type 0) (P : ℕ → List Event → Type 0)
    (turn : (i : ℕ) (now : Scopes) (ws : List Event) → i < n → I i now ws → Acts (code (((x, Num i) ∷ []) ∷ now) (after ws m)) (λ r vs. P r (ws ++ vs)) (λ next vs. I (i + 1) (leave next) (ws ++ vs)) k) where
  keeps : (left i : ℕ) → i + left ≡ n → (now : Scopes) (ws : List Event) → I i now ws → Acts (turns left i x code now (after ws m)) (λ r vs. P r (ws ++ vs)) (λ next vs. I n next (ws ++ vs)) (left * suc k)
  keeps zero i e now ws h =
      let same : i ≡ n = omega arith in
      inr (record {
        scopes = now;
        writes = [];
        falls = ends_within (fall now) (Behind now) [] 0 (0 * suc k) (omega arith) (fall_ends now);
        has = subst (λ (j : ℕ). I j now (ws ++ [])) same (subst (λ (l : List Event). I i now l) (sym (append-nil ws)) h);
      })
  keeps (suc left) i e now ws h =
      let start : Scopes = ((x, Num i) ∷ []) ∷ now in
      let here : Memory = after ws m in
      let next : Scopes → Memory → Run = λ env' m'. turns left (i + 1) x code (leave env') m' in
      let all : Run = turns (suc left) i x code now here in
      let small : suc k ≤ suc left * suc k = grind arith in
      let whole : suc (k + left * suc k) ≤ suc left * suc k = grind arith in
      elim (turn i now ws (omega arith) h) [
        | inl r ↦ inl (record {
          answer = r.answer;
          writes = r.writes;
          does = ends_within all (With r.answer) r.writes (suc k) (suc left * suc k) small (ends_step _ (With r.answer) r.writes k (returns_then (code start here) here next r.answer r.writes k r.does));
          has = r.has;
        })
        | inr r ↦
            let again = keeps left (i + 1) (omega arith) (leave r.scopes) (ws ++ r.writes) r.has in
            let there : after (ws ++ r.writes) m ≡ after r.writes here = after-append ws r.writes m in
            elim again [
              | inl s ↦ inl (record {
                answer = s.answer;
                writes = r.writes ++ s.writes;
                does = ends_within all (With s.answer) (r.writes ++ s.writes) (suc (k + left * suc k)) (suc left * suc k) whole
                    (ends_step _ (With s.answer) (r.writes ++ s.writes) (k + left * suc k)
                    (ends_then (code start here) here next r.scopes (With s.answer) r.writes s.writes k (left * suc k) r.falls (subst (λ (mm : Memory). Ends (turns left (i + 1) x code (leave r.scopes) mm) (With s.answer) s.writes (left * suc k)) there s.does)));
                has = subst (λ (l : List Event). P s.answer l) (append_assoc ws r.writes s.writes) s.has;
              })
              | inr s ↦ inr (record {
                scopes = s.scopes;
                writes = r.writes ++ s.writes;
                falls = ends_within all (Behind s.scopes) (r.writes ++ s.writes) (suc (k + left * suc k)) (suc left * suc k) whole
                    (ends_step _ (Behind s.scopes) (r.writes ++ s.writes) (k + left * suc k)
                    (ends_then (code start here) here next r.scopes (Behind s.scopes) r.writes s.writes k (left * suc k) r.falls (subst (λ (mm : Memory). Ends (turns left (i + 1) x code (leave r.scopes) mm) (Behind s.scopes) s.writes (left * suc k)) there s.falls)));
                has = subst (λ (l : List Event). I n s.scopes l) (append_assoc ws r.writes s.writes) s.has;
              })
            ]
      ]

-- A loop by an invariant of the scopes and of all that was written before a turn. Each turn falls through into the invariant or returns, in at most k steps besides its own.
pub for_acts : (calls : Calls) (x b : Name) (body : List Stmt) (p : Place) (env : Scopes) (m : Memory) (n k : ℕ) (I : ℕ → Scopes → List Event → Type 0) (P : ℕ → List Event → Type 0) → given (lookup env b) ≡ Gives (Num n) → I 0 env [] →
    ((i : ℕ) (now : Scopes) (ws : List Event) → i < n → I i now ws →
    Acts (block calls body (shifted p 1) (((x, Num i) ∷ []) ∷ now) (after ws m)) (λ r vs. P r (ws ++ vs)) (λ next vs. I (i + 1) (leave next) (ws ++ vs)) k) →
    Acts (does calls (For x b body) p env m) P (λ next ws. I n next ws) (n * suc k)
for_acts calls x b body p env m n k I P v start turn = rw (does-For calls x b body p env m, v) (keeps x (block calls body (shifted p 1)) m n k I P turn n 0 (omega arith) env [] start)

-- ---- statements of code that writes

module _ (calls : Calls) where
  -- a statement that falls through with these writes, and what is behind it
  pub falls_acts : (s : Stmt) (rest : List Stmt) (q : Place) (env env' : Scopes) (m : Memory) (vs : List Event) (P : ℕ → List Event → Type 0) (F : Scopes → List Event → Type 0) (a k : ℕ) →
      Ends (does calls s q env m) (Behind env') vs a → Acts (block calls rest (shifted q (count_of s)) env' (after vs m)) (λ r ws. P r (vs ++ ws)) (λ next ws. F next (vs ++ ws)) k → Acts (block calls (s ∷ rest) q env m) P F (suc (a + k))
  falls_acts s rest q env env' m vs P F a k h w = elim w [
    | inl r ↦ inl (record { answer = r.answer; writes = vs ++ r.writes; does = block_falls calls s rest q env m env' (With r.answer) vs r.writes a k h r.does; has = r.has })
    | inr r ↦ inr (record { scopes = r.scopes; writes = vs ++ r.writes; falls = block_falls calls s rest q env m env' (Behind r.scopes) vs r.writes a k h r.falls; has = r.has })
  ]

  -- a statement that returns or falls through, and what is behind it
  pub acts_then : (s : Stmt) (rest : List Stmt) (q : Place) (env : Scopes) (m : Memory) (G : Scopes → List Event → Type 0) (P : ℕ → List Event → Type 0) (F : Scopes → List Event → Type 0) (a k : ℕ) →
      Acts (does calls s q env m) P G a →
      ((env' : Scopes) (vs : List Event) → G env' vs → Acts (block calls rest (shifted q (count_of s)) env' (after vs m)) (λ r ws. P r (vs ++ ws)) (λ next ws. F next (vs ++ ws)) k) → Acts (block calls (s ∷ rest) q env m) P F (suc (a + k))
  acts_then s rest q env m G P F a k h w = elim h [
    | inl r ↦
        let le : suc a ≤ suc (a + k) = omega arith in
        inl (record { answer = r.answer; writes = r.writes; does = ends_within _ (With r.answer) r.writes (suc a) (suc (a + k)) le (block_returns calls s rest q env m r.answer r.writes a r.does); has = r.has })
    | inr r ↦ falls_acts s rest q env r.scopes m r.writes P F a k r.falls (w r.scopes r.writes r.has)
  ]

  pub nil_acts : (q : Place) (env : Scopes) (m : Memory) (P : ℕ → List Event → Type 0) (F : Scopes → List Event → Type 0) → F env [] → Acts (block calls [] q env m) P F 0
  nil_acts q env m P F h = inr (record { scopes = env; writes = []; falls = fall_ends env; has = h })
