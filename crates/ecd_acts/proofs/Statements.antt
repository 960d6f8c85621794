-- The rules for statements that are no loops.
use Rattle.std.proofs.Common.{◌≡◌, ℕ, suc, ◌+◌, ◌<◌, ◌≤◌, map, List, [], ◌∷◌, ◌++◌, refl, sym, ◌∙◌, subst, arith, Bool, true, false, append-nil, append_assoc, length}
use Rattle.std.specs.Prelude.{Some, slice_get, ◌%◌, if◌then◌else◌}
use Rattle.std.proofs.lemmas.Bool.{lt-ltb}
use Rattle.ecd_cast.specs.declared.tree.Expr.{Expr}
use Rattle.ecd_cast.specs.declared.tree.Expr.TheVariants.{Var}
use Rattle.ecd_cast.specs.declared.tree.Expr.TheBlock as exprs
use denote.Hole.Carrier.{hidden}
use Rattle.ecd_cast.specs.declared.tree.Function.{Function}
use Rattle.ecd_cast.specs.declared.tree.Stmt.{Stmt}
use Rattle.ecd_cast.specs.declared.tree.Stmt.TheVariants.{Number as DeclNumber, Pointer as DeclPointer, Assign, Store, SetCell, If, Return}
use Rattle.ecd_cast.specs.declared.tree.Source.TheVariants.{Value as FromValue, Call as FromCall}
use Rattle.ecd_cast.specs.declared.value.Value.{Value}
use Rattle.ecd_cast.specs.declared.value.Value.TheVariants.{Number as Num, Truth, Bytes as Ptr, Struct as Str}
use Rattle.ecd_cast.specs.declared.value.Cell.TheVariants.{Number as HoldsNumber, Bytes as HoldsPointer}
use Rattle.ecd_cast.specs.Memory.{Name, Memory, Bytes, Event, Enters, Leaves, WritesByte, WritesCell, after, writes_of, steps_of}
use Rattle.ecd_cast.specs.Expressions.{Scopes, Gives, value_of}
use Rattle.ecd_cast.specs.Meaning.{Run, Falls, Returns, Stuck, Place, Calls, block, does, doing, and_then, fall, from_call, ended, called, frame_of, declare, assign, leave, shifted, count_of, count_all}
use Rattle.ecd_cast.proofs.Layers.{does-If}
use Rattle.ecd_calculus.proofs.Calculus.{writes-append, steps-append, after-append}
use Rattle.ecd_acts.specs.Acts.{Known, Meets, Acts, Never, Returns_with, step, wrote, behind, Is, Hands}
use Rattle.ecd_acts.specs.Ends.{Silent}
use Rattle.ecd_acts.specs.Rules.{Case, guards, decided, Weakening, Sequences, Variables, Calling, Asking, Writing, Choosing, Deciding}
use Rattle.ecd_acts.proofs.Meeting.{weaker_run, meets_step, step_meets, meets_then, then_meets, Rest}

pub weaken : {calls : Calls} {m : Memory} {body : List Stmt} {env : Scopes} {P Q : Known ℕ} {F G : Known Scopes} →
    ((n : ℕ) (ws : List Event) (k : ℕ) → P n ws k → Q n ws k) → ((e : Scopes) (ws : List Event) (k : ℕ) → F e ws k → G e ws k) → Acts calls m body env P F → Acts calls m body env Q G
weaken {P = P} {Q} {F} {G} p f h = record { run = λ q. weaker_run _ P Q F G p f (h.run q) }

pub weaken_returns : {r : Run} {P Q : Known ℕ} → ((n : ℕ) (ws : List Event) (k : ℕ) → P n ws k → Q n ws k) → Returns_with r P → Returns_with r Q
weaken_returns {r} {P} {Q} p h = record { meets = weaker_run r P Q Never Never p (λ e ws k z. z) h.meets }

pub weakening : (P Q : Known ℕ) (F G : Known Scopes) → Weakening P Q F G
weakening P Q F G = record { bodies = weaken; runs = weaken_returns }

-- ---- one statement, and those behind it

pub begins : {calls : Calls} {m : Memory} {s : Stmt} {rest : List Stmt} {env : Scopes} {P : Known ℕ} {F : Known Scopes} →
    ((p : Place) → Meets (does calls s p env m) (step P) (λ e ws k. Acts calls (after ws m) rest e (behind ws k (step P)) (behind ws k (step F)))) → Acts calls m (s ∷ rest) env P F
begins {calls} {m} {s} {rest} {env} {P} {F} h = record {
  run = λ q.
      let next : Scopes → Memory → Run = block calls rest (shifted q (count_of s)) in
      let here : Meets (does calls s q env m) (step P) (Rest m next (step P) (step F)) =
      weaker_run (does calls s q env m) (step P) (step P) (λ e ws k. Acts calls (after ws m) rest e (behind ws k (step P)) (behind ws k (step F))) (Rest m next (step P) (step F))
      (λ n ws k z. z) (λ e ws k a. a.run (shifted q (count_of s))) (h q) in
      meets_step (and_then (does calls s q env m) m next) P F (meets_then (does calls s q env m) m next (step P) (step F) here);
}

pub nothing : {calls : Calls} {m : Memory} {env : Scopes} {P : Known ℕ} {F : Known Scopes} → F env [] 0 → Acts calls m [] env P F
nothing h = record { run = λ q. h }

pub return_rule : {calls : Calls} {m : Memory} {e : Expr} {rest : List Stmt} {env : Scopes} {P : Known ℕ} {F : Known Scopes} {n : ℕ} → Is e env m (Num n) → P n [] 1 → Acts calls m (Return e ∷ rest) env P F
return_rule v h = begins (λ p. rw v.is h)

-- a statement that falls through at once, with its writes
falls : {calls : Calls} {m : Memory} {s : Stmt} {rest : List Stmt} {env : Scopes} {P : Known ℕ} {F : Known Scopes} (e : Scopes) (vs : List Event) → writes_of vs ≡ vs → steps_of vs ≡ 0 → ((p : Place) → does calls s p env m ≡ Falls e vs) →
    Acts calls (after vs m) rest e (wrote vs P) (wrote vs F) → Acts calls m (s ∷ rest) env P F
falls {calls} {m} {s} {rest} {env} {P} {F} e vs same none h w =
    let there : Acts calls (after vs m) rest e (behind vs (steps_of vs) (step P)) (behind vs (steps_of vs) (step F)) = weaken (lighter P) (lighter F) w in
    let here : Acts calls (after (writes_of vs) m) rest e (behind (writes_of vs) (steps_of vs) (step P)) (behind (writes_of vs) (steps_of vs) (step F)) =
    subst (λ (us : List Event). Acts calls (after us m) rest e (behind us (steps_of vs) (step P)) (behind us (steps_of vs) (step F))) (sym same) there in
    begins (λ p. subst (λ (r : Run). Meets r (step P) (λ e' ws k. Acts calls (after ws m) rest e' (behind ws k (step P)) (behind ws k (step F)))) (sym (h p)) here)
  where
    lighter : {X : Type 0} (R : Known X) (x : X) (ws : List Event) (k : ℕ) → wrote vs R x ws k → behind vs (steps_of vs) (step R) x ws k
    lighter R x ws k z = let sum : suc k ≡ suc (steps_of vs + k) = omega (arith, none) in subst (λ (n : ℕ). R x (vs ++ ws) n) sum z

quiet : {calls : Calls} {m : Memory} {s : Stmt} {rest : List Stmt} {env : Scopes} {P : Known ℕ} {F : Known Scopes} (e : Scopes) → ((p : Place) → does calls s p env m ≡ Falls e []) → Acts calls m rest e (step P) (step F) → Acts calls m (s ∷ rest) env P F
quiet {P = P} {F} e h w = falls {P = P} {F = F} e [] refl refl h w

pub number_rule : {calls : Calls} {m : Memory} {x : Name} {e : Expr} {rest : List Stmt} {env : Scopes} {P : Known ℕ} {F : Known Scopes} {v : Value} →
    Is e env m v → Acts calls m rest (declare x v env) (step P) (step F) → Acts calls m (DeclNumber x (FromValue e) ∷ rest) env P F
number_rule {x = x} {env = env} {v = v} h w = quiet (declare x v env) (λ p. rw h.is refl) w

pub pointer_rule : {calls : Calls} {m : Memory} {x : Name} {e : Expr} {rest : List Stmt} {env : Scopes} {P : Known ℕ} {F : Known Scopes} {v : Value} →
    Is e env m v → Acts calls m rest (declare x v env) (step P) (step F) → Acts calls m (DeclPointer x e ∷ rest) env P F
pointer_rule {x = x} {env = env} {v = v} h w = quiet (declare x v env) (λ p. rw h.is refl) w

pub assign_rule : {calls : Calls} {m : Memory} {x : Name} {e : Expr} {rest : List Stmt} {env : Scopes} {P : Known ℕ} {F : Known Scopes} {v : Value} →
    Is e env m v → Acts calls m rest (assign x v env) (step P) (step F) → Acts calls m (Assign x (FromValue e) ∷ rest) env P F
assign_rule {x = x} {env = env} {v = v} h w = quiet (assign x v env) (λ p. rw h.is refl) w

pub variables : (P : Known ℕ) (F : Known Scopes) → Variables P F
variables P F = record { number = number_rule; pointer = pointer_rule; assigned = assign_rule }

-- ---- writes

pub store_rule : {calls : Calls} {m : Memory} {x : Name} {i e : Expr} {rest : List Stmt} {env : Scopes} {P : Known ℕ} {F : Known Scopes} {block offset j n : ℕ} {bytes : List ℕ} →
    Is (Var x) env m (Ptr block offset) → Is i env m (Num j) → Is e env m (Num n) → slice_get m block ≡ Some (Bytes bytes) → offset + j < length bytes →
    (let ws : List Event = WritesByte block (offset + j) (n % 256) ∷ [] in Acts calls (after ws m) rest env (wrote ws P) (wrote ws F)) → Acts calls m (Store x i e ∷ rest) env P F
store_rule {env = env} {P = P} {F} {block} {offset} {j} {n} {bytes} h k l there lt w =
    let inside = lt-ltb (offset + j) (length bytes) lt in
    falls {P = P} {F = F} env (WritesByte block (offset + j) (n % 256) ∷ []) refl refl (λ p. rw (h.is, k.is, l.is, there, inside) refl) w

pub number_cell_rule : {calls : Calls} {m : Memory} {x c : Name} {e : Expr} {rest : List Stmt} {env : Scopes} {P : Known ℕ} {F : Known Scopes} {block n : ℕ} →
    Is (Var x) env m (Str block) → Is e env m (Num n) →
    (let ws : List Event = WritesCell block c (HoldsNumber n) ∷ [] in Acts calls (after ws m) rest env (wrote ws P) (wrote ws F)) → Acts calls m (SetCell x c e ∷ rest) env P F
number_cell_rule {c = c} {env = env} {P = P} {F} {block} {n} h k w = falls {P = P} {F = F} env (WritesCell block c (HoldsNumber n) ∷ []) refl refl (λ p. rw (h.is, k.is) refl) w

pub pointer_cell_rule : {calls : Calls} {m : Memory} {x c : Name} {e : Expr} {rest : List Stmt} {env : Scopes} {P : Known ℕ} {F : Known Scopes} {block b o : ℕ} →
    Is (Var x) env m (Str block) → Is e env m (Ptr b o) →
    (let ws : List Event = WritesCell block c (HoldsPointer b o) ∷ [] in Acts calls (after ws m) rest env (wrote ws P) (wrote ws F)) → Acts calls m (SetCell x c e ∷ rest) env P F
pointer_cell_rule {c = c} {env = env} {P = P} {F} {block} {b} {o} h k w = falls {P = P} {F = F} env (WritesCell block c (HoldsPointer b o) ∷ []) refl refl (λ p. rw (h.is, k.is) refl) w

pub writing : (P : Known ℕ) (F : Known Scopes) → Writing P F
writing P F = record { byte = store_rule; number_cell = number_cell_rule; pointer_cell = pointer_cell_rule }

-- ---- calls

meets_call : (p : Place) (r : Run) (on : Value → Scopes) (P Q : Known ℕ) (F : Known Scopes) → ((n : ℕ) (ws : List Event) (k : ℕ) → Q n ws k → F (on (Num n)) ws k) → Meets r Q Never → Meets (from_call p r (λ v. fall (on v))) P F
meets_call p (Returns n es) on P Q F h k = subst (λ (l : List Event). F (on (Num n)) (writes_of l) (steps_of l)) (sym (append-nil es)) (h n (writes_of es) (steps_of es) k)
meets_call p (Falls env es) on P Q F h k = absurd k
meets_call p (Stuck r i s es) on P Q F h k = k

pub call_rule : {calls : Calls} {m : Memory} {x g : Name} {args : List Expr} {rest : List Stmt} {env : Scopes} {P : Known ℕ} {F : Known Scopes} (vs : List Value) (Q : Known ℕ) → Hands args env m vs → Returns_with (calls g vs m) Q →
    ((n : ℕ) (ws : List Event) (k : ℕ) → Q n ws k → Acts calls (after ws m) rest (declare x (Num n) env) (behind ws k (step P)) (behind ws k (step F))) → Acts calls m (DeclNumber x (FromCall g args) ∷ rest) env P F
call_rule {calls} {m} {x} {g} {args} {rest} {env} {P} {F} vs Q h r w = begins (λ p.
    let Next : Known Scopes = λ e ws k. Acts calls (after ws m) rest e (behind ws k (step P)) (behind ws k (step F)) in
    subst (λ (run : Run). Meets run (step P) Next) (sym (h.hands p (λ us. from_call p (calls g us m) (λ v. fall (declare x v env))))) (meets_call p (calls g vs m) (λ v. declare x v env) (step P) Q Next w r.meets))

pub assign_call_rule : {calls : Calls} {m : Memory} {x g : Name} {args : List Expr} {rest : List Stmt} {env : Scopes} {P : Known ℕ} {F : Known Scopes} (vs : List Value) (Q : Known ℕ) → Hands args env m vs → Returns_with (calls g vs m) Q →
    ((n : ℕ) (ws : List Event) (k : ℕ) → Q n ws k → Acts calls (after ws m) rest (assign x (Num n) env) (behind ws k (step P)) (behind ws k (step F))) → Acts calls m (Assign x (FromCall g args) ∷ rest) env P F
assign_call_rule {calls} {m} {x} {g} {args} {rest} {env} {P} {F} vs Q h r w = begins (λ p.
    let Next : Known Scopes = λ e ws k. Acts calls (after ws m) rest e (behind ws k (step P)) (behind ws k (step F)) in
    subst (λ (run : Run). Meets run (step P) Next) (sym (h.hands p (λ us. from_call p (calls g us m) (λ v. fall (assign x v env))))) (meets_call p (calls g vs m) (λ v. assign x v env) (step P) Q Next w r.meets))

-- calls of functions that write nothing

unwritten : {calls : Calls} {m : Memory} {rest : List Stmt} (P : Known ℕ) (F : Known Scopes) (R : ℕ → ℕ → Type 0) (on : ℕ → Scopes) →
    ((n k : ℕ) → R n k → Acts calls m rest (on n) (λ r ws j. P r ws (suc (k + j))) (λ e ws j. F e ws (suc (k + j)))) →
    (n : ℕ) (ws : List Event) (k : ℕ) → (ws ≡ []) × R n k → Acts calls (after ws m) rest (on n) (behind ws k (step P)) (behind ws k (step F))
unwritten {calls} {m} {rest} P F R on w n ws k z = subst (λ (us : List Event). Acts calls (after us m) rest (on n) (behind us k (step P)) (behind us k (step F))) (sym z.0) (w n k z.1)

pub ask_rule : {calls : Calls} {m : Memory} {x g : Name} {args : List Expr} {rest : List Stmt} {env : Scopes} {P : Known ℕ} {F : Known Scopes} (vs : List Value) (R : ℕ → ℕ → Type 0) →
    Hands args env m vs → Returns_with (calls g vs m) (λ n ws k. (ws ≡ []) × R n k) →
    ((n k : ℕ) → R n k → Acts calls m rest (declare x (Num n) env) (λ r ws j. P r ws (suc (k + j))) (λ e ws j. F e ws (suc (k + j)))) → Acts calls m (DeclNumber x (FromCall g args) ∷ rest) env P F
ask_rule {x = x} {env = env} {P = P} {F = F} vs R h r w = call_rule vs (λ n ws k. (ws ≡ []) × R n k) h r (unwritten P F R (λ n. declare x (Num n) env) w)

pub assign_ask_rule : {calls : Calls} {m : Memory} {x g : Name} {args : List Expr} {rest : List Stmt} {env : Scopes} {P : Known ℕ} {F : Known Scopes} (vs : List Value) (R : ℕ → ℕ → Type 0) →
    Hands args env m vs → Returns_with (calls g vs m) (λ n ws k. (ws ≡ []) × R n k) →
    ((n k : ℕ) → R n k → Acts calls m rest (assign x (Num n) env) (λ r ws j. P r ws (suc (k + j))) (λ e ws j. F e ws (suc (k + j)))) → Acts calls m (Assign x (FromCall g args) ∷ rest) env P F
assign_ask_rule {x = x} {env = env} {P = P} {F = F} vs R h r w = assign_call_rule vs (λ n ws k. (ws ≡ []) × R n k) h r (unwritten P F R (λ n. assign x (Num n) env) w)

-- the same of functions that answer within so many steps
pub silent_quiet : {r : Run} {Q : ℕ → Type 0} {most : ℕ} → Returns_with r (Silent Q most) → Returns_with r (λ n ws k. (ws ≡ []) × ((Q n) × (k ≤ most)))
silent_quiet {r} {Q} {most} h = weaken_returns {r = r} {P = Silent Q most} {Q = λ n ws k. (ws ≡ []) × ((Q n) × (k ≤ most))} (λ n ws k z. (z.0, (z.1, z.2))) h

pub asking : (P : Known ℕ) (R : ℕ → ℕ → Type 0) (F : Known Scopes) → Asking P R F
asking P R F = record { number = λ vs. ask_rule vs R; assigned = λ vs. assign_ask_rule vs R }

meets_ended : (number : ℕ) (r : Run) (P : Known ℕ) → Meets r P Never → Meets (doing (Enters ∷ []) (ended number r)) P Never
meets_ended number (Returns n es) P h =
    let wrote_same : writes_of es ≡ writes_of (es ++ Leaves ∷ []) = sym (writes-append es (Leaves ∷ []) ∙ append-nil (writes_of es)) in
    let as_long : steps_of es ≡ steps_of (es ++ Leaves ∷ []) = omega (arith, steps-append es (Leaves ∷ [])) in
    subst (λ (k : ℕ). P n (writes_of (es ++ Leaves ∷ [])) k) as_long (subst (λ (ws : List Event). P n ws (steps_of es)) wrote_same h)
meets_ended number (Falls env es) P h = h
meets_ended number (Stuck r i s es) P h = h

pub called_rule : {calls : Calls} {m : Memory} {P : Known ℕ} (number : ℕ) (f : Function) (args : List Value) → Acts calls m f.body (frame_of f.params args ∷ []) P Never → Returns_with (called calls number f args m) P
called_rule {calls} {m} {P} number f args w =
    let first : Place = record { item = number; statement = 1 } in
    record { meets = meets_ended number (block calls f.body first (frame_of f.params args ∷ []) m) P (w.run first) }

pub calling : (P Q : Known ℕ) (F : Known Scopes) → Calling P Q F
calling P Q F = record { number = λ vs. call_rule vs Q; assigned = λ vs. assign_call_rule vs Q; function = called_rule }

-- ---- choices

meets_leaving : (r : Run) (m : Memory) (P : Known ℕ) (F : Known Scopes) → Meets r P (λ e ws k. F (leave e) ws k) → Meets (and_then r m (λ e m'. fall (leave e))) P F
meets_leaving (Returns n es) m P F h = h
meets_leaving (Falls env es) m P F h = subst (λ (l : List Event). F (leave env) (writes_of l) (steps_of l)) (sym (append-nil es)) h
meets_leaving (Stuck r i s es) m P F h = h

pub choice_rule : {calls : Calls} {m : Memory} {t : Expr} {ys ns rest : List Stmt} {env : Scopes} {P : Known ℕ} {F : Known Scopes} (b : Bool) (G : Known Scopes) → Is t env m (Truth b) →
    (b ≡ true → Acts calls m ys ([] ∷ env) (step P) (λ e ws k. G (leave e) ws k)) → (b ≡ false → Acts calls m ns ([] ∷ env) (step P) (λ e ws k. G (leave e) ws k)) →
    ((e : Scopes) (ws : List Event) (k : ℕ) → G e ws k → Acts calls (after ws m) rest e (behind ws k (step P)) (behind ws k (step F))) → Acts calls m (If t ys ns ∷ rest) env P F
choice_rule {calls} {m} {t} {ys} {ns} {rest} {env} {P} {F} true G v taken passed then_rest = begins (λ p.
    rw (does-If calls t ys ns p env m, v.is) (meets_leaving (block calls ys (shifted p 1) ([] ∷ env) m) m (step P) (λ e ws k. Acts calls (after ws m) rest e (behind ws k (step P)) (behind ws k (step F)))
    (weaker_run (block calls ys (shifted p 1) ([] ∷ env) m) (step P) (step P) (λ e ws k. G (leave e) ws k) (λ e ws k. Acts calls (after ws m) rest (leave e) (behind ws k (step P)) (behind ws k (step F))) (λ n ws k z. z) (λ e ws k z. then_rest (leave e) ws k z) ((taken refl).run (shifted p 1)))))
choice_rule {calls} {m} {t} {ys} {ns} {rest} {env} {P} {F} false G v taken passed then_rest = begins (λ p.
    let q : Place = shifted p (1 + count_all ys) in
    rw (does-If calls t ys ns p env m, v.is) (meets_leaving (block calls ns q ([] ∷ env) m) m (step P) (λ e ws k. Acts calls (after ws m) rest e (behind ws k (step P)) (behind ws k (step F)))
    (weaker_run (block calls ns q ([] ∷ env) m) (step P) (step P) (λ e ws k. G (leave e) ws k) (λ e ws k. Acts calls (after ws m) rest (leave e) (behind ws k (step P)) (behind ws k (step F))) (λ n ws k z. z) (λ e ws k z. then_rest (leave e) ws k z) ((passed refl).run q))))

pub last_rule : {calls : Calls} {m : Memory} {t : Expr} {ys ns : List Stmt} {env : Scopes} {P : Known ℕ} {F : Known Scopes} (b : Bool) → Is t env m (Truth b) →
    (b ≡ true → Acts calls m ys ([] ∷ env) (step P) (λ e ws k. F (leave e) ws (suc k))) → (b ≡ false → Acts calls m ns ([] ∷ env) (step P) (λ e ws k. F (leave e) ws (suc k))) → Acts calls m (If t ys ns ∷ []) env P F
last_rule {P = P} {F = F} b v taken passed = choice_rule {P = P} {F = F} b (λ e ws k. F e ws (suc k)) v taken passed (λ e ws k z. nothing (same_end F e ws k z))
  where
    same_end : (F : Known Scopes) (e : Scopes) (ws : List Event) (k : ℕ) → F e ws (suc k) → F e (ws ++ []) (suc (k + 0))
    same_end F e ws k z = let sum : suc k ≡ suc (k + 0) = omega arith in subst (λ (n : ℕ). F e (ws ++ []) n) sum (subst (λ (l : List Event). F e l (suc k)) (sym (append-nil ws)) z)

pub early_rule : {calls : Calls} {m : Memory} {t : Expr} {ys rest : List Stmt} {env : Scopes} {P : Known ℕ} {F : Known Scopes} (b : Bool) → Is t env m (Truth b) →
    (b ≡ true → Acts calls m ys ([] ∷ env) (step P) Never) → (b ≡ false → Acts calls m rest env (step P) (step F)) → Acts calls m (If t ys [] ∷ rest) env P F
early_rule true v taken passed = choice_rule true Never v (λ h. taken h) (λ h. absurd (cc h)) (λ e ws k z. absurd z)
early_rule {calls} {m} {t} {ys} {env = env} {P = P} {F} false v taken passed = quiet {P = P} {F = F} env (λ p. rw (does-If calls t ys [] p env m, v.is) refl) (passed refl)

pub guard_rule : {calls : Calls} {m : Memory} {t e : Expr} {rest : List Stmt} {env : Scopes} {P : Known ℕ} {F : Known Scopes} (b : Bool) (n : ℕ) → Is t env m (Truth b) → Is e ([] ∷ env) m (Num n) →
    (b ≡ true → P n [] 2) → (b ≡ false → Acts calls m rest env (step P) (step F)) → Acts calls m (If t (Return e ∷ []) [] ∷ rest) env P F
guard_rule b n v w taken passed = early_rule b v (λ h. return_rule w (taken h)) passed

pub choosing : (P : Known ℕ) (F G : Known Scopes) → Choosing P F G
choosing P F G = record { choice = λ b. choice_rule b G; last = last_rule; early = early_rule; guard = guard_rule }

-- chains of guards
pub chain_rule : {calls : Calls} {m : Memory} {env : Scopes} {P : Known ℕ} {F : Known Scopes} (cases : List Case) (n : ℕ) →
    map (λ c. value_of c.test env m) cases ≡ map (λ c. Gives (Truth c.holds)) cases → ((k : ℕ) → k ≤ length cases + 1 → P (decided cases n) [] k) → Acts calls m (guards cases n) env P F
unfolding exprs.shape-the_row-Expr-0 exprs.hidden-the_row-Expr-0 hidden
chain_rule [] n tells h = return_rule (record { is = refl }) (h 1 (omega arith))
chain_rule {calls} {m} {env} {P} {F} (c ∷ cases) n tells h =
    let first : value_of c.test env m ≡ Gives (Truth c.holds) = cc tells in
    let others : map (λ c. value_of c.test env m) cases ≡ map (λ c. Gives (Truth c.holds)) cases = cc tells in
    guard_rule {P = P} {F = F} c.holds c.answer (record { is = first }) (record { is = refl })
    (λ t. subst (λ (b : Bool). P (if b then c.answer else decided cases n) [] 2) t (h 2 (omega arith)))
    (λ t. chain_rule {P = step P} {F = step F} cases n others (λ k le. subst (λ (b : Bool). P (if b then c.answer else decided cases n) [] (suc k)) t (h (suc k) (omega (arith, le)))))

pub deciding : (P : Known ℕ) (F : Known Scopes) → Deciding P F
deciding P F = record { chain = chain_rule }

-- ---- one body behind another

pub joined_rule : {calls : Calls} {m : Memory} {xs ys : List Stmt} {env : Scopes} {P : Known ℕ} {F : Known Scopes} (G : Known Scopes) →
    Acts calls m xs env P G → ((e : Scopes) (ws : List Event) (k : ℕ) → G e ws k → Acts calls (after ws m) ys e (behind ws k P) (behind ws k F)) → Acts calls m (xs ++ ys) env P F
joined_rule {calls} {m} {xs} {ys} {env} {P} {F} G h rest = record { run = λ q. goes xs m env P F q (weaker_run (block calls xs q env m) P P G (Then m P F) (λ n ws k z. z) rest (h.run q)) }
  where
    Then : Memory → Known ℕ → Known Scopes → Known Scopes
    Then m P F e ws k = Acts calls (after ws m) ys e (behind ws k P) (behind ws k F)

    more : {X : Type 0} (R : Known X) (x : X) (ws vs us : List Event) (k j i : ℕ) → R x ((ws ++ vs) ++ us) (suc (k + j) + i) → R x (ws ++ (vs ++ us)) (suc (k + (j + i)))
    more R x ws vs us k j i z =
        let sum : suc (k + j) + i ≡ suc (k + (j + i)) = omega arith in
        subst (λ (n : ℕ). R x (ws ++ (vs ++ us)) n) sum (subst (λ (l : List Event). R x l (suc (k + j) + i)) (append_assoc ws vs us) z)

    further : (m : Memory) (P : Known ℕ) (F : Known Scopes) (ws : List Event) (k : ℕ) (e : Scopes) (vs : List Event) (j : ℕ) → behind ws k (step (Then m P F)) e vs j → Then (after ws m) (behind ws k (step P)) (behind ws k (step F)) e vs j
    further m P F ws k e vs j z =
        let there : Acts calls (after vs (after ws m)) ys e (behind (ws ++ vs) (suc (k + j)) P) (behind (ws ++ vs) (suc (k + j)) F) =
        subst (λ (n : Memory). Acts calls n ys e (behind (ws ++ vs) (suc (k + j)) P) (behind (ws ++ vs) (suc (k + j)) F)) (after-append ws vs m) z in
        weaken (λ n us i y. more P n ws vs us k j i y) (λ n us i y. more F n ws vs us k j i y) there

    goes : (xs : List Stmt) (m : Memory) (env : Scopes) (P : Known ℕ) (F : Known Scopes) (q : Place) → Meets (block calls xs q env m) P (Then m P F) → Meets (block calls (xs ++ ys) q env m) P F
    goes [] m env P F q h = weaker_run (block calls ys q env m) (behind [] 0 P) P (behind [] 0 F) F
        (λ n ws k z. let sum : 0 + k ≡ k = omega arith in subst (λ (j : ℕ). P n ws j) sum z) (λ e ws k z. let sum : 0 + k ≡ k = omega arith in subst (λ (j : ℕ). F e ws j) sum z) (h.run q)
    goes (s ∷ xs) m env P F q h =
        let next : List Stmt → Scopes → Memory → Run = λ l. block calls l (shifted q (count_of s)) in
        let r : Run = does calls s q env m in
        let parts : Meets r (step P) (Rest m (next xs) (step P) (step (Then m P F))) =
        then_meets r m (next xs) (step P) (step (Then m P F)) (step_meets (and_then r m (next xs)) P (Then m P F) h) in
        let all : Meets r (step P) (Rest m (next (xs ++ ys)) (step P) (step F)) =
        weaker_run r (step P) (step P) (Rest m (next xs) (step P) (step (Then m P F))) (Rest m (next (xs ++ ys)) (step P) (step F)) (λ n ws k z. z)
        (λ e ws k z. goes xs (after ws m) e (behind ws k (step P)) (behind ws k (step F)) (shifted q (count_of s))
        (weaker_run (next xs e (after ws m)) (behind ws k (step P)) (behind ws k (step P)) (behind ws k (step (Then m P F))) (Then (after ws m) (behind ws k (step P)) (behind ws k (step F))) (λ n vs j y. y) (further m P F ws k) z)) parts in
        meets_step (and_then r m (next (xs ++ ys))) P F (meets_then r m (next (xs ++ ys)) (step P) (step F) all)

pub sequences : (P : Known ℕ) (F G : Known Scopes) → Sequences P F G
sequences P F G = record { nothing = nothing; return_rule = return_rule; joined = joined_rule G }
