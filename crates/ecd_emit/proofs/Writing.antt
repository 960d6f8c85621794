-- What code writes, statement by statement, and what the writes make of a block.
use Rattle.std.proofs.Common.{◌≡◌, ℕ, zero, suc, ◌+◌, ◌%◌, ◌<◌, ◌≤◌, List, [], ◌∷◌, ◌++◌, length, refl, ap, sym, subst, ◌∙◌, arith, Bool, true, false, take, drop, append_assoc, append-nil}
use Rattle.std.specs.Prelude.{Some, slice_get, slice_set}
use Rattle.std.proofs.lemmas.Bool.{lt-ltb}
use Rattle.std.proofs.lemmas.List.{length-set, take-append-drop, take_more_set, drop-set-lt}
use Rattle.ecd_cast.specs.declared.tree.Expr.{Expr}
use Rattle.ecd_cast.specs.declared.tree.Stmt.{Stmt}
use Rattle.ecd_cast.specs.declared.tree.Stmt.TheVariants.{Number as DeclNumber, Store, If, Return}
use Rattle.ecd_cast.specs.declared.tree.Source.TheVariants.{Value as FromValue, Call as FromCall}
use Rattle.ecd_cast.specs.declared.tree.Function.{Function}
use Rattle.ecd_cast.specs.declared.value.Value.{Value}
use Rattle.ecd_cast.specs.declared.value.Value.TheVariants.{Number as Num, Bytes as Ptr}
use Rattle.ecd_cast.specs.Memory.{Name, Memory, Bytes, Event, WritesByte, after, event}
use Rattle.ecd_cast.specs.Expressions.{Scopes, lookup, given, Gives}
use Rattle.ecd_cast.specs.Meaning.{Calls, Place, block, does, called, frame_of, shifted, count_of, declare}
use Rattle.ecd_calculus.specs.Ends.{Ends, Behind, With, Does}
use Rattle.ecd_calculus.specs.Rules.{Is, Tells, Hands}
use Rattle.ecd_calculus.proofs.Calculus.{block_falls, block_returns, call_declares, returns_scoped, ends_called, ends_within, fall_ends}
use Rattle.ecd_cast.proofs.Layers.{does-If}
use Rattle.ecd_emit.specs.Writes.{Room, puts, PutsAreWritten}

-- ---- statements

-- the statements return this number, write exactly these, and take at most so many steps
pub record Writes (calls : Calls) (m : Memory) (body : List Stmt) (env : Scopes) (n : ℕ) (ws : List Event) (most : ℕ) : Type 0 where
  pub run : (q : Place) → Ends (block calls body q env m) (With n) ws most

module _ {calls : Calls} {m : Memory} where
  pub writes_within : {body : List Stmt} {env : Scopes} {n : ℕ} {ws : List Event} (a b : ℕ) → a ≤ b → Writes calls m body env n ws a → Writes calls m body env n ws b
  writes_within {body} {env} {n} {ws} a b le h = record { run = λ q. ends_within (block calls body q env m) (With n) ws a b le (h.run q) }

  -- the same answer and the same writes, told in other words
  pub writes_as : {body : List Stmt} {env : Scopes} {n n' : ℕ} {ws ws' : List Event} {most : ℕ} → n ≡ n' → ws ≡ ws' → Writes calls m body env n ws most → Writes calls m body env n' ws' most
  writes_as {body} {env} {n} {n'} {ws} {ws'} {most} e f h = subst (λ (k : ℕ). Writes calls m body env k ws' most) e (subst (λ (us : List Event). Writes calls m body env n us most) f h)

  pub return_writes : {e : Expr} {rest : List Stmt} {env : Scopes} {n : ℕ} → Is e env m n → Writes calls m (Return e ∷ rest) env n [] 1
  return_writes {e} {rest} {env} {n} v = record {
    run = λ p.
        let here : Ends (does calls (Return e) p env m) (With n) [] 0 = rw v.is (record { events = []; is = refl; wrote = refl; short = omega arith }) in
        block_returns calls (Return e) rest p env m n [] 0 here;
  }

  pub let_writes : {x : Name} {e : Expr} {rest : List Stmt} {env : Scopes} {j n : ℕ} {ws : List Event} {k : ℕ} → Is e env m j → Writes calls m rest (declare x (Num j) env) n ws k → Writes calls m (DeclNumber x (FromValue e) ∷ rest) env n ws (suc k)
  let_writes {x} {e} {rest} {env} {j} {n} {ws} {k} v w = record {
    run = λ p.
        let here : Ends (does calls (DeclNumber x (FromValue e)) p env m) (Behind (declare x (Num j) env)) [] 0 = rw v.is (fall_ends (declare x (Num j) env)) in
        ends_within _ (With n) ws (suc (0 + k)) (suc k) (omega arith) (block_falls calls (DeclNumber x (FromValue e)) rest p env m (declare x (Num j) env) (With n) [] ws 0 k here (w.run (shifted p (count_of (DeclNumber x (FromValue e))))));
  }

  -- `x[i] = (uint8_t)e;`
  pub store_writes : {x : Name} {i e : Expr} {rest : List Stmt} {env : Scopes} {n : ℕ} {ws : List Event} {k : ℕ} (block offset j b place byte : ℕ) (whole : List ℕ) →
      given (lookup env x) ≡ Gives (Ptr block offset) → Is i env m j → Is e env m b → slice_get m block ≡ Some (Bytes whole) → offset + j ≡ place → place < length whole → b % 256 ≡ byte →
      Writes calls (event (WritesByte block place byte) m) rest env n ws k → Writes calls m (Store x i e ∷ rest) env n (WritesByte block place byte ∷ ws) (suc k)
  store_writes {x} {i} {e} {rest} {env} {n} {ws} {k} b offset j v place byte whole p vi ve there at lt low w = record {
    run = λ q.
        let inside = lt-ltb place (length whole) lt in
        let here : Ends (does calls (Store x i e) q env m) (Behind env) (WritesByte b place byte ∷ []) 0 = rw (p, vi.is, ve.is, there, at, inside, low) (record { events = WritesByte b place byte ∷ []; is = refl; wrote = refl; short = omega arith }) in
        ends_within _ (With n) (WritesByte b place byte ∷ ws) (suc (0 + k)) (suc k) (omega arith) (block_falls calls (Store x i e) rest q env m env (With n) (WritesByte b place byte ∷ []) ws 0 k here (w.run (shifted q (count_of (Store x i e)))));
  }

  -- `uint64_t x = g(args);`
  pub call_writes : {x g : Name} {args : List Expr} {rest : List Stmt} {env : Scopes} {n : ℕ} {ws : List Event} {c k : ℕ} (vs : List Value) (r : ℕ) (us : List Event) → Hands args env m vs → Does (calls g vs m) r us c →
      Writes calls (after us m) rest (declare x (Num r) env) n ws k → Writes calls m (DeclNumber x (FromCall g args) ∷ rest) env n (us ++ ws) (suc (c + k))
  call_writes {x} {g} {args} {rest} {env} {n} {ws} {c} {k} vs r us h d w = record {
    run = λ p. block_falls calls (DeclNumber x (FromCall g args)) rest p env m (declare x (Num r) env) (With n) us ws c k (call_declares calls x g args p env m r vs us c (h.hands p) d) (w.run (shifted p (count_of (DeclNumber x (FromCall g args)))));
  }

  -- `if t { ys } else { }`, whose first block returns
  pub if_writes : {t : Expr} {ys rest : List Stmt} {env : Scopes} {n : ℕ} {ws : List Event} {k : ℕ} (b : Bool) → Tells t env m b → (b ≡ true → Writes calls m ys ([] ∷ env) n ws k) → (b ≡ false → Writes calls m rest env n ws k) →
      Writes calls m (If t ys [] ∷ rest) env n ws (suc k)
  if_writes {t} {ys} {rest} {env} {n} {ws} {k} true v taken passed =
      let w = taken refl in
      record {
        run = λ p.
            let here : Ends (does calls (If t ys []) p env m) (With n) ws k = rw (does-If calls t ys [] p env m, v.tells) (returns_scoped (block calls ys (shifted p 1)) env m n ws k (w.run (shifted p 1))) in
            block_returns calls (If t ys []) rest p env m n ws k here;
      }
  if_writes {t} {ys} {rest} {env} {n} {ws} {k} false v taken passed =
      let w = passed refl in
      record {
        run = λ p.
            let here : Ends (does calls (If t ys []) p env m) (Behind env) [] 0 = rw (does-If calls t ys [] p env m, v.tells) (fall_ends env) in
            ends_within _ (With n) ws (suc (0 + k)) (suc k) (omega arith) (block_falls calls (If t ys []) rest p env m env (With n) [] ws 0 k here (w.run (shifted p (count_of (If t ys [])))));
      }

pub called_writes : (calls : Calls) (m : Memory) (at : ℕ) (f : Function) (args : List Value) (n : ℕ) (ws : List Event) (most : ℕ) → Writes calls m f.body (frame_of f.params args ∷ []) n ws most → Does (called calls at f args m) n ws most
called_writes calls m at f args n ws most w = ends_called calls at f args m n ws most (w.run (record { item = at; statement = 1 }))

-- ---- what the writes make of a block

pub puts-append : (block from : ℕ) (a b : List ℕ) → puts block from (a ++ b) ≡ puts block from a ++ puts block (from + length a) b
puts-append block from [] b = let same : from ≡ from + 0 = omega arith in ap (λ (k : ℕ). puts block k b) same
puts-append block from (x ∷ a) b =
    let same : from + 1 + length a ≡ from + suc (length a) = omega arith in
    ap (λ l. WritesByte block from x ∷ l) (puts-append block (from + 1) a b ∙ ap (λ (k : ℕ). puts block (from + 1) a ++ puts block k b) same)

pub get_set : {X : Type 0} (xs : List X) (k : ℕ) (x y : X) → slice_get xs k ≡ Some x → slice_get (slice_set xs k y) k ≡ Some y
get_set [] k x y e = absurd cc
get_set (z ∷ zs) zero x y e = refl
get_set (z ∷ zs) (suc k) x y e = get_set zs k x y e

set_same : {X : Type 0} (xs : List X) (k : ℕ) (x : X) → slice_get xs k ≡ Some x → slice_set xs k x ≡ xs
set_same [] k x e = absurd cc
set_same (z ∷ zs) zero x e = let same : z ≡ x = cc in ap (λ w. w ∷ zs) (sym same)
set_same (z ∷ zs) (suc k) x e = ap (λ ws. z ∷ ws) (set_same zs k x e)

set_twice : {X : Type 0} (xs : List X) (k : ℕ) (x y : X) → slice_set (slice_set xs k x) k y ≡ slice_set xs k y
set_twice [] k x y = refl
set_twice (z ∷ zs) zero x y = refl
set_twice (z ∷ zs) (suc k) x y = ap (λ ws. z ∷ ws) (set_twice zs k x y)

-- one byte that is written
pub one_put : (block from byte : ℕ) (whole : List ℕ) (m : Memory) → slice_get m block ≡ Some (Bytes whole) → event (WritesByte block from byte) m ≡ slice_set m block (Bytes (slice_set whole from byte))
one_put block from byte whole m there = rw there refl

pub puts_are_written : PutsAreWritten
puts_are_written block from [] whole m there fits =
    let same : from ≡ from + 0 = omega arith in
    let made : whole ≡ take from whole ++ [] ++ drop (from + 0) whole =
    sym (take-append-drop from whole) ∙ (ap (λ (k : ℕ). take from whole ++ drop k whole) same ∙ ap (λ l. l ++ drop (from + 0) whole) (sym (append-nil (take from whole)))) in
    (whole, sym (set_same m block (Bytes whole) there), record { fits = fits; made = made })
puts_are_written block from (x ∷ xs) whole m there fits =
    let put : List ℕ = slice_set whole from x in
    let next : Memory = event (WritesByte block from x) m in
    let one : next ≡ slice_set m block (Bytes put) = one_put block from x whole m there in
    let here : slice_get next block ≡ Some (Bytes put) = rw one (get_set m block (Bytes whole) (Bytes put) there) in
    let long : length put ≡ length whole = length-set whole from x in
    let rest = puts_are_written block (from + 1) xs put next here (omega (arith, long, fits)) in
    let new : List ℕ = rest.0 in
    let became : slice_set next block (Bytes new) ≡ slice_set m block (Bytes new) = ap (λ (k : Memory). slice_set k block (Bytes new)) one ∙ set_twice m block (Bytes put) (Bytes new) in
    let front : take (from + 1) put ≡ take from whole ++ x ∷ [] = take_more_set whole from x (omega (arith, fits)) in
    let back : drop (from + 1 + length xs) put ≡ drop (from + 1 + length xs) whole = drop-set-lt (from + 1 + length xs) whole from x (omega arith) in
    let place : from + 1 + length xs ≡ from + suc (length xs) = omega arith in
    let made : new ≡ take from whole ++ (x ∷ xs) ++ drop (from + suc (length xs)) whole =
    rest.2.made ∙ (ap (λ l. l ++ xs ++ drop (from + 1 + length xs) put) front ∙ (ap (λ l. l ++ drop (from + 1 + length xs) put) (append_assoc (take from whole) (x ∷ []) xs) ∙
    (ap (λ l. take from whole ++ (x ∷ xs) ++ l) back ∙ ap (λ (k : ℕ). take from whole ++ (x ∷ xs) ++ drop k whole) place))) in
    (new, rest.1 ∙ became, record { fits = fits; made = made })

-- ---- room

module _ {m : Memory} {block offset at count : ℕ} (r : Room m block offset at count) where
  -- a part of it
  pub room_part : (at' count' : ℕ) → at ≤ at' → at' + count' ≤ at + count → Room m block offset at' count'
  room_part at' count' le fits = record { whole = r.whole; there = r.there; fits = omega (arith, r.fits); short = omega (arith, r.short) }

  -- what is written to the block leaves it
  pub room_after : (from : ℕ) (bytes : List ℕ) → Room (after (puts block from bytes) m) block offset at count
  room_after from bytes =
      let k = kept from bytes m r.whole r.there in
      record { whole = k.0; there = k.1; fits = omega (arith, k.2, r.fits); short = r.short }
    where
      kept : (from : ℕ) (bytes : List ℕ) (m : Memory) (whole : List ℕ) → slice_get m block ≡ Some (Bytes whole) → (new : List ℕ) × (slice_get (after (puts block from bytes) m) block ≡ Some (Bytes new)) × (length new ≡ length whole)
      kept from [] m whole there = (whole, there, refl)
      kept from (x ∷ xs) m whole there =
          let put : List ℕ = slice_set whole from x in
          let here : slice_get (event (WritesByte block from x) m) block ≡ Some (Bytes put) = rw (one_put block from x whole m there) (get_set m block (Bytes whole) (Bytes put) there) in
          let k = kept (from + 1) xs (event (WritesByte block from x) m) put here in
          (k.0, k.1, k.2 ∙ length-set whole from x)
