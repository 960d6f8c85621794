-- Statements that write.
use Rattle.std.proofs.Common.{◌≡◌, ℕ, ◌+◌, ◌%◌, Bool, true, false, List, [], ◌∷◌, ◌++◌, length, take, drop, refl, ap, sym, subst, ◌∙◌}
use Rattle.std.specs.Prelude.{Option, Some, None, Result, Ok, Err, slice_get, nat_lt, if◌then◌else◌}
use Rattle.ecd_cast.specs.declared.tree.Expr.{Expr}
use Rattle.ecd_cast.specs.declared.tree.Stmt.TheVariants.{Store, SetCell}
use Rattle.ecd_cast.specs.declared.value.Value.{Value}
use Rattle.ecd_cast.specs.declared.value.Value.TheVariants.{Number as Num, Bytes as Ptr, Struct as Str}
use Rattle.ecd_cast.specs.declared.value.Cell.{Cell}
use Rattle.ecd_cast.specs.declared.value.Cell.TheVariants.{Number as HoldsNumber, Bytes as HoldsPointer}
use Rattle.ecd_cast.specs.Memory.{Name, Memory, Block, Bytes, Cells, Event, Step, WritesByte, WritesCell, steps_of}
use Rattle.ecd_cast.specs.Expressions.{Outcome, Gives, Fails, Scopes, lookup, given, value_of}
use Rattle.ecd_cast.specs.Meaning.{Run, Falls, Calls, Place, doing, does, with, write, stuck, store, store_in, set_cell}
use Rattle.std.proofs.lemmas.List.{length-map}
use Rattle.ecd_ceval.specs.declared.blocks.Held.{Held}
use Rattle.ecd_ceval.specs.Blocks.{lasting_of}
use Rattle.ecd_ceval.proofs.Following.{written_items}
use Rattle.ecd_ceval.specs.declared.stop.Flow.TheVariants as flow
use Rattle.ecd_ceval.specs.declared.state.State.{State}
use Rattle.ecd_ceval.specs.Steps.{Passes}
use Rattle.ecd_ceval.specs.Writes.{IsWritten, stored, stored_in}
use Rattle.ecd_ceval.specs.Targets.{or_reason, byte_stored, cell_stored, cell_for}
use Rattle.ecd_ceval.specs.Following.{Follows, begun, memory_in}

module _ (p : Place) (m : Memory) (env : Scopes) (ev : Event) where
  chosen : (b : Bool) (x : Event) → if◌then◌else◌ {A = Result Event ℕ} b (Ok x) (Err 2) ≡ Ok ev → (if b then write env x else stuck p 2) ≡ Falls env (ev ∷ [])
  chosen true x h = let e : x ≡ ev = cc in ap (λ y. Falls env (y ∷ [])) e
  chosen false x h = absurd cc

  in_block : (o : Option Block) (block at n : ℕ) → stored_in o block at n ≡ Ok ev → store_in p o block at n env ≡ Falls env (ev ∷ [])
  in_block (Some (Bytes bytes)) block at n h = chosen (nat_lt at (length bytes)) (WritesByte block at (n % 256)) h
  in_block (Some (Cells cells)) block at n h = absurd cc
  in_block None block at n h = absurd cc

  by_values : (q j v : Value) → stored m q j v ≡ Ok ev → store p m q j v env ≡ Falls env (ev ∷ [])
  by_values (Ptr block offset) (Num i) (Num n) h = in_block (slice_get m block) block (offset + i) n h
  by_values a b c h = absurd cc

  by_outcomes : (a b c : Outcome) → or_reason a (λ q. or_reason b (λ j. or_reason c (λ v. stored m q j v))) ≡ Ok ev → with p a (λ q. with p b (λ j. with p c (λ v. store p m q j v env))) ≡ Falls env (ev ∷ [])
  by_outcomes (Gives q) (Gives j) (Gives v) h = by_values q j v h
  by_outcomes (Gives q) (Gives j) (Fails r) h = absurd cc
  by_outcomes (Gives q) (Fails r) c h = absurd cc
  by_outcomes (Fails r) b c h = absurd cc

  store_run : (calls : Calls) (x : Name) (i e : Expr) → byte_stored x i e env m ≡ Ok ev → does calls (Store x i e) p env m ≡ Falls env (ev ∷ [])
  store_run calls x i e h = by_outcomes (given (lookup env x)) (value_of i env m) (value_of e env m) h

module _ (p : Place) (m : Memory) (env : Scopes) (block : ℕ) (to : Cell) (x : Name) where
  by : (w : ℕ × Cell) → ◌≡◌ {A = Result (ℕ × Cell) ℕ} (Ok w) (Ok (block, to)) → Falls env (WritesCell w.0 x w.1 ∷ []) ≡ Falls env (WritesCell block x to ∷ [])
  by w h = let e : w ≡ (block, to) = cc in ap (λ y. Falls env (WritesCell y.0 x y.1 ∷ [])) e

  for_values : (q v : Value) → cell_for q v ≡ Ok (block, to) → set_cell p q x v env ≡ Falls env (WritesCell block x to ∷ [])
  for_values (Str b) (Num n) h = by (b, HoldsNumber n) h
  for_values (Str b) (Ptr c o) h = by (b, HoldsPointer c o) h
  for_values a b h = absurd cc

  for_outcomes : (a b : Outcome) → or_reason a (λ q. or_reason b (λ v. cell_for q v)) ≡ Ok (block, to) → with p a (λ q. with p b (λ v. set_cell p q x v env)) ≡ Falls env (WritesCell block x to ∷ [])
  for_outcomes (Gives q) (Gives v) h = for_values q v h
  for_outcomes (Gives q) (Fails r) h = absurd cc
  for_outcomes (Fails r) b h = absurd cc

  cell_run : (calls : Calls) (y : Name) (e : Expr) → cell_stored y e env m ≡ Ok (block, to) → does calls (SetCell y x e) p env m ≡ Falls env (WritesCell block x to ∷ [])
  cell_run calls y e h = for_outcomes (given (lookup env y)) (value_of e env m) h

-- a step, and a write
written : (r : Run) (e : Event) (env : Scopes) (old new : State) → steps_of (e ∷ []) ≡ 0 → r ≡ Falls env (e ∷ []) → IsWritten e old.blocks.items new.blocks.items → Passes old.meter 1 new.meter → Follows (doing (Step ∷ []) r) (Ok flow.Falls) env old new
written r e env old new none h w k =
    subst (λ (x : Run). Follows (doing (Step ∷ []) x) (Ok flow.Falls) env old new) (sym h)
    (record { by = (refl, record { memory = w.memory; meter = subst (λ n. Passes old.meter (1 + n) new.meter) (sym none) k; lasting = w.lasting; kept = w.kept }) })

pub byte_stores : (calls : Calls) (x : Name) (i e : Expr) (p : Place) (env : Scopes) (old new : State) (block at byte : ℕ) → byte_stored x i e env (memory_in old) ≡ Ok (WritesByte block at byte) →
    IsWritten (WritesByte block at byte) old.blocks.items new.blocks.items → Passes old.meter 1 new.meter → Follows (begun calls (Store x i e) p env (memory_in old)) (Ok flow.Falls) env old new
byte_stores calls x i e p env old new block at byte h w k =
    written (does calls (Store x i e) p env (memory_in old)) (WritesByte block at byte) env old new refl (store_run p (memory_in old) env (WritesByte block at byte) calls x i e h) w k

pub cell_sets : (calls : Calls) (x c : Name) (e : Expr) (p : Place) (env : Scopes) (old new : State) (block : ℕ) (to : Cell) → cell_stored x e env (memory_in old) ≡ Ok (block, to) →
    IsWritten (WritesCell block c to) old.blocks.items new.blocks.items → Passes old.meter 1 new.meter → Follows (begun calls (SetCell x c e) p env (memory_in old)) (Ok flow.Falls) env old new
cell_sets calls x c e p env old new block to h w k =
    written (does calls (SetCell x c e) p env (memory_in old)) (WritesCell block c to) env old new refl (cell_run p (memory_in old) env block to c calls x e h) w k

-- blocks that are written back into their place
pub put_back : (e : Event) (n : ℕ) (old new : List Held) → IsWritten e old new → length old ≡ n → IsWritten e old (take n (new ++ drop (length new) old))
put_back e n old new w h =
    let long : length new ≡ n = sym (length-map new lasting_of) ∙ (ap length w.lasting ∙ (length-map old lasting_of ∙ h)) in
    subst (λ (l : List Held). IsWritten e old l) (sym (written_items n new old long h)) w
