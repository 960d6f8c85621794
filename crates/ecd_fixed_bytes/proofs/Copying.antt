-- What the function that copies bytes does, and that it is valid behind any items.
use Rattle.std.proofs.Common.{◌≡◌, ℕ, zero, suc, ◌+◌, ◌*◌, ◌%◌, ◌<◌, List, [], ◌∷◌, ◌++◌, length, refl, ap, sym, ◌∙◌, subst, arith, drop, get_or, add-one, append-nil, rules}
use Rattle.std.specs.Prelude.{codes, ◌≢◌, Some, slice_get, slice_set}
use Rattle.std.proofs.Math.Nat.{mod-eq_of_lt}
use Rattle.std.proofs.lemmas.Bool.{lt-ltb}
use Rattle.std.proofs.lemmas.List.{drop_all, length-set}
use denote.Hole.Carrier.{hidden}
use Rattle.ecd_cast.specs.declared.tree.Expr.TheBlock as exprs
use Rattle.ecd_cast.specs.declared.tree.Stmt.TheBlock as stmts
use Rattle.ecd_cast.specs.declared.tree.Expr.TheVariants.{Var, Load, Binary}
use Rattle.ecd_cast.specs.declared.tree.Op.TheVariants.{Add}
use Rattle.ecd_cast.specs.declared.tree.Stmt.TheVariants.{Store, Return}
use Rattle.ecd_cast.specs.declared.tree.CItem.{CItem}
use Rattle.ecd_cast.specs.declared.tree.CItem.TheVariants.{Function as AFunction}
use Rattle.ecd_cast.specs.declared.value.Value.{Value}
use Rattle.ecd_cast.specs.declared.value.Value.TheVariants.{Number as Num, Bytes as Ptr}
use Rattle.ecd_cast.specs.Memory.{Memory, Bytes, Event, WritesByte, after}
use Rattle.ecd_cast.specs.Expressions.{Scopes, modulus}
use Rattle.ecd_cast.specs.Meaning.{Calls, Place, called, calls_of, does, shifted, count_of}
use Rattle.ecd_cast.specs.Kept.{IsNew}
use Rattle.ecd_calculus.specs.Laws.{written, TurnsFall}
use Rattle.ecd_cast.specs.Validity.{IsValidAfter}
use Rattle.ecd_cast.specs.Spelling.{IsSpelledItem}
use Rattle.ecd_calculus.specs.Ends.{Ends, Behind, With, Does}
use Rattle.ecd_calculus.proofs.Calculus.{block_falls, ends_within, fall_ends}
use Rattle.ecd_calculus.proofs.Frame.{after_other}
use Rattle.ecd_calculus.proofs.Loops.{loop_falls}
use Rattle.ecd_emit.specs.Variables as v
use Rattle.ecd_emit.specs.Windows.{Window}
use Rattle.ecd_emit.specs.Writes.{Room, puts}
use Rattle.ecd_fixed_bytes.specs.Copier.{copy_bytes, copy_turn, copy_turns, CopiesBytes}
use Rattle.ecd_emit.specs.Among.{IsAmong}
use Rattle.ecd_emit.proofs.Windows.{small, long, one_byte, from_at}
use Rattle.ecd_emit.specs.Among.{IsFree}
use Rattle.ecd_emit.proofs.Placed.{last_call, free_of, named_behind}
use Rattle.ecd_emit.proofs.Writing.{Writes, writes_as, return_writes, called_writes, one_put, get_set}

-- ---- the body

module _ (calls : Calls) (k target offset at other other_offset count : ℕ) (m : Memory) (bytes : List ℕ) (apart : other ≢ target) (w : Window m other other_offset count bytes) (r : Room m target offset at count) where
  abbrev handed : List Value
  handed = Ptr target offset ∷ Num at ∷ Ptr other other_offset ∷ Num count ∷ []

  abbrev scopes : Scopes
  scopes = ((v.out, Ptr target offset) ∷ (v.at, Num at) ∷ (v.from, Ptr other other_offset) ∷ (v.count, Num count) ∷ []) ∷ []

  -- what each turn writes, and the memory before it
  abbrev put : ℕ → List Event
  put i = WritesByte target (offset + at + i) (get_or bytes i 0) ∷ []

  abbrev before : ℕ → Memory
  before zero = m
  before (suc i) = after (put i) (before i)

  -- the bytes that are copied stay, and the block that is written to keeps its length
  stays : (i : ℕ) → (slice_get (before i) other ≡ Some (Bytes w.whole)) × (new : List ℕ) × (slice_get (before i) target ≡ Some (Bytes new)) × (length new ≡ length r.whole)
  stays zero = (w.there, r.whole, r.there, refl)
  stays (suc i) =
      let s = stays i in
      let new : List ℕ = s.1 in
      let next : List ℕ = slice_set new (offset + at + i) (get_or bytes i 0) in
      let one : after (put i) (before i) ≡ slice_set (before i) target (Bytes next) = one_put target (offset + at + i) (get_or bytes i 0) new (before i) s.2 in
      (after_other (put i) other (before i) ((λ e. apart (sym e)), tt) ∙ s.0, next, rw one (get_set (before i) target (Bytes new) (Bytes next) s.2), length-set new (offset + at + i) (get_or bytes i 0) ∙ s.3)

  stores : (p : Place) (i : ℕ) → i < count → Ends (does calls (Store v.out (Binary Add (Var v.at) (Var v.i)) (Load v.from (Var v.i))) p (((v.i, Num i) ∷ []) ∷ scopes) (before i)) (Behind (((v.i, Num i) ∷ []) ∷ scopes)) (put i) 0
  unfolding exprs.shape-the_row-Expr-0 exprs.hidden-the_row-Expr-0 hidden
  stores p i lt =
      let s = stays i in
      let sum : (at + i) % modulus ≡ at + i = small (at + i) (omega (arith, r.short)) in
      let low : get_or bytes i 0 % 256 ≡ get_or bytes i 0 = mod-eq_of_lt (w.each i) in
      let place : offset + (at + i) ≡ offset + at + i = omega arith in
      let inside = lt-ltb (offset + at + i) (length s.1) (omega (arith, s.3, r.fits)) in
      rw (sum, s.0, one_byte w i lt, s.2, place, inside, low) (record { events = put i; is = refl; wrote = refl; short = omega arith })

  turn : (p : Place) → TurnsFall calls v.i copy_turn p (λ i. scopes) before put count 1
  turn p i lt =
      let inner : Scopes = ((v.i, Num i) ∷ []) ∷ scopes in
      let next : before (i + 1) ≡ after (put i) (before i) = ap (λ (x : ℕ). before x) (add-one i) in
      (next, ((v.i, Num i) ∷ [], block_falls calls (Store v.out (Binary Add (Var v.at) (Var v.i)) (Load v.from (Var v.i))) [] p inner (before i) inner (Behind inner) (put i) [] 0 0 (stores p i lt) (fall_ends inner)))

  -- all turns write the bytes, one behind the other
  written_is : (left i : ℕ) → i + left ≡ count → written put i left ≡ puts target (offset + at + i) (drop i bytes)
  written_is zero i e =
      let none : drop i bytes ≡ [] = drop_all i bytes (omega (arith, long w)) in
      rw none refl
  written_is (suc left) i e =
      let here : drop i bytes ≡ get_or bytes i 0 ∷ drop (i + 1) bytes = rw add-one (from_at w i (omega arith)) in
      let place : offset + at + (i + 1) ≡ offset + at + i + 1 = omega arith in
      rw here (ap (λ ws. WritesByte target (offset + at + i) (get_or bytes i 0) ∷ ws) (written_is left (i + 1) (omega arith) ∙ ap (λ (x : ℕ). puts target x (drop (i + 1) bytes)) place))

  pub copies : Does (called calls k copy_bytes handed m) (at + count) (puts target (offset + at) bytes) (2 * (count + 1))
  unfolding copy_bytes exprs.shape-the_row-Expr-0 exprs.hidden-the_row-Expr-0 hidden
  copies =
      let sum : (at + count) % modulus ≡ at + count = small (at + count) (omega (arith, r.short)) in
      let first : offset + at + 0 ≡ offset + at = omega arith in
      let all : written put 0 count ++ [] ≡ puts target (offset + at) bytes = append-nil (written put 0 count) ∙ (written_is count 0 (omega arith) ∙ ap (λ (x : ℕ). puts target x bytes) first) in
      let back : Writes calls (after (written put 0 count) m) (Return (Binary Add (Var v.at) (Var v.count)) ∷ []) scopes (at + count) [] 1 = return_writes (record { is = rw sum refl }) in
      called_writes calls m k copy_bytes handed (at + count) (puts target (offset + at) bytes) (2 * (count + 1)) (
      writes_as refl all (record {
        run = λ q. ends_within _ (With (at + count)) (written put 0 count ++ []) (suc (count * 2 + 1)) (2 * (count + 1)) (omega arith)
            (block_falls calls copy_turns (Return (Binary Add (Var v.at) (Var v.count)) ∷ []) q scopes m scopes (With (at + count)) (written put 0 count) [] (count * 2) 1
            (loop_falls calls v.i v.count copy_turn q (λ i. scopes) before put count 1 refl (turn (shifted q 1))) (back.run (shifted q (count_of copy_turns))));
      }))

-- ---- behind any items

pub copy_valid : (items : List CItem) → IsNew (codes "copy_bytes") items → IsValidAfter items (AFunction copy_bytes)
unfolding copy_bytes exprs.shape-the_row-Expr-0 exprs.hidden-the_row-Expr-0 hidden stmts.shape-the_row-Stmt-0 stmts.hidden-the_row-Stmt-0
copy_valid items new = let free : IsFree (codes "copy_bytes") items = free_of items (codes "copy_bytes") new in record { sound = rw free refl }

pub copy_spelled : IsSpelledItem (AFunction copy_bytes)
unfolding copy_bytes exprs.shape-the_row-Expr-0 exprs.hidden-the_row-Expr-0 hidden stmts.shape-the_row-Stmt-0 stmts.hidden-the_row-Stmt-0
copy_spelled = search rules

pub copy_means : (items : List CItem) → CopiesBytes (calls_of (items ++ AFunction copy_bytes ∷ []) (codes "copy_bytes"))
unfolding copy_bytes
copy_means items = subst CopiesBytes (last_call items copy_bytes) (record {
  writes = λ target offset at other other_offset count m bytes apart w r. copies (calls_of items) (0 + length items) target offset at other other_offset count m bytes apart w r;
})

pub copy_among : (items : List CItem) → IsNew (codes "copy_bytes") items → IsAmong copy_bytes (items ++ AFunction copy_bytes ∷ [])
unfolding copy_bytes
copy_among items new = named_behind items (AFunction copy_bytes ∷ []) (codes "copy_bytes") new ∙ refl
