-- The copy of bytes, by the rules for bodies: a loop that writes.
use Rattle.std.proofs.Common.{◌≡◌, ℕ, suc, ◌+◌, ◌*◌, ◌%◌, ◌<◌, ◌≤◌, List, [], ◌∷◌, ◌++◌, refl, ap, sym, ◌∙◌, subst, arith, drop, get_or, append_assoc}
use Rattle.std.specs.Prelude.{◌≢◌, slice_set, slice_get}
use Rattle.std.proofs.Math.Nat.{mod-eq_of_lt}
use Rattle.std.proofs.lemmas.List.{drop_all, length-set}
use denote.Hole.Carrier.{hidden}
use Rattle.ecd_cast.specs.declared.tree.Expr.TheBlock as exprs
use Rattle.ecd_cast.specs.declared.tree.Op.TheVariants.{Add}
use Rattle.ecd_cast.specs.declared.tree.Expr.TheVariants.{Var, Binary}
use Rattle.ecd_cast.specs.declared.tree.Stmt.TheVariants.{Return}
use Rattle.ecd_cast.specs.declared.value.Value.TheVariants.{Number as Num, Bytes as Ptr}
use Rattle.ecd_cast.specs.Memory.{Memory, Bytes, Event, WritesByte, after}
use Rattle.ecd_cast.specs.Expressions.{Scopes, modulus}
use Rattle.ecd_cast.specs.Meaning.{Calls, called, leave}
use Rattle.ecd_calculus.specs.Laws.{Spares}
use Rattle.ecd_calculus.proofs.Calculus.{after-append}
use Rattle.ecd_emit.specs.Variables as v
use Rattle.ecd_emit.specs.Windows.{Window}
use Rattle.ecd_emit.specs.Writes.{Room, puts}
use Rattle.ecd_emit.proofs.Windows.{small, long, one_byte, from_at}
use Rattle.ecd_emit.proofs.Writing.{one_put, get_set}
use Rattle.ecd_fixed_bytes.specs.Copier.{copy_bytes, copy_turn}
use Rattle.ecd_acts.specs.Acts.{Known, Acts, Never, Returns_with, step, behind}
use Rattle.ecd_acts.specs.Ends.{Just}
use Rattle.ecd_acts.proofs.Statements.{nothing, return_rule, store_rule, called_rule}
use Rattle.ecd_acts.proofs.Loops.{for_rule}
use Rattle.ecd_acts.proofs.Ends.{does_back}
use Rattle.ecd_acts.proofs.Cells.{spares_both}
use Rattle.ecd_acts.proofs.Windows.{window_kept}
use Rattle.ecd_acts_example.specs.Comparison.{CopierCopies}

module _ (calls : Calls) (number target offset at other other_offset count : ℕ) (m : Memory) (bytes : List ℕ) (apart : other ≢ target) (w : Window m other other_offset count bytes) (r : Room m target offset at count) where
  abbrev scopes : Scopes
  scopes = ((v.out, Ptr target offset) ∷ (v.at, Num at) ∷ (v.from, Ptr other other_offset) ∷ (v.count, Num count) ∷ []) ∷ []

  abbrev P : Known ℕ
  P = Just (at + count) (puts target (offset + at) bytes) (2 * (count + 1))

  -- before the turn i: what was written, and what the bytes from i on will be, are all
  record Before (i : ℕ) (ws : List Event) (k : ℕ) : Type 0 where
    all : ws ++ puts target (offset + at + i) (drop i bytes) ≡ puts target (offset + at) bytes
    spares : Spares other ws
    room : Room (after ws m) target offset at count
    few : k ≤ 2 * i

  -- what the turn i writes
  abbrev put : ℕ → Event
  put i = WritesByte target (offset + (at + i)) (get_or bytes i 0 % 256)

  put_is : (i : ℕ) → i < count → put i ∷ puts target (offset + at + suc i) (drop (suc i) bytes) ≡ puts target (offset + at + i) (drop i bytes)
  put_is i lt =
      let low : get_or bytes i 0 % 256 ≡ get_or bytes i 0 = mod-eq_of_lt (w.each i) in
      let place : offset + (at + i) ≡ offset + at + i = omega arith in
      let next : offset + at + suc i ≡ offset + at + i + 1 = omega arith in
      rw (from_at w i lt, low, place, next) refl

  next : (i : ℕ) (ws : List Event) (k : ℕ) → i < count → Before i ws k → Before (suc i) (ws ++ put i ∷ []) (suc (k + 1))
  next i ws k lt h =
      let there = one_put target (offset + (at + i)) (get_or bytes i 0 % 256) h.room.whole (after ws m) h.room.there in
      record {
        all = append_assoc ws (put i ∷ []) (puts target (offset + at + suc i) (drop (suc i) bytes)) ∙ (ap (λ (l : List Event). ws ++ l) (put_is i lt) ∙ h.all);
        spares = spares_both other ws (put i ∷ []) h.spares ((λ e. apart (sym e)), tt);
        room = record {
          whole = slice_set h.room.whole (offset + (at + i)) (get_or bytes i 0 % 256);
          there = ap (λ (n : Memory). slice_get n target) (after-append ws (put i ∷ []) m ∙ there) ∙ get_set (after ws m) target (Bytes h.room.whole) (Bytes (slice_set h.room.whole (offset + (at + i)) (get_or bytes i 0 % 256))) h.room.there;
          fits = omega (arith, h.room.fits, length-set h.room.whole (offset + (at + i)) (get_or bytes i 0 % 256));
          short = r.short;
        };
        few = omega (arith, h.few);
      }

  turn : (i : ℕ) (ws : List Event) (k : ℕ) → i < count → Before i ws k →
      Acts calls (after ws m) copy_turn (((v.i, Num i) ∷ []) ∷ scopes) (λ x vs j. P x (ws ++ vs) (suc (suc (k + j)))) (λ e vs j. (leave e ≡ scopes) × Before (suc i) (ws ++ vs) (suc (k + j)))
  unfolding exprs.shape-the_row-Expr-0 exprs.hidden-the_row-Expr-0 hidden
  turn i ws k lt h =
      let kept = window_kept ws w h.spares in
      let sum : (at + i) % modulus ≡ at + i = small (at + i) (omega (arith, lt, r.short)) in
      store_rule {j = at + i} {n = get_or bytes i 0} (record { is = refl }) (record { is = rw sum refl }) (record { is = rw (kept.there, one_byte kept i lt) refl }) h.room.there (omega (arith, h.room.fits, lt)) (nothing (refl, next i ws k lt h))

  pub copies : Returns_with (called calls number copy_bytes (Ptr target offset ∷ Num at ∷ Ptr other other_offset ∷ Num count ∷ []) m) P
  unfolding copy_bytes exprs.shape-the_row-Expr-0 exprs.hidden-the_row-Expr-0 hidden
  copies =
      let sum : (at + count) % modulus ≡ at + count = small (at + count) (omega (arith, r.short)) in
      let none : drop count bytes ≡ [] = drop_all count bytes (omega (arith, long w)) in
      let first : offset + at + 0 ≡ offset + at = omega arith in
      called_rule number copy_bytes (Ptr target offset ∷ Num at ∷ Ptr other other_offset ∷ Num count ∷ []) (
      for_rule count (λ i e ws k. (e ≡ scopes) × Before i ws k) (record { is = refl }) (refl, record { all = ap (λ (p : ℕ). puts target p bytes) first; spares = tt; room = r; few = omega arith })
      (λ i now ws k lt h. subst (λ (e : Scopes). Acts calls (after ws m) copy_turn (((v.i, Num i) ∷ []) ∷ e) (λ x vs j. P x (ws ++ vs) (suc (suc (k + j)))) (λ e' vs j. (leave e' ≡ scopes) × Before (suc i) (ws ++ vs) (suc (k + j)))) (sym h.0) (turn i ws k lt h.1))
      (λ now ws k h. subst (λ (e : Scopes). Acts calls (after ws m) (Return (Binary Add (Var v.at) (Var v.count)) ∷ []) e (behind ws k (step P)) Never) (sym h.0)
      (return_rule {n = at + count} (record { is = rw sum refl }) (refl, ap (λ (l : List ℕ). ws ++ puts target (offset + at + count) l) (sym none) ∙ h.1.all, omega (arith, h.1.few)))))

pub copier : CopierCopies
copier calls number = record { writes = λ target offset at other other_offset count m bytes apart w r. does_back (copies calls number target offset at other other_offset count m bytes apart w r) }
