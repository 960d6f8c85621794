-- The comparison with a literal.
use Rattle.std.proofs.Common.{◌≡◌, ℕ, suc, ◌+◌, ◌%◌, ◌<◌, ◌≤◌, List, [], ◌∷◌, ◌++◌, length, refl, ap, sym, ◌∙◌, arith, Bool, true, false, drop, get_or}
use Rattle.std.specs.Prelude.{nat_eq, not, if◌then◌else◌}
use denote.Hole.Carrier.{hidden}
use Rattle.ecd_cast.specs.declared.tree.Expr.TheBlock as exprs
use Rattle.ecd_cast.specs.declared.tree.Expr.TheVariants.{Number}
use Rattle.ecd_cast.specs.declared.tree.Stmt.TheVariants.{Return}
use Rattle.ecd_cast.specs.declared.value.Value.TheVariants.{Number as Num, Bytes as Ptr}
use Rattle.ecd_cast.specs.Memory.{Memory}
use Rattle.ecd_cast.specs.Expressions.{Scopes, modulus}
use Rattle.ecd_cast.specs.Meaning.{Calls}
use Rattle.ecd_emit.specs.Variables as v
use Rattle.ecd_emit.specs.Windows.{Window, placed}
use Rattle.ecd_emit.proofs.Windows.{small, one_byte, from_at}
use Rattle.ecd_acts.specs.Acts.{Known, Acts, Never}
use Rattle.ecd_acts.proofs.Statements.{return_rule, guard_rule, called_rule}
use Rattle.ecd_acts_example.specs.Literal.{literal_turns, literal_function, begins, answer, LiteralsCompare}

module _ (calls : Calls) (block offset len at : ℕ) (m : Memory) (bytes : List ℕ) (w : Window m block offset len bytes) where
  abbrev scopes : Scopes
  scopes = ((v.buf, Ptr block offset) ∷ (v.at, Num at) ∷ []) ∷ []

  one_begins : (k x c : ℕ) (literal : List ℕ) (b : Bool) → nat_eq x c ≡ b → drop (at + k) bytes ≡ x ∷ drop (at + suc k) bytes → begins (drop (at + k) bytes) (c ∷ literal) ≡ (if b then begins (drop (at + suc k) bytes) literal else false)
  one_begins k x c literal b e there = rw (there, e) refl

  flipped : (b : Bool) (c : Bool) → not b ≡ c → b ≡ not c
  flipped true c e = ap not e
  flipped false c e = ap not e

  compares : (literal : List ℕ) (k : ℕ) (P : Known ℕ) → at + k + length literal ≤ len → (begins (drop (at + k) bytes) literal ≡ false → (j : ℕ) → j ≤ length literal + 1 → P 0 [] j) → (begins (drop (at + k) bytes) literal ≡ true → P 1 [] (suc (length literal))) →
      Acts calls m (literal_turns k literal ++ Return (Number 1) ∷ []) scopes P Never
  unfolding exprs.shape-the_row-Expr-0 exprs.hidden-the_row-Expr-0 hidden
  compares [] k P le miss hit = return_rule (record { is = refl }) (hit refl)
  compares (c ∷ literal) k P le miss hit =
      let x = get_or bytes (at + k) 0 in
      let inside : at + k < len = omega (arith, le) in
      let sum : (at + k) % modulus ≡ at + k = small (at + k) (omega (arith, inside, w.short)) in
      let next : suc (at + k) ≡ at + suc k = omega arith in
      let there : drop (at + k) bytes ≡ x ∷ drop (at + suc k) bytes = from_at w (at + k) inside ∙ ap (λ (j : ℕ). x ∷ drop j bytes) next in
      guard_rule (not (nat_eq x c)) 0 (record { is = rw (sum, w.there, one_byte w (at + k) inside) refl }) (record { is = refl })
      (λ t. miss (one_begins k x c literal false (flipped (nat_eq x c) true t) there) 2 (omega arith))
      (λ t.
      let same = one_begins k x c literal true (flipped (nat_eq x c) false t) there in
      compares literal (suc k) (λ n ws j. P n ws (suc j)) (omega (arith, le)) (λ e j short. miss (same ∙ e) (suc j) (omega (arith, short))) (λ e. hit (same ∙ e)))

pub literals : LiteralsCompare
unfolding literal_function
literals name literal calls item = record {
  answers = λ block offset len at m bytes w le.
      let place : at + 0 ≡ at = omega arith in
      let here : begins (drop (at + 0) bytes) literal ≡ begins (drop at bytes) literal = ap (λ (j : ℕ). begins (drop j bytes) literal) place in
      called_rule item (literal_function name literal) (placed block offset at) (compares calls block offset len at m bytes w literal 0 _ (omega (arith, le))
      (λ e j short. (refl, ap answer (sym e ∙ here), omega (arith, short))) (λ e. (refl, ap answer (sym e ∙ here), omega arith)));
}
