-- The comparison of bytes, by the rules for bodies.
use Rattle.std.proofs.Common.{◌≡◌, ℕ, suc, ◌+◌, ◌*◌, min, ◌<◌, ◌≤◌, List, [], ◌∷◌, refl, ap, sym, ◌∙◌, arith, true, false, drop, get_or}
use Rattle.std.specs.Prelude.{nat_eq, nat_lt}
use Rattle.std.specs.Ordering.{nat_cmp}
use Rattle.std.specs.Cmp.Lexicographic.{slice_cmp}
use Rattle.std.specs.declared.cmp.Ordering.{Ordering}
use Rattle.std.specs.declared.cmp.Ordering.TheVariants.{Less, Equal, Greater}
use Rattle.std.proofs.lemmas.Bool.{eqb-true, eqb-false, ltb-true, ltb-false}
use Rattle.std.proofs.lemmas.Bool.Decides.{nat_tests}
use Rattle.std.proofs.lemmas.List.{drop_all}
use denote.Hole.Carrier.{hidden}
use Rattle.ecd_cast.specs.declared.tree.Expr.TheBlock as exprs
use Rattle.ecd_cast.specs.declared.value.Value.TheVariants.{Number as Num, Bytes as Ptr}
use Rattle.ecd_cast.specs.Memory.{Memory}
use Rattle.ecd_cast.specs.Expressions.{Scopes}
use Rattle.ecd_cast.specs.Meaning.{Calls, called, leave}
use Rattle.ecd_emit.specs.Variables as v
use Rattle.ecd_emit.specs.Windows.{Window}
use Rattle.ecd_emit.proofs.Windows.{long, one_byte, from_at}
use Rattle.ecd_keyorder.specs.declared.Order.TheVariants.{Bytewise}
use Rattle.ecd_fixed_bytes.specs.Compare.{compare_bytes, compare_turn, compare_lengths, order_number}
use Rattle.ecd_acts.specs.Acts.{Known, Acts, Never, Returns_with}
use Rattle.ecd_acts.specs.Ends.{Silent}
use Rattle.ecd_acts.proofs.Statements.{nothing, return_rule, guard_rule, called_rule}
use Rattle.ecd_acts.proofs.Loops.{still_rule}
use Rattle.ecd_acts.proofs.Ends.{answers_back}
use Rattle.ecd_acts_example.specs.Comparison.{ComparisonCompares}

-- ---- what the bytes at one place decide

is_less : (x y : ℕ) (xs ys : List ℕ) → nat_lt x y ≡ true → slice_cmp nat_cmp (x ∷ xs) (y ∷ ys) ≡ Less
is_less x y xs ys h = rw h refl

is_greater : (x y : ℕ) (xs ys : List ℕ) → nat_lt x y ≡ false → nat_lt y x ≡ true → slice_cmp nat_cmp (x ∷ xs) (y ∷ ys) ≡ Greater
is_greater x y xs ys h k = let other : nat_eq x y ≡ false = grind (arith, nat_tests, k) in rw (h, other) refl

is_same : (x y : ℕ) (xs ys : List ℕ) → nat_lt x y ≡ false → nat_lt y x ≡ false → slice_cmp nat_cmp (x ∷ xs) (y ∷ ys) ≡ slice_cmp nat_cmp xs ys
is_same x y xs ys h k = let same : nat_eq x y ≡ true = grind (arith, nat_tests, h, k) in rw (h, same) refl

-- ---- the body

module _ (calls : Calls) (number block offset len other other_offset other_len : ℕ) (m : Memory) (left right : List ℕ) (w : Window m block offset len left) (u : Window m other other_offset other_len right) where
  abbrev scopes : Scopes
  scopes = ((v.left, Ptr block offset) ∷ (v.left_len, Num len) ∷ (v.right, Ptr other other_offset) ∷ (v.right_len, Num other_len) ∷ []) ∷ []

  -- the order of all bytes, in so many steps
  abbrev P : Known ℕ
  P = Silent (λ n. n ≡ order_number (slice_cmp nat_cmp left right)) (7 * (min len other_len + 1))

  -- before the turn i the bytes before i are the same, and each took four steps
  abbrev Before : ℕ → ℕ → Type 0
  Before i k = (k ≤ 4 * i) × (i ≤ other_len) × (slice_cmp nat_cmp (drop i left) (drop i right) ≡ slice_cmp nat_cmp left right)

  decided : (o : Ordering) (i : ℕ) → slice_cmp nat_cmp (drop i left) (drop i right) ≡ slice_cmp nat_cmp left right → slice_cmp nat_cmp (drop i left) (drop i right) ≡ o → order_number o ≡ order_number (slice_cmp nat_cmp left right)
  decided o i e h = ap order_number (sym h ∙ e)

  turn : (i k : ℕ) → i < len → Before i k →
      Acts calls m compare_turn (((v.at, Num i) ∷ []) ∷ scopes) (λ r vs j. P r vs (suc (suc (k + j)))) (λ next vs j. (leave next ≡ scopes) × (vs ≡ []) × Before (suc i) (suc (k + j)))
  unfolding exprs.shape-the_row-Expr-0 exprs.hidden-the_row-Expr-0 hidden
  turn i k lt h =
      let x = get_or left i 0 in
      let y = get_or right i 0 in
      let is_left = from_at w i lt in
      guard_rule (nat_eq i other_len) 2 (record { is = refl }) (record { is = refl })
      (λ t.
      let none : drop i right ≡ [] = drop_all i right (omega (arith, long u, eqb-true i other_len t)) in
      (refl, decided Greater i h.2 (rw (is_left, none) refl), omega (arith, h.0, h.1, lt))) (λ t1.
      let here : i < other_len = omega (arith, h.1, eqb-false i other_len t1) in
      let is_right = from_at u i here in
      guard_rule (nat_lt x y) 0 (record { is = rw (w.there, one_byte w i lt, u.there, one_byte u i here) refl }) (record { is = refl })
      (λ t. (refl, decided Less i h.2 (rw (is_left, is_right) (is_less x y (drop (suc i) left) (drop (suc i) right) t)), omega (arith, h.0, lt, here))) (λ t2.
      guard_rule (nat_lt y x) 2 (record { is = rw (w.there, one_byte w i lt, u.there, one_byte u i here) refl }) (record { is = refl })
      (λ t. (refl, decided Greater i h.2 (rw (is_left, is_right) (is_greater x y (drop (suc i) left) (drop (suc i) right) t2 t)), omega (arith, h.0, lt, here))) (λ t3.
      let rest : slice_cmp nat_cmp (drop i left) (drop i right) ≡ slice_cmp nat_cmp (drop (suc i) left) (drop (suc i) right) = rw (is_left, is_right) (is_same x y (drop (suc i) left) (drop (suc i) right) t2 t3) in
      nothing (refl, refl, (omega (arith, h.0), omega (arith, here), sym rest ∙ h.2)))))

  behind : (k : ℕ) → Before len k → Acts calls m compare_lengths scopes (λ r vs j. P r vs (suc (k + j))) Never
  unfolding exprs.shape-the_row-Expr-0 exprs.hidden-the_row-Expr-0 hidden
  behind k h =
      let no_left : drop len left ≡ [] = drop_all len left (omega (arith, long w)) in
      guard_rule (nat_lt len other_len) 0 (record { is = refl }) (record { is = refl })
      (λ t. (refl, decided Less len h.2 (rw (no_left, from_at u len (ltb-true len other_len t)) refl), omega (arith, h.0, h.1))) (λ t1.
      let no_right : drop len right ≡ [] = drop_all len right (omega (arith, long u, ltb-false len other_len t1)) in
      return_rule {n = 1} (record { is = refl }) (refl, decided Equal len h.2 (rw (no_left, no_right) refl), omega (arith, h.0, h.1)))

  pub compares : Returns_with (called calls number (compare_bytes Bytewise) (Ptr block offset ∷ Num len ∷ Ptr other other_offset ∷ Num other_len ∷ []) m) P
  unfolding compare_bytes exprs.shape-the_row-Expr-0 exprs.hidden-the_row-Expr-0 hidden
  compares = called_rule number (compare_bytes Bytewise) (Ptr block offset ∷ Num len ∷ Ptr other other_offset ∷ Num other_len ∷ []) (still_rule len Before (record { is = refl }) (omega arith, omega arith, refl) turn behind)

pub comparison : ComparisonCompares
comparison calls number = record { answers = λ block offset len other other_offset other_len m left right w u. answers_back (compares calls number block offset len other other_offset other_len m left right w u) }
