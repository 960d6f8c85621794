-- What the function that compares bytes answers, and that it is valid behind any items.
use Rattle.std.proofs.Common.{◌≡◌, ℕ, suc, ◌+◌, ◌*◌, min, ◌<◌, ◌≤◌, inl, inr, List, [], ◌∷◌, ◌++◌, length, refl, ap, sym, subst, ◌∙◌, arith, true, false, drop, get_or, add-one, rules}
use Rattle.std.specs.Prelude.{codes, nat_eq, nat_lt}
use Rattle.std.specs.Ordering.{nat_cmp, ordering_then}
use Rattle.std.specs.Cmp.Lexicographic.{slice_cmp}
use Rattle.std.specs.declared.cmp.Ordering.{Ordering}
use Rattle.std.specs.declared.cmp.Ordering.TheVariants.{Less, Equal, Greater}
use Rattle.std.proofs.lemmas.Bool.{cases_lt, eqb-true, eqb-false, ltb-true, ltb-false}
use Rattle.std.proofs.lemmas.Bool.Decides.{nat_tests}
use Rattle.std.proofs.lemmas.List.{drop_all}
use denote.Hole.Carrier.{hidden}
use Rattle.ecd_cast.specs.declared.tree.Expr.TheBlock as exprs
use Rattle.ecd_cast.specs.declared.tree.Stmt.TheBlock as stmts
use Rattle.ecd_cast.specs.declared.tree.CItem.{CItem}
use Rattle.ecd_cast.specs.declared.tree.CItem.TheVariants.{Function as AFunction}
use Rattle.ecd_cast.specs.declared.value.Value.{Value}
use Rattle.ecd_cast.specs.declared.value.Value.TheVariants.{Number as Num, Bytes as Ptr}
use Rattle.ecd_cast.specs.Memory.{Memory}
use Rattle.ecd_cast.specs.Expressions.{Scopes}
use Rattle.ecd_cast.specs.Meaning.{Calls, called, calls_of, leave}
use Rattle.ecd_cast.specs.Kept.{IsNew}
use Rattle.ecd_cast.specs.Validity.{IsValidAfter}
use Rattle.ecd_cast.specs.Spelling.{IsSpelledItem}
use Rattle.ecd_calculus.specs.Ends.{Answers}
use Rattle.ecd_calculus.specs.Rules.{Goes, Works}
use Rattle.ecd_calculus.proofs.Rules.{return_rule, if_rule, guard_rule, for_rule, guard_goes, nil_goes, called_rule, works_within}
use Rattle.ecd_keyorder.specs.declared.Order.{Order}
use Rattle.ecd_keyorder.specs.declared.Order.TheVariants.{Bytewise, LengthFirst}
use Rattle.ecd_keyorder.specs.Order.{comparison}
use Rattle.ecd_emit.specs.Variables as v
use Rattle.ecd_emit.specs.Windows.{Window}
use Rattle.ecd_fixed_bytes.specs.Compare.{compare_bytes, compare_turn, compare_lengths, compare_each, compare_body, order_number, ComparesBytes}
use Rattle.ecd_emit.specs.Among.{IsAmong}
use Rattle.ecd_emit.proofs.Windows.{long, one_byte, from_at}
use Rattle.ecd_emit.proofs.Stopping.{stops_rule}
use Rattle.ecd_emit.specs.Among.{IsFree}
use Rattle.ecd_emit.proofs.Placed.{last_call, free_of, named_behind}

-- ---- what the bytes at one place decide

is_less : (x y : ℕ) (xs ys : List ℕ) → nat_lt x y ≡ true → slice_cmp nat_cmp (x ∷ xs) (y ∷ ys) ≡ Less
is_less x y xs ys h = rw h refl

is_greater : (x y : ℕ) (xs ys : List ℕ) → nat_lt x y ≡ false → nat_lt y x ≡ true → slice_cmp nat_cmp (x ∷ xs) (y ∷ ys) ≡ Greater
is_greater x y xs ys h k = let other : nat_eq x y ≡ false = grind (arith, nat_tests, k) in rw (h, other) refl

is_same : (x y : ℕ) (xs ys : List ℕ) → nat_lt x y ≡ false → nat_lt y x ≡ false → slice_cmp nat_cmp (x ∷ xs) (y ∷ ys) ≡ slice_cmp nat_cmp xs ys
is_same x y xs ys h k = let same : nat_eq x y ≡ true = grind (arith, nat_tests, h, k) in rw (h, same) refl

ends_first : (y : ℕ) (ys : List ℕ) → slice_cmp nat_cmp [] (y ∷ ys) ≡ Less
ends_first y ys = refl

ends_last : (x : ℕ) (xs : List ℕ) → slice_cmp nat_cmp (x ∷ xs) [] ≡ Greater
ends_last x xs = refl

-- ---- the body

module _ (calls : Calls) (k block offset len other other_offset other_len : ℕ) (m : Memory) (left right : List ℕ) (w : Window m block offset len left) (u : Window m other other_offset other_len right) where
  abbrev handed : List Value
  handed = Ptr block offset ∷ Num len ∷ Ptr other other_offset ∷ Num other_len ∷ []

  abbrev scopes : Scopes
  scopes = ((v.left, Ptr block offset) ∷ (v.left_len, Num len) ∷ (v.right, Ptr other other_offset) ∷ (v.right_len, Num other_len) ∷ []) ∷ []

  abbrev Answer : ℕ → Type 0
  Answer n = n ≡ order_number (slice_cmp nat_cmp left right)

  -- before the turn i the bytes before i are the same
  abbrev Before : ℕ → Scopes → Type 0
  Before i env = (env ≡ scopes) × (i ≤ other_len) × (slice_cmp nat_cmp (drop i left) (drop i right) ≡ slice_cmp nat_cmp left right)

  decided : (o : Ordering) (i : ℕ) → slice_cmp nat_cmp (drop i left) (drop i right) ≡ slice_cmp nat_cmp left right → slice_cmp nat_cmp (drop i left) (drop i right) ≡ o → order_number o ≡ order_number (slice_cmp nat_cmp left right)
  decided o i e h = ap order_number (sym h ∙ e)

  left_at : (i : ℕ) → i < len → drop i left ≡ get_or left i 0 ∷ drop (i + 1) left
  left_at i lt = rw add-one (from_at w i lt)

  right_at : (i : ℕ) → i < other_len → drop i right ≡ get_or right i 0 ∷ drop (i + 1) right
  right_at i lt = rw add-one (from_at u i lt)

  turn : (i : ℕ) → i < len → i ≤ other_len → slice_cmp nat_cmp (drop i left) (drop i right) ≡ slice_cmp nat_cmp left right →
      Goes calls m compare_turn (((v.at, Num i) ∷ []) ∷ scopes) Answer (λ env. Before (i + 1) (leave env)) 6
  unfolding exprs.shape-the_row-Expr-0 exprs.hidden-the_row-Expr-0 hidden
  turn i lt le e =
      let x = get_or left i 0 in
      let y = get_or right i 0 in
      let is_left = left_at i lt in
      guard_goes {k = 4} (nat_eq i other_len) 2 (record { tells = refl }) (record { is = refl })
      (λ h.
      let none : drop i right ≡ [] = drop_all i right (omega (arith, long u, eqb-true i other_len h)) in
      decided Greater i e (rw (is_left, none) refl)) (λ h1.
      let apart = eqb-false i other_len h1 in
      let here : i < other_len = omega (arith, le, apart) in
      let is_right = right_at i here in
      guard_goes {k = 2} (nat_lt x y) 0 (record { tells = rw (w.there, one_byte w i lt, u.there, one_byte u i here) refl }) (record { is = refl })
      (λ h. decided Less i e (rw (is_left, is_right) (is_less x y (drop (i + 1) left) (drop (i + 1) right) h))) (λ h2.
      guard_goes {k = 0} (nat_lt y x) 2 (record { tells = rw (w.there, one_byte w i lt, u.there, one_byte u i here) refl }) (record { is = refl })
      (λ h. decided Greater i e (rw (is_left, is_right) (is_greater x y (drop (i + 1) left) (drop (i + 1) right) h2 h))) (λ h3.
      let rest : slice_cmp nat_cmp (drop i left) (drop i right) ≡ slice_cmp nat_cmp (drop (i + 1) left) (drop (i + 1) right) = rw (is_left, is_right) (is_same x y (drop (i + 1) left) (drop (i + 1) right) h2 h3) in
      nil_goes (refl, omega (arith, here), sym rest ∙ e))))

  behind : len ≤ other_len → slice_cmp nat_cmp (drop len left) (drop len right) ≡ slice_cmp nat_cmp left right →
      Works calls m compare_lengths scopes Answer 3
  unfolding exprs.shape-the_row-Expr-0 exprs.hidden-the_row-Expr-0 hidden
  behind le e =
      let no_left : drop len left ≡ [] = drop_all len left (omega (arith, long w)) in
      guard_rule {k = 1} (nat_lt len other_len) 0 (record { tells = refl }) (record { is = refl })
      (λ h. decided Less len e (rw (no_left, right_at len (ltb-true len other_len h)) refl)) (λ h1.
      let no_right : drop len right ≡ [] = drop_all len right (omega (arith, long u, ltb-false len other_len h1)) in
      return_rule {n = 1} (record { is = refl }) (decided Equal len e (rw (no_left, no_right) refl)))

  -- the turn in which the right side has ended
  last : other_len < len → slice_cmp nat_cmp (drop other_len left) (drop other_len right) ≡ slice_cmp nat_cmp left right → Works calls m compare_turn (((v.at, Num other_len) ∷ []) ∷ scopes) Answer 2
  unfolding exprs.shape-the_row-Expr-0 exprs.hidden-the_row-Expr-0 hidden
  last lt e =
      let none : drop other_len right ≡ [] = drop_all other_len right (omega (arith, long u)) in
      guard_rule {k = 0} (nat_eq other_len other_len) 2 (record { tells = refl }) (record { is = refl }) (λ h. decided Greater other_len e (rw (left_at other_len lt, none) refl)) (λ h. absurd (eqb-false other_len other_len h refl))

  each_turn : (i : ℕ) (env : Scopes) → i < len → Before i env → Goes calls m compare_turn (((v.at, Num i) ∷ []) ∷ env) Answer (λ e. Before (i + 1) (leave e)) 6
  each_turn i env lt h = subst (λ (s : Scopes). Goes calls m compare_turn (((v.at, Num i) ∷ []) ∷ s) Answer (λ e. Before (i + 1) (leave e)) 6) (sym h.0) (turn i lt h.1 h.2)

  each_works : Works calls m compare_each scopes Answer (7 * min len other_len + 4)
  unfolding exprs.shape-the_row-Expr-0 exprs.hidden-the_row-Expr-0 hidden
  each_works = elim (cases_lt other_len len) [
    | inl lt ↦
        works_within (suc (other_len * 7 + 3)) (7 * min len other_len + 4) (omega (arith, lt)) (
        stops_rule len other_len 6 2 Before refl lt (refl, omega arith, refl) (λ i env below h. each_turn i env (omega (arith, lt, below)) h)
        (λ env h. subst (λ (s : Scopes). Works calls m compare_turn (((v.at, Num other_len) ∷ []) ∷ s) Answer 2) (sym h.0) (last lt h.2)))
    | inr le ↦
        works_within (suc (len * 7 + 3)) (7 * min len other_len + 4) (omega (arith, le)) (
        for_rule len 6 3 Before refl (refl, omega arith, refl) each_turn (λ env h. subst (λ (s : Scopes). Works calls m compare_lengths s Answer 3) (sym h.0) (behind h.1 h.2)))
  ]

  -- ---- what the lengths decide

  shorter : nat_lt len other_len ≡ true → comparison LengthFirst left right ≡ Less
  shorter h = rw (long w, long u, h) refl

  longer : nat_lt len other_len ≡ false → nat_lt other_len len ≡ true → comparison LengthFirst left right ≡ Greater
  longer h k = let other : nat_eq len other_len ≡ false = grind (arith, nat_tests, k) in rw (long w, long u, h, other) refl

  as_long : nat_lt len other_len ≡ false → nat_lt other_len len ≡ false → comparison LengthFirst left right ≡ slice_cmp nat_cmp left right
  as_long h k = let same : nat_eq len other_len ≡ true = grind (arith, nat_tests, h, k) in rw (long w, long u, h, same) refl

  abbrev InOrder : Order → ℕ → Type 0
  InOrder order n = n ≡ order_number (comparison order left right)

  body_works : (order : Order) → Works calls m (compare_body order) scopes (InOrder order) (7 * (min len other_len + 1))
  unfolding exprs.shape-the_row-Expr-0 exprs.hidden-the_row-Expr-0 hidden
  body_works Bytewise = works_within (7 * min len other_len + 4) (7 * (min len other_len + 1)) (omega arith) each_works
  body_works LengthFirst =
      works_within (suc (suc (7 * min len other_len + 4))) (7 * (min len other_len + 1)) (omega arith) (
      if_rule {k = suc (7 * min len other_len + 4)} (nat_lt len other_len) (record { tells = refl })
      (λ h. works_within 1 (suc (7 * min len other_len + 4)) (omega arith) (return_rule {n = 0} (record { is = refl }) (ap order_number (sym (shorter h))))) (λ h1.
      if_rule {k = 7 * min len other_len + 4} (nat_lt other_len len) (record { tells = refl })
      (λ h. works_within 1 (7 * min len other_len + 4) (omega arith) (return_rule {n = 2} (record { is = refl }) (ap order_number (sym (longer h1 h))))) (λ h2.
      subst (λ (o : Ordering). Works calls m compare_each scopes (λ n. n ≡ order_number o) (7 * min len other_len + 4)) (sym (as_long h1 h2)) each_works)))

  pub compare_answers : (order : Order) → Answers (called calls k (compare_bytes order) handed m) (InOrder order) (7 * (min len other_len + 1))
  unfolding compare_bytes exprs.shape-the_row-Expr-0 exprs.hidden-the_row-Expr-0 hidden
  compare_answers order = called_rule calls m k (compare_bytes order) handed (InOrder order) (7 * (min len other_len + 1)) (body_works order)

-- ---- behind any items

pub compare_valid : (order : Order) (before : List CItem) → IsNew (codes "compare_bytes") before → IsValidAfter before (AFunction (compare_bytes order))
unfolding compare_bytes exprs.shape-the_row-Expr-0 exprs.hidden-the_row-Expr-0 hidden stmts.shape-the_row-Stmt-0 stmts.hidden-the_row-Stmt-0
compare_valid Bytewise before new = let free : IsFree (codes "compare_bytes") before = free_of before (codes "compare_bytes") new in record { sound = rw free refl }
compare_valid LengthFirst before new = let free : IsFree (codes "compare_bytes") before = free_of before (codes "compare_bytes") new in record { sound = rw free refl }

pub compare_spelled : (order : Order) → IsSpelledItem (AFunction (compare_bytes order))
unfolding compare_bytes exprs.shape-the_row-Expr-0 exprs.hidden-the_row-Expr-0 hidden stmts.shape-the_row-Stmt-0 stmts.hidden-the_row-Stmt-0
compare_spelled Bytewise = search rules
compare_spelled LengthFirst = search rules

pub compare_means : (order : Order) (items : List CItem) → ComparesBytes order (calls_of (items ++ AFunction (compare_bytes order) ∷ []) (codes "compare_bytes"))
unfolding compare_bytes
compare_means order items = subst (ComparesBytes order) (last_call items (compare_bytes order)) (record {
  answers = λ block offset len other other_offset other_len m left right w u. compare_answers (calls_of items) (0 + length items) block offset len other other_offset other_len m left right w u order;
})

pub compare_among : (order : Order) (items : List CItem) → IsNew (codes "compare_bytes") items → IsAmong (compare_bytes order) (items ++ AFunction (compare_bytes order) ∷ [])
unfolding compare_bytes
compare_among order items new = named_behind items (AFunction (compare_bytes order) ∷ []) (codes "compare_bytes") new ∙ refl
