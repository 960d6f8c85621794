-- The functions that read the pairs of a map, over one that reads an item.
use Rattle.std.proofs.Common.{◌≡◌, ℕ, suc, ◌+◌, ◌-◌, ◌*◌, ◌%◌, min, ◌<◌, ◌≤◌, List, [], ◌∷◌, ◌++◌, take, drop, Option, Some, None, Result, Ok, Err, Bool, true, false, refl, ap, sym, subst, ◌∙◌, arith}
use Rattle.std.specs.Prelude.{codes, nat_eq, nat_lt}
use Rattle.std.specs.declared.cmp.Ordering.{Ordering}
use Rattle.std.specs.declared.cmp.Ordering.TheVariants.{Less, Equal, Greater}
use Rattle.std.proofs.lemmas.Bool.{eqb-true, eqb-false}
use denote.Hole.Carrier.{hidden}
use Rattle.ecd_cast.specs.declared.tree.Expr.TheBlock as exprs
use Rattle.ecd_cast.specs.declared.tree.Expr.TheVariants.{Var}
use Rattle.ecd_cast.specs.declared.tree.Stmt.TheVariants.{Return}
use Rattle.ecd_cast.specs.declared.value.Value.TheVariants.{Number as Num, Bytes as Ptr}
use Rattle.ecd_cast.specs.Memory.{Memory}
use Rattle.ecd_cast.specs.Expressions.{Scopes, Frame, modulus}
use Rattle.ecd_cast.specs.Meaning.{Run, Calls, called, leave}
use Rattle.ecd_calculus.specs.Ends.{With, Answers}
use Rattle.ecd_calculus.specs.Rules.{Works, Goes}
use Rattle.ecd_calculus.proofs.Calculus.{ends_within}
use Rattle.ecd_calculus.proofs.Rules.{return_rule, let_rule, let_goes, assign_goes, call_goes, assign_call_goes, guard_goes, nil_goes, called_rule, works_within}
use Rattle.ecd_keyorder.specs.declared.Order.{Order}
use Rattle.ecd_keyorder.specs.Order.{comparison}
use Rattle.ecd_item_laws.specs.declared.fault.Fault.{Fault}
use Rattle.ecd_item_laws.specs.declared.item.Item.{Item}
use Rattle.ecd_item_laws.specs.Reading.{Reader, Taken, pairs, is_above, is_less}
use Rattle.ecd_emit.specs.Variables as v
use Rattle.ecd_emit.specs.Windows.{Window}
use Rattle.ecd_fixed_bytes.specs.Compare.{ComparesBytes, order_number}
use Rattle.ecd_emit.proofs.Windows.{long}
use Rattle.ecd_rt.specs.Names.{any_name}
use Rattle.ecd_rt.specs.Variables as w
use Rattle.ecd_rt.specs.Trees.{pairs_end, key_turn, value_turn}
use Rattle.ecd_rt.specs.Meanings.{paid_by}
use Rattle.ecd_rt.proofs.Budgets.{more_bytes, key_stop, order_stop, value_stop, pair_paid}
use Rattle.ecd_rt.proofs.Windows.{part, inside}
use Rattle.ecd_rt.proofs.Readers.{place_of, Advances, next_item, pairs_first, key_stop as no_key, order_stop as no_order, value_stop as no_value, pair_go}
use Rattle.ecd_rt.proofs.Spending.{Turn, for_spends}
use Rattle.ecd_rt.proofs.Following.{Follows, counted, known, paid_none, paid_found, paid_least}

-- a comparison, paid by its left side alone
left_paid : {r : Run} {P : ℕ → Type 0} (size other : ℕ) → Answers r P (7 * (min size other + 1)) → Answers r P (7 * (size + 1))
left_paid {r} size other a = record { answer = a.answer; does = ends_within r (With a.answer) [] (7 * (min size other + 1)) (7 * (size + 1)) (omega arith) a.does; has = a.has }

-- a difference that is not negative
pub taken : (a b : ℕ) → b ≤ a → a < modulus → (a + modulus - b) % modulus ≡ a - b
taken a b le lt = omega arith

-- ---- what the order of two keys answers

above : (o : Ordering) (n : ℕ) → n ≡ order_number o → nat_lt 0 n ≡ false → is_less o ≡ true
above Less n e h = refl
above Equal n e h = absurd (let t : nat_lt 0 n ≡ true = rw e refl in cc)
above Greater n e h = absurd (let t : nat_lt 0 n ≡ true = rw e refl in cc)

not_above : (o : Ordering) (n : ℕ) → n ≡ order_number o → nat_lt 0 n ≡ true → is_less o ≡ false
not_above Less n e h = absurd (let t : nat_lt 0 n ≡ false = rw e refl in cc)
not_above Equal n e h = refl
not_above Greater n e h = refl

not_both : {A : Type 0} (b : Bool) → b ≡ true → b ≡ false → A
not_both b t f = absurd cc

module _ (chosen : Order) (read : Reader Item) (ahead : Advances read) (each deepest : ℕ) (calls : Calls) (k block offset len at count : ℕ) (m : Memory) (bytes : List ℕ) (win : Window m block offset len bytes) (le : at ≤ len) where
  abbrev target : ℕ
  target = place_of (pairs chosen read None count at (drop at bytes))

  abbrev limit : ℕ
  limit = (each + 27) * paid_by len at target + 1

  abbrev frame : (here key size : ℕ) → Frame
  frame here key size = (w.key_size, Num size) ∷ (w.key, Num key) ∷ (v.end, Num here) ∷ (v.buf, Ptr block offset) ∷ (v.len, Num len) ∷ (v.at, Num at) ∷ (v.count, Num count) ∷ []

  abbrev key_at : (key size : ℕ) → List ℕ
  key_at key size = take size (drop key bytes)

  abbrev read_on : (key size left here : ℕ) → ℕ
  read_on key size left here = place_of (pairs chosen read (Some (key_at key size)) left here (drop here bytes))

  -- before the turn i, from a place on and behind a key, what is left to read decides
  record Before (i used : ℕ) (env : Scopes) : Type 0 where
    here : ℕ
    key : ℕ
    size : ℕ
    left : ℕ
    is : env ≡ frame here key size ∷ []
    all : i + left ≡ count
    past : at ≤ here
    within : here ≤ len
    keyed : key + size ≤ len
    same : read_on key size left here ≡ target
    paid : used + 7 * size ≤ (each + 27) * (here - at)

  abbrev Answer : ℕ → Type 0
  Answer a = a ≡ target

  module _ (f : Follows read each (calls (any_name deepest))) (compares : ComparesBytes chosen (calls (codes "compare_bytes"))) (i here key size : ℕ) (within : here ≤ len) (keyed : key + size ≤ len) where
    -- the scopes behind a key
    abbrev with_key : (order next : ℕ) → Scopes
    with_key order next = ((w.order, Num order) ∷ (v.size, Num (next - here)) ∷ (w.behind, Num next) ∷ (v.i, Num i) ∷ []) ∷ frame here key size ∷ []

    -- a key that is read, and the comparison
    key_goes : (P : ℕ → Type 0) (F : Scopes → Type 0) (t : Taken Item) → read here (drop here bytes) ≡ Ok t → (c : ℕ) →
        ((order : ℕ) → nat_lt 0 order ≡ true → is_above chosen (Some (key_at key size)) (take (t.at - here) (drop here bytes)) ≡ false → P 0) →
        ((order : ℕ) → is_above chosen (Some (key_at key size)) (take (t.at - here) (drop here bytes)) ≡ true → Goes calls m (value_turn deepest) (with_key order t.at) P F c) →
        Goes calls m (key_turn deepest ++ value_turn deepest) (((v.i, Num i) ∷ []) ∷ frame here key size ∷ []) P F (suc (each * (t.at - here) + suc (1 + suc (0 + suc (7 * (size + 1) + suc (1 + c))))))
    unfolding exprs.shape-the_row-Expr-0 exprs.hidden-the_row-Expr-0 hidden
    key_goes P F t h c stops goes =
        let n = next_item read ahead bytes win.each here (omega (arith, long win)) t h in
        let some : 0 < t.at = omega (arith, n.past) in
        let fits : t.at ≤ len = omega (arith, n.within, long win) in
        let cost : ℕ = each * (t.at - here) in
        let answers : Answers (calls (any_name deepest) (Ptr block offset ∷ Num len ∷ Num here ∷ []) m) (λ x. x ≡ t.at) cost =
        subst (λ (p : ℕ). Answers (calls (any_name deepest) (Ptr block offset ∷ Num len ∷ Num here ∷ []) m) (λ x. x ≡ t.at) (each * p)) (paid_found len here t.at some) (known read each (calls (any_name deepest)) f block offset len here m bytes win within (Ok t) h) in
        call_goes {c = cost} {k = suc (1 + suc (0 + suc (7 * (size + 1) + suc (1 + c))))} (Ptr block offset ∷ Num len ∷ Num here ∷ []) (λ x. x ≡ t.at) (record { hands = λ p g. refl }) answers (λ x ex.
        guard_goes {k = suc (0 + suc (7 * (size + 1) + suc (1 + c)))} (nat_eq x 0) 0 (record { tells = refl }) (record { is = refl }) (λ b. absurd (omega (arith, eqb-true x 0 b, ex, some))) (λ b.
        let less : (x + modulus - here) % modulus ≡ t.at - here = taken x here (omega (arith, ex, n.past)) (omega (arith, ex, fits, win.short)) ∙ ap (λ (p : ℕ). p - here) ex in
        let_goes {n = t.at - here} {k = suc (7 * (size + 1) + suc (1 + c))} (record { is = rw less refl }) (
        call_goes {c = 7 * (size + 1)} {k = suc (1 + c)} (Ptr block (offset + key) ∷ Num size ∷ Ptr block (offset + here) ∷ Num (t.at - here) ∷ []) (λ o. o ≡ order_number (comparison chosen (key_at key size) (take (t.at - here) (drop here bytes))))
        (record { hands = λ p g. rw (win.there, inside win key (omega (arith, keyed)), inside win here within) refl })
        (left_paid size (t.at - here) (compares.answers block (offset + key) size block (offset + here) (t.at - here) m (key_at key size) (take (t.at - here) (drop here bytes)) (part win key size keyed) (part win here (t.at - here) (omega (arith, n.past, fits))))) (λ o eo.
        guard_goes {k = c} (nat_lt 0 o) 0 (record { tells = refl }) (record { is = refl }) (λ b. stops o b (not_above (comparison chosen (key_at key size) (take (t.at - here) (drop here bytes))) o eo b)) (λ b.
        subst (λ (y : ℕ). Goes calls m (value_turn deepest) (((w.order, Num o) ∷ (v.size, Num (t.at - here)) ∷ (w.behind, Num y) ∷ (v.i, Num i) ∷ []) ∷ frame here key size ∷ []) P F c) (sym ex)
        (goes o (above (comparison chosen (key_at key size) (take (t.at - here) (drop here bytes))) o eo b)))))))

    -- the value behind it, which answers x
    value_goes : (P : ℕ → Type 0) (F : Scopes → Type 0) (order next c last : ℕ) → Answers (calls (any_name deepest) (Ptr block offset ∷ Num len ∷ Num next ∷ []) m) (λ x. x ≡ last) c →
        (last ≡ 0 → P 0) → (0 < last → F (((w.order, Num order) ∷ (v.size, Num (next - here)) ∷ (w.behind, Num next) ∷ (v.i, Num i) ∷ []) ∷ frame last here (next - here) ∷ [])) →
        Goes calls m (value_turn deepest) (with_key order next) P F (suc (0 + suc (0 + suc (c + 2))))
    unfolding exprs.shape-the_row-Expr-0 exprs.hidden-the_row-Expr-0 hidden
    value_goes P F order next c last answers stops goes =
        assign_goes {n = here} {k = suc (0 + suc (c + 2))} (record { is = refl }) (
        assign_goes {n = next - here} {k = suc (c + 2)} (record { is = refl }) (
        assign_call_goes {c = c} {k = 2} (Ptr block offset ∷ Num len ∷ Num next ∷ []) (λ x. x ≡ last) (record { hands = λ p g. refl }) answers (λ x ex.
        guard_goes {k = 0} (nat_eq x 0) 0 (record { tells = refl }) (record { is = refl }) (λ b. stops (sym ex ∙ eqb-true x 0 b)) (λ b.
        let some : 0 < last = omega (arith, eqb-false x 0 b, ex) in
        nil_goes (subst (λ (y : ℕ). F (((w.order, Num order) ∷ (v.size, Num (next - here)) ∷ (w.behind, Num next) ∷ (v.i, Num i) ∷ []) ∷ frame y here (next - here) ∷ [])) (sym ex) (goes some))))))

  module _ (f : Follows read each (calls (any_name deepest))) (compares : ComparesBytes chosen (calls (codes "compare_bytes"))) where
    -- what a turn may take, where the key and the value do
    abbrev key_cost : (here next size behind : ℕ) → ℕ
    key_cost here next size behind = suc (each * (next - here) + suc (1 + suc (0 + suc (7 * (size + 1) + suc (1 + behind)))))

    abbrev value_cost : ℕ → ℕ
    value_cost c = suc (0 + suc (0 + suc (c + 2)))

    abbrev APairTurn : (i used here key size : ℕ) → Type 0
    APairTurn i used here key size = Turn calls m v.i (key_turn deepest ++ value_turn deepest) Before Answer limit i used (frame here key size ∷ [])

    module _ (i used here key size left : ℕ) (all : i + suc left ≡ count) (past : at ≤ here) (within : here ≤ len) (keyed : key + size ≤ len) (same : read_on key size (suc left) here ≡ target)
        (paid : used + 7 * size ≤ (each + 27) * (here - at)) where
      abbrev last : Option (List ℕ)
      last = Some (key_at key size)

      abbrev key_read : Taken Item → List ℕ
      key_read t = take (t.at - here) (drop here bytes)

      -- what is paid where a turn finds no pair, by the bytes before, in and behind its key
      stopped : (b z : ℕ) → len ≡ here + (b + z) → target ≡ 0 → limit ≡ (each + 27) * suc (here - at + (b + z)) + 1
      stopped b z e none =
          let sum : len - at + 1 ≡ suc (here - at + (b + z)) = omega arith in
          rw (paid_none len at target none, sum) refl

      turn_value : (t : Taken Item) → read here (drop here bytes) ≡ Ok t → is_above chosen last (key_read t) ≡ true → (r : Result (Taken Item) Fault) → read t.at t.rest ≡ r → APairTurn i used here key size
      turn_value t h up (Err e) g =
          let n = next_item read ahead bytes win.each here (omega (arith, long win)) t h in
          let fits : t.at ≤ len = omega (arith, n.within, long win) in
          let none : target ≡ 0 = sym same ∙ no_value read chosen last left here (drop here bytes) t e h up g in
          let c : ℕ = each * (len - t.at + 1) in
          let y : each * (len - t.at + 1) ≡ each * suc (len - t.at) = ap (λ (x : ℕ). each * x) (omega arith) in
          let b : ℕ = t.at - here in
          let z : ℕ = len - t.at in
          let is = stopped b z (omega (arith, n.past, fits)) none in
          let bound : used + suc (key_cost here t.at size (value_cost c)) ≤ limit = omega (arith, is, y, value_stop each (here - at) b z size used paid) in
          record {
            cost = key_cost here t.at size (value_cost c);
            goes = key_goes f compares i here key size within keyed (λ a. Answer a × (used + suc (key_cost here t.at size (value_cost c)) ≤ limit)) (λ env. Before (i + 1) (used + suc (key_cost here t.at size (value_cost c))) (leave env)) t h (value_cost c)
                (λ o b d. not_both (is_above chosen last (key_read t)) up d)
                (λ o d. value_goes f compares i here key size within keyed (λ a. Answer a × (used + suc (key_cost here t.at size (value_cost c)) ≤ limit)) (λ env. Before (i + 1) (used + suc (key_cost here t.at size (value_cost c))) (leave env)) o t.at c 0
                (known read each (calls (any_name deepest)) f block offset len t.at m bytes win fits (Err e) (ap (read t.at) (sym n.rest) ∙ g))
                (λ q. (sym none, bound)) (λ lt. absurd (omega arith)));
          }
      turn_value t h up (Ok u) g =
          let n = next_item read ahead bytes win.each here (omega (arith, long win)) t h in
          let fits : t.at ≤ len = omega (arith, n.within, long win) in
          let g2 : read t.at (drop t.at bytes) ≡ Ok u = ap (read t.at) (sym n.rest) ∙ g in
          let o = next_item read ahead bytes win.each t.at (omega (arith, long win, fits)) u g2 in
          let some : 0 < u.at = omega (arith, o.past) in
          let c : ℕ = each * (u.at - t.at) in
          let b : ℕ = t.at - here in
          let fresh : read_on here b left u.at ≡ target = ap (λ (l : List ℕ). place_of (pairs chosen read (Some (key_read t)) left u.at l)) (sym o.rest) ∙ (sym (pair_go read chosen last left here (drop here bytes) t u h up g) ∙ same) in
          let sum : u.at - at ≡ here - at + (b + (u.at - t.at)) = omega (arith, n.past, o.past) in
          let total : (each + 27) * (u.at - at) ≡ (each + 27) * (here - at + (b + (u.at - t.at))) = ap (λ (x : ℕ). (each + 27) * x) sum in
          let more : used + suc (key_cost here t.at size (value_cost c)) + 7 * b ≤ (each + 27) * (u.at - at) = omega (arith, total, pair_paid each (here - at) b (u.at - t.at) size used paid (omega (arith, o.past))) in
          let answers : Answers (calls (any_name deepest) (Ptr block offset ∷ Num len ∷ Num t.at ∷ []) m) (λ x. x ≡ u.at) c =
          subst (λ (p : ℕ). Answers (calls (any_name deepest) (Ptr block offset ∷ Num len ∷ Num t.at ∷ []) m) (λ x. x ≡ u.at) (each * p)) (paid_found len t.at u.at some) (known read each (calls (any_name deepest)) f block offset len t.at m bytes win fits (Ok u) g2) in
          record {
            cost = key_cost here t.at size (value_cost c);
            goes = key_goes f compares i here key size within keyed (λ a. Answer a × (used + suc (key_cost here t.at size (value_cost c)) ≤ limit)) (λ env. Before (i + 1) (used + suc (key_cost here t.at size (value_cost c))) (leave env)) t h (value_cost c)
                (λ o b d. not_both (is_above chosen last (key_read t)) up d)
                (λ q d. value_goes f compares i here key size within keyed (λ a. Answer a × (used + suc (key_cost here t.at size (value_cost c)) ≤ limit)) (λ env. Before (i + 1) (used + suc (key_cost here t.at size (value_cost c))) (leave env)) q t.at c u.at
                answers (λ z. absurd (omega (arith, some, z)))
                (λ lt. record {
                  here = u.at;
                  key = here;
                  size = b;
                  left = left;
                  is = refl;
                  all = omega (arith, all);
                  past = omega (arith, n.past, o.past, past);
                  within = omega (arith, o.within, long win);
                  keyed = omega (arith, n.past, fits);
                  same = fresh;
                  paid = more;
                }));
          }

      turn_order : (t : Taken Item) → read here (drop here bytes) ≡ Ok t → (b : Bool) → is_above chosen last (key_read t) ≡ b → APairTurn i used here key size
      turn_order t h true up = turn_value t h up (read t.at t.rest) refl
      turn_order t h false down =
          let n = next_item read ahead bytes win.each here (omega (arith, long win)) t h in
          let fits : t.at ≤ len = omega (arith, n.within, long win) in
          let none : target ≡ 0 = sym same ∙ no_order read chosen last left here (drop here bytes) t h down in
          let b : ℕ = t.at - here in
          let z : ℕ = len - t.at in
          let is = stopped b z (omega (arith, n.past, fits)) none in
          let bound : used + suc (key_cost here t.at size 0) ≤ limit = omega (arith, is, order_stop each (here - at) b z size used paid) in
          record {
            cost = key_cost here t.at size 0;
            goes = key_goes f compares i here key size within keyed (λ a. Answer a × (used + suc (key_cost here t.at size 0) ≤ limit)) (λ env. Before (i + 1) (used + suc (key_cost here t.at size 0)) (leave env)) t h 0
                (λ o b d. (sym none, bound))
                (λ o d. not_both (is_above chosen last (key_read t)) d down);
          }

      turn_key : (r : Result (Taken Item) Fault) → read here (drop here bytes) ≡ r → APairTurn i used here key size
      unfolding exprs.shape-the_row-Expr-0 exprs.hidden-the_row-Expr-0 hidden
      turn_key (Ok t) h = turn_order t h (is_above chosen last (key_read t)) refl
      turn_key (Err e) h =
          let none : target ≡ 0 = sym same ∙ no_key read chosen last left here (drop here bytes) e h in
          let c : ℕ = each * (len - here + 1) in
          let y : each * (len - here + 1) ≡ each * suc (len - here) = ap (λ (x : ℕ). each * x) (omega arith) in
          let is = stopped 0 (len - here) (omega arith) none in
          let same_sum : (each + 27) * suc (here - at + (0 + (len - here))) ≡ (each + 27) * suc (here - at + (len - here)) = ap (λ (x : ℕ). (each + 27) * x) (omega arith) in
          let bound : used + suc (suc (c + 2)) ≤ limit = omega (arith, is, same_sum, y, key_stop each (here - at) (len - here) size used paid) in
          record {
            cost = suc (c + 2);
            goes = call_goes {c = c} {k = 2} (Ptr block offset ∷ Num len ∷ Num here ∷ []) (λ x. x ≡ 0) (record { hands = λ p g. refl }) (known read each (calls (any_name deepest)) f block offset len here m bytes win within (Err e) h) (λ x ex.
                guard_goes {k = 0} (nat_eq x 0) 0 (record { tells = refl }) (record { is = refl }) (λ b. (sym none, bound)) (λ b. absurd (eqb-false x 0 b ex)));
          }

    turn : (i used : ℕ) (env : Scopes) → i < count → Before i used env → Turn calls m v.i (key_turn deepest ++ value_turn deepest) Before Answer limit i used env
    turn i used env lt b =
        let one : b.left ≡ suc (b.left - 1) = omega (arith, b.all) in
        let same : read_on b.key b.size (suc (b.left - 1)) b.here ≡ target = subst (λ (n : ℕ). read_on b.key b.size n b.here ≡ target) one b.same in
        subst (λ (s : Scopes). Turn calls m v.i (key_turn deepest ++ value_turn deepest) Before Answer limit i used s) (sym b.is)
        (turn_key i used b.here b.key b.size (b.left - 1) (omega (arith, b.all)) b.past b.within b.keyed same b.paid (read b.here (drop b.here bytes)) refl)

    behind : (used : ℕ) (env : Scopes) → Before count used env → Works calls m (Return (Var v.end) ∷ []) env Answer 1 × (used + 1 ≤ limit)
    unfolding pairs exprs.shape-the_row-Expr-0 exprs.hidden-the_row-Expr-0 hidden
    behind used env b =
        let none : b.left ≡ 0 = omega (arith, b.all) in
        let same : b.here ≡ target = subst (λ (n : ℕ). read_on b.key b.size n b.here ≡ target) none b.same in
        let most = more_bytes (each + 27) (target - at) (paid_by len at target) (paid_least len at target) in
        let paid : used + 7 * b.size ≤ (each + 27) * (target - at) = subst (λ (p : ℕ). used + 7 * b.size ≤ (each + 27) * (p - at)) same b.paid in
        (subst (λ (s : Scopes). Works calls m (Return (Var v.end) ∷ []) s Answer 1) (sym b.is) (return_rule {n = b.here} (record { is = refl }) same), omega (arith, most, paid))

    pub pairs_answers : Answers (called calls k (pairs_end deepest) (counted block offset len at count) m) Answer ((each + 27) * paid_by len at target + 5)
    unfolding pairs_end exprs.shape-the_row-Expr-0 exprs.hidden-the_row-Expr-0 hidden
    pairs_answers =
        let first : read_on at 0 count at ≡ target = ap place_of (pairs_first chosen read ahead bytes win.each count at (omega (arith, long win))) in
        called_rule calls m k (pairs_end deepest) (counted block offset len at count) Answer ((each + 27) * paid_by len at target + 5) (
        works_within (suc (suc (suc (suc limit)))) ((each + 27) * paid_by len at target + 5) (omega arith) (
        let_rule {n = at} {k = suc (suc (suc limit))} (record { is = refl }) (
        let_rule {n = at} {k = suc (suc limit)} (record { is = refl }) (
        let_rule {n = 0} {k = suc limit} (record { is = refl }) (
        for_spends count 1 limit Before refl
        (record { here = at; key = at; size = 0; left = count; is = refl; all = omega arith; past = omega arith; within = le; keyed = omega arith; same = first; paid = omega arith }) turn behind)))))
