-- The functions that read several items one behind the other, over one that reads an item.
use Rattle.std.proofs.Common.{◌≡◌, ℕ, suc, ◌+◌, ◌-◌, ◌*◌, ◌<◌, ◌≤◌, List, [], ◌∷◌, drop, Result, Ok, Err, refl, ap, sym, subst, ◌∙◌, arith}
use Rattle.std.specs.Prelude.{nat_eq}
use Rattle.std.proofs.lemmas.Bool.{eqb-true, eqb-false}
use Rattle.std.proofs.lemmas.Bool.Decides.{nat_tests}
use denote.Hole.Carrier.{hidden}
use Rattle.ecd_cast.specs.declared.tree.Expr.TheBlock as exprs
use Rattle.ecd_cast.specs.declared.tree.Expr.TheVariants.{Var}
use Rattle.ecd_cast.specs.declared.tree.Stmt.TheVariants.{Return}
use Rattle.ecd_cast.specs.declared.value.Value.{Value}
use Rattle.ecd_cast.specs.declared.value.Value.TheVariants.{Number as Num, Bytes as Ptr}
use Rattle.ecd_cast.specs.Memory.{Memory}
use Rattle.ecd_cast.specs.Expressions.{Scopes}
use Rattle.ecd_cast.specs.Meaning.{Calls, called}
use Rattle.ecd_calculus.specs.Ends.{Answers}
use Rattle.ecd_calculus.specs.Rules.{Works}
use Rattle.ecd_calculus.proofs.Rules.{return_rule, let_rule, assign_call_goes, guard_goes, nil_goes, called_rule, works_within}
use Rattle.ecd_item_laws.specs.declared.fault.Fault.{Fault}
use Rattle.ecd_item_laws.specs.declared.item.Item.{Item}
use Rattle.ecd_item_laws.specs.Reading.{Reader, Taken, many}
use Rattle.ecd_emit.specs.Variables as v
use Rattle.ecd_emit.specs.Windows.{Callee, Window, asked}
use Rattle.ecd_emit.proofs.Windows.{long}
use Rattle.ecd_rt.specs.Names.{any_name}
use Rattle.ecd_rt.specs.Trees.{items_end, items_turn}
use Rattle.ecd_rt.specs.Meanings.{paid_by}
use Rattle.ecd_rt.proofs.Budgets.{more_bytes, items_stop, items_go}
use Rattle.ecd_rt.proofs.Readers.{place_of, Advances, next_item, many_stop, many_go}
use Rattle.ecd_rt.proofs.Spending.{Turn, for_spends}

-- the function answers where the reader stops, and pays so many steps for each byte
pub record Follows (read : Reader Item) (each : ℕ) (callee : Callee) : Type 0 where
  pub answers : (block offset len at : ℕ) (m : Memory) (bytes : List ℕ) → Window m block offset len bytes → at ≤ len →
      Answers (callee (asked block offset len at) m) (λ n. n ≡ place_of (read at (drop at bytes))) (each * paid_by len at (place_of (read at (drop at bytes))))

-- the arguments (buf, len, at, count)
abbrev pub counted : (block offset len at count : ℕ) → List Value
counted block offset len at count = Ptr block offset ∷ Num len ∷ Num at ∷ Num count ∷ []

-- the same for so many values
pub record FollowsMany {A : Type 0} (read : ℕ → Reader (List A)) (each besides : ℕ) (callee : Callee) : Type 0 where
  pub answers : (block offset len at count : ℕ) (m : Memory) (bytes : List ℕ) → Window m block offset len bytes → at ≤ len →
      Answers (callee (counted block offset len at count) m) (λ n. n ≡ place_of (read count at (drop at bytes))) (each * paid_by len at (place_of (read count at (drop at bytes))) + besides)

-- ---- what is paid

pub paid_none : (len at n : ℕ) → n ≡ 0 → paid_by len at n ≡ len - at + 1
paid_none len at n e = rw e refl

pub paid_found : (len at n : ℕ) → 0 < n → paid_by len at n ≡ n - at
paid_found len at n lt = grind (arith, nat_tests)

pub paid_least : (len at n : ℕ) → n - at ≤ paid_by len at n
paid_least len at n = grind (arith, nat_tests)

-- an answer, where the reader's is known
pub known : (read : Reader Item) (each : ℕ) (callee : Callee) → Follows read each callee → (block offset len at : ℕ) (m : Memory) (bytes : List ℕ) → Window m block offset len bytes → at ≤ len → (r : Result (Taken Item) Fault) → read at (drop at bytes) ≡ r →
    Answers (callee (asked block offset len at) m) (λ n. n ≡ place_of r) (each * paid_by len at (place_of r))
known read each callee f block offset len at m bytes w le r e =
    subst (λ (s : Result (Taken Item) Fault). Answers (callee (asked block offset len at) m) (λ n. n ≡ place_of s) (each * paid_by len at (place_of s))) e (f.answers block offset len at m bytes w le)

-- ---- items

module _ (read : Reader Item) (ahead : Advances read) (each deepest : ℕ) (calls : Calls) (k block offset len at count : ℕ) (m : Memory) (bytes : List ℕ) (w : Window m block offset len bytes) (le : at ≤ len) where
  abbrev target : ℕ
  target = place_of (many read count at (drop at bytes))

  abbrev limit : ℕ
  limit = (each + 4) * paid_by len at target + 1

  abbrev scopes : ℕ → Scopes
  scopes here = ((v.end, Num here) ∷ (v.buf, Ptr block offset) ∷ (v.len, Num len) ∷ (v.at, Num at) ∷ (v.count, Num count) ∷ []) ∷ []

  -- before the turn i, from a place on, what is left to read decides
  record Before (i used : ℕ) (env : Scopes) : Type 0 where
    here : ℕ
    left : ℕ
    is : env ≡ scopes here
    all : i + left ≡ count
    past : at ≤ here
    within : here ≤ len
    same : place_of (many read left here (drop here bytes)) ≡ target
    paid : used ≤ (each + 4) * (here - at)

  abbrev Answer : ℕ → Type 0
  Answer a = a ≡ target

  module _ (f : Follows read each (calls (any_name deepest))) where
    turn_by : (i used here left : ℕ) → i + suc left ≡ count → at ≤ here → here ≤ len → place_of (many read (suc left) here (drop here bytes)) ≡ target → used ≤ (each + 4) * (here - at) →
        (r : Result (Taken Item) Fault) → read here (drop here bytes) ≡ r → Turn calls m v.i (items_turn deepest) Before Answer limit i used (scopes here)
    unfolding exprs.shape-the_row-Expr-0 exprs.hidden-the_row-Expr-0 hidden
    turn_by i used here left all past within same paid (Err e) h =
        let none : target ≡ 0 = sym same ∙ many_stop read left here (drop here bytes) e h in
        let c : ℕ = each * (len - here + 1) in
        let y : len - here + 1 ≡ suc (len - here) = omega arith in
        let sum : len - at + 1 ≡ suc (here - at + (len - here)) = omega arith in
        let bound : used + suc (suc (c + 2)) ≤ limit = rw (paid_none len at target none, sum, y) (items_stop each (here - at) (len - here) used paid) in
        record {
          cost = suc (c + 2);
          goes = assign_call_goes {c = c} {k = 2} (Ptr block offset ∷ Num len ∷ Num here ∷ []) (λ x. x ≡ 0) (record { hands = λ p g. refl }) (known read each (calls (any_name deepest)) f block offset len here m bytes w within (Err e) h) (λ x ex.
              guard_goes {k = 0} (nat_eq x 0) 0 (record { tells = refl }) (record { is = refl }) (λ b. (sym none, bound)) (λ b. absurd (eqb-false x 0 b ex)));
        }
    turn_by i used here left all past within same paid (Ok t) h =
        let n = next_item read ahead bytes w.each here (omega (arith, long w)) t h in
        let c : ℕ = each * paid_by len here t.at in
        let some : 0 < t.at = omega (arith, n.past) in
        let sum : t.at - at ≡ here - at + (t.at - here) = omega (arith, n.past) in
        let fresh : place_of (many read left t.at (drop t.at bytes)) ≡ target = ap (λ (l : List ℕ). place_of (many read left t.at l)) (sym n.rest) ∙ (sym (many_go read left here (drop here bytes) t h) ∙ same) in
        let more : used + suc (suc (c + 2)) ≤ (each + 4) * (t.at - at) = rw (paid_found len here t.at some, sum) (items_go each (here - at) (t.at - here) used paid (omega (arith, n.past))) in
        record {
          cost = suc (c + 2);
          goes = assign_call_goes {c = c} {k = 2} (Ptr block offset ∷ Num len ∷ Num here ∷ []) (λ x. x ≡ t.at) (record { hands = λ p g. refl }) (known read each (calls (any_name deepest)) f block offset len here m bytes w within (Ok t) h) (λ x ex.
              guard_goes {k = 0} (nat_eq x 0) 0 (record { tells = refl }) (record { is = refl }) (λ b. absurd (omega (arith, eqb-true x 0 b, ex, some))) (λ b.
              nil_goes (record {
                here = x;
                left = left;
                is = refl;
                all = omega (arith, all);
                past = omega (arith, ex, n.past, past);
                within = omega (arith, ex, n.within, long w);
                same = subst (λ (p : ℕ). place_of (many read left p (drop p bytes)) ≡ target) (sym ex) fresh;
                paid = subst (λ (p : ℕ). used + suc (suc (c + 2)) ≤ (each + 4) * (p - at)) (sym ex) more;
              })));
        }

    turn : (i used : ℕ) (env : Scopes) → i < count → Before i used env → Turn calls m v.i (items_turn deepest) Before Answer limit i used env
    turn i used env lt b =
        let one : b.left ≡ suc (b.left - 1) = omega (arith, b.all) in
        let same : place_of (many read (suc (b.left - 1)) b.here (drop b.here bytes)) ≡ target = subst (λ (n : ℕ). place_of (many read n b.here (drop b.here bytes)) ≡ target) one b.same in
        subst (λ (s : Scopes). Turn calls m v.i (items_turn deepest) Before Answer limit i used s) (sym b.is)
        (turn_by i used b.here (b.left - 1) (omega (arith, b.all)) b.past b.within same b.paid (read b.here (drop b.here bytes)) refl)

    behind : (used : ℕ) (env : Scopes) → Before count used env → Works calls m (Return (Var v.end) ∷ []) env Answer 1 × (used + 1 ≤ limit)
    unfolding many exprs.shape-the_row-Expr-0 exprs.hidden-the_row-Expr-0 hidden
    behind used env b =
        let none : b.left ≡ 0 = omega (arith, b.all) in
        let same : b.here ≡ target = subst (λ (n : ℕ). place_of (many read n b.here (drop b.here bytes)) ≡ target) none b.same in
        let most = more_bytes (each + 4) (target - at) (paid_by len at target) (paid_least len at target) in
        let paid : used ≤ (each + 4) * (target - at) = subst (λ (p : ℕ). used ≤ (each + 4) * (p - at)) same b.paid in
        (subst (λ (s : Scopes). Works calls m (Return (Var v.end) ∷ []) s Answer 1) (sym b.is) (return_rule {n = b.here} (record { is = refl }) same), omega (arith, most, paid))

    pub items_answers : Answers (called calls k (items_end deepest) (counted block offset len at count) m) Answer ((each + 4) * paid_by len at target + 3)
    unfolding items_end exprs.shape-the_row-Expr-0 exprs.hidden-the_row-Expr-0 hidden
    items_answers = called_rule calls m k (items_end deepest) (counted block offset len at count) Answer ((each + 4) * paid_by len at target + 3) (
        works_within (suc (suc limit)) ((each + 4) * paid_by len at target + 3) (omega arith) (
        let_rule {n = at} {k = suc limit} (record { is = refl }) (
        for_spends count 1 limit Before refl (record { here = at; left = count; is = refl; all = omega arith; past = omega arith; within = le; same = refl; paid = omega arith }) turn behind)))
