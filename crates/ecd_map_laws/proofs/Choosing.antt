-- Some of a map's pairs, and their number.
use Rattle.std.proofs.Common.{◌≡◌, ℕ, suc, ◌+◌, ◌⊎◌, inl, inr, List, [], ◌∷◌, ◌++◌, length, map, refl, ap, sym, ◌∙◌, subst, arith}
use Rattle.ecd_keyorder.specs.declared.Order.{Order}
use Rattle.ecd_item_laws.specs.declared.item.Pair.{Pair}
use Rattle.ecd_item_laws.specs.Encoding.{key_bytes}
use Rattle.ecd_item_laws.specs.Valid.{Ascend}
use Rattle.ecd_core.specs.Lists.{IsIn}
use Rattle.ecd_core.proofs.Ascending.{before_all}
use Rattle.ecd_core.specs.Listed.{entries_mean}
use Rattle.ecd_core.specs.Values.{meaning}
use Rattle.ecd_map_laws.specs.Existence.{Number, GoesTo, NumberIsOne, OneMoreCounts}

pub one_number : (P : Pair → Type 0) (pairs : List Pair) (n m : ℕ) → Number P pairs n → Number P pairs m → n ≡ m
one_number P [] n m h g = h ∙ sym g
one_number P (p ∷ ps) n m (inl h) (inl g) = let e = one_number P ps h.1 g.1 h.3 g.3 in h.2 ∙ (ap suc e ∙ sym g.2)
one_number P (p ∷ ps) n m (inl h) (inr g) = absurd (g.0 h.0)
one_number P (p ∷ ps) n m (inr h) (inl g) = absurd (h.0 g.0)
one_number P (p ∷ ps) n m (inr h) (inr g) = one_number P ps n m h.1 g.1

one_more : (P : Pair → Type 0) (pairs : List Pair) (pair : Pair) (n : ℕ) → Number P pairs n → P pair → Number P (pairs ++ pair ∷ []) (n + 1)
one_more P [] pair n h p = inl (p, 0, omega (arith, h), refl)
one_more P (q ∷ ps) pair n (inl h) p = inl (h.0, h.1 + 1, omega (arith, h.2), one_more P ps pair h.1 h.3 p)
one_more P (q ∷ ps) pair n (inr h) p = inr (h.0, one_more P ps pair n h.1 p)

no_more : (P : Pair → Type 0) (pairs : List Pair) (pair : Pair) (n : ℕ) → Number P pairs n → (P pair → ⊥) → Number P (pairs ++ pair ∷ []) n
no_more P [] pair n h p = inr (p, h)
no_more P (q ∷ ps) pair n (inl h) p = inl (h.0, h.1, h.2, no_more P ps pair h.1 h.3 p)
no_more P (q ∷ ps) pair n (inr h) p = inr (h.0, no_more P ps pair n h.1 p)

pub number_is_one : NumberIsOne
number_is_one order entries pairs some entry n m h g = one_number (GoesTo (entries_mean order entries) pairs (meaning order entry)) some n m h g

pub one_more_counts : OneMoreCounts
one_more_counts order entries pairs some entry pair n h =
    (one_more (GoesTo (entries_mean order entries) pairs (meaning order entry)) some pair n h, no_more (GoesTo (entries_mean order entries) pairs (meaning order entry)) some pair n h)

-- where it is settled of each, there is a number
pub number_of : (P : Pair → Type 0) (pairs : List Pair) → ((p : Pair) → IsIn p pairs → P p ⊎ (P p → ⊥)) → (n : ℕ) × Number P pairs n
number_of P [] f = (0, refl)
number_of P (q ∷ ps) f = from (number_of P ps (λ p i. f p (inr i))) (f q (inl refl))
  where
    from : (n : ℕ) × Number P ps n → P q ⊎ (P q → ⊥) → (n : ℕ) × Number P (q ∷ ps) n
    from r (inl h) = (suc r.0, inl (h, r.0, refl, r.1))
    from r (inr h) = (r.0, inr (h, r.1))

-- the elements of which it is so
pub record Chosen (order : Order) (P : Pair → Type 0) (pairs : List Pair) (n : ℕ) : Type 0 where
  pub all : List Pair
  pub long : length all ≡ n
  pub inside : (p : Pair) → IsIn p all → IsIn p pairs × P p
  pub reached : (p : Pair) → IsIn p pairs → P p → IsIn p all
  pub ascends : Ascend order (map key_bytes all)

module _ (order : Order) where
  first_ascends : (q : Pair) (ps l : List Pair) → Ascend order (map key_bytes (q ∷ ps)) → ((p : Pair) → IsIn p l → IsIn p ps) → Ascend order (map key_bytes l) → Ascend order (map key_bytes (q ∷ l))
  first_ascends q ps [] a f b = (tt, b)
  first_ascends q ps (p ∷ l) a f b = (before_all order q ps p a (f p (inl refl)), b)

  pub chosen : (P : Pair → Type 0) (pairs : List Pair) (n : ℕ) → Ascend order (map key_bytes pairs) → Number P pairs n → Chosen order P pairs n
  chosen P [] n a h = record { all = []; long = sym h; inside = λ p i. absurd i; reached = λ p i h. absurd i; ascends = tt }
  chosen P (q ∷ ps) n a (inl h) =
      let r = chosen P ps h.1 a.1 h.3 in
      record {
        all = q ∷ r.all;
        long = ap suc r.long ∙ sym h.2;
        inside = λ p i. within r p i;
        reached = λ p i g. reach r p i g;
        ascends = first_ascends q ps r.all a (λ p i. (r.inside p i).0) r.ascends;
      }
    where
      within : (r : Chosen order P ps h.1) (p : Pair) → IsIn p (q ∷ r.all) → IsIn p (q ∷ ps) × P p
      within r p (inl e) = (inl e, subst P e h.0)
      within r p (inr i) = let g = r.inside p i in (inr g.0, g.1)

      reach : (r : Chosen order P ps h.1) (p : Pair) → IsIn p (q ∷ ps) → P p → IsIn p (q ∷ r.all)
      reach r p (inl e) g = inl e
      reach r p (inr i) g = inr (r.reached p i g)
  chosen P (q ∷ ps) n a (inr h) =
      let r = chosen P ps n a.1 h.1 in
      record { all = r.all; long = r.long; inside = λ p i. let g = r.inside p i in (inr g.0, g.1); reached = λ p i g. reach r p i g; ascends = r.ascends }
    where
      reach : (r : Chosen order P ps n) (p : Pair) → IsIn p (q ∷ ps) → P p → IsIn p r.all
      reach r p (inl e) g = absurd (h.0 (subst P (sym e) g))
      reach r p (inr i) g = r.reached p i g
