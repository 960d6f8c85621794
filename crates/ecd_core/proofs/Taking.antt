-- Fields that fit, and picks by their taken ways.
use Rattle.std.proofs.Common.{◌≡◌, ℕ, zero, suc, ◌<◌, inl, inr, Bool, false, List, [], ◌∷◌, ap, ◌∙◌, subst, arith}
use Rattle.ecd_item_laws.specs.declared.item.Pair.{Pair}
use Rattle.ecd_core.specs.declared.value.Value.{Value}
use Rattle.ecd_core.specs.declared.value.Value.TheVariants as v
use Rattle.ecd_core.specs.Lists.{HasSome, EachWith}
use Rattle.ecd_core.specs.Listed.{field_of, fields_mean, ways_mean}
use Rattle.ecd_core.specs.Maps.{FieldMeaning, GivesPair, Suits, Fits, NeededFit, way_of, IsTaken, IsTried, FieldHas, PickHas}
use Rattle.ecd_core.specs.Ways.{FitsBySome, FirstTaken, LaterTaken, IsDecided, IsLeftOut, TakenDecides, NoneLeavesOut}

-- ---- fields

pub some_value : (field : FieldMeaning) (pairs : List Pair) → Fits pairs field → (w : Value) × HasSome (GivesPair field w) pairs
some_value field [] h = absurd h
some_value field (p ∷ ps) (inl h) = (h.0, inl h.1)
some_value field (p ∷ ps) (inr h) = let r = some_value field ps h in (r.0, inr r.1)

pub value_some : (field : FieldMeaning) (pairs : List Pair) (w : Value) → HasSome (GivesPair field w) pairs → Fits pairs field
value_some field [] w h = absurd h
value_some field (p ∷ ps) w (inl h) = inl (w, h)
value_some field (p ∷ ps) w (inr h) = inr (value_some field ps w h)

pub fits_by_some : FitsBySome
fits_by_some order pairs field = (some_value (field_of order field) pairs, λ h. value_some (field_of order field) pairs h.0 h.1)

-- ---- the taken way

pub one_taken : (pairs : List Pair) (ways : List (List FieldMeaning)) (m n : ℕ) → IsTaken pairs ways m → IsTaken pairs ways n → m ≡ n
one_taken pairs ways m n p q = omega (arith, λ (h : m < n). q.first m h p.whole, λ (h : n < m). p.first n h q.whole)

module _ (pairs : List Pair) (way : List FieldMeaning) (ways : List (List FieldMeaning)) where
  pub taken_first : NeededFit pairs way → IsTaken pairs (way ∷ ways) 0
  taken_first h = record { there = omega arith; whole = h; first = λ earlier lt whole. omega (arith, lt) }

  pub taken_later : (n : ℕ) → (NeededFit pairs way → ⊥) → IsTaken pairs ways n → IsTaken pairs (way ∷ ways) (suc n)
  taken_later n none t = record { there = omega (arith, t.there); whole = t.whole; first = before }
    where
      before : (earlier : ℕ) → earlier < suc n → NeededFit pairs (way_of (way ∷ ways) earlier) → ⊥
      before zero lt h = none h
      before (suc j) lt h = t.first j (omega (arith, lt)) h

  pub later_taken : (n : ℕ) → IsTaken pairs (way ∷ ways) (suc n) → IsTaken pairs ways n
  later_taken n t = record { there = omega (arith, t.there); whole = t.whole; first = λ earlier lt whole. t.first (suc earlier) (omega (arith, lt)) whole }

pub first_is_taken : FirstTaken
first_is_taken order pairs way ways = ((λ t. t.whole), taken_first pairs (fields_mean order way.entries) (ways_mean order ways))

pub later_is_taken : LaterTaken
later_is_taken order pairs way ways n =
    ((λ t. ((λ h. t.first 0 (omega arith) h), later_taken pairs (fields_mean order way.entries) (ways_mean order ways) n t)), λ h. taken_later pairs (fields_mean order way.entries) (ways_mean order ways) n h.0 h.1)

-- ---- what it decides

module _ (pairs : List Pair) (needed : Bool) (ways : List (List FieldMeaning)) where
  pub decided : (n : ℕ) → IsTaken pairs ways n → IsDecided pairs needed ways n
  decided n taken = record {
    one = λ other also. one_taken pairs ways other n also taken;
    takes = λ pair. ((λ h. subst (λ (j : ℕ). HasSome (λ field. Suits field pair) (way_of ways j)) (one_taken pairs ways h.0 n h.1 taken) h.2), λ h. (n, taken, h));
    blocks = λ pair. (
      (λ h. (h.0, not-after h.0 h.1, h.1.there, h.2)),
      (λ h. (h.0, record { there = h.2; reached = λ earlier lt also. omega (arith, h.1, lt, one_taken pairs ways n earlier taken also) }, h.3)),
    );
    has = λ value. (of_way value, λ h. inl (n, h.0, taken, h.2, h.1));
  }
    where
      not-after : (j : ℕ) → IsTried pairs ways j → j < suc n
      not-after j tried = omega (arith, λ (h : n < j). tried.reached n h taken)

      of_way : (value : Value) → PickHas pairs needed ways value → (values : List Value) × (value ≡ v.Way n (v.Group values)) × EachWith (FieldHas pairs) (way_of ways n) values
      of_way value (inl h) =
          let same = one_taken pairs ways h.0 n h.2 taken in
          (h.1, h.4 ∙ ap (λ (j : ℕ). v.Way j (v.Group h.1)) same, subst (λ (j : ℕ). EachWith (FieldHas pairs) (way_of ways j) h.1) same h.3)
      of_way value (inr h) = absurd (h.1 n taken)

  pub left_out : ((n : ℕ) → IsTaken pairs ways n → ⊥) → IsLeftOut pairs needed ways
  left_out none = record {
    takes = λ pair h. none h.0 h.1;
    blocks = λ pair. ((λ h. (h.0, h.1.there, h.1.there, h.2)), (λ h. (h.0, record { there = h.2; reached = λ earlier lt also. none earlier also }, h.3)));
    has = λ value. (absent value, λ h. inr (h.0, none, h.1));
  }
    where
      absent : (value : Value) → PickHas pairs needed ways value → (needed ≡ false) × (value ≡ v.Absent)
      absent value (inl h) = absurd (none h.0 h.2)
      absent value (inr h) = (h.0, h.2)

pub taken_decides : TakenDecides
taken_decides order pairs needed ways n taken = decided pairs needed (ways_mean order ways) n taken

pub none_leaves_out : NoneLeavesOut
none_leaves_out order pairs needed ways none = left_out pairs needed (ways_mean order ways) none
