-- What the items of parts begin with, and which parts may be empty.
use Rattle.std.proofs.Common.{◌≡◌, ℕ, zero, suc, ◌≤◌, inl, inr, Bool, true, false, cond, eqb, List, [], ◌∷◌, ◌++◌, length, refl, sym, ◌∙◌, subst, arith}
use Rattle.ecd_keyorder.specs.declared.Order.{Order}
use Rattle.ecd_item_laws.specs.declared.item.Item.{Item}
use Rattle.ecd_core.specs.declared.shape.Kind.{Kind}
use Rattle.ecd_core.specs.declared.shape.Group.{Row_of-Part, end_of-Part, more_of-Part}
use Rattle.ecd_core.specs.declared.shape.Part.{Part, One', Opt', Many', Alt', Row_of-Way, end_of-Way, more_of-Way}
use Rattle.ecd_core.specs.declared.value.Value.{Value}
use Rattle.ecd_core.specs.Lists.{Each}
use Rattle.ecd_core.specs.Values.{Run, run_items, Gives, PartsGive, PartGives, WayGives}
use Rattle.ecd_apart.specs.Apart.{Apart}
use Rattle.ecd_apart.specs.Keys.{KeysDiffer, PartsDiffer, PartDiffers, GroupsDiffer}
use Rattle.ecd_apart.proofs.ApartLaw.{apart_share_none}
use Rattle.ecd_shape_rules.specs.Starts.{may_be_empty, part_may_be_empty, some_way_may_be_empty, starts, part_starts, way_starts, follow, AreApart}
use Rattle.ecd_one_value.specs.Splits.{IsUnder, Follows, AllDiffer}

-- ---- lists of shapes

pub differ_both : (a b : List Kind) → AllDiffer a → AllDiffer b → AllDiffer (a ++ b)
differ_both [] b h g = g
differ_both (kind ∷ a) b h g = (h.0, differ_both a b h.1 g)

pub differ_if : (t : Bool) (a : List Kind) → AllDiffer a → AllDiffer (cond t a [])
differ_if true a h = h
differ_if false a h = tt

mutual
  unfolding KeysDiffer starts

  pub starts_differ : {n : _} (row : Row_of-Part n) → PartsDiffer row → AllDiffer (starts row)
  starts_differ end_of-Part d = tt
  starts_differ (more_of-Part part rest) d =
      differ_both (part_starts part) (cond (part_may_be_empty part) (starts rest) []) (part_starts_differ part d.0) (differ_if (part_may_be_empty part) (starts rest) (starts_differ rest d.1))

  part_starts_differ : (part : Part) → PartDiffers part → AllDiffer (part_starts part)
  part_starts_differ (One' at kind) d = (d, tt)
  part_starts_differ (Opt' at s body) d = starts_differ body d
  part_starts_differ (Many' at lo hi s body) d = starts_differ body d
  part_starts_differ (Alt' at s ways) d = way_starts_differ ways d

  way_starts_differ : {n : _} (row : Row_of-Way n) → GroupsDiffer row → AllDiffer (way_starts row)
  way_starts_differ end_of-Way d = tt
  way_starts_differ (more_of-Way at s body rest) d = differ_both (starts body) (way_starts rest) (starts_differ body d.0) (way_starts_differ rest d.1)

pub follow_differs : {n : _} (rest : Row_of-Part n) (after : List Kind) → PartsDiffer rest → AllDiffer after → AllDiffer (follow rest after)
follow_differs rest after d h = differ_both (starts rest) (cond (may_be_empty rest) after []) (starts_differ rest d) (differ_if (may_be_empty rest) after h)

-- ---- tests

both_true : (t b : Bool) → t ≡ true → b ≡ true → cond t b false ≡ true
both_true true b e f = f
both_true false b e f = e

first_true : (t b : Bool) → t ≡ true → cond t true b ≡ true
first_true true b e = refl
first_true false b e = absurd cc

either_true : (t b : Bool) → b ≡ true → cond t true b ≡ true
either_true true b e = refl
either_true false b e = e

zero_true : (n : ℕ) (b : Bool) → n ≤ 0 → cond (eqb n 0) true b ≡ true
zero_true zero b h = refl
zero_true (suc n) b h = absurd (omega arith)

pub front_empty : (xs ys : List Item) → xs ++ ys ≡ [] → (xs ≡ []) × (ys ≡ [])
front_empty [] ys e = (refl, e)
front_empty (x ∷ xs) ys e = absurd cc

module _ (order : Order) where
  -- ---- what follows

  under_first : (a b : List Kind) (x : Item) → IsUnder order a x → IsUnder order (a ++ b) x
  under_first [] b x p = absurd p
  under_first (kind ∷ a) b x (inl p) = inl p
  under_first (kind ∷ a) b x (inr p) = inr (under_first a b x p)

  under_second : (a b : List Kind) (x : Item) → IsUnder order b x → IsUnder order (a ++ b) x
  under_second [] b x p = p
  under_second (kind ∷ a) b x p = inr (under_second a b x p)

  pub follows_first : (a b : List Kind) (xs : List Item) → Follows order a xs → Follows order (a ++ b) xs
  follows_first a b [] p = tt
  follows_first a b (x ∷ xs) p = under_first a b x p

  pub follows_second : (a b : List Kind) (xs : List Item) → Follows order b xs → Follows order (a ++ b) xs
  follows_second a b [] p = tt
  follows_second a b (x ∷ xs) p = under_second a b x p

  -- where the first list is empty, the second is what follows
  pub follows_append : (a b : List Kind) (xs ys : List Item) → Follows order a xs → (xs ≡ [] → Follows order b ys) → Follows order (a ++ b) (xs ++ ys)
  follows_append a b [] ys p h = follows_second a b ys (h refl)
  follows_append a b (x ∷ xs) ys p h = under_first a b x p

  follows_same : (a : List Kind) (xs ys : List Item) → Follows order a xs → Follows order a ys → Follows order a (xs ++ ys)
  follows_same a [] ys p q = q
  follows_same a (x ∷ xs) ys p q = p

  pub follows_if : (t : Bool) (a : List Kind) (xs : List Item) → t ≡ true → Follows order a xs → Follows order (cond t a []) xs
  follows_if true a xs e p = p
  follows_if false a xs e p = absurd cc

  -- ---- which parts may be empty

  module _ (P : List Item → List Value → Type 0) where
    some_empty : (lo : ℕ) (b : Bool) → ((xs : List Item) (us : List Value) → P xs us → xs ≡ [] → b ≡ true) → (runs : List Run) → lo ≤ length runs → Each (λ run. P run.0 run.1) runs → run_items runs ≡ []
        → cond (eqb lo 0) true b ≡ true
    some_empty lo b h [] l q f = zero_true lo b l
    some_empty lo b h (run ∷ runs) l q f = either_true (eqb lo 0) b (h run.0 run.1 q.0 (front_empty run.0 (run_items runs) f).0)

    pub runs_begin : (a : List Kind) → ((xs : List Item) (us : List Value) → P xs us → Follows order a xs) → (runs : List Run) → Each (λ run. P run.0 run.1) runs → Follows order a (run_items runs)
    runs_begin a h [] q = tt
    runs_begin a h (run ∷ runs) q = follows_same a run.0 (run_items runs) (h run.0 run.1 q.0) (runs_begin a h runs q.1)

  mutual
    unfolding Gives may_be_empty

    pub empty_parts : {m : _} (row : Row_of-Part m) (xs : List Item) (us : List Value) → PartsGive order row xs us → xs ≡ [] → may_be_empty row ≡ true
    empty_parts end_of-Part xs us p e = refl
    empty_parts (more_of-Part part rest) xs us p e =
        let f = front_empty p.0 p.1 (sym p.4 ∙ e) in
        both_true (part_may_be_empty part) (may_be_empty rest) (empty_part part p.0 p.2 p.6 f.0) (empty_parts rest p.1 p.3 p.7 f.1)

    pub empty_part : (part : Part) (xs : List Item) (w : Value) → PartGives order part xs w → xs ≡ [] → part_may_be_empty part ≡ true
    empty_part (One' at kind) xs w p e = absurd (let h : p.0 ∷ [] ≡ [] = sym p.1 ∙ e in cc)
    empty_part (Opt' at s body) xs w p e = refl
    empty_part (Many' at lo hi s body) xs w p e = some_empty (PartsGive order body) lo (may_be_empty body) (λ ys us q f. empty_parts body ys us q f) p.0 p.3.0 p.4 (sym p.1 ∙ e)
    empty_part (Alt' at s ways) xs w p e = empty_way ways p.0 xs p.1 p.3 e

    empty_way : {m : _} (row : Row_of-Way m) (j : ℕ) (xs : List Item) (us : List Value) → WayGives order row j xs us → xs ≡ [] → some_way_may_be_empty row ≡ true
    empty_way end_of-Way j xs us p e = absurd p
    empty_way (more_of-Way at s body rest) zero xs us p e = first_true (may_be_empty body) (some_way_may_be_empty rest) (empty_parts body xs us p e)
    empty_way (more_of-Way at s body rest) (suc j) xs us p e = either_true (may_be_empty body) (some_way_may_be_empty rest) (empty_way rest j xs us p e)

  -- ---- starts

  mutual
    unfolding Gives starts

    pub begin : {m : _} (row : Row_of-Part m) (xs : List Item) (us : List Value) → PartsGive order row xs us → Follows order (starts row) xs
    begin end_of-Part xs us p = subst (Follows order []) (sym p.0) tt
    begin (more_of-Part part rest) xs us p =
        subst (Follows order (part_starts part ++ cond (part_may_be_empty part) (starts rest) [])) (sym p.4)
        (follows_append (part_starts part) (cond (part_may_be_empty part) (starts rest) []) p.0 p.1 (part_begins part p.0 p.2 p.6)
        (λ e. follows_if (part_may_be_empty part) (starts rest) p.1 (empty_part part p.0 p.2 p.6 e) (begin rest p.1 p.3 p.7)))

    part_begins : (part : Part) (xs : List Item) (w : Value) → PartGives order part xs w → Follows order (part_starts part) xs
    part_begins (One' at kind) xs w p = subst (Follows order (kind ∷ [])) (sym p.1) (inl (w, p.2))
    part_begins (Opt' at s body) xs w (inl p) = subst (Follows order (starts body)) (sym p.0) tt
    part_begins (Opt' at s body) xs w (inr p) = begin body xs p.0 p.2
    part_begins (Many' at lo hi s body) xs w p = subst (Follows order (starts body)) (sym p.1) (runs_begin (PartsGive order body) (starts body) (λ ys us q. begin body ys us q) p.0 p.4)
    part_begins (Alt' at s ways) xs w p = way_begins ways p.0 xs p.1 p.3

    way_begins : {m : _} (row : Row_of-Way m) (j : ℕ) (xs : List Item) (us : List Value) → WayGives order row j xs us → Follows order (way_starts row) xs
    way_begins end_of-Way j xs us p = absurd p
    way_begins (more_of-Way at s body rest) zero xs us p = follows_first (starts body) (way_starts rest) xs (begin body xs us p)
    way_begins (more_of-Way at s body rest) (suc j) xs us p = follows_second (starts body) (way_starts rest) xs (way_begins rest j xs us p)

  -- what follows a part, where parts have values behind it
  pub part_followed : {m : _} (rest : Row_of-Part m) (after : List Kind) (back r : List Item) (us : List Value) → PartsGive order rest back us → Follows order after r → Follows order (follow rest after) (back ++ r)
  part_followed rest after back r us p fr =
      follows_append (starts rest) (cond (may_be_empty rest) after []) back r (begin rest back us p) (λ g. follows_if (may_be_empty rest) after r (empty_parts rest back us p g) fr)

  -- ---- lists of shapes that are apart

  pub not_both_kinds : (kind other : Kind) (x : Item) (u w : Value) → KeysDiffer kind → KeysDiffer other → Apart kind other → Gives order kind x u → Gives order other x w → ⊥
  not_both_kinds kind other x u w d e a p q = apart_share_none order (record { at = 0; kind = kind }) (record { at = 0; kind = other }) x u w d e a p q

  apart_from_each : (kind : Kind) (b : List Kind) (x : Item) (w : Value) → KeysDiffer kind → AllDiffer b → Each (λ (other : Kind). Apart kind other) b → Gives order kind x w → IsUnder order b x → ⊥
  apart_from_each kind [] x w d e h p q = absurd q
  apart_from_each kind (other ∷ b) x w d e h p (inl q) = not_both_kinds kind other x w q.0 d e.0 h.0 p q.1
  apart_from_each kind (other ∷ b) x w d e h p (inr q) = apart_from_each kind b x w d e.1 h.1 p q

  pub are_apart : (a b : List Kind) (x : Item) → AllDiffer a → AllDiffer b → AreApart a b → IsUnder order a x → IsUnder order b x → ⊥
  are_apart [] b x d e h p q = absurd p
  are_apart (kind ∷ a) b x d e h (inl p) q = apart_from_each kind b x p.0 d.0 e h.0 p.1 q
  are_apart (kind ∷ a) b x d e h (inr p) q = are_apart a b x d.1 e h.1 p q

  -- what begins with a start cannot follow
  pub no_start : (a after : List Kind) (ys s : List Item) → AllDiffer a → AllDiffer after → AreApart a after → Follows order a ys → (ys ≡ [] → ⊥) → Follows order after (ys ++ s) → ⊥
  no_start a after [] s d e h p n q = n refl
  no_start a after (y ∷ ys) s d e h p n q = are_apart a after y d e h p q
