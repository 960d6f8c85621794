-- Parts of the test the other way round: the ends of arrays, and maps.
use Rattle.std.proofs.Common.{◌≡◌, ℕ, zero, suc, ◌+◌, ◌⊎◌, inl, inr, Bool, true, false, cond, List, [], ◌∷◌, ◌++◌, length, refl, sym, subst, arith}
use Rattle.std.proofs.Math.Logic.{⊎_map}
use Rattle.ecd_core.specs.declared.shape.Kind.{Kind, Map', Row_of-MapEntry, end_of-MapEntry, more_of-MapEntry}
use Rattle.ecd_core.specs.declared.shape.Group.{Row_of-Part, end_of-Part, more_of-Part}
use Rattle.ecd_core.specs.declared.shape.Part.{Part, One', Opt', Many', Alt'}
use Rattle.ecd_core.specs.declared.shape.MapEntry.{Field', Table'}
use Rattle.ecd_core.specs.declared.shape.MapEntry.TheVariants as m
use Rattle.ecd_core.specs.declared.shape.Pick.{Pick, Pick', Row_of-MapWay, end_of-MapWay, more_of-MapWay}
use Rattle.ecd_core.specs.Listed.{IsAt}
use Rattle.ecd_apart.specs.Keys.{HasCut}
use Rattle.ecd_apart.specs.Apart.{one_of, are_ones, part_count, fixed_suffix, FieldsMiss, WaysMiss, PickMisses, EntriesMiss, MapMisses, HasNeeded, MapNeeds, Apart, LastApart, PartApart, NeededMisses, AreMissed, PickMissed, WaysMissed, FieldsMissed}
use Rattle.ecd_apart.proofs.Ends.{suffix_long}
use Rattle.ecd_apart.proofs.Turning.{InnerApart}

-- ---- places in lists of shapes

pub at_some : (P : Kind → Type 0) (kinds : List Kind) (number : ℕ) → IsAt P kinds number → (kind : Kind) × P kind × IsAt (λ x. x ≡ kind) kinds number
at_some P [] number h = absurd h
at_some P (x ∷ xs) zero h = (x, h, refl)
at_some P (x ∷ xs) (suc number) h = at_some P xs number h

at_so : (P : Kind → Type 0) (kind : Kind) (kinds : List Kind) (number : ℕ) → P kind → IsAt (λ x. x ≡ kind) kinds number → IsAt P kinds number
at_so P kind [] number p h = absurd h
at_so P kind (x ∷ xs) zero p h = subst P (sym h) p
at_so P kind (x ∷ xs) (suc number) p h = at_so P kind xs number p h

at_left : (P : Kind → Type 0) (xs ys : List Kind) (number : ℕ) → IsAt P xs number → IsAt P (xs ++ ys) number
at_left P [] ys number h = absurd h
at_left P (x ∷ xs) ys zero h = h
at_left P (x ∷ xs) ys (suc number) h = at_left P xs ys number h

at_end : (P : Kind → Type 0) (xs : List Kind) (y : Kind) → P y → IsAt P (xs ++ y ∷ []) (length xs)
at_end P [] y p = p
at_end P (x ∷ xs) y p = at_end P xs y p

at_either : (P : Kind → Type 0) (xs ys : List Kind) (number : ℕ) → IsAt P (xs ++ ys) number → IsAt P xs number ⊎ ((behind : ℕ) × (number ≡ length xs + behind) × IsAt P ys behind)
at_either P [] ys number h = inr (number, omega arith, h)
at_either P (x ∷ xs) ys zero h = inl h
at_either P (x ∷ xs) ys (suc number) h = elim (at_either P xs ys number h) [ inl a ↦ inl a | inr b ↦ inr (b.0, omega (arith, b.1), b.2) ]

-- A place at which both lists have a shape, those being apart.
pub record Place (kinds others : List Kind) : Type 0 where
  pub number : ℕ
  pub kind : Kind
  pub other : Kind
  pub here : IsAt (λ x. x ≡ kind) kinds number
  pub there : IsAt (λ x. x ≡ other) others number
  pub apart : Apart kind other

-- ---- the ends of arrays

pub place_of_one : {n : _} (at : ℕ) (kind other : Kind) (rest : Row_of-Part n) (others : List Kind) → are_ones rest ≡ true → IsAt (λ x. x ≡ other) others (part_count rest) → Apart other kind → Place others (fixed_suffix (more_of-Part (One' at kind) rest))
place_of_one at kind other rest others e h a = record {
  number = part_count rest;
  kind = other;
  other = kind;
  here = h;
  there = by_test (are_ones rest) e;
  apart = a;
}
  where
    by_test : (b : Bool) → b ≡ true → IsAt (λ x. x ≡ kind) (cond b (fixed_suffix rest ++ kind ∷ []) (fixed_suffix rest)) (part_count rest)
    by_test true f = subst (IsAt (λ x. x ≡ kind) (fixed_suffix rest ++ kind ∷ [])) (suffix_long rest e) (at_end (λ x. x ≡ kind) (fixed_suffix rest) kind refl)
    by_test false f = absurd cc

pub place_of_rest : {n : _} (part : Part) (rest : Row_of-Part n) (others : List Kind) → Place others (fixed_suffix rest) → Place others (fixed_suffix (more_of-Part part rest))
place_of_rest part rest others p = record {
  number = p.number;
  kind = p.kind;
  other = p.other;
  here = p.here;
  there = by_test (are_ones rest);
  apart = p.apart;
}
  where
    by_test : (b : Bool) → IsAt (λ x. x ≡ p.other) (cond b (fixed_suffix rest ++ one_of part) (fixed_suffix rest)) p.number
    by_test true = at_left (λ x. x ≡ p.other) (fixed_suffix rest) (one_of part) p.number p.there
    by_test false = p.there

pub last_apart : {n : _} (row : Row_of-Part n) (others : List Kind) → Place (fixed_suffix row) others → LastApart row others
unfolding Apart
last_apart end_of-Part others p = absurd p.here
last_apart (more_of-Part part rest) others p = by_test (λ q. last_apart rest others q) (are_ones rest) refl p.here
  where
    with_rest : IsAt (λ x. x ≡ p.kind) (fixed_suffix rest) p.number → Place (fixed_suffix rest) others
    with_rest h = record { number = p.number; kind = p.kind; other = p.other; here = h; there = p.there; apart = p.apart }

    of_part : (one : Part) (behind : ℕ) → p.number ≡ part_count rest + behind → IsAt (λ x. x ≡ p.kind) (one_of one) behind → PartApart one others (part_count rest)
    of_part (One' at kind) zero e h =
        let place : p.number ≡ part_count rest = omega (arith, e) in
        subst (IsAt (Apart kind) others) place (at_so (Apart kind) p.other others p.number (subst (λ (x : Kind). Apart x p.other) (sym h) p.apart) p.there)
    of_part (One' at kind) (suc behind) e h = absurd h
    of_part (Opt' at s body) behind e h = absurd h
    of_part (Many' at lo hi s body) behind e h = absurd h
    of_part (Alt' at s ways) behind e h = absurd h

    from : are_ones rest ≡ true → (Place (fixed_suffix rest) others → LastApart rest others) → IsAt (λ x. x ≡ p.kind) (fixed_suffix rest) p.number ⊎ ((behind : ℕ) × (p.number ≡ length (fixed_suffix rest) + behind) × IsAt (λ x. x ≡ p.kind) (one_of part) behind)
        → LastApart (more_of-Part part rest) others
    from e again (inl h) = inr (again (with_rest h))
    from e again (inr h) = inl (e, of_part part h.0 (omega (arith, h.1, suffix_long rest e)) h.2)

    by_test : (Place (fixed_suffix rest) others → LastApart rest others) → (b : Bool) → are_ones rest ≡ b → IsAt (λ x. x ≡ p.kind) (cond b (fixed_suffix rest ++ one_of part) (fixed_suffix rest)) p.number → LastApart (more_of-Part part rest) others
    by_test again true e h = from e again (at_either (λ x. x ≡ p.kind) (fixed_suffix rest) (one_of part) p.number h)
    by_test again false e h = inr (again (with_rest h))

-- ---- maps

-- A pair of this key and this value has no place in the map.
abbrev pub MissedBy : Kind → Kind → Kind → Type 0
MissedBy (Map' s others) key kind = AreMissed others key kind (HasCut others key)
MissedBy leaf key kind = ⊥

module _ (key kind : Kind) (turn_key : (other : Kind) → Apart key other → Apart other key) (turn_value : (other : Kind) → Apart kind other → Apart other kind) where
  fields_turned : {n : _} (row : Row_of-MapEntry n) → FieldsMiss key (Apart kind) row → FieldsMissed row key kind
  unfolding Apart
  fields_turned end_of-MapEntry a = tt
  fields_turned (more_of-MapEntry (Field' at _ own cut lo _ under) rest) a = (λ same. turn_value under (a.0 same), fields_turned rest a.1)
  fields_turned (more_of-MapEntry (m.Pick pick) rest) a = (tt, fields_turned rest a)
  fields_turned (more_of-MapEntry (Table' at lo hi _ own _ under) rest) a = (tt, fields_turned rest a)

  ways_turned : {n : _} (row : Row_of-MapWay n) → WaysMiss key (Apart kind) row → WaysMissed row key kind
  unfolding Apart
  ways_turned end_of-MapWay a = tt
  ways_turned (more_of-MapWay at _ entries rest) a = (fields_turned entries a.0, ways_turned rest a.1)

  pick_turned : (pick : Pick) → PickMisses key (Apart kind) pick → PickMissed pick key kind
  unfolding Apart
  pick_turned (Pick' at needed _ ways) a = ways_turned ways a

  entries_turned : (C : Type 0) {n : _} (row : Row_of-MapEntry n) → EntriesMiss key (Apart key) (Apart kind) C row → AreMissed row key kind C
  unfolding Apart
  entries_turned C end_of-MapEntry a = tt
  entries_turned C (more_of-MapEntry (Field' at _ own cut lo _ under) rest) a = (λ same. turn_value under (a.0 same), entries_turned C rest a.1)
  entries_turned C (more_of-MapEntry (m.Pick pick) rest) a = (pick_turned pick a.0, entries_turned C rest a.1)
  entries_turned C (more_of-MapEntry (Table' at lo hi _ own _ under) rest) a = (⊎_map (turn_key own) (⊎_map (turn_value under) (λ c. c)) a.0, entries_turned C rest a.1)

  pub missed_by : (leaf : Kind) → MapMisses key (Apart key) (Apart kind) leaf → MissedBy leaf key kind
  missed_by (Map' s others) a = entries_turned (HasCut others key) others a
  missed_by leaf a = absurd a

pub none_needed : {n : _} (row : Row_of-MapEntry n) → HasNeeded (λ key kind. ⊥) row → ⊥
none_needed end_of-MapEntry a = a
none_needed (more_of-MapEntry (Field' at _ own cut lo _ under) rest) (inl a) = a.1
none_needed (more_of-MapEntry (Field' at _ own cut lo _ under) rest) (inr a) = none_needed rest a
none_needed (more_of-MapEntry (m.Pick pick) rest) a = none_needed rest a
none_needed (more_of-MapEntry (Table' at lo hi _ own _ under) rest) a = none_needed rest a

pub needed_misses : (P : Kind → Kind → Type 0) (other : Kind) → ((key kind : Kind) → P key kind → MapMisses key (Apart key) (Apart kind) other) → {n : _} (row : Row_of-MapEntry n) → HasNeeded P row → NeededMisses row other
unfolding Apart
needed_misses P other f end_of-MapEntry a = a
needed_misses P other f (more_of-MapEntry (Field' at _ own cut lo _ under) rest) (inl a) = inl (a.0, f own under a.1)
needed_misses P other f (more_of-MapEntry (Field' at _ own cut lo _ under) rest) (inr a) = inr (needed_misses P other f rest a)
needed_misses P other f (more_of-MapEntry (m.Pick pick) rest) a = inr (needed_misses P other f rest a)
needed_misses P other f (more_of-MapEntry (Table' at lo hi _ own _ under) rest) a = inr (needed_misses P other f rest a)

pub maps_back : (s : List (Unit {0})) (entries : _) (leaf : Kind) → (NeededMisses entries leaf → HasNeeded (MissedBy leaf) entries)
    → ((key kind : Kind) → AreMissed entries key kind (HasCut entries key) → EntriesMiss key (Apart key) (Apart kind) (HasCut entries key) entries)
    → NeededMisses entries leaf ⊎ MapNeeds (λ key kind. AreMissed entries key kind (HasCut entries key)) leaf → InnerApart leaf (Map' s entries)
maps_back s entries (Map' x others) f g (inl a) = inr (f a)
maps_back s entries (Map' x others) f g (inr a) = inl (needed_misses (λ key kind. AreMissed entries key kind (HasCut entries key)) (Map' s entries) g others a)
maps_back s entries leaf f g (inl a) = absurd (none_needed entries (f a))
maps_back s entries leaf f g (inr a) = absurd a
