-- It does not matter which of two shapes is named first.
use Rattle.std.proofs.Common.{◌⊎◌, inl, inr, List, refl}
use Rattle.std.proofs.Math.Logic.{⊎_map}
use mathlib.Core.Former.{Count}
use Rattle.ecd_core.specs.declared.shape.Kind.{Kind, Choice', Tag', Cbor', AnyTag', Array', Map', Row_of-Shape, end_of-Shape, more_of-Shape, Row_of-MapEntry, end_of-MapEntry, more_of-MapEntry}
use Rattle.ecd_core.specs.declared.shape.Kind.TheVariants as k
use Rattle.ecd_core.specs.declared.shape.Group.{Row_of-Part, end_of-Part, more_of-Part}
use Rattle.ecd_core.specs.declared.shape.Part.{One', Opt', Many', Alt'}
use Rattle.ecd_core.specs.declared.shape.MapEntry.{Field', Table'}
use Rattle.ecd_core.specs.declared.shape.MapEntry.TheVariants as m
use Rattle.ecd_core.specs.declared.shape.Pick.{Pick, Pick', Row_of-MapWay, end_of-MapWay, more_of-MapWay}
use Rattle.ecd_apart.specs.Keys.{HasCut}
use Rattle.ecd_apart.specs.Boxes.{BoxesApart}
use Rattle.ecd_apart.specs.Apart.{AtLeaves, IsOtherBytes, IsOtherText, OfOnly, OfTagged, OfCbor, OfEnds, part_count, fixed_prefix, fixed_suffix, FieldsMiss, WaysMiss, PickMisses, EntriesMiss, HasNeeded, MapNeeds, Apart, OnlyApart, EachApart, FirstApart, LastApart, NeededMisses, AreMissed, PickMissed, WaysMissed, FieldsMissed}
use Rattle.ecd_apart.specs.Laws.{IsApartBothWays}
use Rattle.ecd_apart.proofs.Turning.{boxes_back, InnerApart, leaf_apart, leaves_back, OfAll, choice_apart, bytes_back, text_back, tagged_back, cbor_back}
use Rattle.ecd_apart.proofs.TurningMaps.{at_some, Place, place_of_one, place_of_rest, last_apart, MissedBy, missed_by, maps_back}

either_back : (s leaf : Kind) (D : Type 0) → (D → InnerApart leaf s) → BoxesApart s leaf ⊎ D → BoxesApart leaf s ⊎ InnerApart leaf s
either_back s leaf D f (inl b) = inl (boxes_back s leaf b)
either_back s leaf D f (inr d) = inr (f d)

ends_back : (s : List (Unit {0})) (parts : _) (leaf : Kind) → ((n : Count) (row : Row_of-Part n) → FirstApart parts (fixed_prefix row) → FirstApart row (fixed_prefix parts)) → ((others : List Kind) → LastApart parts others → Place others (fixed_suffix parts))
    → OfEnds (FirstApart parts) (LastApart parts) leaf → InnerApart leaf (Array' s parts)
ends_back s parts (Array' x row) f g (inl a) = inl (f _ row a)
ends_back s parts (Array' x row) f g (inr a) = inr (last_apart row (fixed_suffix parts) (g (fixed_suffix row) a))
ends_back s parts leaf f g a = absurd a

mutual
  unfolding AtLeaves Apart

  pub turn : (s t : Kind) → Apart s t → Apart t s
  turn (Choice' s ways) t a = choice_apart t s ways (turn_each ways t a)
  turn (k.BytesIs bytes) t a =
      leaves_back (λ leaf. BoxesApart (k.BytesIs bytes) leaf ⊎ IsOtherBytes bytes leaf) (k.BytesIs bytes) t
      (λ leaf l b. leaf_apart leaf (k.BytesIs bytes) l tt (either_back (k.BytesIs bytes) leaf (IsOtherBytes bytes leaf) (bytes_back bytes leaf) b)) a
  turn (k.TextIs bytes) t a =
      leaves_back (λ leaf. BoxesApart (k.TextIs bytes) leaf ⊎ IsOtherText bytes leaf) (k.TextIs bytes) t
      (λ leaf l b. leaf_apart leaf (k.TextIs bytes) l tt (either_back (k.TextIs bytes) leaf (IsOtherText bytes leaf) (text_back bytes leaf) b)) a
  turn (Tag' n s inner) t a =
      leaves_back (λ leaf. BoxesApart (Tag' n s inner) leaf ⊎ OfTagged (OnlyApart inner) leaf) (Tag' n s inner) t
      (λ leaf l b.
      leaf_apart leaf (Tag' n s inner) l tt
      (either_back (Tag' n s inner) leaf (OfTagged (OnlyApart inner) leaf) (tagged_back inner (Tag' n s inner) (λ P x. x) (λ o row x. turn_only inner o row x) leaf) b)) a
  turn (AnyTag' s inner) t a =
      leaves_back (λ leaf. BoxesApart (AnyTag' s inner) leaf ⊎ OfTagged (OnlyApart inner) leaf) (AnyTag' s inner) t
      (λ leaf l b.
      leaf_apart leaf (AnyTag' s inner) l tt
      (either_back (AnyTag' s inner) leaf (OfTagged (OnlyApart inner) leaf) (tagged_back inner (AnyTag' s inner) (λ P x. x) (λ o row x. turn_only inner o row x) leaf) b)) a
  turn (Cbor' s inner) t a =
      leaves_back (λ leaf. BoxesApart (Cbor' s inner) leaf ⊎ OfCbor (OnlyApart inner) leaf) (Cbor' s inner) t
      (λ leaf l b.
      leaf_apart leaf (Cbor' s inner) l tt
      (either_back (Cbor' s inner) leaf (OfCbor (OnlyApart inner) leaf) (cbor_back inner (Cbor' s inner) (λ P x. x) (λ o row x. turn_only inner o row x) leaf) b)) a
  turn (Array' s parts) t a =
      leaves_back (λ leaf. BoxesApart (Array' s parts) leaf ⊎ OfEnds (FirstApart parts) (LastApart parts) leaf) (Array' s parts) t
      (λ leaf l b.
      leaf_apart leaf (Array' s parts) l tt
      (either_back (Array' s parts) leaf (OfEnds (FirstApart parts) (LastApart parts) leaf) (ends_back s parts leaf (λ n row x. turn_first parts row x) (λ others x. turn_last parts others x)) b)) a
  turn (Map' s entries) t a =
      leaves_back (λ leaf. BoxesApart (Map' s entries) leaf ⊎ (NeededMisses entries leaf ⊎ MapNeeds (λ key kind. AreMissed entries key kind (HasCut entries key)) leaf)) (Map' s entries) t
      (λ leaf l b.
      leaf_apart leaf (Map' s entries) l tt
      (either_back (Map' s entries) leaf (NeededMisses entries leaf ⊎ MapNeeds (λ key kind. AreMissed entries key kind (HasCut entries key)) leaf)
      (maps_back s entries leaf (λ x. turn_needed entries leaf x) (λ key kind x. turn_missed entries entries key kind x)) b)) a
  turn kind t a = leaves_back (BoxesApart kind) kind t (λ leaf l b. leaf_apart leaf kind l tt (inl (boxes_back kind leaf b))) a

  turn_only : {n : _} (row : Row_of-Shape n) (l : Count) (other : Row_of-Shape l) → OfOnly (OnlyApart row) other → OfOnly (OnlyApart other) row
  turn_only end_of-Shape l end_of-Shape a = a
  turn_only end_of-Shape l (more_of-Shape at kind rest) a = a
  turn_only (more_of-Shape at kind rest) l end_of-Shape a = a
  turn_only (more_of-Shape at kind rest) l (more_of-Shape by other others) a = turn kind other a

  turn_each : {n : _} (row : Row_of-Shape n) (t : Kind) → EachApart row t → OfAll (λ kind. Apart t kind) row
  turn_each end_of-Shape t a = tt
  turn_each (more_of-Shape at kind rest) t a = (turn kind t a.0, turn_each rest t a.1)

  -- ---- arrays

  turn_first : {n : _} (row : Row_of-Part n) {l : Count} (other : Row_of-Part l) → FirstApart row (fixed_prefix other) → FirstApart other (fixed_prefix row)
  turn_first end_of-Part other a = absurd a
  turn_first (more_of-Part part rest) end_of-Part a = absurd a
  turn_first (more_of-Part (One' at kind) rest) (more_of-Part (One' by other) others) (e, inl a) = (refl, inl (turn kind other a))
  turn_first (more_of-Part (One' at kind) rest) (more_of-Part (One' by other) others) (e, inr a) = (refl, inr (turn_first rest others a))
  turn_first (more_of-Part (Opt' at s body) rest) (more_of-Part (One' by other) others) (e, a) = absurd cc
  turn_first (more_of-Part (Many' at lo hi s body) rest) (more_of-Part (One' by other) others) (e, a) = absurd cc
  turn_first (more_of-Part (Alt' at s ways) rest) (more_of-Part (One' by other) others) (e, a) = absurd cc
  turn_first (more_of-Part part rest) (more_of-Part (Opt' by s body) others) a = absurd a
  turn_first (more_of-Part part rest) (more_of-Part (Many' by lo hi s body) others) a = absurd a
  turn_first (more_of-Part part rest) (more_of-Part (Alt' by s ways) others) a = absurd a

  pub turn_last : {n : _} (row : Row_of-Part n) (others : List Kind) → LastApart row others → Place others (fixed_suffix row)
  turn_last end_of-Part others a = absurd a
  turn_last (more_of-Part (One' at kind) rest) others (inl a) =
      let x = at_some (Apart kind) others (part_count rest) a.1 in
      place_of_one at kind x.0 rest others a.0 x.2 (turn kind x.0 x.1)
  turn_last (more_of-Part (Opt' at s body) rest) others (inl a) = absurd a.1
  turn_last (more_of-Part (Many' at lo hi s body) rest) others (inl a) = absurd a.1
  turn_last (more_of-Part (Alt' at s ways) rest) others (inl a) = absurd a.1
  turn_last (more_of-Part part rest) others (inr a) = place_of_rest part rest others (turn_last rest others a)

  -- ---- maps

  pub turn_needed : {n : _} (row : Row_of-MapEntry n) (leaf : Kind) → NeededMisses row leaf → HasNeeded (MissedBy leaf) row
  turn_needed end_of-MapEntry leaf a = a
  turn_needed (more_of-MapEntry (Field' at _ key cut lo _ kind) rest) leaf (inl a) = inl (a.0, missed_by key kind (λ x b. turn key x b) (λ x b. turn kind x b) leaf a.1)
  turn_needed (more_of-MapEntry (Field' at _ key cut lo _ kind) rest) leaf (inr a) = inr (turn_needed rest leaf a)
  turn_needed (more_of-MapEntry (m.Pick pick) rest) leaf (inl a) = absurd a
  turn_needed (more_of-MapEntry (m.Pick pick) rest) leaf (inr a) = turn_needed rest leaf a
  turn_needed (more_of-MapEntry (Table' at lo hi _ key _ kind) rest) leaf (inl a) = absurd a
  turn_needed (more_of-MapEntry (Table' at lo hi _ key _ kind) rest) leaf (inr a) = turn_needed rest leaf a

  pub turn_missed : {n : _} (row : Row_of-MapEntry n) {l : Count} (whole : Row_of-MapEntry l) (key kind : Kind) → AreMissed row key kind (HasCut whole key) → EntriesMiss key (Apart key) (Apart kind) (HasCut whole key) row
  turn_missed end_of-MapEntry whole key kind a = tt
  turn_missed (more_of-MapEntry (Field' at _ own cut lo _ under) rest) whole key kind a = (λ same. turn under kind (a.0 same), turn_missed rest whole key kind a.1)
  turn_missed (more_of-MapEntry (m.Pick pick) rest) whole key kind a = (turn_pick pick key kind a.0, turn_missed rest whole key kind a.1)
  turn_missed (more_of-MapEntry (Table' at lo hi _ own _ under) rest) whole key kind a = (⊎_map (λ b. turn own key b) (⊎_map (λ b. turn under kind b) (λ c. c)) a.0, turn_missed rest whole key kind a.1)

  turn_pick : (pick : Pick) (key kind : Kind) → PickMissed pick key kind → PickMisses key (Apart kind) pick
  turn_pick (Pick' at needed _ ways) key kind a = turn_ways ways key kind a

  turn_ways : {n : _} (row : Row_of-MapWay n) (key kind : Kind) → WaysMissed row key kind → WaysMiss key (Apart kind) row
  turn_ways end_of-MapWay key kind a = tt
  turn_ways (more_of-MapWay at _ entries rest) key kind a = (turn_fields entries key kind a.0, turn_ways rest key kind a.1)

  turn_fields : {n : _} (row : Row_of-MapEntry n) (key kind : Kind) → FieldsMissed row key kind → FieldsMiss key (Apart kind) row
  turn_fields end_of-MapEntry key kind a = tt
  turn_fields (more_of-MapEntry (Field' at _ own cut lo _ under) rest) key kind a = (λ same. turn under kind (a.0 same), turn_fields rest key kind a.1)
  turn_fields (more_of-MapEntry (m.Pick pick) rest) key kind a = turn_fields rest key kind a.1
  turn_fields (more_of-MapEntry (Table' at lo hi _ own _ under) rest) key kind a = turn_fields rest key kind a.1

pub is_apart_both_ways : IsApartBothWays
is_apart_both_ways s t a = turn s.kind t.kind a
