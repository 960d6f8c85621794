-- No item has values under two shapes that are apart.
use Rattle.std.proofs.Common.{◌≡◌, ℕ, zero, suc, ◌⊎◌, inl, inr, List, [], ◌∷◌, ◌++◌, length, reverse, ap, ◌∙◌, subst}
use Rattle.std.proofs.Math.Logic.{⊎_map}
use mathlib.Core.Former.{Count}
use Rattle.ecd_keyorder.specs.declared.Order.{Order}
use Rattle.ecd_item_laws.specs.declared.item.Item.{Item}
use Rattle.ecd_item_laws.specs.declared.item.Item.TheVariants as i
use Rattle.ecd_item_laws.specs.declared.item.Pair.{Pair}
use Rattle.ecd_core.specs.declared.shape.Kind.{Kind, Choice', Tag', Cbor', AnyTag', Array', Map', Row_of-Shape, end_of-Shape, more_of-Shape, Row_of-MapEntry, end_of-MapEntry, more_of-MapEntry}
use Rattle.ecd_core.specs.declared.shape.Kind.TheVariants as k
use Rattle.ecd_core.specs.declared.shape.Group.{Row_of-Part, end_of-Part, more_of-Part}
use Rattle.ecd_core.specs.declared.shape.Part.{Part, One', Opt', Many', Alt'}
use Rattle.ecd_core.specs.declared.shape.MapEntry.{MapEntry, Field', Table'}
use Rattle.ecd_core.specs.declared.shape.MapEntry.TheVariants as m
use Rattle.ecd_core.specs.declared.shape.Pick.{Pick, Pick', Row_of-MapWay, end_of-MapWay, more_of-MapWay}
use Rattle.ecd_core.specs.declared.value.Value.{Value}
use Rattle.ecd_core.specs.Lists.{EachWith}
use Rattle.ecd_core.specs.Maps.{EntryHas, MapHas}
use Rattle.ecd_core.specs.Values.{Gives, OnlyGives, AlternativeGives, PartsGive, PartGives, meanings, meaning}
use Rattle.ecd_apart.specs.Keys.{KeysDiffer, ShapesDiffer, PartsDiffer, PartDiffers, EntriesDiffer, EntryInside, PickInside, MapWaysInside, HasCut}
use Rattle.ecd_apart.specs.Boxes.{BoxesApart}
use Rattle.ecd_apart.specs.Apart.{part_count, AtLeaves, IsOtherBytes, IsOtherText, OfTagged, OfCbor, OfEnds, FieldsMiss, WaysMiss, PickMisses, EntriesMiss, MapNeeds, Apart, OnlyApart, EachApart, FirstApart, LastApart, PartApart, NeededMisses, EntryMisses, AreMissed, PickMissed, WaysMissed, FieldsMissed}
use Rattle.ecd_apart.specs.Laws.{ApartShareNone}
use Rattle.ecd_apart.proofs.Ends.{BeginWith, begin_longer, first_at, last_first, last_at, ones_long}
use Rattle.ecd_apart.proofs.Leaves.{Contradicts, at_leaves, boxed, boxed_or, other_bytes, other_text, of_tagged, of_cbor, of_ends}
use Rattle.ecd_apart.proofs.Missing.{needed_found, some_found_in, key_given, no_place, no_place_in}

module _ (order : Order) where
  -- no value of the item under this kind
  abbrev GivesNone : Item → Kind → Type 0
  GivesNone item kind = (value : Value) → Gives order kind item value → ⊥

  either : (P Q : Kind → Type 0) (item : Item) → Contradicts order P item → Contradicts order Q item → Contradicts order (λ leaf. P leaf ⊎ Q leaf) item
  either P Q item f g leaf value d (inl a) q = f leaf value d a q
  either P Q item f g leaf value d (inr a) q = g leaf value d a q

  -- a pair of the other map's field that is needed has no place in this one
  by_missed : {n : _} (row : Row_of-MapEntry n) (pairs : List Pair) (values : List Value) → EntriesDiffer row → MapHas order (meanings order row) pairs values
      → ((key kind : Kind) (pair : Pair) (u w : Value) → KeysDiffer key → KeysDiffer kind → AreMissed row key kind (HasCut row key) → Gives order key pair.key u → Gives order kind pair.value w
      → EntriesMiss key (GivesNone pair.key) (GivesNone pair.value) (HasCut row key) row)
      → (leaf : Kind) (w : Value) → KeysDiffer leaf → MapNeeds (λ key kind. AreMissed row key kind (HasCut row key)) leaf → Gives order leaf (i.Map pairs) w → ⊥
  by_missed row pairs values d p missed leaf w e a q =
      let s = some_found_in order pairs (λ key kind. AreMissed row key kind (HasCut row key)) leaf w e a q in
      let f = s.5 in
      let g = key_given order s.0 f.pair.key f.own in
      no_place order s.0 (GivesNone f.pair.key) (GivesNone f.pair.value) f.pair f.own (λ kind value c none given. none value given) (λ kind value c none given. none value given) row pairs values d
      (missed s.0 s.1 f.pair g.0 f.value s.3 s.4 s.2 g.1 f.given) p f.here

  mutual
    unfolding Gives KeysDiffer AtLeaves Apart

    pub not_both : (s t : Kind) (item : Item) (u w : Value) → KeysDiffer s → KeysDiffer t → Apart s t → Gives order s item u → Gives order t item w → ⊥
    not_both (Choice' s ways) t item u w d e a p q = no_alternative ways p.0 t item p.1 w d e a p.3 q
    not_both (k.BytesIs bytes) t item u w d e a p q =
        at_leaves order t item w (λ leaf. BoxesApart (k.BytesIs bytes) leaf ⊎ IsOtherBytes bytes leaf) (boxed_or order (k.BytesIs bytes) item u (IsOtherBytes bytes) d p (other_bytes order bytes item p.0)) e a q
    not_both (k.TextIs bytes) t item u w d e a p q =
        at_leaves order t item w (λ leaf. BoxesApart (k.TextIs bytes) leaf ⊎ IsOtherText bytes leaf) (boxed_or order (k.TextIs bytes) item u (IsOtherText bytes) d p (other_text order bytes item p.0)) e a q
    not_both (Tag' n s inner) t item u w d e a p q =
        at_leaves order t item w (λ leaf. BoxesApart (Tag' n s inner) leaf ⊎ OfTagged (OnlyApart inner) leaf)
        (boxed_or order (Tag' n s inner) item u (OfTagged (OnlyApart inner)) d p (of_tagged order (OnlyApart inner) n p.0 item p.1 (λ leaf x f b r. not_inside inner leaf p.0 u x d f b p.3 r))) e a q
    not_both (AnyTag' s inner) t item u w d e a p q =
        at_leaves order t item w (λ leaf. BoxesApart (AnyTag' s inner) leaf ⊎ OfTagged (OnlyApart inner) leaf)
        (boxed_or order (AnyTag' s inner) item u (OfTagged (OnlyApart inner)) d p (of_tagged order (OnlyApart inner) p.0 p.1 item p.3 (λ leaf x f b r. not_inside inner leaf p.1 p.2 x d f b p.6 r))) e a q
    not_both (Cbor' s inner) t item u w d e a p q =
        at_leaves order t item w (λ leaf. BoxesApart (Cbor' s inner) leaf ⊎ OfCbor (OnlyApart inner) leaf)
        (boxed_or order (Cbor' s inner) item u (OfCbor (OnlyApart inner)) d p (of_cbor order (OnlyApart inner) p.0 item p.2 p.1 (λ leaf x f b r. not_inside inner leaf p.0 u x d f b p.3 r))) e a q
    not_both (Array' s parts) t item u w d e a p q =
        at_leaves order t item w (λ leaf. BoxesApart (Array' s parts) leaf ⊎ OfEnds (FirstApart parts) (LastApart parts) leaf)
        (boxed_or order (Array' s parts) item u (OfEnds (FirstApart parts) (LastApart parts)) d p
        (of_ends order (FirstApart parts) (LastApart parts) p.0 item p.2 (λ kinds b r. no_first parts kinds p.0 p.1 d b p.4 r) (λ kinds b r. no_last parts kinds p.0 [] p.1 d b p.4 (begin_longer order kinds (reverse p.0) [] r)))) e a q
    not_both (Map' s entries) t item u w d e a p q =
        at_leaves order t item w (λ leaf. BoxesApart (Map' s entries) leaf ⊎ (NeededMisses entries leaf ⊎ MapNeeds (λ key kind. AreMissed entries key kind (HasCut entries key)) leaf))
        (boxed_or order (Map' s entries) item u (λ leaf. NeededMisses entries leaf ⊎ MapNeeds (λ key kind. AreMissed entries key kind (HasCut entries key)) leaf) d p
        (either (λ leaf. NeededMisses entries leaf) (λ leaf. MapNeeds (λ key kind. AreMissed entries key kind (HasCut entries key)) leaf) item
        (λ leaf x f b r. no_needed entries leaf p.0 p.4.each x d.1 f b p.4.has (subst (λ (y : Item). Gives order leaf y x) p.2 r))
        (λ leaf x f b r.
        by_missed entries p.0 p.1 d.1 p.4 (λ key kind pair y z e' g c h i. are_missed entries entries key kind pair y z d.1 e' g c h i) leaf x f b (subst (λ (y : Item). Gives order leaf y x) p.2 r)))) e a q
    not_both kind t item u w d e a p q = at_leaves order t item w (BoxesApart kind) (boxed order kind item u d p) e a q

    not_inside : {n : _} (row : Row_of-Shape n) (t : Kind) (item : Item) (u w : Value) → ShapesDiffer row → KeysDiffer t → OnlyApart row t → OnlyGives order row item u → Gives order t item w → ⊥
    not_inside end_of-Shape t item u w d e a p q = absurd p
    not_inside (more_of-Shape at kind rest) t item u w d e a p q = not_both kind t item u w d.0 e a p q

    no_alternative : {n : _} (row : Row_of-Shape n) (number : ℕ) (t : Kind) (item : Item) (u w : Value) → ShapesDiffer row → KeysDiffer t → EachApart row t → AlternativeGives order row number item u → Gives order t item w → ⊥
    no_alternative end_of-Shape number t item u w d e a p q = absurd p
    no_alternative (more_of-Shape at kind rest) zero t item u w d e a p q = not_both kind t item u w d.0 e a.0 p q
    no_alternative (more_of-Shape at kind rest) (suc number) t item u w d e a p q = no_alternative rest number t item u w d.1 e a.1 p q

    -- ---- arrays

    no_first : {n : _} (row : Row_of-Part n) (kinds : List Kind) (items : List Item) (values : List Value) → PartsDiffer row → FirstApart row kinds → PartsGive order row items values → BeginWith order kinds items → ⊥
    no_first end_of-Part kinds items values d a p q = absurd a
    no_first (more_of-Part part rest) [] items values d a p q = absurd a
    no_first (more_of-Part (One' at kind) rest) (other ∷ others) items values d (e, inl a) p q =
        let f = first_at order (Apart kind) (other ∷ others) items p.0 p.1 p.6.0 p.4 p.6.1 a q in
        not_both kind f.0 p.6.0 p.2 f.2.1 d.0 f.2.0 f.1 p.6.2 f.2.2
    no_first (more_of-Part (One' at kind) rest) (other ∷ others) items values d (e, inr a) p q =
        no_first rest others p.1 p.3 d.1 a p.7 (subst (BeginWith order (other ∷ others)) (p.4 ∙ ap (λ (x : List Item). x ++ p.1) p.6.1) q).1
    no_first (more_of-Part (Opt' at s body) rest) (other ∷ others) items values d (e, a) p q = absurd cc
    no_first (more_of-Part (Many' at lo hi s body) rest) (other ∷ others) items values d (e, a) p q = absurd cc
    no_first (more_of-Part (Alt' at s ways) rest) (other ∷ others) items values d (e, a) p q = absurd cc

    no_last : {n : _} (row : Row_of-Part n) (kinds : List Kind) (items before : List Item) (values : List Value) → PartsDiffer row → LastApart row kinds → PartsGive order row items values → BeginWith order kinds (reverse items ++ before) → ⊥
    no_last end_of-Part kinds items before values d a p q = absurd a
    no_last (more_of-Part part rest) kinds items before values d (inl a) p q = no_last_part part kinds items p.0 p.1 before p.2 (part_count rest) d.0 p.4 (ones_long order rest p.1 p.3 a.0 p.7) a.1 p.6 q
    no_last (more_of-Part part rest) kinds items before values d (inr a) p q = no_last rest kinds p.1 (reverse p.0 ++ before) p.3 d.1 a p.7 (last_first order kinds items p.0 p.1 before p.4 q)

    no_last_part : (part : Part) (kinds : List Kind) (items front back before : List Item) (value : Value) (number : ℕ) → PartDiffers part → items ≡ front ++ back → length back ≡ number → PartApart part kinds number
        → PartGives order part front value → BeginWith order kinds (reverse items ++ before) → ⊥
    no_last_part (One' at kind) kinds items front back before value number d e l a p q =
        let f = last_at order (Apart kind) kinds items front back before p.0 number e p.1 l a q in
        not_both kind f.0 p.0 value f.2.1 d f.2.0 f.1 p.2 f.2.2
    no_last_part (Opt' at s body) kinds items front back before value number d e l a p q = absurd a
    no_last_part (Many' at lo hi s body) kinds items front back before value number d e l a p q = absurd a
    no_last_part (Alt' at s ways) kinds items front back before value number d e l a p q = absurd a

    -- ---- maps

    no_needed : {n : _} (row : Row_of-MapEntry n) (leaf : Kind) (pairs : List Pair) (each : List (List Pair × Value)) (w : Value) → EntriesDiffer row → KeysDiffer leaf → NeededMisses row leaf
        → EachWith (EntryHas order pairs) (meanings order row) each → Gives order leaf (i.Map pairs) w → ⊥
    no_needed end_of-MapEntry leaf pairs each w d e a p q = absurd a
    no_needed (more_of-MapEntry entry rest) leaf pairs [] w d e a p q = absurd p
    no_needed (more_of-MapEntry entry rest) leaf pairs (it ∷ each) w d e (inl a) p q = no_needed_entry entry leaf pairs it w d.0 e a p.0 q
    no_needed (more_of-MapEntry entry rest) leaf pairs (it ∷ each) w d e (inr a) p q = no_needed rest leaf pairs each w d.1 e a p.1 q

    no_needed_entry : (entry : MapEntry) (leaf : Kind) (pairs : List Pair) (it : List Pair × Value) (w : Value) → EntryInside entry → KeysDiffer leaf → EntryMisses entry leaf → EntryHas order pairs (meaning order entry) it
        → Gives order leaf (i.Map pairs) w → ⊥
    no_needed_entry (Field' at _ key cut lo _ kind) leaf pairs it w d e a p q =
        let f = needed_found order pairs key cut lo kind it.1 a.0 p.1 in
        let g = key_given order key f.pair.key f.own in
        no_place_in order key (Apart key) (Apart kind) f.pair f.own (λ other x c b r. not_both key other f.pair.key g.0 x d.0 c b g.1 r) (λ other x c b r. not_both kind other f.pair.value f.value x d.1 c b f.given r)
        leaf pairs w e a.1 q f.here
    no_needed_entry (m.Pick pick) leaf pairs it w d e a p q = absurd a
    no_needed_entry (Table' at lo hi _ key _ kind) leaf pairs it w d e a p q = absurd a

    -- a pair of the key and the value has no place among these
    are_missed : {n : _} (row : Row_of-MapEntry n) {l : Count} (whole : Row_of-MapEntry l) (key kind : Kind) (pair : Pair) (u w : Value) → EntriesDiffer row → KeysDiffer key → KeysDiffer kind → AreMissed row key kind (HasCut whole key) → Gives order key pair.key u → Gives order kind pair.value w
        → EntriesMiss key (GivesNone pair.key) (GivesNone pair.value) (HasCut whole key) row
    are_missed end_of-MapEntry whole key kind pair u w d e f a p q = tt
    are_missed (more_of-MapEntry (Field' at _ own cut lo _ under) rest) whole key kind pair u w d e f a p q =
        (λ same x g. not_both under kind pair.value x w d.0.1 f (a.0 same) g q, are_missed rest whole key kind pair u w d.1 e f a.1 p q)
    are_missed (more_of-MapEntry (m.Pick pick) rest) whole key kind pair u w d e f a p q = (pick_missed pick key kind pair w d.0 f a.0 q, are_missed rest whole key kind pair u w d.1 e f a.1 p q)
    are_missed (more_of-MapEntry (Table' at lo hi _ own _ under) rest) whole key kind pair u w d e f a p q =
        (⊎_map (λ b x g. not_both own key pair.key x u d.0.0 e b g p) (⊎_map (λ b x g. not_both under kind pair.value x w d.0.1 f b g q) (λ c. c)) a.0, are_missed rest whole key kind pair u w d.1 e f a.1 p q)

    pick_missed : (pick : Pick) (key kind : Kind) (pair : Pair) (w : Value) → PickInside pick → KeysDiffer kind → PickMissed pick key kind → Gives order kind pair.value w → PickMisses key (GivesNone pair.value) pick
    pick_missed (Pick' at needed _ ways) key kind pair w d f a q = ways_missed ways key kind pair w d f a q

    ways_missed : {n : _} (row : Row_of-MapWay n) (key kind : Kind) (pair : Pair) (w : Value) → MapWaysInside row → KeysDiffer kind → WaysMissed row key kind → Gives order kind pair.value w → WaysMiss key (GivesNone pair.value) row
    ways_missed end_of-MapWay key kind pair w d f a q = tt
    ways_missed (more_of-MapWay at _ entries rest) key kind pair w d f a q = (fields_missed entries key kind pair w d.0 f a.0 q, ways_missed rest key kind pair w d.1 f a.1 q)

    fields_missed : {n : _} (row : Row_of-MapEntry n) (key kind : Kind) (pair : Pair) (w : Value) → EntriesDiffer row → KeysDiffer kind → FieldsMissed row key kind → Gives order kind pair.value w → FieldsMiss key (GivesNone pair.value) row
    fields_missed end_of-MapEntry key kind pair w d f a q = tt
    fields_missed (more_of-MapEntry (Field' at _ own cut lo _ under) rest) key kind pair w d f a q =
        (λ same x g. not_both under kind pair.value x w d.0.1 f (a.0 same) g q, fields_missed rest key kind pair w d.1 f a.1 q)
    fields_missed (more_of-MapEntry (m.Pick pick) rest) key kind pair w d f a q = fields_missed rest key kind pair w d.1 f a.1 q
    fields_missed (more_of-MapEntry (Table' at lo hi _ own _ under) rest) key kind pair w d f a q = fields_missed rest key kind pair w d.1 f a.1 q

pub apart_share_none : ApartShareNone
apart_share_none order s t item value other d e a p q = not_both order s.kind t.kind item value other d e a p q
