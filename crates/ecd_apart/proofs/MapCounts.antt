-- How many pairs a map has: its pairs dealt out to its entries.
use Rattle.std.proofs.Common.{◌≡◌, ℕ, zero, suc, ◌+◌, ◌<◌, ◌≤◌, ◌⊎◌, inl, inr, Bool, true, false, cond, List, [], ◌∷◌, ◌++◌, length, map, Some, sym, ◌∙◌, subst, arith}
use Rattle.std.proofs.lemmas.List.{length-append}
use Rattle.ecd_keyorder.specs.declared.Order.{Order}
use Rattle.ecd_item_laws.specs.declared.item.Pair.{Pair}
use Rattle.ecd_item_laws.specs.Encoding.{key_bytes}
use Rattle.ecd_item_laws.specs.Valid.{Ascend}
use Rattle.ecd_core.specs.declared.shape.Kind.{Kind, Row_of-MapEntry, end_of-MapEntry, more_of-MapEntry}
use Rattle.ecd_core.specs.declared.shape.MapEntry.{MapEntry, Field', Table'}
use Rattle.ecd_core.specs.declared.shape.MapEntry.TheVariants as m
use Rattle.ecd_core.specs.declared.shape.Pick.{Pick, Pick', Row_of-MapWay, end_of-MapWay, more_of-MapWay}
use Rattle.ecd_core.specs.declared.value.Value.{Value}
use Rattle.ecd_core.specs.Lists.{Each, HasSome, EachWith, IsIn}
use Rattle.ecd_core.specs.Maps.{ItemValues, APick, GivesPair, Suits, way_of, Takes, FieldHas, PickHas, TableHas, EntryHas, list_of, IsInOneList, MapHas}
use Rattle.ecd_core.specs.Values.{Gives, key_of, field_from, field_meaning, meanings, meaning, pick_meaning, way_meanings, field_meanings}
use Rattle.ecd_core.proofs.Ascending.{some_from_in, in_from_some, same_key}
use Rattle.ecd_core.proofs.Taking.{one_taken}
use Rattle.ecd_apart.specs.Counts.{cap, needed_count, fields_least, fields_greatest, map_ways_least, map_ways_greatest, pick_least, pick_greatest, entry_least, entry_greatest, pairs_least, pairs_greatest}
use Rattle.ecd_apart.specs.Keys.{IsSameKey, field_keys, way_keys, pick_keys, entry_keys, all_keys, ShareNoKey, AreDifferent, WaysDiffer, PickDiffers, EntryDiffers, FieldsDiffer}
use Rattle.ecd_apart.proofs.ArrayCounts.{cap_below, cap_grows, cap_sum}
use Rattle.ecd_apart.proofs.Distinct.{Differ, in_left, in_right, in_either, differ_append, ascending_differ, no_longer}

-- ---- keys

-- the pair has one of these keys
abbrev pub HasKeyOf : List Kind → Pair → Type 0
HasKeyOf keys p = HasSome (λ key. key_of key ≡ Some p.key) keys

key_left : (p : Pair) (xs ys : List Kind) → HasKeyOf xs p → HasKeyOf (xs ++ ys) p
key_left p [] ys h = absurd h
key_left p (x ∷ xs) ys (inl e) = inl e
key_left p (x ∷ xs) ys (inr h) = inr (key_left p xs ys h)

key_right : (p : Pair) (xs ys : List Kind) → HasKeyOf ys p → HasKeyOf (xs ++ ys) p
key_right p [] ys h = h
key_right p (x ∷ xs) ys h = inr (key_right p xs ys h)

no_shared_key : (p : Pair) (xs ys : List Kind) → ShareNoKey xs ys → HasKeyOf xs p → HasKeyOf ys p → ⊥
no_shared_key p [] ys s h i = absurd h
no_shared_key p (x ∷ xs) ys s (inr h) i = no_shared_key p xs ys s.1 h i
no_shared_key p (x ∷ xs) ys s (inl e) i = one ys s.0 i
  where
    one : (others : List Kind) → Each (λ (other : Kind). IsSameKey x other → ⊥) others → HasKeyOf others p → ⊥
    one [] t j = absurd j
    one (y ∷ others) t (inl f) = t.0 (p.key, e, f)
    one (y ∷ others) t (inr j) = one others t.1 j

-- ---- the pairs of some entries

-- The pairs that fields take (T) by their keys, and those that stand in lists (S): each once, within the bounds.
pub record Dealt (pairs : List Pair) (T S : Pair → Type 0) (keys : List Kind) (lo hi : ℕ) : Type 0 where
  pub all : List Pair
  pub low : lo ≤ length all
  pub high : cap (length all) ≤ hi
  pub differ : Differ all
  pub whence : (p : Pair) → IsIn p all → IsIn p pairs × ((T p × HasKeyOf keys p) ⊎ S p)
  pub taken : (p : Pair) → IsIn p pairs → T p → IsIn p all
  pub standing : (p : Pair) → S p → IsIn p all

module _ (pairs : List Pair) where
  -- none
  nothing : (T S : Pair → Type 0) (keys : List Kind) (lo hi : ℕ) → lo ≤ 0 → ((p : Pair) → IsIn p pairs → T p → ⊥) → ((p : Pair) → S p → ⊥) → Dealt pairs T S keys lo hi
  nothing T S keys lo hi low t s = record { all = []; low = low; high = omega (arith, cap_below 0); differ = tt; whence = λ p i. absurd i; taken = t; standing = s }

  widen : (T S : Pair → Type 0) (keys others : List Kind) (lo hi least greatest : ℕ) → least ≤ lo → hi ≤ greatest → ((p : Pair) → HasKeyOf keys p → HasKeyOf others p) → Dealt pairs T S keys lo hi → Dealt pairs T S others least greatest
  widen T S keys others lo hi least greatest a b f d = record {
    all = d.all;
    low = omega (arith, a, d.low);
    high = omega (arith, b, d.high);
    differ = d.differ;
    whence = λ p i. ((d.whence p i).0, from p (d.whence p i).1);
    taken = d.taken;
    standing = d.standing;
  }
    where
      from : (p : Pair) → (T p × HasKeyOf keys p) ⊎ S p → (T p × HasKeyOf others p) ⊎ S p
      from p (inl h) = inl (h.0, f p h.1)
      from p (inr h) = inr h

  retake : (T U S : Pair → Type 0) (keys : List Kind) (lo hi : ℕ) → ((p : Pair) → T p → U p) → ((p : Pair) → U p → T p) → Dealt pairs T S keys lo hi → Dealt pairs U S keys lo hi
  retake T U S keys lo hi f g d = record {
    all = d.all;
    low = d.low;
    high = d.high;
    differ = d.differ;
    whence = λ p i. ((d.whence p i).0, from p (d.whence p i).1);
    taken = λ p i t. d.taken p i (g p t);
    standing = d.standing;
  }
    where
      from : (p : Pair) → (T p × HasKeyOf keys p) ⊎ S p → (U p × HasKeyOf keys p) ⊎ S p
      from p (inl h) = inl (f p h.0, h.1)
      from p (inr h) = inr h

  -- those of some entries and those of others, none of which is of both
  join : (T U S R Q : Pair → Type 0) (keys others : List Kind) (a b x y : ℕ) → ShareNoKey keys others → ((p : Pair) → S p → U p → ⊥) → ((p : Pair) → T p → R p → ⊥) → ((p : Pair) → S p → R p → ⊥)
      → ((p : Pair) → Q p → S p ⊎ R p) → ((p : Pair) → S p ⊎ R p → Q p) → Dealt pairs T S keys a x → Dealt pairs U R others b y → Dealt pairs (λ p. T p ⊎ U p) Q (keys ++ others) (cap (a + b)) (cap (x + y))
  join T U S R Q keys others a b x y apart su tr sr to from d e = record {
    all = d.all ++ e.all;
    low = omega (arith, d.low, e.low, length-append d.all e.all, cap_below (a + b));
    high = subst (λ (n : ℕ). cap n ≤ cap (x + y)) (sym (length-append d.all e.all)) (cap_sum _ _ _ _ d.high e.high);
    differ = differ_append d.all e.all d.differ e.differ (λ p i j. clash p (d.whence p i).1 (e.whence p j).1);
    whence = λ p i. source p (in_either p d.all e.all i);
    taken = take_in;
    standing = λ p s. stand_in p (to p s);
  }
    where
      clash : (p : Pair) → (T p × HasKeyOf keys p) ⊎ S p → (U p × HasKeyOf others p) ⊎ R p → ⊥
      clash p (inl s) (inl t) = no_shared_key p keys others apart s.1 t.1
      clash p (inl s) (inr t) = tr p s.0 t
      clash p (inr s) (inl t) = su p s t.0
      clash p (inr s) (inr t) = sr p s t

      left : (p : Pair) → (T p × HasKeyOf keys p) ⊎ S p → ((T p ⊎ U p) × HasKeyOf (keys ++ others) p) ⊎ Q p
      left p (inl h) = inl (inl h.0, key_left p keys others h.1)
      left p (inr h) = inr (from p (inl h))

      right : (p : Pair) → (U p × HasKeyOf others p) ⊎ R p → ((T p ⊎ U p) × HasKeyOf (keys ++ others) p) ⊎ Q p
      right p (inl h) = inl (inr h.0, key_right p keys others h.1)
      right p (inr h) = inr (from p (inr h))

      source : (p : Pair) → IsIn p d.all ⊎ IsIn p e.all → IsIn p pairs × (((T p ⊎ U p) × HasKeyOf (keys ++ others) p) ⊎ Q p)
      source p (inl i) = let w = d.whence p i in (w.0, left p w.1)
      source p (inr i) = let w = e.whence p i in (w.0, right p w.1)

      take_in : (p : Pair) → IsIn p pairs → T p ⊎ U p → IsIn p (d.all ++ e.all)
      take_in p i (inl t) = in_left p d.all e.all (d.taken p i t)
      take_in p i (inr u) = in_right p d.all e.all (e.taken p i u)

      stand_in : (p : Pair) → S p ⊎ R p → IsIn p (d.all ++ e.all)
      stand_in p (inl s) = in_left p d.all e.all (d.standing p s)
      stand_in p (inr r) = in_right p d.all e.all (e.standing p r)

-- ---- one entry

-- no pair
abbrev None_of : Pair → Type 0
None_of p = ⊥

counted_least : (b : Bool) → cond b 1 0 ≤ 1
counted_least true = omega arith
counted_least false = omega arith

counted_none : (b : Bool) (n : ℕ) → b ≡ false → cond b n 0 ≤ 0
counted_none true n e = absurd cc
counted_none false n e = omega arith

counted_some : (b : Bool) (n : ℕ) → cond b n 0 ≤ n
counted_some true n = omega arith
counted_some false n = omega arith

module _ (order : Order) (pairs : List Pair) (ascend : Ascend order (map key_bytes pairs)) where
  field_dealt : (key : Kind) (cut : Bool) (lo : ℕ) (under : ItemValues) (value : Value) → FieldHas pairs (field_from (key_of key) cut lo under) value
      → Dealt pairs (Suits (field_from (key_of key) cut lo under)) None_of (key ∷ []) (needed_count lo) 1
  field_dealt key cut lo under value (inr h) =
      nothing pairs (Suits (field_from (key_of key) cut lo under)) None_of (key ∷ []) (needed_count lo) 1 (counted_none _ 1 h.0)
      (λ p i s. h.1 (some_from_in (Suits (field_from (key_of key) cut lo under)) pairs p i s)) (λ p s. s)
  field_dealt key cut lo under value (inl h) =
      let a = in_from_some (GivesPair (field_from (key_of key) cut lo under) h.0) pairs h.1 in
      record {
        all = a.0 ∷ [];
        low = counted_least _;
        high = cap_below 1;
        differ = (λ i. i, tt);
        whence = λ p i. from a.0 a.1 a.2 p i;
        taken = λ p i s. inl (same_key order pairs a.0 p ascend a.1 i (let e : a.0.key ≡ p.key = cc (sym a.2.0 ∙ s.1.0) in e));
        standing = λ p s. absurd s;
      }
    where
      from : (q : Pair) → IsIn q pairs → GivesPair (field_from (key_of key) cut lo under) h.0 q → (p : Pair) → IsIn p (q ∷ [])
          → IsIn p pairs × ((Suits (field_from (key_of key) cut lo under) p × HasKeyOf (key ∷ []) p) ⊎ ⊥)
      from q i g p (inr j) = absurd j
      from q i g p (inl e) = subst (λ (x : Pair). IsIn x pairs × ((Suits (field_from (key_of key) cut lo under) x × HasKeyOf (key ∷ []) x) ⊎ ⊥)) e (i, inl ((h.0, g), inl g.0))

  table_dealt : (lo hi : ℕ) (keys under : ItemValues) (T : Pair → Type 0) (it : List Pair × Value) → ((p : Pair) → IsIn p it.0 → IsIn p pairs) → ((p : Pair) → T p → ⊥) → TableHas order lo hi keys under it.0 it.1
      → Dealt pairs T (λ p. IsIn p it.0) [] lo hi
  table_dealt lo hi keys under T it inside none h = record {
    all = it.0;
    low = h.2;
    high = omega (arith, h.3, cap_below (length it.0));
    differ = ascending_differ order it.0 h.1;
    whence = λ p i. (inside p i, inr i);
    taken = λ p i t. absurd (none p t);
    standing = λ p s. s;
  }

  -- ---- fields of a way, ways of a pick

  mutual
    unfolding Gives fields_least fields_greatest map_ways_least map_ways_greatest field_keys way_keys WaysDiffer

    fields_dealt : {n : _} (row : Row_of-MapEntry n) (values : List Value) → AreDifferent (field_keys row) → EachWith (FieldHas pairs) (field_meanings order row) values
        → Dealt pairs (λ p. HasSome (λ field. Suits field p) (field_meanings order row)) None_of (field_keys row) (fields_least row) (fields_greatest row)
    fields_dealt end_of-MapEntry values d h = nothing pairs (λ p. ⊥) None_of [] 0 0 (omega arith) (λ p i t. t) (λ p s. s)
    fields_dealt (more_of-MapEntry (Field' at _ key cut lo _ kind) rest) [] d h = absurd h
    fields_dealt (more_of-MapEntry (Field' at _ key cut lo _ kind) rest) (value ∷ values) d h =
        join pairs (Suits (field_meaning order key cut lo kind)) (λ p. HasSome (λ field. Suits field p) (field_meanings order rest)) None_of None_of None_of (key ∷ []) (field_keys rest) (needed_count lo) (fields_least rest) 1 (fields_greatest rest) d.0
        (λ p s u. s) (λ p t r. r) (λ p s r. s) (λ p q. absurd q) (λ p s. elim s [ inl a ↦ a | inr b ↦ b ]) (field_dealt key cut lo (Gives order kind) value h.0) (fields_dealt rest values d.1 h.1)
    fields_dealt (more_of-MapEntry (m.Pick pick) rest) values d h = fields_dealt rest values d h
    fields_dealt (more_of-MapEntry (Table' at lo hi _ key _ kind) rest) values d h = fields_dealt rest values d h

    ways_dealt : {n : _} (row : Row_of-MapWay n) (number : ℕ) (values : List Value) → WaysDiffer row → number < length (way_meanings order row) → EachWith (FieldHas pairs) (way_of (way_meanings order row) number) values
        → Dealt pairs (λ p. HasSome (λ field. Suits field p) (way_of (way_meanings order row) number)) None_of (way_keys row) (map_ways_least row) (map_ways_greatest row)
    ways_dealt end_of-MapWay number values d lt h = absurd (omega (arith, lt))
    ways_dealt (more_of-MapWay at _ entries rest) zero values d lt h =
        widen pairs (λ p. HasSome (λ field. Suits field p) (field_meanings order entries)) None_of (field_keys entries) (field_keys entries ++ way_keys rest) (fields_least entries) (fields_greatest entries) _ _
        (omega arith) (omega arith) (λ p k. key_left p (field_keys entries) (way_keys rest) k) (fields_dealt entries values d.0 h)
    ways_dealt (more_of-MapWay at _ entries rest) (suc number) values d lt h =
        widen pairs (λ p. HasSome (λ field. Suits field p) (way_of (way_meanings order rest) number)) None_of (way_keys rest) (field_keys entries ++ way_keys rest) (map_ways_least rest) (map_ways_greatest rest) _ _
        (omega arith) (omega arith) (λ p k. key_right p (field_keys entries) (way_keys rest) k) (ways_dealt rest number values d.1 (omega (arith, lt)) h)

  pick_dealt : (needed : Bool) {n : _} (row : Row_of-MapWay n) (value : Value) → WaysDiffer row → PickHas pairs needed (way_meanings order row) value
      → Dealt pairs (λ p. Takes pairs p (APick needed (way_meanings order row))) None_of (way_keys row) (cond needed (map_ways_least row) 0) (map_ways_greatest row)
  pick_dealt needed row value d (inr h) =
      nothing pairs (λ p. Takes pairs p (APick needed (way_meanings order row))) None_of (way_keys row) _ _ (counted_none needed _ h.0) (λ p i t. h.1 t.0 t.1) (λ p s. s)
  pick_dealt needed row value d (inl h) =
      let taken = h.2 in
      widen pairs (λ p. Takes pairs p (APick needed (way_meanings order row))) None_of (way_keys row) (way_keys row) (map_ways_least row) (map_ways_greatest row) _ _ (counted_some needed _) (omega arith) (λ p k. k)
      (retake pairs (λ p. HasSome (λ field. Suits field p) (way_of (way_meanings order row) h.0)) (λ p. Takes pairs p (APick needed (way_meanings order row))) None_of (way_keys row) _ _ (λ p t. (h.0, taken, t))
      (λ p t. subst (λ (j : ℕ). HasSome (λ field. Suits field p) (way_of (way_meanings order row) j)) (one_taken pairs (way_meanings order row) t.0 h.0 t.1 taken) t.2)
      (ways_dealt row h.0 h.1 d taken.there h.3))

  no_list : (T : Pair → Type 0) (keys : List Kind) (lo hi : ℕ) (listed : List Pair) → listed ≡ [] → Dealt pairs T None_of keys lo hi → Dealt pairs T (λ p. IsIn p listed) keys lo hi
  no_list T keys lo hi listed e d = subst (λ (l : List Pair). Dealt pairs T (λ p. IsIn p l) keys lo hi) (sym e) d

  -- ---- all entries

  mutual
    unfolding Gives entry_least entry_greatest pick_least pick_greatest entry_keys pick_keys EntryDiffers PickDiffers

    entry_dealt : (entry : MapEntry) (it : List Pair × Value) → ((p : Pair) → IsIn p it.0 → IsIn p pairs) → EntryDiffers entry → EntryHas order pairs (meaning order entry) it
        → Dealt pairs (λ p. Takes pairs p (meaning order entry)) (λ p. IsIn p it.0) (entry_keys entry) (entry_least entry) (entry_greatest entry)
    entry_dealt (Field' at _ key cut lo _ kind) it inside d h = no_list (Suits (field_meaning order key cut lo kind)) (key ∷ []) (needed_count lo) 1 it.0 h.0 (field_dealt key cut lo (Gives order kind) it.1 h.1)
    entry_dealt (m.Pick pick) it inside d h = pick_entry pick it d h
    entry_dealt (Table' at lo hi _ key _ kind) it inside d h = table_dealt lo hi (Gives order key) (Gives order kind) (λ p. ⊥) it inside (λ p t. t) h

    pick_entry : (pick : Pick) (it : List Pair × Value) → PickDiffers pick → EntryHas order pairs (pick_meaning order pick) it
        → Dealt pairs (λ p. Takes pairs p (pick_meaning order pick)) (λ p. IsIn p it.0) (pick_keys pick) (pick_least pick) (pick_greatest pick)
    pick_entry (Pick' at needed _ ways) it d h = no_list (λ p. Takes pairs p (APick needed (way_meanings order ways))) (way_keys ways) _ _ it.0 h.0 (pick_dealt needed ways it.1 d h.1)

  -- the pair stands in one of the lists
  abbrev Stands : List (List Pair × Value) → Pair → Type 0
  Stands each p = HasSome (λ it. IsIn p it.0) each

  -- no pair stands in two lists
  abbrev Alone : List (List Pair × Value) → Type 0
  Alone [] = Unit {0}
  Alone (it ∷ each) = ((p : Pair) → IsIn p it.0 → Stands each p → ⊥) × Alone each

  entries_dealt : {n : _} (row : Row_of-MapEntry n) (each : List (List Pair × Value)) → FieldsDiffer row → EachWith (EntryHas order pairs) (meanings order row) each → Alone each → ((p : Pair) → Stands each p → IsIn p pairs)
      → ((p : Pair) → Stands each p → HasSome (Takes pairs p) (meanings order row) → ⊥) → Dealt pairs (λ p. HasSome (Takes pairs p) (meanings order row)) (Stands each) (all_keys row) (pairs_least row) (pairs_greatest row)
  unfolding Gives FieldsDiffer all_keys pairs_least pairs_greatest
  entries_dealt end_of-MapEntry [] d h alone inside free = nothing pairs (λ p. ⊥) (λ p. ⊥) [] 0 0 (omega arith) (λ p i t. t) (λ p s. s)
  entries_dealt end_of-MapEntry (it ∷ each) d h alone inside free = absurd h
  entries_dealt (more_of-MapEntry entry rest) [] d h alone inside free = absurd h
  entries_dealt (more_of-MapEntry entry rest) (it ∷ each) d h alone inside free =
      join pairs (λ p. Takes pairs p (meaning order entry)) (λ p. HasSome (Takes pairs p) (meanings order rest)) (λ p. IsIn p it.0) (Stands each) (Stands (it ∷ each)) (entry_keys entry) (all_keys rest) _ _ _ _ d.1
      (λ p s u. free p (inl s) (inr u)) (λ p t r. free p (inr r) (inl t)) alone.0 (λ p s. s) (λ p s. s)
      (entry_dealt entry it (λ p i. inside p (inl i)) d.0 h.0) (entries_dealt rest each d.2 h.1 alone.1 (λ p s. inside p (inr s)) (λ p s t. free p (inr s) (inr t)))

  place_stands : (each : List (List Pair × Value)) (number : ℕ) (p : Pair) → IsIn p (list_of each number) → Stands each p
  place_stands [] number p i = absurd i
  place_stands (it ∷ each) zero p i = inl i
  place_stands (it ∷ each) (suc number) p i = inr (place_stands each number p i)

  stands_place : (each : List (List Pair × Value)) (p : Pair) → Stands each p → (number : ℕ) × IsIn p (list_of each number)
  stands_place [] p s = absurd s
  stands_place (it ∷ each) p (inl i) = (0, i)
  stands_place (it ∷ each) p (inr s) = let r = stands_place each p s in (suc r.0, r.1)

  one_list_alone : (each : List (List Pair × Value)) → ((p : Pair) (a b : ℕ) → IsIn p (list_of each a) → IsIn p (list_of each b) → a ≡ b) → Alone each
  one_list_alone [] f = tt
  one_list_alone (it ∷ each) f =
      ((λ p i s. let r = stands_place each p s in let e : 0 ≡ suc r.0 = f p 0 (suc r.0) i r.1 in omega (arith, e)), one_list_alone each (λ p a b i j. let e : suc a ≡ suc b = f p (suc a) (suc b) i j in omega (arith, e)))

-- ---- the count

abbrev pub IsCounted : ℕ → ℕ → ℕ → Type 0
IsCounted lo hi n = (lo ≤ n) × (cap n ≤ hi)

pub pairs_counted : {n : _} (order : Order) (row : Row_of-MapEntry n) (pairs : List Pair) (values : List Value) → FieldsDiffer row → MapHas order (meanings order row) pairs values → IsCounted (pairs_least row) (pairs_greatest row) (length pairs)
pairs_counted order row pairs values d h =
    let dealt = entries_dealt order pairs h.ascend row h.each d h.has (one_list_alone order pairs h.ascend h.each once) (λ p s. (listed p s).0) (λ p s t. (listed p s).1 t) in
    let a = no_longer dealt.all pairs dealt.differ (λ p i. (dealt.whence p i).0) in
    let b = no_longer pairs dealt.all (ascending_differ order pairs h.ascend) (λ p i. cover dealt p i (h.covered p i)) in
    (omega (arith, a, dealt.low), omega (arith, cap_grows _ _ b, dealt.high))
  where
    listed : (p : Pair) → HasSome (λ (it : List Pair × Value). IsIn p it.0) h.each → IsIn p pairs × (HasSome (Takes pairs p) (meanings order row) → ⊥)
    listed p s = let r = stands_place order pairs h.ascend h.each p s in let l = h.listed r.0 p r.1 in (l.0, l.1)

    once : (p : Pair) (a b : ℕ) → IsIn p (list_of h.each a) → IsIn p (list_of h.each b) → a ≡ b
    once p a b i j = from (h.covered p (h.listed a p i).0)
      where
        from : HasSome (Takes pairs p) (meanings order row) ⊎ IsInOneList h.each p → a ≡ b
        from (inl t) = absurd ((h.listed a p i).1 t)
        from (inr o) = o.2 a i ∙ sym (o.2 b j)

    cover : (dealt : Dealt pairs (λ p. HasSome (Takes pairs p) (meanings order row)) (λ p. HasSome (λ (it : List Pair × Value). IsIn p it.0) h.each) (all_keys row) (pairs_least row) (pairs_greatest row))
        (p : Pair) → IsIn p pairs → HasSome (Takes pairs p) (meanings order row) ⊎ IsInOneList h.each p → IsIn p dealt.all
    cover dealt p i (inl t) = dealt.taken p i t
    cover dealt p i (inr o) = dealt.standing p (place_stands order pairs h.ascend h.each o.0 p o.1)
