-- A field takes a pair of a map exactly where its key is one of the taken keys.
use Rattle.std.proofs.Common.{◌≡◌, ℕ, ◌⊎◌, inl, inr, Bool, true, false, List, [], ◌∷◌, map, refl, sym, ◌∙◌, subst}
use Rattle.ecd_keyorder.specs.declared.Order.{Order}
use Rattle.ecd_item_laws.specs.declared.item.Item.{Item}
use Rattle.ecd_item_laws.specs.declared.item.Pair.{Pair}
use Rattle.ecd_core.specs.declared.value.Value.{Value}
use Rattle.ecd_core.specs.declared.value.Value.TheVariants as v
use Rattle.ecd_core.specs.Lists.{HasSome, EachWith, IsIn}
use Rattle.ecd_core.specs.Listed.{entries_mean}
use Rattle.ecd_core.specs.Maps.{FieldMeaning, EntryMeaning, AField, APick, ATable, GivesPair, Suits, way_of, Takes, held, FieldHas, PickHas, EntryHas, value_of, MapHas}
use Rattle.ecd_core.proofs.Ascending.{some_from_in, in_from_some, same_key}
use Rattle.ecd_core.proofs.Taking.{one_taken}
use Rattle.ecd_core.proofs.ValueLayers.{ways_alike, groups_alike, absent_present, absent_way}
use Rattle.ecd_map_laws.specs.Taken.{SomeWith, IsThere, HasKey, TakesKey, IsTakenKey, TakenByKey, TakenIsThere}

-- what is held is there
held_there : (field : FieldMeaning) (b : Bool) (one : Value) → field.needed ≡ b → (field.needed ≡ true) ⊎ ((w : Value) × (held b one ≡ v.Present w))
held_there field true one e = inl e
held_there field false one e = inr (one, refl)

module _ (pairs : List Pair) where
  -- ---- from pairs to keys

  field_key : (field : FieldMeaning) (value : Value) (pair : Pair) → IsIn pair pairs → FieldHas pairs field value → Suits field pair → HasKey pair.key field value
  field_key field value pair here (inl h) suits = (suits.1.0, from (held_there field field.needed h.0 refl))
    where
      from : (field.needed ≡ true) ⊎ ((w : Value) × (held field.needed h.0 ≡ v.Present w)) → IsThere field value
      from (inl e) = inl e
      from (inr e) = inr (e.0, h.2 ∙ e.1)
  field_key field value pair here (inr h) suits = absurd (h.1 (some_from_in (Suits field) pairs pair here suits))

  way_key : (way : List FieldMeaning) (values : List Value) (pair : Pair) → IsIn pair pairs → EachWith (FieldHas pairs) way values → HasSome (λ field. Suits field pair) way → SomeWith (HasKey pair.key) way values
  way_key [] values pair here h suits = absurd suits
  way_key (field ∷ way) [] pair here h suits = absurd h
  way_key (field ∷ way) (value ∷ values) pair here h (inl suits) = inl (field_key field value pair here h.0 suits)
  way_key (field ∷ way) (value ∷ values) pair here h (inr suits) = inr (way_key way values pair here h.1 suits)

  entry_key : (order : Order) (entry : EntryMeaning) (it : List Pair × Value) (pair : Pair) → IsIn pair pairs → EntryHas order pairs entry it → Takes pairs pair entry → TakesKey pair.key entry it.1
  entry_key order (AField field) it pair here h takes = field_key field it.1 pair here h.1 takes
  entry_key order (APick needed ways) it pair here h takes = from h.1
    where
      from : PickHas pairs needed ways it.1 → TakesKey pair.key (APick needed ways) it.1
      from (inl p) =
          let same = one_taken pairs ways takes.0 p.0 takes.1 p.2 in
          (p.0, p.1, p.4, way_key (way_of ways p.0) p.1 pair here p.3 (subst (λ (n : ℕ). HasSome (λ field. Suits field pair) (way_of ways n)) same takes.2))
      from (inr p) = absurd (p.1 takes.0 takes.1)
  entry_key order (ATable lo hi keys under) it pair here h takes = absurd takes

  entries_key : (order : Order) (entries : List EntryMeaning) (each : List (List Pair × Value)) (pair : Pair) → IsIn pair pairs → EachWith (EntryHas order pairs) entries each → HasSome (Takes pairs pair) entries
      → IsTakenKey entries (map value_of each) pair.key
  entries_key order [] each pair here h takes = absurd takes
  entries_key order (entry ∷ entries) [] pair here h takes = absurd h
  entries_key order (entry ∷ entries) (it ∷ each) pair here h (inl takes) = inl (entry_key order entry it pair here h.0 takes)
  entries_key order (entry ∷ entries) (it ∷ each) pair here h (inr takes) = inr (entries_key order entries each pair here h.1 takes)

  -- ---- from keys to pairs

  -- a pair of this key, and the field takes it
  field_pair : (field : FieldMeaning) (value : Value) (key : Item) → FieldHas pairs field value → HasKey key field value → (pair : Pair) × IsIn pair pairs × (pair.key ≡ key) × Suits field pair
  field_pair field value key (inl h) there =
      let a = in_from_some (GivesPair field h.0) pairs h.1 in
      let same : a.0.key ≡ key = cc (sym a.2.0 ∙ there.0) in
      (a.0, a.1, same, (h.0, a.2))
  field_pair field value key (inr h) there = absurd (from there.1)
    where
      from : IsThere field value → ⊥
      from (inl e) = let f : true ≡ false = sym e ∙ h.0 in cc
      from (inr e) = absent_present e.0 (sym h.2 ∙ e.1)

  way_pair : (way : List FieldMeaning) (values : List Value) (key : Item) → EachWith (FieldHas pairs) way values → SomeWith (HasKey key) way values
      → (pair : Pair) × IsIn pair pairs × (pair.key ≡ key) × HasSome (λ field. Suits field pair) way
  way_pair [] values key h there = absurd there
  way_pair (field ∷ way) [] key h there = absurd h
  way_pair (field ∷ way) (value ∷ values) key h (inl there) = let r = field_pair field value key h.0 there in (r.0, r.1, r.2, inl r.3)
  way_pair (field ∷ way) (value ∷ values) key h (inr there) = let r = way_pair way values key h.1 there in (r.0, r.1, r.2, inr r.3)

  entry_pair : (order : Order) (entry : EntryMeaning) (it : List Pair × Value) (key : Item) → EntryHas order pairs entry it → TakesKey key entry it.1 → (pair : Pair) × IsIn pair pairs × (pair.key ≡ key) × Takes pairs pair entry
  entry_pair order (AField field) it key h there = field_pair field it.1 key h.1 there
  entry_pair order (APick needed ways) it key h there = from h.1
    where
      from : PickHas pairs needed ways it.1 → (pair : Pair) × IsIn pair pairs × (pair.key ≡ key) × Takes pairs pair (APick needed ways)
      from (inl p) =
          let e = ways_alike there.0 p.0 (v.Group there.1) (v.Group p.1) (sym there.2 ∙ p.4) in
          let g = groups_alike there.1 p.1 e.1 in
          let k = subst (λ (n : ℕ). SomeWith (HasKey key) (way_of ways n) p.1) e.0 (subst (λ (l : List Value). SomeWith (HasKey key) (way_of ways there.0) l) g there.3) in
          let r = way_pair (way_of ways p.0) p.1 key p.3 k in
          (r.0, r.1, r.2, (p.0, p.2, r.3))
      from (inr p) = absurd (absent_way there.0 (v.Group there.1) (sym p.2 ∙ there.2))
  entry_pair order (ATable lo hi keys under) it key h there = absurd there

  entries_pair : (order : Order) (entries : List EntryMeaning) (each : List (List Pair × Value)) (key : Item) → EachWith (EntryHas order pairs) entries each → IsTakenKey entries (map value_of each) key
      → (pair : Pair) × IsIn pair pairs × (pair.key ≡ key) × HasSome (Takes pairs pair) entries
  entries_pair order [] each key h there = absurd there
  entries_pair order (entry ∷ entries) [] key h there = absurd h
  entries_pair order (entry ∷ entries) (it ∷ each) key h (inl there) = let r = entry_pair order entry it key h.0 there in (r.0, r.1, r.2, inl r.3)
  entries_pair order (entry ∷ entries) (it ∷ each) key h (inr there) = let r = entries_pair order entries each key h.1 there in (r.0, r.1, r.2, inr r.3)

module _ (order : Order) (entries : List EntryMeaning) (pairs : List Pair) (values : List Value) (whole : MapHas order entries pairs values) where
  pub key_taken : (pair : Pair) → IsIn pair pairs → HasSome (Takes pairs pair) entries → IsTakenKey entries values pair.key
  key_taken pair here takes = subst (λ (l : List Value). IsTakenKey entries l pair.key) (sym whole.values_are) (entries_key pairs order entries whole.each pair here whole.has takes)

  pub pair_taken : (key : Item) → IsTakenKey entries values key → (pair : Pair) × IsIn pair pairs × (pair.key ≡ key) × HasSome (Takes pairs pair) entries
  pair_taken key there = entries_pair pairs order entries whole.each key whole.has (subst (λ (l : List Value). IsTakenKey entries l key) whole.values_are there)

  pub taken_key : (pair : Pair) → IsIn pair pairs → IsTakenKey entries values pair.key → HasSome (Takes pairs pair) entries
  taken_key pair here there =
      let r = pair_taken pair.key there in
      subst (λ (x : Pair). HasSome (Takes pairs x) entries) (same_key order pairs r.0 pair whole.ascend r.1 here r.2) r.3

pub taken_by_key : TakenByKey
taken_by_key order entries pairs values pair whole here =
    (key_taken order (entries_mean order entries) pairs values whole pair here, taken_key order (entries_mean order entries) pairs values whole pair here)

pub taken_is_there : TakenIsThere
taken_is_there order entries pairs values key whole there = let r = pair_taken order (entries_mean order entries) pairs values whole key there in (r.0, r.1, r.2)
