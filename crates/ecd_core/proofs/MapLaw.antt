-- The values of a map belong to one list of pairs, where those of its entries' shapes each belong to one item.
use Rattle.std.proofs.Common.{◌≡◌, ℕ, ◌⊎◌, inl, inr, Bool, List, [], ◌∷◌, map, refl, ap, sym, ◌∙◌, subst}
use Rattle.ecd_keyorder.specs.declared.Order.{Order}
use Rattle.ecd_item_laws.specs.declared.item.Item.{Item}
use Rattle.ecd_item_laws.specs.declared.item.Pair.{Pair}
use Rattle.ecd_item_laws.specs.Encoding.{key_bytes}
use Rattle.ecd_item_laws.specs.Valid.{Ascend}
use Rattle.ecd_core.specs.declared.value.Value.{Value}
use Rattle.ecd_core.specs.declared.value.Value.TheVariants as v
use Rattle.ecd_core.specs.Lists.{Each, HasSome, EachWith, IsIn}
use Rattle.ecd_core.specs.Maps.{ItemValues, FieldMeaning, EntryMeaning, AField, APick, ATable, GivesPair, Suits, way_of, Takes, held, FieldHas, PickHas, RowHas, EntryHas, list_of, IsInOneList, value_of, MapHas}
use Rattle.ecd_core.proofs.Ascending.{some_from_in, in_from_some, each_at, same_key, same_members}
use Rattle.ecd_core.proofs.Taking.{one_taken}
use Rattle.ecd_core.proofs.ValueLayers.{ways_alike, groups_alike, manys_alike, absent_present, absent_way, held_alike}

-- a value belongs to at most one item
abbrev pub OneItem : ItemValues → Type 0
OneItem values = (a b : Item) (w : Value) → values a w → values b w → a ≡ b

abbrev pub OneUnder : FieldMeaning → Type 0
OneUnder field = OneItem field.under

abbrev pub OneEntry : EntryMeaning → Type 0
OneEntry (AField field) = OneUnder field
OneEntry (APick needed ways) = Each (Each OneUnder) ways
OneEntry (ATable lo hi keys under) = OneItem keys × OneItem under

pair_alike : (p q : Pair) → p.key ≡ q.key → p.value ≡ q.value → p ≡ q
pair_alike p q e f = λ i. record { key = e i; value = f i }

module _ (order : Order) (ps qs : List Pair) (ascend : Ascend order (map key_bytes ps)) where
  field_taken : (field : FieldMeaning) → OneUnder field → (u w : Value) → u ≡ w → FieldHas ps field u → FieldHas qs field w → (pair : Pair) → IsIn pair ps → Suits field pair → IsIn pair qs
  field_taken field one u w e (inr p) q pair here suits = absurd (p.1 (some_from_in (Suits field) ps pair here suits))
  field_taken field one u w e (inl p) (inr q) pair here suits =
      absurd (absent_present p.0 (sym q.2 ∙ (sym e ∙ (p.2 ∙ ap (λ (b : Bool). held b p.0) q.0))))
  field_taken field one u w e (inl p) (inl q) pair here suits =
      let a = in_from_some (GivesPair field p.0) ps p.1 in
      let b = in_from_some (GivesPair field q.0) qs q.1 in
      let values : p.0 ≡ q.0 = held_alike field.needed p.0 q.0 (sym p.2 ∙ (e ∙ q.2)) in
      let given = suits.1 in
      let own_key : a.0.key ≡ pair.key = cc (sym a.2.0 ∙ given.0) in
      let own : a.0 ≡ pair = same_key order ps a.0 pair ascend a.1 here own_key in
      let key : a.0.key ≡ b.0.key = cc (sym a.2.0 ∙ b.2.0) in
      let value : a.0.value ≡ b.0.value = one a.0.value b.0.value q.0 (subst (field.under a.0.value) values a.2.1) b.2.1 in
      subst (λ (x : Pair). IsIn x qs) (sym (pair_alike a.0 b.0 key value) ∙ own) b.1

  fields_taken : (way : List FieldMeaning) → Each OneUnder way → (us ws : List Value) → us ≡ ws → EachWith (FieldHas ps) way us → EachWith (FieldHas qs) way ws
      → (pair : Pair) → IsIn pair ps → HasSome (λ field. Suits field pair) way → IsIn pair qs
  fields_taken [] one us ws e p q pair here suits = absurd suits
  fields_taken (field ∷ way) one [] ws e p q pair here suits = absurd p
  fields_taken (field ∷ way) one (u ∷ us) [] e p q pair here suits = absurd q
  fields_taken (field ∷ way) one (u ∷ us) (w ∷ ws) e p q pair here (inl suits) = field_taken field one.0 u w (cc) p.0 q.0 pair here suits
  fields_taken (field ∷ way) one (u ∷ us) (w ∷ ws) e p q pair here (inr suits) = fields_taken way one.1 us ws (cc) p.1 q.1 pair here suits

  pick_taken : (needed : Bool) (ways : List (List FieldMeaning)) → Each (Each OneUnder) ways → (u w : Value) → u ≡ w → PickHas ps needed ways u → PickHas qs needed ways w
      → (pair : Pair) → IsIn pair ps → Takes ps pair (APick needed ways) → IsIn pair qs
  pick_taken needed ways one u w e (inr p) q pair here takes = absurd (p.1 takes.0 takes.1)
  pick_taken needed ways one u w e (inl p) (inr q) pair here takes = absurd (absent_way p.0 (v.Group p.1) (sym q.2 ∙ (sym e ∙ p.4)))
  pick_taken needed ways one u w e (inl p) (inl q) pair here takes =
      let parts = ways_alike p.0 q.0 (v.Group p.1) (v.Group q.1) (sym p.4 ∙ (e ∙ q.4)) in
      let values = groups_alike p.1 q.1 parts.1 in
      let here_too = one_taken ps ways takes.0 p.0 takes.1 p.2 in
      fields_taken (way_of ways p.0) (each_at OneUnder ways p.0 one) p.1 q.1 values p.3 (subst (λ (n : ℕ). EachWith (FieldHas qs) (way_of ways n) q.1) (sym parts.0) q.3) pair here
      (subst (λ (n : ℕ). HasSome (λ field. Suits field pair) (way_of ways n)) here_too takes.2)

  entry_taken : (entry : EntryMeaning) → OneEntry entry → (u w : List Pair × Value) → u.1 ≡ w.1 → EntryHas order ps entry u → EntryHas order qs entry w → (pair : Pair) → IsIn pair ps → Takes ps pair entry → IsIn pair qs
  entry_taken (AField field) one u w e p q pair here takes = field_taken field one u.1 w.1 e p.1 q.1 pair here takes
  entry_taken (APick needed ways) one u w e p q pair here takes = pick_taken needed ways one u.1 w.1 e p.1 q.1 pair here takes
  entry_taken (ATable lo hi keys under) one u w e p q pair here takes = absurd takes

  taken : (entries : List EntryMeaning) → Each OneEntry entries → (us ws : List (List Pair × Value)) → map value_of us ≡ map value_of ws → EachWith (EntryHas order ps) entries us → EachWith (EntryHas order qs) entries ws
      → (pair : Pair) → IsIn pair ps → HasSome (Takes ps pair) entries → IsIn pair qs
  taken [] one us ws e p q pair here takes = absurd takes
  taken (entry ∷ entries) one [] ws e p q pair here takes = absurd p
  taken (entry ∷ entries) one (u ∷ us) [] e p q pair here takes = absurd q
  taken (entry ∷ entries) one (u ∷ us) (w ∷ ws) e p q pair here (inl takes) = entry_taken entry one.0 u w (cc) p.0 q.0 pair here takes
  taken (entry ∷ entries) one (u ∷ us) (w ∷ ws) e p q pair here (inr takes) = taken entries one.1 us ws (cc) p.1 q.1 pair here takes

-- ---- the lists of tables

rows_alike : (keys under : ItemValues) → OneItem keys → OneItem under → (ps qs : List Pair) (us ws : List Value) → us ≡ ws → EachWith (RowHas keys under) ps us → EachWith (RowHas keys under) qs ws → ps ≡ qs
rows_alike keys under f g [] [] us ws e p q = refl
rows_alike keys under f g [] (y ∷ qs) [] [] e p q = absurd q
rows_alike keys under f g [] (y ∷ qs) [] (w ∷ ws) e p q = absurd cc
rows_alike keys under f g [] (y ∷ qs) (u ∷ us) ws e p q = absurd p
rows_alike keys under f g (x ∷ ps) [] [] ws e p q = absurd p
rows_alike keys under f g (x ∷ ps) [] (u ∷ us) [] e p q = absurd cc
rows_alike keys under f g (x ∷ ps) [] (u ∷ us) (w ∷ ws) e p q = absurd q
rows_alike keys under f g (x ∷ ps) (y ∷ qs) [] ws e p q = absurd p
rows_alike keys under f g (x ∷ ps) (y ∷ qs) (u ∷ us) [] e p q = absurd q
rows_alike keys under f g (x ∷ ps) (y ∷ qs) (u ∷ us) (w ∷ ws) e p q =
    let a = p.0 in
    let b = q.0 in
    let first : u ≡ w = cc in
    let same = groups_alike (a.0 ∷ a.1 ∷ []) (b.0 ∷ b.1 ∷ []) (sym a.4 ∙ (first ∙ b.4)) in
    let key : a.0 ≡ b.0 = cc in
    let value : a.1 ≡ b.1 = cc in
    let one : x ≡ y = pair_alike x y (f x.key y.key b.0 (subst (keys x.key) key a.2) b.2) (g x.value y.value b.1 (subst (under x.value) value a.3) b.3) in
    let others : us ≡ ws = cc in
    let rest = rows_alike keys under f g ps qs us ws others p.1 q.1 in
    cc

module _ (order : Order) (ps qs : List Pair) where
  entry_list : (entry : EntryMeaning) → OneEntry entry → (u w : List Pair × Value) → u.1 ≡ w.1 → EntryHas order ps entry u → EntryHas order qs entry w → u ≡ w
  entry_list (AField field) one u w e p q = λ i. ((p.0 ∙ sym q.0) i, e i)
  entry_list (APick needed ways) one u w e p q = λ i. ((p.0 ∙ sym q.0) i, e i)
  entry_list (ATable lo hi keys under) one u w e p q =
      let rows = manys_alike p.0 q.0 (sym p.5 ∙ (e ∙ q.5)) in
      let lists : u.0 ≡ w.0 = rows_alike keys under one.0 one.1 u.0 w.0 p.0 q.0 rows p.4 q.4 in
      λ i. (lists i, e i)

  lists_alike : (entries : List EntryMeaning) → Each OneEntry entries → (us ws : List (List Pair × Value)) → map value_of us ≡ map value_of ws → EachWith (EntryHas order ps) entries us → EachWith (EntryHas order qs) entries ws → us ≡ ws
  lists_alike [] one [] [] e p q = refl
  lists_alike [] one [] (w ∷ ws) e p q = absurd q
  lists_alike [] one (u ∷ us) ws e p q = absurd p
  lists_alike (entry ∷ entries) one [] ws e p q = absurd p
  lists_alike (entry ∷ entries) one (u ∷ us) [] e p q = absurd q
  lists_alike (entry ∷ entries) one (u ∷ us) (w ∷ ws) e p q =
      let first : u.1 ≡ w.1 = cc in
      let others : map value_of us ≡ map value_of ws = cc in
      let a = entry_list entry one.0 u w first p.0 q.0 in
      let b = lists_alike entries one.1 us ws others p.1 q.1 in
      cc

-- ---- maps

members : (order : Order) (entries : List EntryMeaning) → Each OneEntry entries → (ps qs : List Pair) (values : List Value) → MapHas order entries ps values → MapHas order entries qs values → (pair : Pair) → IsIn pair ps → IsIn pair qs
members order entries one ps qs values p q pair here =
    let same : map value_of p.each ≡ map value_of q.each = sym p.values_are ∙ q.values_are in
    from same (p.covered pair here)
  where
    from : map value_of p.each ≡ map value_of q.each → HasSome (Takes ps pair) entries ⊎ IsInOneList p.each pair → IsIn pair qs
    from same (inl takes) = taken order ps qs p.ascend entries one p.each q.each same p.has q.has pair here takes
    from same (inr stands) =
        let lists = lists_alike order ps qs entries one p.each q.each same p.has q.has in
        (q.listed stands.0 pair (subst (λ (each : List (List Pair × Value)). IsIn pair (list_of each stands.0)) lists stands.1)).0

pub one_map : (order : Order) (entries : List EntryMeaning) → Each OneEntry entries → (ps qs : List Pair) (values : List Value) → MapHas order entries ps values → MapHas order entries qs values → ps ≡ qs
one_map order entries one ps qs values p q =
    same_members order ps qs p.ascend q.ascend (members order entries one ps qs values p q) (members order entries one qs ps values q p)
