-- A value and a place tell the cells that a read sets.
use Rattle.std.proofs.Common.{◌≡◌, ℕ, zero, suc, ◌+◌, ◌⊎◌, inl, inr, Bool, true, false, List, [], ◌∷◌, ◌++◌, length, map, Option, Some, refl, ap, sym, ◌∙◌, subst}
use Rattle.std.specs.Prelude.{nat_lt}
use Rattle.std.proofs.lemmas.List.{append_cancel_left}
use Rattle.ecd_keyorder.specs.declared.Order.{Order}
use Rattle.ecd_keyorder.specs.Order.{IsBefore}
use Rattle.ecd_item_laws.specs.declared.item.Item.{Item, out-Item}
use Rattle.ecd_item_laws.specs.declared.item.Item.TheOpen as o
use Rattle.ecd_item_laws.specs.declared.item.Item.TheVariants as i
use Rattle.ecd_item_laws.specs.declared.item.Pair.{Pair}
use Rattle.ecd_item_laws.specs.Encoding.{encoding, encoded_length, key_bytes}
use Rattle.ecd_item_laws.specs.Valid.{Ascend, IsValid}
use Rattle.ecd_core.specs.declared.shape.Kind.{Kind, Choice', Tag', Cbor', AnyTag', Array', Map', Row_of-Shape, end_of-Shape, more_of-Shape, Row_of-MapEntry, end_of-MapEntry, more_of-MapEntry}
use Rattle.ecd_core.specs.declared.shape.Kind.TheVariants as k
use Rattle.ecd_core.specs.declared.shape.Group.{Row_of-Part, end_of-Part, more_of-Part}
use Rattle.ecd_core.specs.declared.shape.Part.{Part, One', Opt', Many', Alt', Row_of-Way, end_of-Way, more_of-Way}
use Rattle.ecd_core.specs.declared.shape.MapEntry.{MapEntry, Field', Table'}
use Rattle.ecd_core.specs.declared.shape.MapEntry.TheVariants as m
use Rattle.ecd_core.specs.declared.shape.Pick.{Pick, Pick', Row_of-MapWay, end_of-MapWay, more_of-MapWay}
use Rattle.ecd_core.specs.declared.value.Value.{Value}
use Rattle.ecd_core.specs.declared.value.Value.TheVariants as v
use Rattle.ecd_core.specs.Lists.{HasSome, IsIn}
use Rattle.ecd_core.specs.Values.{PartGives, key_of}
use Rattle.ecd_core.proofs.Ascending.{not_before_itself, before_all}
use Rattle.ecd_core.proofs.OneItem.{same_encoding, same_part}
use Rattle.ecd_core.proofs.ValueLayers.{ways_alike, tagged_alike, groups_alike, manys_alike, presents_alike, absent_present, absent_way}
use Rattle.ecd_cells.specs.Laws.{HasOneRead}
use Rattle.ecd_cells.specs.Paths.{Path, start, part, tag_name, content_path}
use Rattle.ecd_cells.specs.Structs.{cells, has_table}
use Rattle.ecd_cells.specs.Reads.{Setting, PairStands, flag_set, choice_set, list_set, region_set, head_length, items_length, pairs_length, struct_sets, RootReads, Reads, OnlyReads, AlternativeReads, PartsRead, PartReads, WayReads, EntriesRead, EntryReads, FieldReads, PickReads, MapWayReads, FieldsRead}

-- ---- items that are built alike

tags_alike : (n m : ℕ) (a b : Item) → i.Tag n a ≡ i.Tag m b → (n ≡ m) × (a ≡ b)
tags_alike n m a b e = let h : o.Tag n a ≡ o.Tag m b = sym (i.outs-Tag n a) ∙ (ap out-Item e ∙ i.outs-Tag m b) in (cc, cc)

arrays_alike : (xs ys : List Item) → i.Array xs ≡ i.Array ys → xs ≡ ys
arrays_alike xs ys e = let h : o.Array xs ≡ o.Array ys = sym (i.outs-Array xs) ∙ (ap out-Item e ∙ i.outs-Array ys) in cc

maps_alike : (ps qs : List Pair) → i.Map ps ≡ i.Map qs → ps ≡ qs
maps_alike ps qs e = let h : o.Map ps ≡ o.Map qs = sym (i.outs-Map ps) ∙ (ap out-Item e ∙ i.outs-Map qs) in cc

-- ---- a key stands once

stands_behind : (pair : Pair) (before after : List Pair) → IsIn pair (before ++ pair ∷ after)
stands_behind pair [] after = inl refl
stands_behind pair (p ∷ before) after = inr (stands_behind pair before after)

module _ (order : Order) where
  -- where keys ascend, pairs with one key stand at one place
  one_place : (before others after behind : List Pair) (pair other : Pair) → before ++ pair ∷ after ≡ others ++ other ∷ behind → Ascend order (map key_bytes (before ++ pair ∷ after)) → pair.key ≡ other.key
      → (before ≡ others) × (pair ≡ other)
  one_place [] [] after behind pair other e a key = (refl, cc)
  one_place [] (q ∷ others) after behind pair other e a key =
      let first : pair ≡ q = cc in
      let rest : after ≡ others ++ other ∷ behind = cc in
      let there : IsIn other after = subst (IsIn other) (sym rest) (stands_behind other others behind) in
      absurd (not_before_itself order (key_bytes other) (subst (λ (x : Item). IsBefore order (encoding x) (key_bytes other)) key (before_all order pair after other a there)))
  one_place (p ∷ before) [] after behind pair other e a key =
      let first : p ≡ other = cc in
      let h = before_all order p (before ++ pair ∷ after) pair a (stands_behind pair before after) in
      absurd (not_before_itself order (key_bytes pair) (subst (λ (x : Item). IsBefore order (encoding x) (key_bytes pair)) (ap (λ (x : Pair). x.key) first ∙ sym key) h))
  one_place (p ∷ before) (q ∷ others) after behind pair other e a key =
      let first : p ≡ q = cc in
      let rest : before ++ pair ∷ after ≡ others ++ other ∷ behind = cc in
      let r = one_place before others after behind pair other rest a.1 key in
      (cc, r.1)

module _ (order : Order) (block : ℕ) where
  -- the place of the value under a key is one
  one_pair : (key : Kind) (pairs : List Pair) (base : ℕ) (pair other : Pair) (at place : ℕ) → Ascend order (map key_bytes pairs) → PairStands key pairs base pair at → PairStands key pairs base other place
      → (pair ≡ other) × (at ≡ place)
  one_pair key pairs base pair other at place a p q =
      let keys : pair.key ≡ other.key = let e : Some pair.key ≡ Some other.key = sym p.has_key ∙ q.has_key in cc in
      let r = one_place order p.before q.before p.after q.after pair other (sym p.there ∙ q.there) (subst (λ (l : List Pair). Ascend order (map key_bytes l)) p.there a) keys in (
        r.1,
        p.value_at ∙ (ap (λ (l : List Pair). base + (pairs_length l + encoded_length pair.key)) r.0 ∙ (ap (λ (x : Pair). base + (pairs_length q.before + encoded_length x.key)) r.1 ∙ sym q.value_at)),
      )

  field_one : (pairs : List Pair) (base : ℕ) (path : Path) (key : Kind) (needed : Bool) (read : Item → Value → ℕ → List Setting → Type 0) (value : Value) (a b : List Setting)
      → ((item : Item) (one : Value) (at : ℕ) (s t : List Setting) → read item one at s → read item one at t → s ≡ t) → Ascend order (map key_bytes pairs)
      → FieldReads order block pairs base path key needed read value a → FieldReads order block pairs base path key needed read value b → a ≡ b
  field_one pairs base path key true read value a b each asc p q =
      let r = one_pair key pairs base p.0 q.0 p.1 q.1 asc p.2 q.2 in
      each q.0.value value q.1 a b (subst (λ (n : ℕ). read q.0.value value n a) r.1 (subst (λ (x : Pair). read x.value value p.1 a) r.0 p.3)) q.3
  field_one pairs base path key false read value a b each asc (inl p) (inl q) = p.1 ∙ sym q.1
  field_one pairs base path key false read value a b each asc (inl p) (inr q) = absurd (absent_present _ (sym p.0 ∙ q.4))
  field_one pairs base path key false read value a b each asc (inr p) (inl q) = absurd (absent_present _ (sym q.0 ∙ p.4))
  field_one pairs base path key false read value a b each asc (inr p) (inr q) =
      let one = presents_alike p.2 q.2 (sym p.4 ∙ q.4) in
      let r = one_pair key pairs base p.0 q.0 p.1 q.1 asc p.6 q.6 in
      let here : read q.0.value q.2 q.1 p.3 =
      subst (λ (w : Value). read q.0.value w q.1 p.3) one (subst (λ (n : ℕ). read q.0.value p.2 n p.3) r.1 (subst (λ (x : Pair). read x.value p.2 p.1 p.3) r.0 p.7)) in
      p.5 ∙ (ap (λ (l : List Setting). flag_set path 1 ∷ l) (each q.0.value q.2 q.1 p.3 q.3 here q.7) ∙ sym q.5)

  mutual
    unfolding Reads

    pub one_read : (path : Path) (kind : Kind) (item : Item) (value : Value) (at : ℕ) (a b : List Setting) → Reads order block path kind item value at a → Reads order block path kind item value at b → a ≡ b
    one_read path (k.Uint lo hi) item value at a b p q = p ∙ sym q
    one_read path (k.Nint lo hi) item value at a b p q = p ∙ sym q
    one_read path (k.Bytes lo hi) item value at a b p q = p ∙ sym q
    one_read path (k.Text lo hi) item value at a b p q = p ∙ sym q
    one_read path (k.BytesIs bytes) item value at a b p q = p ∙ sym q
    one_read path (k.TextIs bytes) item value at a b p q = p ∙ sym q
    one_read path (k.Simple n) item value at a b p q = p ∙ sym q
    one_read path (Tag' n s inner) item value at a b p q =
        let c : p.0 ≡ q.0 = (tags_alike n n p.0 q.0 (sym p.1 ∙ q.1)).1 in
        only_one path inner q.0 value (at + head_length 6 n) a b (subst (λ (x : Item). OnlyReads order block path inner x value (at + head_length 6 n) a) c p.2) q.2
    one_read path (AnyTag' s inner) item value at a b p q =
        let both = tags_alike p.0 q.0 p.1 q.1 (sym p.4 ∙ q.4) in
        let n : p.0 ≡ q.0 = both.0 in
        let c : p.1 ≡ q.1 = both.1 in
        let w = (tagged_alike p.0 q.0 p.2 q.2 (sym p.5 ∙ q.5)).1 in
        let here : OnlyReads order block (content_path path) inner q.1 q.2 (at + head_length 6 q.0) p.3 =
        subst (λ (x : ℕ). OnlyReads order block (content_path path) inner q.1 q.2 (at + head_length 6 x) p.3) n
        (subst (λ (x : Value). OnlyReads order block (content_path path) inner q.1 x (at + head_length 6 p.0) p.3) w
        (subst (λ (x : Item). OnlyReads order block (content_path path) inner x p.2 (at + head_length 6 p.0) p.3) c p.7)) in
        let more : p.3 ≡ q.3 = only_one (content_path path) inner q.1 q.2 (at + head_length 6 q.0) p.3 q.3 here q.7 in
        let e = p.6 in let f = q.6 in
        cc
    one_read path (k.Any depth) item value at a b p q = p ∙ sym q
    one_read path (k.AnyOf major depth) item value at a b p q = p ∙ sym q
    one_read path (Cbor' s inner) item value at a b p q =
        let bytes : encoding p.0 ≡ encoding q.0 = let e = sym p.1 ∙ q.1 in cc in
        let c = same_encoding order p.0 q.0 p.2 q.2 bytes in
        only_one path inner q.0 value (at + head_length 2 (encoded_length q.0)) a b (subst (λ (x : Item). OnlyReads order block path inner x value (at + head_length 2 (encoded_length x)) a) c p.3) q.3
    one_read path (Choice' s shapes) item value at a b p q =
        let e = ways_alike p.0 q.0 p.1 q.1 (sym p.3 ∙ q.3) in
        let here : AlternativeReads order block path 0 shapes q.0 item q.1 at p.2 =
        subst (λ (x : Value). AlternativeReads order block path 0 shapes q.0 item x at p.2) e.1 (subst (λ (n : ℕ). AlternativeReads order block path 0 shapes n item p.1 at p.2) e.0 p.5) in
        let more = alternative_one path 0 shapes q.0 item q.1 at p.2 q.2 here q.5 in
        p.4 ∙ (ap (λ (n : ℕ). choice_set path n ∷ p.2) e.0 ∙ (ap (λ (l : List Setting). choice_set path q.0 ∷ l) more ∙ sym q.4))
    one_read path (Array' s parts) item value at a b p q =
        let items : p.0 ≡ q.0 = arrays_alike p.0 q.0 (sym p.2 ∙ q.2) in
        let values = groups_alike p.1 q.1 (sym p.3 ∙ q.3) in
        parts_one path 0 parts q.0 q.1 (at + head_length 4 (length q.0)) a b
        (subst (λ (l : List Value). PartsRead order block path 0 parts q.0 l (at + head_length 4 (length q.0)) a) values (subst (λ (l : List Item). PartsRead order block path 0 parts l p.1 (at + head_length 4 (length l)) a) items p.4)) q.4
    one_read path (Map' s entries) item value at a b p q =
        let pairs : p.0 ≡ q.0 = maps_alike p.0 q.0 (sym p.3 ∙ q.3) in
        let values = groups_alike p.1 q.1 (sym p.4 ∙ q.4) in
        let here : EntriesRead order block q.0 (at + head_length 5 (length q.0)) path 0 entries q.1 p.2 =
        subst (λ (l : List Value). EntriesRead order block q.0 (at + head_length 5 (length q.0)) path 0 entries l p.2) values
        (subst (λ (l : List Pair). EntriesRead order block l (at + head_length 5 (length l)) path 0 entries p.1 p.2) pairs p.7) in
        let some = entries_one q.0 (at + head_length 5 (length q.0)) path 0 entries q.1 p.2 q.2 q.5 here q.7 in
        p.6 ∙ (ap (λ (l : List Pair). p.2 ++ region_set order block path (has_table entries) (at + head_length 5 (length l)) l) pairs
        ∙ (ap (λ (l : List Setting). l ++ region_set order block path (has_table entries) (at + head_length 5 (length q.0)) q.0) some ∙ sym q.6))

    only_one : {n : _} (path : Path) (row : Row_of-Shape n) (item : Item) (value : Value) (at : ℕ) (a b : List Setting) → OnlyReads order block path row item value at a → OnlyReads order block path row item value at b → a ≡ b
    only_one path end_of-Shape item value at a b p q = absurd p
    only_one path (more_of-Shape _ kind rest) item value at a b p q = one_read path kind item value at a b p q

    alternative_one : {n : _} (path : Path) (first : ℕ) (row : Row_of-Shape n) (number : ℕ) (item : Item) (value : Value) (at : ℕ) (a b : List Setting)
        → AlternativeReads order block path first row number item value at a → AlternativeReads order block path first row number item value at b → a ≡ b
    alternative_one path first end_of-Shape number item value at a b p q = absurd p
    alternative_one path first (more_of-Shape _ kind rest) zero item value at a b p q = one_read (part path first) kind item value at a b p q
    alternative_one path first (more_of-Shape _ kind rest) (suc number) item value at a b p q = alternative_one path (suc first) rest number item value at a b p q

    parts_one : {n : _} (path : Path) (first : ℕ) (row : Row_of-Part n) (items : List Item) (values : List Value) (at : ℕ) (a b : List Setting)
        → PartsRead order block path first row items values at a → PartsRead order block path first row items values at b → a ≡ b
    parts_one path first end_of-Part items values at a b p q = p.2 ∙ sym q.2
    parts_one path first (more_of-Part one rest) items values at a b p q =
        let e : (p.2 ≡ q.2) × (p.3 ≡ q.3) = (cc (sym p.7 ∙ q.7), cc (sym p.7 ∙ q.7)) in
        let front : p.0 ≡ q.0 = same_part order one p.0 q.0 q.2 (subst (PartGives order one p.0) e.0 p.9) q.9 in
        let back : p.1 ≡ q.1 = append_cancel_left q.0 p.1 q.1 (subst (λ (l : List Item). l ++ p.1 ≡ q.0 ++ q.1) front (sym p.6 ∙ q.6)) in
        let some : p.4 ≡ q.4 =
        part_one (part path first) one q.0 q.2 at p.4 q.4
        (subst (λ (w : Value). PartReads order block (part path first) one q.0 w at p.4) e.0 (subst (λ (l : List Item). PartReads order block (part path first) one l p.2 at p.4) front p.10)) q.10 in
        let more : p.5 ≡ q.5 =
        parts_one path (suc first) rest q.1 q.3 (at + items_length q.0) p.5 q.5
        (subst (λ (l : List Item). PartsRead order block path (suc first) rest q.1 q.3 (at + items_length l) p.5) front
        (subst (λ (l : List Value). PartsRead order block path (suc first) rest q.1 l (at + items_length p.0) p.5) e.1
        (subst (λ (l : List Item). PartsRead order block path (suc first) rest l p.3 (at + items_length p.0) p.5) back p.11))) q.11 in
        p.8 ∙ (ap (λ (l : List Setting). l ++ p.5) some ∙ (ap (λ (l : List Setting). q.4 ++ l) more ∙ sym q.8))

    part_one : (path : Path) (one : Part) (items : List Item) (value : Value) (at : ℕ) (a b : List Setting) → PartReads order block path one items value at a → PartReads order block path one items value at b → a ≡ b
    part_one path (One' _ kind) items value at a b p q =
        let e : p.0 ≡ q.0 = let f = sym p.1 ∙ q.1 in cc in
        one_read path kind q.0 value at a b (subst (λ (x : Item). Reads order block path kind x value at a) e p.2) q.2
    part_one path (Opt' _ s body) items value at a b (inl p) (inl q) = p.2 ∙ sym q.2
    part_one path (Opt' _ s body) items value at a b (inl p) (inr q) = absurd (absent_present _ (sym p.1 ∙ q.2))
    part_one path (Opt' _ s body) items value at a b (inr p) (inl q) = absurd (absent_present _ (sym q.1 ∙ p.2))
    part_one path (Opt' _ s body) items value at a b (inr p) (inr q) =
        let e = groups_alike p.0 q.0 (presents_alike (v.Group p.0) (v.Group q.0) (sym p.2 ∙ q.2)) in
        let more = parts_one path 0 body items q.0 at p.1 q.1 (subst (λ (l : List Value). PartsRead order block path 0 body items l at p.1) e p.4) q.4 in
        p.3 ∙ (ap (λ (l : List Setting). flag_set path 1 ∷ l) more ∙ sym q.3)
    part_one path (Many' _ lo hi s body) items value at a b p q =
        let e = manys_alike p.0 q.0 (sym p.1 ∙ q.1) in
        p.2 ∙ (ap (λ (l : List Value). list_set order block path at (items_length items) (length l)) e ∙ sym q.2)
    part_one path (Alt' _ s ways) items value at a b p q =
        let e = ways_alike p.0 q.0 (v.Group p.1) (v.Group q.1) (sym p.3 ∙ q.3) in
        let g = groups_alike p.1 q.1 e.1 in
        let here : WayReads order block path 0 ways q.0 items q.1 at p.2 =
        subst (λ (l : List Value). WayReads order block path 0 ways q.0 items l at p.2) g (subst (λ (n : ℕ). WayReads order block path 0 ways n items p.1 at p.2) e.0 p.5) in
        let more = way_one path 0 ways q.0 items q.1 at p.2 q.2 here q.5 in
        p.4 ∙ (ap (λ (n : ℕ). choice_set path n ∷ p.2) e.0 ∙ (ap (λ (l : List Setting). choice_set path q.0 ∷ l) more ∙ sym q.4))

    way_one : {n : _} (path : Path) (first : ℕ) (row : Row_of-Way n) (number : ℕ) (items : List Item) (values : List Value) (at : ℕ) (a b : List Setting)
        → WayReads order block path first row number items values at a → WayReads order block path first row number items values at b → a ≡ b
    way_one path first end_of-Way number items values at a b p q = absurd p
    way_one path first (more_of-Way _ s body rest) zero items values at a b p q = parts_one (part path first) 0 body items values at a b p q
    way_one path first (more_of-Way _ s body rest) (suc number) items values at a b p q = way_one path (suc first) rest number items values at a b p q

    entries_one : {n : _} (pairs : List Pair) (base : ℕ) (path : Path) (first : ℕ) (row : Row_of-MapEntry n) (values : List Value) (a b : List Setting) → Ascend order (map key_bytes pairs)
        → EntriesRead order block pairs base path first row values a → EntriesRead order block pairs base path first row values b → a ≡ b
    entries_one pairs base path first end_of-MapEntry values a b asc p q = p.1 ∙ sym q.1
    entries_one pairs base path first (more_of-MapEntry entry rest) values a b asc p q =
        let e : (p.0 ≡ q.0) × (p.1 ≡ q.1) = (cc (sym p.4 ∙ q.4), cc (sym p.4 ∙ q.4)) in
        let some = entry_one pairs base (part path first) entry q.0 p.2 q.2 asc (subst (λ (w : Value). EntryReads order block pairs base (part path first) entry w p.2) e.0 p.6) q.6 in
        let more = entries_one pairs base path (suc first) rest q.1 p.3 q.3 asc (subst (λ (l : List Value). EntriesRead order block pairs base path (suc first) rest l p.3) e.1 p.7) q.7 in
        p.5 ∙ (ap (λ (l : List Setting). l ++ p.3) some ∙ (ap (λ (l : List Setting). q.2 ++ l) more ∙ sym q.5))

    entry_one : (pairs : List Pair) (base : ℕ) (path : Path) (entry : MapEntry) (value : Value) (a b : List Setting) → Ascend order (map key_bytes pairs)
        → EntryReads order block pairs base path entry value a → EntryReads order block pairs base path entry value b → a ≡ b
    entry_one pairs base path (Field' _ _ key cut lo _ kind) value a b asc p q =
        field_one pairs base path key (nat_lt 0 lo) (Reads order block path kind) value a b (λ item one at s t f g. one_read path kind item one at s t f g) asc p q
    entry_one pairs base path (m.Pick pick) value a b asc p q = pick_one pairs base path pick value a b asc p q
    entry_one pairs base path (Table' _ lo hi _ key _ kind) value a b asc p q = p ∙ sym q

    pick_one : (pairs : List Pair) (base : ℕ) (path : Path) (pick : Pick) (value : Value) (a b : List Setting) → Ascend order (map key_bytes pairs)
        → PickReads order block pairs base path pick value a → PickReads order block pairs base path pick value b → a ≡ b
    pick_one pairs base path (Pick' _ needed s ways) value a b asc (inl p) (inl q) = p.1 ∙ sym q.1
    pick_one pairs base path (Pick' _ needed s ways) value a b asc (inl p) (inr q) = absurd (absent_way _ _ (sym p.0 ∙ q.3))
    pick_one pairs base path (Pick' _ needed s ways) value a b asc (inr p) (inl q) = absurd (absent_way _ _ (sym q.0 ∙ p.3))
    pick_one pairs base path (Pick' _ needed s ways) value a b asc (inr p) (inr q) =
        let e = ways_alike p.0 q.0 (v.Group p.1) (v.Group q.1) (sym p.3 ∙ q.3) in
        let g = groups_alike p.1 q.1 e.1 in
        let here : MapWayReads order block pairs base path 0 ways q.0 q.1 p.2 =
        subst (λ (l : List Value). MapWayReads order block pairs base path 0 ways q.0 l p.2) g (subst (λ (n : ℕ). MapWayReads order block pairs base path 0 ways n p.1 p.2) e.0 p.5) in
        let more = map_way_one pairs base path 0 ways q.0 q.1 p.2 q.2 asc here q.5 in
        p.4 ∙ (ap (λ (n : ℕ). choice_set path n ∷ p.2) e.0 ∙ (ap (λ (l : List Setting). choice_set path q.0 ∷ l) more ∙ sym q.4))

    map_way_one : {n : _} (pairs : List Pair) (base : ℕ) (path : Path) (first : ℕ) (row : Row_of-MapWay n) (number : ℕ) (values : List Value) (a b : List Setting) → Ascend order (map key_bytes pairs)
        → MapWayReads order block pairs base path first row number values a → MapWayReads order block pairs base path first row number values b → a ≡ b
    map_way_one pairs base path first end_of-MapWay number values a b asc p q = absurd p
    map_way_one pairs base path first (more_of-MapWay _ s entries rest) zero values a b asc p q = fields_one pairs base (part path first) 0 entries values a b asc p q
    map_way_one pairs base path first (more_of-MapWay _ s entries rest) (suc number) values a b asc p q = map_way_one pairs base path (suc first) rest number values a b asc p q

    fields_one : {n : _} (pairs : List Pair) (base : ℕ) (path : Path) (first : ℕ) (row : Row_of-MapEntry n) (values : List Value) (a b : List Setting) → Ascend order (map key_bytes pairs)
        → FieldsRead order block pairs base path first row values a → FieldsRead order block pairs base path first row values b → a ≡ b
    fields_one pairs base path first end_of-MapEntry values a b asc p q = p.1 ∙ sym q.1
    fields_one pairs base path first (more_of-MapEntry (Field' _ _ key cut lo _ kind) rest) values a b asc p q =
        let e : (p.0 ≡ q.0) × (p.1 ≡ q.1) = (cc (sym p.4 ∙ q.4), cc (sym p.4 ∙ q.4)) in
        let some =
        field_one pairs base (part path first) key (nat_lt 0 lo) (Reads order block (part path first) kind) q.0 p.2 q.2 (λ item one at s t f g. one_read (part path first) kind item one at s t f g) asc
        (subst (λ (w : Value). FieldReads order block pairs base (part path first) key (nat_lt 0 lo) (Reads order block (part path first) kind) w p.2) e.0 p.6) q.6 in
        let more = fields_one pairs base path (suc first) rest q.1 p.3 q.3 asc (subst (λ (l : List Value). FieldsRead order block pairs base path (suc first) rest l p.3) e.1 p.7) q.7 in
        p.5 ∙ (ap (λ (l : List Setting). l ++ p.3) some ∙ (ap (λ (l : List Setting). q.2 ++ l) more ∙ sym q.5))
    fields_one pairs base path first (more_of-MapEntry (m.Pick pick) rest) values a b asc p q = fields_one pairs base path (suc first) rest values a b asc p q
    fields_one pairs base path first (more_of-MapEntry (Table' _ lo hi _ key _ kind) rest) values a b asc p q = fields_one pairs base path (suc first) rest values a b asc p q

pub has_one_read : HasOneRead
has_one_read order shape item value block at sets others p q =
    p.sets_are ∙ (ap (λ (l : List Setting). struct_sets order block (cells start shape.kind) l) (one_read order block start shape.kind item value at p.own q.own p.reads q.reads) ∙ sym q.sets_are)
