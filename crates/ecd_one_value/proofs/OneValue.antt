-- A shape that keeps the rules gives each item at most one value.
use Rattle.std.proofs.Common.{◌≡◌, ℕ, zero, suc, inl, inr, List, [], ◌∷◌, ◌++◌, refl, ap, sym, ◌∙◌, subst, append_assoc}
use Rattle.std.proofs.lemmas.List.{append_cancel_left}
use Rattle.ecd_keyorder.specs.declared.Order.{Order}
use Rattle.ecd_item_laws.specs.declared.item.Item.{Item}
use Rattle.ecd_item_laws.specs.declared.item.Item.TheVariants as i
use Rattle.ecd_item_laws.specs.declared.item.Pair.{Pair}
use Rattle.ecd_item_laws.specs.Encoding.{encoding}
use Rattle.ecd_core.specs.declared.shape.Kind.{Kind, Choice', Tag', Cbor', AnyTag', Array', Map', Row_of-Shape, end_of-Shape, more_of-Shape, Row_of-MapEntry, end_of-MapEntry, more_of-MapEntry}
use Rattle.ecd_core.specs.declared.shape.Kind.TheVariants as k
use Rattle.ecd_core.specs.declared.shape.Group.{Row_of-Part, end_of-Part, more_of-Part}
use Rattle.ecd_core.specs.declared.shape.Part.{Part, One', Opt', Many', Alt', Row_of-Way, end_of-Way, more_of-Way}
use Rattle.ecd_core.specs.declared.shape.MapEntry.{MapEntry, Field', Table'}
use Rattle.ecd_core.specs.declared.shape.MapEntry.TheVariants as m
use Rattle.ecd_core.specs.declared.shape.Pick.{Pick, Pick', Row_of-MapWay, end_of-MapWay, more_of-MapWay}
use Rattle.ecd_core.specs.declared.value.Value.{Value}
use Rattle.ecd_core.specs.declared.value.Value.TheVariants as v
use Rattle.ecd_core.specs.Lists.{Each, HasSome}
use Rattle.ecd_core.specs.Maps.{MapHas}
use Rattle.ecd_core.specs.Values.{numbered, Gives, OnlyGives, AlternativeGives, PartsGive, PartGives, WayGives, meanings, meaning, pick_meaning, way_meanings, field_meanings}
use Rattle.ecd_core.proofs.OneItem.{same_encoding}
use Rattle.ecd_apart.specs.Keys.{KeysDiffer, ShapesDiffer, EntriesDiffer}
use Rattle.ecd_apart.proofs.Leaves.{tags_alike, arrays_alike}
use Rattle.ecd_apart.proofs.Missing.{maps_alike}
use Rattle.ecd_shape_rules.specs.Starts.{follow, follow_body}
use Rattle.ecd_shape_rules.specs.Demands.{apart_from_each, alternatives_apart, way_beside_each, ways_beside, map_fields, keys_demanded, tables_apart, fields_apart, behind_tables, fields_alone, demands, shapes_demand, parts_demand, part_demands, groups_demand, entries_demand, entry_demands, pick_demands, map_ways_demand}
use Rattle.ecd_shape_rules.proofs.Kept.{Kept, kept_both}
use Rattle.ecd_shape_rules.proofs.DifferentKeys.{kept_differ, kept_shapes_differ, kept_parts_differ, kept_groups_differ, kept_entries_differ}
use Rattle.ecd_one_value.specs.Splits.{Follows, OneSplit, AllDiffer}
use Rattle.ecd_one_value.specs.Laws.{HasOneValue}
use Rattle.ecd_one_value.proofs.Starts.{follow_differs, part_followed, not_both_kinds}
use Rattle.ecd_one_value.proofs.Splits.{follow_body_differs, one_split, opt_split, many_split, later_way}
use Rattle.ecd_one_value.proofs.OneMap.{OneUnder, OneEntry, IsKeyOf, TablesApart, one_map_value}

module _ (order : Order) where
  -- an alternative and a later one
  later_alternative : (kind : Kind) {n : _} (row : Row_of-Shape n) (j : ℕ) (x : Item) (u w : Value) → KeysDiffer kind → ShapesDiffer row → Kept (apart_from_each kind row) → Gives order kind x u → AlternativeGives order row j x w → ⊥
  unfolding Gives KeysDiffer
  later_alternative kind end_of-Shape j x u w d f h p q = absurd q
  later_alternative kind (more_of-Shape at other rest) zero x u w d f h p q = not_both_kinds order kind other x u w d f.0 h.0 p q
  later_alternative kind (more_of-Shape at other rest) (suc j) x u w d f h p q = later_alternative kind rest j x u w d f.1 h.1 p q

  -- a table and a later one
  later_table : (key : Kind) {n : _} (row : Row_of-MapEntry n) (x : Item) (u : Value) → KeysDiffer key → EntriesDiffer row → Kept (tables_apart key row) → Gives order key x u → HasSome (IsKeyOf x) (meanings order row) → ⊥
  unfolding Gives KeysDiffer
  later_table key end_of-MapEntry x u d f h p q = q
  later_table key (more_of-MapEntry (Field' at _ other cut lo _ kind) rest) x u d f h p (inl q) = absurd q
  later_table key (more_of-MapEntry (Field' at _ other cut lo _ kind) rest) x u d f h p (inr q) = later_table key rest x u d f.1 h p q
  later_table key (more_of-MapEntry (m.Pick (Pick' at needed _ ways)) rest) x u d f h p (inl q) = absurd q
  later_table key (more_of-MapEntry (m.Pick (Pick' at needed _ ways)) rest) x u d f h p (inr q) = later_table key rest x u d f.1 h p q
  later_table key (more_of-MapEntry (Table' at lo hi _ other _ kind) rest) x u d f h p (inl q) = not_both_kinds order key other x u q.0 d f.0.0 h.0 p q.1
  later_table key (more_of-MapEntry (Table' at lo hi _ other _ kind) rest) x u d f h p (inr q) = later_table key rest x u d f.1 h.1 p q

  pub kept_tables_apart : {n : _} (row : Row_of-MapEntry n) → EntriesDiffer row → Kept (behind_tables row) → TablesApart (meanings order row)
  unfolding Gives KeysDiffer
  kept_tables_apart end_of-MapEntry d h = tt
  kept_tables_apart (more_of-MapEntry (Field' at _ key cut lo _ kind) rest) d h = ((λ x a b. a), kept_tables_apart rest d.1 h)
  kept_tables_apart (more_of-MapEntry (m.Pick (Pick' at needed _ ways)) rest) d h = ((λ x a b. a), kept_tables_apart rest d.1 h)
  kept_tables_apart (more_of-MapEntry (Table' at lo hi _ key _ kind) rest) d h =
      let own = kept_both (tables_apart key rest) (fields_apart key (map_fields rest) ++ behind_tables rest) h in
      let others = kept_both (fields_apart key (map_fields rest)) (behind_tables rest) own.1 in
      ((λ x a b. later_table key rest x a.0 d.0.0 d.1 own.0 a.1 b), kept_tables_apart rest d.1 others.1)

  mutual
    unfolding Gives demands

    pub one_value : (kind : Kind) → Kept (demands kind) → (x : Item) (u w : Value) → Gives order kind x u → Gives order kind x w → u ≡ w
    one_value (k.Uint lo hi) c x u w p q = let e : i.Uint p.0 ≡ i.Uint q.0 = sym p.1 ∙ q.1 in let f : p.0 ≡ q.0 = cc in p.3 ∙ (ap (numbered lo hi) f ∙ sym q.3)
    one_value (k.Nint lo hi) c x u w p q = let e : i.Nint p.0 ≡ i.Nint q.0 = sym p.1 ∙ q.1 in let f : p.0 ≡ q.0 = cc in p.3 ∙ (ap (numbered lo hi) f ∙ sym q.3)
    one_value (k.Bytes lo hi) c x u w p q = let e : i.Bytes p.0 ≡ i.Bytes q.0 = sym p.1 ∙ q.1 in let f : p.0 ≡ q.0 = cc in p.3 ∙ (ap (λ (z : List ℕ). v.Bytes z) f ∙ sym q.3)
    one_value (k.Text lo hi) c x u w p q = let e : i.Text p.0 ≡ i.Text q.0 = sym p.1 ∙ q.1 in let f : p.0 ≡ q.0 = cc in p.4 ∙ (ap (λ (z : List ℕ). v.Bytes z) f ∙ sym q.4)
    one_value (k.BytesIs bytes) c x u w p q = p.1 ∙ sym q.1
    one_value (k.TextIs bytes) c x u w p q = p.2 ∙ sym q.2
    one_value (k.Simple n) c x u w p q = p.2 ∙ sym q.2
    one_value (Tag' n s inner) c x u w p q =
        let e = tags_alike n n p.0 q.0 (sym p.1 ∙ q.1) in
        only_one inner c q.0 u w (subst (λ (z : Item). OnlyGives order inner z u) e.1 p.3) q.3
    one_value (AnyTag' s inner) c x u w p q =
        let e = tags_alike p.0 q.0 p.1 q.1 (sym p.3 ∙ q.3) in
        let f = only_one inner c q.1 p.2 q.2 (subst (λ (z : Item). OnlyGives order inner z p.2) e.1 p.6) q.6 in
        p.5 ∙ (ap (λ (n : ℕ). v.Tagged n p.2) e.0 ∙ (ap (λ (z : Value). v.Tagged q.0 z) f ∙ sym q.5))
    one_value (k.Any d) c x u w p q = p.1 ∙ sym q.1
    one_value (k.AnyOf major d) c x u w p q = p.2 ∙ sym q.2
    one_value (Cbor' s inner) c x u w p q =
        let f : i.Bytes (encoding p.0) ≡ i.Bytes (encoding q.0) = sym p.1 ∙ q.1 in
        let g : encoding p.0 ≡ encoding q.0 = cc in
        let e = same_encoding order p.0 q.0 p.2 q.2 g in
        only_one inner c q.0 u w (subst (λ (z : Item). OnlyGives order inner z u) e p.3) q.3
    one_value (Choice' s ways) c x u w p q =
        let own = kept_both (alternatives_apart ways) (shapes_demand ways) c in
        let e = alternative_one ways own.1 own.0 p.0 q.0 x p.1 q.1 p.3 q.3 in
        p.2 ∙ (ap (λ (j : ℕ). v.Way j p.1) e.0 ∙ (ap (λ (z : Value). v.Way q.0 z) e.1 ∙ sym q.2))
    one_value (Array' s parts) c x u w p q =
        let e = arrays_alike p.0 q.0 (sym p.2 ∙ q.2) in
        let f = parts_one parts [] tt c p.0 q.0 [] [] p.1 q.1 p.4 q.4 tt tt (ap (λ (z : List Item). z ++ []) e) in
        p.3 ∙ (ap (λ (l : List Value). v.Group l) f.1 ∙ sym q.3)
    one_value (Map' s entries) c x u w p q =
        let keys = kept_both (keys_demanded entries) (behind_tables entries ++ entries_demand entries) c in
        let own = kept_both (behind_tables entries) (entries_demand entries) keys.1 in
        let e = maps_alike p.0 q.0 (sym p.2 ∙ q.2) in
        let f = one_map_value order (meanings order entries) (entries_one entries own.1) (kept_tables_apart entries (kept_entries_differ entries own.1) own.0) q.0 p.1 q.1 (subst (λ (l : List Pair). MapHas order (meanings order entries) l p.1) e p.4) q.4 in
        p.3 ∙ (ap (λ (l : List Value). v.Group l) f ∙ sym q.3)

    only_one : {n : _} (row : Row_of-Shape n) → Kept (shapes_demand row) → (x : Item) (u w : Value) → OnlyGives order row x u → OnlyGives order row x w → u ≡ w
    only_one end_of-Shape c x u w p q = absurd p
    only_one (more_of-Shape at kind rest) c x u w p q = one_value kind (kept_both (demands kind) (shapes_demand rest) c).0 x u w p q

    alternative_one : {n : _} (row : Row_of-Shape n) → Kept (shapes_demand row) → Kept (alternatives_apart row) → (a b : ℕ) (x : Item) (u w : Value) → AlternativeGives order row a x u → AlternativeGives order row b x w → (a ≡ b) × (u ≡ w)
    alternative_one end_of-Shape c d a b x u w p q = absurd p
    alternative_one (more_of-Shape at kind rest) c d zero zero x u w p q = (refl, one_value kind (kept_both (demands kind) (shapes_demand rest) c).0 x u w p q)
    alternative_one (more_of-Shape at kind rest) c d zero (suc b) x u w p q =
        let own = kept_both (demands kind) (shapes_demand rest) c in
        absurd (later_alternative kind rest b x u w (kept_differ kind own.0) (kept_shapes_differ rest own.1) (kept_both (apart_from_each kind rest) (alternatives_apart rest) d).0 p q)
    alternative_one (more_of-Shape at kind rest) c d (suc a) zero x u w p q =
        let own = kept_both (demands kind) (shapes_demand rest) c in
        absurd (later_alternative kind rest a x w u (kept_differ kind own.0) (kept_shapes_differ rest own.1) (kept_both (apart_from_each kind rest) (alternatives_apart rest) d).0 q p)
    alternative_one (more_of-Shape at kind rest) c d (suc a) (suc b) x u w p q =
        let h = alternative_one rest (kept_both (demands kind) (shapes_demand rest) c).1 (kept_both (apart_from_each kind rest) (alternatives_apart rest) d).1 a b x u w p q in
        (ap suc h.0, h.1)

    -- ---- arrays

    pub parts_one : {n : _} (row : Row_of-Part n) (after : List Kind) → AllDiffer after → Kept (parts_demand row after) → OneSplit order (PartsGive order row) after
    parts_one end_of-Part after d c xs ys r s us ws p q fr fs e = (p.0 ∙ sym q.0, p.1 ∙ sym q.1)
    parts_one (more_of-Part part rest) after d c xs ys r s us ws p q fr fs e =
        let own = kept_both (part_demands part (follow rest after)) (parts_demand rest after) c in
        let differ = follow_differs rest after (kept_parts_differ rest after own.1) d in
        let f : p.0 ++ (p.1 ++ r) ≡ q.0 ++ (q.1 ++ s) = sym (append_assoc p.0 p.1 r) ∙ (ap (λ (z : List Item). z ++ r) (sym p.4) ∙ (e ∙ (ap (λ (z : List Item). z ++ s) q.4 ∙ append_assoc q.0 q.1 s))) in
        let one = part_one part (follow rest after) differ own.0 p.0 q.0 (p.1 ++ r) (q.1 ++ s) p.2 q.2 p.6 q.6 (part_followed order rest after p.1 r p.3 p.7 fr) (part_followed order rest after q.1 s q.3 q.7 fs) f in
        let g : q.0 ++ (p.1 ++ r) ≡ q.0 ++ (q.1 ++ s) = ap (λ (z : List Item). z ++ (p.1 ++ r)) (sym one.0) ∙ f in
        let more = parts_one rest after d own.1 p.1 q.1 r s p.3 q.3 p.7 q.7 fr fs (append_cancel_left q.0 _ _ g) in
        (p.4 ∙ (ap (λ (z : List Item). z ++ p.1) one.0 ∙ (ap (λ (z : List Item). q.0 ++ z) more.0 ∙ sym q.4)), p.5 ∙ (ap (λ (z : Value). z ∷ p.3) one.1 ∙ (ap (λ (z : List Value). q.2 ∷ z) more.1 ∙ sym q.5)))

    pub part_one : (part : Part) (after : List Kind) → AllDiffer after → Kept (part_demands part after) → OneSplit order (PartGives order part) after
    part_one (One' at kind) after d c xs ys r s u w p q fr fs e = one_split order at kind after (λ x u' w' p' q'. one_value kind c x u' w' p' q') xs ys r s u w p q fr fs e
    part_one (Opt' at sh body) after d c xs ys r s u w p q fr fs e = opt_split order at sh body after (kept_parts_differ body after c.1.1) d c.0 c.1.0 (parts_one body after d c.1.1) xs ys r s u w p q fr fs e
    part_one (Many' at lo hi sh body) after d c xs ys r s u w p q fr fs e =
        let differ = kept_parts_differ body (follow_body hi body after) c.1.1 in
        many_split order at lo hi sh body after differ d c.0 c.1.0 (parts_one body (follow_body hi body after) (follow_body_differs hi body after differ d) c.1.1) xs ys r s u w p q fr fs e
    part_one (Alt' at sh ways) after d c xs ys r s u w p q fr fs e =
        let own = kept_both (ways_beside ways after) (groups_demand ways after) c in
        let h = way_one ways after d own.0 own.1 p.0 q.0 xs ys r s p.1 q.1 p.3 q.3 fr fs e in
        (h.1, p.2 ∙ (ap (λ (j : ℕ). v.Way j (v.Group p.1)) h.0 ∙ (ap (λ (z : List Value). v.Way q.0 (v.Group z)) h.2 ∙ sym q.2)))

    way_one : {n : _} (row : Row_of-Way n) (after : List Kind) → AllDiffer after → Kept (ways_beside row after) → Kept (groups_demand row after) → (a b : ℕ) (xs ys r s : List Item) (us ws : List Value)
        → WayGives order row a xs us → WayGives order row b ys ws → Follows order after r → Follows order after s → xs ++ r ≡ ys ++ s → (a ≡ b) × (xs ≡ ys) × (us ≡ ws)
    way_one end_of-Way after d h c a b xs ys r s us ws p q fr fs e = absurd p
    way_one (more_of-Way at sh body rest) after d h c zero zero xs ys r s us ws p q fr fs e =
        let one = parts_one body after d (kept_both (parts_demand body after) (groups_demand rest after) c).0 xs ys r s us ws p q fr fs e in
        (refl, one.0, one.1)
    way_one (more_of-Way at sh body rest) after d h c zero (suc b) xs ys r s us ws p q fr fs e =
        let own = kept_both (parts_demand body after) (groups_demand rest after) c in
        absurd (later_way order at body rest b after (kept_parts_differ body after own.0) (kept_groups_differ rest after own.1) d (kept_both (way_beside_each at body rest after) (ways_beside rest after) h).0 xs ys r s us ws p q fr fs e)
    way_one (more_of-Way at sh body rest) after d h c (suc a) zero xs ys r s us ws p q fr fs e =
        let own = kept_both (parts_demand body after) (groups_demand rest after) c in
        absurd (later_way order at body rest a after (kept_parts_differ body after own.0) (kept_groups_differ rest after own.1) d (kept_both (way_beside_each at body rest after) (ways_beside rest after) h).0 ys xs s r ws us q p fs fr (sym e))
    way_one (more_of-Way at sh body rest) after d h c (suc a) (suc b) xs ys r s us ws p q fr fs e =
        let more = way_one rest after d (kept_both (way_beside_each at body rest after) (ways_beside rest after) h).1 (kept_both (parts_demand body after) (groups_demand rest after) c).1 a b xs ys r s us ws p q fr fs e in
        (ap suc more.0, more.1, more.2)

    -- ---- maps

    pub entries_one : {n : _} (row : Row_of-MapEntry n) → Kept (entries_demand row) → Each OneEntry (meanings order row)
    entries_one end_of-MapEntry c = tt
    entries_one (more_of-MapEntry entry rest) c = let own = kept_both (entry_demands entry) (entries_demand rest) c in (entry_one entry own.0, entries_one rest own.1)

    entry_one : (entry : MapEntry) → Kept (entry_demands entry) → OneEntry (meaning order entry)
    entry_one (Field' at _ key cut lo _ kind) c = λ x u w p q. one_value kind (kept_both (demands key) (demands kind) c.1).1 x u w p q
    entry_one (m.Pick pick) c = pick_one pick c
    entry_one (Table' at lo hi _ key _ kind) c = let own = kept_both (demands key) (demands kind) c in ((λ x u w p q. one_value key own.0 x u w p q), (λ x u w p q. one_value kind own.1 x u w p q))

    pick_one : (pick : Pick) → Kept (pick_demands pick) → OneEntry (pick_meaning order pick)
    pick_one (Pick' at needed _ ways) c = map_ways_one ways c

    map_ways_one : {n : _} (row : Row_of-MapWay n) → Kept (map_ways_demand row) → Each (Each OneUnder) (way_meanings order row)
    map_ways_one end_of-MapWay c = tt
    map_ways_one (more_of-MapWay at _ entries rest) c =
        let own = kept_both (fields_alone entries) (entries_demand entries ++ map_ways_demand rest) c.1 in
        let others = kept_both (entries_demand entries) (map_ways_demand rest) own.1 in
        (fields_one entries others.0, map_ways_one rest others.1)

    fields_one : {n : _} (row : Row_of-MapEntry n) → Kept (entries_demand row) → Each OneUnder (field_meanings order row)
    fields_one end_of-MapEntry c = tt
    fields_one (more_of-MapEntry (Field' at s key cut lo t kind) rest) c =
        let own = kept_both (entry_demands (Field' at s key cut lo t kind)) (entries_demand rest) c in
        ((λ x u w p q. one_value kind (kept_both (demands key) (demands kind) own.0.1).1 x u w p q), fields_one rest own.1)
    fields_one (more_of-MapEntry (m.Pick pick) rest) c = fields_one rest (kept_both (entry_demands (m.Pick pick)) (entries_demand rest) c).1
    fields_one (more_of-MapEntry (Table' at lo hi s key t kind) rest) c = fields_one rest (kept_both (entry_demands (Table' at lo hi s key t kind)) (entries_demand rest) c).1

pub has_one_value : HasOneValue
has_one_value order shape item value other c p q = one_value order shape.kind c item value other p q
