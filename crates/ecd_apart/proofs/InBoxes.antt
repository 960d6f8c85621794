-- An item with a value under a shape has its head in a box of the shape.
use Rattle.std.proofs.Common.{◌≡◌, ℕ, zero, suc, ◌<◌, ◌≤◌, ◌^◌, ◌⊎◌, inl, inr, Bool, true, false, cond, eqb, List, [], ◌∷◌, ◌++◌, length, refl, ap, sym, ◌∙◌, subst, arith}
use Rattle.std.proofs.lemmas.Bool.{eqb-false}
use Rattle.std.proofs.lemmas.List.{append-nil, length-map}
use Rattle.ecd_keyorder.specs.declared.Order.{Order}
use Rattle.ecd_item_laws.specs.declared.item.Item.{Item, Array' as Array-i, Map' as Map-i, Tag' as Tag-i}
use Rattle.ecd_item_laws.specs.declared.item.Item.TheVariants as i
use Rattle.ecd_item_laws.specs.declared.item.Pair.{Pair}
use Rattle.ecd_item_laws.specs.Encoding.{encoding, encodings, pair_encodings}
use Rattle.ecd_item_laws.specs.Valid.{IsValid, depth}
use Rattle.ecd_item_laws.proofs.Layers.{encodings-list, pairs-list, pair_encoding}
use Rattle.ecd_item_laws.proofs.Unique.{begins_with_one_item}
use Rattle.ecd_core.specs.declared.shape.Kind.{Kind, Choice', Tag', Cbor', AnyTag', Array', Map'}
use Rattle.ecd_core.specs.declared.shape.Kind.TheVariants as k
use Rattle.ecd_core.specs.declared.value.Value.{Value}
use Rattle.ecd_core.specs.Lists.{Each, HasSome}
use Rattle.ecd_core.specs.Values.{major_of, Gives}
use Rattle.ecd_apart.specs.Counts.{top, cap, least, greatest, pairs_least, pairs_greatest}
use Rattle.ecd_apart.specs.Boxes.{Box, box, all_of_major, flat_boxes, deep_boxes, boxes_to_depth, of_major, boxes, ShareNone, BoxesApart}
use Rattle.ecd_apart.specs.Keys.{KeysDiffer}
use Rattle.ecd_apart.proofs.ArrayCounts.{cap_grows, cap_of_top, cap_again, at_least, at_most}
use Rattle.ecd_apart.proofs.MapCounts.{pairs_counted}

-- ---- heads

-- the argument of an item's head
abbrev argument : Item → ℕ
argument (i.Uint n) = n
argument (i.Nint n) = n
argument (i.Bytes bytes) = length bytes
argument (i.Text bytes) = length bytes
argument (Array-i _ items) = length (encodings items)
argument (Map-i _ pairs) = length (pair_encodings pairs)
argument (Tag-i n _ inner) = n
argument (i.Simple n) = n

record Spans (lo hi n : ℕ) : Type 0 where
  low : cap lo ≤ cap n
  high : cap n ≤ cap hi

spans : {lo hi n : ℕ} → cap lo ≤ cap n → cap n ≤ cap hi → Spans lo hi n
spans a b = record { low = a; high = b }

abbrev IsInBox : Item → Box → Type 0
IsInBox item b = (major_of item ≡ b.major) × Spans b.lo b.hi (argument item)

abbrev IsInBoxes : Item → List Box → Type 0
IsInBoxes item bs = HasSome (IsInBox item) bs

none_shared : (item : Item) (b c : Box) → ShareNone b c → IsInBox item b → IsInBox item c → ⊥
none_shared item b c (inl (inl s)) p q = omega (arith, s, p.0, q.0)
none_shared item b c (inl (inr s)) p q = omega (arith, s, p.0, q.0)
none_shared item b c (inr (inl s)) p q = omega (arith, s, p.1.low, p.1.high, q.1.low, q.1.high)
none_shared item b c (inr (inr (inl s))) p q = omega (arith, s, p.1.low, p.1.high, q.1.low, q.1.high)
none_shared item b c (inr (inr (inr (inl s)))) p q = omega (arith, s, p.1.low, p.1.high, q.1.low, q.1.high)
none_shared item b c (inr (inr (inr (inr s)))) p q = omega (arith, s, p.1.low, p.1.high, q.1.low, q.1.high)

box_outside : (item : Item) (b : Box) (cs : List Box) → Each (ShareNone b) cs → IsInBox item b → IsInBoxes item cs → ⊥
box_outside item b [] s p q = absurd q
box_outside item b (c ∷ cs) s p (inl q) = none_shared item b c s.0 p q
box_outside item b (c ∷ cs) s p (inr q) = box_outside item b cs s.1 p q

boxes_outside : (item : Item) (bs cs : List Box) → Each (λ b. Each (ShareNone b) cs) bs → IsInBoxes item bs → IsInBoxes item cs → ⊥
boxes_outside item [] cs s p q = absurd p
boxes_outside item (b ∷ bs) cs s (inl p) q = box_outside item b cs s.0 p q
boxes_outside item (b ∷ bs) cs s (inr p) q = boxes_outside item bs cs s.1 p q

-- ---- items of any kind

more_boxes : (item : Item) (bs cs : List Box) → IsInBoxes item bs → IsInBoxes item (bs ++ cs)
more_boxes item [] cs p = absurd p
more_boxes item (b ∷ bs) cs (inl p) = inl p
more_boxes item (b ∷ bs) cs (inr p) = inr (more_boxes item bs cs p)

later_boxes : (item : Item) (bs cs : List Box) → IsInBoxes item cs → IsInBoxes item (bs ++ cs)
later_boxes item [] cs p = p
later_boxes item (b ∷ bs) cs p = inr (later_boxes item bs cs p)

below_top : (n : ℕ) → Spans 0 top n
below_top n = spans (cap_grows 0 n (omega arith)) (cap_of_top n)

simple_flat : (n : ℕ) → (n < 24) ⊎ ((32 ≤ n) × (n < 256)) → IsInBoxes (i.Simple n) flat_boxes
simple_flat n (inl h) = inr (inr (inr (inr (inl (refl, spans (cap_grows 0 n (omega arith)) (cap_grows n 23 (omega arith)))))))
simple_flat n (inr h) = inr (inr (inr (inr (inr (inl (refl, spans (cap_grows 32 n h.0) (cap_grows n 255 (omega (arith, h.1)))))))))

module _ (order : Order) where
  flat : (item : Item) → IsValid order item → depth item ≤ 0 → IsInBoxes item flat_boxes
  unfolding IsValid depth
  flat (i.Uint n) p d = inl (refl, below_top n)
  flat (i.Nint n) p d = inr (inl (refl, below_top n))
  flat (i.Bytes bytes) p d = inr (inr (inl (refl, below_top (length bytes))))
  flat (i.Text bytes) p d = inr (inr (inr (inl (refl, below_top (length bytes)))))
  flat (Array-i s items) p d = absurd (omega arith)
  flat (Map-i s pairs) p d = absurd (omega arith)
  flat (Tag-i n s inner) p d = absurd (omega arith)
  flat (i.Simple n) p d = simple_flat n p

  deep : (item : Item) → IsValid order item → IsInBoxes item (flat_boxes ++ deep_boxes)
  unfolding IsValid
  deep (i.Uint n) p = inl (refl, below_top n)
  deep (i.Nint n) p = inr (inl (refl, below_top n))
  deep (i.Bytes bytes) p = inr (inr (inl (refl, below_top (length bytes))))
  deep (i.Text bytes) p = inr (inr (inr (inl (refl, below_top (length bytes)))))
  deep (Array-i s items) p = later_boxes (Array-i s items) flat_boxes deep_boxes (inl (refl, below_top _))
  deep (Map-i s pairs) p = later_boxes (Map-i s pairs) flat_boxes deep_boxes (inr (inl (refl, below_top _)))
  deep (Tag-i n s inner) p = later_boxes (Tag-i n s inner) flat_boxes deep_boxes (inr (inr (inl (refl, below_top n))))
  deep (i.Simple n) p = more_boxes (i.Simple n) flat_boxes deep_boxes (simple_flat n p)

  to_depth : (deepest : ℕ) (item : Item) → IsValid order item → depth item ≤ deepest → IsInBoxes item (boxes_to_depth deepest)
  to_depth zero item p h = flat item p h
  to_depth (suc deepest) item p h = deep item p

of_its_major : (major : ℕ) (item : Item) (bs : List Box) → major_of item ≡ major → IsInBoxes item bs → IsInBoxes item (of_major major bs)
of_its_major major item [] e p = absurd p
of_its_major major item (b ∷ bs) e p = by_test (λ q. of_its_major major item bs e q) (eqb b.major major) refl p
  where
    by_test : (IsInBoxes item bs → IsInBoxes item (of_major major bs)) → (t : Bool) → eqb b.major major ≡ t → IsInBoxes item (b ∷ bs) → IsInBoxes item (cond t (b ∷ of_major major bs) (of_major major bs))
    by_test h true te (inl q) = inl q
    by_test h true te (inr q) = inr (h q)
    by_test h false te (inl q) = absurd (eqb-false b.major major te (sym q.0 ∙ e))
    by_test h false te (inr q) = h q

anywhere : (item : Item) → IsInBoxes item (all_of_major 0 ∷ all_of_major 1 ∷ all_of_major 2 ∷ all_of_major 3 ∷ all_of_major 4 ∷ all_of_major 5 ∷ all_of_major 6 ∷ all_of_major 7 ∷ [])
anywhere (i.Uint n) = inl (refl, below_top n)
anywhere (i.Nint n) = inr (inl (refl, below_top n))
anywhere (i.Bytes bytes) = inr (inr (inl (refl, below_top _)))
anywhere (i.Text bytes) = inr (inr (inr (inl (refl, below_top _))))
anywhere (Array-i s items) = inr (inr (inr (inr (inl (refl, below_top _)))))
anywhere (Map-i s pairs) = inr (inr (inr (inr (inr (inl (refl, below_top _))))))
anywhere (Tag-i n s inner) = inr (inr (inr (inr (inr (inr (inl (refl, below_top _)))))))
anywhere (i.Simple n) = inr (inr (inr (inr (inr (inr (inr (inl (refl, below_top _))))))))

-- ---- counts and lengths as arguments

array_argument : (items : List Item) → length items ≡ argument (i.Array items)
array_argument items = sym (ap length (encodings-list items) ∙ length-map items encoding)

map_argument : (pairs : List Pair) → length pairs ≡ argument (i.Map pairs)
map_argument pairs = sym (ap length (pairs-list pairs) ∙ length-map pairs pair_encoding)

-- no encoding is empty: an empty one would be in front of any two others
encoding_long : (order : Order) (item : Item) → IsValid order item → 1 ≤ length (encoding item)
unfolding IsValid
encoding_long order item valid = from (encoding item) refl
  where
    same : (n : ℕ) → n < 2 ^ 64 → encoding item ≡ [] → item ≡ i.Uint n
    same n lt e = (begins_with_one_item order item (i.Uint n) (encoding (i.Uint n)) [] valid lt (ap (λ (x : List ℕ). x ++ encoding (i.Uint n)) e ∙ sym (append-nil (encoding (i.Uint n))))).0

    from : (bytes : List ℕ) → encoding item ≡ bytes → 1 ≤ length bytes
    from [] e = let h : i.Uint 0 ≡ i.Uint 1 = sym (same 0 (omega arith) e) ∙ same 1 (omega arith) e in absurd cc
    from (byte ∷ bytes) e = omega arith

-- ---- the boxes of a shape

in_boxes : (order : Order) (kind : Kind) (item : Item) (value : Value) → KeysDiffer kind → Gives order kind item value → IsInBoxes item (boxes kind)
unfolding Gives KeysDiffer
in_boxes order (k.Uint lo hi) item value d p = subst (λ (x : Item). IsInBoxes x (box 0 lo hi ∷ [])) (sym p.1) (inl (refl, spans (cap_grows _ _ p.2.1.0) (cap_grows _ _ p.2.1.1)))
in_boxes order (k.Nint lo hi) item value d p = subst (λ (x : Item). IsInBoxes x (box 1 lo hi ∷ [])) (sym p.1) (inl (refl, spans (cap_grows _ _ p.2.1.0) (cap_grows _ _ p.2.1.1)))
in_boxes order (k.Bytes lo hi) item value d p = subst (λ (x : Item). IsInBoxes x (box 2 lo hi ∷ [])) (sym p.1) (inl (refl, spans (cap_grows _ _ p.2.0) (cap_grows _ _ p.2.1)))
in_boxes order (k.Text lo hi) item value d p = subst (λ (x : Item). IsInBoxes x (box 3 lo hi ∷ [])) (sym p.1) (inl (refl, spans (cap_grows _ _ p.3.0) (cap_grows _ _ p.3.1)))
in_boxes order (k.BytesIs bytes) item value d p = subst (λ (x : Item). IsInBoxes x (box 2 (length bytes) (length bytes) ∷ [])) (sym p.0) (inl (refl, spans (omega arith) (omega arith)))
in_boxes order (k.TextIs bytes) item value d p = subst (λ (x : Item). IsInBoxes x (box 3 (length bytes) (length bytes) ∷ [])) (sym p.0) (inl (refl, spans (omega arith) (omega arith)))
in_boxes order (k.Simple n) item value d p = subst (λ (x : Item). IsInBoxes x (box 7 n n ∷ [])) (sym p.0) (inl (refl, spans (omega arith) (omega arith)))
in_boxes order (Tag' n s inner) item value d p = subst (λ (x : Item). IsInBoxes x (box 6 n n ∷ [])) (sym p.1) (inl (refl, spans (omega arith) (omega arith)))
in_boxes order (AnyTag' s inner) item value d p = subst (λ (x : Item). IsInBoxes x (all_of_major 6 ∷ [])) (sym p.3) (inl (refl, below_top _))
in_boxes order (k.Any deepest) item value d p = to_depth order deepest item p.0.0 p.0.1
in_boxes order (k.AnyOf major deepest) item value d p = of_its_major major item (boxes_to_depth deepest) p.1 (to_depth order deepest item p.0.0 p.0.1)
in_boxes order (Cbor' s inner) item value d p = subst (λ (x : Item). IsInBoxes x (box 2 1 top ∷ [])) (sym p.1) (inl (refl, spans (cap_grows 1 _ (encoding_long order p.0 p.2)) (cap_of_top _)))
in_boxes order (Choice' s ways) item value d p = anywhere item
in_boxes order (Array' s parts) item value d p =
    let a = array_argument p.0 in
    let low : least parts ≤ argument (i.Array p.0) = subst (λ (n : ℕ). least parts ≤ n) a (at_least order parts p.0 p.1 p.4) in
    let high : cap (argument (i.Array p.0)) ≤ greatest parts = subst (λ (n : ℕ). cap n ≤ greatest parts) a (at_most order parts p.0 p.1 p.4) in
    subst (λ (x : Item). IsInBoxes x (box 4 (least parts) (greatest parts) ∷ [])) (sym p.2) (inl (refl, spans (cap_grows _ _ low) (cap_again _ _ high)))
in_boxes order (Map' s entries) item value d p =
    let a = map_argument p.0 in
    let c = pairs_counted order entries p.0 p.1 d.0 p.4 in
    let low : pairs_least entries ≤ argument (i.Map p.0) = subst (λ (n : ℕ). pairs_least entries ≤ n) a c.0 in
    let high : cap (argument (i.Map p.0)) ≤ pairs_greatest entries = subst (λ (n : ℕ). cap n ≤ pairs_greatest entries) a c.1 in
    subst (λ (x : Item). IsInBoxes x (box 5 (pairs_least entries) (pairs_greatest entries) ∷ [])) (sym p.2) (inl (refl, spans (cap_grows _ _ low) (cap_again _ _ high)))

-- shapes whose boxes share no head share no item
pub by_boxes : (order : Order) (kind other : Kind) (item : Item) (u w : Value) → KeysDiffer kind → KeysDiffer other → BoxesApart kind other → Gives order kind item u → Gives order other item w → ⊥
by_boxes order kind other item u w d e b p q = boxes_outside item (boxes kind) (boxes other) b (in_boxes order kind item u d p) (in_boxes order other item w e q)
