-- An item of 64 levels has an encoding shorter than a wide sum counts.
use Rattle.std.proofs.Common.{◌≡◌, ℕ, zero, suc, ◌+◌, ◌-◌, ◌*◌, ◌<◌, ◌≤◌, ◌^◌, List, [], ◌∷◌, length, map, refl, subst, arith}
use Rattle.std.specs.List.{AllByRecursion}
use Rattle.std.proofs.lemmas.Bool.{leb-true}
use Rattle.std.proofs.lemmas.List.{length-append}
use Rattle.std.proofs.Math.Nat.{add-mul, mul-le-mul_right}
use Rattle.ecd_head.specs.Head.{head_bytes}
use Rattle.ecd_keyorder.specs.declared.Order.{Order}
use Rattle.ecd_tally.specs.Sums.{capacity}
use Rattle.ecd_item_laws.specs.declared.item.Item.{Item}
use Rattle.ecd_item_laws.specs.declared.item.Item.TheVariants.{Array, Map, Tag}
use Rattle.ecd_item_laws.specs.declared.item.Pair.{Pair}
use Rattle.ecd_item_laws.specs.Encoding.{encoding, encoded_length, pair_bytes, joined}
use Rattle.ecd_item_laws.specs.Valid.{IsValid, IsWhole, IsWholePair}
use Rattle.ecd_item_laws.proofs.Layers.{encoding-Uint, encoding-Nint, encoding-Bytes, encoding-Text, encoding-Array, encoding-Map, encoding-Tag, encoding-Simple, depth-Array, depth-Map, depth-Tag, valid_Array, valid_Map, valid_Tag, item_ind}
use Rattle.ecd_item.proofs.Lengths.{head_most}
use Rattle.ecd_item.proofs.Whole.{whole_Array, whole_Map}

-- at most 2^64 pairs, and a head, at each level
abbrev bound : ℕ → ℕ
bound zero = 2 ^ 66
bound (suc d) = 2 ^ 66 * bound d

bound_large : (d : ℕ) → 2 ^ 66 ≤ bound d
bound_large zero = omega arith
bound_large (suc d) = omega (arith, bound_large d)

joined_within : {A : Type 0} (text : A → List ℕ) (m : ℕ) (xs : List A) → AllByRecursion (λ x. length (text x) ≤ m) xs → length (joined (map text xs)) ≤ length xs * m
joined_within text m [] h = omega arith
joined_within text m (x ∷ xs) h = omega (arith, length-append (text x) (joined (map text xs)), joined_within text m xs h.1, h.0, add-mul (length xs) 1 m)

module _ (order : Order) where
  abbrev IsShort : Item → Type 0
  IsShort i = (d : ℕ) → IsWhole order d i → encoded_length i < bound d

  items_within : (d : ℕ) (xs : List Item) → AllByRecursion IsShort xs → AllByRecursion (IsWhole order d) xs → AllByRecursion (λ x. length (encoding x) ≤ bound d) xs
  items_within d [] short whole = tt
  items_within d (x ∷ xs) short whole = (omega (arith, short.0 d whole.0), items_within d xs short.1 whole.1)

  pairs_within : (d : ℕ) (ps : List Pair) → AllByRecursion (λ p. IsShort p.key × IsShort p.value) ps → AllByRecursion (IsWholePair order d) ps → AllByRecursion (λ p. length (pair_bytes p) ≤ bound d + bound d) ps
  pairs_within d [] short whole = tt
  pairs_within d (p ∷ ps) short whole =
      (omega (arith, short.0.0 d whole.0.0, short.0.1 d whole.0.1, length-append (encoding p.key) (encoding p.value)), pairs_within d ps short.1 whole.1)

  array_short : (xs : List Item) → AllByRecursion IsShort xs → IsShort (Array xs)
  array_short xs short zero w = absurd (omega (arith, depth-Array xs, w.1))
  array_short xs short (suc d) w =
      let lt : length xs < 2 ^ 64 = (valid_Array order xs w.0).0 in
      let inside = (whole_Array order (suc d) xs lt (omega arith)).1 w in
      let e : suc d - 1 ≡ d = omega arith in
      let parts = joined_within encoding (bound d) xs (items_within d xs short (subst (λ (n : ℕ). AllByRecursion (IsWhole order n) xs) e inside)) in
      let le : length xs ≤ 2 ^ 64 = omega arith in
      rw (encoding-Array xs) (omega (arith, length-append (head_bytes 4 (length xs)) (joined (map encoding xs)), head_most 4 (length xs), parts, mul-le-mul_right (bound d) le, bound_large d))

  map_short : (ps : List Pair) → AllByRecursion (λ p. IsShort p.key × IsShort p.value) ps → IsShort (Map ps)
  map_short ps short zero w = absurd (omega (arith, depth-Map ps, w.1))
  map_short ps short (suc d) w =
      let lt : length ps < 2 ^ 64 = (valid_Map order ps w.0).0 in
      let inside = (whole_Map order (suc d) ps lt (omega arith)).1 w in
      let e : suc d - 1 ≡ d = omega arith in
      let parts = joined_within pair_bytes (bound d + bound d) ps (pairs_within d ps short (subst (λ (n : ℕ). AllByRecursion (IsWholePair order n) ps) e inside.0)) in
      let le : length ps ≤ 2 ^ 64 = omega arith in
      rw (encoding-Map ps) (omega (arith, length-append (head_bytes 5 (length ps)) (joined (map pair_bytes ps)), head_most 5 (length ps), parts, mul-le-mul_right (bound d + bound d) le, bound_large d))

  tag_short : (n : ℕ) (x : Item) → IsShort x → IsShort (Tag n x)
  tag_short n x short zero w = absurd (omega (arith, depth-Tag n x, w.1))
  tag_short n x short (suc d) w =
      let v = valid_Tag order n x w.0 in
      let inside : IsWhole order d x = (v.1, omega (arith, depth-Tag n x, w.1)) in
      rw (encoding-Tag n x) (omega (arith, length-append (head_bytes 6 n) (encoding x), head_most 6 n, short d inside, bound_large d))

  is_short : (i : Item) → IsShort i
  unfolding IsValid
  is_short = item_ind IsShort (record {
    uint = λ n d w. rw (encoding-Uint n) (omega (arith, head_most 0 n, bound_large d));
    nint = λ n d w. rw (encoding-Nint n) (omega (arith, head_most 1 n, bound_large d));
    bytes = λ bs d w. rw (encoding-Bytes bs) (omega (arith, length-append (head_bytes 2 (length bs)) bs, head_most 2 (length bs), w.0, bound_large d));
    text = λ bs d w. rw (encoding-Text bs) (omega (arith, length-append (head_bytes 3 (length bs)) bs, head_most 3 (length bs), w.0.0, bound_large d));
    array = λ xs h. array_short xs h;
    pairs = λ ps h. map_short ps h;
    tag = λ n x h. tag_short n x h;
    simple = λ n d w. rw (encoding-Simple n) (omega (arith, head_most 7 n, bound_large d));
  })

levels_fit : bound 64 ≤ capacity
unfolding capacity
levels_fit = leb-true (bound 64) ((2 ^ 64) ^ 68) refl

pub length_fits : (order : Order) (i : Item) → IsWhole order 64 i → encoded_length i < capacity
length_fits order i w = omega (arith, is_short order i 64 w, levels_fit)
