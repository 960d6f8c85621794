-- What it takes for an item to be valid and shallow.
use Rattle.std.proofs.Common.{◌≡◌, ℕ, zero, suc, ◌+◌, ◌-◌, ◌<◌, ◌≤◌, ◌^◌, ◌⊎◌, Bool, true, false, leb, ltb, List, [], ◌∷◌, length, map, take, get_or, refl, ap, sym, ◌∙◌, subst, arith, inl, inr}
use Rattle.std.specs.Prelude.{◌↔◌, IsTrue}
use Rattle.std.specs.List.{AllByRecursion}
use Rattle.std.specs.Str.{IsUtf8, is_utf8}
use Rattle.std.specs.Ordering.{is_lt}
use Rattle.std.specs.declared.cmp.Ordering.{Ordering}
use Rattle.std.specs.declared.cmp.Ordering.TheVariants.{Less, Equal, Greater}
use Rattle.std.proofs.lemmas.List.{take_all}
use Rattle.std.proofs.lemmas.Bool.{le-ltb, lt-ltb, le-leb, leb-true}
use Rattle.std.proofs.lemmas.Str.{is_utf8-from_IsUtf8, IsUtf8-from_is_utf8}
use Rattle.ecd_keyorder.specs.declared.Order.{Order}
use Rattle.ecd_keyorder.specs.Order.{IsBefore}
use Rattle.ecd_item_laws.specs.declared.item.Item.{Item}
use Rattle.ecd_item_laws.specs.declared.item.Item.TheVariants.{Uint, Nint, Bytes, Text, Array, Map, Tag, Simple}
use Rattle.ecd_item_laws.specs.declared.item.Pair.{Pair}
use Rattle.ecd_item_laws.specs.Encoding.{key_bytes}
use Rattle.ecd_item_laws.specs.Valid.{IsValid, IsValidPair, IsWhole, IsWholePair, Ascend, depth}
use Rattle.ecd_item_laws.proofs.Layers.{depth-Array, depth-Map, depth-Tag, greatest, pair_depth, valid_Array, valid_Map, valid_Tag, Array_valid, Map_valid, Tag_valid}
use Rattle.ecd_item.proofs.Emitting.{at_place}

abbrev pub Means : Bool → Type 0 → Type 0
Means b P = IsTrue b ↔ P

-- ---- loops over all

module _ {A : Type 0} where
  pub all_more : (P : A → Type 0) (xs : List A) (i : ℕ) (x : A) → i < length xs → x ≡ get_or xs i x → AllByRecursion P (take i xs) → P x → AllByRecursion P (take (i + 1) xs)
  all_more P [] i x lt xe h p = absurd (omega arith)
  all_more P (y ∷ ys) zero x lt xe h p = (subst P xe p, tt)
  all_more P (y ∷ ys) (suc i) x lt xe h p = let f : suc (i + 1) ≡ suc i + 1 = omega arith in
      subst (λ (n : ℕ). AllByRecursion P (take n (y ∷ ys))) f (h.0, all_more P ys i x (omega arith) xe h.1 p)

  pub all_done : (P : A → Type 0) (xs : List A) (i : ℕ) → length xs ≤ i → AllByRecursion P (take i xs) → IsTrue true ↔ AllByRecursion P xs
  all_done P xs i le h = ((λ t. subst (AllByRecursion P) (take_all i xs le) h), (λ a. refl))

  pub all_not : (P : A → Type 0) (xs : List A) (i : ℕ) (x : A) → i < length xs → x ≡ get_or xs i x → (P x → ⊥) → IsTrue false ↔ AllByRecursion P xs
  all_not P xs i x lt xe never = ((λ t. absurd cc), (λ a. absurd (never (subst P (sym xe) (at_place P xs i x lt a)))))

  pub all_both : (P Q : A → Type 0) (xs : List A) → AllByRecursion P xs → AllByRecursion Q xs → AllByRecursion (λ x. P x × Q x) xs
  all_both P Q [] h g = tt
  all_both P Q (x ∷ xs) h g = ((h.0, g.0), all_both P Q xs h.1 g.1)

-- ---- keys

module _ {A : Type 0} (order : Order) (key : A → List ℕ) where
  pub ascend_one : (xs : List A) → Ascend order (map key (take 1 xs))
  ascend_one [] = tt
  ascend_one (x ∷ xs) = (tt, tt)

  pub ascend_more : (xs : List A) (i : ℕ) (x y : A) → suc i < length xs → x ≡ get_or xs i x → y ≡ get_or xs (suc i) y → Ascend order (map key (take (suc i) xs)) → IsBefore order (key x) (key y) → Ascend order (map key (take (suc (suc i)) xs))
  ascend_more [] i x y lt xe ye h b = absurd (omega arith)
  ascend_more (z ∷ []) i x y lt xe ye h b = absurd (omega arith)
  ascend_more (z ∷ w ∷ zs) zero x y lt xe ye h b = (subst (λ v. IsBefore order (key v) (key w)) xe (subst (λ v. IsBefore order (key x) (key v)) ye b), (tt, tt))
  ascend_more (z ∷ w ∷ zs) (suc i) x y lt xe ye h b = (h.0, ascend_more (w ∷ zs) i x y (omega arith) xe ye h.1 b)

  pub ascend_at : (xs : List A) (i : ℕ) (x y : A) → suc i < length xs → x ≡ get_or xs i x → y ≡ get_or xs (suc i) y → Ascend order (map key xs) → IsBefore order (key x) (key y)
  ascend_at [] i x y lt xe ye h = absurd (omega arith)
  ascend_at (z ∷ []) i x y lt xe ye h = absurd (omega arith)
  ascend_at (z ∷ w ∷ zs) zero x y lt xe ye h = subst (λ v. IsBefore order (key v) (key y)) (sym xe) (subst (λ v. IsBefore order (key z) (key v)) (sym ye) h.0)
  ascend_at (z ∷ w ∷ zs) (suc i) x y lt xe ye h = ascend_at (w ∷ zs) i x y (omega arith) xe ye h.1

-- the same, where the index of the later key is at hand
module _ {A : Type 0} (order : Order) (key : A → List ℕ) where
  pub ascend_next : (xs : List A) (at : ℕ) (x y : A) → 1 ≤ at → at < length xs → x ≡ get_or xs (at - 1) x → y ≡ get_or xs at y → Ascend order (map key (take at xs)) → IsBefore order (key x) (key y) → Ascend order (map key (take (at + 1) xs))
  ascend_next xs at x y le lt xe ye h b =
      let e : suc (at - 1) ≡ at = omega arith in
      let f : suc (suc (at - 1)) ≡ at + 1 = omega arith in
      subst (λ (n : ℕ). Ascend order (map key (take n xs))) f (ascend_more order key xs (at - 1) x y (omega arith) xe (subst (λ (n : ℕ). y ≡ get_or xs n y) (sym e) ye) (subst (λ (n : ℕ). Ascend order (map key (take n xs))) (sym e) h) b)

  pub ascend_fails : (xs : List A) (at : ℕ) (x y : A) → 1 ≤ at → at < length xs → x ≡ get_or xs (at - 1) x → y ≡ get_or xs at y → (IsBefore order (key x) (key y) → ⊥) → IsTrue false ↔ Ascend order (map key xs)
  ascend_fails xs at x y le lt xe ye never =
      let e : suc (at - 1) ≡ at = omega arith in
      ((λ t. absurd cc), (λ a. absurd (never (ascend_at order key xs (at - 1) x y (omega arith) xe (subst (λ (n : ℕ). y ≡ get_or xs n y) (sym e) ye) a))))

  pub ascend_all : (xs : List A) (at : ℕ) → length xs ≤ at → Ascend order (map key (take at xs)) → IsTrue true ↔ Ascend order (map key xs)
  ascend_all xs at le h = ((λ t. subst (λ ys. Ascend order (map key ys)) (take_all at xs le) h), (λ a. refl))

pub lt_is : (o : Ordering) → is_lt o ≡ true → o ≡ Less
lt_is Less e = refl
lt_is Equal e = absurd cc
lt_is Greater e = absurd cc

pub lt_not : (o : Ordering) → is_lt o ≡ false → o ≡ Less → ⊥
lt_not Less e f = cc
lt_not Equal e f = cc
lt_not Greater e f = cc

-- ---- the arms

each_whole : (order : Order) (d : ℕ) (xs : List Item) → AllByRecursion (IsWhole order d) xs → AllByRecursion (IsValid order) xs × (greatest (map depth xs) ≤ d)
each_whole order d [] h = (tt, omega arith)
each_whole order d (x ∷ xs) h = let r = each_whole order d xs h.1 in ((h.0.0, r.0), omega (arith, h.0.1, r.1))

whole_each : (order : Order) (d : ℕ) (xs : List Item) → AllByRecursion (IsValid order) xs → greatest (map depth xs) ≤ d → AllByRecursion (IsWhole order d) xs
whole_each order d [] h g = tt
whole_each order d (x ∷ xs) h g = ((h.0, omega arith), whole_each order d xs h.1 (omega arith))

pub each_pair_whole : (order : Order) (d : ℕ) (ps : List Pair) → AllByRecursion (IsWholePair order d) ps → AllByRecursion (IsValidPair order) ps × (greatest (map pair_depth ps) ≤ d)
each_pair_whole order d [] h = (tt, omega arith)
each_pair_whole order d (p ∷ ps) h = let r = each_pair_whole order d ps h.1 in (((h.0.0.0, h.0.1.0), r.0), omega (arith, h.0.0.1, h.0.1.1, r.1))

whole_each_pair : (order : Order) (d : ℕ) (ps : List Pair) → AllByRecursion (IsValidPair order) ps → greatest (map pair_depth ps) ≤ d → AllByRecursion (IsWholePair order d) ps
whole_each_pair order d [] h g = tt
whole_each_pair order d (p ∷ ps) h g = (((h.0.0, omega arith), (h.0.1, omega arith)), whole_each_pair order d ps h.1 (omega arith))

module _ (order : Order) where
  pub whole_Uint : (d n : ℕ) → n < 2 ^ 64 → IsWhole order d (Uint n)
  unfolding IsValid depth
  whole_Uint d n lt = (lt, omega arith)

  pub whole_Nint : (d n : ℕ) → n < 2 ^ 64 → IsWhole order d (Nint n)
  unfolding IsValid depth
  whole_Nint d n lt = (lt, omega arith)

  pub whole_Bytes : (d : ℕ) (bs : List ℕ) → length bs < 2 ^ 64 → IsWhole order d (Bytes bs)
  unfolding IsValid depth
  whole_Bytes d bs lt = (lt, omega arith)

  pub whole_Text : (d : ℕ) (bs : List ℕ) → length bs < 2 ^ 64 → IsUtf8 bs ↔ IsWhole order d (Text bs)
  unfolding IsValid depth
  whole_Text d bs lt = ((λ u. ((lt, u), omega arith)), (λ w. w.0.1))

  pub whole_Simple : (d n : ℕ) → ((n < 24) ⊎ ((32 ≤ n) × (n < 256))) ↔ IsWhole order d (Simple n)
  unfolding IsValid depth
  whole_Simple d n = ((λ v. (v, omega arith)), (λ w. w.0))

  pub whole_Array : (d : ℕ) (xs : List Item) → length xs < 2 ^ 64 → 0 < d → AllByRecursion (IsWhole order (d - 1)) xs ↔ IsWhole order d (Array xs)
  whole_Array d xs lt deep =
      ((λ h. let e = each_whole order (d - 1) xs h in (Array_valid order xs lt e.0, omega (arith, depth-Array xs, e.1))), (λ w. whole_each order (d - 1) xs (valid_Array order xs w.0).1 (omega (arith, depth-Array xs, w.1))))

  pub whole_Map : (d : ℕ) (ps : List Pair) → length ps < 2 ^ 64 → 0 < d → (AllByRecursion (IsWholePair order (d - 1)) ps × Ascend order (map key_bytes ps)) ↔ IsWhole order d (Map ps)
  whole_Map d ps lt deep =
      ((λ h. let e = each_pair_whole order (d - 1) ps h.0 in (Map_valid order ps lt e.0 h.1, omega (arith, depth-Map ps, e.1))), (λ w. let v = valid_Map order ps w.0 in (whole_each_pair order (d - 1) ps v.1 (omega (arith, depth-Map ps, w.1)), v.2)))

  pub whole_Tag : (d n : ℕ) (x : Item) → n < 2 ^ 64 → 0 < d → IsWhole order (d - 1) x ↔ IsWhole order d (Tag n x)
  whole_Tag d n x lt deep =
      ((λ h. (Tag_valid order n x lt h.0, omega (arith, depth-Tag n x, h.1))), (λ w. ((valid_Tag order n x w.0).1, omega (arith, depth-Tag n x, w.1))))

  abbrev Tells : Bool → ℕ → Item → Type 0
  Tells b d it = IsTrue b ↔ IsWhole order d it

  by_cases : (d : ℕ) (it i : Item) (b : Bool) → it ≡ i → Tells b d i → Tells b d it
  by_cases d it i b is h = subst (Tells b d) (sym is) h

  always : (d : ℕ) (i : Item) → IsWhole order d i → Tells true d i
  always d i w = ((λ t. w), (λ g. refl))

  never : (d : ℕ) (i : Item) (b : Bool) → b ≡ false → (IsWhole order d i → ⊥) → Tells b d i
  never d i b e h = ((λ t. absurd (let f : false ≡ true = sym e ∙ t in cc)), (λ w. absurd (h w)))

  pub uint_tells : (d n : ℕ) (it : Item) → it ≡ Uint n → n < 2 ^ 64 → Tells true d it
  uint_tells d n it is lt = by_cases d it (Uint n) true is (always d (Uint n) (whole_Uint d n lt))

  pub nint_tells : (d n : ℕ) (it : Item) → it ≡ Nint n → n < 2 ^ 64 → Tells true d it
  nint_tells d n it is lt = by_cases d it (Nint n) true is (always d (Nint n) (whole_Nint d n lt))

  pub bytes_tells : (d : ℕ) (bs : List ℕ) (it : Item) → it ≡ Bytes bs → length bs < 2 ^ 64 → Tells true d it
  bytes_tells d bs it is lt = by_cases d it (Bytes bs) true is (always d (Bytes bs) (whole_Bytes d bs lt))

  pub text_tells : (d : ℕ) (bs s : List ℕ) (it : Item) (b : Bool) → it ≡ Text bs → s ≡ bs → length s < 2 ^ 64 → b ≡ is_utf8 s → Tells b d it
  text_tells d bs s it b is same lt e =
      let w = whole_Text d s lt in
      by_cases d it (Text s) b (is ∙ ap Text (sym same)) ((λ t. w.0 (IsUtf8-from_is_utf8 s (sym e ∙ t))), (λ h. e ∙ is_utf8-from_IsUtf8 s (w.1 h)))

  pub low_tells : (d n : ℕ) (it : Item) → it ≡ Simple n → n < 24 → Tells (ltb n 24) d it
  low_tells d n it is lt = by_cases d it (Simple n) (ltb n 24) is (rw (lt-ltb n 24 lt) (always d (Simple n) ((whole_Simple d n).0 (inl lt))))

  pub high_tells : (d n : ℕ) (it : Item) → it ≡ Simple n → 24 ≤ n → n < 256 → Tells (leb 32 n) d it
  high_tells d n it is ge lt =
      let w = whole_Simple d n in
      by_cases d it (Simple n) (leb 32 n) is ((λ t. w.0 (inr (leb-true 32 n t, lt))), (λ h. le-leb 32 n (elim (w.1 h) [ inl l ↦ absurd (omega arith) | inr r ↦ r.0 ])))

  pub array_tells : (d : ℕ) (xs s : List Item) (it : Item) (b : Bool) → it ≡ Array xs → s ≡ xs → length s < 2 ^ 64 → 0 < d → IsTrue b ↔ AllByRecursion (IsWhole order (d - 1)) s → Tells b d it
  array_tells d xs s it b is same lt deep e =
      let w = whole_Array d s lt deep in
      by_cases d it (Array s) b (is ∙ ap Array (sym same)) ((λ t. w.0 (e.0 t)), (λ h. e.1 (w.1 h)))

  pub map_tells : (d : ℕ) (ps s : List Pair) (it : Item) (b : Bool) → it ≡ Map ps → s ≡ ps → length s < 2 ^ 64 → 0 < d → IsTrue b ↔ (AllByRecursion (IsWholePair order (d - 1)) s × Ascend order (map key_bytes s)) → Tells b d it
  map_tells d ps s it b is same lt deep e =
      let w = whole_Map d s lt deep in
      by_cases d it (Map s) b (is ∙ ap Map (sym same)) ((λ t. w.0 (e.0 t)), (λ h. e.1 (w.1 h)))

  pub tag_tells : (d n : ℕ) (x g it : Item) (b : Bool) → it ≡ Tag n x → g ≡ x → n < 2 ^ 64 → 0 < d → IsTrue b ↔ IsWhole order (d - 1) g → Tells b d it
  tag_tells d n x g it b is same lt deep e =
      let w = whole_Tag d n g lt deep in
      by_cases d it (Tag n g) b (is ∙ ap (Tag n) (sym same)) ((λ t. w.0 (e.0 t)), (λ h. e.1 (w.1 h)))

  pub deep_array : (d : ℕ) (xs : List Item) (it : Item) → it ≡ Array xs → d ≤ 0 → Tells (ltb 0 d) d it
  deep_array d xs it is le = by_cases d it (Array xs) (ltb 0 d) is (never d (Array xs) (ltb 0 d) (le-ltb 0 d le) (λ w. omega (arith, depth-Array xs, w.1)))

  pub deep_map : (d : ℕ) (ps : List Pair) (it : Item) → it ≡ Map ps → d ≤ 0 → Tells (ltb 0 d) d it
  deep_map d ps it is le = by_cases d it (Map ps) (ltb 0 d) is (never d (Map ps) (ltb 0 d) (le-ltb 0 d le) (λ w. omega (arith, depth-Map ps, w.1)))

  pub deep_tag : (d n : ℕ) (x it : Item) → it ≡ Tag n x → d ≤ 0 → Tells (ltb 0 d) d it
  deep_tag d n x it is le = by_cases d it (Tag n x) (ltb 0 d) is (never d (Tag n x) (ltb 0 d) (le-ltb 0 d le) (λ w. omega (arith, depth-Tag n x, w.1)))

  -- the pairs of a map, and then its keys
  pub pairs_end : (d : ℕ) (ps : List Pair) (i : ℕ) (b : Bool) → length ps ≤ i → AllByRecursion (IsWholePair order d) (take i ps) → IsTrue b ↔ Ascend order (map key_bytes ps) → IsTrue b ↔ (AllByRecursion (IsWholePair order d) ps × Ascend order (map key_bytes ps))
  pairs_end d ps i b le h e = ((λ t. (subst (AllByRecursion (IsWholePair order d)) (take_all i ps le) h, e.0 t)), (λ a. e.1 a.1))

  pub pairs_fail : (d : ℕ) (ps : List Pair) (i : ℕ) (x : Pair) → i < length ps → x ≡ get_or ps i x → (IsWholePair order d x → ⊥) → IsTrue false ↔ (AllByRecursion (IsWholePair order d) ps × Ascend order (map key_bytes ps))
  pairs_fail d ps i x lt xe out = ((λ t. absurd cc), (λ a. absurd (out (subst (IsWholePair order d) (sym xe) (at_place (IsWholePair order d) ps i x lt a.0)))))

  -- what nests no deeper than one depth nests no deeper than a greater one
  pairs_deeper : (d e : ℕ) (ps : List Pair) → d ≤ e → AllByRecursion (IsWholePair order d) ps → AllByRecursion (IsWholePair order e) ps
  pairs_deeper d e [] le h = tt
  pairs_deeper d e (p ∷ ps) le h = (((h.0.0.0, omega (arith, h.0.0.1)), (h.0.1.0, omega (arith, h.0.1.1))), pairs_deeper d e ps le h.1)

  pub pairs_whole : (d e : ℕ) (ps : List Pair) (i : ℕ) → d ≤ e → length ps ≤ i → AllByRecursion (IsWholePair order d) (take i ps) → AllByRecursion (IsWholePair order e) ps
  pairs_whole d e ps i deeper le h = pairs_deeper d e ps deeper (subst (AllByRecursion (IsWholePair order d)) (take_all i ps le) h)
