-- The definitions by cases, at lists.
use Rattle.std.proofs.Common.{◌≡◌, ℕ, ◌+◌, ◌<◌, ◌≤◌, ◌^◌, ◌⊎◌, List, [], ◌∷◌, ◌++◌, length, map, refl, ap, sym, ◌∙◌, subst, arith, rules}
use Rattle.std.specs.List.{AllByRecursion}
use Rattle.std.specs.Str.{IsUtf8}
use Rattle.std.specs.Prelude.{max}
use Rattle.std.proofs.lemmas.List.{length-map, append-nil}
use Rattle.ecd_head.specs.Head.{head_bytes}
use Rattle.ecd_keyorder.specs.declared.Order.{Order}
use mathlib.Core.Former.{Count}
use denote.Hole.Carrier.{hidden, shown}
use Rattle.ecd_item_laws.specs.declared.item.Item.{Item, Row_of-Item, end_of-Item, more_of-Item, Array', Map', Tag', Row_of-Pair, end_of-Pair, more_of-Pair, items-the_row-Item, items-the_row-Pair, roll-Item, roll-out-Item, the_lemmas}
use Rattle.ecd_item_laws.specs.declared.item.Item.TheViews.{outs-Array', outs-Map', outs-Tag'}
use Rattle.ecd_item_laws.specs.declared.item.Item.TheBlock.{shown-the_row-Item-0, shown-the_row-Item-2, shown-the_row-Pair-1, hidden-the_row-Item-0, hidden-the_row-Pair-1, hidden-the_row-Item-2, items_hidden-the_row-Item-0, items_hidden-the_row-Pair-1}
use Rattle.ecd_item_laws.specs.declared.item.Item.TheVariants.{Uint, Nint, Bytes, Text, Array, Map, Tag, Simple, rolls-Array, rolls-Map, rolls-Tag}
use Rattle.ecd_item_laws.specs.declared.item.Pair.{Pair}
use Rattle.ecd_item_laws.specs.Encoding.{encoding, encodings, pair_encodings, key_bytes, pair_bytes, joined, both}
use Rattle.ecd_item_laws.specs.Valid.{key_of, IsValid, IsValidPair, AreValid, ArePairsValid, depth, depths, pair_depths, Ascend}

pub encodings-row : (n : Count) (row : Row_of-Item n) → encodings row ≡ map encoding (items-the_row-Item n row)
unfolding encodings
encodings-row n end_of-Item = refl
encodings-row n (more_of-Item i rest) = ap (λ (x : List (List ℕ)). encoding i ∷ x) (encodings-row _ rest)

pub pair_encodings-row : (n : Count) (row : Row_of-Pair n) → pair_encodings row ≡ map (λ p. (encoding p.key, encoding p.value)) (items-the_row-Pair n row)
unfolding pair_encodings
pair_encodings-row n end_of-Pair = refl
pair_encodings-row n (more_of-Pair k v rest) = ap (λ (x : List (List ℕ × List ℕ)). (encoding k, encoding v) ∷ x) (pair_encodings-row _ rest)

-- ---- a list in the code's item, and the row of the type

pub Array-row : (s : List (Unit {0})) (r : _) → Array' s r ≡ Array (items-the_row-Item _ r)
Array-row s r =
    let same : shown-the_row-Item-0 s r ≡ items-the_row-Item _ r = search (rules, the_lemmas) in
    sym (roll-out-Item (Array' s r)) ∙ (ap roll-Item (outs-Array' s r) ∙ (rolls-Array _ ∙ ap Array same))

pub Map-row : (s : List (Unit {0})) (r : _) → Map' s r ≡ Map (items-the_row-Pair _ r)
Map-row s r =
    let same : shown-the_row-Pair-1 s r ≡ items-the_row-Pair _ r = search (rules, the_lemmas) in
    sym (roll-out-Item (Map' s r)) ∙ (ap roll-Item (outs-Map' s r) ∙ (rolls-Map _ ∙ ap Map same))

pub Tag-row : (n : ℕ) (s : Unit {0}) (r : Row_of-Item 1) → Tag' n s r ≡ Tag n (shown-the_row-Item-2 s r)
Tag-row n s r =
    sym (roll-out-Item (Tag' n s r)) ∙ (ap roll-Item (outs-Tag' n s r) ∙ rolls-Tag n _)

pub encodings-list : (xs : List Item) → encodings (hidden-the_row-Item-0 xs) ≡ map encoding xs
encodings-list xs = encodings-row _ (hidden-the_row-Item-0 xs) ∙ ap (map encoding) (items_hidden-the_row-Item-0 xs)

abbrev pub pair_encoding : Pair → List ℕ × List ℕ
pair_encoding p = (encoding p.key, encoding p.value)

pub pairs-list : (ps : List Pair) → pair_encodings (hidden-the_row-Pair-1 ps) ≡ map pair_encoding ps
pairs-list ps = pair_encodings-row _ (hidden-the_row-Pair-1 ps) ∙ ap (map pair_encoding) (items_hidden-the_row-Pair-1 ps)

coe_type : {A B : Type 0} → A ≡ B → A → B
coe_type e a = subst (λ (X : Type 0). X) e a

-- ---- encodings

pub encoding-Uint : (n : ℕ) → encoding (Uint n) ≡ head_bytes 0 n
unfolding encoding
encoding-Uint n = refl

pub encoding-Nint : (n : ℕ) → encoding (Nint n) ≡ head_bytes 1 n
unfolding encoding
encoding-Nint n = refl

pub encoding-Bytes : (bs : List ℕ) → encoding (Bytes bs) ≡ head_bytes 2 (length bs) ++ bs
unfolding encoding
encoding-Bytes bs = refl

pub encoding-Text : (bs : List ℕ) → encoding (Text bs) ≡ head_bytes 3 (length bs) ++ bs
unfolding encoding
encoding-Text bs = refl

pub encoding-Simple : (n : ℕ) → encoding (Simple n) ≡ head_bytes 7 n
unfolding encoding
encoding-Simple n = refl

pub encoding-Array : (xs : List Item) → encoding (Array xs) ≡ head_bytes 4 (length xs) ++ joined (map encoding xs)
unfolding encoding
encoding-Array xs = ap (λ (es : List (List ℕ)). head_bytes 4 (length es) ++ joined es) (encodings-list xs) ∙ ap (λ (n : ℕ). head_bytes 4 n ++ joined (map encoding xs)) (length-map xs encoding)

pub pair_texts : (ps : List Pair) → map both (map pair_encoding ps) ≡ map pair_bytes ps
pair_texts [] = refl
pair_texts (p ∷ ps) = ap (λ (t : List (List ℕ)). pair_bytes p ∷ t) (pair_texts ps)

pub encoding-Map : (ps : List Pair) → encoding (Map ps) ≡ head_bytes 5 (length ps) ++ joined (map pair_bytes ps)
unfolding encoding
encoding-Map ps =
    ap (λ (es : List (List ℕ × List ℕ)). head_bytes 5 (length es) ++ joined (map both es)) (pairs-list ps)
    ∙ (ap (λ (n : ℕ). head_bytes 5 n ++ joined (map both (map pair_encoding ps))) (length-map ps pair_encoding)
    ∙ ap (λ (t : List (List ℕ)). head_bytes 5 (length ps) ++ joined t) (pair_texts ps))

pub encoding-Tag : (n : ℕ) (x : Item) → encoding (Tag n x) ≡ head_bytes 6 n ++ encoding x
unfolding encoding encodings hidden-the_row-Item-2 hidden
encoding-Tag n x = ap (λ (t : List ℕ). head_bytes 6 n ++ t) (append-nil (encoding x))

key_texts : (ps : List Pair) → map key_of (map pair_encoding ps) ≡ map key_bytes ps
key_texts [] = refl
key_texts (p ∷ ps) = ap (λ (t : List (List ℕ)). key_bytes p ∷ t) (key_texts ps)

-- ---- depths

abbrev pub pair_depth : Pair → ℕ
pair_depth p = max (depth p.key) (depth p.value)

abbrev pub greatest : List ℕ → ℕ
greatest [] = 0
greatest (x ∷ xs) = max x (greatest xs)

pub depths-row : (n : Count) (row : Row_of-Item n) → depths row ≡ greatest (map depth (items-the_row-Item n row))
unfolding depths
depths-row n end_of-Item = refl
depths-row n (more_of-Item i rest) = ap (λ (x : ℕ). max (depth i) x) (depths-row _ rest)

pub pair_depths-row : (n : Count) (row : Row_of-Pair n) → pair_depths row ≡ greatest (map pair_depth (items-the_row-Pair n row))
unfolding pair_depths
pair_depths-row n end_of-Pair = refl
pair_depths-row n (more_of-Pair k v rest) = ap (λ (x : ℕ). max (max (depth k) (depth v)) x) (pair_depths-row _ rest)

pub depth-Uint : (n : ℕ) → depth (Uint n) ≡ 0
unfolding depth
depth-Uint n = refl

pub depth-Nint : (n : ℕ) → depth (Nint n) ≡ 0
unfolding depth
depth-Nint n = refl

pub depth-Bytes : (bs : List ℕ) → depth (Bytes bs) ≡ 0
unfolding depth
depth-Bytes bs = refl

pub depth-Text : (bs : List ℕ) → depth (Text bs) ≡ 0
unfolding depth
depth-Text bs = refl

pub depth-Simple : (n : ℕ) → depth (Simple n) ≡ 0
unfolding depth
depth-Simple n = refl

pub depth-Array : (xs : List Item) → depth (Array xs) ≡ greatest (map depth xs) + 1
unfolding depth
depth-Array xs = ap (λ (n : ℕ). n + 1) (depths-row _ (hidden-the_row-Item-0 xs) ∙ ap (λ (ys : List Item). greatest (map depth ys)) (items_hidden-the_row-Item-0 xs))

pub depth-Map : (ps : List Pair) → depth (Map ps) ≡ greatest (map pair_depth ps) + 1
unfolding depth
depth-Map ps = ap (λ (n : ℕ). n + 1) (pair_depths-row _ (hidden-the_row-Pair-1 ps) ∙ ap (λ (ys : List Pair). greatest (map pair_depth ys)) (items_hidden-the_row-Pair-1 ps))

pub depth-Tag : (n : ℕ) (x : Item) → depth (Tag n x) ≡ depth x + 1
unfolding depth depths hidden-the_row-Item-2 hidden
depth-Tag n x = let h : max (depth x) 0 ≡ depth x = omega arith in ap (λ (k : ℕ). k + 1) h

-- ---- what is valid

module _ (order : Order) where
  pub AreValid-row : (n : Count) (row : Row_of-Item n) → AreValid order row ≡ AllByRecursion (IsValid order) (items-the_row-Item n row)
  unfolding AreValid
  AreValid-row n end_of-Item = refl
  AreValid-row n (more_of-Item i rest) = ap (λ (X : Type 0). IsValid order i × X) (AreValid-row _ rest)

  pub ArePairsValid-row : (n : Count) (row : Row_of-Pair n) → ArePairsValid order row → AllByRecursion (IsValidPair order) (items-the_row-Pair n row)
  unfolding ArePairsValid
  ArePairsValid-row n end_of-Pair h = tt
  ArePairsValid-row n (more_of-Pair k v rest) h = ((h.0, h.1), ArePairsValid-row _ rest h.2)

  ArePairsValid-from : (n : Count) (row : Row_of-Pair n) → AllByRecursion (IsValidPair order) (items-the_row-Pair n row) → ArePairsValid order row
  unfolding ArePairsValid
  ArePairsValid-from n end_of-Pair h = tt
  ArePairsValid-from n (more_of-Pair k v rest) h = (h.0.0, h.0.1, ArePairsValid-from _ rest h.1)

  pub IsValid-Uint : (n : ℕ) → IsValid order (Uint n) ≡ (n < 2 ^ 64)
  unfolding IsValid
  IsValid-Uint n = refl

  pub IsValid-Nint : (n : ℕ) → IsValid order (Nint n) ≡ (n < 2 ^ 64)
  unfolding IsValid
  IsValid-Nint n = refl

  pub IsValid-Bytes : (bs : List ℕ) → IsValid order (Bytes bs) ≡ (length bs < 2 ^ 64)
  unfolding IsValid
  IsValid-Bytes bs = refl

  pub IsValid-Text : (bs : List ℕ) → IsValid order (Text bs) ≡ ((length bs < 2 ^ 64) × IsUtf8 bs)
  unfolding IsValid
  IsValid-Text bs = refl

  pub IsValid-Simple : (n : ℕ) → IsValid order (Simple n) ≡ ((n < 24) ⊎ ((32 ≤ n) × (n < 256)))
  unfolding IsValid
  IsValid-Simple n = refl

  -- what a valid item is made of

  pub valid_Array : (xs : List Item) → IsValid order (Array xs) → (length xs < 2 ^ 64) × AllByRecursion (IsValid order) xs
  unfolding IsValid
  valid_Array xs h =
      let all : AllByRecursion (IsValid order) (items-the_row-Item _ (hidden-the_row-Item-0 xs)) = coe_type (AreValid-row _ (hidden-the_row-Item-0 xs)) h.1 in
      (omega (arith, ap length (encodings-list xs), length-map xs encoding, h.0), subst (AllByRecursion (IsValid order)) (items_hidden-the_row-Item-0 xs) all)

  pub valid_Map : (ps : List Pair) → IsValid order (Map ps) → (length ps < 2 ^ 64) × AllByRecursion (IsValidPair order) ps × Ascend order (map key_bytes ps)
  unfolding IsValid
  valid_Map ps h =
      let es = pairs-list ps in
      (omega (arith, ap length es, length-map ps pair_encoding, h.0), subst (AllByRecursion (IsValidPair order)) (items_hidden-the_row-Pair-1 ps) (ArePairsValid-row _ (hidden-the_row-Pair-1 ps) h.1), subst (Ascend order) (ap (map key_of) es ∙ key_texts ps) h.2)

  pub valid_Tag : (n : ℕ) (x : Item) → IsValid order (Tag n x) → (n < 2 ^ 64) × IsValid order x
  unfolding IsValid AreValid hidden-the_row-Item-2 hidden
  valid_Tag n x h = (h.0, h.1.0)

  -- and what makes one valid

  pub Array_valid : (xs : List Item) → length xs < 2 ^ 64 → AllByRecursion (IsValid order) xs → IsValid order (Array xs)
  unfolding IsValid
  Array_valid xs lt h =
      let row = hidden-the_row-Item-0 xs in
      let all : AllByRecursion (IsValid order) (items-the_row-Item _ row) = subst (AllByRecursion (IsValid order)) (sym (items_hidden-the_row-Item-0 xs)) h in
      (omega (arith, ap length (encodings-list xs), length-map xs encoding), coe_type (sym (AreValid-row _ row)) all)

  pub Map_valid : (ps : List Pair) → length ps < 2 ^ 64 → AllByRecursion (IsValidPair order) ps → Ascend order (map key_bytes ps) → IsValid order (Map ps)
  unfolding IsValid
  Map_valid ps lt h a =
      let row = hidden-the_row-Pair-1 ps in
      let es = pairs-list ps in
      (omega (arith, ap length es, length-map ps pair_encoding), ArePairsValid-from _ row (subst (AllByRecursion (IsValidPair order)) (sym (items_hidden-the_row-Pair-1 ps)) h), subst (Ascend order) (sym (ap (map key_of) es ∙ key_texts ps)) a)

  pub Tag_valid : (n : ℕ) (x : Item) → n < 2 ^ 64 → IsValid order x → IsValid order (Tag n x)
  unfolding IsValid AreValid hidden-the_row-Item-2 hidden
  Tag_valid n x lt h = (lt, (h, tt))

pub ruleset layers = (
  encoding-Uint,
  encoding-Nint,
  encoding-Bytes,
  encoding-Text,
  encoding-Simple,
  encoding-Array,
  encoding-Map,
  encoding-Tag,
  depth-Uint,
  depth-Nint,
  depth-Bytes,
  depth-Text,
  depth-Simple,
  depth-Array,
  depth-Map,
  depth-Tag,
)

-- ---- induction over lists

pub record Cases (P : Item → Type 0) : Type 0 where
  pub uint : (n : ℕ) → P (Uint n)
  pub nint : (n : ℕ) → P (Nint n)
  pub bytes : (bs : List ℕ) → P (Bytes bs)
  pub text : (bs : List ℕ) → P (Text bs)
  pub array : (xs : List Item) → AllByRecursion P xs → P (Array xs)
  pub pairs : (ps : List Pair) → AllByRecursion (λ p. P p.key × P p.value) ps → P (Map ps)
  pub tag : (n : ℕ) (x : Item) → P x → P (Tag n x)
  pub simple : (n : ℕ) → P (Simple n)

one-row : (P : Item → Type 0) (s : Unit {0}) (r : Row_of-Item 1) → AllByRecursion P (items-the_row-Item 1 r) → P (shown-the_row-Item-2 s r)
unfolding shown-the_row-Item-2 shown
one-row P s r h = h.0

mutual
  pub item_ind : (P : Item → Type 0) → Cases P → (i : Item) → P i
  item_ind P c (Uint n) = c.uint n
  item_ind P c (Nint n) = c.nint n
  item_ind P c (Bytes bs) = c.bytes bs
  item_ind P c (Text bs) = c.text bs
  item_ind P c (Array' s r) = subst P (sym (Array-row s r)) (c.array _ (items_ind P c _ r))
  item_ind P c (Map' s r) = subst P (sym (Map-row s r)) (c.pairs _ (pairs_ind P c _ r))
  item_ind P c (Tag' n s r) = subst P (sym (Tag-row n s r)) (c.tag n _ (one-row P s r (items_ind P c _ r)))
  item_ind P c (Simple n) = c.simple n

  pub items_ind : (P : Item → Type 0) → Cases P → (n : Count) (r : Row_of-Item n) → AllByRecursion P (items-the_row-Item n r)
  items_ind P c n end_of-Item = tt
  items_ind P c n (more_of-Item i rest) = (item_ind P c i, items_ind P c _ rest)

  pub pairs_ind : (P : Item → Type 0) → Cases P → (n : Count) (r : Row_of-Pair n) → AllByRecursion (λ p. P p.key × P p.value) (items-the_row-Pair n r)
  pairs_ind P c n end_of-Pair = tt
  pairs_ind P c n (more_of-Pair k v rest) = ((item_ind P c k, item_ind P c v), pairs_ind P c _ rest)
