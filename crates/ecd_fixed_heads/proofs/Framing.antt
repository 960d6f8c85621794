-- Framed items by cases, at lists.
use Rattle.std.proofs.Common.{◌≡◌, ℕ, ◌<◌, ◌^◌, inl, inr, List, [], ◌∷◌, length, ap, sym, ◌∙◌, subst, arith}
use Rattle.std.specs.List.{AllByRecursion}
use Rattle.std.proofs.lemmas.List.{length-map}
use mathlib.Core.Former.{Count}
use denote.Hole.Carrier.{hidden}
use Rattle.ecd_keyorder.specs.declared.Order.{Order}
use Rattle.ecd_head.specs.Head.{IsWritable}
use Rattle.ecd_item_laws.specs.declared.item.Item.{Item, Row_of-Item, end_of-Item, more_of-Item, Row_of-Pair, end_of-Pair, more_of-Pair, items-the_row-Item, items-the_row-Pair}
use Rattle.ecd_item_laws.specs.declared.item.Item.TheBlock.{hidden-the_row-Item-0, hidden-the_row-Pair-1, hidden-the_row-Item-2, items_hidden-the_row-Item-0, items_hidden-the_row-Pair-1}
use Rattle.ecd_item_laws.specs.declared.item.Item.TheVariants.{Uint, Nint, Bytes, Text, Array, Map, Tag, Simple}
use Rattle.ecd_item_laws.specs.declared.item.Pair.{Pair}
use Rattle.ecd_item_laws.specs.Encoding.{encoding, encodings, pair_encodings}
use Rattle.ecd_item_laws.specs.Valid.{IsValid, IsValidPair}
use Rattle.ecd_item_laws.proofs.Layers.{encodings-list, pair_encoding, pairs-list, valid_Array, valid_Map, valid_Tag, item_ind}
use Rattle.ecd_fixed_heads.specs.Framed.{IsFramed, AreFramed, ArePairsFramed}

abbrev pub IsFramedPair : Pair → Type 0
IsFramedPair pair = IsFramed pair.key × IsFramed pair.value

-- ---- rows and lists

AreFramed-row : (n : Count) (row : Row_of-Item n) → AreFramed row → AllByRecursion IsFramed (items-the_row-Item n row)
unfolding AreFramed
AreFramed-row n end_of-Item h = tt
AreFramed-row n (more_of-Item i rest) h = (h.0, AreFramed-row _ rest h.1)

AreFramed-from : (n : Count) (row : Row_of-Item n) → AllByRecursion IsFramed (items-the_row-Item n row) → AreFramed row
unfolding AreFramed
AreFramed-from n end_of-Item h = tt
AreFramed-from n (more_of-Item i rest) h = (h.0, AreFramed-from _ rest h.1)

ArePairsFramed-row : (n : Count) (row : Row_of-Pair n) → ArePairsFramed row → AllByRecursion IsFramedPair (items-the_row-Pair n row)
unfolding ArePairsFramed
ArePairsFramed-row n end_of-Pair h = tt
ArePairsFramed-row n (more_of-Pair k v rest) h = ((h.0, h.1), ArePairsFramed-row _ rest h.2)

ArePairsFramed-from : (n : Count) (row : Row_of-Pair n) → AllByRecursion IsFramedPair (items-the_row-Pair n row) → ArePairsFramed row
unfolding ArePairsFramed
ArePairsFramed-from n end_of-Pair h = tt
ArePairsFramed-from n (more_of-Pair k v rest) h = (h.0.0, h.0.1, ArePairsFramed-from _ rest h.1)

-- ---- what makes an item framed

pub Uint_framed : (n : ℕ) → IsWritable 0 n → IsFramed (Uint n)
unfolding IsFramed
Uint_framed n w = w

pub Nint_framed : (n : ℕ) → IsWritable 1 n → IsFramed (Nint n)
unfolding IsFramed
Nint_framed n w = w

pub Bytes_framed : (bs : List ℕ) → IsWritable 2 (length bs) → IsFramed (Bytes bs)
unfolding IsFramed
Bytes_framed bs w = w

pub Text_framed : (bs : List ℕ) → IsWritable 3 (length bs) → IsFramed (Text bs)
unfolding IsFramed
Text_framed bs w = w

pub Simple_framed : (n : ℕ) → IsWritable 7 n → IsFramed (Simple n)
unfolding IsFramed
Simple_framed n w = w

row_length : (xs : List Item) → length (encodings (hidden-the_row-Item-0 xs)) ≡ length xs
row_length xs = ap length (encodings-list xs) ∙ length-map xs encoding

pairs_length : (ps : List Pair) → length (pair_encodings (hidden-the_row-Pair-1 ps)) ≡ length ps
pairs_length ps = ap length (pairs-list ps) ∙ length-map ps pair_encoding

pub Array_framed : (xs : List Item) → IsWritable 4 (length xs) → AllByRecursion IsFramed xs → IsFramed (Array xs)
unfolding IsFramed
Array_framed xs w h =
    let all : AllByRecursion IsFramed (items-the_row-Item _ (hidden-the_row-Item-0 xs)) = subst (AllByRecursion IsFramed) (sym (items_hidden-the_row-Item-0 xs)) h in
    (subst (IsWritable 4) (sym (row_length xs)) w, AreFramed-from _ (hidden-the_row-Item-0 xs) all)

pub Map_framed : (ps : List Pair) → IsWritable 5 (length ps) → AllByRecursion IsFramedPair ps → IsFramed (Map ps)
unfolding IsFramed
Map_framed ps w h =
    let all : AllByRecursion IsFramedPair (items-the_row-Pair _ (hidden-the_row-Pair-1 ps)) = subst (AllByRecursion IsFramedPair) (sym (items_hidden-the_row-Pair-1 ps)) h in
    (subst (IsWritable 5) (sym (pairs_length ps)) w, ArePairsFramed-from _ (hidden-the_row-Pair-1 ps) all)

pub Tag_framed : (n : ℕ) (x : Item) → IsWritable 6 n → IsFramed x → IsFramed (Tag n x)
unfolding IsFramed AreFramed hidden-the_row-Item-2 hidden
Tag_framed n x w h = (w, (h, tt))

-- ---- what a framed item is made of

pub framed_Uint : (n : ℕ) → IsFramed (Uint n) → IsWritable 0 n
unfolding IsFramed
framed_Uint n h = h

pub framed_Nint : (n : ℕ) → IsFramed (Nint n) → IsWritable 1 n
unfolding IsFramed
framed_Nint n h = h

pub framed_Bytes : (bs : List ℕ) → IsFramed (Bytes bs) → IsWritable 2 (length bs)
unfolding IsFramed
framed_Bytes bs h = h

pub framed_Text : (bs : List ℕ) → IsFramed (Text bs) → IsWritable 3 (length bs)
unfolding IsFramed
framed_Text bs h = h

pub framed_Simple : (n : ℕ) → IsFramed (Simple n) → IsWritable 7 n
unfolding IsFramed
framed_Simple n h = h

pub framed_Array : (xs : List Item) → IsFramed (Array xs) → IsWritable 4 (length xs) × AllByRecursion IsFramed xs
unfolding IsFramed
framed_Array xs h = (subst (IsWritable 4) (row_length xs) h.0, subst (AllByRecursion IsFramed) (items_hidden-the_row-Item-0 xs) (AreFramed-row _ (hidden-the_row-Item-0 xs) h.1))

pub framed_Map : (ps : List Pair) → IsFramed (Map ps) → IsWritable 5 (length ps) × AllByRecursion IsFramedPair ps
unfolding IsFramed
framed_Map ps h = (subst (IsWritable 5) (pairs_length ps) h.0, subst (AllByRecursion IsFramedPair) (items_hidden-the_row-Pair-1 ps) (ArePairsFramed-row _ (hidden-the_row-Pair-1 ps) h.1))

pub framed_Tag : (n : ℕ) (x : Item) → IsFramed (Tag n x) → IsWritable 6 n × IsFramed x
unfolding IsFramed AreFramed hidden-the_row-Item-2 hidden
framed_Tag n x h = (h.0, h.1.0)

-- ---- valid items are framed

atom : (m n : ℕ) → m < 7 → n < 2 ^ 64 → IsWritable m n
atom m n lt fits = record { known = omega arith; fits = fits; simple = λ e. absurd (omega arith) }

module _ (order : Order) where
  abbrev P : Item → Type 0
  P i = IsValid order i → IsFramed i

  all_framed : (xs : List Item) → AllByRecursion P xs → AllByRecursion (IsValid order) xs → AllByRecursion IsFramed xs
  all_framed [] all v = tt
  all_framed (x ∷ xs) all v = (all.0 v.0, all_framed xs all.1 v.1)

  pairs_framed : (ps : List Pair) → AllByRecursion (λ p. P p.key × P p.value) ps → AllByRecursion (IsValidPair order) ps → AllByRecursion IsFramedPair ps
  pairs_framed [] all v = tt
  pairs_framed (p ∷ ps) all v = ((all.0.0 v.0.0, all.0.1 v.0.1), pairs_framed ps all.1 v.1)

  uint_case : (n : ℕ) → P (Uint n)
  unfolding IsValid
  uint_case n v = Uint_framed n (atom 0 n (omega arith) v)

  nint_case : (n : ℕ) → P (Nint n)
  unfolding IsValid
  nint_case n v = Nint_framed n (atom 1 n (omega arith) v)

  bytes_case : (bs : List ℕ) → P (Bytes bs)
  unfolding IsValid
  bytes_case bs v = Bytes_framed bs (atom 2 (length bs) (omega arith) v)

  text_case : (bs : List ℕ) → P (Text bs)
  unfolding IsValid
  text_case bs v = Text_framed bs (atom 3 (length bs) (omega arith) v.0)

  simple_case : (n : ℕ) → P (Simple n)
  unfolding IsValid
  simple_case n v = Simple_framed n (record { known = omega arith; fits = elim v [ inl h ↦ omega arith | inr h ↦ omega arith ]; simple = λ e. v })

  array_case : (xs : List Item) → AllByRecursion P xs → P (Array xs)
  array_case xs all v = let is = valid_Array order xs v in Array_framed xs (atom 4 (length xs) (omega arith) is.0) (all_framed xs all is.1)

  map_case : (ps : List Pair) → AllByRecursion (λ p. P p.key × P p.value) ps → P (Map ps)
  map_case ps all v = let is = valid_Map order ps v in Map_framed ps (atom 5 (length ps) (omega arith) is.0) (pairs_framed ps all is.1)

  tag_case : (n : ℕ) (x : Item) → P x → P (Tag n x)
  tag_case n x all v = let is = valid_Tag order n x v in Tag_framed n x (atom 6 n (omega arith) is.0) (all is.1)

  pub valid_framed : (i : Item) → IsValid order i → IsFramed i
  valid_framed = item_ind P (record { uint = uint_case; nint = nint_case; bytes = bytes_case; text = text_case; array = array_case; pairs = map_case; tag = tag_case; simple = simple_case })
