-- The order of two encodings is that of their heads, then of what follows.
use Rattle.std.proofs.Common.{◌≡◌, ℕ, zero, suc, ◌+◌, ◌<◌, ◌≤◌, ◌^◌, ◌⊎◌, true, false, List, [], ◌∷◌, ◌++◌, length, map, take, drop, get_or, Some, None, refl, ap, sym, ◌∙◌, subst, arith, inl, inr, append_assoc}
use Rattle.std.specs.List.{AllByRecursion}
use Rattle.std.specs.Ordering.{nat_cmp, ordering_then, is_ne}
use Rattle.std.specs.Cmp.Lexicographic.{slice_cmp}
use Rattle.std.specs.declared.cmp.Ordering.{Ordering}
use Rattle.std.specs.declared.cmp.Ordering.TheVariants.{Less, Equal, Greater}
use Rattle.std.proofs.lemmas.Map.Lookups.{exact_unsigned, exact_bytes}
use Rattle.std.proofs.lemmas.List.{append-nil, take_all, take_at}
use Rattle.ecd_head.specs.declared.Head.{Head}
use Rattle.ecd_head.specs.Head.{head_bytes, IsWritable}
use Rattle.ecd_head.proofs.Heads.{one_head}
use Rattle.ecd_keyorder.specs.declared.Order.{Order}
use Rattle.ecd_keyorder.specs.declared.Order.TheVariants.{Bytewise}
use Rattle.ecd_keyorder.proofs.Total.{equal_is_same}
use Rattle.ecd_item_laws.specs.declared.item.Item.{Item}
use Rattle.ecd_item_laws.specs.declared.item.Item.TheVariants.{Uint, Nint, Bytes, Text, Array, Map, Tag, Simple}
use Rattle.ecd_item_laws.specs.declared.item.Pair.{Pair}
use Rattle.ecd_item_laws.specs.Encoding.{encoding, pair_bytes, joined}
use Rattle.ecd_item_laws.specs.Valid.{IsValid, IsValidPair}
use Rattle.ecd_item_laws.specs.Parts.{head_of, body_of, string_in, items_in, pairs_in, enclosed_in}
use Rattle.ecd_item.specs.Writing.{Emits}
use Rattle.ecd_item_laws.proofs.Layers.{encoding-Uint, encoding-Nint, encoding-Bytes, encoding-Text, encoding-Simple, encoding-Array, encoding-Map, encoding-Tag, valid_Array, valid_Map, valid_Tag, item_ind}
use Rattle.ecd_item.proofs.Bodies.{head_of-Uint, head_of-Nint, head_of-Bytes, head_of-Text, head_of-Array, head_of-Map, head_of-Tag, head_of-Simple, body_of-Uint, body_of-Nint, body_of-Bytes, body_of-Text, body_of-Array, body_of-Map, body_of-Tag, body_of-Simple, string_in-Bytes, string_in-Text, items_in-Array, pairs_in-Map, enclosed_in-Tag}
use Rattle.ecd_item_laws.proofs.Again.{one_item}
use Rattle.ecd_item.proofs.Emitting.{at_place}
use Rattle.ecd_item.proofs.Lengths.{joined-more}

-- where a begins b or b begins a, they are the same
abbrev pub Apart : List ℕ → List ℕ → Type 0
Apart a b = (u w : List ℕ) → a ++ u ≡ b ++ w → a ≡ b

abbrev pub cmp : List ℕ → List ℕ → Ordering
cmp a b = slice_cmp nat_cmp a b

pub cmp_split : (a b x y : List ℕ) → Apart a b → cmp (a ++ x) (b ++ y) ≡ ordering_then (cmp a b) (cmp x y)
cmp_split [] [] x y h = refl
cmp_split [] (b ∷ bs) x y h = absurd (let e : [] ≡ b ∷ bs = h (b ∷ bs) [] (sym (append-nil (b ∷ bs))) in cc)
cmp_split (a ∷ as') [] x y h = absurd (let e : a ∷ as' ≡ [] = h [] (a ∷ as') (append-nil (a ∷ as')) in cc)
cmp_split (a ∷ as') (b ∷ bs) x y h =
    by_head (nat_cmp a b) (cmp (as' ++ x) (bs ++ y)) (cmp as' bs) (cmp x y)
    (λ e. cmp_split as' bs x y (λ u w g. let both : a ∷ as' ≡ b ∷ bs = h u w (ap (λ (t : List ℕ). a ∷ t) g ∙ ap (λ (n : ℕ). n ∷ (bs ++ w)) (exact_unsigned a b e)) in cc))
  where
    by_head : (o p q r : Ordering) → (o ≡ Equal → p ≡ ordering_then q r) → ordering_then o p ≡ ordering_then (ordering_then o q) r
    by_head Less p q r f = refl
    by_head Equal p q r f = f refl
    by_head Greater p q r f = refl

pub cmp_same : (a : List ℕ) → cmp a a ≡ Equal
cmp_same a = (equal_is_same Bytewise a a).1 refl

pub cmp_behind : (p q x y : List ℕ) → p ≡ q → cmp (p ++ x) (q ++ y) ≡ cmp x y
cmp_behind p q x y e =
    rw (← e) (cmp_split p p x y (λ u w g. refl) ∙ ap (λ (o : Ordering). ordering_then o (cmp x y)) (cmp_same p))

pub differ : (o : Ordering) (p : Ordering) → is_ne o ≡ true → ordering_then o p ≡ o
differ Less p e = refl
differ Equal p e = absurd cc
differ Greater p e = refl

pub not_ne : (o : Ordering) → is_ne o ≡ false → o ≡ Equal
not_ne Less e = absurd cc
not_ne Equal e = refl
not_ne Greater e = absurd cc

-- ---- heads

abbrev pub head_text : Head → List ℕ
head_text h = head_bytes h.major h.arg

abbrev pub CanWrite : Head → Type 0
CanWrite h = IsWritable h.major h.arg

pub heads_apart : (g h : Head) → CanWrite g → CanWrite h → Apart (head_text g) (head_text h)
heads_apart g h p q u w e =
    let s = one_head g.major g.arg h.major h.arg u w p q e in
    rw (s.0, s.1) refl

pub same_head : (g h : Head) → CanWrite g → CanWrite h → head_text g ≡ head_text h → (g.major ≡ h.major) × (g.arg ≡ h.arg)
same_head g h p q e =
    let s = one_head g.major g.arg h.major h.arg [] [] p q (ap (λ (t : List ℕ). t ++ []) e) in
    (s.0, s.1)

pub front_written : (old text new : List ℕ) (end : ℕ) → Emits old 0 text new end → take end new ≡ text
front_written old text new end e = rw e.written.made (take_at text (drop (0 + length text) old) end (omega (arith, e.behind)))

whole_plain : (m : ℕ) (i : Item) → encoding i ≡ head_bytes m (head_of i).arg → (head_of i).major ≡ m → body_of i ≡ [] → encoding i ≡ head_text (head_of i) ++ body_of i
whole_plain m i e h b = rw (b, h, e) (sym (append-nil (head_bytes m (head_of i).arg)))

abbrev Splits : Item → Type 0
Splits i = encoding i ≡ head_text (head_of i) ++ body_of i

pub head_body : (i : Item) → Splits i
head_body = item_ind Splits (record {
  uint = λ n. rw (encoding-Uint n, head_of-Uint n, body_of-Uint n) (sym (append-nil (head_bytes 0 n)));
  nint = λ n. rw (encoding-Nint n, head_of-Nint n, body_of-Nint n) (sym (append-nil (head_bytes 1 n)));
  bytes = λ bs. rw (encoding-Bytes bs, head_of-Bytes bs, body_of-Bytes bs) refl;
  text = λ bs. rw (encoding-Text bs, head_of-Text bs, body_of-Text bs) refl;
  array = λ xs h. rw (encoding-Array xs, head_of-Array xs, body_of-Array xs) refl;
  pairs = λ ps h. rw (encoding-Map ps, head_of-Map ps, body_of-Map ps) refl;
  tag = λ n x h. rw (encoding-Tag n x, head_of-Tag n x, body_of-Tag n x) refl;
  simple = λ n. rw (encoding-Simple n, head_of-Simple n, body_of-Simple n) (sym (append-nil (head_bytes 7 n)));
})

low_head : (m n : ℕ) → m < 7 → n < 2 ^ 64 → IsWritable m n
low_head m n lt fits = record { known = omega arith; fits = fits; simple = λ e. absurd (omega arith) }

module _ (order : Order) where
  abbrev Writes : Item → Type 0
  Writes i = IsValid order i → CanWrite (head_of i)

  pub head_writable : (i : Item) → Writes i
  unfolding IsValid
  head_writable = item_ind Writes (record {
    uint = λ n v. rw (head_of-Uint n) (low_head 0 n (omega arith) v);
    nint = λ n v. rw (head_of-Nint n) (low_head 1 n (omega arith) v);
    bytes = λ bs v. rw (head_of-Bytes bs) (low_head 2 (length bs) (omega arith) v);
    text = λ bs v. rw (head_of-Text bs) (low_head 3 (length bs) (omega arith) v.0);
    array = λ xs h v. rw (head_of-Array xs) (low_head 4 (length xs) (omega arith) (valid_Array order xs v).0);
    pairs = λ ps h v. rw (head_of-Map ps) (low_head 5 (length ps) (omega arith) (valid_Map order ps v).0);
    tag = λ n x h v. rw (head_of-Tag n x) (low_head 6 n (omega arith) (valid_Tag order n x v).0);
    simple = λ n v. rw (head_of-Simple n) (record { known = omega arith; fits = elim v [ inl g ↦ omega arith | inr g ↦ omega arith ]; simple = λ e. v });
  })

  pub items_apart : (i j : Item) → IsValid order i → IsValid order j → Apart (encoding i) (encoding j)
  items_apart i j p q u w e = ap encoding (one_item order i j u w p q e).0

pub writable_as : (order : Order) (i : Item) (h : Head) → h ≡ head_of i → IsValid order i → CanWrite h
writable_as order i h e v = subst CanWrite (sym e) (head_writable order i v)

-- ---- two items

pub record SameHead (a b : Item) : Type 0 where
  pub major : (head_of a).major ≡ (head_of b).major
  pub arg : (head_of a).arg ≡ (head_of b).arg
  pub behind : cmp (encoding a) (encoding b) ≡ cmp (body_of a) (body_of b)

split_items : (order : Order) (a b : Item) → IsValid order a → IsValid order b → cmp (encoding a) (encoding b) ≡ ordering_then (cmp (head_text (head_of a)) (head_text (head_of b))) (cmp (body_of a) (body_of b))
split_items order a b p q =
    rw (head_body a, head_body b) (cmp_split (head_text (head_of a)) (head_text (head_of b)) (body_of a) (body_of b) (heads_apart (head_of a) (head_of b) (head_writable order a p) (head_writable order b q)))

pub heads_differ : (order : Order) (a b : Item) (g h : Head) (o : Ordering) → g ≡ head_of a → h ≡ head_of b → IsValid order a → IsValid order b → o ≡ cmp (head_text g) (head_text h) → is_ne o ≡ true → o ≡ cmp (encoding a) (encoding b)
heads_differ order a b g h o eg eh p q e ne =
    let f : cmp (head_text (head_of a)) (head_text (head_of b)) ≡ o = rw (← eg, ← eh) (sym e) in
    sym (split_items order a b p q ∙ (ap (λ (x : Ordering). ordering_then x (cmp (body_of a) (body_of b))) f ∙ differ o (cmp (body_of a) (body_of b)) ne))

pub heads_same : (order : Order) (a b : Item) (g h : Head) (o : Ordering) → g ≡ head_of a → h ≡ head_of b → IsValid order a → IsValid order b → o ≡ cmp (head_text g) (head_text h) → is_ne o ≡ false → SameHead a b
heads_same order a b g h o eg eh p q e ne =
    let f : cmp (head_text (head_of a)) (head_text (head_of b)) ≡ Equal = rw (← eg, ← eh) (sym e ∙ not_ne o ne) in
    let t : head_text (head_of a) ≡ head_text (head_of b) = exact_bytes (head_text (head_of a)) (head_text (head_of b)) f in
    let s = same_head (head_of a) (head_of b) (head_writable order a p) (head_writable order b q) t in
    record {
      major = s.0;
      arg = s.1;
      behind = split_items order a b p q ∙ ap (λ (x : Ordering). ordering_then x (cmp (body_of a) (body_of b))) f;
    }

-- ---- what an item of a major type has

plain_body : (i : Item) → ((head_of i).major < 2) ⊎ ((head_of i).major ≡ 7) → body_of i ≡ []
unfolding head_of
plain_body = item_ind (λ i. ((head_of i).major < 2) ⊎ ((head_of i).major ≡ 7) → body_of i ≡ []) (record {
  uint = λ n h. body_of-Uint n;
  nint = λ n h. body_of-Nint n;
  bytes = λ bs h. absurd (elim h [ inl l ↦ omega arith | inr e ↦ omega arith ]);
  text = λ bs h. absurd (elim h [ inl l ↦ omega arith | inr e ↦ omega arith ]);
  array = λ xs r h. absurd (elim h [ inl l ↦ omega arith | inr e ↦ omega arith ]);
  pairs = λ ps r h. absurd (elim h [ inl l ↦ omega arith | inr e ↦ omega arith ]);
  tag = λ n x r h. absurd (elim h [ inl l ↦ omega arith | inr e ↦ omega arith ]);
  simple = λ n h. body_of-Simple n;
})

string_body : (i : Item) → ((head_of i).major ≡ 2) ⊎ ((head_of i).major ≡ 3) → body_of i ≡ string_in i
unfolding head_of
string_body = item_ind (λ i. ((head_of i).major ≡ 2) ⊎ ((head_of i).major ≡ 3) → body_of i ≡ string_in i) (record {
  uint = λ n h. absurd (elim h [ inl l ↦ omega arith | inr e ↦ omega arith ]);
  nint = λ n h. absurd (elim h [ inl l ↦ omega arith | inr e ↦ omega arith ]);
  bytes = λ bs h. body_of-Bytes bs ∙ sym (string_in-Bytes bs);
  text = λ bs h. body_of-Text bs ∙ sym (string_in-Text bs);
  array = λ xs r h. absurd (elim h [ inl l ↦ omega arith | inr e ↦ omega arith ]);
  pairs = λ ps r h. absurd (elim h [ inl l ↦ omega arith | inr e ↦ omega arith ]);
  tag = λ n x r h. absurd (elim h [ inl l ↦ omega arith | inr e ↦ omega arith ]);
  simple = λ n h. absurd (elim h [ inl l ↦ omega arith | inr e ↦ omega arith ]);
})

record ArrayParts (i : Item) : Type 0 where
  text : body_of i ≡ joined (map encoding (items_in i))
  count : length (items_in i) ≡ (head_of i).arg
  valid : (order : Order) → IsValid order i → AllByRecursion (IsValid order) (items_in i)

array_parts_of : (xs : List Item) → ArrayParts (Array xs)
array_parts_of xs = record {
  text = body_of-Array xs ∙ ap (λ (ys : List Item). joined (map encoding ys)) (sym (items_in-Array xs));
  count = ap length (items_in-Array xs) ∙ sym (ap (λ (h : Head). h.arg) (head_of-Array xs));
  valid = λ order v. subst (AllByRecursion (IsValid order)) (sym (items_in-Array xs)) (valid_Array order xs v).1;
}

array_parts : (i : Item) → (head_of i).major ≡ 4 → ArrayParts i
unfolding head_of
array_parts = item_ind (λ i. (head_of i).major ≡ 4 → ArrayParts i) (record {
  uint = λ n h. absurd (omega arith);
  nint = λ n h. absurd (omega arith);
  bytes = λ bs h. absurd (omega arith);
  text = λ bs h. absurd (omega arith);
  array = λ xs r h. array_parts_of xs;
  pairs = λ ps r h. absurd (omega arith);
  tag = λ n x r h. absurd (omega arith);
  simple = λ n h. absurd (omega arith);
})

record MapParts (i : Item) : Type 0 where
  text : body_of i ≡ joined (map pair_bytes (pairs_in i))
  count : length (pairs_in i) ≡ (head_of i).arg
  valid : (order : Order) → IsValid order i → AllByRecursion (IsValidPair order) (pairs_in i)

map_parts_of : (ps : List Pair) → MapParts (Map ps)
map_parts_of ps = record {
  text = body_of-Map ps ∙ ap (λ (qs : List Pair). joined (map pair_bytes qs)) (sym (pairs_in-Map ps));
  count = ap length (pairs_in-Map ps) ∙ sym (ap (λ (h : Head). h.arg) (head_of-Map ps));
  valid = λ order v. subst (AllByRecursion (IsValidPair order)) (sym (pairs_in-Map ps)) (valid_Map order ps v).1;
}

map_parts : (i : Item) → (head_of i).major ≡ 5 → MapParts i
unfolding head_of
map_parts = item_ind (λ i. (head_of i).major ≡ 5 → MapParts i) (record {
  uint = λ n h. absurd (omega arith);
  nint = λ n h. absurd (omega arith);
  bytes = λ bs h. absurd (omega arith);
  text = λ bs h. absurd (omega arith);
  array = λ xs r h. absurd (omega arith);
  pairs = λ ps r h. map_parts_of ps;
  tag = λ n x r h. absurd (omega arith);
  simple = λ n h. absurd (omega arith);
})

record TagPart (i : Item) : Type 0 where
  item : Item
  is : enclosed_in i ≡ Some item
  text : body_of i ≡ encoding item
  valid : (order : Order) → IsValid order i → IsValid order item

tag_part : (i : Item) → (head_of i).major ≡ 6 → TagPart i
unfolding head_of
tag_part = item_ind (λ i. (head_of i).major ≡ 6 → TagPart i) (record {
  uint = λ n h. absurd (omega arith);
  nint = λ n h. absurd (omega arith);
  bytes = λ bs h. absurd (omega arith);
  text = λ bs h. absurd (omega arith);
  array = λ xs r h. absurd (omega arith);
  pairs = λ ps r h. absurd (omega arith);
  tag = λ n x r h. record { item = x; is = enclosed_in-Tag n x; text = body_of-Tag n x; valid = λ order v. (valid_Tag order n x v).1 };
  simple = λ n h. absurd (omega arith);
})

-- ---- the arms

major_is : (a b i : Item) (m : ℕ) → a ≡ i → (head_of i).major ≡ m → SameHead a b → ((head_of a).major ≡ m) × ((head_of b).major ≡ m)
major_is a b i m is h s =
    let e : (head_of a).major ≡ m = ap (λ (x : Item). (head_of x).major) is ∙ h in
    (e, sym s.major ∙ e)

plain_arm : (a b i : Item) (m : ℕ) → a ≡ i → (head_of i).major ≡ m → (m < 2) ⊎ (m ≡ 7) → SameHead a b → Equal ≡ cmp (encoding a) (encoding b)
plain_arm a b i m is h which s =
    let e = major_is a b i m is h s in
    let p : body_of a ≡ [] = plain_body a (elim which [ inl l ↦ inl (omega (arith, e.0)) | inr q ↦ inr (e.0 ∙ q) ]) in
    let q : body_of b ≡ [] = plain_body b (elim which [ inl l ↦ inl (omega (arith, e.1)) | inr q ↦ inr (e.1 ∙ q) ]) in
    sym (s.behind ∙ rw (p, q) refl)

pub uint_arm : (a b : Item) (n : ℕ) → a ≡ Uint n → SameHead a b → Equal ≡ cmp (encoding a) (encoding b)
uint_arm a b n is s = plain_arm a b (Uint n) 0 is (ap (λ (h : Head). h.major) (head_of-Uint n)) (inl (omega arith)) s

pub nint_arm : (a b : Item) (n : ℕ) → a ≡ Nint n → SameHead a b → Equal ≡ cmp (encoding a) (encoding b)
nint_arm a b n is s = plain_arm a b (Nint n) 1 is (ap (λ (h : Head). h.major) (head_of-Nint n)) (inl (omega arith)) s

pub simple_arm : (a b : Item) (n : ℕ) → a ≡ Simple n → SameHead a b → Equal ≡ cmp (encoding a) (encoding b)
simple_arm a b n is s = plain_arm a b (Simple n) 7 is (ap (λ (h : Head). h.major) (head_of-Simple n)) (inr refl) s

string_arm : (a b i : Item) (m : ℕ) (bs s t : List ℕ) (o : Ordering) → a ≡ i → (head_of i).major ≡ m → (m ≡ 2) ⊎ (m ≡ 3) → string_in i ≡ bs → s ≡ bs → t ≡ string_in b → o ≡ cmp s t → SameHead a b → o ≡ cmp (encoding a) (encoding b)
string_arm a b i m bs s t o is h which str se te oe same =
    let e = major_is a b i m is h same in
    let p : body_of a ≡ string_in a = string_body a (elim which [ inl l ↦ inl (e.0 ∙ l) | inr q ↦ inr (e.0 ∙ q) ]) in
    let q : body_of b ≡ string_in b = string_body b (elim which [ inl l ↦ inl (e.1 ∙ l) | inr q ↦ inr (e.1 ∙ q) ]) in
    let r : string_in a ≡ s = ap string_in is ∙ (str ∙ sym se) in
    oe ∙ sym (same.behind ∙ (ap (λ (x : List ℕ). cmp x (body_of b)) (p ∙ r) ∙ ap (cmp s) (q ∙ sym te)))

pub bytes_arm : (a b : Item) (bs s t : List ℕ) (o : Ordering) → a ≡ Bytes bs → s ≡ bs → t ≡ string_in b → o ≡ cmp s t → SameHead a b → o ≡ cmp (encoding a) (encoding b)
bytes_arm a b bs s t o is se te oe same = string_arm a b (Bytes bs) 2 bs s t o is (ap (λ (h : Head). h.major) (head_of-Bytes bs)) (inl refl) (string_in-Bytes bs) se te oe same

pub text_arm : (a b : Item) (bs s t : List ℕ) (o : Ordering) → a ≡ Text bs → s ≡ bs → t ≡ string_in b → o ≡ cmp s t → SameHead a b → o ≡ cmp (encoding a) (encoding b)
text_arm a b bs s t o is se te oe same = string_arm a b (Text bs) 3 bs s t o is (ap (λ (h : Head). h.major) (head_of-Text bs)) (inr refl) (string_in-Text bs) se te oe same

pub array_arm : (a b : Item) (xs s t : List Item) (o : Ordering) → a ≡ Array xs → s ≡ xs → t ≡ items_in b → o ≡ cmp (joined (map encoding s)) (joined (map encoding t)) → SameHead a b → o ≡ cmp (encoding a) (encoding b)
array_arm a b xs s t o is se te oe same =
    let e = major_is a b (Array xs) 4 is (ap (λ (h : Head). h.major) (head_of-Array xs)) same in
    let p : body_of a ≡ joined (map encoding s) = ap body_of is ∙ (body_of-Array xs ∙ ap (λ (ys : List Item). joined (map encoding ys)) (sym se)) in
    let q : body_of b ≡ joined (map encoding t) = (array_parts b e.1).text ∙ ap (λ (ys : List Item). joined (map encoding ys)) (sym te) in
    oe ∙ sym (same.behind ∙ (ap (λ (x : List ℕ). cmp x (body_of b)) p ∙ ap (cmp (joined (map encoding s))) q))

pub array_needs : (order : Order) (a b : Item) (xs s t : List Item) → a ≡ Array xs → s ≡ xs → t ≡ items_in b → IsValid order a → IsValid order b → SameHead a b → (length s ≡ length t) × AllByRecursion (IsValid order) s × AllByRecursion (IsValid order) t
array_needs order a b xs s t is se te va vb same =
    let e = major_is a b (Array xs) 4 is (ap (λ (h : Head). h.major) (head_of-Array xs)) same in
    let p = array_parts b e.1 in
    let n : length xs ≡ (head_of a).arg = sym (ap (λ (h : Head). h.arg) (ap head_of is ∙ head_of-Array xs)) in
    (ap length se ∙ (n ∙ (same.arg ∙ (sym p.count ∙ sym (ap length te)))), subst (AllByRecursion (IsValid order)) (sym se) (valid_Array order xs (subst (IsValid order) is va)).1, subst (AllByRecursion (IsValid order)) (sym te) (p.valid order vb))

pub map_arm : (a b : Item) (ps s t : List Pair) (o : Ordering) → a ≡ Map ps → s ≡ ps → t ≡ pairs_in b → o ≡ cmp (joined (map pair_bytes s)) (joined (map pair_bytes t)) → SameHead a b → o ≡ cmp (encoding a) (encoding b)
map_arm a b ps s t o is se te oe same =
    let e = major_is a b (Map ps) 5 is (ap (λ (h : Head). h.major) (head_of-Map ps)) same in
    let p : body_of a ≡ joined (map pair_bytes s) = ap body_of is ∙ (body_of-Map ps ∙ ap (λ (qs : List Pair). joined (map pair_bytes qs)) (sym se)) in
    let q : body_of b ≡ joined (map pair_bytes t) = (map_parts b e.1).text ∙ ap (λ (qs : List Pair). joined (map pair_bytes qs)) (sym te) in
    oe ∙ sym (same.behind ∙ (ap (λ (x : List ℕ). cmp x (body_of b)) p ∙ ap (cmp (joined (map pair_bytes s))) q))

pub map_needs : (order : Order) (a b : Item) (ps s t : List Pair) → a ≡ Map ps → s ≡ ps → t ≡ pairs_in b → IsValid order a → IsValid order b → SameHead a b → (length s ≡ length t) × AllByRecursion (IsValidPair order) s × AllByRecursion (IsValidPair order) t
map_needs order a b ps s t is se te va vb same =
    let e = major_is a b (Map ps) 5 is (ap (λ (h : Head). h.major) (head_of-Map ps)) same in
    let p = map_parts b e.1 in
    let n : length ps ≡ (head_of a).arg = sym (ap (λ (h : Head). h.arg) (ap head_of is ∙ head_of-Map ps)) in
    (ap length se ∙ (n ∙ (same.arg ∙ (sym p.count ∙ sym (ap length te)))), subst (AllByRecursion (IsValidPair order)) (sym se) (valid_Map order ps (subst (IsValid order) is va)).1, subst (AllByRecursion (IsValidPair order)) (sym te) (p.valid order vb))

some_is : (x y : Item) → Some x ≡ Some y → x ≡ y
some_is x y e = cc

pub tag_arm : (a b : Item) (n : ℕ) (x g y : Item) (o : Ordering) → a ≡ Tag n x → g ≡ x → Some y ≡ enclosed_in b → o ≡ cmp (encoding g) (encoding y) → SameHead a b → o ≡ cmp (encoding a) (encoding b)
tag_arm a b n x g y o is ge ye oe same =
    let e = major_is a b (Tag n x) 6 is (ap (λ (h : Head). h.major) (head_of-Tag n x)) same in
    let t = tag_part b e.1 in
    let p : body_of a ≡ encoding g = ap body_of is ∙ (body_of-Tag n x ∙ ap encoding (sym ge)) in
    let q : body_of b ≡ encoding y = t.text ∙ ap encoding (sym (some_is y t.item (ye ∙ t.is))) in
    oe ∙ sym (same.behind ∙ (ap (λ (z : List ℕ). cmp z (body_of b)) p ∙ ap (cmp (encoding g)) q))

pub tag_needs : (order : Order) (a b : Item) (n : ℕ) (x g y : Item) → a ≡ Tag n x → g ≡ x → Some y ≡ enclosed_in b → IsValid order a → IsValid order b → SameHead a b → IsValid order g × IsValid order y
tag_needs order a b n x g y is ge ye va vb same =
    let e = major_is a b (Tag n x) 6 is (ap (λ (h : Head). h.major) (head_of-Tag n x)) same in
    let t = tag_part b e.1 in
    (subst (IsValid order) (sym ge) (valid_Tag order n x (subst (IsValid order) is va)).1, subst (IsValid order) (sym (some_is y t.item (ye ∙ t.is))) (t.valid order vb))

pub tag_none : {A : Type 0} (a b : Item) (n : ℕ) (x : Item) → a ≡ Tag n x → None ≡ enclosed_in b → SameHead a b → A
tag_none a b n x is ye same =
    let e = major_is a b (Tag n x) 6 is (ap (λ (h : Head). h.major) (head_of-Tag n x)) same in
    let t = tag_part b e.1 in
    let f : None ≡ Some t.item = ye ∙ t.is in absurd cc

-- ---- lists

module _ {A : Type 0} where
  joined-split : (text : A → List ℕ) (xs : List A) (i : ℕ) (d : A) → i < length xs → joined (map text xs) ≡ joined (map text (take i xs)) ++ (text (get_or xs i d) ++ joined (map text (drop (suc i) xs)))
  joined-split text [] i d lt = absurd (omega arith)
  joined-split text (x ∷ xs) zero d lt = refl
  joined-split text (x ∷ xs) (suc i) d lt = ap (λ (t : List ℕ). text x ++ t) (joined-split text xs i d (omega arith)) ∙ sym (append_assoc (text x) (joined (map text (take i xs))) (text (get_or xs i d) ++ joined (map text (drop (suc i) xs))))

  pub differ_at : (text : A → List ℕ) (xs ys : List A) (i : ℕ) (x y : A) (o : Ordering) → i < length xs → length xs ≡ length ys → x ≡ get_or xs i x → y ≡ get_or ys i y → Apart (text x) (text y)
      → joined (map text (take i xs)) ≡ joined (map text (take i ys)) → cmp (text x) (text y) ≡ o → is_ne o ≡ true → o ≡ cmp (joined (map text xs)) (joined (map text ys))
  differ_at text xs ys i x y o lt len xe ye apart front oe ne =
      let p : joined (map text xs) ≡ joined (map text (take i xs)) ++ (text x ++ joined (map text (drop (suc i) xs))) = joined-split text xs i x lt ∙ ap (λ z. joined (map text (take i xs)) ++ (text z ++ joined (map text (drop (suc i) xs)))) (sym xe) in
      let q : joined (map text ys) ≡ joined (map text (take i ys)) ++ (text y ++ joined (map text (drop (suc i) ys))) = joined-split text ys i y (omega arith) ∙ ap (λ z. joined (map text (take i ys)) ++ (text z ++ joined (map text (drop (suc i) ys)))) (sym ye) in
      sym (ap (λ (t : List ℕ). cmp t (joined (map text ys))) p ∙ (ap (cmp (joined (map text (take i xs)) ++ (text x ++ joined (map text (drop (suc i) xs))))) q
      ∙ (cmp_behind (joined (map text (take i xs))) (joined (map text (take i ys))) (text x ++ joined (map text (drop (suc i) xs))) (text y ++ joined (map text (drop (suc i) ys))) front
      ∙ (cmp_split (text x) (text y) (joined (map text (drop (suc i) xs))) (joined (map text (drop (suc i) ys))) apart
      ∙ (ap (λ (r : Ordering). ordering_then r (cmp (joined (map text (drop (suc i) xs))) (joined (map text (drop (suc i) ys))))) oe ∙ differ o (cmp (joined (map text (drop (suc i) xs))) (joined (map text (drop (suc i) ys)))) ne)))))

  pub same_at : (text : A → List ℕ) (xs ys : List A) (i : ℕ) (x y : A) → i < length xs → length xs ≡ length ys → x ≡ get_or xs i x → y ≡ get_or ys i y
      → joined (map text (take i xs)) ≡ joined (map text (take i ys)) → cmp (text x) (text y) ≡ Equal → joined (map text (take (i + 1) xs)) ≡ joined (map text (take (i + 1) ys))
  same_at text xs ys i x y lt len xe ye front eq =
      let same : text x ≡ text y = exact_bytes (text x) (text y) eq in
      let p : joined (map text (take (i + 1) xs)) ≡ joined (map text (take i xs)) ++ text x = joined-more text xs i x lt ∙ ap (λ z. joined (map text (take i xs)) ++ text z) (sym xe) in
      let q : joined (map text (take (i + 1) ys)) ≡ joined (map text (take i ys)) ++ text y = joined-more text ys i y (omega arith) ∙ ap (λ z. joined (map text (take i ys)) ++ text z) (sym ye) in
      p ∙ (ap (λ (t : List ℕ). t ++ text x) front ∙ (ap (λ (t : List ℕ). joined (map text (take i ys)) ++ t) same ∙ sym q))

  pub same_all : (text : A → List ℕ) (xs ys : List A) (i : ℕ) → length xs ≤ i → length xs ≡ length ys → joined (map text (take i xs)) ≡ joined (map text (take i ys)) → Equal ≡ cmp (joined (map text xs)) (joined (map text ys))
  same_all text xs ys i le len front =
      let p : joined (map text xs) ≡ joined (map text ys) = ap (λ zs. joined (map text zs)) (sym (take_all i xs le)) ∙ (front ∙ ap (λ zs. joined (map text zs)) (take_all i ys (omega arith))) in
      sym (ap (λ (t : List ℕ). cmp t (joined (map text ys))) p ∙ cmp_same (joined (map text ys)))

  pub valid_at : (P : A → Type 0) (xs : List A) (i : ℕ) (x : A) → i < length xs → x ≡ get_or xs i x → AllByRecursion P xs → P x
  valid_at P xs i x lt xe h = subst P (sym xe) (at_place P xs i x lt h)

pub pairs_apart : (order : Order) (p q : Pair) → IsValidPair order p → IsValidPair order q → Apart (pair_bytes p) (pair_bytes q)
pairs_apart order p q vp vq u w e =
    let whole : encoding p.key ++ (encoding p.value ++ u) ≡ encoding q.key ++ (encoding q.value ++ w) = sym (append_assoc (encoding p.key) (encoding p.value) u) ∙ (e ∙ append_assoc (encoding q.key) (encoding q.value) w) in
    let k = one_item order p.key q.key (encoding p.value ++ u) (encoding q.value ++ w) vp.0 vq.0 whole in
    let v = one_item order p.value q.value u w vp.1 vq.1 k.1 in
    ap (λ (i : Item). encoding i ++ encoding p.value) k.0 ∙ ap (λ (i : Item). encoding q.key ++ encoding i) v.0

pub keys_decide : (order : Order) (p q : Pair) (o : Ordering) → IsValidPair order p → IsValidPair order q → o ≡ cmp (encoding p.key) (encoding q.key) → is_ne o ≡ true → cmp (pair_bytes p) (pair_bytes q) ≡ o
keys_decide order p q o vp vq e ne =
    cmp_split (encoding p.key) (encoding q.key) (encoding p.value) (encoding q.value) (items_apart order p.key q.key vp.0 vq.0)
    ∙ (ap (λ (r : Ordering). ordering_then r (cmp (encoding p.value) (encoding q.value))) (sym e) ∙ differ o (cmp (encoding p.value) (encoding q.value)) ne)

pub values_decide : (p q : Pair) (o r : Ordering) → o ≡ cmp (encoding p.key) (encoding q.key) → is_ne o ≡ false → r ≡ cmp (encoding p.value) (encoding q.value) → cmp (pair_bytes p) (pair_bytes q) ≡ r
values_decide p q o r e ne re =
    cmp_behind (encoding p.key) (encoding q.key) (encoding p.value) (encoding q.value) (exact_bytes (encoding p.key) (encoding q.key) (sym e ∙ not_ne o ne)) ∙ sym re
