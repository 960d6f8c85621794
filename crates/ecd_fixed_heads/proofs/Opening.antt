-- A framed item is a head, the bytes of a string and the items inside it, and these make one.
use Rattle.std.proofs.Common.{◌≡◌, ℕ, zero, suc, ◌+◌, List, [], ◌∷◌, ◌++◌, length, map, refl, ap, sym, ◌∙◌, subst, arith, append_assoc, append-nil}
use Rattle.std.specs.List.{AllByRecursion}
use Rattle.ecd_head.specs.declared.Head.{Head}
use Rattle.ecd_head.specs.Head.{IsWritable, head_bytes}
use Rattle.ecd_item_laws.specs.declared.item.Item.{Item}
use Rattle.ecd_item_laws.specs.declared.item.Item.TheVariants.{Uint, Nint, Bytes, Text, Array, Map, Tag, Simple}
use Rattle.ecd_item_laws.specs.declared.item.Pair.{Pair}
use Rattle.ecd_item_laws.specs.Encoding.{encoding, joined, pair_bytes}
use Rattle.ecd_item_laws.specs.Parts.{head_from}
use Rattle.ecd_item_laws.proofs.Layers.{encoding-Uint, encoding-Nint, encoding-Bytes, encoding-Text, encoding-Simple, encoding-Array, encoding-Map, encoding-Tag, item_ind}
use Rattle.ecd_fixed_heads.specs.Framed.{IsFramed}
use Rattle.ecd_fixed_heads.specs.Extents.{string_behind, inside}
use Rattle.ecd_fixed_heads.proofs.Framing.{IsFramedPair, framed_Uint, framed_Nint, framed_Bytes, framed_Text, framed_Simple, framed_Array, framed_Map, framed_Tag, Uint_framed, Nint_framed, Bytes_framed, Text_framed, Simple_framed, Array_framed, Map_framed, Tag_framed}

-- ---- the keys and values of a map, in turn

abbrev pub flat : List Pair → List Item
flat [] = []
flat (p ∷ ps) = p.key ∷ p.value ∷ flat ps

flat_texts : (ps : List Pair) → joined (map pair_bytes ps) ≡ joined (map encoding (flat ps))
flat_texts [] = refl
flat_texts (p ∷ ps) = append_assoc (encoding p.key) (encoding p.value) (joined (map pair_bytes ps)) ∙ ap (λ (t : List ℕ). encoding p.key ++ (encoding p.value ++ t)) (flat_texts ps)

flat_length : (ps : List Pair) → length (flat ps) ≡ length ps + length ps
flat_length [] = refl
flat_length (p ∷ ps) = omega (arith, flat_length ps)

flat_framed : (ps : List Pair) → AllByRecursion IsFramedPair ps → AllByRecursion IsFramed (flat ps)
flat_framed [] h = tt
flat_framed (p ∷ ps) h = (h.0.0, (h.0.1, flat_framed ps h.1))

framed_flat : (ps : List Pair) → AllByRecursion IsFramed (flat ps) → AllByRecursion IsFramedPair ps
framed_flat [] h = tt
framed_flat (p ∷ ps) h = ((h.0, h.1.0), framed_flat ps h.1.1)

-- twice as many items are the keys and values of so many pairs
pairing : (n : ℕ) (xs : List Item) → length xs ≡ n + n → (ps : List Pair) × (length ps ≡ n) × (flat ps ≡ xs)
pairing zero [] e = ([], refl, refl)
pairing zero (x ∷ xs) e = absurd (omega arith)
pairing (suc n) [] e = absurd (omega arith)
pairing (suc n) (k ∷ []) e = absurd (omega arith)
pairing (suc n) (k ∷ v ∷ rest) e =
    let p = pairing n rest (omega arith) in
    (record { key = k; value = v } ∷ p.0, ap suc p.1, ap (λ (xs : List Item). k ∷ v ∷ xs) p.2)

-- ---- what a framed item is made of

pub record Opened (i : Item) : Type 0 where
  pub head : Head
  pub string : List ℕ
  pub within : List Item
  pub writable : IsWritable head.major head.arg
  pub whole : encoding i ≡ head_bytes head.major head.arg ++ (string ++ joined (map encoding within))
  pub long : length string ≡ string_behind head
  pub count : length within ≡ inside head
  pub framed : AllByRecursion IsFramed within

abbrev Opens : Item → Type 0
Opens i = IsFramed i → Opened i

opened_atom : (i : Item) (m a : ℕ) → IsWritable m a → encoding i ≡ head_bytes m a → string_behind (head_from m a) ≡ 0 → inside (head_from m a) ≡ 0 → Opened i
opened_atom i m a w e s n = record { head = head_from m a; string = []; within = []; writable = w; whole = e ∙ sym (append-nil (head_bytes m a)); long = sym s; count = sym n; framed = tt }

opened_string : (i : Item) (m : ℕ) (bs : List ℕ) → IsWritable m (length bs) → encoding i ≡ head_bytes m (length bs) ++ bs → string_behind (head_from m (length bs)) ≡ length bs → inside (head_from m (length bs)) ≡ 0 → Opened i
opened_string i m bs w e s n = record {
  head = head_from m (length bs);
  string = bs;
  within = [];
  writable = w;
  whole = e ∙ ap (λ (t : List ℕ). head_bytes m (length bs) ++ t) (sym (append-nil bs));
  long = sym s;
  count = sym n;
  framed = tt;
}

uint_opens : (n : ℕ) → Opens (Uint n)
uint_opens n h = opened_atom (Uint n) 0 n (framed_Uint n h) (encoding-Uint n) refl refl

nint_opens : (n : ℕ) → Opens (Nint n)
nint_opens n h = opened_atom (Nint n) 1 n (framed_Nint n h) (encoding-Nint n) refl refl

bytes_opens : (bs : List ℕ) → Opens (Bytes bs)
bytes_opens bs h = opened_string (Bytes bs) 2 bs (framed_Bytes bs h) (encoding-Bytes bs) refl refl

text_opens : (bs : List ℕ) → Opens (Text bs)
text_opens bs h = opened_string (Text bs) 3 bs (framed_Text bs h) (encoding-Text bs) refl refl

simple_opens : (n : ℕ) → Opens (Simple n)
simple_opens n h = opened_atom (Simple n) 7 n (framed_Simple n h) (encoding-Simple n) refl refl

array_opens : (xs : List Item) → Opens (Array xs)
array_opens xs h =
    let is = framed_Array xs h in
    record { head = head_from 4 (length xs); string = []; within = xs; writable = is.0; whole = encoding-Array xs; long = refl; count = refl; framed = is.1 }

map_opens : (ps : List Pair) → Opens (Map ps)
map_opens ps h =
    let is = framed_Map ps h in
    record {
      head = head_from 5 (length ps);
      string = [];
      within = flat ps;
      writable = is.0;
      whole = encoding-Map ps ∙ ap (λ (t : List ℕ). head_bytes 5 (length ps) ++ t) (flat_texts ps);
      long = refl;
      count = flat_length ps;
      framed = flat_framed ps is.1;
    }

tag_opens : (n : ℕ) (x : Item) → Opens (Tag n x)
tag_opens n x h =
    let is = framed_Tag n x h in
    record {
      head = head_from 6 n;
      string = [];
      within = x ∷ [];
      writable = is.0;
      whole = encoding-Tag n x ∙ ap (λ (t : List ℕ). head_bytes 6 n ++ t) (sym (append-nil (encoding x)));
      long = refl;
      count = refl;
      framed = (is.1, tt);
    }

pub opened : (i : Item) → IsFramed i → Opened i
opened = item_ind Opens (record { uint = uint_opens; nint = nint_opens; bytes = bytes_opens; text = text_opens; array = λ xs all. array_opens xs; pairs = λ ps all. map_opens ps; tag = λ n x all. tag_opens n x; simple = simple_opens })

-- ---- what makes a framed item

pub record Closed (m a : ℕ) (string : List ℕ) (within : List Item) : Type 0 where
  pub item : Item
  pub framed : IsFramed item
  pub whole : encoding item ≡ head_bytes m a ++ (string ++ joined (map encoding within))

abbrev pub Closes : ℕ → Type 0
Closes m = (a : ℕ) (string : List ℕ) (within : List Item) → IsWritable m a → length string ≡ string_behind (head_from m a) → length within ≡ inside (head_from m a) → AllByRecursion IsFramed within → Closed m a string within

closed_atom : (i : Item) (m a : ℕ) (string : List ℕ) (within : List Item) → IsFramed i → encoding i ≡ head_bytes m a → length string ≡ 0 → length within ≡ 0 → Closed m a string within
closed_atom i m a [] [] h e s n = record { item = i; framed = h; whole = e ∙ sym (append-nil (head_bytes m a)) }
closed_atom i m a (b ∷ bs) within h e s n = absurd (omega arith)
closed_atom i m a [] (x ∷ xs) h e s n = absurd (omega arith)

closed_string : (i : Item) (m a : ℕ) (string : List ℕ) (within : List Item) → IsFramed i → encoding i ≡ head_bytes m (length string) ++ string → length string ≡ a → length within ≡ 0 → Closed m a string within
closed_string i m a string [] h e s n = record {
  item = i;
  framed = h;
  whole = e ∙ (ap (λ (k : ℕ). head_bytes m k ++ string) s ∙ ap (λ (t : List ℕ). head_bytes m a ++ t) (sym (append-nil string)));
}
closed_string i m a string (x ∷ xs) h e s n = absurd (omega arith)

uint_closes : Closes 0
uint_closes a string within w s n f = closed_atom (Uint a) 0 a string within (Uint_framed a w) (encoding-Uint a) s n

nint_closes : Closes 1
nint_closes a string within w s n f = closed_atom (Nint a) 1 a string within (Nint_framed a w) (encoding-Nint a) s n

bytes_closes : Closes 2
bytes_closes a string within w s n f = closed_string (Bytes string) 2 a string within (Bytes_framed string (subst (IsWritable 2) (sym s) w)) (encoding-Bytes string) s n

text_closes : Closes 3
text_closes a string within w s n f = closed_string (Text string) 3 a string within (Text_framed string (subst (IsWritable 3) (sym s) w)) (encoding-Text string) s n

array_closes : Closes 4
array_closes a [] within w s n f = record {
  item = Array within;
  framed = Array_framed within (subst (IsWritable 4) (sym n) w) f;
  whole = encoding-Array within ∙ ap (λ (k : ℕ). head_bytes 4 k ++ joined (map encoding within)) n;
}
array_closes a (b ∷ bs) within w s n f = absurd (omega arith)

map_closes : Closes 5
map_closes a [] within w s n f =
    let p = pairing a within n in
    let pairs : List Pair = p.0 in
    let all : AllByRecursion IsFramed (flat pairs) = subst (AllByRecursion IsFramed) (sym p.2) f in
    record {
      item = Map pairs;
      framed = Map_framed pairs (subst (IsWritable 5) (sym p.1) w) (framed_flat pairs all);
      whole = encoding-Map pairs ∙ (ap (λ (k : ℕ). head_bytes 5 k ++ joined (map pair_bytes pairs)) p.1 ∙ ap (λ (t : List ℕ). head_bytes 5 a ++ t) (flat_texts pairs ∙ ap (λ (xs : List Item). joined (map encoding xs)) p.2));
    }
map_closes a (b ∷ bs) within w s n f = absurd (omega arith)

tag_closes : Closes 6
tag_closes a [] (x ∷ []) w s n f = record { item = Tag a x; framed = Tag_framed a x w f.0; whole = encoding-Tag a x ∙ ap (λ (t : List ℕ). head_bytes 6 a ++ t) (sym (append-nil (encoding x))) }
tag_closes a [] [] w s n f = absurd (omega arith)
tag_closes a [] (x ∷ y ∷ ys) w s n f = absurd (omega arith)
tag_closes a (b ∷ bs) within w s n f = absurd (omega arith)

simple_closes : Closes 7
simple_closes a string within w s n f = closed_atom (Simple a) 7 a string within (Simple_framed a w) (encoding-Simple a) s n

pub closes : (m : ℕ) → Closes m
closes zero = uint_closes
closes (suc zero) = nint_closes
closes (suc (suc zero)) = bytes_closes
closes (suc (suc (suc zero))) = text_closes
closes (suc (suc (suc (suc zero)))) = array_closes
closes (suc (suc (suc (suc (suc zero))))) = map_closes
closes (suc (suc (suc (suc (suc (suc zero)))))) = tag_closes
closes (suc (suc (suc (suc (suc (suc (suc zero))))))) = simple_closes
closes (suc (suc (suc (suc (suc (suc (suc (suc k)))))))) = λ a string within w s n f. absurd (let known = w.known in omega arith)
