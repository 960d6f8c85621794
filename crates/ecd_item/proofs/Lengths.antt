-- Lengths of encodings, part by part.
use Rattle.std.proofs.Common.{◌≡◌, ℕ, ◌+◌, ◌<◌, ◌≤◌, List, ◌++◌, length, take, map, get_or, refl, ap, ◌∙◌, arith}
use Rattle.std.proofs.lemmas.Bool.Decides.{nat_tests}
use Rattle.std.proofs.lemmas.List.{length-append, take_more, map_push}
use Rattle.ecd_head.specs.Head.{head_bytes}
use Rattle.ecd_item_laws.specs.declared.item.Item.{Item}
use Rattle.ecd_item_laws.specs.declared.item.Item.TheVariants.{Uint, Nint, Bytes, Text, Array, Map, Tag, Simple}
use Rattle.ecd_item_laws.specs.declared.item.Pair.{Pair}
use Rattle.ecd_item_laws.specs.Encoding.{encoding, encoded_length, pair_bytes, joined}
use Rattle.ecd_item_laws.proofs.Refusing.{joined-last}
use Rattle.ecd_item_laws.proofs.Layers.{encoding-Uint, encoding-Nint, encoding-Bytes, encoding-Text, encoding-Array, encoding-Map, encoding-Tag, encoding-Simple}

pub head_most : (major arg : ℕ) → length (head_bytes major arg) ≤ 9
unfolding head_bytes
head_most major arg = grind (arith, nat_tests)

pub joined-more : {A : Type 0} (text : A → List ℕ) (xs : List A) (i : ℕ) (d : A) → i < length xs → joined (map text (take (i + 1) xs)) ≡ joined (map text (take i xs)) ++ text (get_or xs i d)
joined-more text xs i d lt = ap (λ ys. joined (map text ys)) (take_more xs i d lt) ∙ (ap joined (map_push text (take i xs) (get_or xs i d)) ∙ joined-last (map text (take i xs)) (text (get_or xs i d)))

-- ---- a sum, and one item more

pub uint_more : (it : Item) (n h sum : ℕ) → it ≡ Uint n → h ≡ length (head_bytes 0 n) → sum + h ≡ sum + encoded_length it
uint_more it n h sum is e = rw (is, encoding-Uint n, e) refl

pub nint_more : (it : Item) (n h sum : ℕ) → it ≡ Nint n → h ≡ length (head_bytes 1 n) → sum + h ≡ sum + encoded_length it
nint_more it n h sum is e = rw (is, encoding-Nint n, e) refl

pub simple_more : (it : Item) (n h sum : ℕ) → it ≡ Simple n → h ≡ length (head_bytes 7 n) → sum + h ≡ sum + encoded_length it
simple_more it n h sum is e = rw (is, encoding-Simple n, e) refl

pub bytes_more : (it : Item) (bs s : List ℕ) (sum : ℕ) → it ≡ Bytes bs → s ≡ bs → sum + length (head_bytes 2 (length s) ++ s) ≡ sum + encoded_length it
bytes_more it bs s sum is same = rw (is, encoding-Bytes bs, same) refl

pub text_more : (it : Item) (bs s : List ℕ) (sum : ℕ) → it ≡ Text bs → s ≡ bs → sum + length (head_bytes 3 (length s) ++ s) ≡ sum + encoded_length it
text_more it bs s sum is same = rw (is, encoding-Text bs, same) refl

pub array_more : (it : Item) (xs s : List Item) (h sum : ℕ) → it ≡ Array xs → s ≡ xs → h ≡ length (head_bytes 4 (length xs)) → (sum + h) + length (joined (map encoding s)) ≡ sum + encoded_length it
array_more it xs s h sum is same e = rw (is, encoding-Array xs, same) (omega (arith, e, length-append (head_bytes 4 (length xs)) (joined (map encoding xs))))

pub map_more : (it : Item) (ps s : List Pair) (h sum : ℕ) → it ≡ Map ps → s ≡ ps → h ≡ length (head_bytes 5 (length ps)) → (sum + h) + length (joined (map pair_bytes s)) ≡ sum + encoded_length it
map_more it ps s h sum is same e = rw (is, encoding-Map ps, same) (omega (arith, e, length-append (head_bytes 5 (length ps)) (joined (map pair_bytes ps))))

pub tag_more : (it : Item) (n : ℕ) (x y : Item) (h sum : ℕ) → it ≡ Tag n x → y ≡ x → h ≡ length (head_bytes 6 n) → (sum + h) + encoded_length y ≡ sum + encoded_length it
tag_more it n x y h sum is same e = rw (is, encoding-Tag n x, same) (omega (arith, e, length-append (head_bytes 6 n) (encoding x)))

-- ---- the same of the parts of an array or a map

pub items_more : (xs : List Item) (i : ℕ) (x : Item) (sum : ℕ) → i < length xs → x ≡ get_or xs i x → (sum + length (joined (map encoding (take i xs)))) + encoded_length x ≡ sum + length (joined (map encoding (take (i + 1) xs)))
items_more xs i x sum lt is =
    rw (joined-more encoding xs i x lt, ← is) (omega (arith, length-append (joined (map encoding (take i xs))) (encoding x)))

pub pairs_more : (ps : List Pair) (i : ℕ) (p : Pair) (sum : ℕ) → i < length ps → p ≡ get_or ps i p
    → ((sum + length (joined (map pair_bytes (take i ps)))) + encoded_length p.key) + encoded_length p.value ≡ sum + length (joined (map pair_bytes (take (i + 1) ps)))
pairs_more ps i p sum lt is =
    rw (joined-more pair_bytes ps i p lt, ← is) (omega (arith, length-append (joined (map pair_bytes (take i ps))) (pair_bytes p), length-append (encoding p.key) (encoding p.value)))
