-- Encodings of items, and of what they are made of.
use Rattle.std.proofs.Common.{◌≡◌, ℕ, ◌+◌, ◌≤◌, inl, inr, List, [], ◌∷◌, ◌++◌, length, map, ap, subst, arith, length-append}
use Rattle.std.proofs.lemmas.Bool.Decides.{nat_tests}
use Rattle.std.specs.List.{AllByRecursion}
use Rattle.ecd_head.specs.Head.{head_bytes}
use Rattle.ecd_item_laws.specs.declared.item.Item.{Item, Array', Map', Tag'}
use Rattle.ecd_item_laws.specs.declared.item.Item.TheVariants as i
use Rattle.ecd_item_laws.specs.declared.item.Pair.{Pair}
use Rattle.ecd_item_laws.specs.Encoding.{encoding, encodings, pair_encodings, pair_bytes, joined, both}
use Rattle.ecd_item_laws.proofs.Layers as layers
use Rattle.ecd_core.specs.Lists.{IsIn}

head_some : (major n : ℕ) → 1 ≤ length (head_bytes major n)
unfolding head_bytes
head_some major n = grind (arith, nat_tests)

-- no encoding is empty
pub some_bytes : (x : Item) → 1 ≤ length (encoding x)
unfolding encoding
some_bytes (i.Uint n) = head_some 0 n
some_bytes (i.Nint n) = head_some 1 n
some_bytes (i.Bytes bytes) = omega (arith, head_some 2 (length bytes), length-append (head_bytes 2 (length bytes)) bytes)
some_bytes (i.Text bytes) = omega (arith, head_some 3 (length bytes), length-append (head_bytes 3 (length bytes)) bytes)
some_bytes (Array' _ items) = omega (arith, head_some 4 (length (encodings items)), length-append (head_bytes 4 (length (encodings items))) (joined (encodings items)))
some_bytes (Map' _ pairs) = omega (arith, head_some 5 (length (pair_encodings pairs)), length-append (head_bytes 5 (length (pair_encodings pairs))) (joined (map both (pair_encodings pairs))))
some_bytes (Tag' n _ inner) = omega (arith, head_some 6 n, length-append (head_bytes 6 n) (joined (encodings inner)))
some_bytes (i.Simple n) = head_some 7 n

-- how many bytes items have, one after another
abbrev pub sizes : List Item → ℕ
sizes items = length (joined (map encoding items))

abbrev pub pair_sizes : List Pair → ℕ
pair_sizes pairs = length (joined (map pair_bytes pairs))

pub sizes_first : (x : Item) (xs : List Item) → sizes (x ∷ xs) ≡ length (encoding x) + sizes xs
sizes_first x xs = length-append (encoding x) (joined (map encoding xs))

pub sizes_both : (xs ys : List Item) → sizes (xs ++ ys) ≡ sizes xs + sizes ys
sizes_both [] ys = omega arith
sizes_both (x ∷ xs) ys = omega (arith, sizes_first x (xs ++ ys), sizes_first x xs, sizes_both xs ys)

pub no_more_items : (xs : List Item) → length xs ≤ sizes xs
no_more_items [] = omega arith
no_more_items (x ∷ xs) = omega (arith, sizes_first x xs, some_bytes x, no_more_items xs)

pair_sizes_first : (p : Pair) (ps : List Pair) → pair_sizes (p ∷ ps) ≡ (length (encoding p.key) + length (encoding p.value)) + pair_sizes ps
pair_sizes_first p ps = omega (arith, length-append (pair_bytes p) (joined (map pair_bytes ps)), length-append (encoding p.key) (encoding p.value))

pub no_more_pairs : (ps : List Pair) → length ps ≤ pair_sizes ps
no_more_pairs [] = omega arith
no_more_pairs (p ∷ ps) = omega (arith, pair_sizes_first p ps, some_bytes p.key, no_more_pairs ps)

pub value_inside : (ps : List Pair) (p : Pair) → IsIn p ps → length (encoding p.value) ≤ pair_sizes ps
value_inside [] p h = absurd h
value_inside (q ∷ ps) p (inl e) = subst (λ (x : Pair). length (encoding x.value) ≤ pair_sizes (q ∷ ps)) e (omega (arith, pair_sizes_first q ps))
value_inside (q ∷ ps) p (inr h) = omega (arith, pair_sizes_first q ps, value_inside ps p h)

-- ---- what is inside a short item

pub bytes_size : (bytes : List ℕ) → length bytes ≤ length (encoding (i.Bytes bytes))
unfolding encoding
bytes_size bytes = omega (arith, length-append (head_bytes 2 (length bytes)) bytes)

pub text_size : (bytes : List ℕ) → length bytes ≤ length (encoding (i.Text bytes))
unfolding encoding
text_size bytes = omega (arith, length-append (head_bytes 3 (length bytes)) bytes)

pub tag_size : (n : ℕ) (x : Item) → length (encoding x) ≤ length (encoding (i.Tag n x))
tag_size n x = let e = ap (λ (l : List ℕ). length l) (layers.encoding-Tag n x) in omega (arith, e, length-append (head_bytes 6 n) (encoding x))

pub array_size : (xs : List Item) → sizes xs ≤ length (encoding (i.Array xs))
array_size xs = let e = ap (λ (l : List ℕ). length l) (layers.encoding-Array xs) in omega (arith, e, length-append (head_bytes 4 (length xs)) (joined (map encoding xs)))

pub map_size : (ps : List Pair) → pair_sizes ps ≤ length (encoding (i.Map ps))
map_size ps = let e = ap (λ (l : List ℕ). length l) (layers.encoding-Map ps) in omega (arith, e, length-append (head_bytes 5 (length ps)) (joined (map pair_bytes ps)))

pub all_both : (P : Item → Type 0) (xs ys : List Item) → AllByRecursion P xs → AllByRecursion P ys → AllByRecursion P (xs ++ ys)
all_both P [] ys h g = g
all_both P (x ∷ xs) ys h g = (h.0, all_both P xs ys h.1 g)
