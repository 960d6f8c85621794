-- An item's head and what follows it, at lists.
use Rattle.std.proofs.Common.{◌≡◌, ℕ, List, [], length, map, Some, None, refl, ap, ◌∙◌}
use Rattle.std.proofs.lemmas.List.{append-nil}
use denote.Hole.Carrier.{hidden}
use Rattle.ecd_item_laws.specs.declared.item.Item.{Item}
use Rattle.ecd_item_laws.specs.declared.item.Item.TheBlock.{hidden-the_row-Item-2, items_hidden-the_row-Item-0, items_hidden-the_row-Pair-1}
use Rattle.ecd_item_laws.specs.declared.item.Item.TheVariants.{Uint, Nint, Bytes, Text, Array, Map, Tag, Simple}
use Rattle.ecd_item_laws.specs.declared.item.Pair.{Pair}
use Rattle.ecd_item_laws.specs.Encoding.{encoding, encodings, joined, both}
use Rattle.ecd_item_laws.specs.Parts.{head_from, head_of, body_of, string_in, items_in, pairs_in, enclosed_in}
use Rattle.ecd_item_laws.proofs.Layers.{encodings-list, pairs-list, pair_texts}
use Rattle.ecd_item_laws.specs.Encoding.{pair_bytes}

-- ---- heads

pub head_of-Uint : (n : ℕ) → head_of (Uint n) ≡ head_from 0 n
unfolding head_of
head_of-Uint n = refl

pub head_of-Nint : (n : ℕ) → head_of (Nint n) ≡ head_from 1 n
unfolding head_of
head_of-Nint n = refl

pub head_of-Bytes : (bs : List ℕ) → head_of (Bytes bs) ≡ head_from 2 (length bs)
unfolding head_of
head_of-Bytes bs = refl

pub head_of-Text : (bs : List ℕ) → head_of (Text bs) ≡ head_from 3 (length bs)
unfolding head_of
head_of-Text bs = refl

pub head_of-Array : (xs : List Item) → head_of (Array xs) ≡ head_from 4 (length xs)
unfolding head_of
head_of-Array xs = ap (λ (ys : List Item). head_from 4 (length ys)) (items_hidden-the_row-Item-0 xs)

pub head_of-Map : (ps : List Pair) → head_of (Map ps) ≡ head_from 5 (length ps)
unfolding head_of
head_of-Map ps = ap (λ (qs : List Pair). head_from 5 (length qs)) (items_hidden-the_row-Pair-1 ps)

pub head_of-Tag : (n : ℕ) (x : Item) → head_of (Tag n x) ≡ head_from 6 n
unfolding head_of
head_of-Tag n x = refl

pub head_of-Simple : (n : ℕ) → head_of (Simple n) ≡ head_from 7 n
unfolding head_of
head_of-Simple n = refl

pub ruleset heads = (head_of-Uint, head_of-Nint, head_of-Bytes, head_of-Text, head_of-Array, head_of-Map, head_of-Tag, head_of-Simple)

-- ---- what follows

pub body_of-Uint : (n : ℕ) → body_of (Uint n) ≡ []
unfolding body_of
body_of-Uint n = refl

pub body_of-Nint : (n : ℕ) → body_of (Nint n) ≡ []
unfolding body_of
body_of-Nint n = refl

pub body_of-Bytes : (bs : List ℕ) → body_of (Bytes bs) ≡ bs
unfolding body_of
body_of-Bytes bs = refl

pub body_of-Text : (bs : List ℕ) → body_of (Text bs) ≡ bs
unfolding body_of
body_of-Text bs = refl

pub body_of-Array : (xs : List Item) → body_of (Array xs) ≡ joined (map encoding xs)
unfolding body_of
body_of-Array xs = ap joined (encodings-list xs)

pub body_of-Map : (ps : List Pair) → body_of (Map ps) ≡ joined (map pair_bytes ps)
unfolding body_of
body_of-Map ps = ap (λ (es : List (List ℕ × List ℕ)). joined (map both es)) (pairs-list ps) ∙ ap joined (pair_texts ps)

pub body_of-Tag : (n : ℕ) (x : Item) → body_of (Tag n x) ≡ encoding x
unfolding body_of encodings hidden-the_row-Item-2 hidden
body_of-Tag n x = append-nil (encoding x)

pub body_of-Simple : (n : ℕ) → body_of (Simple n) ≡ []
unfolding body_of
body_of-Simple n = refl

pub ruleset bodies = (body_of-Uint, body_of-Nint, body_of-Bytes, body_of-Text, body_of-Array, body_of-Map, body_of-Tag, body_of-Simple)

-- ---- strings

pub string_in-Uint : (n : ℕ) → string_in (Uint n) ≡ []
unfolding string_in
string_in-Uint n = refl

pub string_in-Nint : (n : ℕ) → string_in (Nint n) ≡ []
unfolding string_in
string_in-Nint n = refl

pub string_in-Bytes : (bs : List ℕ) → string_in (Bytes bs) ≡ bs
unfolding string_in
string_in-Bytes bs = refl

pub string_in-Text : (bs : List ℕ) → string_in (Text bs) ≡ bs
unfolding string_in
string_in-Text bs = refl

pub string_in-Array : (xs : List Item) → string_in (Array xs) ≡ []
unfolding string_in
string_in-Array xs = refl

pub string_in-Map : (ps : List Pair) → string_in (Map ps) ≡ []
unfolding string_in
string_in-Map ps = refl

pub string_in-Tag : (n : ℕ) (x : Item) → string_in (Tag n x) ≡ []
unfolding string_in
string_in-Tag n x = refl

pub string_in-Simple : (n : ℕ) → string_in (Simple n) ≡ []
unfolding string_in
string_in-Simple n = refl

pub ruleset strings = (string_in-Uint, string_in-Nint, string_in-Bytes, string_in-Text, string_in-Array, string_in-Map, string_in-Tag, string_in-Simple)

-- ---- arrays

pub items_in-Uint : (n : ℕ) → items_in (Uint n) ≡ []
unfolding items_in
items_in-Uint n = refl

pub items_in-Nint : (n : ℕ) → items_in (Nint n) ≡ []
unfolding items_in
items_in-Nint n = refl

pub items_in-Bytes : (bs : List ℕ) → items_in (Bytes bs) ≡ []
unfolding items_in
items_in-Bytes bs = refl

pub items_in-Text : (bs : List ℕ) → items_in (Text bs) ≡ []
unfolding items_in
items_in-Text bs = refl

pub items_in-Array : (xs : List Item) → items_in (Array xs) ≡ xs
unfolding items_in
items_in-Array xs = items_hidden-the_row-Item-0 xs

pub items_in-Map : (ps : List Pair) → items_in (Map ps) ≡ []
unfolding items_in
items_in-Map ps = refl

pub items_in-Tag : (n : ℕ) (x : Item) → items_in (Tag n x) ≡ []
unfolding items_in
items_in-Tag n x = refl

pub items_in-Simple : (n : ℕ) → items_in (Simple n) ≡ []
unfolding items_in
items_in-Simple n = refl

pub ruleset arrays = (items_in-Uint, items_in-Nint, items_in-Bytes, items_in-Text, items_in-Array, items_in-Map, items_in-Tag, items_in-Simple)

-- ---- maps

pub pairs_in-Uint : (n : ℕ) → pairs_in (Uint n) ≡ []
unfolding pairs_in
pairs_in-Uint n = refl

pub pairs_in-Nint : (n : ℕ) → pairs_in (Nint n) ≡ []
unfolding pairs_in
pairs_in-Nint n = refl

pub pairs_in-Bytes : (bs : List ℕ) → pairs_in (Bytes bs) ≡ []
unfolding pairs_in
pairs_in-Bytes bs = refl

pub pairs_in-Text : (bs : List ℕ) → pairs_in (Text bs) ≡ []
unfolding pairs_in
pairs_in-Text bs = refl

pub pairs_in-Array : (xs : List Item) → pairs_in (Array xs) ≡ []
unfolding pairs_in
pairs_in-Array xs = refl

pub pairs_in-Map : (ps : List Pair) → pairs_in (Map ps) ≡ ps
unfolding pairs_in
pairs_in-Map ps = items_hidden-the_row-Pair-1 ps

pub pairs_in-Tag : (n : ℕ) (x : Item) → pairs_in (Tag n x) ≡ []
unfolding pairs_in
pairs_in-Tag n x = refl

pub pairs_in-Simple : (n : ℕ) → pairs_in (Simple n) ≡ []
unfolding pairs_in
pairs_in-Simple n = refl

pub ruleset maps = (pairs_in-Uint, pairs_in-Nint, pairs_in-Bytes, pairs_in-Text, pairs_in-Array, pairs_in-Map, pairs_in-Tag, pairs_in-Simple)

-- ---- tags

pub enclosed_in-Uint : (n : ℕ) → enclosed_in (Uint n) ≡ None
unfolding enclosed_in
enclosed_in-Uint n = refl

pub enclosed_in-Nint : (n : ℕ) → enclosed_in (Nint n) ≡ None
unfolding enclosed_in
enclosed_in-Nint n = refl

pub enclosed_in-Bytes : (bs : List ℕ) → enclosed_in (Bytes bs) ≡ None
unfolding enclosed_in
enclosed_in-Bytes bs = refl

pub enclosed_in-Text : (bs : List ℕ) → enclosed_in (Text bs) ≡ None
unfolding enclosed_in
enclosed_in-Text bs = refl

pub enclosed_in-Array : (xs : List Item) → enclosed_in (Array xs) ≡ None
unfolding enclosed_in
enclosed_in-Array xs = refl

pub enclosed_in-Map : (ps : List Pair) → enclosed_in (Map ps) ≡ None
unfolding enclosed_in
enclosed_in-Map ps = refl

pub enclosed_in-Tag : (n : ℕ) (x : Item) → enclosed_in (Tag n x) ≡ Some x
unfolding enclosed_in hidden-the_row-Item-2 hidden
enclosed_in-Tag n x = refl

pub enclosed_in-Simple : (n : ℕ) → enclosed_in (Simple n) ≡ None
unfolding enclosed_in
enclosed_in-Simple n = refl

pub ruleset tags = (enclosed_in-Uint, enclosed_in-Nint, enclosed_in-Bytes, enclosed_in-Text, enclosed_in-Array, enclosed_in-Map, enclosed_in-Tag, enclosed_in-Simple)
