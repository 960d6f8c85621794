-- An item's encoding as a head and what follows it.
use Rattle.std.specs.Prelude.{ℕ, List, [], ◌∷◌, length, map, Option, Some, None}
use Rattle.ecd_head.specs.declared.Head.{Head}
use Rattle.ecd_item_laws.specs.declared.item.Item.{Item, Array', Map', Tag', items-the_row-Item, items-the_row-Pair}
use Rattle.ecd_item_laws.specs.declared.item.Item.TheVariants.{Uint, Nint, Bytes, Text, Simple}
use Rattle.ecd_item_laws.specs.declared.item.Pair.{Pair}
use Rattle.ecd_item_laws.specs.Encoding.{encodings, pair_encodings, joined, both}

-- A head of this major type and argument.
abbrev pub head_from : ℕ → ℕ → Head
head_from major arg = record { major = major; arg = arg }

-- The head of the encoding.
unfoldable pub head_of : Item → Head
head_of (Uint n) = head_from 0 n
head_of (Nint n) = head_from 1 n
head_of (Bytes bytes) = head_from 2 (length bytes)
head_of (Text bytes) = head_from 3 (length bytes)
head_of (Array' _ items) = head_from 4 (length (items-the_row-Item _ items))
head_of (Map' _ pairs) = head_from 5 (length (items-the_row-Pair _ pairs))
head_of (Tag' n _ inner) = head_from 6 n
head_of (Simple n) = head_from 7 n

-- What follows the head.
unfoldable pub body_of : Item → List ℕ
body_of (Uint n) = []
body_of (Nint n) = []
body_of (Bytes bytes) = bytes
body_of (Text bytes) = bytes
body_of (Array' _ items) = joined (encodings items)
body_of (Map' _ pairs) = joined (map both (pair_encodings pairs))
body_of (Tag' n _ inner) = joined (encodings inner)
body_of (Simple n) = []

-- The bytes of a string; no bytes in any other item.
unfoldable pub string_in : Item → List ℕ
string_in (Uint n) = []
string_in (Nint n) = []
string_in (Bytes bytes) = bytes
string_in (Text bytes) = bytes
string_in (Array' _ items) = []
string_in (Map' _ pairs) = []
string_in (Tag' n _ inner) = []
string_in (Simple n) = []

-- The items of an array; none in any other item.
unfoldable pub items_in : Item → List Item
items_in (Uint n) = []
items_in (Nint n) = []
items_in (Bytes bytes) = []
items_in (Text bytes) = []
items_in (Array' _ items) = items-the_row-Item _ items
items_in (Map' _ pairs) = []
items_in (Tag' n _ inner) = []
items_in (Simple n) = []

-- The pairs of a map; none in any other item.
unfoldable pub pairs_in : Item → List Pair
pairs_in (Uint n) = []
pairs_in (Nint n) = []
pairs_in (Bytes bytes) = []
pairs_in (Text bytes) = []
pairs_in (Array' _ items) = []
pairs_in (Map' _ pairs) = items-the_row-Pair _ pairs
pairs_in (Tag' n _ inner) = []
pairs_in (Simple n) = []

-- The first of some items, where there is one.
abbrev pub first_of : List Item → Option Item
first_of [] = None
first_of (item ∷ items) = Some item

-- The item in a tag; none in any other item.
unfoldable pub enclosed_in : Item → Option Item
enclosed_in (Uint n) = None
enclosed_in (Nint n) = None
enclosed_in (Bytes bytes) = None
enclosed_in (Text bytes) = None
enclosed_in (Array' _ items) = None
enclosed_in (Map' _ pairs) = None
enclosed_in (Tag' n _ inner) = first_of (items-the_row-Item _ inner)
enclosed_in (Simple n) = None
