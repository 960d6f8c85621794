-- The deterministic encoding of a data item: RFC 8949, sections 3 and 4.2.1.
use Rattle.std.specs.Prelude.{ℕ, List, [], ◌∷◌, ◌++◌, length, map}
use Rattle.ecd_head.specs.Head.{head_bytes}
use Rattle.ecd_item_laws.specs.declared.item.Item.{Item, Row_of-Item, end_of-Item, more_of-Item, Array', Map', Tag', Row_of-Pair, end_of-Pair, more_of-Pair}
use Rattle.ecd_item_laws.specs.declared.item.Item.TheVariants.{Uint, Nint, Bytes, Text, Simple}
use Rattle.ecd_item_laws.specs.declared.item.Pair.{Pair}

-- The pieces, one after another.
abbrev pub joined : List (List ℕ) → List ℕ
joined [] = []
joined (piece ∷ pieces) = piece ++ joined pieces

-- A pair's bytes: its key, then its value.
abbrev pub both : List ℕ × List ℕ → List ℕ
both pair = pair.0 ++ pair.1

-- An integer or a simple value is its head. A string is the head of its length and its bytes. An array is the head of its count and its items in order;
-- a map is the head of its count of pairs, and pair by pair the key and the value. A tag is the head of its number and its item.
-- A head whose argument is 2^32 or more has nine bytes, also where the argument of an oversized item passes 64 bits.
unfoldable mutual
  pub encoding : Item → List ℕ
  encoding (Uint n) = head_bytes 0 n
  encoding (Nint n) = head_bytes 1 n
  encoding (Bytes bytes) = head_bytes 2 (length bytes) ++ bytes
  encoding (Text bytes) = head_bytes 3 (length bytes) ++ bytes
  encoding (Array' _ items) = head_bytes 4 (length (encodings items)) ++ joined (encodings items)
  encoding (Map' _ pairs) = head_bytes 5 (length (pair_encodings pairs)) ++ joined (map both (pair_encodings pairs))
  encoding (Tag' n _ inner) = head_bytes 6 n ++ joined (encodings inner)
  encoding (Simple n) = head_bytes 7 n

  pub encodings : {m : _} → Row_of-Item m → List (List ℕ)
  encodings end_of-Item = []
  encodings (more_of-Item item rest) = encoding item ∷ encodings rest

  pub pair_encodings : {m : _} → Row_of-Pair m → List (List ℕ × List ℕ)
  pair_encodings end_of-Pair = []
  pair_encodings (more_of-Pair key value rest) = (encoding key, encoding value) ∷ pair_encodings rest

-- The bytes of a pair's key.
abbrev pub key_bytes : Pair → List ℕ
key_bytes pair = encoding pair.key

-- A pair's bytes in its map.
abbrev pub pair_bytes : Pair → List ℕ
pair_bytes pair = encoding pair.key ++ encoding pair.value

-- How many bytes the encoding has. An item with an argument past 64 bits has a length too, and no encoding that a reader meets.
abbrev pub encoded_length : Item → ℕ
encoded_length item = length (encoding item)
