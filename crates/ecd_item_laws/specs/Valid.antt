-- Which items have an encoding: RFC 8949, sections 2, 3.1, 3.3, 4.2.1 and 5.6.
use Rattle.std.specs.Prelude.{◌≡◌, ℕ, ◌+◌, ◌<◌, ◌≤◌, ◌^◌, max, ◌⊎◌, List, [], ◌∷◌, length, map}
use Rattle.std.specs.Str.{IsUtf8}
use Rattle.ecd_keyorder.specs.declared.Order.{Order}
use Rattle.ecd_keyorder.specs.Order.{IsBefore}
use Rattle.ecd_item_laws.specs.declared.item.Item.{Item, Row_of-Item, end_of-Item, more_of-Item, Array', Map', Tag', Row_of-Pair, end_of-Pair, more_of-Pair}
use Rattle.ecd_item_laws.specs.declared.item.Item.TheVariants.{Uint, Nint, Bytes, Text, Simple}
use Rattle.ecd_item_laws.specs.declared.item.Pair.{Pair}
use Rattle.ecd_item_laws.specs.Encoding.{encoding, encodings, pair_encodings}

-- The encoding of a pair's key.
abbrev pub key_of : List ℕ × List ℕ → List ℕ
key_of pair = pair.0

-- A key stands before the first of the others, where there is one.
abbrev pub IsBeforeFirst : Order → List ℕ → List (List ℕ) → Type 0
IsBeforeFirst order key [] = Unit {0}
IsBeforeFirst order key (next ∷ keys) = IsBefore order key next

-- Each key stands before the next one, so that no two are equal.
abbrev pub Ascend : Order → List (List ℕ) → Type 0
Ascend order [] = Unit {0}
Ascend order (key ∷ keys) = IsBeforeFirst order key keys × Ascend order keys

-- The elements of a byte string are bytes by the type of the code; no law needs it of a list.
-- Arguments and lengths have 64 bits (section 3), a text is UTF-8 (section 3.1), the keys of a map ascend strictly in the order (sections 4.2.1 and 5.6),
-- and a simple value is 0 to 23 or 32 to 255 (section 3.3).
unfoldable mutual
  pub IsValid : Order → Item → Type 0
  IsValid order (Uint n) = n < 2 ^ 64
  IsValid order (Nint n) = n < 2 ^ 64
  IsValid order (Bytes bytes) = length bytes < 2 ^ 64
  IsValid order (Text bytes) = (length bytes < 2 ^ 64) × IsUtf8 bytes
  IsValid order (Array' _ items) = (length (encodings items) < 2 ^ 64) × AreValid order items
  IsValid order (Map' _ pairs) = (length (pair_encodings pairs) < 2 ^ 64) × ArePairsValid order pairs × Ascend order (map key_of (pair_encodings pairs))
  IsValid order (Tag' n _ inner) = (n < 2 ^ 64) × AreValid order inner
  IsValid order (Simple n) = (n < 24) ⊎ ((32 ≤ n) × (n < 256))

  pub AreValid : {m : _} → Order → Row_of-Item m → Type 0
  AreValid order end_of-Item = Unit {0}
  AreValid order (more_of-Item item rest) = IsValid order item × AreValid order rest

  pub ArePairsValid : {m : _} → Order → Row_of-Pair m → Type 0
  ArePairsValid order end_of-Pair = Unit {0}
  ArePairsValid order (more_of-Pair key value rest) = IsValid order key × IsValid order value × ArePairsValid order rest

-- Both parts of a pair are valid.
abbrev pub IsValidPair : Order → Pair → Type 0
IsValidPair order pair = IsValid order pair.key × IsValid order pair.value

-- The bytes are the item's encoding in the order.
abbrev pub IsEncoding : Order → Item → List ℕ → Type 0
IsEncoding order item bytes = IsValid order item × (bytes ≡ encoding item)

-- How deep an item nests: an array, map or tag is one deeper than its deepest part, and every other item is 0 deep.
unfoldable mutual
  pub depth : Item → ℕ
  depth (Uint n) = 0
  depth (Nint n) = 0
  depth (Bytes bytes) = 0
  depth (Text bytes) = 0
  depth (Array' _ items) = depths items + 1
  depth (Map' _ pairs) = pair_depths pairs + 1
  depth (Tag' n _ inner) = depths inner + 1
  depth (Simple n) = 0

  pub depths : {m : _} → Row_of-Item m → ℕ
  depths end_of-Item = 0
  depths (more_of-Item item rest) = max (depth item) (depths rest)

  pub pair_depths : {m : _} → Row_of-Pair m → ℕ
  pair_depths end_of-Pair = 0
  pair_depths (more_of-Pair key value rest) = max (max (depth key) (depth value)) (pair_depths rest)

-- Valid, and no deeper than is allowed.
abbrev pub IsWhole : Order → ℕ → Item → Type 0
IsWhole order deepest item = IsValid order item × (depth item ≤ deepest)

-- Both parts of a pair are.
abbrev pub IsWholePair : Order → ℕ → Pair → Type 0
IsWholePair order deepest pair = IsWhole order deepest pair.key × IsWhole order deepest pair.value
