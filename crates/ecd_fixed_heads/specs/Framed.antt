-- Items whose heads can all be written, whatever the texts hold and in whatever order the keys stand: RFC 8949, sections 3 and 3.3.
use Rattle.std.specs.Prelude.{◌≡◌, ℕ, List, ◌++◌, length}
use Rattle.ecd_keyorder.specs.declared.Order.{Order}
use Rattle.ecd_head.specs.Head.{IsWritable}
use Rattle.ecd_head.specs.Place.{StandsAt}
use Rattle.ecd_item_laws.specs.declared.item.Item.{Item, Row_of-Item, end_of-Item, more_of-Item, Array', Map', Tag', Row_of-Pair, end_of-Pair, more_of-Pair}
use Rattle.ecd_item_laws.specs.declared.item.Item.TheVariants.{Uint, Nint, Bytes, Text, Simple}
use Rattle.ecd_item_laws.specs.Encoding.{encoding, encodings, pair_encodings}
use Rattle.ecd_item_laws.specs.Valid.{IsValid}

-- The head of the item and the heads of all items inside it are writable.
unfoldable mutual
  pub IsFramed : Item → Type 0
  IsFramed (Uint n) = IsWritable 0 n
  IsFramed (Nint n) = IsWritable 1 n
  IsFramed (Bytes bytes) = IsWritable 2 (length bytes)
  IsFramed (Text bytes) = IsWritable 3 (length bytes)
  IsFramed (Array' _ items) = IsWritable 4 (length (encodings items)) × AreFramed items
  IsFramed (Map' _ pairs) = IsWritable 5 (length (pair_encodings pairs)) × ArePairsFramed pairs
  IsFramed (Tag' n _ inner) = IsWritable 6 n × AreFramed inner
  IsFramed (Simple n) = IsWritable 7 n

  pub AreFramed : {m : _} → Row_of-Item m → Type 0
  AreFramed end_of-Item = Unit {0}
  AreFramed (more_of-Item item rest) = IsFramed item × AreFramed rest

  pub ArePairsFramed : {m : _} → Row_of-Pair m → Type 0
  ArePairsFramed end_of-Pair = Unit {0}
  ArePairsFramed (more_of-Pair key value rest) = IsFramed key × IsFramed value × ArePairsFramed rest

-- a framed item stands from one place to another
pub record ItemStands (bytes : List ℕ) (at e : ℕ) : Type 0 where
  pub item : Item
  pub framed : IsFramed item
  pub stands : StandsAt bytes at (encoding item) e

-- ---- laws

-- Each valid item is framed.
abbrev pub ValidIsFramed : Type 0
ValidIsFramed = (order : Order) (item : Item) → IsValid order item → IsFramed item

-- Bytes that begin with the encodings of two framed items go on alike behind them, so no such encoding begins another.
abbrev pub FramedEndOnce : Type 0
FramedEndOnce = (item other : Item) (rest others : List ℕ) → IsFramed item → IsFramed other → encoding item ++ rest ≡ encoding other ++ others → rest ≡ others
