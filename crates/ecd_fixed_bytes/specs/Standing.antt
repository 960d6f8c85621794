-- The functions over bytes among the items of a program.
use Rattle.std.specs.Prelude.{List, ◌++◌, codes}
use Rattle.std.specs.Int.{w16, w32, w64}
use Rattle.ecd_cast.specs.declared.tree.CItem.{CItem}
use Rattle.ecd_cast.specs.Kept.{IsNew}
use Rattle.ecd_cast.specs.Meaning.{calls_of}
use Rattle.ecd_keyorder.specs.declared.Order.{Order}
use Rattle.ecd_fixed_bytes.specs.Compare.{compare_bytes, ComparesBytes}
use Rattle.ecd_fixed_bytes.specs.Utf8.{utf8_names, utf8_begin, utf8_next, utf8_valid, BeginsUtf8, GoesOnUtf8, ChecksUtf8}
use Rattle.ecd_fixed_bytes.specs.HeadWriter.{put_names, head_length, store_be16, store_be32, store_be64, put_head, HeadLength, StoresNumber, WritesHead}
use Rattle.ecd_fixed_bytes.specs.Copier.{copy_bytes, CopiesBytes}
use Rattle.ecd_emit.specs.Among.{AreNew, IsAmong}

-- a function that compares bytes is there, in one of the orders
pub record ComparisonIsThere (items : List CItem) : Type 0 where
  pub order : Order
  pub there : IsAmong (compare_bytes order) items

-- what checks UTF-8 is there
pub record Utf8IsThere (items : List CItem) : Type 0 where
  pub begins : IsAmong utf8_begin items
  pub goes_on : IsAmong utf8_next items
  pub valid : IsAmong utf8_valid items

-- and means what it is to mean
pub record Utf8Means (items : List CItem) : Type 0 where
  pub begins : BeginsUtf8 (calls_of items (codes "utf8_begin"))
  pub goes_on : GoesOnUtf8 (calls_of items (codes "utf8_next"))
  pub valid : ChecksUtf8 (calls_of items (codes "utf8_valid"))

-- what writes heads is there
pub record HeadWriterIsThere (items : List CItem) : Type 0 where
  pub length : IsAmong head_length items
  pub be16 : IsAmong store_be16 items
  pub be32 : IsAmong store_be32 items
  pub be64 : IsAmong store_be64 items
  pub head : IsAmong put_head items

-- and means what it is to mean
pub record HeadWriterMeans (items : List CItem) : Type 0 where
  pub length : HeadLength (calls_of items (codes "head_length"))
  pub be16 : StoresNumber w16 3 (calls_of items (codes "store_be16"))
  pub be32 : StoresNumber w32 9 (calls_of items (codes "store_be32"))
  pub be64 : StoresNumber w64 21 (calls_of items (codes "store_be64"))
  pub head : WritesHead (calls_of items (codes "put_head"))

-- ---- laws

-- Whatever is appended, the function that compares bytes is still there. Where no function in it has its name, it still means the same.
pub record ComparisonIsKept : Type 0 where
  pub there : (items more : List CItem) → ComparisonIsThere items → ComparisonIsThere (items ++ more)
  pub mean : (order : Order) (items more : List CItem) → IsNew (codes "compare_bytes") more → ComparesBytes order (calls_of items (codes "compare_bytes")) → ComparesBytes order (calls_of (items ++ more) (codes "compare_bytes"))

-- the same of the functions that check UTF-8, by their names
pub record Utf8IsKept : Type 0 where
  pub there : (items more : List CItem) → Utf8IsThere items → Utf8IsThere (items ++ more)
  pub mean : (items more : List CItem) → AreNew utf8_names more → Utf8Means items → Utf8Means (items ++ more)

-- the same of the functions that write heads and store numbers, by their names
pub record HeadWriterIsKept : Type 0 where
  pub there : (items more : List CItem) → HeadWriterIsThere items → HeadWriterIsThere (items ++ more)
  pub mean : (items more : List CItem) → AreNew put_names more → HeadWriterMeans items → HeadWriterMeans (items ++ more)

-- the same of the function that copies bytes, by its name
pub record CopierIsKept : Type 0 where
  pub there : (items more : List CItem) → IsAmong copy_bytes items → IsAmong copy_bytes (items ++ more)
  pub mean : (items more : List CItem) → IsNew (codes "copy_bytes") more → CopiesBytes (calls_of items (codes "copy_bytes")) → CopiesBytes (calls_of (items ++ more) (codes "copy_bytes"))
