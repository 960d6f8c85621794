-- The functions that find the end of an item among the items of a program.
use Rattle.std.specs.Prelude.{List, ◌++◌, codes}
use Rattle.ecd_cast.specs.declared.tree.CItem.{CItem}
use Rattle.ecd_cast.specs.Meaning.{calls_of}
use Rattle.ecd_fixed_heads.specs.Extents.{own_end, items_inside, item_end, extent_names, OwnEnd, ItemsInside, ItemEnd}
use Rattle.ecd_emit.specs.Among.{AreNew, IsAmong}

-- they are there, so that they may be called
pub record ExtentsAreThere (items : List CItem) : Type 0 where
  pub own : IsAmong own_end items
  pub inside : IsAmong items_inside items
  pub end : IsAmong item_end items

-- each of them means what it is to mean
pub record ExtentsMean (items : List CItem) : Type 0 where
  pub own : OwnEnd (calls_of items (codes "own_end"))
  pub inside : ItemsInside (calls_of items (codes "items_inside"))
  pub end : ItemEnd (calls_of items (codes "item_end"))

-- Whatever is appended, they are still there. Where no function in it has one of their names, each of them still means the same.
pub record ExtentsAreKept : Type 0 where
  pub there : (items more : List CItem) → ExtentsAreThere items → ExtentsAreThere (items ++ more)
  pub mean : (items more : List CItem) → AreNew extent_names more → ExtentsMean items → ExtentsMean (items ++ more)
