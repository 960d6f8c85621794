-- What the functions with a depth stand on, and they themselves, among the items of a program.
use Rattle.std.specs.Prelude.{ℕ, ◌≤◌, List, codes}
use Rattle.ecd_cast.specs.declared.tree.CItem.{CItem}
use Rattle.ecd_cast.specs.Meaning.{calls_of}
use Rattle.ecd_fixed_heads.specs.Heads.{head_argument}
use Rattle.ecd_fixed_heads.specs.Extents.{own_end}
use Rattle.ecd_fixed_heads.specs.ExtentsStanding.{ExtentsAreThere, ExtentsMean}
use Rattle.ecd_keyorder.specs.declared.Order.{Order}
use Rattle.ecd_fixed_bytes.specs.Compare.{ComparesBytes}
use Rattle.ecd_emit.specs.Among.{IsAmong}
use Rattle.ecd_fixed_heads.specs.Standing.{HeadsAreThere, HeadsMean}
use Rattle.ecd_fixed_bytes.specs.Standing.{ComparisonIsThere, Utf8IsThere, Utf8Means}
use Rattle.ecd_rt.specs.Names.{any_name}
use Rattle.ecd_rt.specs.Trees.{text_end, any_end}
use Rattle.ecd_rt.specs.Meanings.{TextEnd, IsAny}

-- the functions that those with a depth stand on are there, so that they may be called
pub record FrontIsThere (items : List CItem) : Type 0 where
  pub heads : HeadsAreThere items
  pub extents : ExtentsAreThere items
  pub utf8 : Utf8IsThere items
  pub comparison : ComparisonIsThere items

-- each of them means what it is to mean
pub record FrontMeans (order : Order) (items : List CItem) : Type 0 where
  pub heads : HeadsMean items
  pub extents : ExtentsMean items
  pub utf8 : Utf8Means items
  pub comparison : ComparesBytes order (calls_of items (codes "compare_bytes"))

-- what a level stands on besides: the level below, and what looks into texts
pub record LevelIsThere (below : ℕ) (items : List CItem) : Type 0 where
  pub own : IsAmong own_end items
  pub argument : IsAmong head_argument items
  pub comparison : ComparisonIsThere items
  pub text : IsAmong text_end items
  pub any : IsAmong (any_end below) items

-- what looks into texts is there, and each any_d up to the depth
pub record AnyIsThere (depth : ℕ) (items : List CItem) : Type 0 where
  pub text : IsAmong text_end items
  pub each : (deepest : ℕ) → deepest ≤ depth → IsAmong (any_end deepest) items

-- each of them means what it is to mean
pub record AnyMeans (order : Order) (depth : ℕ) (items : List CItem) : Type 0 where
  pub text : TextEnd (calls_of items (codes "text_end"))
  pub each : (deepest : ℕ) → deepest ≤ depth → IsAny order deepest (calls_of items (any_name deepest))
