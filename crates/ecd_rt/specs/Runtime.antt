-- All fixed functions of an emitted file, one behind the other.
use Rattle.std.specs.Prelude.{ℕ, List, [], ◌∷◌, ◌++◌, codes}
use Rattle.ecd_cast.specs.declared.tree.CItem.{CItem}
use Rattle.ecd_cast.specs.declared.tree.CItem.TheVariants.{Function as AFunction}
use Rattle.ecd_cast.specs.Memory.{Name}
use Rattle.ecd_cast.specs.Meaning.{calls_of}
use Rattle.ecd_fixed_heads.specs.Heads.{head_functions, head_names}
use Rattle.ecd_fixed_heads.specs.Extents.{extent_functions, extent_names}
use Rattle.ecd_fixed_heads.specs.ExtentsStanding.{ExtentsAreThere, ExtentsMean}
use Rattle.ecd_fixed_bytes.specs.Utf8.{utf8_functions, utf8_names}
use Rattle.ecd_keyorder.specs.declared.Order.{Order}
use Rattle.ecd_fixed_bytes.specs.Compare.{compare_bytes, ComparesBytes}
use Rattle.ecd_fixed_bytes.specs.HeadWriter.{put_functions, put_names}
use Rattle.ecd_fixed_bytes.specs.Copier.{copy_bytes, CopiesBytes}
use Rattle.ecd_emit.specs.Among.{AreNew, IsAmong}
use Rattle.ecd_fixed_heads.specs.Standing.{HeadsAreThere, HeadsMean}
use Rattle.ecd_fixed_bytes.specs.Standing.{ComparisonIsThere, Utf8IsThere, Utf8Means, HeadWriterIsThere, HeadWriterMeans}
use Rattle.ecd_rt.specs.Trees.{any_functions, any_names}
use Rattle.ecd_rt.specs.Standing.{AnyIsThere, AnyMeans}

-- what the functions with a depth stand on
abbrev pub front_functions : Order → List CItem
front_functions order = head_functions ++ (extent_functions ++ (utf8_functions ++ AFunction (compare_bytes order) ∷ []))

abbrev pub front_names : List Name
front_names = head_names ++ (extent_names ++ (utf8_names ++ codes "compare_bytes" ∷ []))

-- what writes
abbrev pub writing_functions : List CItem
writing_functions = put_functions ++ AFunction copy_bytes ∷ []

abbrev pub writing_names : List Name
writing_names = put_names ++ codes "copy_bytes" ∷ []

abbrev pub runtime_functions : Order → ℕ → List CItem
runtime_functions order depth = front_functions order ++ (any_functions depth ++ writing_functions)

abbrev pub runtime_names : ℕ → List Name
runtime_names depth = front_names ++ (any_names depth ++ writing_names)

-- they are there, so that they may be called; of those that come with a depth text_end and each any_d
pub record RuntimeIsThere (depth : ℕ) (items : List CItem) : Type 0 where
  pub heads : HeadsAreThere items
  pub extents : ExtentsAreThere items
  pub utf8 : Utf8IsThere items
  pub comparison : ComparisonIsThere items
  pub any : AnyIsThere depth items
  pub writer : HeadWriterIsThere items
  pub copier : IsAmong copy_bytes items

-- each of them means what it is to mean
pub record RuntimeMeans (order : Order) (depth : ℕ) (items : List CItem) : Type 0 where
  pub heads : HeadsMean items
  pub extents : ExtentsMean items
  pub utf8 : Utf8Means items
  pub comparison : ComparesBytes order (calls_of items (codes "compare_bytes"))
  pub any : AnyMeans order depth items
  pub writer : HeadWriterMeans items
  pub copier : CopiesBytes (calls_of items (codes "copy_bytes"))

-- Whatever is appended, they are still there. Where no function in it has one of the names of all fixed functions, each of them still means the same.
pub record RuntimeIsKept : Type 0 where
  pub there : (depth : ℕ) (items more : List CItem) → RuntimeIsThere depth items → RuntimeIsThere depth (items ++ more)
  pub mean : (order : Order) (depth : ℕ) (items more : List CItem) → AreNew (runtime_names depth) more → RuntimeMeans order depth items → RuntimeMeans order depth (items ++ more)
