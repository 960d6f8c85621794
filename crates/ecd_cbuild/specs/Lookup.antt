-- Functions by their name or their item number.
use Rattle.std.specs.Prelude.{ℕ, ◌≡◌, Bool, false, List, [], ◌∷◌, Some, slice_get, bytes_eq}
use Rattle.ecd_cast.specs.declared.tree.Param.{Param}
use Rattle.ecd_cast.specs.declared.tree.ParamKind.TheVariants.{Number as NumberParam, ReadPointer as ReadPointerParam, Struct as StructParam}
use Rattle.ecd_cast.specs.declared.tree.Function.{Function}
use Rattle.ecd_cast.specs.declared.tree.CItem.{CItem}
use Rattle.ecd_cast.specs.declared.tree.CItem.TheVariants.{Struct as AStructDecl, Function as AFunction}
use Rattle.ecd_cast.specs.Memory.{Name}

-- the item of this number is a function of this name
pub record IsFunctionAt (items : List CItem) (name : Name) (at : ℕ) : Type 0 where
  pub function : Function
  pub stands : slice_get items at ≡ Some (AFunction function)
  pub is_named : function.name ≡ name

-- the parameters are a read pointer, a number and a struct, in this order
pub record AreReaderParams (params : List Param) : Type 0 where
  pub buffer : Param
  pub length_ : Param
  pub cells : Param
  pub are : params ≡ buffer ∷ length_ ∷ cells ∷ []
  pub reads : buffer.kind ≡ ReadPointerParam
  pub counts : length_.kind ≡ NumberParam
  pub struct_ : Name
  pub fills : cells.kind ≡ StructParam struct_

-- the item of this number is a function with a reader's parameters
pub record IsReaderAt (items : List CItem) (at : ℕ) : Type 0 where
  pub function : Function
  pub stands : slice_get items at ≡ Some (AFunction function)
  pub takes : AreReaderParams function.params

-- whether an item is a function of this name
abbrev pub is_function_of : CItem → Name → Bool
is_function_of (AStructDecl s) g = false
is_function_of (AFunction f) g = bytes_eq f.name g
