-- The reader of one number, as a tree.
use Rattle.std.specs.Prelude.{ℕ, List, [], ◌∷◌, codes}
use Rattle.ecd_cast.specs.declared.tree.Op.TheVariants.{Lt, Ne}
use Rattle.ecd_cast.specs.declared.tree.Expr.TheVariants.{Number, Var, Load, Binary}
use Rattle.ecd_cast.specs.declared.tree.Stmt.{Stmt}
use Rattle.ecd_cast.specs.declared.tree.Stmt.TheVariants.{SetCell, If, Return}
use Rattle.ecd_cast.specs.declared.tree.Param.{Param}
use Rattle.ecd_cast.specs.declared.tree.ParamKind.TheVariants.{Number as NumberParam, ReadPointer as ReadPointerParam, Struct as StructParam}
use Rattle.ecd_cast.specs.declared.tree.Function.{Function}
use Rattle.ecd_cast.specs.declared.tree.StructDecl.{StructDecl}
use Rattle.ecd_cast.specs.declared.tree.CellKind.TheVariants.{Number as NumberCell}
use Rattle.ecd_cast.specs.declared.tree.CItem.{CItem}
use Rattle.ecd_cast.specs.declared.tree.CItem.TheVariants.{Struct as AStructDecl, Function as AFunction}

abbrev pub refuse : List Stmt
refuse = Return (Number 0) ∷ []

abbrev pub too_short : Stmt
too_short = If (Binary Lt (Var (codes "len")) (Number 1)) refuse []

abbrev pub other_byte : ℕ → Stmt
other_byte n = If (Binary Ne (Load (codes "buf") (Number 0)) (Number n)) refuse []

abbrev pub reader_body : ℕ → List Stmt
reader_body n = too_short ∷ other_byte n ∷ SetCell (codes "out") (codes "unit") (Number 0) ∷ Return (Number 1) ∷ []

abbrev pub reader_params : List Param
reader_params =
    record { name = codes "buf"; kind = ReadPointerParam } ∷ record { name = codes "len"; kind = NumberParam } ∷
    record { name = codes "out"; kind = StructParam (codes "s0") } ∷ []

abbrev pub reader : ℕ → Function
reader n = record { name = codes "read_0"; params = reader_params; body = reader_body n }

abbrev pub unit_struct : StructDecl
unit_struct = record { name = codes "s0"; cells = record { name = codes "unit"; kind = NumberCell } ∷ [] }

abbrev pub reader_items : ℕ → List CItem
reader_items n = AStructDecl unit_struct ∷ AFunction (reader n) ∷ []
