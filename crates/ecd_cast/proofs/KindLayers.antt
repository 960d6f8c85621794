-- Kinds, and the rules that are broken, at each expression that has parts.
use Rattle.std.proofs.Common.{◌≡◌, List, ◌++◌, refl}
use denote.Hole.Carrier.{hidden}
use Rattle.ecd_cast.specs.declared.tree.Op.{Op}
use Rattle.ecd_cast.specs.declared.tree.Expr.{Expr}
use Rattle.ecd_cast.specs.declared.tree.Expr.TheVariants.{Load, Binary, Not}
use Rattle.ecd_cast.specs.declared.tree.Expr.TheBlock as exprs
use Rattle.ecd_cast.specs.declared.tree.StructDecl.{StructDecl}
use Rattle.ecd_cast.specs.Memory.{Name}
use Rattle.ecd_cast.specs.Kinds.{ANumber, ATruth, Known, takes, kind_in, kind_of, broken_by, asked_pointer, unless, result_kind, operands_fit}

pub broken-Load : (structs : List StructDecl) (known : Known) (x : Name) (i : Expr) →
    broken_by structs known (Load x i) ≡ asked_pointer (kind_in known x) ++ broken_by structs known i ++ unless (takes ANumber (kind_of structs known i)) 2
unfolding exprs.shape-the_row-Expr-0 exprs.hidden-the_row-Expr-0 hidden
broken-Load structs known x i = refl

pub broken-Binary : (structs : List StructDecl) (known : Known) (op : Op) (a b : Expr) →
    broken_by structs known (Binary op a b) ≡ broken_by structs known a ++ broken_by structs known b ++ unless (operands_fit op (kind_of structs known a) (kind_of structs known b)) 2
unfolding exprs.shape-the_row-Expr-0 exprs.hidden-the_row-Expr-0 hidden
broken-Binary structs known op a b = refl

pub broken-Not : (structs : List StructDecl) (known : Known) (a : Expr) → broken_by structs known (Not a) ≡ broken_by structs known a ++ unless (takes ATruth (kind_of structs known a)) 2
unfolding exprs.shape-the_row-Expr-0 exprs.hidden-the_row-Expr-0 hidden
broken-Not structs known a = refl

pub kind-Binary : (structs : List StructDecl) (known : Known) (op : Op) (a b : Expr) → kind_of structs known (Binary op a b) ≡ result_kind op (kind_of structs known a)
unfolding exprs.shape-the_row-Expr-0 exprs.hidden-the_row-Expr-0 hidden
kind-Binary structs known op a b = refl
