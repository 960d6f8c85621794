-- The kinds of expressions, and where an expression breaks C1 or C2.
use Rattle.std.specs.Prelude.{ℕ, Bool, true, false, ◌&&◌, if◌then◌else◌, List, [], ◌∷◌, ◌++◌, Option, Some, None, bytes_eq}
use Rattle.ecd_cast.specs.declared.tree.Op.{Op}
use Rattle.ecd_cast.specs.declared.tree.Op.TheVariants.{Add, Sub, Mul, Shl, Shr, BitAnd, BitOr, Eq, Ne, Lt, Le, Gt, Ge, And, Or}
use Rattle.ecd_cast.specs.declared.tree.Expr.{Expr, Row_of-Expr, end_of-Expr, more_of-Expr}
use Rattle.ecd_cast.specs.declared.tree.Expr.TheVariants.{Number, Var, Cell as CellOf, Load', Binary', Not'}
use Rattle.ecd_cast.specs.declared.tree.Param.{Param}
use Rattle.ecd_cast.specs.declared.tree.ParamKind.{ParamKind}
use Rattle.ecd_cast.specs.declared.tree.ParamKind.TheVariants.{Number as NumberParam, ReadPointer as ReadPointerParam, WritePointer as WritePointerParam, Struct as StructParam}
use Rattle.ecd_cast.specs.declared.tree.CellInfo.{CellInfo}
use Rattle.ecd_cast.specs.declared.tree.CellKind.TheVariants.{Number as NumberCell, Pointer as PointerCell}
use Rattle.ecd_cast.specs.declared.tree.StructDecl.{StructDecl}
use Rattle.ecd_cast.specs.Memory.{Name}

-- Unknown is the kind of a part that breaks a rule already, as one that breaks C1; it breaks no C2 besides.
pub data Kind : Type 0 where
  ANumber ATruth AReadPointer AWritePointer Unknown : Kind
  AStruct : Name → Kind

-- whether a part of the second kind may stand where the first is asked for
abbrev pub takes : Kind → Kind → Bool
takes Unknown got = true
takes ANumber ANumber = true
takes ATruth ATruth = true
takes AReadPointer AReadPointer = true
takes AWritePointer AWritePointer = true
takes (AStruct s) (AStruct t) = bytes_eq s t
takes asked Unknown = true
takes asked got = false

-- the variables and parameters that are known, the last one first
abbrev pub Known : Type 0
Known = List (Name × Kind)

abbrev pub kind_in : Known → Name → Option Kind
kind_in [] x = None
kind_in (v ∷ vs) x = if bytes_eq v.0 x then Some v.1 else kind_in vs x

abbrev pub cell_among : List CellInfo → Name → Option Kind
cell_among [] c = None
cell_among (i ∷ is) c = if bytes_eq i.name c then Some (elim i.kind [ NumberCell ↦ ANumber | PointerCell ↦ AReadPointer ]) else cell_among is c

-- the cell of a struct that is declared
abbrev pub cell_of : List StructDecl → Name → Name → Option Kind
cell_of [] s c = None
cell_of (d ∷ ds) s c = if bytes_eq d.name s then cell_among d.cells c else cell_of ds s c

abbrev pub or_unknown : Option Kind → Kind
or_unknown (Some k) = k
or_unknown None = Unknown

-- the kind of the cell c of a variable of this kind
abbrev pub member : List StructDecl → Option Kind → Name → Kind
member structs (Some (AStruct s)) c = or_unknown (cell_of structs s c)
member structs _ c = Unknown

-- the kind of a result, by the left operand's
abbrev pub sum_kind : Kind → Kind
sum_kind AReadPointer = AReadPointer
sum_kind AWritePointer = AWritePointer
sum_kind Unknown = Unknown
sum_kind _ = ANumber

abbrev pub result_kind : Op → Kind → Kind
result_kind Add k = sum_kind k
result_kind Sub k = ANumber
result_kind Mul k = ANumber
result_kind Shl k = ANumber
result_kind Shr k = ANumber
result_kind BitAnd k = ANumber
result_kind BitOr k = ANumber
result_kind Eq k = ATruth
result_kind Ne k = ATruth
result_kind Lt k = ATruth
result_kind Le k = ATruth
result_kind Gt k = ATruth
result_kind Ge k = ATruth
result_kind And k = ATruth
result_kind Or k = ATruth

abbrev pub is_summand : Kind → Bool
is_summand AReadPointer = true
is_summand AWritePointer = true
is_summand k = takes ANumber k

-- whether an operator takes operands of these kinds
abbrev pub operands_fit : Op → Kind → Kind → Bool
operands_fit Add a b = is_summand a && takes ANumber b
operands_fit And a b = takes ATruth a && takes ATruth b
operands_fit Or a b = takes ATruth a && takes ATruth b
operands_fit op a b = takes ANumber a && takes ANumber b

abbrev mutual
  pub kind_of : List StructDecl → Known → Expr → Kind
  kind_of structs known (Number n) = ANumber
  kind_of structs known (Var x) = or_unknown (kind_in known x)
  kind_of structs known (CellOf x c) = member structs (kind_in known x) c
  kind_of structs known (Load' x s i) = ANumber
  kind_of structs known (Binary' op s a t b) = result_kind op (operand_kind structs known a)
  kind_of structs known (Not' s a) = ATruth

  pub operand_kind : {n : _} → List StructDecl → Known → Row_of-Expr n → Kind
  operand_kind structs known end_of-Expr = Unknown
  operand_kind structs known (more_of-Expr e rest) = kind_of structs known e

-- the rule, where the test fails
abbrev pub unless : Bool → ℕ → List ℕ
unless true rule = []
unless false rule = rule ∷ []

abbrev pub unless_known : Option Kind → List ℕ
unless_known (Some k) = []
unless_known None = 1 ∷ []

-- a variable that has to be of a kind
abbrev pub asked : Kind → Option Kind → List ℕ
asked k (Some got) = unless (takes k got) 2
asked k None = 1 ∷ []

-- a variable that loads go through
abbrev pub asked_pointer : Option Kind → List ℕ
asked_pointer (Some AReadPointer) = []
asked_pointer (Some AWritePointer) = []
asked_pointer (Some Unknown) = []
asked_pointer (Some _) = 2 ∷ []
asked_pointer None = 1 ∷ []

-- a variable before `->`, and the cell behind it
abbrev pub asked_cell : List StructDecl → Option Kind → Name → List ℕ
asked_cell structs (Some (AStruct s)) c = unless_known (cell_of structs s c)
asked_cell structs (Some Unknown) c = []
asked_cell structs (Some _) c = 2 ∷ []
asked_cell structs None c = 1 ∷ []

-- the rules that an expression breaks
abbrev mutual
  pub broken_by : List StructDecl → Known → Expr → List ℕ
  broken_by structs known (Number n) = []
  broken_by structs known (Var x) = unless_known (kind_in known x)
  broken_by structs known (CellOf x c) = asked_cell structs (kind_in known x) c
  broken_by structs known (Load' x s i) = asked_pointer (kind_in known x) ++ operand_broken structs known i ++ unless (takes ANumber (operand_kind structs known i)) 2
  broken_by structs known (Binary' op s a t b) =
      operand_broken structs known a ++ operand_broken structs known b ++ unless (operands_fit op (operand_kind structs known a) (operand_kind structs known b)) 2
  broken_by structs known (Not' s a) = operand_broken structs known a ++ unless (takes ATruth (operand_kind structs known a)) 2

  pub operand_broken : {n : _} → List StructDecl → Known → Row_of-Expr n → List ℕ
  operand_broken structs known end_of-Expr = []
  operand_broken structs known (more_of-Expr e rest) = broken_by structs known e

-- the rules that an expression breaks where a kind is asked for
abbrev pub broken_as : Kind → List StructDecl → Known → Expr → List ℕ
broken_as k structs known e = broken_by structs known e ++ unless (takes k (kind_of structs known e)) 2

abbrev pub param_kind : ParamKind → Kind
param_kind NumberParam = ANumber
param_kind ReadPointerParam = AReadPointer
param_kind WritePointerParam = AWritePointer
param_kind (StructParam s) = AStruct s

-- whether arguments match parameters in number and kind
abbrev pub args_fit : List StructDecl → Known → List Param → List Expr → Bool
args_fit structs known [] [] = true
args_fit structs known (p ∷ ps) (e ∷ es) = takes (param_kind p.kind) (kind_of structs known e) && args_fit structs known ps es
args_fit structs known _ _ = false
