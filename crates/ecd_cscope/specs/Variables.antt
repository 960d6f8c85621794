-- The variables that a judge knows.
use Rattle.std.specs.Prelude.{ℕ, ◌≡◌, List, [], ◌∷◌, ◌++◌, Option, Some, None, map}
use Rattle.std.specs.BTreeMap.{BTreeMap}
use Rattle.ecd_cast.specs.ByName.{named}
use denote.Ref.{Bor}
use Rattle.ecd_cscope.specs.declared.kind.Kind.{Kind as Seen}
use Rattle.ecd_cscope.specs.declared.kind.Kind.TheVariants.{Number, Truth, ReadPointer, WritePointer, Unknown as NoKind, Struct}
use Rattle.ecd_cscope.specs.declared.variables.Declared.{Declared}
use Rattle.ecd_cast.specs.Memory.{Name}
use Rattle.ecd_cast.specs.Kinds.{Kind, ANumber, ATruth, AReadPointer, AWritePointer, Unknown, AStruct, Known, kind_in}

-- ---- kinds

abbrev pub kind_as : Seen → Kind
kind_as Number = ANumber
kind_as Truth = ATruth
kind_as ReadPointer = AReadPointer
kind_as WritePointer = AWritePointer
kind_as NoKind = Unknown
kind_as (Struct s) = AStruct s.now

abbrev pub kind_if : Option Seen → Option Kind
kind_if None = None
kind_if (Some k) = Some (kind_as k)

-- ---- variables

-- the variables in the order of their declarations; the one that was known last stands first
abbrev pub known_in : List Declared → Known
known_in [] = []
known_in (v ∷ vs) = known_in vs ++ (v.name.now, kind_as v.kind) ∷ []

-- each variable keeps the kind that its name had before
abbrev pub KeepBefore : Known → List Declared → Type 0
KeepBefore known [] = Unit {0}
KeepBefore known (v ∷ vs) = (kind_if v.before ≡ kind_in known v.name.now) × KeepBefore ((v.name.now, kind_as v.kind) ∷ known) vs

-- the map has the kind of the variable of each name that was known last
pub record IsKept (declared : List Declared) (kinds : BTreeMap (Bor (List ℕ)) Seen) : Type 0 where
  pub looks : (x : Name) → kind_if (named kinds x) ≡ kind_in (known_in declared) x
  pub befores : KeepBefore [] declared

-- the names of variables
abbrev pub names_of : Known → List Name
names_of known = map (λ v. v.0) known
