-- Two shapes are equal but for their places in the schema.
use Rattle.std.specs.Prelude.{◌≡◌, ℕ, Bool, List, [], ◌∷◌}
use Rattle.ecd_core.specs.declared.shape.Kind.{Kind, Choice', Tag', Cbor', AnyTag', Array', Map', Row_of-Shape, end_of-Shape, more_of-Shape, Row_of-MapEntry, end_of-MapEntry, more_of-MapEntry, items-the_row-MapEntry}
use Rattle.ecd_core.specs.declared.shape.Kind.TheVariants as k
use Rattle.ecd_core.specs.declared.shape.Group.{Row_of-Part, end_of-Part, more_of-Part, items-the_row-Part}
use Rattle.ecd_core.specs.declared.shape.Part.{Part, One', Opt', Many', Alt', Row_of-Way, end_of-Way, more_of-Way}
use Rattle.ecd_core.specs.declared.shape.MapEntry.{MapEntry, Field', Table'}
use Rattle.ecd_core.specs.declared.shape.MapEntry.TheVariants as m
use Rattle.ecd_core.specs.declared.shape.Pick.{Pick, Pick', Row_of-MapWay, end_of-MapWay, more_of-MapWay}

-- ---- the other shape, by what is asked of its parts

-- The shapes in a row, without their places.
abbrev pub kinds_of : {m : _} → Row_of-Shape m → List Kind
kinds_of end_of-Shape = []
kinds_of (more_of-Shape at kind rest) = kind ∷ kinds_of rest

abbrev pub OfTag : ℕ → (List Kind → Type 0) → Kind → Type 0
OfTag n P (Tag' number _ inner) = (n ≡ number) × P (kinds_of inner)
OfTag n P _ = ⊥

abbrev pub OfAnyTag : (List Kind → Type 0) → Kind → Type 0
OfAnyTag P (AnyTag' _ inner) = P (kinds_of inner)
OfAnyTag P _ = ⊥

abbrev pub OfCbor : (List Kind → Type 0) → Kind → Type 0
OfCbor P (Cbor' _ inner) = P (kinds_of inner)
OfCbor P _ = ⊥

abbrev pub OfChoice : (List Kind → Type 0) → Kind → Type 0
OfChoice P (Choice' _ ways) = P (kinds_of ways)
OfChoice P _ = ⊥

abbrev pub OfArray : (List Part → Type 0) → Kind → Type 0
OfArray P (Array' _ parts) = P (items-the_row-Part _ parts)
OfArray P _ = ⊥

abbrev pub OfMap : (List MapEntry → Type 0) → Kind → Type 0
OfMap P (Map' _ entries) = P (items-the_row-MapEntry _ entries)
OfMap P _ = ⊥

abbrev pub OfOne : (Kind → Type 0) → Part → Type 0
OfOne P (One' at kind) = P kind
OfOne P _ = ⊥

abbrev pub OfOpt : (List Part → Type 0) → Part → Type 0
OfOpt P (Opt' at _ body) = P (items-the_row-Part _ body)
OfOpt P _ = ⊥

abbrev pub OfMany : ℕ → ℕ → (List Part → Type 0) → Part → Type 0
OfMany lo hi P (Many' at least most _ body) = (lo ≡ least) × (hi ≡ most) × P (items-the_row-Part _ body)
OfMany lo hi P _ = ⊥

-- The bodies of the ways in a row.
abbrev pub bodies_of : {m : _} → Row_of-Way m → List (List Part)
bodies_of end_of-Way = []
bodies_of (more_of-Way at _ body rest) = items-the_row-Part _ body ∷ bodies_of rest

abbrev pub OfAlt : (List (List Part) → Type 0) → Part → Type 0
OfAlt P (Alt' at _ ways) = P (bodies_of ways)
OfAlt P _ = ⊥

abbrev pub OfField : (Kind → Bool → ℕ → Kind → Type 0) → MapEntry → Type 0
OfField P (Field' at _ key cut lo _ kind) = P key cut lo kind
OfField P _ = ⊥

abbrev pub OfTable : (ℕ → ℕ → Kind → Kind → Type 0) → MapEntry → Type 0
OfTable P (Table' at lo hi _ key _ kind) = P lo hi key kind
OfTable P _ = ⊥

-- The entries of the ways in a row.
abbrev pub ways_of : {m : _} → Row_of-MapWay m → List (List MapEntry)
ways_of end_of-MapWay = []
ways_of (more_of-MapWay at _ entries rest) = items-the_row-MapEntry _ entries ∷ ways_of rest

abbrev pub OfPickWays : (Bool → List (List MapEntry) → Type 0) → Pick → Type 0
OfPickWays P (Pick' at needed _ ways) = P needed (ways_of ways)

abbrev pub OfPick : (Bool → List (List MapEntry) → Type 0) → MapEntry → Type 0
OfPick P (m.Pick pick) = OfPickWays P pick
OfPick P _ = ⊥

-- ---- the relation

unfoldable mutual
  -- The two shapes hold the same, at whatever places they stand.
  pub IsAlike : Kind → Kind → Type 0
  IsAlike (k.Uint lo hi) other = other ≡ k.Uint lo hi
  IsAlike (k.Nint lo hi) other = other ≡ k.Nint lo hi
  IsAlike (k.Bytes lo hi) other = other ≡ k.Bytes lo hi
  IsAlike (k.Text lo hi) other = other ≡ k.Text lo hi
  IsAlike (k.BytesIs bytes) other = other ≡ k.BytesIs bytes
  IsAlike (k.TextIs bytes) other = other ≡ k.TextIs bytes
  IsAlike (k.Simple n) other = other ≡ k.Simple n
  IsAlike (Tag' n _ inner) other = OfTag n (ShapesAlike inner) other
  IsAlike (AnyTag' _ inner) other = OfAnyTag (ShapesAlike inner) other
  IsAlike (k.Any depth) other = other ≡ k.Any depth
  IsAlike (k.AnyOf major depth) other = other ≡ k.AnyOf major depth
  IsAlike (Cbor' _ inner) other = OfCbor (ShapesAlike inner) other
  IsAlike (Choice' _ ways) other = OfChoice (ShapesAlike ways) other
  IsAlike (Array' _ parts) other = OfArray (PartsAlike parts) other
  IsAlike (Map' _ entries) other = OfMap (EntriesAlike entries) other

  pub ShapesAlike : {m : _} → Row_of-Shape m → List Kind → Type 0
  ShapesAlike end_of-Shape [] = Unit {0}
  ShapesAlike end_of-Shape (other ∷ others) = ⊥
  ShapesAlike (more_of-Shape at kind rest) [] = ⊥
  ShapesAlike (more_of-Shape at kind rest) (other ∷ others) = IsAlike kind other × ShapesAlike rest others

  pub PartsAlike : {m : _} → Row_of-Part m → List Part → Type 0
  PartsAlike end_of-Part [] = Unit {0}
  PartsAlike end_of-Part (other ∷ others) = ⊥
  PartsAlike (more_of-Part part rest) [] = ⊥
  PartsAlike (more_of-Part part rest) (other ∷ others) = PartAlike part other × PartsAlike rest others

  pub PartAlike : Part → Part → Type 0
  PartAlike (One' at kind) other = OfOne (IsAlike kind) other
  PartAlike (Opt' at _ body) other = OfOpt (PartsAlike body) other
  PartAlike (Many' at lo hi _ body) other = OfMany lo hi (PartsAlike body) other
  PartAlike (Alt' at _ ways) other = OfAlt (BodiesAlike ways) other

  pub BodiesAlike : {m : _} → Row_of-Way m → List (List Part) → Type 0
  BodiesAlike end_of-Way [] = Unit {0}
  BodiesAlike end_of-Way (other ∷ others) = ⊥
  BodiesAlike (more_of-Way at _ body rest) [] = ⊥
  BodiesAlike (more_of-Way at _ body rest) (other ∷ others) = PartsAlike body other × BodiesAlike rest others

  pub EntriesAlike : {m : _} → Row_of-MapEntry m → List MapEntry → Type 0
  EntriesAlike end_of-MapEntry [] = Unit {0}
  EntriesAlike end_of-MapEntry (other ∷ others) = ⊥
  EntriesAlike (more_of-MapEntry entry rest) [] = ⊥
  EntriesAlike (more_of-MapEntry entry rest) (other ∷ others) = EntryAlike entry other × EntriesAlike rest others

  pub EntryAlike : MapEntry → MapEntry → Type 0
  EntryAlike (Field' at _ key cut lo _ kind) other = OfField (λ k c l v. IsAlike key k × (cut ≡ c) × (lo ≡ l) × IsAlike kind v) other
  EntryAlike (m.Pick pick) other = OfPick (PickAlike pick) other
  EntryAlike (Table' at lo hi _ key _ kind) other = OfTable (λ l h k v. (lo ≡ l) × (hi ≡ h) × IsAlike key k × IsAlike kind v) other

  pub PickAlike : Pick → Bool → List (List MapEntry) → Type 0
  PickAlike (Pick' at needed _ ways) is_needed others = (needed ≡ is_needed) × MapWaysAlike ways others

  pub MapWaysAlike : {m : _} → Row_of-MapWay m → List (List MapEntry) → Type 0
  MapWaysAlike end_of-MapWay [] = Unit {0}
  MapWaysAlike end_of-MapWay (other ∷ others) = ⊥
  MapWaysAlike (more_of-MapWay at _ entries rest) [] = ⊥
  MapWaysAlike (more_of-MapWay at _ entries rest) (other ∷ others) = EntriesAlike entries other × MapWaysAlike rest others
