-- Which heads the items of a shape begin with: boxes of a major type and of arguments (RFC 8949, section 3).
use Rattle.std.specs.Prelude.{ℕ, zero, suc, ◌<◌, ◌⊎◌, ◌==◌, if◌then◌else◌, List, [], ◌∷◌, ◌++◌, length}
use Rattle.ecd_core.specs.declared.shape.Kind.{Kind, Choice', Tag', Cbor', AnyTag', Array', Map'}
use Rattle.ecd_core.specs.declared.shape.Kind.TheVariants as k
use Rattle.ecd_core.specs.Lists.{Each}
use Rattle.ecd_apart.specs.Counts.{top, cap, least, greatest, pairs_least, pairs_greatest}

-- The heads of a major type with the arguments from a least to a greatest one. For a string the argument is its number of bytes, for an array that of items, for
-- a map that of pairs, for a tag its number.
pub record Box : Type 0 where
  pub major : ℕ
  pub lo : ℕ
  pub hi : ℕ

abbrev pub box : ℕ → ℕ → ℕ → Box
box major lo hi = record { major = major; lo = lo; hi = hi }

-- Every argument of a major type.
abbrev pub all_of_major : ℕ → Box
all_of_major major = box major 0 top

abbrev pub flat_boxes : List Box
flat_boxes = all_of_major 0 ∷ all_of_major 1 ∷ all_of_major 2 ∷ all_of_major 3 ∷ box 7 0 23 ∷ box 7 32 255 ∷ []

abbrev pub deep_boxes : List Box
deep_boxes = all_of_major 4 ∷ all_of_major 5 ∷ all_of_major 6 ∷ []

-- Items of any kind up to a depth: arrays, maps and tags have a depth of at least 1.
abbrev pub boxes_to_depth : ℕ → List Box
boxes_to_depth zero = flat_boxes
boxes_to_depth (suc depth) = flat_boxes ++ deep_boxes

abbrev pub of_major : ℕ → List Box → List Box
of_major major [] = []
of_major major (b ∷ bs) = if b.major == major then b ∷ of_major major bs else of_major major bs

-- The boxes of a shape that is no choice. A choice is looked at by its alternatives alone, and has all boxes here.
abbrev pub boxes : Kind → List Box
boxes (k.Uint lo hi) = box 0 lo hi ∷ []
boxes (k.Nint lo hi) = box 1 lo hi ∷ []
boxes (k.Bytes lo hi) = box 2 lo hi ∷ []
boxes (k.Text lo hi) = box 3 lo hi ∷ []
boxes (k.BytesIs bytes) = box 2 (length bytes) (length bytes) ∷ []
boxes (k.TextIs bytes) = box 3 (length bytes) (length bytes) ∷ []
boxes (k.Simple n) = box 7 n n ∷ []
boxes (Tag' n _ inner) = box 6 n n ∷ []
boxes (AnyTag' _ inner) = all_of_major 6 ∷ []
boxes (k.Any depth) = boxes_to_depth depth
boxes (k.AnyOf major depth) = of_major major (boxes_to_depth depth)
boxes (Cbor' _ inner) = box 2 1 top ∷ []
boxes (Array' _ parts) = box 4 (least parts) (greatest parts) ∷ []
boxes (Map' _ entries) = box 5 (pairs_least entries) (pairs_greatest entries) ∷ []
boxes (Choice' _ ways) =
    all_of_major 0 ∷ all_of_major 1 ∷ all_of_major 2 ∷ all_of_major 3 ∷ all_of_major 4 ∷ all_of_major 5 ∷ all_of_major 6 ∷ all_of_major 7 ∷ []

-- Numbers above the greatest argument are no different from it.
abbrev pub IsBelow : ℕ → ℕ → Type 0
IsBelow m n = cap m < cap n

-- A box whose lower bound is above its upper one holds nothing.
abbrev pub IsEmpty : Box → Type 0
IsEmpty b = IsBelow b.hi b.lo

abbrev pub IsOtherMajor : Box → Box → Type 0
IsOtherMajor b c = (b.major < c.major) ⊎ (c.major < b.major)

-- Two boxes share no head.
abbrev pub ShareNone : Box → Box → Type 0
ShareNone b c = IsOtherMajor b c ⊎ (IsBelow b.hi c.lo ⊎ (IsBelow c.hi b.lo ⊎ (IsEmpty b ⊎ IsEmpty c)))

-- The boxes of the two shapes share no head.
abbrev pub BoxesApart : Kind → Kind → Type 0
BoxesApart s t = Each (λ (b : Box). Each (ShareNone b) (boxes t)) (boxes s)
