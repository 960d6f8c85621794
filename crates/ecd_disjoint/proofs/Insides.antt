-- What two shapes hold, kind by kind, over the lists of the source.
use Rattle.std.proofs.Common.{◌≡◌, ℕ, ◌↔◌, ◌⊎◌, inl, inr, Bool, true, false, List, refl, sym}
use Rattle.std.proofs.Math.Logic.{⊎_map}
use mathlib.Core.Former.{Count}
use denote.Hole.Carrier.{hidden}
use Rattle.ecd_core.specs.declared.shape.Kind.{Kind, Map', Row_of-MapEntry}
use Rattle.ecd_core.specs.declared.shape.Kind.TheVariants as k
use Rattle.ecd_core.specs.declared.shape.Kind.TheBlock as block
use Rattle.ecd_core.specs.declared.shape.Shape.{Shape}
use Rattle.ecd_core.specs.declared.shape.Group.{Group}
use Rattle.ecd_core.specs.declared.shape.MapEntry.{MapEntry}
use Rattle.ecd_core.proofs.Layers.{fwd, bwd}
use Rattle.ecd_apart.specs.Keys.{HasCut}
use Rattle.ecd_apart.specs.Apart.{Apart, MapNeeds, NeededMisses, AreMissed}
use Rattle.ecd_apart.proofs.BothWays.{turn_needed}
use Rattle.ecd_apart.proofs.TurningMaps.{none_needed}
use Rattle.ecd_disjoint.specs.declared.ends.End.TheVariants.{First, Last}
use Rattle.ecd_disjoint.specs.Inside.{InsideApart}
use Rattle.ecd_disjoint.specs.Ends.{SomeApart, EndsApart}
use Rattle.ecd_disjoint.specs.Misses.{SomeMissed}
use Rattle.ecd_disjoint.proofs.Loops.{along, carried, holds, refuted}
use Rattle.ecd_disjoint.proofs.Rows.{Map-row}
use Rattle.ecd_disjoint.proofs.EndRows.{prefix-parts, suffix-parts, first_to, first_from, last_to, last_from}
use Rattle.ecd_disjoint.proofs.MissRows.{maps_to, maps_from}

pub insides_by : {r : Bool} {a b x y : Kind} → a ≡ x → b ≡ y → (r ≡ true) ↔ InsideApart x y → (r ≡ true) ↔ InsideApart a b
insides_by e f h = along (λ j. InsideApart (sym e j) (sym f j)) h

-- ---- contents

pub inside-Tag-Tag : (l n : ℕ) (s t : Shape) → InsideApart (k.Tag l s) (k.Tag n t) ≡ Apart s.kind t.kind
unfolding Apart block.hidden-the_row-Shape-0 hidden
inside-Tag-Tag l n s t = refl

pub inside-Tag-AnyTag : (l : ℕ) (s t : Shape) → InsideApart (k.Tag l s) (k.AnyTag t) ≡ Apart s.kind t.kind
unfolding Apart block.hidden-the_row-Shape-0 hidden
inside-Tag-AnyTag l s t = refl

pub inside-AnyTag-Tag : (n : ℕ) (s t : Shape) → InsideApart (k.AnyTag s) (k.Tag n t) ≡ Apart s.kind t.kind
unfolding Apart block.hidden-the_row-Shape-0 hidden
inside-AnyTag-Tag n s t = refl

pub inside-AnyTag-AnyTag : (s t : Shape) → InsideApart (k.AnyTag s) (k.AnyTag t) ≡ Apart s.kind t.kind
unfolding Apart block.hidden-the_row-Shape-0 hidden
inside-AnyTag-AnyTag s t = refl

pub inside-Cbor-Cbor : (s t : Shape) → InsideApart (k.Cbor s) (k.Cbor t) ≡ Apart s.kind t.kind
unfolding Apart block.hidden-the_row-Shape-0 hidden
inside-Cbor-Cbor s t = refl

-- ---- arrays and maps

pub arrays_to : (g h : Group) → InsideApart (k.Array g) (k.Array h) → EndsApart First g.parts h.parts ⊎ EndsApart Last g.parts h.parts
arrays_to g h a =
    ⊎_map (λ x. fwd (λ j. SomeApart (prefix-parts g.parts j) (prefix-parts h.parts j)) (first_to (block.hidden-the_row-Part-2 g.parts) _ x))
    (λ x. fwd (λ j. SomeApart (suffix-parts g.parts j) (suffix-parts h.parts j)) (last_to (block.hidden-the_row-Part-2 g.parts) _ x)) a

pub arrays_from : (g h : Group) → EndsApart First g.parts h.parts ⊎ EndsApart Last g.parts h.parts → InsideApart (k.Array g) (k.Array h)
arrays_from g h a =
    ⊎_map (λ x. first_from (block.hidden-the_row-Part-2 g.parts) _ (bwd (λ j. SomeApart (prefix-parts g.parts j) (prefix-parts h.parts j)) x))
    (λ x. last_from (block.hidden-the_row-Part-2 g.parts) _ (bwd (λ j. SomeApart (suffix-parts g.parts j) (suffix-parts h.parts j)) x)) a

module _ (a b : Kind) (P Q : Type 0) (to : InsideApart a b → P ⊎ Q) (from : P ⊎ Q → InsideApart a b) where
  either_first : P → (true ≡ true) ↔ InsideApart a b
  either_first p = holds (from (inl p))

  either_last : {r : Bool} → (P → ⊥) → (r ≡ true) ↔ Q → (r ≡ true) ↔ InsideApart a b
  either_last n h = carried (λ q. from (inr q)) (λ i. elim (to i) [ inl p ↦ absurd (n p) | inr q ↦ q ]) h

pub arrays_first : (g h : Group) → EndsApart First g.parts h.parts → (true ≡ true) ↔ InsideApart (k.Array g) (k.Array h)
arrays_first g h p = either_first (k.Array g) (k.Array h) _ _ (arrays_to g h) (arrays_from g h) p

pub arrays_last : {r : Bool} (g h : Group) → (EndsApart First g.parts h.parts → ⊥) → (r ≡ true) ↔ EndsApart Last g.parts h.parts → (r ≡ true) ↔ InsideApart (k.Array g) (k.Array h)
arrays_last g h n q = either_last (k.Array g) (k.Array h) _ _ (arrays_to g h) (arrays_from g h) n q

pub maps_first : (xs ys : List MapEntry) → SomeMissed xs ys → (true ≡ true) ↔ InsideApart (k.Map xs) (k.Map ys)
maps_first xs ys p = either_first (k.Map xs) (k.Map ys) _ _ (maps_to xs ys) (maps_from xs ys) p

pub maps_last : {r : Bool} (xs ys : List MapEntry) → (SomeMissed xs ys → ⊥) → (r ≡ true) ↔ SomeMissed ys xs → (r ≡ true) ↔ InsideApart (k.Map xs) (k.Map ys)
maps_last xs ys n q = either_last (k.Map xs) (k.Map ys) _ _ (maps_to xs ys) (maps_from xs ys) n q

-- a map beside another kind
alone : {n : Count} (row : Row_of-MapEntry n) (b : Kind) → ((ys : List MapEntry) → b ≡ k.Map ys → ⊥) → NeededMisses row b ⊎ MapNeeds (λ key kind. AreMissed row key kind (HasCut row key)) b → ⊥
alone row (Map' s others) n a = n _ (Map-row s others)
alone row b n (inl a) = none_needed row (turn_needed row b a)
alone row b n (inr a) = a

pub map_alone : (a b : Kind) (xs : List MapEntry) → a ≡ k.Map xs → ((ys : List MapEntry) → b ≡ k.Map ys → ⊥) → (false ≡ true) ↔ InsideApart a b
map_alone a b xs e n = along (λ j. InsideApart (sym e j) b) (refuted (alone (block.hidden-the_row-MapEntry-3 xs) b n))
