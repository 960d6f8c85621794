-- Boxes of the code are those of the definition.
use Rattle.std.proofs.Common.{◌≡◌, ◌<◌, ◌≤◌, ◌^◌, inl, inr, List, [], ◌∷◌, map, refl, ap, arith}
use Rattle.ecd_core.specs.Lists.{Each}
use Rattle.ecd_apart.specs.Counts.{cap}
use Rattle.ecd_apart.specs.Boxes.{Box, ShareNone}
use Rattle.ecd_disjoint.specs.declared.boxes.Span.{Span}
use Rattle.ecd_disjoint.specs.Spans.{box_of, SpanApart, SpansApart}

pub shared : (b c : Span) → b.lo < 2 ^ 64 → b.hi < 2 ^ 64 → c.lo < 2 ^ 64 → c.hi < 2 ^ 64 → b.major ≡ c.major → c.lo ≤ b.hi → b.lo ≤ c.hi → b.lo ≤ b.hi → c.lo ≤ c.hi → ShareNone (box_of b) (box_of c) → ⊥
unfolding cap
shared b c f g h i e m n o q (inl (inl s)) = omega arith
shared b c f g h i e m n o q (inl (inr s)) = omega arith
shared b c f g h i e m n o q (inr (inl s)) = omega arith
shared b c f g h i e m n o q (inr (inr (inl s))) = omega arith
shared b c f g h i e m n o q (inr (inr (inr (inl s)))) = omega arith
shared b c f g h i e m n o q (inr (inr (inr (inr s)))) = omega arith

pub ruleset share = (shared)

pub one_row : (span : Span) (others : List Span) → Each (ShareNone (box_of span)) (map box_of others) ≡ SpanApart others span
one_row span [] = refl
one_row span (other ∷ others) = ap (λ (X : Type 0). ShareNone (box_of span) (box_of other) × X) (one_row span others)

pub all_rows : (spans others : List Span) → Each (λ (b : Box). Each (ShareNone b) (map box_of others)) (map box_of spans) ≡ SpansApart spans others
all_rows [] others = refl
all_rows (span ∷ spans) others = let one = one_row span others in let rest = all_rows spans others in λ j. one j × rest j
