-- There is a shape or a first fault, one of them and once.
use Rattle.std.proofs.Common.{ℕ, zero, suc, ◌+◌, ◌≡◌, ◌<◌, ◌≤◌, ◌⊎◌, ◌==◌, inl, inr, Bool, true, false, if◌then◌else◌, List, [], ◌∷◌, refl, ap, sym, ◌∙◌, subst, arith}
use Rattle.ecd_core.specs.declared.shape.Shape.{Shape}
use Rattle.ecd_core.specs.Lists.{Each, HasSome, IsIn}
use Rattle.ecd_core.specs.Walks.{greatest}
use Rattle.ecd_syntax.specs.declared.tree.Rule.{Rule}
use Rattle.ecd_expansion.specs.declared.rule.ElabRule.{ElabRule}
use Rattle.ecd_expansion.specs.declared.rule.ElabRule.TheVariants.{E1, E2, E3, E4, E5, E6, L1, L2, L3, L4, U1, U2, U3, U4}
use Rattle.ecd_expansion.specs.Expansion.{rank, ComesNoLater, IsLeast, IsFirstLimit, BreaksNoLimit, FirstFault, OfRoot, OfLimits, OfExpansion, ShapeOf, root_faults, root_meaning, root_place, root_visits}
use Rattle.ecd_expansion.specs.Limits.{BreaksLimit, Steps, Nesting, Fields, Literals, most_keyed_within}
use Rattle.ecd_expansion.specs.Told.{Fault, fault}
use Rattle.ecd_expansion.specs.Types.{Setting}
use Rattle.ecd_expansion.specs.Visits.{Visit, inside, total, visits, GoesBelow, literals_within}
use Rattle.ecd_expansion.proofs.Steps.{less_or_not, steps_show_soon}

-- ---- ranks tell rules apart

rule_of_rank : ℕ → ElabRule
rule_of_rank (suc zero) = U1
rule_of_rank (suc (suc zero)) = U2
rule_of_rank (suc (suc (suc zero))) = U3
rule_of_rank (suc (suc (suc (suc zero)))) = U4
rule_of_rank (suc (suc (suc (suc (suc zero))))) = E1
rule_of_rank (suc (suc (suc (suc (suc (suc zero)))))) = E2
rule_of_rank (suc (suc (suc (suc (suc (suc (suc zero))))))) = E3
rule_of_rank (suc (suc (suc (suc (suc (suc (suc (suc zero)))))))) = E4
rule_of_rank (suc (suc (suc (suc (suc (suc (suc (suc (suc zero))))))))) = E5
rule_of_rank (suc (suc (suc (suc (suc (suc (suc (suc (suc (suc zero)))))))))) = E6
rule_of_rank (suc (suc (suc (suc (suc (suc (suc (suc (suc (suc (suc zero))))))))))) = L1
rule_of_rank (suc (suc (suc (suc (suc (suc (suc (suc (suc (suc (suc (suc zero)))))))))))) = L2
rule_of_rank (suc (suc (suc (suc (suc (suc (suc (suc (suc (suc (suc (suc (suc zero))))))))))))) = L3
rule_of_rank _ = L4

rank_back : (rule : ElabRule) → rule_of_rank (rank rule) ≡ rule
unfolding rule_of_rank
rank_back E1 = refl
rank_back E2 = refl
rank_back E3 = refl
rank_back E4 = refl
rank_back E5 = refl
rank_back E6 = refl
rank_back L1 = refl
rank_back L2 = refl
rank_back L3 = refl
rank_back L4 = refl
rank_back U1 = refl
rank_back U2 = refl
rank_back U3 = refl
rank_back U4 = refl

same_rule : (a b : ElabRule) → rank a ≡ rank b → a ≡ b
same_rule a b e = sym (rank_back a) ∙ (ap rule_of_rank e ∙ rank_back b)

both_ranks : (a b : ElabRule) → rank a ≤ rank b → rank b ≤ rank a → a ≡ b
both_ranks a b h g = same_rule a b (omega arith)

same_fault : (a b : Fault) → a.place ≡ b.place → a.rule ≡ b.rule → a ≡ b
same_fault a b e f = ap (λ (p : ℕ). fault p a.rule) e ∙ ap (λ (r : ElabRule). fault b.place r) f

-- ---- the least of faults

both_no_later : (a b : Fault) → ComesNoLater a b → ComesNoLater b a → a ≡ b
both_no_later a b (inl h) (inl g) = absurd (omega arith)
both_no_later a b (inl h) (inr g) = let e = g.0 in absurd (omega arith)
both_no_later a b (inr h) (inl g) = let e = h.0 in absurd (omega arith)
both_no_later a b (inr h) (inr g) = same_fault a b h.0 (both_ranks a.rule b.rule h.1 g.1)

each_in : (P : Fault → Type 0) (faults : List Fault) (one : Fault) → Each P faults → IsIn one faults → P one
each_in P [] one h i = absurd i
each_in P (x ∷ xs) one h (inl e) = subst P e h.0
each_in P (x ∷ xs) one h (inr i) = each_in P xs one h.1 i

one_least : (faults : List Fault) (a b : Fault) → IsLeast faults a → IsLeast faults b → a ≡ b
one_least faults a b h g = both_no_later a b (each_in (ComesNoLater a) faults b h.least g.among) (each_in (ComesNoLater b) faults a g.least h.among)

none_least : (faults : List Fault) (a : Fault) → faults ≡ [] → IsLeast faults a → ⊥
none_least faults a e h = subst (IsIn a) e h.among

no_later_after : (a b c : Fault) → ComesNoLater a b → ComesNoLater b c → ComesNoLater a c
no_later_after a b c (inl h) (inl g) = inl (omega arith)
no_later_after a b c (inl h) (inr g) = let e = g.0 in inl (omega arith)
no_later_after a b c (inr h) (inl g) = let e = h.0 in inl (omega arith)
no_later_after a b c (inr h) (inr g) = let x = h.1 in let y = g.1 in inr (h.0 ∙ g.0, omega arith)

all_after : (a b : Fault) → ComesNoLater a b → (faults : List Fault) → Each (ComesNoLater b) faults → Each (ComesNoLater a) faults
all_after a b h [] g = tt
all_after a b h (x ∷ xs) g = (no_later_after a b x h g.0, all_after a b h xs g.1)

by_ranks : (a b : Fault) → a.place ≡ b.place → (rank a.rule < rank b.rule) ⊎ (rank b.rule ≤ rank a.rule) → ComesNoLater a b ⊎ ComesNoLater b a
by_ranks a b e (inl h) = inl (inr (e, omega arith))
by_ranks a b e (inr h) = inr (inr (sym e, h))

by_places : (a b : Fault) → b.place ≤ a.place → (b.place < a.place) ⊎ (a.place ≤ b.place) → ComesNoLater a b ⊎ ComesNoLater b a
by_places a b h (inl g) = inr (inl g)
by_places a b h (inr g) = by_ranks a b (omega arith) (less_or_not (rank a.rule) (rank b.rule))

one_way : (a b : Fault) → (a.place < b.place) ⊎ (b.place ≤ a.place) → ComesNoLater a b ⊎ ComesNoLater b a
one_way a b (inl h) = inl (inl h)
one_way a b (inr h) = by_places a b h (less_or_not b.place a.place)

itself : (a : Fault) → ComesNoLater a a
itself a = inr (refl, omega arith)

joined : (x y : Fault) (ys : List Fault) (one : Fault) → IsLeast (y ∷ ys) one → ComesNoLater x one ⊎ ComesNoLater one x → (other : Fault) × IsLeast (x ∷ y ∷ ys) other
joined x y ys one h (inl g) = (x, record { among = inl refl; least = (itself x, all_after x one g (y ∷ ys) h.least) })
joined x y ys one h (inr g) = (one, record { among = inr h.among; least = (g, h.least) })

least_exists : (x : Fault) (xs : List Fault) → (one : Fault) × IsLeast (x ∷ xs) one
least_exists x [] = (x, record { among = inl refl; least = (itself x, tt) })
least_exists x (y ∷ ys) = let r = least_exists y ys in joined x y ys r.0 r.1 (one_way x r.0 (less_or_not x.place r.0.place))

-- ---- limits

some_or_none : (P : Visit → Type 0) → ((v : Visit) → P v ⊎ (P v → ⊥)) → (vs : List Visit) → HasSome P vs ⊎ (HasSome P vs → ⊥)
some_or_none P decide [] = inr (λ h. h)
some_or_none P decide (v ∷ vs) = by_first (decide v) (some_or_none P decide vs)
  where
    by_first : P v ⊎ (P v → ⊥) → HasSome P vs ⊎ (HasSome P vs → ⊥) → HasSome P (v ∷ vs) ⊎ (HasSome P (v ∷ vs) → ⊥)
    by_first (inl h) rest = inl (inl h)
    by_first (inr h) (inl g) = inl (inr g)
    by_first (inr h) (inr g) = inr none
      where
        none : HasSome P (v ∷ vs) → ⊥
        none (inl x) = h x
        none (inr x) = g x

goes_below_or_not : (levels : ℕ) (text : List Rule) (v : Visit) → GoesBelow levels text v ⊎ (GoesBelow levels text v → ⊥)
unfolding GoesBelow
goes_below_or_not zero text v = inl tt
goes_below_or_not (suc levels) text v = some_or_none (GoesBelow levels text) (goes_below_or_not levels text) (inside text v)

-- what the four limits bound is below them
record Keeps (text : List Rule) (roots : List Visit) : Type 0 where
  steps : total (visits 4097 text) roots ≤ 4096
  nesting : HasSome (GoesBelow 96 text) roots → ⊥
  fields : greatest (most_keyed_within 96 text) roots ≤ 256
  literals : total (literals_within 96 text) roots ≤ 65536

few_steps : (text : List Rule) (roots : List Visit) (levels : ℕ) → total (visits 4097 text) roots ≤ 4096 → 4096 < total (visits levels text) roots → ⊥
few_steps text roots levels h g = let more = steps_show_soon text roots levels g in omega arith

keeping : (text : List Rule) (roots : List Visit) (rule : ElabRule) → Keeps text roots → BreaksLimit text roots rule → ⊥
keeping text roots rule k (Steps e levels h) = few_steps text roots levels k.steps h
keeping text roots rule k (Nesting e h) = k.nesting h
keeping text roots rule k (Fields e h) = let x = k.fields in omega arith
keeping text roots rule k (Literals e h) = let x = k.literals in omega arith

-- a limit that is broken, where those before it are kept
pub record FirstOf (text : List Rule) (roots : List Visit) : Type 0 where
  pub rule : ElabRule
  pub broken : BreaksLimit text roots rule
  pub first : (other : ElabRule) → BreaksLimit text roots other → rank rule ≤ rank other

no_less : (rule other : ElabRule) (n : ℕ) → n ≤ rank rule → other ≡ rule → n ≤ rank other
no_less rule other n h e = subst (λ (r : ElabRule). n ≤ rank r) (sym e) h

after_first : (text : List Rule) (roots : List Visit) (other : ElabRule) → BreaksLimit text roots other → 11 ≤ rank other
after_first text roots other (Steps e levels h) = no_less L1 other 11 (omega arith) e
after_first text roots other (Nesting e h) = no_less L2 other 11 (omega arith) e
after_first text roots other (Fields e h) = no_less L3 other 11 (omega arith) e
after_first text roots other (Literals e h) = no_less L4 other 11 (omega arith) e

after_second : (text : List Rule) (roots : List Visit) → total (visits 4097 text) roots ≤ 4096 → (other : ElabRule) → BreaksLimit text roots other → 12 ≤ rank other
after_second text roots s other (Steps e levels h) = absurd (few_steps text roots levels s h)
after_second text roots s other (Nesting e h) = no_less L2 other 12 (omega arith) e
after_second text roots s other (Fields e h) = no_less L3 other 12 (omega arith) e
after_second text roots s other (Literals e h) = no_less L4 other 12 (omega arith) e

after_third : (text : List Rule) (roots : List Visit) → total (visits 4097 text) roots ≤ 4096 → (HasSome (GoesBelow 96 text) roots → ⊥) → (other : ElabRule) → BreaksLimit text roots other → 13 ≤ rank other
after_third text roots s n other (Steps e levels h) = absurd (few_steps text roots levels s h)
after_third text roots s n other (Nesting e h) = absurd (n h)
after_third text roots s n other (Fields e h) = no_less L3 other 13 (omega arith) e
after_third text roots s n other (Literals e h) = no_less L4 other 13 (omega arith) e

after_fourth : (text : List Rule) (roots : List Visit) → total (visits 4097 text) roots ≤ 4096 → (HasSome (GoesBelow 96 text) roots → ⊥) → greatest (most_keyed_within 96 text) roots ≤ 256
    → (other : ElabRule) → BreaksLimit text roots other → 14 ≤ rank other
after_fourth text roots s n f other (Steps e levels h) = absurd (few_steps text roots levels s h)
after_fourth text roots s n f other (Nesting e h) = absurd (n h)
after_fourth text roots s n f other (Fields e h) = absurd (omega arith)
after_fourth text roots s n f other (Literals e h) = no_less L4 other 14 (omega arith) e

first_or_kept : (text : List Rule) (roots : List Visit) → FirstOf text roots ⊎ Keeps text roots
first_or_kept text roots = by_steps (less_or_not 4096 (total (visits 4097 text) roots))
  where
    by_literals : total (visits 4097 text) roots ≤ 4096 → (HasSome (GoesBelow 96 text) roots → ⊥) → greatest (most_keyed_within 96 text) roots ≤ 256
        → (65536 < total (literals_within 96 text) roots) ⊎ (total (literals_within 96 text) roots ≤ 65536) → FirstOf text roots ⊎ Keeps text roots
    by_literals s n f (inl h) = inl (record { rule = L4; broken = Literals refl h; first = after_fourth text roots s n f })
    by_literals s n f (inr h) = inr (record { steps = s; nesting = n; fields = f; literals = h })

    by_fields : total (visits 4097 text) roots ≤ 4096 → (HasSome (GoesBelow 96 text) roots → ⊥)
        → (256 < greatest (most_keyed_within 96 text) roots) ⊎ (greatest (most_keyed_within 96 text) roots ≤ 256) → FirstOf text roots ⊎ Keeps text roots
    by_fields s n (inl h) = inl (record { rule = L3; broken = Fields refl h; first = after_third text roots s n })
    by_fields s n (inr h) = by_literals s n h (less_or_not 65536 (total (literals_within 96 text) roots))

    by_nesting : total (visits 4097 text) roots ≤ 4096 → HasSome (GoesBelow 96 text) roots ⊎ (HasSome (GoesBelow 96 text) roots → ⊥) → FirstOf text roots ⊎ Keeps text roots
    by_nesting s (inl h) = inl (record { rule = L2; broken = Nesting refl h; first = after_second text roots s })
    by_nesting s (inr h) = by_fields s h (less_or_not 256 (greatest (most_keyed_within 96 text) roots))

    by_steps : (4096 < total (visits 4097 text) roots) ⊎ (total (visits 4097 text) roots ≤ 4096) → FirstOf text roots ⊎ Keeps text roots
    by_steps (inl h) = inl (record { rule = L1; broken = Steps refl 4097 h; first = after_first text roots })
    by_steps (inr h) = by_nesting h (some_or_none (GoesBelow 96 text) (goes_below_or_not 96 text) roots)

-- ---- of a setting

pub one_first : (s : Setting) (root : List ℕ) (end : ℕ) (a b : Fault) → FirstFault s root end a → FirstFault s root end b → a ≡ b
one_first s root end a b (OfRoot h) (OfRoot g) = one_least (root_faults s root end) a b h g
one_first s root end a b (OfRoot h) (OfLimits e l p) = absurd (none_least (root_faults s root end) a e h)
one_first s root end a b (OfRoot h) (OfExpansion e l m) = absurd (none_least (root_faults s root end) a e h)
one_first s root end a b (OfLimits e l p) (OfRoot g) = absurd (none_least (root_faults s root end) b e g)
one_first s root end a b (OfLimits e l p) (OfLimits f m q) = same_fault a b (p ∙ sym q) (both_ranks a.rule b.rule (l.first b.rule m.broken) (m.first a.rule l.broken))
one_first s root end a b (OfLimits e l p) (OfExpansion f m g) = absurd (m a.rule l.broken)
one_first s root end a b (OfExpansion e l m) (OfRoot g) = absurd (none_least (root_faults s root end) b e g)
one_first s root end a b (OfExpansion e l m) (OfLimits f n q) = absurd (l b.rule n.broken)
one_first s root end a b (OfExpansion e l m) (OfExpansion f n g) = one_least (root_meaning s root).faults a b m g

pub one_shape : (s : Setting) (root : List ℕ) (end : ℕ) (a b : Shape) → ShapeOf s root end a → ShapeOf s root end b → a ≡ b
one_shape s root end a b h g = sym h.is ∙ g.is

pub never_both : (s : Setting) (root : List ℕ) (end : ℕ) (one : Fault) (shape : Shape) → FirstFault s root end one → ShapeOf s root end shape → ⊥
never_both s root end one shape (OfRoot h) g = none_least (root_faults s root end) one g.root_right h
never_both s root end one shape (OfLimits e l p) g = g.limits one.rule l.broken
never_both s root end one shape (OfExpansion e l m) g = none_least (root_meaning s root).faults one g.right m

pub one_of_both : (s : Setting) (root : List ℕ) (end : ℕ) → ((shape : Shape) × ShapeOf s root end shape) ⊎ ((one : Fault) × FirstFault s root end one)
one_of_both s root end = by_root (root_faults s root end) refl
  where
    by_faults : root_faults s root end ≡ [] → BreaksNoLimit s.text root → (faults : List Fault) → (root_meaning s root).faults ≡ faults
        → ((shape : Shape) × ShapeOf s root end shape) ⊎ ((one : Fault) × FirstFault s root end one)
    by_faults e none [] g = inl ((root_meaning s root).value, record { root_right = e; limits = none; right = g; is = refl })
    by_faults e none (f ∷ fs) g =
        let r = least_exists f fs in
        inr (r.0, OfExpansion e none (subst (λ (l : List Fault). IsLeast l r.0) (sym g) r.1))

    by_limits : root_faults s root end ≡ [] → FirstOf s.text (root_visits s.text root) ⊎ Keeps s.text (root_visits s.text root)
        → ((shape : Shape) × ShapeOf s root end shape) ⊎ ((one : Fault) × FirstFault s root end one)
    by_limits e (inl h) = inr (fault (root_place s.text root) h.rule, OfLimits e (record { broken = h.broken; first = h.first }) refl)
    by_limits e (inr h) = by_faults e (λ rule. keeping s.text (root_visits s.text root) rule h) (root_meaning s root).faults refl

    by_root : (faults : List Fault) → root_faults s root end ≡ faults → ((shape : Shape) × ShapeOf s root end shape) ⊎ ((one : Fault) × FirstFault s root end one)
    by_root [] e = by_limits e (first_or_kept s.text (root_visits s.text root))
    by_root (f ∷ fs) e = let r = least_exists f fs in inr (r.0, OfRoot (subst (λ (l : List Fault). IsLeast l r.0) (sym e) r.1))
