-- Names that reach themselves do so by a rule of the text.
use Rattle.std.proofs.Common.{ℕ, zero, suc, ◌≡◌, ◌<◌, ◌≤◌, ◌⊎◌, inl, inr, List, refl, ap, sym, subst, arith}
use Rattle.std.specs.List.{Contains}
use Rattle.std.proofs.lemmas.List.Elements.{Contains-append_cases}
use Rattle.ecd_prelude.specs.Prelude.{prelude_rules}
use Rattle.ecd_syntax.specs.declared.tree.Rule.{Rule}
use Rattle.ecd_uses.specs.declared.site.Site.TheVariants.{Use}
use Rattle.ecd_bodies.specs.Reaching.{Uses, ReachesWithin, ReachesName}
use Rattle.ecd_names.specs.Breaks.{Breaks, AtSite, Recursive}
use Rattle.ecd_names.proofs.Walking.{at_element}
use Rattle.ecd_names.proofs.Preludes.{prelude_rank, prelude-falls}

module _ (text : List Rule) where
  reaches_then : (steps : ℕ) (a b c : List ℕ) → ReachesWithin text steps a b → ReachesName text b c → ReachesName text a c
  reaches_then zero a b c same l = subst (λ (n : List ℕ). ReachesName text n c) (sym same) l
  reaches_then (suc steps) a b c walk l = let rest = reaches_then steps walk.0 b c walk.2 l in record { steps = suc rest.steps; walk = (walk.0, walk.1, rest.walk) }

  reaches-on : (a b c : List ℕ) → ReachesName text a b → Uses text b c → ReachesName text a c
  reaches-on a b c l u = reaches_then l.steps a b c l.walk (record { steps = 1; walk = (c, u, refl) })

  -- a rule of the text that uses a name which reaches its own breaks N3
  text-breaks : (a b : List ℕ) (u : Uses text a b) → Contains text u.rule → ReachesName text b a → Breaks text u.name.at 3
  text-breaks a b u c back =
      let place = at_element text u.rule c in
      record {
        index = place.0;
        rule = u.rule;
        stands = place.1;
        broken = AtSite (Use u.name u.args u.asked) u.used.among (refl, Recursive refl (record { free = u.used.free; back = subst (λ (n : List ℕ). ReachesName text u.name.text n) (sym u.named) (subst (λ (n : List ℕ). ReachesName text n a) (sym u.is) back) }));
      }

  module _ (none : (place : ℕ) → Breaks text place 3 → ⊥) where
    -- so a use on the way round is one of the prelude, and its rank falls
    falls-round : (a b : List ℕ) → Uses text a b → ReachesName text b a → prelude_rank b < prelude_rank a
    falls-round a b u back = by_place (Contains-append_cases prelude_rules text u.rule u.among)
      where
        by_place : Contains prelude_rules u.rule ⊎ Contains text u.rule → prelude_rank b < prelude_rank a
        by_place (inl c) =
            let falls = (prelude-falls u.rule c).falls u.name u.args u.asked u.used.among in
            subst (λ (n : List ℕ). prelude_rank n < prelude_rank a) u.is (subst (λ (n : List ℕ). prelude_rank u.name.text < prelude_rank n) u.named falls)
        by_place (inr c) = absurd (none u.name.at (text-breaks a b u c back))

    not-above : (steps : ℕ) (a b c : List ℕ) → ReachesName text a b → ReachesWithin text steps b c → ReachesName text c a → prelude_rank c ≤ prelude_rank b
    not-above zero a b c l same back = let e : prelude_rank b ≡ prelude_rank c = ap prelude_rank same in omega (arith, e)
    not-above (suc steps) a b c l walk back =
        let round : ReachesName text walk.0 b = reaches_then steps walk.0 c b walk.2 (reaches_then back.steps c a b back.walk l) in
        omega (arith, falls-round b walk.0 walk.1 round, not-above steps a walk.0 c (reaches-on a b walk.0 l walk.1) walk.2 back)

    pub never-back : (a b : List ℕ) → Uses text a b → ReachesName text b a → ⊥
    never-back a b u back =
        let falls = falls-round a b u back in
        let above = not-above back.steps a b a (record { steps = 1; walk = (b, u, refl) }) back.walk (record { steps = 0; walk = refl }) in
        let none : ⊥ = omega (arith, falls, above) in none
