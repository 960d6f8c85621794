-- The first broken rule of a text, from those of its rules.
use Rattle.std.proofs.Common.{ℕ, zero, suc, ◌+◌, ◌^◌, ◌≡◌, ◌<◌, ◌≤◌, ◌⊎◌, inl, inr, Bool, true, false, List, [], ◌∷◌, ◌++◌, length, take, refl, ap, sym, ◌∙◌, subst, zero-add, arith}
use Rattle.std.specs.Prelude.{Option, Some, None, slice_get, if◌then◌else◌}
use Rattle.std.specs.List.{Any, filter, AllZip, list_any}
use Rattle.std.proofs.lemmas.List.Folds.{Any-from_list_any}
use Rattle.std.proofs.lemmas.Option.{slice_get_within, slice_get-get_or}
use Rattle.ecd_syntax.specs.declared.tree.Rule.{Rule}
use Rattle.ecd_uses.specs.declared.site.Site.TheVariants.{Use, Parenthesis}
use Rattle.ecd_bodies.specs.Named.{all_rules, first_arity, is_float, is_named}
use Rattle.ecd_bodies.specs.Reaching.{ReachesWithin, IsRanked}
use Rattle.ecd_first.specs.declared.first.Broken.{Broken}
use Rattle.ecd_names.specs.declared.scope.Scope.{Scope}
use Rattle.ecd_names.specs.declared.fault.NameFault.TheVariants.{At}
use Rattle.ecd_names.specs.Breaks.{IsOfPrelude, OfPrelude, Breaks, BreaksNone, IsFirst, RuleBreaks, UseBreaks, NameBreaks, AtName, AtParameter, AtSite, Undefined, Recursive, OtherArity, OtherKind, Duplicate, OtherParameters, OtherAssign}
use Rattle.ecd_first.specs.Firsts.{offset, Sees, AnyBelow}
use Rattle.ecd_names.specs.Laws.{HasOneFirst, NoneIsFirst, RankedBreaksNoThird, PreludeIsKept}
use Rattle.ecd_names.specs.Names.{BreaksAt, HasFewParameters}
use Rattle.ecd_names.specs.Scopes.{IsScope, AreScopes}
use Rattle.ecd_first.proofs.Seeing.{offsets, sees_same, first_is, none_is}
use Rattle.ecd_names.proofs.Naming.{same-name}
use Rattle.ecd_names.proofs.Judging.{uses_it}
use Rattle.ecd_names.proofs.Walking.{some_same}

-- ---- rule by rule

module _ (text : List Rule) (a b : Option (Broken ℕ)) where
  pub sees_at : (index : ℕ) (rule : Rule) → slice_get text index ≡ Some rule → Sees offset a b (RuleBreaks text (take index text) rule) → Sees offset a b (BreaksAt text index)
  sees_at index rule stands s = sees_same offset a b (RuleBreaks text (take index text) rule) (BreaksAt text index) (λ place number h. record { rule = rule; stands = stands; broken = h }) from s
    where
      from : (place number : ℕ) → BreaksAt text index place number → RuleBreaks text (take index text) rule place number
      from place number h = subst (λ (r : Rule). RuleBreaks text (take index text) r place number) (some_same (sym h.stands ∙ stands)) h.broken

  pub sees_text : (end : ℕ) → length text ≤ end → Sees offset a b (AnyBelow (BreaksAt text) end) → Sees offset a b (Breaks text)
  sees_text end all s = sees_same offset a b (AnyBelow (BreaksAt text) end) (Breaks text)
      (λ place number h. record { index = h.index; rule = h.broken.rule; stands = h.broken.stands; broken = h.broken.broken })
      (λ place number h. record { index = h.index; below = omega (arith, slice_get_within text h.index h.rule h.stands); broken = record { rule = h.rule; stands = h.stands; broken = h.broken } }) s

pub slice_get-past : {A : Type 0} (xs ys : List A) (k : ℕ) → slice_get (xs ++ ys) (length xs + k) ≡ slice_get ys k
slice_get-past [] ys k = ap (slice_get ys) (zero-add k)
slice_get-past (x ∷ xs) ys k = let e : suc (length xs) + k ≡ suc (length xs + k) = omega arith in ap (slice_get (x ∷ (xs ++ ys))) e ∙ slice_get-past xs ys k

-- ---- the first

pub one-first : HasOneFirst
one-first text place number other_place other f g = by_order (f.first other_place other g.broken) (g.first place number f.broken)
  where
    by_order : (place < other_place) ⊎ ((place ≡ other_place) × (number ≤ other)) → (other_place < place) ⊎ ((other_place ≡ place) × (other ≤ number)) → (place ≡ other_place) × (number ≡ other)
    by_order (inl h) (inl k) = let none : ⊥ = omega arith in absurd none
    by_order (inl h) (inr k) = let none : ⊥ = omega (arith, h, k.0) in absurd none
    by_order (inr h) (inl k) = let none : ⊥ = omega (arith, h.0, k) in absurd none
    by_order (inr h) (inr k) = (h.0, omega (arith, h.1, k.1))

pub none-first : NoneIsFirst
none-first text place number none f = none place number f.broken

module _ (text : List Rule) (broken : Option (Broken ℕ)) (sees : Sees offset None broken (Breaks text)) where
  pub first-broken : (b : Broken ℕ) → broken ≡ Some b → IsFirst text b.place b.rule
  first-broken b e = let both = first_is offset broken (Breaks text) b sees e in record { broken = both.0; first = λ place number h. offsets b.place b.rule place number (both.1 place number h) }

  pub none-broken : broken ≡ None → BreaksNone text
  none-broken e = none_is offset broken (Breaks text) sees e

  pub only-broken : (b : Broken ℕ) → broken ≡ Some b → (place number : ℕ) → IsFirst text place number → At b.place b.rule ≡ At place number
  only-broken b e place number f = let same = one-first text b.place b.rule place number (first-broken b e) f in ap (λ p. At p b.rule) same.0 ∙ ap (At place) same.1

-- ---- numbers of parameters

first-few : (p : Rule → Bool) (rules : List Rule) (scopes : List Scope) → AllZip IsScope rules scopes → first_arity (filter p rules) < 2 ^ 32
first-few p [] scopes all = omega arith
first-few p (rule ∷ rules) [] all = absurd all
first-few p (rule ∷ rules) (scope ∷ scopes) all = by_test (p rule) all.0 (first-few p rules scopes all.1)
  where
    by_test : (b : Bool) → IsScope rule scope → first_arity (filter p rules) < 2 ^ 32 → first_arity (if b then rule ∷ filter p rules else filter p rules) < 2 ^ 32
    by_test true is rest = is.counted
    by_test false is rest = rest

pub few-parameters : (text : List Rule) (scopes : List Scope) → AreScopes (all_rules text) scopes → HasFewParameters text
few-parameters text scopes are name = by_test (is_float name)
  where
    by_test : (b : Bool) → (if b then 0 else first_arity (filter (is_named name) (all_rules text))) < 2 ^ 32
    by_test true = omega arith
    by_test false = first-few (is_named name) (all_rules text) scopes are.all

-- ---- a ranking and N3

module _ (text : List Rule) (ranked : IsRanked text) where
  not-above : (steps : ℕ) (a b : List ℕ) → ReachesWithin text steps a b → ranked.rank b ≤ ranked.rank a
  not-above zero a b same = let e : ranked.rank a ≡ ranked.rank b = ap ranked.rank same in omega (arith, e)
  not-above (suc steps) a b walk = omega (arith, ranked.falls a walk.0 walk.1, not-above steps walk.0 b walk.2)

  never-third : (place : ℕ) (before : List Rule) (index : ℕ) (rule : Rule) → slice_get text index ≡ Some rule → RuleBreaks text before rule place 3 → ⊥
  never-third place before index rule stands (AtName e h) = at_name h
    where
      at_name : NameBreaks text before rule 3 → ⊥
      at_name (Duplicate n d) = let none : ⊥ = omega arith in none
      at_name (OtherParameters n d) = let none : ⊥ = omega arith in none
      at_name (OtherAssign n d) = let none : ⊥ = omega arith in none
  never-third place before index rule stands (AtParameter i param e n r) = let none : ⊥ = omega arith in none
  never-third place before index rule stands (AtSite (Parenthesis at lead) c h) = let none : ⊥ = omega (arith, h.1) in none
  never-third place before index rule stands (AtSite (Use name args asked) c h) = at_use h.1
    where
      at_use : UseBreaks text rule name.text args asked 3 → ⊥
      at_use (Undefined n d) = let none : ⊥ = omega arith in none
      at_use (Recursive n r) =
          let falls = ranked.falls rule.name.text name.text (uses_it text index rule (Use name args asked) name args asked stands c refl r.free) in
          let none : ⊥ = omega (arith, falls, not-above r.back.steps name.text rule.name.text r.back.walk) in none
      at_use (OtherArity n d) = let none : ⊥ = omega arith in none
      at_use (OtherKind n d) = let none : ⊥ = omega arith in none

pub ranked-third : RankedBreaksNoThird
ranked-third text place ranked b = never-third text ranked place (take b.index text) b.index b.rule b.stands b.broken

-- ---- names of the prelude

pub prelude-kept : PreludeIsKept
prelude-kept text name none of = by_test (list_any (is_named name) text) refl
  where
    duplicate : Any (λ rule. is_named name rule ≡ true) text → ⊥
    duplicate any =
        let rule = any.1 in
        let same : rule.name.text ≡ name = same-name rule.name.text name any.4 in
        none rule.name.at 1 (record {
          index = any.0;
          rule = rule;
          stands = slice_get-get_or text any.0 rule any.2 ∙ ap Some any.3;
          broken = AtName refl (Duplicate refl (OfPrelude (subst (λ (n : List ℕ). IsOfPrelude n) (sym same) of)));
        })

    by_test : (b : Bool) → list_any (is_named name) text ≡ b → b ≡ false
    by_test true e = absurd (duplicate (Any-from_list_any (is_named name) text e))
    by_test false e = refl
