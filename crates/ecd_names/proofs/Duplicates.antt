-- Names that the prelude or a rule before this one defines.
use Rattle.std.proofs.Common.{ℕ, suc, ◌+◌, ◌≡◌, ◌⊎◌, inl, inr, Bool, true, false, ◌||◌, List, [], ◌∷◌, ◌++◌, length, take, refl, ap, sym, ◌∙◌, subst, append-nil, zero-add, arith}
use Rattle.std.specs.Prelude.{Option, is_some}
use Rattle.std.specs.List.{Contains, position, position_from, list_any}
use Rattle.std.proofs.lemmas.List.Folds.{list_any-append}
use Rattle.ecd_prelude.specs.Prelude.{prelude_rules, float_names}
use Rattle.ecd_syntax.specs.declared.tree.Assign.TheVariants.{Define}
use Rattle.ecd_syntax.specs.declared.tree.Rule.{Rule}
use Rattle.ecd_bodies.specs.Named.{is_named, first_of}
use Rattle.ecd_names.specs.Breaks.{IsDuplicate, OfPrelude, Again}
use Rattle.ecd_names.specs.Parameters.{comes_before}
use Rattle.ecd_names.proofs.Positions.{position-from, from-before}
use Rattle.ecd_names.proofs.Nodes.{position-some}

module _ {A : Type 0} where
  take-past : (xs ys : List A) (k : ℕ) → take (length xs + k) (xs ++ ys) ≡ xs ++ take k ys
  take-past [] ys k = ap (λ n. take n ys) (zero-add k)
  take-past (x ∷ xs) ys k = let e : suc (length xs) + k ≡ suc (length xs + k) = omega arith in ap (λ n. take n (x ∷ (xs ++ ys))) e ∙ ap (λ l. x ∷ l) (take-past xs ys k)

  module _ (p : A → Bool) (xs ys : List A) where
    -- the first place at which the test passes is before the end of these
    pub before-end : (k : ℕ) → comes_before (position p (xs ++ ys)) (length xs + k) ≡ (list_any p xs || list_any p (take k ys))
    before-end k =
        ap (λ o. comes_before o (length xs + k)) (position-from p (xs ++ ys))
        ∙ (ap (comes_before (position_from p 0 (xs ++ ys))) (sym (zero-add (length xs + k)))
        ∙ (from-before p 0 (length xs + k) (xs ++ ys)
        ∙ (ap (list_any p) (take-past xs ys k) ∙ list_any-append p xs (take k ys))))

or_false : (b : Bool) → (b || false) ≡ b
or_false true = refl
or_false false = refl

or_cases : (a b : Bool) → (a || b) ≡ true → (a ≡ true) ⊎ (b ≡ true)
or_cases true b e = inl refl
or_cases false b e = inr e

or_left : (a b : Bool) → a ≡ true → (a || b) ≡ true
or_left true b e = refl
or_left false b e = absurd cc

or_right : (a b : Bool) → b ≡ true → (a || b) ≡ true
or_right true b e = refl
or_right false b e = e

module _ (text : List Rule) (index : ℕ) (rule : Rule) (first : Option ℕ) (name : List ℕ) where
  of_prelude : is_some (first_of [] rule.name.text) ≡ list_any (is_named rule.name.text) prelude_rules
  of_prelude = position-some (is_named rule.name.text) (prelude_rules ++ []) ∙ ap (list_any (is_named rule.name.text)) (append-nil prelude_rules)

  first-before : name ≡ rule.name.text → first ≡ first_of text name → (k : ℕ) → comes_before first (length prelude_rules + k) ≡ (list_any (is_named rule.name.text) prelude_rules || list_any (is_named rule.name.text) (take k text))
  first-before same is k = ap (λ o. comes_before o (length prelude_rules + k)) (is ∙ ap (first_of text) same) ∙ before-end (is_named rule.name.text) prelude_rules text k

  module _ (same : name ≡ rule.name.text) (is : first ≡ first_of text name) (no_float : Contains float_names name → ⊥) (end : ℕ) where
    no_floats : Contains float_names rule.name.text → ⊥
    no_floats c = no_float (subst (λ (n : List ℕ). Contains float_names n) (sym same) c)

    -- for `=`: a name of the prelude, or of a rule before
    pub defined-duplicate : rule.assign ≡ Define → end ≡ length prelude_rules + index → (comes_before first end ≡ true → IsDuplicate (take index text) rule) × (IsDuplicate (take index text) rule → comes_before first end ≡ true)
    defined-duplicate define e = (λ b. to (or_cases _ _ (sym look ∙ b)), λ d. look ∙ from d)
      where
        look : comes_before first end ≡ (list_any (is_named rule.name.text) prelude_rules || list_any (is_named rule.name.text) (take index text))
        look = ap (comes_before first) e ∙ first-before same is index

        to : (list_any (is_named rule.name.text) prelude_rules ≡ true) ⊎ (list_any (is_named rule.name.text) (take index text) ≡ true) → IsDuplicate (take index text) rule
        to (inl h) = OfPrelude (inl (of_prelude ∙ h))
        to (inr h) = Again define h

        from : IsDuplicate (take index text) rule → (list_any (is_named rule.name.text) prelude_rules || list_any (is_named rule.name.text) (take index text)) ≡ true
        from (OfPrelude (inl h)) = or_left _ _ (sym of_prelude ∙ h)
        from (OfPrelude (inr h)) = absurd (no_floats h)
        from (Again d h) = or_right _ _ h

    -- for `/=` and `//=`: a name of the prelude
    pub added-duplicate : (rule.assign ≡ Define → ⊥) → end ≡ length prelude_rules → (comes_before first end ≡ true → IsDuplicate (take index text) rule) × (IsDuplicate (take index text) rule → comes_before first end ≡ true)
    added-duplicate other e = (λ b. OfPrelude (inl (of_prelude ∙ (sym look ∙ b))), λ d. look ∙ from d)
      where
        none_taken : list_any (is_named rule.name.text) (take 0 text) ≡ false
        none_taken = refl

        look : comes_before first end ≡ list_any (is_named rule.name.text) prelude_rules
        look =
            let more : end ≡ length prelude_rules + 0 = omega (arith, e) in
            ap (comes_before first) more ∙ (first-before same is 0 ∙ (ap (λ b. list_any (is_named rule.name.text) prelude_rules || b) none_taken ∙ or_false _))

        from : IsDuplicate (take index text) rule → list_any (is_named rule.name.text) prelude_rules ≡ true
        from (OfPrelude (inl h)) = sym of_prelude ∙ h
        from (OfPrelude (inr h)) = absurd (no_floats h)
        from (Again d h) = absurd (other d)
