-- The bodies of names that the text does not touch.
use Rattle.std.proofs.Common.{◌≡◌, inl, ℕ, zero, suc, ◌<◌, Bool, true, false, cond, ◌||◌, ◌&&◌, List, [], ◌∷◌, ◌++◌, length, get_or, map, nat_eq, refl, sym, ap, ◌∙◌, append-nil, length-append, arith, Contains, is_some, eqb-true}
use Rattle.std.specs.Prelude.{slice_get, IsSome}
use Rattle.std.specs.List.{filter, list_any, list_all, position}
use Rattle.std.proofs.lemmas.List.Elements.{filter-append}
use Rattle.ecd_prelude.specs.Laws.{name_in}
use Rattle.ecd_prelude.specs.Prelude.{prelude_rules, float_names}
use Rattle.ecd_syntax.specs.declared.tree.Rule.{Rule}
use Rattle.ecd_bodies.specs.Laws.{UntouchedKeepBodies, PreludeGivesOneBody, FloatsHaveNoBody, UndefinedHaveNoBody}
use Rattle.ecd_bodies.specs.Named.{is_named, all_rules, bodies_of}
use Rattle.ecd_bodies.proofs.Numbering.{first_number, length-numbers}
use Rattle.ecd_bodies.specs.Numbers.{numbers_from}

module _ {A : Type 0} (p : A → Bool) where
  none_left : (xs : List A) → list_any p xs ≡ false → filter p xs ≡ []
  none_left [] h = refl
  none_left (x ∷ xs) h = by (p x) h (none_left xs)
    where
      by : (b : Bool) → (b || list_any p xs) ≡ false → (list_any p xs ≡ false → filter p xs ≡ []) → cond b (x ∷ filter p xs) (filter p xs) ≡ []
      by true e rest = cc
      by false e rest = rest e

  none_found : (xs : List A) → length (filter p xs) ≡ 0 → list_any p xs ≡ false
  none_found [] h = refl
  none_found (x ∷ xs) h = by (p x) h (none_found xs)
    where
      by : (b : Bool) → length (cond b (x ∷ filter p xs) (filter p xs)) ≡ 0 → (length (filter p xs) ≡ 0 → list_any p xs ≡ false) → (b || list_any p xs) ≡ false
      by true e rest = absurd (omega (arith, e))
      by false e rest = rest e

module _ (front text : List Rule) (name : List ℕ) where
  abbrev p : Rule → Bool
  p = is_named name

  alone : filter p (front ++ []) ≡ filter p front
  alone = ap (filter p) (append-nil front)

  kept : list_any p text ≡ false → filter p (front ++ text) ≡ filter p (front ++ [])
  kept h = filter-append p front text ∙ (ap (λ (l : List Rule). filter p front ++ l) (none_left p text h) ∙ (append-nil (filter p front) ∙ sym alone))

  untouched : filter p (front ++ text) ≡ filter p (front ++ []) → list_any p text ≡ false
  untouched h =
      let same = ap length (sym (filter-append p front text) ∙ (h ∙ alone)) in
      none_found p text (omega (arith, same, length-append (filter p front) (filter p text)))

pub untouched_keep_bodies : UntouchedKeepBodies
untouched_keep_bodies text name = (kept prelude_rules text name, untouched prelude_rules text name)

-- ---- by trial of each name

all_pass : {A : Type 0} (test : A → Bool) (xs : List A) (x : A) → list_all test xs ≡ true → Contains xs x → test x ≡ true
all_pass {A = A} test xs x h c = each xs h c.0 c.1 c.2
  where
    first : (a b : Bool) → (a && b) ≡ true → (a ≡ true) × (b ≡ true)
    first true true e = (refl, refl)
    first true false e = cc
    first false b e = cc

    each : (ys : List A) → list_all test ys ≡ true → (k : ℕ) → k < length ys → get_or ys k x ≡ x → test x ≡ true
    each [] e k lt is = absurd (omega (arith, lt))
    each (y ∷ ys) e zero lt is = ap test (sym is) ∙ (first (test y) (list_all test ys) e).0
    each (y ∷ ys) e (suc k) lt is = each ys (first (test y) (list_all test ys) e).1 k (omega (arith, lt)) is

abbrev count : List ℕ → ℕ
count name = length (bodies_of [] name)

pub prelude_gives_one_body : PreludeGivesOneBody
prelude_gives_one_body name c = eqb-true (count name) 1 (all_pass (λ n. nat_eq (count n) 1) (map name_in prelude_rules) name refl c)

empty : {A : Type 0} (xs : List A) → length xs ≡ 0 → xs ≡ []
empty [] h = refl
empty (x ∷ xs) h = absurd (omega (arith, h))

pub floats_have_no_body : FloatsHaveNoBody
floats_have_no_body name c = empty (bodies_of [] name) (eqb-true (count name) 0 (all_pass (λ n. nat_eq (count n) 0) float_names name refl c))

none_first : (rules : List Rule) (name : List ℕ) → (IsSome (position (is_named name) rules) → ⊥) → filter (is_named name) rules ≡ []
none_first rules name never = empty (filter (is_named name) rules) (by (numbers_from 0 rules name) refl)
  where
    by : (l : List ℕ) → numbers_from 0 rules name ≡ l → length (filter (is_named name) rules) ≡ 0
    by [] e = sym (length-numbers name 0 rules) ∙ ap length e
    by (n ∷ ns) e = absurd (never (ap is_some (sym (first_number name rules) ∙ ap (λ (l : List ℕ). slice_get l 0) e)))

pub undefined_have_no_body : UndefinedHaveNoBody
undefined_have_no_body text name never = none_first (all_rules text) name (λ s. never (inl s))
