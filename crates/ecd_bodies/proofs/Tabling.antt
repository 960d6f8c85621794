-- What a table answers.
use Rattle.std.proofs.Common.{◌≡◌, ◌↔◌, ℕ, ◌+◌, ◌-◌, suc, ◌<◌, ◌≤◌, ◌^◌, Bool, true, cond, List, [], ◌∷◌, ◌++◌, length, Some, None, nat_le, get_or, refl, Vec, Global, sym, ap, ◌∙◌, subst, ⊎_elim, arith}
use Rattle.std.specs.Prelude.{slice_get, false}
use Rattle.std.specs.List.{Contains, filter, list_any}
use Rattle.std.proofs.lemmas.Bool.{cases_Bool, cond-true, cond-false}
use Rattle.std.proofs.lemmas.Cmp.{nat_list_eq_equiv}
use Rattle.std.proofs.lemmas.Map.Views.{Contains-from_any, list_any-from_Contains}
use Rattle.std.proofs.lemmas.Option.{slice_get-get_or, slice_get_within}
use Rattle.std.proofs.lemmas.Slice.Eq.{bytes_eq-Decides}
use Rattle.ecd_prelude.specs.Prelude.{prelude_rules, float_names}
use Rattle.ecd_syntax.specs.declared.tree.Rule.{Rule}
use Rattle.ecd_bodies.specs.Named.{is_named, all_rules, bodies_of, first_of, first_arity, is_float, arity_of}
use Rattle.ecd_bodies.specs.Kinds.{IsGroup}
use Rattle.ecd_bodies.specs.Causes.{AreJudged}
use Rattle.ecd_prelude.specs.Sockets.{is_group_socket}
use Rattle.ecd_bodies.specs.Numbers.{numbers_in, first_in, numbers_from, IsNumbered}
use Rattle.ecd_bodies.specs.Tables.{IsTable}
use Rattle.ecd_bodies.proofs.Firsts.{first_at}
use Rattle.ecd_bodies.proofs.Judging.{without_rule}
use Rattle.ecd_bodies.proofs.Numbering.{slice_get_left, slice_get_right, body_at, no_body, length-numbers, first_number, last_behind, none_behind}

length-filter-le : {A : Type 0} (p : A → Bool) (xs : List A) → length (filter p xs) ≤ length xs
length-filter-le p [] = omega arith
length-filter-le p (x ∷ xs) = by (p x) (length-filter-le p xs)
  where
    by : (b : Bool) → length (filter p xs) ≤ length xs → length (cond b (x ∷ filter p xs) (filter p xs)) ≤ suc (length xs)
    by true e = omega (arith, e)
    by false e = omega (arith, e)

pub last_place : (xs : List ℕ) (x : ℕ) → slice_get xs (length xs - 1) ≡ Some x → length xs - 1 + 1 ≡ length xs
last_place [] x h = cc
last_place (y ∷ ys) x h = omega arith

pub no_last : (xs : List ℕ) → slice_get xs (length xs - 1) ≡ None → xs ≡ []
no_last [] h = refl
no_last (y ∷ ys) h = absurd (some (length (y ∷ ys) - 1) (omega arith) h)
  where
    some : (i : ℕ) → i < length (y ∷ ys) → slice_get (y ∷ ys) i ≡ None → ⊥
    some i lt e = let is : slice_get (y ∷ ys) i ≡ Some (get_or (y ∷ ys) i 0) = slice_get-get_or (y ∷ ys) i 0 lt in cc

-- ---- a table is made

pub all_same : (front prelude back text : List Rule) → front ≡ prelude → prelude ≡ prelude_rules → back ≡ text → front ++ back ≡ all_rules text
all_same front prelude back text e f g = ap (λ (l : List Rule). l ++ back) (e ∙ f) ∙ ap all_rules g

module _ (entries : List (Vec ℕ Global × List ℕ)) where
  pub numbered_all : (rules text : List Rule) → rules ≡ all_rules text → IsNumbered entries rules → IsNumbered entries (all_rules text)
  numbered_all rules text same numbered = subst (IsNumbered entries) same numbered

  pub table_made : (prelude text back rules : List Rule) (groups : List Bool) → prelude ≡ prelude_rules → rules ≡ all_rules text → back ≡ text → length rules < 2 ^ 32 → IsNumbered entries rules
      → AreJudged back (first_in entries) groups → length (all_rules back) < length groups → IsTable prelude text entries groups
  table_made prelude text back rules groups first same is few numbered judged marks = record {
    first = first;
    counted = subst (λ (l : List Rule). length l < 2 ^ 32) same few;
    numbered = subst (IsNumbered entries) same numbered;
    judged = subst (λ (l : List Rule). AreJudged l (first_in entries) groups) is judged;
    marks = subst (λ (l : List Rule). length (all_rules l) < length groups) is marks;
  }

-- ---- what it answers

module _ (prelude text : List Rule) (entries : List (Vec ℕ Global × List ℕ)) (groups : List Bool) (t : IsTable prelude text entries groups) where
  all : prelude ++ text ≡ all_rules text
  all = ap (λ (l : List Rule). l ++ text) t.first

  pub rule_before : (n : ℕ) → n < length prelude → slice_get prelude n ≡ slice_get (all_rules text) n
  rule_before n lt = sym (slice_get_left prelude text n lt) ∙ ap (λ (l : List Rule). slice_get l n) all

  pub rule_behind : (n : ℕ) → length prelude ≤ n → slice_get text (n - length prelude) ≡ slice_get (all_rules text) n
  rule_behind n le = sym (slice_get_right prelude text n le) ∙ ap (λ (l : List Rule). slice_get l n) all

  module _ (name : List ℕ) where
    pub first_is : first_in entries name ≡ first_of text name
    first_is = ap (λ (l : List ℕ). slice_get l 0) (t.numbered name) ∙ first_number name (all_rules text)

    pub count_is : length (numbers_in entries name) ≡ length (bodies_of text name)
    count_is = ap length (t.numbered name) ∙ length-numbers name 0 (all_rules text)

    pub count_fits : length (numbers_in entries name) < 2 ^ 32
    count_fits = let few = length-filter-le (is_named name) (all_rules text) in omega (arith, count_is, few, t.counted)

    pub body_is : (i k : ℕ) → slice_get (numbers_in entries name) i ≡ Some k → slice_get (all_rules text) k ≡ slice_get (bodies_of text name) i
    body_is i k h =
        let r = body_at name 0 i k (all_rules text) (ap (λ (l : List ℕ). slice_get l i) (sym (t.numbered name)) ∙ h) in
        let same : k ≡ r.place = omega (arith, r.is) in
        ap (slice_get (all_rules text)) same ∙ r.body

    pub no_body_is : (i : ℕ) → slice_get (numbers_in entries name) i ≡ None → None ≡ slice_get (bodies_of text name) i
    no_body_is i h = sym (no_body name 0 i (all_rules text) (ap (λ (l : List ℕ). slice_get l i) (sym (t.numbered name)) ∙ h))

    numbered : numbers_in entries name ≡ numbers_from 0 (prelude ++ text) name
    numbered = t.numbered name ∙ ap (λ (l : List Rule). numbers_from 0 l name) (sym all)

    pub last_is : (i k : ℕ) → i + 1 ≡ length (numbers_in entries name) → slice_get (numbers_in entries name) i ≡ Some k → nat_le (length prelude) k ≡ list_any (is_named name) text
    last_is i k last there = last_behind name prelude text i k (omega (arith, last, ap length numbered)) (ap (λ (l : List ℕ). slice_get l i) (sym numbered) ∙ there)

    pub none_is : numbers_in entries name ≡ [] → false ≡ list_any (is_named name) text
    none_is none = none_behind name prelude text (sym numbered ∙ none)

    pub judged_is : (k : ℕ) → first_of text name ≡ Some k → (get_or groups k false ≡ true) ↔ IsGroup text name
    judged_is k h = t.judged name k (first_is ∙ h)

    pub marked_is : (k : ℕ) → first_of text name ≡ Some k → k < length groups
    marked_is k h =
        let f = first_at (all_rules text) name k h in
        let lt = slice_get_within (all_rules text) k f.rule f.stands in
        omega (arith, lt, t.marks)

  pub unruled_is : (name : List ℕ) → first_of text name ≡ None → (is_group_socket name ≡ true) ↔ IsGroup text name
  unruled_is name h = without_rule text (all_rules text) refl (first_in entries) first_is (length (all_rules text)) refl name (first_is name ∙ h)

-- ---- the number of parameters

pub arity_some : (rules : List Rule) (rule : Rule) → slice_get rules 0 ≡ Some rule → length rule.params ≡ first_arity rules
arity_some [] rule h = cc
arity_some (x ∷ xs) rule h = let same : x ≡ rule = cc in ap (λ (r : Rule). length r.params) (sym same)

pub arity_none : (rules : List Rule) → slice_get rules 0 ≡ None → 0 ≡ first_arity rules
arity_none [] h = refl
arity_none (x ∷ xs) h = cc

module _ (text : List Rule) (name : List ℕ) where
  pub float-takes_none : Contains float_names name → 0 ≡ arity_of text name
  float-takes_none h = sym (cond-true (is_float name) 0 (first_arity (bodies_of text name)) (list_any-from_Contains nat_list_eq_equiv name float_names h))

  pub others-take : (Contains float_names name → ⊥) → arity_of text name ≡ first_arity (bodies_of text name)
  others-take none = ⊎_elim
      (λ (e : is_float name ≡ true). absurd (none (Contains-from_any (λ x y. (bytes_eq-Decides x y).0) name float_names e)))
      (λ (e : is_float name ≡ false). cond-false (is_float name) 0 (first_arity (bodies_of text name)) e)
      (cases_Bool (is_float name))
