-- The numbers of the rules of a name.
use Rattle.std.proofs.Common.{◌≡◌, ℕ, zero, suc, ◌+◌, ◌-◌, ◌<◌, ◌≤◌, Bool, true, false, cond, ◌||◌, List, [], ◌∷◌, ◌++◌, length, get_or, take, Some, None, nat_lt, nat_le, length-append, refl, sym, ap, ◌∙◌, append_assoc, append-nil, arith, ◌⊎◌, inl, inr}
use Rattle.std.specs.Prelude.{slice_get}
use Rattle.std.specs.List.{filter, position, position_from, list_any}
use Rattle.std.proofs.lemmas.Bool.{cases_lt}
use Rattle.std.proofs.lemmas.Bool.Decides.{nat_tests}
use Rattle.std.proofs.lemmas.Iterator.Adapters.{position_from-zero}
use Rattle.std.proofs.lemmas.List.{take_more}
use Rattle.ecd_syntax.specs.declared.tree.Rule.{Rule}
use Rattle.ecd_bodies.specs.Named.{is_named}
use Rattle.ecd_bodies.specs.Numbers.{with_number, numbers_from}

add_zero : (n : ℕ) → n + 0 ≡ n
add_zero n = omega arith

add_suc : (n m : ℕ) → n + 1 + m ≡ n + suc m
add_suc n m = omega arith

pub slice_get_left : {A : Type 0} (xs ys : List A) (i : ℕ) → i < length xs → slice_get (xs ++ ys) i ≡ slice_get xs i
slice_get_left [] ys i lt = absurd (omega (arith, lt))
slice_get_left (x ∷ xs) ys zero lt = refl
slice_get_left (x ∷ xs) ys (suc i) lt = slice_get_left xs ys i (omega (arith, lt))

pub slice_get_right : {A : Type 0} (xs ys : List A) (i : ℕ) → length xs ≤ i → slice_get (xs ++ ys) i ≡ slice_get ys (i - length xs)
slice_get_right [] ys i le = let same : i ≡ i - 0 = omega arith in ap (slice_get ys) same
slice_get_right (x ∷ xs) ys zero le = absurd (omega (arith, le))
slice_get_right (x ∷ xs) ys (suc i) le =
    let same : i - length xs ≡ suc i - suc (length xs) = omega arith in
    slice_get_right xs ys i (omega (arith, le)) ∙ ap (slice_get ys) same

le_true : (a b : ℕ) → a ≤ b → nat_le a b ≡ true
le_true a b h = grind (arith, nat_tests)

le_false : (a b : ℕ) → b < a → nat_le a b ≡ false
le_false a b h = grind (arith, nat_tests)

lt_true : (a b : ℕ) → a < b → nat_lt a b ≡ true
lt_true a b h = grind (arith, nat_tests)

module _ (name : List ℕ) where
  -- ---- one list behind another

  pub numbers-append : (n : ℕ) (xs ys : List Rule) → numbers_from n (xs ++ ys) name ≡ numbers_from n xs name ++ numbers_from (n + length xs) ys name
  numbers-append n [] ys = ap (λ (m : ℕ). numbers_from m ys name) (sym (add_zero n))
  numbers-append n (x ∷ xs) ys =
      let rest : numbers_from (n + 1) (xs ++ ys) name ≡ numbers_from (n + 1) xs name ++ numbers_from (n + suc (length xs)) ys name =
      numbers-append (n + 1) xs ys ∙ ap (λ (m : ℕ). numbers_from (n + 1) xs name ++ numbers_from m ys name) (add_suc n (length xs)) in
      by (is_named name x) (numbers_from (n + 1) xs name) (numbers_from (n + suc (length xs)) ys name) (numbers_from (n + 1) (xs ++ ys) name) rest
    where
      by : (b : Bool) (a c d : List ℕ) → d ≡ a ++ c → cond b (n ∷ d) d ≡ cond b (n ∷ a) a ++ c
      by true a c d e = ap (λ (l : List ℕ). n ∷ l) e
      by false a c d e = e

  -- ---- one more rule

  one : (b : Bool) (n : ℕ) (front : List ℕ) → front ++ cond b (n ∷ []) [] ≡ cond b (front ++ n ∷ []) front
  one true n front = refl
  one false n front = append-nil front

  pub numbers_more : (n i : ℕ) (rules : List Rule) (rule : Rule) → i < length rules → rule ≡ get_or rules i rule →
      numbers_from n (take (i + 1) rules) name ≡ with_number (numbers_from n (take i rules) name) name rule.name.text (n + length (take i rules))
  numbers_more n i rules rule lt is =
      ap (λ (xs : List Rule). numbers_from n xs name) (take_more rules i rule lt ∙ ap (λ (x : Rule). take i rules ++ x ∷ []) (sym is))
      ∙ (numbers-append n (take i rules) (rule ∷ []) ∙ one (is_named name rule) (n + length (take i rules)) (numbers_from n (take i rules) name))

  pub joined : (b : Bool) (base front : List ℕ) (n : ℕ) → cond b ((base ++ front) ++ n ∷ []) (base ++ front) ≡ base ++ cond b (front ++ n ∷ []) front
  joined true base front n = append_assoc base front (n ∷ [])
  joined false base front n = refl

  pub with_same : (a b x y : List ℕ) (n m : ℕ) → a ≡ b → x ≡ y → n ≡ m → with_number a name x n ≡ with_number b name y m
  with_same a b x y n m e f g = ap (λ (l : List ℕ). with_number l name x n) e ∙ (ap (λ (z : List ℕ). with_number b name z n) f ∙ ap (λ (k : ℕ). with_number b name y k) g)

  -- ---- what stands at a number

  pub record BodyAt (n i k : ℕ) (rules : List Rule) : Type 0 where
    pub place : ℕ
    pub is : k ≡ n + place
    pub within : place < length rules
    pub body : slice_get rules place ≡ slice_get (filter (is_named name) rules) i

  pub body_at : (n i k : ℕ) (rules : List Rule) → slice_get (numbers_from n rules name) i ≡ Some k → BodyAt n i k rules
  body_at n i k [] h = cc
  body_at n i k (x ∷ xs) h = let r = by (is_named name x) i (λ j. body_at (n + 1) j k xs) h in record { place = r.0; is = r.1; within = r.2; body = r.3 }
    where
      by : (b : Bool) (j : ℕ) → ((m : ℕ) → slice_get (numbers_from (n + 1) xs name) m ≡ Some k → BodyAt (n + 1) m k xs)
          → slice_get (cond b (n ∷ numbers_from (n + 1) xs name) (numbers_from (n + 1) xs name)) j ≡ Some k
          → (place : ℕ) × (k ≡ n + place) × (place < suc (length xs)) × (slice_get (x ∷ xs) place ≡ slice_get (cond b (x ∷ filter (is_named name) xs) (filter (is_named name) xs)) j)
      by true zero rest e = let same : n ≡ k = cc in (0, omega arith, omega arith, refl)
      by true (suc j) rest e = let r = rest j e in (suc r.place, omega (arith, r.is), omega (arith, r.within), r.body)
      by false j rest e = let r = rest j e in (suc r.place, omega (arith, r.is), omega (arith, r.within), r.body)

  pub no_body : (n i : ℕ) (rules : List Rule) → slice_get (numbers_from n rules name) i ≡ None → slice_get (filter (is_named name) rules) i ≡ None
  no_body n i [] h = refl
  no_body n i (x ∷ xs) h = by (is_named name x) i (λ j. no_body (n + 1) j xs) h
    where
      by : (b : Bool) (j : ℕ) → ((m : ℕ) → slice_get (numbers_from (n + 1) xs name) m ≡ None → slice_get (filter (is_named name) xs) m ≡ None)
          → slice_get (cond b (n ∷ numbers_from (n + 1) xs name) (numbers_from (n + 1) xs name)) j ≡ None
          → slice_get (cond b (x ∷ filter (is_named name) xs) (filter (is_named name) xs)) j ≡ None
      by true zero rest e = cc
      by true (suc j) rest e = rest j e
      by false j rest e = rest j e

  pub length-numbers : (n : ℕ) (rules : List Rule) → length (numbers_from n rules name) ≡ length (filter (is_named name) rules)
  length-numbers n [] = refl
  length-numbers n (x ∷ xs) = by (is_named name x) (length-numbers (n + 1) xs)
    where
      by : (b : Bool) → length (numbers_from (n + 1) xs name) ≡ length (filter (is_named name) xs)
          → length (cond b (n ∷ numbers_from (n + 1) xs name) (numbers_from (n + 1) xs name)) ≡ length (cond b (x ∷ filter (is_named name) xs) (filter (is_named name) xs))
      by true e = ap suc e
      by false e = e

  -- ---- the first

  first_from : (n : ℕ) (rules : List Rule) → slice_get (numbers_from n rules name) 0 ≡ position_from (is_named name) n rules
  first_from n [] = refl
  first_from n (x ∷ xs) = by (is_named name x) (first_from (n + 1) xs)
    where
      by : (b : Bool) → slice_get (numbers_from (n + 1) xs name) 0 ≡ position_from (is_named name) (n + 1) xs
          → slice_get (cond b (n ∷ numbers_from (n + 1) xs name) (numbers_from (n + 1) xs name)) 0 ≡ cond b (Some n) (position_from (is_named name) (n + 1) xs)
      by true e = refl
      by false e = e

  pub first_number : (rules : List Rule) → slice_get (numbers_from 0 rules name) 0 ≡ position (is_named name) rules
  first_number rules = first_from 0 rules ∙ sym (position_from-zero (is_named name) rules)

  -- ---- the last

  any_number : (n : ℕ) (rules : List Rule) → list_any (is_named name) rules ≡ nat_lt 0 (length (numbers_from n rules name))
  any_number n [] = refl
  any_number n (x ∷ xs) = by (is_named name x) (any_number (n + 1) xs)
    where
      by : (b : Bool) → list_any (is_named name) xs ≡ nat_lt 0 (length (numbers_from (n + 1) xs name))
          → (b || list_any (is_named name) xs) ≡ nat_lt 0 (length (cond b (n ∷ numbers_from (n + 1) xs name) (numbers_from (n + 1) xs name)))
      by true e = sym (lt_true 0 (suc (length (numbers_from (n + 1) xs name))) (omega arith))
      by false e = e

  module _ (front back : List Rule) where
    abbrev before : List ℕ
    before = numbers_from 0 front name

    abbrev behind : List ℕ
    behind = numbers_from (0 + length front) back name

    both : numbers_from 0 (front ++ back) name ≡ before ++ behind
    both = numbers-append 0 front back

    pub last_behind : (i k : ℕ) → suc i ≡ length (numbers_from 0 (front ++ back) name) → slice_get (numbers_from 0 (front ++ back) name) i ≡ Some k → nat_le (length front) k ≡ list_any (is_named name) back
    last_behind i k last there = by (cases_lt i (length before))
      where
        at_both : slice_get (before ++ behind) i ≡ Some k
        at_both = ap (λ (l : List ℕ). slice_get l i) (sym both) ∙ there

        counted : suc i ≡ length before + length behind
        counted = last ∙ (ap length both ∙ length-append before behind)

        by : (i < length before) ⊎ (length before ≤ i) → nat_le (length front) k ≡ list_any (is_named name) back
        by (inl lt) =
            let r = body_at 0 i k front (sym (slice_get_left before behind i lt) ∙ at_both) in
            let none : length behind ≡ 0 = omega (arith, counted, lt) in
            let less : k < length front = omega (arith, r.is, r.within) in
            le_false (length front) k less ∙ sym (any_number (0 + length front) back ∙ ap (nat_lt 0) none)
        by (inr ge) =
            let r = body_at (0 + length front) (i - length before) k back (sym (slice_get_right before behind i ge) ∙ at_both) in
            let some : 0 < length behind = omega (arith, counted, ge) in
            let more : length front ≤ k = omega (arith, r.is) in
            le_true (length front) k more ∙ sym (any_number (0 + length front) back ∙ lt_true 0 (length behind) some)

    pub none_behind : numbers_from 0 (front ++ back) name ≡ [] → false ≡ list_any (is_named name) back
    none_behind none =
        let empty : length behind ≡ 0 = omega (arith, ap length (sym both ∙ none), length-append before behind) in
        sym (any_number (0 + length front) back ∙ ap (nat_lt 0) empty)
