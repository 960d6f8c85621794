-- Numbers by their words.
use mir.Val.{bool_byte}
use Rattle.std.specs.Bool.{FalseIff}
use Rattle.std.proofs.Common.{◌≡◌, ℕ, zero, suc, Bool, true, false, ◌+◌, ◌-◌, ◌*◌, ◌%◌, ◌<◌, ◌≤◌, ◌^◌, List, [], ◌∷◌, length, get_or, refl, ap, sym, ◌∙◌, subst, drop, arith}
use Rattle.std.specs.Int.Digits.{number_from_digits, number_from_digits_after, AllBelowBase}
use Rattle.std.specs.Ordering.{nat_cmp, ordering_then, MatchOrdering}
use Rattle.std.specs.Cmp.{nat_cmp_is}
use Rattle.std.specs.declared.cmp.Ordering.{Ordering}
use Rattle.std.specs.declared.cmp.Ordering.TheVariants.{Less, Equal, Greater}
use Rattle.std.proofs.Math.ListN.{set}
use Rattle.std.proofs.Math.Nat.{add-mul, mul_assoc, mul-one, mul-le-mul_right, pow-zero, pow-succ', zero-mul}
use Rattle.std.proofs.lemmas.Cmp.{ranked}
use Rattle.std.proofs.lemmas.List.{length-set, length-drop, drop_all}
use Rattle.std.proofs.Math.Seq.{drop-cons}
use Rattle.std.proofs.lemmas.Int.Digits.{number_after_lt}

-- what stands before the words counts as often as they tell numbers apart
number_after : (b n : ℕ) (ws : List ℕ) → number_from_digits_after b n ws ≡ n * b ^ length ws + number_from_digits b ws
number_after b n [] = omega (arith, ap (λ (x : ℕ). n * x) (pow-zero b), mul-one n)
number_after b n (w ∷ ws) =
    let f : n * b ^ suc (length ws) ≡ n * b * b ^ length ws = ap (λ (x : ℕ). n * x) (pow-succ' b (length ws)) ∙ sym (mul_assoc n b (b ^ length ws)) in
    let zeros : 0 * b * b ^ length ws ≡ 0 = rw (zero-mul b, zero-mul (b ^ length ws)) refl in
    let e : (n * b + w) * b ^ length ws + number_from_digits b ws ≡ n * b ^ suc (length ws) + number_from_digits_after b (0 * b + w) ws = omega (arith, number_after b (0 * b + w) ws, add-mul (n * b) w (b ^ length ws), add-mul (0 * b) w (b ^ length ws), zeros, f) in
    number_after b (n * b + w) ws ∙ e

-- ---- the order of numbers is that of their highest words, and of the others where these are one

less_first : (b p q : ℕ) (xs ys : List ℕ) → p < q → length xs ≡ length ys → AllBelowBase b xs → number_from_digits_after b p xs < number_from_digits_after b q ys
less_first b p q xs ys lt len below =
    let le : p + 1 ≤ q = omega arith in
    let e : q * b ^ length ys ≡ q * b ^ length xs = ap (λ (n : ℕ). q * b ^ n) (sym len) in
    omega (arith, number_after_lt b p xs below, number_after b q ys, mul-le-mul_right (b ^ length xs) le, e)

same_front : (k m n p q : ℕ) → p ≡ k + m → q ≡ k + n → nat_cmp m n ≡ nat_cmp p q
same_front k m n p q e f = nat_cmp_is p q (nat_cmp m n) (moved (nat_cmp m n) (ranked m n (nat_cmp m n) refl))
  where
    moved : (o : Ordering) → MatchOrdering o (m < n) (m ≡ n) (n < m) → MatchOrdering o (p < q) (p ≡ q) (q < p)
    moved Less h = omega arith
    moved Equal h = omega arith
    moved Greater h = omega arith

by_first : (x y p q : ℕ) (o rest : Ordering) → MatchOrdering o (x < y) (x ≡ y) (y < x) → (x < y → p < q) → (x ≡ y → rest ≡ nat_cmp p q) → (y < x → q < p) → ordering_then o rest ≡ nat_cmp p q
by_first x y p q Less rest h less same more = nat_cmp_is p q Less (less h)
by_first x y p q Equal rest h less same more = same h
by_first x y p q Greater rest h less same more = nat_cmp_is p q Greater (more h)

first_word : (b x y : ℕ) (xs ys : List ℕ) → length xs ≡ length ys → AllBelowBase b xs → AllBelowBase b ys → ordering_then (nat_cmp x y) (nat_cmp (number_from_digits b xs) (number_from_digits b ys)) ≡ nat_cmp (number_from_digits b (x ∷ xs)) (number_from_digits b (y ∷ ys))
first_word b x y xs ys len p q =
    by_first x y (number_from_digits b (x ∷ xs)) (number_from_digits b (y ∷ ys)) (nat_cmp x y) (nat_cmp (number_from_digits b xs) (number_from_digits b ys)) (ranked x y (nat_cmp x y) refl)
    (λ lt. less_first b (0 * b + x) (0 * b + y) xs ys (omega arith) len p)
    (λ e. same_front ((0 * b + x) * b ^ length xs) (number_from_digits b xs) (number_from_digits b ys) (number_from_digits b (x ∷ xs)) (number_from_digits b (y ∷ ys))
    (number_after b (0 * b + x) xs) (number_after b (0 * b + y) ys ∙ ap (λ (k : ℕ). k + number_from_digits b ys) (rw (len, e) refl)))
    (λ gt. less_first b (0 * b + y) (0 * b + x) ys xs (omega arith) (sym len) q)

pub record Compares (xs ys : List ℕ) (order : Ordering) : Type 0 where
  pub told : order ≡ nat_cmp (number_from_digits (2 ^ 64) xs) (number_from_digits (2 ^ 64) ys)
  pub one_fits : AllBelowBase (2 ^ 64) xs
  pub other_fits : AllBelowBase (2 ^ 64) ys

pub no_words : (xs ys : List ℕ) → length xs ≡ length ys → Compares (drop (length xs) xs) (drop (length xs) ys) Equal
no_words xs ys len =
    let two : drop (length xs) ys ≡ [] = drop_all (length xs) ys (omega arith) in
    rw (two, drop_all (length xs) xs (omega arith)) (record { told = nat_cmp_is 0 0 Equal refl; one_fits = tt; other_fits = tt })

pub word_before : (xs ys : List ℕ) (k : ℕ) (order : Ordering) → k < length xs → length xs ≡ length ys → get_or xs k 0 < 2 ^ 64 → get_or ys k 0 < 2 ^ 64 → Compares (drop (suc k) xs) (drop (suc k) ys) order
    → Compares (drop k xs) (drop k ys) (ordering_then (nat_cmp (get_or xs k 0) (get_or ys k 0)) order)
word_before xs ys k order lt len x y so_far =
    let less : k < length ys = omega arith in
    let same : length (drop (suc k) xs) ≡ length (drop (suc k) ys) = omega (arith, length-drop (suc k) xs, length-drop (suc k) ys) in
    let first = first_word (2 ^ 64) (get_or xs k 0) (get_or ys k 0) (drop (suc k) xs) (drop (suc k) ys) same so_far.one_fits so_far.other_fits in
    rw (drop-cons xs k 0 lt, drop-cons ys k 0 less) (record {
      told = ap (ordering_then (nat_cmp (get_or xs k 0) (get_or ys k 0))) so_far.told ∙ first;
      one_fits = (x, so_far.one_fits);
      other_fits = (y, so_far.other_fits);
    })

-- ---- adding to one word, and carrying to the next

set_after : (b n : ℕ) (ws : List ℕ) (k v : ℕ) → k < length ws → number_from_digits_after b n (set ws k v) + get_or ws k 0 * b ^ (length ws - suc k) ≡ number_from_digits_after b n ws + v * b ^ (length ws - suc k)
set_after b n [] k v lt = absurd (omega arith)
set_after b n (w ∷ ws) zero v lt =
    let e : length (w ∷ ws) - suc zero ≡ length ws = omega arith in
    let f : number_from_digits_after b (n * b + v) ws + w * b ^ length ws ≡ number_from_digits_after b (n * b + w) ws + v * b ^ length ws =
    omega (arith, number_after b (n * b + v) ws, number_after b (n * b + w) ws, add-mul (n * b) v (b ^ length ws), add-mul (n * b) w (b ^ length ws)) in
    subst (λ (j : ℕ). number_from_digits_after b (n * b + v) ws + w * b ^ j ≡ number_from_digits_after b (n * b + w) ws + v * b ^ j) (sym e) f
set_after b n (w ∷ ws) (suc k) v lt =
    let e : length (w ∷ ws) - suc (suc k) ≡ length ws - suc k = omega arith in
    subst (λ (j : ℕ). number_from_digits_after b (n * b + w) (set ws k v) + get_or ws k 0 * b ^ j ≡ number_from_digits_after b (n * b + w) ws + v * b ^ j) (sym e) (set_after b (n * b + w) ws k v (omega arith))

carried : (b room now next old word carry over total : ℕ) → next + old * room ≡ now + word * room → word + over * b ≡ old + carry → now + carry * room ≡ total → next + over * (b * room) ≡ total
carried b room now next old word carry over total set split so_far =
    let e : (word + over * b) * room ≡ (old + carry) * room = ap (λ (x : ℕ). x * room) split in
    omega (arith, e, add-mul word (over * b) room, add-mul old carry room, mul_assoc over b room)

add_more : (b : ℕ) (ws : List ℕ) (k word carry over total : ℕ) → k < length ws → word + over * b ≡ get_or ws k 0 + carry → number_from_digits b ws + carry * b ^ (length ws - suc k) ≡ total → number_from_digits b (set ws k word) + over * b ^ (length ws - k) ≡ total
add_more b ws k word carry over total lt split so_far =
    let e : length ws - k ≡ suc (length ws - suc k) = omega arith in
    rw (e, pow-succ' b (length ws - suc k)) (carried b (b ^ (length ws - suc k)) (number_from_digits b ws) (number_from_digits b (set ws k word)) (get_or ws k 0) word carry over total (set_after b 0 ws k word lt) split so_far)

-- a sum of two words, as a word and what is carried
word_split : (old carry word : ℕ) (over : Bool) → old < 2 ^ 64 → carry < 2 ^ 64 → word ≡ (old + carry) % 2 ^ 64 → FalseIff over (old + carry < 2 ^ 64) → word + bool_byte over * 2 ^ 64 ≡ old + carry
word_split old carry word false p q e f = omega (arith, f)
word_split old carry word true p q e f = omega (arith, f)

pub carry_fits : (over : Bool) → bool_byte over < 2 ^ 64
carry_fits false = omega arith
carry_fits true = omega arith

pub add_word : (ws : List ℕ) (k carry word : ℕ) (over : Bool) (total : ℕ) → k < length ws → get_or ws k 0 < 2 ^ 64 → carry < 2 ^ 64 → word ≡ (get_or ws k 0 + carry) % 2 ^ 64 → FalseIff over (get_or ws k 0 + carry < 2 ^ 64)
    → number_from_digits (2 ^ 64) ws + carry * (2 ^ 64) ^ (length ws - suc k) ≡ total → number_from_digits (2 ^ 64) (set ws k word) + bool_byte over * (2 ^ 64) ^ (length (set ws k word) - k) ≡ total
add_word ws k carry word over total lt old fits e f so_far =
    rw length-set (add_more (2 ^ 64) ws k word carry (bool_byte over) total lt (word_split (get_or ws k 0) carry word over old fits e f) so_far)
