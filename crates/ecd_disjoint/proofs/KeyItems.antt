-- Keys that are literals of one item, kind by kind.
use Rattle.std.proofs.Common.{◌≡◌, ℕ, ◌<◌, ◌≤◌, ◌^◌, ◌==◌, ◌↔◌, ◌⊎◌, inl, inr, Bool, true, false, List, Some, refl, ap, sym, ◌∙◌, arith}
use Rattle.std.specs.Prelude.{◌&&◌, ◌||◌, nat_lt, nat_le}
use Rattle.std.proofs.lemmas.Bool.Decides.{nat_tests}
use Rattle.std.specs.Str.{IsUtf8, is_utf8}
use Rattle.std.proofs.lemmas.Str.{IsUtf8-from_is_utf8, is_utf8-from_IsUtf8}
use Rattle.ecd_item_laws.specs.declared.item.Item.{Item}
use Rattle.ecd_item_laws.specs.declared.item.Item.TheVariants as i
use Rattle.ecd_core.specs.declared.shape.Kind.{Kind}
use Rattle.ecd_core.specs.declared.shape.Kind.TheVariants as k
use Rattle.ecd_core.specs.Values.{literal}
use Rattle.ecd_apart.specs.Keys.{IsSameKey}
use Rattle.ecd_disjoint.proofs.Loops.{along, carried}

pub keys_by : {r : Bool} {a b x y : Kind} → a ≡ x → b ≡ y → (r ≡ true) ↔ IsSameKey x y → (r ≡ true) ↔ IsSameKey a b
keys_by e f h = along (λ j. IsSameKey (sym e j) (sym f j)) h

literal_is : (b : Bool) (x item : Item) → literal b x ≡ Some item → (b ≡ true) × (x ≡ item)
literal_is true x item e = (refl, cc)
literal_is false x item e = absurd cc

made : (b : Bool) (x item : Item) → b ≡ true → x ≡ item → literal b x ≡ Some item
made b x item e f = ap (λ (t : Bool). literal t x) e ∙ ap (λ (y : Item). Some y) f

abbrev number_test : ℕ → ℕ → Bool
number_test lo hi = (lo == hi) && nat_lt lo (2 ^ 64)

passes : (lo hi : ℕ) → lo < 2 ^ 64 → lo ≡ hi → number_test lo hi ≡ true
passes lo hi h e = grind (arith, nat_tests)

passed : (lo hi : ℕ) → number_test lo hi ≡ true → lo ≡ hi
passed lo hi t = grind (arith, nat_tests)

uints : (m n : ℕ) → i.Uint m ≡ i.Uint n → m ≡ n
uints m n e = cc

nints : (m n : ℕ) → i.Nint m ≡ i.Nint n → m ≡ n
nints m n e = cc

simples : (m n : ℕ) → i.Simple m ≡ i.Simple n → m ≡ n
simples m n e = cc

byte_strings : (xs ys : List ℕ) → i.Bytes xs ≡ i.Bytes ys → xs ≡ ys
byte_strings xs ys e = cc

texts : (xs ys : List ℕ) → i.Text xs ≡ i.Text ys → xs ≡ ys
texts xs ys e = cc

pub key-Uint : {r : Bool} (lo hi least most : ℕ) → lo < 2 ^ 64 → (r ≡ true) ↔ ((lo ≡ hi) × ((least ≡ most) × (lo ≡ least))) → (r ≡ true) ↔ IsSameKey (k.Uint lo hi) (k.Uint least most)
key-Uint lo hi least most small h = carried
    (λ e. (i.Uint lo, made (number_test lo hi) (i.Uint lo) (i.Uint lo) (passes lo hi small e.0) refl, made (number_test least most) (i.Uint least) (i.Uint lo) (passes least most (omega (arith, e.1.1)) e.1.0) (ap (λ (n : ℕ). i.Uint n) (sym e.1.1))))
    (λ s.
    let p = literal_is (number_test lo hi) (i.Uint lo) s.0 s.1 in
    let q = literal_is (number_test least most) (i.Uint least) s.0 s.2 in
    (passed lo hi p.0, (passed least most q.0, uints lo least (p.1 ∙ sym q.1)))) h

pub key-Nint : {r : Bool} (lo hi least most : ℕ) → lo < 2 ^ 64 → (r ≡ true) ↔ ((lo ≡ hi) × ((least ≡ most) × (lo ≡ least))) → (r ≡ true) ↔ IsSameKey (k.Nint lo hi) (k.Nint least most)
key-Nint lo hi least most small h = carried
    (λ e. (i.Nint lo, made (number_test lo hi) (i.Nint lo) (i.Nint lo) (passes lo hi small e.0) refl, made (number_test least most) (i.Nint least) (i.Nint lo) (passes least most (omega (arith, e.1.1)) e.1.0) (ap (λ (n : ℕ). i.Nint n) (sym e.1.1))))
    (λ s.
    let p = literal_is (number_test lo hi) (i.Nint lo) s.0 s.1 in
    let q = literal_is (number_test least most) (i.Nint least) s.0 s.2 in
    (passed lo hi p.0, (passed least most q.0, nints lo least (p.1 ∙ sym q.1)))) h

pub key-BytesIs : {r : Bool} (xs ys : List ℕ) → (r ≡ true) ↔ (xs ≡ ys) → (r ≡ true) ↔ IsSameKey (k.BytesIs xs) (k.BytesIs ys)
key-BytesIs xs ys h = carried
    (λ e. (i.Bytes xs, refl, ap (λ (l : List ℕ). Some (i.Bytes l)) (sym e)))
    (λ s. let p : Some (i.Bytes xs) ≡ Some (i.Bytes ys) = s.1 ∙ sym s.2 in let q : i.Bytes xs ≡ i.Bytes ys = cc in byte_strings xs ys q) h

pub key-TextIs : {r : Bool} (xs ys : List ℕ) → (r ≡ true) ↔ ((xs ≡ ys) × IsUtf8 xs) → (r ≡ true) ↔ IsSameKey (k.TextIs xs) (k.TextIs ys)
key-TextIs xs ys h = carried
    (λ e.
    let good = is_utf8-from_IsUtf8 xs e.1 in
    (i.Text xs, made (is_utf8 xs) (i.Text xs) (i.Text xs) good refl, made (is_utf8 ys) (i.Text ys) (i.Text xs) (ap is_utf8 (sym e.0) ∙ good) (ap (λ (l : List ℕ). i.Text l) (sym e.0))))
    (λ s.
    let p = literal_is (is_utf8 xs) (i.Text xs) s.0 s.1 in
    let q = literal_is (is_utf8 ys) (i.Text ys) s.0 s.2 in
    (texts xs ys (p.1 ∙ sym q.1), IsUtf8-from_is_utf8 xs p.0)) h

abbrev simple_test : ℕ → Bool
simple_test n = nat_lt n 24 || (nat_le 32 n && nat_lt n 256)

simple_passes : (n : ℕ) → n < 256 → (n < 24) ⊎ (32 ≤ n) → simple_test n ≡ true
simple_passes n h (inl l) = grind (arith, nat_tests)
simple_passes n h (inr l) = grind (arith, nat_tests)

simple_passed : (n : ℕ) → simple_test n ≡ true → (n < 24) ⊎ (32 ≤ n)
simple_passed n t = grind (arith, nat_tests)

pub key-Simple : {r : Bool} (m n : ℕ) → m < 256 → (r ≡ true) ↔ ((m ≡ n) × ((m < 24) ⊎ (32 ≤ m))) → (r ≡ true) ↔ IsSameKey (k.Simple m) (k.Simple n)
key-Simple m n small h = carried
    (λ e.
    let good = simple_passes m small e.1 in
    (i.Simple m, made (simple_test m) (i.Simple m) (i.Simple m) good refl, made (simple_test n) (i.Simple n) (i.Simple m) (ap simple_test (sym e.0) ∙ good) (ap (λ (l : ℕ). i.Simple l) (sym e.0))))
    (λ s.
    let p = literal_is (simple_test m) (i.Simple m) s.0 s.1 in
    let q = literal_is (simple_test n) (i.Simple n) s.0 s.2 in
    (simples m n (p.1 ∙ sym q.1), simple_passed m p.0)) h
