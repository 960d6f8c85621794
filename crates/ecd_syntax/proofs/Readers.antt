-- What every reader of marks keeps, and how readers that keep it are joined.
use Rattle.std.proofs.Common.{◌≡◌, ℕ, zero, suc, ◌+◌, ◌<◌, ◌≤◌, Bool, true, false, cond, List, [], ◌∷◌, ◌++◌, length, Option, Some, Result, Ok, Err, refl, ap, sym, ◌∙◌, arith}
use Rattle.std.specs.List.{AllByRecursion}
use Rattle.std.proofs.lemmas.List.{length-append, append-nil}
use Rattle.ecd_reading.specs.Reading.{after}
use Rattle.ecd_reading.proofs.Readers as read
use Rattle.ecd_reading.proofs.Readers.{Reads, ended, TestsFirst, good_bind, good_taken, good_stuck, good_on, good_if}
use Rattle.ecd_syntax.specs.Marks.{Mark, place}
use Rattle.ecd_syntax.specs.Grammar.{Each, One}
use Rattle.ecd_syntax.specs.Reading.{Taken, Halted, Reader, ◌>>=◌, taken, stuck, token, many, each}

-- at no place and with no tag
abbrev pub IsPlain : Mark → Type 0
IsPlain m = (m.opens_tag ≡ false) × (m.at ≡ 0)

-- made for an example
abbrev pub Plain : List Mark → Type 0
Plain = AllByRecursion IsPlain

abbrev pub Example : {A : Type 0} → (A → List Mark → Type 0) → Type 0
Example G = read.Example IsPlain G

abbrev pub Stops : {A : Type 0} → (A → List Mark → Type 0) → List Mark → List Mark → Type 0
Stops G ms rest = read.Stops IsPlain G ms rest

abbrev pub Good : {A : Type 0} → (A → List Mark → Type 0) → (List Mark → Result (Taken A) Halted) → Type 0
Good G p = read.Good IsPlain G p

pub place_plain : (ms : List Mark) → Plain ms → place ms ≡ 0
place_plain [] h = refl
place_plain (m ∷ ms) h = h.0.1

pub place_front : (xs ys : List Mark) → 0 < length xs → place (xs ++ ys) ≡ place xs
place_front [] ys h = absurd (omega arith)
place_front (x ∷ xs) ys h = refl

pub good_token : {A : Type 0} (table : Mark → Option A) → Example (One table) → Good (One table) (token table)
good_token {A} table example = good_on table taken stuck (λ x. good_taken x (λ m e. record { mark = m; alone = refl; is = e })) (good_stuck example)

-- where a table says something of the first mark, that mark is taken
abbrev pub Late : {A B : Type 0} → (Mark → Option A) → Reader B → Type 0
Late table p = (m : Mark) (x : _) (rest left : List Mark) → table m ≡ Some x → p (m ∷ rest) ≡ stuck left → length left ≤ length rest

-- ---- one after the other

pub good_many : {A : Type 0} {G : A → List Mark → Type 0} (test : List Mark → Bool) (one : Reader A) → TestsFirst test → Good G one → (n : ℕ) → Good (Each G) (many test one (taken []) n)
unfolding many
good_many {A} {G} test one tests good zero = good_taken [] refl
good_many {A} {G} test one tests good (suc n) =
    good_if test (after one (λ x. after (many test one (taken []) n) (λ xs. taken (x ∷ xs)))) (taken []) tests
    (good_bind one (λ x. after (many test one (taken []) n) (λ xs. taken (x ∷ xs))) good (λ x. good_bind (many test one (taken []) n) (λ xs. taken (x ∷ xs)) (good_many test one tests good n) (λ xs. good_taken (x ∷ xs)
    (λ b h a g. record { front = a; back = b; whole = ap (λ (t : List Mark). a ++ t) (append-nil b); first = g; second = h }))))
    (good_taken [] refl)

abbrev pub NonEmpty : {A : Type 0} → (A → List Mark → Type 0) → Type 0
NonEmpty {A} G = (x : A) (ms : List Mark) → G x ms → 0 < length ms

module _ (A : Type 0) (G : A → List Mark → Type 0) (test : List Mark → Bool) (one : Reader A) (good : Good G one) (some : NonEmpty G) where
  shorter : (ms : List Mark) (x : Taken A) → one ms ≡ Ok x → length x.rest < length ms
  shorter ms x h =
      let r = good.sound ms x.rest x.value h in
      omega (arith, ap length r.whole, length-append r.front x.rest, some x.value r.front r.spells)

  abbrev with_more : Reader (List A) → Result (Taken A) Halted → Result (Taken (List A)) Halted
  with_more f o = o >>= λ x. f x.rest >>= λ xs. taken (x.value ∷ xs.value) xs.rest

  at_one : (f g : Reader (List A)) (ms : List Mark) → ((rest : List Mark) → length rest < length ms → f rest ≡ g rest) → (o : Result (Taken A) Halted) → one ms ≡ o → with_more f o ≡ with_more g o
  at_one f g ms same (Err z) e = refl
  at_one f g ms same (Ok x) e = rw (same x.rest (shorter ms x e)) refl

  at_test : (f g : Reader (List A)) (ms : List Mark) → ((rest : List Mark) → length rest < length ms → f rest ≡ g rest) → (b : Bool) → cond b (with_more f (one ms)) (taken [] ms) ≡ cond b (with_more g (one ms)) (taken [] ms)
  at_test f g ms same false = refl
  at_test f g ms same true = at_one f g ms same (one ms) refl

  many_fuel : (n m : ℕ) (ms : List Mark) → length ms < n → length ms < m → many test one (taken []) n ms ≡ many test one (taken []) m ms
  unfolding many
  many_fuel zero m ms lt le = absurd (omega arith)
  many_fuel (suc n) zero ms lt le = absurd (omega arith)
  many_fuel (suc n) (suc m) ms lt le = at_test (many test one (taken []) n) (many test one (taken []) m) ms (λ rest s. many_fuel n m rest (omega arith) (omega arith)) (test ms)

-- a reader that goes on no longer than there are marks
module _ (A : Type 0) (K : A → List Mark → Type 0) (p : ℕ → Reader A) (goods : (n : ℕ) → Good K (p n)) (same : (n m : ℕ) (ms : List Mark) → length ms < n → length ms < m → p n ms ≡ p m ms) where
  fueled_local : (front rest other left : List Mark) (e : Option A) → 0 < length front → 0 < length left → p (suc (length (front ++ rest))) (front ++ rest) ≡ ended e (left ++ rest) → p (suc (length (front ++ other))) (front ++ other) ≡ ended e (left ++ other)
  fueled_local front rest other left e have lt h =
      let n : ℕ = suc (length (front ++ rest) + length (front ++ other)) in
      let wide : p n (front ++ rest) ≡ ended e (left ++ rest) = same n (suc (length (front ++ rest))) (front ++ rest) (omega arith) (omega arith) ∙ h in
      same (suc (length (front ++ other))) n (front ++ other) (omega arith) (omega arith) ∙ (goods n).local front rest other left e have lt wide

  fueled_good : Good K (λ ms. p (suc (length ms)) ms)
  fueled_good = record {
    sound = λ ms rest x h. (goods (suc (length ms))).sound ms rest x h;
    stops = λ ms rest h. (goods (suc (length ms))).stops ms rest h;
    local = fueled_local;
    some = (goods 0).some;
  }

pub good_fueled : {A : Type 0} {K : A → List Mark → Type 0} (p : ℕ → Reader A) → ((n : ℕ) → Good K (p n)) → ((n m : ℕ) (ms : List Mark) → length ms < n → length ms < m → p n ms ≡ p m ms) → Good K (λ ms. p (suc (length ms)) ms)
good_fueled {A} {K} p goods same = fueled_good A K p goods same

pub good_each : {A : Type 0} {G : A → List Mark → Type 0} (test : List Mark → Bool) (one : Reader A) → TestsFirst test → NonEmpty G → Good G one → Good (Each G) (each test one)
good_each {A} {G} test one tests some good = good_fueled (many test one (taken [])) (good_many test one tests good) (many_fuel A G test one good some)

-- ---- the place of what is read

module _ (A : Type 0) (L : ℕ → A → List Mark → Type 0) (K : A → List Mark → Type 0) (p : ℕ → Reader A) (goods : (at : ℕ) → Good (L at) (p at)) (starts : (at : ℕ) (x : A) (ms : List Mark) → L at x ms → (0 < length ms) × (place ms ≡ at → K x ms)) where
  placed_example : Example K
  placed_example = let r = (goods 0).some in record { value = r.value; text = r.text; plain = r.plain; spells = (starts 0 r.value r.text r.spells).1 (place_plain r.text r.plain) }

  placed_sound : (ms rest : List Mark) (x : A) → p (place ms) ms ≡ taken x rest → Reads (K x) ms rest
  placed_sound ms rest x h =
      let r = (goods (place ms)).sound ms rest x h in
      let s = starts (place ms) x r.front r.spells in
      record { front = r.front; whole = r.whole; spells = s.1 (sym (place_front r.front rest s.0) ∙ ap place (sym r.whole)) }

  placed_stops_at : (ms rest front more : List Mark) (x : A) → L (place ms) x (front ++ more) → ms ≡ front ++ rest → Plain more → Stops K ms rest
  placed_stops_at ms rest [] more x l e plain = let r = placed_example in record { front = []; whole = e; more = r.text; plain = r.plain; value = r.value; spells = r.spells }
  placed_stops_at ms rest (m ∷ front) more x l e plain = record { front = m ∷ front; whole = e; more = more; plain = plain; value = x; spells = (starts (place ms) x (m ∷ (front ++ more)) l).1 (sym (ap place e)) }

  placed_stops : (ms rest : List Mark) → p (place ms) ms ≡ stuck rest → Stops K ms rest
  placed_stops ms rest h = let r = (goods (place ms)).stops ms rest h in placed_stops_at ms rest r.front r.more r.value r.spells r.whole r.plain

  placed_local : (front rest other left : List Mark) (e : Option A) → 0 < length front → 0 < length left → p (place (front ++ rest)) (front ++ rest) ≡ ended e (left ++ rest) → p (place (front ++ other)) (front ++ other) ≡ ended e (left ++ other)
  placed_local front rest other left e have lt h =
      let here : place (front ++ other) ≡ place (front ++ rest) = place_front front other have ∙ sym (place_front front rest have) in
      rw here ((goods (place (front ++ rest))).local front rest other left e have lt h)

  placed_good : Good K (λ ms. p (place ms) ms)
  placed_good = record { sound = placed_sound; stops = placed_stops; local = placed_local; some = placed_example }

pub good_placed : {A : Type 0} {L : ℕ → A → List Mark → Type 0} {K : A → List Mark → Type 0} (p : ℕ → Reader A) → ((at : ℕ) → Good (L at) (p at)) → ((at : ℕ) (x : A) (ms : List Mark) → L at x ms → (0 < length ms) × (place ms ≡ at → K x ms)) → Good K (λ ms. p (place ms) ms)
good_placed {A} {L} {K} p goods starts = placed_good A L K p goods starts
