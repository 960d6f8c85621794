-- Functions and structs by their names, before an item and in a whole file.
use Rattle.std.proofs.Common.{◌≡◌, ℕ, zero, suc, ◌+◌, ◌-◌, ◌<◌, ◌≤◌, List, [], ◌∷◌, ◌++◌, length, get_or, take, drop, refl, ap, sym, ◌∙◌, subst, arith, Bool, true, false}
use Rattle.std.specs.Prelude.{Option, Some, None, if◌then◌else◌, bytes_eq, slice_get, nat_lt}
use Rattle.std.proofs.Common.{⊎_elim}
use Rattle.std.proofs.lemmas.List.{take_more}
use Rattle.std.proofs.lemmas.Bool.{lt-ltb, le-ltb, cases_lt}
use Rattle.ecd_cast.specs.declared.tree.StructDecl.{StructDecl}
use Rattle.ecd_cast.specs.declared.tree.Function.{Function}
use Rattle.ecd_cast.specs.declared.tree.CItem.{CItem}
use Rattle.ecd_cast.specs.declared.tree.CItem.TheVariants.{Struct as AStructDecl, Function as AFunction}
use Rattle.ecd_cscope.specs.declared.directory.Directory.{Directory}
use Rattle.ecd_cast.specs.Memory.{Name}
use Rattle.ecd_cast.proofs.Kept.{get_drop}
use Rattle.ecd_cast.specs.Kinds.{cell_of, cell_among}
use Rattle.ecd_cast.specs.Validity.{is_among, structs_of, struct_names, functions_of, function_names, function_named}
use Rattle.ecd_cast.specs.ByName.{under}
use Rattle.ecd_cscope.specs.Surroundings.{first_function, first_struct, or_first, Directs, IsFoundAs, struct_in, function_in, cells_in}

-- ---- lists

pub take_and_drop : {X : Type 0} (n : ℕ) (xs : List X) → xs ≡ take n xs ++ drop n xs
take_and_drop zero xs = refl
take_and_drop (suc n) [] = refl
take_and_drop (suc n) (x ∷ xs) = ap (λ l. x ∷ l) (take_and_drop n xs)

pub length_take : {X : Type 0} (n : ℕ) (xs : List X) → n ≤ length xs → length (take n xs) ≡ n
length_take zero xs h = refl
length_take (suc n) [] h = absurd (omega arith)
length_take (suc n) (x ∷ xs) h = ap suc (length_take n xs (omega arith))

pub get_take : {X : Type 0} (n i : ℕ) (xs : List X) → i < n → slice_get (take n xs) i ≡ slice_get xs i
get_take zero i xs h = absurd (omega arith)
get_take (suc n) i [] h = refl
get_take (suc n) zero (x ∷ xs) h = refl
get_take (suc n) (suc i) (x ∷ xs) h = get_take n i xs (omega arith)

-- ---- functions

function-append : (n : ℕ) (xs ys : List CItem) (g : Name) → first_function n (xs ++ ys) g ≡ or_first (first_function n xs g) (first_function (n + length xs) ys g)
function-append n [] ys g = ap (λ k. first_function k ys g) (omega arith)
function-append n (AStructDecl s ∷ xs) ys g = function-append (n + 1) xs ys g ∙ ap (λ k. or_first (first_function (n + 1) xs g) (first_function k ys g)) (omega arith)
function-append n (AFunction f ∷ xs) ys g = by_test (bytes_eq f.name g) (function-append (n + 1) xs ys g ∙ ap (λ k. or_first (first_function (n + 1) xs g) (first_function k ys g)) (omega arith))
  where
    by_test : (b : Bool) → first_function (n + 1) (xs ++ ys) g ≡ or_first (first_function (n + 1) xs g) (first_function (n + length (AFunction f ∷ xs)) ys g) →
        (if b then Some n else first_function (n + 1) (xs ++ ys) g) ≡ or_first (if b then Some n else first_function (n + 1) xs g) (first_function (n + length (AFunction f ∷ xs)) ys g)
    by_test true h = refl
    by_test false h = h

-- a function that is found at a number
pub record FunctionAt (n : ℕ) (xs : List CItem) (g : Name) (i : ℕ) : Type 0 where
  pub function : Function
  pub stands : slice_get xs (i - n) ≡ Some (AFunction function)
  pub named : function_named (functions_of xs) g ≡ Some function
  pub among : is_among (function_names xs) g ≡ true
  pub low : n ≤ i
  pub high : i < n + length xs

past : (n i : ℕ) (x : CItem) (xs : List CItem) → n + 1 ≤ i → slice_get (x ∷ xs) (i - n) ≡ slice_get xs (i - (n + 1))
past n i x xs h = ap (λ k. slice_get (x ∷ xs) k) same
  where
    same : i - n ≡ suc (i - (n + 1))
    same = omega arith

pub function_at : (n : ℕ) (xs : List CItem) (g : Name) (i : ℕ) → first_function n xs g ≡ Some i → FunctionAt n xs g i
function_at n [] g i e = absurd cc
function_at n (AStructDecl s ∷ xs) g i e =
    let h = function_at (n + 1) xs g i e in
    record { function = h.function; stands = past n i (AStructDecl s) xs h.low ∙ h.stands; named = h.named; among = h.among; low = omega (arith, h.low); high = omega (arith, h.high) }
function_at n (AFunction f ∷ xs) g i e = by_test (bytes_eq f.name g) refl (function_at (n + 1) xs g i)
  where
    by_test : (b : Bool) → bytes_eq f.name g ≡ b → (first_function (n + 1) xs g ≡ Some i → FunctionAt (n + 1) xs g i) → FunctionAt n (AFunction f ∷ xs) g i
    by_test true t k =
        let here : Some n ≡ Some i = rw t at e in
        let same : n ≡ i = cc in
        let none : i - n ≡ 0 = omega arith in
        record { function = f; stands = ap (λ k. slice_get (AFunction f ∷ xs) k) none; named = rw t; among = rw t; low = omega arith; high = omega arith }
    by_test false t k =
        let h = k (rw t at e) in
        record { function = h.function; stands = past n i (AFunction f) xs h.low ∙ h.stands; named = rw t h.named; among = rw t h.among; low = omega (arith, h.low); high = omega (arith, h.high) }

pub no_function : (n : ℕ) (xs : List CItem) (g : Name) → first_function n xs g ≡ None → (function_named (functions_of xs) g ≡ None) × (is_among (function_names xs) g ≡ false)
no_function n [] g e = (refl, refl)
no_function n (AStructDecl s ∷ xs) g e = no_function (n + 1) xs g e
no_function n (AFunction f ∷ xs) g e = by_test (bytes_eq f.name g) refl (no_function (n + 1) xs g)
  where
    by_test : (b : Bool) → bytes_eq f.name g ≡ b → (first_function (n + 1) xs g ≡ None → (function_named (functions_of xs) g ≡ None) × (is_among (function_names xs) g ≡ false)) →
        (function_named (functions_of (AFunction f ∷ xs)) g ≡ None) × (is_among (function_names (AFunction f ∷ xs)) g ≡ false)
    by_test true t k = let e1 = rw t at e in absurd cc
    by_test false t k = let h = k (rw t at e) in (rw t h.0, rw t h.1)

-- ---- structs

struct-append : (n : ℕ) (xs ys : List CItem) (g : Name) → first_struct n (xs ++ ys) g ≡ or_first (first_struct n xs g) (first_struct (n + length xs) ys g)
struct-append n [] ys g = ap (λ k. first_struct k ys g) (omega arith)
struct-append n (AFunction f ∷ xs) ys g = struct-append (n + 1) xs ys g ∙ ap (λ k. or_first (first_struct (n + 1) xs g) (first_struct k ys g)) (omega arith)
struct-append n (AStructDecl s ∷ xs) ys g = by_test (bytes_eq s.name g) (struct-append (n + 1) xs ys g ∙ ap (λ k. or_first (first_struct (n + 1) xs g) (first_struct k ys g)) (omega arith))
  where
    by_test : (b : Bool) → first_struct (n + 1) (xs ++ ys) g ≡ or_first (first_struct (n + 1) xs g) (first_struct (n + length (AStructDecl s ∷ xs)) ys g) →
        (if b then Some n else first_struct (n + 1) (xs ++ ys) g) ≡ or_first (if b then Some n else first_struct (n + 1) xs g) (first_struct (n + length (AStructDecl s ∷ xs)) ys g)
    by_test true h = refl
    by_test false h = h

-- a struct that is found at a number
pub record StructAt (n : ℕ) (xs : List CItem) (g : Name) (i : ℕ) : Type 0 where
  pub declaration : StructDecl
  pub stands : slice_get xs (i - n) ≡ Some (AStructDecl declaration)
  pub cells : (c : Name) → cell_of (structs_of xs) g c ≡ cell_among declaration.cells c
  pub among : is_among (struct_names xs) g ≡ true
  pub low : n ≤ i
  pub high : i < n + length xs

pub struct_at : (n : ℕ) (xs : List CItem) (g : Name) (i : ℕ) → first_struct n xs g ≡ Some i → StructAt n xs g i
struct_at n [] g i e = absurd cc
struct_at n (AFunction f ∷ xs) g i e =
    let h = struct_at (n + 1) xs g i e in
    record { declaration = h.declaration; stands = past n i (AFunction f) xs h.low ∙ h.stands; cells = h.cells; among = h.among; low = omega (arith, h.low); high = omega (arith, h.high) }
struct_at n (AStructDecl s ∷ xs) g i e = by_test (bytes_eq s.name g) refl (struct_at (n + 1) xs g i)
  where
    by_test : (b : Bool) → bytes_eq s.name g ≡ b → (first_struct (n + 1) xs g ≡ Some i → StructAt (n + 1) xs g i) → StructAt n (AStructDecl s ∷ xs) g i
    by_test true t k =
        let here : Some n ≡ Some i = rw t at e in
        let same : n ≡ i = cc in
        let none : i - n ≡ 0 = omega arith in
        record { declaration = s; stands = ap (λ k. slice_get (AStructDecl s ∷ xs) k) none; cells = λ c. rw t; among = rw t; low = omega arith; high = omega arith }
    by_test false t k =
        let h = k (rw t at e) in
        record { declaration = h.declaration; stands = past n i (AStructDecl s) xs h.low ∙ h.stands; cells = λ c. rw t (h.cells c); among = rw t h.among; low = omega (arith, h.low); high = omega (arith, h.high) }

pub no_struct : (n : ℕ) (xs : List CItem) (g : Name) → first_struct n xs g ≡ None → ((c : Name) → cell_of (structs_of xs) g c ≡ None) × (is_among (struct_names xs) g ≡ false)
no_struct n [] g e = (λ c. refl, refl)
no_struct n (AFunction f ∷ xs) g e = no_struct (n + 1) xs g e
no_struct n (AStructDecl s ∷ xs) g e = by_test (bytes_eq s.name g) refl (no_struct (n + 1) xs g)
  where
    by_test : (b : Bool) → bytes_eq s.name g ≡ b → (first_struct (n + 1) xs g ≡ None → ((c : Name) → cell_of (structs_of xs) g c ≡ None) × (is_among (struct_names xs) g ≡ false)) →
        ((c : Name) → cell_of (structs_of (AStructDecl s ∷ xs)) g c ≡ None) × (is_among (struct_names (AStructDecl s ∷ xs)) g ≡ false)
    by_test true t k = let e1 = rw t at e in absurd cc
    by_test false t k = let h = k (rw t at e) in (λ c. rw t (h.0 c), rw t h.1)

-- ---- before an item, by what the whole file has

module _ (items : List CItem) (at_ : ℕ) (there : at_ ≤ length items) (g : Name) where
  whole_functions : first_function 0 items g ≡ or_first (first_function 0 (take at_ items) g) (first_function at_ (drop at_ items) g)
  whole_functions =
      ap (λ xs. first_function 0 xs g) (take_and_drop at_ items) ∙
      (function-append 0 (take at_ items) (drop at_ items) g ∙ ap (λ k. or_first (first_function 0 (take at_ items) g) (first_function k (drop at_ items) g)) count)
    where
      count : 0 + length (take at_ items) ≡ at_
      count = omega (arith, length_take at_ items there)

  whole_structs : first_struct 0 items g ≡ or_first (first_struct 0 (take at_ items) g) (first_struct at_ (drop at_ items) g)
  whole_structs =
      ap (λ xs. first_struct 0 xs g) (take_and_drop at_ items) ∙
      (struct-append 0 (take at_ items) (drop at_ items) g ∙ ap (λ k. or_first (first_struct 0 (take at_ items) g) (first_struct k (drop at_ items) g)) count)
    where
      count : 0 + length (take at_ items) ≡ at_
      count = omega (arith, length_take at_ items there)

  -- the one before the item, where there is one
  earlier_function : (i : ℕ) → first_function 0 items g ≡ Some i → i < at_ → first_function 0 (take at_ items) g ≡ Some i
  earlier_function i e lt = by_part (first_function 0 (take at_ items) g) refl
    where
      by_part : (o : Option ℕ) → first_function 0 (take at_ items) g ≡ o → first_function 0 (take at_ items) g ≡ Some i
      by_part (Some j) h = h ∙ (sym (ap (λ o. or_first o (first_function at_ (drop at_ items) g)) h) ∙ (sym whole_functions ∙ e))
      by_part None h =
          let later : first_function at_ (drop at_ items) g ≡ Some i = sym (ap (λ o. or_first o (first_function at_ (drop at_ items) g)) h) ∙ (sym whole_functions ∙ e) in
          let low = (function_at at_ (drop at_ items) g i later).low in
          absurd (omega (arith, low))

  no_earlier_function : (i : ℕ) → first_function 0 items g ≡ Some i → at_ ≤ i → (first_function 0 (take at_ items) g ≡ None) × (first_function at_ (drop at_ items) g ≡ Some i)
  no_earlier_function i e le = by_part (first_function 0 (take at_ items) g) refl
    where
      by_part : (o : Option ℕ) → first_function 0 (take at_ items) g ≡ o → (first_function 0 (take at_ items) g ≡ None) × (first_function at_ (drop at_ items) g ≡ Some i)
      by_part (Some j) h =
          let same : Some j ≡ Some i = sym (ap (λ o. or_first o (first_function at_ (drop at_ items) g)) h) ∙ (sym whole_functions ∙ e) in
          let number : j ≡ i = cc in
          let high = (function_at 0 (take at_ items) g j h).high in
          let count = length_take at_ items there in
          absurd (omega (arith, high, count, number))
      by_part None h = (h, sym (ap (λ o. or_first o (first_function at_ (drop at_ items) g)) h) ∙ (sym whole_functions ∙ e))

  no_function_at_all : first_function 0 items g ≡ None → (first_function 0 (take at_ items) g ≡ None) × (first_function at_ (drop at_ items) g ≡ None)
  no_function_at_all e = by_part (first_function 0 (take at_ items) g) refl
    where
      by_part : (o : Option ℕ) → first_function 0 (take at_ items) g ≡ o → (first_function 0 (take at_ items) g ≡ None) × (first_function at_ (drop at_ items) g ≡ None)
      by_part (Some j) h = let same : Some j ≡ None = sym (ap (λ o. or_first o (first_function at_ (drop at_ items) g)) h) ∙ (sym whole_functions ∙ e) in absurd cc
      by_part None h = (h, sym (ap (λ o. or_first o (first_function at_ (drop at_ items) g)) h) ∙ (sym whole_functions ∙ e))

  earlier_struct : (i : ℕ) → first_struct 0 items g ≡ Some i → i < at_ → first_struct 0 (take at_ items) g ≡ Some i
  earlier_struct i e lt = by_part (first_struct 0 (take at_ items) g) refl
    where
      by_part : (o : Option ℕ) → first_struct 0 (take at_ items) g ≡ o → first_struct 0 (take at_ items) g ≡ Some i
      by_part (Some j) h = h ∙ (sym (ap (λ o. or_first o (first_struct at_ (drop at_ items) g)) h) ∙ (sym whole_structs ∙ e))
      by_part None h =
          let later : first_struct at_ (drop at_ items) g ≡ Some i = sym (ap (λ o. or_first o (first_struct at_ (drop at_ items) g)) h) ∙ (sym whole_structs ∙ e) in
          let low = (struct_at at_ (drop at_ items) g i later).low in
          absurd (omega (arith, low))

  no_earlier_struct : (i : ℕ) → first_struct 0 items g ≡ Some i → at_ ≤ i → first_struct 0 (take at_ items) g ≡ None
  no_earlier_struct i e le = by_part (first_struct 0 (take at_ items) g) refl
    where
      by_part : (o : Option ℕ) → first_struct 0 (take at_ items) g ≡ o → first_struct 0 (take at_ items) g ≡ None
      by_part (Some j) h =
          let same : Some j ≡ Some i = sym (ap (λ o. or_first o (first_struct at_ (drop at_ items) g)) h) ∙ (sym whole_structs ∙ e) in
          let number : j ≡ i = cc in
          let high = (struct_at 0 (take at_ items) g j h).high in
          let count = length_take at_ items there in
          absurd (omega (arith, high, count, number))
      by_part None h = h

  no_struct_before : first_struct 0 items g ≡ None → first_struct 0 (take at_ items) g ≡ None
  no_struct_before e = by_part (first_struct 0 (take at_ items) g) refl
    where
      by_part : (o : Option ℕ) → first_struct 0 (take at_ items) g ≡ o → first_struct 0 (take at_ items) g ≡ None
      by_part (Some j) h = let same : Some j ≡ None = sym (ap (λ o. or_first o (first_struct at_ (drop at_ items) g)) h) ∙ (sym whole_structs ∙ e) in absurd cc
      by_part None h = h

  -- ---- what the lookups answer

  pub knows_function_so : (i : ℕ) → first_function 0 items g ≡ Some i → nat_lt i at_ ≡ is_among (function_names (take at_ items)) g
  knows_function_so i e = ⊎_elim
      (λ (lt : i < at_). lt-ltb i at_ lt ∙ sym (function_at 0 (take at_ items) g i (earlier_function i e lt)).among)
      (λ (le : at_ ≤ i). le-ltb i at_ le ∙ sym (no_function 0 (take at_ items) g (no_earlier_function i e le).0).1)
      (cases_lt i at_)

  -- the function that stands at a name's number
  pub function_there : (i : ℕ) → first_function 0 items g ≡ Some i → (f : Function) → function_in (slice_get items i) ≡ Some f →
      IsFoundAs (functions_of (take at_ items)) (functions_of (drop at_ items)) g f (nat_lt i at_)
  function_there i e f h = ⊎_elim
      (λ (lt : i < at_).
      let k = function_at 0 (take at_ items) g i (earlier_function i e lt) in
      let zero : i - 0 ≡ i = omega arith in
      let same : Some k.function ≡ Some f = sym (ap function_in k.stands) ∙ (ap (λ j. function_in (slice_get (take at_ items) j)) zero ∙ (ap function_in (get_take at_ i items lt) ∙ h)) in
      rw (lt-ltb i at_ lt) (k.named ∙ same))
      (λ (le : at_ ≤ i).
      let two = no_earlier_function i e le in
      let k = function_at at_ (drop at_ items) g i two.1 in
      let number : at_ + (i - at_) ≡ i = omega arith in
      let same : Some k.function ≡ Some f = sym (ap function_in k.stands) ∙ (ap function_in (get_drop at_ (i - at_) items) ∙ (ap (λ j. function_in (slice_get items j)) number ∙ h)) in
      rw (le-ltb i at_ le) ((no_function 0 (take at_ items) g two.0).0, k.named ∙ same))
      (cases_lt i at_)

  pub function_nowhere : first_function 0 items g ≡ None → (function_named (functions_of (take at_ items)) g ≡ None) × (function_named (functions_of (drop at_ items)) g ≡ None)
  function_nowhere e = let two = no_function_at_all e in ((no_function 0 (take at_ items) g two.0).0, (no_function at_ (drop at_ items) g two.1).0)

  -- a function stands at its number
  pub function_stands : (i : ℕ) → first_function 0 items g ≡ Some i → function_in (slice_get items i) ≡ None → ⊥
  function_stands i e none =
      let s = function_at 0 items g i e in
      let zero : i - 0 ≡ i = omega arith in
      let some : Some s.function ≡ None = sym (ap function_in s.stands) ∙ (ap (λ k. function_in (slice_get items k)) zero ∙ none) in
      cc

  pub knows_no_function : first_function 0 items g ≡ None → false ≡ is_among (function_names (take at_ items)) g
  knows_no_function e = sym (no_function 0 (take at_ items) g (no_function_at_all e).0).1

  pub knows_struct_so : (i : ℕ) → first_struct 0 items g ≡ Some i → nat_lt i at_ ≡ is_among (struct_names (take at_ items)) g
  knows_struct_so i e = ⊎_elim
      (λ (lt : i < at_). lt-ltb i at_ lt ∙ sym (struct_at 0 (take at_ items) g i (earlier_struct i e lt)).among)
      (λ (le : at_ ≤ i). le-ltb i at_ le ∙ sym (no_struct 0 (take at_ items) g (no_earlier_struct i e le)).1)
      (cases_lt i at_)

  pub knows_no_struct : first_struct 0 items g ≡ None → false ≡ is_among (struct_names (take at_ items)) g
  knows_no_struct e = sym (no_struct 0 (take at_ items) g (no_struct_before e)).1

  pub no_cell : first_struct 0 items g ≡ None → (c : Name) → cell_of (structs_of (take at_ items)) g c ≡ None
  no_cell e c = (no_struct 0 (take at_ items) g (no_struct_before e)).0 c

  pub no_cell_yet : (i : ℕ) → first_struct 0 items g ≡ Some i → at_ ≤ i → (c : Name) → cell_of (structs_of (take at_ items)) g c ≡ None
  no_cell_yet i e le c = (no_struct 0 (take at_ items) g (no_earlier_struct i e le)).0 c

  -- the cells of the item at a struct's number
  pub cell_there : (i : ℕ) → first_struct 0 items g ≡ Some i → i < at_ → (c : Name) → cell_of (structs_of (take at_ items)) g c ≡ cells_in (struct_in (slice_get items i)) c
  cell_there i e lt c =
      let s = struct_at 0 (take at_ items) g i (earlier_struct i e lt) in
      let zero : i - 0 ≡ i = omega arith in
      let same : Some s.declaration ≡ struct_in (slice_get items i) = sym (ap struct_in s.stands) ∙ (ap (λ k. struct_in (slice_get (take at_ items) k)) zero ∙ ap struct_in (get_take at_ i items lt)) in
      s.cells c ∙ ap (λ (o : Option StructDecl). cells_in o c) same

-- ---- one more item

pub at_struct : (items : List CItem) (i : ℕ) (x : CItem) (s : StructDecl) → i < length items → x ≡ get_or items i x → x ≡ AStructDecl s → AStructDecl s ≡ get_or items i (AStructDecl s)
at_struct items i x s h e k = subst (λ (y : CItem). y ≡ get_or items i y) k e

pub at_function : (items : List CItem) (i : ℕ) (x : CItem) (f : Function) → i < length items → x ≡ get_or items i x → x ≡ AFunction f → AFunction f ≡ get_or items i (AFunction f)
at_function items i x f h e k = subst (λ (y : CItem). y ≡ get_or items i y) k e

struct_one : (n : ℕ) (s : StructDecl) (g : Name) → first_struct n (AStructDecl s ∷ []) g ≡ (if bytes_eq s.name g then Some n else None)
struct_one n s g = refl

or_none : (o : Option ℕ) → or_first o None ≡ o
or_none (Some n) = refl
or_none None = refl

module _ (items : List CItem) (i : ℕ) (old new : Directory) (h : i < length items) (k : Directs (take i items) old) where
  pub directs_struct : (s : StructDecl) → AStructDecl s ≡ get_or items i (AStructDecl s) → ((g : Name) → under new.functions g ≡ under old.functions g) →
      ((g : Name) → under new.structs g ≡ or_first (under old.structs g) (if bytes_eq s.name g then Some i else None)) → Directs (take (i + 1) items) new
  directs_struct s e f t =
      let whole : take (i + 1) items ≡ take i items ++ AStructDecl s ∷ [] = take_more items i (AStructDecl s) h ∙ ap (λ x. take i items ++ x ∷ []) (sym e) in
      let number : 0 + length (take i items) ≡ i = omega (arith, length_take i items) in
      subst (λ (xs : List CItem). Directs xs new) (sym whole) (record {
        functions_are = λ g. f g ∙ (k.functions_are g ∙ sym (function-append 0 (take i items) (AStructDecl s ∷ []) g ∙ or_none (first_function 0 (take i items) g)));
        structs_are = λ g. t g ∙ ((λ j. or_first (k.structs_are g j) (first_struct (sym number j) (AStructDecl s ∷ []) g)) ∙ sym (struct-append 0 (take i items) (AStructDecl s ∷ []) g));
      })

  pub directs_function : (f : Function) → AFunction f ≡ get_or items i (AFunction f) → ((g : Name) → under new.functions g ≡ or_first (under old.functions g) (if bytes_eq f.name g then Some i else None)) →
      ((g : Name) → under new.structs g ≡ under old.structs g) → Directs (take (i + 1) items) new
  directs_function f e t s =
      let whole : take (i + 1) items ≡ take i items ++ AFunction f ∷ [] = take_more items i (AFunction f) h ∙ ap (λ x. take i items ++ x ∷ []) (sym e) in
      let number : 0 + length (take i items) ≡ i = omega (arith, length_take i items) in
      subst (λ (xs : List CItem). Directs xs new) (sym whole) (record {
        structs_are = λ g. s g ∙ (k.structs_are g ∙ sym (struct-append 0 (take i items) (AFunction f ∷ []) g ∙ or_none (first_struct 0 (take i items) g)));
        functions_are = λ g. t g ∙ ((λ j. or_first (k.functions_are g j) (first_function (sym number j) (AFunction f ∷ []) g)) ∙ sym (function-append 0 (take i items) (AFunction f ∷ []) g));
      })

pub put_at : (r o : Option ℕ) (g : Name) {x y : Name} {m n : ℕ} → r ≡ or_first o (if bytes_eq x g then Some m else None) → x ≡ y → m ≡ n → r ≡ or_first o (if bytes_eq y g then Some n else None)
put_at r o g h e k = h ∙ (λ i. or_first o (if bytes_eq (e i) g then Some (k i) else None))
