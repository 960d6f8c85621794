-- The table of commands: words ask for one thing at most.
use Rattle.std.proofs.Common.{◌≡◌, ℕ, ◌+◌, ◌*◌, ◌<◌, ◌≤◌, ◌^◌, List, [], ◌∷◌, ◌++◌, length, get_or, arith, ap, sym, ◌∙◌}
use Rattle.std.specs.Prelude.{decimal, codes}
use Rattle.std.proofs.lemmas.Fmt.{decimal_injective}
use Rattle.ecd_commands.proofs.Depths.{depth_same}
use Rattle.ecd_commands.specs.Asked.{Asked, SchemaAsked, check, compile, read, write, copy, run, sample, IsInRange, Asks, AskOneThing, depth_word, schema_words, words_behind, command_of}

-- the first three letters of the first word, as one number; they tell the commands apart
abbrev first_letters : List (List ℕ) → ℕ
first_letters ((a ∷ b ∷ c ∷ more) ∷ words) = a * 65536 + b * 256 + c
first_letters _ = 0

number_same : (a b : ℕ) → a < 2 ^ 64 → b < 2 ^ 64 → decimal a ≡ decimal b → a ≡ b
number_same a b p q e = decimal_injective a b (omega (arith, p)) (omega (arith, q)) e

schema_same : (s t : SchemaAsked) → s.depth ≤ 32 → t.depth ≤ 32 → s.file ≡ t.file → s.root ≡ t.root → depth_word s.depth s.order ≡ depth_word t.depth t.order → s ≡ t
schema_same s t p q file root depth =
    let same = depth_same s.depth t.depth s.order t.order p q depth in
    λ i. record { file = file i; root = root i; depth = same.0 i; order = same.1 i }

one_asked : (one other : Asked) → command_of one ∷ words_behind one ≡ command_of other ∷ words_behind other → IsInRange one → IsInRange other → one ≡ other
one_asked (check s) (check t) e p q =
    let files : s.file ≡ t.file = cc in
    let roots : s.root ≡ t.root = cc in
    let depths : depth_word s.depth s.order ≡ depth_word t.depth t.order = cc in
    ap check (schema_same s t p q files roots depths)
one_asked (compile s) (compile t) e p q =
    let files : s.file ≡ t.file = cc in
    let roots : s.root ≡ t.root = cc in
    let depths : depth_word s.depth s.order ≡ depth_word t.depth t.order = cc in
    ap compile (schema_same s t p q files roots depths)
one_asked (read s d) (read t f) e p q =
    let files : s.file ≡ t.file = cc in
    let roots : s.root ≡ t.root = cc in
    let depths : depth_word s.depth s.order ≡ depth_word t.depth t.order = cc in
    let file : d ≡ f = cc in
    let same = schema_same s t p q files roots depths in
    λ i. read (same i) (file i)
one_asked (write s v m) (write t w n) e p q =
    let files : s.file ≡ t.file = cc in
    let roots : s.root ≡ t.root = cc in
    let depths : depth_word s.depth s.order ≡ depth_word t.depth t.order = cc in
    let value : v ≡ w = cc in
    let same = schema_same s t p.0 q.0 files roots depths in
    let digits : decimal m ≡ decimal n = cc in
    let caps : m ≡ n = number_same m n (omega (arith, p.1)) (omega (arith, q.1)) digits in
    λ i. write (same i) (value i) (caps i)
one_asked (copy s v m) (copy t w n) e p q =
    let files : s.file ≡ t.file = cc in
    let roots : s.root ≡ t.root = cc in
    let depths : depth_word s.depth s.order ≡ depth_word t.depth t.order = cc in
    let file : v ≡ w = cc in
    let same = schema_same s t p.0 q.0 files roots depths in
    let digits : decimal m ≡ decimal n = cc in
    let caps : m ≡ n = number_same m n (omega (arith, p.1)) (omega (arith, q.1)) digits in
    λ i. copy (same i) (file i) (caps i)
one_asked (run c f d m) (run c' f' d' n) e p q =
    let digits : decimal m ≡ decimal n = cc in
    let steps : m ≡ n = number_same m n (omega (arith, p.1)) (omega (arith, q.1)) digits in
    let files : c ≡ c' = cc in
    let functions : f ≡ f' = cc in
    let file : d ≡ d' = cc in
    λ i. run (files i) (functions i) (file i) (steps i)
one_asked (sample m) (sample n) e p q =
    let digits : decimal m ≡ decimal n = cc in
    ap sample (number_same m n (omega (arith, p.1)) (omega (arith, q.1)) digits)
one_asked one other e p q =
    let letters = ap first_letters e in
    let none : ⊥ = omega (arith, letters) in
    absurd none

-- words ask for one thing at most
pub asks_one : AskOneThing
asks_one words one other a b = one_asked one other (sym a.spelled ∙ b.spelled) a.in_range b.in_range

-- ---- what the words behind a command are

pub is_read : (rest : List (List ℕ)) (asked : Asked) → Asks (codes "read" ∷ rest) asked → (s : SchemaAsked) × (d : List ℕ) × (rest ≡ schema_words s ++ d ∷ []) × (s.depth ≤ 32)
is_read rest (read s d) a = let e = a.spelled in let same : rest ≡ schema_words s ++ d ∷ [] = cc in (s, d, same, a.in_range)
is_read rest other a = let letters = ap first_letters a.spelled in let none : ⊥ = omega (arith, letters) in absurd none

pub is_write : (rest : List (List ℕ)) (asked : Asked) → Asks (codes "write" ∷ rest) asked
    → (s : SchemaAsked) × (v : List ℕ) × (cap : ℕ) × (rest ≡ schema_words s ++ v ∷ decimal cap ∷ []) × (s.depth ≤ 32) × (cap ≤ 16777216)
is_write rest (write s v cap) a = let e = a.spelled in let same : rest ≡ schema_words s ++ v ∷ decimal cap ∷ [] = cc in (s, v, cap, same, a.in_range.0, a.in_range.1)
is_write rest other a = let letters = ap first_letters a.spelled in let none : ⊥ = omega (arith, letters) in absurd none

pub is_copy : (rest : List (List ℕ)) (asked : Asked) → Asks (codes "copy" ∷ rest) asked
    → (s : SchemaAsked) × (d : List ℕ) × (cap : ℕ) × (rest ≡ schema_words s ++ d ∷ decimal cap ∷ []) × (s.depth ≤ 32) × (cap ≤ 16777216)
is_copy rest (copy s d cap) a = let e = a.spelled in let same : rest ≡ schema_words s ++ d ∷ decimal cap ∷ [] = cc in (s, d, cap, same, a.in_range.0, a.in_range.1)
is_copy rest other a = let letters = ap first_letters a.spelled in let none : ⊥ = omega (arith, letters) in absurd none

pub is_run : (rest : List (List ℕ)) (asked : Asked) → Asks (codes "run" ∷ rest) asked
    → (c : List ℕ) × (f : List ℕ) × (d : List ℕ) × (steps : ℕ) × (rest ≡ c ∷ f ∷ d ∷ decimal steps ∷ []) × (1 ≤ steps) × (steps ≤ 9223372036854775807)
is_run rest (run c f d steps) a = let e = a.spelled in let same : rest ≡ c ∷ f ∷ d ∷ decimal steps ∷ [] = cc in (c, f, d, steps, same, a.in_range.0, a.in_range.1)
is_run rest other a = let letters = ap first_letters a.spelled in let none : ⊥ = omega (arith, letters) in absurd none

-- ---- lists by their lengths

pub four : {A : Type 0} (xs : List A) (a b c d : A) → 4 ≤ length xs → length xs < 5 → a ≡ get_or xs 0 a → b ≡ get_or xs 1 b → c ≡ get_or xs 2 c → d ≡ get_or xs 3 d → xs ≡ a ∷ b ∷ c ∷ d ∷ []
four [] a b c d least most = absurd (omega arith)
four (x ∷ []) a b c d least most = absurd (omega arith)
four (x ∷ y ∷ []) a b c d least most = absurd (omega arith)
four (x ∷ y ∷ z ∷ []) a b c d least most = absurd (omega arith)
four (x ∷ y ∷ z ∷ w ∷ []) a b c d least most = λ p q r s. cc
four (x ∷ y ∷ z ∷ w ∷ v ∷ more) a b c d least most = absurd (omega arith)

pub five : {A : Type 0} (xs : List A) (a b c d f : A) → 5 ≤ length xs → length xs < 6 → a ≡ get_or xs 0 a → b ≡ get_or xs 1 b → c ≡ get_or xs 2 c → d ≡ get_or xs 3 d → f ≡ get_or xs 4 f → xs ≡ a ∷ b ∷ c ∷ d ∷ f ∷ []
five [] a b c d f least most = absurd (omega arith)
five (x ∷ []) a b c d f least most = absurd (omega arith)
five (x ∷ y ∷ []) a b c d f least most = absurd (omega arith)
five (x ∷ y ∷ z ∷ []) a b c d f least most = absurd (omega arith)
five (x ∷ y ∷ z ∷ w ∷ []) a b c d f least most = absurd (omega arith)
five (x ∷ y ∷ z ∷ w ∷ v ∷ []) a b c d f least most = λ p q r s t. cc
five (x ∷ y ∷ z ∷ w ∷ v ∷ u ∷ more) a b c d f least most = absurd (omega arith)
