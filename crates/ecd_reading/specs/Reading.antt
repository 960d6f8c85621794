-- Reading tokens from left to right, up to the first that cannot be taken.
use Rattle.std.specs.Prelude.{ℕ, zero, suc, Bool, true, false, List, [], ◌∷◌, length, Option, Some, None, Result, Ok, Err, is_some, if◌then◌else◌}

-- what is read: a value, and the tokens behind it
pub record Taken (T A : Type 0) : Type 0 where
  pub value : A
  pub rest : List T

-- why nothing is read: the first of these tokens, or their end, cannot be taken; or more stands inside each other than is looked at
pub data Halted (T : Type 0) : Type 0 where
  Stuck : List T → Halted T
  Deep : Halted T

abbrev pub Reader : Type 0 → Type 0 → Type 0
Reader T A = List T → Result (Taken T A) (Halted T)

infixl 10 ◌>>=◌
abbrev pub ◌>>=◌ : {T A B : Type 0} → Result A (Halted T) → (A → Result B (Halted T)) → Result B (Halted T)
(Ok x) >>= f = f x
(Err e) >>= f = Err e

abbrev pub taken : {T A : Type 0} → A → Reader T A
taken x rest = Ok record { value = x; rest = rest }

abbrev pub stuck : {T A : Type 0} → Reader T A
stuck ms = Err (Stuck ms)

abbrev pub deep : {T A : Type 0} → Reader T A
deep ms = Err Deep

abbrev pub with_rest : {T A : Type 0} → List T → Option A → Option (Taken T A)
with_rest rest None = None
with_rest rest (Some x) = Some record { value = x; rest = rest }

-- what the table says of the first token
abbrev pub peek : {T A : Type 0} → (T → Option A) → List T → Option (Taken T A)
peek table [] = None
peek table (m ∷ ms) = with_rest ms (table m)

abbrev pub choose : {T A B : Type 0} → Option (Taken T A) → (A → Reader T B) → Reader T B → Reader T B
choose None p q ms = q ms
choose (Some t) p q ms = p t.value t.rest

-- the one behind a token of which the table says something, and else the other
abbrev pub on : {T A B : Type 0} → (T → Option A) → (A → Reader T B) → Reader T B → Reader T B
on table p q ms = choose (peek table ms) p q ms

abbrev pub token : {T A : Type 0} → (T → Option A) → Reader T A
token table = on table taken stuck

abbrev pub begins : {T A : Type 0} → (T → Option A) → List T → Bool
begins table ms = is_some (peek table ms)

-- whether there is a token
abbrev pub is_more : {T : Type 0} → List T → Bool
is_more [] = false
is_more (m ∷ ms) = true

-- the one, and then the other
abbrev pub after : {T A B : Type 0} → Reader T A → (A → Reader T B) → Reader T B
after p q ms = p ms >>= λ x. q x.value x.rest

abbrev pub behind : {T A B : Type 0} → (T → Option A) → Reader T B → Reader T B
behind table one ms = token table ms >>= λ s. one s.rest

-- one after the other while the test holds, and behind so many the end
unfoldable pub many : {T A : Type 0} → (List T → Bool) → Reader T A → Reader T (List A) → ℕ → Reader T (List A)
many test one end zero ms = end ms
many test one end (suc n) ms = if test ms then (one ms >>= λ x. many test one end n x.rest >>= λ xs. taken (x.value ∷ xs.value) xs.rest) else taken [] ms

-- one after the other while the test holds: there are no more than tokens
abbrev pub each : {T A : Type 0} → (List T → Bool) → Reader T A → Reader T (List A)
each test one ms = many test one (taken []) (suc (length ms)) ms
