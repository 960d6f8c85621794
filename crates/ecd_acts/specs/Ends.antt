-- Places that answers name: one behind another, the first of two, and none; and parts of windows.
use Rattle.std.specs.Prelude.{ℕ, ◌+◌, ◌-◌, ◌<◌, ◌≤◌, ◌≡◌, ◌≢◌, ◌⊎◌, Bool, true, List, [], take, drop}
use Rattle.ecd_cast.specs.Memory.{Memory, Event, after}
use Rattle.ecd_calculus.specs.Laws.{Spares}
use Rattle.ecd_calculus.specs.Ends.{Answers, Does}
use Rattle.ecd_cast.specs.Meaning.{Run}
use Rattle.ecd_emit.specs.Windows.{Window, IsEnd}
use Rattle.ecd_acts.specs.Acts.{Known, Returns_with}

-- the second behind the first
abbrev pub Then : (ℕ → Type 0) → (ℕ → ℕ → Type 0) → ℕ → Type 0
Then S T e = (mid : ℕ) × S mid × T mid e

-- ends with S, or with T where S has none
abbrev pub Or_else : (S T : ℕ → Type 0) → ℕ → Type 0
Or_else S T e = S e ⊎ (((d : ℕ) → S d → ⊥) × T e)

-- how ends are put together
pub record EndsTogether (S T : ℕ → Type 0) (B : ℕ → ℕ → Type 0) : Type 0 where
  pub alike : (n : ℕ) → ((e : ℕ) → S e → T e) → ((e : ℕ) → T e → S e) → IsEnd S n → IsEnd T n
  pub none : ((e : ℕ) → S e → ⊥) → IsEnd S 0
  pub one : (n : ℕ) → 0 < n → S n → ((e : ℕ) → S e → n ≡ e) → IsEnd S n
  pub is_none : IsEnd S 0 → (e : ℕ) → S e → ⊥
  pub none_then : IsEnd S 0 → IsEnd (Then S B) 0
  pub behind : (n k : ℕ) → IsEnd S n → n ≢ 0 → IsEnd (B n) k → IsEnd (Then S B) k
  pub first : (n : ℕ) → IsEnd S n → n ≢ 0 → IsEnd (Or_else S T) n
  pub second : (k : ℕ) → IsEnd S 0 → IsEnd T k → IsEnd (Or_else S T) k

-- ---- windows

-- parts of windows are windows, and windows stay behind writes to other blocks
pub record WindowParts : Type 0 where
  pub behind : (m : Memory) (block offset len at : ℕ) (bytes : List ℕ) → Window m block offset len bytes → at ≤ len → Window m block (offset + at) (len - at) (drop at bytes)
  pub front : (m : Memory) (block offset len count : ℕ) (bytes : List ℕ) → Window m block offset len bytes → count ≤ len → Window m block offset count (take count bytes)
  pub kept : (m : Memory) (block offset len : ℕ) (bytes : List ℕ) (es : List Event) → Window m block offset len bytes → Spares block es → Window (after es m) block offset len bytes

-- ---- the older words

-- answers within a number of steps, and returns of one number with its writes
abbrev pub Silent : (ℕ → Type 0) → ℕ → Known ℕ
Silent P most n ws k = (ws ≡ []) × P n × (k ≤ most)

abbrev pub Just : ℕ → List Event → ℕ → Known ℕ
Just n vs most x ws k = (x ≡ n) × (ws ≡ vs) × (k ≤ most)

pub record AsAnswers (P : ℕ → Type 0) : Type 0 where
  pub said : (r : Run) (most : ℕ) → Answers r P most → Returns_with r (Silent P most)
  pub back : (r : Run) (most : ℕ) → Returns_with r (Silent P most) → Answers r P most

pub record AsDoes : Type 0 where
  pub said : (r : Run) (n most : ℕ) (vs : List Event) → Does r n vs most → Returns_with r (Just n vs most)
  pub back : (r : Run) (n most : ℕ) (vs : List Event) → Returns_with r (Just n vs most) → Does r n vs most

-- ---- laws

abbrev pub EndsPutTogether : Type 0
EndsPutTogether = (s t : ℕ → Bool) (b : ℕ → ℕ → Bool) → EndsTogether (λ e. s e ≡ true) (λ e. t e ≡ true) (λ m e. b m e ≡ true)

abbrev pub OlderAnswers : Type 0
OlderAnswers = (p : ℕ → Bool) → AsAnswers (λ n. p n ≡ true)
