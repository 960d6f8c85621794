-- Bytes that stand at places of a window, and framed places: those where one of some texts stands, none of which begins another.
use Rattle.std.specs.Prelude.{ℕ, ◌+◌, ◌<◌, ◌≤◌, ◌≡◌, ◌⊎◌, Bool, true, List, ◌++◌, length, take}
use Rattle.ecd_cast.specs.Memory.{Memory}
use Rattle.ecd_head.specs.Place.{StandsAt}
use Rattle.ecd_emit.specs.Windows.{Window, IsEnd}

-- none of the texts is empty, or begins another one
pub record EndOnce (T : List ℕ → Type 0) : Type 0 where
  pub some : (text : List ℕ) → T text → 0 < length text
  pub once : (text other rest others : List ℕ) → T text → T other → text ++ rest ≡ other ++ others → rest ≡ others

-- one of the texts stands from one place to another
pub record Framed (T : List ℕ → Type 0) (bytes : List ℕ) (at e : ℕ) : Type 0 where
  pub text : List ℕ
  pub is : T text
  pub stands : StandsAt bytes at text e

-- ---- laws

-- what stands in a window lies inside it, is a window, and stands where the window is cut off behind it; one part stands behind another, and in what stands
pub record StandingParts : Type 0 where
  pub inside : (m : Memory) (block offset len at e : ℕ) (bytes text : List ℕ) → Window m block offset len bytes → at ≤ len → StandsAt bytes at text e → e ≤ len
  pub window : (m : Memory) (block offset len at e : ℕ) (bytes text : List ℕ) → Window m block offset len bytes → at ≤ len → StandsAt bytes at text e → Window m block (offset + at) (length text) text
  pub cut : (at e n : ℕ) (bytes text : List ℕ) → StandsAt bytes at text e → e ≤ n → StandsAt (take n bytes) at text e
  pub whole : (at e n : ℕ) (bytes text : List ℕ) → at ≤ n → n ≤ length bytes → StandsAt (take n bytes) at text e → StandsAt bytes at text e
  pub joined : (at mid e : ℕ) (bytes text other : List ℕ) → StandsAt bytes at text mid → StandsAt bytes mid other e → StandsAt bytes at (text ++ other) e
  pub first : (at e : ℕ) (bytes text other : List ℕ) → StandsAt bytes at (text ++ other) e → StandsAt bytes at text (at + length text)
  pub second : (at e : ℕ) (bytes text other : List ℕ) → StandsAt bytes at (text ++ other) e → StandsAt bytes (at + length text) other e
  pub within : (at e i j : ℕ) (bytes text part : List ℕ) → StandsAt bytes at text e → i ≤ length text → StandsAt text i part j → StandsAt bytes (at + i) part (at + j)

-- A framed place has one end, behind which nothing decides: it is framed alike in the window that is cut off there. What finds framed places alone finds that end there, or none.
pub record FramedPlaces (T : List ℕ → Type 0) : Type 0 where
  pub end : (bytes : List ℕ) (at e : ℕ) → EndOnce T → Framed T bytes at e → IsEnd (Framed T bytes at) e
  pub cut : (bytes : List ℕ) (at e n : ℕ) → Framed T bytes at e → e ≤ n → Framed T (take n bytes) at e
  pub whole : (bytes : List ℕ) (at e n : ℕ) → at ≤ n → n ≤ length bytes → Framed T (take n bytes) at e → Framed T bytes at e
  pub window : (m : Memory) (block offset len at e : ℕ) (bytes : List ℕ) → Window m block offset len bytes → at ≤ len → Framed T bytes at e → Window m block offset e (take e bytes)
  pub found : (S : ℕ → Bool) (bytes : List ℕ) (at e n : ℕ) → EndOnce T → Framed T bytes at e → ((d : ℕ) → S d ≡ true → Framed T bytes at d) → IsEnd (λ d. S d ≡ true) n → (n ≡ 0) ⊎ (n ≡ e)

abbrev pub FramedPlacesEnd : Type 0
FramedPlacesEnd = (t : List ℕ → Bool) → FramedPlaces (λ text. t text ≡ true)
