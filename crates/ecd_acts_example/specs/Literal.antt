-- A small generator: the function that compares bytes in a window with a literal, by the literal's bytes.
use Rattle.std.specs.Prelude.{ℕ, suc, ◌+◌, ◌≤◌, ◌≡◌, Bool, true, false, if◌then◌else◌, nat_eq, List, [], ◌∷◌, ◌++◌, length, drop}
use Rattle.ecd_cast.specs.declared.tree.Op.TheVariants.{Ne}
use Rattle.ecd_cast.specs.declared.tree.Expr.TheVariants.{Number, Load}
use Rattle.ecd_cast.specs.declared.tree.Stmt.{Stmt}
use Rattle.ecd_cast.specs.declared.tree.Stmt.TheVariants.{Return}
use Rattle.ecd_cast.specs.declared.tree.Function.{Function}
use Rattle.ecd_cast.specs.Memory.{Name, Memory}
use Rattle.ecd_cast.specs.Meaning.{Calls, called}
use Rattle.ecd_emit.specs.Shorthands.{number, pointer, guard, plus}
use Rattle.ecd_emit.specs.Variables as v
use Rattle.ecd_emit.specs.Windows.{Callee, Window, placed}
use Rattle.ecd_acts.specs.Acts.{Returns_with}
use Rattle.ecd_acts.specs.Ends.{Silent}

-- ---- the tree

-- `if (buf[(at + k)] != byte) { return 0; } else { }` for each byte
abbrev pub literal_turns : ℕ → List ℕ → List Stmt
literal_turns k [] = []
literal_turns k (byte ∷ literal) = guard Ne (Load v.buf (plus v.at k)) (Number byte) (Number 0) ∷ literal_turns (suc k) literal

unfoldable pub literal_function : Name → List ℕ → Function
literal_function name literal = record {
  name = name;
  params = pointer v.buf ∷ number v.at ∷ [];
  body = literal_turns 0 literal ++ Return (Number 1) ∷ [];
}

-- ---- the answer

abbrev pub begins : List ℕ → List ℕ → Bool
begins bytes [] = true
begins [] (c ∷ literal) = false
begins (b ∷ bytes) (c ∷ literal) = if nat_eq b c then begins bytes literal else false

abbrev pub answer : Bool → ℕ
answer true = 1
answer false = 0

-- 1 where the literal stands at a place of the window, else 0, in at most a step for each byte and two more
pub record ComparesLiteral (literal : List ℕ) (callee : Callee) : Type 0 where
  pub answers : (block offset len at : ℕ) (m : Memory) (bytes : List ℕ) → Window m block offset len bytes → at + length literal ≤ len →
      Returns_with (callee (placed block offset at) m) (Silent (λ n. n ≡ answer (begins (drop at bytes) literal)) (length literal + 2))

-- ---- a law

abbrev pub LiteralsCompare : Type 0
LiteralsCompare = (name : Name) (literal : List ℕ) (calls : Calls) (item : ℕ) → ComparesLiteral literal (called calls item (literal_function name literal))
