-- Comparisons of bytes with literals, of one byte and of two, four and eight at once.
use Rattle.std.specs.Prelude.{ℕ, suc, ◌+◌, ◌≤◌, ◌≡◌, Bool, true, false, ◌&&◌, if◌then◌else◌, nat_eq, Some, List, [], ◌∷◌, ◌++◌, length, take, drop}
use Rattle.std.specs.Int.{Width, w16, w32, w64, byte_len, from_be_bytes}
use Rattle.ecd_cast.specs.declared.tree.Op.TheVariants.{Ne}
use Rattle.ecd_cast.specs.declared.tree.Expr.{Expr}
use Rattle.ecd_cast.specs.declared.tree.Expr.TheVariants.{Number, Var}
use Rattle.ecd_cast.specs.declared.tree.Source.TheVariants.{Call as FromCall}
use Rattle.ecd_cast.specs.declared.tree.Stmt.{Stmt}
use Rattle.ecd_cast.specs.declared.tree.Stmt.TheVariants.{Assign}
use Rattle.ecd_cast.specs.declared.value.Value.{Value}
use Rattle.ecd_cast.specs.declared.value.Value.TheVariants.{Number as Num}
use Rattle.ecd_cast.specs.Memory.{Name, Memory}
use Rattle.ecd_cast.specs.Expressions.{Scopes, lookup}
use Rattle.ecd_cast.specs.Meaning.{Calls, assign}
use Rattle.ecd_emit.specs.Shorthands.{guard}
use Rattle.ecd_emit.specs.Windows.{IsBytes}
use Rattle.ecd_acts.specs.Acts.{Known, Acts, Returns_with, Is, Hands}
use Rattle.ecd_acts.specs.Ends.{Silent}
use Rattle.ecd_acts.specs.Rules.{Told, holds}

-- whether the bytes begin with a literal
abbrev pub begins : (bytes literal : List ℕ) → Bool
begins bytes [] = true
begins [] (c ∷ literal) = false
begins (b ∷ bytes) (c ∷ literal) = if nat_eq b c then begins bytes literal else false

-- so many bytes are compared with as many of a literal by their big-endian numbers
abbrev pub ComparedAs : Width → Type 0
ComparedAs w = (bytes literal : List ℕ) → IsBytes bytes → IsBytes literal → length literal ≡ byte_len w → byte_len w ≤ length bytes → nat_eq (from_be_bytes w (take (byte_len w) bytes)) (from_be_bytes w literal) ≡ begins bytes literal

-- `x = g(args); if (x != literal) { return e; } else { }`
abbrev pub where_other : Name → Name → List Expr → ℕ → Expr → List Stmt → List Stmt
where_other x g args literal e rest = Assign x (FromCall g args) ∷ guard Ne (Var x) (Number literal) e ∷ rest

-- ---- laws

pub record LiteralsByParts : Type 0 where
  pub joined : (bytes first second : List ℕ) → begins bytes (first ++ second) ≡ (begins bytes first && begins (drop (length first) bytes) second)
  pub two : ComparedAs w16
  pub four : ComparedAs w32
  pub eight : ComparedAs w64

-- A function g that loads a number, in at most so many steps, compares with a literal of its bytes: what is to be shown where they differ, and of the rest where they are the same. The variable x stands already.
pub record ComparingWide (P : Known ℕ) (F : Known Scopes) : Type 0 where
  pub wide :
      {calls : Calls} {m : Memory} {x g : Name} {args : List Expr} {e : Expr} {rest : List Stmt} {env : Scopes} (w : Width) (vs : List Value) (old : Value) (bytes literal : List ℕ) (most n : ℕ) →
      ComparedAs w → IsBytes bytes → IsBytes literal → length literal ≡ byte_len w → byte_len w ≤ length bytes → lookup env x ≡ Some old →
      Hands args env m vs → Returns_with (calls g vs m) (Silent (λ loaded. loaded ≡ from_be_bytes w (take (byte_len w) bytes)) most) → ((loaded : ℕ) → Is e ([] ∷ assign x (Num loaded) env) m (Num n)) →
      ((k : ℕ) → k ≤ most → begins bytes literal ≡ false → P n [] (suc (k + 2))) →
      ((k : ℕ) → k ≤ most → begins bytes literal ≡ true → Acts calls m rest (assign x (Num (from_be_bytes w literal)) env) (λ r ws j. P r ws (suc (k + suc j))) (λ next ws j. F next ws (suc (k + suc j)))) →
      Acts calls m (where_other x g args (from_be_bytes w literal) e rest) env P F

abbrev pub ComparingWideHolds : Type 0
ComparingWideHolds = (p : Told ℕ) (f : Told Scopes) → ComparingWide (holds p) (holds f)
