-- Choices and loops, by their parts.
use Rattle.std.proofs.Common.{ℕ, ◌+◌, List, [], ◌∷◌, arith}
use Rattle.ecd_cast.specs.Memory.{Memory, Event}
use Rattle.ecd_cast.specs.Expressions.{Scopes}
use Rattle.ecd_cast.specs.Meaning.{Code, block, shifted, scoped}
use Rattle.ecd_calculus.specs.Ends.{End, Behind, With, Ends}
use Rattle.ecd_calculus.specs.Laws.{Choice, Repetition, outside}
use Rattle.ecd_cast.specs.Meaning.{count_all}
use Rattle.ecd_calculus.proofs.Calculus.{ends_scoped, returns_scoped, quiet_loop}
use Rattle.ecd_cast.proofs.Layers.{does-If, does-For}

ends_outside : (code : Code) (env : Scopes) (m : Memory) (e : End) (ws : List Event) (most : ℕ) → Ends (code ([] ∷ env) m) e ws most → Ends (scoped code env m) (outside e) ws most
ends_outside code env m (Behind next) ws most h = ends_scoped code env m next ws most h
ends_outside code env m (With n) ws most h = returns_scoped code env m n ws most h

pub choice : Choice
choice = record {
  first = λ calls t ys ns p env m e ws most v h. rw (does-If calls t ys ns p env m, v.tells) (ends_outside (block calls ys (shifted p 1)) env m e ws most h);
  second = λ calls t ys ns p env m e ws most v h. rw (does-If calls t ys ns p env m, v.tells) (ends_outside (block calls ns (shifted p (1 + count_all ys))) env m e ws most h);
}

pub repetition : Repetition
repetition calls x b body p m E n k v turn = rw (does-For calls x b body p (E 0) m, v) (quiet_loop x (block calls body (shifted p 1)) m E n k turn n 0 (omega arith))
