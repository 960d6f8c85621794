-- Reading one part after the other, as a loop does.
use Rattle.std.proofs.Common.{◌≡◌, ℕ, suc, Bool, true, false, List, [], ◌∷◌, drop, Some, None, Result, refl, sym, ap}
use Rattle.std.specs.Prelude.{is_some, codes}
use Rattle.ecd_cast.specs.Lexemes.{Lexeme}
use Rattle.ecd_cgrammar.specs.Reading.{Taken, Halted, Stuck, Reader, deep, taken, peek, same, begins, expect, after, many, one_or_more}
use Rattle.ecd_reading.proofs.Loops.{with_front, halted}
use Rattle.ecd_cread.specs.Reads.{Fails, passed}
use Rattle.ecd_cread.specs.declared.cursor.Halt.{Halt}
use Rattle.ecd_cread.specs.declared.cursor.Halt.TheVariants as halts

module _ {A : Type 0} (test : List Lexeme → Bool) (one : Reader A) where
  -- what halts one part halts all
  pub ends : (all : List Lexeme) (e : Halt) (n m : ℕ) (front : List A) (ms : List Lexeme) (total : Result (Taken (List A)) Halted) → n ≡ suc m → test ms ≡ true → Fails all e (one ms)
      → with_front front (many test one deep n ms) ≡ total → Fails all e total
  ends all halts.OutOfMemory n m front ms total i yes_ fails so_far = tt
  ends all (halts.Unexpected at) n m front ms total i yes_ fails so_far = halted deep test one (Stuck (drop at all)) n m front ms total i yes_ fails so_far

  -- the first one
  pub first_is : (first : Reader A) (size : ℕ) (x : A) (ms rest : List Lexeme) → first ms ≡ taken x rest → with_front (x ∷ []) (many test one deep size rest) ≡ one_or_more test one first size ms
  unfolding one_or_more after
  first_is first size x ms rest h = rw h refl

  pub first_fails : (first : Reader A) (size : ℕ) (all : List Lexeme) (e : Halt) (ms : List Lexeme) → Fails all e (first ms) → Fails all e (one_or_more test one first size ms)
  unfolding one_or_more after
  first_fails first size all halts.OutOfMemory ms h = tt
  first_fails first size all (halts.Unexpected at) ms h = rw h refl

-- ---- a comma before each

pub comma_here : (all : List Lexeme) (ms : List Lexeme) (next : ℕ) → passed all (Some next) ≡ peek (same (codes ",")) ms → begins (same (codes ",")) ms ≡ true
comma_here all ms next h = ap is_some (sym h)

pub no_comma_here : (all : List Lexeme) (ms : List Lexeme) → passed all None ≡ peek (same (codes ",")) ms → begins (same (codes ",")) ms ≡ false
no_comma_here all ms h = ap is_some (sym h)

pub behind_comma : {A : Type 0} (all : List Lexeme) (one : Reader A) (ms : List Lexeme) (next : ℕ) → passed all (Some next) ≡ peek (same (codes ",")) ms → expect (codes ",") one ms ≡ one (drop next all)
unfolding expect
behind_comma all one ms next h = rw (← h) refl
