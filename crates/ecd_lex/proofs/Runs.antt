-- Runs of bytes that pass a test.
use Rattle.std.proofs.Common.{◌≡◌, ℕ, ◌+◌, suc, Bool, false, List, [], ◌∷◌, ◌++◌, length, take, refl, sym, ◌∙◌, ap, arith, one-add, zero-add, inl, inr}
use Rattle.std.specs.List.{prefix_len}
use Rattle.ecd_lex.specs.Characters.{Each}
use Rattle.ecd_lex.proofs.Booleans.{tests}

-- bytes that pass, and how many follow them
pub run_all : (p : ℕ → Bool) (bytes more : List ℕ) → Each p bytes → prefix_len p (bytes ++ more) ≡ length bytes + prefix_len p more
run_all p [] more e = sym (zero-add (prefix_len p more))
run_all p (c ∷ bytes) more e = rw (e.0, one-add) (ap suc (run_all p bytes more e.1) ∙ omega arith)

pub run_stop : (p : ℕ → Bool) (c : ℕ) (more : List ℕ) → p c ≡ false → prefix_len p (c ∷ more) ≡ 0
run_stop p c more e = rw e refl

-- bytes that pass, before one that does not
pub run_exact : (p : ℕ → Bool) (bytes : List ℕ) (c : ℕ) (more : List ℕ) → Each p bytes → p c ≡ false → prefix_len p (bytes ++ c ∷ more) ≡ length bytes
run_exact p bytes c more e f = run_all p bytes (c ∷ more) e ∙ (let s = run_stop p c more f in omega (arith, s))

pub run_sound : (p : ℕ → Bool) (text : List ℕ) → Each p (take (prefix_len p text) text)
run_sound p [] = tt
run_sound p (c ∷ text) = elim (tests (p c)) as (λ _. Each p (take (prefix_len p (c ∷ text)) (c ∷ text))) [
  | inl e ↦ rw (e, one-add) (e, run_sound p text)
  | inr e ↦ rw e tt
]
