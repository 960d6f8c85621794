-- Told files are read, or one is too large or missing.
use Rattle.std.proofs.Common.{◌≡◌, ℕ, ◌<◌, ◌≤◌, ◌⊎◌, ⊎_elim, inl, inr, List, [], ◌∷◌, length, refl}
use Rattle.std.specs.Prelude.{Option, Some, None}
use Rattle.std.proofs.lemmas.Bool.{cases_lt}
use Rattle.ecd_outside.specs.Told.{IsLonger, IsMissing}
use Rattle.ecd_commands.specs.Files.{Wanted, IsRead, AreRead, IsTooLarge, IsOneMissing}

abbrev pub Contents : Type 0
Contents = List ℕ → Option (List ℕ)

-- how reading the files ends
abbrev pub Looked : Contents → List Wanted → Type 0
Looked contents files =
    ((found : List (List ℕ)) × AreRead (Some contents) files found) ⊎ (((name : List ℕ) × IsTooLarge (Some contents) files name) ⊎ IsOneMissing (Some contents) files)

behind : (contents : Contents) (f : Wanted) (fs : List Wanted) (bytes : List ℕ) → IsRead (Some contents) f bytes → Looked contents fs → Looked contents (f ∷ fs)
behind contents f fs bytes here (inl all) = inl (bytes ∷ all.0, (here, all.1))
behind contents f fs bytes here (inr (inl large)) = inr (inl (large.0, inr (bytes, here, large.1)))
behind contents f fs bytes here (inr (inr missing)) = inr (inr (inr (bytes, here, missing)))

looked_at : (contents : Contents) (f : Wanted) (fs : List Wanted) (found : Option (List ℕ)) → contents f.name ≡ found → Looked contents fs → Looked contents (f ∷ fs)
looked_at contents f fs None e rest = inr (inr (inl e))
looked_at contents f fs (Some bytes) e rest =
    ⊎_elim
    (λ (longer : f.limit < length bytes). inr (inl (f.name, inl (refl, (bytes, e, longer)))))
    (λ (within : length bytes ≤ f.limit). behind contents f fs bytes (record { contents = e; within = within }) rest)
    (cases_lt f.limit (length bytes))

pub looked : (contents : Contents) (files : List Wanted) → Looked contents files
looked contents [] = inl ([], tt)
looked contents (f ∷ fs) = looked_at contents f fs (contents f.name) refl (looked contents fs)
