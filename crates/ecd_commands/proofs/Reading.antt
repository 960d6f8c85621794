-- Told files have one content, and are read, too large or missing.
use Rattle.std.proofs.Common.{◌≡◌, ℕ, ⊎_elim, List, [], ◌∷◌, length, arith, refl, ap, sym, ◌∙◌}
use Rattle.std.specs.Prelude.{Option, Some}
use Rattle.ecd_outside.specs.Told.{IsLonger, IsMissing}
use Rattle.ecd_commands.specs.Files.{Wanted, IsRead, AreRead, IsTooLarge, IsOneMissing}

abbrev pub Contents : Type 0
Contents = List ℕ → Option (List ℕ)

same_bytes : (contents : Contents) (name a b : List ℕ) → contents name ≡ Some a → contents name ≡ Some b → a ≡ b
same_bytes contents name a b p q =
    let e : Some a ≡ Some b = sym p ∙ q in cc

longer_or_read : (contents : Contents) (f : Wanted) (bytes : List ℕ) → IsLonger (Some contents) f.name f.limit → IsRead (Some contents) f bytes → ⊥
longer_or_read contents f bytes l r =
    let same : l.0 ≡ bytes = same_bytes contents f.name l.0 bytes l.1 r.contents in
    omega (arith, l.2, r.within, ap length same)

missing_or_there : (contents : Contents) (name bytes : List ℕ) → IsMissing (Some contents) name → contents name ≡ Some bytes → ⊥
missing_or_there contents name bytes m t = cc

-- the files have one content
pub one_content : (contents : Contents) (fs : List Wanted) (xs ys : List (List ℕ)) → AreRead (Some contents) fs xs → AreRead (Some contents) fs ys → xs ≡ ys
one_content contents [] [] [] a b = refl
one_content contents [] [] (y ∷ ys) a b = absurd b
one_content contents [] (x ∷ xs) ys a b = absurd a
one_content contents (f ∷ fs) [] ys a b = absurd a
one_content contents (f ∷ fs) (x ∷ xs) [] a b = absurd b
one_content contents (f ∷ fs) (x ∷ xs) (y ∷ ys) a b =
    let first : x ≡ y = same_bytes contents f.name x y a.0.contents b.0.contents in
    let rest : xs ≡ ys = one_content contents fs xs ys a.1 b.1 in
    λ i. first i ∷ rest i

pub one_too_large : (contents : Contents) (fs : List Wanted) (n m : List ℕ) → IsTooLarge (Some contents) fs n → IsTooLarge (Some contents) fs m → n ≡ m
one_too_large contents [] n m a b = absurd a
one_too_large contents (f ∷ fs) n m a b =
    ⊎_elim
    (λ (x : (n ≡ f.name) × IsLonger (Some contents) f.name f.limit). ⊎_elim
    (λ (y : (m ≡ f.name) × IsLonger (Some contents) f.name f.limit). x.0 ∙ sym y.0)
    (λ (y : (bytes : List ℕ) × IsRead (Some contents) f bytes × IsTooLarge (Some contents) fs m). absurd (longer_or_read contents f y.0 x.1 y.1)) b)
    (λ (x : (bytes : List ℕ) × IsRead (Some contents) f bytes × IsTooLarge (Some contents) fs n). ⊎_elim
    (λ (y : (m ≡ f.name) × IsLonger (Some contents) f.name f.limit). absurd (longer_or_read contents f x.0 y.1 x.1))
    (λ (y : (bytes : List ℕ) × IsRead (Some contents) f bytes × IsTooLarge (Some contents) fs m). one_too_large contents fs n m x.2 y.2) b)
    a

pub large_or_missing : (contents : Contents) (fs : List Wanted) (n : List ℕ) → IsTooLarge (Some contents) fs n → IsOneMissing (Some contents) fs → ⊥
large_or_missing contents [] n a b = a
large_or_missing contents (f ∷ fs) n a b =
    ⊎_elim
    (λ (x : (n ≡ f.name) × IsLonger (Some contents) f.name f.limit). ⊎_elim
    (λ (y : IsMissing (Some contents) f.name). missing_or_there contents f.name x.1.0 y x.1.1)
    (λ (y : (bytes : List ℕ) × IsRead (Some contents) f bytes × IsOneMissing (Some contents) fs). longer_or_read contents f y.0 x.1 y.1) b)
    (λ (x : (bytes : List ℕ) × IsRead (Some contents) f bytes × IsTooLarge (Some contents) fs n). ⊎_elim
    (λ (y : IsMissing (Some contents) f.name). missing_or_there contents f.name x.0 y x.1.contents)
    (λ (y : (bytes : List ℕ) × IsRead (Some contents) f bytes × IsOneMissing (Some contents) fs). large_or_missing contents fs n x.2 y.2) b)
    a

pub large_or_read : (contents : Contents) (fs : List Wanted) (n : List ℕ) (xs : List (List ℕ)) → IsTooLarge (Some contents) fs n → AreRead (Some contents) fs xs → ⊥
large_or_read contents [] n xs a b = a
large_or_read contents (f ∷ fs) n [] a b = b
large_or_read contents (f ∷ fs) n (x ∷ xs) a b =
    ⊎_elim
    (λ (y : (n ≡ f.name) × IsLonger (Some contents) f.name f.limit). longer_or_read contents f x y.1 b.0)
    (λ (y : (bytes : List ℕ) × IsRead (Some contents) f bytes × IsTooLarge (Some contents) fs n). large_or_read contents fs n xs y.2 b.1)
    a

pub missing_or_read : (contents : Contents) (fs : List Wanted) (xs : List (List ℕ)) → IsOneMissing (Some contents) fs → AreRead (Some contents) fs xs → ⊥
missing_or_read contents [] xs a b = a
missing_or_read contents (f ∷ fs) [] a b = b
missing_or_read contents (f ∷ fs) (x ∷ xs) a b =
    ⊎_elim
    (λ (y : IsMissing (Some contents) f.name). missing_or_there contents f.name x y b.0.contents)
    (λ (y : (bytes : List ℕ) × IsRead (Some contents) f bytes × IsOneMissing (Some contents) fs). missing_or_read contents fs xs y.2 b.1)
    a
