-- Bytes that are taken from files, and bytes that are written, piece by piece.
use Rattle.std.proofs.Common.{◌≡◌, ℕ, ◌+◌, ◌<◌, ◌≤◌, List, ◌++◌, length, take, drop, refl, ap, sym, ◌∙◌, arith, append_assoc, length-append, length-take, subst}
use Rattle.std.specs.Prelude.{Option, Some, None, IsSome}
use Rattle.std.specs.Io.KnownBytes.{prepend_known, append_known}
use Rattle.std.proofs.lemmas.List.{take-append-drop}
use Rattle.std.proofs.Math.Seq.{take-append_seam}
use Rattle.ecd_outside.specs.Told.{Told, IsTaken, TakesAtMost, IsLonger}

pub prepend_known-append : (xs ys : List ℕ) (known : Option (List ℕ)) → prepend_known (xs ++ ys) known ≡ prepend_known xs (prepend_known ys known)
prepend_known-append xs ys None = refl
prepend_known-append xs ys (Some zs) = ap (λ (t : List ℕ). Some t) (append_assoc xs ys zs)

pub append_known-append : (known : Option (List ℕ)) (xs ys : List ℕ) → append_known (append_known known xs) ys ≡ append_known known (xs ++ ys)
append_known-append None xs ys = refl
append_known-append (Some zs) xs ys = ap (λ (t : List ℕ). Some t) (append_assoc zs xs ys)

some_before : (taken : List ℕ) (left now : Option (List ℕ)) → IsSome left → left ≡ prepend_known taken now → IsSome now
some_before taken left None some e = subst (λ o. IsSome o) e some
some_before taken left (Some now) some e = refl

-- further bytes were taken
pub taken_more : (told : Told) (name taken more : List ℕ) (left now : Option (List ℕ)) → IsTaken told name taken left → left ≡ prepend_known more now → IsTaken told name (taken ++ more) now
taken_more None name taken more left now t e = tt
taken_more (Some contents) name taken more left now t e =
    (some_before more left now t.0 e, t.1 ∙ ap (prepend_known taken) e ∙ sym (prepend_known-append taken more now))

-- so many further bytes at most were taken
pub takes_more : (told : Told) (name taken bytes : List ℕ) (count most : ℕ) (left now : Option (List ℕ)) → IsTaken told name taken left → left ≡ prepend_known (take count bytes) now
    → length taken + count ≤ most → TakesAtMost told name now most
takes_more told name taken bytes count most left now t e le =
    (taken ++ take count bytes, taken_more told name taken (take count bytes) left now t e, omega (arith, length-append taken (take count bytes), length-take count bytes))

-- more bytes than the limit were taken
pub longer : (told : Told) (name taken : List ℕ) (left : Option (List ℕ)) (limit : ℕ) → IsTaken told name taken left → limit < length taken → IsLonger told name limit
longer None name taken left limit t lt = tt
longer (Some contents) name taken None limit t lt = absurd (cc (t.0))
longer (Some contents) name taken (Some rest) limit t lt = (taken ++ rest, t.1, omega (arith, length-append taken rest))

-- a further piece was written
pub appends_more : (before mid now : Option (List ℕ)) (front rest bytes : List ℕ) (count : ℕ) → bytes ≡ front ++ rest → mid ≡ append_known before front → now ≡ append_known mid (take count rest)
    → (written : List ℕ) × (bytes ≡ written ++ drop count rest) × (now ≡ append_known before written)
appends_more before mid now front rest bytes count parts first more = (
  front ++ take count rest,
  parts ∙ ap (λ (t : List ℕ). front ++ t) (sym (take-append-drop count rest)) ∙ sym (append_assoc front (take count rest) (drop count rest)),
  more ∙ ap (λ o. append_known o (take count rest)) first ∙ append_known-append before front (take count rest),
)

-- a front that was copied before other bytes is still in front of the rest
pub rejoined : (left front after : List ℕ) (count : ℕ) → front ≡ take count left → count ≤ length left → left ≡ take count (front ++ after) ++ drop count left
rejoined left front after count e le =
    let long : length front ≡ count = ap length e ∙ length-take count left ∙ omega arith in
    sym (ap (λ (t : List ℕ). t ++ drop count left) (ap (λ n. take n (front ++ after)) (sym long) ∙ take-append_seam front after ∙ e) ∙ take-append-drop count left)
