-- A value that is put under a name that has none.
use Rattle.std.proofs.Common.{◌≡◌, ℕ, refl, ap, sym, ◌∙◌, subst, Bool, true, false}
use Rattle.std.specs.Prelude.{Option, Some, None, if◌then◌else◌, bytes_eq, is_some, not}
use Rattle.std.specs.BTreeMap.{BTreeMap, Updates}
use Rattle.std.specs.Ordering.{nat_cmp}
use Rattle.std.specs.Cmp.Lexicographic.{slice_cmp}
use Rattle.std.specs.declared.vec.Vec.{Vec}
use Rattle.ecd_cast.specs.Memory.{Name}
use Rattle.ecd_cast.specs.ByName.{under}
use Rattle.ecd_cscope.specs.Surroundings.{or_first}
use Rattle.ecd_cast.proofs.Names.{under-put, same-name}

or_none : {X : Type 0} (o : Option X) → or_first o None ≡ o
or_none (Some n) = refl
or_none None = refl

module _ {A X : Type 0} (m n : BTreeMap (Vec ℕ A) X) (k : Vec ℕ A) (v : X) (x : Name) where
  pub put_first : k.items ≡ x → Updates (λ a b. slice_cmp nat_cmp a.items b.items) m n k (Some v) → is_some (under m x) ≡ false → (g : Name) → under n g ≡ or_first (under m g) (if bytes_eq x g then Some v else None)
  put_first named h none g =
      let look : under n g ≡ (if bytes_eq x g then Some v else under m g) = subst (λ (l : Name). under n g ≡ (if bytes_eq l g then Some v else under m g)) named (under-put m n k v h g) in
      look ∙ by_test (bytes_eq x g) refl
    where
      absent : (o : Option X) → is_some o ≡ false → o ≡ None
      absent (Some w) e = absurd cc
      absent None e = refl

      by_test : (b : Bool) → bytes_eq x g ≡ b → (if b then Some v else under m g) ≡ or_first (under m g) (if b then Some v else None)
      by_test true t =
          let gone : under m g ≡ None = subst (λ (l : Name). under m l ≡ None) (same-name x g t) (absent (under m x) none) in
          sym (ap (λ o. or_first o (Some v)) gone)
      by_test false t = sym (or_none (under m g))

-- a name that has a value keeps it
pub there_first : {A X : Type 0} (m : BTreeMap (Vec ℕ A) X) (v : X) (x : Name) → is_some (under m x) ≡ true → (g : Name) → under m g ≡ or_first (under m g) (if bytes_eq x g then Some v else None)
there_first {X} m v x some g = by_test (bytes_eq x g) refl
  where
    present : (o : Option X) → is_some o ≡ true → o ≡ or_first o (Some v)
    present (Some w) e = refl
    present None e = absurd cc

    by_test : (b : Bool) → bytes_eq x g ≡ b → under m g ≡ or_first (under m g) (if b then Some v else None)
    by_test true t = present (under m g) (subst (λ (l : Name). is_some (under m l) ≡ true) (same-name x g t) some)
    by_test false t = sym (or_none (under m g))

pub not_true : (b : Bool) → not b ≡ true → b ≡ false
not_true false e = refl
not_true true e = absurd cc
