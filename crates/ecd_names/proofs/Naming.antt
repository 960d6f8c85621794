-- Maps from names: what stands under each name after a change at one.
use Rattle.std.proofs.Common.{◌≡◌, ℕ, refl, ap, sym, ◌∙◌, subst, Bool, true, false, List, ⊎_elim}
use Rattle.std.specs.Prelude.{Option, Some, None, if◌then◌else◌, bytes_eq, is_some}
use Rattle.std.specs.BTreeMap.{BTreeMap, Updates}
use Rattle.std.specs.Ordering.{nat_cmp, is_eq}
use Rattle.std.specs.Cmp.Lexicographic.{slice_cmp}
use Rattle.std.specs.declared.vec.Vec.{Vec}
use Rattle.std.specs.Map.{KeepsOthers}
use Rattle.std.proofs.lemmas.Cmp.{nat_list_cmp_total, eq_by_cmp_equiv}
use Rattle.std.proofs.lemmas.Bool.{cases_Bool, cond-true, cond-false}
use Rattle.std.proofs.lemmas.Slice.Eq.{bytes_eq-Decides}
use Rattle.std.proofs.lemmas.Map.Text.{is_eq-slice_cmp}
use Rattle.ecd_names.specs.Parameters.{under, or_first}

pub same-name : (x y : List ℕ) → bytes_eq x y ≡ true → x ≡ y
same-name x y e = (bytes_eq-Decides x y).0 e

pub same-bytes : (x y : List ℕ) → x ≡ y → bytes_eq x y ≡ true
same-bytes x y e = (bytes_eq-Decides x y).1 e

-- what equals one name does not equal another
apart : (x y z : List ℕ) → bytes_eq x y ≡ false → is_eq (slice_cmp nat_cmp x z) ≡ true → is_eq (slice_cmp nat_cmp y z) ≡ false
apart x y z n e = is_eq-slice_cmp y z ∙ by_test (bytes_eq y z) refl
  where
    same : x ≡ z
    same = same-name x z (sym (is_eq-slice_cmp x z) ∙ e)

    by_test : (b : Bool) → bytes_eq y z ≡ b → b ≡ false
    by_test false h = refl
    by_test true h = let both : bytes_eq x y ≡ true = same-bytes x y (same ∙ sym (same-name y z h)) in absurd cc

module _ {A X : Type 0} (m n : BTreeMap (Vec ℕ A) X) (k : Vec ℕ A) (v : X) (h : Updates (λ x y. slice_cmp nat_cmp x.items y.items) m n k (Some v)) where
  others : (g : List ℕ) → bytes_eq k.items g ≡ false → under n g ≡ under m g
  unfolding KeepsOthers
  others g e = h.3 _ (λ x y. (eq_by_cmp_equiv nat_list_cmp_total).congr g x.items y.items) (λ z. apart k.items g z.items e)

  pub under-put : (g : List ℕ) → under n g ≡ (if bytes_eq k.items g then Some v else under m g)
  under-put g = ⊎_elim
      (λ (e : bytes_eq k.items g ≡ true). subst (λ (l : List ℕ). under n l ≡ Some v) (same-name k.items g e) h.1 ∙ sym (cond-true (bytes_eq k.items g) (Some v) (under m g) e))
      (λ (e : bytes_eq k.items g ≡ false). others g e ∙ sym (cond-false (bytes_eq k.items g) (Some v) (under m g) e))
      (cases_Bool (bytes_eq k.items g))

-- ---- a number that is put under a name that has none

or_none : (o : Option ℕ) → or_first o None ≡ o
or_none (Some n) = refl
or_none None = refl

module _ {A : Type 0} (m n : BTreeMap (Vec ℕ A) ℕ) (k : Vec ℕ A) (v : ℕ) (x : List ℕ) where
  pub put_first : k.items ≡ x → Updates (λ a b. slice_cmp nat_cmp a.items b.items) m n k (Some v) → is_some (under m x) ≡ false → (g : List ℕ) → under n g ≡ or_first (under m g) (if bytes_eq x g then Some v else None)
  put_first named h none g =
      let look : under n g ≡ (if bytes_eq x g then Some v else under m g) = subst (λ (l : List ℕ). under n g ≡ (if bytes_eq l g then Some v else under m g)) named (under-put m n k v h g) in
      look ∙ by_test (bytes_eq x g) refl
    where
      absent : (o : Option ℕ) → is_some o ≡ false → o ≡ None
      absent (Some w) e = absurd cc
      absent None e = refl

      by_test : (b : Bool) → bytes_eq x g ≡ b → (if b then Some v else under m g) ≡ or_first (under m g) (if b then Some v else None)
      by_test true t =
          let gone : under m g ≡ None = subst (λ (l : List ℕ). under m l ≡ None) (same-name x g t) (absent (under m x) none) in
          sym (ap (λ o. or_first o (Some v)) gone)
      by_test false t = sym (or_none (under m g))

-- a name that has a number keeps it
pub there_first : {A : Type 0} (m : BTreeMap (Vec ℕ A) ℕ) (v : ℕ) (x : List ℕ) → is_some (under m x) ≡ true → (g : List ℕ) → under m g ≡ or_first (under m g) (if bytes_eq x g then Some v else None)
there_first m v x some g = by_test (bytes_eq x g) refl
  where
    present : (o : Option ℕ) → is_some o ≡ true → o ≡ or_first o (Some v)
    present (Some w) e = refl
    present None e = absurd cc

    by_test : (b : Bool) → bytes_eq x g ≡ b → under m g ≡ or_first (under m g) (if b then Some v else None)
    by_test true t = present (under m g) (subst (λ (l : List ℕ). is_some (under m l) ≡ true) (same-name x g t) some)
    by_test false t = sym (or_none (under m g))
