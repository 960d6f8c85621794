-- Maps from names and sets of names: what stands under each name after a change at one.
use Rattle.std.proofs.Common.{◌≡◌, ℕ, refl, sym, ◌∙◌, subst, Bool, true, false, ⊎_elim}
use Rattle.std.specs.Prelude.{List, Option, Some, if◌then◌else◌, bytes_eq, ◌||◌}
use Rattle.std.specs.BTreeMap.{BTreeMap, get_by, Updates, UpdatesBy}
use Rattle.std.specs.BTreeSet as set
use Rattle.std.specs.BTreeSet.{BTreeSet}
use Rattle.std.specs.Ordering.{nat_cmp, is_eq}
use Rattle.std.specs.Cmp.Lexicographic.{slice_cmp}
use Rattle.std.specs.declared.vec.Vec.{Vec}
use Rattle.std.specs.Map.{KeepsOthers}
use Rattle.std.specs.Set.{KeepsOthers as KeepsOthersIn}
use denote.Ref.{Bor}
use Rattle.std.proofs.lemmas.Cmp.{nat_list_cmp_total, eq_by_cmp_equiv}
use Rattle.std.proofs.lemmas.Bool.{cases_Bool, cond-true, cond-false}
use Rattle.std.proofs.lemmas.Slice.Eq.{bytes_eq-Decides}
use Rattle.std.proofs.lemmas.Map.Text.{is_eq-slice_cmp}
use Rattle.ecd_cast.specs.Memory.{Name}
use Rattle.ecd_cast.specs.ByName.{under}
use Rattle.ecd_cast.specs.ByName.{has}

pub same-name : (x y : Name) → bytes_eq x y ≡ true → x ≡ y
same-name x y e = (bytes_eq-Decides x y).0 e

pub same-bytes : (x : Name) → bytes_eq x x ≡ true
same-bytes x = (bytes_eq-Decides x x).1 refl

-- what equals one name does not equal another
apart : (x y z : Name) → bytes_eq x y ≡ false → is_eq (slice_cmp nat_cmp x z) ≡ true → is_eq (slice_cmp nat_cmp y z) ≡ false
apart x y z n e =
    let same : x ≡ z = same-name x z (sym (is_eq-slice_cmp x z) ∙ e) in
    is_eq-slice_cmp y z ∙ swapped
  where
    swapped : bytes_eq y z ≡ false
    swapped = by_test (bytes_eq y z) refl
      where
        by_test : (b : Bool) → bytes_eq y z ≡ b → b ≡ false
        by_test false h = refl
        by_test true h =
            let e1 : x ≡ z = same-name x z (sym (is_eq-slice_cmp x z) ∙ e) in
            let e2 : y ≡ z = same-name y z h in
            let e3 : bytes_eq x y ≡ true = (bytes_eq-Decides x y).1 (e1 ∙ sym e2) in
            absurd cc

-- maps whose keys have names
module _ {K X : Type 0} (name_of : K → Name) (m n : BTreeMap K X) (x : Name) (v : Option X) (h : UpdatesBy (λ a b. slice_cmp nat_cmp (name_of a) (name_of b)) (λ k. slice_cmp nat_cmp x (name_of k)) m n v) (g : Name) where
  other : bytes_eq x g ≡ false → get_by (λ k. slice_cmp nat_cmp g (name_of k)) n ≡ get_by (λ k. slice_cmp nat_cmp g (name_of k)) m
  unfolding KeepsOthers
  other e = h.3 _ (λ a b. (eq_by_cmp_equiv nat_list_cmp_total).congr g (name_of a) (name_of b)) (λ z. apart x g (name_of z) e)

  pub changed : get_by (λ k. slice_cmp nat_cmp g (name_of k)) n ≡ (if bytes_eq x g then v else get_by (λ k. slice_cmp nat_cmp g (name_of k)) m)
  changed = ⊎_elim
      (λ (e : bytes_eq x g ≡ true). subst (λ (l : Name). get_by (λ k. slice_cmp nat_cmp l (name_of k)) n ≡ v) (same-name x g e) h.1 ∙ sym (cond-true (bytes_eq x g) v (get_by (λ k. slice_cmp nat_cmp g (name_of k)) m) e))
      (λ (e : bytes_eq x g ≡ false). other e ∙ sym (cond-false (bytes_eq x g) v (get_by (λ k. slice_cmp nat_cmp g (name_of k)) m) e))
      (cases_Bool (bytes_eq x g))

pub under-put : {A X : Type 0} (m n : BTreeMap (Vec ℕ A) X) (k : Vec ℕ A) (v : X) → Updates (λ x y. slice_cmp nat_cmp x.items y.items) m n k (Some v) → (g : Name) → under n g ≡ (if bytes_eq k.items g then Some v else under m g)
under-put m n k v h g = changed (λ q. q.items) m n k.items (Some v) h g

-- ---- sets

module _ (s t : BTreeSet (Bor (List ℕ))) (k : Bor (List ℕ)) (h : set.Updates (λ a b. slice_cmp nat_cmp a.now b.now) s t k true) where
  other_in : (g : Name) → bytes_eq k.now g ≡ false → has t g ≡ has s g
  unfolding KeepsOthersIn
  other_in g e = h.3 _ (λ a b. (eq_by_cmp_equiv nat_list_cmp_total).congr g a.now b.now) (λ z. apart k.now g z.now e)

  pub has-put : (g : Name) → has t g ≡ (bytes_eq k.now g || has s g)
  has-put g = by_test (bytes_eq k.now g) refl
    where
      by_test : (b : Bool) → bytes_eq k.now g ≡ b → has t g ≡ (b || has s g)
      by_test true e = subst (λ (l : Name). has t l ≡ true) (same-name k.now g e) h.1
      by_test false e = other_in g e
