-- The faults of a file, item by item.
use Rattle.std.proofs.Common.{◌≡◌, ℕ, zero, suc, ◌+◌, ◌<◌, ◌≤◌, List, [], ◌∷◌, ◌++◌, length, get_or, take, drop, refl, ap, sym, ◌∙◌, arith, append-nil, append_assoc, add-one}
use Rattle.ecd_cast.specs.declared.tree.CItem.{CItem}
use Rattle.ecd_cast.specs.Validity.{Fault, item_faults, faults_from}

-- those of the first items, of which each is judged with all items behind it
abbrev pub faults_some : ℕ → List CItem → List CItem → ℕ → List Fault
faults_some zero before items at_ = []
faults_some (suc n) before [] at_ = []
faults_some (suc n) before (i ∷ is) at_ = item_faults before i (i ∷ is) at_ ++ faults_some n (before ++ i ∷ []) is (at_ + 1)

some-suc : (n : ℕ) (before items : List CItem) (at_ : ℕ) (x : CItem) → n < length items → x ≡ get_or items n x →
    faults_some (suc n) before items at_ ≡ faults_some n before items at_ ++ item_faults (before ++ take n items) x (drop n items) (at_ + n)
some-suc n before [] at_ x h e = absurd (omega arith)
some-suc zero before (i ∷ is) at_ x h e = append-nil (item_faults before i (i ∷ is) at_) ∙ (λ j. item_faults (sym (append-nil before) j) (sym e j) (i ∷ is) (number j))
  where
    number : at_ ≡ at_ + 0
    number = omega arith
some-suc (suc n) before (i ∷ is) at_ x h e =
    ap (λ l. item_faults before i (i ∷ is) at_ ++ l)
    (some-suc n (before ++ i ∷ []) is (at_ + 1) x (omega arith) e ∙ (λ j. faults_some n (before ++ i ∷ []) is (at_ + 1) ++ item_faults (append_assoc before (i ∷ []) (take n is) j) x (drop n is) (number j))) ∙
    sym (append_assoc (item_faults before i (i ∷ is) at_) (faults_some n (before ++ i ∷ []) is (at_ + 1)) (item_faults (before ++ i ∷ take n is) x (drop n is) (at_ + suc n)))
  where
    number : at_ + 1 + n ≡ at_ + suc n
    number = omega arith

pub some-more : (n : ℕ) (items : List CItem) (x : CItem) → n < length items → x ≡ get_or items n x → faults_some (n + 1) [] items 0 ≡ faults_some n [] items 0 ++ item_faults (take n items) x (drop n items) n
some-more n items x h e = rw add-one (some-suc n [] items 0 x h e ∙ ap (λ k. faults_some n [] items 0 ++ item_faults (take n items) x (drop n items) k) number)
  where
    number : 0 + n ≡ n
    number = omega arith

all-from : (n : ℕ) (before items : List CItem) (at_ : ℕ) → length items ≤ n → faults_some n before items at_ ≡ faults_from before items at_
all-from zero before [] at_ h = refl
all-from (suc n) before [] at_ h = refl
all-from zero before (i ∷ is) at_ h = absurd (omega arith)
all-from (suc n) before (i ∷ is) at_ h = ap (λ l. item_faults before i (i ∷ is) at_ ++ l) (all-from n (before ++ i ∷ []) is (at_ + 1) (omega arith))

pub some-all : (n : ℕ) (items : List CItem) → length items ≤ n → faults_some n [] items 0 ≡ faults_from [] items 0
some-all n items h = all-from n [] items 0 h
