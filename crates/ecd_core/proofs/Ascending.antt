-- Lists and their elements; pairs whose keys ascend.
use Rattle.std.proofs.Common.{◌≡◌, ℕ, zero, suc, ◌+◌, ◌<◌, ◌≤◌, inl, inr, List, [], ◌∷◌, length, map, take, get_or, refl, ap, sym, ◌∙◌, subst, arith}
use Rattle.std.proofs.lemmas.List.{take_all}
use Rattle.ecd_keyorder.specs.declared.Order.{Order}
use Rattle.ecd_keyorder.specs.Order.{IsBefore}
use Rattle.ecd_keyorder.proofs.Total.{equal_is_same, is_transitive}
use Rattle.ecd_item_laws.specs.declared.item.Item.{Item}
use Rattle.ecd_item_laws.specs.declared.item.Pair.{Pair}
use Rattle.ecd_item_laws.specs.Encoding.{encoding, key_bytes}
use Rattle.ecd_item_laws.specs.Valid.{Ascend}
use Rattle.ecd_core.specs.Lists.{Each, HasSome, IsIn}

-- ---- elements

module _ {A : Type 0} where
  pub some_from_in : (P : A → Type 0) (xs : List A) (x : A) → IsIn x xs → P x → HasSome P xs
  some_from_in P [] x h p = absurd h
  some_from_in P (y ∷ ys) x (inl e) p = inl (subst P (sym e) p)
  some_from_in P (y ∷ ys) x (inr h) p = inr (some_from_in P ys x h p)

  pub in_from_some : (P : A → Type 0) (xs : List A) → HasSome P xs → (x : A) × IsIn x xs × P x
  in_from_some P [] h = absurd h
  in_from_some P (y ∷ ys) (inl p) = (y, inl refl, p)
  in_from_some P (y ∷ ys) (inr h) = let r = in_from_some P ys h in (r.0, inr r.1, r.2)

  pub each_in : (P : A → Type 0) (xs : List A) (x : A) → Each P xs → IsIn x xs → P x
  each_in P [] x all h = absurd h
  each_in P (y ∷ ys) x all (inl e) = subst P e all.0
  each_in P (y ∷ ys) x all (inr h) = each_in P ys x all.1 h

module _ {A : Type 0} where
  pub each_place : (P : A → Type 0) (xs : List A) (i : ℕ) (x : A) → i < length xs → x ≡ get_or xs i x → Each P xs → P x
  each_place P [] i x lt e h = absurd (omega arith)
  each_place P (y ∷ ys) zero x lt e h = subst P (sym e) h.0
  each_place P (y ∷ ys) (suc i) x lt e h = each_place P ys i x (omega arith) e h.1

  -- one more of the first elements
  pub each_more : (P : A → Type 0) (xs : List A) (i : ℕ) (x : A) → i < length xs → x ≡ get_or xs i x → Each P (take i xs) → P x → Each P (take (i + 1) xs)
  each_more P [] i x lt e h p = absurd (omega arith)
  each_more P (y ∷ ys) zero x lt e h p = (subst P e p, tt)
  each_more P (y ∷ ys) (suc i) x lt e h p =
      let f : suc (i + 1) ≡ suc i + 1 = omega arith in
      subst (λ (n : ℕ). Each P (take n (y ∷ ys))) f (h.0, each_more P ys i x (omega arith) e h.1 p)

  pub each_all : (P : A → Type 0) (xs : List A) (i : ℕ) → length xs ≤ i → Each P (take i xs) → Each P xs
  each_all P xs i le h = subst (Each P) (take_all i xs le) h

  pub each_so : (P Q : A → Type 0) → ((x : A) → P x → Q x) → (xs : List A) → Each P xs → Each Q xs
  each_so P Q f [] h = tt
  each_so P Q f (x ∷ xs) h = (f x h.0, each_so P Q f xs h.1)

module _ {ℓ} {A : Type ℓ} where
  -- the element of a number, or none where there is no such element
  pub each_at : (P : A → Type 0) (xs : List (List A)) (n : ℕ) → Each (Each P) xs → Each P (get_or xs n [])
  each_at P [] n all = tt
  each_at P (x ∷ xs) zero all = all.0
  each_at P (x ∷ xs) (suc n) all = each_at P xs n all.1

-- ---- ascending keys

module _ (order : Order) where
  pub not_before_itself : (a : List ℕ) → IsBefore order a a → ⊥
  not_before_itself a h = let e = (equal_is_same order a a).1 refl in cc

  pub before_all : (p : Pair) (ps : List Pair) (q : Pair) → Ascend order (map key_bytes (p ∷ ps)) → IsIn q ps → IsBefore order (key_bytes p) (key_bytes q)
  before_all p [] q a h = absurd h
  before_all p (r ∷ rs) q a (inl e) = subst (λ (x : Pair). IsBefore order (key_bytes p) (key_bytes x)) e a.0
  before_all p (r ∷ rs) q a (inr h) = is_transitive order (key_bytes p) (key_bytes r) (key_bytes q) a.0 (before_all r rs q a.1 h)

  -- two pairs with one key are one pair
  pub same_key : (ps : List Pair) (p q : Pair) → Ascend order (map key_bytes ps) → IsIn p ps → IsIn q ps → p.key ≡ q.key → p ≡ q
  same_key [] p q a i j e = absurd i
  same_key (r ∷ rs) p q a (inl i) (inl j) e = sym i ∙ j
  same_key (r ∷ rs) p q a (inl i) (inr j) e =
      absurd (not_before_itself (key_bytes q) (subst (λ (x : Item). IsBefore order (encoding x) (key_bytes q)) (ap (λ (x : Pair). x.key) i ∙ e) (before_all r rs q a j)))
  same_key (r ∷ rs) p q a (inr i) (inl j) e =
      absurd (not_before_itself (key_bytes p) (subst (λ (x : Item). IsBefore order (encoding x) (key_bytes p)) (ap (λ (x : Pair). x.key) j ∙ sym e) (before_all r rs p a i)))
  same_key (r ∷ rs) p q a (inr i) (inr j) e = same_key rs p q a.1 i j e

  -- the first pairs of two lists with the same pairs are one
  same_first : (p : Pair) (ps : List Pair) (q : Pair) (qs : List Pair) → Ascend order (map key_bytes (p ∷ ps)) → Ascend order (map key_bytes (q ∷ qs)) → IsIn p (q ∷ qs) → IsIn q (p ∷ ps) → p ≡ q
  same_first p ps q qs a b (inl e) j = sym e
  same_first p ps q qs a b (inr i) (inl e) = e
  same_first p ps q qs a b (inr i) (inr j) =
      absurd (not_before_itself (key_bytes p) (is_transitive order (key_bytes p) (key_bytes q) (key_bytes p) (before_all p ps q a j) (before_all q qs p b i)))

  -- and so are the others
  in_rest : (p : Pair) (ps : List Pair) (q : Pair) (qs : List Pair) (x : Pair) → Ascend order (map key_bytes (p ∷ ps)) → p ≡ q → IsIn x ps → IsIn x (q ∷ qs) → IsIn x qs
  in_rest p ps q qs x a e i (inl j) = absurd (not_before_itself (key_bytes x) (subst (λ (y : Pair). IsBefore order (key_bytes y) (key_bytes x)) (e ∙ j) (before_all p ps x a i)))
  in_rest p ps q qs x a e i (inr j) = j

  -- ascending lists with the same pairs are one list
  pub same_members : (ps qs : List Pair) → Ascend order (map key_bytes ps) → Ascend order (map key_bytes qs) → ((x : Pair) → IsIn x ps → IsIn x qs) → ((x : Pair) → IsIn x qs → IsIn x ps) → ps ≡ qs
  same_members [] [] a b f g = refl
  same_members [] (q ∷ qs) a b f g = absurd (g q (inl refl))
  same_members (p ∷ ps) [] a b f g = absurd (f p (inl refl))
  same_members (p ∷ ps) (q ∷ qs) a b f g =
      let e = same_first p ps q qs a b (f p (inl refl)) (g q (inl refl)) in
      let t = same_members ps qs a.1 b.1 (λ x i. in_rest p ps q qs x a e i (f x (inr i))) (λ x i. in_rest q qs p ps x b (sym e) i (g x (inr i))) in
      cc
