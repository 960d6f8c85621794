-- Lists of trees, one tree a turn.
use Rattle.std.proofs.Common.{◌≡◌, ℕ, zero, suc, ◌+◌, ◌-◌, ◌<◌, ◌≤◌, List, [], ◌∷◌, ◌++◌, length, get_or, refl, ap, sym, ◌∙◌, subst, arith, append-nil, append_assoc, take, drop}
use Rattle.std.specs.Prelude.{flat_map, codes}
use Rattle.std.proofs.lemmas.List.{take_more}
use Rattle.std.proofs.lemmas.Grind.{flat_map-append}
use Rattle.ecd_cast.specs.Lexemes.{Lexeme}
use Rattle.ecd_cast.specs.Spelling.{with_commas}
use Rattle.ecd_cprint.specs.Layout.{Grows}
use Rattle.ecd_cprint.proofs.Joins.{grows_then}

take_whole : {X : Type 0} (xs : List X) (n : ℕ) → length xs ≤ n → take n xs ≡ xs
take_whole [] zero h = refl
take_whole [] (suc n) h = refl
take_whole (x ∷ xs) zero h = absurd (omega arith)
take_whole (x ∷ xs) (suc n) h = ap (λ l. x ∷ l) (take_whole xs n (omega arith))

module _ {X : Type 0} (f : X → List Lexeme) where
  flat_more : (xs : List X) (i : ℕ) (x : X) → i < length xs → flat_map f (take (i + 1) xs) ≡ flat_map f (take i xs) ++ f (get_or xs i x)
  flat_more xs i x h =
      ap (flat_map f) (take_more xs i x h) ∙ (flat_map-append f (take i xs) (get_or xs i x ∷ []) ∙ ap (λ l. flat_map f (take i xs) ++ l) (append-nil (f (get_or xs i x))))

  -- one turn
  pub grows_more : (xs : List X) (i : ℕ) (x : X) (a b c : List ℕ) → i < length xs → x ≡ get_or xs i x → Grows a b (flat_map f (take i xs)) → Grows b c (f x) → Grows a c (flat_map f (take (i + 1) xs))
  grows_more xs i x a b c h e g k =
      subst (λ (ls : List Lexeme). Grows a c ls) (ap (λ y. flat_map f (take i xs) ++ f y) e ∙ sym (flat_more xs i x h)) (grows_then g k)

  -- all turns
  pub grows_all : (xs : List X) (i : ℕ) (a b : List ℕ) → length xs ≤ i → Grows a b (flat_map f (take i xs)) → Grows a b (flat_map f xs)
  grows_all xs i a b h g = subst (λ (l : List X). Grows a b (flat_map f l)) (take_whole xs i h) g

-- the first member and the others
first_and_rest : {X : Type 0} (xs : List X) (x : X) → 1 ≤ length xs → xs ≡ get_or xs 0 x ∷ take (length xs - 1) (drop 1 xs)
first_and_rest [] x h = absurd (omega arith)
first_and_rest (y ∷ xs) x h =
    let n : length (y ∷ xs) - 1 ≡ length xs = omega arith in
    ap (λ l. y ∷ l) (sym (ap (λ k. take k xs) n ∙ take_whole xs (length xs) (omega arith)))

-- members with commas between them
pub grows_commas : {X : Type 0} (f : X → List Lexeme) (xs : List X) (x : X) (i : ℕ) (a b c : List ℕ) → 1 ≤ length xs → x ≡ get_or xs 0 x → Grows a b (f x) → length (take (length xs - 1) (drop 1 xs)) ≤ i →
    Grows b c (flat_map (λ y. codes "," ∷ f y) (take i (take (length xs - 1) (drop 1 xs)))) → Grows a c (with_commas f xs)
grows_commas f xs x i a b c h e g le k =
    let rest = take (length xs - 1) (drop 1 xs) in
    let all = grows_then g (grows_all (λ y. codes "," ∷ f y) rest i b c le k) in
    let same : x ∷ rest ≡ xs = ap (λ y. y ∷ rest) e ∙ sym (first_and_rest xs x h) in
    subst (λ l. Grows a c (with_commas f l)) same all

pub no_commas : {X : Type 0} (f : X → List Lexeme) (xs : List X) → length xs ≡ 0 → with_commas f xs ≡ []
no_commas f [] h = refl
no_commas f (x ∷ xs) h = absurd (omega arith)

-- two blocks with a word between them
pub grows_choice : (a b c d e f : List ℕ) (word other open_ close_ : Lexeme) (t ys ns : List Lexeme) →
    Grows a b (word ∷ []) → Grows b c t → Grows c d (open_ ∷ (ys ++ close_ ∷ [])) → Grows d e (other ∷ []) → Grows e f (open_ ∷ (ns ++ close_ ∷ [])) →
    Grows a f (word ∷ (t ++ open_ ∷ (ys ++ close_ ∷ other ∷ open_ ∷ (ns ++ close_ ∷ []))))
grows_choice a b c d e f word other open_ close_ t ys ns g h k l m =
    subst (λ (ls : List Lexeme). Grows a f (word ∷ (t ++ open_ ∷ ls))) (append_assoc ys (close_ ∷ []) (other ∷ open_ ∷ (ns ++ close_ ∷ [])))
    (grows_then g (grows_then h (grows_then k (grows_then l m))))
