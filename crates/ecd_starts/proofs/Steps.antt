-- Steps along parts and ways: what is left is the next one and what is left behind it.
use Rattle.std.proofs.Common.{◌≡◌, ℕ, eqb, ◌+◌, ◌<◌, ◌≤◌, Bool, true, false, cond, List, [], ◌∷◌, ◌++◌, length, get_or, drop, refl, ap, sym, ◌∙◌, append-nil, append_assoc, arith}
use Rattle.std.proofs.lemmas.Bool.Decides.{nat_tests}
use Rattle.std.proofs.lemmas.List.{drop_more, drop_all}
use denote.Ref.{Bor}
use Rattle.ecd_core.specs.declared.shape.Kind.{Kind}
use Rattle.ecd_core.specs.declared.shape.Shape.{Shape}
use Rattle.ecd_core.specs.declared.shape.Part.{Part}
use Rattle.ecd_core.specs.declared.shape.Way.{Way}
use Rattle.ecd_shape_rules.specs.Starts.{part_may_be_empty, part_starts}
use Rattle.ecd_shape_rules.specs.Listed.{are_emptiable, some_is_emptiable, starts_of, ways_start}
use Rattle.ecd_starts.specs.Kinds.{kinds_of}

pub next : {X : Type 0} (xs : List X) (i : ℕ) (x : X) → i < length xs → x ≡ get_or xs i x → drop i xs ≡ x ∷ drop (i + 1) xs
next xs i x h e = drop_more xs i x h ∙ ap (λ y. y ∷ drop (i + 1) xs) (sym e)

-- ---- whether they may be empty

pub many_none : (lo : ℕ) (b : Bool) → lo ≡ 0 → cond (eqb lo 0) true b ≡ true
many_none lo b e = ap (λ (n : ℕ). cond (eqb n 0) true b) e

pub many_some : (lo : ℕ) (b : Bool) → (lo ≡ 0 → ⊥) → cond (eqb lo 0) true b ≡ b
many_some lo b h =
    let e : eqb lo 0 ≡ false = grind (arith, nat_tests) in
    ap (λ (t : Bool). cond t true b) e

module _ (parts : List Part) (i : ℕ) (part : Part) (h : i < length parts) (e : part ≡ get_or parts i part) (inv : are_emptiable parts ≡ are_emptiable (drop i parts)) (b : Bool) (s : b ≡ part_may_be_empty part) where
  now : are_emptiable parts ≡ cond b (are_emptiable (drop (i + 1) parts)) false
  now = inv ∙ (ap are_emptiable (next parts i part h e) ∙ ap (λ (y : Bool). cond y (are_emptiable (drop (i + 1) parts)) false) (sym s))

  pub empties_more : b ≡ true → are_emptiable parts ≡ are_emptiable (drop (i + 1) parts)
  empties_more t = now ∙ ap (λ (y : Bool). cond y (are_emptiable (drop (i + 1) parts)) false) t

  pub empties_stop : b ≡ false → false ≡ are_emptiable parts
  empties_stop t = sym (now ∙ ap (λ (y : Bool). cond y (are_emptiable (drop (i + 1) parts)) false) t)

pub empties_end : (parts : List Part) (i : ℕ) → length parts ≤ i → are_emptiable parts ≡ are_emptiable (drop i parts) → true ≡ are_emptiable parts
empties_end parts i h inv = sym (inv ∙ ap are_emptiable (drop_all i parts h))

module _ (ways : List Way) (i : ℕ) (way : Way) (h : i < length ways) (e : way ≡ get_or ways i way) (inv : some_is_emptiable ways ≡ some_is_emptiable (drop i ways)) (b : Bool) (s : b ≡ are_emptiable way.body.parts) where
  now_way : some_is_emptiable ways ≡ cond b true (some_is_emptiable (drop (i + 1) ways))
  now_way = inv ∙ (ap some_is_emptiable (next ways i way h e) ∙ ap (λ (y : Bool). cond y true (some_is_emptiable (drop (i + 1) ways))) (sym s))

  pub some_more : b ≡ false → some_is_emptiable ways ≡ some_is_emptiable (drop (i + 1) ways)
  some_more t = now_way ∙ ap (λ (y : Bool). cond y true (some_is_emptiable (drop (i + 1) ways))) t

  pub some_stop : b ≡ true → true ≡ some_is_emptiable ways
  some_stop t = sym (now_way ∙ ap (λ (y : Bool). cond y true (some_is_emptiable (drop (i + 1) ways))) t)

pub some_end : (ways : List Way) (i : ℕ) → length ways ≤ i → some_is_emptiable ways ≡ some_is_emptiable (drop i ways) → false ≡ some_is_emptiable ways
some_end ways i h inv = sym (inv ∙ ap some_is_emptiable (drop_all i ways h))

-- ---- starts: those that stand in the list already, and those that come

module _ (parts : List Part) (i : ℕ) (part : Part) (h : i < length parts) (e : part ≡ get_or parts i part) (old was more : List Kind) (inv : was ++ starts_of (drop i parts) ≡ old ++ starts_of parts) (m : more ≡ was ++ part_starts part) (b : Bool) (s : b ≡ part_may_be_empty part) where
  now_starts : more ++ cond b (starts_of (drop (i + 1) parts)) [] ≡ old ++ starts_of parts
  now_starts =
      ap (λ (l : List Kind). l ++ cond b (starts_of (drop (i + 1) parts)) []) m ∙
      (append_assoc was (part_starts part) (cond b (starts_of (drop (i + 1) parts)) []) ∙
      (ap (λ (y : Bool). was ++ (part_starts part ++ cond y (starts_of (drop (i + 1) parts)) [])) s ∙ (ap (λ (l : List Part). was ++ starts_of l) (sym (next parts i part h e)) ∙ inv)))

  pub starts_more : b ≡ true → more ++ starts_of (drop (i + 1) parts) ≡ old ++ starts_of parts
  starts_more t = ap (λ (y : Bool). more ++ cond y (starts_of (drop (i + 1) parts)) []) (sym t) ∙ now_starts

  pub starts_stop : b ≡ false → more ≡ old ++ starts_of parts
  starts_stop t = sym (append-nil more) ∙ (ap (λ (y : Bool). more ++ cond y (starts_of (drop (i + 1) parts)) []) (sym t) ∙ now_starts)

pub starts_end : (parts : List Part) (i : ℕ) (old was : List Kind) → length parts ≤ i → was ++ starts_of (drop i parts) ≡ old ++ starts_of parts → was ≡ old ++ starts_of parts
starts_end parts i old was h inv = sym (append-nil was) ∙ (ap (λ (l : List Part). was ++ starts_of l) (sym (drop_all i parts h)) ∙ inv)

pub ways_more : (ways : List Way) (i : ℕ) (way : Way) (old was more : List Kind) → i < length ways → way ≡ get_or ways i way → was ++ ways_start (drop i ways) ≡ old ++ ways_start ways → more ≡ was ++ starts_of way.body.parts →
    more ++ ways_start (drop (i + 1) ways) ≡ old ++ ways_start ways
ways_more ways i way old was more h e inv m =
    ap (λ (l : List Kind). l ++ ways_start (drop (i + 1) ways)) m ∙
    (append_assoc was (starts_of way.body.parts) (ways_start (drop (i + 1) ways)) ∙ (ap (λ (l : List Way). was ++ ways_start l) (sym (next ways i way h e)) ∙ inv))

pub ways_end : (ways : List Way) (i : ℕ) (old was : List Kind) → length ways ≤ i → was ++ ways_start (drop i ways) ≡ old ++ ways_start ways → was ≡ old ++ ways_start ways
ways_end ways i old was h inv = sym (append-nil was) ∙ (ap (λ (l : List Way). was ++ ways_start l) (sym (drop_all i ways h)) ∙ inv)

-- ---- shapes that are borrowed

pub kinds-append : (xs ys : List (Bor Shape)) → kinds_of (xs ++ ys) ≡ kinds_of xs ++ kinds_of ys
kinds-append [] ys = refl
kinds-append (x ∷ xs) ys = ap (λ (l : List Kind). x.now.kind ∷ l) (kinds-append xs ys)

pub kinds_more : (xs : List (Bor Shape)) (i : ℕ) (x : Bor Shape) (old was more : List Kind) → i < length xs → x ≡ get_or xs i x → was ++ kinds_of (drop i xs) ≡ old ++ kinds_of xs → more ≡ was ++ x.now.kind ∷ [] →
    more ++ kinds_of (drop (i + 1) xs) ≡ old ++ kinds_of xs
kinds_more xs i x old was more h e inv m =
    ap (λ (l : List Kind). l ++ kinds_of (drop (i + 1) xs)) m ∙ (append_assoc was (x.now.kind ∷ []) (kinds_of (drop (i + 1) xs)) ∙ (ap (λ (l : List (Bor Shape)). was ++ kinds_of l) (sym (next xs i x h e)) ∙ inv))

pub kinds_end : (xs : List (Bor Shape)) (i : ℕ) (old was : List Kind) → length xs ≤ i → was ++ kinds_of (drop i xs) ≡ old ++ kinds_of xs → was ≡ old ++ kinds_of xs
kinds_end xs i old was h inv = sym (append-nil was) ∙ (ap (λ (l : List (Bor Shape)). was ++ kinds_of l) (sym (drop_all i xs h)) ∙ inv)
