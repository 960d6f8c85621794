-- A number is added to those of a name.
use Rattle.std.proofs.Common.{◌≡◌, ℕ, Bool, true, false, cond, List, [], ◌∷◌, ◌++◌, Option, Some, None, IsSome, nat_eq, refl, sym, ap, ◌∙◌, subst}
use Rattle.std.specs.Cmp.Lexicographic.{pointwise}
use Rattle.std.specs.Map.{lookup, set_value}
use Rattle.std.specs.Option.{unwrap_or}
use Rattle.std.specs.Str.{bytes_eq}
use Rattle.std.proofs.lemmas.Slice.Eq.{bytes_eq-Decides}
use Rattle.indexmap.specs.IndexMap.{insert_entry}
use Rattle.ecd_bodies.specs.Numbers.{with_number}

pub same_by : (a b c d : List ℕ) → (a ≡ b → c ≡ d) → (c ≡ d → a ≡ b) → bytes_eq a b ≡ bytes_eq c d
same_by a b c d there back = by (bytes_eq a b) (bytes_eq c d) refl refl
  where
    by : (x y : Bool) → bytes_eq a b ≡ x → bytes_eq c d ≡ y → bytes_eq a b ≡ bytes_eq c d
    by true true e f = e ∙ sym f
    by false false e f = e ∙ sym f
    by true false e f = let g : bytes_eq c d ≡ true = (bytes_eq-Decides c d).1 (there ((bytes_eq-Decides a b).0 e)) in cc
    by false true e f = let g : bytes_eq a b ≡ true = (bytes_eq-Decides a b).1 (back ((bytes_eq-Decides c d).0 f)) in cc

pub turned : (a b : List ℕ) → bytes_eq a b ≡ bytes_eq b a
turned a b = same_by a b b a (λ e. sym e) (λ e. sym e)

module _ {K : Type 0} (bytes : K → List ℕ) where
  abbrev pub at_name : List ℕ → K → Bool
  at_name name k = pointwise nat_eq name (bytes k)

  abbrev pub numbers : List (K × List ℕ) → List ℕ → List ℕ
  numbers entries name = unwrap_or (lookup (at_name name) entries) []

  here : (b t : Bool) (w v : List ℕ) (rest : Option (List ℕ)) → t ≡ b → unwrap_or (cond t (Some w) rest) [] ≡ cond b w (unwrap_or (cond t (Some v) rest) [])
  here true true w v rest e = refl
  here false false w v rest e = refl
  here true false w v rest e = cc
  here false true w v rest e = cc

  there : (b t : Bool) (w v : List ℕ) (old new : Option (List ℕ)) → (t ≡ true → b ≡ false) → unwrap_or new [] ≡ cond b w (unwrap_or old []) → unwrap_or (cond t (Some v) new) [] ≡ cond b w (unwrap_or (cond t (Some v) old) [])
  there b false w v old new apart e = e
  there false true w v old new apart e = refl
  there true true w v old new apart e = let f : true ≡ false = apart refl in cc

  alone : (b t : Bool) (w : List ℕ) → t ≡ b → unwrap_or (cond t (Some w) None) [] ≡ cond b w []
  alone true true w e = refl
  alone false false w e = refl
  alone true false w e = cc
  alone false true w e = cc

  -- the name of an entry that the test passes
  found : (name other : List ℕ) (k : K) → at_name name k ≡ true → at_name other k ≡ bytes_eq name other
  found name other k e = let same : name ≡ bytes k = (bytes_eq-Decides name (bytes k)).0 e in turned other (bytes k) ∙ ap (λ (x : List ℕ). bytes_eq x other) (sym same)

  apart : (name other : List ℕ) (k : K) → at_name name k ≡ false → at_name other k ≡ true → bytes_eq name other ≡ false
  apart name other k e t = let same : other ≡ bytes k = (bytes_eq-Decides other (bytes k)).0 t in ap (λ (x : List ℕ). bytes_eq name x) same ∙ e

  pub written : (name other w : List ℕ) (es : List (K × List ℕ)) → IsSome (lookup (at_name name) es) → numbers (set_value (at_name name) es w) other ≡ cond (bytes_eq name other) w (numbers es other)
  written name other w [] h = cc
  written name other w (e ∷ es) h = by (written name other w es) (at_name name e.0) refl
    where
      by : (IsSome (lookup (at_name name) es) → numbers (set_value (at_name name) es w) other ≡ cond (bytes_eq name other) w (numbers es other)) → (t : Bool) → at_name name e.0 ≡ t → numbers (set_value (at_name name) (e ∷ es) w) other ≡ cond (bytes_eq name other) w (numbers (e ∷ es) other)
      by rest true is = rw is (here (bytes_eq name other) (at_name other e.0) w e.1 (lookup (at_name other) es) (found name other e.0 is))
      by rest false is =
          let there_is : IsSome (lookup (at_name name) es) = subst (λ (t : Bool). IsSome (cond t (Some e.1) (lookup (at_name name) es))) is h in
          rw is (there (bytes_eq name other) (at_name other e.0) w e.1 (lookup (at_name other) es) (lookup (at_name other) (set_value (at_name name) es w)) (apart name other e.0 is) (rest there_is))

  pub inserted : (k : K) (other w : List ℕ) (es : List (K × List ℕ)) → numbers (insert_entry (λ x y. pointwise nat_eq (bytes x) (bytes y)) es k w) other ≡ cond (bytes_eq (bytes k) other) w (numbers es other)
  inserted k other w [] = alone (bytes_eq (bytes k) other) (at_name other k) w (turned other (bytes k))
  inserted k other w (e ∷ es) = by (inserted k other w es) (at_name (bytes k) e.0) refl
    where
      by : (numbers (insert_entry (λ x y. pointwise nat_eq (bytes x) (bytes y)) es k w) other ≡ cond (bytes_eq (bytes k) other) w (numbers es other)) → (t : Bool) → at_name (bytes k) e.0 ≡ t → numbers (insert_entry (λ x y. pointwise nat_eq (bytes x) (bytes y)) (e ∷ es) k w) other ≡ cond (bytes_eq (bytes k) other) w (numbers (e ∷ es) other)
      by rest true is = rw is (here (bytes_eq (bytes k) other) (at_name other e.0) w e.1 (lookup (at_name other) es) (found (bytes k) other e.0 is))
      by rest false is =
          rw is (there (bytes_eq (bytes k) other) (at_name other e.0) w e.1 (lookup (at_name other) es) (lookup (at_name other) (insert_entry (λ x y. pointwise nat_eq (bytes x) (bytes y)) es k w)) (apart (bytes k) other e.0 is) rest)

  -- the numbers with one more, as one value for the name
  pub more : (name other w : List ℕ) (n : ℕ) (es : List (K × List ℕ)) → w ≡ numbers es name ++ n ∷ [] → cond (bytes_eq name other) w (numbers es other) ≡ with_number (numbers es other) other name n
  more name other w n es is = by (bytes_eq name other) refl
    where
      by : (b : Bool) → bytes_eq name other ≡ b → cond (bytes_eq name other) w (numbers es other) ≡ with_number (numbers es other) other name n
      by false e = rw e refl
      by true e = rw e (is ∙ ap (λ (x : List ℕ). numbers es x ++ n ∷ []) ((bytes_eq-Decides name other).0 e))
