-- What is kept of each rule, in order.
use Rattle.std.proofs.Common.{ℕ, zero, suc, ◌+◌, ◌≡◌, ◌<◌, ◌≤◌, List, [], ◌∷◌, ◌++◌, length, take, get_or, refl, ap, sym, subst, arith}
use Rattle.std.specs.Prelude.{Some, slice_get}
use Rattle.std.specs.List.{AllZip}
use Rattle.std.proofs.lemmas.Option.{slice_get_within, slice_get_read}
use Rattle.ecd_syntax.specs.declared.tree.Rule.{Rule}
use Rattle.ecd_names.specs.declared.scope.Scope.{Scope}
use Rattle.ecd_names.specs.Scopes.{IsScope, AreScopes}
use Rattle.ecd_names.proofs.Walking.{some_same, take-more, take-all}

-- ---- lists side by side

module _ {A B : Type 0} (R : A → B → Type 0) where
  zip-push : (xs : List A) (ys : List B) (x : A) (y : B) → AllZip R xs ys → R x y → AllZip R (xs ++ x ∷ []) (ys ++ y ∷ [])
  zip-push [] [] x y a r = (r, tt)
  zip-push [] (b ∷ bs) x y a r = absurd a
  zip-push (a ∷ more) [] x y z r = absurd z
  zip-push (a ∷ more) (b ∷ bs) x y z r = (z.0, zip-push more bs x y z.1 r)

  zip-length : (xs : List A) (ys : List B) → AllZip R xs ys → length ys ≡ length xs
  zip-length [] [] z = refl
  zip-length [] (b ∷ bs) z = absurd z
  zip-length (a ∷ more) [] z = absurd z
  zip-length (a ∷ more) (b ∷ bs) z = ap suc (zip-length more bs z.1)

  zip-at : (xs : List A) (ys : List B) (n : ℕ) (x : A) (y : B) → AllZip R xs ys → slice_get xs n ≡ Some x → slice_get ys n ≡ Some y → R x y
  zip-at [] ys n x y z e f = absurd cc
  zip-at (a ∷ more) [] n x y z e f = absurd z
  zip-at (a ∷ more) (b ∷ bs) zero x y z e f = subst (λ (w : B). R x w) (some_same f) (subst (λ (w : A). R w b) (some_same e) z.0)
  zip-at (a ∷ more) (b ∷ bs) (suc n) x y z e f = zip-at more bs n x y z.1 e f

module _ (rules : List Rule) (n : ℕ) where
  pub scopes-more : (rule : Rule) (scopes : List Scope) (scope : Scope) → slice_get rules n ≡ Some rule → AreScopes (take n rules) scopes → IsScope rule scope → AreScopes (take (n + 1) rules) (scopes ++ scope ∷ [])
  scopes-more rule scopes scope e a is = record { all = subst (λ (l : List Rule). AllZip IsScope l (scopes ++ scope ∷ [])) (sym (take-more rules n rule e)) (zip-push IsScope (take n rules) scopes rule scope a.all is) }

  pub scopes-all : (scopes : List Scope) → length rules ≤ n → AreScopes (take n rules) scopes → AreScopes rules scopes
  scopes-all scopes h a = subst (λ (l : List Rule). AreScopes l scopes) (take-all rules n h) a

  pub scope_at : (rule : Rule) (scopes : List Scope) (scope : Scope) → AreScopes rules scopes → slice_get rules n ≡ Some rule → scope ≡ get_or scopes n scope → IsScope rule scope
  scope_at rule scopes scope a e f =
      let within : n < length scopes = omega (arith, zip-length IsScope rules scopes a.all, slice_get_within rules n rule e) in
      zip-at IsScope rules scopes n rule scope a.all e (slice_get_read scopes (length scopes) n scope refl within f)

pub scopes-each : (rules : List Rule) (scopes : List Scope) → AreScopes rules scopes → length scopes ≡ length rules
scopes-each rules scopes a = zip-length IsScope rules scopes a.all
