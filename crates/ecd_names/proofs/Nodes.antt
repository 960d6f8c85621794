-- The number of a name's first rule, as a node of the graph.
use Rattle.std.proofs.Common.{ℕ, ◌≡◌, ◌<◌, Bool, true, false, List, [], ◌∷◌, length, get_or, refl, ap, sym, ◌∙◌}
use Rattle.std.specs.Prelude.{Option, Some, None, is_some, slice_get}
use Rattle.std.specs.List.{Contains, position, list_any}
use Rattle.std.proofs.lemmas.List.Folds.{list_any_at}
use Rattle.std.proofs.lemmas.List.Quantifiers.{position-Some}
use Rattle.std.proofs.lemmas.Option.{slice_get-get_or}
use Rattle.ecd_syntax.specs.declared.tree.Rule.{Rule}
use Rattle.ecd_bodies.specs.Named.{is_named}
use Rattle.ecd_names.proofs.Naming.{same-name, same-bytes}
use Rattle.ecd_names.proofs.Positions.{position-from, from-some}

module _ {A : Type 0} (p : A → Bool) (xs : List A) where
  pub position-some : is_some (position p xs) ≡ list_any p xs
  position-some = ap is_some (position-from p xs) ∙ from-some p 0 xs

  pub position-of : (x : A) → Contains xs x → p x ≡ true → (n : ℕ) × (position p xs ≡ Some n)
  position-of x c e = found (position p xs) refl
    where
      there : list_any p xs ≡ true
      there = list_any_at p xs c.0 x c.1 (ap p c.2 ∙ e)

      found : (o : Option ℕ) → position p xs ≡ o → (n : ℕ) × (position p xs ≡ Some n)
      found (Some n) h = (n, h)
      found None h = let bad : true ≡ false = sym there ∙ (sym position-some ∙ ap is_some h) in absurd cc

-- the rule of that number has the name
pub node-named : (rules : List Rule) (name : List ℕ) (n : ℕ) → position (is_named name) rules ≡ Some n → (rule : Rule) × (slice_get rules n ≡ Some rule) × (rule.name.text ≡ name)
node-named [] name n e = absurd cc
node-named (x ∷ xs) name n e =
    let h = position-Some (is_named name) (x ∷ xs) n x e in
    (get_or (x ∷ xs) n x, slice_get-get_or (x ∷ xs) n x h.0, same-name (get_or (x ∷ xs) n x).name.text name h.1)

pub node-below : (rules : List Rule) (name : List ℕ) (n : ℕ) → position (is_named name) rules ≡ Some n → n < length rules
node-below [] name n e = absurd cc
node-below (x ∷ xs) name n e = (position-Some (is_named name) (x ∷ xs) n x e).0

-- every rule's name has a node
pub node-of : (rules : List Rule) (rule : Rule) → Contains rules rule → (n : ℕ) × (position (is_named rule.name.text) rules ≡ Some n)
node-of rules rule c = position-of (is_named rule.name.text) rules rule c (same-bytes rule.name.text rule.name.text refl)
