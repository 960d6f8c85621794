-- The first rule of a name.
use Rattle.std.proofs.Common.{◌≡◌, ℕ, zero, suc, ◌+◌, ◌<◌, Bool, true, false, cond, List, [], ◌∷◌, length, get_or, Some, refl, sym, ap, ◌∙◌, subst, arith, Contains, is_some}
use Rattle.std.specs.Prelude.{slice_get, IsSome}
use Rattle.std.specs.List.{position, position_from}
use Rattle.std.proofs.lemmas.Iterator.Adapters.{position_from-zero}
use Rattle.std.proofs.lemmas.Option.{slice_get_within, get_or_from_slice_get}
use Rattle.std.proofs.lemmas.Slice.Eq.{bytes_eq-Decides}
use Rattle.ecd_syntax.specs.declared.tree.Rule.{Rule}
use Rattle.ecd_bodies.specs.Named.{is_named}

-- a rule of the name stands at the number
pub record FirstAt (rules : List Rule) (name : List ℕ) (place : ℕ) : Type 0 where
  pub rule : Rule
  pub stands : slice_get rules place ≡ Some rule
  pub named : rule.name.text ≡ name

from : (name : List ℕ) (n k : ℕ) (rules : List Rule) → position_from (is_named name) n rules ≡ Some k → (j : ℕ) × (k ≡ n + j) × FirstAt rules name j
from name n k [] h = cc
from name n k (x ∷ xs) h = by (is_named name x) refl (from name (n + 1) k xs) h
  where
    by : (b : Bool) → is_named name x ≡ b → (position_from (is_named name) (n + 1) xs ≡ Some k → (j : ℕ) × (k ≡ n + 1 + j) × FirstAt xs name j)
        → cond b (Some n) (position_from (is_named name) (n + 1) xs) ≡ Some k → (j : ℕ) × (k ≡ n + j) × FirstAt (x ∷ xs) name j
    by true is rest e = let same : n ≡ k = cc in (0, omega arith, record { rule = x; stands = refl; named = (bytes_eq-Decides x.name.text name).0 is })
    by false is rest e = let r = rest e in (suc r.0, omega (arith, r.1), record { rule = r.2.rule; stands = r.2.stands; named = r.2.named })

pub first_at : (rules : List Rule) (name : List ℕ) (k : ℕ) → position (is_named name) rules ≡ Some k → FirstAt rules name k
first_at rules name k h =
    let r = from name 0 k rules (sym (position_from-zero (is_named name) rules) ∙ h) in
    let same : r.0 ≡ k = omega (arith, r.1) in
    subst (FirstAt rules name) same r.2

pub among : (rules : List Rule) (name : List ℕ) (k : ℕ) (f : FirstAt rules name k) → Contains rules f.rule
among rules name k f = (k, slice_get_within rules k f.rule f.stands, get_or_from_slice_get rules k f.rule f.rule f.stands)

-- one number has one name
pub one_name : (rules : List Rule) (a b : List ℕ) (k : ℕ) → FirstAt rules a k → FirstAt rules b k → a ≡ b
one_name rules a b k f g =
    let both : Some f.rule ≡ Some g.rule = sym f.stands ∙ g.stands in
    let same : f.rule ≡ g.rule = cc in
    sym f.named ∙ (ap (λ (r : Rule). r.name.text) same ∙ g.named)

someone : (rule : Rule) (n k : ℕ) (rules : List Rule) → k < length rules → get_or rules k rule ≡ rule → IsSome (position_from (is_named rule.name.text) n rules)
someone rule n k [] lt is = absurd (omega (arith, lt))
someone rule n zero (x ∷ xs) lt is =
    let yes : is_named rule.name.text x ≡ true = (bytes_eq-Decides x.name.text rule.name.text).1 (ap (λ (r : Rule). r.name.text) is) in
    ap (λ (b : Bool). is_some (cond b (Some n) (position_from (is_named rule.name.text) (n + 1) xs))) yes
someone rule n (suc k) (x ∷ xs) lt is = by (is_named rule.name.text x) (someone rule (n + 1) k xs (omega (arith, lt)) is)
  where
    by : (b : Bool) → IsSome (position_from (is_named rule.name.text) (n + 1) xs) → IsSome (cond b (Some n) (position_from (is_named rule.name.text) (n + 1) xs))
    by true e = refl
    by false e = e

pub has_first : (rules : List Rule) (rule : Rule) → Contains rules rule → IsSome (position (is_named rule.name.text) rules)
has_first rules rule c = subst IsSome (sym (position_from-zero (is_named rule.name.text) rules)) (someone rule 0 c.0 rules c.1 c.2)
