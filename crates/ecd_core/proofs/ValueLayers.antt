-- Values over the lists of the source: induction, and values that are built alike have the same parts.
use Rattle.std.proofs.Common.{◌≡◌, ℕ, Bool, true, false, cond, eqb, List, refl, ap, sym, ◌∙◌, subst, rules, arith}
use Rattle.std.proofs.lemmas.Bool.{eqb-true}
use mathlib.Core.Former.{Count}
use denote.Hole.Carrier.{shown}
use Rattle.ecd_core.specs.declared.value.Value.{Value, Way', Tagged', Group', Present', Many', out-Value, Row_of-Value, end_of-Value, more_of-Value, items-the_row-Value, roll-Value, roll-out-Value, the_lemmas}
use Rattle.ecd_core.specs.declared.value.Value.TheVariants as v
use Rattle.ecd_core.specs.declared.value.Value.TheViews as views
use Rattle.ecd_core.specs.declared.value.Value.TheBlock as block
use Rattle.ecd_core.specs.declared.value.Value.TheOpen as o
use Rattle.ecd_core.specs.Lists.{Each}
use Rattle.ecd_core.specs.Maps.{held}
use Rattle.ecd_core.specs.Values.{IsWithin, numbered}

-- What has to be shown for each value, where it holds for the values that it is made of.
pub record Cases (P : Value → Type 0) : Type 0 where
  pub unit : P v.Unit
  pub number : (n : ℕ) → P (v.Number n)
  pub bytes : (bytes : List ℕ) → P (v.Bytes bytes)
  pub way : (number : ℕ) (value : Value) → P value → P (v.Way number value)
  pub tagged : (n : ℕ) (value : Value) → P value → P (v.Tagged n value)
  pub group : (values : List Value) → Each P values → P (v.Group values)
  pub absent : P v.Absent
  pub present : (value : Value) → P value → P (v.Present value)
  pub many : (values : List Value) → Each P values → P (v.Many values)

values-shown : (s : List (Unit {0})) (r : _) → block.shown-the_row-Value-1 s r ≡ items-the_row-Value _ r
values-shown s r = search (rules, the_lemmas)

Group-row : (s : List (Unit {0})) (r : _) → Group' s r ≡ v.Group (items-the_row-Value _ r)
Group-row s r = sym (roll-out-Value (Group' s r)) ∙ (ap roll-Value (views.outs-Group' s r) ∙ (v.rolls-Group _ ∙ ap (λ (x : List Value). v.Group x) (values-shown s r)))

Many-row : (s : List (Unit {0})) (r : _) → Many' s r ≡ v.Many (items-the_row-Value _ r)
Many-row s r = sym (roll-out-Value (Many' s r)) ∙ (ap roll-Value (views.outs-Many' s r) ∙ (v.rolls-Many _ ∙ ap (λ (x : List Value). v.Many x) (values-shown s r)))

Way-row : (n : ℕ) (s : Unit {0}) (r : Row_of-Value 1) → Way' n s r ≡ v.Way n (block.shown-the_row-Value-0 s r)
Way-row n s r = sym (roll-out-Value (Way' n s r)) ∙ (ap roll-Value (views.outs-Way' n s r) ∙ v.rolls-Way n _)

Tagged-row : (n : ℕ) (s : Unit {0}) (r : Row_of-Value 1) → Tagged' n s r ≡ v.Tagged n (block.shown-the_row-Value-0 s r)
Tagged-row n s r = sym (roll-out-Value (Tagged' n s r)) ∙ (ap roll-Value (views.outs-Tagged' n s r) ∙ v.rolls-Tagged n _)

Present-row : (s : Unit {0}) (r : Row_of-Value 1) → Present' s r ≡ v.Present (block.shown-the_row-Value-0 s r)
Present-row s r = sym (roll-out-Value (Present' s r)) ∙ (ap roll-Value (views.outs-Present' s r) ∙ v.rolls-Present _)

module _ (P : Value → Type 0) where
  one-value : (s : Unit {0}) (r : Row_of-Value 1) → Each P (items-the_row-Value 1 r) → P (block.shown-the_row-Value-0 s r)
  unfolding block.shown-the_row-Value-0 shown
  one-value s r h = h.0

  module _ (c : Cases P) where
    mutual
      pub value_ind : (value : Value) → P value
      value_ind v.Unit = c.unit
      value_ind (v.Number n) = c.number n
      value_ind (v.Bytes bytes) = c.bytes bytes
      value_ind (Way' n s r) = subst P (sym (Way-row n s r)) (c.way n _ (one-value s r (values_ind r)))
      value_ind (Tagged' n s r) = subst P (sym (Tagged-row n s r)) (c.tagged n _ (one-value s r (values_ind r)))
      value_ind (Group' s r) = subst P (sym (Group-row s r)) (c.group _ (values_ind r))
      value_ind v.Absent = c.absent
      value_ind (Present' s r) = subst P (sym (Present-row s r)) (c.present _ (one-value s r (values_ind r)))
      value_ind (Many' s r) = subst P (sym (Many-row s r)) (c.many _ (values_ind r))

      values_ind : {n : Count} (r : Row_of-Value n) → Each P (items-the_row-Value n r)
      values_ind end_of-Value = tt
      values_ind (more_of-Value value rest) = (value_ind value, values_ind rest)

-- ---- values that are built alike

-- the constructor that a value is built by; it computes, so that values of two constructors are told apart
pub data Form : Type 0 where
  IsUnit : Form
  IsNumber : Form
  IsBytes : Form
  IsWay : Form
  IsTagged : Form
  IsGroup : Form
  IsAbsent : Form
  IsPresent : Form
  IsMany : Form

abbrev pub form_of : Value → Form
form_of v.Unit = IsUnit
form_of (v.Number n) = IsNumber
form_of (v.Bytes bytes) = IsBytes
form_of (Way' n s r) = IsWay
form_of (Tagged' n s r) = IsTagged
form_of (Group' s r) = IsGroup
form_of v.Absent = IsAbsent
form_of (Present' s r) = IsPresent
form_of (Many' s r) = IsMany

opened : {x y : Value} → x ≡ y → out-Value x ≡ out-Value y
opened e = ap out-Value e

pub ways_alike : (j m : ℕ) (a b : Value) → v.Way j a ≡ v.Way m b → (j ≡ m) × (a ≡ b)
ways_alike j m a b e = let h : o.Way j a ≡ o.Way m b = sym (v.outs-Way j a) ∙ (opened e ∙ v.outs-Way m b) in (cc, cc)

pub tagged_alike : (j m : ℕ) (a b : Value) → v.Tagged j a ≡ v.Tagged m b → (j ≡ m) × (a ≡ b)
tagged_alike j m a b e = let h : o.Tagged j a ≡ o.Tagged m b = sym (v.outs-Tagged j a) ∙ (opened e ∙ v.outs-Tagged m b) in (cc, cc)

pub groups_alike : (xs ys : List Value) → v.Group xs ≡ v.Group ys → xs ≡ ys
groups_alike xs ys e = let h : o.Group xs ≡ o.Group ys = sym (v.outs-Group xs) ∙ (opened e ∙ v.outs-Group ys) in cc

pub manys_alike : (xs ys : List Value) → v.Many xs ≡ v.Many ys → xs ≡ ys
manys_alike xs ys e = let h : o.Many xs ≡ o.Many ys = sym (v.outs-Many xs) ∙ (opened e ∙ v.outs-Many ys) in cc

pub presents_alike : (x y : Value) → v.Present x ≡ v.Present y → x ≡ y
presents_alike x y e = let h : o.Present x ≡ o.Present y = sym (v.outs-Present x) ∙ (opened e ∙ v.outs-Present y) in cc

pub absent_present : (x : Value) → v.Absent ≡ v.Present x → ⊥
absent_present x e = let h : form_of v.Absent ≡ form_of (v.Present x) = ap form_of e in cc

pub absent_way : (j : ℕ) (x : Value) → v.Absent ≡ v.Way j x → ⊥
absent_way j x e = let h : form_of v.Absent ≡ form_of (v.Way j x) = ap form_of e in cc

pub bytes_alike : (xs ys : List ℕ) → v.Bytes xs ≡ v.Bytes ys → xs ≡ ys
bytes_alike xs ys e = cc

pub numbers_alike : (lo hi m n : ℕ) → IsWithin lo hi m → IsWithin lo hi n → numbered lo hi m ≡ numbered lo hi n → m ≡ n
numbers_alike lo hi m n p q e = by_test (eqb lo hi) refl e
  where
    by_test : (b : Bool) → eqb lo hi ≡ b → cond b v.Unit (v.Number m) ≡ cond b v.Unit (v.Number n) → m ≡ n
    by_test true t e = omega (arith, eqb-true lo hi t, p.0, p.1, q.0, q.1)
    by_test false t e = cc

pub held_alike : (needed : Bool) (x y : Value) → held needed x ≡ held needed y → x ≡ y
held_alike true x y e = e
held_alike false x y e = presents_alike x y e
