-- Which names the bodies of a name use, and so reach (RFC 8610, section 3.1).
use Rattle.std.specs.Prelude.{ℕ, zero, suc, false, ◌≡◌, ◌<◌, List}
use Rattle.std.specs.List.{Contains}
use Rattle.ecd_syntax.specs.declared.tree.Name.{Name}
use Rattle.ecd_syntax.specs.declared.tree.Rule.{Rule}
use Rattle.ecd_uses.specs.declared.site.Asked.{Asked}
use Rattle.ecd_uses.specs.declared.site.Site.TheVariants.{Use}
use Rattle.ecd_uses.specs.Sites.{sites_of}
use Rattle.ecd_bodies.specs.Named.{all_rules, is_parameter}

-- a use of a name in a rule, which is none of the rule's parameters
pub record IsUse (rule : Rule) (name : Name) (args : ℕ) (asked : Asked) : Type 0 where
  pub among : Contains (sites_of rule) (Use name args asked)
  pub free : is_parameter rule.params name.text ≡ false

-- some body of the one name uses the other
pub record Uses (text : List Rule) (a b : List ℕ) : Type 0 where
  pub rule : Rule
  pub among : Contains (all_rules text) rule
  pub named : rule.name.text ≡ a
  pub name : Name
  pub args : ℕ
  pub asked : Asked
  pub used : IsUse rule name args asked
  pub is : name.text ≡ b

-- the bodies of the one name reach the other in so many steps
abbrev pub ReachesWithin : List Rule → ℕ → List ℕ → List ℕ → Type 0
ReachesWithin text zero a b = a ≡ b
ReachesWithin text (suc steps) a b = (c : List ℕ) × Uses text a c × ReachesWithin text steps c b

-- the one name is the other, or its bodies reach it
pub record ReachesName (text : List Rule) (a b : List ℕ) : Type 0 where
  pub steps : ℕ
  pub walk : ReachesWithin text steps a b

-- the names have numbers such that each body uses only names of lower number
pub record IsRanked (text : List Rule) : Type 0 where
  pub rank : List ℕ → ℕ
  pub falls : (a b : List ℕ) → Uses text a b → rank b < rank a
