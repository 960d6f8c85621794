-- What is known of names that break no rule.
use Rattle.std.specs.Prelude.{ℕ, ◌≡◌, ◌<◌, ◌^◌, ◌↔◌, true, List, Some, length, take, slice_get}
use Rattle.ecd_syntax.specs.declared.tree.Rule.{Rule}
use Rattle.ecd_bodies.specs.Named.{bodies_of, arity_of, IsDefined}
use Rattle.ecd_bodies.specs.Kinds.{IsGroup}
use Rattle.ecd_bodies.specs.Reaching.{IsRanked}
use Rattle.ecd_names.specs.Breaks.{RuleBreaks, BreaksNone, IsFirst}
use Rattle.ecd_names.specs.declared.fault.NameFault.{NameFault}
use Rattle.ecd_names.specs.declared.fault.NameFault.TheVariants.{At, OutOfMemory}
use Rattle.ecd_names.specs.declared.info.NameInfo.{NameInfo}

-- what the rule of this number breaks
pub record BreaksAt (text : List Rule) (index : ℕ) (place number : ℕ) : Type 0 where
  pub rule : Rule
  pub stands : slice_get text index ≡ Some rule
  pub broken : RuleBreaks text (take index text) rule place number

-- each name has so few parameters that their number fits
abbrev pub HasFewParameters : List Rule → Type 0
HasFewParameters text = (name : List ℕ) → arity_of text name < 2 ^ 32

-- the text breaks no rule of names, its names have a ranking, and their numbers of parameters fit
pub record IsResolved (text : List Rule) : Type 0 where
  pub none : BreaksNone text
  pub ranked : IsRanked text
  pub few : HasFewParameters text

-- what makes names be refused so
abbrev pub HasCause : List Rule → NameFault → Type 0
HasCause text (At place number) = IsFirst text place number
HasCause text OutOfMemory = Unit {0}

-- what is answered of a name that is defined
pub record IsInfo (text : List Rule) (name : List ℕ) (info : NameInfo) : Type 0 where
  pub defined : IsDefined text name
  pub group : (info.group ≡ true) ↔ IsGroup text name
  pub params : info.params ≡ arity_of text name
  pub bodies : info.bodies ≡ length (bodies_of text name)
