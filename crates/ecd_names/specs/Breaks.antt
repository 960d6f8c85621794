-- The rules of names, N1 to N5 (RFC 8610, sections 2.1, 2.2, 3.1, 3.9 and 3.10), over the rules of a text. Every rule of the text is judged, used or not.
use Rattle.std.specs.Prelude.{ℕ, ◌≡◌, ◌≢◌, ◌<◌, ◌≤◌, ◌⊎◌, true, false, if◌then◌else◌, List, [], Some, length, take, slice_get}
use Rattle.std.specs.List.{Contains}
use Rattle.ecd_syntax.specs.declared.tree.Assign.TheVariants.{Define, TypeMore, GroupMore}
use Rattle.ecd_syntax.specs.declared.tree.Name.{Name}
use Rattle.ecd_syntax.specs.declared.tree.Rule.{Rule}
use Rattle.ecd_uses.specs.declared.site.Asked.{Asked}
use Rattle.ecd_uses.specs.declared.site.Asked.TheVariants.{AType, AGroup}
use Rattle.ecd_uses.specs.declared.site.Site.{Site}
use Rattle.ecd_uses.specs.declared.site.Site.TheVariants.{Use, Parenthesis}
use Rattle.ecd_uses.specs.Sites.{sites_of}
use Rattle.ecd_bodies.specs.Named.{arity_of, IsDefined, is_in_text, is_parameter}
use Rattle.ecd_bodies.specs.Kinds.{IsGroupBeside, LeadsToGroup, IsGroup, IsGroupEntry}
use Rattle.ecd_prelude.specs.Sockets.{is_socket, is_group_socket, IsTypeSocket}
use Rattle.ecd_bodies.specs.Reaching.{ReachesName}

-- ---- N1, a name is defined twice

-- the prelude defines the name, by a rule or as one of its floats
abbrev pub IsOfPrelude : List ℕ → Type 0
IsOfPrelude name = IsDefined [] name

-- a rule of a prelude name, or one with `=` whose name has a rule before it in the text
pub data IsDuplicate (before : List Rule) (rule : Rule) : Type 0 where
  OfPrelude : IsOfPrelude rule.name.text → IsDuplicate before rule
  Again : rule.assign ≡ Define → is_in_text before rule.name.text ≡ true → IsDuplicate before rule

-- the parameter of this number has the name of one before it in the same rule
pub record IsRepeated (params : List Name) (index : ℕ) (param : Name) : Type 0 where
  pub stands : slice_get params index ≡ Some param
  pub named_before : is_parameter (take index params) param.text ≡ true

-- ---- N2, a name is undefined

-- a name that is no parameter of the rule, and neither defined nor a socket
pub record IsUndefined (text : List Rule) (rule : Rule) (name : List ℕ) : Type 0 where
  pub free : is_parameter rule.params name ≡ false
  pub no_rule : IsDefined text name → ⊥
  pub no_socket : is_socket name ≡ false

-- ---- N3, names are recursive

-- a name that is no parameter of the rule, and reaches the rule's name
pub record IsRecursive (text : List Rule) (rule : Rule) (name : List ℕ) : Type 0 where
  pub free : is_parameter rule.params name ≡ false
  pub back : ReachesName text name rule.name.text

-- ---- N4, another number of arguments or parameters

-- how many arguments a name takes in a rule: a parameter, a socket without plugs, a name without rules and a name of the prelude take none
abbrev pub arity_in : List Rule → Rule → List ℕ → ℕ
arity_in text rule name = if is_parameter rule.params name then 0 else arity_of text name

-- ---- N5, another kind

-- a name is a group in a rule, whose parameters are types
abbrev pub IsGroupIn : List Rule → Rule → List ℕ → Type 0
IsGroupIn text rule name = IsGroupBeside (IsGroup text) rule.params name

-- a group where a type is asked for, or a type where a group is
pub data IsOtherKind (text : List Rule) (rule : Rule) (name : List ℕ) (asked : Asked) : Type 0 where
  GroupForType : asked ≡ AType → IsGroupIn text rule name → IsOtherKind text rule name asked
  TypeForGroup : asked ≡ AGroup → (IsGroupIn text rule name → ⊥) → IsOtherKind text rule name asked

-- an assignment that does not suit the kind of its name
pub data IsOtherAssign (text : List Rule) (rule : Rule) : Type 0 where
  TypeForGroupName : rule.assign ≡ TypeMore → IsGroup text rule.name.text → IsOtherAssign text rule
  GroupForTypeSocket : rule.assign ≡ GroupMore → IsTypeSocket rule.name.text → IsOtherAssign text rule
  GroupAsTypeSocket : rule.assign ≡ Define → IsGroupEntry text rule.params rule.body → IsTypeSocket rule.name.text → IsOtherAssign text rule
  TypeForGroupSocket : rule.assign ≡ TypeMore → is_group_socket rule.name.text ≡ true → IsOtherAssign text rule

-- ---- the rules by their numbers

-- what a use of a name breaks
pub data UseBreaks (text : List Rule) (rule : Rule) (name : List ℕ) (args : ℕ) (asked : Asked) (number : ℕ) : Type 0 where
  Undefined : number ≡ 2 → IsUndefined text rule name → UseBreaks text rule name args asked number
  Recursive : number ≡ 3 → IsRecursive text rule name → UseBreaks text rule name args asked number
  OtherArity : number ≡ 4 → args ≢ arity_in text rule name → UseBreaks text rule name args asked number
  OtherKind : number ≡ 5 → IsOtherKind text rule name asked → UseBreaks text rule name args asked number

-- A name breaks a rule where it is used; a parenthesis that is a group where a type is asked for breaks N5 at its bracket.
abbrev pub SiteBreaks : List Rule → Rule → Site → (place number : ℕ) → Type 0
SiteBreaks text rule (Use name args asked) place number = (place ≡ name.at) × UseBreaks text rule name.text args asked number
SiteBreaks text rule (Parenthesis at lead) place number = (place ≡ at) × (number ≡ 5) × LeadsToGroup (IsGroup text) rule.params lead

-- what the name of a rule breaks, behind the rules before it
pub data NameBreaks (text before : List Rule) (rule : Rule) (number : ℕ) : Type 0 where
  Duplicate : number ≡ 1 → IsDuplicate before rule → NameBreaks text before rule number
  OtherParameters : number ≡ 4 → length rule.params ≢ arity_of text rule.name.text → NameBreaks text before rule number
  OtherAssign : number ≡ 5 → IsOtherAssign text rule → NameBreaks text before rule number

-- what a rule of the text breaks, behind the rules before it: at its name, at a parameter, or in its body
pub data RuleBreaks (text before : List Rule) (rule : Rule) (place number : ℕ) : Type 0 where
  AtName : place ≡ rule.name.at → NameBreaks text before rule number → RuleBreaks text before rule place number
  AtParameter : (index : ℕ) (param : Name) → place ≡ param.at → number ≡ 1 → IsRepeated rule.params index param → RuleBreaks text before rule place number
  AtSite : (site : Site) → Contains (sites_of rule) site → SiteBreaks text rule site place number → RuleBreaks text before rule place number

-- The text breaks the rule of names of this number at the place.
pub record Breaks (text : List Rule) (place number : ℕ) : Type 0 where
  pub index : ℕ
  pub rule : Rule
  pub stands : slice_get text index ≡ Some rule
  pub broken : RuleBreaks text (take index text) rule place number

-- the text breaks none of them
abbrev pub BreaksNone : List Rule → Type 0
BreaksNone text = (place number : ℕ) → Breaks text place number → ⊥

-- the one place and number comes no later than the other: by the places, and at one place by the numbers
abbrev pub ComesNoLater : (place number other_place other : ℕ) → Type 0
ComesNoLater place number other_place other = (place < other_place) ⊎ ((place ≡ other_place) × (number ≤ other))

-- the broken rule that is named: the least place, and there the least number
pub record IsFirst (text : List Rule) (place number : ℕ) : Type 0 where
  pub broken : Breaks text place number
  pub first : (other_place other : ℕ) → Breaks text other_place other → ComesNoLater place number other_place other
