-- Which names and entries are groups and which are types (RFC 8610, sections 2.1, 2.2 and 3.9).
use Rattle.std.specs.Prelude.{ℕ, zero, suc, true, false, ◌≡◌, ◌⊎◌, List}
use Rattle.std.specs.List.{Contains}
use Rattle.ecd_syntax.specs.declared.tree.Assign.TheVariants.{GroupMore}
use Rattle.ecd_syntax.specs.declared.tree.Entry.{Entry}
use Rattle.ecd_syntax.specs.declared.tree.Name.{Name}
use Rattle.ecd_syntax.specs.declared.tree.Rule.{Rule}
use Rattle.ecd_uses.specs.declared.site.Lead.{Lead}
use Rattle.ecd_uses.specs.declared.site.Lead.TheVariants as leads
use Rattle.ecd_uses.specs.Leads.{lead_of}
use Rattle.ecd_bodies.specs.Named.{all_rules, is_parameter}
use Rattle.ecd_prelude.specs.Sockets.{is_socket, is_group_socket}

-- a name is a group where these names are, beside the parameters of the rule around, which are types
abbrev pub IsGroupBeside : (List ℕ → Type 0) → List Name → List ℕ → Type 0
IsGroupBeside Groups params name = (is_parameter params name ≡ false) × Groups name

-- what a lead says is a group, where these names are groups
abbrev pub LeadsToGroup : (List ℕ → Type 0) → List Name → Lead → Type 0
LeadsToGroup Groups params leads.Group = Unit {0}
LeadsToGroup Groups params leads.Type = ⊥
LeadsToGroup Groups params (leads.Named name) = IsGroupBeside Groups params name.text

-- a rule makes its name a group: by `//=`, or by a body that is a group
abbrev pub MakesGroup : (List ℕ → Type 0) → Rule → Type 0
MakesGroup Groups rule = (rule.assign ≡ GroupMore) ⊎ LeadsToGroup Groups rule.params (lead_of rule.body)

-- some rule of the name makes it a group
pub record HasGroupRule (Groups : List ℕ → Type 0) (text : List Rule) (name : List ℕ) : Type 0 where
  pub rule : Rule
  pub among : Contains (all_rules text) rule
  pub named : rule.name.text ≡ name
  pub makes : MakesGroup Groups rule

-- so many steps show that the name is a group
abbrev pub GroupWithin : List Rule → ℕ → List ℕ → Type 0
GroupWithin text zero name = ⊥
GroupWithin text (suc steps) name = (is_group_socket name ≡ true) ⊎ ((is_socket name ≡ false) × HasGroupRule (GroupWithin text steps) text name)

-- The name is a group: finitely many steps show it. Every other name is a type, so names that reach each other alone are types.
pub record IsGroup (text : List Rule) (name : List ℕ) : Type 0 where
  pub steps : ℕ
  pub shown : GroupWithin text steps name

-- an entry of a rule with these parameters is a group, and every other entry is a type
abbrev pub IsGroupEntry : List Rule → List Name → Entry → Type 0
IsGroupEntry text params entry = LeadsToGroup (IsGroup text) params (lead_of entry)
