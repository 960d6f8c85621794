-- What decides whether an entry is a type or a group (RFC 8610, sections 2.1 and 2.2).
use Rattle.std.specs.Prelude.{List, [], ◌∷◌, Option, Some, None}
use Rattle.ecd_syntax.specs.declared.tree.Alts.{Alts, Alts', Row_of-Type1, end_of-Type1, more_of-Type1}
use Rattle.ecd_syntax.specs.declared.tree.Entry.{Entry, Entry'}
use Rattle.ecd_syntax.specs.declared.tree.Form.{Form, Named', Paren, MapOf, ArrayOf, Unwrap', Enum, EnumName', Tagged, Hash}
use Rattle.ecd_syntax.specs.declared.tree.Form.{Lit as AValue}
use Rattle.ecd_syntax.specs.declared.tree.GroupTree.{GroupTree, GroupTree', Row_of-WayTree, end_of-WayTree, more_of-WayTree}
use Rattle.ecd_syntax.specs.declared.tree.Key.{Key, Missing, Arrow, Word}
use Rattle.ecd_syntax.specs.declared.tree.Key.{Lit as AValueKey}
use Rattle.ecd_syntax.specs.declared.tree.Occur.{Occur}
use Rattle.ecd_syntax.specs.declared.tree.Type1.{Type1, Type1', None', Some'}
use Rattle.ecd_syntax.specs.declared.tree.WayTree.{WayTree, WayTree', Row_of-Entry, end_of-Entry, more_of-Entry}
use Rattle.ecd_uses.specs.declared.site.Lead.{Lead}
use Rattle.ecd_uses.specs.declared.site.Lead.TheVariants as leads

-- The only one of a list, or else this.
abbrev pub only_or : {A : Type 0} → A → List A → A
only_or other [] = other
only_or other (x ∷ []) = x
only_or other (x ∷ y ∷ rest) = other

-- The entries of the ways of a group decide by their leads: the only entry of the only way, or else it is a group.
abbrev pub group_lead : List (List Lead) → Lead
group_lead ways = only_or leads.Group (only_or [] ways)

-- An entry with an occurrence or a key is a group; else its type decides.
abbrev pub entry_lead : Option Occur → Key → Lead → Lead
entry_lead (Some occur) key body = leads.Group
entry_lead None Missing body = body
entry_lead None (Arrow of cut) body = leads.Group
entry_lead None (Word name) body = leads.Group
entry_lead None (AValueKey at value) body = leads.Group

unfoldable mutual
  pub lead_of : Entry → Lead
  lead_of (Entry' at occur key body) = entry_lead occur key (type_lead body)

  -- The only choice decides; a choice of two or more is a type.
  pub type_lead : Alts → Lead
  type_lead (Alts' at shape choices) = only_or leads.Type (choices_leads choices)

  pub choices_leads : {m : _} → Row_of-Type1 m → List Lead
  choices_leads end_of-Type1 = []
  choices_leads (more_of-Type1 choice rest) = choice_lead choice ∷ choices_leads rest

  -- What has an operator is a type.
  pub choice_lead : Type1 → Lead
  choice_lead (Type1' at left_at left None') = form_lead left
  choice_lead (Type1' at left_at left (Some' op_at kind right_at right)) = leads.Type

  -- A name alone and a parenthesis alone lead on; every other form is a type.
  pub form_lead : Form → Lead
  form_lead (AValue value) = leads.Type
  form_lead (Named' name shape args) = leads.Named name
  form_lead (Paren group) = group_lead (ways_leads_of group)
  form_lead (MapOf group) = leads.Type
  form_lead (ArrayOf group) = leads.Type
  form_lead (Unwrap' name shape args) = leads.Type
  form_lead (Enum group) = leads.Type
  form_lead (EnumName' name shape args) = leads.Type
  form_lead (Tagged number body) = leads.Type
  form_lead (Hash major arg) = leads.Type

  pub ways_leads_of : GroupTree → List (List Lead)
  ways_leads_of (GroupTree' at shape ways) = ways_leads ways

  pub ways_leads : {m : _} → Row_of-WayTree m → List (List Lead)
  ways_leads end_of-WayTree = []
  ways_leads (more_of-WayTree way rest) = way_leads way ∷ ways_leads rest

  pub way_leads : WayTree → List Lead
  way_leads (WayTree' at shape entries) = entries_leads entries

  pub entries_leads : {m : _} → Row_of-Entry m → List Lead
  entries_leads end_of-Entry = []
  entries_leads (more_of-Entry entry rest) = lead_of entry ∷ entries_leads rest
