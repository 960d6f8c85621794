-- Where the kind of something matters in a rule: names that are used, and parentheses where a type is asked for (RFC 8610, sections 2.1, 2.2 and 3).
use Rattle.std.specs.Prelude.{ℕ, Bool, true, false, ◌||◌, List, [], ◌∷◌, ◌++◌, length}
use Rattle.ecd_syntax.specs.declared.tree.Alts.{Alts, Alts', Row_of-Type1, end_of-Type1, more_of-Type1, items-the_row-Type1}
use Rattle.ecd_syntax.specs.declared.tree.Assign.{Assign}
use Rattle.ecd_syntax.specs.declared.tree.Assign.TheVariants.{Define, TypeMore, GroupMore}
use Rattle.ecd_syntax.specs.declared.tree.Entry.{Entry, Entry'}
use Rattle.ecd_syntax.specs.declared.tree.Form.{Form, Named', Paren, MapOf, ArrayOf, Unwrap', Enum, EnumName', Tagged, Hash}
use Rattle.ecd_syntax.specs.declared.tree.Form.{Lit as AValue}
use Rattle.ecd_syntax.specs.declared.tree.GroupTree.{GroupTree, GroupTree', Row_of-WayTree, end_of-WayTree, more_of-WayTree}
use Rattle.ecd_syntax.specs.declared.tree.Key.{Key, Missing, Arrow, Word}
use Rattle.ecd_syntax.specs.declared.tree.Key.{Lit as AValueKey}
use Rattle.ecd_syntax.specs.declared.tree.Rule.{Rule}
use Rattle.ecd_syntax.specs.declared.tree.Type1.{Type1, Type1', None', Some'}
use Rattle.ecd_syntax.specs.declared.tree.WayTree.{WayTree, WayTree', Row_of-Entry, end_of-Entry, more_of-Entry}
use Rattle.ecd_uses.specs.declared.site.Asked.{Asked}
use Rattle.ecd_uses.specs.declared.site.Asked.TheVariants.{Anything, AType, AGroup}
use Rattle.ecd_uses.specs.declared.site.Lead.{Lead}
use Rattle.ecd_uses.specs.declared.site.Site.{Site}
use Rattle.ecd_uses.specs.declared.site.Site.TheVariants.{Use, Parenthesis}
use Rattle.ecd_uses.specs.Leads.{group_lead, ways_leads_of}

-- What is asked of a name where a type is asked for, or not.
abbrev pub type_asked : Bool → Asked
type_asked true = AType
type_asked false = Anything

-- Whether there are two or more.
abbrev pub are_several : {A : Type 0} → List A → Bool
are_several [] = false
are_several (x ∷ []) = false
are_several (x ∷ y ∷ rest) = true

-- Whether there is a key.
abbrev pub is_keyed : Key → Bool
is_keyed Missing = false
is_keyed (Arrow of cut) = true
is_keyed (Word name) = true
is_keyed (AValueKey at value) = true

-- A parenthesis at the place, of this lead, matters where a type is asked for.
abbrev pub parenthesis : Bool → ℕ → Lead → List Site
parenthesis true at lead = Parenthesis at lead ∷ []
parenthesis false at lead = []

-- The Bool says whether a type is asked for.
unfoldable mutual
  -- A type is asked for after a key.
  pub entry_sites : Bool → Entry → List Site
  entry_sites asked (Entry' at occur key body) = key_sites key ++ type_sites (asked || is_keyed key) body

  -- A type is asked for as a key.
  pub key_sites : Key → List Site
  key_sites Missing = []
  key_sites (Arrow of cut) = choice_sites true of
  key_sites (Word name) = []
  key_sites (AValueKey at value) = []

  -- A type is asked for in a choice of two or more.
  pub type_sites : Bool → Alts → List Site
  type_sites asked (Alts' at shape choices) = choices_sites (asked || are_several (items-the_row-Type1 _ choices)) choices

  pub choices_sites : {m : _} → Bool → Row_of-Type1 m → List Site
  choices_sites asked end_of-Type1 = []
  choices_sites asked (more_of-Type1 choice rest) = choice_sites asked choice ++ choices_sites asked rest

  -- A type is asked for on both sides of an operator.
  pub choice_sites : Bool → Type1 → List Site
  choice_sites asked (Type1' at left_at left None') = form_sites asked left_at left
  choice_sites asked (Type1' at left_at left (Some' op_at kind right_at right)) = form_sites true left_at left ++ form_sites true right_at right

  -- A type is asked for in generic arguments, behind `~` and in a tag; a group behind `&` and a name. Inside brackets nothing is asked.
  pub form_sites : Bool → ℕ → Form → List Site
  form_sites asked at (AValue value) = []
  form_sites asked at (Named' name shape args) = Use name (length (items-the_row-Type1 _ args)) (type_asked asked) ∷ choices_sites true args
  form_sites asked at (Paren group) = parenthesis asked at (group_lead (ways_leads_of group)) ++ group_sites group
  form_sites asked at (MapOf group) = group_sites group
  form_sites asked at (ArrayOf group) = group_sites group
  form_sites asked at (Unwrap' name shape args) = Use name (length (items-the_row-Type1 _ args)) AType ∷ choices_sites true args
  form_sites asked at (Enum group) = group_sites group
  form_sites asked at (EnumName' name shape args) = Use name (length (items-the_row-Type1 _ args)) AGroup ∷ choices_sites true args
  form_sites asked at (Tagged number body) = type_sites true body
  form_sites asked at (Hash major arg) = []

  pub group_sites : GroupTree → List Site
  group_sites (GroupTree' at shape ways) = ways_sites ways

  pub ways_sites : {m : _} → Row_of-WayTree m → List Site
  ways_sites end_of-WayTree = []
  ways_sites (more_of-WayTree way rest) = way_sites way ++ ways_sites rest

  pub way_sites : WayTree → List Site
  way_sites (WayTree' at shape entries) = entries_sites entries

  pub entries_sites : {m : _} → Row_of-Entry m → List Site
  entries_sites end_of-Entry = []
  entries_sites (more_of-Entry entry rest) = entry_sites false entry ++ entries_sites rest

-- Whether the assignment asks for a type: `/=` does (RFC 8610, section 2.2.2).
abbrev pub asks_type : Assign → Bool
asks_type Define = false
asks_type TypeMore = true
asks_type GroupMore = false

-- The sites of a rule, in the order of the text.
abbrev pub sites_of : Rule → List Site
sites_of rule = entry_sites (asks_type rule.assign) rule.body
