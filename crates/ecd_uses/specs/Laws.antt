-- The definitions case by case, over the lists of the source.
use Rattle.std.specs.Prelude.{◌≡◌, ℕ, Bool, true, ◌||◌, List, [], ◌++◌, map, flat_map, Option}
use Rattle.ecd_lex.specs.declared.token.Bound.{Bound}
use Rattle.ecd_syntax.specs.declared.tree.Alts.{Alts, out-Alts}
use Rattle.ecd_syntax.specs.declared.tree.Entry.{Entry, out-Entry}
use Rattle.ecd_syntax.specs.declared.tree.Form.TheVariants as f
use Rattle.ecd_syntax.specs.declared.tree.GroupTree.{GroupTree, out-GroupTree}
use Rattle.ecd_syntax.specs.declared.tree.Key.TheVariants as k
use Rattle.ecd_syntax.specs.declared.tree.Literal.{Literal}
use Rattle.ecd_syntax.specs.declared.tree.Name.{Name}
use Rattle.ecd_syntax.specs.declared.tree.Type1.{Type1, out-Type1}
use Rattle.ecd_uses.specs.declared.site.Asked.TheVariants.{AType, AGroup}
use Rattle.ecd_uses.specs.declared.site.Lead.TheVariants as leads
use Rattle.ecd_uses.specs.Leads.{only_or, entry_lead, lead_of, type_lead, choice_lead, form_lead, ways_leads_of}
use Rattle.ecd_uses.specs.Listed.{lead_in, operated_lead, way_listed_leads, operated_sites, choices_listed, way_listed, named_sites}
use Rattle.ecd_uses.specs.Sites.{are_several, is_keyed, type_asked, parenthesis, entry_sites, key_sites, type_sites, choice_sites, form_sites, group_sites}

-- ---- leads

abbrev pub EntryLead : Type 0
EntryLead = (entry : Entry) → lead_of entry ≡ entry_lead (out-Entry entry).occur (out-Entry entry).key (type_lead (out-Entry entry).body)

abbrev pub TypeLead : Type 0
TypeLead = (alts : Alts) → type_lead alts ≡ only_or leads.Type (map choice_lead (out-Alts alts).choices)

abbrev pub ChoiceLead : Type 0
ChoiceLead = (choice : Type1) → choice_lead choice ≡ operated_lead (out-Type1 choice).left (out-Type1 choice).op

abbrev pub GroupLead : Type 0
GroupLead = (group : GroupTree) → ways_leads_of group ≡ map way_listed_leads (out-GroupTree group).ways

-- A name or a parenthesis leads on.
abbrev pub NamedLead : Type 0
NamedLead = (name : Name) (args : List Type1) → form_lead (f.Named name args) ≡ leads.Named name

abbrev pub ParenthesisLead : Type 0
ParenthesisLead = (group : GroupTree) → form_lead (f.Paren group) ≡ lead_in group

-- Every other form is a type.
abbrev pub OtherLeads : Type 0
OtherLeads =
    ((value : Literal) → form_lead (f.Lit value) ≡ leads.Type)
    × ((group : GroupTree) → form_lead (f.MapOf group) ≡ leads.Type)
    × ((group : GroupTree) → form_lead (f.ArrayOf group) ≡ leads.Type)
    × ((name : Name) (args : List Type1) → form_lead (f.Unwrap name args) ≡ leads.Type)
    × ((group : GroupTree) → form_lead (f.Enum group) ≡ leads.Type)
    × ((name : Name) (args : List Type1) → form_lead (f.EnumName name args) ≡ leads.Type)
    × ((number : Bound) (body : Alts) → form_lead (f.Tagged number body) ≡ leads.Type)
    × ((major : Option ℕ) (arg : Bound) → form_lead (f.Hash major arg) ≡ leads.Type)

-- ---- sites

abbrev pub EntrySites : Type 0
EntrySites = (asked : Bool) (entry : Entry) → entry_sites asked entry ≡ key_sites (out-Entry entry).key ++ type_sites (asked || is_keyed (out-Entry entry).key) (out-Entry entry).body

abbrev pub KeySites : Type 0
KeySites =
    (key_sites k.Missing ≡ [])
    × ((key : Type1) (cut : Bool) → key_sites (k.Arrow key cut) ≡ choice_sites true key)
    × ((word : Name) → key_sites (k.Word word) ≡ [])
    × ((at : ℕ) (value : Literal) → key_sites (k.Lit at value) ≡ [])

abbrev pub TypeSites : Type 0
TypeSites = (asked : Bool) (alts : Alts) → type_sites asked alts ≡ choices_listed (asked || are_several (out-Alts alts).choices) (out-Alts alts).choices

abbrev pub ChoiceSites : Type 0
ChoiceSites = (asked : Bool) (choice : Type1) → choice_sites asked choice ≡ operated_sites asked (out-Type1 choice).left (out-Type1 choice).op

abbrev pub ValueSites : Type 0
ValueSites = (asked : Bool) (at : ℕ) (value : Literal) → form_sites asked at (f.Lit value) ≡ []

abbrev pub NamedSites : Type 0
NamedSites = (asked : Bool) (at : ℕ) (name : Name) (args : List Type1) → form_sites asked at (f.Named name args) ≡ named_sites (type_asked asked) name args

abbrev pub ParenthesisSites : Type 0
ParenthesisSites = (asked : Bool) (at : ℕ) (group : GroupTree) → form_sites asked at (f.Paren group) ≡ parenthesis asked at (lead_in group) ++ group_sites group

abbrev pub MapSites : Type 0
MapSites = (asked : Bool) (at : ℕ) (group : GroupTree) → form_sites asked at (f.MapOf group) ≡ group_sites group

abbrev pub ArraySites : Type 0
ArraySites = (asked : Bool) (at : ℕ) (group : GroupTree) → form_sites asked at (f.ArrayOf group) ≡ group_sites group

abbrev pub UnwrapSites : Type 0
UnwrapSites = (asked : Bool) (at : ℕ) (name : Name) (args : List Type1) → form_sites asked at (f.Unwrap name args) ≡ named_sites AType name args

abbrev pub EnumSites : Type 0
EnumSites = (asked : Bool) (at : ℕ) (group : GroupTree) → form_sites asked at (f.Enum group) ≡ group_sites group

abbrev pub EnumNameSites : Type 0
EnumNameSites = (asked : Bool) (at : ℕ) (name : Name) (args : List Type1) → form_sites asked at (f.EnumName name args) ≡ named_sites AGroup name args

abbrev pub TagSites : Type 0
TagSites = (asked : Bool) (at : ℕ) (number : Bound) (body : Alts) → form_sites asked at (f.Tagged number body) ≡ type_sites true body

abbrev pub HashSites : Type 0
HashSites = (asked : Bool) (at : ℕ) (major : Option ℕ) (arg : Bound) → form_sites asked at (f.Hash major arg) ≡ []

abbrev pub GroupSites : Type 0
GroupSites = (group : GroupTree) → group_sites group ≡ flat_map way_listed (out-GroupTree group).ways
