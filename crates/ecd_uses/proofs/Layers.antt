-- The definitions by cases, over the lists of the source.
use Rattle.std.proofs.Common.{◌≡◌, ℕ, Bool, true, false, ◌||◌, List, ◌∷◌, ◌++◌, length, map, Option, Some, None, refl, ap, sym, ◌∙◌, rules}
use Rattle.std.specs.Prelude.{flat_map}
use mathlib.Core.Former.{Count}
use Rattle.ecd_syntax.specs.declared.tree.Alts.{Alts, Alts', Row_of-Type1, end_of-Type1, more_of-Type1, items-the_row-Type1, items_hidden-the_row-Type1-0, out-Alts}
use Rattle.ecd_syntax.specs.declared.tree.Entry.{Entry', out-Entry}
use Rattle.ecd_syntax.specs.declared.tree.Form.{Form, the_lemmas}
use Rattle.ecd_syntax.specs.declared.tree.Form.TheVariants as f
use Rattle.ecd_syntax.specs.declared.tree.Form.TheBlock as block
use Rattle.ecd_syntax.specs.declared.tree.GroupTree.{GroupTree, GroupTree', Row_of-WayTree, end_of-WayTree, more_of-WayTree, items-the_row-WayTree, out-GroupTree}
use Rattle.ecd_syntax.specs.declared.tree.Key.{Key}
use Rattle.ecd_lex.specs.declared.token.Bound.{Bound}
use Rattle.ecd_syntax.specs.declared.tree.Literal.{Literal}
use Rattle.ecd_syntax.specs.declared.tree.Name.{Name}
use Rattle.ecd_syntax.specs.declared.tree.Occur.{Occur}
use Rattle.ecd_syntax.specs.declared.tree.Type1.{Type1, Type1', None', Some', out-Type1}
use Rattle.ecd_syntax.specs.declared.tree.WayTree.{WayTree, WayTree', Row_of-Entry, end_of-Entry, more_of-Entry, items-the_row-Entry, out-WayTree}
use Rattle.ecd_uses.specs.declared.site.Lead.{Lead}
use Rattle.ecd_uses.specs.declared.site.Lead.TheVariants as leads
use Rattle.ecd_uses.specs.declared.site.Site.{Site}
use Rattle.ecd_uses.specs.declared.site.Site.TheVariants.{Use}
use Rattle.ecd_uses.specs.declared.site.Asked.TheVariants.{AType, AGroup}
use Rattle.ecd_syntax.specs.declared.tree.OpKind.{OpKind}
use Rattle.ecd_uses.specs.Leads.{entry_lead, only_or, lead_of, type_lead, choices_leads, choice_lead, form_lead, ways_leads, way_leads, entries_leads}
use Rattle.ecd_uses.specs.Sites.{entry_sites, type_sites, choices_sites, choice_sites, ways_sites, way_sites, entries_sites, type_asked, are_several, is_keyed, key_sites}
use Rattle.ecd_uses.specs.Listed.{operated_lead, way_listed_leads, operated_sites, choices_listed, entries_listed, way_listed, named_sites}
use Rattle.ecd_uses.specs.Laws.{EntryLead, TypeLead, ChoiceLead, GroupLead, NamedLead, ParenthesisLead, OtherLeads, EntrySites, KeySites, TypeSites, ChoiceSites, ValueSites, NamedSites, ParenthesisSites, MapSites, ArraySites, UnwrapSites, EnumSites, EnumNameSites, TagSites, HashSites, GroupSites}
use Rattle.ecd_uses.specs.declared.site.Asked.{Asked}

-- ---- what stands where in a row's owner

alts-out : (at : ℕ) (s : List (Unit {0})) (r : _) → out-Alts (Alts' at s r) ≡ record { at = at; choices = items-the_row-Type1 _ r }
alts-out at s r = search (rules, the_lemmas)

entry-out : (at : ℕ) (o : Option Occur) (k : Key) (b : Alts) → out-Entry (Entry' at o k b) ≡ record { at = at; occur = o; key = k; body = b }
entry-out at o k b = search (rules, the_lemmas)

way-out : (at : ℕ) (s : List (Unit {0})) (r : _) → out-WayTree (WayTree' at s r) ≡ record { at = at; entries = items-the_row-Entry _ r }
way-out at s r = search (rules, the_lemmas)

group-out : (at : ℕ) (s : List (Unit {0})) (r : _) → out-GroupTree (GroupTree' at s r) ≡ record { at = at; ways = items-the_row-WayTree _ r }
group-out at s r = search (rules, the_lemmas)

alone-out : (at left_at : ℕ) (left : Form) → out-Type1 (Type1' at left_at left None') ≡ record { at = at; left = record { at = left_at; form = left }; op = None }
alone-out at left_at left = search (rules, the_lemmas)

operated-out : (at left_at op_at right_at : ℕ) (left right : Form) (kind : OpKind) →
    out-Type1 (Type1' at left_at left (Some' op_at kind right_at right)) ≡ record { at = at; left = record { at = left_at; form = left }; op = Some (record { at = op_at; kind = kind; right = record { at = right_at; form = right } }) }
operated-out at left_at op_at right_at left right kind = search (rules, the_lemmas)

-- ---- leads: rows are lists

choices-leads-row : {n : Count} (row : Row_of-Type1 n) → choices_leads row ≡ map choice_lead (items-the_row-Type1 n row)
unfolding lead_of
choices-leads-row end_of-Type1 = refl
choices-leads-row (more_of-Type1 choice rest) = ap (λ (x : List Lead). choice_lead choice ∷ x) (choices-leads-row rest)

entries-leads-row : {n : Count} (row : Row_of-Entry n) → entries_leads row ≡ map lead_of (items-the_row-Entry n row)
unfolding lead_of
entries-leads-row end_of-Entry = refl
entries-leads-row (more_of-Entry entry rest) = ap (λ (x : List Lead). lead_of entry ∷ x) (entries-leads-row rest)

way-leads : (way : WayTree) → way_leads way ≡ way_listed_leads way
unfolding lead_of
way-leads (WayTree' at s entries) = entries-leads-row entries ∙ sym (ap (λ x. map lead_of x.entries) (way-out at s entries))

ways-leads-row : {n : Count} (row : Row_of-WayTree n) → ways_leads row ≡ map way_listed_leads (items-the_row-WayTree n row)
unfolding lead_of
ways-leads-row end_of-WayTree = refl
ways-leads-row (more_of-WayTree way rest) = let own = way-leads way in let others = ways-leads-row rest in λ j. own j ∷ others j

-- ---- leads

pub entry-lead : EntryLead
unfolding lead_of
entry-lead (Entry' at occur key body) = sym (ap (λ x. entry_lead x.occur x.key (type_lead x.body)) (entry-out at occur key body))

pub type-lead : TypeLead
unfolding lead_of
type-lead (Alts' at s choices) = ap (only_or leads.Type) (choices-leads-row choices) ∙ sym (ap (λ x. only_or leads.Type (map choice_lead x.choices)) (alts-out at s choices))

pub choice-lead : ChoiceLead
unfolding lead_of
choice-lead (Type1' at left_at left None') = sym (ap (λ x. operated_lead x.left x.op) (alone-out at left_at left))
choice-lead (Type1' at left_at left (Some' op_at kind right_at right)) = sym (ap (λ x. operated_lead x.left x.op) (operated-out at left_at op_at right_at left right kind))

pub group-lead : GroupLead
unfolding lead_of
group-lead (GroupTree' at s ways) = ways-leads-row ways ∙ sym (ap (λ x. map way_listed_leads x.ways) (group-out at s ways))

pub named-lead : NamedLead
unfolding lead_of
named-lead name args = refl

pub parenthesis-lead : ParenthesisLead
unfolding lead_of
parenthesis-lead group = refl

pub value-lead : (value : Literal) → form_lead (f.Lit value) ≡ leads.Type
unfolding lead_of
value-lead value = refl

pub map-lead : (group : GroupTree) → form_lead (f.MapOf group) ≡ leads.Type
unfolding lead_of
map-lead group = refl

pub array-lead : (group : GroupTree) → form_lead (f.ArrayOf group) ≡ leads.Type
unfolding lead_of
array-lead group = refl

pub unwrap-lead : (name : Name) (args : List Type1) → form_lead (f.Unwrap name args) ≡ leads.Type
unfolding lead_of
unwrap-lead name args = refl

pub enum-lead : (group : GroupTree) → form_lead (f.Enum group) ≡ leads.Type
unfolding lead_of
enum-lead group = refl

pub enum_name-lead : (name : Name) (args : List Type1) → form_lead (f.EnumName name args) ≡ leads.Type
unfolding lead_of
enum_name-lead name args = refl

pub tag-lead : (number : Bound) (body : Alts) → form_lead (f.Tagged number body) ≡ leads.Type
unfolding lead_of
tag-lead number body = refl

pub hash-lead : (major : Option ℕ) (arg : Bound) → form_lead (f.Hash major arg) ≡ leads.Type
unfolding lead_of
hash-lead major arg = refl

pub other-leads : OtherLeads
other-leads = (value-lead, map-lead, array-lead, unwrap-lead, enum-lead, enum_name-lead, tag-lead, hash-lead)

-- ---- sites: rows are lists

choices-row : {n : Count} (asked : Bool) (row : Row_of-Type1 n) → choices_sites asked row ≡ choices_listed asked (items-the_row-Type1 n row)
unfolding entry_sites
choices-row asked end_of-Type1 = refl
choices-row asked (more_of-Type1 choice rest) = ap (λ (x : List Site). choice_sites asked choice ++ x) (choices-row asked rest)

entries-row : {n : Count} (row : Row_of-Entry n) → entries_sites row ≡ entries_listed (items-the_row-Entry n row)
unfolding entry_sites
entries-row end_of-Entry = refl
entries-row (more_of-Entry entry rest) = ap (λ (x : List Site). entry_sites false entry ++ x) (entries-row rest)

way-sites : (way : WayTree) → way_sites way ≡ way_listed way
unfolding entry_sites
way-sites (WayTree' at s entries) = entries-row entries ∙ sym (ap (λ x. entries_listed x.entries) (way-out at s entries))

ways-row : {n : Count} (row : Row_of-WayTree n) → ways_sites row ≡ flat_map way_listed (items-the_row-WayTree n row)
unfolding entry_sites
ways-row end_of-WayTree = refl
ways-row (more_of-WayTree way rest) = let own = way-sites way in let others = ways-row rest in λ j. own j ++ others j

args-sites : (asked : Asked) (name : Name) (args : List Type1) →
    Use name (length (items-the_row-Type1 _ (block.hidden-the_row-Type1-0 args))) asked ∷ choices_sites true (block.hidden-the_row-Type1-0 args) ≡ named_sites asked name args
args-sites asked name args =
    ap (λ (x : List Site). Use name (length (items-the_row-Type1 _ (block.hidden-the_row-Type1-0 args))) asked ∷ x) (choices-row true (block.hidden-the_row-Type1-0 args))
    ∙ ap (named_sites asked name) (items_hidden-the_row-Type1-0 args)

-- ---- sites

pub entry-sites : EntrySites
unfolding entry_sites
entry-sites asked (Entry' at occur key body) = sym (ap (λ x. key_sites x.key ++ type_sites (asked || is_keyed x.key) x.body) (entry-out at occur key body))

pub key-sites : KeySites
unfolding entry_sites
key-sites = (refl, λ key cut. refl, λ word. refl, λ at value. refl)

pub type-sites : TypeSites
unfolding entry_sites
type-sites asked (Alts' at s choices) =
    choices-row (asked || are_several (items-the_row-Type1 _ choices)) choices
    ∙ sym (ap (λ x. choices_listed (asked || are_several x.choices) x.choices) (alts-out at s choices))

pub choice-sites : ChoiceSites
unfolding entry_sites
choice-sites asked (Type1' at left_at left None') = sym (ap (λ x. operated_sites asked x.left x.op) (alone-out at left_at left))
choice-sites asked (Type1' at left_at left (Some' op_at kind right_at right)) = sym (ap (λ x. operated_sites asked x.left x.op) (operated-out at left_at op_at right_at left right kind))

pub value-sites : ValueSites
unfolding entry_sites
value-sites asked at value = refl

pub named-sites : NamedSites
unfolding entry_sites
named-sites asked at name args = args-sites (type_asked asked) name args

pub parenthesis-sites : ParenthesisSites
unfolding entry_sites
parenthesis-sites asked at group = refl

pub map-sites : MapSites
unfolding entry_sites
map-sites asked at group = refl

pub array-sites : ArraySites
unfolding entry_sites
array-sites asked at group = refl

pub unwrap-sites : UnwrapSites
unfolding entry_sites
unwrap-sites asked at name args = args-sites AType name args

pub enum-sites : EnumSites
unfolding entry_sites
enum-sites asked at group = refl

pub enum_name-sites : EnumNameSites
unfolding entry_sites
enum_name-sites asked at name args = args-sites AGroup name args

pub tag-sites : TagSites
unfolding entry_sites
tag-sites asked at number body = refl

pub hash-sites : HashSites
unfolding entry_sites
hash-sites asked at major arg = refl

pub group-sites : GroupSites
unfolding entry_sites
group-sites (GroupTree' at s ways) = ways-row ways ∙ sym (ap (λ x. flat_map way_listed x.ways) (group-out at s ways))
