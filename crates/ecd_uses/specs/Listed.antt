-- The definitions over the lists of the source, by which code and the crates above cite them.
use Rattle.std.specs.Prelude.{Bool, true, false, List, ◌∷◌, ◌++◌, length, map, flat_map, Option, Some, None}
use Rattle.ecd_syntax.specs.declared.tree.Entry.{Entry}
use Rattle.ecd_syntax.specs.declared.tree.GroupTree.{GroupTree}
use Rattle.ecd_syntax.specs.declared.tree.Name.{Name}
use Rattle.ecd_syntax.specs.declared.tree.Operation.{Operation, out-Operation}
use Rattle.ecd_syntax.specs.declared.tree.Type1.{Type1}
use Rattle.ecd_syntax.specs.declared.tree.Type2.{Type2, out-Type2}
use Rattle.ecd_syntax.specs.declared.tree.WayTree.{WayTree, out-WayTree}
use Rattle.ecd_uses.specs.declared.site.Asked.{Asked}
use Rattle.ecd_uses.specs.declared.site.Lead.{Lead}
use Rattle.ecd_uses.specs.declared.site.Lead.TheVariants as leads
use Rattle.ecd_uses.specs.declared.site.Site.{Site}
use Rattle.ecd_uses.specs.declared.site.Site.TheVariants.{Use}
use Rattle.ecd_uses.specs.Leads.{group_lead, lead_of, form_lead, ways_leads_of}
use Rattle.ecd_uses.specs.Sites.{entry_sites, choice_sites, form_sites}

-- ---- leads

-- What decides, of a parenthesis that holds the group.
abbrev pub lead_in : GroupTree → Lead
lead_in group = group_lead (ways_leads_of group)

-- What decides, of the entries of a way.
abbrev pub way_listed_leads : WayTree → List Lead
way_listed_leads way = map lead_of (out-WayTree way).entries

abbrev pub operand_lead : Type2 → Lead
operand_lead operand = form_lead (out-Type2 operand).form

abbrev pub operated_lead : Type2 → Option Operation → Lead
operated_lead left None = operand_lead left
operated_lead left (Some operation) = leads.«Type»

-- ---- sites

abbrev pub operand_sites : Bool → Type2 → List Site
operand_sites asked operand = form_sites asked (out-Type2 operand).at (out-Type2 operand).form

abbrev pub operated_sites : Bool → Type2 → Option Operation → List Site
operated_sites asked left None = operand_sites asked left
operated_sites asked left (Some operation) = operand_sites true left ++ operand_sites true (out-Operation operation).right

abbrev pub choices_listed : Bool → List Type1 → List Site
choices_listed asked choices = flat_map (choice_sites asked) choices

abbrev pub entries_listed : List Entry → List Site
entries_listed entries = flat_map (entry_sites false) entries

abbrev pub way_listed : WayTree → List Site
way_listed way = entries_listed (out-WayTree way).entries

-- A name with arguments.
abbrev pub named_sites : Asked → Name → List Type1 → List Site
named_sites asked name args = Use name (length args) asked ∷ choices_listed true args
