use Rattle.ecd_uses.proofs.Layers.{entry-lead, type-lead, choice-lead, group-lead, named-lead, parenthesis-lead, other-leads}
use Rattle.ecd_uses.proofs.laws.leads_over_lists.Goals as goal

pub returns : goal.returns
returns c = record { entry = entry-lead; alts = type-lead; choice = choice-lead; group = group-lead; named = named-lead; parenthesis = parenthesis-lead; others = other-leads }
