-- The groups solve what defines them.
use Rattle.std.proofs.Common.{◌≡◌, ◌⊎◌, inl, inr, ℕ, zero, suc, true, false, List}
use Rattle.ecd_syntax.specs.declared.tree.Name.{Name}
use Rattle.ecd_syntax.specs.declared.tree.Rule.{Rule}
use Rattle.ecd_uses.specs.declared.site.Lead.{Lead}
use Rattle.ecd_uses.specs.declared.site.Lead.TheVariants as leads
use Rattle.ecd_uses.specs.Leads.{lead_of}
use Rattle.ecd_bodies.specs.Kinds.{LeadsToGroup, MakesGroup, HasGroupRule, GroupWithin, IsGroup}
use Rattle.ecd_bodies.specs.Laws.{GroupsByRules}
use Rattle.ecd_prelude.specs.Sockets.{is_socket, is_group_socket}

module _ (text : List Rule) where
  lead_shown : (steps : ℕ) (params : List Name) (lead : Lead) → LeadsToGroup (GroupWithin text steps) params lead → LeadsToGroup (IsGroup text) params lead
  lead_shown steps params leads.Group h = tt
  lead_shown steps params leads.Type h = absurd h
  lead_shown steps params (leads.Named name) h = (h.0, record { steps = steps; shown = h.1 })

  lead_within : (params : List Name) (lead : Lead) → LeadsToGroup (IsGroup text) params lead → (steps : ℕ) × LeadsToGroup (GroupWithin text steps) params lead
  lead_within params leads.Group h = (0, tt)
  lead_within params leads.Type h = absurd h
  lead_within params (leads.Named name) h = (h.1.steps, (h.0, h.1.shown))

  shown : (steps : ℕ) (name : List ℕ) → GroupWithin text steps name → (is_group_socket name ≡ true) ⊎ ((is_socket name ≡ false) × HasGroupRule (IsGroup text) text name)
  shown zero name h = absurd h
  shown (suc steps) name (inl s) = inl s
  shown (suc steps) name (inr h) = let g = h.1 in inr (h.0, record { rule = g.rule; among = g.among; named = g.named; makes = by g.rule g.makes })
    where
      by : (rule : Rule) → MakesGroup (GroupWithin text steps) rule → MakesGroup (IsGroup text) rule
      by rule (inl more) = inl more
      by rule (inr lead) = inr (lead_shown steps rule.params (lead_of rule.body) lead)

  makes_within : (rule : Rule) → MakesGroup (IsGroup text) rule → (steps : ℕ) × MakesGroup (GroupWithin text steps) rule
  makes_within rule (inl more) = (0, inl more)
  makes_within rule (inr lead) = let r = lead_within rule.params (lead_of rule.body) lead in (r.0, inr r.1)

  within : (name : List ℕ) → (is_group_socket name ≡ true) ⊎ ((is_socket name ≡ false) × HasGroupRule (IsGroup text) text name) → IsGroup text name
  within name (inl s) = record { steps = 1; shown = inl s }
  within name (inr h) =
      let g = h.1 in
      let m = makes_within g.rule g.makes in
      record { steps = suc m.0; shown = inr (h.0, record { rule = g.rule; among = g.among; named = g.named; makes = m.1 }) }

pub groups_by_rules : GroupsByRules
groups_by_rules text name = (λ g. shown text g.steps name g.shown, within text name)
