-- What makes names groups, as edges of a graph. The node of a name is the number of its first rule, and one node more, the source, makes a group by itself.
use Rattle.std.specs.Prelude.{◌≡◌, ◌↔◌, ℕ, Bool, true, false, if◌then◌else◌, List, Option, Some, None, get_or}
use Rattle.ecd_graph.specs.declared.edge.Edge.{Edge}
use Rattle.ecd_syntax.specs.declared.tree.Assign.{Assign}
use Rattle.ecd_syntax.specs.declared.tree.Assign.TheVariants.{Define, TypeMore, GroupMore}
use Rattle.ecd_syntax.specs.declared.tree.Name.{Name}
use Rattle.ecd_syntax.specs.declared.tree.Rule.{Rule}
use Rattle.ecd_uses.specs.declared.site.Lead.{Lead}
use Rattle.ecd_uses.specs.declared.site.Lead.TheVariants as leads
use Rattle.ecd_uses.specs.Leads.{lead_of}
use Rattle.ecd_bodies.specs.Named.{is_parameter}
use Rattle.ecd_prelude.specs.Sockets.{is_socket, is_group_socket}
use Rattle.ecd_bodies.specs.Kinds.{IsGroup}
use Rattle.ecd_graph.specs.Edges.{edge_between}

abbrev pub is_group_more : Assign → Bool
is_group_more Define = false
is_group_more TypeMore = false
is_group_more GroupMore = true

-- the node of a used name: that of its first rule, or the source for a socket of a group without a rule
abbrev pub node_or_source : ℕ → List ℕ → Option ℕ → Option ℕ
node_or_source source name (Some node) = Some node
node_or_source source name None = if is_group_socket name then Some source else None

module _ (first : List ℕ → Option ℕ) (source : ℕ) where
  -- the node that makes a group of what has this lead, if any does
  abbrev pub lead_cause : List Name → Lead → Option ℕ
  lead_cause params leads.Group = Some source
  lead_cause params leads.Type = None
  lead_cause params (leads.Named name) = if is_parameter params name.text then None else node_or_source source name.text (first name.text)

  -- the node by which a rule makes its name a group, if any does
  abbrev pub rule_cause : Rule → Option ℕ
  rule_cause rule =
      if is_group_socket rule.name.text then Some source else
      if is_socket rule.name.text then None else
      if is_group_more rule.assign then Some source else
      lead_cause rule.params (lead_of rule.body)

  abbrev pub edges_of_rule : Rule → List Edge
  edges_of_rule rule = edge_between (rule_cause rule) (first rule.name.text)

-- the marks say of the node of each name whether it is a group
abbrev pub AreJudged : List Rule → (List ℕ → Option ℕ) → List Bool → Type 0
AreJudged text first marks = (name : List ℕ) (node : ℕ) → first name ≡ Some node → (get_or marks node false ≡ true) ↔ IsGroup text name
