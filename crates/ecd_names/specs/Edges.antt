-- The graph of names: a node for each name that has a rule, by the number of its first rule, and an edge for each use.
use Rattle.std.specs.Prelude.{ℕ, ◌≡◌, if◌then◌else◌, List, [], flat_map, length, Option}
use Rattle.ecd_graph.specs.declared.edge.Edge.{Edge}
use Rattle.ecd_graph.specs.Graphs.{NumbersComponents, AreInOrder}
use Rattle.ecd_syntax.specs.declared.tree.Rule.{Rule}
use Rattle.ecd_uses.specs.declared.site.Site.{Site}
use Rattle.ecd_uses.specs.declared.site.Site.TheVariants.{Use, Parenthesis}
use Rattle.ecd_uses.specs.Sites.{sites_of}
use Rattle.ecd_graph.specs.Edges.{edge_between}
use Rattle.ecd_bodies.specs.Named.{all_rules, first_of, is_parameter}

-- a use of a name leads to the node of the name; a parameter leads nowhere
abbrev pub site_edges : (List ℕ → Option ℕ) → Rule → Site → List Edge
site_edges node rule (Use name args asked) = if is_parameter rule.params name.text then [] else edge_between (node rule.name.text) (node name.text)
site_edges node rule (Parenthesis at lead) = []

abbrev pub rule_edges : (List ℕ → Option ℕ) → Rule → List Edge
rule_edges node rule = flat_map (site_edges node rule) (sites_of rule)

-- the uses of all rules
abbrev pub edges_of : List Rule → List Edge
edges_of text = flat_map (rule_edges (first_of text)) (all_rules text)

-- the numbers of the strongly connected components, in reverse topological order: nodes have one number exactly where they reach each other, and no node reaches one of a greater number
pub record AreComponents (text : List Rule) (numbers : List ℕ) : Type 0 where
  pub each : length numbers ≡ length (all_rules text)
  pub components : NumbersComponents (length (all_rules text)) (edges_of text) numbers
  pub order : AreInOrder (length (all_rules text)) (edges_of text) numbers
