use Rattle.std.proofs.Common.{◌≡◌, ◌≤◌, length, take}
use Rattle.ecd_graph.specs.Searches.{Numbers}
use Rattle.ecd_graph.proofs.search.Search.number_from.Given as goal

abbrev pub invariant-loop-self : goal.invariant-loop-self
invariant-loop-self l = record {
  edges_are : l.self.edges.now ≡ l.fn.self.edges.now;
  previous_are : l.self.previous.items ≡ l.fn.self.previous.items;
  nodes_are : length l.self.marks.items ≡ length l.fn.self.marks.items;
  cursors_are : l.self.cursors.items ≡ l.fn.self.cursors.items;
  roots_are : l.self.roots.items ≡ l.fn.self.roots.items;
  path_is : l.self.path.items ≡ l.fn.self.path.items;
  count_is : l.self.count ≡ l.fn.self.count;
  within : length l.self.pending.items ≤ length l.fn.self.pending.items;
  left : l.self.pending.items ≡ take (length l.self.pending.items) l.fn.self.pending.items;
  not_before : l.place ≤ length l.self.pending.items;
  numbers : Numbers l.fn.self.marks.items l.self.marks.items (length l.self.pending.items) l.fn.self.count;
}

abbrev pub decreases-loop-self : goal.decreases-loop-self
decreases-loop-self l = length l.self.pending.items
