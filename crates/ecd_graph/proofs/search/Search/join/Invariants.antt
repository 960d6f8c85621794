use Rattle.std.proofs.Common.{◌≡◌, length}
use Rattle.ecd_graph.specs.Searches.{IsHeld, LeadsBack}
use Rattle.ecd_graph.proofs.search.Search.join.Given as goal

abbrev pub invariant-loop-root : goal.invariant-loop-root
invariant-loop-root l = record {
  held : IsHeld l.self;
  back : LeadsBack l.self l.place;
  edges_are : l.self.edges.now ≡ l.fn.self.edges.now;
  previous_are : l.self.previous.items ≡ l.fn.self.previous.items;
  marks_are : l.self.marks.items ≡ l.fn.self.marks.items;
  cursors_are : l.self.cursors.items ≡ l.fn.self.cursors.items;
  pending_are : l.self.pending.items ≡ l.fn.self.pending.items;
  path_is : l.self.path.items ≡ l.fn.self.path.items;
  count_is : l.self.count ≡ l.fn.self.count;
}

abbrev pub decreases-loop-root : goal.decreases-loop-root
decreases-loop-root l = length l.self.roots.items
