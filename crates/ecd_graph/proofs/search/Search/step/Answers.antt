use Rattle.std.proofs.Common.{rules, sym, ◌∙◌, ◌≡◌, ◌<◌, ap, length, suc, arith}
use Rattle.ecd_graph.specs.Searches.{mark}
use Rattle.ecd_graph.proofs.Reaching.{read_slot}
use Rattle.ecd_graph.proofs.Completing.{open_within}
use Rattle.ecd_graph.proofs.search.Search.step.Goals as goal

pub index-requires : goal.index-requires
index-requires c =
    let s = c.args.self.now in
    let t = c.requires.top in
    let g = c.requires.held.goes t.last (let y = t.size in omega (arith, y)) in
    let seen : c.args.node < length s.marks.items = open_within s.marks.items c.args.node g.0 (ap (mark s.marks.items) (sym t.is) ∙ g.1) in
    let pointed = c.requires.held.pointed in
    let within : c.args.node < length s.cursors.items = omega (arith, seen, pointed) in
    search (rules, within)

pub follow-requires-clause-cursor : goal.follow-requires-clause-cursor
follow-requires-clause-cursor c =
    let s = c.args.self.now in
    let t = c.requires.top in
    let g = c.requires.held.goes t.last (let y = t.size in omega (arith, y)) in
    let seen : c.args.node < length s.marks.items = open_within s.marks.items c.args.node g.0 (ap (mark s.marks.items) (sym t.is) ∙ g.1) in
    let pointed = c.requires.held.pointed in
    let within : c.args.node < length s.cursors.items = omega (arith, seen, pointed) in
    let read = read_slot s.cursors.items c.args.node c.index.result.now within c.index.ensures in
    let one : c.index.result.now ≡ suc c.in-Some.edge = search rules in
    read ∙ one
