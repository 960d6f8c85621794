use Rattle.std.proofs.Common.{rules, sym, ◌∙◌, ◌≡◌, ◌≤◌, ◌<◌, ℕ, ap, subst, length, suc, List, arith}
use Rattle.std.specs.Prelude.{slice_get}
use Rattle.std.proofs.lemmas.Option.{slice_get_within, get_or_from_slice_get}
use Rattle.ecd_graph.specs.declared.edge.Edge.{Edge}
use Rattle.ecd_graph.specs.Chains.{IsLast}
use Rattle.ecd_graph.specs.Searches.{slot, IsBehind, total}
use Rattle.ecd_graph.proofs.Reaching.{read_slot}
use Rattle.ecd_graph.proofs.Following.{advanced}
use Rattle.ecd_graph.proofs.Completing.{total_set, open_within}
use Rattle.ecd_graph.proofs.search.Search.follow.Goals as goal

pub bounds-self-edge : goal.bounds-self-edge
bounds-self-edge c =
    let f = c.requires.held.leads c.args.node c.args.edge c.requires.cursor in
    slice_get_within c.args.self.now.edges.now c.args.edge f.edge f.stands

pub meet-requires-clause-among : goal.meet-requires-clause-among
meet-requires-clause-among c =
    let s = c.args.self.now in
    let f = c.requires.held.leads c.args.node c.args.edge c.requires.cursor in
    let read = get_or_from_slice_get s.edges.now c.args.edge f.edge (record { from = 0; to = 0 }) f.stands in
    subst (λ (x : Edge). x.to < length s.marks.items) (sym read) (c.requires.sound.among c.args.edge f.edge f.stands).1

pub meet-requires-clause-leads : goal.meet-requires-clause-leads
meet-requires-clause-leads c =
    let s = c.args.self.now in
    let t = c.requires.top in
    let f = c.requires.held.leads c.args.node c.args.edge c.requires.cursor in
    let read = get_or_from_slice_get s.edges.now c.args.edge f.edge (record { from = 0; to = 0 }) f.stands in
    let g = c.requires.held.goes t.last (let y = t.size in omega (arith, y)) in
    record {
      last = t.last;
      place = g.0;
      number = c.args.edge;
      edge = f.edge;
      size = t.size;
      at_top = g.1;
      stands = f.stands;
      from = f.from ∙ sym t.is;
      to = ap (λ (x : Edge). x.to) (sym read);
    }

pub index-requires : goal.index-requires
index-requires c =
    let s = c.args.self.now in
    let f = c.requires.held.leads c.args.node c.args.edge c.requires.cursor in
    let within = slice_get_within s.edges.now c.args.edge f.edge f.stands in
    let t = c.in_ok-meet.ensures.stays in
    let many : length c.meet.new.self.previous.items ≡ length s.edges.now = ap length t.previous ∙ c.requires.sound.each in
    let small : c.args.edge < length c.meet.new.self.previous.items = omega (arith, many, within) in
    search (rules, small)

pub returns-clause-held : goal.returns-clause-held
returns-clause-held c =
    let s = c.args.self.now in
    let f = c.requires.held.leads c.args.node c.args.edge c.requires.cursor in
    let within = slice_get_within s.edges.now c.args.edge f.edge f.stands in
    let t = c.in_ok-meet.ensures.stays in
    let m = c.in_ok-meet.ensures.met in
    let many : length c.meet.new.self.previous.items ≡ length s.edges.now = ap length t.previous ∙ c.requires.sound.each in
    let small : c.args.edge < length c.meet.new.self.previous.items = omega (arith, many, within) in
    let link : slot c.meet.new.self.previous.items c.args.edge ≡ c.index.result.now = read_slot c.meet.new.self.previous.items c.args.edge c.index.result.now small (search rules) in
    let old_link : slot s.previous.items c.args.edge ≡ c.index.result.now = ap (λ (ps : List ℕ). slot ps c.args.edge) (sym t.previous) ∙ link in
    let last : IsLast s.edges.now f.edge.from c.args.edge (slot s.previous.items c.args.edge) = c.requires.sound.previous c.args.edge f.edge f.stands (let e = c.requires.sound.each in omega (arith, within, e)) in
    let seen : c.args.node < length c.meet.new.self.marks.items = open_within c.meet.new.self.marks.items c.args.node m.place m.is_open in
    let pointed = c.in_ok-meet.ensures.held.pointed in
    let among : c.args.node < length c.meet.new.self.cursors.items = omega (arith, seen, pointed) in
    let cursor : slot c.meet.new.self.cursors.items c.args.node ≡ suc c.args.edge = ap (λ (cs : List ℕ). slot cs c.args.node) m.cursors ∙ c.requires.cursor in
    let before : IsLast s.edges.now c.args.node c.args.edge c.index.result.now = subst (λ (v : ℕ). IsLast s.edges.now v c.args.edge c.index.result.now) f.from (subst (λ (l : ℕ). IsLast s.edges.now f.edge.from c.args.edge l) old_link last) in
    let read = get_or_from_slice_get s.edges.now c.args.edge f.edge (record { from = 0; to = 0 }) f.stands in
    let behind : IsBehind c.meet.new.self.marks.items c.meet.new.self.roots.items m.place f.edge.to = subst (λ (x : Edge). IsBehind c.meet.new.self.marks.items c.meet.new.self.roots.items m.place x.to) read m.behind in
    advanced _ _ _ _ _ _ _ c.in_ok-meet.ensures.held c.args.node m.place c.args.edge c.index.result.now f.edge among m.is_open m.on cursor
    (ap (λ (es : List Edge). slice_get es c.args.edge) t.edges ∙ f.stands) behind (subst (λ (es : List Edge). IsLast es c.args.node c.args.edge c.index.result.now) (sym t.edges) before)

pub returns-clause-work : goal.returns-clause-work
returns-clause-work c =
    let s = c.args.self.now in
    let f = c.requires.held.leads c.args.node c.args.edge c.requires.cursor in
    let within = slice_get_within s.edges.now c.args.edge f.edge f.stands in
    let t = c.in_ok-meet.ensures.stays in
    let m = c.in_ok-meet.ensures.met in
    let many : length c.meet.new.self.previous.items ≡ length s.edges.now = ap length t.previous ∙ c.requires.sound.each in
    let small : c.args.edge < length c.meet.new.self.previous.items = omega (arith, many, within) in
    let link : slot c.meet.new.self.previous.items c.args.edge ≡ c.index.result.now = read_slot c.meet.new.self.previous.items c.args.edge c.index.result.now small (search rules) in
    let old_link : slot s.previous.items c.args.edge ≡ c.index.result.now = ap (λ (ps : List ℕ). slot ps c.args.edge) (sym t.previous) ∙ link in
    let last : IsLast s.edges.now f.edge.from c.args.edge (slot s.previous.items c.args.edge) = c.requires.sound.previous c.args.edge f.edge f.stands (let e = c.requires.sound.each in omega (arith, within, e)) in
    let seen : c.args.node < length c.meet.new.self.marks.items = open_within c.meet.new.self.marks.items c.args.node m.place m.is_open in
    let pointed = c.in_ok-meet.ensures.held.pointed in
    let among : c.args.node < length c.meet.new.self.cursors.items = omega (arith, seen, pointed) in
    let cursor : slot c.meet.new.self.cursors.items c.args.node ≡ suc c.args.edge = ap (λ (cs : List ℕ). slot cs c.args.node) m.cursors ∙ c.requires.cursor in
    let below : slot s.previous.items c.args.edge ≤ c.args.edge = last.below in
    let sum = total_set c.meet.new.self.cursors.items c.args.node c.index.result.now among in
    let same : total c.meet.new.self.cursors.items ≡ total s.cursors.items = ap total m.cursors in
    let path = m.path in
    omega (arith, below, old_link, sum, same, cursor, path)
