use Rattle.std.proofs.Common.{rules, refl, sym, ◌∙◌, ◌≡◌, ◌<◌, ℕ, suc, ap, subst, length, List, get_or, arith}
use Rattle.std.specs.Prelude.{slice_get, Some}
use Rattle.std.proofs.lemmas.Option.{slice_get_within, get_or_from_slice_get}
use Rattle.ecd_graph.specs.declared.edge.Edge.{Edge}
use Rattle.ecd_graph.specs.Graphs.{IsMarked, IsReached}
use Rattle.ecd_graph.specs.Chains.{IsLast}
use Rattle.ecd_graph.specs.Searches.{slot}
use Rattle.ecd_graph.specs.Spreads.{IsSpread}
use Rattle.ecd_graph.proofs.Reaching.{read_slot}
use Rattle.ecd_graph.proofs.Spreading.{marked_within, closed_from, reached_over, linked_on, spreads_on, spread_closed}
use Rattle.ecd_graph.proofs.spread.Spread.follow_all.Goals as goal

pub loop-edge-init : goal.loop-edge-init
loop-edge-init c =
    let s = c.args.self.now in
    let h = c.requires.held in
    let k = c.requires.linked in
    let node : c.args.node < length s.marked.now = let w = marked_within s.reached.items c.args.node c.requires.reached in let n = h.nodes in omega (arith, w, n) in
    let within : c.args.node < length s.last.items = let l = k.lasts in omega (arith, node, l) in
    let link : slot s.last.items c.args.node ≡ c.index-link.result.now = read_slot s.last.items c.args.node c.index-link.result.now within c.index-link.ensures in
    let last : IsLast s.edges.now c.args.node (length s.edges.now) c.index-link.result.now = subst (λ (l : ℕ). IsLast s.edges.now c.args.node (length s.edges.now) l) link (k.last c.args.node node) in
    record {
      held = spread_closed s c.args.node (length s.edges.now) c.index-link.result.now h
          (closed_from s.edges.now s.reached.items s.pending.items c.args.node (length s.edges.now) (length s.edges.now) c.index-link.result.now h.closed last (λ e x there from le lt. absurd (omega (arith, le, lt))));
      linked = k;
      spreads = record { edges = refl; marked = refl; last = refl; previous = refl; stays = λ v m. m };
      reached = c.requires.reached;
      leads = last.leads;
      work = omega arith;
    }

pub bounds-self-edge : goal.bounds-self-edge
bounds-self-edge c =
    let h = c.loop-edge.invariant in
    let s = c.loop-edge.self in
    let one : c.loop-edge.link ≡ suc c.in-Some.edge = search rules in
    let f = h.leads c.in-Some.edge one in
    let within : c.in-Some.edge < length s.edges.now = slice_get_within s.edges.now c.in-Some.edge f.edge f.stands in
    let read : get_or s.edges.now c.in-Some.edge (record { from = 0; to = 0 }) ≡ f.edge = get_or_from_slice_get s.edges.now c.in-Some.edge f.edge (record { from = 0; to = 0 }) f.stands in
    within

pub reach-requires-clause-among : goal.reach-requires-clause-among
reach-requires-clause-among c =
    let h = c.loop-edge.invariant in
    let s = c.loop-edge.self in
    let one : c.loop-edge.link ≡ suc c.in-Some.edge = search rules in
    let f = h.leads c.in-Some.edge one in
    let within : c.in-Some.edge < length s.edges.now = slice_get_within s.edges.now c.in-Some.edge f.edge f.stands in
    let read : get_or s.edges.now c.in-Some.edge (record { from = 0; to = 0 }) ≡ f.edge = get_or_from_slice_get s.edges.now c.in-Some.edge f.edge (record { from = 0; to = 0 }) f.stands in
    let lt : f.edge.to < length s.marked.now = (h.linked.among c.in-Some.edge f.edge f.stands).1 in
    let nodes = h.held.nodes in
    subst (λ (x : Edge). x.to < length s.reached.items) (sym read) (omega (arith, lt, nodes))

pub reach-requires-clause-reached : goal.reach-requires-clause-reached
reach-requires-clause-reached c =
    let h = c.loop-edge.invariant in
    let s = c.loop-edge.self in
    let one : c.loop-edge.link ≡ suc c.in-Some.edge = search rules in
    let f = h.leads c.in-Some.edge one in
    let within : c.in-Some.edge < length s.edges.now = slice_get_within s.edges.now c.in-Some.edge f.edge f.stands in
    let read : get_or s.edges.now c.in-Some.edge (record { from = 0; to = 0 }) ≡ f.edge = get_or_from_slice_get s.edges.now c.in-Some.edge f.edge (record { from = 0; to = 0 }) f.stands in
    subst (λ (x : Edge). IsReached s.edges.now s.marked.now x.to) (sym read) (reached_over s.edges.now s.marked.now c.args.node c.in-Some.edge f.edge f.stands f.from (h.held.sound c.args.node h.reached))

pub index-link-requires-in-Some : goal.index-link-requires-in-Some
index-link-requires-in-Some c =
    let h = c.loop-edge.invariant in
    let s = c.loop-edge.self in
    let one : c.loop-edge.link ≡ suc c.in-Some.edge = search rules in
    let f = h.leads c.in-Some.edge one in
    let within : c.in-Some.edge < length s.edges.now = slice_get_within s.edges.now c.in-Some.edge f.edge f.stands in
    let read : get_or s.edges.now c.in-Some.edge (record { from = 0; to = 0 }) ≡ f.edge = get_or_from_slice_get s.edges.now c.in-Some.edge f.edge (record { from = 0; to = 0 }) f.stands in
    let e = c.in_ok-reach.ensures in
    let n = c.reach.new.self in
    let many : length n.previous.items ≡ length s.edges.now = ap length e.spreads.previous ∙ h.linked.each in
    let small : c.in-Some.edge < length n.previous.items = omega (arith, many, within) in
    search (rules, small)

pub loop-edge-smaller : goal.loop-edge-smaller
loop-edge-smaller c =
    let h = c.loop-edge.invariant in
    let s = c.loop-edge.self in
    let one : c.loop-edge.link ≡ suc c.in-Some.edge = search rules in
    let f = h.leads c.in-Some.edge one in
    let within : c.in-Some.edge < length s.edges.now = slice_get_within s.edges.now c.in-Some.edge f.edge f.stands in
    let read : get_or s.edges.now c.in-Some.edge (record { from = 0; to = 0 }) ≡ f.edge = get_or_from_slice_get s.edges.now c.in-Some.edge f.edge (record { from = 0; to = 0 }) f.stands in
    let e = c.in_ok-reach.ensures in
    let n = c.reach.new.self in
    let many : length n.previous.items ≡ length s.edges.now = ap length e.spreads.previous ∙ h.linked.each in
    let small : c.in-Some.edge < length n.previous.items = omega (arith, many, within) in
    let link : slot n.previous.items c.in-Some.edge ≡ c.index-link-in-Some.result.now = read_slot n.previous.items c.in-Some.edge c.index-link-in-Some.result.now small c.index-link-in-Some.ensures in
    let k = linked_on s n h.linked e.spreads in
    let stands : slice_get n.edges.now c.in-Some.edge ≡ Some f.edge = ap (λ (es : List Edge). slice_get es c.in-Some.edge) e.spreads.edges ∙ f.stands in
    let last : IsLast n.edges.now c.args.node c.in-Some.edge c.index-link-in-Some.result.now =
    subst (λ (v : ℕ). IsLast n.edges.now v c.in-Some.edge c.index-link-in-Some.result.now) f.from (subst (λ (l : ℕ). IsLast n.edges.now f.edge.from c.in-Some.edge l) link (k.previous c.in-Some.edge f.edge stands small)) in
    let below = last.below in
    omega (arith, below, one)

pub loop-edge-preserved : goal.loop-edge-preserved
loop-edge-preserved c =
    let h = c.loop-edge.invariant in
    let s = c.loop-edge.self in
    let one : c.loop-edge.link ≡ suc c.in-Some.edge = search rules in
    let f = h.leads c.in-Some.edge one in
    let within : c.in-Some.edge < length s.edges.now = slice_get_within s.edges.now c.in-Some.edge f.edge f.stands in
    let read : get_or s.edges.now c.in-Some.edge (record { from = 0; to = 0 }) ≡ f.edge = get_or_from_slice_get s.edges.now c.in-Some.edge f.edge (record { from = 0; to = 0 }) f.stands in
    let e = c.in_ok-reach.ensures in
    let n = c.reach.new.self in
    let many : length n.previous.items ≡ length s.edges.now = ap length e.spreads.previous ∙ h.linked.each in
    let small : c.in-Some.edge < length n.previous.items = omega (arith, many, within) in
    let link : slot n.previous.items c.in-Some.edge ≡ c.index-link-in-Some.result.now = read_slot n.previous.items c.in-Some.edge c.index-link-in-Some.result.now small c.index-link-in-Some.ensures in
    let k = linked_on s n h.linked e.spreads in
    let stands : slice_get n.edges.now c.in-Some.edge ≡ Some f.edge = ap (λ (es : List Edge). slice_get es c.in-Some.edge) e.spreads.edges ∙ f.stands in
    let last : IsLast n.edges.now c.args.node c.in-Some.edge c.index-link-in-Some.result.now =
    subst (λ (v : ℕ). IsLast n.edges.now v c.in-Some.edge c.index-link-in-Some.result.now) f.from (subst (λ (l : ℕ). IsLast n.edges.now f.edge.from c.in-Some.edge l) link (k.previous c.in-Some.edge f.edge stands small)) in
    let held : IsSpread n c.args.node (suc c.in-Some.edge) = e.held c.args.node (suc c.in-Some.edge) (subst (λ (l : ℕ). IsSpread s c.args.node l) one h.held) in
    let got : IsMarked n.reached.items f.edge.to = subst (λ (x : Edge). IsMarked n.reached.items x.to) read e.got in
    let work = e.work in
    let before = h.work in
    record {
      held = spread_closed n c.args.node (suc c.in-Some.edge) c.index-link-in-Some.result.now held
          (closed_from n.edges.now n.reached.items n.pending.items c.args.node (suc c.in-Some.edge) c.in-Some.edge c.index-link-in-Some.result.now held.closed last (λ d x there from le lt.
          let it : d ≡ c.in-Some.edge = omega (arith, le, lt) in
          let both : Some x ≡ Some f.edge = sym there ∙ (ap (slice_get n.edges.now) it ∙ stands) in
          let same : f.edge ≡ x = cc in
          subst (λ (y : Edge). IsMarked n.reached.items y.to) same got));
      linked = k;
      spreads = spreads_on c.args.self.now s n h.spreads e.spreads;
      reached = e.spreads.stays c.args.node h.reached;
      leads = last.leads;
      work = omega (arith, work, before);
    }
