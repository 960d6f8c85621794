use Rattle.std.proofs.Common.{rules, refl, sym, ◌∙◌, ◌≡◌, ◌-◌, ◌<◌, ℕ, ap, subst, length, take, suc, List, arith, true, false}
use Rattle.ecd_graph.specs.declared.search.Mark.TheVariants.{Open}
use Rattle.ecd_graph.specs.Searches.{mark, slot}
use Rattle.ecd_graph.proofs.Reaching.{read_mark}
use Rattle.ecd_graph.proofs.Completing.{open_within}
use Rattle.ecd_graph.proofs.Leaving.{left, none_at}
use Rattle.ecd_graph.proofs.search.Search.leave.Goals as goal

true_or_false : true ≡ false → ⊥
true_or_false h = cc

pub index-requires : goal.index-requires
index-requires c =
    let s = c.args.self.now in
    let t = c.requires.top in
    let g = c.requires.held.goes t.last (let y = t.size in omega (arith, y)) in
    let within : c.args.node < length s.marks.items = open_within s.marks.items c.args.node g.0 (ap (mark s.marks.items) (sym t.is) ∙ g.1) in
    search (rules, within)

pub unreachable-requires : goal.unreachable-requires
unreachable-requires c =
    let s = c.args.self.now in
    let t = c.requires.top in
    let g = c.requires.held.goes t.last (let y = t.size in omega (arith, y)) in
    let is : mark s.marks.items c.args.node ≡ Open g.0 = ap (mark s.marks.items) (sym t.is) ∙ g.1 in
    let within : c.args.node < length s.marks.items = open_within s.marks.items c.args.node g.0 is in
    let read = read_mark s.marks.items c.args.node c.index.result.now c.index.result.now within c.index.ensures refl in
    c.in_default.not-Open g.0 (sym read ∙ is)

pub complete-requires-clause-placed : goal.complete-requires-clause-placed
complete-requires-clause-placed c =
    let s = c.args.self.now in
    let t = c.requires.top in
    let g = c.requires.held.goes t.last (let y = t.size in omega (arith, y)) in
    let is : mark s.marks.items c.args.node ≡ Open g.0 = ap (mark s.marks.items) (sym t.is) ∙ g.1 in
    let within : c.args.node < length s.marks.items = open_within s.marks.items c.args.node g.0 is in
    read_mark s.marks.items c.args.node c.index.result.now (Open c.in-Open.place) within c.index.ensures c.in-Open.is

pub complete-requires-clause-root : goal.complete-requires-clause-root
complete-requires-clause-root c =
    let e = c.as_slice.ensures.value in
    λ k final. ap (λ (rs : List ℕ). slot rs k) (sym e) ∙ c.ends_with.ensures.last k (final ∙ ap length (sym e)) c.if-ends_with.true

pub complete-requires-clause-some : goal.complete-requires-clause-some
complete-requires-clause-some c = subst (λ (rs : List ℕ). 0 < length rs) c.as_slice.ensures.value (c.ends_with.ensures.some c.if-ends_with.true)

pub returns-else-ends_with-clause-held : goal.returns-else-ends_with-clause-held
returns-else-ends_with-clause-held c =
    let s = c.args.self.now in
    let t = c.requires.top in
    let e = c.as_slice.ensures.value in
    let g = c.requires.held.goes t.last (let y = t.size in omega (arith, y)) in
    let is : mark s.marks.items c.args.node ≡ Open g.0 = ap (mark s.marks.items) (sym t.is) ∙ g.1 in
    let within : c.args.node < length s.marks.items = open_within s.marks.items c.args.node g.0 is in
    let read = read_mark s.marks.items c.args.node c.index.result.now (Open c.in-Open.place) within c.index.ensures c.in-Open.is in
    let at_top : mark s.marks.items (slot s.path.items t.last) ≡ Open c.in-Open.place = ap (mark s.marks.items) t.is ∙ read in
    let done : slot s.cursors.items (slot s.path.items t.last) ≡ 0 = ap (slot s.cursors.items) t.is ∙ c.requires.spent in
    let inner = λ (k : ℕ) (final : suc k ≡ length s.roots.items) (there : slot s.roots.items k ≡ c.in-Open.place).
    let yes : c.ends_with.result ≡ true = c.ends_with.ensures.other k (final ∙ ap length (sym e)) (ap (λ (rs : List ℕ). slot rs k) e ∙ there) in
    true_or_false (sym yes ∙ c.if-ends_with.false) in
    let size : t.last ≡ length s.path.items - 1 = let z = t.size in omega (arith, z) in
    let path : c.pop.new.self.items ≡ take (length s.path.items - 1) s.path.items = search rules in
    rw (path, ← size) (left s.edges.now s.marks.items s.cursors.items s.pending.items s.roots.items s.path.items s.count c.requires.held t.last c.in-Open.place t.size at_top done
    (none_at s.edges.now s.marks.items s.cursors.items s.pending.items s.roots.items s.path.items s.count c.requires.held t.last c.in-Open.place t.size at_top done inner))
