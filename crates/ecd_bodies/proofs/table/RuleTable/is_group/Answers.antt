use Rattle.std.proofs.Common.{◌≡◌, ◌↔◌, Bool, true, false, get_or, List, ap, sym, ◌∙◌, subst}
use Rattle.std.proofs.lemmas.List.{get_or_read}
use Rattle.ecd_syntax.specs.declared.tree.Rule.{Rule}
use Rattle.ecd_bodies.specs.Named.{first_of}
use Rattle.ecd_bodies.specs.Kinds.{IsGroup}
use Rattle.ecd_prelude.specs.Sockets.{is_group_socket}
use Rattle.ecd_bodies.proofs.Tabling.{judged_is, marked_is, unruled_is}
use Rattle.ecd_bodies.proofs.table.RuleTable.is_group.Goals as goal

pub returns-in-Some : goal.returns-in-Some
returns-in-Some c =
    let inside = c.self.inside in
    let first = ap (λ (text : List Rule). first_of text c.args.name.now) c.self.view_is in
    let judged = judged_is inside.prelude inside.text inside.numbers.entries inside.groups.items c.self.invariant c.args.name.now c.in-Some.number (first ∙ (sym c.first.ensures ∙ c.in-Some.is)) in
    let at_it : c.index.result.now ≡ get_or inside.groups.items c.in-Some.number false =
    get_or_read inside.groups.items c.in-Some.number c.index.result.now (marked_is inside.prelude inside.text inside.numbers.entries inside.groups.items c.self.invariant c.args.name.now c.in-Some.number (first ∙ (sym c.first.ensures ∙ c.in-Some.is))) c.index.ensures false in
    subst (λ (b : Bool). (b ≡ true) ↔ IsGroup c.args.self.now c.args.name.now) (sym at_it) (subst (λ (text : List Rule). (get_or inside.groups.items c.in-Some.number false ≡ true) ↔ IsGroup text c.args.name.now) c.self.view_is judged)

pub returns-in-None : goal.returns-in-None
returns-in-None c =
    let inside = c.self.inside in
    let first = ap (λ (text : List Rule). first_of text c.args.name.now) c.self.view_is in
    let unruled = unruled_is inside.prelude inside.text inside.numbers.entries inside.groups.items c.self.invariant c.args.name.now (first ∙ (sym c.first.ensures ∙ c.in-None.is)) in
    subst (λ (b : Bool). (b ≡ true) ↔ IsGroup c.args.self.now c.args.name.now) (sym c.is_group_socket.ensures) (subst (λ (text : List Rule). (is_group_socket c.args.name.now ≡ true) ↔ IsGroup text c.args.name.now) c.self.view_is unruled)
