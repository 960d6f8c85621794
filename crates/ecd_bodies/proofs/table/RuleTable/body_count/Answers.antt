use Rattle.std.proofs.Common.{List, length, ap, ◌∙◌, arith}
use Rattle.ecd_syntax.specs.declared.tree.Rule.{Rule}
use Rattle.ecd_bodies.specs.Named.{bodies_of}
use Rattle.ecd_bodies.proofs.Tabling.{count_is, count_fits}
use Rattle.ecd_bodies.proofs.table.RuleTable.body_count.Goals as goal

pub overflow_cast-result : goal.overflow_cast-result
overflow_cast-result c =
    let inside = c.self.inside in
    let few = count_fits inside.prelude inside.text inside.numbers.entries inside.groups.items c.self.invariant c.args.name.now in
    omega (arith, ap length c.numbers_at.ensures, few)

pub returns : goal.returns
returns c =
    let inside = c.self.inside in
    ap length c.numbers_at.ensures ∙ (count_is inside.prelude inside.text inside.numbers.entries inside.groups.items c.self.invariant c.args.name.now
    ∙ ap (λ (text : List Rule). length (bodies_of text c.args.name.now)) c.self.view_is)
