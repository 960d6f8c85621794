use Rattle.std.proofs.Common.{List, ap, sym, ◌∙◌}
use Rattle.std.specs.Prelude.{slice_get}
use Rattle.std.specs.Option.{option_copied}
use Rattle.ecd_syntax.specs.declared.tree.Rule.{Rule}
use Rattle.ecd_bodies.specs.Named.{all_rules, bodies_of}
use Rattle.ecd_bodies.proofs.Tabling.{body_is, no_body_is}
use Rattle.ecd_bodies.proofs.table.RuleTable.body.Goals as goal

pub returns-in_err-number : goal.returns-in_err-number
returns-in_err-number c =
    let inside = c.self.inside in
    ap option_copied c.from_residual.ensures ∙ (no_body_is inside.prelude inside.text inside.numbers.entries inside.groups.items c.self.invariant c.args.name.now c.args.index (sym c.number_at.ensures ∙ c.in_err-number.was)
    ∙ ap (λ (text : List Rule). slice_get (bodies_of text c.args.name.now) c.args.index) c.self.view_is)

pub returns : goal.returns
returns c =
    let inside = c.self.inside in
    c.rule.ensures ∙ (ap (λ (text : List Rule). slice_get (all_rules text) c.in_ok-number.number) (sym c.self.view_is)
    ∙ (body_is inside.prelude inside.text inside.numbers.entries inside.groups.items c.self.invariant c.args.name.now c.args.index c.in_ok-number.number (sym c.number_at.ensures ∙ c.in_ok-number.was)
    ∙ ap (λ (text : List Rule). slice_get (bodies_of text c.args.name.now) c.args.index) c.self.view_is))
