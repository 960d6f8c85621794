use Rattle.std.proofs.Common.{◌≡◌, true, false, sym, ◌∙◌, ap}
use Rattle.ecd_bodies.specs.Named.{first_of, is_parameter}
use Rattle.ecd_names.proofs.Repeats.{has-parameter}
use Rattle.ecd_names.proofs.Linking.{adds_edge, adds_none}
use Rattle.ecd_names.proofs.edges.add_site.Goals as goal

pub returns-in_ok-add_edge-in-Use : goal.returns-in_ok-add_edge-in-Use
returns-in_ok-add_edge-in-Use c =
    let free : is_parameter c.args.rule.now.params c.in-Use.name.text ≡ false =
    sym (c.has.ensures ∙ (has-parameter c.args.rule.now.params c.args.parameters.now c.requires.parameters c.as_slice-text.result.now ∙ ap (is_parameter c.args.rule.now.params) c.as_slice-text.ensures)) ∙ c.if-not-has.true in
    adds_edge (first_of c.args.table.now) c.args.rule.now c.in-Use.name c.in-Use.args c.in-Use.asked _ _ c.args.site.now _ _ c.in-Use.is free c.requires.from (c.first.ensures ∙ ap (first_of c.args.table.now) c.as_slice-text.ensures) c.in_ok-add_edge-in-Use.ensures.added

pub returns-else-not-has : goal.returns-else-not-has
returns-else-not-has c =
    let is : is_parameter c.args.rule.now.params c.in-Use.name.text ≡ true =
    sym (c.has.ensures ∙ (has-parameter c.args.rule.now.params c.args.parameters.now c.requires.parameters c.as_slice-text.result.now ∙ ap (is_parameter c.args.rule.now.params) c.as_slice-text.ensures)) ∙ c.if-not-has.false in
    adds_none (first_of c.args.table.now) c.args.rule.now c.in-Use.name c.in-Use.args c.in-Use.asked _ c.args.site.now c.in-Use.is is
