use Rattle.std.proofs.Common.{◌≡◌, false, sym, ◌∙◌}
use Rattle.ecd_bodies.specs.Named.{is_parameter}
use Rattle.ecd_names.proofs.Components.{component-recursive}
use Rattle.ecd_names.proofs.scene.Scene.is_recursive.Goals as goal

pub returns-then-not-is_parameter : goal.returns-then-not-is_parameter
returns-then-not-is_parameter c =
    let rule = c.args.self.now.rule.now in
    let free : is_parameter rule.params c.args.name.now ≡ false = sym c.is_parameter.ensures ∙ c.if-not-is_parameter.true in
    let both = component-recursive c.args.self.now.table.now c.args.self.now.components.now c.requires.scene.components rule _ c.args.name.now c.as_slice.ensures free (c.requires.used free) in
    (λ e. both.0 (c.are_in_one_component.ensures.0 e), λ r. c.are_in_one_component.ensures.1 (both.1 r))
