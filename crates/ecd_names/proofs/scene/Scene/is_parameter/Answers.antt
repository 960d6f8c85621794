use Rattle.std.proofs.Common.{◌∙◌}
use Rattle.ecd_names.proofs.Repeats.{has-parameter}
use Rattle.ecd_names.proofs.scene.Scene.is_parameter.Goals as goal

pub returns : goal.returns
returns c = c.has.ensures ∙ has-parameter c.args.self.now.rule.now.params c.args.self.now.scope.now.parameters c.requires.scope.parameters c.args.name.now
