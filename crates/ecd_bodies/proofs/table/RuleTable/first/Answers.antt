use Rattle.std.proofs.Common.{◌∙◌, ap}
use Rattle.ecd_bodies.specs.Named.{first_of}
use Rattle.ecd_bodies.proofs.Tabling.{first_is}
use Rattle.ecd_bodies.proofs.table.RuleTable.first.Goals as goal

pub returns : goal.returns
returns c = c.first_number.ensures ∙ (first_is _ _ _ _ c.self.invariant c.args.name.now ∙ ap (λ text. first_of text c.args.name.now) c.self.view_is)
