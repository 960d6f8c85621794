use Rattle.ecd_ceval.proofs.Slots.{scopes-push}
use Rattle.ecd_ceval.proofs.variables.Variables.declare.Goals as goal

pub returns : goal.returns
returns c = rw (c.in_ok-push.ensures.items, scopes-push, c.self.view_is)
