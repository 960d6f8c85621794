use Rattle.ecd_ceval.proofs.Slots.{scopes-push}
use Rattle.ecd_ceval.proofs.variables.Variables.enter.Goals as goal

pub returns : goal.returns
returns c = let h = c.in_ok-push.ensures.items in let v = c.self.view_is in rw (c.in_ok-push.ensures.items, scopes-push, c.self.view_is)
