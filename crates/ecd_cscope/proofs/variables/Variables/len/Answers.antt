use Rattle.std.proofs.Common.{◌≡◌, ◌∙◌, ap, length, arith}
use Rattle.ecd_cscope.proofs.Known.{known-length}
use Rattle.ecd_cscope.proofs.variables.Variables.len.Goals as goal

pub returns : goal.returns
returns c =
    let count : c.len.result ≡ length c.self.inside.declared.items = omega (arith, c.len.ensures) in
    count ∙ (known-length c.self.inside.declared.items ∙ ap length c.self.view_is)
