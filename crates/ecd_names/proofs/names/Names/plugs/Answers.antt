use Rattle.std.proofs.Common.{ap, length, ◌∙◌}
use Rattle.ecd_bodies.specs.Named.{bodies_of}
use Rattle.ecd_names.proofs.names.Names.plugs.Goals as goal

pub returns : goal.returns
returns c = c.body_count.ensures ∙ (ap (λ t. length (bodies_of t c.as_bytes.result.now)) c.self.view_is ∙ ap (λ n. length (bodies_of c.args.self.now n)) c.as_bytes.ensures.value)
