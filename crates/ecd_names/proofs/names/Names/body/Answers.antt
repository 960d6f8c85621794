use Rattle.std.proofs.Common.{◌≡◌, ap, sym, ◌∙◌}
use Rattle.std.specs.Prelude.{slice_get}
use Rattle.ecd_bodies.specs.Named.{bodies_of}
use Rattle.ecd_names.proofs.Walking.{no_element}
use Rattle.ecd_names.proofs.names.Names.body.Goals as goal

pub unreachable-requires : goal.unreachable-requires
unreachable-requires c =
    let same : bodies_of c.self.inside.table c.as_bytes.result.now ≡ bodies_of c.args.self.now c.args.name.now = ap (λ t. bodies_of t c.as_bytes.result.now) c.self.view_is ∙ ap (bodies_of c.args.self.now) c.as_bytes.ensures.value in
    no_element (bodies_of c.args.self.now c.args.name.now) c.args.index c.requires (c.in-None.ensures ∙ ap (λ l. slice_get l c.args.index) same)

pub returns : goal.returns
returns c =
    let same : bodies_of c.self.inside.table c.as_bytes.result.now ≡ bodies_of c.args.self.now c.args.name.now = ap (λ t. bodies_of t c.as_bytes.result.now) c.self.view_is ∙ ap (bodies_of c.args.self.now) c.as_bytes.ensures.value in
    sym (c.in-Some.ensures ∙ ap (λ l. slice_get l c.args.index) same)
