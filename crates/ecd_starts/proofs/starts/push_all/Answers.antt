use Rattle.std.proofs.Common.{◌∷◌, [], ap, ◌∙◌}
use Rattle.ecd_starts.specs.Kinds.{kinds_of}
use Rattle.ecd_starts.proofs.Steps.{kinds-append, kinds_more}
use Rattle.ecd_starts.proofs.starts.push_all.Goals as goal

pub loop-shape-preserved : goal.loop-shape-preserved
loop-shape-preserved c =
    kinds_more c.args.more.now c.loop-shape.shape-index c.shape-item.result _ _ _ c.loop-shape-test.true c.shape-item.is c.loop-shape.invariant (ap kinds_of c.in_ok-push.ensures.items ∙ kinds-append c.loop-shape.shapes.items (c.shape-item.result ∷ []))
