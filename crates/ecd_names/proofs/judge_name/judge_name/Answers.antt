use Rattle.std.proofs.Common.{take, ◌∙◌, ap}
use Rattle.ecd_bodies.specs.Named.{arity_of}
use Rattle.ecd_names.proofs.Judging.{sees_name}
use Rattle.ecd_names.proofs.judge_name.judge_name.Goals as goal

pub returns : goal.returns
returns c =
    let text = c.args.scene.now.table.now in
    sees_name text (take c.args.scene.now.index text) c.args.scene.now.rule.now _ _ _ _ c.is_duplicate-is_duplicate.result c.in_ok-is_other_assign.is_other_assign c.len.result c.arity-arity.result
    c.is_duplicate-is_duplicate.ensures c.len.ensures (c.arity-arity.ensures ∙ ap (arity_of text) c.as_slice.ensures) c.in_ok-is_other_assign.ensures c.note.ensures.seen c.note-2.ensures.seen c.note-3.ensures.seen
