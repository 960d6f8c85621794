use Rattle.std.proofs.Common.{◌∙◌}
use Rattle.std.proofs.lemmas.Result.{err_from_is_err_and}
use Rattle.ecd_ceval.specs.Blocks.{memory_of}
use Rattle.ecd_ceval.proofs.Values.{load_fails, load_gives, left_fails, left_decides, right_fails, both_give}
use Rattle.ecd_ceval.proofs.expressions.+value_of.Goals as goal

pub returns-in_err-index-in-Load : goal.returns-in_err-index-in-Load
returns-in_err-index-in-Load t c =
    let p = err_from_is_err_and c.from_residual-in_err-index-in-Load.result c.from_residual-in_err-index-in-Load.ensures.1 in
    rw (p.1, p.2, c.in-Load.is)
    (load_fails c.in-Load.name c.in-Load.index c.args.variables.now (memory_of c.args.blocks.now) _ _ (rw c.as_slice-in-Load.ensures at c.in_ok-pointer-in-Load.ensures) (rw c.get-in-Load-2.ensures at c.in_err-index-in-Load.ensures))

pub returns-in_err-left-in-Binary : goal.returns-in_err-left-in-Binary
returns-in_err-left-in-Binary t c =
    let p = err_from_is_err_and c.from_residual-in_err-left-in-Binary.result c.from_residual-in_err-left-in-Binary.ensures.1 in
    rw (p.1, p.2, c.in-Binary.is) (left_fails c.in-Binary.op c.in-Binary.left c.in-Binary.right c.args.variables.now (memory_of c.args.blocks.now) _ (rw c.get-in-Binary.ensures at c.in_err-left-in-Binary.ensures))

pub returns-in-Some : goal.returns-in-Some
returns-in-Some t c =
    rw c.in-Binary.is (left_decides c.in-Binary.op c.in-Binary.left c.in-Binary.right c.args.variables.now (memory_of c.args.blocks.now) _ _ (rw c.get-in-Binary.ensures at c.in_ok-left-in-Binary.ensures) c.in-Some.ensures)

pub returns-in_err-right-in-Binary : goal.returns-in_err-right-in-Binary
returns-in_err-right-in-Binary t c =
    let p = err_from_is_err_and c.from_residual-in_err-right-in-Binary.result c.from_residual-in_err-right-in-Binary.ensures.1 in
    rw (p.1, p.2, c.in-Binary.is)
    (right_fails c.in-Binary.op c.in-Binary.left c.in-Binary.right c.args.variables.now (memory_of c.args.blocks.now) _ _ (rw c.get-in-Binary.ensures at c.in_ok-left-in-Binary.ensures) c.in_default.ensures (rw c.get-in-Binary-2.ensures at c.in_err-right-in-Binary.ensures))

pub returns-in_ok-index-in-Load : goal.returns-in_ok-index-in-Load
returns-in_ok-index-in-Load t c =
    rw c.in-Load.is
    (c.load.ensures ∙ load_gives c.in-Load.name c.in-Load.index c.args.variables.now (memory_of c.args.blocks.now) c.in_ok-pointer-in-Load.pointer c.in_ok-index-in-Load.index (rw c.as_slice-in-Load.ensures at c.in_ok-pointer-in-Load.ensures) (rw c.get-in-Load-2.ensures at c.in_ok-index-in-Load.ensures))

pub returns-in_ok-right-in-Binary : goal.returns-in_ok-right-in-Binary
returns-in_ok-right-in-Binary t c =
    rw c.in-Binary.is
    (c.finish.ensures ∙
    both_give c.in-Binary.op c.in-Binary.left c.in-Binary.right c.args.variables.now (memory_of c.args.blocks.now) _ _ (rw c.get-in-Binary.ensures at c.in_ok-left-in-Binary.ensures) c.in_default.ensures (rw c.get-in-Binary-2.ensures at c.in_ok-right-in-Binary.ensures))
