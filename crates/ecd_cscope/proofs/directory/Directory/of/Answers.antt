use Rattle.std.proofs.Common.{sym, subst, arith, refl, take, ◌+◌}
use Rattle.ecd_cscope.specs.declared.directory.Directory.{Directory}
use Rattle.ecd_cscope.specs.Surroundings.{Directs, HasCells}
use Rattle.ecd_cscope.proofs.Directs.{directs_struct, directs_function, at_struct, at_function, put_at}
use Rattle.ecd_cscope.proofs.directory.Directory.of.Goals as goal
use Rattle.ecd_cscope.proofs.directory.Directory.of.Goals.{in-Struct+in_ok-put_first-in-Struct, in-Function+in_ok-put_first-in-Function}

pub loop-item-preserved : goal.loop-item-preserved
loop-item-preserved c = record {
  counts = omega arith;
  directs = elim c.match-item.branch [
    | in-Struct+in_ok-put_first-in-Struct w ↦
        subst (λ (d : Directory). Directs (take (c.loop-item.item-index + 1) c.args.items.now) d) (sym w.directory-is)
        (directs_struct c.args.items.now c.loop-item.item-index c.loop-item.directory _ c.loop-item-test.true c.loop-item.invariant.directs w.in-Struct.declaration
        (at_struct c.args.items.now c.loop-item.item-index c.item-item.result w.in-Struct.declaration c.loop-item-test.true c.item-item.is w.in-Struct.is) (λ g. refl)
        (λ g. put_at _ _ g (w.in_ok-put_first-in-Struct.ensures g) w.as_slice.ensures c.loop-item.invariant.counts))
    | in-Function+in_ok-put_first-in-Function w ↦
        subst (λ (d : Directory). Directs (take (c.loop-item.item-index + 1) c.args.items.now) d) (sym w.directory-is)
        (directs_function c.args.items.now c.loop-item.item-index c.loop-item.directory _ c.loop-item-test.true c.loop-item.invariant.directs w.in-Function.function
        (at_function c.args.items.now c.loop-item.item-index c.item-item.result w.in-Function.function c.loop-item-test.true c.item-item.is w.in-Function.is)
        (λ g. put_at _ _ g (w.in_ok-put_first-in-Function.ensures g) w.as_slice-in-Function.ensures c.loop-item.invariant.counts) (λ g. refl))
  ];
  cells = elim c.match-item.branch [
    | in-Struct+in_ok-put_first-in-Struct w ↦ subst (λ (d : Directory). HasCells c.args.items.now d.cells.items) (sym w.directory-is) c.loop-item.invariant.cells
    | in-Function+in_ok-put_first-in-Function w ↦ subst (λ (d : Directory). HasCells c.args.items.now d.cells.items) (sym w.directory-is) c.loop-item.invariant.cells
  ];
}
