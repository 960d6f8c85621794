use Rattle.std.proofs.Common.{sym, ap, ◌∷◌, []}
use Rattle.ecd_cast.specs.declared.tree.CellInfo.{CellInfo}
use Rattle.ecd_cast.specs.Memory.{Name}
use Rattle.ecd_cast.specs.Validity.{Naming}
use Rattle.ecd_cjudge.specs.Faults.{place_as}
use Rattle.ecd_cjudge.proofs.NameLayers.{named_then, named_same, head-more}
use Rattle.ecd_cjudge.proofs.judge_names.name_cells.Goals as goal

pub loop-cell-preserved : goal.loop-cell-preserved
loop-cell-preserved c =
    let one = ap (λ (x : Name). let n : Naming = record { name = x; place = place_as c.args.spot } in n ∷ []) c.as_slice.ensures in
    named_same (sym (head-more (λ (q : CellInfo). q.name) c.args.cells.now c.loop-cell.cell-index c.cell-item.result c.loop-cell-test.true c.cell-item.is (place_as c.args.spot)))
    (named_then c.loop-cell.invariant (named_same one c.in_ok-name_one.ensures))
