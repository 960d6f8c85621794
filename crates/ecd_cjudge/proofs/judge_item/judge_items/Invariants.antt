use Rattle.std.proofs.Common.{◌≡◌, []}
use Rattle.ecd_cjudge.specs.Faults.{SeesAll}
use Rattle.ecd_cjudge.proofs.Files.{faults_some}
use Rattle.ecd_cjudge.proofs.judge_item.judge_items.Given as goal

abbrev pub invariant-loop-item : goal.invariant-loop-item
invariant-loop-item l = record {
  counts : l.at_ ≡ l.item-index;
  sees : SeesAll l.initial.first l.first (faults_some l.item-index [] l.items 0);
}
