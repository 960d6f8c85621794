use Rattle.std.proofs.Common.{sym, subst, arith, take, drop, [], ◌+◌}
use Rattle.ecd_first.specs.declared.first.First.{First}
use Rattle.ecd_cjudge.specs.declared.spot.Spot.{Spot}
use Rattle.ecd_cast.specs.Validity.{item_faults}
use Rattle.ecd_cjudge.specs.Faults.{SeesAll}
use Rattle.ecd_cjudge.proofs.Files.{faults_some, some-more, some-all}
use Rattle.ecd_cjudge.proofs.Taking.{all_then, all_same}
use Rattle.ecd_cjudge.proofs.judge_item.judge_items.Goals as goal
use Rattle.ecd_cjudge.proofs.judge_item.judge_items.Goals.{in-Struct+in_ok-judge_struct-in-Struct, in-Function+in_ok-judge_function-in-Function}

pub loop-item-preserved : goal.loop-item-preserved
loop-item-preserved c =
    let more = some-more c.loop-item.item-index c.args.items.now c.item-item.result c.loop-item-test.true c.item-item.is in
    record {
      counts = omega arith;
      sees = elim c.match-item.branch [
        | in-Struct+in_ok-judge_struct-in-Struct w ↦
            subst (λ (f : First Spot). SeesAll c.args.first.now f (faults_some (c.loop-item.item-index + 1) [] c.args.items.now 0)) (sym w.first-is)
            (all_same (sym more) (all_then c.loop-item.invariant.sees (all_same (λ j. item_faults (take (c.loop-item.invariant.counts j) c.args.items.now) (sym w.in-Struct.is j) (drop (c.loop-item.invariant.counts j) c.args.items.now) (c.loop-item.invariant.counts j)) w.in_ok-judge_struct-in-Struct.ensures)))
        | in-Function+in_ok-judge_function-in-Function w ↦
            subst (λ (f : First Spot). SeesAll c.args.first.now f (faults_some (c.loop-item.item-index + 1) [] c.args.items.now 0)) (sym w.first-is)
            (all_same (sym more) (all_then c.loop-item.invariant.sees
            (all_same (λ j. item_faults (take (c.loop-item.invariant.counts j) c.args.items.now) (sym w.in-Function.is j) (drop (c.loop-item.invariant.counts j) c.args.items.now) (c.loop-item.invariant.counts j)) w.in_ok-judge_function-in-Function.ensures)))
      ];
    }

pub returns : goal.returns
returns c = all_same (some-all c.loop-item.item-index c.args.items.now c.loop-item-test.false) c.loop-item.invariant.sees
