use Rattle.std.proofs.Common.{◌≡◌, take}
use Rattle.std.specs.Prelude.{flat_map}
use Rattle.ecd_cast.specs.Kinds.{broken_by, args_fit}
use Rattle.ecd_cjudge.specs.Faults.{Finds, place_as}
use Rattle.ecd_cscope.specs.Surroundings.{structs_before}
use Rattle.ecd_cjudge.proofs.judge_source.judge_args.Given as goal

abbrev pub invariant-loop-number : goal.invariant-loop-number
invariant-loop-number l = record {
  finds : Finds l.initial.first l.first (place_as l.scene.spot) (flat_map (broken_by (structs_before l.scene.around.now) l.scene.known.now) (take l.number l.args));
  fits : l.fit ≡ args_fit (structs_before l.scene.around.now) l.scene.known.now (take l.number l.params) (take l.number l.args);
}
