use Rattle.std.proofs.Common.{◌≡◌, take}
use Rattle.ecd_cast.specs.Kept.{IsNew}
use Rattle.ecd_cbuild.proofs.builder.function_at.Given as goal

abbrev pub invariant-loop-item : goal.invariant-loop-item
invariant-loop-item l = record {
  counts : l.at ≡ l.item-index;
  none : IsNew l.name (take l.item-index l.items);
}
