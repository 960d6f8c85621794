use Rattle.std.proofs.Common.{◌≡◌, drop}
use Rattle.std.specs.Prelude.{slice_get}
use Rattle.ecd_cast.specs.Validity.{structs_of}
use Rattle.ecd_ceval.proofs.fitting.struct_at.Given as goal

abbrev pub invariant-loop-item : goal.invariant-loop-item
invariant-loop-item l = slice_get (structs_of l.items) l.number ≡ slice_get (structs_of (drop l.item-index l.items)) l.left
