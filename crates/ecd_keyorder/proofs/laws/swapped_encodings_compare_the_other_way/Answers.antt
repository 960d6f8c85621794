use Rattle.ecd_keyorder.proofs.Total.{swaps_around}
use Rattle.ecd_keyorder.proofs.laws.swapped_encodings_compare_the_other_way.Goals as goal

pub returns : goal.returns
returns c = swaps_around
