use Rattle.ecd_core.proofs.Taking.{fits_by_some, first_is_taken, later_is_taken, taken_decides, none_leaves_out}
use Rattle.ecd_core.proofs.laws.picks_by_their_ways.Goals as goal

pub returns : goal.returns
returns c = record { fits = fits_by_some; first = first_is_taken; later = later_is_taken; taken = taken_decides; none = none_leaves_out }
