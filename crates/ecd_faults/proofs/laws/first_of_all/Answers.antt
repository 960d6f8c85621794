use Rattle.ecd_faults.proofs.Taking.{none_of_all, least_of_all}
use Rattle.ecd_faults.proofs.laws.first_of_all.Goals as goal

pub returns : goal.returns
returns c = record { none = none_of_all; least = least_of_all }
