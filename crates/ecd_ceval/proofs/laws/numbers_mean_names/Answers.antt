use Rattle.ecd_ceval.proofs.Naming.{numbers_mean_names}
use Rattle.ecd_ceval.proofs.laws.numbers_mean_names.Goals as goal

pub returns : goal.returns
returns c = numbers_mean_names
