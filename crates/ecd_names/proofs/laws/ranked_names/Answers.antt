use Rattle.ecd_names.proofs.Components.{third-ranked}
use Rattle.ecd_names.proofs.Resolving.{ranked-third}
use Rattle.ecd_names.proofs.laws.ranked_names.Goals as goal

pub returns-clause-unbroken : goal.returns-clause-unbroken
returns-clause-unbroken c = ranked-third

pub returns-clause-ranked : goal.returns-clause-ranked
returns-clause-ranked c = third-ranked
