use Rattle.ecd_fixed_heads.proofs.Framing.{valid_framed}
use Rattle.ecd_fixed_heads.proofs.Owing.{framed_end_once}
use Rattle.ecd_fixed_heads.proofs.laws.framed_items.Goals as goal

pub returns-clause-valid : goal.returns-clause-valid
returns-clause-valid c = valid_framed

pub returns-clause-once : goal.returns-clause-once
returns-clause-once c = framed_end_once
