use Rattle.ecd_names.proofs.Resolving.{prelude-kept}
use Rattle.ecd_names.proofs.Typing.{takes-none, is-type}
use Rattle.ecd_names.proofs.laws.prelude_names.Goals as goal

pub returns : goal.returns
returns c = record { kept = prelude-kept; arity = takes-none; types = is-type }
