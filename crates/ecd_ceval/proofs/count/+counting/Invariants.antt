use Rattle.std.proofs.Common.{◌≡◌, take}
use Rattle.ecd_cast.specs.Meaning.{count_all}
use Rattle.ecd_ceval.proofs.count.+counting.Given as goal

abbrev pub invariant-count_all-loop-statement : goal.invariant-count_all-loop-statement
invariant-count_all-loop-statement l = l.count ≡ count_all (take l.statement-index l.statements)
