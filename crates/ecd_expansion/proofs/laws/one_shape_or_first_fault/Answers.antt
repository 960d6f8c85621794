use Rattle.ecd_expansion.proofs.OneTest.{one_first, one_shape, never_both, one_of_both}
use Rattle.ecd_expansion.proofs.laws.one_shape_or_first_fault.Goals as goal

pub returns : goal.returns
returns c = record { fault = one_first; shape = one_shape; never = never_both; always = one_of_both }
