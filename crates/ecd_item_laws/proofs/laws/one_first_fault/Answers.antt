use Rattle.ecd_item_laws.proofs.Unique.{has_one_first_fault, encoding_has_no_fault, every_bytes_have_one}
use Rattle.ecd_item_laws.proofs.laws.one_first_fault.Goals as goal

pub returns : goal.returns
returns c = record { one_fault = has_one_first_fault; no_fault = encoding_has_no_fault; always_one = every_bytes_have_one }
