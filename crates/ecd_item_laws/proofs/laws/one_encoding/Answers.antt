use Rattle.ecd_item_laws.proofs.Unique.{has_one_encoding, encodes_one_item, has_no_proper_prefix, begins_with_one_item}
use Rattle.ecd_item_laws.proofs.laws.one_encoding.Goals as goal

pub returns : goal.returns
returns c = record { one_encoding = has_one_encoding; one_item = encodes_one_item; no_proper_prefix = has_no_proper_prefix; one_front = begins_with_one_item }
