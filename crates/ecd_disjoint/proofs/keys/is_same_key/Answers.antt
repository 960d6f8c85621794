use Rattle.std.proofs.Common.{◌≡◌, arith, rules}
use Rattle.std.specs.Str.{IsUtf8}
use Rattle.ecd_disjoint.proofs.Loops.{along}
use Rattle.ecd_disjoint.proofs.KeyItems.{keys_by, key-Uint, key-Nint, key-BytesIs, key-TextIs, key-Simple}
use Rattle.ecd_disjoint.proofs.keys.is_same_key.Goals as goal

pub returns-in-Uint-kind : goal.returns-in-Uint-kind
returns-in-Uint-kind c = keys_by c.in-Uint.is c.in-Uint-kind.is (key-Uint c.in-Uint.lo c.in-Uint.hi c.in-Uint-kind.least c.in-Uint-kind.most (omega arith) c.is_one_number.ensures)

pub returns-in-Nint-kind : goal.returns-in-Nint-kind
returns-in-Nint-kind c = keys_by c.in-Nint.is c.in-Nint-kind.is (key-Nint c.in-Nint.lo c.in-Nint.hi c.in-Nint-kind.least c.in-Nint-kind.most (omega arith) c.is_one_number-in-Nint-kind.ensures)

pub returns-in-BytesIs-kind : goal.returns-in-BytesIs-kind
returns-in-BytesIs-kind c =
    keys_by c.in-BytesIs.is c.in-BytesIs-kind.is (key-BytesIs c.in-BytesIs.bytes c.in-BytesIs-kind.others (along (λ j. c.as_slice.ensures j ≡ c.as_slice-in-BytesIs-kind.ensures j) (search rules)))

pub returns-in-TextIs-kind : goal.returns-in-TextIs-kind
returns-in-TextIs-kind c =
    keys_by c.in-TextIs.is c.in-TextIs-kind.is
    (key-TextIs c.in-TextIs.bytes c.in-TextIs-kind.others
    (along (λ j. (c.as_slice-in-TextIs-kind.ensures j ≡ c.as_slice-in-TextIs-kind-2.ensures j) × IsUtf8 (c.as_slice-in-TextIs-kind.ensures j)) c.is_one_text.ensures))

pub returns-in-Simple-kind : goal.returns-in-Simple-kind
returns-in-Simple-kind c = keys_by c.in-Simple.is c.in-Simple-kind.is (key-Simple c.in-Simple.value c.in-Simple-kind.other (omega arith) c.is_one_simple.ensures)
