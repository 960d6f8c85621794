-- Words and the numbers in them.
use Rattle.std.proofs.Common.{◌≡◌, ℕ, ◌<◌, ◌≤◌, ◌^◌, List, arith}
use Rattle.std.specs.Prelude.{decimal, Result, Ok}
use Rattle.std.specs.Str.Parse.{ParsesUnsigned}
use Rattle.std.proofs.lemmas.Fmt.{parse-decimal}

-- the decimal text of a number is read as that number
pub parsed : {E : Type 0} (word : List ℕ) (result : Result ℕ E) (number most : ℕ) → ParsesUnsigned 64 10 word result → number ≤ most → most < 2 ^ 64 → word ≡ decimal number → result ≡ Ok number
parsed word result number most parses le small e = parse-decimal 64 number word result (omega arith) (omega arith) e parses
