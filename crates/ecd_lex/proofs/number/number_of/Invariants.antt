use Rattle.std.proofs.Common.{◌≡◌, ◌≤◌, ◌<◌, drop, min}
use Rattle.ecd_lex.specs.Characters.{number_after, number_of, base_of}
use Rattle.ecd_lex.specs.declared.number.TheConstants.{TOO_LARGE}
use Rattle.ecd_lex.proofs.number.number_of.Given as goal

abbrev pub invariant-loop-digit : goal.invariant-loop-digit
invariant-loop-digit l =
    (l.number ≤ TOO_LARGE) × (l.base ≡ base_of l.fn.radix) × (l.base < 17) × (min (number_after l.fn.radix l.number (drop l.digit-index l.digits)) TOO_LARGE ≡ min (number_of l.fn.radix l.digits) TOO_LARGE)
