use Rattle.std.proofs.Common.{take}
use Rattle.ecd_cprint.specs.Layout.{Grows}
use Rattle.ecd_cast.specs.Spelling.{stmts_lexemes}
use Rattle.ecd_cprint.proofs.statements.+statements.Given as goal

abbrev pub invariant-print_stmts-loop-stmt : goal.invariant-print_stmts-loop-stmt
invariant-print_stmts-loop-stmt l = Grows l.initial.out.text.items l.out.text.items (stmts_lexemes (take l.stmt-index l.stmts))
