use Rattle.std.proofs.Common.{take, ◌∷◌}
use Rattle.std.specs.Prelude.{flat_map, codes}
use Rattle.ecd_cprint.specs.Layout.{Grows}
use Rattle.ecd_cast.specs.Spelling.{expr_lexemes}
use Rattle.ecd_cprint.proofs.statements.print_args.Given as goal

abbrev pub invariant-loop-arg : goal.invariant-loop-arg
invariant-loop-arg l = Grows l.initial.out.text.items l.out.text.items (flat_map (λ e. codes "," ∷ expr_lexemes e) (take l.arg-index l.rest))
