use Rattle.std.proofs.Common.{take, ◌∷◌}
use Rattle.std.specs.Prelude.{flat_map, codes}
use Rattle.ecd_cprint.specs.Layout.{Grows}
use Rattle.ecd_cast.specs.Spelling.{param_lexemes}
use Rattle.ecd_cprint.proofs.items.print_params.Given as goal

abbrev pub invariant-loop-param : goal.invariant-loop-param
invariant-loop-param l = Grows l.initial.out.text.items l.out.text.items (flat_map (λ q. codes "," ∷ param_lexemes q) (take l.param-index l.rest))
