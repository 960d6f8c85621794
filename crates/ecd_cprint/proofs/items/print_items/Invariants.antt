use Rattle.std.proofs.Common.{take}
use Rattle.std.specs.Prelude.{flat_map}
use Rattle.ecd_cprint.specs.Layout.{Grows}
use Rattle.ecd_cast.specs.Spelling.{item_lexemes}
use Rattle.ecd_cprint.proofs.items.print_items.Given as goal

abbrev pub invariant-loop-item : goal.invariant-loop-item
invariant-loop-item l = Grows l.initial.out.text.items l.out.text.items (flat_map item_lexemes (take l.item-index l.items))
