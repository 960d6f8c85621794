use Rattle.ecd_cast.specs.Spelling.{item_lexemes}
use Rattle.ecd_cprint.proofs.Loops.{grows_more, grows_all}
use Rattle.ecd_cprint.proofs.items.print_items.Goals as goal

pub loop-item-preserved : goal.loop-item-preserved
loop-item-preserved c = grows_more item_lexemes _ c.loop-item.item-index c.item-item.result _ _ _ c.loop-item-test.true c.item-item.is c.loop-item.invariant c.in_ok-print_item.ensures

pub returns : goal.returns
returns c = grows_all item_lexemes _ c.loop-item.item-index _ _ c.loop-item-test.false c.loop-item.invariant
