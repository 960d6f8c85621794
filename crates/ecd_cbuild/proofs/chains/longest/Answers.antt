use Rattle.std.proofs.Common.{◌∙◌, subst, List, take}
use Rattle.ecd_cast.specs.declared.tree.CItem.{CItem}
use Rattle.ecd_cast.specs.declared.tree.CItem.TheVariants.{Struct as AStructDecl, Function as AFunction}
use Rattle.ecd_cbuild.specs.Built.{Tallied}
use Rattle.ecd_cbuild.proofs.Built.{tallied_struct, tallied_function, one_item}
use Rattle.ecd_cbuild.proofs.chains.longest.Goals as goal
use Rattle.ecd_cbuild.proofs.chains.longest.Goals.{in-Struct, in-Function+in_ok-reach-in-Function+in_ok-name-in-Function+in-Ok}

pub loop-item-preserved : goal.loop-item-preserved
loop-item-preserved c = elim c.match-item.branch [
  | in-Struct w ↦
      rw (w.reaches-is, w.most-is)
      (subst (λ (is : List CItem). Tallied is c.loop-item.reaches c.loop-item.most)
      (one_item c.args.items.now c.loop-item.item-index c.item-item.result (AStructDecl w.in-Struct.field-0) c.loop-item-test.true c.item-item.is w.in-Struct.is)
      (tallied_struct (take c.loop-item.item-index c.args.items.now) w.in-Struct.field-0 c.loop-item.reaches c.loop-item.most c.loop-item.invariant))
  | in-Function+in_ok-reach-in-Function+in_ok-name-in-Function+in-Ok w ↦
      rw (w.reaches-is, w.most-is)
      (subst (λ (is : List CItem). Tallied is w.insert.new.self w.max-most.result)
      (one_item c.args.items.now c.loop-item.item-index c.item-item.result (AFunction w.in-Function.function) c.loop-item-test.true c.item-item.is w.in-Function.is)
      (tallied_function (take c.loop-item.item-index c.args.items.now) w.in-Function.function c.loop-item.reaches w.insert.new.self w.in_ok-name-in-Function.name w.in_ok-reach-in-Function.reach c.loop-item.most w.max-most.result c.loop-item.invariant
      (w.in_ok-name-in-Function.ensures.items ∙ w.as_slice.ensures)
      w.in-Ok.ensures.updates w.in_ok-reach-in-Function.ensures.calls w.in_ok-reach-in-Function.ensures.variables w.max-most.ensures.calls w.max-most.ensures.variables))
]
