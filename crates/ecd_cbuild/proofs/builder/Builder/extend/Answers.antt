use Rattle.std.proofs.Common.{◌∙◌, sym, subst, List}
use Rattle.std.proofs.lemmas.List.{nil_from_length}
use Rattle.ecd_cast.specs.declared.tree.CItem.{CItem}
use Rattle.ecd_cbuild.specs.Built.{GrewByFirst}
use Rattle.ecd_cbuild.proofs.Extended.{begun, partly, wholly, next_valid, next_spelled, one_more, on_any}
use Rattle.ecd_cbuild.proofs.builder.Builder.extend.Goals as goal

pub loop-item-init : goal.loop-item-init
loop-item-init c = (tt, tt, begun c.args.self.now c.args.items c.into_iter-item-iterator.result.rest.items (c.into_iter-item-iterator.ensures.into_iter_gives.0 ∙ c.into_vec-item-items.ensures) c.requires.valid c.requires.spelled)

pub push-requires-clause-valid : goal.push-requires-clause-valid
push-requires-clause-valid c = next_valid c.args.self.now c.args.items c.loop-item.self c.loop-item.item-iterator.rest.items c.loop-item.invariant.2 c.in-Some.item c.next.new.self.rest.items c.in-Some.ensures.steps.0

pub push-requires-clause-spelled : goal.push-requires-clause-spelled
push-requires-clause-spelled c = next_spelled c.args.self.now c.args.items c.loop-item.self c.loop-item.item-iterator.rest.items c.loop-item.invariant.2 c.in-Some.item c.next.new.self.rest.items c.in-Some.ensures.steps.0

pub loop-item-preserved : goal.loop-item-preserved
loop-item-preserved c = (tt, tt, one_more c.args.self.now c.args.items c.loop-item.self c.loop-item.item-iterator.rest.items c.loop-item.invariant.2 c.in-Some.item c.next.new.self.rest.items c.in-Some.ensures.steps.0 c.push.new.self c.in_ok-push.ensures.ok)

pub returns-in_err-push-clause-err : goal.returns-in_err-push-clause-err
returns-in_err-push-clause-err c =
    on_any c.from_residual.result _ (subst (λ (xs : List CItem). GrewByFirst c.args.self.now c.args.items xs) (sym c.in_err-push.ensures.err) (partly c.args.self.now c.args.items c.loop-item.self c.loop-item.item-iterator.rest.items c.loop-item.invariant.2))

pub returns-clause-ok : goal.returns-clause-ok
returns-clause-ok c = wholly c.args.self.now c.args.items c.loop-item.self c.loop-item.item-iterator.rest.items c.loop-item.invariant.2 (nil_from_length c.loop-item.item-iterator.rest.items (sym c.loop-item.item-iterator.rest.ok.0 ∙ c.in-None.ensures.steps.0))
