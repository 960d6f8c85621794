use Rattle.std.proofs.Common.{sym, ◌∙◌, subst, arith, ℕ}
use Rattle.ecd_cbuild.specs.Lookup.{IsFunctionAt}
use Rattle.ecd_cbuild.proofs.Lookup.{named_at, new-more}
use Rattle.ecd_cbuild.proofs.builder.function_at.Goals as goal

pub returns-then-is_function_named : goal.returns-then-is_function_named
returns-then-is_function_named c =
    subst (λ (n : ℕ). IsFunctionAt c.args.items.now c.args.name.now n) (sym c.loop-item.invariant.counts)
    (named_at c.args.items.now c.args.name.now c.loop-item.item-index c.item-item.result c.loop-item-test.true c.item-item.is (sym c.is_function_named.ensures ∙ c.if-is_function_named.true))

pub loop-item-preserved : goal.loop-item-preserved
loop-item-preserved c = record {
  counts = omega arith;
  none = new-more c.args.name.now c.args.items.now c.loop-item.item-index c.item-item.result c.loop-item-test.true c.item-item.is c.loop-item.invariant.none (sym c.is_function_named.ensures ∙ c.if-is_function_named.false);
}
