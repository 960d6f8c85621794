use Rattle.std.proofs.Common.{◌<◌, ◌-◌, length, arith, sym, ◌∙◌, ap}
use Rattle.std.specs.Prelude.{Some}
use Rattle.std.proofs.lemmas.Option.{slice_get-get_or}
use Rattle.ecd_ceval.proofs.Calling.{meant_here, meant_before, struct_before}
use Rattle.ecd_ceval.proofs.functions.find.Goals as goal

pub returns-then-eq : goal.returns-then-eq
returns-then-eq c =
    let items = c.args.items.now in let at = c.loop-at.at - 1 in
    let lt : at < length items = omega arith in
    let same = rw c.as_slice.ensures at c.eq.ensures in
    record {
      earlier = omega arith;
      there = slice_get-get_or items at c.index-items-at.result lt ∙ ap Some (sym c.index-items-at.is ∙ c.in-Function.is);
      means = λ vs m. c.loop-at.invariant.2 vs m ∙ meant_here items at c.loop-at.at c.index-items-at.result c.args.name.now vs m (omega arith) lt c.in-Function.function (sym c.index-items-at.is ∙ c.in-Function.is) (sym same ∙ c.if-eq.true);
    }

pub loop-at-preserved-else-eq : goal.loop-at-preserved-else-eq
loop-at-preserved-else-eq c =
    let items = c.args.items.now in let at = c.loop-at.at - 1 in
    let lt : at < length items = omega arith in
    let same = rw c.as_slice.ensures at c.eq.ensures in (
      omega arith,
      omega arith,
      λ vs m. c.loop-at.invariant.2 vs m ∙ meant_before items at c.loop-at.at c.index-items-at.result c.args.name.now vs m (omega arith) lt c.in-Function.function (sym c.index-items-at.is ∙ c.in-Function.is) (sym same ∙ c.if-eq.false),
    )

pub loop-at-preserved : goal.loop-at-preserved
loop-at-preserved c =
    let items = c.args.items.now in let at = c.loop-at.at - 1 in
    let lt : at < length items = omega arith in
    (omega arith, omega arith, λ vs m. c.loop-at.invariant.2 vs m ∙ struct_before items at c.loop-at.at c.index-items-at.result c.args.name.now vs m (omega arith) lt c.in_default.field-0 (sym c.index-items-at.is ∙ c.in_default.is))
