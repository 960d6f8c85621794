use Rattle.std.proofs.Common.{List, sym, subst, ap, refl, ◌≡◌, ◌∙◌, ◌++◌, ◌∷◌, [], codes}
use Rattle.ecd_cast.specs.declared.tree.Function.{Function}
use Rattle.ecd_cast.specs.declared.tree.CItem.{CItem}
use Rattle.ecd_cast.specs.declared.tree.CItem.TheVariants.{Function as AFunction}
use Rattle.ecd_cast.specs.Meaning.{calls_of}
use Rattle.ecd_fixed_bytes.specs.Compare.{compare_bytes, ComparesBytes}
use Rattle.ecd_emit.specs.Among.{IsAmong}
use Rattle.ecd_emit.proofs.Placed.{valid_by, spelled_by}
use Rattle.ecd_fixed_bytes.proofs.Comparing.{compare_valid, compare_spelled, compare_means, compare_among}
use Rattle.ecd_fixed_bytes.proofs.compare.comparison.Goals as goal

pub push-requires-clause-valid : goal.push-requires-clause-valid
push-requires-clause-valid c =
    valid_by c.args.builder.now c.args.builder.now (compare_bytes c.args.order) c.in_ok-compare_bytes.field-0 refl c.in_ok-compare_bytes.ensures (compare_valid c.args.order c.args.builder.now c.requires)

pub push-requires-clause-spelled : goal.push-requires-clause-spelled
push-requires-clause-spelled c = spelled_by (compare_bytes c.args.order) c.in_ok-compare_bytes.field-0 c.in_ok-compare_bytes.ensures (compare_spelled c.args.order)

pub returns-clause-there : goal.returns-clause-there
returns-clause-there c =
    let old = c.args.builder.now in
    let is : c.push.new.self ≡ old ++ AFunction (compare_bytes c.args.order) ∷ [] = c.in_ok-push.ensures.ok ∙ ap (λ (f : Function). old ++ AFunction f ∷ []) c.in_ok-compare_bytes.ensures in
    subst (IsAmong (compare_bytes c.args.order)) (sym is) (compare_among c.args.order old c.requires)

pub returns-clause-mean : goal.returns-clause-mean
returns-clause-mean c =
    let old = c.args.builder.now in
    let is : c.push.new.self ≡ old ++ AFunction (compare_bytes c.args.order) ∷ [] = c.in_ok-push.ensures.ok ∙ ap (λ (f : Function). old ++ AFunction f ∷ []) c.in_ok-compare_bytes.ensures in
    subst (λ (items : List CItem). ComparesBytes c.args.order (calls_of items (codes "compare_bytes"))) (sym is) (compare_means c.args.order old)
