use Rattle.std.proofs.Common.{List, sym, subst, ap, refl, ◌≡◌, ◌∙◌, ◌++◌, ◌∷◌, [], codes}
use Rattle.ecd_cast.specs.declared.tree.Function.{Function}
use Rattle.ecd_cast.specs.declared.tree.CItem.{CItem}
use Rattle.ecd_cast.specs.declared.tree.CItem.TheVariants.{Function as AFunction}
use Rattle.ecd_cast.specs.Meaning.{calls_of}
use Rattle.ecd_fixed_bytes.specs.Copier.{copy_bytes, CopiesBytes}
use Rattle.ecd_emit.specs.Among.{IsAmong}
use Rattle.ecd_emit.proofs.Placed.{valid_by, spelled_by}
use Rattle.ecd_fixed_bytes.proofs.Copying.{copy_valid, copy_spelled, copy_means, copy_among}
use Rattle.ecd_fixed_bytes.proofs.copy.copier.Goals as goal

pub push-requires-clause-valid : goal.push-requires-clause-valid
push-requires-clause-valid c =
    valid_by c.args.builder.now c.args.builder.now copy_bytes c.in_ok-copy_bytes.field-0 refl c.in_ok-copy_bytes.ensures (copy_valid c.args.builder.now c.requires)

pub push-requires-clause-spelled : goal.push-requires-clause-spelled
push-requires-clause-spelled c = spelled_by copy_bytes c.in_ok-copy_bytes.field-0 c.in_ok-copy_bytes.ensures copy_spelled

pub returns-clause-there : goal.returns-clause-there
returns-clause-there c =
    let old = c.args.builder.now in
    let is : c.push.new.self ≡ old ++ AFunction copy_bytes ∷ [] = c.in_ok-push.ensures.ok ∙ ap (λ (f : Function). old ++ AFunction f ∷ []) c.in_ok-copy_bytes.ensures in
    subst (IsAmong copy_bytes) (sym is) (copy_among old c.requires)

pub returns-clause-mean : goal.returns-clause-mean
returns-clause-mean c =
    let old = c.args.builder.now in
    let is : c.push.new.self ≡ old ++ AFunction copy_bytes ∷ [] = c.in_ok-push.ensures.ok ∙ ap (λ (f : Function). old ++ AFunction f ∷ []) c.in_ok-copy_bytes.ensures in
    subst (λ (items : List CItem). CopiesBytes (calls_of items (codes "copy_bytes"))) (sym is) (copy_means old)
