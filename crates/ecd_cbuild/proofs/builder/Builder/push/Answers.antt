use Rattle.std.proofs.Common.{subst, sym, List}
use Rattle.ecd_cast.specs.declared.tree.CItem.{CItem}
use Rattle.ecd_cast.specs.Validity.{IsValidAfter}
use Rattle.ecd_cast.specs.Spelling.{IsSpelledItem}
use Rattle.ecd_cbuild.proofs.Built.{built_struct}
use Rattle.ecd_cbuild.proofs.builder.Builder.push.Goals as goal

pub invariant_of-self-in-Struct : goal.invariant_of-self-in-Struct
invariant_of-self-in-Struct c =
    built_struct c.self.inside.items _ c.in-Struct.declaration c.self.inside.depth c.self.inside.spaces c.self.inside.reaches c.self.invariant
    (subst (λ (i : CItem). IsValidAfter c.self.inside.items i) c.in-Struct.is (subst (λ (xs : List CItem). IsValidAfter xs c.args.item) (sym c.self.view_is) c.requires.valid))
    (subst IsSpelledItem c.in-Struct.is c.requires.spelled)
    c.in_ok-push-in-Struct.ensures.counted
    c.in_ok-push-in-Struct.ensures.ok
