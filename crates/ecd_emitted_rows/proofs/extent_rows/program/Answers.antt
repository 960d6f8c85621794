use Rattle.std.proofs.Common.{List, ◌++◌, ◌∙◌, ap, sym, subst}
use Rattle.ecd_cast.specs.declared.tree.CItem.{CItem}
use Rattle.ecd_fixed_heads.specs.Heads.{head_functions}
use Rattle.ecd_emit.specs.Among.{AreNew}
use Rattle.ecd_fixed_heads.specs.Extents.{extent_names}
use Rattle.ecd_fixed_heads.proofs.Extended.{new_behind_heads}
use Rattle.ecd_emitted_rows.proofs.extent_rows.program.Goals as goal

pub extents-requires-clause-new : goal.extents-requires-clause-new
extents-requires-clause-new c = subst (AreNew extent_names) (sym (c.in_ok-heads.ensures.items ∙ ap (λ (l : List CItem). l ++ head_functions) c.new-builder.ensures)) new_behind_heads
