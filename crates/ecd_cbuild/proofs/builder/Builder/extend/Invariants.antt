use Rattle.ecd_cbuild.proofs.Extended.{Partway}
use Rattle.ecd_cbuild.proofs.builder.Builder.extend.Given as goal

abbrev pub invariant-loop-item : goal.invariant-loop-item
invariant-loop-item l =
    (goal.iterator-loop-item).can_next l.item-iterator ×
    (goal.iterator-loop-item).is_finite l.item-iterator ×
    Partway l.fn.self l.fn.items l.self l.item-iterator.rest.items
