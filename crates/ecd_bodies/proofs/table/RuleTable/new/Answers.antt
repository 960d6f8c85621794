use Rattle.std.proofs.Common.{◌++◌, sym, ◌∙◌}
use Rattle.ecd_bodies.proofs.Tabling.{all_same, numbered_all, table_made}
use Rattle.ecd_bodies.proofs.table.RuleTable.new.Goals as goal

pub group_marks-requires-clause-numbered : goal.group_marks-requires-clause-numbered
group_marks-requires-clause-numbered c =
    let same = all_same c.as_slice.result.now c.in_ok-prelude.prelude c.as_slice-2.result.now c.as_slice-4.result.now c.as_slice.ensures c.in_ok-prelude.ensures (c.as_slice-2.ensures ∙ sym c.as_slice-4.ensures) in
    numbered_all c.in_ok-numbers.numbers.entries (c.as_slice.result.now ++ c.as_slice-2.result.now) c.as_slice-4.result.now same c.in_ok-numbers.ensures.numbered

pub invariant_of-result : goal.invariant_of-result
invariant_of-result c =
    let same = all_same c.as_slice.result.now c.in_ok-prelude.prelude c.as_slice-2.result.now c.args.tree.rules c.as_slice.ensures c.in_ok-prelude.ensures c.as_slice-2.ensures in
    table_made c.in_ok-numbers.numbers.entries c.in_ok-prelude.prelude c.args.tree.rules c.as_slice-4.result.now (c.as_slice.result.now ++ c.as_slice-2.result.now) c.in_ok-groups.groups.items
    c.in_ok-prelude.ensures same c.as_slice-4.ensures c.in_ok-numbers.ensures.few c.in_ok-numbers.ensures.numbered c.in_ok-groups.ensures.judged c.in_ok-groups.ensures.enough
