use Rattle.std.proofs.Common.{◌≡◌, ◌++◌, take}
use Rattle.std.specs.Prelude.{flat_map, false}
use Rattle.ecd_uses.specs.Sites.{choice_sites, entry_sites}
use Rattle.ecd_uses.specs.Listed.{way_listed}
use Rattle.ecd_uses.proofs.collect.+collecting.Given as goal

abbrev pub invariant-add_choices-loop-choice : goal.invariant-add_choices-loop-choice
invariant-add_choices-loop-choice l = l.found ≡ l.fn.found ++ flat_map (choice_sites l.a_type) (take l.choice-index l.choices)

abbrev pub invariant-add_group-loop-way : goal.invariant-add_group-loop-way
invariant-add_group-loop-way l = l.found ≡ l.fn.found ++ flat_map way_listed (take l.way-index l.way-items)

abbrev pub invariant-add_way-loop-entry : goal.invariant-add_way-loop-entry
invariant-add_way-loop-entry l = l.found ≡ l.fn.found ++ flat_map (entry_sites false) (take l.entry-index l.entry-items)
