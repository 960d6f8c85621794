use Rattle.std.proofs.Common.{ℕ, ◌-◌, ◌<◌, ◌≤◌, length, ap, ◌∙◌, arith}
use Rattle.std.specs.Prelude.{slice_get}
use Rattle.ecd_bodies.specs.Named.{all_rules}
use Rattle.ecd_bodies.proofs.Tabling.{rule_before, rule_behind}
use Rattle.ecd_bodies.proofs.table.RuleTable.rule.Goals as goal

pub returns-then-number-before : goal.returns-then-number-before
returns-then-number-before c =
    let inside = c.self.inside in
    let lt : c.args.number < length inside.prelude = omega arith in
    c.get.ensures.value ∙ (rule_before inside.prelude inside.text inside.numbers.entries inside.groups.items c.self.invariant c.args.number lt ∙ ap (λ text. slice_get (all_rules text) c.args.number) c.self.view_is)

pub returns-else-number-before : goal.returns-else-number-before
returns-else-number-before c =
    let inside = c.self.inside in
    let le : length inside.prelude ≤ c.args.number = omega arith in
    c.get-else-number-before.ensures.value ∙ (ap (λ (n : ℕ). slice_get inside.text (c.args.number - n)) c.len-before.ensures
    ∙ (rule_behind inside.prelude inside.text inside.numbers.entries inside.groups.items c.self.invariant c.args.number le ∙ ap (λ text. slice_get (all_rules text) c.args.number) c.self.view_is))
