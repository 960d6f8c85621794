use Rattle.std.proofs.Common.{◌≡◌, ℕ, ◌-◌, List, length, nat_le, Some, ap, sym, ◌∙◌}
use Rattle.std.specs.Prelude.{slice_get}
use Rattle.ecd_syntax.specs.declared.tree.Rule.{Rule}
use Rattle.ecd_bodies.specs.Named.{is_in_text}
use Rattle.ecd_bodies.specs.Numbers.{numbers_in}
use Rattle.ecd_bodies.proofs.Tabling.{last_is, none_is, last_place, no_last}
use Rattle.ecd_bodies.proofs.table.RuleTable.is_in_text.Goals as goal

pub returns-in-Some : goal.returns-in-Some
returns-in-Some c =
    let inside = c.self.inside in
    let numbers = numbers_in inside.numbers.entries c.args.name.now in
    let there : slice_get numbers (length numbers - 1) ≡ Some c.in-Some.last = sym c.last_number.ensures ∙ c.in-Some.is in
    ap (λ (n : ℕ). nat_le n c.in-Some.last) c.len.ensures
    ∙ (last_is inside.prelude inside.text inside.numbers.entries inside.groups.items c.self.invariant c.args.name.now (length numbers - 1) c.in-Some.last (last_place numbers c.in-Some.last there) there
    ∙ ap (λ (text : List Rule). is_in_text text c.args.name.now) c.self.view_is)

pub returns-in-None : goal.returns-in-None
returns-in-None c =
    let inside = c.self.inside in
    let numbers = numbers_in inside.numbers.entries c.args.name.now in
    none_is inside.prelude inside.text inside.numbers.entries inside.groups.items c.self.invariant c.args.name.now (no_last numbers (sym c.last_number.ensures ∙ c.in-None.is))
    ∙ ap (λ (text : List Rule). is_in_text text c.args.name.now) c.self.view_is
