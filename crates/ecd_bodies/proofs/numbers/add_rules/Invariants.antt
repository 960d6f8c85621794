use Rattle.std.proofs.Common.{◌≡◌, ◌+◌, ◌++◌, ℕ, List, take}
use Rattle.ecd_bodies.specs.Numbers.{numbers_in, numbers_from}
use Rattle.ecd_bodies.proofs.numbers.add_rules.Given as goal

abbrev pub invariant-loop-rule : goal.invariant-loop-rule
invariant-loop-rule l = record {
  counted : l.number ≡ l.first + l.rule-index;
  numbered : (name : List ℕ) → numbers_in l.map.entries name ≡ numbers_in l.initial.map.entries name ++ numbers_from l.first (take l.rule-index l.rules) name;
}
