use Rattle.std.proofs.Common.{◌≡◌, ◌+◌, ◌++◌, take, length, arith, rules, sym, ap, ◌∙◌}
use Rattle.std.specs.Str.{bytes_eq}
use Rattle.std.proofs.lemmas.List.{length-take-le}
use Rattle.ecd_bodies.specs.Numbers.{numbers_in, numbers_from}
use Rattle.ecd_bodies.proofs.Numbering.{numbers_more, joined, with_same}
use Rattle.ecd_bodies.proofs.numbers.add_rules.Goals as goal

pub loop-rule-preserved : goal.loop-rule-preserved
loop-rule-preserved c =
    let h = c.loop-rule.invariant in
    let i = c.loop-rule.rule-index in
    let items = c.args.rules.now in
    let taken : length (take i items) ≡ i = length-take-le i items (omega arith) in
    let link : c.in_ok-number.number ≡ c.loop-rule.number + 1 = search rules in
    record {
      counted = omega arith;
      numbered = λ name.
          let place : c.loop-rule.number ≡ c.args.first + length (take i items) = omega arith in
          let at_it = with_same name _ _ _ _ _ _ (h.numbered name) c.as_slice.ensures place in
          c.in_ok-add_number.ensures name ∙ (at_it ∙ (joined name (bytes_eq c.rule-item.result.name.text name) (numbers_in c.args.map.now.entries name) (numbers_from c.args.first (take i items) name) (c.args.first + length (take i items)) ∙ ap (λ l. numbers_in c.args.map.now.entries name ++ l) (sym (numbers_more name c.args.first i items c.rule-item.result c.loop-rule-test.true c.rule-item.is))));
    }
