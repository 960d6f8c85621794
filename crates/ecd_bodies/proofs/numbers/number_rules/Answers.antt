use Rattle.std.proofs.Common.{◌≡◌, ◌+◌, ◌++◌, ℕ, List, length, sym, ap, ◌∙◌}
use Rattle.ecd_bodies.specs.Numbers.{numbers_in, numbers_from}
use Rattle.ecd_bodies.proofs.Numbering.{numbers-append}
use Rattle.ecd_bodies.proofs.numbers.number_rules.Goals as goal

pub returns-clause-numbered : goal.returns-clause-numbered
returns-clause-numbered c = λ name.
    let before : numbers_in c.add_rules.new.map.entries name ≡ numbers_from 0 c.args.prelude.now name =
    c.in_ok-before.ensures.numbers name ∙ ap (λ es. numbers_in es name ++ numbers_from 0 c.args.prelude.now name) c.new-map.ensures.empty in
    let both : numbers_in c.add_rules.new.map.entries name ++ numbers_from c.in_ok-before.before c.args.text.now name ≡ numbers_from 0 c.args.prelude.now name ++ numbers_from (0 + length c.args.prelude.now) c.args.text.now name =
    ap (λ (l : List ℕ). l ++ numbers_from c.in_ok-before.before c.args.text.now name) before ∙ ap (λ (n : ℕ). numbers_from 0 c.args.prelude.now name ++ numbers_from n c.args.text.now name) c.in_ok-before.ensures.behind in
    c.in_ok-count.ensures.numbers name ∙ (both ∙ sym (numbers-append name 0 c.args.prelude.now c.args.text.now))
