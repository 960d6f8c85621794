use Rattle.std.proofs.Common.{◌∙◌, ap, codes}
use Rattle.ecd_syntax.specs.declared.tree.Entry.{Entry}
use Rattle.ecd_prelude.specs.Prelude.{member, tagged_pair}
use Rattle.ecd_prelude.proofs.rule.fraction.Goals as goal

pub returns : goal.returns
returns c =
    c.in_ok-pair.ensures
    ∙ (ap (λ (first : Entry). tagged_pair c.args.number first c.in_ok-mantissa.mantissa) c.in_ok-exponent.ensures
    ∙ ap (tagged_pair c.args.number (member c.args.word.now (codes "int"))) c.in_ok-mantissa.ensures)
