use Rattle.std.proofs.Common.{rules, ◌∙◌, ◌≡◌, ap, length, arith}
use Rattle.ecd_graph.specs.Searches.{mark}
use Rattle.ecd_graph.proofs.Linking.{nothing_met, none_met}
use Rattle.ecd_graph.proofs.numbers.begin.Goals as goal

pub returns-clause-held : goal.returns-clause-held
returns-clause-held c =
    let many : length c.in_ok-marks.marks.items ≡ c.args.nodes = search rules in
    let copies = c.in_ok-marks.ensures.items_if_clones_equal (λ y h. h) in
    nothing_met _ _ _ _ _ _ (λ v. ap (λ ms. mark ms v) copies ∙ none_met c.args.nodes v) (search rules) (λ v lt. c.in_ok-chains.ensures.last v (omega (arith, lt, many))) (search rules) (search rules) (search rules)
