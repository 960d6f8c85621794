use Rattle.std.proofs.Common.{◌≡◌, ◌↔◌, Bool, true, false, List, [], ◌∷◌, ◌++◌, replicate, ap, sym, ◌∙◌, subst}
use Rattle.ecd_graph.specs.Graphs.{IsMarked}
use Rattle.ecd_bodies.proofs.Marking.{marks_source}
use Rattle.ecd_bodies.proofs.kinds.source_mark.Goals as goal

pub returns-clause-marked : goal.returns-clause-marked
returns-clause-marked c = λ node.
    let made : c.in_ok-marks.marks.items ≡ replicate c.args.source false = c.in_ok-marks.ensures.items_if_clones_equal (λ x e. e) in
    let items : c.push.new.self.items ≡ replicate c.args.source false ++ true ∷ [] = c.in_ok-push.ensures.items ∙ ap (λ (l : List Bool). l ++ true ∷ []) made in
    subst (λ (l : List Bool). IsMarked l node ↔ (node ≡ c.args.source)) (sym items) (marks_source c.args.source node)
