use Rattle.std.proofs.Common.{◌≡◌, ◌≤◌, length, arith, sym, ap, ◌∙◌, [], ◌∷◌, drop}
use Rattle.ecd_cast.specs.Meaning.{frame_of}
use Rattle.ecd_ceval.proofs.Calling.{frame_ends, params_end}
use Rattle.ecd_ceval.proofs.functions.entered.Goals as goal
use Rattle.ecd_ceval.proofs.functions.entered.Goals.{then-values-at, else-values-at}

pub loop-at-init : goal.loop-at-init
loop-at-init c =
    let ps = c.args.params.now in let vs = c.args.values.now in let n = c.if-values-at.at in
    let opened = c.in_ok-enter.ensures in let made = c.new-variables.ensures in
    let le_ps : n ≤ length ps = elim c.if-values-at.branch [ then-values-at w ↦ omega arith | else-values-at w ↦ omega arith ] in
    let le_vs : n ≤ length vs = elim c.if-values-at.branch [ then-values-at w ↦ omega arith | else-values-at w ↦ omega arith ] in
    let ends : frame_of (drop n ps) (drop n vs) ≡ [] =
    elim c.if-values-at.branch [ then-values-at w ↦ frame_ends ps vs n (omega arith) | else-values-at w ↦ params_end ps vs n (omega arith) ] in
    (le_ps, le_vs, opened ∙ (ap (λ env. [] ∷ env) made ∙ ap (λ f. f ∷ []) (sym ends)))
