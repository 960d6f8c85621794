use Rattle.std.proofs.Common.{◌≡◌, ◌∙◌, ◌-◌, ap, arith, drop, length}
use Rattle.std.proofs.lemmas.List.{drop-drop}
use Rattle.ecd_cast.specs.Kinds.{Known}
use Rattle.ecd_cscope.proofs.variables.Variables.leave.Goals as goal

pub loop-preserved : goal.loop-preserved
loop-preserved c = c.in_ok-forget.ensures ∙ (ap (λ (k : Known). drop 1 k) c.loop.invariant ∙ drop-drop 1 c.loop.counter c.args.self.now)

pub returns : goal.returns
returns c =
    let all : c.loop.counter ≡ length c.args.self.now - c.args.outer = omega arith in
    c.loop.invariant ∙ ap (λ n. drop n c.args.self.now) all
