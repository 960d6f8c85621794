use Rattle.std.proofs.Common.{◌++◌, ◌∙◌, ap, subst, List, ℕ}
use Rattle.ecd_cprint.specs.Layout.{IsGap}
use Rattle.ecd_cprint.proofs.Joins.{grows_put}
use Rattle.ecd_cprint.proofs.layout.Layout.put.Goals as goal

pub returns : goal.returns
returns c =
    let gap : IsGap c.args.self.now.text.items c.args.lexeme.now c.white_space-white.result.now =
    subst (λ (t : List ℕ). IsGap t c.args.lexeme.now c.white_space-white.result.now) c.deref.ensures.value c.white_space-white.ensures in
    grows_put c.args.self.now.text.items c.extend_from_slice-2.new.self.items c.white_space-white.result.now c.args.lexeme.now gap
    (c.in_ok-extend_from_slice-2.ensures.items ∙ ap (λ (t : List ℕ). t ++ c.args.lexeme.now) c.in_ok-extend_from_slice.ensures.items)
