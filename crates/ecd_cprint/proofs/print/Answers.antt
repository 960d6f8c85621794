use Rattle.std.proofs.Common.{◌∷◌, [], ◌++◌, ◌∙◌, ap, sym, subst, List, ℕ}
use Rattle.ecd_cast.specs.Spelling.{IsSpelling, program_lexemes, first_line}
use Rattle.ecd_cast.specs.declared.tree.Program.{Program}
use Rattle.ecd_cprint.specs.Layout.{Grows}
use Rattle.ecd_cprint.proofs.Joins.{spelled}
use Rattle.ecd_cast.proofs.Spelled.{program_are}
use Rattle.ecd_cprint.proofs.print.Goals as goal

pub returns : goal.returns
returns c =
    let text = c.print_program.new.out.text.items in
    let p = c.args.program.now in
    let start = ap (λ v. v.items) c.new-out.ensures ∙ c.in_ok-from_slice.ensures.items in
    let grew : Grows first_line text (program_lexemes p) =
    subst (λ (q : Program). Grows first_line text (program_lexemes q)) c.program.ensures.same
    (subst (λ (t : List ℕ). Grows t text (program_lexemes c.program.result.now)) start c.in_ok-print_program.ensures) in
    let whole : IsSpelling p (text ++ 10 ∷ []) = record { spelled = c.program.ensures.spelled; spells = spelled p text (program_are p c.program.ensures.spelled) grew } in
    subst (λ (t : List ℕ). IsSpelling p t) (sym (c.from_vec.ensures ∙ (c.in_ok-push.ensures.items ∙ ap (λ v. v.items ++ 10 ∷ []) c.into_text-text.ensures))) whole
