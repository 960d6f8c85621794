use Rattle.std.proofs.Common.{ℕ, ◌≡◌, true, List, ◌∙◌, ap, subst, ◌↔◌}
use Rattle.ecd_names.specs.Breaks.{IsUndefined, IsRecursive, arity_in, IsOtherKind}
use Rattle.ecd_names.proofs.Judging.{sees_use}
use Rattle.ecd_names.proofs.judge_site.judge_use.Goals as goal

pub returns : goal.returns
returns c =
    let text = c.args.scene.now.table.now in
    let rule = c.args.scene.now.rule.now in
    let same = c.as_slice-text.ensures in
    sees_use text rule c.args.name.now c.args.args c.args.asked _ _ _ _ _ c.is_undefined-is_undefined.result c.is_recursive-is_recursive.result c.is_other_kind-is_other_kind.result c.arity-arity.result
    (subst (λ (n : List ℕ). (c.is_undefined-is_undefined.result ≡ true) ↔ IsUndefined text rule n) same c.is_undefined-is_undefined.ensures)
    (subst (λ (n : List ℕ). (c.is_recursive-is_recursive.result ≡ true) ↔ IsRecursive text rule n) same c.is_recursive-is_recursive.ensures)
    (c.arity-arity.ensures ∙ ap (arity_in text rule) same)
    (subst (λ (n : List ℕ). (c.is_other_kind-is_other_kind.result ≡ true) ↔ IsOtherKind text rule n c.args.asked) same c.is_other_kind-is_other_kind.ensures)
    c.note.ensures.seen c.note-2.ensures.seen c.note-3.ensures.seen c.note-4.ensures.seen
