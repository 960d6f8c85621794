use Rattle.std.proofs.Common.{◌+◌, ◌≡◌, ◌⊎◌, ⊎_elim, false, true, sym, ◌∙◌, ap}
use Rattle.std.specs.Prelude.{Some, None}
use Rattle.std.specs.List.{Contains}
use Rattle.ecd_prelude.specs.Prelude.{float_names}
use Rattle.ecd_syntax.specs.declared.tree.Assign.TheVariants.{Define, TypeMore, GroupMore}
use Rattle.ecd_syntax.specs.declared.tree.Rule.{Rule}
use Rattle.ecd_names.proofs.Duplicates.{defined-duplicate, added-duplicate}
use Rattle.ecd_names.proofs.judge_name.is_duplicate.Goals as goal
use Rattle.ecd_names.proofs.judge_name.is_duplicate.Goals.{in-Define, in-TypeMore}

-- what adds to a name does not define it
adds : (rule : Rule) → (rule.assign ≡ TypeMore) ⊎ (rule.assign ≡ GroupMore) → rule.assign ≡ Define → ⊥
adds rule e d = ⊎_elim (λ (t : rule.assign ≡ TypeMore). let bad : TypeMore ≡ Define = sym t ∙ d in absurd cc) (λ (g : rule.assign ≡ GroupMore). let bad : GroupMore ≡ Define = sym g ∙ d in absurd cc) e

pub returns-in-Some : goal.returns-in-Some
returns-in-Some c =
    let scene = c.args.scene.now in
    let no_float : Contains float_names c.as_slice-name.result.now → ⊥ = λ f. let bad : false ≡ true = c.if-is_float_name.ensures.1 f in absurd cc in
    elim c.match-scene.branch [
      | in-Define w ↦ defined-duplicate scene.table.now scene.index scene.rule.now (Some c.in-Some.first) c.as_slice-name.result.now c.as_slice-name.ensures c.in-Some.ensures no_float c.match-scene.end w.in-Define.is (w.end-is ∙ ap (λ n. n + scene.index) c.requires.prelude)
      | in-TypeMore w ↦ added-duplicate scene.table.now scene.index scene.rule.now (Some c.in-Some.first) c.as_slice-name.result.now c.as_slice-name.ensures c.in-Some.ensures no_float c.match-scene.end (adds scene.rule.now w.in-TypeMore.is) (w.end-is ∙ c.requires.prelude)
    ]

pub returns-in-None : goal.returns-in-None
returns-in-None c =
    let scene = c.args.scene.now in
    let no_float : Contains float_names c.as_slice-name.result.now → ⊥ = λ f. let bad : false ≡ true = c.if-is_float_name.ensures.1 f in absurd cc in
    elim c.match-scene.branch [
      | in-Define w ↦ defined-duplicate scene.table.now scene.index scene.rule.now None c.as_slice-name.result.now c.as_slice-name.ensures c.in-None.ensures no_float c.match-scene.end w.in-Define.is (w.end-is ∙ ap (λ n. n + scene.index) c.requires.prelude)
      | in-TypeMore w ↦ added-duplicate scene.table.now scene.index scene.rule.now None c.as_slice-name.result.now c.as_slice-name.ensures c.in-None.ensures no_float c.match-scene.end (adds scene.rule.now w.in-TypeMore.is) (w.end-is ∙ c.requires.prelude)
    ]
