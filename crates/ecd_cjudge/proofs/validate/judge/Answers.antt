use Rattle.std.proofs.Common.{◌∙◌, ap, sym, subst, arith, ◌≡◌, ◌<◌, ◌^◌, length, List, []}
use Rattle.std.specs.Prelude.{Option, None}
use Rattle.ecd_first.specs.declared.first.Broken.{Broken}
use Rattle.ecd_first.specs.Firsts.{Sees}
use Rattle.ecd_cast.specs.declared.tree.CItem.{CItem}
use Rattle.ecd_cast.specs.declared.tree.Program.{Program}
use Rattle.ecd_cast.specs.Validity.{faults_from, call_depth_of, spaces_of}
use Rattle.ecd_cast.proofs.Verdicts.{first_is_depth, not_equal}
use Rattle.ecd_cjudge.specs.declared.spot.Spot.{Spot}
use Rattle.ecd_cjudge.specs.Faults.{Among, spot_rank}
use Rattle.ecd_cjudge.proofs.Firsts.{first_broken, none_broken}
use Rattle.ecd_cjudge.proofs.validate.judge.Goals as goal

-- what was taken in of the program
pub seen_in : (p : Program) (items : List CItem) (broken : Option (Broken Spot)) → items ≡ p.items → Sees spot_rank None broken (Among (faults_from [] items 0)) → Sees spot_rank None broken (Among (faults_from [] p.items 0))
seen_in p items broken e s = subst (λ (is : List CItem). Sees spot_rank None broken (Among (faults_from [] is 0))) e s

pub returns-in-Some-clause-err : goal.returns-in-Some-clause-err
returns-in-Some-clause-err c =
    let p = c.args.program.now in
    first_broken p _ (seen_in p _ _ c.as_slice-items.ensures c.in_ok-first_broken.ensures) c.in-Some.broken c.in-Some.is

pub returns-then-program-reach-clause-err : goal.returns-then-program-reach-clause-err
returns-then-program-reach-clause-err c =
    let p = c.args.program.now in
    let sound = none_broken p _ (seen_in p _ _ c.as_slice-items.ensures c.in_ok-first_broken.ensures) c.in-None.is in
    let depth = c.in_ok-reach.ensures.calls ∙ ap call_depth_of c.as_slice-items.ensures in
    first_is_depth p sound (not_equal p.depth (call_depth_of p.items) (λ e. c.if-program-reach.true (e ∙ sym depth)))

pub returns-clause-ok : goal.returns-clause-ok
returns-clause-ok c =
    let sound = none_broken c.args.program.now _ (seen_in c.args.program.now _ _ c.as_slice-items.ensures c.in_ok-first_broken.ensures) c.in-None.is in
    let count = ap length c.as_slice-items.ensures in
    let few : length c.args.program.now.items < 2 ^ 32 = omega (arith, count) in
    record {
      sound = sound;
      spelled = c.requires;
      counted = few;
      depth_is = c.if-program-reach.false ∙ (c.in_ok-reach.ensures.calls ∙ ap call_depth_of c.as_slice-items.ensures);
      spaces_are = c.in_ok-reach.ensures.variables ∙ ap spaces_of c.as_slice-items.ensures;
    }
