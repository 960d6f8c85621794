-- Behind each turn the functions of the levels so far are there.
use Rattle.std.proofs.Common.{◌≡◌, ◌++◌, sym, subst, ◌∙◌, ap, arith}
use Rattle.ecd_emit.specs.Among.{AreNew}
use Rattle.ecd_rt.specs.Trees.{any_functions, level_names}
use Rattle.ecd_rt.specs.Standing.{LevelIsThere, AnyIsThere, AnyMeans}
use Rattle.ecd_rt.proofs.Climbing.{next_there, next_new, chain_there, chain_means, grown_level, base_new}
use Rattle.ecd_rt.proofs.any.any_chain.Goals as goal

pub put_leaf-requires-clause-new : goal.put_leaf-requires-clause-new
put_leaf-requires-clause-new c = base_new c.args.depth c.args.builder.now c.requires.new

pub loop-below-init : goal.loop-below-init
loop-below-init c = c.in_ok-put_leaf.ensures

pub put_level-requires-clause-there : goal.put_level-requires-clause-there
put_level-requires-clause-there c =
    subst (LevelIsThere c.loop-below.below) (sym c.loop-below.invariant) (next_there c.args.builder.now c.requires.there c.args.depth c.loop-below.below c.loop-below-test.true c.requires.deep c.requires.new)

pub put_level-requires-clause-new : goal.put_level-requires-clause-new
put_level-requires-clause-new c =
    subst (AreNew (level_names c.loop-below.below)) (sym c.loop-below.invariant) (next_new c.args.builder.now c.requires.there c.args.depth c.loop-below.below c.loop-below-test.true c.requires.deep c.requires.new)

pub loop-below-preserved : goal.loop-below-preserved
loop-below-preserved c = grown_level c.args.builder.now c.loop-below.builder c.put_level.new.builder c.loop-below.below c.loop-below.invariant c.in_ok-put_level.ensures

pub returns-clause-items : goal.returns-clause-items
returns-clause-items c =
    let whole : c.loop-below.below ≡ c.args.depth = omega (arith, c.loop-below.auto, c.loop-below-test.false) in
    c.loop-below.invariant ∙ ap (λ n. c.args.builder.now ++ any_functions n) whole

pub returns-clause-there : goal.returns-clause-there
returns-clause-there c =
    let whole : c.loop-below.below ≡ c.args.depth = omega (arith, c.loop-below.auto, c.loop-below-test.false) in
    let is : c.loop-below.builder ≡ c.args.builder.now ++ any_functions c.args.depth = c.loop-below.invariant ∙ ap (λ n. c.args.builder.now ++ any_functions n) whole in
    subst (AnyIsThere c.args.depth) (sym is) (chain_there c.args.builder.now c.requires.there c.args.depth c.requires.deep c.requires.new)

pub returns-clause-mean : goal.returns-clause-mean
returns-clause-mean c = λ order mean.
    let whole : c.loop-below.below ≡ c.args.depth = omega (arith, c.loop-below.auto, c.loop-below-test.false) in
    let is : c.loop-below.builder ≡ c.args.builder.now ++ any_functions c.args.depth = c.loop-below.invariant ∙ ap (λ n. c.args.builder.now ++ any_functions n) whole in
    subst (AnyMeans order c.args.depth) (sym is) (chain_means order c.args.builder.now mean c.args.depth c.requires.deep)
