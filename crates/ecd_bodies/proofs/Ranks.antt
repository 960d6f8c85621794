-- Ranks fall along the uses of names.
use Rattle.std.proofs.Common.{ℕ, zero, suc, ◌≡◌, ◌≤◌, List, ap, arith}
use Rattle.ecd_syntax.specs.declared.tree.Rule.{Rule}
use Rattle.ecd_bodies.specs.Reaching.{ReachesWithin, IsRanked}
use Rattle.ecd_bodies.specs.Laws.{RankedNeverReachesBack}

not_above : (text : List Rule) (r : IsRanked text) (steps : ℕ) (a b : List ℕ) → ReachesWithin text steps a b → r.rank b ≤ r.rank a
not_above text r zero a b same = let e : r.rank a ≡ r.rank b = ap r.rank same in omega (arith, e)
not_above text r (suc steps) a b walk = omega (arith, r.falls a walk.0 walk.1, not_above text r steps walk.0 b walk.2)

pub never_reaches_back : RankedNeverReachesBack
never_reaches_back text a b r uses leads = let e : ⊥ = omega (arith, r.falls a b uses, not_above text r leads.steps b a leads.walk) in e
