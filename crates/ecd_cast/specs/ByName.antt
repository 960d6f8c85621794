-- Maps and sets of names: what stands under a name.
use Rattle.std.specs.Prelude.{ℕ, Bool, List, Option}
use Rattle.std.specs.BTreeMap.{BTreeMap, get_by}
use Rattle.std.specs.BTreeSet.{BTreeSet, contains_by}
use Rattle.std.specs.Cmp.Lexicographic.{slice_cmp}
use Rattle.std.specs.Ordering.{nat_cmp}
use Rattle.std.specs.declared.vec.Vec.{Vec}
use denote.Ref.{Bor}
use Rattle.ecd_cast.specs.Memory.{Name}

-- what stands under a name
abbrev pub under : {A X : Type 0} → BTreeMap (Vec ℕ A) X → Name → Option X
under m g = get_by (λ k. slice_cmp nat_cmp g k.items) m

-- what stands under a name that is borrowed
abbrev pub named : {X : Type 0} → BTreeMap (Bor (List ℕ)) X → Name → Option X
named m x = get_by (λ k. slice_cmp nat_cmp x k.now) m

-- whether a set has a name
abbrev pub has : BTreeSet (Bor (List ℕ)) → Name → Bool
has s x = contains_by (λ k. slice_cmp nat_cmp x k.now) s
