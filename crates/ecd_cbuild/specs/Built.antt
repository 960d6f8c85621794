-- What holds of a builder's items and of a finished program.
use Rattle.std.specs.Prelude.{ℕ, ◌≡◌, ◌<◌, ◌≤◌, ◌^◌, List, [], ◌∷◌, ◌++◌, length, take}
use Rattle.std.specs.BTreeMap.{BTreeMap}
use Rattle.std.specs.declared.vec.Vec.{Vec}
use Rattle.ecd_cast.specs.declared.tree.CItem.{CItem}
use Rattle.ecd_cast.specs.declared.tree.Program.{Program}
use Rattle.ecd_cbuild.specs.declared.chains.Reach.{Reach}
use Rattle.ecd_cast.specs.Memory.{Name}
use Rattle.ecd_cast.specs.Validity.{IsValidAfter, faults_from, call_depth_of, spaces_of, variables_of}
use Rattle.ecd_cbuild.specs.Chains.{chains_behind, calls_in, variables_in}
use Rattle.ecd_cast.specs.ByName.{under}
use Rattle.ecd_cast.specs.Spelling.{AreSpelledItems, IsSpelledProgram}

-- the map has the longest chain and the most variables of a chain that begins with each function of the items
pub record Reaches {A : Type 0} (items : List CItem) (reaches : BTreeMap (Vec ℕ A) Reach) : Type 0 where
  pub calls_are : (g : Name) → calls_in (under reaches g) ≡ chains_behind (λ f. 1) (λ h. 0) items g
  pub variables_are : (g : Name) → variables_in (under reaches g) ≡ chains_behind variables_of (λ h. 0) items g

pub record IsBuilt {A : Type 0} (items : List CItem) (depth spaces : ℕ) (reaches : BTreeMap (Vec ℕ A) Reach) : Type 0 where
  pub sound : faults_from [] items 0 ≡ []
  pub spelled : AreSpelledItems items
  pub counted : length items < 2 ^ 32
  pub depth_is : depth ≡ call_depth_of items
  pub spaces_are : spaces ≡ spaces_of items
  pub reached : Reaches items reaches

pub record IsFile (p : Program) (spaces : ℕ) : Type 0 where
  pub sound : faults_from [] p.items 0 ≡ []
  pub spelled : IsSpelledProgram p
  pub counted : length p.items < 2 ^ 32
  pub depth_is : p.depth ≡ call_depth_of p.items
  pub spaces_are : spaces ≡ spaces_of p.items

-- what is known of the chains of some items
pub record Tallied {A : Type 0} (items : List CItem) (reaches : BTreeMap (Vec ℕ A) Reach) (most : Reach) : Type 0 where
  pub reached : Reaches items reaches
  pub calls_are : most.calls ≡ call_depth_of items
  pub variables_are : most.variables ≡ spaces_of items

-- each of the items is valid behind those before it
abbrev pub AreValidAfter : (before items : List CItem) → Type 0
AreValidAfter before [] = Unit {0}
AreValidAfter before (i ∷ is) = IsValidAfter before i × AreValidAfter (before ++ i ∷ []) is

-- so many of the items stand behind the old ones
pub record GrewByFirst (old items new : List CItem) : Type 0 where
  pub count : ℕ
  pub within : count ≤ length items
  pub are : new ≡ old ++ take count items
