-- What is known of each function's chains of calls behind some items.
use Rattle.std.specs.Prelude.{ℕ, ◌+◌, List, [], ◌∷◌, Option, Some, None}
use Rattle.ecd_cast.specs.declared.tree.Function.{Function}
use Rattle.ecd_cast.specs.declared.tree.CItem.{CItem}
use Rattle.ecd_cast.specs.declared.tree.CItem.TheVariants.{Struct as AStructDecl, Function as AFunction}
use Rattle.ecd_cbuild.specs.declared.chains.Reach.{Reach}
use Rattle.ecd_cast.specs.Validity.{Chains, block_chain, with_chain}

-- the heaviest chain that begins with each function, behind more items
abbrev pub chains_behind : (Function → ℕ) → Chains → List CItem → Chains
chains_behind weight chains [] = chains
chains_behind weight chains (AStructDecl s ∷ is) = chains_behind weight chains is
chains_behind weight chains (AFunction f ∷ is) = chains_behind weight (with_chain f.name (weight f + block_chain chains f.body) chains) is

abbrev pub calls_in : Option Reach → ℕ
calls_in None = 0
calls_in (Some r) = r.calls

abbrev pub variables_in : Option Reach → ℕ
variables_in None = 0
variables_in (Some r) = r.variables
