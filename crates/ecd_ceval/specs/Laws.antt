-- Facts about the definitions, as statements.
use Rattle.std.specs.Prelude.{ℕ, ◌≡◌, List, Some, slice_get}
use Rattle.ecd_cast.specs.declared.tree.Program.{Program}
use Rattle.ecd_cast.specs.declared.tree.Function.{Function}
use Rattle.ecd_cast.specs.declared.tree.CItem.TheVariants.{Function as AFunction}
use Rattle.ecd_cast.specs.declared.value.Value.{Value}
use Rattle.ecd_cast.specs.Memory.{Memory}
use Rattle.ecd_cast.specs.Meaning.{calls_of}
use Rattle.ecd_cast.specs.Validity.{IsValid}
use Rattle.ecd_ceval.specs.Machines.{meaning}

-- In a valid program the function of an item number does what its name means in the whole program.
abbrev pub NumbersMeanNames : Type 0
NumbersMeanNames = (p : Program) (number : ℕ) (f : Function) (vs : List Value) (m : Memory) → IsValid p → slice_get p.items number ≡ Some (AFunction f) → meaning p.items number vs m ≡ calls_of p.items f.name vs m
