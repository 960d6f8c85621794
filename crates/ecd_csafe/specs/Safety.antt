-- What a call of a valid program does, whatever fitting arguments it has.
use Rattle.std.specs.Prelude.{ℕ, ◌≡◌, ◌<◌, ◌≤◌, List, Some, slice_get, take}
use Rattle.ecd_cast.specs.declared.tree.Function.{Function}
use Rattle.ecd_cast.specs.declared.tree.CItem.{CItem}
use Rattle.ecd_cast.specs.declared.tree.CItem.TheVariants.{Function as AFunction}
use Rattle.ecd_cast.specs.declared.tree.Program.{Program}
use Rattle.ecd_cast.specs.Memory.{Name, Memory, after, most_active}
use Rattle.ecd_cast.specs.declared.value.Value.{Value}
use Rattle.ecd_cast.specs.Meaning.{Run, Falls, Returns, Stuck, events_of, calls_of}
use Rattle.ecd_cast.specs.Validity.{IsValid, call_depth_of}
use Rattle.ecd_cast.specs.Fitting.{BlockKind, IsWellKinded, Fits}

-- the run returns a number, or is stuck for one of the reasons 1 to 5
abbrev pub EndsWell : Run → Type 0
EndsWell (Falls env es) = ⊥
EndsWell (Returns n es) = Unit {0}
EndsWell (Stuck reason item statement es) = (0 < reason) × (reason < 6)

-- a run that ends well, and whose memory has the kinds of the structs after each first part of what it does
pub record IsSafeRun (p : Program) (kinds : List BlockKind) (m : Memory) (r : Run) : Type 0 where
  pub ends : EndsWell r
  pub keeps : (n : ℕ) → IsWellKinded p.items kinds (after (take n (events_of r)) m)

-- the call of a function of a valid program, with arguments that fit it in a memory whose cells have the kinds of their structs
abbrev pub ValidCalls : Type 0
ValidCalls =
    (p : Program) (kinds : List BlockKind) (m : Memory) (number : ℕ) (f : Function) (vs : List Value) →
    IsValid p → slice_get p.items number ≡ Some (AFunction f) → IsWellKinded p.items kinds m → Fits p.items kinds m number vs → IsSafeRun p kinds m (calls_of p.items f.name vs m)

-- never more calls are active in a call than the longest chain of calls has
abbrev pub ActiveCalls : Type 0
ActiveCalls = (items : List CItem) (g : Name) (vs : List Value) (m : Memory) → most_active 0 (events_of (calls_of items g vs m)) ≤ call_depth_of items
