-- A call returns or is stuck, whatever the program.
use Rattle.std.proofs.Common.{◌≡◌, ℕ, ◌+◌, Bool, true, false, List, [], ◌∷◌, refl, ap, sym, subst}
use Rattle.std.specs.Prelude.{bytes_eq}
use Rattle.ecd_cast.specs.declared.tree.Function.{Function}
use Rattle.ecd_cast.specs.declared.tree.CItem.{CItem}
use Rattle.ecd_cast.specs.declared.tree.CItem.TheVariants.{Struct as AStruct, Function as AFunction}
use Rattle.ecd_cast.specs.declared.value.Value.{Value}
use Rattle.ecd_cast.specs.Memory.{Name, Memory, Event, Enters}
use Rattle.ecd_cast.specs.Meaning.{Run, Falls, Returns, Stuck, Calls, doing, ended, block, frame_of, called, no_calls, with_item, calls_from, calls_of}

-- it does not fall through
abbrev pub Ends : Run → Type 0
Ends (Falls env es) = ⊥
Ends (Returns n es) = Unit {0}
Ends (Stuck r i s es) = Unit {0}

abbrev AllEnd : Calls → Type 0
AllEnd calls = (g : Name) (vs : List Value) (m : Memory) → Ends (calls g vs m)

doing_ends : (es : List Event) (r : Run) → Ends r → Ends (doing es r)
doing_ends es (Falls env ds) e = e
doing_ends es (Returns n ds) e = tt
doing_ends es (Stuck r i s ds) e = tt

ended_ends : (at : ℕ) (r : Run) → Ends (ended at r)
ended_ends at (Falls env es) = tt
ended_ends at (Returns n es) = tt
ended_ends at (Stuck r i s es) = tt

called_ends : (calls : Calls) (at : ℕ) (f : Function) (vs : List Value) (m : Memory) → Ends (called calls at f vs m)
called_ends calls at f vs m =
    doing_ends (Enters ∷ []) (ended at (block calls f.body (record { item = at; statement = 1 }) (frame_of f.params vs ∷ []) m))
    (ended_ends at (block calls f.body (record { item = at; statement = 1 }) (frame_of f.params vs ∷ []) m))

item_ends : (calls : Calls) (at : ℕ) (i : CItem) → AllEnd calls → AllEnd (with_item calls at i)
item_ends calls at (AStruct s) all g vs m = all g vs m
item_ends calls at (AFunction f) all g vs m = by (bytes_eq f.name g) refl
  where
    by : (b : Bool) → b ≡ bytes_eq f.name g → Ends (with_item calls at (AFunction f) g vs m)
    by true e = subst (λ (b : Bool). Ends (elim b [ true ↦ called calls at f vs m | false ↦ calls g vs m ])) e (called_ends calls at f vs m)
    by false e = subst (λ (b : Bool). Ends (elim b [ true ↦ called calls at f vs m | false ↦ calls g vs m ])) e (all g vs m)

all_end : (calls : Calls) (at : ℕ) (items : List CItem) → AllEnd calls → AllEnd (calls_from calls at items)
all_end calls at [] all = all
all_end calls at (i ∷ is) all = all_end (with_item calls at i) (at + 1) is (item_ends calls at i all)

pub calls_end : (items : List CItem) (g : Name) (vs : List Value) (m : Memory) → Ends (calls_of items g vs m)
calls_end items = all_end no_calls 0 items (λ g vs m. tt)
