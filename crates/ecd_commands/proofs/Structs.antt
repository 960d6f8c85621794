-- The struct of a name, looked for item by item.
use Rattle.std.proofs.Common.{◌≡◌, ℕ, zero, suc, ◌+◌, ◌<◌, ◌≤◌, Bool, true, false, List, [], ◌∷◌, length, get_or, drop, arith, refl, ap, sym, ◌∙◌}
use Rattle.std.specs.Prelude.{Some, None, slice_get, bytes_eq, if◌then◌else◌}
use Rattle.std.proofs.Math.Seq.{drop-cons}
use Rattle.ecd_cast.specs.declared.tree.StructDecl.{StructDecl}
use Rattle.ecd_cast.specs.declared.tree.Function.{Function}
use Rattle.ecd_cast.specs.declared.tree.CItem.{CItem}
use Rattle.ecd_cast.specs.declared.tree.CItem.TheVariants.{Struct as AStruct, Function as AFunction}
use Rattle.ecd_cast.specs.Memory.{Name}
use Rattle.ecd_cast.specs.Validity.{structs_of}
use Rattle.ecd_commands.specs.Calls.{struct_named}

-- the items before the i-th are looked at: so many structs, none of the name
pub record Searched (items : List CItem) (name : Name) (i number : ℕ) : Type 0 where
  pub found : struct_named (structs_of items) name ≡ struct_named (structs_of (drop i items)) name
  pub placed : (k : ℕ) → slice_get (structs_of items) (number + k) ≡ slice_get (structs_of (drop i items)) k
  pub few : number ≤ i

-- the struct of the name, and its number
pub record IsFound (items : List CItem) (name : Name) (number : ℕ) (d : StructDecl) : Type 0 where
  pub declared : struct_named (structs_of items) name ≡ Some d
  pub placed : slice_get (structs_of items) number ≡ Some d

rest_at : (items : List CItem) (i : ℕ) (x : CItem) → i < length items → x ≡ get_or items i x → drop i items ≡ x ∷ drop (i + 1) items
rest_at items i x lt is =
    let next : suc i ≡ i + 1 = omega arith in
    drop-cons items i x lt ∙ (λ j. sym is j ∷ drop (next j) items)

pub nothing_searched : (items : List CItem) (name : Name) → Searched items name 0 0
nothing_searched items name = record {
  found = refl;
  placed = λ k. let e : 0 + k ≡ k = omega arith in ap (slice_get (structs_of items)) e;
  few = omega arith;
}

pub past_function : (items : List CItem) (name : Name) (i number : ℕ) (x : CItem) (f : Function) → i < length items → x ≡ get_or items i x → x ≡ AFunction f → Searched items name i number → Searched items name (i + 1) number
past_function items name i number x f lt is kind s =
    let rest : drop i items ≡ AFunction f ∷ drop (i + 1) items = rest_at items i x lt is ∙ (λ j. kind j ∷ drop (i + 1) items) in
    record {
      found = s.found ∙ ap (λ (l : List CItem). struct_named (structs_of l) name) rest;
      placed = λ k. s.placed k ∙ ap (λ (l : List CItem). slice_get (structs_of l) k) rest;
      few = omega (arith, s.few);
    }

pub past_struct : (items : List CItem) (name : Name) (i number : ℕ) (x : CItem) (d : StructDecl) → i < length items → x ≡ get_or items i x → x ≡ AStruct d → bytes_eq d.name name ≡ false → Searched items name i number
    → Searched items name (i + 1) (number + 1)
past_struct items name i number x d lt is kind other s =
    let rest : drop i items ≡ AStruct d ∷ drop (i + 1) items = rest_at items i x lt is ∙ (λ j. kind j ∷ drop (i + 1) items) in
    record {
      found = s.found ∙ ap (λ (l : List CItem). struct_named (structs_of l) name) rest ∙ ap (λ (b : Bool). if b then Some d else struct_named (structs_of (drop (i + 1) items)) name) other;
      placed = λ k. let e : (number + 1) + k ≡ number + suc k = omega arith in
          ap (slice_get (structs_of items)) e ∙ s.placed (suc k) ∙ ap (λ (l : List CItem). slice_get (structs_of l) (suc k)) rest;
      few = omega (arith, s.few);
    }

pub at_struct : (items : List CItem) (name : Name) (i number : ℕ) (x : CItem) (d : StructDecl) → i < length items → x ≡ get_or items i x → x ≡ AStruct d → bytes_eq d.name name ≡ true → Searched items name i number → IsFound items name number d
at_struct items name i number x d lt is kind same s =
    let rest : drop i items ≡ AStruct d ∷ drop (i + 1) items = rest_at items i x lt is ∙ (λ j. kind j ∷ drop (i + 1) items) in
    let e : number ≡ number + 0 = omega arith in
    record {
      declared = s.found ∙ ap (λ (l : List CItem). struct_named (structs_of l) name) rest ∙ ap (λ (b : Bool). if b then Some d else struct_named (structs_of (drop (i + 1) items)) name) same;
      placed = ap (slice_get (structs_of items)) e ∙ s.placed 0 ∙ ap (λ (l : List CItem). slice_get (structs_of l) 0) rest;
    }

drop_all : (items : List CItem) (i : ℕ) → length items ≤ i → drop i items ≡ []
drop_all [] zero le = refl
drop_all [] (suc i) le = refl
drop_all (x ∷ xs) zero le = absurd (omega (arith, le))
drop_all (x ∷ xs) (suc i) le = drop_all xs i (omega (arith, le))

pub all_searched : (items : List CItem) (name : Name) (i number : ℕ) → length items ≤ i → Searched items name i number → struct_named (structs_of items) name ≡ None
all_searched items name i number le s = s.found ∙ ap (λ (l : List CItem). struct_named (structs_of l) name) (drop_all items i le)
