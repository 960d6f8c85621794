-- What blocks hold behind writes.
use Rattle.std.specs.Prelude.{ℕ, ◌≡◌, ◌≢◌, Bool, true, false, if◌then◌else◌, Some, List, [], ◌∷◌, ◌++◌, slice_get, bytes_eq, nat_eq}
use Rattle.ecd_cast.specs.declared.value.Cell.{Cell}
use Rattle.ecd_cast.specs.Memory.{Name, Memory, Cells, Event, Step, Enters, Leaves, WritesByte, WritesCell, after, with_cell}
use Rattle.ecd_cast.specs.declared.tree.Expr.TheVariants.{Var, Cell as CellOf}
use Rattle.ecd_cast.specs.declared.value.Value.{Value}
use Rattle.ecd_cast.specs.declared.value.Value.TheVariants.{Struct as Str}
use Rattle.ecd_cast.specs.Expressions.{Scopes, Gives, held, cell_named}
use Rattle.ecd_acts.specs.Acts.{Is}
use Rattle.ecd_calculus.specs.Laws.{Spares, written}
use Rattle.ecd_emit.specs.Writes.{puts}

-- the cells of a block behind these events, from those before them
abbrev pub cells_behind : ℕ → List Event → List (Name × Cell) → List (Name × Cell)
cells_behind block [] cells = cells
cells_behind block (WritesCell b x c ∷ es) cells = cells_behind block es (if nat_eq b block then with_cell cells x c else cells)
cells_behind block (WritesByte b o v ∷ es) cells = cells_behind block es cells
cells_behind block (Step ∷ es) cells = cells_behind block es cells
cells_behind block (Enters ∷ es) cells = cells_behind block es cells
cells_behind block (Leaves ∷ es) cells = cells_behind block es cells

-- whether one of the cells has the name
abbrev pub has_cell : List (Name × Cell) → Name → Bool
has_cell [] x = false
has_cell (w ∷ ws) x = if bytes_eq w.0 x then true else has_cell ws x

-- ---- laws

-- a block of cells has the cells that the writes make of it; a written cell holds what was written, and the others what they held; an expression loads what the cell holds
pub record CellsBehind : Type 0 where
  pub block : (es : List Event) (b : ℕ) (m : Memory) (cells : List (Name × Cell)) → slice_get m b ≡ Some (Cells cells) → slice_get (after es m) b ≡ Some (Cells (cells_behind b es cells))
  pub same : (cells : List (Name × Cell)) (x : Name) (c : Cell) → has_cell cells x ≡ true → cell_named (with_cell cells x c) x ≡ held c
  pub other : (cells : List (Name × Cell)) (x y : Name) (c : Cell) → bytes_eq x y ≡ false → cell_named (with_cell cells x c) y ≡ cell_named cells y
  pub kept : (cells : List (Name × Cell)) (x y : Name) (c : Cell) → has_cell (with_cell cells x c) y ≡ has_cell cells y
  pub load : (x c : Name) (env : Scopes) (m : Memory) (b : ℕ) (cells : List (Name × Cell)) (v : Value) → Is (Var x) env m (Str b) → slice_get m b ≡ Some (Cells cells) → cell_named cells c ≡ Gives v → Is (CellOf x c) env m v

-- lists of writes that spare a block
pub record Sparing : Type 0 where
  pub both : (b : ℕ) (es ds : List Event) → Spares b es → Spares b ds → Spares b (es ++ ds)
  pub first : (b : ℕ) (es ds : List Event) → Spares b (es ++ ds) → Spares b es
  pub second : (b : ℕ) (es ds : List Event) → Spares b (es ++ ds) → Spares b ds
  pub turns : (b : ℕ) (W : ℕ → List Event) → ((i : ℕ) → Spares b (W i)) → (i left : ℕ) → Spares b (written W i left)
  pub bytes : (b k from : ℕ) (bytes : List ℕ) → k ≢ b → Spares b (puts k from bytes)
