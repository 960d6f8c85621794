-- Writes keep the kinds of cells.
use Rattle.std.proofs.Common.{◌≡◌, ℕ, zero, suc, ◌<◌, Bool, true, List, [], ◌∷◌, length, get_or, set, refl, sym, subst, arith}
use Rattle.std.specs.Prelude.{Some, slice_get, slice_set, IsTrue}
use Rattle.std.proofs.lemmas.List.{map-set}
use Rattle.ecd_cast.specs.declared.tree.CellInfo.{CellInfo}
use Rattle.ecd_cast.specs.declared.tree.CellKind.{CellKind}
use Rattle.ecd_cast.specs.declared.tree.CellKind.TheVariants.{Number as NumberCell, Pointer as PointerCell}
use Rattle.ecd_cast.specs.declared.tree.StructDecl.{StructDecl}
use Rattle.ecd_cast.specs.declared.value.Cell.{Cell}
use Rattle.ecd_cast.specs.declared.value.Cell.TheVariants.{Unset, Number as HoldsNumber, Bytes as HoldsPointer}
use Rattle.ecd_cast.specs.Memory.{Name, Memory, Block}
use Rattle.ecd_cast.specs.Fitting.{is_place, is_place_in, may_hold, AreCellsOf}
use Rattle.ecd_ceval.specs.declared.blocks.Held.{Held}
use Rattle.ecd_ceval.specs.declared.blocks.Held.TheVariants.{Fixed as HeldFixed, Output as HeldOutput, Cells as HeldCells}
use Rattle.ecd_ceval.specs.Blocks.{named, block_of, memory_of, IsHeld, AreHeld, AreAllHeld}
use Rattle.ecd_ceval.specs.Writes.{kind_holds}

-- two memories with the same places for pointers
pub record SamePlaces (a b : Memory) : Type 0 where
  pub same : (block offset : ℕ) → is_place a block offset ≡ is_place b block offset

holds_same : (a b : Memory) (kind : CellKind) (c : Cell) → SamePlaces a b → may_hold a kind c ≡ may_hold b kind c
holds_same a b kind Unset s = refl
holds_same a b NumberCell (HoldsNumber n) s = refl
holds_same a b PointerCell (HoldsNumber n) s = refl
holds_same a b NumberCell (HoldsPointer block offset) s = refl
holds_same a b PointerCell (HoldsPointer block offset) s = s.same block offset

cells_same : (a b : Memory) (is : List CellInfo) (cs : List (Name × Cell)) → SamePlaces a b → AreCellsOf a is cs → AreCellsOf b is cs
cells_same a b [] [] s h = tt
cells_same a b (i ∷ is) (c ∷ cs) s h = (h.0, subst (λ (t : Bool). IsTrue t) (holds_same a b i.kind c.1 s) h.1, cells_same a b is cs s h.2)
cells_same a b [] (c ∷ cs) s h = absurd h
cells_same a b (i ∷ is) [] s h = absurd h

held_same : (structs : List StructDecl) (a b : Memory) (x : Held) → SamePlaces a b → IsHeld structs a x → IsHeld structs b x
held_same structs a b (HeldFixed bytes) s h = tt
held_same structs a b (HeldOutput bytes) s h = tt
held_same structs a b (HeldCells number d cells) s h = (h.0, h.1, cells_same a b d.now.cells (named d.now.cells cells.items) s h.2)

all_same : (structs : List StructDecl) (a b : Memory) (xs : List Held) → SamePlaces a b → AreHeld structs a xs → AreHeld structs b xs
all_same structs a b [] s h = tt
all_same structs a b (x ∷ xs) s h = (held_same structs a b x s h.0, all_same structs a b xs s h.1)

-- one block, and one that takes its place
pub at_block : (structs : List StructDecl) (m : Memory) (xs : List Held) (i : ℕ) (d x : Held) → i < length xs → get_or xs i d ≡ x → AreHeld structs m xs → IsHeld structs m x
at_block structs m [] i d x lt e h = absurd (omega arith)
at_block structs m (y ∷ ys) zero d x lt e h = subst (λ (z : Held). IsHeld structs m z) e h.0
at_block structs m (y ∷ ys) (suc i) d x lt e h = at_block structs m ys i d x (omega arith) e h.1

with_block : (structs : List StructDecl) (m : Memory) (xs : List Held) (i : ℕ) (x : Held) → IsHeld structs m x → AreHeld structs m xs → AreHeld structs m (set xs i x)
with_block structs m [] i x k h = h
with_block structs m (y ∷ ys) zero x k h = (k, h.1)
with_block structs m (y ∷ ys) (suc i) x k h = (h.0, with_block structs m ys i x k h.1)

-- the places of a memory with another block, where that block has the same
places_in : (m : Memory) (i : ℕ) (b : Block) → ((offset : ℕ) → is_place m i offset ≡ is_place_in (Some b) offset) → (j offset : ℕ) → is_place m j offset ≡ is_place (slice_set m i b) j offset
places_in [] i b h j offset = refl
places_in (c ∷ cs) zero b h zero offset = h offset
places_in (c ∷ cs) zero b h (suc j) offset = refl
places_in (c ∷ cs) (suc i) b h zero offset = refl
places_in (c ∷ cs) (suc i) b h (suc j) offset = places_in cs i b h j offset

pub places_kept : (m : Memory) (i : ℕ) (b : Block) → ((offset : ℕ) → is_place m i offset ≡ is_place_in (Some b) offset) → SamePlaces m (slice_set m i b)
places_kept m i b h = record { same = places_in m i b h }

-- a cell that may hold what it is set to
pub cells_set : (m : Memory) (is : List CellInfo) (cs : List Cell) (at : ℕ) (c : Cell) → kind_holds m (slice_get is at) c ≡ true → AreCellsOf m is (named is cs) → AreCellsOf m is (named is (set cs at c))
cells_set m [] cs at c k h = absurd cc
cells_set m (i ∷ is) [] at c k h = h
cells_set m (i ∷ is) (d ∷ cs) zero c k h = (h.0, subst (λ (t : Bool). IsTrue t) (sym k) refl, h.2)
cells_set m (i ∷ is) (d ∷ cs) (suc at) c k h = (h.0, h.1, cells_set m is cs at c k h.2)

-- a block is put in the place of one with the same places
pub kept_by : (structs : List StructDecl) (blocks : List Held) (i : ℕ) (x : Held) → ((offset : ℕ) → is_place (memory_of blocks) i offset ≡ is_place_in (Some (block_of x)) offset) →
    (AreHeld structs (memory_of blocks) blocks → IsHeld structs (memory_of blocks) x) → AreAllHeld structs blocks → AreAllHeld structs (set blocks i x)
kept_by structs blocks i x places gives h =
    let m : Memory = memory_of blocks in
    let m' : Memory = slice_set m i (block_of x) in
    let s = places_kept m i (block_of x) places in
    record {
      all =
          subst (λ (n : Memory). AreHeld structs n (set blocks i x)) (sym (map-set block_of blocks i x))
          (with_block structs m' blocks i x (held_same structs m m' x s (gives h.all)) (all_same structs m m' blocks s h.all));
    }
