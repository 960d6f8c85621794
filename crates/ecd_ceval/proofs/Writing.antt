-- Cells by their names, and what a write does.
use Rattle.std.proofs.Common.{◌≡◌, ℕ, zero, suc, ◌<◌, Bool, true, false, List, [], ◌∷◌, length, get_or, set, take, refl, ap, sym, subst, ◌∙◌, arith}
use Rattle.std.specs.Prelude.{Option, Some, None, slice_get, nat_le, if◌then◌else◌, bytes_eq, Vec}
use denote.Bor.{Bor}
use Rattle.std.specs.Option.{option_map}
use Rattle.std.specs.declared.alloc.Global.{Global}
use Rattle.std.proofs.lemmas.List.{map-set, length-set}
use Rattle.std.proofs.lemmas.Option.{slice_get-map, slice_get-get_or}
use Rattle.std.proofs.Math.Seq.{map-set_same}
use Rattle.std.proofs.lemmas.Slice.Eq.{bytes_eq-Decides}
use Rattle.ecd_cast.specs.declared.tree.CellInfo.{CellInfo}
use Rattle.ecd_cast.specs.declared.tree.StructDecl.{StructDecl}
use Rattle.ecd_cast.specs.declared.value.Cell.{Cell}
use Rattle.ecd_cast.specs.Memory.{Name, Bytes, Cells, WritesByte, WritesCell, with_cell, with_byte_in, with_cell_in}
use Rattle.ecd_cast.specs.Fitting.{is_place_in, AreCellsOf}
use Rattle.ecd_cast.specs.Expressions.{Fails, held, cell_named}
use Rattle.ecd_ceval.specs.declared.blocks.Held.{Held}
use Rattle.ecd_ceval.specs.declared.blocks.Held.TheVariants.{Output as HeldOutput, Cells as HeldCells}
use Rattle.ecd_ceval.specs.Blocks.{named, block_of, memory_of, lasting_of, OutputOf}
use Rattle.ecd_ceval.specs.Writes.{IsNoCell, IsFirstCell, IsWritten, MayWrite, MayWriteIn}
use Rattle.ecd_ceval.proofs.Keeping.{at_block, cells_set, kept_by}

-- ---- the first cell of a name

pub no_more : (x : Name) (is : List CellInfo) (at n : ℕ) (i d : CellInfo) → n ≡ suc at → at < length is → i ≡ get_or is at d → bytes_eq i.name x ≡ false → IsNoCell x (take at is) → IsNoCell x (take n is)
no_more x is at n i d e lt h k none = subst (λ j. IsNoCell x (take j is)) (sym e) (by is at i d lt h k none)
  where
    by : (is : List CellInfo) (at : ℕ) (i d : CellInfo) → at < length is → i ≡ get_or is at d → bytes_eq i.name x ≡ false → IsNoCell x (take at is) → IsNoCell x (take (suc at) is)
    by [] at i d lt h k none = absurd (omega arith)
    by (j ∷ js) zero i d lt h k none = (subst (λ (y : CellInfo). bytes_eq y.name x ≡ false) h k, tt)
    by (j ∷ js) (suc at) i d lt h k none = (none.0, by js at i d (omega arith) h k none.1)

pub first_here : (x : Name) (is : List CellInfo) (at : ℕ) (i d : CellInfo) → at < length is → i ≡ get_or is at d → bytes_eq i.name x ≡ true → IsNoCell x (take at is) → IsFirstCell x is at
first_here x [] at i d lt h k none = absurd (omega arith)
first_here x (j ∷ js) zero i d lt h k none = subst (λ (y : CellInfo). bytes_eq y.name x ≡ true) h k
first_here x (j ∷ js) (suc at) i d lt h k none = (none.0, first_here x js at i d (omega arith) h k none.1)

-- a test that is known
met : {A : Type 0} (b : Bool) (x y : A) → b ≡ true → (if b then x else y) ≡ x
met true x y e = refl
met false x y e = absurd cc

unmet : {A : Type 0} (b : Bool) (x y : A) → b ≡ false → (if b then x else y) ≡ y
unmet true x y e = absurd cc
unmet false x y e = refl

pub cell_first : (x : Name) (is : List CellInfo) (cs : List Cell) (at : ℕ) (c : Cell) → IsFirstCell x is at → slice_get cs at ≡ Some c → held c ≡ cell_named (named is cs) x
cell_first x [] cs at c h e = absurd h
cell_first x (i ∷ is) [] zero c h e = absurd cc
cell_first x (i ∷ is) [] (suc at) c h e = absurd cc
cell_first x (i ∷ is) (d ∷ cs) zero c h e = let same : d ≡ c = cc in ap held (sym same) ∙ sym (met (bytes_eq i.name x) (held d) (cell_named (named is cs) x) h)
cell_first x (i ∷ is) (d ∷ cs) (suc at) c h e = cell_first x is cs at c h.1 e ∙ sym (unmet (bytes_eq i.name x) (held d) (cell_named (named is cs) x) h.0)

pub cell_past : (x : Name) (is : List CellInfo) (cs : List Cell) (at : ℕ) → IsFirstCell x is at → slice_get cs at ≡ None → Fails 0 ≡ cell_named (named is cs) x
cell_past x [] cs at h e = absurd h
cell_past x (i ∷ is) [] at h e = refl
cell_past x (i ∷ is) (d ∷ cs) zero h e = absurd cc
cell_past x (i ∷ is) (d ∷ cs) (suc at) h e = cell_past x is cs at h.1 e ∙ sym (unmet (bytes_eq i.name x) (held d) (cell_named (named is cs) x) h.0)

pub cell_none : (x : Name) (is : List CellInfo) (cs : List Cell) → IsNoCell x is → Fails 0 ≡ cell_named (named is cs) x
cell_none x [] cs h = refl
cell_none x (i ∷ is) [] h = refl
cell_none x (i ∷ is) (d ∷ cs) h = cell_none x is cs h.1 ∙ sym (unmet (bytes_eq i.name x) (held d) (cell_named (named is cs) x) h.0)

same_name : (a b : Name) → bytes_eq a b ≡ true → a ≡ b
same_name a b e = (bytes_eq-Decides a b).0 e

pub set_first : (x : Name) (is : List CellInfo) (cs : List Cell) (at : ℕ) (c : Cell) → IsFirstCell x is at → named is (set cs at c) ≡ with_cell (named is cs) x c
set_first x [] cs at c h = absurd h
set_first x (i ∷ is) [] at c h = refl
set_first x (i ∷ is) (d ∷ cs) zero c h =
    ap (λ y. (y, c) ∷ named is cs) (same_name i.name x h) ∙ sym (met (bytes_eq i.name x) ((x, c) ∷ named is cs) ((i.name, d) ∷ with_cell (named is cs) x c) h)
set_first x (i ∷ is) (d ∷ cs) (suc at) c h =
    ap (λ l. (i.name, d) ∷ l) (set_first x is cs at c h.1) ∙ sym (unmet (bytes_eq i.name x) ((x, c) ∷ named is cs) ((i.name, d) ∷ with_cell (named is cs) x c) h.0)

-- ---- writes

-- the block at a place, as the memory has it
block_there : (blocks : List Held) (i : ℕ) (d b : Held) → i < length blocks → get_or blocks i d ≡ b → slice_get (memory_of blocks) i ≡ Some (block_of b)
block_there blocks i d b lt e = slice_get-map block_of blocks i ∙ ap (option_map block_of) (slice_get-get_or blocks i d lt ∙ ap Some e)

pub byte_written : (blocks : List Held) (i at byte : ℕ) (d : Held) (bytes bytes' : Vec ℕ Global) → i < length blocks → get_or blocks i d ≡ HeldOutput bytes → bytes'.items ≡ set bytes.items at byte →
    IsWritten (WritesByte i at byte) blocks (set blocks i (HeldOutput bytes'))
byte_written blocks i at byte d bytes bytes' lt e h = record {
  memory = map-set block_of blocks i (HeldOutput bytes') ∙ (ap (λ l. set (memory_of blocks) i (Bytes l)) h ∙ ap (λ o. with_byte_in o at byte (memory_of blocks) i) (sym there));
  lasting = map-set_same lasting_of blocks i (HeldOutput bytes') d (ap OutputOf long ∙ ap lasting_of (sym e));
  kept = λ structs. kept_by structs blocks i (HeldOutput bytes') (λ offset. ap (λ o. is_place_in o offset) there ∙ ap (λ n. nat_le offset n) (sym long)) (λ all. tt);
}
  where
    long : length bytes'.items ≡ length bytes.items
    long = ap length h ∙ length-set bytes.items at byte

    there : slice_get (memory_of blocks) i ≡ Some (Bytes bytes.items)
    there = block_there blocks i d (HeldOutput bytes) lt e

pub cell_written : (blocks : List Held) (i number at : ℕ) (x : Name) (c : Cell) (d : Held) (s : Bor StructDecl) (cells cells' : Vec Cell Global) → i < length blocks → get_or blocks i d ≡ HeldCells number s cells → cells'.items ≡ set cells.items at c →
    MayWrite blocks i x c at → IsWritten (WritesCell i x c) blocks (set blocks i (HeldCells number s cells'))
cell_written blocks i number at x c d s cells cells' lt e h w = record {
  memory =
      map-set block_of blocks i (HeldCells number s cells') ∙
      (ap (λ l. set (memory_of blocks) i (Cells l)) (ap (named s.now.cells) h ∙ set_first x s.now.cells cells.items at c may.0) ∙ ap (λ o. with_cell_in o x c (memory_of blocks) i) (sym there));
  lasting = map-set_same lasting_of blocks i (HeldCells number s cells') d (ap lasting_of (sym e));
  kept = λ structs. kept_by structs blocks i (HeldCells number s cells') (λ offset. ap (λ o. is_place_in o offset) there)
      (λ all. let was = at_block structs (memory_of blocks) blocks i d (HeldCells number s cells) lt e all in
      (was.0, ap length h ∙ (length-set cells.items at c ∙ was.1), subst (λ (l : List Cell). AreCellsOf (memory_of blocks) s.now.cells (named s.now.cells l)) (sym h) (cells_set (memory_of blocks) s.now.cells cells.items at c may.1 was.2)));
}
  where
    there : slice_get (memory_of blocks) i ≡ Some (Cells (named s.now.cells cells.items))
    there = block_there blocks i d (HeldCells number s cells) lt e

    may : MayWriteIn (memory_of blocks) (Some (HeldCells number s cells)) x c at
    may = subst (λ (o : Option Held). MayWriteIn (memory_of blocks) o x c at) (slice_get-get_or blocks i d lt ∙ ap Some e) w.may
