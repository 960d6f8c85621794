-- Which arguments a function takes in a memory, and which memories have the kinds of a program's structs.
use Rattle.std.specs.Prelude.{ℕ, Bool, true, false, ◌&&◌, List, [], ◌∷◌, Option, Some, None, slice_get, length, nat_le, bytes_eq, ◌≡◌, IsTrue}
use Rattle.ecd_cast.specs.declared.tree.CItem.{CItem}
use Rattle.ecd_cast.specs.declared.tree.CItem.TheVariants.{Struct as AStruct, Function as AFunction}
use Rattle.ecd_cast.specs.declared.tree.StructDecl.{StructDecl}
use Rattle.ecd_cast.specs.declared.tree.CellInfo.{CellInfo}
use Rattle.ecd_cast.specs.declared.tree.CellKind.{CellKind}
use Rattle.ecd_cast.specs.declared.tree.CellKind.TheVariants.{Number as NumberCell, Pointer as PointerCell}
use Rattle.ecd_cast.specs.declared.tree.Param.{Param}
use Rattle.ecd_cast.specs.declared.tree.ParamKind.{ParamKind}
use Rattle.ecd_cast.specs.declared.tree.ParamKind.TheVariants.{Number as NumberParam, ReadPointer as ReadPointerParam, WritePointer as WritePointerParam, Struct as StructParam}
use Rattle.ecd_cast.specs.Memory.{Name, Memory, Block, Bytes, Cells, Cell, Unset, HoldsNumber, HoldsPointer, Value, Num, Ptr, Str}
use Rattle.ecd_cast.specs.Validity.{structs_of}

-- what a block is for: bytes that are read alone, bytes that are written too, or the cells of a struct, by its number among the structs in text order
pub data BlockKind : Type 0 where
  Fixed Output : BlockKind
  CellsOf : (number : ℕ) → BlockKind

-- ---- memories

-- a pointer's place: a block of bytes that is there, and an offset from 0 to its length
abbrev pub is_place_in : Option Block → ℕ → Bool
is_place_in (Some (Bytes bytes)) offset = nat_le offset (length bytes)
is_place_in (Some (Cells cells)) offset = false
is_place_in None offset = false

abbrev pub is_place : Memory → ℕ → ℕ → Bool
is_place m block offset = is_place_in (slice_get m block) offset

-- what a cell of a kind may hold
abbrev pub may_hold : Memory → CellKind → Cell → Bool
may_hold m kind Unset = true
may_hold m NumberCell (HoldsNumber n) = true
may_hold m PointerCell (HoldsNumber n) = false
may_hold m NumberCell (HoldsPointer block offset) = false
may_hold m PointerCell (HoldsPointer block offset) = is_place m block offset

-- the cells of a struct under their names, each with what it may hold
abbrev pub AreCellsOf : Memory → List CellInfo → List (Name × Cell) → Type 0
AreCellsOf m [] [] = Unit {0}
AreCellsOf m (i ∷ is) (c ∷ cs) = (c.0 ≡ i.name) × IsTrue (may_hold m i.kind c.1) × AreCellsOf m is cs
AreCellsOf m [] (c ∷ cs) = ⊥
AreCellsOf m (i ∷ is) [] = ⊥

abbrev pub AreCellsIn : Memory → Option StructDecl → List (Name × Cell) → Type 0
AreCellsIn m (Some s) cells = AreCellsOf m s.cells cells
AreCellsIn m None cells = ⊥

abbrev pub IsBlockOf : List StructDecl → Memory → BlockKind → Block → Type 0
IsBlockOf structs m Fixed (Bytes bytes) = Unit {0}
IsBlockOf structs m Output (Bytes bytes) = Unit {0}
IsBlockOf structs m (CellsOf number) (Cells cells) = AreCellsIn m (slice_get structs number) cells
IsBlockOf structs m Fixed (Cells cells) = ⊥
IsBlockOf structs m Output (Cells cells) = ⊥
IsBlockOf structs m (CellsOf number) (Bytes bytes) = ⊥

abbrev pub AreBlocksOf : List StructDecl → Memory → List BlockKind → List Block → Type 0
AreBlocksOf structs m [] [] = Unit {0}
AreBlocksOf structs m (k ∷ ks) (b ∷ bs) = IsBlockOf structs m k b × AreBlocksOf structs m ks bs
AreBlocksOf structs m [] (b ∷ bs) = ⊥
AreBlocksOf structs m (k ∷ ks) [] = ⊥

-- A memory whose blocks are of these kinds, and whose cells have the kinds of their structs: a number cell holds a number or nothing, a pointer cell a pointer to a place or nothing.
abbrev pub IsWellKinded : List CItem → List BlockKind → Memory → Type 0
IsWellKinded items kinds m = AreBlocksOf (structs_of items) m kinds m

-- ---- arguments

abbrev pub is_output : Option BlockKind → Bool
is_output (Some Output) = true
is_output (Some Fixed) = false
is_output (Some (CellsOf number)) = false
is_output None = false

abbrev pub is_named : Option StructDecl → Name → Bool
is_named (Some s) x = bytes_eq s.name x
is_named None x = false

-- a block with the cells of the struct of a name
abbrev pub is_struct : List StructDecl → Option BlockKind → Name → Bool
is_struct structs (Some (CellsOf number)) x = is_named (slice_get structs number) x
is_struct structs (Some Fixed) x = false
is_struct structs (Some Output) x = false
is_struct structs None x = false

-- whether a value may be passed for a parameter of a kind
abbrev pub param_takes : List StructDecl → List BlockKind → Memory → ParamKind → Value → Bool
param_takes structs kinds m NumberParam (Num n) = true
param_takes structs kinds m ReadPointerParam (Ptr block offset) = is_place m block offset
param_takes structs kinds m WritePointerParam (Ptr block offset) = is_output (slice_get kinds block) && is_place m block offset
param_takes structs kinds m (StructParam x) (Str block) = is_struct structs (slice_get kinds block) x
param_takes structs kinds m kind v = false

-- as many values as parameters, each of its parameter's kind
abbrev pub params_take : List StructDecl → List BlockKind → Memory → List Param → List Value → Bool
params_take structs kinds m [] [] = true
params_take structs kinds m (p ∷ ps) (v ∷ vs) = param_takes structs kinds m p.kind v && params_take structs kinds m ps vs
params_take structs kinds m [] (v ∷ vs) = false
params_take structs kinds m (p ∷ ps) [] = false

abbrev pub item_takes : List StructDecl → List BlockKind → Memory → Option CItem → List Value → Bool
item_takes structs kinds m (Some (AFunction f)) vs = params_take structs kinds m f.params vs
item_takes structs kinds m (Some (AStruct s)) vs = false
item_takes structs kinds m None vs = false

-- The item of this number is a function, and takes these arguments in a memory whose blocks are of these kinds.
abbrev pub Fits : List CItem → List BlockKind → Memory → ℕ → List Value → Type 0
Fits items kinds m number vs = IsTrue (item_takes (structs_of items) kinds m (slice_get items number) vs)
