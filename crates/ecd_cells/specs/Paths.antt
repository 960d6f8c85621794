-- The names of cells: paths through a shape, with an ending that tells what a cell holds.
use Rattle.std.specs.Prelude.{ℕ, List, [], ◌∷◌, ◌++◌, codes, decimal}
use Rattle.ecd_cast.specs.declared.tree.CellKind.TheVariants.{Number, Pointer}
use Rattle.ecd_cast.specs.declared.tree.CellInfo.{CellInfo}

abbrev pub Path : Type 0
Path = List ℕ

-- where the walk of a struct begins
abbrev pub start : Path
start = codes "v"

-- the part of this number
abbrev pub part : Path → ℕ → Path
part path number = path ++ (codes "_" ++ decimal number)

-- the number of an alternative or way
abbrev pub choice_name : Path → Path
choice_name path = path ++ codes "_k"

-- whether an optional part is there
abbrev pub flag_name : Path → Path
flag_name path = path ++ codes "_h"

-- a pointer, a number of bytes, and a number of elements or pairs
abbrev pub pointer_name : Path → Path
pointer_name path = path ++ codes "_p"

abbrev pub length_name : Path → Path
length_name path = path ++ codes "_n"

abbrev pub count_name : Path → Path
count_name path = path ++ codes "_m"

-- the number of a tag, and where its content is
abbrev pub tag_name : Path → Path
tag_name path = path ++ codes "_t"

abbrev pub content_path : Path → Path
content_path path = path ++ codes "_c"

-- the one cell of a struct without another
abbrev pub unit_name : Path
unit_name = codes "unit"

abbrev pub a_number : Path → CellInfo
a_number name = record { name = name; kind = Number }

abbrev pub a_pointer : Path → CellInfo
a_pointer name = record { name = name; kind = Pointer }
