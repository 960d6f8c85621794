-- What a compiled program does.
use Rattle.std.specs.Prelude.{ℕ, ◌+◌, ◌^◌, ◌<◌, ◌≤◌, ◌≡◌, ◌≢◌, List, [], ◌∷◌, length, map, codes, slice_get, Some}
use Rattle.ecd_cast.specs.declared.tree.CItem.{CItem}
use Rattle.ecd_cast.specs.declared.tree.Program.{Program}
use Rattle.ecd_cast.specs.declared.value.Value.TheVariants.{Number as Num, Bytes as Ptr, Struct as Str}
use Rattle.ecd_cast.specs.declared.value.Cell.TheVariants.{Number as HoldsNumber}
use Rattle.ecd_cast.specs.Memory.{Memory, Bytes, Event, WritesCell, writes_of, most_active}
use Rattle.ecd_cast.specs.Meaning.{Run, Returns, calls_of}
use Rattle.ecd_cast.specs.Validity.{IsValid, structs_of, functions_of, function_names}
use Rattle.ecd_compile.specs.Reader.{unit_struct, reader_params}
use Rattle.ecd_cast.specs.Spelling.{IsSpelling}
use Rattle.ecd_item_laws.specs.declared.item.Item.TheVariants.{Uint}
use Rattle.ecd_item_laws.specs.Encoding.{encoding}
use Rattle.ecd_judge.specs.declared.refusal.Refusal.{Refusal}
use Rattle.ecd_judge.specs.Request.{Request}
use Rattle.ecd_judge.specs.Schema.{IsTold}
use Rattle.ecd_compile.specs.Schema.{IsNumber, HasCause}

-- the call returns n, writes exactly these, and never has more calls active than the depth
pub record Gives (run : Run) (n : ℕ) (writes : List Event) (depth : ℕ) : Type 0 where
  pub events : List Event
  pub returns : run ≡ Returns n events
  pub wrote : writes_of events ≡ writes
  pub within : most_active 0 events ≤ depth

-- read_0 on len bytes from an offset of a block, with a struct
abbrev pub reading : List CItem → (block offset len out : ℕ) → Memory → Run
reading items block offset len out m = calls_of items (codes "read_0") (Ptr block offset ∷ Num len ∷ Str out ∷ []) m

-- on every buffer, from any offset of its block, read_0 takes the one byte n and sets unit to 0, and else returns 0 and writes nothing
pub record ReadsByte (n : ℕ) (p : Program) : Type 0 where
  pub takes :
      (block offset len out : ℕ) (m : Memory) (bytes : List ℕ) → slice_get m block ≡ Some (Bytes bytes) → offset + len ≤ length bytes → len < 2 ^ 62 →
      1 ≤ len → slice_get bytes offset ≡ Some n → Gives (reading p.items block offset len out m) 1 (WritesCell out (codes "unit") (HoldsNumber 0) ∷ []) p.depth
  pub refuses :
      (block offset len out : ℕ) (m : Memory) (bytes : List ℕ) → slice_get m block ≡ Some (Bytes bytes) → offset + len ≤ length bytes → len < 2 ^ 62 →
      (1 ≤ len → slice_get bytes offset ≢ Some n) → Gives (reading p.items block offset len out m) 0 [] p.depth

-- The interface of a file: its one struct s0 has the one number cell unit, and its one function is read_0, which takes a buffer, the buffer's length and the struct.
pub record HasInterface (items : List CItem) : Type 0 where
  pub structs : structs_of items ≡ unit_struct ∷ []
  pub names : function_names items ≡ codes "read_0" ∷ []
  pub params : map (λ f. f.params) (functions_of items) ≡ reader_params ∷ []

-- the schema stands for a number that the program reads, and the text spells the program, which has a spelling and is valid
pub record IsCompiled (q : Request) (text : List ℕ) (p : Program) : Type 0 where
  pub number : ℕ
  pub is_number : IsNumber q number
  pub spells : IsSpelling p text
  pub valid : IsValid p
  pub interface : HasInterface p.items
  pub reads : ReadsByte number p

-- the one byte that is taken for a number is the encoding of the number as an item (RFC 8949, sections 3.1 and 4.2.1)
abbrev pub IsEncodingOfNumber : Type 0
IsEncodingOfNumber = (q : Request) (number : ℕ) → IsNumber q number → encoding (Uint number) ≡ number ∷ []

-- a schema that can be compiled has no cause to be refused
abbrev pub IsNeverRefused : Type 0
IsNeverRefused = (q : Request) (number : ℕ) (r : Refusal) → IsNumber q number → IsTold r → HasCause q r → ⊥
