-- The functions over heads among the items of a program.
use Rattle.std.specs.Prelude.{ℕ, ◌<◌, ◌≤◌, ◌≡◌, ◌≢◌, ◌↔◌, List, ◌∷◌, ◌++◌, codes, drop, Ok}
use Rattle.std.specs.Int.{w16, w32, w64}
use Rattle.ecd_cast.specs.declared.tree.CItem.{CItem}
use Rattle.ecd_cast.specs.Meaning.{calls_of}
use Rattle.ecd_head.specs.declared.Head.{Head}
use Rattle.ecd_head.specs.Fault.{head_at}
use Rattle.ecd_emit.specs.Windows.{IsBytes, IsEnd}
use Rattle.ecd_fixed_heads.specs.Firsts.{size_from, least_from}
use Rattle.ecd_fixed_heads.specs.Meanings.{LoadsNumber, OfFirst, HeadArgument, HeadEnd, HeadWithin, HeadIsAt, HeadStands, end_within}
use Rattle.ecd_fixed_heads.specs.Heads.{head_names, load_be16, load_be32, load_be64, head_size, head_least, head_argument, head_end, head_within}
use Rattle.ecd_emit.specs.Among.{AreNew, IsAmong}

-- the functions over heads are there, so that they may be called
pub record HeadsAreThere (items : List CItem) : Type 0 where
  pub be16 : IsAmong load_be16 items
  pub be32 : IsAmong load_be32 items
  pub be64 : IsAmong load_be64 items
  pub size : IsAmong head_size items
  pub least : IsAmong head_least items
  pub argument : IsAmong head_argument items
  pub end : IsAmong head_end items
  pub within : IsAmong head_within items

-- each of them means what it is to mean
pub record HeadsMean (items : List CItem) : Type 0 where
  pub be16 : LoadsNumber w16 1 (calls_of items (codes "load_be16"))
  pub be32 : LoadsNumber w32 5 (calls_of items (codes "load_be32"))
  pub be64 : LoadsNumber w64 13 (calls_of items (codes "load_be64"))
  pub size : OfFirst size_from 14 (calls_of items (codes "head_size"))
  pub least : OfFirst least_from 12 (calls_of items (codes "head_least"))
  pub argument : HeadArgument (calls_of items (codes "head_argument"))
  pub end : HeadEnd (calls_of items (codes "head_end"))
  pub within : HeadWithin (calls_of items (codes "head_within"))

-- ---- laws

-- Whatever is appended, the functions over heads are still there. Where no function in it has one of their names, each of them still means the same.
pub record HeadsAreKept : Type 0 where
  pub there : (items more : List CItem) → HeadsAreThere items → HeadsAreThere (items ++ more)
  pub mean : (items more : List CItem) → AreNew head_names more → HeadsMean items → HeadsMean (items ++ more)

-- a head and its size are read at a place exactly where the head can be written and its shortest bytes, which are so many, stand there
abbrev pub HeadsAreRead : Type 0
HeadsAreRead = (at size : ℕ) (bytes : List ℕ) (head : Head) → IsBytes bytes → (head_at (drop at bytes) ≡ Ok (head, size)) ↔ HeadIsAt bytes at size head

-- Where size_from is 0, no head begins with the byte. Else some head does, and each has so many bytes and an argument of at least least_from.
pub record FirstBytesTell : Type 0 where
  pub none : (first : ℕ) → first < 256 → size_from first ≡ 0 → (size : ℕ) (rest : List ℕ) (head : Head) → head_at (first ∷ rest) ≢ Ok (head, size)
  pub some : (first : ℕ) → first < 256 → size_from first ≢ 0 → (head : Head) × (rest : List ℕ) × (head_at (first ∷ rest) ≡ Ok (head, size_from first))
  pub each : (first size : ℕ) (rest : List ℕ) (head : Head) → first < 256 → head_at (first ∷ rest) ≡ Ok (head, size) → (size ≡ size_from first) × (least_from first ≤ head.arg)

-- what head_within answers is the one place where such a head ends, or 0
abbrev pub HeadsEnd : Type 0
HeadsEnd = (major lo hi at : ℕ) (bytes : List ℕ) → IsBytes bytes → IsEnd (HeadStands major lo hi bytes at) (end_within major lo hi at (head_at (drop at bytes)))
