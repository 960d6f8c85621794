-- The table of commands: what words can ask for, and the words that ask for it.
use Rattle.std.specs.Prelude.{◌≡◌, ℕ, ◌≤◌, List, [], ◌∷◌, ◌++◌, map, codes, decimal, string_bytes, String}
use Rattle.std.specs.declared.alloc.Global.{Global}
use Rattle.ecd_keyorder.specs.declared.Order.{Order}
use Rattle.ecd_keyorder.specs.declared.Order.TheVariants.{Bytewise, LengthFirst}

-- a schema: the name of its file, the name of its root, how many levels items under `any` may have, and the order in which the keys of maps ascend
pub record SchemaAsked : Type 0 where
  pub file : List ℕ
  pub root : List ℕ
  pub depth : ℕ
  pub order : Order

abbrev pub schema_of : List ℕ → List ℕ → ℕ → Order → SchemaAsked
schema_of file root depth order = record { file = file; root = root; depth = depth; order = order }

-- what words ask for, by the words of the table: files are said by their names
pub data Asked : Type 0 where
  check : SchemaAsked → Asked
  compile : SchemaAsked → Asked
  read : SchemaAsked → (data_file : List ℕ) → Asked
  write : SchemaAsked → (value_file : List ℕ) → (cap : ℕ) → Asked
  copy : SchemaAsked → (data_file : List ℕ) → (cap : ℕ) → Asked
  run : (c_file function data_file : List ℕ) → (steps : ℕ) → Asked
  sample : (entries : ℕ) → Asked

-- digits, and behind them what says that the order is not the bytewise one
abbrev pub with_order : List ℕ → Order → List ℕ
with_order digits Bytewise = digits
with_order digits LengthFirst = digits ++ codes ",length-first"

-- the word of a depth and an order
abbrev pub depth_word : ℕ → Order → List ℕ
depth_word depth order = with_order (decimal depth) order

-- the three words of a schema
abbrev pub schema_words : SchemaAsked → List (List ℕ)
schema_words s = s.file ∷ s.root ∷ depth_word s.depth s.order ∷ []

-- the words behind the first: a number is written in decimal digits without a leading zero
abbrev pub words_behind : Asked → List (List ℕ)
words_behind (check s) = schema_words s
words_behind (compile s) = schema_words s
words_behind (read s d) = schema_words s ++ d ∷ []
words_behind (write s v cap) = schema_words s ++ v ∷ decimal cap ∷ []
words_behind (copy s d cap) = schema_words s ++ d ∷ decimal cap ∷ []
words_behind (run c f d steps) = c ∷ f ∷ d ∷ decimal steps ∷ []
words_behind (sample n) = decimal n ∷ []

-- the first word
abbrev pub command_of : Asked → List ℕ
command_of (check s) = codes "check"
command_of (compile s) = codes "compile"
command_of (read s d) = codes "read"
command_of (write s v cap) = codes "write"
command_of (copy s d cap) = codes "copy"
command_of (run c f d steps) = codes "run"
command_of (sample n) = codes "sample"

-- its numbers are within their ranges
abbrev pub IsInRange : Asked → Type 0
IsInRange (check s) = s.depth ≤ 32
IsInRange (compile s) = s.depth ≤ 32
IsInRange (read s d) = s.depth ≤ 32
IsInRange (write s v cap) = (s.depth ≤ 32) × (cap ≤ 16777216)
IsInRange (copy s d cap) = (s.depth ≤ 32) × (cap ≤ 16777216)
IsInRange (run c f d steps) = (1 ≤ steps) × (steps ≤ 9223372036854775807)
IsInRange (sample n) = (1 ≤ n) × (n ≤ 20000)

-- the bytes of each word
abbrev pub bytes_of : List (String Global) → List (List ℕ)
bytes_of words = map string_bytes words

-- the words ask for it
pub record Asks (words : List (List ℕ)) (asked : Asked) : Type 0 where
  pub spelled : words ≡ command_of asked ∷ words_behind asked
  pub in_range : IsInRange asked

-- the words ask for nothing
abbrev pub AskNothing : List (List ℕ) → Type 0
AskNothing words = (asked : Asked) → Asks words asked → ⊥

-- the words are in the table
abbrev pub IsInTable : List (List ℕ) → Type 0
IsInTable words = (asked : Asked) × Asks words asked

-- this holds of what the words ask for
abbrev pub ForAsked : List (List ℕ) → (Asked → Type 0) → Type 0
ForAsked words P = (asked : Asked) → Asks words asked → P asked

-- words ask for one thing at most
abbrev pub AskOneThing : Type 0
AskOneThing = (words : List (List ℕ)) (one other : Asked) → Asks words one → Asks words other → one ≡ other
