-- Reading an item from left to right, with the first fault that is met: what the code does, as a function of the bytes.
use Rattle.std.specs.Prelude.{ℕ, zero, suc, ◌+◌, ◌-◌, Bool, true, false, List, [], ◌∷◌, length, take, drop, Option, Some, None, Result, Ok, Err, nat_lt, ◌==◌, if◌then◌else◌}
use Rattle.std.specs.Str.{is_utf8}
use Rattle.std.specs.declared.cmp.Ordering.{Ordering}
use Rattle.std.specs.declared.cmp.Ordering.TheVariants.{Less, Equal, Greater}
use Rattle.ecd_head.specs.declared.HeadFault.{HeadFault}
use Rattle.ecd_head.specs.declared.HeadFault.TheVariants as h
use Rattle.ecd_keyorder.specs.declared.Order.{Order}
use Rattle.ecd_keyorder.specs.Order.{comparison}
use Rattle.ecd_head.specs.declared.Head.{Head}
use Rattle.ecd_head.specs.Fault.{head_at}
use Rattle.ecd_item_laws.specs.declared.fault.Cause.{Cause}
use Rattle.ecd_item_laws.specs.declared.fault.Cause.TheVariants as c
use Rattle.ecd_item_laws.specs.declared.fault.Fault.{Fault}
use Rattle.ecd_item_laws.specs.declared.item.Item.{Item}
use Rattle.ecd_item_laws.specs.declared.item.Item.TheVariants.{Uint, Nint, Bytes, Text, Array, Map, Tag, Simple}
use Rattle.ecd_item_laws.specs.declared.item.Pair.{Pair}

-- What is read: a value, the place behind it and the bytes from there on.
pub record Taken (A : Type 0) : Type 0 where
  pub value : A
  pub at : ℕ
  pub rest : List ℕ

-- A reader is given a place and the bytes from there on.
abbrev pub Reader : Type 0 → Type 0
Reader A = ℕ → List ℕ → Result (Taken A) Fault

infixl 10 ◌>>=◌
abbrev pub ◌>>=◌ : {A B : Type 0} → Result A Fault → (A → Result B Fault) → Result B Fault
(Ok x) >>= f = f x
(Err e) >>= f = Err e

abbrev pub refused : {A : Type 0} → ℕ → Cause → Result A Fault
refused at cause = Err record { place = at; cause = cause }

abbrev pub taken : {A : Type 0} → A → ℕ → List ℕ → Result (Taken A) Fault
taken x at rest = Ok record { value = x; at = at; rest = rest }

-- The cause of a head's fault.
abbrev pub cause_of : HeadFault → Cause
cause_of h.Short = c.Short
cause_of h.Reserved = c.Reserved
cause_of h.Indefinite = c.Indefinite
cause_of h.NotShortest = c.NotShortest
cause_of h.Float = c.Float
cause_of h.BadSimple = c.BadSimple

-- The head, and the bytes behind it.
abbrev pub headed : ℕ → List ℕ → Result (Head × ℕ) HeadFault → Result (Taken Head) Fault
headed at bytes (Ok x) = taken x.0 (at + x.1) (drop x.1 bytes)
headed at bytes (Err e) = refused at (cause_of e)

-- So many values, one after another.
unfoldable pub many : {A : Type 0} → Reader A → ℕ → Reader (List A)
many read zero at bytes = taken [] at bytes
many read (suc n) at bytes = do
  first ← read at bytes
  others ← many read n first.at first.rest
  taken (first.value ∷ others.value) others.at others.rest

abbrev pub is_less : Ordering → Bool
is_less Less = true
is_less Equal = false
is_less Greater = false

-- The key may stand behind the last one.
abbrev pub is_above : Order → Option (List ℕ) → List ℕ → Bool
is_above order None key = true
is_above order (Some last) key = is_less (comparison order last key)

abbrev pub pair_of : Item → Item → Pair
pair_of key value = record { key = key; value = value }

-- So many pairs, behind one whose key has this encoding.
unfoldable pub pairs : Order → Reader Item → Option (List ℕ) → ℕ → Reader (List Pair)
pairs order read last zero at bytes = taken [] at bytes
pairs order read last (suc n) at bytes = do
  key ← read at bytes
  value ← (if is_above order last (take (key.at - at) bytes) then read key.at key.rest else refused at c.KeyOrder)
  others ← pairs order read (Some (take (key.at - at) bytes)) n value.at value.rest
  taken (pair_of key.value value.value ∷ others.value) others.at others.rest

-- A string whose head stands at a place.
abbrev pub string_at : ℕ → ℕ → Reader (List ℕ)
string_at place n at bytes = if nat_lt (length bytes) n then refused place c.ShortString else taken (take n bytes) (at + n) (drop n bytes)

-- The same for a text.
abbrev pub text_at : ℕ → ℕ → Reader (List ℕ)
text_at place n at bytes = string_at place n at bytes >>= λ s. if is_utf8 s.value then taken s.value s.at s.rest else refused place c.BadUtf8

-- What was read, made into something else.
abbrev pub made : {A B : Type 0} → (A → B) → Result (Taken A) Fault → Result (Taken B) Fault
made f r = r >>= λ x. taken (f x.value) x.at x.rest

-- The parts of an item, where they are read so, or not at all.
unfoldable pub parts : Order → Option (Reader Item) → ℕ → Head → Reader Item
parts order None place head at bytes = refused place c.TooDeep
parts order (Some read) place head at bytes =
    if head.major == 4 then made Array (many read head.arg at bytes)
    else (if head.major == 5 then made Map (pairs order read None head.arg at bytes)
    else made (Tag head.arg) (read at bytes))

-- What stands behind a head.
unfoldable pub behind : Order → Option (Reader Item) → ℕ → Head → Reader Item
behind order inner place head at bytes =
    if head.major == 0 then taken (Uint head.arg) at bytes
    else (if head.major == 1 then taken (Nint head.arg) at bytes
    else (if head.major == 2 then made Bytes (string_at place head.arg at bytes)
    else (if head.major == 3 then made Text (text_at place head.arg at bytes)
    else (if head.major == 7 then taken (Simple head.arg) at bytes
    else parts order inner place head at bytes))))

-- An item whose parts are read so.
unfoldable pub layer : Order → Option (Reader Item) → Reader Item
layer order inner at bytes = headed at bytes (head_at bytes) >>= λ h. behind order inner at h.value h.at h.rest

-- An item of at most this depth.
unfoldable pub item_at : Order → ℕ → Reader Item
item_at order zero = layer order None
item_at order (suc d) = layer order (Some (item_at order d))

-- How the parts of an item of this depth are read.
unfoldable pub inner_of : Order → ℕ → Option (Reader Item)
inner_of order zero = None
inner_of order (suc d) = Some (item_at order d)
