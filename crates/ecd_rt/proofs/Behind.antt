-- Where an item ends, by its head and the place behind its own bytes.
use Rattle.std.proofs.Common.{◌≡◌, ℕ, zero, suc, ◌+◌, ◌-◌, ◌<◌, ◌≤◌, Bool, true, false, List, length, take, drop, Option, Some, None, Ok, refl, ◌∙◌, arith, length-drop}
use Rattle.std.specs.Prelude.{nat_lt}
use Rattle.std.specs.Str.{is_utf8}
use Rattle.std.proofs.lemmas.Bool.{lt-ltb, le-ltb}
use Rattle.std.proofs.lemmas.Bool.Decides.{nat_tests}
use Rattle.ecd_head.specs.declared.Head.{Head}
use Rattle.ecd_keyorder.specs.declared.Order.{Order}
use Rattle.ecd_item_laws.specs.declared.item.Item.{Item}
use Rattle.ecd_item_laws.specs.declared.item.Item.TheVariants.{Array, Map, Tag}
use Rattle.ecd_item_laws.specs.Parts.{head_from}
use Rattle.ecd_item_laws.specs.Reading.{Reader, behind, parts, many, pairs}
use Rattle.ecd_emit.specs.Windows.{IsBytes}
use Rattle.ecd_fixed_heads.specs.Extents.{own_end_of, least_behind, string_behind}
use Rattle.ecd_rt.proofs.Readers.{place_of, place_made, Advances, few_many, few_pairs}
use Rattle.ecd_rt.specs.Meanings.{text_place}

-- what reads the parts, where something does, advances
abbrev pub Advance : Option (Reader Item) → Type 0
Advance None = Unit {0}
Advance (Some read) = Advances read

-- where own_end answers 0, fewer bytes are left than the head asks for
pub few_left : (len at size : ℕ) (head : Head) → 0 < size → own_end_of len at (Ok (head, size)) ≡ 0 → len - (at + size) < least_behind head
few_left len at size head some e = grind (arith, nat_tests, e)

-- a tag and a simple value ask for none
no_least : (x major argument : ℕ) → x < least_behind (head_from (suc (suc (suc (suc (suc (suc major)))))) argument) → ⊥
no_least x major argument lt = grind (arith, nat_tests, lt)

module _ (order : Order) (inner : Option (Reader Item)) (ahead : Advance inner) (at from len : ℕ) (bytes : List ℕ) (fits : IsBytes bytes) (long : length bytes ≡ len) (room : from ≤ len) where
  abbrev rest : List ℕ
  rest = drop from bytes

  abbrev place : ℕ → ℕ → ℕ
  place major argument = place_of (behind order inner at (head_from major argument) from rest)

  left : length rest ≡ len - from
  left = omega (arith, length-drop from bytes, long)

  -- ---- strings

  cut_off : (a : ℕ) → len - from < a → nat_lt (length rest) a ≡ true
  cut_off a lt = lt-ltb (length rest) a (omega (arith, left))

  enough : (a : ℕ) → a ≤ len - from → nat_lt (length rest) a ≡ false
  enough a le = le-ltb (length rest) a (omega (arith, left))

  no_bytes : (a : ℕ) → len - from < a → place 2 a ≡ 0
  unfolding behind
  no_bytes a lt = rw (cut_off a lt) refl

  no_text : (a : ℕ) → len - from < a → place 3 a ≡ 0
  unfolding behind
  no_text a lt = rw (cut_off a lt) refl

  bytes_end : (a : ℕ) → a ≤ len - from → from + a ≡ place 2 a
  unfolding behind
  bytes_end a le = rw (enough a le) refl

  by_text : (b : Bool) (a : ℕ) → is_utf8 (take a rest) ≡ b → a ≤ len - from → text_place b (from + a) ≡ place 3 a
  unfolding behind
  by_text true a e le = rw (enough a le, e) refl
  by_text false a e le = rw (enough a le, e) refl

  pub text_ends : (a : ℕ) → a ≤ len - from → text_place (is_utf8 (take a rest)) (from + a) ≡ place 3 a
  text_ends a le = by_text (is_utf8 (take a rest)) a refl le

  -- ---- what has items inside

  no_array : (i : Option (Reader Item)) → Advance i → (a : ℕ) → len - from < a → place_of (parts order i at (head_from 4 a) from rest) ≡ 0
  unfolding parts
  no_array None h a lt = refl
  no_array (Some read) h a lt = place_made Array (many read a from rest) ∙ few_many read h bytes fits a from (omega (arith, room, long)) (omega (arith, lt, long))

  no_map : (i : Option (Reader Item)) → Advance i → (a : ℕ) → len - from < a → place_of (parts order i at (head_from 5 a) from rest) ≡ 0
  unfolding parts
  no_map None h a lt = refl
  no_map (Some read) h a lt = place_made Map (pairs order read None a from rest) ∙ few_pairs read h bytes fits order a None from (omega (arith, room, long)) (omega (arith, lt, long))

  -- ---- by the major type

  by_few : (major a : ℕ) → len - from < least_behind (head_from major a) → place major a ≡ 0
  unfolding behind
  by_few zero a lt = absurd (omega arith)
  by_few (suc zero) a lt = absurd (omega arith)
  by_few (suc (suc zero)) a lt = no_bytes a lt
  by_few (suc (suc (suc zero))) a lt = no_text a lt
  by_few (suc (suc (suc (suc zero)))) a lt = no_array inner ahead a lt
  by_few (suc (suc (suc (suc (suc zero))))) a lt = no_map inner ahead a lt
  by_few (suc (suc (suc (suc (suc (suc major)))))) a lt = absurd (no_least (len - from) major a lt)

  pub few_end : (head : Head) → len - from < least_behind head → place_of (behind order inner at head from rest) ≡ 0
  few_end head lt = by_few head.major head.arg lt

  by_low : (major a : ℕ) → major < 3 → least_behind (head_from major a) ≤ len - from → from + string_behind (head_from major a) ≡ place major a
  unfolding behind
  by_low zero a lt le = omega arith
  by_low (suc zero) a lt le = omega arith
  by_low (suc (suc zero)) a lt le = bytes_end a le
  by_low (suc (suc (suc major))) a lt le = absurd (omega arith)

  pub low_end : (head : Head) → head.major < 3 → least_behind head ≤ len - from → from + string_behind head ≡ place_of (behind order inner at head from rest)
  low_end head lt le = by_low head.major head.arg lt le

  pub simple_end : (a : ℕ) → from ≡ place 7 a
  unfolding behind
  simple_end a = refl

  by_parts : (major a : ℕ) → 3 < major → major < 7 → place major a ≡ place_of (parts order inner at (head_from major a) from rest)
  unfolding behind
  by_parts zero a lt le = absurd (omega arith)
  by_parts (suc zero) a lt le = absurd (omega arith)
  by_parts (suc (suc zero)) a lt le = absurd (omega arith)
  by_parts (suc (suc (suc zero))) a lt le = absurd (omega arith)
  by_parts (suc (suc (suc (suc zero)))) a lt le = refl
  by_parts (suc (suc (suc (suc (suc zero))))) a lt le = refl
  by_parts (suc (suc (suc (suc (suc (suc zero)))))) a lt le = refl
  by_parts (suc (suc (suc (suc (suc (suc (suc major))))))) a lt le = absurd (omega arith)

  pub parts_end : (head : Head) → 3 < head.major → head.major < 7 → place_of (behind order inner at head from rest) ≡ place_of (parts order inner at head from rest)
  parts_end head lt le = by_parts head.major head.arg lt le

-- ---- the parts, where they are read

module _ (order : Order) (read : Reader Item) (at from a : ℕ) (rest : List ℕ) where
  pub tag_place : place_of (parts order (Some read) at (head_from 6 a) from rest) ≡ place_of (read from rest)
  unfolding parts
  tag_place = place_made (Tag a) (read from rest)

  pub map_place : place_of (parts order (Some read) at (head_from 5 a) from rest) ≡ place_of (pairs order read None a from rest)
  unfolding parts
  map_place = place_made Map (pairs order read None a from rest)

  pub array_place : place_of (parts order (Some read) at (head_from 4 a) from rest) ≡ place_of (many read a from rest)
  unfolding parts
  array_place = place_made Array (many read a from rest)

pub no_parts : (order : Order) (at from : ℕ) (head : Head) (rest : List ℕ) → place_of (parts order None at head from rest) ≡ 0
unfolding parts
no_parts order at from head rest = refl
