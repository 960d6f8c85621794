-- What the functions with a depth answer.
use Rattle.std.specs.Prelude.{ℕ, Bool, ◌+◌, ◌-◌, ◌*◌, ◌≤◌, ◌≡◌, List, [], ◌∷◌, take, drop, Ok, ◌==◌, if◌then◌else◌}
use Rattle.std.specs.Str.{is_utf8}
use Rattle.ecd_cast.specs.declared.value.Value.TheVariants.{Number as Num, Bytes as Ptr}
use Rattle.ecd_cast.specs.Memory.{Memory}
use Rattle.ecd_calculus.specs.Ends.{Answers}
use Rattle.ecd_keyorder.specs.declared.Order.{Order}
use Rattle.ecd_head.specs.declared.Head.{Head}
use Rattle.ecd_head.specs.Place.{StandsAt}
use Rattle.ecd_head.specs.Fault.{head_at}
use Rattle.ecd_item_laws.specs.declared.item.Item.{Item}
use Rattle.ecd_item_laws.specs.Encoding.{encoding}
use Rattle.ecd_item_laws.specs.Valid.{IsWhole}
use Rattle.ecd_emit.specs.Windows.{Callee, Window, IsEnd, asked}
use Rattle.ecd_fixed_heads.specs.Extents.{AnswersWithin}

-- the place behind a text, or 0 where its bytes are no UTF-8
abbrev pub text_place : Bool → ℕ → ℕ
text_place is_text end = if is_text then end else 0

-- Asked with the place of a head and with the place behind as many bytes as its argument says, it answers the latter where these bytes are UTF-8, else 0.
pub record TextEnd (callee : Callee) : Type 0 where
  pub answers : (block offset len at size end : ℕ) (m : Memory) (bytes : List ℕ) (head : Head) → Window m block offset len bytes → head_at (drop at bytes) ≡ Ok (head, size) → end ≡ at + size + head.arg → end ≤ len →
      Answers (callee (Ptr block offset ∷ Num at ∷ Num end ∷ []) m) (λ n. n ≡ text_place (is_utf8 (take head.arg (drop (at + size) bytes))) end) (27 * (head.arg + 1) + 27)

-- A valid item of at most this depth stands from one place to another, in its deterministic encoding for the order of keys: RFC 8949, sections 4.2.1 and 4.2.3.
-- What a tag asks of its content is not looked at, so the bytes of a bignum (tags 2 and 3) may begin with zeroes or be of a number that a head can carry.
pub record WholeStands (order : Order) (deepest : ℕ) (bytes : List ℕ) (at e : ℕ) : Type 0 where
  pub item : Item
  pub whole : IsWhole order deepest item
  pub stands : StandsAt bytes at (encoding item) e

-- how many bytes an answer is paid by: those of the item that it found, or all that are there and one more
abbrev pub paid_by : (len at : ℕ) → ℕ → ℕ
paid_by len at n = if n == 0 then len - at + 1 else n - at

-- The place behind the item at a place, or 0 where none of at most this depth stands there. A byte of a key is looked at again at each level at which it is part of a key, so the steps grow with the depth and no faster.
pub record IsAny (order : Order) (deepest : ℕ) (callee : Callee) : Type 0 where
  pub answers : (block offset len at : ℕ) (m : Memory) (bytes : List ℕ) → Window m block offset len bytes → at ≤ len →
      AnswersWithin (callee (asked block offset len at) m) (IsEnd (WholeStands order deepest bytes at)) (λ n. 162 * (deepest + 1) * paid_by len at n)
