-- What the functions over heads answer. Each meaning is said of a callee, so that it does not depend on the items around the function.
use Rattle.std.specs.Prelude.{ℕ, ◌+◌, ◌≤◌, ◌≡◌, ◌≢◌, List, ◌∷◌, [], drop, take, get_or, nat_le, ◌==◌, ◌&&◌, if◌then◌else◌, Result, Ok, Err}
use Rattle.std.specs.Int.{Width, byte_len, from_be_bytes}
use Rattle.ecd_cast.specs.declared.value.Value.TheVariants.{Number as Num, Bytes as Ptr}
use Rattle.ecd_cast.specs.Memory.{Memory}
use Rattle.ecd_calculus.specs.Ends.{Answers}
use Rattle.ecd_head.specs.declared.HeadFault.{HeadFault}
use Rattle.ecd_head.specs.declared.Head.{Head}
use Rattle.ecd_head.specs.Head.{IsWritable, head_bytes}
use Rattle.ecd_head.specs.Place.{StandsAt}
use Rattle.ecd_head.specs.Fault.{info_of, argument_of, head_at}
use Rattle.ecd_emit.specs.Windows.{Callee, Window, placed, asked}
use Rattle.ecd_fixed_heads.specs.Firsts.{size_from}

-- the big-endian number at a place, in at most so many steps
pub record LoadsNumber (w : Width) (most : ℕ) (callee : Callee) : Type 0 where
  pub answers : (block offset len at : ℕ) (m : Memory) (bytes : List ℕ) → Window m block offset len bytes → at + byte_len w ≤ len →
      Answers (callee (placed block offset at) m) (λ n. n ≡ from_be_bytes w (take (byte_len w) (drop at bytes))) most

-- a number by a first byte, in at most so many steps
pub record OfFirst (f : ℕ → ℕ) (most : ℕ) (callee : Callee) : Type 0 where
  pub answers : (first : ℕ) (m : Memory) → Answers (callee (Num first ∷ []) m) (λ n. n ≡ f first) most

-- The argument of the head at a place. It may be asked as soon as all bytes of the head are there, and then is what they carry.
pub record HeadArgument (callee : Callee) : Type 0 where
  pub carried : (block offset len at : ℕ) (m : Memory) (bytes : List ℕ) → Window m block offset len bytes →
      size_from (get_or bytes at 0) ≢ 0 → at + size_from (get_or bytes at 0) ≤ len →
      Answers (callee (placed block offset at) m) (λ n. n ≡ argument_of (info_of (get_or bytes at 0)) (drop (at + 1) bytes)) 22
  pub answers : (block offset len at size : ℕ) (m : Memory) (bytes : List ℕ) (head : Head) → Window m block offset len bytes →
      head_at (drop at bytes) ≡ Ok (head, size) → Answers (callee (placed block offset at) m) (λ n. n ≡ head.arg) 22

-- the place behind the head that is read at a place, or 0
abbrev pub end_of : ℕ → Result (Head × ℕ) HeadFault → ℕ
end_of at (Ok found) = at + found.1
end_of at (Err fault) = 0

pub record HeadEnd (callee : Callee) : Type 0 where
  pub answers : (block offset len at : ℕ) (m : Memory) (bytes : List ℕ) → Window m block offset len bytes → at ≤ len →
      Answers (callee (asked block offset len at) m) (λ n. n ≡ end_of at (head_at (drop at bytes))) 61

-- the same, where the head is of this major type and its argument from lo to hi
abbrev pub end_within : (major lo hi at : ℕ) → Result (Head × ℕ) HeadFault → ℕ
end_within major lo hi at (Ok found) = if (found.0.major == major) && (nat_le lo found.0.arg && nat_le found.0.arg hi) then at + found.1 else 0
end_within major lo hi at (Err fault) = 0

pub record HeadWithin (callee : Callee) : Type 0 where
  pub answers : (block offset len at major lo hi : ℕ) (m : Memory) (bytes : List ℕ) → Window m block offset len bytes → at ≤ len →
      Answers (callee (Ptr block offset ∷ Num len ∷ Num at ∷ Num major ∷ Num lo ∷ Num hi ∷ []) m) (λ n. n ≡ end_within major lo hi at (head_at (drop at bytes))) 94

-- the shortest bytes of the head stand from a place on, and are so many
pub record HeadIsAt (bytes : List ℕ) (at size : ℕ) (head : Head) : Type 0 where
  pub writable : IsWritable head.major head.arg
  pub stands : StandsAt bytes at (head_bytes head.major head.arg) (at + size)

-- the shortest head of this major type with an argument from lo to hi stands from one place to another
pub record HeadStands (major lo hi : ℕ) (bytes : List ℕ) (at e : ℕ) : Type 0 where
  pub argument : ℕ
  pub writable : IsWritable major argument
  pub least : lo ≤ argument
  pub most : argument ≤ hi
  pub stands : StandsAt bytes at (head_bytes major argument) e
