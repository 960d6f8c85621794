-- Why no head stands at the front of some bytes: RFC 8949, sections 3, 3.2, 3.3 and 4.2.1.
use Rattle.std.specs.Prelude.{ℕ, ◌+◌, ◌/◌, ◌%◌, ◌^◌, ◌&&◌, List, [], ◌∷◌, length, take, Option, Some, None, Result, Ok, Err, nat_lt, ◌==◌, if◌then◌else◌, slice_index}
use Rattle.std.specs.Int.{w16, w32, w64, from_be_bytes}
use Rattle.ecd_head.specs.declared.HeadFault.{HeadFault}
use Rattle.ecd_head.specs.declared.HeadFault.TheVariants.{Short, Reserved, Indefinite, NotShortest, Float, BadSimple}
use Rattle.ecd_head.specs.declared.Head.{Head}

-- The three high bits of the first byte.
abbrev pub major_of : ℕ → ℕ
major_of first = first / 32

-- The five low bits of the first byte: the additional information.
abbrev pub info_of : ℕ → ℕ
info_of first = first % 32

-- How many bytes of argument follow the first byte.
abbrev pub extra_of : ℕ → ℕ
extra_of info = if info == 24 then 1 else (if info == 25 then 2 else (if info == 26 then 4 else (if info == 27 then 8 else 0)))

-- The argument, where the bytes that the additional information asks for are there.
abbrev pub argument_of : ℕ → List ℕ → ℕ
argument_of info rest =
    if info == 24 then slice_index rest 0
    else (if info == 25 then from_be_bytes w16 (take 2 rest)
    else (if info == 26 then from_be_bytes w32 (take 4 rest)
    else (if info == 27 then from_be_bytes w64 (take 8 rest) else info)))

-- The least argument that no shorter head holds.
abbrev pub least_of : ℕ → ℕ
least_of info =
    if nat_lt info 24 then 0
    else (if info == 24 then 24 else (if info == 25 then 2 ^ 8 else (if info == 26 then 2 ^ 16 else 2 ^ 32)))

-- The first cause that applies behind a first byte of this major type and additional information. In major type 7 the widths of two, four and eight bytes
-- are floats, whatever follows; there a value below 32 in a byte of its own is not well-formed.
unfoldable pub cause_behind : ℕ → ℕ → List ℕ → Option HeadFault
cause_behind major info rest =
    if (major == 7) && (nat_lt 24 info && nat_lt info 28) then Some Float
    else (if nat_lt (length rest) (extra_of info) then Some Short
    else (if nat_lt 27 info && nat_lt info 31 then Some Reserved
    else (if info == 31 then Some Indefinite
    else (if nat_lt major 7 && nat_lt (argument_of info rest) (least_of info) then Some NotShortest
    else (if (major == 7) && ((info == 24) && nat_lt (argument_of info rest) 32) then Some BadSimple
    else None)))))

-- The cause that stands at the front of the bytes, where one does.
unfoldable pub head_fault : List ℕ → Option HeadFault
head_fault [] = Some Short
head_fault (first ∷ rest) = cause_behind (major_of first) (info_of first) rest

abbrev pub unless : {A : Type 0} → Option HeadFault → A → Result A HeadFault
unless (Some fault) found = Err fault
unless None found = Ok found

-- The head at the front of the bytes and how many bytes it has, or the cause.
unfoldable pub head_at : List ℕ → Result (Head × ℕ) HeadFault
head_at [] = Err Short
head_at (first ∷ rest) = unless (head_fault (first ∷ rest)) (record { major = major_of first; arg = argument_of (info_of first) rest }, extra_of (info_of first) + 1)

-- The same, with the place behind the head in place of its length.
abbrev pub placed : {A : Type 0} → ℕ → Result (A × ℕ) HeadFault → Result (A × ℕ) HeadFault
placed at (Ok found) = Ok (found.0, at + found.1)
placed at (Err fault) = Err fault
