-- The steps by which a head is read: the argument, then what may be said against it.
use Rattle.std.specs.Prelude.{ℕ, ◌+◌, ◌&&◌, List, length, take, Result, Ok, Err, nat_lt, ◌==◌, if◌then◌else◌, slice_index}
use Rattle.std.specs.Int.{Width, w16, w32, w64, byte_len, from_be_bytes}
use Rattle.ecd_head.specs.declared.HeadFault.{HeadFault}
use Rattle.ecd_head.specs.declared.HeadFault.TheVariants.{Short, Reserved, Indefinite, NotShortest, Float, BadSimple}
use Rattle.ecd_head.specs.declared.Head.{Head}
use Rattle.ecd_head.specs.Fault.{least_of}

-- A number of some bytes, and how many they are.
abbrev pub wide_at : Width → List ℕ → Result (ℕ × ℕ) HeadFault
wide_at w rest = if nat_lt (length rest) (byte_len w) then Err Short else Ok (from_be_bytes w (take (byte_len w) rest), byte_len w)

abbrev pub argument_at : ℕ → List ℕ → Result (ℕ × ℕ) HeadFault
argument_at info rest =
    if nat_lt info 24 then Ok (info, 0)
    else (if info == 24 then (if nat_lt (length rest) 1 then Err Short else Ok (slice_index rest 0, 1))
    else (if info == 25 then wide_at w16 rest
    else (if info == 26 then wide_at w32 rest
    else wide_at w64 rest)))

infixl 10 ◌>>=◌
abbrev pub ◌>>=◌ : {A B : Type 0} → Result A HeadFault → (A → Result B HeadFault) → Result B HeadFault
(Ok x) >>= f = f x
(Err e) >>= f = Err e

unfoldable pub checked : ℕ → ℕ → (ℕ × ℕ) → Result (Head × ℕ) HeadFault
checked major info a =
    if nat_lt major 7 && nat_lt a.0 (least_of info) then Err NotShortest
    else (if major == 7 && (info == 24 && nat_lt a.0 32) then Err BadSimple
    else Ok (record { major = major; arg = a.0 }, a.1 + 1))

unfoldable pub judged : ℕ → ℕ → List ℕ → Result (Head × ℕ) HeadFault
judged major info rest =
    if nat_lt 27 info then (if info == 31 then Err Indefinite else Err Reserved)
    else (if major == 7 && nat_lt 24 info then Err Float
    else argument_at info rest >>= checked major info)
