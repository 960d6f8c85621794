-- What the first byte of a head says: RFC 8949, sections 3 and 3.3.
use Rattle.std.specs.Prelude.{ℕ, nat_lt, ◌==◌, if◌then◌else◌}
use Rattle.ecd_head.specs.Fault.{info_of}

-- How many bytes a head has that begins with this byte, or 0 where none does. From 224 on the major type is 7, whose widths of two, four and eight bytes are floats.
unfoldable pub size_from : ℕ → ℕ
size_from first =
    if nat_lt (info_of first) 24 then 1
    else (if info_of first == 24 then 2
    else (if nat_lt 223 first then 0
    else (if info_of first == 25 then 3
    else (if info_of first == 26 then 5
    else (if info_of first == 27 then 9 else 0)))))

-- The least argument that such a head may carry: what no shorter head holds, and 32 for a simple value in a byte of its own.
unfoldable pub least_from : ℕ → ℕ
least_from first =
    if nat_lt (info_of first) 24 then 0
    else (if first == 248 then 32
    else (if info_of first == 24 then 24
    else (if info_of first == 25 then 256
    else (if info_of first == 26 then 65536 else 4294967296))))
