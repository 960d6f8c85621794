-- The variables and parameters of the emitted functions.
use Rattle.std.specs.Prelude.{codes}
use Rattle.ecd_cast.specs.Memory.{Name}

-- the buffer, its length and a place in it
abbrev pub buf : Name
buf = codes "buf"

abbrev pub len : Name
len = codes "len"

abbrev pub at : Name
at = codes "at"

-- the two halves of a number
abbrev pub high : Name
high = codes "high"

abbrev pub low : Name
low = codes "low"

-- of a head: its first byte, additional information, size, argument and place behind it
abbrev pub first : Name
first = codes "first"

abbrev pub info : Name
info = codes "info"

abbrev pub size : Name
size = codes "size"

abbrev pub argument : Name
argument = codes "argument"

abbrev pub argument16 : Name
argument16 = codes "argument16"

abbrev pub argument32 : Name
argument32 = codes "argument32"

abbrev pub argument64 : Name
argument64 = codes "argument64"

abbrev pub least : Name
least = codes "least"

abbrev pub end : Name
end = codes "end"

-- of an extent: the place behind one more head and its string, the number of items inside that item, those still owed, and the turn
abbrev pub next : Name
next = codes "next"

abbrev pub inside : Name
inside = codes "inside"

abbrev pub owed : Name
owed = codes "owed"

abbrev pub turn : Name
turn = codes "turn"

-- what is asked of a head
abbrev pub major : Name
major = codes "major"

abbrev pub lo : Name
lo = codes "lo"

abbrev pub hi : Name
hi = codes "hi"

-- the two sides of a comparison, and their lengths
abbrev pub left : Name
left = codes "left"

abbrev pub left_len : Name
left_len = codes "left_len"

abbrev pub right : Name
right = codes "right"

abbrev pub right_len : Name
right_len = codes "right_len"

-- of a text: its first byte's place, one byte, and how far into a character the bytes are
abbrev pub text : Name
text = codes "text"

abbrev pub byte : Name
byte = codes "byte"

abbrev pub state : Name
state = codes "state"

abbrev pub begun : Name
begun = codes "begun"

-- where bytes are written to, the number that is written, and the places behind its first half and behind all of it
abbrev pub out : Name
out = codes "out"

abbrev pub number : Name
number = codes "number"

abbrev pub middle : Name
middle = codes "middle"

abbrev pub end16 : Name
end16 = codes "end16"

abbrev pub end32 : Name
end32 = codes "end32"

abbrev pub end64 : Name
end64 = codes "end64"

-- where bytes are copied from, how many, and one of them
abbrev pub from : Name
from = codes "from"

abbrev pub count : Name
count = codes "count"

abbrev pub i : Name
i = codes "i"
