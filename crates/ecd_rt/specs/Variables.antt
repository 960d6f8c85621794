-- The variables of the functions with a depth, besides those that they have in common with the functions without one.
use Rattle.std.specs.Prelude.{codes}
use Rattle.ecd_cast.specs.Memory.{Name}

-- whether a text is UTF-8
abbrev pub valid : Name
valid = codes "valid"

-- of a pair: the place behind its key, and how its key stands to the one before
abbrev pub behind : Name
behind = codes "behind"

abbrev pub order : Name
order = codes "order"

-- the key of the pair before: its place, and its size
abbrev pub key : Name
key = codes "key"

abbrev pub key_size : Name
key_size = codes "key_size"

-- the places behind the item in a tag, the pairs of a map and the items of an array
abbrev pub content : Name
content = codes "content"

abbrev pub pairs : Name
pairs = codes "pairs"

abbrev pub items : Name
items = codes "items"
