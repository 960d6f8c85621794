-- Counts over the lists of the source. Sums stop at the greatest argument of a head (RFC 8949, section 3).
use Rattle.std.specs.Prelude.{ℕ, ◌+◌, min, max, List, [], ◌∷◌}
use Rattle.ecd_core.specs.declared.shape.Part.{Part}
use Rattle.ecd_core.specs.declared.shape.Way.{Way}
use Rattle.ecd_core.specs.declared.shape.MapEntry.{MapEntry, Field', Table'}
use Rattle.ecd_core.specs.declared.shape.MapEntry.TheVariants as m
use Rattle.ecd_core.specs.declared.shape.MapWay.{MapWay}
use Rattle.ecd_apart.specs.Counts.{top, cap, part_least, part_greatest, needed_count, entry_least, entry_greatest}

-- The sum of a number for each element.
abbrev pub sum_of : {A : Type 0} → (A → ℕ) → List A → ℕ
sum_of f [] = 0
sum_of f (x ∷ xs) = cap (f x + sum_of f xs)

-- The least of a number for each element.
abbrev pub least_of : {A : Type 0} → (A → ℕ) → List A → ℕ
least_of f [] = top
least_of f (x ∷ xs) = min (f x) (least_of f xs)

-- The greatest of a number for each element.
abbrev pub greatest_of : {A : Type 0} → (A → ℕ) → List A → ℕ
greatest_of f [] = 0
greatest_of f (x ∷ xs) = max (f x) (greatest_of f xs)

-- ---- arrays

abbrev pub items_least : List Part → ℕ
items_least parts = sum_of part_least parts

abbrev pub ways_least_of : List Way → ℕ
ways_least_of ways = least_of (λ (way : Way). items_least way.body.parts) ways

abbrev pub items_greatest : List Part → ℕ
items_greatest parts = sum_of part_greatest parts

abbrev pub ways_greatest_of : List Way → ℕ
ways_greatest_of ways = greatest_of (λ (way : Way). items_greatest way.body.parts) ways

-- ---- maps

-- One for a field that is needed.
abbrev pub needed_pairs : MapEntry → ℕ
needed_pairs (Field' at _ key cut lo _ kind) = needed_count lo
needed_pairs (m.Pick pick) = 0
needed_pairs (Table' at lo hi _ key _ kind) = 0

-- One for a field.
abbrev pub field_pairs : MapEntry → ℕ
field_pairs (Field' at _ key cut lo _ kind) = 1
field_pairs (m.Pick pick) = 0
field_pairs (Table' at lo hi _ key _ kind) = 0

abbrev pub needed_in_way : List MapEntry → ℕ
needed_in_way entries = sum_of needed_pairs entries

abbrev pub fields_in_way : List MapEntry → ℕ
fields_in_way entries = sum_of field_pairs entries

abbrev pub map_ways_least_of : List MapWay → ℕ
map_ways_least_of ways = least_of (λ (way : MapWay). needed_in_way way.entries) ways

abbrev pub map_ways_greatest_of : List MapWay → ℕ
map_ways_greatest_of ways = greatest_of (λ (way : MapWay). fields_in_way way.entries) ways

abbrev pub entries_least : List MapEntry → ℕ
entries_least entries = sum_of entry_least entries

abbrev pub entries_greatest : List MapEntry → ℕ
entries_greatest entries = sum_of entry_greatest entries
