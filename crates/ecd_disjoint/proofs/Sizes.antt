-- How many nodes lie inside a shape, by what it holds.
use Rattle.std.proofs.Common.{◌≡◌, ℕ, zero, suc, ◌+◌, ◌<◌, ◌≤◌, List, [], ◌∷◌, ◌++◌, length, get_or, reverse, refl, ap, ◌∙◌, length-append, arith}
use Rattle.std.proofs.lemmas.List.{reverse-append}
use Rattle.ecd_core.specs.declared.shape.Kind.{Kind}
use Rattle.ecd_core.specs.declared.shape.Kind.TheVariants as k
use Rattle.ecd_core.specs.declared.shape.Shape.{Shape}
use Rattle.ecd_core.specs.declared.shape.Group.{Group}
use Rattle.ecd_core.specs.declared.shape.Part.{Part}
use Rattle.ecd_core.specs.declared.shape.Part.TheVariants as p
use Rattle.ecd_core.specs.declared.shape.MapEntry.{MapEntry}
use Rattle.ecd_core.specs.declared.shape.MapEntry.TheVariants as m
use Rattle.ecd_core.specs.declared.shape.Field.{Field}
use Rattle.ecd_core.specs.declared.shape.Table.{Table}
use Rattle.ecd_core.specs.declared.shape.Pick.{Pick, out-Pick}
use Rattle.ecd_core.specs.declared.shape.MapWay.{MapWay}
use Rattle.ecd_core.specs.Nodes.{Node, inside, inside_part, inside_entry, nodes}
use Rattle.ecd_core.specs.Walks.{all_of, part_nodes, entry_nodes, map_way_nodes}
use Rattle.ecd_core.proofs.WalkLayers.{inside-Tag, inside-AnyTag, inside-Cbor, inside-Choice, inside-Array, inside-Map, inside-One, inside-Field, inside-Table, inside-Pick}

unfoldable pub size : Kind → ℕ
size kind = length (inside kind)

unfoldable pub part_size : Part → ℕ
part_size part = length (inside_part part)

unfoldable pub entry_size : MapEntry → ℕ
entry_size entry = length (inside_entry entry)

-- Elements, and what lies inside each.
unfoldable pub total : {A : Type 0} → (A → ℕ) → List A → ℕ
total f [] = 0
total f (x ∷ xs) = f x + 1 + total f xs

abbrev pub shape_size : Shape → ℕ
shape_size shape = size shape.kind

unfoldable pub field_size : Field → ℕ
field_size field = size field.key.kind + size field.value.kind + 2

unfoldable pub way_size : MapWay → ℕ
way_size way = total entry_size way.entries

all_long : {A : Type 0} (f : A → List Node) (g : A → ℕ) → ((x : A) → length (f x) ≡ g x + 1) → (xs : List A) → length (all_of f xs) ≡ total g xs
unfolding total
all_long f g h [] = refl
all_long f g h (x ∷ xs) = omega (arith, length-append (f x) (all_of f xs), h x, all_long f g h xs)

shape_long : (s : Shape) → length (nodes s) ≡ shape_size s + 1
unfolding size
shape_long s = omega arith

part_long : (part : Part) → length (part_nodes part) ≡ part_size part + 1
unfolding part_size
part_long part = omega arith

entry_long : (entry : MapEntry) → length (entry_nodes entry) ≡ entry_size entry + 1
unfolding entry_size
entry_long entry = omega arith

way_long : (way : MapWay) → length (map_way_nodes way) ≡ way_size way + 1
unfolding way_size
way_long way = omega (arith, all_long entry_nodes entry_size entry_long way.entries)

pub size-Tag : (n : ℕ) (s : Shape) → size (k.Tag n s) ≡ shape_size s + 1
unfolding size
size-Tag n s = ap length (inside-Tag n s) ∙ shape_long s

pub size-AnyTag : (s : Shape) → size (k.AnyTag s) ≡ shape_size s + 1
unfolding size
size-AnyTag s = ap length (inside-AnyTag s) ∙ shape_long s

pub size-Cbor : (s : Shape) → size (k.Cbor s) ≡ shape_size s + 1
unfolding size
size-Cbor s = ap length (inside-Cbor s) ∙ shape_long s

pub size-Choice : (ss : List Shape) → size (k.Choice ss) ≡ total shape_size ss
unfolding size
size-Choice ss = ap length (inside-Choice ss) ∙ all_long nodes shape_size shape_long ss

pub size-Array : (g : Group) → size (k.Array g) ≡ total part_size g.parts
unfolding size
size-Array g = ap length (inside-Array g) ∙ all_long part_nodes part_size part_long g.parts

pub size-Map : (entries : List MapEntry) → size (k.Map entries) ≡ total entry_size entries
unfolding size
size-Map entries = ap length (inside-Map entries) ∙ all_long entry_nodes entry_size entry_long entries

pub size-One : (s : Shape) → part_size (p.One s) ≡ shape_size s + 1
unfolding part_size
size-One s = ap length (inside-One s) ∙ shape_long s

pub size-Field : (f : Field) → entry_size (m.Field f) ≡ field_size f
unfolding entry_size field_size
size-Field f = omega (arith, ap length (inside-Field f), length-append (nodes f.key) (nodes f.value), shape_long f.key, shape_long f.value)

pub size-field : (f : Field) → field_size f ≡ shape_size f.key + shape_size f.value + 2
unfolding field_size
size-field f = refl

pub size-Table : (t : Table) → entry_size (m.Table t) ≡ shape_size t.key + shape_size t.value + 2
unfolding entry_size
size-Table t = omega (arith, ap length (inside-Table t), length-append (nodes t.key) (nodes t.value), shape_long t.key, shape_long t.value)

pub size-Pick : (pick : Pick) → entry_size (m.Pick pick) ≡ total way_size (out-Pick pick).ways
unfolding entry_size
size-Pick pick = ap length (inside-Pick pick) ∙ all_long map_way_nodes way_size way_long (out-Pick pick).ways

pub size-way : (way : MapWay) → way_size way ≡ total entry_size way.entries
unfolding way_size
size-way way = refl

pub below : {A : Type 0} (f : A → ℕ) (xs : List A) (i : ℕ) (x : A) → i < length xs → x ≡ get_or xs i x → f x + 1 ≤ total f xs
unfolding total
below f [] i x h e = absurd (omega arith)
below f (y ∷ ys) zero x h e = omega (arith, ap f e)
below f (y ∷ ys) (suc i) x h e = omega (arith, below f ys i x (omega arith) e)

total-append : {A : Type 0} (f : A → ℕ) (xs ys : List A) → total f (xs ++ ys) ≡ total f xs + total f ys
unfolding total
total-append f [] ys = omega arith
total-append f (x ∷ xs) ys = omega (arith, total-append f xs ys)

total-one : {A : Type 0} (f : A → ℕ) (x : A) → total f (x ∷ []) ≡ f x + 1
unfolding total
total-one f x = omega arith

total-more : {A : Type 0} (f : A → ℕ) (x : A) (xs : List A) → total f (x ∷ xs) ≡ f x + 1 + total f xs
unfolding total
total-more f x xs = refl

pub total-reverse : {A : Type 0} (f : A → ℕ) (xs : List A) → total f (reverse xs) ≡ total f xs
total-reverse f [] = refl
total-reverse f (x ∷ xs) = ap (total f) (reverse-append (x ∷ []) xs) ∙ (total-append f (reverse xs) (x ∷ []) ∙ omega (arith, total-one f x, total-more f x xs, total-reverse f xs))
