-- Which shapes are equal but for their places, kind by kind, over the lists that they hold.
use Rattle.std.proofs.Common.{◌≡◌, ℕ, ◌↔◌, ◌⊎◌, inl, inr, Bool, true, false, List, [], ◌∷◌, refl, ap, sym, ◌∙◌, subst}
use mathlib.Core.Former.{Count}
use denote.Hole.Carrier.{hidden}
use Rattle.ecd_core.specs.declared.shape.Kind.{Kind, Choice', Tag', Cbor', AnyTag', Array', Map', Row_of-Shape, end_of-Shape, more_of-Shape, Row_of-MapEntry, end_of-MapEntry, more_of-MapEntry, items-the_row-Shape, items-the_row-MapEntry}
use Rattle.ecd_core.specs.declared.shape.Kind.TheVariants as k
use Rattle.ecd_core.specs.declared.shape.Kind.TheBlock as block
use Rattle.ecd_core.specs.declared.shape.Shape.{Shape}
use Rattle.ecd_core.specs.declared.shape.Group.{Group, Row_of-Part, end_of-Part, more_of-Part, items-the_row-Part}
use Rattle.ecd_core.specs.declared.shape.Part.{Part, One', Opt', Many', Alt', Row_of-Way, end_of-Way, more_of-Way, items-the_row-Way}
use Rattle.ecd_core.specs.declared.shape.Part.TheVariants as p
use Rattle.ecd_core.specs.declared.shape.Way.{Way}
use Rattle.ecd_core.specs.declared.shape.MapEntry.{MapEntry, Field', Table'}
use Rattle.ecd_core.specs.declared.shape.MapEntry.TheVariants as m
use Rattle.ecd_core.specs.declared.shape.Field.{Field}
use Rattle.ecd_core.specs.declared.shape.Table.{Table}
use Rattle.ecd_core.specs.declared.shape.Pick.{Pick, Pick', Row_of-MapWay, end_of-MapWay, more_of-MapWay, items-the_row-MapWay, out-Pick}
use Rattle.ecd_core.specs.declared.shape.MapWay.{MapWay}
use Rattle.ecd_core.proofs.Layers.{parts-shown, entries-shown, pick-out}
use Rattle.ecd_core.specs.Lists.{EachWith}
use Rattle.ecd_shape_rules.specs.Alike.{IsAlike, ShapesAlike, PartsAlike, PartAlike, BodiesAlike, EntriesAlike, EntryAlike, PickAlike, MapWaysAlike, kinds_of, bodies_of, ways_of}
use Rattle.ecd_alike.specs.Leaves.{RangeAlike, SingleAlike, LeafAlike}
use Rattle.ecd_alike.specs.Pairs.{ShapesMatch, PartsMatch, WaysMatch, EntriesMatch, MapWaysMatch, FieldsMatch, TablesMatch}
use Rattle.ecd_alike.proofs.Pairs.{along, carried, refuted}
use Rattle.ecd_alike.proofs.Rows.{Tag-row, AnyTag-row, Cbor-row, Choice-row, Array-row, Map-row, Opt-row, Many-row, Alt-row}

-- ---- rows

shapes-row : {n l : Count} (row : Row_of-Shape n) (others : Row_of-Shape l) → ShapesAlike row (kinds_of others) ≡ ShapesMatch (items-the_row-Shape n row) (items-the_row-Shape l others)
unfolding IsAlike
shapes-row end_of-Shape end_of-Shape = refl
shapes-row end_of-Shape (more_of-Shape at kind rest) = refl
shapes-row (more_of-Shape at kind rest) end_of-Shape = refl
shapes-row (more_of-Shape at kind rest) (more_of-Shape there other others) = ap (λ (P : Type 0). IsAlike kind other × P) (shapes-row rest others)

parts-row : {n : Count} (row : Row_of-Part n) (others : List Part) → PartsAlike row others ≡ PartsMatch (items-the_row-Part n row) others
unfolding IsAlike
parts-row end_of-Part [] = refl
parts-row end_of-Part (other ∷ others) = refl
parts-row (more_of-Part part rest) [] = refl
parts-row (more_of-Part part rest) (other ∷ others) = ap (λ (P : Type 0). PartAlike part other × P) (parts-row rest others)

bodies-row : {n l : Count} (row : Row_of-Way n) (others : Row_of-Way l) → BodiesAlike row (bodies_of others) ≡ WaysMatch (items-the_row-Way n row) (items-the_row-Way l others)
unfolding IsAlike
bodies-row end_of-Way end_of-Way = refl
bodies-row end_of-Way (more_of-Way at s body rest) = refl
bodies-row (more_of-Way at s body rest) end_of-Way = refl
bodies-row (more_of-Way at s body rest) (more_of-Way there t other others) =
    let one = parts-row body (items-the_row-Part _ other) in
    let rows : PartsMatch (items-the_row-Part _ body) (items-the_row-Part _ other) ≡ PartsMatch (block.shown-the_row-Part-2 s body) (block.shown-the_row-Part-2 t other) = (λ j. PartsMatch (sym (parts-shown s body) j) (sym (parts-shown t other) j)) in
    let both = one ∙ rows in
    let more = bodies-row rest others in
    λ j. both j × more j

entries-row : {n : Count} (row : Row_of-MapEntry n) (others : List MapEntry) → EntriesAlike row others ≡ EntriesMatch (items-the_row-MapEntry n row) others
unfolding IsAlike
entries-row end_of-MapEntry [] = refl
entries-row end_of-MapEntry (other ∷ others) = refl
entries-row (more_of-MapEntry entry rest) [] = refl
entries-row (more_of-MapEntry entry rest) (other ∷ others) = ap (λ (P : Type 0). EntryAlike entry other × P) (entries-row rest others)

map_ways-row : {n l : Count} (row : Row_of-MapWay n) (others : Row_of-MapWay l) → MapWaysAlike row (ways_of others) ≡ MapWaysMatch (items-the_row-MapWay n row) (items-the_row-MapWay l others)
unfolding IsAlike
map_ways-row end_of-MapWay end_of-MapWay = refl
map_ways-row end_of-MapWay (more_of-MapWay at s entries rest) = refl
map_ways-row (more_of-MapWay at s entries rest) end_of-MapWay = refl
map_ways-row (more_of-MapWay at s entries rest) (more_of-MapWay there t other others) =
    let one = entries-row entries (items-the_row-MapEntry _ other) in
    let rows : EntriesMatch (items-the_row-MapEntry _ entries) (items-the_row-MapEntry _ other) ≡ EntriesMatch (block.shown-the_row-MapEntry-3 s entries) (block.shown-the_row-MapEntry-3 t other) = (λ j. EntriesMatch (sym (entries-shown s entries) j) (sym (entries-shown t other) j)) in
    let both = one ∙ rows in
    let more = map_ways-row rest others in
    λ j. both j × more j

-- ---- kinds

pub alike-Tag : (n : ℕ) (s : Shape) (l : ℕ) (t : Shape) → IsAlike (k.Tag n s) (k.Tag l t) ↔ ((n ≡ l) × IsAlike s.kind t.kind)
unfolding IsAlike block.hidden-the_row-Shape-0 hidden
alike-Tag n s l t = ((λ h. (h.0, h.1.0)), (λ h. (h.0, (h.1, tt))))

pub alike-AnyTag : (s t : Shape) → IsAlike (k.AnyTag s) (k.AnyTag t) ↔ IsAlike s.kind t.kind
unfolding IsAlike block.hidden-the_row-Shape-0 hidden
alike-AnyTag s t = ((λ h. h.0), (λ h. (h, tt)))

pub alike-Cbor : (s t : Shape) → IsAlike (k.Cbor s) (k.Cbor t) ↔ IsAlike s.kind t.kind
unfolding IsAlike block.hidden-the_row-Shape-0 hidden
alike-Cbor s t = ((λ h. h.0), (λ h. (h, tt)))

pub alike-Choice : (ss ts : List Shape) → IsAlike (k.Choice ss) (k.Choice ts) ≡ ShapesMatch ss ts
unfolding IsAlike
alike-Choice ss ts =
    let a = block.items_hidden-the_row-Shape-1 ss in
    let b = block.items_hidden-the_row-Shape-1 ts in
    shapes-row (block.hidden-the_row-Shape-1 ss) (block.hidden-the_row-Shape-1 ts) ∙ (λ j. ShapesMatch (a j) (b j))

parts-list : (xs ys : List Part) → PartsAlike (block.hidden-the_row-Part-2 xs) (items-the_row-Part _ (block.hidden-the_row-Part-2 ys)) ≡ PartsMatch xs ys
parts-list xs ys =
    let a = block.items_hidden-the_row-Part-2 xs in
    let b = block.items_hidden-the_row-Part-2 ys in
    parts-row (block.hidden-the_row-Part-2 xs) (items-the_row-Part _ (block.hidden-the_row-Part-2 ys)) ∙ (λ j. PartsMatch (a j) (b j))

pub alike-Array : (g h : Group) → IsAlike (k.Array g) (k.Array h) ≡ PartsMatch g.parts h.parts
unfolding IsAlike
alike-Array g h = parts-list g.parts h.parts

pub alike-Map : (xs ys : List MapEntry) → IsAlike (k.Map xs) (k.Map ys) ≡ EntriesMatch xs ys
unfolding IsAlike
alike-Map xs ys =
    let a = block.items_hidden-the_row-MapEntry-3 xs in
    let b = block.items_hidden-the_row-MapEntry-3 ys in
    entries-row (block.hidden-the_row-MapEntry-3 xs) (items-the_row-MapEntry _ (block.hidden-the_row-MapEntry-3 ys)) ∙ (λ j. EntriesMatch (a j) (b j))

-- ---- parts

pub alike-One : (s t : Shape) → PartAlike (p.One s) (p.One t) ≡ IsAlike s.kind t.kind
unfolding IsAlike
alike-One s t = refl

pub alike-Opt : (a b : ℕ) (g h : Group) → PartAlike (p.Opt a g) (p.Opt b h) ≡ PartsMatch g.parts h.parts
unfolding IsAlike
alike-Opt a b g h = parts-list g.parts h.parts

pub alike-Many : (a lo hi : ℕ) (g : Group) (b least most : ℕ) (h : Group) → PartAlike (p.Many a lo hi g) (p.Many b least most h) ≡ ((lo ≡ least) × (hi ≡ most) × PartsMatch g.parts h.parts)
unfolding IsAlike
alike-Many a lo hi g b least most h = ap (λ (P : Type 0). (lo ≡ least) × (hi ≡ most) × P) (parts-list g.parts h.parts)

pub alike-Alt : (a b : ℕ) (xs ys : List Way) → PartAlike (p.Alt a xs) (p.Alt b ys) ≡ WaysMatch xs ys
unfolding IsAlike
alike-Alt a b xs ys =
    let e = block.items_hidden-the_row-Way-4 xs in
    let f = block.items_hidden-the_row-Way-4 ys in
    bodies-row (block.hidden-the_row-Way-4 xs) (block.hidden-the_row-Way-4 ys) ∙ (λ j. WaysMatch (e j) (f j))

-- ---- entries

pub alike-Field : (f g : Field) → EntryAlike (m.Field f) (m.Field g) ≡ FieldsMatch f g
unfolding IsAlike
alike-Field f g = refl

pub alike-Table : (t u : Table) → EntryAlike (m.Table t) (m.Table u) ≡ TablesMatch t u
unfolding IsAlike
alike-Table t u = refl

pub alike-Pick : (x y : Pick) → EntryAlike (m.Pick x) (m.Pick y) ≡ (((out-Pick x).needed ≡ (out-Pick y).needed) × MapWaysMatch (out-Pick x).ways (out-Pick y).ways)
unfolding IsAlike
alike-Pick (Pick' at needed s ways) (Pick' there other t others) =
    let e = sym (pick-out at needed s ways) in
    let f = sym (pick-out there other t others) in
    ap (λ (P : Type 0). (needed ≡ other) × P) (map_ways-row ways others) ∙ (λ j. ((e j).needed ≡ (f j).needed) × MapWaysMatch (e j).ways (f j).ways)

-- ---- the other is of another kind

pub other_than-Tag : (n : ℕ) (s : Shape) (other : Kind) → ((l : ℕ) (t : Shape) → other ≡ k.Tag l t → ⊥) → IsAlike (k.Tag n s) other → ⊥
unfolding IsAlike
other_than-Tag n s (Tag' l t row) apart h = apart l _ (Tag-row l t row)
other_than-Tag n s other apart h = absurd h

pub other_than-AnyTag : (s : Shape) (other : Kind) → ((t : Shape) → other ≡ k.AnyTag t → ⊥) → IsAlike (k.AnyTag s) other → ⊥
unfolding IsAlike
other_than-AnyTag s (AnyTag' t row) apart h = apart _ (AnyTag-row t row)
other_than-AnyTag s other apart h = absurd h

pub other_than-Cbor : (s : Shape) (other : Kind) → ((t : Shape) → other ≡ k.Cbor t → ⊥) → IsAlike (k.Cbor s) other → ⊥
unfolding IsAlike
other_than-Cbor s (Cbor' t row) apart h = apart _ (Cbor-row t row)
other_than-Cbor s other apart h = absurd h

pub other_than-Choice : (ss : List Shape) (other : Kind) → ((ts : List Shape) → other ≡ k.Choice ts → ⊥) → IsAlike (k.Choice ss) other → ⊥
unfolding IsAlike
other_than-Choice ss (Choice' t row) apart h = apart _ (Choice-row t row)
other_than-Choice ss other apart h = absurd h

pub other_than-Array : (g : Group) (other : Kind) → ((h : Group) → other ≡ k.Array h → ⊥) → IsAlike (k.Array g) other → ⊥
unfolding IsAlike
other_than-Array g (Array' t row) apart h = apart _ (Array-row t row)
other_than-Array g other apart h = absurd h

pub other_than-Map : (xs : List MapEntry) (other : Kind) → ((ys : List MapEntry) → other ≡ k.Map ys → ⊥) → IsAlike (k.Map xs) other → ⊥
unfolding IsAlike
other_than-Map xs (Map' t row) apart h = apart _ (Map-row t row)
other_than-Map xs other apart h = absurd h

pub other_than-One : (s : Shape) (other : Part) → ((t : Shape) → other ≡ p.One t → ⊥) → PartAlike (p.One s) other → ⊥
unfolding IsAlike
other_than-One s (One' at kind) apart h = apart (record { at = at; kind = kind }) refl
other_than-One s other apart h = absurd h

pub other_than-Opt : (a : ℕ) (g : Group) (other : Part) → ((b : ℕ) (h : Group) → other ≡ p.Opt b h → ⊥) → PartAlike (p.Opt a g) other → ⊥
unfolding IsAlike
other_than-Opt a g (Opt' b t row) apart h = apart b _ (Opt-row b t row)
other_than-Opt a g other apart h = absurd h

pub other_than-Many : (a lo hi : ℕ) (g : Group) (other : Part) → ((b least most : ℕ) (h : Group) → other ≡ p.Many b least most h → ⊥) → PartAlike (p.Many a lo hi g) other → ⊥
unfolding IsAlike
other_than-Many a lo hi g (Many' b least most t row) apart h = apart b least most _ (Many-row b least most t row)
other_than-Many a lo hi g other apart h = absurd h

pub other_than-Alt : (a : ℕ) (ways : List Way) (other : Part) → ((b : ℕ) (ys : List Way) → other ≡ p.Alt b ys → ⊥) → PartAlike (p.Alt a ways) other → ⊥
unfolding IsAlike
other_than-Alt a ways (Alt' b t row) apart h = apart b _ (Alt-row b t row)
other_than-Alt a ways other apart h = absurd h

pub other_than-Field : (f : Field) (other : MapEntry) → ((g : Field) → other ≡ m.Field g → ⊥) → EntryAlike (m.Field f) other → ⊥
unfolding IsAlike
other_than-Field f (Field' at there key cut lo place kind) apart h =
    apart (record { at = at; key = record { at = there; kind = key }; cut = cut; lo = lo; value = record { at = place; kind = kind } }) refl
other_than-Field f other apart h = absurd h

pub other_than-Table : (t : Table) (other : MapEntry) → ((u : Table) → other ≡ m.Table u → ⊥) → EntryAlike (m.Table t) other → ⊥
unfolding IsAlike
other_than-Table t (Table' at lo hi there key place kind) apart h =
    apart (record { at = at; lo = lo; hi = hi; key = record { at = there; kind = key }; value = record { at = place; kind = kind } }) refl
other_than-Table t other apart h = absurd h

pub other_than-Pick : (x : Pick) (other : MapEntry) → ((y : Pick) → other ≡ m.Pick y → ⊥) → EntryAlike (m.Pick x) other → ⊥
unfolding IsAlike
other_than-Pick x (m.Pick y) apart h = apart y refl
other_than-Pick x other apart h = absurd h

-- ---- answers of the code

pub tag_by : {r : Bool} (n : ℕ) (s : Shape) (l : ℕ) (t : Shape) → n ≡ l → (r ≡ true) ↔ IsAlike s.kind t.kind → (r ≡ true) ↔ IsAlike (k.Tag n s) (k.Tag l t)
tag_by n s l t e h = let same = alike-Tag n s l t in carried (λ p. let from = same.1 in from (e, p)) (λ q. let to = same.0 in let both = to q in both.1) h

pub tag_not : (n : ℕ) (s : Shape) (l : ℕ) (t : Shape) → (n ≡ l → ⊥) → (false ≡ true) ↔ IsAlike (k.Tag n s) (k.Tag l t)
tag_not n s l t h = let same = alike-Tag n s l t in refuted (λ q. let to = same.0 in let both = to q in h both.0)

pub back : {r : Bool} {P Q : Type 0} → P ↔ Q → (r ≡ true) ↔ Q → (r ≡ true) ↔ P
back same h = carried (λ q. let from = same.1 in from q) (λ p. let to = same.0 in to p) h

pub kinds_by : {r : Bool} {a b x y : Kind} → a ≡ x → b ≡ y → (r ≡ true) ↔ IsAlike x y → (r ≡ true) ↔ IsAlike a b
kinds_by e f h = along (λ j. IsAlike (sym e j) (sym f j)) h

pub kinds_not : (a b : Kind) {x : Kind} → a ≡ x → (IsAlike x b → ⊥) → (false ≡ true) ↔ IsAlike a b
kinds_not a b {x} e h = refuted (λ (p : IsAlike a b). h (subst (λ (y : Kind). IsAlike y b) e p))

pub parts_by : {r : Bool} {a b x y : Part} → a ≡ x → b ≡ y → (r ≡ true) ↔ PartAlike x y → (r ≡ true) ↔ PartAlike a b
parts_by e f h = along (λ j. PartAlike (sym e j) (sym f j)) h

pub parts_not : (a b : Part) {x : Part} → a ≡ x → (PartAlike x b → ⊥) → (false ≡ true) ↔ PartAlike a b
parts_not a b {x} e h = refuted (λ (p : PartAlike a b). h (subst (λ (y : Part). PartAlike y b) e p))

pub entries_by : {r : Bool} {a b x y : MapEntry} → a ≡ x → b ≡ y → (r ≡ true) ↔ EntryAlike x y → (r ≡ true) ↔ EntryAlike a b
entries_by e f h = along (λ j. EntryAlike (sym e j) (sym f j)) h

pub entries_not : (a b : MapEntry) {x : MapEntry} → a ≡ x → (EntryAlike x b → ⊥) → (false ≡ true) ↔ EntryAlike a b
entries_not a b {x} e h = refuted (λ (p : EntryAlike a b). h (subst (λ (y : MapEntry). EntryAlike y b) e p))

-- ---- shapes that hold no other

range_same : (a b : Kind) → RangeAlike a b → IsAlike a b
unfolding IsAlike
range_same (k.Uint lo hi) b h = h
range_same (k.Nint lo hi) b h = h
range_same (k.Bytes lo hi) b h = h
range_same (k.Text lo hi) b h = h
range_same a b h = absurd h

single_same : (a b : Kind) → SingleAlike a b → IsAlike a b
unfolding IsAlike
single_same (k.BytesIs bytes) b h = h
single_same (k.TextIs bytes) b h = h
single_same (k.Simple n) b h = h
single_same (k.Any depth) b h = h
single_same (k.AnyOf major depth) b h = h
single_same a b h = absurd h

pub leaf_same : (a b : Kind) → LeafAlike a b → IsAlike a b
leaf_same a b (inl h) = range_same a b h
leaf_same a b (inr h) = single_same a b h

pub leaf_only : (a b : Kind) → ((l : ℕ) (t : Shape) → a ≡ k.Tag l t → ⊥) → ((t : Shape) → a ≡ k.AnyTag t → ⊥) → ((t : Shape) → a ≡ k.Cbor t → ⊥) → ((ts : List Shape) → a ≡ k.Choice ts → ⊥) → ((h : Group) → a ≡ k.Array h → ⊥)
    → ((ys : List MapEntry) → a ≡ k.Map ys → ⊥) → IsAlike a b → LeafAlike a b
unfolding IsAlike
leaf_only (k.Uint lo hi) b t y c o r p h = inl h
leaf_only (k.Nint lo hi) b t y c o r p h = inl h
leaf_only (k.Bytes lo hi) b t y c o r p h = inl h
leaf_only (k.Text lo hi) b t y c o r p h = inl h
leaf_only (k.BytesIs bytes) b t y c o r p h = inr h
leaf_only (k.TextIs bytes) b t y c o r p h = inr h
leaf_only (k.Simple n) b t y c o r p h = inr h
leaf_only (k.Any depth) b t y c o r p h = inr h
leaf_only (k.AnyOf major depth) b t y c o r p h = inr h
leaf_only (Tag' n s row) b t y c o r p h = absurd (t n _ (Tag-row n s row))
leaf_only (AnyTag' s row) b t y c o r p h = absurd (y _ (AnyTag-row s row))
leaf_only (Cbor' s row) b t y c o r p h = absurd (c _ (Cbor-row s row))
leaf_only (Choice' s row) b t y c o r p h = absurd (o _ (Choice-row s row))
leaf_only (Array' s row) b t y c o r p h = absurd (r _ (Array-row s row))
leaf_only (Map' s row) b t y c o r p h = absurd (p _ (Map-row s row))
