-- The relation by cases, over the lists of the source.
use Rattle.std.proofs.Common.{◌≡◌, ℕ, zero, suc, ◌<◌, ◌^◌, ◌⊎◌, List, [], ◌∷◌, ◌++◌, length, map, refl, ap, sym, ◌∙◌, subst, rules, Bool}
use mathlib.Core.Former.{Count}
use denote.Hole.Carrier.{hidden, shown}
use Rattle.ecd_keyorder.specs.declared.Order.{Order}
use Rattle.ecd_item_laws.specs.declared.item.Item.{Item}
use Rattle.ecd_item_laws.specs.declared.item.Item.TheVariants as i
use Rattle.ecd_item_laws.specs.declared.item.Pair.{Pair}
use Rattle.ecd_item_laws.specs.Encoding.{encoding}
use Rattle.ecd_item_laws.specs.Valid.{IsValid}
use Rattle.ecd_core.specs.declared.shape.Kind.{Kind, Choice', Tag', Cbor', AnyTag', Array', Map', Row_of-Shape, end_of-Shape, more_of-Shape, Row_of-MapEntry, end_of-MapEntry, more_of-MapEntry, items-the_row-Shape, items-the_row-MapEntry, roll-Kind, roll-out-Kind, the_lemmas}
use Rattle.ecd_core.specs.declared.shape.Kind.TheVariants as k
use Rattle.ecd_core.specs.declared.shape.Kind.TheViews as views
use Rattle.ecd_core.specs.declared.shape.Kind.TheBlock as block
use Rattle.ecd_core.specs.declared.shape.Shape.{Shape}
use Rattle.ecd_core.specs.declared.shape.Group.{Group, Row_of-Part, end_of-Part, more_of-Part, items-the_row-Part}
use Rattle.ecd_core.specs.declared.shape.Part.{Part, One', Opt', Many', Alt', Row_of-Way, end_of-Way, more_of-Way, items-the_row-Way}
use Rattle.ecd_core.specs.declared.shape.Part.TheVariants as p
use Rattle.ecd_core.specs.declared.shape.Way.{Way}
use Rattle.ecd_core.specs.declared.shape.MapEntry.{MapEntry, Field', Table'}
use Rattle.ecd_core.specs.declared.shape.MapEntry.TheVariants as m
use Rattle.ecd_core.specs.declared.shape.Field.{Field}
use Rattle.ecd_core.specs.declared.shape.Table.{Table}
use Rattle.ecd_core.specs.declared.shape.Pick.{Pick, Pick', Row_of-MapWay, end_of-MapWay, more_of-MapWay, items-the_row-MapWay, out-Pick}
use Rattle.ecd_core.specs.declared.shape.MapWay.{MapWay}
use Rattle.ecd_core.specs.declared.value.Value.{Value}
use Rattle.ecd_core.specs.declared.value.Value.TheVariants as v
use Rattle.ecd_core.specs.Lists.{Each}
use Rattle.ecd_core.specs.Maps.{FieldMeaning, EntryMeaning, AField, APick, ATable, MapHas}
use Rattle.ecd_core.specs.Values.{IsWithin, Run, run_items, run_value, Gives, AlternativeGives, PartsGive, PartGives, WayGives, meanings, meaning, way_meanings, field_meanings, field_meaning, HasValue}
use Rattle.ecd_core.specs.Listed.{IsAt, PartsHave, entries_mean, fields_mean, ways_mean}

pub fwd : {A B : Type 0} → A ≡ B → A → B
fwd e a = subst (λ (X : Type 0). X) e a

pub bwd : {A B : Type 0} → A ≡ B → B → A
bwd e b = subst (λ (X : Type 0). X) (sym e) b

-- ---- rows are lists

pub parts-shown : (s : List (Unit {0})) (r : _) → block.shown-the_row-Part-2 s r ≡ items-the_row-Part _ r
parts-shown s r = search (rules, the_lemmas)

pub shapes-shown : (s : List (Unit {0})) (r : _) → block.shown-the_row-Shape-1 s r ≡ items-the_row-Shape _ r
shapes-shown s r = search (rules, the_lemmas)

pub entries-shown : (s : List (Unit {0})) (r : _) → block.shown-the_row-MapEntry-3 s r ≡ items-the_row-MapEntry _ r
entries-shown s r = search (rules, the_lemmas)

pub pick-out : (at : ℕ) (needed : Bool) (s : List (Unit {0})) (r : _) → out-Pick (Pick' at needed s r) ≡ record { at = at; needed = needed; ways = items-the_row-MapWay _ r }
pick-out at needed s r = search (rules, the_lemmas)

module _ (order : Order) where
  alternative-row : {n : Count} (row : Row_of-Shape n) (number : ℕ) (item : Item) (value : Value) → AlternativeGives order row number item value ≡ IsAt (λ (s : Shape). HasValue order s item value) (items-the_row-Shape n row) number
  unfolding Gives
  alternative-row end_of-Shape number item value = refl
  alternative-row (more_of-Shape at kind rest) zero item value = refl
  alternative-row (more_of-Shape at kind rest) (suc number) item value = alternative-row rest number item value

  parts-row : {n : Count} (row : Row_of-Part n) (items : List Item) (values : List Value) → PartsGive order row items values ≡ PartsHave order (items-the_row-Part n row) items values
  unfolding Gives
  parts-row end_of-Part items values = refl
  parts-row (more_of-Part part rest) items values = λ j. (front : List Item) × (back : List Item) × (one : Value) × (others : List Value) × (items ≡ front ++ back) × (values ≡ one ∷ others)
      × PartGives order part front one × parts-row rest back others j

  way-row : {n : Count} (row : Row_of-Way n) (number : ℕ) (items : List Item) (values : List Value) → WayGives order row number items values ≡ IsAt (λ (w : Way). PartsHave order w.body.parts items values) (items-the_row-Way n row) number
  unfolding Gives
  way-row end_of-Way number items values = refl
  way-row (more_of-Way at s body rest) zero items values = parts-row body items values ∙ ap (λ (x : List Part). PartsHave order x items values) (sym (parts-shown s body))
  way-row (more_of-Way at s body rest) (suc number) items values = way-row rest number items values

  fields-row : {n : Count} (row : Row_of-MapEntry n) → field_meanings order row ≡ fields_mean order (items-the_row-MapEntry n row)
  unfolding Gives
  fields-row end_of-MapEntry = refl
  fields-row (more_of-MapEntry (Field' at _ key cut lo _ kind) rest) = ap (λ (x : List FieldMeaning). field_meaning order key cut lo kind ∷ x) (fields-row rest)
  fields-row (more_of-MapEntry (m.Pick pick) rest) = fields-row rest
  fields-row (more_of-MapEntry (Table' at lo hi _ key _ kind) rest) = fields-row rest

  ways-row : {n : Count} (row : Row_of-MapWay n) → way_meanings order row ≡ ways_mean order (items-the_row-MapWay n row)
  unfolding Gives
  ways-row end_of-MapWay = refl
  ways-row (more_of-MapWay at s entries rest) =
      let fields = fields-row entries ∙ ap (fields_mean order) (sym (entries-shown s entries)) in
      let others = ways-row rest in
      λ j. fields j ∷ others j

  pub entries-row : {n : Count} (row : Row_of-MapEntry n) → meanings order row ≡ entries_mean order (items-the_row-MapEntry n row)
  unfolding Gives
  entries-row end_of-MapEntry = refl
  entries-row (more_of-MapEntry entry rest) = ap (λ (x : List EntryMeaning). meaning order entry ∷ x) (entries-row rest)

  -- ---- one equation for each kind

  pub Gives-Tag : (n : ℕ) (s : Shape) (item : Item) (value : Value) → Gives order (k.Tag n s) item value ≡ ((content : Item) × (item ≡ i.Tag n content) × (n < 2 ^ 64) × HasValue order s content value)
  unfolding Gives block.hidden-the_row-Shape-0 hidden
  Gives-Tag n s item value = refl

  pub Gives-AnyTag : (s : Shape) (item : Item) (value : Value) →
      Gives order (k.AnyTag s) item value ≡ ((n : ℕ) × (content : Item) × (one : Value) × (item ≡ i.Tag n content) × (n < 2 ^ 64) × (value ≡ v.Tagged n one) × HasValue order s content one)
  unfolding Gives block.hidden-the_row-Shape-0 hidden
  Gives-AnyTag s item value = refl

  pub Gives-Cbor : (s : Shape) (item : Item) (value : Value) → Gives order (k.Cbor s) item value ≡ ((content : Item) × (item ≡ i.Bytes (encoding content)) × IsValid order content × HasValue order s content value)
  unfolding Gives block.hidden-the_row-Shape-0 hidden
  Gives-Cbor s item value = refl

  pub Gives-Choice : (ss : List Shape) (item : Item) (value : Value) →
      Gives order (k.Choice ss) item value ≡ ((number : ℕ) × (one : Value) × (value ≡ v.Way number one) × IsAt (λ (s : Shape). HasValue order s item one) ss number)
  unfolding Gives
  Gives-Choice ss item value =
      λ j. (number : ℕ) × (one : Value) × (value ≡ v.Way number one)
      × (alternative-row (block.hidden-the_row-Shape-1 ss) number item one ∙ ap (λ (x : List Shape). IsAt (λ (s : Shape). HasValue order s item one) x number) (block.items_hidden-the_row-Shape-1 ss)) j

  pub parts-list : (parts : List Part) (items : List Item) (values : List Value) → PartsGive order (block.hidden-the_row-Part-2 parts) items values ≡ PartsHave order parts items values
  parts-list parts items values = parts-row (block.hidden-the_row-Part-2 parts) items values ∙ ap (λ (x : List Part). PartsHave order x items values) (block.items_hidden-the_row-Part-2 parts)

  pub Gives-Array : (g : Group) (item : Item) (value : Value) →
      Gives order (k.Array g) item value ≡ ((items : List Item) × (values : List Value) × (item ≡ i.Array items) × (value ≡ v.Group values) × PartsHave order g.parts items values)
  unfolding Gives
  Gives-Array g item value = λ j. (items : List Item) × (values : List Value) × (item ≡ i.Array items) × (value ≡ v.Group values) × parts-list g.parts items values j

  pub Gives-Map : (entries : List MapEntry) (item : Item) (value : Value) →
      Gives order (k.Map entries) item value ≡ ((pairs : List Pair) × (values : List Value) × (item ≡ i.Map pairs) × (value ≡ v.Group values) × MapHas order (entries_mean order entries) pairs values)
  unfolding Gives
  Gives-Map entries item value =
      let means = entries-row (block.hidden-the_row-MapEntry-3 entries) ∙ ap (entries_mean order) (block.items_hidden-the_row-MapEntry-3 entries) in
      λ j. (pairs : List Pair) × (values : List Value) × (item ≡ i.Map pairs) × (value ≡ v.Group values) × MapHas order (means j) pairs values

  -- ---- one for each part

  pub PartGives-One : (s : Shape) (items : List Item) (value : Value) → PartGives order (p.One s) items value ≡ ((item : Item) × (items ≡ item ∷ []) × HasValue order s item value)
  unfolding Gives
  PartGives-One s items value = refl

  pub PartGives-Opt : (at : ℕ) (g : Group) (items : List Item) (value : Value) →
      PartGives order (p.Opt at g) items value ≡ (((items ≡ []) × (value ≡ v.Absent)) ⊎ ((values : List Value) × (value ≡ v.Present (v.Group values)) × PartsHave order g.parts items values))
  unfolding Gives
  PartGives-Opt at g items value = λ j. ((items ≡ []) × (value ≡ v.Absent)) ⊎ ((values : List Value) × (value ≡ v.Present (v.Group values)) × parts-list g.parts items values j)

  pub PartGives-Many : (at lo hi : ℕ) (g : Group) (items : List Item) (value : Value) →
      PartGives order (p.Many at lo hi g) items value
      ≡ ((runs : List Run) × (items ≡ run_items runs) × (value ≡ v.Many (map run_value runs)) × IsWithin lo hi (length runs) × Each (λ run. PartsHave order g.parts run.0 run.1) runs)
  unfolding Gives
  PartGives-Many at lo hi g items value =
      λ j. (runs : List Run) × (items ≡ run_items runs) × (value ≡ v.Many (map run_value runs)) × IsWithin lo hi (length runs) × Each (λ run. parts-list g.parts run.0 run.1 j) runs

  pub PartGives-Alt : (at : ℕ) (ways : List Way) (items : List Item) (value : Value) →
      PartGives order (p.Alt at ways) items value
      ≡ ((number : ℕ) × (values : List Value) × (value ≡ v.Way number (v.Group values)) × IsAt (λ (w : Way). PartsHave order w.body.parts items values) ways number)
  unfolding Gives
  PartGives-Alt at ways items value =
      λ j. (number : ℕ) × (values : List Value) × (value ≡ v.Way number (v.Group values))
      × (way-row (block.hidden-the_row-Way-4 ways) number items values ∙ ap (λ (x : List Way). IsAt (λ (w : Way). PartsHave order w.body.parts items values) x number) (block.items_hidden-the_row-Way-4 ways)) j

  -- ---- one for each entry

  pub meaning-Field : (f : Field) → meaning order (m.Field f) ≡ AField (field_meaning order f.key.kind f.cut f.lo f.value.kind)
  unfolding Gives
  meaning-Field f = refl

  pub meaning-Table : (t : Table) → meaning order (m.Table t) ≡ ATable t.lo t.hi (HasValue order t.key) (HasValue order t.value)
  unfolding Gives
  meaning-Table t = refl

  pub meaning-Pick : (pick : Pick) → meaning order (m.Pick pick) ≡ APick (out-Pick pick).needed (ways_mean order (out-Pick pick).ways)
  unfolding Gives
  meaning-Pick (Pick' at needed s ways) = let e = pick-out at needed s ways in let w = ways-row ways in
      ap (λ (x : List (List FieldMeaning)). APick needed x) w ∙ sym (ap (λ x. APick x.needed (ways_mean order x.ways)) e)

-- ---- induction over shapes

-- What has to be shown for each kind, part and entry, where it holds for what they are made of.
pub record Cases (P : Kind → Type 0) (Q : Part → Type 0) (R : MapEntry → Type 0) : Type 0 where
  pub uint : (lo hi : ℕ) → P (k.Uint lo hi)
  pub nint : (lo hi : ℕ) → P (k.Nint lo hi)
  pub bytes : (lo hi : ℕ) → P (k.Bytes lo hi)
  pub text : (lo hi : ℕ) → P (k.Text lo hi)
  pub bytes_is : (bytes : List ℕ) → P (k.BytesIs bytes)
  pub text_is : (bytes : List ℕ) → P (k.TextIs bytes)
  pub simple : (n : ℕ) → P (k.Simple n)
  pub tag : (n : ℕ) (s : Shape) → P s.kind → P (k.Tag n s)
  pub any_tag : (s : Shape) → P s.kind → P (k.AnyTag s)
  pub any : (depth : ℕ) → P (k.Any depth)
  pub any_of : (major depth : ℕ) → P (k.AnyOf major depth)
  pub cbor : (s : Shape) → P s.kind → P (k.Cbor s)
  pub choice : (ss : List Shape) → Each (λ (s : Shape). P s.kind) ss → P (k.Choice ss)
  pub array : (g : Group) → Each Q g.parts → P (k.Array g)
  pub pairs : (entries : List MapEntry) → Each R entries → P (k.Map entries)
  pub one : (s : Shape) → P s.kind → Q (p.One s)
  pub opt : (at : ℕ) (g : Group) → Each Q g.parts → Q (p.Opt at g)
  pub many : (at lo hi : ℕ) (g : Group) → Each Q g.parts → Q (p.Many at lo hi g)
  pub alt : (at : ℕ) (ways : List Way) → Each (λ (w : Way). Each Q w.body.parts) ways → Q (p.Alt at ways)
  pub field : (f : Field) → P f.key.kind → P f.value.kind → R (m.Field f)
  pub pick : (pick : Pick) → Each (λ (w : MapWay). Each R w.entries) (out-Pick pick).ways → R (m.Pick pick)
  pub table : (t : Table) → P t.key.kind → P t.value.kind → R (m.Table t)

Tag-row : (n : ℕ) (s : Unit {0}) (r : Row_of-Shape 1) → Tag' n s r ≡ k.Tag n (block.shown-the_row-Shape-0 s r)
Tag-row n s r = sym (roll-out-Kind (Tag' n s r)) ∙ (ap roll-Kind (views.outs-Tag' n s r) ∙ k.rolls-Tag n _)

AnyTag-row : (s : Unit {0}) (r : Row_of-Shape 1) → AnyTag' s r ≡ k.AnyTag (block.shown-the_row-Shape-0 s r)
AnyTag-row s r = sym (roll-out-Kind (AnyTag' s r)) ∙ (ap roll-Kind (views.outs-AnyTag' s r) ∙ k.rolls-AnyTag _)

Cbor-row : (s : Unit {0}) (r : Row_of-Shape 1) → Cbor' s r ≡ k.Cbor (block.shown-the_row-Shape-0 s r)
Cbor-row s r = sym (roll-out-Kind (Cbor' s r)) ∙ (ap roll-Kind (views.outs-Cbor' s r) ∙ k.rolls-Cbor _)

Choice-row : (s : List (Unit {0})) (r : _) → Choice' s r ≡ k.Choice (items-the_row-Shape _ r)
Choice-row s r = sym (roll-out-Kind (Choice' s r)) ∙ (ap roll-Kind (views.outs-Choice' s r) ∙ (k.rolls-Choice _ ∙ ap (λ (x : List Shape). k.Choice x) (shapes-shown s r)))

Array-row : (s : List (Unit {0})) (r : _) → Array' s r ≡ k.Array (record { parts = items-the_row-Part _ r })
Array-row s r = sym (roll-out-Kind (Array' s r)) ∙ (ap roll-Kind (views.outs-Array' s r) ∙ (k.rolls-Array _ ∙ ap (λ (x : List Part). k.Array (record { parts = x })) (parts-shown s r)))

Map-row : (s : List (Unit {0})) (r : _) → Map' s r ≡ k.Map (items-the_row-MapEntry _ r)
Map-row s r = sym (roll-out-Kind (Map' s r)) ∙ (ap roll-Kind (views.outs-Map' s r) ∙ (k.rolls-Map _ ∙ ap (λ (x : List MapEntry). k.Map x) (entries-shown s r)))

Opt-row : (at : ℕ) (s : List (Unit {0})) (r : _) → Opt' at s r ≡ p.Opt at (record { parts = items-the_row-Part _ r })
Opt-row at s r = sym (views.roll-out-Part (Opt' at s r)) ∙ (ap views.roll-Part (views.outs-Opt' at s r) ∙ (p.rolls-Opt at _ ∙ ap (λ (x : List Part). p.Opt at (record { parts = x })) (parts-shown s r)))

Many-row : (at lo hi : ℕ) (s : List (Unit {0})) (r : _) → Many' at lo hi s r ≡ p.Many at lo hi (record { parts = items-the_row-Part _ r })
Many-row at lo hi s r =
    sym (views.roll-out-Part (Many' at lo hi s r)) ∙ (ap views.roll-Part (views.outs-Many' at lo hi s r) ∙ (p.rolls-Many at lo hi _ ∙ ap (λ (x : List Part). p.Many at lo hi (record { parts = x })) (parts-shown s r)))

Alt-row : (at : ℕ) (s : List (Unit {0})) (r : _) → Alt' at s r ≡ p.Alt at (items-the_row-Way _ r)
Alt-row at s r =
    let same : block.shown-the_row-Way-4 s r ≡ items-the_row-Way _ r = search (rules, the_lemmas) in
    sym (views.roll-out-Part (Alt' at s r)) ∙ (ap views.roll-Part (views.outs-Alt' at s r) ∙ (p.rolls-Alt at _ ∙ ap (λ (x : List Way). p.Alt at x) same))

module _ (P : Kind → Type 0) (Q : Part → Type 0) (R : MapEntry → Type 0) where
  one-shape : (s : Unit {0}) (r : Row_of-Shape 1) → Each (λ (x : Shape). P x.kind) (items-the_row-Shape 1 r) → P (block.shown-the_row-Shape-0 s r).kind
  unfolding block.shown-the_row-Shape-0 shown
  one-shape s r h = h.0

  module _ (c : Cases P Q R) where
    mutual
      pub kind_ind : (kind : Kind) → P kind
      kind_ind (k.Uint lo hi) = c.uint lo hi
      kind_ind (k.Nint lo hi) = c.nint lo hi
      kind_ind (k.Bytes lo hi) = c.bytes lo hi
      kind_ind (k.Text lo hi) = c.text lo hi
      kind_ind (k.BytesIs bytes) = c.bytes_is bytes
      kind_ind (k.TextIs bytes) = c.text_is bytes
      kind_ind (k.Simple n) = c.simple n
      kind_ind (Tag' n s r) = subst P (sym (Tag-row n s r)) (c.tag n _ (one-shape s r (shapes_ind r)))
      kind_ind (AnyTag' s r) = subst P (sym (AnyTag-row s r)) (c.any_tag _ (one-shape s r (shapes_ind r)))
      kind_ind (k.Any depth) = c.any depth
      kind_ind (k.AnyOf major depth) = c.any_of major depth
      kind_ind (Cbor' s r) = subst P (sym (Cbor-row s r)) (c.cbor _ (one-shape s r (shapes_ind r)))
      kind_ind (Choice' s r) = subst P (sym (Choice-row s r)) (c.choice _ (shapes_ind r))
      kind_ind (Array' s r) = subst P (sym (Array-row s r)) (c.array _ (parts_ind r))
      kind_ind (Map' s r) = subst P (sym (Map-row s r)) (c.pairs _ (entries_ind r))

      shapes_ind : {n : Count} (r : Row_of-Shape n) → Each (λ (x : Shape). P x.kind) (items-the_row-Shape n r)
      shapes_ind end_of-Shape = tt
      shapes_ind (more_of-Shape at kind rest) = (kind_ind kind, shapes_ind rest)

      parts_ind : {n : Count} (r : Row_of-Part n) → Each Q (items-the_row-Part n r)
      parts_ind end_of-Part = tt
      parts_ind (more_of-Part part rest) = (part_ind part, parts_ind rest)

      pub part_ind : (part : Part) → Q part
      part_ind (One' at kind) = c.one (record { at = at; kind = kind }) (kind_ind kind)
      part_ind (Opt' at s r) = subst Q (sym (Opt-row at s r)) (c.opt at _ (parts_ind r))
      part_ind (Many' at lo hi s r) = subst Q (sym (Many-row at lo hi s r)) (c.many at lo hi _ (parts_ind r))
      part_ind (Alt' at s r) = subst Q (sym (Alt-row at s r)) (c.alt at _ (ways_ind r))

      ways_ind : {n : Count} (r : Row_of-Way n) → Each (λ (w : Way). Each Q w.body.parts) (items-the_row-Way n r)
      ways_ind end_of-Way = tt
      ways_ind (more_of-Way at s body rest) = (subst (Each Q) (sym (parts-shown s body)) (parts_ind body), ways_ind rest)

      entries_ind : {n : Count} (r : Row_of-MapEntry n) → Each R (items-the_row-MapEntry n r)
      entries_ind end_of-MapEntry = tt
      entries_ind (more_of-MapEntry entry rest) = (entry_ind entry, entries_ind rest)

      pub entry_ind : (entry : MapEntry) → R entry
      entry_ind (Field' a b key cut lo d kind) = c.field (record { at = a; key = record { at = b; kind = key }; cut = cut; lo = lo; value = record { at = d; kind = kind } }) (kind_ind key) (kind_ind kind)
      entry_ind (m.Pick pick) = c.pick pick (pick_ind pick)
      entry_ind (Table' a lo hi b key d kind) = c.table (record { at = a; lo = lo; hi = hi; key = record { at = b; kind = key }; value = record { at = d; kind = kind } }) (kind_ind key) (kind_ind kind)

      pick_ind : (pick : Pick) → Each (λ (w : MapWay). Each R w.entries) (out-Pick pick).ways
      pick_ind (Pick' at needed s r) = subst (λ x. Each (λ (w : MapWay). Each R w.entries) x.ways) (sym (pick-out at needed s r)) (map_ways_ind r)

      map_ways_ind : {n : Count} (r : Row_of-MapWay n) → Each (λ (w : MapWay). Each R w.entries) (items-the_row-MapWay n r)
      map_ways_ind end_of-MapWay = tt
      map_ways_ind (more_of-MapWay at s entries rest) = (subst (Each R) (sym (entries-shown s entries)) (entries_ind entries), map_ways_ind rest)
