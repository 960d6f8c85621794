-- The rules A1 to A4 of choices and arrays and M1 to M5 of maps, as what a shape demands, each demand with the place at which it is broken.
use Rattle.std.specs.Prelude.{◌≡◌, ℕ, ◌≤◌, ◌⊎◌, ◌++◌, true, false, List, [], ◌∷◌}
use Rattle.ecd_core.specs.declared.shape.Kind.{Kind, Choice', Tag', Cbor', AnyTag', Array', Map', Row_of-Shape, end_of-Shape, more_of-Shape, Row_of-MapEntry, end_of-MapEntry, more_of-MapEntry}
use Rattle.ecd_core.specs.declared.shape.Kind.TheVariants as k
use Rattle.ecd_core.specs.declared.shape.Shape.{Shape}
use Rattle.ecd_core.specs.declared.shape.Group.{Row_of-Part, end_of-Part, more_of-Part}
use Rattle.ecd_core.specs.declared.shape.Part.{Part, One', Opt', Many', Alt', Row_of-Way, end_of-Way, more_of-Way}
use Rattle.ecd_core.specs.declared.shape.MapEntry.{MapEntry, Field', Table'}
use Rattle.ecd_core.specs.declared.shape.MapEntry.TheVariants as m
use Rattle.ecd_core.specs.declared.shape.Pick.{Pick, Pick', Row_of-MapWay, end_of-MapWay, more_of-MapWay}
use Rattle.ecd_core.specs.Lists.{Each, HasSome}
use Rattle.ecd_apart.specs.Apart.{Apart}
use Rattle.ecd_apart.specs.Keys.{IsSameKey}
use Rattle.ecd_shape_rules.specs.declared.rule.Rule.{Rule}
use Rattle.ecd_shape_rules.specs.declared.rule.Rule.TheVariants.{A1, A2, A3, A4, M1, M2, M3, M4, M5}
use Rattle.ecd_shape_rules.specs.Starts.{may_be_empty, starts, follow, follow_body, AreApart}
use Rattle.ecd_shape_rules.specs.Alike.{IsAlike}

-- What a rule demands, and the place at which it is broken where that does not hold.
pub record Demand : Type 1 where
  pub rule : Rule
  pub place : ℕ
  pub holds : Type 0

abbrev pub demand : Rule → ℕ → Type 0 → Demand
demand rule place holds = record { rule = rule; place = place; holds = holds }

-- ---- A1: the alternatives of a choice are apart; it is broken at the later of two

abbrev pub apart_from_each : Kind → {m : _} → Row_of-Shape m → List Demand
apart_from_each kind end_of-Shape = []
apart_from_each kind (more_of-Shape at other rest) = demand A1 at (Apart kind other) ∷ apart_from_each kind rest

abbrev pub alternatives_apart : {m : _} → Row_of-Shape m → List Demand
alternatives_apart end_of-Shape = []
alternatives_apart (more_of-Shape at kind rest) = apart_from_each kind rest ++ alternatives_apart rest

-- ---- A2: of two ways of a choice of groups the starts are apart, not both may be empty, and where one may be empty the other's starts are apart from what follows

-- The body may be empty.
abbrev pub IsEmptiable : {m : _} → Row_of-Part m → Type 0
IsEmptiable body = may_be_empty body ≡ true

-- Of an earlier way and a later one. It is broken at the later way, but at the sibling of a way that may be empty where that sibling's starts are at fault.
abbrev pub two_ways : (at : ℕ) {m : _} → Row_of-Part m → (later : ℕ) {n : _} → Row_of-Part n → List Kind → List Demand
two_ways at one later other after =
    demand A2 later (AreApart (starts one) (starts other)) ∷ demand A2 later (IsEmptiable one → IsEmptiable other → ⊥)
    ∷ demand A2 later (IsEmptiable one → AreApart (starts other) after) ∷ demand A2 at (IsEmptiable other → AreApart (starts one) after) ∷ []

abbrev pub way_beside_each : (at : ℕ) {n : _} → Row_of-Part n → {m : _} → Row_of-Way m → List Kind → List Demand
way_beside_each at body end_of-Way after = []
way_beside_each at body (more_of-Way later _ other rest) after = two_ways at body later other after ++ way_beside_each at body rest after

abbrev pub ways_beside : {m : _} → Row_of-Way m → List Kind → List Demand
ways_beside end_of-Way after = []
ways_beside (more_of-Way at _ body rest) after = way_beside_each at body rest after ++ ways_beside rest after

-- ---- fields and tables of a map

-- A field by the place of its entry, its key and the shape of its value.
pub record KeyedField : Type 0 where
  pub at : ℕ
  pub key : Kind
  pub kind : Kind

-- The fields among the entries of a way. A pick or a table in a way is no part of what M1 to M3 look at.
abbrev pub fields_of : {m : _} → Row_of-MapEntry m → List KeyedField
fields_of end_of-MapEntry = []
fields_of (more_of-MapEntry (Field' at _ key cut lo _ kind) rest) = record { at = at; key = key; kind = kind } ∷ fields_of rest
fields_of (more_of-MapEntry (m.Pick pick) rest) = fields_of rest
fields_of (more_of-MapEntry (Table' at lo hi _ key _ kind) rest) = fields_of rest

abbrev pub way_fields : {m : _} → Row_of-MapWay m → List KeyedField
way_fields end_of-MapWay = []
way_fields (more_of-MapWay at _ entries rest) = fields_of entries ++ way_fields rest

abbrev pub pick_fields : Pick → List KeyedField
pick_fields (Pick' at needed _ ways) = way_fields ways

-- The fields of an entry: itself, or all fields in the ways of a pick.
abbrev pub entry_fields : MapEntry → List KeyedField
entry_fields (Field' at _ key cut lo _ kind) = record { at = at; key = key; kind = kind } ∷ []
entry_fields (m.Pick pick) = pick_fields pick
entry_fields (Table' at lo hi _ key _ kind) = []

-- What is demanded of an element beside each of a list.
abbrev pub beside : {A B : Type 0} → (A → B → Demand) → A → List B → List Demand
beside f x [] = []
beside f x (other ∷ others) = f x other ∷ beside f x others

-- What is demanded of each element of the one list beside each of the other.
abbrev pub between : {A B : Type 0} → (A → B → Demand) → List A → List B → List Demand
between f [] others = []
between f (x ∷ xs) others = beside f x others ++ between f xs others

-- What is demanded of each element beside each later one.
abbrev pub in_pairs : {A : Type 0} → (A → A → Demand) → List A → List Demand
in_pairs f [] = []
in_pairs f (x ∷ xs) = beside f x xs ++ in_pairs f xs

-- ---- M1: two fields of a map have different keys, unless they stand in different ways of one pick and the shapes of their values are apart, or equal but for
-- their places; it is broken at the later field

abbrev pub other_key : KeyedField → KeyedField → Demand
other_key field later = demand M1 later.at (IsSameKey field.key later.key → ⊥)

abbrev pub other_key_or_value : KeyedField → KeyedField → Demand
other_key_or_value field later = demand M1 later.at (IsSameKey field.key later.key → Apart field.kind later.kind ⊎ IsAlike field.kind later.kind)

abbrev pub ways_keys_demanded : {m : _} → Row_of-MapWay m → List Demand
ways_keys_demanded end_of-MapWay = []
ways_keys_demanded (more_of-MapWay at _ entries rest) = in_pairs other_key (fields_of entries) ++ (between other_key_or_value (fields_of entries) (way_fields rest) ++ ways_keys_demanded rest)

abbrev pub pick_keys_demanded : Pick → List Demand
pick_keys_demanded (Pick' at needed _ ways) = ways_keys_demanded ways

abbrev pub inner_keys_demanded : MapEntry → List Demand
inner_keys_demanded (Field' at _ key cut lo _ kind) = []
inner_keys_demanded (m.Pick pick) = pick_keys_demanded pick
inner_keys_demanded (Table' at lo hi _ key _ kind) = []

abbrev pub map_fields : {m : _} → Row_of-MapEntry m → List KeyedField
map_fields end_of-MapEntry = []
map_fields (more_of-MapEntry entry rest) = entry_fields entry ++ map_fields rest

abbrev pub keys_demanded : {m : _} → Row_of-MapEntry m → List Demand
keys_demanded end_of-MapEntry = []
keys_demanded (more_of-MapEntry entry rest) = inner_keys_demanded entry ++ (between other_key (entry_fields entry) (map_fields rest) ++ keys_demanded rest)

-- ---- M2: the keys of two tables of a map are apart; it is broken at the later table
-- ---- M3: a field behind a table, in a pick too, has a key from which the table's keys are apart; it is broken at the field

abbrev pub tables_apart : Kind → {m : _} → Row_of-MapEntry m → List Demand
tables_apart key end_of-MapEntry = []
tables_apart key (more_of-MapEntry (Field' at _ other cut lo _ kind) rest) = tables_apart key rest
tables_apart key (more_of-MapEntry (m.Pick pick) rest) = tables_apart key rest
tables_apart key (more_of-MapEntry (Table' at lo hi _ other _ kind) rest) = demand M2 at (Apart key other) ∷ tables_apart key rest

abbrev pub fields_apart : Kind → List KeyedField → List Demand
fields_apart key [] = []
fields_apart key (field ∷ fields) = demand M3 field.at (Apart key field.key) ∷ fields_apart key fields

abbrev pub behind_tables : {m : _} → Row_of-MapEntry m → List Demand
behind_tables end_of-MapEntry = []
behind_tables (more_of-MapEntry (Field' at _ key cut lo _ kind) rest) = behind_tables rest
behind_tables (more_of-MapEntry (m.Pick pick) rest) = behind_tables rest
behind_tables (more_of-MapEntry (Table' at lo hi _ key _ kind) rest) = tables_apart key rest ++ (fields_apart key (map_fields rest) ++ behind_tables rest)

-- ---- M4: a way of a pick has a field whose lower bound is 1; it is broken at the way

abbrev pub HasNeededField : {m : _} → Row_of-MapEntry m → Type 0
HasNeededField end_of-MapEntry = ⊥
HasNeededField (more_of-MapEntry (Field' at _ key cut lo _ kind) rest) = (lo ≡ 1) ⊎ HasNeededField rest
HasNeededField (more_of-MapEntry (m.Pick pick) rest) = HasNeededField rest
HasNeededField (more_of-MapEntry (Table' at lo hi _ key _ kind) rest) = HasNeededField rest

-- ---- M5: a way holds fields alone, and no field has a lower bound above 1; it is broken at the entry

abbrev pub pick_place : Pick → ℕ
pick_place (Pick' at needed _ ways) = at

abbrev pub fields_alone : {m : _} → Row_of-MapEntry m → List Demand
fields_alone end_of-MapEntry = []
fields_alone (more_of-MapEntry (Field' at _ key cut lo _ kind) rest) = fields_alone rest
fields_alone (more_of-MapEntry (m.Pick pick) rest) = demand M5 (pick_place pick) ⊥ ∷ fields_alone rest
fields_alone (more_of-MapEntry (Table' at lo hi _ key _ kind) rest) = demand M5 at ⊥ ∷ fields_alone rest

-- ---- all that a shape demands: of itself, and of every shape, part, way and entry in it

unfoldable mutual
  pub demands : Kind → List Demand
  demands (k.Uint lo hi) = []
  demands (k.Nint lo hi) = []
  demands (k.Bytes lo hi) = []
  demands (k.Text lo hi) = []
  demands (k.BytesIs bytes) = []
  demands (k.TextIs bytes) = []
  demands (k.Simple n) = []
  demands (Tag' n _ inner) = shapes_demand inner
  demands (AnyTag' _ inner) = shapes_demand inner
  demands (k.Any depth) = []
  demands (k.AnyOf major depth) = []
  demands (Cbor' _ inner) = shapes_demand inner
  demands (Choice' _ ways) = alternatives_apart ways ++ shapes_demand ways
  demands (Array' _ parts) = parts_demand parts []
  demands (Map' _ entries) = keys_demanded entries ++ (behind_tables entries ++ entries_demand entries)

  pub shapes_demand : {m : _} → Row_of-Shape m → List Demand
  shapes_demand end_of-Shape = []
  shapes_demand (more_of-Shape at kind rest) = demands kind ++ shapes_demand rest

  -- Parts before what may follow them.
  pub parts_demand : {m : _} → Row_of-Part m → List Kind → List Demand
  parts_demand end_of-Part after = []
  parts_demand (more_of-Part part rest) after = part_demands part (follow rest after) ++ parts_demand rest after

  -- A3: the body of an optional or repeated part may not be empty. A4: its starts are apart from what follows, unless it stands a fixed number of times. Both are
  -- broken at the part.
  pub part_demands : Part → List Kind → List Demand
  part_demands (One' at kind) after = demands kind
  part_demands (Opt' at _ body) after = demand A3 at (may_be_empty body ≡ false) ∷ demand A4 at (AreApart (starts body) after) ∷ parts_demand body after
  part_demands (Many' at lo hi _ body) after =
      demand A3 at (may_be_empty body ≡ false) ∷ demand A4 at ((lo ≡ hi) ⊎ AreApart (starts body) after) ∷ parts_demand body (follow_body hi body after)
  part_demands (Alt' at _ ways) after = ways_beside ways after ++ groups_demand ways after

  pub groups_demand : {m : _} → Row_of-Way m → List Kind → List Demand
  groups_demand end_of-Way after = []
  groups_demand (more_of-Way at _ body rest) after = parts_demand body after ++ groups_demand rest after

  pub entries_demand : {m : _} → Row_of-MapEntry m → List Demand
  entries_demand end_of-MapEntry = []
  entries_demand (more_of-MapEntry entry rest) = entry_demands entry ++ entries_demand rest

  pub entry_demands : MapEntry → List Demand
  entry_demands (Field' at _ key cut lo _ kind) = demand M5 at (lo ≤ 1) ∷ (demands key ++ demands kind)
  entry_demands (m.Pick pick) = pick_demands pick
  entry_demands (Table' at lo hi _ key _ kind) = demands key ++ demands kind

  pub pick_demands : Pick → List Demand
  pick_demands (Pick' at needed _ ways) = map_ways_demand ways

  pub map_ways_demand : {m : _} → Row_of-MapWay m → List Demand
  map_ways_demand end_of-MapWay = []
  map_ways_demand (more_of-MapWay at _ entries rest) = demand M4 at (HasNeededField entries) ∷ (fields_alone entries ++ (entries_demand entries ++ map_ways_demand rest))

-- ---- kept and broken

-- The demand stands in the list, and does not hold.
abbrev pub IsBrokenIn : List Demand → Rule → ℕ → Type 0
IsBrokenIn demanded rule place = HasSome (λ (d : Demand). (d.rule ≡ rule) × (d.place ≡ place) × (d.holds → ⊥)) demanded

-- A shape keeps the rules where all that it demands holds.
abbrev pub KeepsRules : Shape → Type 0
KeepsRules shape = Each (λ (d : Demand). d.holds) (demands shape.kind)

-- It breaks the rule at this place.
abbrev pub BreaksRule : Shape → Rule → ℕ → Type 0
BreaksRule shape rule place = IsBrokenIn (demands shape.kind) rule place
