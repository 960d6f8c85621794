-- What shapes and parts demand, over the lists of the source: one equation for each kind and part.
use Rattle.std.proofs.Common.{◌≡◌, ℕ, ◌⊎◌, Bool, true, false, cond, ltb, List, [], ◌∷◌, ◌++◌, refl, ap, sym, ◌∙◌, append-nil}
use mathlib.Core.Former.{Count}
use denote.Hole.Carrier.{hidden}
use Rattle.ecd_core.specs.declared.shape.Kind.{Kind, Row_of-Shape, end_of-Shape, more_of-Shape, items-the_row-Shape}
use Rattle.ecd_core.specs.declared.shape.Kind.TheVariants as k
use Rattle.ecd_core.specs.declared.shape.Kind.TheBlock as block
use Rattle.ecd_core.specs.declared.shape.Shape.{Shape}
use Rattle.ecd_core.specs.declared.shape.Group.{Group, Row_of-Part}
use Rattle.ecd_core.specs.declared.shape.Part.{Part, Row_of-Way, end_of-Way, more_of-Way, items-the_row-Way}
use Rattle.ecd_core.specs.declared.shape.Part.TheVariants as p
use Rattle.ecd_core.specs.declared.shape.Way.{Way}
use Rattle.ecd_core.proofs.Layers.{parts-shown}
use Rattle.ecd_apart.specs.Apart.{Apart}
use Rattle.ecd_shape_rules.specs.Starts.{may_be_empty, starts, follow_body, AreApart}
use Rattle.ecd_shape_rules.specs.declared.rule.Rule.TheVariants.{A1, A2, A3, A4}
use Rattle.ecd_shape_rules.specs.Demands.{Demand, demand, apart_from_each, alternatives_apart, two_ways, way_beside_each, ways_beside, demands, shapes_demand, parts_demand, part_demands, groups_demand}
use Rattle.ecd_shape_rules.specs.Listed.{are_emptiable, starts_of, follow_body_of, parts_demanded, two_ways_of, way_beside_all, ways_beside_of, groups_demanded, apart_from_all, alternatives_demanded, shapes_demanded}
use Rattle.ecd_shape_rules.proofs.Listed.{empty-row, starts-row, demand-row, empty-list, starts-list, demand-list}

-- ---- shapes

apart-row : (kind : Kind) {n : Count} (row : Row_of-Shape n) → apart_from_each kind row ≡ apart_from_all kind (items-the_row-Shape n row)
apart-row kind end_of-Shape = refl
apart-row kind (more_of-Shape at other rest) = ap (λ (l : List Demand). demand A1 at (Apart kind other) ∷ l) (apart-row kind rest)

alternatives-row : {n : Count} (row : Row_of-Shape n) → alternatives_apart row ≡ alternatives_demanded (items-the_row-Shape n row)
alternatives-row end_of-Shape = refl
alternatives-row (more_of-Shape at kind rest) = let a = apart-row kind rest in let b = alternatives-row rest in λ j. a j ++ b j

shapes-row : {n : Count} (row : Row_of-Shape n) → shapes_demand row ≡ shapes_demanded (items-the_row-Shape n row)
unfolding demands
shapes-row end_of-Shape = refl
shapes-row (more_of-Shape at kind rest) = ap (λ (l : List Demand). demands kind ++ l) (shapes-row rest)

pub demands-Tag : (n : ℕ) (s : Shape) → demands (k.Tag n s) ≡ demands s.kind
unfolding demands block.hidden-the_row-Shape-0 hidden
demands-Tag n s = append-nil (demands s.kind)

pub demands-AnyTag : (s : Shape) → demands (k.AnyTag s) ≡ demands s.kind
unfolding demands block.hidden-the_row-Shape-0 hidden
demands-AnyTag s = append-nil (demands s.kind)

pub demands-Cbor : (s : Shape) → demands (k.Cbor s) ≡ demands s.kind
unfolding demands block.hidden-the_row-Shape-0 hidden
demands-Cbor s = append-nil (demands s.kind)

pub demands-Choice : (ss : List Shape) → demands (k.Choice ss) ≡ alternatives_demanded ss ++ shapes_demanded ss
unfolding demands
demands-Choice ss =
    let row = block.hidden-the_row-Shape-1 ss in
    let a = alternatives-row row in
    let b = shapes-row row in
    (λ j. a j ++ b j) ∙ ap (λ (l : List Shape). alternatives_demanded l ++ shapes_demanded l) (block.items_hidden-the_row-Shape-1 ss)

pub demands-Array : (g : Group) → demands (k.Array g) ≡ parts_demanded g.parts []
unfolding demands
demands-Array g = demand-list g.parts []

-- ---- parts

pub part_demands-One : (s : Shape) (after : List Kind) → part_demands (p.One s) after ≡ demands s.kind
unfolding demands
part_demands-One s after = refl

pub part_demands-Opt : (at : ℕ) (g : Group) (after : List Kind) →
    part_demands (p.Opt at g) after ≡ demand A3 at (are_emptiable g.parts ≡ false) ∷ demand A4 at (AreApart (starts_of g.parts) after) ∷ parts_demanded g.parts after
unfolding demands
part_demands-Opt at g after =
    let e = empty-list g.parts in
    let s = starts-list g.parts in
    let d = demand-list g.parts after in
    λ j. demand A3 at (e j ≡ false) ∷ demand A4 at (AreApart (s j) after) ∷ d j

body-list : (hi : ℕ) (parts : List Part) (after : List Kind) → follow_body hi (block.hidden-the_row-Part-2 parts) after ≡ follow_body_of hi parts after
body-list hi parts after = ap (λ (l : List Kind). cond (ltb 1 hi) (l ++ after) after) (starts-list parts)

pub part_demands-Many : (at lo hi : ℕ) (g : Group) (after : List Kind) →
    part_demands (p.Many at lo hi g) after
    ≡ demand A3 at (are_emptiable g.parts ≡ false) ∷ demand A4 at ((lo ≡ hi) ⊎ AreApart (starts_of g.parts) after) ∷ parts_demanded g.parts (follow_body_of hi g.parts after)
unfolding demands
part_demands-Many at lo hi g after =
    let e = empty-list g.parts in
    let s = starts-list g.parts in
    let d = ap (parts_demand (block.hidden-the_row-Part-2 g.parts)) (body-list hi g.parts after) ∙ demand-list g.parts (follow_body_of hi g.parts after) in
    λ j. demand A3 at (e j ≡ false) ∷ demand A4 at ((lo ≡ hi) ⊎ AreApart (s j) after) ∷ d j

-- ---- ways

-- what two ways demand, by their starts and by whether they may be empty
two_so : (at later : ℕ) (s t : List Kind) (b c : Bool) (after : List Kind) → List Demand
two_so at later s t b c after =
    demand A2 later (AreApart s t) ∷ demand A2 later (b ≡ true → c ≡ true → ⊥) ∷ demand A2 later (b ≡ true → AreApart t after) ∷ demand A2 at (c ≡ true → AreApart s after) ∷ []

two-row : (way : Way) {n : Count} (row : Row_of-Part n) → starts row ≡ starts_of way.body.parts → may_be_empty row ≡ are_emptiable way.body.parts → (at : ℕ) (s : List (Unit {0})) (other : Row_of-Part _) (after : List Kind)
    → two_ways way.at row at other after ≡ two_ways_of way (record { at = at; body = record { parts = block.shown-the_row-Part-2 s other } }) after
unfolding two_so
two-row way row a b at s other after =
    let c = starts-row other ∙ ap starts_of (sym (parts-shown s other)) in
    let d = empty-row other ∙ ap are_emptiable (sym (parts-shown s other)) in
    λ j. two_so way.at at (a j) (c j) (b j) (d j) after

beside-row : (way : Way) {n : Count} (row : Row_of-Part n) → starts row ≡ starts_of way.body.parts → may_be_empty row ≡ are_emptiable way.body.parts → {l : Count} (others : Row_of-Way l) (after : List Kind)
    → way_beside_each way.at row others after ≡ way_beside_all way (items-the_row-Way l others) after
beside-row way row a b end_of-Way after = refl
beside-row way row a b (more_of-Way at s body rest) after = let c = two-row way row a b at s body after in let d = beside-row way row a b rest after in λ j. c j ++ d j

ways_beside-row : {n : Count} (row : Row_of-Way n) (after : List Kind) → ways_beside row after ≡ ways_beside_of (items-the_row-Way n row) after
ways_beside-row end_of-Way after = refl
ways_beside-row (more_of-Way at s body rest) after =
    let shown = sym (parts-shown s body) in
    let a = beside-row (record { at = at; body = record { parts = block.shown-the_row-Part-2 s body } }) body (starts-row body ∙ ap starts_of shown) (empty-row body ∙ ap are_emptiable shown) rest after in
    let b = ways_beside-row rest after in
    λ j. a j ++ b j

groups-row : {n : Count} (row : Row_of-Way n) (after : List Kind) → groups_demand row after ≡ groups_demanded (items-the_row-Way n row) after
unfolding demands
groups-row end_of-Way after = refl
groups-row (more_of-Way at s body rest) after =
    let a = demand-row body after ∙ ap (λ (l : List Part). parts_demanded l after) (sym (parts-shown s body)) in
    let b = groups-row rest after in
    λ j. a j ++ b j

pub part_demands-Alt : (at : ℕ) (ways : List Way) (after : List Kind) → part_demands (p.Alt at ways) after ≡ ways_beside_of ways after ++ groups_demanded ways after
unfolding demands
part_demands-Alt at ways after =
    let row = block.hidden-the_row-Way-4 ways in
    let a = ways_beside-row row after in
    let b = groups-row row after in
    (λ j. a j ++ b j) ∙ ap (λ (l : List Way). ways_beside_of l after ++ groups_demanded l after) (block.items_hidden-the_row-Way-4 ways)
