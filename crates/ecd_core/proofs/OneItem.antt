-- A value belongs to at most one item of a shape.
use Rattle.std.proofs.Common.{◌≡◌, ℕ, zero, suc, inl, inr, List, [], ◌∷◌, ◌++◌, map, refl, ap, sym, ◌∙◌, subst}
use Rattle.ecd_keyorder.specs.declared.Order.{Order}
use Rattle.ecd_item_laws.specs.declared.item.Item.{Item}
use Rattle.ecd_item_laws.specs.declared.item.Item.TheVariants as i
use Rattle.ecd_item_laws.specs.Encoding.{encoding}
use Rattle.ecd_item_laws.specs.Valid.{IsValid}
use Rattle.ecd_item_laws.proofs.Unique.{begins_with_one_item}
use Rattle.ecd_core.specs.declared.shape.Kind.{Kind, Choice', Tag', Cbor', AnyTag', Array', Map', Row_of-Shape, end_of-Shape, more_of-Shape, Row_of-MapEntry, end_of-MapEntry, more_of-MapEntry}
use Rattle.ecd_core.specs.declared.shape.Kind.TheVariants as k
use Rattle.ecd_core.specs.declared.shape.Part.{Part, One', Opt', Many', Alt', Row_of-Way, end_of-Way, more_of-Way}
use Rattle.ecd_core.specs.declared.shape.Group.{Row_of-Part, end_of-Part, more_of-Part}
use Rattle.ecd_core.specs.declared.shape.MapEntry.{MapEntry, Field', Table'}
use Rattle.ecd_core.specs.declared.shape.MapEntry.TheVariants as m
use Rattle.ecd_core.specs.declared.shape.Pick.{Pick, Pick', Row_of-MapWay, end_of-MapWay, more_of-MapWay}
use Rattle.ecd_core.specs.declared.value.Value.{Value}
use Rattle.ecd_core.specs.declared.value.Value.TheVariants as v
use Rattle.ecd_core.specs.Lists.{Each}
use Rattle.ecd_core.specs.Maps.{MapHas}
use Rattle.ecd_core.specs.Values.{Run, run_items, run_value, Gives, OnlyGives, AlternativeGives, PartsGive, PartGives, WayGives, meanings, meaning, pick_meaning, way_meanings, field_meanings}
use Rattle.ecd_core.specs.Laws.{HasOneItem}
use Rattle.ecd_core.proofs.ValueLayers.{ways_alike, tagged_alike, groups_alike, manys_alike, presents_alike, absent_present, bytes_alike, numbers_alike}
use Rattle.ecd_core.proofs.MapLaw.{OneEntry, OneUnder, one_map}

pub same_encoding : (order : Order) (a b : Item) → IsValid order a → IsValid order b → encoding a ≡ encoding b → a ≡ b
same_encoding order a b p q e = (begins_with_one_item order a b [] [] p q (ap (λ (x : List ℕ). x ++ []) e)).0

runs_alike : (P : List Item → List Value → Type 0) → ((xs ys : List Item) (ws : List Value) → P xs ws → P ys ws → xs ≡ ys) → (rs ss : List Run) → map run_value rs ≡ map run_value ss
    → Each (λ run. P run.0 run.1) rs → Each (λ run. P run.0 run.1) ss → run_items rs ≡ run_items ss
runs_alike P h [] [] e p q = refl
runs_alike P h [] (s ∷ ss) e p q = absurd cc
runs_alike P h (r ∷ rs) [] e p q = absurd cc
runs_alike P h (r ∷ rs) (s ∷ ss) e p q =
    let heads : v.Group r.1 ≡ v.Group s.1 = cc in
    let tails : map run_value rs ≡ map run_value ss = cc in
    let values = groups_alike r.1 s.1 heads in
    let one : r.0 ≡ s.0 = h r.0 s.0 s.1 (subst (P r.0) values p.0) q.0 in
    let others = runs_alike P h rs ss tails p.1 q.1 in
    cc

mutual
  unfolding Gives

  pub same_item : (order : Order) (kind : Kind) (a b : Item) (w : Value) → Gives order kind a w → Gives order kind b w → a ≡ b
  same_item order (k.Uint lo hi) a b w p q = p.1 ∙ (ap i.Uint (numbers_alike lo hi p.0 q.0 p.2.1 q.2.1 (sym p.3 ∙ q.3)) ∙ sym q.1)
  same_item order (k.Nint lo hi) a b w p q = p.1 ∙ (ap i.Nint (numbers_alike lo hi p.0 q.0 p.2.1 q.2.1 (sym p.3 ∙ q.3)) ∙ sym q.1)
  same_item order (k.Bytes lo hi) a b w p q = p.1 ∙ (ap (λ (x : List ℕ). i.Bytes x) (bytes_alike p.0 q.0 (sym p.3 ∙ q.3)) ∙ sym q.1)
  same_item order (k.Text lo hi) a b w p q = p.1 ∙ (ap (λ (x : List ℕ). i.Text x) (bytes_alike p.0 q.0 (sym p.4 ∙ q.4)) ∙ sym q.1)
  same_item order (k.BytesIs bytes) a b w p q = p.0 ∙ sym q.0
  same_item order (k.TextIs bytes) a b w p q = p.0 ∙ sym q.0
  same_item order (k.Simple n) a b w p q = p.0 ∙ sym q.0
  same_item order (Tag' n _ inner) a b w p q = p.1 ∙ (ap (i.Tag n) (only_item order inner p.0 q.0 w p.3 q.3) ∙ sym q.1)
  same_item order (AnyTag' _ inner) a b w p q =
      let e = tagged_alike p.0 q.0 p.2 q.2 (sym p.5 ∙ q.5) in
      let c : p.1 ≡ q.1 = only_item order inner p.1 q.1 q.2 (subst (λ (x : Value). OnlyGives order inner p.1 x) e.1 p.6) q.6 in
      p.3 ∙ (ap (λ (n : ℕ). i.Tag n p.1) e.0 ∙ (ap (i.Tag q.0) c ∙ sym q.3))
  same_item order (k.Any d) a b w p q = same_encoding order a b p.0.0 q.0.0 (bytes_alike (encoding a) (encoding b) (sym p.1 ∙ q.1))
  same_item order (k.AnyOf major d) a b w p q = same_encoding order a b p.0.0 q.0.0 (bytes_alike (encoding a) (encoding b) (sym p.2 ∙ q.2))
  same_item order (Cbor' _ inner) a b w p q = p.1 ∙ (ap (λ (x : Item). i.Bytes (encoding x)) (only_item order inner p.0 q.0 w p.3 q.3) ∙ sym q.1)
  same_item order (Choice' _ shapes) a b w p q =
      let e = ways_alike p.0 q.0 p.1 q.1 (sym p.2 ∙ q.2) in
      nth_item order shapes q.0 a b q.1 (subst (λ (x : Value). AlternativeGives order shapes q.0 a x) e.1 (subst (λ (j : ℕ). AlternativeGives order shapes j a p.1) e.0 p.3)) q.3
  same_item order (Array' _ parts) a b w p q =
      let e = groups_alike p.1 q.1 (sym p.3 ∙ q.3) in
      p.2 ∙ (ap i.Array (same_items order parts p.0 q.0 q.1 (subst (PartsGive order parts p.0) e p.4) q.4) ∙ sym q.2)
  same_item order (Map' _ entries) a b w p q =
      let e = groups_alike p.1 q.1 (sym p.3 ∙ q.3) in
      let ps : p.0 ≡ q.0 = one_map order (meanings order entries) (entries_one order entries) p.0 q.0 q.1 (subst (MapHas order (meanings order entries) p.0) e p.4) q.4 in
      p.2 ∙ (ap i.Map ps ∙ sym q.2)

  pub only_item : {m : _} (order : Order) (row : Row_of-Shape m) (a b : Item) (w : Value) → OnlyGives order row a w → OnlyGives order row b w → a ≡ b
  only_item order end_of-Shape a b w p q = absurd p
  only_item order (more_of-Shape at kind rest) a b w p q = same_item order kind a b w p q

  pub nth_item : {m : _} (order : Order) (row : Row_of-Shape m) (j : ℕ) (a b : Item) (w : Value) → AlternativeGives order row j a w → AlternativeGives order row j b w → a ≡ b
  nth_item order end_of-Shape j a b w p q = absurd p
  nth_item order (more_of-Shape at kind rest) zero a b w p q = same_item order kind a b w p q
  nth_item order (more_of-Shape at kind rest) (suc j) a b w p q = nth_item order rest j a b w p q

  pub same_items : {m : _} (order : Order) (row : Row_of-Part m) (xs ys : List Item) (ws : List Value) → PartsGive order row xs ws → PartsGive order row ys ws → xs ≡ ys
  same_items order end_of-Part xs ys ws p q = p.0 ∙ sym q.0
  same_items order (more_of-Part part rest) xs ys ws p q =
      let e : (p.2 ≡ q.2) × (p.3 ≡ q.3) = (cc (sym p.5 ∙ q.5), cc (sym p.5 ∙ q.5)) in
      let front = same_part order part p.0 q.0 q.2 (subst (PartGives order part p.0) e.0 p.6) q.6 in
      let back = same_items order rest p.1 q.1 q.3 (subst (PartsGive order rest p.1) e.1 p.7) q.7 in
      p.4 ∙ (ap (λ (x : List Item). x ++ p.1) front ∙ (ap (λ (x : List Item). q.0 ++ x) back ∙ sym q.4))

  pub same_part : (order : Order) (part : Part) (xs ys : List Item) (w : Value) → PartGives order part xs w → PartGives order part ys w → xs ≡ ys
  same_part order (One' at kind) xs ys w p q = p.1 ∙ (ap (λ (x : Item). x ∷ []) (same_item order kind p.0 q.0 w p.2 q.2) ∙ sym q.1)
  same_part order (Opt' at _ body) xs ys w (inl p) (inl q) = p.0 ∙ sym q.0
  same_part order (Opt' at _ body) xs ys w (inl p) (inr q) = absurd (absent_present _ (sym p.1 ∙ q.1))
  same_part order (Opt' at _ body) xs ys w (inr p) (inl q) = absurd (absent_present _ (sym q.1 ∙ p.1))
  same_part order (Opt' at _ body) xs ys w (inr p) (inr q) =
      let e = groups_alike p.0 q.0 (presents_alike (v.Group p.0) (v.Group q.0) (sym p.1 ∙ q.1)) in
      same_items order body xs ys q.0 (subst (PartsGive order body xs) e p.2) q.2
  same_part order (Many' at lo hi _ body) xs ys w p q =
      let e = manys_alike (map run_value p.0) (map run_value q.0) (sym p.2 ∙ q.2) in
      p.1 ∙ (runs_alike (PartsGive order body) (λ as' bs ws. same_items order body as' bs ws) p.0 q.0 e p.4 q.4 ∙ sym q.1)
  same_part order (Alt' at _ ways) xs ys w p q =
      let e = ways_alike p.0 q.0 (v.Group p.1) (v.Group q.1) (sym p.2 ∙ q.2) in
      let g = groups_alike p.1 q.1 e.1 in
      way_items order ways q.0 xs ys q.1 (subst (WayGives order ways q.0 xs) g (subst (λ (j : ℕ). WayGives order ways j xs p.1) e.0 p.3)) q.3

  pub way_items : {m : _} (order : Order) (row : Row_of-Way m) (j : ℕ) (xs ys : List Item) (ws : List Value) → WayGives order row j xs ws → WayGives order row j ys ws → xs ≡ ys
  way_items order end_of-Way j xs ys ws p q = absurd p
  way_items order (more_of-Way at _ body rest) zero xs ys ws p q = same_items order body xs ys ws p q
  way_items order (more_of-Way at _ body rest) (suc j) xs ys ws p q = way_items order rest j xs ys ws p q

  pub entries_one : {m : _} (order : Order) (row : Row_of-MapEntry m) → Each OneEntry (meanings order row)
  entries_one order end_of-MapEntry = tt
  entries_one order (more_of-MapEntry entry rest) = (entry_one order entry, entries_one order rest)

  pub entry_one : (order : Order) (entry : MapEntry) → OneEntry (meaning order entry)
  entry_one order (Field' at _ key cut lo _ kind) = λ a b w p q. same_item order kind a b w p q
  entry_one order (m.Pick pick) = pick_one order pick
  entry_one order (Table' at lo hi _ key _ kind) = (λ a b w p q. same_item order key a b w p q, λ a b w p q. same_item order kind a b w p q)

  pub pick_one : (order : Order) (pick : Pick) → OneEntry (pick_meaning order pick)
  pick_one order (Pick' at needed _ ways) = ways_one order ways

  pub ways_one : {m : _} (order : Order) (row : Row_of-MapWay m) → Each (Each OneUnder) (way_meanings order row)
  ways_one order end_of-MapWay = tt
  ways_one order (more_of-MapWay at _ entries rest) = (fields_one order entries, ways_one order rest)

  pub fields_one : {m : _} (order : Order) (row : Row_of-MapEntry m) → Each OneUnder (field_meanings order row)
  fields_one order end_of-MapEntry = tt
  fields_one order (more_of-MapEntry (Field' at _ key cut lo _ kind) rest) = (λ a b w p q. same_item order kind a b w p q, fields_one order rest)
  fields_one order (more_of-MapEntry (m.Pick pick) rest) = fields_one order rest
  fields_one order (more_of-MapEntry (Table' at lo hi _ key _ kind) rest) = fields_one order rest

pub has_one_item : HasOneItem
has_one_item order shape item other value p q = same_item order shape.kind item other value p q
