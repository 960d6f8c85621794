-- Parts in two groups, and runs of a body one after another.
use Rattle.std.proofs.Common.{◌≡◌, suc, List, [], ◌∷◌, ◌++◌, length, map, refl, ap, sym, ◌∙◌, subst, append_assoc}
use Rattle.ecd_keyorder.specs.declared.Order.{Order}
use Rattle.ecd_item_laws.specs.declared.item.Item.{Item}
use Rattle.ecd_core.specs.declared.shape.Part.{Part}
use Rattle.ecd_core.specs.declared.value.Value.{Value}
use Rattle.ecd_core.specs.declared.value.Value.TheVariants as v
use Rattle.ecd_core.specs.Lists.{Each}
use Rattle.ecd_core.specs.Listed.{PartsHave}
use Rattle.ecd_core.specs.Runs.{PartsInTwo, RunsAre, ManyByRuns, NoRuns, FirstRun}
use Rattle.ecd_core.specs.Values.{IsWithin, Run, run_items, run_value}
use Rattle.ecd_core.proofs.Layers as layers

-- ---- parts

abbrev InTwo : Order → List Part → List Part → List Item → List Value → Type 0
InTwo order parts others items values =
    (front : List Item) × (back : List Item) × (some : List Value) × (more : List Value) × (items ≡ front ++ back) × (values ≡ some ++ more) × PartsHave order parts front some × PartsHave order others back more

split : (order : Order) (parts others : List Part) (items : List Item) (values : List Value) → PartsHave order (parts ++ others) items values → InTwo order parts others items values
split order [] others items values h = ([], items, [], values, refl, refl, (refl, refl), h)
split order (part ∷ parts) others items values h =
    let r = split order parts others h.1 h.3 h.7 in (
      h.0 ++ r.0,
      r.1,
      h.2 ∷ r.2,
      r.3,
      h.4 ∙ (ap (λ (x : List Item). h.0 ++ x) r.4 ∙ sym (append_assoc h.0 r.0 r.1)),
      h.5 ∙ ap (λ (x : List Value). h.2 ∷ x) r.5,
      (h.0, r.0, h.2, r.2, refl, refl, h.6, r.6),
      r.7,
    )

join : (order : Order) (parts others : List Part) (items : List Item) (values : List Value) → InTwo order parts others items values → PartsHave order (parts ++ others) items values
join order [] others items values (front, back, some, more, e, f, p, q) =
    let items_are : back ≡ items = sym (e ∙ ap (λ (x : List Item). x ++ back) p.0) in
    let values_are : more ≡ values = sym (f ∙ ap (λ (x : List Value). x ++ more) p.1) in
    subst (λ (x : List Item). PartsHave order others x values) items_are (subst (PartsHave order others back) values_are q)
join order (part ∷ parts) others items values (front, back, some, more, e, f, p, q) = (
  p.0,
  p.1 ++ back,
  p.2,
  p.3 ++ more,
  e ∙ (ap (λ (x : List Item). x ++ back) p.4 ∙ append_assoc p.0 p.1 back),
  f ∙ ap (λ (x : List Value). x ++ more) p.5,
  p.6,
  join order parts others (p.1 ++ back) (p.3 ++ more) (p.1, back, p.3, more, refl, refl, p.7, q),
)

pub parts_in_two : PartsInTwo
parts_in_two order parts others items values = (split order parts others items values, join order parts others items values)

-- ---- runs

length-runs : (runs : List Run) → length (map run_value runs) ≡ length runs
length-runs [] = refl
length-runs (x ∷ xs) = ap suc (length-runs xs)

pub many_by_runs : ManyByRuns
many_by_runs order at lo hi body items value =
    let e = layers.PartGives-Many order at lo hi body items value in (
      (λ a. let h = layers.fwd e a in (map run_value h.0, h.2, subst (IsWithin lo hi) (sym (length-runs h.0)) h.3, (h.0, h.1, refl, h.4))),
      (λ h. let r = h.3 in layers.bwd e (r.0, r.1, h.1 ∙ ap (λ (l : List Value). v.Many l) r.2, subst (IsWithin lo hi) (ap length r.2 ∙ length-runs r.0) h.2, r.3)),
    )

pub no_runs : NoRuns
no_runs order body items = ((λ h. none h.0 h.1 h.2), λ e. ([], e, refl, tt))
  where
    none : (runs : List Run) → items ≡ run_items runs → [] ≡ map run_value runs → items ≡ []
    none [] e f = e
    none (run ∷ runs) e f = absurd cc

pub first_run : FirstRun
first_run order body items value others =
    ((λ h. one h.0 h.1 h.2 h.3), (λ h. let r = h.6 in ((h.0, h.2) ∷ r.0, h.3 ∙ ap (λ (l : List Item). h.0 ++ l) r.1, (λ j. h.4 j ∷ r.2 j), (h.5, r.3))))
  where
    one : (runs : List Run) → items ≡ run_items runs → value ∷ others ≡ map run_value runs → Each (λ run. PartsHave order body.parts run.0 run.1) runs
        → (front : List Item) × (back : List Item) × (values : List Value) × (items ≡ front ++ back) × (value ≡ v.Group values) × PartsHave order body.parts front values × RunsAre order body back others
    one [] e f all = absurd cc
    one (run ∷ runs) e f all =
        let head : value ≡ v.Group run.1 = cc in
        let tail : others ≡ map run_value runs = cc in
        (run.0, run_items runs, run.1, e, head, all.0, (runs, refl, tail, all.1))
