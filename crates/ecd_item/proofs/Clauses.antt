-- The clauses of reading, from what the reader does.
use Rattle.std.proofs.Common.{ℕ, List, drop, Result, Ok, Err, refl, ap, sym, ◌∙◌, subst, inl, inr}
use Rattle.std.specs.Prelude.{IfOk, IfErr}
use Rattle.ecd_head.specs.Place.{StandsAt}
use Rattle.ecd_head.proofs.Heads.{IsBytes, IsBytes-drop}
use Rattle.ecd_keyorder.specs.declared.Order.{Order}
use Rattle.ecd_item_laws.specs.declared.fault.Fault.{Fault}
use Rattle.ecd_item_laws.specs.declared.fault.Cause.{Cause}
use Rattle.ecd_item.specs.declared.fault.Stop.{Stop}
use Rattle.ecd_item.specs.declared.fault.Stop.TheVariants as stop
use Rattle.ecd_item.specs.declared.fault.ItemFault.{ItemFault}
use Rattle.ecd_item.specs.declared.fault.ItemFault.TheVariants as f
use Rattle.ecd_item_laws.specs.declared.item.Item.{Item}
use Rattle.ecd_item_laws.specs.Encoding.{encoding}
use Rattle.ecd_item_laws.specs.Valid.{IsWhole}
use Rattle.ecd_item_laws.specs.FirstFault.{IsFirstFault, number_of}
use Rattle.ecd_item_laws.specs.Reading.{Taken, taken, item_at}
use Rattle.ecd_item.specs.Told.{Gives, seen, told_result, TellsFirstFault, Answers}
use Rattle.ecd_item_laws.proofs.Results.{ok_is, failed, same_fault, not_both}
use Rattle.ecd_item_laws.proofs.Again.{item_again}
use Rattle.ecd_item_laws.proofs.Takes.{item_takes}
use Rattle.ecd_item_laws.proofs.Refusing.{item_stops}
use Rattle.ecd_item_laws.proofs.Naming.{first_named}

abbrev pub told : Result (Item × ℕ) Stop → Result (Item × ℕ) ItemFault
told r = told_result r

module _ (order : Order) (d at : ℕ) (bytes : List ℕ) where
  abbrev Reads : Result (Item × ℕ) Stop → Type 0
  Reads r = Gives (seen bytes) r (item_at order d at (drop at bytes))

  pub is_found : (r : Result (Item × ℕ) Stop) → IsBytes bytes → Reads r → IfOk (told r) (λ x. IsWhole order d x.0 × StandsAt bytes at (encoding x.0) x.1)
  is_found (Err s) fits given = tt
  is_found (Ok x) fits given =
      let t = item_takes order d at (drop at bytes) (seen bytes x) (IsBytes-drop at bytes fits) given in
      (t.holds, record { there = (drop x.1 bytes, t.whole); behind = t.place })

  only_by : (r : Result (Item × ℕ) Stop) (i : Item) (end : ℕ) (rest : List ℕ) → Gives (seen bytes) r (taken i end rest) → Answers (told r) (Ok (i, end))
  only_by (Err stop.Memory) i end rest g = inr refl
  only_by (Err (stop.Fault k)) i end rest g = not_both (record { value = i; at = end; rest = rest }) k g
  only_by (Ok x) i end rest g =
      let t = ok_is (record { value = i; at = end; rest = rest }) (seen bytes x) g in
      inl (sym (ap (λ (p : Taken Item). Ok (p.value, p.at)) t))

  pub is_only : (r : Result (Item × ℕ) Stop) (i : Item) (end : ℕ) → Reads r → IsWhole order d i → StandsAt bytes at (encoding i) end → Answers (told r) (Ok (i, end))
  is_only r i end given w s =
      only_by r i end s.there.0 (subst (Gives (seen bytes) r) (ap (item_at order d at) s.there.1 ∙ (item_again order i d at s.there.0 w.1 w.0 ∙ ap (λ (n : ℕ). taken i n s.there.0) (sym s.behind))) given)

  pub is_fault : (r : Result (Item × ℕ) Stop) → IsBytes bytes → Reads r → IfErr (told r) (TellsFirstFault order d at (drop at bytes))
  is_fault (Ok x) fits given = tt
  is_fault (Err stop.Memory) fits given = tt
  is_fault (Err (stop.Fault k)) fits given = (k.cause, refl, item_stops order d at (drop at bytes) k (IsBytes-drop at bytes fits) given)

  refused_by : (r : Result (Item × ℕ) Stop) (g : Fault) → Gives (seen bytes) r (failed {A = Taken Item} g) → Answers (told r) (Err (f.At g.place (number_of g.cause)))
  refused_by (Ok x) g e = not_both (seen bytes x) g (sym e)
  refused_by (Err stop.Memory) g e = inr refl
  refused_by (Err (stop.Fault k)) g e = inl (ap (λ (h : Fault). Err (f.At h.place (number_of h.cause))) (sym (same_fault {A = Taken Item} g k e)))

  pub is_refused : (r : Result (Item × ℕ) Stop) (place : ℕ) (cause : Cause) → Reads r → IsFirstFault order d at (drop at bytes) place cause → Answers (told r) (Err (f.At place (number_of cause)))
  is_refused r place cause given s = refused_by r (record { place = place; cause = cause }) (subst (Gives (seen bytes) r) (first_named order d at (drop at bytes) place cause s) given)
