-- What holds of items, their encodings and first faults.
use Rattle.std.proofs.Common.{◌≡◌, ℕ, ◌+◌, ◌<◌, List, [], ◌++◌, length, Result, Ok, Err, refl, ap, sym, ◌∙◌, arith, inl, inr}
use Rattle.std.specs.Prelude.{All}
use Rattle.std.proofs.lemmas.List.{append-nil, get_or_past}
use Rattle.std.proofs.lemmas.List.Elements.{All-get_or}
use Rattle.std.proofs.lemmas.Bool.{cases_lt}
use Rattle.ecd_head.proofs.Heads.{IsBytes}
use Rattle.ecd_keyorder.specs.declared.Order.{Order}
use Rattle.ecd_item_laws.specs.declared.fault.Fault.{Fault}
use Rattle.ecd_item_laws.specs.declared.item.Item.{Item}
use Rattle.ecd_item_laws.specs.Encoding.{encoding}
use Rattle.ecd_item_laws.specs.Laws.{HasOneEncoding, EncodesOneItem, HasNoProperPrefix, BeginsWithOneItem, HasOneFirstFault, EncodingHasNoFault, IsItemOrFault, EveryBytesHaveOne}
use Rattle.ecd_item_laws.specs.Reading.{Taken, item_at}
use Rattle.ecd_item_laws.proofs.Results.{same_fault, not_both}
use Rattle.ecd_item_laws.proofs.Again.{item_again, one_item}
use Rattle.ecd_item_laws.proofs.Takes.{item_takes}
use Rattle.ecd_item_laws.proofs.Refusing.{item_stops}
use Rattle.ecd_item_laws.proofs.Naming.{first_named}

pub has_one_encoding : HasOneEncoding
has_one_encoding order item bytes others p q = p.1 ∙ sym q.1

pub begins_with_one_item : BeginsWithOneItem
begins_with_one_item order item other rest others p q e = one_item order item other rest others p q e

pub encodes_one_item : EncodesOneItem
encodes_one_item order item other bytes p q = (one_item order item other [] [] p.0 q.0 (ap (λ (t : List ℕ). t ++ []) (sym p.1 ∙ q.1))).0

pub has_no_proper_prefix : HasNoProperPrefix
has_no_proper_prefix order item other bytes more p q =
    (one_item order item other more [] p.0 q.0 (ap (λ (t : List ℕ). t ++ more) (sym p.1) ∙ (q.1 ∙ sym (append-nil (encoding other))))).1

pub has_one_first_fault : HasOneFirstFault
has_one_first_fault order d at bytes place other cause another s t =
    let e = same_fault {A = Taken Item} (record { place = place; cause = cause }) (record { place = other; cause = another }) (sym (first_named order d at bytes place cause s) ∙ first_named order d at bytes other another t) in
    (ap (λ (g : Fault). g.place) e, ap (λ (g : Fault). g.cause) e)

pub encoding_has_no_fault : EncodingHasNoFault
encoding_has_no_fault order d at item rest place cause w s =
    not_both (record { value = item; at = at + length (encoding item); rest = rest }) (record { place = place; cause = cause })
    (sym (item_again order item d at rest w.1 w.0) ∙ first_named order d at (encoding item ++ rest) place cause s)

item_or_fault : (order : Order) (d at : ℕ) (bytes : List ℕ) (r : Result (Taken Item) Fault) → IsBytes bytes → item_at order d at bytes ≡ r → IsItemOrFault order d at bytes
item_or_fault order d at bytes (Ok x) fits e = let t = item_takes order d at bytes x fits e in inl (x.value, x.rest, t.holds, t.whole)
item_or_fault order d at bytes (Err g) fits e = inr (g.place, g.cause, item_stops order d at bytes g fits e)

bytes_fit : (bytes : List ℕ) → All (λ byte. byte < 256) bytes → IsBytes bytes
bytes_fit bytes fits i =
    elim (cases_lt i (length bytes)) [
      | inl lt ↦ All-get_or (λ byte. byte < 256) bytes i 0 lt fits
      | inr le ↦ rw (get_or_past bytes i 0 le) (omega arith)
    ]

pub every_bytes_have_one : EveryBytesHaveOne
every_bytes_have_one order d at bytes fits = item_or_fault order d at bytes (item_at order d at bytes) (bytes_fit bytes fits) refl
