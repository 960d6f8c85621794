-- Reading one value after the other, as a loop does.
use Rattle.std.proofs.Common.{◌≡◌, ℕ, suc, ◌-◌, ◌+◌, ◌≤◌, ◌<◌, Bool, true, false, List, [], ◌∷◌, ◌++◌, take, Option, Some, Result, Ok, Err, refl, sym, ap, ◌∙◌, append_assoc, arith}
use Rattle.std.specs.Prelude.{MatchResult, is_ok}
use Rattle.std.specs.Str.{IsUtf8, is_utf8}
use Rattle.std.proofs.lemmas.List.{append-nil}
use Rattle.std.proofs.lemmas.Str.{is_utf8-from_IsUtf8, IsUtf8-from_is_utf8}
use Rattle.ecd_item_laws.specs.declared.fault.Fault.{Fault}
use Rattle.ecd_item_laws.specs.declared.fault.Cause.TheVariants.{KeyOrder}
use Rattle.ecd_keyorder.specs.declared.Order.{Order}
use Rattle.ecd_item.specs.declared.fault.Stop.{Stop}
use Rattle.ecd_item.specs.declared.fault.Stop.TheVariants as stop
use Rattle.ecd_item_laws.specs.declared.item.Item.{Item}
use Rattle.ecd_item_laws.specs.declared.item.Pair.{Pair}
use Rattle.ecd_item_laws.specs.Reading.{Reader, Taken, ◌>>=◌, taken, many, pairs, pair_of, is_above, refused}
use Rattle.ecd_item_laws.proofs.Results.{with_front}
use Rattle.ecd_item.specs.Told.{Fails}

regroup : {A : Type 0} (front : List A) (n : A) (read : Result (Taken (List A)) Fault) → with_front front (read >>= λ x. taken (n ∷ x.value) x.at x.rest) ≡ with_front (front ++ n ∷ []) read
regroup {A} front n (Ok x) = ap (λ (ns : List A). taken ns x.at x.rest) (simp append_assoc)
regroup {A} front n (Err f) = refl

pub goes_on : {A : Type 0} (read : Reader A) (front : List A) (count i at : ℕ) (bytes : List ℕ) (first : Taken A) (total : Result (Taken (List A)) Fault) → i < count → read at bytes ≡ Ok first
    → with_front front (many read (count - i) at bytes) ≡ total → with_front (front ++ first.value ∷ []) (many read (count - (i + 1)) first.at first.rest) ≡ total
unfolding many
goes_on read front count i at bytes first total lt h so_far =
    let k : count - i ≡ suc (count - (i + 1)) = omega arith in
    let one : with_front front (many read (count - i) at bytes) ≡ with_front (front ++ first.value ∷ []) (many read (count - (i + 1)) first.at first.rest) = rw (k, h) (regroup front first.value (many read (count - (i + 1)) first.at first.rest)) in
    sym one ∙ so_far

pub ends : {A : Type 0} (read : Reader A) (e : Stop) (front : List A) (count i at : ℕ) (bytes : List ℕ) (total : Result (Taken (List A)) Fault) → i < count → Fails e (read at bytes)
    → with_front front (many read (count - i) at bytes) ≡ total → Fails e total
unfolding many
ends read stop.Memory front count i at bytes total lt h so_far = tt
ends read (stop.Fault f) front count i at bytes total lt h so_far =
    let k : count - i ≡ suc (count - (i + 1)) = omega arith in
    let one : with_front front (many read (count - i) at bytes) ≡ Err f = rw (k, h) refl in
    sym so_far ∙ one

pub is_done : {A : Type 0} (read : Reader A) (front : List A) (count i at : ℕ) (bytes : List ℕ) (total : Result (Taken (List A)) Fault) → count ≤ i → with_front front (many read (count - i) at bytes) ≡ total → total ≡ taken front at bytes
unfolding many
is_done {A} read front count i at bytes total le so_far =
    let k : count - i ≡ 0 = omega arith in
    let one : with_front front (many read (count - i) at bytes) ≡ taken front at bytes = rw k (ap (λ (ns : List A). taken ns at bytes) (append-nil front)) in
    sym so_far ∙ one

not_true : (b : Bool) → (b ≡ true → ⊥) → false ≡ b
not_true true h = absurd (h refl)
not_true false h = refl

pub text_test : {S E : Type 0} (bs : List ℕ) (P : S → Type 0) (Q : E → Type 0) (r : Result S E) → MatchResult r (λ s. P s × IsUtf8 bs) (λ e. (IsUtf8 bs → ⊥) × Q e) → is_ok r ≡ is_utf8 bs
text_test bs P Q (Ok s) h = sym (is_utf8-from_IsUtf8 bs h.1)
text_test bs P Q (Err e) h = not_true (is_utf8 bs) (λ t. h.0 (IsUtf8-from_is_utf8 bs t))

-- ---- pairs

pub pair_goes_on : (order : Order) (read : Reader Item) (front : List Pair) (last : Option (List ℕ)) (count i at : ℕ) (bytes : List ℕ) (key value : Taken Item) (total : Result (Taken (List Pair)) Fault) → i < count
    → read at bytes ≡ Ok key → is_above order last (take (key.at - at) bytes) ≡ true → read key.at key.rest ≡ Ok value
    → with_front front (pairs order read last (count - i) at bytes) ≡ total → with_front (front ++ pair_of key.value value.value ∷ []) (pairs order read (Some (take (key.at - at) bytes)) (count - (i + 1)) value.at value.rest) ≡ total
unfolding pairs
pair_goes_on order read front last count i at bytes key value total lt h above g so_far =
    let k : count - i ≡ suc (count - (i + 1)) = omega arith in
    let one : with_front front (pairs order read last (count - i) at bytes) ≡ with_front (front ++ pair_of key.value value.value ∷ []) (pairs order read (Some (take (key.at - at) bytes)) (count - (i + 1)) value.at value.rest) = rw (k, h, above, g) (regroup front (pair_of key.value value.value) (pairs order read (Some (take (key.at - at) bytes)) (count - (i + 1)) value.at value.rest)) in
    sym one ∙ so_far

pub key_ends : (order : Order) (read : Reader Item) (e : Stop) (front : List Pair) (last : Option (List ℕ)) (count i at : ℕ) (bytes : List ℕ) (total : Result (Taken (List Pair)) Fault) → i < count → Fails e (read at bytes)
    → with_front front (pairs order read last (count - i) at bytes) ≡ total → Fails e total
unfolding pairs
key_ends order read stop.Memory front last count i at bytes total lt h so_far = tt
key_ends order read (stop.Fault f) front last count i at bytes total lt h so_far =
    let k : count - i ≡ suc (count - (i + 1)) = omega arith in
    let one : with_front front (pairs order read last (count - i) at bytes) ≡ Err f = rw (k, h) refl in
    sym so_far ∙ one

pub value_ends : (order : Order) (read : Reader Item) (e : Stop) (front : List Pair) (last : Option (List ℕ)) (count i at : ℕ) (bytes : List ℕ) (key : Taken Item) (total : Result (Taken (List Pair)) Fault) → i < count
    → read at bytes ≡ Ok key → is_above order last (take (key.at - at) bytes) ≡ true → Fails e (read key.at key.rest)
    → with_front front (pairs order read last (count - i) at bytes) ≡ total → Fails e total
unfolding pairs
value_ends order read stop.Memory front last count i at bytes key total lt h above g so_far = tt
value_ends order read (stop.Fault f) front last count i at bytes key total lt h above g so_far =
    let k : count - i ≡ suc (count - (i + 1)) = omega arith in
    let one : with_front front (pairs order read last (count - i) at bytes) ≡ Err f = rw (k, h, above, g) refl in
    sym so_far ∙ one

pub order_ends : (order : Order) (read : Reader Item) (front : List Pair) (last : Option (List ℕ)) (count i at : ℕ) (bytes : List ℕ) (key : Taken Item) (total : Result (Taken (List Pair)) Fault) → i < count
    → read at bytes ≡ Ok key → is_above order last (take (key.at - at) bytes) ≡ false
    → with_front front (pairs order read last (count - i) at bytes) ≡ total → total ≡ refused at KeyOrder
unfolding pairs
order_ends order read front last count i at bytes key total lt h above so_far =
    let k : count - i ≡ suc (count - (i + 1)) = omega arith in
    let one : with_front front (pairs order read last (count - i) at bytes) ≡ refused at KeyOrder = rw (k, h, above) refl in
    sym so_far ∙ one

pub pairs_done : (order : Order) (read : Reader Item) (front : List Pair) (last : Option (List ℕ)) (count i at : ℕ) (bytes : List ℕ) (total : Result (Taken (List Pair)) Fault) → count ≤ i → with_front front (pairs order read last (count - i) at bytes) ≡ total → total ≡ taken front at bytes
unfolding pairs
pairs_done order read front last count i at bytes total le so_far =
    let k : count - i ≡ 0 = omega arith in
    let one : with_front front (pairs order read last (count - i) at bytes) ≡ taken front at bytes = rw k (ap (λ (ns : List Pair). taken ns at bytes) (append-nil front)) in
    sym so_far ∙ one

pub all_left : {A : Type 0} (read : Result (Taken (List A)) Fault) → with_front [] read ≡ read
all_left (Ok x) = refl
all_left (Err f) = refl
