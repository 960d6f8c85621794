-- Where readers of items stop, and that the reader of an item finds one.
use Rattle.std.proofs.Common.{◌≡◌, ℕ, zero, suc, ◌+◌, ◌-◌, ◌<◌, ◌≤◌, Bool, true, false, List, [], ◌∷◌, length, take, drop, Option, Some, None, Result, Ok, Err, refl, ap, sym, ◌∙◌, arith, length-append, length-drop, length-take}
use Rattle.std.specs.Prelude.{◌≢◌, nat_lt}
use Rattle.std.proofs.lemmas.Bool.Decides.{nat_tests}
use Rattle.std.proofs.lemmas.List.{drop_at, drop-drop}
use Rattle.ecd_keyorder.specs.declared.Order.{Order}
use Rattle.ecd_keyorder.specs.declared.Order.TheVariants.{Bytewise, LengthFirst}
use Rattle.ecd_item_laws.specs.declared.fault.Fault.{Fault}
use Rattle.ecd_item_laws.specs.declared.item.Item.{Item}
use Rattle.ecd_item_laws.specs.declared.item.Pair.{Pair}
use Rattle.ecd_item_laws.specs.Encoding.{encoding}
use Rattle.ecd_item_laws.specs.Reading.{Reader, Taken, item_at, many, pairs, made, is_above}
use Rattle.ecd_item_laws.proofs.Again.{item_again}
use Rattle.ecd_item_laws.proofs.Takes.{item_takes}
use Rattle.ecd_head.proofs.Heads.{IsBytes-drop}
use Rattle.ecd_emit.specs.Windows.{IsBytes, IsEnd}
use Rattle.ecd_fixed_heads.proofs.Framing.{valid_framed}
use Rattle.ecd_fixed_heads.proofs.Owing.{item_long}
use Rattle.ecd_rt.specs.Meanings.{WholeStands}

-- the place behind what was read, or 0
abbrev pub place_of : {A : Type 0} → Result (Taken A) Fault → ℕ
place_of (Ok x) = x.at
place_of (Err e) = 0

-- ---- what is read takes a byte at least, and what is behind it is left

pub record Ahead (at : ℕ) (bytes : List ℕ) (x : Taken Item) : Type 0 where
  pub some : at < x.at
  pub within : x.at ≤ at + length bytes
  pub rest : x.rest ≡ drop (x.at - at) bytes

abbrev pub Advances : Reader Item → Type 0
Advances read = (at : ℕ) (bytes : List ℕ) (x : Taken Item) → IsBytes bytes → read at bytes ≡ Ok x → Ahead at bytes x

pub item_advances : (order : Order) (d : ℕ) → Advances (item_at order d)
item_advances order d at bytes x fits e =
    let t = item_takes order d at bytes x fits e in
    let text = encoding x.value in
    let some : 0 < length text = item_long x.value (valid_framed order x.value t.holds.0) in
    let size : x.at - at ≡ length text = omega (arith, t.place) in
    let left : drop (x.at - at) bytes ≡ x.rest = rw (size, t.whole) (drop_at text x.rest (length text) refl) in
    record {
      some = omega (arith, t.place, some);
      within = omega (arith, t.place, ap length t.whole, length-append text x.rest);
      rest = sym left;
    }

-- the same from a place of some bytes on
pub record Next (bytes : List ℕ) (at : ℕ) (x : Taken Item) : Type 0 where
  pub past : at < x.at
  pub within : x.at ≤ length bytes
  pub rest : x.rest ≡ drop x.at bytes

pub next : (read : Reader Item) → Advances read → (bytes : List ℕ) → ((i : ℕ) → IsBytes (drop i bytes)) → (at : ℕ) → at ≤ length bytes → (x : Taken Item) → read at (drop at bytes) ≡ Ok x → Next bytes at x
next read ahead bytes fits at le x e =
    let a = ahead at (drop at bytes) x (fits at) e in
    let same : at + (x.at - at) ≡ x.at = omega (arith, a.some) in
    let sum : x.at - at + at ≡ x.at = omega (arith, a.some) in
    record {
      past = a.some;
      within = omega (arith, a.within, length-drop at bytes);
      rest = a.rest ∙ (drop-drop (x.at - at) at bytes ∙ ap (λ (n : ℕ). drop n bytes) same);
    }

-- ---- several, one behind the other

pub place_made : {A B : Type 0} (f : A → B) (r : Result (Taken A) Fault) → place_of (made f r) ≡ place_of r
place_made f (Ok x) = refl
place_made f (Err e) = refl

module _ (read : Reader Item) where
  pub many_stop : (n at : ℕ) (bytes : List ℕ) (e : Fault) → read at bytes ≡ Err e → place_of (many read (suc n) at bytes) ≡ 0
  unfolding many
  many_stop n at bytes e h = rw h refl

  pub many_go : (n at : ℕ) (bytes : List ℕ) (x : Taken Item) → read at bytes ≡ Ok x → place_of (many read (suc n) at bytes) ≡ place_of (many read n x.at x.rest)
  unfolding many
  many_go n at bytes x h = rw h (place_made (λ (xs : List Item). x.value ∷ xs) (many read n x.at x.rest))

  module _ (order : Order) where
    pub key_stop : (last : Option (List ℕ)) (n at : ℕ) (bytes : List ℕ) (e : Fault) → read at bytes ≡ Err e → place_of (pairs order read last (suc n) at bytes) ≡ 0
    unfolding pairs
    key_stop last n at bytes e h = rw h refl

    pub order_stop : (last : Option (List ℕ)) (n at : ℕ) (bytes : List ℕ) (k : Taken Item) → read at bytes ≡ Ok k → is_above order last (take (k.at - at) bytes) ≡ false → place_of (pairs order read last (suc n) at bytes) ≡ 0
    unfolding pairs
    order_stop last n at bytes k h o = rw (h, o) refl

    pub value_stop : (last : Option (List ℕ)) (n at : ℕ) (bytes : List ℕ) (k : Taken Item) (e : Fault) → read at bytes ≡ Ok k → is_above order last (take (k.at - at) bytes) ≡ true → read k.at k.rest ≡ Err e → place_of (pairs order read last (suc n) at bytes) ≡ 0
    unfolding pairs
    value_stop last n at bytes k e h o g = rw (h, o, g) refl

    pub pair_go : (last : Option (List ℕ)) (n at : ℕ) (bytes : List ℕ) (k v : Taken Item) → read at bytes ≡ Ok k → is_above order last (take (k.at - at) bytes) ≡ true → read k.at k.rest ≡ Ok v →
        place_of (pairs order read last (suc n) at bytes) ≡ place_of (pairs order read (Some (take (k.at - at) bytes)) n v.at v.rest)
    unfolding pairs
    pair_go last n at bytes k v h o g =
        rw (h, o, g) (place_made (λ (ps : List Pair). record { key = k.value; value = v.value } ∷ ps) (pairs order read (Some (take (k.at - at) bytes)) n v.at v.rest))

-- ---- each takes a byte, so no more are read than there are bytes

module _ (read : Reader Item) (ahead : Advances read) (bytes : List ℕ) (fits : IsBytes bytes) where
  each_drop : (i : ℕ) → IsBytes (drop i bytes)
  each_drop i = IsBytes-drop i bytes fits

  pub next_item : (at : ℕ) → at ≤ length bytes → (x : Taken Item) → read at (drop at bytes) ≡ Ok x → Next bytes at x
  next_item at le x e = next read ahead bytes each_drop at le x e

  abbrev FewMany : ℕ → Type 0
  FewMany n = (at : ℕ) → at ≤ length bytes → length bytes < at + n → place_of (many read n at (drop at bytes)) ≡ 0

  few_step : (n : ℕ) → FewMany n → (at : ℕ) → at ≤ length bytes → length bytes < at + suc n → (r : Result (Taken Item) Fault) → read at (drop at bytes) ≡ r → place_of (many read (suc n) at (drop at bytes)) ≡ 0
  few_step n ih at le lt (Err e) h = many_stop read n at (drop at bytes) e h
  few_step n ih at le lt (Ok x) h =
      let t = next_item at le x h in
      many_go read n at (drop at bytes) x h ∙ (ap (λ (l : List ℕ). place_of (many read n x.at l)) t.rest ∙ ih x.at t.within (omega (arith, t.past)))

  pub few_many : (n : ℕ) → FewMany n
  few_many zero at le lt = absurd (omega arith)
  few_many (suc n) at le lt = few_step n (few_many n) at le lt (read at (drop at bytes)) refl

  module _ (order : Order) where
    abbrev FewPairs : ℕ → Type 0
    FewPairs n = (last : Option (List ℕ)) (at : ℕ) → at ≤ length bytes → length bytes < at + n → place_of (pairs order read last n at (drop at bytes)) ≡ 0

    few_value : (n : ℕ) → FewPairs n → (last : Option (List ℕ)) (at : ℕ) → at ≤ length bytes → length bytes < at + suc n → (k : Taken Item) → read at (drop at bytes) ≡ Ok k → is_above order last (take (k.at - at) (drop at bytes)) ≡ true →
        (r : Result (Taken Item) Fault) → read k.at k.rest ≡ r → place_of (pairs order read last (suc n) at (drop at bytes)) ≡ 0
    few_value n ih last at le lt k h o (Err e) g = value_stop read order last n at (drop at bytes) k e h o g
    few_value n ih last at le lt k h o (Ok v) g =
        let t = next_item at le k h in
        let u = next_item k.at t.within v (ap (read k.at) (sym t.rest) ∙ g) in
        let key = take (k.at - at) (drop at bytes) in
        pair_go read order last n at (drop at bytes) k v h o g ∙ (ap (λ (l : List ℕ). place_of (pairs order read (Some key) n v.at l)) u.rest ∙ ih (Some key) v.at u.within (omega (arith, t.past, u.past)))

    few_order : (n : ℕ) → FewPairs n → (last : Option (List ℕ)) (at : ℕ) → at ≤ length bytes → length bytes < at + suc n → (k : Taken Item) → read at (drop at bytes) ≡ Ok k → (b : Bool) → is_above order last (take (k.at - at) (drop at bytes)) ≡ b →
        place_of (pairs order read last (suc n) at (drop at bytes)) ≡ 0
    few_order n ih last at le lt k h false o = order_stop read order last n at (drop at bytes) k h o
    few_order n ih last at le lt k h true o = few_value n ih last at le lt k h o (read k.at k.rest) refl

    few_key : (n : ℕ) → FewPairs n → (last : Option (List ℕ)) (at : ℕ) → at ≤ length bytes → length bytes < at + suc n → (r : Result (Taken Item) Fault) → read at (drop at bytes) ≡ r → place_of (pairs order read last (suc n) at (drop at bytes)) ≡ 0
    few_key n ih last at le lt (Err e) h = key_stop read order last n at (drop at bytes) e h
    few_key n ih last at le lt (Ok k) h = few_order n ih last at le lt k h (is_above order last (take (k.at - at) (drop at bytes))) refl

    pub few_pairs : (n : ℕ) → FewPairs n
    few_pairs zero last at le lt = absurd (omega arith)
    few_pairs (suc n) last at le lt = few_key n (few_pairs n) last at le lt (read at (drop at bytes)) refl

-- ---- before the first pair an empty key may be taken for the one before

some_above : (order : Order) (key : List ℕ) → 0 < length key → is_above order (Some []) key ≡ true
some_above order [] lt = absurd (omega arith)
some_above Bytewise (k ∷ key) lt = refl
some_above LengthFirst (k ∷ key) lt = let less : nat_lt 0 (length (k ∷ key)) ≡ true = grind (arith, nat_tests, lt) in rw less refl

module _ (order : Order) (read : Reader Item) (ahead : Advances read) (bytes : List ℕ) (fits : IsBytes bytes) where
  first_pair : (n at : ℕ) → at ≤ length bytes → (r : Result (Taken Item) Fault) → read at (drop at bytes) ≡ r → pairs order read (Some []) (suc n) at (drop at bytes) ≡ pairs order read None (suc n) at (drop at bytes)
  unfolding pairs
  first_pair n at le (Err e) h = rw h refl
  first_pair n at le (Ok k) h =
      let t = next_item read ahead bytes fits at le k h in
      let long : 0 < length (take (k.at - at) (drop at bytes)) = omega (arith, t.past, t.within, length-take (k.at - at) (drop at bytes), length-drop at bytes) in
      rw (h, some_above order (take (k.at - at) (drop at bytes)) long) refl

  pub pairs_first : (n at : ℕ) → at ≤ length bytes → pairs order read (Some []) n at (drop at bytes) ≡ pairs order read None n at (drop at bytes)
  unfolding pairs
  pairs_first zero at le = refl
  pairs_first (suc n) at le = first_pair n at le (read at (drop at bytes)) refl

-- ---- the one place where an item ends

module _ (order : Order) (d at : ℕ) (bytes : List ℕ) (fits : IsBytes bytes) where
  found : (r : Result (Taken Item) Fault) → item_at order d at (drop at bytes) ≡ r → place_of r ≢ 0 → WholeStands order d bytes at (place_of r)
  found (Err e) h ne = absurd (ne refl)
  found (Ok x) h ne =
      let t = item_takes order d at (drop at bytes) x (IsBytes-drop at bytes fits) h in
      record { item = x.value; whole = t.holds; stands = record { there = (x.rest, t.whole); behind = t.place } }

  only : (e : ℕ) → WholeStands order d bytes at e → (place_of (item_at order d at (drop at bytes)) ≡ e) × (0 < e)
  only e s =
      let text = encoding s.item in
      let again = item_again order s.item d at s.stands.there.0 s.whole.1 s.whole.0 in
      let some = item_long s.item (valid_framed order s.item s.whole.0) in
      let same : place_of (item_at order d at (drop at bytes)) ≡ at + length text = rw (s.stands.there.1, again) refl in
      (same ∙ sym s.stands.behind, omega (arith, s.stands.behind, some))

  pub item_ends : IsEnd (WholeStands order d bytes at) (place_of (item_at order d at (drop at bytes)))
  item_ends = record { found = found (item_at order d at (drop at bytes)) refl; only = only }
