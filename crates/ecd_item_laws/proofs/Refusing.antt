-- Where reading stops, a first fault stands.
use Rattle.std.proofs.Common.{◌≡◌, ℕ, zero, suc, ◌+◌, ◌-◌, ◌<◌, ◌≤◌, ◌^◌, ◌⊎◌, true, false, cond, eqb, ltb, List, [], ◌∷◌, ◌++◌, length, take, drop, map, Option, Some, None, Result, Ok, Err, refl, ap, sym, ◌∙◌, subst, arith, append_assoc, inl, inr}
use Rattle.std.specs.List.{AllByRecursion}
use Rattle.std.specs.Str.{is_utf8}
use Rattle.std.proofs.lemmas.Str.{is_utf8-from_IsUtf8}
use Rattle.std.proofs.lemmas.List.{length-append, length-take, take-append-drop, append-nil, map_push}
use Rattle.std.proofs.lemmas.Bool.{ltb-true, ltb-false, eqb-true, eqb-false}
use Rattle.ecd_head.specs.declared.HeadFault.{HeadFault}
use Rattle.ecd_head.specs.declared.HeadFault.TheVariants as h
use Rattle.ecd_head.specs.declared.Head.{Head}
use Rattle.ecd_head.specs.Head.{IsWritable, head_bytes}
use Rattle.ecd_head.specs.Fault.{head_at, head_fault}
use Rattle.ecd_head.proofs.Heads.{head_takes, fault_read, IsBytes, IsBytes-drop}
use Rattle.ecd_keyorder.specs.declared.Order.{Order}
use Rattle.ecd_keyorder.specs.Order.{comparison, IsBefore}
use Rattle.ecd_item_laws.specs.declared.fault.Fault.{Fault}
use Rattle.ecd_item_laws.specs.declared.fault.Cause.{Cause}
use Rattle.ecd_item_laws.specs.declared.fault.Cause.TheVariants as c
use Rattle.ecd_item_laws.specs.declared.item.Item.{Item}
use Rattle.ecd_item_laws.specs.declared.item.Item.TheVariants.{Uint, Nint, Bytes, Text, Array, Map, Tag, Simple}
use Rattle.ecd_item_laws.specs.declared.item.Pair.{Pair}
use Rattle.ecd_item_laws.specs.Encoding.{encoding, key_bytes, pair_bytes, joined}
use Rattle.ecd_item_laws.specs.Valid.{IsWhole, IsWholePair, Ascend}
use Rattle.ecd_item_laws.specs.Reading.{Taken, ◌>>=◌, taken, refused, headed, layer, behind, parts, item_at, inner_of, many, pairs, pair_of, string_at, text_at, is_above, cause_of}
use Rattle.ecd_item_laws.specs.FirstFault.{Step, InTag, InArray, AtKey, AtValue, step_bytes, IsOpen, steps_bytes, last_of, key_before_in, key_before, HasCause, IsFirstFault}
use Rattle.ecd_item_laws.proofs.Results.{ok_is, not_both, refused_is, bind_err, made_err, chosen_ok, chosen_err, guard_ok, less_is, less_not}
use Rattle.ecd_item_laws.proofs.Again.{item_at-layer}
use Rattle.ecd_item_laws.proofs.Takes.{item_takes, key_is}

pub joined-last : (xs : List (List ℕ)) (x : List ℕ) → joined (xs ++ x ∷ []) ≡ joined xs ++ x
joined-last [] x = append-nil x
joined-last (y ∷ ys) x = ap (λ (t : List ℕ). y ++ t) (joined-last ys x) ∙ sym (append_assoc y (joined ys) x)

joined_push : {A : Type 0} (text : A → List ℕ) (xs : List A) (x : A) → joined (map text (xs ++ x ∷ [])) ≡ joined (map text xs) ++ text x
joined_push text xs x = ap joined (map_push text xs x) ∙ joined-last (map text xs) (text x)

pub all_push : {A : Type 0} (P : A → Type 0) (xs : List A) (x : A) → AllByRecursion P xs → P x → AllByRecursion P (xs ++ x ∷ [])
all_push P [] x h p = (p, tt)
all_push P (y ∷ ys) x h p = (h.0, all_push P ys x h.1 p)

pushed_bytes : {A : Type 0} (text : A → List ℕ) (head : List ℕ) (before : List A) (x : A) (bytes rest : List ℕ) → bytes ≡ text x ++ rest → (head ++ joined (map text before)) ++ bytes ≡ (head ++ joined (map text (before ++ x ∷ []))) ++ rest
pushed_bytes text head before x bytes rest e = rw (e, joined_push text before x) (simp append_assoc)

pushed_long : {A : Type 0} (text : A → List ℕ) (head : List ℕ) (before : List A) (x : A) → length (head ++ joined (map text (before ++ x ∷ []))) ≡ length (head ++ joined (map text before)) + length (text x)
pushed_long text head before x =
    rw (joined_push text before x) (omega (arith, length-append head (joined (map text before) ++ text x), length-append (joined (map text before)) (text x), length-append head (joined (map text before))))

value_bytes : (head before key bytes rest : List ℕ) → bytes ≡ key ++ rest → (head ++ before) ++ bytes ≡ (head ++ (before ++ key)) ++ rest
value_bytes head before key bytes rest e = rw e (simp append_assoc)

value_long : (head before key : List ℕ) → length (head ++ (before ++ key)) ≡ length (head ++ before) + length key
value_long head before key = omega (arith, length-append head (before ++ key), length-append before key, length-append head before)

pub last_push : (keys : List (List ℕ)) (k : List ℕ) → last_of (keys ++ k ∷ []) ≡ Some k
last_push [] k = refl
last_push (x ∷ []) k = refl
last_push (x ∷ y ∷ ys) k = last_push (y ∷ ys) k

string_fails : (place n at : ℕ) (bytes : List ℕ) (f : Fault) → string_at place n at bytes ≡ Err f → (f ≡ record { place = place; cause = c.ShortString }) × (length bytes < n)
string_fails place n at bytes f e =
    elim (chosen_err (ltb (length bytes) n) (refused place c.ShortString) (taken (take n bytes) (at + n) (drop n bytes)) f e) [
      | inl g ↦ (refused_is place c.ShortString f g.1, ltb-true (length bytes) n g.0)
      | inr g ↦ not_both (record { value = take n bytes; at = at + n; rest = drop n bytes }) f g.1
    ]

string_ok : (place n at : ℕ) (bytes : List ℕ) (s : Taken (List ℕ)) → string_at place n at bytes ≡ Ok s → (n ≤ length bytes) × (s.value ≡ take n bytes)
string_ok place n at bytes s e =
    elim (chosen_ok (ltb (length bytes) n) (refused place c.ShortString) (taken (take n bytes) (at + n) (drop n bytes)) s e) [
      | inl g ↦ refused_ok place c.ShortString s g.1
      | inr g ↦ (ltb-false (length bytes) n g.0, ap (λ (t : Taken (List ℕ)). t.value) (sym (ok_is (record { value = take n bytes; at = at + n; rest = drop n bytes }) s g.1)))
    ]
  where
    refused_ok : {A B : Type 0} (at : ℕ) (cause : Cause) (y : A) → refused {A = A} at cause ≡ Ok y → B
    refused_ok at cause y e = absurd cc

-- ---- first faults, put together

module _ (order : Order) where
  abbrev pub Stops : ℕ → ℕ → List ℕ → Fault → Type 0
  Stops d at bytes f = IsFirstFault order d at bytes f.place f.cause

  -- a cause that is not of a key is one wherever the item stands
  any_before : (room : ℕ) (before : Option (List ℕ)) (bytes : List ℕ) (cause : Cause) → HasCause order room None bytes cause → HasCause order room before bytes cause
  any_before room before bytes c.Short w = w
  any_before room before bytes c.Reserved w = w
  any_before room before bytes c.Indefinite w = w
  any_before room before bytes c.NotShortest w = w
  any_before room before bytes c.Float w = w
  any_before room before bytes c.BadSimple w = w
  any_before room before bytes c.BadUtf8 w = w
  any_before room before bytes c.KeyOrder w = absurd (let e : None ≡ Some w.last = w.follows in cc)
  any_before room before bytes c.TooDeep w = w
  any_before room before bytes c.ShortString w = w

  head_cause : (room : ℕ) (bytes : List ℕ) (e : HeadFault) → head_fault bytes ≡ Some e → HasCause order room None bytes (cause_of e)
  head_cause room bytes h.Short w = w
  head_cause room bytes h.Reserved w = w
  head_cause room bytes h.Indefinite w = w
  head_cause room bytes h.NotShortest w = w
  head_cause room bytes h.Float w = w
  head_cause room bytes h.BadSimple w = w

  stops_here : (d at : ℕ) (bytes : List ℕ) (f : Fault) (cause : Cause) → f ≡ record { place = at; cause = cause } → HasCause order d None bytes cause → Stops d at bytes f
  stops_here d at bytes f cause e w =
      subst (λ (g : Fault). Stops d at bytes g) (sym e)
      (record { steps = []; rest = bytes; unfinished = tt; stands = refl; here = omega arith; why = subst (λ (n : ℕ). HasCause order n None bytes cause) (omega arith) w })

  deeper_cause : (d : ℕ) (step : Step) (steps : List Step) (rest : List ℕ) (cause : Cause) → HasCause order (d - length steps) (key_before steps) rest cause → HasCause order (suc d - length (step ∷ steps)) (key_before (step ∷ steps)) rest cause
  deeper_cause d step [] rest cause w = subst (λ (n : ℕ). HasCause order n (key_before_in step) rest cause) (omega arith) (any_before (d - 0) (key_before_in step) rest cause w)
  deeper_cause d step (next ∷ steps) rest cause w = subst (λ (n : ℕ). HasCause order n (key_before (next ∷ steps)) rest cause) (omega arith) w

  deeper : (d : ℕ) (step : Step) (at inner : ℕ) (bytes : List ℕ) (f : Fault) → IsOpen order d step → inner ≡ at + length (step_bytes step) → Stops d inner bytes f → Stops (suc d) at (step_bytes step ++ bytes) f
  deeper d step at inner bytes f o place s =
      record {
        steps = step ∷ s.steps;
        rest = s.rest;
        unfinished = (o, s.unfinished);
        stands = ap (λ (t : List ℕ). step_bytes step ++ t) s.stands ∙ sym (append_assoc (step_bytes step) (steps_bytes s.steps) s.rest);
        here = omega (arith, s.here, place, length-append (step_bytes step) (steps_bytes s.steps));
        why = deeper_cause d step s.steps s.rest f.cause s.why;
      }

  abbrev Fails : ℕ → Type 0
  Fails d = (at : ℕ) (bytes : List ℕ) (f : Fault) → IsBytes bytes → item_at order d at bytes ≡ Err f → Stops d at bytes f

  -- ---- arrays

  array_more : (d count n at inner : ℕ) (before : List Item) (bytes : List ℕ) (f : Fault) → Fails d → IsBytes bytes → length before + n ≡ count → count < 2 ^ 64 → AllByRecursion (IsWhole order d) before
      → inner ≡ at + length (step_bytes (InArray count before)) → many (item_at order d) n inner bytes ≡ Err f → Stops (suc d) at (step_bytes (InArray count before) ++ bytes) f
  unfolding many
  array_more d count zero at inner before bytes f ih fits len small all place e = absurd cc
  array_more d count (suc n) at inner before bytes f ih fits len small all place e =
      elim (bind_err (item_at order d inner bytes) (λ first. many (item_at order d) n first.at first.rest >>= λ others. taken (first.value ∷ others.value) others.at others.rest) f e) [
        | inl g ↦ deeper d (InArray count before) at inner bytes f (small, omega arith, all) place (ih inner bytes f fits g)
        | inr w ↦
            let x = w.0 in
            let t = item_takes order d inner bytes w.0 fits w.1 in
            let again : many (item_at order d) n w.0.at w.0.rest ≡ Err f = elim (bind_err (many (item_at order d) n w.0.at w.0.rest) (λ others. taken (w.0.value ∷ others.value) others.at others.rest) f w.2) [ inl a ↦ a | inr v ↦ not_both (record { value = w.0.value ∷ v.0.value; at = v.0.at; rest = v.0.rest }) f v.2 ] in
            subst (λ (b : List ℕ). Stops (suc d) at b f) (sym (pushed_bytes encoding (head_bytes 4 count) before w.0.value bytes w.0.rest t.whole))
            (array_more d count n at w.0.at (before ++ w.0.value ∷ []) w.0.rest f ih t.rest_fits (omega (arith, length-append before (w.0.value ∷ []))) small (all_push (IsWhole order d) before w.0.value all t.holds)
            (omega (arith, t.place, place, pushed_long encoding (head_bytes 4 count) before w.0.value)) again)
      ]

  -- ---- maps

  ascend_push : (keys : List (List ℕ)) (k : List ℕ) → Ascend order keys → is_above order (last_of keys) k ≡ true → Ascend order (keys ++ k ∷ [])
  ascend_push [] k h a = (tt, tt)
  ascend_push (x ∷ []) k h a = (less_is (comparison order x k) a, (tt, tt))
  ascend_push (x ∷ y ∷ ys) k h a = (h.0, ascend_push (y ∷ ys) k h.1 a)

  not_above : (last : Option (List ℕ)) (k : List ℕ) → is_above order last k ≡ false → (l : List ℕ) × (last ≡ Some l) × (IsBefore order l k → ⊥)
  not_above None k e = absurd cc
  not_above (Some l) k e = (l, refl, less_not (comparison order l k) e)

  order_stops : (d count at inner : ℕ) (before : List Pair) (bytes rest : List ℕ) (key : Item) (f : Fault) → IsOpen order d (AtKey count before) → inner ≡ at + length (step_bytes (AtKey count before)) → IsWhole order d key → bytes ≡ encoding key ++ rest
      → is_above order (last_of (map key_bytes before)) (encoding key) ≡ false → f ≡ record { place = inner; cause = c.KeyOrder } → Stops (suc d) at (step_bytes (AtKey count before) ++ bytes) f
  order_stops d count at inner before bytes rest key f o place whole stands below e =
      let b = not_above (last_of (map key_bytes before)) (encoding key) below in
      let text = step_bytes (AtKey count before) in
      subst (λ (g : Fault). Stops (suc d) at (text ++ bytes) g) (sym e)
      (record {
        steps = AtKey count before ∷ [];
        rest = bytes;
        unfinished = (o, tt);
        stands = ap (λ (t : List ℕ). t ++ bytes) (sym (append-nil text));
        here = place ∙ ap (λ (t : List ℕ). at + length t) (sym (append-nil text));
        why = record { last = b.0; key = key; rest = rest; follows = b.1; whole = (whole.0, omega (arith, whole.1)); stands = stands; below = b.2 };
      })

  keys_pushed : (before : List Pair) (k v : Item) → map key_bytes (before ++ pair_of k v ∷ []) ≡ map key_bytes before ++ encoding k ∷ []
  keys_pushed before k v = map_push key_bytes before (pair_of k v)

  pair_more : (d count n at inner : ℕ) (before : List Pair) (last : Option (List ℕ)) (bytes : List ℕ) (f : Fault) → Fails d → IsBytes bytes → length before + n ≡ count → count < 2 ^ 64 → AllByRecursion (IsWholePair order d) before → Ascend order (map key_bytes before)
      → last ≡ last_of (map key_bytes before) → inner ≡ at + length (step_bytes (AtKey count before)) → pairs order (item_at order d) last n inner bytes ≡ Err f → Stops (suc d) at (step_bytes (AtKey count before) ++ bytes) f
  unfolding pairs
  pair_more d count zero at inner before last bytes f ih fits len small all ascends lasts place e = absurd cc
  pair_more d count (suc n) at inner before last bytes f ih fits len small all ascends lasts place e =
      elim (bind_err (item_at order d inner bytes) (λ key. cond (is_above order last (take (key.at - inner) bytes)) (item_at order d key.at key.rest) (refused inner c.KeyOrder) >>= λ value. pairs order (item_at order d) (Some (take (key.at - inner) bytes)) n value.at value.rest >>= λ others. taken (pair_of key.value value.value ∷ others.value) others.at others.rest) f e) [
        | inl g ↦ deeper d (AtKey count before) at inner bytes f (small, omega arith, all, ascends) place (ih inner bytes f fits g)
        | inr w ↦
            let k = item_takes order d inner bytes w.0 fits w.1 in
            let kb : take (w.0.at - inner) bytes ≡ encoding w.0.value = key_is order inner bytes w.0 k.whole k.place in
            let here : last_of (map key_bytes before) ≡ last = sym lasts in
            elim (bind_err (cond (is_above order last (take (w.0.at - inner) bytes)) (item_at order d w.0.at w.0.rest) (refused inner c.KeyOrder)) (λ value. pairs order (item_at order d) (Some (take (w.0.at - inner) bytes)) n value.at value.rest >>= λ others. taken (pair_of w.0.value value.value ∷ others.value) others.at others.rest) f w.2) [
              | inl g ↦ elim (chosen_err (is_above order last (take (w.0.at - inner) bytes)) (item_at order d w.0.at w.0.rest) (refused inner c.KeyOrder) f g) [
                | inl a ↦
                    let above : is_above order (last_of (map key_bytes before)) (encoding w.0.value) ≡ true = rw (here, ← kb) a.0 in
                    subst (λ (b : List ℕ). Stops (suc d) at b f) (sym (value_bytes (head_bytes 5 count) (joined (map pair_bytes before)) (encoding w.0.value) bytes w.0.rest k.whole))
                    (deeper d (AtValue count before w.0.value) at w.0.at w.0.rest f (small, omega arith, all, k.holds, ascend_push (map key_bytes before) (encoding w.0.value) ascends above)
                    (omega (arith, k.place, place, value_long (head_bytes 5 count) (joined (map pair_bytes before)) (encoding w.0.value))) (ih w.0.at w.0.rest f k.rest_fits a.1))
                | inr a ↦
                    let below : is_above order (last_of (map key_bytes before)) (encoding w.0.value) ≡ false = rw (here, ← kb) a.0 in
                    order_stops d count at inner before bytes w.0.rest w.0.value f (small, omega arith, all, ascends) place k.holds k.whole below (refused_is inner c.KeyOrder f a.1)
              ]
              | inr v ↦
                  let g = guard_ok (is_above order last (take (w.0.at - inner) bytes)) (record { place = inner; cause = c.KeyOrder }) (item_at order d w.0.at w.0.rest) v.0 v.1 in
                  let above : is_above order (last_of (map key_bytes before)) (encoding w.0.value) ≡ true = rw (here, ← kb) g.0 in
                  let m = item_takes order d w.0.at w.0.rest v.0 k.rest_fits g.1 in
                  let again : pairs order (item_at order d) (Some (take (w.0.at - inner) bytes)) n v.0.at v.0.rest ≡ Err f = elim (bind_err (pairs order (item_at order d) (Some (take (w.0.at - inner) bytes)) n v.0.at v.0.rest) (λ others. taken (pair_of w.0.value v.0.value ∷ others.value) others.at others.rest) f v.2) [ inl a ↦ a | inr u ↦ not_both (record { value = pair_of w.0.value v.0.value ∷ u.0.value; at = u.0.at; rest = u.0.rest }) f u.2 ] in
                  let both : bytes ≡ pair_bytes (pair_of w.0.value v.0.value) ++ v.0.rest = k.whole ∙ (ap (λ (t : List ℕ). encoding w.0.value ++ t) m.whole ∙ sym (append_assoc (encoding w.0.value) (encoding v.0.value) v.0.rest)) in
                  subst (λ (b : List ℕ). Stops (suc d) at b f) (sym (pushed_bytes pair_bytes (head_bytes 5 count) before (pair_of w.0.value v.0.value) bytes v.0.rest both))
                  (pair_more d count n at v.0.at (before ++ pair_of w.0.value v.0.value ∷ []) (Some (take (w.0.at - inner) bytes)) v.0.rest f ih m.rest_fits (omega (arith, length-append before (pair_of w.0.value v.0.value ∷ []))) small
                  (all_push (IsWholePair order d) before (pair_of w.0.value v.0.value) all (k.holds, m.holds)) (subst (Ascend order) (sym (keys_pushed before w.0.value v.0.value)) (ascend_push (map key_bytes before) (encoding w.0.value) ascends above))
                  (ap Some kb ∙ sym (ap last_of (keys_pushed before w.0.value v.0.value) ∙ last_push (map key_bytes before) (encoding w.0.value)))
                  (omega (arith, k.place, m.place, place, pushed_long pair_bytes (head_bytes 5 count) before (pair_of w.0.value v.0.value), length-append (encoding w.0.value) (encoding v.0.value))) again)
            ]
      ]

  -- ---- behind a head

  abbrev Inside : ℕ → Type 0
  Inside zero = Unit {0}
  Inside (suc d) = Fails d

  abbrev Nests : ℕ → Type 0
  Nests m = (m ≡ 4) ⊎ ((m ≡ 5) ⊎ (m ≡ 6))

  part_stops : (d place m a at : ℕ) (bytes : List ℕ) (f : Fault) → Inside d → a < 2 ^ 64 → Nests m → IsBytes bytes → at ≡ place + length (head_bytes m a) → parts order (inner_of order d) place (record { major = m; arg = a }) at bytes ≡ Err f → Stops d place (head_bytes m a ++ bytes) f
  unfolding parts inner_of
  part_stops zero place m a at bytes f inside small which fits here e =
      stops_here zero place (head_bytes m a ++ bytes) f c.TooDeep (refused_is place c.TooDeep f e) (record { major = m; arg = a; rest = bytes; nests = which; fits = small; stands = refl; full = refl })
  part_stops (suc d) place m a at bytes f inside small which fits here e =
      elim which [
        | inl h ↦ of_kind m 4 h (made_err Array (many (item_at order d) a at bytes) f (rw h at e))
            (λ g. subst (λ (b : List ℕ). Stops (suc d) place (b ++ bytes) f) (append-nil (head_bytes 4 a)) (array_more d a a place at [] bytes f inside fits (omega arith) small tt (start 4 h) g))
        | inr g ↦ elim g [
          | inl h ↦ of_kind m 5 h (made_err Map (pairs order (item_at order d) None a at bytes) f (rw h at e))
              (λ g. subst (λ (b : List ℕ). Stops (suc d) place (b ++ bytes) f) (append-nil (head_bytes 5 a)) (pair_more d a a place at [] None bytes f inside fits (omega arith) small tt tt refl (start 5 h) g))
          | inr h ↦ of_kind m 6 h (made_err (Tag a) (item_at order d at bytes) f (rw h at e)) (λ g. deeper d (InTag a) place at bytes f small (here ∙ ap (λ (n : ℕ). place + length (head_bytes n a)) h) (inside at bytes f fits g))
        ]
      ]
    where
      of_kind : {A : Type 0} (m k : ℕ) → m ≡ k → A → (A → Stops (suc d) place (head_bytes k a ++ bytes) f) → Stops (suc d) place (head_bytes m a ++ bytes) f
      of_kind m k h x g = rw h (g x)

      start : (k : ℕ) → m ≡ k → at ≡ place + length (head_bytes k a ++ [])
      start k h = here ∙ (ap (λ (n : ℕ). place + length (head_bytes n a)) h ∙ ap (λ (t : List ℕ). place + length t) (sym (append-nil (head_bytes k a))))

  left_majors : (m : ℕ) → m ≤ 7 → eqb m 0 ≡ false → eqb m 1 ≡ false → eqb m 2 ≡ false → eqb m 3 ≡ false → eqb m 7 ≡ false → Nests m
  left_majors m le a b c d e = grind (arith, eqb-false m 0 a, eqb-false m 1 b, eqb-false m 2 c, eqb-false m 3 d, eqb-false m 7 e)

  string_stops : (d place m n at : ℕ) (bytes : List ℕ) (f : Fault) → n < 2 ^ 64 → (m ≡ 2) ⊎ (m ≡ 3) → string_at place n at bytes ≡ Err f → Stops d place (head_bytes m n ++ bytes) f
  string_stops d place m n at bytes f small which e =
      let s = string_fails place n at bytes f e in
      stops_here d place (head_bytes m n ++ bytes) f c.ShortString s.0 (record { major = m; count = n; rest = bytes; string = which; fits = small; stands = refl; short = s.1 })

  text_stops : (d place n at : ℕ) (bytes : List ℕ) (f : Fault) → n < 2 ^ 64 → text_at place n at bytes ≡ Err f → Stops d place (head_bytes 3 n ++ bytes) f
  text_stops d place n at bytes f small e =
      elim (bind_err (string_at place n at bytes) (λ s. cond (is_utf8 s.value) (taken s.value s.at s.rest) (refused place c.BadUtf8)) f e) [
        | inl g ↦ string_stops d place 3 n at bytes f small (inr refl) g
        | inr w ↦
            let s = string_ok place n at bytes w.0 w.1 in
            let len : length (take n bytes) ≡ n = omega (arith, length-take n bytes, s.0) in
            elim (chosen_err (is_utf8 w.0.value) (taken w.0.value w.0.at w.0.rest) (refused place c.BadUtf8) f w.2) [
              | inl g ↦ not_both (record { value = w.0.value; at = w.0.at; rest = w.0.rest }) f g.1
              | inr g ↦
                  stops_here d place (head_bytes 3 n ++ bytes) f c.BadUtf8 (refused_is place c.BadUtf8 f g.1)
                  (record {
                    text = take n bytes;
                    rest = drop n bytes;
                    fits = omega arith;
                    stands = ap (λ (k : ℕ). head_bytes 3 k ++ bytes) (sym len) ∙ ap (λ (t : List ℕ). head_bytes 3 (length (take n bytes)) ++ t) (sym (take-append-drop n bytes));
                    bad = λ u. let b : is_utf8 w.0.value ≡ true = ap is_utf8 s.1 ∙ is_utf8-from_IsUtf8 (take n bytes) u in let q : true ≡ false = sym b ∙ g.0 in cc;
                  })
            ]
      ]

  of_major : (d m k a place : ℕ) (bytes : List ℕ) (f : Fault) → m ≡ k → Stops d place (head_bytes k a ++ bytes) f → Stops d place (head_bytes m a ++ bytes) f
  of_major d m k a place bytes f e s = rw e s

  behind_stops : (d place m a at : ℕ) (bytes : List ℕ) (f : Fault) → Inside d → IsWritable m a → IsBytes bytes → at ≡ place + length (head_bytes m a) → behind order (inner_of order d) place (record { major = m; arg = a }) at bytes ≡ Err f → Stops d place (head_bytes m a ++ bytes) f
  unfolding behind
  behind_stops d place m a at bytes f inside w fits here e0 =
      elim (chosen_err (eqb m 0) _ _ f e0) [
        | inl h ↦ not_both (record { value = Uint a; at = at; rest = bytes }) f h.1
        | inr e1 ↦ elim (chosen_err (eqb m 1) _ _ f e1.1) [
          | inl h ↦ not_both (record { value = Nint a; at = at; rest = bytes }) f h.1
          | inr e2 ↦ elim (chosen_err (eqb m 2) _ _ f e2.1) [
            | inl h ↦ of_major d m 2 a place bytes f (eqb-true m 2 h.0) (string_stops d place 2 a at bytes f w.fits (inl refl) (made_err Bytes (string_at place a at bytes) f h.1))
            | inr e3 ↦ elim (chosen_err (eqb m 3) _ _ f e3.1) [
              | inl h ↦ of_major d m 3 a place bytes f (eqb-true m 3 h.0) (text_stops d place a at bytes f w.fits (made_err Text (text_at place a at bytes) f h.1))
              | inr e4 ↦ elim (chosen_err (eqb m 7) _ _ f e4.1) [
                | inl h ↦ not_both (record { value = Simple a; at = at; rest = bytes }) f h.1
                | inr e5 ↦ part_stops d place m a at bytes f inside w.fits (left_majors m w.known e1.0 e2.0 e3.0 e4.0 e5.0) fits here e5.1
              ]
            ]
          ]
        ]
      ]

  layer_stops : (d : ℕ) → Inside d → (at : ℕ) (bytes : List ℕ) (f : Fault) → IsBytes bytes → layer order (inner_of order d) at bytes ≡ Err f → Stops d at bytes f
  unfolding layer
  layer_stops d inside at bytes f fits e = by_head (head_at bytes) refl
    where
      by_head : (r : Result (Head × ℕ) HeadFault) → head_at bytes ≡ r → Stops d at bytes f
      by_head (Err g) h =
          let k : f ≡ record { place = at; cause = cause_of g } = refused_is at (cause_of g) f (sym (ap (λ r. headed at bytes r >>= λ x. behind order (inner_of order d) at x.value x.at x.rest) h) ∙ e) in
          stops_here d at bytes f (cause_of g) k (head_cause d bytes g ((fault_read bytes g).0 h))
      by_head (Ok x) h =
          let t = head_takes bytes x.0 x.1 fits h in
          let k : behind order (inner_of order d) at x.0 (at + x.1) (drop x.1 bytes) ≡ Err f = sym (ap (λ r. headed at bytes r >>= λ x. behind order (inner_of order d) at x.value x.at x.rest) h) ∙ e in
          subst (λ (b : List ℕ). Stops d at b f) (sym t.whole) (behind_stops d at x.0.major x.0.arg (at + x.1) (drop x.1 bytes) f inside t.writable (IsBytes-drop x.1 bytes fits) (ap (λ (n : ℕ). at + n) (sym t.long)) k)

  pub item_stops : (d : ℕ) → Fails d
  item_stops zero at bytes f fits e = layer_stops zero tt at bytes f fits (sym (item_at-layer order zero at bytes) ∙ e)
  item_stops (suc d) at bytes f fits e = layer_stops (suc d) (item_stops d) at bytes f fits (sym (item_at-layer order (suc d) at bytes) ∙ e)
