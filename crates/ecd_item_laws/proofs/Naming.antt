-- A first fault is the one that reading names.
use Rattle.std.proofs.Common.{◌≡◌, ℕ, zero, suc, ◌+◌, ◌-◌, ◌<◌, ◌^◌, ◌⊎◌, Bool, true, false, List, [], ◌∷◌, ◌++◌, length, take, map, Option, Some, None, Result, Ok, Err, refl, ap, sym, ◌∙◌, subst, arith, append_assoc, inl, inr}
use Rattle.std.specs.List.{AllByRecursion}
use Rattle.std.specs.Str.{IsUtf8, is_utf8}
use Rattle.std.proofs.lemmas.Str.{IsUtf8-from_is_utf8}
use Rattle.std.proofs.lemmas.List.{length-append, append-nil, take_at}
use Rattle.std.proofs.lemmas.Bool.{lt-ltb}
use Rattle.ecd_head.specs.declared.HeadFault.{HeadFault}
use Rattle.ecd_head.specs.declared.HeadFault.TheVariants as h
use Rattle.ecd_head.specs.Head.{IsWritable, head_bytes}
use Rattle.ecd_head.specs.Fault.{head_fault}
use Rattle.ecd_head.proofs.Heads.{fault_read}
use Rattle.ecd_keyorder.specs.declared.Order.{Order}
use Rattle.ecd_keyorder.specs.Order.{comparison}
use Rattle.ecd_item_laws.specs.declared.fault.Fault.{Fault}
use Rattle.ecd_item_laws.specs.declared.fault.Cause.{Cause}
use Rattle.ecd_item_laws.specs.declared.fault.Cause.TheVariants as c
use Rattle.ecd_item_laws.specs.declared.item.Item.{Item}
use Rattle.ecd_item_laws.specs.declared.item.Pair.{Pair}
use Rattle.ecd_item_laws.specs.Encoding.{encoding, key_bytes, pair_bytes, joined}
use Rattle.ecd_item_laws.specs.Valid.{IsWhole, IsWholePair, Ascend}
use Rattle.ecd_item_laws.specs.Reading.{Reader, Taken, ◌>>=◌, taken, refused, layer, behind, parts, item_at, inner_of, many, pairs, is_above, cause_of}
use Rattle.ecd_item_laws.specs.FirstFault.{Step, InTag, InArray, AtKey, AtValue, step_bytes, IsOpen, AreOpen, steps_bytes, last_of, key_before_in, key_before, IsOutOfOrder, HasCause, IsFirstFault}
use Rattle.ecd_item_laws.proofs.Results.{with_front, less_true, less_false}
use Rattle.ecd_item_laws.proofs.Again.{Rereads, item_at-layer, layer_again, item_again, atom, string_again, follows, follows-Ascend, none_above}

front_err : {A : Type 0} (front : List A) (r : Result (Taken (List A)) Fault) (f : Fault) → r ≡ Err f → with_front front r ≡ Err f
front_err front (Ok x) f e = absurd cc
front_err front (Err g) f e = cc

front_one : {A : Type 0} (x : A) (front : List A) (r : Result (Taken (List A)) Fault) → (with_front front r >>= λ others. taken (x ∷ others.value) others.at others.rest) ≡ with_front (x ∷ front) r
front_one x front (Ok y) = refl
front_one x front (Err g) = refl

no_front : {A : Type 0} (r : Result (Taken (List A)) Fault) → with_front [] r ≡ r
no_front (Ok x) = refl
no_front (Err f) = refl

pub many_front : {A : Type 0} (read : Reader A) (text : A → List ℕ) (xs : List A) → AllByRecursion (Rereads read text) xs → (n k at : ℕ) (rest : List ℕ) → k ≡ length xs + n
    → many read k at (joined (map text xs) ++ rest) ≡ with_front xs (many read n (at + length (joined (map text xs))) rest)
unfolding many
many_front read text [] h n k at rest e =
    let p : k ≡ n = omega arith in
    let q : at + 0 ≡ at = omega arith in
    rw (p, q) (sym (no_front (many read n at rest)))
many_front {A} read text (x ∷ xs) h n k at rest e =
    let p : k ≡ suc (length xs + n) = omega arith in
    let len : at + length (text x) + length (joined (map text xs)) ≡ at + length (text x ++ joined (map text xs)) = omega (arith, length-append (text x) (joined (map text xs))) in
    rw (p, append_assoc (text x) (joined (map text xs)) rest, h.0 at (joined (map text xs) ++ rest), many_front read text xs h.1 n (length xs + n) (at + length (text x)) rest refl, len)
    (front_one x xs (many read n (at + length (text x ++ joined (map text xs))) rest))

bool_false : (b : Bool) → (b ≡ true → ⊥) → b ≡ false
bool_false true h = absurd (h refl)
bool_false false h = refl

last_after : Option (List ℕ) → List Pair → Option (List ℕ)
last_after last [] = last
last_after last (p ∷ ps) = last_after (Some (encoding p.key)) ps

last_after_some : (k : List ℕ) (ps : List Pair) → last_after (Some k) ps ≡ last_of (k ∷ map key_bytes ps)
unfolding last_after
last_after_some k [] = refl
last_after_some k (p ∷ ps) = last_after_some (encoding p.key) ps

last_after_none : (ps : List Pair) → last_after None ps ≡ last_of (map key_bytes ps)
unfolding last_after
last_after_none [] = refl
last_after_none (p ∷ ps) = last_after_some (encoding p.key) ps

module _ (order : Order) where
  pairs_front : (read : Reader Item) (ps : List Pair) → AllByRecursion (λ p. Rereads read encoding p.key × Rereads read encoding p.value) ps → (last : Option (List ℕ)) → follows order last (map key_bytes ps) → (n k at : ℕ) (rest : List ℕ) → k ≡ length ps + n
      → pairs order read last k at (joined (map pair_bytes ps) ++ rest) ≡ with_front ps (pairs order read (last_after last ps) n (at + length (joined (map pair_bytes ps))) rest)
  unfolding pairs last_after
  pairs_front read [] h last fo n k at rest e =
      let p : k ≡ n = omega arith in
      let q : at + 0 ≡ at = omega arith in
      rw (p, q) (sym (no_front (pairs order read last n at rest)))
  pairs_front read (p ∷ ps) h last fo n k at rest e =
      let kn : k ≡ suc (length ps + n) = omega arith in
      let more = joined (map pair_bytes ps) in
      let whole : ((encoding p.key ++ encoding p.value) ++ more) ++ rest ≡ encoding p.key ++ (encoding p.value ++ (more ++ rest)) = simp append_assoc in
      let front : take (at + length (encoding p.key) - at) (encoding p.key ++ (encoding p.value ++ (more ++ rest))) ≡ encoding p.key = take_at (encoding p.key) (encoding p.value ++ (more ++ rest)) (at + length (encoding p.key) - at) (omega arith) in
      let len : at + length (encoding p.key) + length (encoding p.value) + length more ≡ at + length ((encoding p.key ++ encoding p.value) ++ more) = omega (arith, length-append (encoding p.key ++ encoding p.value) more, length-append (encoding p.key) (encoding p.value)) in
      rw (kn, whole, h.0.0 at (encoding p.value ++ (more ++ rest)), front, fo.0, h.0.1 (at + length (encoding p.key)) (more ++ rest), pairs_front read ps h.1 (Some (encoding p.key)) fo.1 n (length ps + n) (at + length (encoding p.key) + length (encoding p.value)) rest refl, len)
      (front_one p ps (pairs order read (last_after (Some (encoding p.key)) ps) n (at + length ((encoding p.key ++ encoding p.value) ++ more)) rest))

  whole_again : (d : ℕ) (xs : List Item) → AllByRecursion (IsWhole order d) xs → AllByRecursion (Rereads (item_at order d) encoding) xs
  whole_again d [] h = tt
  whole_again d (x ∷ xs) h = ((λ at rest. item_again order x d at rest h.0.1 h.0.0), whole_again d xs h.1)

  whole_pairs_again : (d : ℕ) (ps : List Pair) → AllByRecursion (IsWholePair order d) ps → AllByRecursion (λ p. Rereads (item_at order d) encoding p.key × Rereads (item_at order d) encoding p.value) ps
  whole_pairs_again d [] h = tt
  whole_pairs_again d (p ∷ ps) h = (((λ at rest. item_again order p.key d at rest h.0.0.1 h.0.0.0), (λ at rest. item_again order p.value d at rest h.0.1.1 h.0.1.0)), whole_pairs_again d ps h.1)

  -- ---- one step

  headed_fails : (d m a at : ℕ) (more : List ℕ) (f : Fault) → IsWritable m a → behind order (inner_of order d) at (record { major = m; arg = a }) (at + length (head_bytes m a)) more ≡ Err f → item_at order d at (head_bytes m a ++ more) ≡ Err f
  headed_fails d m a at more f w e = item_at-layer order d at (head_bytes m a ++ more) ∙ (layer_again order (inner_of order d) m a at more w ∙ e)

  many_fails : (read : Reader Item) (m at : ℕ) (rest : List ℕ) (f : Fault) → read at rest ≡ Err f → many read (suc m) at rest ≡ Err f
  unfolding many
  many_fails read m at rest f e = rw e refl

  key_fails : (read : Reader Item) (last : Option (List ℕ)) (m at : ℕ) (rest : List ℕ) (f : Fault) → read at rest ≡ Err f → pairs order read last (suc m) at rest ≡ Err f
  unfolding pairs
  key_fails read last m at rest f e = rw e refl

  value_fails : (read : Reader Item) (last : Option (List ℕ)) (m at : ℕ) (key rest : List ℕ) (k : Item) (f : Fault) → read at (key ++ rest) ≡ taken k (at + length key) rest → is_above order last key ≡ true → read (at + length key) rest ≡ Err f → pairs order read last (suc m) at (key ++ rest) ≡ Err f
  unfolding pairs
  value_fails read last m at key rest k f r a e =
      let front : take (at + length key - at) (key ++ rest) ≡ key = take_at key rest (at + length key - at) (omega arith) in
      rw (r, front, a, e) refl

  order_fails : (read : Reader Item) (last : Option (List ℕ)) (m at : ℕ) (key rest : List ℕ) (k : Item) → read at (key ++ rest) ≡ taken k (at + length key) rest → is_above order last key ≡ false → pairs order read last (suc m) at (key ++ rest) ≡ refused at c.KeyOrder
  unfolding pairs
  order_fails read last m at key rest k r a =
      let front : take (at + length key - at) (key ++ rest) ≡ key = take_at key rest (at + length key - at) (omega arith) in
      rw (r, front, a) refl

  tag_fails : (d n at : ℕ) (inner : List ℕ) (f : Fault) → n < 2 ^ 64 → item_at order d (at + length (head_bytes 6 n)) inner ≡ Err f → item_at order (suc d) at (head_bytes 6 n ++ inner) ≡ Err f
  unfolding behind parts inner_of
  tag_fails d n at inner f small e = headed_fails (suc d) 6 n at inner f (atom order 6 n (omega arith) small) (rw e refl)

  array_fails : (d count at : ℕ) (more : List ℕ) (f : Fault) → count < 2 ^ 64 → many (item_at order d) count (at + length (head_bytes 4 count)) more ≡ Err f → item_at order (suc d) at (head_bytes 4 count ++ more) ≡ Err f
  unfolding behind parts inner_of
  array_fails d count at more f small e = headed_fails (suc d) 4 count at more f (atom order 4 count (omega arith) small) (rw e refl)

  map_fails : (d count at : ℕ) (more : List ℕ) (f : Fault) → count < 2 ^ 64 → pairs order (item_at order d) None count (at + length (head_bytes 5 count)) more ≡ Err f → item_at order (suc d) at (head_bytes 5 count ++ more) ≡ Err f
  unfolding behind parts inner_of
  map_fails d count at more f small e = headed_fails (suc d) 5 count at more f (atom order 5 count (omega arith) small) (rw e refl)

  -- the pairs before, and then what is to come
  map_goes_on : (d count m at : ℕ) (before : List Pair) (inner : List ℕ) (f : Fault) → count < 2 ^ 64 → count ≡ length before + suc m → AllByRecursion (IsWholePair order d) before → Ascend order (map key_bytes before)
      → pairs order (item_at order d) (last_of (map key_bytes before)) (suc m) (at + length (head_bytes 5 count ++ joined (map pair_bytes before))) inner ≡ Err f → item_at order (suc d) at ((head_bytes 5 count ++ joined (map pair_bytes before)) ++ inner) ≡ Err f
  map_goes_on d count m at before inner f small len all ascends e =
      let text = joined (map pair_bytes before) in
      let place : at + length (head_bytes 5 count) + length text ≡ at + length (head_bytes 5 count ++ text) = omega (arith, length-append (head_bytes 5 count) text) in
      let front = pairs_front (item_at order d) before (whole_pairs_again d before all) None (follows-Ascend order None (map key_bytes before) (none_above order (map key_bytes before)) ascends) (suc m) count (at + length (head_bytes 5 count)) inner len in
      let fails : pairs order (item_at order d) (last_after None before) (suc m) (at + length (head_bytes 5 count) + length text) inner ≡ Err f = rw (last_after_none before, place) e in
      ap (item_at order (suc d) at) (append_assoc (head_bytes 5 count) text inner) ∙ map_fails d count at (text ++ inner) f small (front ∙ front_err before (pairs order (item_at order d) (last_after None before) (suc m) (at + length (head_bytes 5 count) + length text) inner) f fails)

  above_last : (keys : List (List ℕ)) (k : List ℕ) → Ascend order (keys ++ k ∷ []) → (is_above order (last_of keys) k ≡ true) × Ascend order keys
  above_last [] k h = (refl, tt)
  above_last (x ∷ []) k h = (less_true (comparison order x k) h.0, (tt, tt))
  above_last (x ∷ y ∷ ys) k h = let r = above_last (y ∷ ys) k h.1 in (r.0, (h.0, r.1))

  step_fails : (d : ℕ) (step : Step) (at : ℕ) (inner : List ℕ) (f : Fault) → IsOpen order d step → item_at order d (at + length (step_bytes step)) inner ≡ Err f → item_at order (suc d) at (step_bytes step ++ inner) ≡ Err f
  step_fails d (InTag number) at inner f o e = tag_fails d number at inner f o e
  step_fails d (InArray count before) at inner f o e =
      let text = joined (map encoding before) in
      let m = count - length before - 1 in
      let len : count ≡ length before + suc m = omega (arith, o.1) in
      let place : at + length (head_bytes 4 count) + length text ≡ at + length (head_bytes 4 count ++ text) = omega (arith, length-append (head_bytes 4 count) text) in
      let front = many_front (item_at order d) encoding before (whole_again d before o.2) (suc m) count (at + length (head_bytes 4 count)) inner len in
      let fails : many (item_at order d) (suc m) (at + length (head_bytes 4 count) + length text) inner ≡ Err f = many_fails (item_at order d) m (at + length (head_bytes 4 count) + length text) inner f (rw place e) in
      ap (item_at order (suc d) at) (append_assoc (head_bytes 4 count) text inner) ∙ array_fails d count at (text ++ inner) f o.0 (front ∙ front_err before (many (item_at order d) (suc m) (at + length (head_bytes 4 count) + length text) inner) f fails)
  step_fails d (AtKey count before) at inner f o e =
      let m = count - length before - 1 in
      let len : count ≡ length before + suc m = omega (arith, o.1) in
      map_goes_on d count m at before inner f o.0 len o.2 o.3 (key_fails (item_at order d) (last_of (map key_bytes before)) m (at + length (head_bytes 5 count ++ joined (map pair_bytes before))) inner f e)
  step_fails d (AtValue count before key) at inner f o e =
      let m = count - length before - 1 in
      let len : count ≡ length before + suc m = omega (arith, o.1) in
      let text = head_bytes 5 count ++ joined (map pair_bytes before) in
      let above = above_last (map key_bytes before) (encoding key) o.4 in
      let place : at + length text + length (encoding key) ≡ at + length (head_bytes 5 count ++ (joined (map pair_bytes before) ++ encoding key)) = omega (arith, length-append (head_bytes 5 count) (joined (map pair_bytes before)), length-append (head_bytes 5 count) (joined (map pair_bytes before) ++ encoding key), length-append (joined (map pair_bytes before)) (encoding key)) in
      let whole : (head_bytes 5 count ++ (joined (map pair_bytes before) ++ encoding key)) ++ inner ≡ text ++ (encoding key ++ inner) = simp append_assoc in
      ap (item_at order (suc d) at) whole
      ∙ map_goes_on d count m at before (encoding key ++ inner) f o.0 len o.2 above.1
      (value_fails (item_at order d) (last_of (map key_bytes before)) m (at + length text) (encoding key) inner key f (item_again order key d (at + length text) inner o.3.1 o.3.0) above.0 (rw place e))

  -- ---- the cause

  layer_fails : (d at : ℕ) (bytes : List ℕ) (g : HeadFault) → head_fault bytes ≡ Some g → item_at order d at bytes ≡ refused at (cause_of g)
  unfolding layer
  layer_fails d at bytes g e = item_at-layer order d at bytes ∙ rw ((fault_read bytes g).1 e) refl

  cut_fails : (d m n at : ℕ) (rest : List ℕ) → (m ≡ 2) ⊎ (m ≡ 3) → n < 2 ^ 64 → length rest < n → item_at order d at (head_bytes m n ++ rest) ≡ refused at c.ShortString
  unfolding behind
  cut_fails d m n at rest which small short =
      elim which [
        | inl e ↦ rw e (headed_fails d 2 n at rest (record { place = at; cause = c.ShortString }) (atom order 2 n (omega arith) small) (rw (lt-ltb (length rest) n short) refl))
        | inr e ↦ rw e (headed_fails d 3 n at rest (record { place = at; cause = c.ShortString }) (atom order 3 n (omega arith) small) (rw (lt-ltb (length rest) n short) refl))
      ]

  text_fails : (d at : ℕ) (text rest : List ℕ) → length text < 2 ^ 64 → (IsUtf8 text → ⊥) → item_at order d at (head_bytes 3 (length text) ++ (text ++ rest)) ≡ refused at c.BadUtf8
  unfolding behind
  text_fails d at text rest small bad =
      let f : is_utf8 text ≡ false = bool_false (is_utf8 text) (λ t. bad (IsUtf8-from_is_utf8 text t)) in
      headed_fails d 3 (length text) at (text ++ rest) (record { place = at; cause = c.BadUtf8 }) (atom order 3 (length text) (omega arith) small) (rw (string_again order at (at + length (head_bytes 3 (length text))) text rest, f) refl)

  deep_fails : (m n at : ℕ) (rest : List ℕ) → (m ≡ 4) ⊎ ((m ≡ 5) ⊎ (m ≡ 6)) → n < 2 ^ 64 → item_at order 0 at (head_bytes m n ++ rest) ≡ refused at c.TooDeep
  unfolding behind parts inner_of
  deep_fails m n at rest which small =
      elim which [
        | inl e ↦ rw e (headed_fails 0 4 n at rest (record { place = at; cause = c.TooDeep }) (atom order 4 n (omega arith) small) refl)
        | inr g ↦ elim g [
          | inl e ↦ rw e (headed_fails 0 5 n at rest (record { place = at; cause = c.TooDeep }) (atom order 5 n (omega arith) small) refl)
          | inr e ↦ rw e (headed_fails 0 6 n at rest (record { place = at; cause = c.TooDeep }) (atom order 6 n (omega arith) small) refl)
        ]
      ]

  cause_fails : (d at : ℕ) (bytes : List ℕ) (cause : Cause) → HasCause order d None bytes cause → item_at order d at bytes ≡ refused at cause
  cause_fails d at bytes c.Short w = layer_fails d at bytes h.Short w
  cause_fails d at bytes c.Reserved w = layer_fails d at bytes h.Reserved w
  cause_fails d at bytes c.Indefinite w = layer_fails d at bytes h.Indefinite w
  cause_fails d at bytes c.NotShortest w = layer_fails d at bytes h.NotShortest w
  cause_fails d at bytes c.Float w = layer_fails d at bytes h.Float w
  cause_fails d at bytes c.BadSimple w = layer_fails d at bytes h.BadSimple w
  cause_fails d at bytes c.BadUtf8 w = rw w.stands (text_fails d at w.text w.rest w.fits w.bad)
  cause_fails d at bytes c.KeyOrder w = absurd (let e : None ≡ Some w.last = w.follows in cc)
  cause_fails d at bytes c.TooDeep w = rw (w.full, w.stands) (deep_fails w.major w.arg at w.rest w.nests w.fits)
  cause_fails d at bytes c.ShortString w = rw w.stands (cut_fails d w.major w.count at w.rest w.string w.fits w.short)

  cause_kind : (cause : Cause) → (cause ≡ c.KeyOrder) ⊎ ((room : ℕ) (before : Option (List ℕ)) (bytes : List ℕ) → HasCause order room before bytes cause → HasCause order room None bytes cause)
  cause_kind c.Short = inr (λ room before bytes w. w)
  cause_kind c.Reserved = inr (λ room before bytes w. w)
  cause_kind c.Indefinite = inr (λ room before bytes w. w)
  cause_kind c.NotShortest = inr (λ room before bytes w. w)
  cause_kind c.Float = inr (λ room before bytes w. w)
  cause_kind c.BadSimple = inr (λ room before bytes w. w)
  cause_kind c.BadUtf8 = inr (λ room before bytes w. w)
  cause_kind c.KeyOrder = inl refl
  cause_kind c.TooDeep = inr (λ room before bytes w. w)
  cause_kind c.ShortString = inr (λ room before bytes w. w)

  misplaced : (d : ℕ) (step : Step) (at : ℕ) (rest : List ℕ) → IsOpen order d step → IsOutOfOrder order d (key_before_in step) rest → item_at order (suc d) at (step_bytes step ++ rest) ≡ refused (at + length (step_bytes step)) c.KeyOrder
  misplaced d (InTag number) at rest o w = absurd (let e : None ≡ Some w.last = w.follows in cc)
  misplaced d (InArray count before) at rest o w = absurd (let e : None ≡ Some w.last = w.follows in cc)
  misplaced d (AtValue count before key) at rest o w = absurd (let e : None ≡ Some w.last = w.follows in cc)
  misplaced d (AtKey count before) at rest o w =
      let m = count - length before - 1 in
      let len : count ≡ length before + suc m = omega (arith, o.1) in
      let text = head_bytes 5 count ++ joined (map pair_bytes before) in
      let below : is_above order (last_of (map key_bytes before)) (encoding w.key) ≡ false = rw w.follows (less_false (comparison order w.last (encoding w.key)) w.below) in
      let fails = order_fails (item_at order d) (last_of (map key_bytes before)) m (at + length text) (encoding w.key) w.rest w.key (item_again order w.key d (at + length text) w.rest w.whole.1 w.whole.0) below in
      ap (λ (t : List ℕ). item_at order (suc d) at (text ++ t)) w.stands ∙ map_goes_on d count m at before (encoding w.key ++ w.rest) (record { place = at + length text; cause = c.KeyOrder }) o.0 len o.2 o.3 fails

  -- ---- all steps

  named : (steps : List Step) (d at : ℕ) (rest : List ℕ) (cause : Cause) → AreOpen order d steps → HasCause order (d - length steps) (key_before steps) rest cause
      → item_at order d at (steps_bytes steps ++ rest) ≡ refused (at + length (steps_bytes steps)) cause
  named [] d at rest cause o w =
      let zero_more : at + 0 ≡ at = omega arith in
      rw zero_more (cause_fails d at rest cause (subst (λ (n : ℕ). HasCause order n None rest cause) (omega arith) w))
  named (step ∷ []) zero at rest cause o w = absurd o
  named (step ∷ []) (suc d) at rest cause o w =
      let room : suc d - 1 ≡ d = omega arith in
      let v : HasCause order d (key_before_in step) rest cause = subst (λ (n : ℕ). HasCause order n (key_before_in step) rest cause) room w in
      let whole : step_bytes step ++ [] ≡ step_bytes step = append-nil (step_bytes step) in
      rw whole (elim (cause_kind cause) [
        | inl e ↦ subst (λ (k : Cause). item_at order (suc d) at (step_bytes step ++ rest) ≡ refused (at + length (step_bytes step)) k) (sym e) (misplaced d step at rest o.0 (subst (HasCause order d (key_before_in step) rest) e v))
        | inr g ↦ step_fails d step at rest (record { place = at + length (step_bytes step); cause = cause }) o.0 (cause_fails d (at + length (step_bytes step)) rest cause (g d (key_before_in step) rest v))
      ])
  named (step ∷ next ∷ steps) zero at rest cause o w = absurd o
  named (step ∷ next ∷ steps) (suc d) at rest cause o w =
      let more = steps_bytes (next ∷ steps) in
      let room : suc d - length (step ∷ next ∷ steps) ≡ d - length (next ∷ steps) = omega arith in
      let v : HasCause order (d - length (next ∷ steps)) (key_before (next ∷ steps)) rest cause = subst (λ (n : ℕ). HasCause order n (key_before (next ∷ steps)) rest cause) room w in
      let inner = named (next ∷ steps) d (at + length (step_bytes step)) rest cause o.1 v in
      let place : at + length (step_bytes step) + length more ≡ at + length (step_bytes step ++ more) = omega (arith, length-append (step_bytes step) more) in
      let found : item_at order d (at + length (step_bytes step)) (more ++ rest) ≡ refused (at + length (step_bytes step ++ more)) cause = inner ∙ ap (λ (n : ℕ). refused n cause) place in
      ap (item_at order (suc d) at) (append_assoc (step_bytes step) more rest) ∙ step_fails d step at (more ++ rest) (record { place = at + length (step_bytes step ++ more); cause = cause }) o.0 found

  pub first_named : (d at : ℕ) (bytes : List ℕ) (place : ℕ) (cause : Cause) → IsFirstFault order d at bytes place cause → item_at order d at bytes ≡ Err (record { place = place; cause = cause })
  first_named d at bytes place cause s = rw (s.stands, s.here) (named s.steps d at s.rest cause s.unfinished s.why)
