-- What is read stands in the bytes.
use Rattle.std.proofs.Common.{◌≡◌, ℕ, zero, suc, ◌+◌, ◌-◌, ◌<◌, ◌≤◌, ◌^◌, ◌⊎◌, true, false, cond, eqb, ltb, List, [], ◌∷◌, ◌++◌, length, take, drop, map, Option, Some, None, Result, Ok, Err, refl, ap, sym, ◌∙◌, subst, arith, append_assoc, inl, inr}
use Rattle.std.specs.List.{AllByRecursion}
use Rattle.std.specs.Str.{IsUtf8, is_utf8}
use Rattle.std.proofs.lemmas.Str.{IsUtf8-from_is_utf8}
use Rattle.std.proofs.lemmas.List.{take_at, length-append, append-nil, take-append-drop, length-take}
use Rattle.std.proofs.lemmas.Bool.{ltb-false, eqb-true, eqb-false}
use Rattle.ecd_head.specs.declared.HeadFault.{HeadFault}
use Rattle.ecd_head.specs.declared.Head.{Head}
use Rattle.ecd_head.specs.Head.{IsWritable, head_bytes}
use Rattle.ecd_head.specs.Fault.{head_at}
use Rattle.ecd_head.proofs.Heads.{head_takes, IsBytes, IsBytes-drop}
use Rattle.ecd_item_laws.specs.declared.fault.Fault.{Fault}
use Rattle.ecd_item_laws.specs.declared.fault.Cause.TheVariants.{KeyOrder, ShortString, BadUtf8}
use Rattle.ecd_item_laws.specs.declared.item.Item.{Item}
use Rattle.ecd_item_laws.specs.declared.item.Item.TheVariants.{Uint, Nint, Bytes, Text, Array, Map, Tag, Simple}
use Rattle.ecd_item_laws.specs.declared.item.Pair.{Pair}
use Rattle.ecd_keyorder.specs.declared.Order.{Order}
use Rattle.ecd_keyorder.specs.Order.{comparison}
use Rattle.ecd_item_laws.specs.Encoding.{encoding, key_bytes, joined}
use Rattle.ecd_item_laws.specs.Valid.{IsValid, depth, Ascend}
use Rattle.ecd_item_laws.specs.Reading.{Reader, Taken, ◌>>=◌, taken, refused, headed, layer, behind, parts, item_at, inner_of, many, pairs, pair_of, string_at, text_at, made, is_above}
use Rattle.ecd_item_laws.proofs.Layers.{encoding-Array, encoding-Map, encoding-Tag, pair_depth, greatest, depth-Array, depth-Map, depth-Tag, Array_valid, Map_valid, Tag_valid}
use Rattle.ecd_item_laws.specs.Encoding.{pair_bytes}
use Rattle.ecd_item_laws.specs.Valid.{IsValidPair}
use Rattle.ecd_item_laws.proofs.Results.{ok_is, bind_ok, guard_ok, guard_not, chosen_ok, less_is}
use Rattle.ecd_item_laws.proofs.Again.{follows}

module _ (order : Order) where
  -- what was taken is what stands for the value, which has P
  pub record Took {A : Type 0} (text : A → List ℕ) (P : A → Type 0) (at : ℕ) (bytes : List ℕ) (x : Taken A) : Type 0 where
    pub whole : bytes ≡ text x.value ++ x.rest
    pub place : x.at ≡ at + length (text x.value)
    pub rest_fits : IsBytes x.rest
    pub holds : P x.value

  abbrev pub Takes : {A : Type 0} → (A → List ℕ) → (A → Type 0) → Reader A → Type 0
  Takes {A} text P read = (at : ℕ) (bytes : List ℕ) (x : Taken A) → IsBytes bytes → read at bytes ≡ Ok x → Took text P at bytes x

  abbrev head_text : Head → List ℕ
  head_text h = head_bytes h.major h.arg

  abbrev CanWrite : Head → Type 0
  CanWrite h = IsWritable h.major h.arg

  headed_takes : (at : ℕ) (bytes : List ℕ) (r : Result (Head × ℕ) HeadFault) (x : Taken Head) → IsBytes bytes → head_at bytes ≡ r → headed at bytes r ≡ Ok x → Took head_text CanWrite at bytes x
  headed_takes at bytes (Err d) x fits e f = absurd cc
  headed_takes at bytes (Ok h) x fits e f =
      let t = head_takes bytes h.0 h.1 fits e in
      subst (Took head_text CanWrite at bytes) (ok_is (record { value = h.0; at = at + h.1; rest = drop h.1 bytes }) x f)
      (record { whole = t.whole; place = ap (λ (k : ℕ). at + k) (sym t.long); rest_fits = IsBytes-drop h.1 bytes fits; holds = t.writable })

  -- one after the other
  module _ {A B C : Type 0} where
    pub then : (f : A → List ℕ) (P : A → Type 0) (g : B → List ℕ) (Q : B → Type 0) (h : C → List ℕ) (R : C → Type 0) (at : ℕ) (bytes : List ℕ) (x : Taken A) (y : Taken B) (v : C)
        → Took f P at bytes x → Took g Q x.at x.rest y → h v ≡ f x.value ++ g y.value → R v → Took h R at bytes (record { value = v; at = y.at; rest = y.rest })
    then f P g Q h R at bytes x y v p q e r =
        record {
          whole = rw e (p.whole ∙ ap (λ (t : List ℕ). f x.value ++ t) q.whole ∙ sym (append_assoc (f x.value) (g y.value) y.rest));
          place = rw e (omega (arith, p.place, q.place, length-append (f x.value) (g y.value)));
          rest_fits = q.rest_fits;
          holds = r;
        }

  many_takes : {A : Type 0} (text : A → List ℕ) (P : A → Type 0) (read : Reader A) → Takes text P read → (n : ℕ) → Takes (λ xs. joined (map text xs)) (λ xs. (length xs ≡ n) × AllByRecursion P xs) (many read n)
  unfolding many
  many_takes {A} text P read h zero at bytes x fits e =
      subst (Took (λ xs. joined (map text xs)) (λ xs. (length xs ≡ zero) × AllByRecursion P xs) at bytes) (ok_is (record { value = []; at = at; rest = bytes }) x e)
      (record { whole = refl; place = omega arith; rest_fits = fits; holds = (refl, tt) })
  many_takes {A} text P read h (suc n) at bytes x fits e =
      let a = bind_ok (read at bytes) (λ first. many read n first.at first.rest >>= λ others. taken (first.value ∷ others.value) others.at others.rest) x e in
      let b = bind_ok (many read n a.0.at a.0.rest) (λ others. taken (a.0.value ∷ others.value) others.at others.rest) x a.2 in
      let p = h at bytes a.0 fits a.1 in
      let q = many_takes text P read h n a.0.at a.0.rest b.0 p.rest_fits b.1 in
      subst (Took (λ xs. joined (map text xs)) (λ xs. (length xs ≡ suc n) × AllByRecursion P xs) at bytes) (ok_is (record { value = a.0.value ∷ b.0.value; at = b.0.at; rest = b.0.rest }) x b.2)
      (then text P (λ xs. joined (map text xs)) (λ xs. (length xs ≡ n) × AllByRecursion P xs) (λ xs. joined (map text xs)) (λ xs. (length xs ≡ suc n) × AllByRecursion P xs) at bytes a.0 b.0 (a.0.value ∷ b.0.value) p q refl (ap suc q.holds.0, (p.holds, q.holds.1)))

  string_takes : (place n : ℕ) → Takes (λ bs. bs) (λ bs. length bs ≡ n) (string_at place n)
  string_takes place n at bytes x fits e =
      let g = guard_not (ltb (length bytes) n) (record { place = place; cause = ShortString }) (taken (take n bytes) (at + n) (drop n bytes)) x e in
      let long : n ≤ length bytes = ltb-false _ _ g.0 in
      let len : length (take n bytes) ≡ n = omega (arith, length-take n bytes) in
      subst (Took (λ bs. bs) (λ bs. length bs ≡ n) at bytes) (ok_is (record { value = take n bytes; at = at + n; rest = drop n bytes }) x g.1)
      (record { whole = sym (take-append-drop n bytes); place = ap (λ (k : ℕ). at + k) (sym len); rest_fits = IsBytes-drop n bytes fits; holds = len })

  -- ---- pairs

  Ascend-follows : (last : Option (List ℕ)) (keys : List (List ℕ)) → follows order last keys → Ascend order keys
  Ascend-follows last [] f = tt
  Ascend-follows last (key ∷ []) f = (tt, tt)
  Ascend-follows last (key ∷ next ∷ keys) f = (less_is (comparison order key next) f.1.0, Ascend-follows (Some key) (next ∷ keys) f.1)

  abbrev pairs_text : List Pair → List ℕ
  pairs_text ps = joined (map pair_bytes ps)

  record ArePairs (Q : Item → Type 0) (last : Option (List ℕ)) (n : ℕ) (ps : List Pair) : Type 0 where
    count : length ps ≡ n
    each : AllByRecursion (λ p. Q p.key × Q p.value) ps
    ascends : follows order last (map key_bytes ps)

  pub key_is : (at : ℕ) (bytes : List ℕ) (k : Taken Item) → bytes ≡ encoding k.value ++ k.rest → k.at ≡ at + length (encoding k.value) → take (k.at - at) bytes ≡ encoding k.value
  key_is at bytes k e f = rw (e, f) (take_at (encoding k.value) k.rest (at + length (encoding k.value) - at) (omega arith))

  pair_took : (Q : Item → Type 0) (last : Option (List ℕ)) (n at : ℕ) (bytes kb : List ℕ) (k v : Taken Item) (o x : Taken (List Pair)) → Took encoding Q at bytes k → Took encoding Q k.at k.rest v → kb ≡ encoding k.value → is_above order last kb ≡ true
      → Took pairs_text (ArePairs Q (Some kb) n) v.at v.rest o → taken (pair_of k.value v.value ∷ o.value) o.at o.rest ≡ Ok x → Took pairs_text (ArePairs Q last (suc n)) at bytes x
  pair_took Q last n at bytes kb k v o x p q ke above r e =
      let pv : Took pair_bytes (λ p. Q p.key × Q p.value) at bytes (record { value = pair_of k.value v.value; at = v.at; rest = v.rest }) = then encoding Q encoding Q pair_bytes (λ p. Q p.key × Q p.value) at bytes k v (pair_of k.value v.value) p q refl (p.holds, q.holds) in
      let ascends : follows order last (map key_bytes (pair_of k.value v.value ∷ o.value)) = rw (← ke) (above, r.holds.ascends) in
      subst (Took pairs_text (ArePairs Q last (suc n)) at bytes) (ok_is (record { value = pair_of k.value v.value ∷ o.value; at = o.at; rest = o.rest }) x e)
      (then pair_bytes (λ p. Q p.key × Q p.value) pairs_text (ArePairs Q (Some kb) n) pairs_text (ArePairs Q last (suc n)) at bytes (record { value = pair_of k.value v.value; at = v.at; rest = v.rest }) o (pair_of k.value v.value ∷ o.value) pv r refl
      (record { count = ap suc r.holds.count; each = ((p.holds, q.holds), r.holds.each); ascends = ascends }))

  pairs_takes : (Q : Item → Type 0) (read : Reader Item) → Takes encoding Q read → (n : ℕ) (last : Option (List ℕ)) → Takes pairs_text (ArePairs Q last n) (pairs order read last n)
  unfolding pairs
  pairs_takes Q read h zero last at bytes x fits e =
      subst (Took pairs_text (ArePairs Q last zero) at bytes) (ok_is (record { value = []; at = at; rest = bytes }) x e)
      (record { whole = refl; place = omega arith; rest_fits = fits; holds = record { count = refl; each = tt; ascends = tt } })
  pairs_takes Q read h (suc n) last at bytes x fits e =
      let a = bind_ok (read at bytes) (λ key. cond (is_above order last (take (key.at - at) bytes)) (read key.at key.rest) (refused at KeyOrder) >>= λ value. pairs order read (Some (take (key.at - at) bytes)) n value.at value.rest >>= λ others. taken (pair_of key.value value.value ∷ others.value) others.at others.rest) x e in
      let b = bind_ok (cond (is_above order last (take (a.0.at - at) bytes)) (read a.0.at a.0.rest) (refused at KeyOrder)) (λ value. pairs order read (Some (take (a.0.at - at) bytes)) n value.at value.rest >>= λ others. taken (pair_of a.0.value value.value ∷ others.value) others.at others.rest) x a.2 in
      let o = bind_ok (pairs order read (Some (take (a.0.at - at) bytes)) n b.0.at b.0.rest) (λ others. taken (pair_of a.0.value b.0.value ∷ others.value) others.at others.rest) x b.2 in
      let g = guard_ok (is_above order last (take (a.0.at - at) bytes)) (record { place = at; cause = KeyOrder }) (read a.0.at a.0.rest) b.0 b.1 in
      let p = h at bytes a.0 fits a.1 in
      let q = h a.0.at a.0.rest b.0 p.rest_fits g.1 in
      pair_took Q last n at bytes (take (a.0.at - at) bytes) a.0 b.0 o.0 x p q (key_is at bytes a.0 p.whole p.place) g.0
      (pairs_takes Q read h n (Some (take (a.0.at - at) bytes)) b.0.at b.0.rest o.0 q.rest_fits o.1) o.2

  -- ---- an item behind its head

  record Behind (h : Head) (d at : ℕ) (bytes : List ℕ) (x : Taken Item) : Type 0 where
    more : List ℕ
    whole : bytes ≡ more ++ x.rest
    text : encoding x.value ≡ head_text h ++ more
    place : x.at ≡ at + length more
    rest_fits : IsBytes x.rest
    valid : IsValid order x.value
    deep : depth x.value ≤ d

  abbrev Good : ℕ → Item → Type 0
  Good d i = IsValid order i × (depth i ≤ d)

  atom_behind : (m a d at : ℕ) (bytes : List ℕ) (i : Item) (x : Taken Item) → IsBytes bytes → taken i at bytes ≡ Ok x → encoding i ≡ head_bytes m a → IsValid order i → depth i ≤ d → Behind (record { major = m; arg = a }) d at bytes x
  atom_behind m a d at bytes i x fits e text valid deep =
      subst (Behind (record { major = m; arg = a }) d at bytes) (ok_is (record { value = i; at = at; rest = bytes }) x e)
      (record { more = []; whole = refl; text = text ∙ sym (append-nil (head_bytes m a)); place = omega arith; rest_fits = fits; valid = valid; deep = deep })

  -- what was read behind the head makes the item
  made_behind : {A : Type 0} (text : A → List ℕ) (P : A → Type 0) (m a d at : ℕ) (bytes : List ℕ) (f : A → Item) (r : Result (Taken A) Fault) (x : Taken Item) → ((y : Taken A) → r ≡ Ok y → Took text P at bytes y) → made f r ≡ Ok x
      → ((v : A) → P v → (encoding (f v) ≡ head_bytes m a ++ text v) × IsValid order (f v) × (depth (f v) ≤ d)) → Behind (record { major = m; arg = a }) d at bytes x
  made_behind text P m a d at bytes f r x took e law =
      let b = bind_ok r (λ x. taken (f x.value) x.at x.rest) x e in
      let t = took b.0 b.1 in
      let l = law b.0.value t.holds in
      subst (Behind (record { major = m; arg = a }) d at bytes) (ok_is (record { value = f b.0.value; at = b.0.at; rest = b.0.rest }) x b.2)
      (record { more = text b.0.value; whole = t.whole; text = l.0; place = t.place; rest_fits = t.rest_fits; valid = l.1; deep = l.2 })

  text_takes : (place n : ℕ) → Takes (λ bs. bs) (λ bs. (length bs ≡ n) × IsUtf8 bs) (text_at place n)
  text_takes place n at bytes x fits e =
      let b = bind_ok (string_at place n at bytes) (λ s. cond (is_utf8 s.value) (taken s.value s.at s.rest) (refused place BadUtf8)) x e in
      let g = guard_ok (is_utf8 b.0.value) (record { place = place; cause = BadUtf8 }) (taken b.0.value b.0.at b.0.rest) x b.2 in
      let t = string_takes place n at bytes b.0 fits b.1 in
      subst (Took (λ bs. bs) (λ bs. (length bs ≡ n) × IsUtf8 bs) at bytes) (ok_is (record { value = b.0.value; at = b.0.at; rest = b.0.rest }) x g.1)
      (record { whole = t.whole; place = t.place; rest_fits = t.rest_fits; holds = (t.holds, IsUtf8-from_is_utf8 b.0.value g.0) })

  each_valid : (d : ℕ) (xs : List Item) → AllByRecursion (Good d) xs → AllByRecursion (IsValid order) xs × (greatest (map depth xs) ≤ d)
  each_valid d [] h = (tt, omega arith)
  each_valid d (x ∷ xs) h = let r = each_valid d xs h.1 in ((h.0.0, r.0), omega (arith, h.0.1, r.1))

  each_pair_valid : (d : ℕ) (ps : List Pair) → AllByRecursion (λ p. Good d p.key × Good d p.value) ps → AllByRecursion (IsValidPair order) ps × (greatest (map pair_depth ps) ≤ d)
  each_pair_valid d [] h = (tt, omega arith)
  each_pair_valid d (p ∷ ps) h = let r = each_pair_valid d ps h.1 in (((h.0.0.0, h.0.1.0), r.0), omega (arith, h.0.0.1, h.0.1.1, r.1))

  array_law : (d n : ℕ) (xs : List Item) → n < 2 ^ 64 → (length xs ≡ n) × AllByRecursion (Good d) xs → (encoding (Array xs) ≡ head_bytes 4 n ++ joined (map encoding xs)) × IsValid order (Array xs) × (depth (Array xs) ≤ suc d)
  array_law d n xs lt h =
      let v = each_valid d xs h.1 in
      (encoding-Array xs ∙ ap (λ (k : ℕ). head_bytes 4 k ++ joined (map encoding xs)) h.0, Array_valid order xs (omega (arith, h.0)) v.0, omega (arith, depth-Array xs, v.1))

  map_law : (d n : ℕ) (ps : List Pair) → n < 2 ^ 64 → ArePairs (Good d) None n ps → (encoding (Map ps) ≡ head_bytes 5 n ++ pairs_text ps) × IsValid order (Map ps) × (depth (Map ps) ≤ suc d)
  map_law d n ps lt h =
      let v = each_pair_valid d ps h.each in
      (encoding-Map ps ∙ ap (λ (k : ℕ). head_bytes 5 k ++ pairs_text ps) h.count, Map_valid order ps (omega (arith, h.count)) v.0 (Ascend-follows None _ h.ascends), omega (arith, depth-Map ps, v.1))

  tag_law : (d n : ℕ) (x : Item) → n < 2 ^ 64 → Good d x → (encoding (Tag n x) ≡ head_bytes 6 n ++ encoding x) × IsValid order (Tag n x) × (depth (Tag n x) ≤ suc d)
  tag_law d n x lt h =
      (encoding-Tag n x, Tag_valid order n x lt h.0, omega (arith, depth-Tag n x, h.1))

  abbrev Inner : ℕ → Type 0
  Inner zero = Unit {0}
  Inner (suc d) = Takes encoding (Good d) (item_at order d)

  of_major : (d m k a at : ℕ) (bytes : List ℕ) (x : Taken Item) → m ≡ k → Behind (record { major = k; arg = a }) d at bytes x → Behind (record { major = m; arg = a }) d at bytes x
  of_major d m k a at bytes x e b = rw e b

  parts_takes : (d place m a at : ℕ) (bytes : List ℕ) (x : Taken Item) → Inner d → IsWritable m a → (m ≡ 4) ⊎ ((m ≡ 5) ⊎ (m ≡ 6)) → IsBytes bytes → parts order (inner_of order d) place (record { major = m; arg = a }) at bytes ≡ Ok x → Behind (record { major = m; arg = a }) d at bytes x
  unfolding parts inner_of
  parts_takes zero place m a at bytes x inner w which fits e = absurd cc
  parts_takes (suc d) place m a at bytes x inner w which fits e =
      elim which [
        | inl h ↦ of_major (suc d) m 4 a at bytes x h (made_behind (λ xs. joined (map encoding xs)) (λ xs. (length xs ≡ a) × AllByRecursion (Good d) xs) 4 a (suc d) at bytes Array (many (item_at order d) a at bytes) x (λ y f. many_takes encoding (Good d) (item_at order d) inner a at bytes y fits f) (rw h at e) (λ xs p. array_law d a xs w.fits p))
        | inr g ↦ elim g [
          | inl h ↦ of_major (suc d) m 5 a at bytes x h (made_behind pairs_text (ArePairs (Good d) None a) 5 a (suc d) at bytes Map (pairs order (item_at order d) None a at bytes) x (λ y f. pairs_takes (Good d) (item_at order d) inner a None at bytes y fits f) (rw h at e) (λ ps p. map_law d a ps w.fits p))
          | inr h ↦ of_major (suc d) m 6 a at bytes x h (made_behind encoding (Good d) 6 a (suc d) at bytes (Tag a) (item_at order d at bytes) x (λ y f. inner at bytes y fits f) (rw h at e) (λ i p. tag_law d a i w.fits p))
        ]
      ]

  left_majors : (m : ℕ) → m ≤ 7 → eqb m 0 ≡ false → eqb m 1 ≡ false → eqb m 2 ≡ false → eqb m 3 ≡ false → eqb m 7 ≡ false → (m ≡ 4) ⊎ ((m ≡ 5) ⊎ (m ≡ 6))
  left_majors m le a b c d e = grind (arith, eqb-false m 0 a, eqb-false m 1 b, eqb-false m 2 c, eqb-false m 3 d, eqb-false m 7 e)

  bytes_law : (d n : ℕ) (bs : List ℕ) → n < 2 ^ 64 → length bs ≡ n → (encoding (Bytes bs) ≡ head_bytes 2 n ++ bs) × IsValid order (Bytes bs) × (depth (Bytes bs) ≤ d)
  unfolding encoding IsValid depth
  bytes_law d n bs lt h = (ap (λ (k : ℕ). head_bytes 2 k ++ bs) h, omega arith, omega arith)

  text_law : (d n : ℕ) (bs : List ℕ) → n < 2 ^ 64 → (length bs ≡ n) × IsUtf8 bs → (encoding (Text bs) ≡ head_bytes 3 n ++ bs) × IsValid order (Text bs) × (depth (Text bs) ≤ d)
  unfolding encoding IsValid depth
  text_law d n bs lt h = (ap (λ (k : ℕ). head_bytes 3 k ++ bs) h.0, (omega (arith, h.0), h.1), omega arith)

  behind_takes : (d place m a at : ℕ) (bytes : List ℕ) (x : Taken Item) → Inner d → IsWritable m a → IsBytes bytes → behind order (inner_of order d) place (record { major = m; arg = a }) at bytes ≡ Ok x → Behind (record { major = m; arg = a }) d at bytes x
  unfolding behind encoding IsValid depth
  behind_takes d place m a at bytes x inner w fits e0 =
      elim (chosen_ok (eqb m 0) _ _ x e0) [
        | inl h ↦ of_major d m 0 a at bytes x (eqb-true m 0 h.0) (atom_behind 0 a d at bytes (Uint a) x fits h.1 refl w.fits (omega arith))
        | inr e1 ↦ elim (chosen_ok (eqb m 1) _ _ x e1.1) [
          | inl h ↦ of_major d m 1 a at bytes x (eqb-true m 1 h.0) (atom_behind 1 a d at bytes (Nint a) x fits h.1 refl w.fits (omega arith))
          | inr e2 ↦ elim (chosen_ok (eqb m 2) _ _ x e2.1) [
            | inl h ↦ of_major d m 2 a at bytes x (eqb-true m 2 h.0) (made_behind (λ bs. bs) (λ bs. length bs ≡ a) 2 a d at bytes Bytes (string_at place a at bytes) x (λ y f. string_takes place a at bytes y fits f) h.1 (λ bs p. bytes_law d a bs w.fits p))
            | inr e3 ↦ elim (chosen_ok (eqb m 3) _ _ x e3.1) [
              | inl h ↦ of_major d m 3 a at bytes x (eqb-true m 3 h.0) (made_behind (λ bs. bs) (λ bs. (length bs ≡ a) × IsUtf8 bs) 3 a d at bytes Text (text_at place a at bytes) x (λ y f. text_takes place a at bytes y fits f) h.1 (λ bs p. text_law d a bs w.fits p))
              | inr e4 ↦ elim (chosen_ok (eqb m 7) _ _ x e4.1) [
                | inl h ↦ of_major d m 7 a at bytes x (eqb-true m 7 h.0) (atom_behind 7 a d at bytes (Simple a) x fits h.1 refl (w.simple (eqb-true m 7 h.0)) (omega arith))
                | inr e5 ↦ parts_takes d place m a at bytes x inner w (left_majors m w.known e1.0 e2.0 e3.0 e4.0 e5.0) fits e5.1
              ]
            ]
          ]
        ]
      ]

  layer_takes : (d : ℕ) → Inner d → Takes encoding (Good d) (layer order (inner_of order d))
  unfolding layer
  layer_takes d inner at bytes x fits e =
      let a = bind_ok (headed at bytes (head_at bytes)) (λ h. behind order (inner_of order d) at h.value h.at h.rest) x e in
      let t = headed_takes at bytes (head_at bytes) a.0 fits refl a.1 in
      let b = behind_takes d at a.0.value.major a.0.value.arg a.0.at a.0.rest x inner t.holds t.rest_fits a.2 in
      record {
        whole = rw b.text (t.whole ∙ ap (λ (r : List ℕ). head_text a.0.value ++ r) b.whole ∙ sym (append_assoc (head_text a.0.value) b.more x.rest));
        place = rw b.text (omega (arith, t.place, b.place, length-append (head_text a.0.value) b.more));
        rest_fits = b.rest_fits;
        holds = (b.valid, b.deep);
      }

  pub item_takes : (d : ℕ) → Takes encoding (Good d) (item_at order d)
  unfolding item_at inner_of
  item_takes zero = layer_takes zero tt
  item_takes (suc d) = layer_takes (suc d) (item_takes d)
