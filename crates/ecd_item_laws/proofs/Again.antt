-- What was written is read again.
use Rattle.std.proofs.Common.{◌≡◌, ℕ, zero, suc, ◌+◌, ◌-◌, ◌<◌, ◌≤◌, ◌^◌, true, List, [], ◌∷◌, ◌++◌, length, take, map, Option, Some, None, refl, ap, sym, ◌∙◌, arith, append_assoc, inl, inr}
use Rattle.std.specs.List.{AllByRecursion}
use Rattle.std.specs.Prelude.{max}
use Rattle.std.proofs.lemmas.Str.{is_utf8-from_IsUtf8}
use Rattle.std.proofs.lemmas.List.{take_at, drop_at, length-append, append-nil}
use Rattle.std.proofs.lemmas.Bool.{le-ltb}
use Rattle.ecd_head.specs.Head.{IsWritable, head_bytes}
use Rattle.ecd_head.proofs.Heads.{head_again}
use Rattle.ecd_item_laws.specs.declared.item.Item.{Item}
use Rattle.ecd_item_laws.specs.declared.item.Item.TheVariants.{Uint, Nint, Bytes, Text, Array, Map, Tag, Simple}
use Rattle.ecd_item_laws.specs.declared.item.Pair.{Pair}
use Rattle.ecd_keyorder.specs.declared.Order.{Order}
use Rattle.ecd_item_laws.specs.Encoding.{encoding, key_bytes, joined}
use Rattle.ecd_item_laws.specs.Valid.{IsValid, depth, Ascend}
use Rattle.ecd_item_laws.specs.Reading.{Reader, Taken, taken, layer, behind, parts, item_at, many, pairs, string_at, is_above, inner_of}
use Rattle.ecd_item_laws.proofs.Results.{ok_is}
use Rattle.ecd_item_laws.proofs.Layers.{encoding-Array, encoding-Map, encoding-Tag, pair_depth, greatest, depth-Array, depth-Map, depth-Tag, valid_Array, valid_Map, valid_Tag, item_ind}
use Rattle.ecd_item_laws.specs.Encoding.{pair_bytes}
use Rattle.ecd_item_laws.specs.Valid.{IsValidPair}

-- the reader reads what stands for the value, and stops behind it
abbrev pub Rereads : {A : Type 0} → Reader A → (A → List ℕ) → A → Type 0
Rereads {A} read text x = (at : ℕ) (rest : List ℕ) → read at (text x ++ rest) ≡ taken x (at + length (text x)) rest

module _ (order : Order) where
  pub item_at-layer : (d at : ℕ) (bytes : List ℕ) → item_at order d at bytes ≡ layer order (inner_of order d) at bytes
  unfolding item_at inner_of
  item_at-layer zero at bytes = refl
  item_at-layer (suc d) at bytes = refl

  pub layer_again : (inner : Option (Reader Item)) (m a at : ℕ) (rest : List ℕ) → IsWritable m a → layer order inner at (head_bytes m a ++ rest) ≡ behind order inner at (record { major = m; arg = a }) (at + length (head_bytes m a)) rest
  unfolding layer
  layer_again inner m a at rest w = rw (head_again m a rest w, drop_at (head_bytes m a) rest (length (head_bytes m a)) refl) refl

  -- an item behind its head
  headed_again : (d m a at : ℕ) (more rest : List ℕ) (i : Item) → IsWritable m a → encoding i ≡ head_bytes m a ++ more
      → behind order (inner_of order d) at (record { major = m; arg = a }) (at + length (head_bytes m a)) (more ++ rest) ≡ taken i (at + length (head_bytes m a) + length more) rest
      → item_at order d at (encoding i ++ rest) ≡ taken i (at + length (encoding i)) rest
  headed_again d m a at more rest i w e step =
      let split : encoding i ++ rest ≡ head_bytes m a ++ (more ++ rest) = rw e (append_assoc (head_bytes m a) more rest) in
      let len : at + length (encoding i) ≡ at + length (head_bytes m a) + length more = omega (arith, ap length e, length-append (head_bytes m a) more) in
      rw (len, split, item_at-layer d at (head_bytes m a ++ (more ++ rest)), layer_again (inner_of order d) m a at (more ++ rest) w) step

  many_again : {A : Type 0} (read : Reader A) (text : A → List ℕ) (xs : List A) → AllByRecursion (Rereads read text) xs → (at : ℕ) (rest : List ℕ) → many read (length xs) at (joined (map text xs) ++ rest) ≡ taken xs (at + length (joined (map text xs))) rest
  unfolding many
  many_again {A} read text [] h at rest = ap (λ (n : ℕ). taken {A = List A} [] n rest) (omega arith)
  many_again {A} read text (x ∷ xs) h at rest =
      let len : at + length (text x) + length (joined (map text xs)) ≡ at + length (text x ++ joined (map text xs)) = omega (arith, length-append (text x) (joined (map text xs))) in
      rw (append_assoc (text x) (joined (map text xs)) rest, h.0 at (joined (map text xs) ++ rest), many_again read text xs h.1 (at + length (text x)) rest, len) refl

  -- each key is above the one before it
  abbrev pub follows : Option (List ℕ) → List (List ℕ) → Type 0
  follows last [] = Unit {0}
  follows last (key ∷ keys) = (is_above order last key ≡ true) × follows (Some key) keys

  abbrev pub first_above : Option (List ℕ) → List (List ℕ) → Type 0
  first_above last [] = Unit {0}
  first_above last (key ∷ keys) = is_above order last key ≡ true

  pub none_above : (keys : List (List ℕ)) → first_above None keys
  none_above [] = tt
  none_above (key ∷ keys) = refl

  pub follows-Ascend : (last : Option (List ℕ)) (keys : List (List ℕ)) → first_above last keys → Ascend order keys → follows last keys
  follows-Ascend last [] h a = tt
  follows-Ascend last (key ∷ []) h a = (h, tt)
  follows-Ascend last (key ∷ next ∷ keys) h a = (h, follows-Ascend (Some key) (next ∷ keys) (rw a.0 refl) a.1)

  pairs_again : (read : Reader Item) (last : Option (List ℕ)) (ps : List Pair) → AllByRecursion (λ p. Rereads read encoding p.key × Rereads read encoding p.value) ps → follows last (map key_bytes ps) → (at : ℕ) (rest : List ℕ)
      → pairs order read last (length ps) at (joined (map pair_bytes ps) ++ rest) ≡ taken ps (at + length (joined (map pair_bytes ps))) rest
  unfolding pairs
  pairs_again read last [] h f at rest = ap (λ (n : ℕ). taken {A = List Pair} [] n rest) (omega arith)
  pairs_again read last (p ∷ ps) h f at rest =
      let more = joined (map pair_bytes ps) in
      let whole : ((encoding p.key ++ encoding p.value) ++ more) ++ rest ≡ encoding p.key ++ (encoding p.value ++ (more ++ rest)) = simp append_assoc in
      let front : take (at + length (encoding p.key) - at) (encoding p.key ++ (encoding p.value ++ (more ++ rest))) ≡ encoding p.key = take_at (encoding p.key) (encoding p.value ++ (more ++ rest)) (at + length (encoding p.key) - at) (omega arith) in
      let len : at + length (encoding p.key) + length (encoding p.value) + length more ≡ at + length ((encoding p.key ++ encoding p.value) ++ more) = omega (arith, length-append (encoding p.key ++ encoding p.value) more, length-append (encoding p.key) (encoding p.value)) in
      rw (whole, h.0.0 at (encoding p.value ++ (more ++ rest)), front, f.0, h.0.1 (at + length (encoding p.key)) (more ++ rest), pairs_again read (Some (encoding p.key)) ps h.1 f.1 (at + length (encoding p.key) + length (encoding p.value)) rest, len) refl

  pub atom : (m n : ℕ) → m < 7 → n < 2 ^ 64 → IsWritable m n
  atom m n lt fits = record { known = omega arith; fits = fits; simple = λ e. absurd (omega arith) }

  abbrev P : Item → Type 0
  P i = (d at : ℕ) (rest : List ℕ) → depth i ≤ d → IsValid order i → item_at order d at (encoding i ++ rest) ≡ taken i (at + length (encoding i)) rest

  again_uint : (n : ℕ) → P (Uint n)
  unfolding behind encoding IsValid
  again_uint n d at rest deep ok = headed_again d 0 n at [] rest (Uint n) (atom 0 n (omega arith) ok) (sym (append-nil (head_bytes 0 n))) (ap (λ (k : ℕ). taken (Uint n) k rest) (omega arith))

  again_nint : (n : ℕ) → P (Nint n)
  unfolding behind encoding IsValid
  again_nint n d at rest deep ok = headed_again d 1 n at [] rest (Nint n) (atom 1 n (omega arith) ok) (sym (append-nil (head_bytes 1 n))) (ap (λ (k : ℕ). taken (Nint n) k rest) (omega arith))

  again_simple : (n : ℕ) → P (Simple n)
  unfolding behind encoding IsValid
  again_simple n d at rest deep ok =
      let w : IsWritable 7 n = record { known = omega arith; fits = elim ok [ inl h ↦ omega arith | inr h ↦ omega arith ]; simple = λ e. ok } in
      headed_again d 7 n at [] rest (Simple n) w (sym (append-nil (head_bytes 7 n))) (ap (λ (k : ℕ). taken (Simple n) k rest) (omega arith))

  pub string_again : (place at : ℕ) (bs rest : List ℕ) → string_at place (length bs) at (bs ++ rest) ≡ taken bs (at + length bs) rest
  string_again place at bs rest =
      rw (le-ltb (length (bs ++ rest)) (length bs) (omega (arith, length-append bs rest)), take_at bs rest (length bs) refl, drop_at bs rest (length bs) refl) refl

  again_bytes : (bs : List ℕ) → P (Bytes bs)
  unfolding behind encoding IsValid
  again_bytes bs d at rest deep ok = headed_again d 2 (length bs) at bs rest (Bytes bs) (atom 2 (length bs) (omega arith) ok) refl
      (rw string_again refl)

  again_text : (bs : List ℕ) → P (Text bs)
  unfolding behind encoding IsValid
  again_text bs d at rest deep ok = headed_again d 3 (length bs) at bs rest (Text bs) (atom 3 (length bs) (omega arith) ok.0) refl
      (rw (string_again, is_utf8-from_IsUtf8 bs ok.1) refl)

  -- each part is read again
  parts_again : (d : ℕ) (xs : List Item) → AllByRecursion P xs → greatest (map depth xs) ≤ d → AllByRecursion (IsValid order) xs → AllByRecursion (Rereads (item_at order d) encoding) xs
  parts_again d [] all deep ok = tt
  parts_again d (x ∷ xs) all deep ok = ((λ at rest. all.0 d at rest (omega arith) ok.0), parts_again d xs all.1 (omega arith) ok.1)

  again_array : (xs : List Item) → AllByRecursion P xs → P (Array xs)
  unfolding behind parts inner_of
  again_array xs all zero at rest deep ok = absurd (omega (arith, depth-Array xs))
  again_array xs all (suc d) at rest deep ok =
      let v = valid_Array order xs ok in
      let each = parts_again d xs all (omega (arith, depth-Array xs)) v.1 in
      headed_again (suc d) 4 (length xs) at (joined (map encoding xs)) rest (Array xs) (atom 4 (length xs) (omega arith) v.0) (encoding-Array xs)
      (rw (many_again (item_at order d) encoding xs each) refl)

  pairs_parts_again : (d : ℕ) (ps : List Pair) → AllByRecursion (λ p. P p.key × P p.value) ps → greatest (map pair_depth ps) ≤ d → AllByRecursion (IsValidPair order) ps → AllByRecursion (λ p. Rereads (item_at order d) encoding p.key × Rereads (item_at order d) encoding p.value) ps
  pairs_parts_again d [] all deep ok = tt
  pairs_parts_again d (p ∷ ps) all deep ok = (((λ at rest. all.0.0 d at rest (omega arith) ok.0.0), (λ at rest. all.0.1 d at rest (omega arith) ok.0.1)), pairs_parts_again d ps all.1 (omega arith) ok.1)

  again_map : (ps : List Pair) → AllByRecursion (λ p. P p.key × P p.value) ps → P (Map ps)
  unfolding behind parts inner_of
  again_map ps all zero at rest deep ok = absurd (omega (arith, depth-Map ps))
  again_map ps all (suc d) at rest deep ok =
      let v = valid_Map order ps ok in
      let each = pairs_parts_again d ps all (omega (arith, depth-Map ps)) v.1 in
      let f = follows-Ascend None (map key_bytes ps) (none_above (map key_bytes ps)) v.2 in
      headed_again (suc d) 5 (length ps) at (joined (map pair_bytes ps)) rest (Map ps) (atom 5 (length ps) (omega arith) v.0) (encoding-Map ps)
      (rw (pairs_again (item_at order d) None ps each f) refl)

  again_tag : (n : ℕ) (x : Item) → P x → P (Tag n x)
  unfolding behind parts inner_of
  again_tag n x all zero at rest deep ok = absurd (omega (arith, depth-Tag n x))
  again_tag n x all (suc d) at rest deep ok =
      let v = valid_Tag order n x ok in
      headed_again (suc d) 6 n at (encoding x) rest (Tag n x) (atom 6 n (omega arith) v.0) (encoding-Tag n x)
      (rw (all d (at + length (head_bytes 6 n)) rest (omega (arith, depth-Tag n x)) v.1) refl)

  pub item_again : (i : Item) (d at : ℕ) (rest : List ℕ) → depth i ≤ d → IsValid order i → item_at order d at (encoding i ++ rest) ≡ taken i (at + length (encoding i)) rest
  item_again = item_ind P (record { uint = again_uint; nint = again_nint; bytes = again_bytes; text = again_text; array = again_array; pairs = again_map; tag = again_tag; simple = again_simple })

  -- ---- no encoding begins another

  same_taken : {A : Type 0} (v w : A) (m n : ℕ) (x y : List ℕ) → taken v m x ≡ taken w n y → (v ≡ w) × (x ≡ y)
  same_taken {A} v w m n x y e =
      let t = ok_is (record { value = v; at = m; rest = x }) (record { value = w; at = n; rest = y }) e in
      (ap (λ (p : Taken A). p.value) t, ap (λ (p : Taken A). p.rest) t)

  pub one_item : (i j : Item) (x y : List ℕ) → IsValid order i → IsValid order j → encoding i ++ x ≡ encoding j ++ y → (i ≡ j) × (x ≡ y)
  one_item i j x y p q e =
      let d = max (depth i) (depth j) in
      same_taken i j (0 + length (encoding i)) (0 + length (encoding j)) x y
      (sym (item_again i d 0 x (omega arith) p) ∙ (ap (item_at order d 0) e ∙ item_again j d 0 y (omega arith) q))
