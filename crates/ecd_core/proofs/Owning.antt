-- A map has values where its pairs can be given out to its entries, and the other way round.
use Rattle.std.proofs.Common.{◌≡◌, ℕ, zero, suc, ◌+◌, ◌<◌, ◌⊎◌, inl, inr, ◌↔◌, Bool, true, false, cond, eqb, List, [], ◌∷◌, length, map, refl, ap, sym, ◌∙◌, subst, arith}
use Rattle.std.proofs.lemmas.Bool.{eqb-true, eqb-false}
use Rattle.ecd_keyorder.specs.declared.Order.{Order}
use Rattle.ecd_keyorder.specs.Order.{IsBefore}
use Rattle.ecd_item_laws.specs.declared.item.Pair.{Pair}
use Rattle.ecd_item_laws.specs.Encoding.{key_bytes}
use Rattle.ecd_item_laws.specs.Valid.{Ascend, IsValid}
use Rattle.ecd_core.specs.declared.shape.MapEntry.TheVariants as m
use Rattle.ecd_core.specs.declared.shape.Pick.{out-Pick}
use Rattle.ecd_core.specs.declared.value.Value.{Value}
use Rattle.ecd_core.specs.Lists.{Each, HasSome, EachWith, IsIn}
use Rattle.ecd_core.specs.Listed.{entries_mean, field_of, ways_mean}
use Rattle.ecd_core.specs.Values.{HasValue, meaning}
use Rattle.ecd_core.specs.Maps.{EntryMeaning, AField, APick, ATable, Takes, Blocks, EntryHas, list_of, IsInOneList, value_of, MapHas}
use Rattle.ecd_core.specs.Owners.{owned, OwnerFits, EntryFits, EntriesFit, HasOwners, GivenOut, OwnersExist, FieldOwns, PickOwns, TableOwns}
use Rattle.ecd_core.proofs.Layers as layers
use Rattle.ecd_core.proofs.Ascending.{not_before_itself, before_all, same_members}

-- ---- what a number owns

-- the first pair is owned, or a later one
owned_in : (n : ℕ) (p q : Pair) (ps : List Pair) (x : ℕ) (xs : List ℕ) → IsIn p (owned n (q ∷ ps) (x ∷ xs)) → ((q ≡ p) × (x ≡ n)) ⊎ IsIn p (owned n ps xs)
owned_in n p q ps x xs h = by_test (eqb x n) refl h
  where
    by_test : (b : Bool) → eqb x n ≡ b → IsIn p (cond b (q ∷ owned n ps xs) (owned n ps xs)) → ((q ≡ p) × (x ≡ n)) ⊎ IsIn p (owned n ps xs)
    by_test true t (inl e) = inl (e, eqb-true x n t)
    by_test true t (inr g) = inr g
    by_test false t g = inr g

in_owned : (n : ℕ) (p q : Pair) (ps : List Pair) (x : ℕ) (xs : List ℕ) → ((q ≡ p) × (x ≡ n)) ⊎ IsIn p (owned n ps xs) → IsIn p (owned n (q ∷ ps) (x ∷ xs))
in_owned n p q ps x xs h = by_test (eqb x n) refl h
  where
    by_test : (b : Bool) → eqb x n ≡ b → ((q ≡ p) × (x ≡ n)) ⊎ IsIn p (owned n ps xs) → IsIn p (cond b (q ∷ owned n ps xs) (owned n ps xs))
    by_test true t (inl e) = inl e.0
    by_test true t (inr g) = inr g
    by_test false t (inl e) = absurd (eqb-false x n t e.1)
    by_test false t (inr g) = g

owned_is_in : (n : ℕ) (p : Pair) (ps : List Pair) (xs : List ℕ) → IsIn p (owned n ps xs) → IsIn p ps
owned_is_in n p [] xs h = h
owned_is_in n p (q ∷ ps) [] h = absurd h
owned_is_in n p (q ∷ ps) (x ∷ xs) h = from (λ g. owned_is_in n p ps xs g) (owned_in n p q ps x xs h)
  where
    from : (IsIn p (owned n ps xs) → IsIn p ps) → ((q ≡ p) × (x ≡ n)) ⊎ IsIn p (owned n ps xs) → IsIn p (q ∷ ps)
    from f (inl e) = inl e.0
    from f (inr g) = inr (f g)

owner_of : (R : Pair → ℕ → Type 0) (ps : List Pair) (xs : List ℕ) (p : Pair) → EachWith R ps xs → IsIn p ps → (x : ℕ) × R p x × IsIn p (owned x ps xs)
owner_of R [] xs p all h = absurd h
owner_of R (q ∷ ps) [] p all h = absurd all
owner_of R (q ∷ ps) (x ∷ xs) p all (inl e) = (x, subst (λ (y : Pair). R y x) e all.0, in_owned x p q ps x xs (inl (e, refl)))
owner_of R (q ∷ ps) (x ∷ xs) p all (inr h) = let r = owner_of R ps xs p all.1 h in (r.0, r.1, in_owned r.0 p q ps x xs (inr r.2))

owned_so : (R : Pair → ℕ → Type 0) (ps : List Pair) (xs : List ℕ) (p : Pair) (n : ℕ) → EachWith R ps xs → IsIn p (owned n ps xs) → R p n
owned_so R [] xs p n all h = absurd h
owned_so R (q ∷ ps) [] p n all h = absurd all
owned_so R (q ∷ ps) (x ∷ xs) p n all h = from (λ g. owned_so R ps xs p n all.1 g) (owned_in n p q ps x xs h)
  where
    from : (IsIn p (owned n ps xs) → R p n) → ((q ≡ p) × (x ≡ n)) ⊎ IsIn p (owned n ps xs) → R p n
    from f (inl e) = subst (R p) e.1 (subst (λ (y : Pair). R y x) e.0 all.0)
    from f (inr g) = f g

module _ (order : Order) where
  ascend_owned : (n : ℕ) (ps : List Pair) (xs : List ℕ) → Ascend order (map key_bytes ps) → Ascend order (map key_bytes (owned n ps xs))
  ascend_owned n [] xs a = tt
  ascend_owned n (q ∷ ps) [] a = tt
  ascend_owned n (q ∷ ps) (x ∷ xs) a = by_test (ascend_owned n ps xs a.1) (eqb x n)
    where
      first : (l : List Pair) → ((p : Pair) → IsIn p l → IsIn p ps) → Ascend order (map key_bytes l) → Ascend order (map key_bytes (q ∷ l))
      first [] f b = (tt, b)
      first (p ∷ l) f b = (before_all order q ps p a (f p (inl refl)), b)

      by_test : Ascend order (map key_bytes (owned n ps xs)) → (b : Bool) → Ascend order (map key_bytes (cond b (q ∷ owned n ps xs) (owned n ps xs)))
      by_test c true = first (owned n ps xs) (λ p h. owned_is_in n p ps xs h) c
      by_test c false = c

  owned_once : (p : Pair) (ps : List Pair) (xs : List ℕ) (m n : ℕ) → Ascend order (map key_bytes ps) → IsIn p (owned m ps xs) → IsIn p (owned n ps xs) → m ≡ n
  owned_once p [] xs m n a h g = absurd h
  owned_once p (q ∷ ps) [] m n a h g = absurd h
  owned_once p (q ∷ ps) (x ∷ xs) m n a h g = from (λ e f. owned_once p ps xs m n a.1 e f) (owned_in m p q ps x xs h) (owned_in n p q ps x xs g)
    where
      twice : q ≡ p → IsIn p ps → ⊥
      twice e i' = not_before_itself order (key_bytes p) (subst (λ (y : Pair). IsBefore order (key_bytes y) (key_bytes p)) e (before_all order q ps p a i'))

      from : (IsIn p (owned m ps xs) → IsIn p (owned n ps xs) → m ≡ n) → ((q ≡ p) × (x ≡ m)) ⊎ IsIn p (owned m ps xs) → ((q ≡ p) × (x ≡ n)) ⊎ IsIn p (owned n ps xs) → m ≡ n
      from again (inl e) (inl f) = sym e.1 ∙ f.1
      from again (inl e) (inr f) = absurd (twice e.0 (owned_is_in n p ps xs f))
      from again (inr e) (inl f) = absurd (twice f.0 (owned_is_in m p ps xs e))
      from again (inr e) (inr f) = again e f

-- ---- from owners to lists

module _ (pairs : List Pair) (owners : List ℕ) where
  shared : ℕ → List Value → List (List Pair × Value)
  shared n [] = []
  shared n (w ∷ ws) = (owned n pairs owners, w) ∷ shared (n + 1) ws

  shared_values : (n : ℕ) (ws : List Value) → ws ≡ map value_of (shared n ws)
  unfolding shared
  shared_values n [] = refl
  shared_values n (w ∷ ws) = ap (λ (l : List Value). w ∷ l) (shared_values (n + 1) ws)

  in_shared : (p : Pair) (n j : ℕ) (ws : List Value) → IsIn p (list_of (shared n ws) j) → (j < length ws) × IsIn p (owned (n + j) pairs owners)
  unfolding shared
  in_shared p n j [] h = absurd h
  in_shared p n zero (w ∷ ws) h = (omega arith, let e : n ≡ n + 0 = omega arith in subst (λ (x : ℕ). IsIn p (owned x pairs owners)) e h)
  in_shared p n (suc j) (w ∷ ws) h = let r = in_shared p (n + 1) j ws h in (omega (arith, r.0), let e : (n + 1) + j ≡ n + suc j = omega arith in subst (λ (x : ℕ). IsIn p (owned x pairs owners)) e r.1)

  shared_in : (p : Pair) (n j : ℕ) (ws : List Value) → j < length ws → IsIn p (owned (n + j) pairs owners) → IsIn p (list_of (shared n ws) j)
  unfolding shared
  shared_in p n j [] lt h = absurd (omega (arith, lt))
  shared_in p n zero (w ∷ ws) lt h = let e : n + 0 ≡ n = omega arith in subst (λ (x : ℕ). IsIn p (owned x pairs owners)) e h
  shared_in p n (suc j) (w ∷ ws) lt h = shared_in p (n + 1) j ws (omega (arith, lt)) (let e : n + suc j ≡ (n + 1) + j = omega arith in subst (λ (x : ℕ). IsIn p (owned x pairs owners)) e h)

  entries_long : (n : ℕ) (entries : List EntryMeaning) (ws : List Value) → EntriesFit pairs owners n entries ws → length ws ≡ length entries
  entries_long n [] [] h = refl
  entries_long n [] (w ∷ ws) h = absurd h
  entries_long n (e ∷ es) [] h = absurd h
  entries_long n (e ∷ es) (w ∷ ws) h = ap suc (entries_long (n + 1) es ws h.1)

  entry_has : (order : Order) (entry : EntryMeaning) (listed : List Pair) (w : Value) → Ascend order (map key_bytes listed) → EntryFits pairs entry listed w → EntryHas order pairs entry (listed, w)
  entry_has order (AField field) listed w a h = h
  entry_has order (APick needed ways) listed w a h = h
  entry_has order (ATable lo hi keys under) listed w a h = (h.0, a, h.1, h.2, h.3, h.4)

  entries_has : (order : Order) (n : ℕ) (entries : List EntryMeaning) (ws : List Value) → Ascend order (map key_bytes pairs) → EntriesFit pairs owners n entries ws → EachWith (EntryHas order pairs) entries (shared n ws)
  unfolding shared
  entries_has order n [] [] a h = tt
  entries_has order n [] (w ∷ ws) a h = absurd h
  entries_has order n (e ∷ es) [] a h = absurd h
  entries_has order n (e ∷ es) (w ∷ ws) a h = (entry_has order e (owned n pairs owners) w (ascend_owned order n pairs owners a) h.0, entries_has order (n + 1) es ws a h.1)

at_zero : (pairs : List Pair) (owners : List ℕ) (p : Pair) (j : ℕ) → IsIn p (owned (0 + j) pairs owners) → IsIn p (owned j pairs owners)
at_zero pairs owners p j h = let e : 0 + j ≡ j = omega arith in subst (λ (x : ℕ). IsIn p (owned x pairs owners)) e h

zero_at : (pairs : List Pair) (owners : List ℕ) (p : Pair) (j : ℕ) → IsIn p (owned j pairs owners) → IsIn p (owned (0 + j) pairs owners)
zero_at pairs owners p j h = let e : j ≡ 0 + j = omega arith in subst (λ (x : ℕ). IsIn p (owned x pairs owners)) e h

pub owned_has : (order : Order) (entries : List EntryMeaning) (pairs : List Pair) (owners : List ℕ) (ws : List Value) → Each (λ pair. IsValid order pair.key) pairs → Ascend order (map key_bytes pairs)
    → EachWith (OwnerFits entries pairs) pairs owners → EntriesFit pairs owners 0 entries ws → MapHas order entries pairs ws
owned_has order entries pairs owners ws valid ascend all fit = record {
  valid = valid;
  ascend = ascend;
  each = shared pairs owners 0 ws;
  values_are = shared_values pairs owners 0 ws;
  has = entries_has pairs owners order 0 entries ws ascend fit;
  covered = λ p here. cover p (owner_of (OwnerFits entries pairs) pairs owners p all here);
  listed = λ number p stands. list p number (in_shared pairs owners p 0 number ws stands);
}
  where
    cover : (p : Pair) → (x : ℕ) × OwnerFits entries pairs p x × IsIn p (owned x pairs owners) → HasSome (Takes pairs p) entries ⊎ IsInOneList (shared pairs owners 0 ws) p
    cover p (x, inl f, i') = inl f.0
    cover p (x, inr f, i') =
        inr (
          x,
          shared_in pairs owners p 0 x ws (omega (arith, f.2, entries_long pairs owners 0 entries ws fit)) (zero_at pairs owners p x i'),
          λ other stands. sym (owned_once order p pairs owners x other ascend i' (at_zero pairs owners p other (in_shared pairs owners p 0 other ws stands).1)),
        )

    list : (p : Pair) (number : ℕ) → (number < length ws) × IsIn p (owned (0 + number) pairs owners) → IsIn p pairs × (HasSome (Takes pairs p) entries → ⊥) × (HasSome (Blocks pairs p) entries → ⊥)
    list p number h =
        let stands = at_zero pairs owners p number h.1 in
        let own = owned_so (OwnerFits entries pairs) pairs owners p number all stands in
        (owned_is_in number p pairs owners stands, free own, open' own)
      where
        free : OwnerFits entries pairs p number → HasSome (Takes pairs p) entries → ⊥
        free (inl f) t = omega (arith, f.1, h.0, entries_long pairs owners 0 entries ws fit)
        free (inr f) t = f.0 t

        open' : OwnerFits entries pairs p number → HasSome (Blocks pairs p) entries → ⊥
        open' (inl f) t = omega (arith, f.1, h.0, entries_long pairs owners 0 entries ws fit)
        open' (inr f) t = f.1 t

-- ---- from lists to owners

has_fits : (order : Order) (pairs : List Pair) (entry : EntryMeaning) (it : List Pair × Value) → EntryHas order pairs entry it → EntryFits pairs entry it.0 it.1
has_fits order pairs (AField field) it h = h
has_fits order pairs (APick needed ways) it h = h
has_fits order pairs (ATable lo hi keys under) it h = (h.0, h.2, h.3, h.4, h.5)

has_ascends : (order : Order) (pairs : List Pair) (entry : EntryMeaning) (it : List Pair × Value) → EntryHas order pairs entry it → Ascend order (map key_bytes it.0)
has_ascends order pairs (AField field) it h = subst (λ (l : List Pair). Ascend order (map key_bytes l)) (sym h.0) tt
has_ascends order pairs (APick needed ways) it h = subst (λ (l : List Pair). Ascend order (map key_bytes l)) (sym h.0) tt
has_ascends order pairs (ATable lo hi keys under) it h = h.1

list_ascends : (order : Order) (pairs : List Pair) (entries : List EntryMeaning) (each : List (List Pair × Value)) → EachWith (EntryHas order pairs) entries each → (j : ℕ) → Ascend order (map key_bytes (list_of each j))
list_ascends order pairs [] [] all j = tt
list_ascends order pairs [] (x ∷ xs) all j = absurd all
list_ascends order pairs (e ∷ es) [] all j = absurd all
list_ascends order pairs (e ∷ es) (x ∷ xs) all zero = has_ascends order pairs e x all.0
list_ascends order pairs (e ∷ es) (x ∷ xs) all (suc j) = list_ascends order pairs es xs all.1 j

has_long : (order : Order) (pairs : List Pair) (entries : List EntryMeaning) (each : List (List Pair × Value)) → EachWith (EntryHas order pairs) entries each → length each ≡ length entries
has_long order pairs [] [] all = refl
has_long order pairs [] (x ∷ xs) all = absurd all
has_long order pairs (e ∷ es) [] all = absurd all
has_long order pairs (e ∷ es) (x ∷ xs) all = ap suc (has_long order pairs es xs all.1)

list_within : (each : List (List Pair × Value)) (p : Pair) (j : ℕ) → IsIn p (list_of each j) → j < length each
list_within [] p j h = absurd h
list_within (x ∷ xs) p zero h = omega arith
list_within (x ∷ xs) p (suc j) h = omega (arith, list_within xs p j h)

fit_from : (order : Order) (pairs : List Pair) (owners : List ℕ) (entries : List EntryMeaning) (each : List (List Pair × Value)) (n : ℕ) → EachWith (EntryHas order pairs) entries each
    → ((j : ℕ) → j < length each → owned (n + j) pairs owners ≡ list_of each j) → EntriesFit pairs owners n entries (map value_of each)
fit_from order pairs owners [] [] n all same = tt
fit_from order pairs owners [] (x ∷ xs) n all same = absurd all
fit_from order pairs owners (e ∷ es) [] n all same = absurd all
fit_from order pairs owners (e ∷ es) (x ∷ xs) n all same =
    let here : owned n pairs owners ≡ x.0 = (let f : n ≡ n + 0 = omega arith in ap (λ (y : ℕ). owned y pairs owners) f) ∙ same 0 (omega arith) in (
      subst (λ (l : List Pair). EntryFits pairs e l x.1) (sym here) (has_fits order pairs e x all.0),
      fit_from order pairs owners es xs (n + 1) all.1 (λ j lt. (let f : (n + 1) + j ≡ n + suc j = omega arith in ap (λ (y : ℕ). owned y pairs owners) f) ∙ same (suc j) (omega (arith, lt))),
    )

module _ (order : Order) (entries : List EntryMeaning) (pairs : List Pair) (ws : List Value) (whole : MapHas order entries pairs ws) where
  -- the number of a pair that a field takes, or of the list in which it stands
  Own : Pair → ℕ → Type 0
  Own p x = (HasSome (Takes pairs p) entries × (x ≡ length entries)) ⊎ (IsIn p (list_of whole.each x) × ((other : ℕ) → IsIn p (list_of whole.each other) → other ≡ x))

  own_fits : (p : Pair) (x : ℕ) → Own p x → OwnerFits entries pairs p x
  unfolding Own
  own_fits p x (inl h) = inl h
  own_fits p x (inr h) = let l = whole.listed x p h.0 in inr (l.1, l.2, omega (arith, list_within whole.each p x h.0, has_long order pairs entries whole.each whole.has))

  owner_for : (p : Pair) → IsIn p pairs → (x : ℕ) × Own p x
  unfolding Own
  owner_for p here = from (whole.covered p here)
    where
      from : HasSome (Takes pairs p) entries ⊎ IsInOneList whole.each p → (x : ℕ) × Own p x
      from (inl h) = (length entries, inl (h, refl))
      from (inr h) = (h.0, inr (h.1, h.2))

  owners_for : (rest : List Pair) → ((p : Pair) → IsIn p rest → IsIn p pairs) → (more : List ℕ) × EachWith Own rest more
  owners_for [] f = ([], tt)
  owners_for (p ∷ rest) f =
      let one = owner_for p (f p (inl refl)) in
      let others = owners_for rest (λ q h. f q (inr h)) in
      (one.0 ∷ others.0, (one.1, others.1))

  all_fit : (rest : List Pair) (more : List ℕ) → EachWith Own rest more → EachWith (OwnerFits entries pairs) rest more
  all_fit [] [] all = tt
  all_fit [] (x ∷ xs) all = absurd all
  all_fit (p ∷ rest) [] all = absurd all
  all_fit (p ∷ rest) (x ∷ xs) all = (own_fits p x all.0, all_fit rest xs all.1)

  owned_listed : (owners : List ℕ) → EachWith Own pairs owners → (j : ℕ) → j < length whole.each → (p : Pair) → IsIn p (owned j pairs owners) → IsIn p (list_of whole.each j)
  unfolding Own
  owned_listed owners all j lt p h = from (owned_so Own pairs owners p j all h)
    where
      from : (HasSome (Takes pairs p) entries × (j ≡ length entries)) ⊎ (IsIn p (list_of whole.each j) × ((other : ℕ) → IsIn p (list_of whole.each other) → other ≡ j)) → IsIn p (list_of whole.each j)
      from (inl g) = absurd (omega (arith, g.1, lt, has_long order pairs entries whole.each whole.has))
      from (inr g) = g.0

  listed_owned : (owners : List ℕ) → EachWith Own pairs owners → (j : ℕ) (p : Pair) → IsIn p (list_of whole.each j) → IsIn p (owned j pairs owners)
  unfolding Own
  listed_owned owners all j p h =
      let l = whole.listed j p h in
      let o = owner_of Own pairs owners p all l.0 in
      from o.0 o.1 o.2
    where
      from : (x : ℕ) → (HasSome (Takes pairs p) entries × (x ≡ length entries)) ⊎ (IsIn p (list_of whole.each x) × ((other : ℕ) → IsIn p (list_of whole.each other) → other ≡ x)) → IsIn p (owned x pairs owners) → IsIn p (owned j pairs owners)
      from x (inl g) i' = absurd ((whole.listed j p h).1 g.0)
      from x (inr g) i' = subst (λ (y : ℕ). IsIn p (owned y pairs owners)) (sym (g.1 j h)) i'

  pub has_owned : HasOwners entries pairs ws
  has_owned =
      let found = owners_for pairs (λ p h. h) in
      let same = λ (j : ℕ) (lt : j < length whole.each).
      same_members order (owned j pairs found.0) (list_of whole.each j) (ascend_owned order j pairs found.0 whole.ascend) (list_ascends order pairs entries whole.each whole.has j)
      (owned_listed found.0 found.1 j lt) (listed_owned found.0 found.1 j) in
      let zeroed = λ (j : ℕ) (lt : j < length whole.each). (let f : 0 + j ≡ j = omega arith in ap (λ (y : ℕ). owned y pairs found.0) f) ∙ same j lt in
      (found.0, all_fit pairs found.0 found.1, subst (EntriesFit pairs found.0 0 entries) (sym whole.values_are) (fit_from order pairs found.0 entries whole.each 0 whole.has zeroed))

-- ---- over the entries of a shape

pub given_out : GivenOut
given_out order entries pairs ws valid ascend own = owned_has order (entries_mean order entries) pairs own.0 ws valid ascend own.1 own.2

pub owners_exist : OwnersExist
owners_exist order entries pairs ws whole = has_owned order (entries_mean order entries) pairs ws whole

alike : (pairs : List Pair) (one other : EntryMeaning) (listed : List Pair) (w : Value) → one ≡ other → EntryFits pairs one listed w ↔ EntryFits pairs other listed w
alike pairs one other listed w e = let h = ap (λ (x : EntryMeaning). EntryFits pairs x listed w) e in (layers.fwd h, layers.bwd h)

pub field_owns : FieldOwns
field_owns order pairs f listed w = alike pairs (meaning order (m.Field f)) (AField (field_of order f)) listed w (layers.meaning-Field order f)

pub pick_owns : PickOwns
pick_owns order pairs pick listed w = alike pairs (meaning order (m.Pick pick)) (APick (out-Pick pick).needed (ways_mean order (out-Pick pick).ways)) listed w (layers.meaning-Pick order pick)

pub table_owns : TableOwns
table_owns order pairs t listed w = alike pairs (meaning order (m.Table t)) (ATable t.lo t.hi (HasValue order t.key) (HasValue order t.value)) listed w (layers.meaning-Table order t)
