-- The first and the last items of an array, under the shapes of a fixed prefix and of a fixed suffix.
use Rattle.std.proofs.Common.{◌≡◌, ℕ, Bool, true, false, cond, List, [], ◌∷◌, ◌++◌, length, reverse, refl, ap, sym, ◌∙◌, subst, append_assoc, arith}
use Rattle.std.proofs.lemmas.List.{length-append, length-reverse, reverse-append}
use Rattle.ecd_keyorder.specs.declared.Order.{Order}
use Rattle.ecd_item_laws.specs.declared.item.Item.{Item}
use Rattle.ecd_core.specs.declared.shape.Kind.{Kind}
use Rattle.ecd_core.specs.declared.shape.Group.{Row_of-Part, end_of-Part, more_of-Part}
use Rattle.ecd_core.specs.declared.shape.Part.{Part, One', Opt', Many', Alt'}
use Rattle.ecd_core.specs.declared.value.Value.{Value}
use Rattle.ecd_core.specs.Listed.{IsAt}
use Rattle.ecd_core.specs.Values.{Gives, PartsGive, PartGives}
use Rattle.ecd_apart.specs.Keys.{KeysDiffer, PartsDiffer, PartDiffers}
use Rattle.ecd_apart.specs.Apart.{is_one, one_of, fixed_prefix, are_ones, part_count, fixed_suffix}

-- ---- parts that are one item each

one_alone : (part : Part) → is_one part ≡ true → length (one_of part) ≡ 1
one_alone (One' at kind) e = refl
one_alone (Opt' at s body) e = absurd cc
one_alone (Many' at lo hi s body) e = absurd cc
one_alone (Alt' at s ways) e = absurd cc

both_true : (a b : Bool) → cond a b false ≡ true → (a ≡ true) × (b ≡ true)
both_true true b e = (refl, e)
both_true false b e = absurd cc

-- the fixed suffix has as many shapes as parts, where each part is one item
pub suffix_long : {m : _} (row : Row_of-Part m) → are_ones row ≡ true → length (fixed_suffix row) ≡ part_count row
suffix_long end_of-Part e = refl
suffix_long (more_of-Part part rest) e =
    let t = both_true (is_one part) (are_ones rest) e in
    let whole = ap (λ (b : Bool). length (cond b (fixed_suffix rest ++ one_of part) (fixed_suffix rest))) t.1 in
    omega (arith, whole, length-append (fixed_suffix rest) (one_of part), one_alone part t.0, suffix_long rest t.1)

-- ---- items

module _ (order : Order) where
  -- the item has some value under the shape, whose keys differ
  abbrev pub Has : Kind → Item → Type 0
  Has kind item = KeysDiffer kind × (value : Value) × Gives order kind item value

  -- the items begin with one of each of these shapes
  abbrev pub BeginWith : List Kind → List Item → Type 0
  BeginWith [] items = Unit {0}
  BeginWith (kind ∷ kinds) [] = ⊥
  BeginWith (kind ∷ kinds) (item ∷ items) = Has kind item × BeginWith kinds items

  begin_at : (P : Kind → Type 0) (kinds : List Kind) (front back : List Item) (item : Item) → IsAt P kinds (length front) → BeginWith kinds (front ++ item ∷ back) → (kind : Kind) × P kind × Has kind item
  begin_at P [] front back item a h = absurd a
  begin_at P (kind ∷ kinds) [] back item a h = (kind, a, h.0)
  begin_at P (kind ∷ kinds) (x ∷ front) back item a h = begin_at P kinds front back item a h.1

  pub begin_longer : (kinds : List Kind) (xs ys : List Item) → BeginWith kinds xs → BeginWith kinds (xs ++ ys)
  begin_longer [] xs ys h = tt
  begin_longer (kind ∷ kinds) [] ys h = absurd h
  begin_longer (kind ∷ kinds) (x ∷ xs) ys h = (h.0, begin_longer kinds xs ys h.1)

  begin_both : (kinds others : List Kind) (xs ys : List Item) → length kinds ≡ length xs → BeginWith kinds xs → BeginWith others ys → BeginWith (kinds ++ others) (xs ++ ys)
  begin_both [] others [] ys e h g = g
  begin_both [] others (x ∷ xs) ys e h g = absurd (omega (arith, e))
  begin_both (kind ∷ kinds) others [] ys e h g = absurd h
  begin_both (kind ∷ kinds) others (x ∷ xs) ys e h g = (h.0, begin_both kinds others xs ys (omega (arith, e)) h.1 g)

  -- ---- from the front

  front_begins : (part : Part) (kinds : List Kind) (front back : List Item) (value : Value) → PartDiffers part → PartGives order part front value → BeginWith kinds back
      → BeginWith (cond (is_one part) (one_of part ++ kinds) []) (front ++ back)
  unfolding Gives KeysDiffer
  front_begins (One' at kind) kinds front back value d p h = subst (λ (x : List Item). BeginWith (kind ∷ kinds) (x ++ back)) (sym p.1) ((d, value, p.2), h)
  front_begins (Opt' at s body) kinds front back value d p h = tt
  front_begins (Many' at lo hi s body) kinds front back value d p h = tt
  front_begins (Alt' at s ways) kinds front back value d p h = tt

  pub prefix_begins : {m : _} (row : Row_of-Part m) (items : List Item) (values : List Value) → PartsDiffer row → PartsGive order row items values → BeginWith (fixed_prefix row) items
  unfolding Gives KeysDiffer
  prefix_begins end_of-Part items values d p = tt
  prefix_begins (more_of-Part part rest) items values d p =
      subst (BeginWith (fixed_prefix (more_of-Part part rest))) (sym p.4) (front_begins part (fixed_prefix rest) p.0 p.1 p.2 d.0 p.6 (prefix_begins rest p.1 p.3 d.1 p.7))

  -- the item of a part that is one, in front of the others
  pub first_at : (P : Kind → Type 0) (kinds : List Kind) (items front back : List Item) (item : Item) → items ≡ front ++ back → front ≡ item ∷ [] → IsAt P kinds 0 → BeginWith kinds items → (kind : Kind) × P kind × Has kind item
  first_at P kinds items front back item e f a h = begin_at P kinds [] back item a (subst (BeginWith kinds) (e ∙ ap (λ (x : List Item). x ++ back) f) h)

  -- ---- from the end

  part_begins : (part : Part) (items : List Item) (value : Value) → PartDiffers part → PartGives order part items value → BeginWith (one_of part) (reverse items)
  unfolding Gives KeysDiffer
  part_begins (One' at kind) items value d p = subst (λ (x : List Item). BeginWith (kind ∷ []) (reverse x)) (sym p.1) ((d, value, p.2), tt)
  part_begins (Opt' at s body) items value d p = tt
  part_begins (Many' at lo hi s body) items value d p = tt
  part_begins (Alt' at s ways) items value d p = tt

  one_long : (part : Part) (items : List Item) (value : Value) → is_one part ≡ true → PartGives order part items value → length items ≡ 1
  unfolding Gives
  one_long (One' at kind) items value e p = ap length p.1
  one_long (Opt' at s body) items value e p = absurd cc
  one_long (Many' at lo hi s body) items value e p = absurd cc
  one_long (Alt' at s ways) items value e p = absurd cc

  -- where each part is one item, there are as many items as parts
  pub ones_long : {m : _} (row : Row_of-Part m) (items : List Item) (values : List Value) → are_ones row ≡ true → PartsGive order row items values → length items ≡ part_count row
  unfolding Gives
  ones_long end_of-Part items values e p = ap length p.0
  ones_long (more_of-Part part rest) items values e p =
      let t = both_true (is_one part) (are_ones rest) e in
      omega (arith, ap length p.4, length-append p.0 p.1, one_long part p.0 p.2 t.0 p.6, ones_long rest p.1 p.3 t.1 p.7)

  pub suffix_begins : {m : _} (row : Row_of-Part m) (items : List Item) (values : List Value) → PartsDiffer row → PartsGive order row items values → BeginWith (fixed_suffix row) (reverse items)
  unfolding Gives KeysDiffer
  suffix_begins end_of-Part items values d p = tt
  suffix_begins (more_of-Part part rest) items values d p =
      let turned : reverse items ≡ reverse p.1 ++ reverse p.0 = ap (λ (x : List Item). reverse x) p.4 ∙ reverse-append p.0 p.1 in
      subst (BeginWith (fixed_suffix (more_of-Part part rest))) (sym turned) (by_test (are_ones rest) refl (suffix_begins rest p.1 p.3 d.1 p.7))
    where
      by_test : (b : Bool) → are_ones rest ≡ b → BeginWith (fixed_suffix rest) (reverse p.1) → BeginWith (cond b (fixed_suffix rest ++ one_of part) (fixed_suffix rest)) (reverse p.1 ++ reverse p.0)
      by_test true e h =
          begin_both (fixed_suffix rest) (one_of part) (reverse p.1) (reverse p.0) (omega (arith, suffix_long rest e, ones_long rest p.1 p.3 e p.7, length-reverse p.1)) h (part_begins part p.0 p.2 d.0 p.6)
      by_test false e h = begin_longer (fixed_suffix rest) (reverse p.1) (reverse p.0) h

  -- the items of a part stand behind those of the parts that follow it, and in front of what came before
  pub last_first : (kinds : List Kind) (items front back before : List Item) → items ≡ front ++ back → BeginWith kinds (reverse items ++ before) → BeginWith kinds (reverse back ++ (reverse front ++ before))
  last_first kinds items front back before e h =
      let turned : reverse items ++ before ≡ reverse back ++ (reverse front ++ before) =
      ap (λ (x : List Item). reverse x ++ before) e ∙ (ap (λ (x : List Item). x ++ before) (reverse-append front back) ∙ append_assoc (reverse back) (reverse front) before) in
      subst (BeginWith kinds) turned h

  -- the item of a part that is one, with so many behind it
  pub last_at : (P : Kind → Type 0) (kinds : List Kind) (items front back before : List Item) (item : Item) (number : ℕ) → items ≡ front ++ back → front ≡ item ∷ [] → length back ≡ number → IsAt P kinds number
      → BeginWith kinds (reverse items ++ before) → (kind : Kind) × P kind × Has kind item
  last_at P kinds items front back before item number e f l a h =
      let place : number ≡ length (reverse back) = omega (arith, l, length-reverse back) in
      begin_at P kinds (reverse back) before item (subst (IsAt P kinds) place a)
      (subst (λ (x : List Item). BeginWith kinds (reverse back ++ (reverse x ++ before))) f (last_first kinds items front back before e h))
