-- What contradicts a value of an item under a shape that is no choice, by what is asked of it.
use Rattle.std.proofs.Common.{◌≡◌, ℕ, zero, suc, ◌⊎◌, inl, inr, List, reverse, ap, sym, ◌∙◌, subst}
use Rattle.ecd_keyorder.specs.declared.Order.{Order}
use Rattle.ecd_item_laws.specs.declared.item.Item.{Item, out-Item}
use Rattle.ecd_item_laws.specs.declared.item.Item.TheVariants as i
use Rattle.ecd_item_laws.specs.declared.item.Item.TheOpen as o
use Rattle.ecd_item_laws.specs.Encoding.{encoding}
use Rattle.ecd_item_laws.specs.Valid.{IsValid}
use Rattle.ecd_core.specs.declared.shape.Kind.{Kind, Choice', Tag', Cbor', AnyTag', Array', Row_of-Shape, end_of-Shape, more_of-Shape}
use Rattle.ecd_core.specs.declared.shape.Kind.TheVariants as k
use Rattle.ecd_core.specs.declared.value.Value.{Value}
use Rattle.ecd_core.specs.Values.{Gives, OnlyGives, AlternativeGives}
use Rattle.ecd_core.proofs.OneItem.{same_encoding}
use Rattle.ecd_apart.specs.Keys.{KeysDiffer, ShapesDiffer}
use Rattle.ecd_apart.specs.Boxes.{BoxesApart}
use Rattle.ecd_apart.specs.Apart.{AtLeaves, AtAllLeaves, IsOtherBytes, IsOtherText, OfOnly, OfTagged, OfCbor, OfEnds, fixed_prefix, fixed_suffix}
use Rattle.ecd_apart.proofs.InBoxes.{by_boxes}
use Rattle.ecd_apart.proofs.Ends.{BeginWith, prefix_begins, suffix_begins}

pub tags_alike : (m n : ℕ) (a b : Item) → i.Tag m a ≡ i.Tag n b → (m ≡ n) × (a ≡ b)
tags_alike m n a b e = let h : o.Tag m a ≡ o.Tag n b = sym (i.outs-Tag m a) ∙ (ap out-Item e ∙ i.outs-Tag n b) in (cc, cc)

pub arrays_alike : (xs ys : List Item) → i.Array xs ≡ i.Array ys → xs ≡ ys
arrays_alike xs ys e = let h : o.Array xs ≡ o.Array ys = sym (i.outs-Array xs) ∙ (ap out-Item e ∙ i.outs-Array ys) in cc

module _ (order : Order) where
  -- what is so of a kind contradicts each value of the item under it
  abbrev pub Contradicts : (Kind → Type 0) → Item → Type 0
  Contradicts P item = (leaf : Kind) (value : Value) → KeysDiffer leaf → P leaf → Gives order leaf item value → ⊥

  -- ---- choices

  mutual
    unfolding Gives KeysDiffer AtLeaves

    pub at_leaves : (other : Kind) (item : Item) (value : Value) (P : Kind → Type 0) → Contradicts P item → KeysDiffer other → AtLeaves P other → Gives order other item value → ⊥
    at_leaves (Choice' s ways) item value P h d a q = at_all_leaves ways q.0 item q.1 P h d a q.3
    at_leaves kind item value P h d a q = h kind value d a q

    at_all_leaves : {m : _} (row : Row_of-Shape m) (number : ℕ) (item : Item) (value : Value) (P : Kind → Type 0) → Contradicts P item → ShapesDiffer row → AtAllLeaves P row → AlternativeGives order row number item value → ⊥
    at_all_leaves end_of-Shape number item value P h d a q = absurd q
    at_all_leaves (more_of-Shape at kind rest) zero item value P h d a q = at_leaves kind item value P h d.0 a.0 q
    at_all_leaves (more_of-Shape at kind rest) (suc number) item value P h d a q = at_all_leaves rest number item value P h d.1 a.1 q

  -- ---- boxes

  pub boxed : (kind : Kind) (item : Item) (value : Value) → KeysDiffer kind → Gives order kind item value → Contradicts (BoxesApart kind) item
  boxed kind item value d p leaf other e b q = by_boxes order kind leaf item value other d e b p q

  pub boxed_or : (kind : Kind) (item : Item) (value : Value) (D : Kind → Type 0) → KeysDiffer kind → Gives order kind item value → Contradicts D item → Contradicts (λ leaf. BoxesApart kind leaf ⊎ D leaf) item
  boxed_or kind item value D d p h leaf other e (inl b) q = by_boxes order kind leaf item value other d e b p q
  boxed_or kind item value D d p h leaf other e (inr b) q = h leaf other e b q

  -- ---- literals

  pub other_bytes : (bytes : List ℕ) (item : Item) → item ≡ i.Bytes bytes → Contradicts (IsOtherBytes bytes) item
  unfolding Gives
  other_bytes bytes item e (k.BytesIs others) value d a q = let h : i.Bytes bytes ≡ i.Bytes others = sym e ∙ q.0 in a cc
  other_bytes bytes item e kind value d a q = absurd a

  pub other_text : (bytes : List ℕ) (item : Item) → item ≡ i.Text bytes → Contradicts (IsOtherText bytes) item
  unfolding Gives
  other_text bytes item e (k.TextIs others) value d a q = let h : i.Text bytes ≡ i.Text others = sym e ∙ q.0 in a cc
  other_text bytes item e kind value d a q = absurd a

  -- ---- contents

  of_only : (P : Kind → Type 0) (content : Item) → Contradicts P content → {m : _} (row : Row_of-Shape m) (value : Value) → ShapesDiffer row → OfOnly P row → OnlyGives order row content value → ⊥
  unfolding Gives KeysDiffer
  of_only P content h end_of-Shape value d a q = absurd a
  of_only P content h (more_of-Shape at kind rest) value d a q = h kind value d.0 a q

  pub of_tagged : (P : Kind → Type 0) (n : ℕ) (content item : Item) → item ≡ i.Tag n content → Contradicts P content → Contradicts (OfTagged P) item
  unfolding Gives KeysDiffer
  of_tagged P n content item e h (Tag' m s inner) value d a q = of_only P content h inner value d a (subst (λ (x : Item). OnlyGives order inner x value) (sym (tags_alike n m content q.0 (sym e ∙ q.1)).1) q.3)
  of_tagged P n content item e h (AnyTag' s inner) value d a q =
      of_only P content h inner q.2 d a (subst (λ (x : Item). OnlyGives order inner x q.2) (sym (tags_alike n q.0 content q.1 (sym e ∙ q.3)).1) q.6)
  of_tagged P n content item e h kind value d a q = absurd a

  pub of_cbor : (P : Kind → Type 0) (content item : Item) → IsValid order content → item ≡ i.Bytes (encoding content) → Contradicts P content → Contradicts (OfCbor P) item
  unfolding Gives KeysDiffer
  of_cbor P content item valid e h (Cbor' s inner) value d a q =
      let f : i.Bytes (encoding content) ≡ i.Bytes (encoding q.0) = sym e ∙ q.1 in
      let same : encoding content ≡ encoding q.0 = cc in
      of_only P content h inner value d a (subst (λ (x : Item). OnlyGives order inner x value) (sym (same_encoding order content q.0 valid q.2 same)) q.3)
  of_cbor P content item valid e h kind value d a q = absurd a

  -- ---- the ends of arrays

  pub of_ends : (first last : List Kind → Type 0) (items : List Item) (item : Item) → item ≡ i.Array items → ((kinds : List Kind) → first kinds → BeginWith order kinds items → ⊥)
      → ((kinds : List Kind) → last kinds → BeginWith order kinds (reverse items) → ⊥) → Contradicts (OfEnds first last) item
  unfolding Gives KeysDiffer
  of_ends first last items item e f l (Array' s parts) value d a q = from a
    where
      same : q.0 ≡ items
      same = sym (arrays_alike items q.0 (sym e ∙ q.2))

      from : first (fixed_prefix parts) ⊎ last (fixed_suffix parts) → ⊥
      from (inl b) = f (fixed_prefix parts) b (subst (BeginWith order (fixed_prefix parts)) same (prefix_begins order parts q.0 q.1 d q.4))
      from (inr b) = l (fixed_suffix parts) b (subst (λ (xs : List Item). BeginWith order (fixed_suffix parts) (reverse xs)) same (suffix_begins order parts q.0 q.1 d q.4))
  of_ends first last items item e f l kind value d a q = absurd a
