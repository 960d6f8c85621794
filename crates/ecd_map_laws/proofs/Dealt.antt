-- The pairs of a map dealt out to its entries, each once.
use Rattle.std.proofs.Common.{◌≡◌, ℕ, ◌+◌, ◌⊎◌, inl, inr, List, [], ◌++◌, length, ◌∙◌, arith}
use Rattle.std.proofs.lemmas.List.{length-append}
use Rattle.ecd_item_laws.specs.declared.item.Item.{Item}
use Rattle.ecd_item_laws.specs.declared.item.Pair.{Pair}
use Rattle.ecd_core.specs.Lists.{IsIn}
use Rattle.ecd_apart.proofs.Distinct.{Differ, in_left, in_right, in_either, differ_append}

-- The pairs that fields take (T), by their keys (K), and those that stand in lists (S): each once, and so many.
pub record Dealt (pairs : List Pair) (T S : Pair → Type 0) (K : Item → Type 0) (n : ℕ) : Type 0 where
  pub all : List Pair
  pub long : length all ≡ n
  pub differ : Differ all
  pub whence : (p : Pair) → IsIn p all → IsIn p pairs × ((T p × K p.key) ⊎ S p)
  pub taken : (p : Pair) → IsIn p pairs → T p → IsIn p all
  pub standing : (p : Pair) → S p → IsIn p all

module _ (pairs : List Pair) where
  -- none
  pub nothing : (T S : Pair → Type 0) (K : Item → Type 0) (n : ℕ) → 0 ≡ n → ((p : Pair) → IsIn p pairs → T p → ⊥) → ((p : Pair) → S p → ⊥) → Dealt pairs T S K n
  nothing T S K n e t s = record { all = []; long = e; differ = tt; whence = λ p i. absurd i; taken = λ p i h. absurd (t p i h); standing = λ p h. absurd (s p h) }

  -- the same, told otherwise
  pub retold : (T U S : Pair → Type 0) (K L : Item → Type 0) (n m : ℕ) → n ≡ m → ((p : Pair) → T p → U p) → ((p : Pair) → U p → T p) → ((key : Item) → K key → L key) → Dealt pairs T S K n → Dealt pairs U S L m
  retold T U S K L n m e f g h d = record {
    all = d.all;
    long = d.long ∙ e;
    differ = d.differ;
    whence = λ p i. ((d.whence p i).0, from p (d.whence p i).1);
    taken = λ p i t. d.taken p i (g p t);
    standing = d.standing;
  }
    where
      from : (p : Pair) → (T p × K p.key) ⊎ S p → (U p × L p.key) ⊎ S p
      from p (inl t) = inl (f p t.0, h p.key t.1)
      from p (inr s) = inr s

  -- those of some entries and those of others, none of which is of both
  pub join : (T U S R Q : Pair → Type 0) (K L : Item → Type 0) (n m : ℕ) → ((key : Item) → K key → L key → ⊥) → ((p : Pair) → S p → U p → ⊥) → ((p : Pair) → T p → R p → ⊥) → ((p : Pair) → S p → R p → ⊥)
      → ((p : Pair) → Q p → S p ⊎ R p) → ((p : Pair) → S p ⊎ R p → Q p) → Dealt pairs T S K n → Dealt pairs U R L m → Dealt pairs (λ p. T p ⊎ U p) Q (λ key. K key ⊎ L key) (n + m)
  join T U S R Q K L n m apart su tr sr to from d e = record {
    all = d.all ++ e.all;
    long = omega (arith, length-append d.all e.all, d.long, e.long);
    differ = differ_append d.all e.all d.differ e.differ (λ p i j. clash p (d.whence p i).1 (e.whence p j).1);
    whence = λ p i. source p (in_either p d.all e.all i);
    taken = take_in;
    standing = λ p s. stand_in p (to p s);
  }
    where
      clash : (p : Pair) → (T p × K p.key) ⊎ S p → (U p × L p.key) ⊎ R p → ⊥
      clash p (inl s) (inl t) = apart p.key s.1 t.1
      clash p (inl s) (inr t) = tr p s.0 t
      clash p (inr s) (inl t) = su p s t.0
      clash p (inr s) (inr t) = sr p s t

      left : (p : Pair) → (T p × K p.key) ⊎ S p → ((T p ⊎ U p) × (K p.key ⊎ L p.key)) ⊎ Q p
      left p (inl h) = inl (inl h.0, inl h.1)
      left p (inr h) = inr (from p (inl h))

      right : (p : Pair) → (U p × L p.key) ⊎ R p → ((T p ⊎ U p) × (K p.key ⊎ L p.key)) ⊎ Q p
      right p (inl h) = inl (inr h.0, inr h.1)
      right p (inr h) = inr (from p (inr h))

      source : (p : Pair) → IsIn p d.all ⊎ IsIn p e.all → IsIn p pairs × (((T p ⊎ U p) × (K p.key ⊎ L p.key)) ⊎ Q p)
      source p (inl i) = let w = d.whence p i in (w.0, left p w.1)
      source p (inr i) = let w = e.whence p i in (w.0, right p w.1)

      take_in : (p : Pair) → IsIn p pairs → T p ⊎ U p → IsIn p (d.all ++ e.all)
      take_in p i (inl t) = in_left p d.all e.all (d.taken p i t)
      take_in p i (inr u) = in_right p d.all e.all (e.taken p i u)

      stand_in : (p : Pair) → S p ⊎ R p → IsIn p (d.all ++ e.all)
      stand_in p (inl s) = in_left p d.all e.all (d.standing p s)
      stand_in p (inr r) = in_right p d.all e.all (e.standing p r)
