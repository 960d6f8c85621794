-- Items that are put behind others, one by one.
use Rattle.std.proofs.Common.{◌≡◌, ◌≤◌, List, [], ◌∷◌, ◌++◌, length, take, refl, ap, sym, ◌∙◌, subst, arith, append_assoc, append-nil}
use Rattle.std.specs.Prelude.{Result, Ok, Err, OnErr}
use Rattle.std.proofs.lemmas.List.{length-append}
use Rattle.std.proofs.Math.Seq.{take-append_seam}
use Rattle.ecd_cast.specs.declared.tree.CItem.{CItem}
use Rattle.ecd_cast.specs.Validity.{IsValidAfter}
use Rattle.ecd_cast.specs.Spelling.{IsSpelledItem, AreSpelledItems}
use Rattle.ecd_cbuild.specs.Built.{AreValidAfter, GrewByFirst}

-- some first of the items stand behind the old ones, and the rest is left
pub record Partway (old items now rest : List CItem) : Type 0 where
  pub front : List CItem
  pub items_are : items ≡ front ++ rest
  pub now_is : now ≡ old ++ front
  pub valid : AreValidAfter now rest
  pub spelled : AreSpelledItems rest

pub begun : (old items rest : List CItem) → rest ≡ items → AreValidAfter old items → AreSpelledItems items → Partway old items old rest
begun old items rest e v s =
    let here : Partway old items old items = record { front = []; items_are = refl; now_is = sym (append-nil old); valid = v; spelled = s } in
    subst (λ (xs : List CItem). Partway old items old xs) (sym e) here

module _ (old items now rest : List CItem) (h : Partway old items now rest) where
  pub partly : GrewByFirst old items now
  partly =
      let count = ap length h.items_are ∙ length-append h.front rest in
      let first : take (length h.front) items ≡ h.front = ap (take (length h.front)) h.items_are ∙ take-append_seam h.front rest in
      let within : length h.front ≤ length items = omega (arith, count) in
      record { count = length h.front; within = within; are = h.now_is ∙ ap (λ l. old ++ l) (sym first) }

  pub wholly : rest ≡ [] → now ≡ old ++ items
  wholly e = h.now_is ∙ ap (λ l. old ++ l) (sym (h.items_are ∙ (ap (λ l. h.front ++ l) e ∙ append-nil h.front)))

  module _ (item : CItem) (more : List CItem) (e : rest ≡ item ∷ more) where
    pub next_valid : IsValidAfter now item
    next_valid = (subst (λ (xs : List CItem). AreValidAfter now xs) e h.valid).0

    pub next_spelled : IsSpelledItem item
    next_spelled = (subst AreSpelledItems e h.spelled).0

    pub one_more : (new : List CItem) → new ≡ now ++ item ∷ [] → Partway old items new more
    one_more new k =
        let grown : Partway old items (now ++ item ∷ []) more = record {
          front = h.front ++ item ∷ [];
          items_are = h.items_are ∙ (ap (λ l. h.front ++ l) e ∙ sym (append_assoc h.front (item ∷ []) more));
          now_is = ap (λ l. l ++ item ∷ []) h.now_is ∙ append_assoc old h.front (item ∷ []);
          valid = (subst (λ (xs : List CItem). AreValidAfter now xs) e h.valid).1;
          spelled = (subst AreSpelledItems e h.spelled).1;
        } in
        subst (λ (xs : List CItem). Partway old items xs more) (sym k) grown

pub on_any : {X Y : Type 0} (r : Result X Y) (P : Type 0) → P → OnErr r P
on_any (Ok x) P h = tt
on_any (Err x) P h = h

-- ---- lists of items behind each other

pub valid_append : (before xs ys : List CItem) → AreValidAfter before xs → AreValidAfter (before ++ xs) ys → AreValidAfter before (xs ++ ys)
valid_append before [] ys h k = subst (λ (is : List CItem). AreValidAfter is ys) (append-nil before) k
valid_append before (x ∷ xs) ys h k =
    (h.0, valid_append (before ++ x ∷ []) xs ys h.1 (subst (λ (is : List CItem). AreValidAfter is ys) (sym (append_assoc before (x ∷ []) xs)) k))

pub spelled_append : (xs ys : List CItem) → AreSpelledItems xs → AreSpelledItems ys → AreSpelledItems (xs ++ ys)
spelled_append [] ys h k = k
spelled_append (x ∷ xs) ys h k = (h.0, spelled_append xs ys h.1 k)
