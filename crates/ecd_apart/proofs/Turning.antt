-- Parts of the test the other way round.
use Rattle.std.proofs.Common.{ℕ, ◌⊎◌, inl, inr, List, [], ◌∷◌, sym}
use mathlib.Core.Former.{Count}
use Rattle.ecd_core.specs.declared.shape.Kind.{Kind, Choice', Tag', Cbor', AnyTag', Array', Map', Row_of-Shape, end_of-Shape, more_of-Shape}
use Rattle.ecd_core.specs.declared.shape.Kind.TheVariants as k
use Rattle.ecd_core.specs.Lists.{Each}
use Rattle.ecd_apart.specs.Keys.{HasCut}
use Rattle.ecd_apart.specs.Boxes.{Box, boxes, ShareNone, BoxesApart}
use Rattle.ecd_apart.specs.Apart.{AtLeaves, AtAllLeaves, IsOtherBytes, IsOtherText, OfOnly, OfTagged, OfCbor, OfEnds, MapNeeds, Apart, OnlyApart, EachApart, FirstApart, LastApart, NeededMisses, AreMissed}

-- ---- boxes

share_back : (b c : Box) → ShareNone b c → ShareNone c b
share_back b c (inl (inl h)) = inl (inr h)
share_back b c (inl (inr h)) = inl (inl h)
share_back b c (inr (inl h)) = inr (inr (inl h))
share_back b c (inr (inr (inl h))) = inr (inl h)
share_back b c (inr (inr (inr (inl h)))) = inr (inr (inr (inr h)))
share_back b c (inr (inr (inr (inr h)))) = inr (inr (inr (inl h)))

first_column : (c : Box) (cs bs : List Box) → Each (λ b. Each (ShareNone b) (c ∷ cs)) bs → Each (ShareNone c) bs
first_column c cs [] h = tt
first_column c cs (b ∷ bs) h = (share_back b c h.0.0, first_column c cs bs h.1)

other_columns : (c : Box) (cs bs : List Box) → Each (λ b. Each (ShareNone b) (c ∷ cs)) bs → Each (λ b. Each (ShareNone b) cs) bs
other_columns c cs [] h = tt
other_columns c cs (b ∷ bs) h = (h.0.1, other_columns c cs bs h.1)

columns : (bs cs : List Box) → Each (λ b. Each (ShareNone b) cs) bs → Each (λ c. Each (ShareNone c) bs) cs
columns bs [] h = tt
columns bs (c ∷ cs) h = (first_column c cs bs h, columns bs cs (other_columns c cs bs h))

pub boxes_back : (s t : Kind) → BoxesApart s t → BoxesApart t s
boxes_back s t h = columns (boxes s) (boxes t) h

-- ---- shapes that are no choices

abbrev pub IsLeaf : Kind → Type 0
IsLeaf (Choice' s ways) = ⊥
IsLeaf kind = Unit {0}

-- what makes two of them apart beside their boxes
abbrev pub InnerApart : Kind → Kind → Type 0
InnerApart (k.BytesIs bytes) leaf = IsOtherBytes bytes leaf
InnerApart (k.TextIs bytes) leaf = IsOtherText bytes leaf
InnerApart (Tag' n s inner) leaf = OfTagged (OnlyApart inner) leaf
InnerApart (AnyTag' s inner) leaf = OfTagged (OnlyApart inner) leaf
InnerApart (Cbor' s inner) leaf = OfCbor (OnlyApart inner) leaf
InnerApart (Array' s parts) leaf = OfEnds (FirstApart parts) (LastApart parts) leaf
InnerApart (Map' s entries) leaf = NeededMisses entries leaf ⊎ MapNeeds (λ key kind. AreMissed entries key kind (HasCut entries key)) leaf
InnerApart kind leaf = ⊥

at_leaf : (P : Kind → Type 0) (leaf : Kind) → IsLeaf leaf → P leaf → AtLeaves P leaf
unfolding AtLeaves
at_leaf P (Choice' s ways) l h = absurd l
at_leaf P leaf l h = h

of_boxes : (B : Type 0) → B ⊎ ⊥ → B
of_boxes B (inl b) = b
of_boxes B (inr e) = absurd e

pub leaf_apart : (s t : Kind) → IsLeaf s → IsLeaf t → BoxesApart s t ⊎ InnerApart s t → Apart s t
unfolding Apart
leaf_apart (Choice' s ways) t l r h = absurd l
leaf_apart (k.BytesIs bytes) t l r h = at_leaf (λ leaf. BoxesApart (k.BytesIs bytes) leaf ⊎ IsOtherBytes bytes leaf) t r h
leaf_apart (k.TextIs bytes) t l r h = at_leaf (λ leaf. BoxesApart (k.TextIs bytes) leaf ⊎ IsOtherText bytes leaf) t r h
leaf_apart (Tag' n s inner) t l r h = at_leaf (λ leaf. BoxesApart (Tag' n s inner) leaf ⊎ OfTagged (OnlyApart inner) leaf) t r h
leaf_apart (AnyTag' s inner) t l r h = at_leaf (λ leaf. BoxesApart (AnyTag' s inner) leaf ⊎ OfTagged (OnlyApart inner) leaf) t r h
leaf_apart (Cbor' s inner) t l r h = at_leaf (λ leaf. BoxesApart (Cbor' s inner) leaf ⊎ OfCbor (OnlyApart inner) leaf) t r h
leaf_apart (Array' s parts) t l r h = at_leaf (λ leaf. BoxesApart (Array' s parts) leaf ⊎ OfEnds (FirstApart parts) (LastApart parts) leaf) t r h
leaf_apart (Map' s entries) t l r h =
    at_leaf (λ leaf. BoxesApart (Map' s entries) leaf ⊎ (NeededMisses entries leaf ⊎ MapNeeds (λ key kind. AreMissed entries key kind (HasCut entries key)) leaf)) t r h
leaf_apart kind t l r h = at_leaf (BoxesApart kind) t r (of_boxes (BoxesApart kind t) h)

-- ---- choices

mutual
  unfolding AtLeaves Apart

  -- where each alternative's test is turned, so is that of a choice of them
  pub leaves_back : (P : Kind → Type 0) (s t : Kind) → ((leaf : Kind) → IsLeaf leaf → P leaf → Apart leaf s) → AtLeaves P t → Apart t s
  leaves_back P s (Choice' x ways) h a = all_leaves_back P s ways h a
  leaves_back P s kind h a = h kind tt a

  all_leaves_back : (P : Kind → Type 0) (s : Kind) {m : _} (row : Row_of-Shape m) → ((leaf : Kind) → IsLeaf leaf → P leaf → Apart leaf s) → AtAllLeaves P row → EachApart row s
  all_leaves_back P s end_of-Shape h a = tt
  all_leaves_back P s (more_of-Shape at kind rest) h a = (leaves_back P s kind h a.0, all_leaves_back P s rest h a.1)

-- It holds of each shape of the row.
abbrev pub OfAll : (Kind → Type 0) → {m : _} → Row_of-Shape m → Type 0
OfAll P end_of-Shape = Unit {0}
OfAll P (more_of-Shape at kind rest) = P kind × OfAll P rest

all_so : (P Q : Kind → Type 0) → ((kind : Kind) → P kind → Q kind) → {m : _} (row : Row_of-Shape m) → OfAll P row → OfAll Q row
all_so P Q f end_of-Shape h = tt
all_so P Q f (more_of-Shape at kind rest) h = (f kind h.0, all_so P Q f rest h.1)

all_leaves : (P : Kind → Type 0) {m : _} (row : Row_of-Shape m) → OfAll (AtLeaves P) row → AtAllLeaves P row
unfolding AtLeaves
all_leaves P end_of-Shape h = tt
all_leaves P (more_of-Shape at kind rest) h = (h.0, all_leaves P rest h.1)

mutual
  unfolding AtLeaves Apart

  -- a shape that is apart from each alternative is apart from the choice
  pub choice_apart : (t : Kind) (s : List (Unit {0})) (row : _) → OfAll (λ kind. Apart t kind) row → Apart t (Choice' s row)
  choice_apart (Choice' x ways) s row h = choices_apart ways s row h
  choice_apart (k.BytesIs bytes) s row h = all_leaves (λ leaf. BoxesApart (k.BytesIs bytes) leaf ⊎ IsOtherBytes bytes leaf) row h
  choice_apart (k.TextIs bytes) s row h = all_leaves (λ leaf. BoxesApart (k.TextIs bytes) leaf ⊎ IsOtherText bytes leaf) row h
  choice_apart (Tag' n x inner) s row h = all_leaves (λ leaf. BoxesApart (Tag' n x inner) leaf ⊎ OfTagged (OnlyApart inner) leaf) row h
  choice_apart (AnyTag' x inner) s row h = all_leaves (λ leaf. BoxesApart (AnyTag' x inner) leaf ⊎ OfTagged (OnlyApart inner) leaf) row h
  choice_apart (Cbor' x inner) s row h = all_leaves (λ leaf. BoxesApart (Cbor' x inner) leaf ⊎ OfCbor (OnlyApart inner) leaf) row h
  choice_apart (Array' x parts) s row h = all_leaves (λ leaf. BoxesApart (Array' x parts) leaf ⊎ OfEnds (FirstApart parts) (LastApart parts) leaf) row h
  choice_apart (Map' x entries) s row h =
      all_leaves (λ leaf. BoxesApart (Map' x entries) leaf ⊎ (NeededMisses entries leaf ⊎ MapNeeds (λ key kind. AreMissed entries key kind (HasCut entries key)) leaf)) row h
  choice_apart kind s row h = all_leaves (BoxesApart kind) row h

  choices_apart : {l : _} (ways : Row_of-Shape l) (s : List (Unit {0})) (row : _) → OfAll (λ kind. EachApart ways kind) row → EachApart ways (Choice' s row)
  choices_apart end_of-Shape s row h = tt
  choices_apart (more_of-Shape at kind rest) s row h = (choice_apart kind s row (all_so _ _ (λ x p. p.0) row h), choices_apart rest s row (all_so _ _ (λ x p. p.1) row h))

-- ---- literals and contents

pub bytes_back : (bytes : List ℕ) (leaf : Kind) → IsOtherBytes bytes leaf → InnerApart leaf (k.BytesIs bytes)
bytes_back bytes (k.BytesIs others) h = λ e. h (sym e)
bytes_back bytes leaf h = absurd h

pub text_back : (bytes : List ℕ) (leaf : Kind) → IsOtherText bytes leaf → InnerApart leaf (k.TextIs bytes)
text_back bytes (k.TextIs others) h = λ e. h (sym e)
text_back bytes leaf h = absurd h

-- the content is apart from what others are apart from it
abbrev pub IsOnlyBack : {n : _} → Row_of-Shape n → Type 0
IsOnlyBack inner = (m : Count) (row : Row_of-Shape m) → OfOnly (OnlyApart inner) row → OfOnly (OnlyApart row) inner

pub tagged_back : {n : _} (inner : Row_of-Shape n) (s : Kind) → ((P : Kind → Type 0) → OfOnly P inner → OfTagged P s) → IsOnlyBack inner → (leaf : Kind) → OfTagged (OnlyApart inner) leaf → InnerApart leaf s
tagged_back inner s enter h (Tag' m x row) a = enter (OnlyApart row) (h _ row a)
tagged_back inner s enter h (AnyTag' x row) a = enter (OnlyApart row) (h _ row a)
tagged_back inner s enter h leaf a = absurd a

pub cbor_back : {n : _} (inner : Row_of-Shape n) (s : Kind) → ((P : Kind → Type 0) → OfOnly P inner → OfCbor P s) → IsOnlyBack inner → (leaf : Kind) → OfCbor (OnlyApart inner) leaf → InnerApart leaf s
cbor_back inner s enter h (Cbor' x row) a = enter (OnlyApart row) (h _ row a)
cbor_back inner s enter h leaf a = absurd a
