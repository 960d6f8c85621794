-- Maps from the names of cells.
use Rattle.std.proofs.Common.{◌≡◌, ℕ, zero, suc, ◌+◌, ◌<◌, List, [], ◌∷◌, ◌++◌, length, get_or, take, refl, ap, sym, ◌∙◌, subst, Bool, true, false}
use Rattle.std.specs.Prelude.{Option, Some, None, if◌then◌else◌, bytes_eq, slice_get}
use Rattle.std.specs.BTreeMap.{BTreeMap}
use Rattle.std.specs.declared.vec.Vec.{Vec}
use Rattle.std.proofs.lemmas.List.{take_more}
use Rattle.ecd_cast.specs.declared.tree.CellInfo.{CellInfo}
use Rattle.ecd_cast.specs.declared.tree.CellKind.{CellKind}
use Rattle.ecd_cast.specs.declared.tree.CellKind.TheVariants.{Number as NumberCell, Pointer as PointerCell}
use Rattle.ecd_cast.specs.declared.tree.CItem.{CItem}
use Rattle.ecd_cast.specs.Memory.{Name}
use Rattle.ecd_cast.specs.ByName.{under}
use Rattle.ecd_cast.specs.Kinds.{Kind, ANumber, AReadPointer, cell_among}
use Rattle.ecd_cscope.specs.Surroundings.{cell_kind, cell_if, cells_in, struct_in, or_first, HasCells}

by_kind : (k : CellKind) → Some (elim k [ NumberCell ↦ ANumber | PointerCell ↦ AReadPointer ]) ≡ Some (cell_kind k)
by_kind NumberCell = refl
by_kind PointerCell = refl

cell-append : (is : List CellInfo) (x : CellInfo) (c : Name) → cell_among (is ++ x ∷ []) c ≡ or_first (cell_among is c) (if bytes_eq x.name c then Some (cell_kind x.kind) else None)
cell-append [] x c = by_test (bytes_eq x.name c)
  where
    by_test : (b : Bool) → (if b then Some (elim x.kind [ NumberCell ↦ ANumber | PointerCell ↦ AReadPointer ]) else None) ≡ (if b then Some (cell_kind x.kind) else None)
    by_test true = by_kind x.kind
    by_test false = refl
cell-append (i ∷ is) x c = by_test (bytes_eq i.name c) (cell-append is x c)
  where
    by_test : (b : Bool) → cell_among (is ++ x ∷ []) c ≡ or_first (cell_among is c) (if bytes_eq x.name c then Some (cell_kind x.kind) else None) →
        (if b then Some (elim i.kind [ NumberCell ↦ ANumber | PointerCell ↦ AReadPointer ]) else cell_among (is ++ x ∷ []) c) ≡
        or_first (if b then Some (elim i.kind [ NumberCell ↦ ANumber | PointerCell ↦ AReadPointer ]) else cell_among is c) (if bytes_eq x.name c then Some (cell_kind x.kind) else None)
    by_test true h = refl
    by_test false h = h

kind-first : (o : Option CellKind) (k : CellKind) (b : Bool) → cell_if (or_first o (if b then Some k else None)) ≡ or_first (cell_if o) (if b then Some (cell_kind k) else None)
kind-first (Some j) k b = refl
kind-first None k true = refl
kind-first None k false = refl

-- one more cell
pub cell-more : {A : Type 0} (old new : BTreeMap (Vec ℕ A) CellKind) (is : List CellInfo) (i : ℕ) (x : CellInfo) (name : Name) → i < length is → x ≡ get_or is i x → name ≡ x.name →
    ((c : Name) → cell_if (under old c) ≡ cell_among (take i is) c) → ((c : Name) → under new c ≡ or_first (under old c) (if bytes_eq name c then Some x.kind else None)) →
    (c : Name) → cell_if (under new c) ≡ cell_among (take (i + 1) is) c
cell-more old new is i x name h e same k u c =
    let more : take (i + 1) is ≡ take i is ++ x ∷ [] = take_more is i x h ∙ ap (λ y. take i is ++ y ∷ []) (sym e) in
    ap cell_if (u c) ∙ (kind-first (under old c) x.kind (bytes_eq name c) ∙ ((λ j. or_first (k c j) (if bytes_eq (same j) c then Some (cell_kind x.kind) else None)) ∙
    sym (ap (λ (l : List CellInfo). cell_among l c) more ∙ cell-append (take i is) x c)))

-- ---- one more item

module _ {A : Type 0} where
  has-append : (is : List CItem) (ms : List (BTreeMap (Vec ℕ A) CellKind)) (i : CItem) (m : BTreeMap (Vec ℕ A) CellKind) → HasCells is ms → ((c : Name) → cell_if (under m c) ≡ cells_in (struct_in (Some i)) c) →
      HasCells (is ++ i ∷ []) (ms ++ m ∷ [])
  has-append [] [] i m h k = (k, tt)
  has-append [] (n ∷ ms) i m h k = absurd h
  has-append (j ∷ is) [] i m h k = absurd h
  has-append (j ∷ is) (n ∷ ms) i m h k = (h.0, has-append is ms i m h.1 k)

  pub has-more : (is : List CItem) (n : ℕ) (i : CItem) (ms ms' : List (BTreeMap (Vec ℕ A) CellKind)) (m : BTreeMap (Vec ℕ A) CellKind) → n < length is → i ≡ get_or is n i → HasCells (take n is) ms →
      ((c : Name) → cell_if (under m c) ≡ cells_in (struct_in (Some i)) c) → ms' ≡ ms ++ m ∷ [] → HasCells (take (n + 1) is) ms'
  has-more is n i ms ms' m h e k l made =
      let more : take (n + 1) is ≡ take n is ++ i ∷ [] = take_more is n i h ∙ ap (λ y. take n is ++ y ∷ []) (sym e) in
      subst (λ (xs : List CItem). HasCells xs ms') (sym more) (subst (λ (ys : List (BTreeMap (Vec ℕ A) CellKind)). HasCells (take n is ++ i ∷ []) ys) (sym made) (has-append (take n is) ms i m k l))

  -- ---- what the maps answer

  abbrev pub cell_under : Option (BTreeMap (Vec ℕ A) CellKind) → Name → Option Kind
  cell_under None c = None
  cell_under (Some m) c = cell_if (under m c)

  pub has-at : (is : List CItem) (ms : List (BTreeMap (Vec ℕ A) CellKind)) → HasCells is ms → (n : ℕ) (c : Name) → cell_under (slice_get ms n) c ≡ cells_in (struct_in (slice_get is n)) c
  has-at [] [] h n c = refl
  has-at [] (m ∷ ms) h n c = absurd h
  has-at (i ∷ is) [] h n c = absurd h
  has-at (i ∷ is) (m ∷ ms) h zero c = h.0 c
  has-at (i ∷ is) (m ∷ ms) h (suc n) c = has-at is ms h.1 n c
