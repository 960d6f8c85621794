-- Blocks keep their extents and their kinds.
use Rattle.std.proofs.Common.{◌≡◌, ℕ, zero, suc, List, [], ◌∷◌, length, refl, ap, sym, ◌∙◌, subst, arith, Bool, true, false}
use Rattle.std.specs.Prelude.{Option, Some, None, slice_get, slice_set, nat_le, bytes_eq, if◌then◌else◌}
use Rattle.std.proofs.lemmas.Slice.Eq.{bytes_eq-Decides}
use Rattle.ecd_cast.specs.declared.tree.StructDecl.{StructDecl}
use Rattle.ecd_cast.specs.declared.tree.CellInfo.{CellInfo}
use Rattle.ecd_cast.specs.declared.tree.CellKind.{CellKind}
use Rattle.ecd_cast.specs.declared.tree.CellKind.TheVariants.{Number as NumberCell, Pointer as PointerCell}
use Rattle.ecd_cast.specs.Memory.{Name, Memory, Block, Bytes, Cells, Event, Step, Enters, Leaves, WritesByte, WritesCell, event, after, with_byte_in, with_cell_in, with_cell}
use Rattle.ecd_cast.specs.declared.value.Cell.{Cell}
use Rattle.ecd_cast.specs.declared.value.Cell.TheVariants.{Unset, Number as HoldsNumber, Bytes as HoldsPointer}
use Rattle.ecd_cast.specs.Expressions.{cell_named, held}
use Rattle.ecd_cast.specs.Kinds.{Kind, ANumber, AReadPointer, cell_among, or_unknown, unless_known}
use Rattle.ecd_cast.specs.Fitting.{BlockKind, Fixed, Output, CellsOf, is_place, is_place_in, may_hold, AreCellsOf, AreCellsIn, IsBlockOf, AreBlocksOf}
use Rattle.ecd_csafe.proofs.Sound.{IsSound}

-- ---- extents

abbrev extent : Option Block → Option ℕ
extent (Some (Bytes bytes)) = Some (length bytes)
extent (Some (Cells cells)) = None
extent None = None

abbrev within : Option ℕ → ℕ → Bool
within (Some n) offset = nat_le offset n
within None offset = false

by_extent : (o : Option Block) (offset : ℕ) → is_place_in o offset ≡ within (extent o) offset
by_extent (Some (Bytes bytes)) offset = refl
by_extent (Some (Cells cells)) offset = refl
by_extent None offset = refl

length_set : {X : Type 0} (xs : List X) (k : ℕ) (x : X) → length (slice_set xs k x) ≡ length xs
length_set [] k x = refl
length_set (y ∷ xs) zero x = refl
length_set (y ∷ xs) (suc k) x = ap suc (length_set xs k x)

extent_set : (m : Memory) (k b : ℕ) (x y : Block) → slice_get m k ≡ Some x → extent (Some y) ≡ extent (Some x) → extent (slice_get (slice_set m k y) b) ≡ extent (slice_get m b)
extent_set [] k b x y e h = refl
extent_set (z ∷ m) zero zero x y e h = h ∙ sym (ap extent e)
extent_set (z ∷ m) zero (suc b) x y e h = refl
extent_set (z ∷ m) (suc k) zero x y e h = refl
extent_set (z ∷ m) (suc k) (suc b) x y e h = extent_set m k b x y e h

byte_extent : (o : Option Block) (at_ v k b : ℕ) (m : Memory) → slice_get m k ≡ o → extent (slice_get (with_byte_in o at_ v m k) b) ≡ extent (slice_get m b)
byte_extent (Some (Bytes bytes)) at_ v k b m e = extent_set m k b (Bytes bytes) (Bytes (slice_set bytes at_ v)) e (ap Some (length_set bytes at_ v))
byte_extent (Some (Cells cells)) at_ v k b m e = refl
byte_extent None at_ v k b m e = refl

cell_extent : (o : Option Block) (x : Name) (c : Cell) (k b : ℕ) (m : Memory) → slice_get m k ≡ o → extent (slice_get (with_cell_in o x c m k) b) ≡ extent (slice_get m b)
cell_extent (Some (Cells cells)) x c k b m e = extent_set m k b (Cells cells) (Cells (with_cell cells x c)) e refl
cell_extent (Some (Bytes bytes)) x c k b m e = refl
cell_extent None x c k b m e = refl

event_extent : (e : Event) (m : Memory) (b : ℕ) → extent (slice_get (event e m) b) ≡ extent (slice_get m b)
event_extent Step m b = refl
event_extent Enters m b = refl
event_extent Leaves m b = refl
event_extent (WritesByte k at_ v) m b = byte_extent (slice_get m k) at_ v k b m refl
event_extent (WritesCell k x c) m b = cell_extent (slice_get m k) x c k b m refl

event_place : (e : Event) (m : Memory) (b o : ℕ) → is_place (event e m) b o ≡ is_place m b o
event_place e m b o = by_extent (slice_get (event e m) b) o ∙ (ap (λ x. within x o) (event_extent e m b) ∙ sym (by_extent (slice_get m b) o))

pub after_place : (es : List Event) (m : Memory) (b o : ℕ) → is_place (after es m) b o ≡ is_place m b o
after_place [] m b o = refl
after_place (e ∷ es) m b o = after_place es (event e m) b o ∙ event_place e m b o

-- ---- kinds of blocks

module _ (m n : Memory) (same : (b o : ℕ) → is_place n b o ≡ is_place m b o) where
  hold_same : (k : CellKind) (c : Cell) → may_hold m k c ≡ true → may_hold n k c ≡ true
  hold_same NumberCell Unset h = h
  hold_same PointerCell Unset h = h
  hold_same NumberCell (HoldsNumber i) h = h
  hold_same PointerCell (HoldsNumber i) h = h
  hold_same NumberCell (HoldsPointer b o) h = h
  hold_same PointerCell (HoldsPointer b o) h = same b o ∙ h

  cells_same : (is : List CellInfo) (cs : List (Name × Cell)) → AreCellsOf m is cs → AreCellsOf n is cs
  cells_same [] [] h = tt
  cells_same [] (c ∷ cs) h = h
  cells_same (i ∷ is) [] h = h
  cells_same (i ∷ is) (c ∷ cs) h = (h.0, hold_same i.kind c.1 h.1, cells_same is cs h.2)

  in_same : (o : Option StructDecl) (cs : List (Name × Cell)) → AreCellsIn m o cs → AreCellsIn n o cs
  in_same (Some s) cs h = cells_same s.cells cs h
  in_same None cs h = h

  block_same : (S : List StructDecl) (k : BlockKind) (b : Block) → IsBlockOf S m k b → IsBlockOf S n k b
  block_same S Fixed (Bytes bytes) h = h
  block_same S Output (Bytes bytes) h = h
  block_same S (CellsOf i) (Cells cells) h = in_same (slice_get S i) cells h
  block_same S Fixed (Cells cells) h = h
  block_same S Output (Cells cells) h = h
  block_same S (CellsOf i) (Bytes bytes) h = h

  pub blocks_same : (S : List StructDecl) (ks : List BlockKind) (bs : List Block) → AreBlocksOf S m ks bs → AreBlocksOf S n ks bs
  blocks_same S [] [] h = tt
  blocks_same S [] (b ∷ bs) h = h
  blocks_same S (k ∷ ks) [] h = h
  blocks_same S (k ∷ ks) (b ∷ bs) h = (block_same S k b h.0, blocks_same S ks bs h.1)

-- the block of a kind
pub record BlockAt (S : List StructDecl) (m : Memory) (bs : List Block) (b : ℕ) (k : BlockKind) : Type 0 where
  pub block : Block
  pub stands : slice_get bs b ≡ Some block
  pub is : IsBlockOf S m k block

pub block_at : (S : List StructDecl) (m : Memory) (ks : List BlockKind) (bs : List Block) (b : ℕ) (k : BlockKind) → AreBlocksOf S m ks bs → slice_get ks b ≡ Some k → BlockAt S m bs b k
block_at S m [] bs b k h e = absurd cc
block_at S m (j ∷ ks) [] b k h e = absurd h
block_at S m (j ∷ ks) (x ∷ bs) zero k h e = let same : j ≡ k = cc in record { block = x; stands = refl; is = subst (λ (l : BlockKind). IsBlockOf S m l x) same h.0 }
block_at S m (j ∷ ks) (x ∷ bs) (suc b) k h e = let r = block_at S m ks bs b k h.1 e in record { block = r.block; stands = r.stands; is = r.is }

-- a block that is put in place of another of its kind
pub set_block : (S : List StructDecl) (m : Memory) (ks : List BlockKind) (bs : List Block) (b : ℕ) (new : Block) → AreBlocksOf S m ks bs → ((k : BlockKind) → slice_get ks b ≡ Some k → IsBlockOf S m k new) → AreBlocksOf S m ks (slice_set bs b new)
set_block S m [] [] b new h g = tt
set_block S m [] (x ∷ bs) b new h g = absurd h
set_block S m (k ∷ ks) [] b new h g = absurd h
set_block S m (k ∷ ks) (x ∷ bs) zero new h g = (g k refl, h.1)
set_block S m (k ∷ ks) (x ∷ bs) (suc b) new h g = (h.0, set_block S m ks bs b new h.1 g)

-- ---- cells

same_name : (a b : Name) → bytes_eq a b ≡ true → a ≡ b
same_name a b e = (bytes_eq-Decides a b).0 e

abbrev kind_for : CellKind → Kind
kind_for NumberCell = ANumber
kind_for PointerCell = AReadPointer

found_kind : (k : CellKind) → (elim k [ NumberCell ↦ ANumber | PointerCell ↦ AReadPointer ]) ≡ kind_for k
found_kind NumberCell = refl
found_kind PointerCell = refl

-- the cell of a name, and whether it may hold something
abbrev pub MayHoldAt : Memory → Option Kind → Cell → Type 0
MayHoldAt m (Some ANumber) c = may_hold m NumberCell c ≡ true
MayHoldAt m (Some AReadPointer) c = may_hold m PointerCell c ≡ true
MayHoldAt m o c = ⊥

may_at : (m : Memory) (k : CellKind) (c : Cell) → MayHoldAt m (Some (elim k [ NumberCell ↦ ANumber | PointerCell ↦ AReadPointer ])) c → may_hold m k c ≡ true
may_at m NumberCell c h = h
may_at m PointerCell c h = h

pub with_cell_kept : (m : Memory) (is : List CellInfo) (cs : List (Name × Cell)) (x : Name) (c : Cell) → AreCellsOf m is cs → MayHoldAt m (cell_among is x) c → AreCellsOf m is (with_cell cs x c)
with_cell_kept m [] [] x c h k = tt
with_cell_kept m [] (d ∷ cs) x c h k = absurd h
with_cell_kept m (i ∷ is) [] x c h k = absurd h
with_cell_kept m (i ∷ is) (d ∷ cs) x c h k = by_test (bytes_eq d.0 x) refl (with_cell_kept m is cs x c h.2)
  where
    by_test : (t : Bool) → bytes_eq d.0 x ≡ t → (MayHoldAt m (cell_among is x) c → AreCellsOf m is (with_cell cs x c)) → AreCellsOf m (i ∷ is) (if t then (x, c) ∷ cs else d ∷ with_cell cs x c)
    by_test true t g =
        let named : bytes_eq i.name x ≡ true = ap (λ n. bytes_eq n x) (sym h.0) ∙ t in
        (sym (same_name d.0 x t) ∙ h.0, may_at m i.kind c (rw named at k), h.2)
    by_test false t g =
        let named : bytes_eq i.name x ≡ false = ap (λ n. bytes_eq n x) (sym h.0) ∙ t in
        (h.0, h.1, g (rw named at k))

module _ (S : List StructDecl) (kinds : List BlockKind) where
  held_sound : (m : Memory) (k : CellKind) (c : Cell) → may_hold m k c ≡ true → IsSound S kinds m (elim k [ NumberCell ↦ ANumber | PointerCell ↦ AReadPointer ]) (held c)
  held_sound m NumberCell Unset h = (omega arith, omega arith)
  held_sound m PointerCell Unset h = (omega arith, omega arith)
  held_sound m NumberCell (HoldsNumber n) h = tt
  held_sound m PointerCell (HoldsNumber n) h = absurd cc
  held_sound m NumberCell (HoldsPointer b o) h = absurd cc
  held_sound m PointerCell (HoldsPointer b o) h = h

  pub cells_sound : (m : Memory) (is : List CellInfo) (cs : List (Name × Cell)) (x : Name) → AreCellsOf m is cs → unless_known (cell_among is x) ≡ [] → IsSound S kinds m (or_unknown (cell_among is x)) (cell_named cs x)
  cells_sound m [] cs x h k = absurd cc
  cells_sound m (i ∷ is) [] x h k = absurd h
  cells_sound m (i ∷ is) (d ∷ cs) x h k = by_test (bytes_eq d.0 x) refl (cells_sound m is cs x h.2)
    where
      by_test : (t : Bool) → bytes_eq d.0 x ≡ t → (unless_known (cell_among is x) ≡ [] → IsSound S kinds m (or_unknown (cell_among is x)) (cell_named cs x)) →
          IsSound S kinds m (or_unknown (cell_among (i ∷ is) x)) (if t then held d.1 else cell_named cs x)
      by_test true t g =
          let named : bytes_eq i.name x ≡ true = ap (λ n. bytes_eq n x) (sym h.0) ∙ t in
          rw named (held_sound m i.kind d.1 h.1)
      by_test false t g =
          let named : bytes_eq i.name x ≡ false = ap (λ n. bytes_eq n x) (sym h.0) ∙ t in
          rw named (g (rw named at k))
