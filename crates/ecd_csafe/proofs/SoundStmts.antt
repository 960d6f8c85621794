-- Statements of valid code.
use Rattle.std.proofs.Common.{◌≡◌, ℕ, zero, suc, ◌+◌, List, [], ◌∷◌, ◌++◌, length, refl, ap, sym, ◌∙◌, subst, arith, Bool, true, false, ◌⊎◌, inl, inr}
use Rattle.std.specs.Prelude.{Option, Some, None, slice_get, slice_set, nat_lt, bytes_eq, if◌then◌else◌, ◌%◌, not}
use Rattle.ecd_cast.specs.declared.tree.Expr.{Expr}
use Rattle.ecd_cast.specs.declared.tree.Source.{Source}
use Rattle.ecd_cast.specs.declared.tree.Stmt.{Stmt, Row_of-Stmt, end_of-Stmt, more_of-Stmt}
use Rattle.ecd_cast.specs.declared.tree.Stmt.TheVariants.{Number as DeclNumber, Pointer as DeclPointer, Assign, Store, SetCell, If', For', Return}
use Rattle.ecd_cast.specs.declared.tree.Function.{Function}
use Rattle.ecd_cast.specs.declared.tree.StructDecl.{StructDecl}
use Rattle.ecd_cast.specs.declared.tree.CellInfo.{CellInfo}
use Rattle.ecd_cast.specs.declared.tree.CellKind.{CellKind}
use Rattle.ecd_cast.specs.declared.tree.CellKind.TheVariants.{Number as NumberCell, Pointer as PointerCell}
use Rattle.ecd_cast.specs.Memory.{Name, Memory, Block, Bytes, Cells, WritesByte, WritesCell, event, after, with_cell_in, with_cell}
use Rattle.ecd_cast.specs.declared.value.Cell.{Cell}
use Rattle.ecd_cast.specs.declared.value.Cell.TheVariants.{Number as HoldsNumber, Bytes as HoldsPointer}
use Rattle.ecd_cast.specs.declared.value.Value.{Value}
use Rattle.ecd_cast.specs.declared.value.Value.TheVariants.{Number as Num, Truth, Bytes as Ptr, Struct as Str}
use Rattle.ecd_cast.specs.Expressions.{Scopes, lookup, given, value_of}
use Rattle.ecd_cast.specs.Meaning.{Run, Returns, and_then, fall, Place, shifted, stuck, with, on_number, on_truth, declare, assign, leave, Calls, write, store_in, store, set_cell, Code, scoped, turns, count_of, count_in, does, does_row, block}
use Rattle.ecd_cast.specs.Kinds.{Kind, ANumber, ATruth, AReadPointer, AWritePointer, Unknown, AStruct, Known, takes, kind_in, cell_of, cell_among, or_unknown, member, unless, unless_known, asked, asked_cell, broken_as}
use Rattle.ecd_cast.specs.Validity.{Around, at_place, source_broken, function_named, assignable, assigned_kind, known_after, stmt_faults, row_faults, block_faults, is_among}
use Rattle.ecd_cast.specs.Fitting.{BlockKind, CellsOf, is_place, is_place_in, is_struct, params_take, IsBlockOf, AreBlocksOf, AreCellsIn, AreCellsOf}
use Rattle.ecd_cast.proofs.Kept.{front_nil, back_nil}
use Rattle.ecd_csafe.proofs.Sound.{no_rule, HasKind, FitsBoth}
use Rattle.ecd_csafe.proofs.Places.{after_place, blocks_same, set_block, with_cell_kept, MayHoldAt}
use Rattle.ecd_csafe.proofs.SoundScopes.{flatten, AllFit, lookup_fits, fits_after, declared_fits, assigned_fits, IsKinded, Safe, byte_safe}
use Rattle.ecd_csafe.proofs.SoundRuns.{Agrees, no_fault, kind_taken, Keeps, CallKeeps, then_keeps, step_keeps, struct_at, asked_keeps, source_keeps}

cell_kinds : (is : List CellInfo) (c : Name) (k : Kind) → cell_among is c ≡ Some k → (k ≡ ANumber) ⊎ (k ≡ AReadPointer)
cell_kinds [] c k e = absurd cc
cell_kinds (i ∷ is) c k e = by_test (bytes_eq i.name c) refl (cell_kinds is c k)
  where
    by_kind : (j : CellKind) → Some (elim j [ NumberCell ↦ ANumber | PointerCell ↦ AReadPointer ]) ≡ Some k → (k ≡ ANumber) ⊎ (k ≡ AReadPointer)
    by_kind NumberCell h = let same : k ≡ ANumber = cc in inl same
    by_kind PointerCell h = let same : k ≡ AReadPointer = cc in inr same

    by_test : (t : Bool) → bytes_eq i.name c ≡ t → (cell_among is c ≡ Some k → (k ≡ ANumber) ⊎ (k ≡ AReadPointer)) → (k ≡ ANumber) ⊎ (k ≡ AReadPointer)
    by_test true t g = by_kind i.kind (rw t at e)
    by_test false t g = g (rw t at e)

not_unknown : (is : List CellInfo) (c : Name) (k : Kind) → cell_among is c ≡ Some k → k ≡ Unknown → ⊥
not_unknown is c k e u = by_kind (cell_kinds is c k e)
  where
    by_kind : (k ≡ ANumber) ⊎ (k ≡ AReadPointer) → ⊥
    by_kind (inl x) = let bad : Unknown ≡ ANumber = sym u ∙ x in cc
    by_kind (inr x) = let bad : Unknown ≡ AReadPointer = sym u ∙ x in cc

after-known : (s : Stmt) (a b : Known) → known_after s (a ++ b) ≡ known_after s a ++ b
after-known (DeclNumber x e) a b = refl
after-known (DeclPointer x e) a b = refl
after-known (Assign x e) a b = refl
after-known (Store x i e) a b = refl
after-known (SetCell x c e) a b = refl
after-known (If' t s ys u ns) a b = refl
after-known (For' x b' s body) a b = refl
after-known (Return e) a b = refl

module _ (S : List StructDecl) (kinds : List BlockKind) (St : List StructDecl) (earlier later : List Function) (calls : Calls) (agrees : Agrees S St)
    (known_calls : (g : Name) (f : Function) → function_named earlier g ≡ Some f → (m : Memory) (vs : List Value) → IsKinded S kinds m → params_take S kinds m f.params vs ≡ true → CallKeeps S kinds m (calls g vs m)) where
  abbrev A : List Name → Around
  A loops = record { structs = St; earlier = earlier; later = later; loops = loops }

  -- scopes with these frames, and with one more that a block has made
  abbrev Fits : List Known → Memory → Scopes → Type 0
  Fits ks m env = AllFit S kinds m env ks

  abbrev FitsIn : List Known → Memory → Scopes → Type 0
  FitsIn ks m env = (kn : Known) × AllFit S kinds m env (kn ∷ ks)

  left_fits : (m : Memory) (env : Scopes) (kn : Known) (ks : List Known) → AllFit S kinds m env (kn ∷ ks) → AllFit S kinds m (leave env) ks
  left_fits m [] kn ks h = absurd h
  left_fits m (f ∷ fs) kn ks h = h.1

  scoped_keeps : (m : Memory) (env : Scopes) (ks : List Known) (code : Code) → IsKinded S kinds m → Keeps S kinds m (FitsIn ks) (code ([] ∷ env) m) → Keeps S kinds m (Fits ks) (scoped code env m)
  scoped_keeps m env ks code w h = then_keeps S kinds m (FitsIn ks) (Fits ks) (code ([] ∷ env) m) (λ env' m'. fall (leave env')) w h (λ e n wn fit. (tt, left_fits n e fit.0 ks fit.1))

  turns_keeps : (n i : ℕ) (x : Name) (code : Code) (m : Memory) (env : Scopes) (ks : List Known) → IsKinded S kinds m → AllFit S kinds m env ks →
      ((j : ℕ) (e : Scopes) (k : Memory) → IsKinded S kinds k → AllFit S kinds k e ks → Keeps S kinds k (FitsIn ks) (code (((x, Num j) ∷ []) ∷ e) k)) → Keeps S kinds m (Fits ks) (turns n i x code env m)
  turns_keeps zero i x code m env ks w h g = (tt, h)
  turns_keeps (suc n) i x code m env ks w h g =
      step_keeps S kinds m (Fits ks) (and_then (code (((x, Num i) ∷ []) ∷ env) m) m (λ env' m'. turns n (i + 1) x code (leave env') m')) w
      (then_keeps S kinds m (FitsIn ks) (Fits ks) (code (((x, Num i) ∷ []) ∷ env) m) (λ env' m'. turns n (i + 1) x code (leave env') m') w (g i env m w h)
      (λ e k wk fit. turns_keeps n (i + 1) x code k (leave e) ks wk (left_fits k e fit.0 ks fit.1) g))

  taken : (b : Bool) (m : Memory) (env : Scopes) (ks : List Known) (p : Place) (code other : Code) → IsKinded S kinds m → Keeps S kinds m (FitsIn ks) (code ([] ∷ env) m) → Keeps S kinds m (FitsIn ks) (other ([] ∷ env) m) → Keeps S kinds m (Fits ks) (on_truth p (Truth b) (λ _. scoped code env m) (λ _. scoped other env m))
  taken true m env ks p code other w h g = scoped_keeps m env ks code w h
  taken false m env ks p code other w h g = scoped_keeps m env ks other w g

  -- ---- stores

  store_in_keeps : (m : Memory) (P : Memory → Scopes → Type 0) (p : Place) (o : Option Block) (b at_ i n : ℕ) (env : Scopes) → IsKinded S kinds m → is_place_in o at_ ≡ true → P (event (WritesByte b (at_ + i) (n % 256)) m) env → Keeps S kinds m P (store_in p o b (at_ + i) n env)
  store_in_keeps m P p (Some (Bytes bytes)) b at_ i n env w h g = by_test (nat_lt (at_ + i) (length bytes))
    where
      by_test : (t : Bool) → Keeps S kinds m P (if t then write env (WritesByte b (at_ + i) (n % 256)) else stuck p 2)
      by_test true = (byte_safe S kinds m b (at_ + i) (n % 256) w, g)
      by_test false = (tt, (omega arith, omega arith))
  store_in_keeps m P p (Some (Cells cells)) b at_ i n env w h g = absurd cc
  store_in_keeps m P p None b at_ i n env w h g = absurd cc

  -- a variable that has to be of a kind
  variable_keeps : (m : Memory) (P : Memory → Scopes → Type 0) (p : Place) (k : Kind) (o : Option Kind) (l : Option Value) (f : Value → Run) → FitsBoth S kinds m o l → asked k o ≡ [] → (k ≡ Unknown → ⊥) → ((v : Value) → HasKind S kinds m k v → Keeps S kinds m P (f v)) → Keeps S kinds m P (with p (given l) f)
  variable_keeps m P p k (Some got) (Some v) f h e u g = g v (kind_taken S kinds m k got v (no_rule (takes k got) 2 e) h u)
  variable_keeps m P p k (Some got) None f h e u g = absurd h
  variable_keeps m P p k None l f h e u g = absurd cc

  writer_then : (m : Memory) (Q : Value → Type 0) (v : Value) → HasKind S kinds m AWritePointer v → ((b at_ : ℕ) → is_place m b at_ ≡ true → Q (Ptr b at_)) → Q v
  writer_then m Q (Ptr b at_) h g = g b at_ h.1
  writer_then m Q (Num n) h g = absurd h
  writer_then m Q (Truth b) h g = absurd h
  writer_then m Q (Str b) h g = absurd h

  number_of : (m : Memory) (Q : Value → Type 0) (v : Value) → HasKind S kinds m ANumber v → ((n : ℕ) → Q (Num n)) → Q v
  number_of m Q (Num n) h g = g n
  number_of m Q (Truth b) h g = absurd h
  number_of m Q (Ptr b o) h g = absurd h
  number_of m Q (Str b) h g = absurd h

  truth_of : (m : Memory) (Q : Value → Type 0) (v : Value) → HasKind S kinds m ATruth v → ((b : Bool) → Q (Truth b)) → Q v
  truth_of m Q (Truth b) h g = g b
  truth_of m Q (Num n) h g = absurd h
  truth_of m Q (Ptr b o) h g = absurd h
  truth_of m Q (Str b) h g = absurd h

  reader_of : (m : Memory) (Q : Value → Type 0) (v : Value) → HasKind S kinds m AReadPointer v → ((b o : ℕ) → is_place m b o ≡ true → Q (Ptr b o)) → Q v
  reader_of m Q (Ptr b o) h g = g b o h
  reader_of m Q (Num n) h g = absurd h
  reader_of m Q (Truth b) h g = absurd h
  reader_of m Q (Str b) h g = absurd h

  -- ---- cells

  cell_safe : (m : Memory) (b n : ℕ) (d : StructDecl) (cs : List (Name × Cell)) (c : Name) (v : Cell) → IsKinded S kinds m → slice_get kinds b ≡ Some (CellsOf n) → slice_get S n ≡ Some d → slice_get m b ≡ Some (Cells cs) → AreCellsOf m d.cells cs → MayHoldAt m (cell_among d.cells c) v →
      Safe S kinds m (WritesCell b c v ∷ [])
  cell_safe m b n d cs c v w kind found stands are may =
      let changed : event (WritesCell b c v) m ≡ slice_set m b (Cells (with_cell cs c v)) = ap (λ o. with_cell_in o c v m b) stands in
      let kept = set_block S m kinds m b (Cells (with_cell cs c v)) w (λ k e. is_new k (sym kind ∙ e)) in
      (blocks_same m (event (WritesCell b c v) m) (after_place (WritesCell b c v ∷ []) m) S kinds (event (WritesCell b c v) m) (subst (λ (l : List Block). AreBlocksOf S m kinds l) (sym changed) kept), tt)
    where
      cells_now : AreCellsIn m (slice_get S n) (with_cell cs c v)
      cells_now = subst (λ (o : Option StructDecl). AreCellsIn m o (with_cell cs c v)) (sym found) (with_cell_kept m d.cells cs c v are may)

      is_new : (k : BlockKind) → Some (CellsOf n) ≡ Some k → IsBlockOf S m k (Cells (with_cell cs c v))
      is_new k e = let same : CellsOf n ≡ k = cc in subst (λ (j : BlockKind). IsBlockOf S m j (Cells (with_cell cs c v))) same cells_now

  -- a cell of a struct that stands in the memory
  set_there : (m : Memory) (env : Scopes) (ks : List Known) (p : Place) (b n : ℕ) (d : StructDecl) (cs : List (Name × Cell)) (c : Name) (v : Value) (k : Kind) → IsKinded S kinds m → AllFit S kinds m env ks → slice_get kinds b ≡ Some (CellsOf n) → slice_get S n ≡ Some d →
      slice_get m b ≡ Some (Cells cs) → AreCellsOf m d.cells cs → cell_among d.cells c ≡ Some k → HasKind S kinds m k v → Keeps S kinds m (Fits ks) (set_cell p (Str b) c v env)
  set_there m env ks p b n d cs c v k w h kind found stands are named hv = by_kind (cell_kinds d.cells c k named)
    where
      by_kind : (k ≡ ANumber) ⊎ (k ≡ AReadPointer) → Keeps S kinds m (Fits ks) (set_cell p (Str b) c v env)
      by_kind (inl e) =
          number_of m (λ x. Keeps S kinds m (Fits ks) (set_cell p (Str b) c x env)) v (subst (λ (j : Kind). HasKind S kinds m j v) e hv)
          (λ i. (cell_safe m b n d cs c (HoldsNumber i) w kind found stands are (subst (λ (o : Option Kind). MayHoldAt m o (HoldsNumber i)) (sym (named ∙ ap (λ j. Some j) e)) refl), fits_after S kinds (WritesCell b c (HoldsNumber i) ∷ []) m env ks h))
      by_kind (inr e) =
          reader_of m (λ x. Keeps S kinds m (Fits ks) (set_cell p (Str b) c x env)) v (subst (λ (j : Kind). HasKind S kinds m j v) e hv)
          (λ t o place. (cell_safe m b n d cs c (HoldsPointer t o) w kind found stands are (subst (λ (q : Option Kind). MayHoldAt m q (HoldsPointer t o)) (sym (named ∙ ap (λ j. Some j) e)) place), fits_after S kinds (WritesCell b c (HoldsPointer t o) ∷ []) m env ks h))

  -- the cell of a variable
  set_keeps : (m : Memory) (env : Scopes) (ks : List Known) (p : Place) (e : Expr) (b : ℕ) (s c : Name) → IsKinded S kinds m → AllFit S kinds m env ks → is_struct S (slice_get kinds b) s ≡ true → unless_known (cell_of St s c) ≡ [] → broken_as (or_unknown (cell_of St s c)) St (flatten ks) e ≡ [] →
      Keeps S kinds m (Fits ks) (with p (value_of e env m) (λ v. set_cell p (Str b) c v env))
  set_keeps m env ks p e b s c w h is known broken =
      let at_ = struct_at S kinds (A []) calls agrees known_calls m b s w is (slice_get kinds b) refl is in
      by_cell (cell_of St s c) refl at_.0 at_.1 at_.2 at_.3 at_.4 at_.6 at_.7 (agrees at_.2 at_.0 s c at_.4 at_.5 known)
    where
      by_cell : (o : Option Kind) → cell_of St s c ≡ o → (d : StructDecl) (cs : List (Name × Cell)) (n : ℕ) → slice_get kinds b ≡ Some (CellsOf n) → slice_get S n ≡ Some d → slice_get m b ≡ Some (Cells cs) → AreCellsOf m d.cells cs → cell_of St s c ≡ cell_among d.cells c →
          Keeps S kinds m (Fits ks) (with p (value_of e env m) (λ v. set_cell p (Str b) c v env))
      by_cell None same d cs n kind found stands are agree = let none : unless_known None ≡ [] = rw same at known in absurd cc
      by_cell (Some k) same d cs n kind found stands are agree =
          let named : cell_among d.cells c ≡ Some k = sym agree ∙ same in
          let broken_k : broken_as k St (flatten ks) e ≡ [] = rw same at broken in
          asked_keeps S kinds (A []) calls agrees known_calls m env ks e k p (Fits ks) (λ v. set_cell p (Str b) c v env) w h (not_unknown d.cells c k named) broken_k
          (λ v hv. set_there m env ks p b n d cs c v k w h kind found stands are named hv)

  by_struct : (m : Memory) (env : Scopes) (ks : List Known) (p : Place) (e : Expr) (c : Name) (o : Option Kind) (l : Option Value) → IsKinded S kinds m → AllFit S kinds m env ks → FitsBoth S kinds m o l → asked_cell St o c ≡ [] → broken_as (member St o c) St (flatten ks) e ≡ [] →
      Keeps S kinds m (Fits ks) (with p (given l) (λ q. with p (value_of e env m) (λ v. set_cell p q c v env)))
  by_struct m env ks p e c (Some (AStruct s)) (Some (Str b)) w h fit known broken = set_keeps m env ks p e b s c w h fit known broken
  by_struct m env ks p e c (Some (AStruct s)) (Some (Num n)) w h fit known broken = absurd fit
  by_struct m env ks p e c (Some (AStruct s)) (Some (Truth b)) w h fit known broken = absurd fit
  by_struct m env ks p e c (Some (AStruct s)) (Some (Ptr b o)) w h fit known broken = absurd fit
  by_struct m env ks p e c (Some Unknown) (Some (Num n)) w h fit known broken = absurd fit
  by_struct m env ks p e c (Some Unknown) (Some (Truth b)) w h fit known broken = absurd fit
  by_struct m env ks p e c (Some Unknown) (Some (Ptr b o)) w h fit known broken = absurd fit
  by_struct m env ks p e c (Some Unknown) (Some (Str b)) w h fit known broken = absurd fit
  by_struct m env ks p e c (Some ANumber) l w h fit known broken = absurd cc
  by_struct m env ks p e c (Some ATruth) l w h fit known broken = absurd cc
  by_struct m env ks p e c (Some AReadPointer) l w h fit known broken = absurd cc
  by_struct m env ks p e c (Some AWritePointer) l w h fit known broken = absurd cc
  by_struct m env ks p e c (Some k) None w h fit known broken = absurd fit
  by_struct m env ks p e c None l w h fit known broken = absurd cc

  -- ---- assignments

  assign_keeps : (m : Memory) (env : Scopes) (ks : List Known) (p : Place) (x : Name) (s : Source) (loops : List Name) (o : Option Kind) (l : Option Value) → IsKinded S kinds m → AllFit S kinds m env ks → kind_in (flatten ks) x ≡ o → FitsBoth S kinds m o l → assignable o ≡ [] →
      source_broken (A loops) (flatten ks) (assigned_kind o) s ≡ [] → Keeps S kinds m (Fits ks) (does calls (Assign x s) p env m)
  assign_keeps m env ks p x s loops (Some ANumber) l w h e fit a b =
      source_keeps S kinds (A loops) calls agrees known_calls m env ks p ANumber s (Fits ks) (λ v. assign x v env) w h (λ u. cc) b (λ es v hv. assigned_fits S kinds (after es m) x ANumber v env ks (fits_after S kinds es m env ks h) e hv)
  assign_keeps m env ks p x s loops (Some AReadPointer) l w h e fit a b =
      source_keeps S kinds (A loops) calls agrees known_calls m env ks p AReadPointer s (Fits ks) (λ v. assign x v env) w h (λ u. cc) b (λ es v hv. assigned_fits S kinds (after es m) x AReadPointer v env ks (fits_after S kinds es m env ks h) e hv)
  assign_keeps m env ks p x s loops (Some Unknown) (Some (Num n)) w h e fit a b = absurd fit
  assign_keeps m env ks p x s loops (Some Unknown) (Some (Truth t)) w h e fit a b = absurd fit
  assign_keeps m env ks p x s loops (Some Unknown) (Some (Ptr t o)) w h e fit a b = absurd fit
  assign_keeps m env ks p x s loops (Some Unknown) (Some (Str t)) w h e fit a b = absurd fit
  assign_keeps m env ks p x s loops (Some Unknown) None w h e fit a b = absurd fit
  assign_keeps m env ks p x s loops (Some ATruth) l w h e fit a b = absurd cc
  assign_keeps m env ks p x s loops (Some AWritePointer) l w h e fit a b = absurd cc
  assign_keeps m env ks p x s loops (Some (AStruct t)) l w h e fit a b = absurd cc
  assign_keeps m env ks p x s loops None l w h e fit a b = absurd cc

  -- ---- statements

  mutual
    stmt_keeps : (s : Stmt) (loops : List Name) (kn : Known) (ks : List Known) (p : Place) (env : Scopes) (m : Memory) → IsKinded S kinds m → AllFit S kinds m env (kn ∷ ks) → stmt_faults (A loops) (kn ++ flatten ks) s p ≡ [] → Keeps S kinds m (Fits (known_after s kn ∷ ks)) (does calls s p env m)
    stmt_keeps (DeclNumber x e) loops kn ks p env m w h f =
        source_keeps S kinds (A loops) calls agrees known_calls m env (kn ∷ ks) p ANumber e (Fits (((x, ANumber) ∷ kn) ∷ ks)) (λ v. declare x v env) w h (λ u. cc) (no_fault p (source_broken (A loops) (kn ++ flatten ks) ANumber e) f)
        (λ es v hv. declared_fits S kinds (after es m) x ANumber v env kn ks (fits_after S kinds es m env (kn ∷ ks) h) hv)
    stmt_keeps (DeclPointer x e) loops kn ks p env m w h f =
        asked_keeps S kinds (A loops) calls agrees known_calls m env (kn ∷ ks) e AReadPointer p (Fits (((x, AReadPointer) ∷ kn) ∷ ks)) (λ v. fall (declare x v env)) w h (λ u. cc) (no_fault p (broken_as AReadPointer St (kn ++ flatten ks) e) f)
        (λ v hv. (tt, declared_fits S kinds m x AReadPointer v env kn ks h hv))
    stmt_keeps (Assign x e) loops kn ks p env m w h f =
        let K = kn ++ flatten ks in
        let b = no_fault p (assignable (kind_in K x) ++ source_broken (A loops) K (assigned_kind (kind_in K x)) e ++ unless (not (is_among loops x)) 4) f in
        let front = front_nil (assignable (kind_in K x) ++ source_broken (A loops) K (assigned_kind (kind_in K x)) e) (unless (not (is_among loops x)) 4) b in
        assign_keeps m env (kn ∷ ks) p x e loops (kind_in K x) (lookup env x) w h refl (lookup_fits S kinds m env (kn ∷ ks) h x) (front_nil (assignable (kind_in K x)) (source_broken (A loops) K (assigned_kind (kind_in K x)) e) front)
        (back_nil (assignable (kind_in K x)) (source_broken (A loops) K (assigned_kind (kind_in K x)) e) front)
    stmt_keeps (Store x i e) loops kn ks p env m w h f =
        let K = kn ++ flatten ks in
        let b = no_fault p (asked AWritePointer (kind_in K x) ++ broken_as ANumber St K i ++ broken_as ANumber St K e) f in
        let front = front_nil (asked AWritePointer (kind_in K x) ++ broken_as ANumber St K i) (broken_as ANumber St K e) b in
        variable_keeps m (Fits (kn ∷ ks)) p AWritePointer (kind_in K x) (lookup env x) (λ q. with p (value_of i env m) (λ j. with p (value_of e env m) (λ v. store p m q j v env))) (lookup_fits S kinds m env (kn ∷ ks) h x)
        (front_nil (asked AWritePointer (kind_in K x)) (broken_as ANumber St K i) front) (λ u. cc)
        (λ q hq. asked_keeps S kinds (A loops) calls agrees known_calls m env (kn ∷ ks) i ANumber p (Fits (kn ∷ ks)) (λ j. with p (value_of e env m) (λ v. store p m q j v env)) w h (λ u. cc) (back_nil (asked AWritePointer (kind_in K x)) (broken_as ANumber St K i) front)
        (λ j hj. asked_keeps S kinds (A loops) calls agrees known_calls m env (kn ∷ ks) e ANumber p (Fits (kn ∷ ks)) (λ v. store p m q j v env) w h (λ u. cc) (back_nil (asked AWritePointer (kind_in K x) ++ broken_as ANumber St K i) (broken_as ANumber St K e) b)
        (λ v hv. writer_then m (λ q'. Keeps S kinds m (Fits (kn ∷ ks)) (store p m q' j v env)) q hq (λ t o place. number_of m (λ j'. Keeps S kinds m (Fits (kn ∷ ks)) (store p m (Ptr t o) j' v env)) j hj (λ a. number_of m (λ v'. Keeps S kinds m (Fits (kn ∷ ks)) (store p m (Ptr t o) (Num a) v' env)) v hv
        (λ n. store_in_keeps m (Fits (kn ∷ ks)) p (slice_get m t) t o a n env w place (fits_after S kinds (WritesByte t (o + a) (n % 256) ∷ []) m env (kn ∷ ks) h)))))))
    stmt_keeps (SetCell x c e) loops kn ks p env m w h f =
        let K = kn ++ flatten ks in
        let b = no_fault p (asked_cell St (kind_in K x) c ++ broken_as (member St (kind_in K x) c) St K e) f in
        by_struct m env (kn ∷ ks) p e c (kind_in K x) (lookup env x) w h (lookup_fits S kinds m env (kn ∷ ks) h x) (front_nil (asked_cell St (kind_in K x) c) (broken_as (member St (kind_in K x) c) St K e) b)
        (back_nil (asked_cell St (kind_in K x) c) (broken_as (member St (kind_in K x) c) St K e) b)
    stmt_keeps (If' t s ys u ns) loops kn ks p env m w h f =
        let K = kn ++ flatten ks in
        let own = at_place p (broken_as ATruth St K t) in
        let first = row_faults (A loops) K ys (shifted p 1) in
        let second = row_faults (A loops) K ns (shifted p (1 + count_in ys)) in
        let front = front_nil (own ++ first) second f in
        let this = row_keeps ys loops [] (kn ∷ ks) (shifted p 1) ([] ∷ env) m w ((λ y. tt), h) (back_nil own first front) in
        let that = row_keeps ns loops [] (kn ∷ ks) (shifted p (1 + count_in ys)) ([] ∷ env) m w ((λ y. tt), h) (back_nil (own ++ first) second f) in
        asked_keeps S kinds (A loops) calls agrees known_calls m env (kn ∷ ks) t ATruth p (Fits (kn ∷ ks)) (λ v. on_truth p v (λ _. scoped (does_row calls ys (shifted p 1)) env m) (λ _. scoped (does_row calls ns (shifted p (1 + count_in ys))) env m)) w h (λ x. cc)
        (no_fault p (broken_as ATruth St K t) (front_nil own first front))
        (λ v hv. truth_of m (λ v'. Keeps S kinds m (Fits (kn ∷ ks)) (on_truth p v' (λ _. scoped (does_row calls ys (shifted p 1)) env m) (λ _. scoped (does_row calls ns (shifted p (1 + count_in ys))) env m))) v hv
        (λ b. taken b m env (kn ∷ ks) p (does_row calls ys (shifted p 1)) (does_row calls ns (shifted p (1 + count_in ys))) w this that))
    stmt_keeps (For' x b s body) loops kn ks p env m w h f =
        let K = kn ++ flatten ks in
        let own = at_place p (asked ANumber (kind_in K b)) in
        let inner = row_faults (A (x ∷ b ∷ loops)) ((x, ANumber) ∷ K) body (shifted p 1) in
        variable_keeps m (Fits (kn ∷ ks)) p ANumber (kind_in K b) (lookup env b) (λ v. on_number p v (λ n. turns n 0 x (does_row calls body (shifted p 1)) env m)) (lookup_fits S kinds m env (kn ∷ ks) h b) (no_fault p (asked ANumber (kind_in K b)) (front_nil own inner f)) (λ u. cc)
        (λ v hv. number_of m (λ v'. Keeps S kinds m (Fits (kn ∷ ks)) (on_number p v' (λ n. turns n 0 x (does_row calls body (shifted p 1)) env m))) v hv
        (λ n. turns_keeps n 0 x (does_row calls body (shifted p 1)) m env (kn ∷ ks) w h
        (λ j e k wk fit. row_keeps body (x ∷ b ∷ loops) ((x, ANumber) ∷ []) (kn ∷ ks) (shifted p 1) (((x, Num j) ∷ []) ∷ e) k wk (declared_fits S kinds k x ANumber (Num j) ([] ∷ e) [] (kn ∷ ks) ((λ y. tt), fit) tt) (back_nil own inner f))))
    stmt_keeps (Return e) loops kn ks p env m w h f =
        asked_keeps S kinds (A loops) calls agrees known_calls m env (kn ∷ ks) e ANumber p (Fits (kn ∷ ks)) (λ v. on_number p v (λ n. Returns n [])) w h (λ u. cc) (no_fault p (broken_as ANumber St (kn ++ flatten ks) e) f)
        (λ v hv. number_of m (λ v'. Keeps S kinds m (Fits (kn ∷ ks)) (on_number p v' (λ n. Returns n []))) v hv (λ n. tt))

    row_keeps : {n : _} (r : Row_of-Stmt n) (loops : List Name) (kn : Known) (ks : List Known) (p : Place) (env : Scopes) (m : Memory) → IsKinded S kinds m → AllFit S kinds m env (kn ∷ ks) → row_faults (A loops) (kn ++ flatten ks) r p ≡ [] → Keeps S kinds m (FitsIn ks) (does_row calls r p env m)
    row_keeps end_of-Stmt loops kn ks p env m w h f = (tt, (kn, h))
    row_keeps (more_of-Stmt s rest) loops kn ks p env m w h f =
        let K = kn ++ flatten ks in
        let first = stmt_faults (A loops) K s p in
        let others = row_faults (A loops) (known_after s K) rest (shifted p (count_of s)) in
        let behind = subst (λ (k : Known). row_faults (A loops) k rest (shifted p (count_of s)) ≡ []) (after-known s kn (flatten ks)) (back_nil first others f) in
        step_keeps S kinds m (FitsIn ks) (and_then (does calls s p env m) m (does_row calls rest (shifted p (count_of s)))) w
        (then_keeps S kinds m (Fits (known_after s kn ∷ ks)) (FitsIn ks) (does calls s p env m) (does_row calls rest (shifted p (count_of s))) w (stmt_keeps s loops kn ks p env m w h (front_nil first others f))
        (λ e k wk fit. row_keeps rest loops (known_after s kn) ks (shifted p (count_of s)) e k wk fit behind))

  pub block_keeps : (ss : List Stmt) (loops : List Name) (kn : Known) (ks : List Known) (p : Place) (env : Scopes) (m : Memory) → IsKinded S kinds m → AllFit S kinds m env (kn ∷ ks) → block_faults (A loops) (kn ++ flatten ks) ss p ≡ [] → Keeps S kinds m (FitsIn ks) (block calls ss p env m)
  block_keeps [] loops kn ks p env m w h f = (tt, (kn, h))
  block_keeps (s ∷ rest) loops kn ks p env m w h f =
      let K = kn ++ flatten ks in
      let first = stmt_faults (A loops) K s p in
      let others = block_faults (A loops) (known_after s K) rest (shifted p (count_of s)) in
      let behind = subst (λ (k : Known). block_faults (A loops) k rest (shifted p (count_of s)) ≡ []) (after-known s kn (flatten ks)) (back_nil first others f) in
      step_keeps S kinds m (FitsIn ks) (and_then (does calls s p env m) m (block calls rest (shifted p (count_of s)))) w
      (then_keeps S kinds m (Fits (known_after s kn ∷ ks)) (FitsIn ks) (does calls s p env m) (block calls rest (shifted p (count_of s))) w (stmt_keeps s loops kn ks p env m w h (front_nil first others f))
      (λ e k wk fit. block_keeps rest loops (known_after s kn) ks (shifted p (count_of s)) e k wk fit behind))
