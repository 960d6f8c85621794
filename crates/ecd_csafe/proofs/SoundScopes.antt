-- Scopes whose variables have their kinds, and memories that keep their kinds from event to event.
use Rattle.std.proofs.Common.{◌≡◌, ℕ, zero, suc, List, [], ◌∷◌, ◌++◌, refl, ap, sym, ◌∙◌, subst, Bool, true, false, take}
use Rattle.std.specs.Prelude.{Option, Some, None, slice_get, bytes_eq, if◌then◌else◌}
use Rattle.std.proofs.lemmas.Slice.Eq.{bytes_eq-Decides}
use Rattle.ecd_cast.specs.declared.tree.StructDecl.{StructDecl}
use Rattle.ecd_cast.specs.Memory.{Name, Memory, Block, Bytes, Cells, Event, WritesByte, event, after, with_byte_in}
use Rattle.ecd_cast.specs.declared.value.Value.{Value}
use Rattle.ecd_cast.specs.declared.value.Value.TheVariants.{Number as Num, Truth, Bytes as Ptr, Struct as Str}
use Rattle.std.specs.Prelude.{slice_set}
use Rattle.ecd_cast.specs.Expressions.{Frame, Scopes, in_frame, lookup, or_else}
use Rattle.ecd_cast.specs.Meaning.{declare, assign, set_in}
use Rattle.ecd_cast.specs.Kinds.{Kind, ANumber, ATruth, AReadPointer, AWritePointer, Unknown, AStruct, Known, kind_in}
use Rattle.ecd_cast.specs.Fitting.{BlockKind, Fixed, Output, CellsOf, is_place, AreBlocksOf, IsBlockOf}
use Rattle.ecd_csafe.proofs.Sound.{HasKind, FitsBoth}
use Rattle.ecd_csafe.proofs.Places.{after_place, blocks_same, block_at, set_block}

abbrev pub flatten : List Known → Known
flatten [] = []
flatten (k ∷ ks) = k ++ flatten ks

abbrev or_kind : Option Kind → Option Kind → Option Kind
or_kind (Some k) o = Some k
or_kind None o = o

kind_in-append : (a b : Known) (x : Name) → kind_in (a ++ b) x ≡ or_kind (kind_in a x) (kind_in b x)
kind_in-append [] b x = refl
kind_in-append (v ∷ a) b x = by_test (bytes_eq v.0 x) (kind_in-append a b x)
  where
    by_test : (t : Bool) → kind_in (a ++ b) x ≡ or_kind (kind_in a x) (kind_in b x) → (if t then Some v.1 else kind_in (a ++ b) x) ≡ or_kind (if t then Some v.1 else kind_in a x) (kind_in b x)
    by_test true h = refl
    by_test false h = h

module _ (S : List StructDecl) (kinds : List BlockKind) where
  abbrev pub FrameFits : Memory → Frame → Known → Type 0
  FrameFits m f kn = (x : Name) → FitsBoth S kinds m (kind_in kn x) (in_frame f x)

  abbrev pub AllFit : Memory → Scopes → List Known → Type 0
  AllFit m [] [] = Unit {0}
  AllFit m (f ∷ fs) (k ∷ ks) = FrameFits m f k × AllFit m fs ks
  AllFit m [] (k ∷ ks) = ⊥
  AllFit m (f ∷ fs) [] = ⊥

  both_fit : (m : Memory) (o o' : Option Kind) (l l' : Option Value) → FitsBoth S kinds m o l → FitsBoth S kinds m o' l' → FitsBoth S kinds m (or_kind o o') (or_else l l')
  both_fit m (Some k) o' (Some v) l' h g = h
  both_fit m (Some k) o' None l' h g = absurd h
  both_fit m None o' (Some v) l' h g = absurd h
  both_fit m None o' None l' h g = g

  pub lookup_fits : (m : Memory) (env : Scopes) (ks : List Known) → AllFit m env ks → (x : Name) → FitsBoth S kinds m (kind_in (flatten ks) x) (lookup env x)
  lookup_fits m [] [] h x = tt
  lookup_fits m [] (k ∷ ks) h x = absurd h
  lookup_fits m (f ∷ fs) [] h x = absurd h
  lookup_fits m (f ∷ fs) (k ∷ ks) h x = rw kind_in-append (both_fit m (kind_in k x) (kind_in (flatten ks) x) (in_frame f x) (lookup fs x) (h.0 x) (lookup_fits m fs ks h.1 x))

  -- ---- other memories with the same places

  kind_moved : (m n : Memory) (same : (b o : ℕ) → is_place n b o ≡ is_place m b o) (k : Kind) (v : Value) → HasKind S kinds m k v → HasKind S kinds n k v
  kind_moved m n same ANumber (Num i) h = tt
  kind_moved m n same ATruth (Truth b) h = tt
  kind_moved m n same AReadPointer (Ptr b o) h = same b o ∙ h
  kind_moved m n same AWritePointer (Ptr b o) h = (h.0, same b o ∙ h.1)
  kind_moved m n same (AStruct s) (Str b) h = h
  kind_moved m n same ANumber (Truth b) h = h
  kind_moved m n same ANumber (Ptr b o) h = h
  kind_moved m n same ANumber (Str b) h = h
  kind_moved m n same ATruth (Num i) h = h
  kind_moved m n same ATruth (Ptr b o) h = h
  kind_moved m n same ATruth (Str b) h = h
  kind_moved m n same AReadPointer (Num i) h = h
  kind_moved m n same AReadPointer (Truth b) h = h
  kind_moved m n same AReadPointer (Str b) h = h
  kind_moved m n same AWritePointer (Num i) h = h
  kind_moved m n same AWritePointer (Truth b) h = h
  kind_moved m n same AWritePointer (Str b) h = h
  kind_moved m n same Unknown (Num i) h = h
  kind_moved m n same Unknown (Truth b) h = h
  kind_moved m n same Unknown (Ptr b o) h = h
  kind_moved m n same Unknown (Str b) h = h
  kind_moved m n same (AStruct s) (Num i) h = h
  kind_moved m n same (AStruct s) (Truth b) h = h
  kind_moved m n same (AStruct s) (Ptr b o) h = h

  both_moved : (m n : Memory) (same : (b o : ℕ) → is_place n b o ≡ is_place m b o) (o : Option Kind) (l : Option Value) → FitsBoth S kinds m o l → FitsBoth S kinds n o l
  both_moved m n same (Some k) (Some v) h = kind_moved m n same k v h
  both_moved m n same (Some k) None h = h
  both_moved m n same None (Some v) h = h
  both_moved m n same None None h = tt

  all_moved : (m n : Memory) (same : (b o : ℕ) → is_place n b o ≡ is_place m b o) (env : Scopes) (ks : List Known) → AllFit m env ks → AllFit n env ks
  all_moved m n same [] [] h = tt
  all_moved m n same [] (k ∷ ks) h = h
  all_moved m n same (f ∷ fs) [] h = h
  all_moved m n same (f ∷ fs) (k ∷ ks) h = (λ x. both_moved m n same (kind_in k x) (in_frame f x) (h.0 x), all_moved m n same fs ks h.1)

  pub kind_after : (es : List Event) (m : Memory) (k : Kind) (v : Value) → HasKind S kinds m k v → HasKind S kinds (after es m) k v
  kind_after es m k v h = kind_moved m (after es m) (after_place es m) k v h

  pub fits_after : (es : List Event) (m : Memory) (env : Scopes) (ks : List Known) → AllFit m env ks → AllFit (after es m) env ks
  fits_after es m env ks h = all_moved m (after es m) (after_place es m) env ks h

  -- ---- declarations and assignments

  pub declared_fits : (m : Memory) (x : Name) (k : Kind) (v : Value) (env : Scopes) (kn : Known) (ks : List Known) → AllFit m env (kn ∷ ks) → HasKind S kinds m k v → AllFit m (declare x v env) (((x, k) ∷ kn) ∷ ks)
  declared_fits m x k v [] kn ks h g = absurd h
  declared_fits m x k v (f ∷ fs) kn ks h g = (λ y. by_test y (bytes_eq x y), h.1)
    where
      by_test : (y : Name) (t : Bool) → FitsBoth S kinds m (if t then Some k else kind_in kn y) (if t then Some v else in_frame f y)
      by_test y true = g
      by_test y false = h.0 y

  set_here : (x : Name) (v w : Value) (f : Frame) → in_frame f x ≡ Some w → in_frame (set_in x v f) x ≡ Some v
  set_here x v w [] e = absurd cc
  set_here x v w (u ∷ f) e = by_test (bytes_eq u.0 x) refl (set_here x v w f)
    where
      by_test : (t : Bool) → bytes_eq u.0 x ≡ t → (in_frame f x ≡ Some w → in_frame (set_in x v f) x ≡ Some v) → in_frame (if t then (x, v) ∷ f else u ∷ set_in x v f) x ≡ Some v
      by_test true t g = rw ((bytes_eq-Decides x x).1 refl)
      by_test false t g = rw t (g (rw t at e))

  set_there : (x y : Name) (v : Value) (f : Frame) → bytes_eq x y ≡ false → in_frame (set_in x v f) y ≡ in_frame f y
  set_there x y v [] n = refl
  set_there x y v (u ∷ f) n = by_test (bytes_eq u.0 x) refl (set_there x y v f n)
    where
      by_test : (t : Bool) → bytes_eq u.0 x ≡ t → in_frame (set_in x v f) y ≡ in_frame f y → in_frame (if t then (x, v) ∷ f else u ∷ set_in x v f) y ≡ in_frame (u ∷ f) y
      by_test true t g =
          let same : u.0 ≡ x = (bytes_eq-Decides u.0 x).0 t in
          let other : bytes_eq u.0 y ≡ false = ap (λ z. bytes_eq z y) same ∙ n in
          rw (n, other)
      by_test false t g = ap (λ o. if bytes_eq u.0 y then Some u.1 else o) g

  pub assigned_fits : (m : Memory) (x : Name) (k : Kind) (v : Value) (env : Scopes) (ks : List Known) → AllFit m env ks → kind_in (flatten ks) x ≡ Some k → HasKind S kinds m k v → AllFit m (assign x v env) ks
  assigned_fits m x k v [] [] h e g = tt
  assigned_fits m x k v [] (kn ∷ ks) h e g = absurd h
  assigned_fits m x k v (f ∷ fs) [] h e g = absurd h
  assigned_fits m x k v (f ∷ fs) (kn ∷ ks) h e g = by_frame (in_frame f x) refl (kind_in kn x) refl (h.0 x) (assigned_fits m x k v fs ks h.1)
    where
      whole : or_kind (kind_in kn x) (kind_in (flatten ks) x) ≡ Some k
      whole = sym (kind_in-append kn (flatten ks) x) ∙ e

      put : (w : Value) → in_frame f x ≡ Some w → kind_in kn x ≡ Some k → (y : Name) (t : Bool) → bytes_eq x y ≡ t → FitsBoth S kinds m (kind_in kn y) (in_frame (set_in x v f) y)
      put w is named y true t =
          subst (λ (z : Name). FitsBoth S kinds m (kind_in kn z) (in_frame (set_in x v f) z)) ((bytes_eq-Decides x y).0 t)
          (subst (λ (l : Option Value). FitsBoth S kinds m (kind_in kn x) l) (sym (set_here x v w f is)) (subst (λ (o : Option Kind). FitsBoth S kinds m o (Some v)) (sym named) g))
      put w is named y false t = subst (λ (l : Option Value). FitsBoth S kinds m (kind_in kn y) l) (sym (set_there x y v f t)) (h.0 y)

      by_frame : (l : Option Value) → in_frame f x ≡ l → (o : Option Kind) → kind_in kn x ≡ o → FitsBoth S kinds m (kind_in kn x) (in_frame f x) →
          (kind_in (flatten ks) x ≡ Some k → HasKind S kinds m k v → AllFit m (assign x v fs) ks) → AllFit m (elim l [ None ↦ f ∷ assign x v fs | Some w ↦ set_in x v f ∷ fs ]) (kn ∷ ks)
      by_frame None is None named fit more = (h.0, more (rw named at whole) g)
      by_frame None is (Some j) named fit more = absurd (rw (named, is) at fit)
      by_frame (Some w) is None named fit more = absurd (rw (named, is) at fit)
      by_frame (Some w) is (Some j) named fit more = let same : kind_in kn x ≡ Some k = named ∙ (rw named at whole) in (λ y. put w is same y (bytes_eq x y) refl, h.1)

  -- ---- memories, event by event

  abbrev pub IsKinded : Memory → Type 0
  IsKinded m = AreBlocksOf S m kinds m

  abbrev pub Safe : Memory → List Event → Type 0
  Safe m [] = Unit {0}
  Safe m (e ∷ es) = IsKinded (event e m) × Safe (event e m) es

  pub safe_then : (m : Memory) (a b : List Event) → Safe m a → Safe (after a m) b → Safe m (a ++ b)
  safe_then m [] b h g = g
  safe_then m (e ∷ a) b h g = (h.0, safe_then (event e m) a b h.1 g)

  pub safe_end : (m : Memory) (es : List Event) → IsKinded m → Safe m es → IsKinded (after es m)
  safe_end m [] h g = h
  safe_end m (e ∷ es) h g = safe_end (event e m) es g.0 g.1

  pub safe_first : (m : Memory) (es : List Event) (n : ℕ) → IsKinded m → Safe m es → IsKinded (after (take n es) m)
  safe_first m es zero h g = h
  safe_first m [] (suc n) h g = h
  safe_first m (e ∷ es) (suc n) h g = safe_first (event e m) es n g.0 g.1

  byte_kinded : (m : Memory) (o : Option Block) (b at_ v : ℕ) → slice_get m b ≡ o → IsKinded m → AreBlocksOf S m kinds (with_byte_in o at_ v m b)
  byte_kinded m (Some (Bytes bytes)) b at_ v e h = set_block S m kinds m b (Bytes (slice_set bytes at_ v)) h (λ k named. new k (block_at S m kinds m b k h named).block ((sym e) ∙ (block_at S m kinds m b k h named).stands) (block_at S m kinds m b k h named).is)
    where
      new : (k : BlockKind) (x : Block) → Some (Bytes bytes) ≡ Some x → IsBlockOf S m k x → IsBlockOf S m k (Bytes (slice_set bytes at_ v))
      new Fixed x same is = tt
      new Output x same is = tt
      new (CellsOf n) (Bytes ys) same is = absurd is
      new (CellsOf n) (Cells cs) same is = absurd cc
  byte_kinded m (Some (Cells cells)) b at_ v e h = h
  byte_kinded m None b at_ v e h = h

  pub byte_safe : (m : Memory) (b at_ v : ℕ) → IsKinded m → Safe m (WritesByte b at_ v ∷ [])
  byte_safe m b at_ v h = (blocks_same m (event (WritesByte b at_ v) m) (after_place (WritesByte b at_ v ∷ []) m) S kinds (event (WritesByte b at_ v) m) (byte_kinded m (slice_get m b) b at_ v refl h), tt)
