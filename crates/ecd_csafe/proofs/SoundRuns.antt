-- Statements of valid code keep scopes and memory in their kinds, and stop for one of the reasons 1 to 5 alone.
use Rattle.std.proofs.Common.{◌≡◌, ℕ, List, [], ◌∷◌, ◌++◌, refl, ap, sym, ◌∙◌, subst, Bool, true, append_assoc, append-nil}
use Rattle.std.specs.Prelude.{Option, Some, None, slice_get, bytes_eq, ◌&&◌, flat_map}
use Rattle.std.proofs.lemmas.Slice.Eq.{bytes_eq-Decides}
use Rattle.ecd_cast.specs.declared.tree.Expr.{Expr}
use Rattle.ecd_cast.specs.declared.tree.Source.{Source}
use Rattle.ecd_cast.specs.declared.tree.Source.TheVariants.{Value as FromValue, Call as FromCall}
use Rattle.ecd_cast.specs.declared.tree.Param.{Param}
use Rattle.ecd_cast.specs.declared.tree.ParamKind.{ParamKind}
use Rattle.ecd_cast.specs.declared.tree.ParamKind.TheVariants.{Number as NumberParam, ReadPointer as ReadPointerParam, WritePointer as WritePointerParam, Struct as StructParam}
use Rattle.ecd_cast.specs.declared.tree.Function.{Function}
use Rattle.ecd_cast.specs.declared.tree.StructDecl.{StructDecl}
use Rattle.ecd_cast.specs.Memory.{Name, Memory, Block, Bytes, Cells, Event, Step, after}
use Rattle.ecd_cast.specs.declared.value.Cell.{Cell}
use Rattle.ecd_cast.specs.declared.value.Value.{Value}
use Rattle.ecd_cast.specs.declared.value.Value.TheVariants.{Number as Num, Truth, Bytes as Ptr, Struct as Str}
use Rattle.ecd_cast.specs.Expressions.{Outcome, Gives, Fails, Scopes, value_of, cell, cell_in}
use Rattle.ecd_cast.specs.Meaning.{Run, Falls, Returns, Stuck, doing, and_then, fall, Place, with, Calls, with_args, from_call, from_source}
use Rattle.ecd_cast.specs.Kinds.{Kind, ANumber, ATruth, AReadPointer, AWritePointer, Unknown, AStruct, Known, takes, cell_of, cell_among, or_unknown, kind_of, unless, unless_known, broken_by, broken_as, args_fit, param_kind}
use Rattle.ecd_cast.specs.Validity.{Around, at_place, source_broken, call_broken, call_later, function_named}
use Rattle.ecd_cast.specs.Fitting.{BlockKind, Fixed, Output, CellsOf, is_struct, param_takes, params_take, IsBlockOf, AreCellsIn, AreCellsOf, is_named}
use Rattle.ecd_cast.proofs.Kept.{front_nil, back_nil}
use Rattle.ecd_calculus.proofs.Calculus.{after-append}
use Rattle.ecd_csafe.proofs.Sound.{IsReason, no_rule, and_first, and_second, HasKind, IsSound, number_then, truth_then, expr_sound}
use Rattle.ecd_csafe.proofs.Places.{block_at, BlockAt, cells_sound}
use Rattle.ecd_csafe.proofs.SoundScopes.{flatten, AllFit, lookup_fits, IsKinded, Safe, safe_then, safe_end}

pub no_fault : (p : Place) (rules : List ℕ) → at_place p rules ≡ [] → rules ≡ []
no_fault p [] e = refl
no_fault p (r ∷ rs) e = absurd cc

-- a struct that is known is the one of its number
abbrev pub Agrees : List StructDecl → List StructDecl → Type 0
Agrees S St = (n : ℕ) (d : StructDecl) (s c : Name) → slice_get S n ≡ Some d → bytes_eq d.name s ≡ true → unless_known (cell_of St s c) ≡ [] → cell_of St s c ≡ cell_among d.cells c

module _ (S : List StructDecl) (kinds : List BlockKind) where
  -- ---- kinds that are taken

  pub kind_taken : (m : Memory) (k k' : Kind) (v : Value) → takes k k' ≡ true → HasKind S kinds m k' v → (k ≡ Unknown → ⊥) → HasKind S kinds m k v
  kind_taken m ANumber k' v t h u = number_then S kinds m k' (HasKind S kinds m ANumber) v t h (λ n. tt)
  kind_taken m ATruth k' v t h u = truth_then S kinds m k' (HasKind S kinds m ATruth) v t h (λ b. tt)
  kind_taken m Unknown k' v t h u = absurd (u refl)
  kind_taken m AReadPointer AReadPointer v t h u = h
  kind_taken m AReadPointer ANumber v t h u = absurd cc
  kind_taken m AReadPointer ATruth v t h u = absurd cc
  kind_taken m AReadPointer AWritePointer v t h u = absurd cc
  kind_taken m AReadPointer (AStruct s) v t h u = absurd cc
  kind_taken m AReadPointer Unknown (Num n) t h u = absurd h
  kind_taken m AReadPointer Unknown (Truth b) t h u = absurd h
  kind_taken m AReadPointer Unknown (Ptr b o) t h u = absurd h
  kind_taken m AReadPointer Unknown (Str b) t h u = absurd h
  kind_taken m AWritePointer AWritePointer v t h u = h
  kind_taken m AWritePointer ANumber v t h u = absurd cc
  kind_taken m AWritePointer ATruth v t h u = absurd cc
  kind_taken m AWritePointer AReadPointer v t h u = absurd cc
  kind_taken m AWritePointer (AStruct s) v t h u = absurd cc
  kind_taken m AWritePointer Unknown (Num n) t h u = absurd h
  kind_taken m AWritePointer Unknown (Truth b) t h u = absurd h
  kind_taken m AWritePointer Unknown (Ptr b o) t h u = absurd h
  kind_taken m AWritePointer Unknown (Str b) t h u = absurd h
  kind_taken m (AStruct s) (AStruct r) (Str b) t h u = ap (λ x. is_struct S (slice_get kinds b) x) ((bytes_eq-Decides s r).0 t) ∙ h
  kind_taken m (AStruct s) (AStruct r) (Num n) t h u = absurd h
  kind_taken m (AStruct s) (AStruct r) (Truth b) t h u = absurd h
  kind_taken m (AStruct s) (AStruct r) (Ptr b o) t h u = absurd h
  kind_taken m (AStruct s) ANumber v t h u = absurd cc
  kind_taken m (AStruct s) ATruth v t h u = absurd cc
  kind_taken m (AStruct s) AReadPointer v t h u = absurd cc
  kind_taken m (AStruct s) AWritePointer v t h u = absurd cc
  kind_taken m (AStruct s) Unknown (Num n) t h u = absurd h
  kind_taken m (AStruct s) Unknown (Truth b) t h u = absurd h
  kind_taken m (AStruct s) Unknown (Ptr b o) t h u = absurd h
  kind_taken m (AStruct s) Unknown (Str b) t h u = absurd h

  pub and_both : (a b : Bool) → a ≡ true → b ≡ true → (a && b) ≡ true
  and_both a b h k = rw (h, k)

  param_known : (k : ParamKind) → param_kind k ≡ Unknown → ⊥
  param_known NumberParam e = cc
  param_known ReadPointerParam e = cc
  param_known WritePointerParam e = cc
  param_known (StructParam s) e = cc

  pub param_of : (m : Memory) (k : ParamKind) (v : Value) → HasKind S kinds m (param_kind k) v → param_takes S kinds m k v ≡ true
  param_of m NumberParam (Num n) h = refl
  param_of m NumberParam (Truth b) h = absurd h
  param_of m NumberParam (Ptr b o) h = absurd h
  param_of m NumberParam (Str b) h = absurd h
  param_of m ReadPointerParam (Ptr b o) h = h
  param_of m ReadPointerParam (Num n) h = absurd h
  param_of m ReadPointerParam (Truth b) h = absurd h
  param_of m ReadPointerParam (Str b) h = absurd h
  param_of m WritePointerParam (Ptr b o) h = and_both _ _ h.0 h.1
  param_of m WritePointerParam (Num n) h = absurd h
  param_of m WritePointerParam (Truth b) h = absurd h
  param_of m WritePointerParam (Str b) h = absurd h
  param_of m (StructParam x) (Str b) h = h
  param_of m (StructParam x) (Num n) h = absurd h
  param_of m (StructParam x) (Truth b) h = absurd h
  param_of m (StructParam x) (Ptr b o) h = absurd h

  -- ---- runs

  -- what a run keeps, with what holds of the scopes behind it
  abbrev pub Keeps : Memory → (Memory → Scopes → Type 0) → Run → Type 0
  Keeps m P (Falls env es) = Safe S kinds m es × P (after es m) env
  Keeps m P (Returns n es) = Safe S kinds m es
  Keeps m P (Stuck r i s es) = Safe S kinds m es × IsReason r

  abbrev pub CallKeeps : Memory → Run → Type 0
  CallKeeps m (Falls env es) = ⊥
  CallKeeps m (Returns n es) = Safe S kinds m es
  CallKeeps m (Stuck r i s es) = Safe S kinds m es × IsReason r

  pub doing_keeps : (m : Memory) (P : Memory → Scopes → Type 0) (es : List Event) (r : Run) → Safe S kinds m es → Keeps (after es m) P r → Keeps m P (doing es r)
  doing_keeps m P es (Falls env ds) h k = (safe_then S kinds m es ds h k.0, subst (λ (n : Memory). P n env) (sym (after-append es ds m)) k.1)
  doing_keeps m P es (Returns n ds) h k = safe_then S kinds m es ds h k
  doing_keeps m P es (Stuck r i s ds) h k = (safe_then S kinds m es ds h k.0, k.1)

  pub then_keeps : (m : Memory) (P Q : Memory → Scopes → Type 0) (r : Run) (f : Scopes → Memory → Run) → IsKinded S kinds m → Keeps m P r → ((env : Scopes) (n : Memory) → IsKinded S kinds n → P n env → Keeps n Q (f env n)) → Keeps m Q (and_then r m f)
  then_keeps m P Q (Falls env es) f w h g = doing_keeps m Q es (f env (after es m)) h.0 (g env (after es m) (safe_end S kinds m es w h.0) h.1)
  then_keeps m P Q (Returns n es) f w h g = h
  then_keeps m P Q (Stuck r i s es) f w h g = h

  pub step_keeps : (m : Memory) (P : Memory → Scopes → Type 0) (r : Run) → IsKinded S kinds m → Keeps m P r → Keeps m P (doing (Step ∷ []) r)
  step_keeps m P r w h = doing_keeps m P (Step ∷ []) r (w, tt) h

  pub with_keeps : (m : Memory) (P : Memory → Scopes → Type 0) (p : Place) (k : Kind) (o : Outcome) (f : Value → Run) → IsSound S kinds m k o → ((v : Value) → HasKind S kinds m k v → Keeps m P (f v)) → Keeps m P (with p o f)
  with_keeps m P p k (Gives v) f h g = g v h
  with_keeps m P p k (Fails r) f h g = (tt, h)

  -- ---- code in its surroundings

  module _ (around : Around) (calls : Calls) (agrees : Agrees S around.structs)
      (known_calls : (g : Name) (f : Function) → function_named around.earlier g ≡ Some f → (m : Memory) (vs : List Value) → IsKinded S kinds m → params_take S kinds m f.params vs ≡ true → CallKeeps m (calls g vs m)) where
    -- the cell of a struct
    pub struct_at : (m : Memory) (b : ℕ) (s : Name) → IsKinded S kinds m → is_struct S (slice_get kinds b) s ≡ true → (k : Option BlockKind) → slice_get kinds b ≡ k → is_struct S k s ≡ true →
        (d : StructDecl) × (cs : List (Name × Cell)) × (n : ℕ) × (slice_get kinds b ≡ Some (CellsOf n)) × (slice_get S n ≡ Some d) × (bytes_eq d.name s ≡ true) × (slice_get m b ≡ Some (Cells cs)) × AreCellsOf m d.cells cs
    struct_at m b s w h None e t = absurd cc
    struct_at m b s w h (Some Fixed) e t = absurd cc
    struct_at m b s w h (Some Output) e t = absurd cc
    struct_at m b s w h (Some (CellsOf n)) e t = by_struct (slice_get S n) refl t (block_at S m kinds m b (CellsOf n) w e)
      where
        with_block : (d : StructDecl) → slice_get S n ≡ Some d → bytes_eq d.name s ≡ true → (x : Block) → slice_get m b ≡ Some x → IsBlockOf S m (CellsOf n) x →
            (d : StructDecl) × (cs : List (Name × Cell)) × (n : ℕ) × (slice_get kinds b ≡ Some (CellsOf n)) × (slice_get S n ≡ Some d) × (bytes_eq d.name s ≡ true) × (slice_get m b ≡ Some (Cells cs)) × AreCellsOf m d.cells cs
        with_block d found named (Bytes ys) stands is = absurd is
        with_block d found named (Cells cs) stands is = (d, cs, n, e, found, named, stands, subst (λ (o : Option StructDecl). AreCellsIn m o cs) found is)

        by_struct : (o : Option StructDecl) → slice_get S n ≡ o → is_named o s ≡ true → BlockAt S m m b (CellsOf n) →
            (d : StructDecl) × (cs : List (Name × Cell)) × (n : ℕ) × (slice_get kinds b ≡ Some (CellsOf n)) × (slice_get S n ≡ Some d) × (bytes_eq d.name s ≡ true) × (slice_get m b ≡ Some (Cells cs)) × AreCellsOf m d.cells cs
        by_struct None found named at_ = absurd cc
        by_struct (Some d) found named at_ = with_block d found named at_.block at_.stands at_.is

    cells_read : (m : Memory) → IsKinded S kinds m → (b : ℕ) (s c : Name) → is_struct S (slice_get kinds b) s ≡ true → unless_known (cell_of around.structs s c) ≡ [] → IsSound S kinds m (or_unknown (cell_of around.structs s c)) (cell m c (Str b))
    cells_read m w b s c h k =
        let at_ = struct_at m b s w h (slice_get kinds b) refl h in
        let same = agrees at_.2 at_.0 s c at_.4 at_.5 k in
        let sound = cells_sound S kinds m at_.0.cells at_.1 c at_.7 (subst (λ (o : Option Kind). unless_known o ≡ []) same k) in
        subst (λ (o : Option Kind). IsSound S kinds m (or_unknown o) (cell m c (Str b))) (sym same) (subst (λ (o : Option Block). IsSound S kinds m (or_unknown (cell_among at_.0.cells c)) (cell_in o c)) (sym at_.6) sound)

    -- an expression, where scopes fit
    pub value_sound : (m : Memory) (env : Scopes) (ks : List Known) (e : Expr) → IsKinded S kinds m → AllFit S kinds m env ks → broken_by around.structs (flatten ks) e ≡ [] → IsSound S kinds m (kind_of around.structs (flatten ks) e) (value_of e env m)
    value_sound m env ks e w h k = expr_sound S kinds around.structs (flatten ks) env m (lookup_fits S kinds m env ks h) (cells_read m w) e k

    -- one of which a kind is asked
    pub asked_keeps : (m : Memory) (env : Scopes) (ks : List Known) (e : Expr) (k : Kind) (p : Place) (P : Memory → Scopes → Type 0) (f : Value → Run) → IsKinded S kinds m → AllFit S kinds m env ks → (k ≡ Unknown → ⊥) → broken_as k around.structs (flatten ks) e ≡ [] →
        ((v : Value) → HasKind S kinds m k v → Keeps m P (f v)) → Keeps m P (with p (value_of e env m) f)
    asked_keeps m env ks e k p P f w h u b g =
        let K = flatten ks in
        let front = front_nil (broken_by around.structs K e) (unless (takes k (kind_of around.structs K e)) 2) b in
        let fits = no_rule (takes k (kind_of around.structs K e)) 2 (back_nil (broken_by around.structs K e) (unless (takes k (kind_of around.structs K e)) 2) b) in
        with_keeps m P p (kind_of around.structs K e) (value_of e env m) f (value_sound m env ks e w h front) (λ v hv. g v (kind_taken m k (kind_of around.structs K e) v fits hv u))

    -- ---- calls

    args_keep : (m : Memory) (env : Scopes) (ks : List Known) (p : Place) (P : Memory → Scopes → Type 0) (F : List Value → Run) (params : List Param) (args : List Expr) (done : List Value) → IsKinded S kinds m → AllFit S kinds m env ks →
        flat_map (broken_by around.structs (flatten ks)) args ≡ [] → args_fit around.structs (flatten ks) params args ≡ true → ((vs : List Value) → params_take S kinds m params vs ≡ true → Keeps m P (F (done ++ vs))) → Keeps m P (with_args p args env m done F)
    args_keep m env ks p P F [] [] done w h b t g = subst (λ (l : List Value). Keeps m P (F l)) (append-nil done) (g [] refl)
    args_keep m env ks p P F [] (a ∷ args) done w h b t g = absurd cc
    args_keep m env ks p P F (q ∷ params) [] done w h b t g = absurd cc
    args_keep m env ks p P F (q ∷ params) (a ∷ args) done w h b t g =
        let K = flatten ks in
        let first = front_nil (broken_by around.structs K a) (flat_map (broken_by around.structs K) args) b in
        let fits = and_first (takes (param_kind q.kind) (kind_of around.structs K a)) (args_fit around.structs K params args) t in
        with_keeps m P p (kind_of around.structs K a) (value_of a env m) (λ v. with_args p args env m (done ++ v ∷ []) F) (value_sound m env ks a w h first) (λ v hv.
        let taken = param_of m q.kind v (kind_taken m (param_kind q.kind) (kind_of around.structs K a) v fits hv (param_known q.kind)) in
        args_keep m env ks p P F params args (done ++ v ∷ []) w h (back_nil (broken_by around.structs K a) (flat_map (broken_by around.structs K) args) b) (and_second (takes (param_kind q.kind) (kind_of around.structs K a)) (args_fit around.structs K params args) t)
        (λ vs all. subst (λ (l : List Value). Keeps m P (F l)) (sym (append_assoc done (v ∷ []) vs)) (g (v ∷ vs) (and_both (param_takes S kinds m q.kind v) (params_take S kinds m params vs) taken all))))

    call_keeps : (m : Memory) (P : Memory → Scopes → Type 0) (p : Place) (r : Run) (f : Value → Scopes) → CallKeeps m r → ((n : ℕ) (es : List Event) → Safe S kinds m es → P (after es m) (f (Num n))) → Keeps m P (from_call p r (λ v. fall (f v)))
    call_keeps m P p (Falls env es) f h g = absurd h
    call_keeps m P p (Returns n es) f h g = doing_keeps m P es (fall (f (Num n))) h (tt, g n es h)
    call_keeps m P p (Stuck r i s es) f h g = h

    not_later : (known : Known) (args : List Expr) (o : Option Function) → call_later around known args o ≡ [] → ⊥
    not_later known args (Some f) e = let h = back_nil (unless (args_fit around.structs known f.params args) 2) (3 ∷ []) e in cc
    not_later known args None e = cc

    -- a value that a number is asked of, or what the kind asks for
    pub source_keeps : (m : Memory) (env : Scopes) (ks : List Known) (p : Place) (k : Kind) (s : Source) (P : Memory → Scopes → Type 0) (f : Value → Scopes) → IsKinded S kinds m → AllFit S kinds m env ks → (k ≡ Unknown → ⊥) → source_broken around (flatten ks) k s ≡ [] →
        ((es : List Event) (v : Value) → HasKind S kinds (after es m) k v → P (after es m) (f v)) → Keeps m P (from_source calls p s env m (λ v. fall (f v)))
    source_keeps m env ks p k (FromValue e) P f w h u b g = asked_keeps m env ks e k p P (λ v. fall (f v)) w h u b (λ v hv. (tt, g [] v hv))
    source_keeps m env ks p k (FromCall g args) P f w h u b then_ =
        let K = flatten ks in
        let front = front_nil (flat_map (broken_by around.structs K) args ++ call_broken around K args g (function_named around.earlier g)) (unless (takes k ANumber) 2) b in
        let number = no_rule (takes k ANumber) 2 (back_nil (flat_map (broken_by around.structs K) args ++ call_broken around K args g (function_named around.earlier g)) (unless (takes k ANumber) 2) b) in
        by_function (function_named around.earlier g) refl number (front_nil (flat_map (broken_by around.structs K) args) (call_broken around K args g (function_named around.earlier g)) front) (back_nil (flat_map (broken_by around.structs K) args) (call_broken around K args g (function_named around.earlier g)) front)
      where
        by_function : (o : Option Function) → function_named around.earlier g ≡ o → takes k ANumber ≡ true → flat_map (broken_by around.structs (flatten ks)) args ≡ [] → call_broken around (flatten ks) args g o ≡ [] → Keeps m P (from_source calls p (FromCall g args) env m (λ v. fall (f v)))
        by_function None e t first c = absurd (not_later (flatten ks) args (function_named around.later g) c)
        by_function (Some fn) e t first c =
            args_keep m env ks p P (λ vs. from_call p (calls g vs m) (λ v. fall (f v))) fn.params args [] w h first (no_rule (args_fit around.structs (flatten ks) fn.params args) 2 c)
            (λ vs all. call_keeps m P p (calls g vs m) f (known_calls g fn e m vs w all) (λ n es safe. then_ es (Num n) (kind_taken (after es m) k ANumber (Num n) t tt u)))
