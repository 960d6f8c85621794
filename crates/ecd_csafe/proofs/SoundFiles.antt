-- Functions and files of valid code.
use Rattle.std.proofs.Common.{◌≡◌, ℕ, zero, suc, ◌+◌, List, [], ◌∷◌, ◌++◌, refl, ap, sym, ◌∙◌, subst, Bool, true, false, append_assoc, append-nil}
use Rattle.std.specs.Prelude.{Option, Some, None, slice_get, bytes_eq, if◌then◌else◌, ◌||◌, map, flat_map, not}
use Rattle.std.proofs.lemmas.Slice.Eq.{bytes_eq-Decides}
use Rattle.ecd_cast.specs.declared.tree.Stmt.{Stmt, Row_of-Stmt, end_of-Stmt, more_of-Stmt}
use Rattle.ecd_cast.specs.declared.tree.Stmt.TheVariants.{Number as DeclNumber, Pointer as DeclPointer, Assign, Store, SetCell, If', For', Return}
use Rattle.ecd_cast.specs.declared.tree.Param.{Param}
use Rattle.ecd_cast.specs.declared.tree.ParamKind.{ParamKind}
use Rattle.ecd_cast.specs.declared.tree.ParamKind.TheVariants.{Number as NumberParam, ReadPointer as ReadPointerParam, WritePointer as WritePointerParam, Struct as StructParam}
use Rattle.ecd_cast.specs.declared.tree.Function.{Function}
use Rattle.ecd_cast.specs.declared.tree.CellInfo.{CellInfo}
use Rattle.ecd_cast.specs.declared.tree.StructDecl.{StructDecl}
use Rattle.ecd_cast.specs.declared.tree.CItem.{CItem}
use Rattle.ecd_cast.specs.declared.tree.CItem.TheVariants.{Struct as AStructDecl, Function as AFunction}
use Rattle.ecd_cast.specs.Memory.{Name, Memory, Event, Step, Enters, Leaves, after}
use Rattle.ecd_cast.specs.declared.value.Value.{Value}
use Rattle.ecd_cast.specs.declared.value.Value.TheVariants.{Number as Num, Truth, Bytes as Ptr, Struct as Str}
use Rattle.ecd_cast.specs.Expressions.{Outcome, Gives, Fails, Scopes, value_of, in_frame}
use Rattle.ecd_cast.specs.Meaning.{Run, Falls, Returns, Stuck, events_of, doing, and_then, fall, Place, shifted, with, on_number, on_truth, Calls, count_of, count_in, does, does_row, block, frame_of, ended, called, no_calls, with_item, calls_from, calls_of, leave}
use Rattle.ecd_cast.specs.Kinds.{Known, kind_in, cell_of, cell_among, unless, unless_known, param_kind}
use Rattle.ecd_cast.specs.Validity.{Around, at_place, is_among, structs_of, struct_names, functions_of, function_names, function_named, returns, row_returns, block_returns, twice, head_names, named_in, params_known, param_broken, block_faults, item_faults, faults_from}
use Rattle.ecd_csafe.specs.Safety.{EndsWell, ValidCalls}
use Rattle.ecd_cast.specs.Fitting.{BlockKind, item_takes, is_place, is_output, param_takes, params_take}
use Rattle.ecd_cast.proofs.Kept.{front_nil, back_nil}
use Rattle.ecd_csafe.proofs.Sound.{no_rule, and_first, and_second, HasKind, FitsBoth}
use Rattle.ecd_csafe.proofs.SoundScopes.{AllFit, FrameFits, IsKinded, Safe, safe_then, safe_end, safe_first}
use Rattle.ecd_csafe.proofs.SoundRuns.{Agrees, no_fault, Keeps, CallKeeps}
use Rattle.ecd_csafe.proofs.SoundStmts.{block_keeps}

-- ---- code that ends by a return never falls through

abbrev NotFalls : Run → Type 0
NotFalls (Falls env es) = ⊥
NotFalls (Returns n es) = Unit {0}
NotFalls (Stuck r i s es) = Unit {0}

doing_not : (es : List Event) (r : Run) → NotFalls r → NotFalls (doing es r)
doing_not es (Falls env ds) h = h
doing_not es (Returns n ds) h = h
doing_not es (Stuck r i s ds) h = h

then_not : (r : Run) (m : Memory) (f : Scopes → Memory → Run) → ((env : Scopes) (n : Memory) → NotFalls (f env n)) → NotFalls (and_then r m f)
then_not (Falls env es) m f h = doing_not es (f env (after es m)) (h env (after es m))
then_not (Returns n es) m f h = tt
then_not (Stuck r i s es) m f h = tt

first_not : (r : Run) (m : Memory) (f : Scopes → Memory → Run) → NotFalls r → NotFalls (and_then r m f)
first_not (Falls env es) m f h = absurd h
first_not (Returns n es) m f h = tt
first_not (Stuck r i s es) m f h = tt

with_not : (p : Place) (o : Outcome) (f : Value → Run) → ((v : Value) → NotFalls (f v)) → NotFalls (with p o f)
with_not p (Gives v) f h = h v
with_not p (Fails r) f h = tt

number_not : (p : Place) (v : Value) → NotFalls (on_number p v (λ n. Returns n []))
number_not p (Num n) = tt
number_not p (Truth b) = tt
number_not p (Ptr b o) = tt
number_not p (Str b) = tt

truth_not : (p : Place) (v : Value) (f g : Unit {0} → Run) → NotFalls (f tt) → NotFalls (g tt) → NotFalls (on_truth p v f g)
truth_not p (Truth true) f g h k = h
truth_not p (Truth false) f g h k = k
truth_not p (Num n) f g h k = tt
truth_not p (Ptr b o) f g h k = tt
truth_not p (Str b) f g h k = tt

module _ (calls : Calls) where
  mutual
    stmt_not : (s : Stmt) (p : Place) (env : Scopes) (m : Memory) → returns s ≡ true → NotFalls (does calls s p env m)
    stmt_not (Return e) p env m h = with_not p (value_of e env m) _ (λ v. number_not p v)
    stmt_not (If' t s ys u ns) p env m h =
        with_not p (value_of t env m) _ (λ v. truth_not p v _ _
        (first_not (does_row calls ys (shifted p 1) ([] ∷ env) m) m (λ env' m'. fall (leave env')) (row_not ys (shifted p 1) ([] ∷ env) m (and_first (row_returns ys) (row_returns ns) h)))
        (first_not (does_row calls ns (shifted p (1 + count_in ys)) ([] ∷ env) m) m (λ env' m'. fall (leave env')) (row_not ns (shifted p (1 + count_in ys)) ([] ∷ env) m (and_second (row_returns ys) (row_returns ns) h))))
    stmt_not (DeclNumber x e) p env m h = absurd cc
    stmt_not (DeclPointer x e) p env m h = absurd cc
    stmt_not (Assign x e) p env m h = absurd cc
    stmt_not (Store x i e) p env m h = absurd cc
    stmt_not (SetCell x c e) p env m h = absurd cc
    stmt_not (For' x b s body) p env m h = absurd cc

    row_not : {n : _} (r : Row_of-Stmt n) (p : Place) (env : Scopes) (m : Memory) → row_returns r ≡ true → NotFalls (does_row calls r p env m)
    row_not end_of-Stmt p env m h = absurd cc
    row_not (more_of-Stmt s end_of-Stmt) p env m h = doing_not (Step ∷ []) _ (first_not (does calls s p env m) m (λ e k. fall e) (stmt_not s p env m h))
    row_not (more_of-Stmt s (more_of-Stmt t rest)) p env m h =
        doing_not (Step ∷ []) _ (then_not (does calls s p env m) m (does_row calls (more_of-Stmt t rest) (shifted p (count_of s))) (λ e k. row_not (more_of-Stmt t rest) (shifted p (count_of s)) e k h))

  block_not : (ss : List Stmt) (p : Place) (env : Scopes) (m : Memory) → block_returns ss ≡ true → NotFalls (block calls ss p env m)
  block_not [] p env m h = absurd cc
  block_not (s ∷ []) p env m h = doing_not (Step ∷ []) _ (first_not (does calls s p env m) m (λ e k. fall e) (stmt_not s p env m h))
  block_not (s ∷ (t ∷ rest)) p env m h =
      doing_not (Step ∷ []) _ (then_not (does calls s p env m) m (block calls (t ∷ rest) (shifted p (count_of s))) (λ e k. block_not (t ∷ rest) (shifted p (count_of s)) e k h))

-- ---- structs with names of their own

abbrev OwnNames : List StructDecl → Type 0
OwnNames [] = Unit {0}
OwnNames (d ∷ ds) = (is_among (map (λ s. s.name) ds) d.name ≡ false) × OwnNames ds

or_false : (a b : Bool) → (a || b) ≡ false → (a ≡ false) × (b ≡ false)
or_false false b e = (refl, e)
or_false true b e = absurd cc

or_both : (a b : Bool) → a ≡ false → b ≡ false → (a || b) ≡ false
or_both a b e h = rw (e, h)

other_way : (a b : Name) → bytes_eq a b ≡ false → bytes_eq b a ≡ false
other_way a b e = by_test (bytes_eq b a) refl
  where
    by_test : (t : Bool) → bytes_eq b a ≡ t → t ≡ false
    by_test false h = refl
    by_test true h = let same : a ≡ b = sym ((bytes_eq-Decides b a).0 h) in let bad : bytes_eq a b ≡ true = (bytes_eq-Decides a b).1 same in absurd cc

among_more : (ds : List StructDecl) (d : StructDecl) (x : Name) → is_among (map (λ s. s.name) ds) x ≡ false → bytes_eq d.name x ≡ false → is_among (map (λ s. s.name) (ds ++ d ∷ [])) x ≡ false
among_more [] d x h e = or_both (bytes_eq d.name x) false e refl
among_more (c ∷ ds) d x h e = let two = or_false (bytes_eq c.name x) (is_among (map (λ s. s.name) ds) x) h in or_both (bytes_eq c.name x) (is_among (map (λ s. s.name) (ds ++ d ∷ [])) x) two.0 (among_more ds d x two.1 e)

own_more : (ds : List StructDecl) (d : StructDecl) → OwnNames ds → is_among (map (λ s. s.name) ds) d.name ≡ false → OwnNames (ds ++ d ∷ [])
own_more [] d h e = (refl, tt)
own_more (c ∷ ds) d h e =
    let two = or_false (bytes_eq c.name d.name) (is_among (map (λ s. s.name) ds) d.name) e in
    (among_more ds d c.name h.0 (other_way c.name d.name two.0), own_more ds d h.1 two.1)

among_at : (ds : List StructDecl) (n : ℕ) (d : StructDecl) (x : Name) → slice_get ds n ≡ Some d → bytes_eq d.name x ≡ true → is_among (map (λ s. s.name) ds) x ≡ false → ⊥
among_at [] n d x e h k = cc
among_at (c ∷ ds) zero d x e h k = let same : c ≡ d = cc in let two = or_false (bytes_eq c.name x) (is_among (map (λ s. s.name) ds) x) k in let bad : bytes_eq c.name x ≡ true = ap (λ (s : StructDecl). bytes_eq s.name x) same ∙ h in let good = two.0 in cc
among_at (c ∷ ds) (suc n) d x e h k = among_at ds n d x e h (or_false (bytes_eq c.name x) (is_among (map (λ s. s.name) ds) x) k).1

agree : (ds more : List StructDecl) → OwnNames (ds ++ more) → Agrees (ds ++ more) ds
agree [] more own n d s c e h k = absurd cc
agree (f ∷ ds) more own zero d s c e h k = let same : f ≡ d = cc in let named : bytes_eq f.name s ≡ true = ap (λ (x : StructDecl). bytes_eq x.name s) same ∙ h in rw named (ap (λ (x : StructDecl). cell_among x.cells c) same)
agree (f ∷ ds) more own (suc n) d s c e h k = by_test (bytes_eq f.name s) refl (agree ds more own.1 n d s c e h)
  where
    by_test : (t : Bool) → bytes_eq f.name s ≡ t → (unless_known (cell_of ds s c) ≡ [] → cell_of ds s c ≡ cell_among d.cells c) → cell_of (f ∷ ds) s c ≡ cell_among d.cells c
    by_test true t g =
        let same : f.name ≡ s = (bytes_eq-Decides f.name s).0 t in
        let named : bytes_eq d.name f.name ≡ true = ap (λ x. bytes_eq d.name x) same ∙ h in
        absurd (among_at (ds ++ more) n d f.name e named own.0)
    by_test false t g = rw t (g (rw t at k))

functions-append : (xs ys : List CItem) → functions_of (xs ++ ys) ≡ functions_of xs ++ functions_of ys
functions-append [] ys = refl
functions-append (AStructDecl s ∷ xs) ys = functions-append xs ys
functions-append (AFunction f ∷ xs) ys = ap (λ (l : List Function). f ∷ l) (functions-append xs ys)

structs-append : (xs ys : List CItem) → structs_of (xs ++ ys) ≡ structs_of xs ++ structs_of ys
structs-append [] ys = refl
structs-append (AStructDecl s ∷ xs) ys = ap (λ (l : List StructDecl). s ∷ l) (structs-append xs ys)
structs-append (AFunction f ∷ xs) ys = structs-append xs ys

not_among : (b : Bool) → not b ≡ true → b ≡ false
not_among false e = refl
not_among true e = absurd cc

-- the structs of a file have names of their own
own_all : (before items : List CItem) (at_ : ℕ) → OwnNames (structs_of before) → faults_from before items at_ ≡ [] → OwnNames (structs_of (before ++ items))
own_all before [] at_ own faults = subst (λ (is : List CItem). OwnNames (structs_of is)) (sym (append-nil before)) own
own_all before (AStructDecl s ∷ is) at_ own faults =
    let head : Place = record { item = at_; statement = 0 } in
    let here = front_nil (item_faults before (AStructDecl s) (AStructDecl s ∷ is) at_) (faults_from (before ++ AStructDecl s ∷ []) is (at_ + 1)) faults in
    let first = no_fault head (unless (not (is_among (struct_names before) s.name)) 6) (front_nil (at_place head (unless (not (is_among (struct_names before) s.name)) 6)) (twice [] (head_names head (map (λ (c : CellInfo). c.name) s.cells))) here) in
    let fresh = not_among (is_among (struct_names before) s.name) (no_rule (not (is_among (struct_names before) s.name)) 6 first) in
    let more = subst OwnNames (sym (structs-append before (AStructDecl s ∷ []))) (own_more (structs_of before) s own fresh) in
    subst (λ (l : List CItem). OwnNames (structs_of l)) (append_assoc before (AStructDecl s ∷ []) is) (own_all (before ++ AStructDecl s ∷ []) is (at_ + 1) more (back_nil (item_faults before (AStructDecl s) (AStructDecl s ∷ is) at_) (faults_from (before ++ AStructDecl s ∷ []) is (at_ + 1)) faults))
own_all before (AFunction f ∷ is) at_ own faults =
    let same : structs_of (before ++ AFunction f ∷ []) ≡ structs_of before = structs-append before (AFunction f ∷ []) ∙ append-nil (structs_of before) in
    subst (λ (l : List CItem). OwnNames (structs_of l)) (append_assoc before (AFunction f ∷ []) is) (own_all (before ++ AFunction f ∷ []) is (at_ + 1) (subst OwnNames (sym same) own) (back_nil (item_faults before (AFunction f) (AFunction f ∷ is) at_) (faults_from (before ++ AFunction f ∷ []) is (at_ + 1)) faults))

-- functions by their names, behind others
none_named : (fs : List Function) (x : Name) → is_among (map (λ f. f.name) fs) x ≡ false → function_named fs x ≡ None
none_named [] x e = refl
none_named (f ∷ fs) x e = let two = or_false (bytes_eq f.name x) (is_among (map (λ g. g.name) fs) x) e in rw two.0 (none_named fs x two.1)

named_behind : (fs gs : List Function) (x : Name) → function_named fs x ≡ None → function_named (fs ++ gs) x ≡ function_named gs x
named_behind [] gs x e = refl
named_behind (f ∷ fs) gs x e = by_test (bytes_eq f.name x) refl (named_behind fs gs x)
  where
    by_test : (t : Bool) → bytes_eq f.name x ≡ t → (function_named fs x ≡ None → function_named (fs ++ gs) x ≡ function_named gs x) → function_named (f ∷ (fs ++ gs)) x ≡ function_named gs x
    by_test true t g = let bad = rw t at e in absurd cc
    by_test false t g = rw t (g (rw t at e))

not_last : (fs : List Function) (f : Function) (x : Name) → bytes_eq f.name x ≡ false → function_named (fs ++ f ∷ []) x ≡ function_named fs x
not_last [] f x e = rw e
not_last (g ∷ fs) f x e = ap (λ o. if bytes_eq g.name x then Some g else o) (not_last fs f x e)

-- the function of an item, by its name
pub named_item : (before items : List CItem) (at_ n : ℕ) (f : Function) → faults_from before items at_ ≡ [] → slice_get items n ≡ Some (AFunction f) →
    ((g : Function) (from : List CItem) (pre : List CItem) (k : ℕ) → item_faults pre (AFunction g) from k ≡ [] → is_among (function_names pre) g.name ≡ false) → function_named (functions_of (before ++ items)) f.name ≡ Some f
named_item before [] at_ n f faults e fresh = absurd cc
named_item before (AFunction g ∷ is) at_ zero f faults e fresh =
    let same : AFunction g ≡ AFunction f = cc in
    let function : g ≡ f = cc in
    let here = fresh g (AFunction g ∷ is) before at_ (front_nil (item_faults before (AFunction g) (AFunction g ∷ is) at_) (faults_from (before ++ AFunction g ∷ []) is (at_ + 1)) faults) in
    let none = none_named (functions_of before) g.name here in
    let found : function_named (functions_of (before ++ AFunction g ∷ is)) g.name ≡ Some g =
    ap (λ (l : List Function). function_named l g.name) (functions-append before (AFunction g ∷ is)) ∙ (named_behind (functions_of before) (g ∷ functions_of is) g.name none ∙ rw ((bytes_eq-Decides g.name g.name).1 refl)) in
    subst (λ (h : Function). function_named (functions_of (before ++ AFunction g ∷ is)) h.name ≡ Some h) function found
named_item before (AStructDecl s ∷ is) at_ zero f faults e fresh = absurd cc
named_item before (i ∷ is) at_ (suc n) f faults e fresh =
    subst (λ (l : List CItem). function_named (functions_of l) f.name ≡ Some f) (append_assoc before (i ∷ []) is) (named_item (before ++ i ∷ []) is (at_ + 1) n f (back_nil (item_faults before i (i ∷ is) at_) (faults_from (before ++ i ∷ []) is (at_ + 1)) faults) e fresh)

-- ---- functions

module _ (S : List StructDecl) (kinds : List BlockKind) where
  param_kinded : (m : Memory) (k : ParamKind) (v : Value) → param_takes S kinds m k v ≡ true → HasKind S kinds m (param_kind k) v
  param_kinded m NumberParam (Num n) h = tt
  param_kinded m NumberParam (Truth b) h = absurd cc
  param_kinded m NumberParam (Ptr b o) h = absurd cc
  param_kinded m NumberParam (Str b) h = absurd cc
  param_kinded m ReadPointerParam (Ptr b o) h = h
  param_kinded m ReadPointerParam (Num n) h = absurd cc
  param_kinded m ReadPointerParam (Truth b) h = absurd cc
  param_kinded m ReadPointerParam (Str b) h = absurd cc
  param_kinded m WritePointerParam (Ptr b o) h = (and_first (is_output (slice_get kinds b)) (is_place m b o) h, and_second (is_output (slice_get kinds b)) (is_place m b o) h)
  param_kinded m WritePointerParam (Num n) h = absurd cc
  param_kinded m WritePointerParam (Truth b) h = absurd cc
  param_kinded m WritePointerParam (Str b) h = absurd cc
  param_kinded m (StructParam x) (Str b) h = h
  param_kinded m (StructParam x) (Num n) h = absurd cc
  param_kinded m (StructParam x) (Truth b) h = absurd cc
  param_kinded m (StructParam x) (Ptr b o) h = absurd cc

  frame_fits : (m : Memory) (params : List Param) (vs : List Value) → params_take S kinds m params vs ≡ true → FrameFits S kinds m (frame_of params vs) (params_known params)
  frame_fits m [] [] h y = tt
  frame_fits m [] (v ∷ vs) h y = absurd cc
  frame_fits m (q ∷ params) [] h y = absurd cc
  frame_fits m (q ∷ params) (v ∷ vs) h y = by_test (bytes_eq q.name y) (frame_fits m params vs (and_second (param_takes S kinds m q.kind v) (params_take S kinds m params vs) h) y)
    where
      by_test : (t : Bool) → FitsBoth S kinds m (kind_in (params_known params) y) (in_frame (frame_of params vs) y) → FitsBoth S kinds m (if t then Some (param_kind q.kind) else kind_in (params_known params) y) (if t then Some v else in_frame (frame_of params vs) y)
      by_test true g = param_kinded m q.kind v (and_first (param_takes S kinds m q.kind v) (params_take S kinds m params vs) h)
      by_test false g = g

  entered_keeps : (m : Memory) (P : Memory → Scopes → Type 0) (at_ : ℕ) (r : Run) → IsKinded S kinds m → NotFalls r → Keeps S kinds m P r → CallKeeps S kinds m (doing (Enters ∷ []) (ended at_ r))
  entered_keeps m P at_ (Falls env es) w n h = absurd n
  entered_keeps m P at_ (Returns i es) w n h = (w, safe_then S kinds m es (Leaves ∷ []) h (safe_end S kinds m es w h, tt))
  entered_keeps m P at_ (Stuck r i s es) w n h = ((w, h.0), h.1)

  abbrev KnownCalls : List Function → Calls → Type 0
  KnownCalls earlier calls = (g : Name) (f : Function) → function_named earlier g ≡ Some f → (m : Memory) (vs : List Value) → IsKinded S kinds m → params_take S kinds m f.params vs ≡ true → CallKeeps S kinds m (calls g vs m)

  function_keeps : (before : List CItem) (f : Function) (from : List CItem) (at_ : ℕ) (calls : Calls) → Agrees S (structs_of before) → KnownCalls (functions_of before) calls → item_faults before (AFunction f) from at_ ≡ [] →
      (m : Memory) (vs : List Value) → IsKinded S kinds m → params_take S kinds m f.params vs ≡ true → CallKeeps S kinds m (called calls at_ f vs m)
  function_keeps before f from at_ calls agrees known faults m vs w fit =
      let head : Place = record { item = at_; statement = 0 } in
      let first : Place = record { item = at_; statement = 1 } in
      let around : Around = record { structs = structs_of before; earlier = functions_of before; later = functions_of from; loops = [] } in
      let rules = flat_map (λ (q : Param). param_broken (struct_names before) q.kind) f.params ++ unless (block_returns f.body) 5 ++ unless (not (is_among (function_names before) f.name)) 6 in
      let names = twice [] (head_names head (map (λ (q : Param). q.name) f.params) ++ named_in f.body first) in
      let body = back_nil (at_place head rules ++ names) (block_faults around (params_known f.params) f.body first) faults in
      let heads = no_fault head rules (front_nil (at_place head rules) names (front_nil (at_place head rules ++ names) (block_faults around (params_known f.params) f.body first) faults)) in
      let params_and_end = front_nil (flat_map (λ (q : Param). param_broken (struct_names before) q.kind) f.params ++ unless (block_returns f.body) 5) (unless (not (is_among (function_names before) f.name)) 6) heads in
      let ends = no_rule (block_returns f.body) 5 (back_nil (flat_map (λ (q : Param). param_broken (struct_names before) q.kind) f.params) (unless (block_returns f.body) 5) params_and_end) in
      let known_here = subst (λ (k : Known). block_faults around k f.body first ≡ []) (sym (append-nil (params_known f.params))) body in
      let run = block calls f.body first (frame_of f.params vs ∷ []) m in
      let kept = block_keeps S kinds (structs_of before) (functions_of before) (functions_of from) calls agrees known f.body [] (params_known f.params) [] first (frame_of f.params vs ∷ []) m w (frame_fits m f.params vs fit, tt) known_here in
      entered_keeps m (λ n e. (kn : Known) × AllFit S kinds n e (kn ∷ [])) at_ run w (block_not calls f.body first (frame_of f.params vs ∷ []) m ends) kept

  -- ---- items

  function_item : (before : List CItem) (f : Function) (from : List CItem) (at_ : ℕ) → item_faults before (AFunction f) from at_ ≡ [] → is_among (function_names before) f.name ≡ false
  function_item before f from at_ faults =
      let head : Place = record { item = at_; statement = 0 } in
      let first : Place = record { item = at_; statement = 1 } in
      let around : Around = record { structs = structs_of before; earlier = functions_of before; later = functions_of from; loops = [] } in
      let rules = flat_map (λ (q : Param). param_broken (struct_names before) q.kind) f.params ++ unless (block_returns f.body) 5 ++ unless (not (is_among (function_names before) f.name)) 6 in
      let names = twice [] (head_names head (map (λ (q : Param). q.name) f.params) ++ named_in f.body first) in
      let heads = no_fault head rules (front_nil (at_place head rules) names (front_nil (at_place head rules ++ names) (block_faults around (params_known f.params) f.body first) faults)) in
      not_among (is_among (function_names before) f.name) (no_rule (not (is_among (function_names before) f.name)) 6 (back_nil (flat_map (λ (q : Param). param_broken (struct_names before) q.kind) f.params ++ unless (block_returns f.body) 5) (unless (not (is_among (function_names before) f.name)) 6) heads))

  one_more_call : (fs : List Function) (f : Function) (at_ : ℕ) (calls : Calls) → is_among (map (λ g. g.name) fs) f.name ≡ false → KnownCalls fs calls →
      ((m : Memory) (vs : List Value) → IsKinded S kinds m → params_take S kinds m f.params vs ≡ true → CallKeeps S kinds m (called calls at_ f vs m)) → KnownCalls (fs ++ f ∷ []) (with_item calls at_ (AFunction f))
  one_more_call fs f at_ calls fresh known here g h e m vs w fit = by_test (bytes_eq f.name g) refl
    where
      by_test : (t : Bool) → bytes_eq f.name g ≡ t → CallKeeps S kinds m (elim t [ true ↦ called calls at_ f vs m | false ↦ calls g vs m ])
      by_test true t =
          let same : f.name ≡ g = (bytes_eq-Decides f.name g).0 t in
          let none = none_named fs g (subst (λ (x : Name). is_among (map (λ k. k.name) fs) x ≡ false) same fresh) in
          let found : function_named (fs ++ f ∷ []) g ≡ Some f = named_behind fs (f ∷ []) g none ∙ rw t in
          let one : f ≡ h = let some : Some f ≡ Some h = sym found ∙ e in cc in
          here m vs w (subst (λ (k : Function). params_take S kinds m k.params vs ≡ true) (sym one) fit)
      by_test false t = known g h (sym (not_last fs f g t) ∙ e) m vs w fit

  -- ---- items

  files_keep : (all before items : List CItem) (at_ : ℕ) (calls : Calls) → before ++ items ≡ all → ((pre post : List CItem) → pre ++ post ≡ all → Agrees S (structs_of pre)) → faults_from before items at_ ≡ [] → KnownCalls (functions_of before) calls → KnownCalls (functions_of all) (calls_from calls at_ items)
  files_keep all before [] at_ calls whole agrees faults known = subst (λ (is : List CItem). KnownCalls (functions_of is) calls) (sym (append-nil before) ∙ whole) known
  files_keep all before (AStructDecl s ∷ is) at_ calls whole agrees faults known =
      let joined : (before ++ AStructDecl s ∷ []) ++ is ≡ all = append_assoc before (AStructDecl s ∷ []) is ∙ whole in
      let same : functions_of (before ++ AStructDecl s ∷ []) ≡ functions_of before = functions-append before (AStructDecl s ∷ []) ∙ append-nil (functions_of before) in
      files_keep all (before ++ AStructDecl s ∷ []) is (at_ + 1) (with_item calls at_ (AStructDecl s)) joined agrees (back_nil (item_faults before (AStructDecl s) (AStructDecl s ∷ is) at_) (faults_from (before ++ AStructDecl s ∷ []) is (at_ + 1)) faults)
      (subst (λ (fs : List Function). KnownCalls fs calls) (sym same) known)
  files_keep all before (AFunction f ∷ is) at_ calls whole agrees faults known =
      let joined : (before ++ AFunction f ∷ []) ++ is ≡ all = append_assoc before (AFunction f ∷ []) is ∙ whole in
      let here = front_nil (item_faults before (AFunction f) (AFunction f ∷ is) at_) (faults_from (before ++ AFunction f ∷ []) is (at_ + 1)) faults in
      let fresh = function_item before f (AFunction f ∷ is) at_ here in
      let one = function_keeps before f (AFunction f ∷ is) at_ calls (agrees before (AFunction f ∷ is) whole) known here in
      files_keep all (before ++ AFunction f ∷ []) is (at_ + 1) (with_item calls at_ (AFunction f)) joined agrees (back_nil (item_faults before (AFunction f) (AFunction f ∷ is) at_) (faults_from (before ++ AFunction f ∷ []) is (at_ + 1)) faults)
      (subst (λ (fs : List Function). KnownCalls fs (with_item calls at_ (AFunction f))) (sym (functions-append before (AFunction f ∷ []))) (one_more_call (functions_of before) f at_ calls fresh known one))

  -- ---- a whole file

  pub file_keeps : (items : List CItem) → structs_of items ≡ S → faults_from [] items 0 ≡ [] → KnownCalls (functions_of items) (calls_of items)
  file_keeps items is faults = files_keep items [] items 0 no_calls refl (λ pre post e.
      let split : structs_of pre ++ structs_of post ≡ S = sym (structs-append pre post) ∙ (ap structs_of e ∙ is) in
      let own = own_all [] items 0 tt faults in
      subst (λ (l : List StructDecl). Agrees l (structs_of pre)) split (agree (structs_of pre) (structs_of post) (subst OwnNames (is ∙ sym split) own))) faults (λ g f e. let bad = e in absurd cc)

-- ---- programs

ended_well : (S : List StructDecl) (kinds : List BlockKind) (m : Memory) (r : Run) → CallKeeps S kinds m r → EndsWell r × Safe S kinds m (events_of r)
ended_well S kinds m (Falls env es) h = absurd h
ended_well S kinds m (Returns n es) h = (tt, h)
ended_well S kinds m (Stuck r i s es) h = (h.1, h.0)

pub valid_calls : ValidCalls
valid_calls p kinds m number f vs valid stands kinded fits =
    let S = structs_of p.items in
    let named = named_item [] p.items 0 number f valid.sound stands (λ g from pre k e. function_item S kinds pre g from k e) in
    let taken : params_take S kinds m f.params vs ≡ true = subst (λ (o : Option CItem). item_takes S kinds m o vs ≡ true) stands fits in
    let kept = ended_well S kinds m (calls_of p.items f.name vs m) (file_keeps S kinds p.items refl valid.sound f.name f named m vs kinded taken) in
    record { ends = kept.0; keeps = λ n. safe_first S kinds m (events_of (calls_of p.items f.name vs m)) n kinded kept.1 }
