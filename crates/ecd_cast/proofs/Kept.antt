-- A valid item stays valid where items are put behind it.
use Rattle.std.proofs.Common.{◌≡◌, ℕ, zero, suc, ◌+◌, List, [], ◌∷◌, ◌++◌, length, drop, refl, ap, ◌∙◌, subst, arith, append_assoc, append-nil, add-zero}
use Rattle.std.specs.Prelude.{flat_map, Option, Some, None, not, slice_get}
use Rattle.ecd_cast.specs.declared.tree.Expr.{Expr}
use Rattle.ecd_cast.specs.declared.tree.Source.{Source}
use Rattle.ecd_cast.specs.declared.tree.Source.TheVariants.{Value as FromValue, Call as FromCall}
use Rattle.ecd_cast.specs.declared.tree.Stmt.{Stmt, Row_of-Stmt, end_of-Stmt, more_of-Stmt}
use Rattle.ecd_cast.specs.declared.tree.Stmt.TheVariants.{Number as DeclNumber, Pointer as DeclPointer, Assign, Store, SetCell, If', For', Return}
use Rattle.ecd_cast.specs.declared.tree.StructDecl.{StructDecl}
use Rattle.ecd_cast.specs.declared.tree.Function.{Function}
use Rattle.ecd_cast.specs.declared.tree.CItem.{CItem}
use Rattle.ecd_cast.specs.declared.tree.CItem.TheVariants.{Struct as AStructDecl, Function as AFunction}
use Rattle.ecd_cast.specs.Memory.{Name}
use Rattle.ecd_cast.specs.Meaning.{Place, shifted, count_of, count_in}
use Rattle.ecd_cast.specs.Kinds.{Kind, ANumber, ATruth, Known, kind_in, broken_by, broken_as, asked, unless, args_fit, takes}
use Rattle.ecd_cast.specs.Validity.{Around, at_place, call_broken, call_later, source_broken, assignable, assigned_kind, is_among, function_named, known_after, stmt_faults, row_faults, block_faults, item_faults, faults_from, structs_of, functions_of, params_known}

pub front_nil : {A : Type 0} (xs ys : List A) → xs ++ ys ≡ [] → xs ≡ []
front_nil [] ys e = refl
front_nil (x ∷ xs) ys e = absurd cc

pub back_nil : {A : Type 0} (xs ys : List A) → xs ++ ys ≡ [] → ys ≡ []
back_nil [] ys e = e
back_nil (x ∷ xs) ys e = absurd cc

pub both_nil : {A : Type 0} (xs ys : List A) → xs ≡ [] → ys ≡ [] → xs ++ ys ≡ []
both_nil xs ys e h = rw (e, h)

pub get_drop : {X : Type 0} (n k : ℕ) (xs : List X) → slice_get (drop n xs) k ≡ slice_get xs (n + k)
get_drop zero k xs = ap (λ j. slice_get xs j) (omega arith)
get_drop (suc n) k [] = refl
get_drop (suc n) k (x ∷ xs) = get_drop n k xs ∙ ap (λ j. slice_get (x ∷ xs) j) same
  where
    same : suc (n + k) ≡ suc n + k
    same = omega arith

map_nil : (p : Place) (rules : List ℕ) → at_place p rules ≡ [] → rules ≡ []
map_nil p [] e = refl
map_nil p (r ∷ rs) e = absurd cc

-- by the functions that stand behind
module _ (structs : List StructDecl) (earlier later more : List Function) where
  abbrev with_later : List Function → List Name → Around
  with_later fs loops = record { structs = structs; earlier = earlier; later = fs; loops = loops }

  later_breaks : (loops : List Name) (known : Known) (args : List Expr) (o : Option Function) → call_later (with_later later loops) known args o ≡ [] → ⊥
  later_breaks loops known args (Some f) e = let h = back_nil (unless (args_fit structs known f.params args) 2) (3 ∷ []) e in cc
  later_breaks loops known args None e = cc

  call_kept : (loops : List Name) (known : Known) (args : List Expr) (g : Name) (o : Option Function) → call_broken (with_later later loops) known args g o ≡ [] → call_broken (with_later more loops) known args g o ≡ []
  call_kept loops known args g (Some f) e = e
  call_kept loops known args g None e = absurd (later_breaks loops known args (function_named later g) e)

  source_kept : (loops : List Name) (known : Known) (k : Kind) (s : Source) → source_broken (with_later later loops) known k s ≡ [] → source_broken (with_later more loops) known k s ≡ []
  source_kept loops known k (FromValue x) e = e
  source_kept loops known k (FromCall g args) e =
      let inner : List ℕ = flat_map (broken_by structs known) args in
      let o = function_named earlier g in
      let call = call_broken (with_later later loops) known args g o in
      let last = unless (takes k ANumber) 2 in
      let front = front_nil (inner ++ call) last e in
      both_nil (inner ++ call_broken (with_later more loops) known args g o) last
      (both_nil inner (call_broken (with_later more loops) known args g o) (front_nil inner call front) (call_kept loops known args g o (back_nil inner call front)))
      (back_nil (inner ++ call) last e)

  placed_kept : (p : Place) (loops : List Name) (known : Known) (k : Kind) (s : Source) → at_place p (source_broken (with_later later loops) known k s) ≡ [] → at_place p (source_broken (with_later more loops) known k s) ≡ []
  placed_kept p loops known k s e = ap (at_place p) (source_kept loops known k s (map_nil p (source_broken (with_later later loops) known k s) e))

  assigned_kept : (p : Place) (loops : List Name) (known : Known) (x : Name) (s : Source) →
      at_place p (assignable (kind_in known x) ++ source_broken (with_later later loops) known (assigned_kind (kind_in known x)) s ++ unless (not (is_among loops x)) 4) ≡ [] →
      at_place p (assignable (kind_in known x) ++ source_broken (with_later more loops) known (assigned_kind (kind_in known x)) s ++ unless (not (is_among loops x)) 4) ≡ []
  assigned_kept p loops known x s e =
      let to = assignable (kind_in known x) in
      let k = assigned_kind (kind_in known x) in
      let source = source_broken (with_later later loops) known k s in
      let last = unless (not (is_among loops x)) 4 in
      let all = map_nil p ((to ++ source) ++ last) e in
      let front = front_nil (to ++ source) last all in
      let kept = source_kept loops known k s (back_nil to source front) in
      ap (at_place p) (both_nil (to ++ source_broken (with_later more loops) known k s) last (both_nil to (source_broken (with_later more loops) known k s) (front_nil to source front) kept) (back_nil (to ++ source) last all))

  mutual
    stmt_kept : (s : Stmt) (loops : List Name) (known : Known) (p : Place) → stmt_faults (with_later later loops) known s p ≡ [] → stmt_faults (with_later more loops) known s p ≡ []
    stmt_kept (DeclNumber x e) loops known p h = placed_kept p loops known ANumber e h
    stmt_kept (DeclPointer x e) loops known p h = h
    stmt_kept (Assign x e) loops known p h = assigned_kept p loops known x e h
    stmt_kept (Store x i e) loops known p h = h
    stmt_kept (SetCell x c e) loops known p h = h
    stmt_kept (If' t s ys u ns) loops known p h =
        let here = at_place p (broken_as ATruth structs known t) in
        let first = row_faults (with_later later loops) known ys (shifted p 1) in
        let second = row_faults (with_later later loops) known ns (shifted p (1 + count_in ys)) in
        let front = front_nil (here ++ first) second h in
        both_nil (here ++ row_faults (with_later more loops) known ys (shifted p 1)) (row_faults (with_later more loops) known ns (shifted p (1 + count_in ys)))
        (both_nil here (row_faults (with_later more loops) known ys (shifted p 1)) (front_nil here first front) (row_kept ys loops known (shifted p 1) (back_nil here first front)))
        (row_kept ns loops known (shifted p (1 + count_in ys)) (back_nil (here ++ first) second h))
    stmt_kept (For' x b s body) loops known p h =
        let here = at_place p (asked ANumber (kind_in known b)) in
        let inner = row_faults (with_later later (x ∷ b ∷ loops)) ((x, ANumber) ∷ known) body (shifted p 1) in
        both_nil here (row_faults (with_later more (x ∷ b ∷ loops)) ((x, ANumber) ∷ known) body (shifted p 1)) (front_nil here inner h)
        (row_kept body (x ∷ b ∷ loops) ((x, ANumber) ∷ known) (shifted p 1) (back_nil here inner h))
    stmt_kept (Return e) loops known p h = h

    row_kept : {n : _} (r : Row_of-Stmt n) (loops : List Name) (known : Known) (p : Place) → row_faults (with_later later loops) known r p ≡ [] → row_faults (with_later more loops) known r p ≡ []
    row_kept end_of-Stmt loops known p h = refl
    row_kept (more_of-Stmt s rest) loops known p h =
        let first = stmt_faults (with_later later loops) known s p in
        let others = row_faults (with_later later loops) (known_after s known) rest (shifted p (count_of s)) in
        both_nil (stmt_faults (with_later more loops) known s p) (row_faults (with_later more loops) (known_after s known) rest (shifted p (count_of s)))
        (stmt_kept s loops known p (front_nil first others h))
        (row_kept rest loops (known_after s known) (shifted p (count_of s)) (back_nil first others h))

  pub block_kept : (body : List Stmt) (loops : List Name) (known : Known) (p : Place) → block_faults (with_later later loops) known body p ≡ [] → block_faults (with_later more loops) known body p ≡ []
  block_kept [] loops known p h = refl
  block_kept (s ∷ rest) loops known p h =
      let first = stmt_faults (with_later later loops) known s p in
      let others = block_faults (with_later later loops) (known_after s known) rest (shifted p (count_of s)) in
      both_nil (stmt_faults (with_later more loops) known s p) (block_faults (with_later more loops) (known_after s known) rest (shifted p (count_of s)))
      (stmt_kept s loops known p (front_nil first others h))
      (block_kept rest loops (known_after s known) (shifted p (count_of s)) (back_nil first others h))

pub item_kept : (before : List CItem) (i : CItem) (from more : List CItem) (at : ℕ) → item_faults before i from at ≡ [] → item_faults before i more at ≡ []
item_kept before (AStructDecl s) from more at h = h
item_kept before (AFunction f) from more at h =
    let first : Place = record { item = at; statement = 1 } in
    let kept = block_kept (structs_of before) (functions_of before) (functions_of from) (functions_of more) f.body [] (params_known f.params) first (back_nil _ (block_faults (with_later (structs_of before) (functions_of before) (functions_of from) (functions_of more) (functions_of from) []) (params_known f.params) f.body first) h) in
    both_nil _ (block_faults (with_later (structs_of before) (functions_of before) (functions_of from) (functions_of more) (functions_of more) []) (params_known f.params) f.body first) (front_nil _ (block_faults (with_later (structs_of before) (functions_of before) (functions_of from) (functions_of more) (functions_of from) []) (params_known f.params) f.body first) h) kept

-- one more valid item behind valid ones
pub items_grow : (before items : List CItem) (item : CItem) (at : ℕ) → faults_from before items at ≡ [] → item_faults (before ++ items) item (item ∷ []) (at + length items) ≡ [] → faults_from before (items ++ item ∷ []) at ≡ []
items_grow before [] item at h k =
    let here : item_faults before item (item ∷ []) at ≡ [] = rw (append-nil, add-zero) at k in
    both_nil (item_faults before item (item ∷ []) at) [] here refl
items_grow before (x ∷ xs) item at h k =
    let first = item_faults before x (x ∷ xs) at in
    let others = faults_from (before ++ x ∷ []) xs (at + 1) in
    let kept = item_kept before x (x ∷ xs) (x ∷ (xs ++ item ∷ [])) at (front_nil first others h) in
    let places : at + length (x ∷ xs) ≡ (at + 1) + length xs = omega arith in
    let there : item_faults ((before ++ x ∷ []) ++ xs) item (item ∷ []) ((at + 1) + length xs) ≡ [] = rw append_assoc (subst (λ (n : ℕ). item_faults (before ++ x ∷ xs) item (item ∷ []) n ≡ []) places k) in
    both_nil (item_faults before x (x ∷ (xs ++ item ∷ [])) at) (faults_from (before ++ x ∷ []) (xs ++ item ∷ []) (at + 1)) kept (items_grow (before ++ x ∷ []) xs item (at + 1) (back_nil first others h) there)
