-- No chain of calls of a valid program is heavier than the heaviest, nor longer than its call depth.
use Rattle.std.proofs.Common.{◌≡◌, ℕ, zero, suc, ◌+◌, ◌<◌, ◌≤◌, List, [], ◌∷◌, ◌++◌, length, refl, sym, ap, subst, ◌∙◌, arith, append_assoc, append-nil, Bool, true, false, ◌⊎◌, inl, inr}
use Rattle.std.specs.Prelude.{max, if◌then◌else◌, ◌||◌, not, map, flat_map, bytes_eq, Some, slice_get}
use Rattle.std.proofs.lemmas.Slice.Eq.{bytes_eq-Decides}
use Rattle.ecd_cast.specs.declared.tree.Source.{Source}
use Rattle.ecd_cast.specs.declared.tree.Source.TheVariants.{Value as FromValue, Call as FromCall}
use Rattle.ecd_cast.specs.declared.tree.Stmt.{Stmt, Row_of-Stmt, end_of-Stmt, more_of-Stmt}
use Rattle.ecd_cast.specs.declared.tree.Stmt.TheVariants.{Number as DeclNumber, Pointer as DeclPointer, Assign, Store, SetCell, If', For', Return}
use Rattle.ecd_cast.specs.declared.tree.Param.{Param}
use Rattle.ecd_cast.specs.declared.tree.Function.{Function}
use Rattle.ecd_cast.specs.declared.tree.CItem.{CItem}
use Rattle.ecd_cast.specs.declared.tree.CItem.TheVariants.{Struct as AStruct, Function as AFunction}
use Rattle.ecd_cast.specs.Memory.{Name}
use Rattle.ecd_cast.specs.Meaning.{Place}
use Rattle.ecd_cast.specs.Kinds.{unless}
use Rattle.ecd_cast.specs.Validity.{Around, Chains, at_place, is_among, struct_names, structs_of, functions_of, function_names, block_returns, twice, head_names, named_in, params_known, param_broken, block_faults, item_faults, faults_from, source_chain, chain_of, chain_in, block_chain, with_chain, heaviest_from, call_depth_of}
use Rattle.ecd_csafe.specs.Deepest.{source_calls, calls, row_calls, block_calls, IsFunction, IsChain, weight_in, chain_weight, HasNoHeavierChain, HasNoLongerChain}
use Rattle.ecd_cast.proofs.Kept.{front_nil, back_nil}
use Rattle.ecd_csafe.proofs.DeepestChains.{weighs_its_length}
use Rattle.ecd_csafe.proofs.Sound.{no_rule}
use Rattle.ecd_csafe.proofs.SoundRuns.{no_fault}

-- ---- tests

or_true : (a b : Bool) → (a || b) ≡ true → (a ≡ true) ⊎ (b ≡ true)
or_true true b h = inl refl
or_true false b h = inr h

or_false : (a b : Bool) → (a || b) ≡ false → (a ≡ false) × (b ≡ false)
or_false true b h = absurd cc
or_false false b h = (refl, h)

not_true : (b : Bool) → not b ≡ true → b ≡ false
not_true false e = refl
not_true true e = absurd cc

same_bytes : (xs : List ℕ) → bytes_eq xs xs ≡ true
same_bytes xs = (bytes_eq-Decides xs xs).1 refl

other_way : (xs ys : List ℕ) → bytes_eq xs ys ≡ false → bytes_eq ys xs ≡ false
other_way xs ys e = by_test (bytes_eq ys xs) refl
  where
    by_test : (t : Bool) → bytes_eq ys xs ≡ t → t ≡ false
    by_test true t = let bad : bytes_eq xs ys ≡ true = (bytes_eq-Decides xs ys).1 (sym ((bytes_eq-Decides ys xs).0 t)) in absurd cc
    by_test false t = refl

below_or : (n k : ℕ) → n < k + 1 → (n < k) ⊎ (n ≡ k)
below_or zero zero h = inr refl
below_or zero (suc k) h = inl (omega arith)
below_or (suc n) zero h = absurd (omega (arith, h))
below_or (suc n) (suc k) h = elim (below_or n k (omega (arith, h))) [ inl l ↦ inl (omega (arith, l)) | inr e ↦ inr (ap suc e) ]

-- ---- lists

get_behind : (before : List CItem) (i : CItem) (is : List CItem) → slice_get (before ++ i ∷ is) (length before) ≡ Some i
get_behind [] i is = refl
get_behind (b ∷ bs) i is = get_behind bs i is

get_front : (before rest : List CItem) (n : ℕ) → n < length before → slice_get (before ++ rest) n ≡ slice_get before n
get_front [] rest n h = absurd (omega (arith, h))
get_front (b ∷ bs) rest zero h = refl
get_front (b ∷ bs) rest (suc n) h = get_front bs rest n (omega (arith, h))

get_within : (items : List CItem) (n : ℕ) (i : CItem) → slice_get items n ≡ Some i → n < length items
get_within [] n i e = absurd cc
get_within (x ∷ xs) zero i e = omega arith
get_within (x ∷ xs) (suc n) i e = let h = get_within xs n i e in omega (arith, h)

length_more : (before : List CItem) (i : CItem) → length (before ++ i ∷ []) ≡ length before + 1
length_more [] i = omega arith
length_more (b ∷ bs) i = let h = length_more bs i in omega (arith, h)

one_function : (f g : Function) → Some (AFunction f) ≡ Some (AFunction g) → f ≡ g
one_function f g e = let same : AFunction f ≡ AFunction g = cc in cc

-- a function among these has another name than this one
other_name : (before : List CItem) (n : ℕ) (f : Function) (x : Name) → slice_get before n ≡ Some (AFunction f) → is_among (function_names before) x ≡ false → bytes_eq f.name x ≡ false
other_name [] n f x e h = absurd cc
other_name (AStruct s ∷ bs) zero f x e h = absurd cc
other_name (AStruct s ∷ bs) (suc n) f x e h = other_name bs n f x e h
other_name (AFunction g ∷ bs) zero f x e h =
    let same : g ≡ f = one_function g f e in
    subst (λ (k : Function). bytes_eq k.name x ≡ false) same (or_false (bytes_eq g.name x) (is_among (function_names bs) x) h).0
other_name (AFunction g ∷ bs) (suc n) f x e h = other_name bs n f x e (or_false (bytes_eq g.name x) (is_among (function_names bs) x) h).1

-- a function that breaks no rule has a name of its own
own_name : (before : List CItem) (f : Function) (from : List CItem) (at_ : ℕ) → item_faults before (AFunction f) from at_ ≡ [] → is_among (function_names before) f.name ≡ false
own_name before f from at_ faults =
    let head : Place = record { item = at_; statement = 0 } in
    let first : Place = record { item = at_; statement = 1 } in
    let around : Around = record { structs = structs_of before; earlier = functions_of before; later = functions_of from; loops = [] } in
    let rules = flat_map (λ (q : Param). param_broken (struct_names before) q.kind) f.params ++ unless (block_returns f.body) 5 ++ unless (not (is_among (function_names before) f.name)) 6 in
    let names = twice [] (head_names head (map (λ (q : Param). q.name) f.params) ++ named_in f.body first) in
    let heads = no_fault head rules (front_nil (at_place head rules) names (front_nil (at_place head rules ++ names) (block_faults around (params_known f.params) f.body first) faults)) in
    not_true (is_among (function_names before) f.name) (no_rule (not (is_among (function_names before) f.name)) 6 (back_nil (flat_map (λ (q : Param). param_broken (struct_names before) q.kind) f.params ++ unless (block_returns f.body) 5) (unless (not (is_among (function_names before) f.name)) 6) heads))

-- ---- what a body calls has no longer chain than the body

module _ (chains : Chains) (g : Name) where
  source_below : (s : Source) → source_calls s g ≡ true → chains g ≤ source_chain chains s
  source_below (FromValue e) h = absurd cc
  source_below (FromCall x args) h = let same : x ≡ g = (bytes_eq-Decides x g).0 h in subst (λ (y : Name). chains g ≤ chains y) (sym same) (omega arith)

  either_below : (a b : Bool) (m n : ℕ) → (a || b) ≡ true → (a ≡ true → chains g ≤ m) → (b ≡ true → chains g ≤ n) → chains g ≤ max m n
  either_below a b m n e h k = elim (or_true a b e) [ inl l ↦ (let le = h l in omega (arith, le)) | inr r ↦ (let le = k r in omega (arith, le)) ]

  mutual
    stmt_below : (s : Stmt) → calls s g ≡ true → chains g ≤ chain_of chains s
    stmt_below (DeclNumber x e) h = source_below e h
    stmt_below (DeclPointer x e) h = absurd cc
    stmt_below (Assign x e) h = source_below e h
    stmt_below (Store x i e) h = absurd cc
    stmt_below (SetCell x c e) h = absurd cc
    stmt_below (If' t s ys u ns) h = either_below (row_calls ys g) (row_calls ns g) (chain_in chains ys) (chain_in chains ns) h (row_below ys) (row_below ns)
    stmt_below (For' x b s body) h = row_below body h
    stmt_below (Return e) h = absurd cc

    row_below : {n : _} (r : Row_of-Stmt n) → row_calls r g ≡ true → chains g ≤ chain_in chains r
    row_below end_of-Stmt h = absurd cc
    row_below (more_of-Stmt s rest) h = either_below (calls s g) (row_calls rest g) (chain_of chains s) (chain_in chains rest) h (stmt_below s) (row_below rest)

  block_below : (ss : List Stmt) → block_calls ss g ≡ true → chains g ≤ block_chain chains ss
  block_below [] h = absurd cc
  block_below (s ∷ rest) h = either_below (calls s g) (block_calls rest g) (chain_of chains s) (block_chain chains rest) h (stmt_below s) (block_below rest)

-- ---- chains of the items before a number

module _ (weight : Function → ℕ) (all : List CItem) where
  -- no chain that begins before the number is heavier than what is known of its function, nor than the most
  record Below (chains : Chains) (most at_ : ℕ) : Type 0 where
    pub each : (n : ℕ) (f : Function) (rest : List ℕ) → n < at_ → IsFunction all n f → IsChain all (n ∷ rest) → (chain_weight weight all (n ∷ rest) ≤ chains f.name) × (chain_weight weight all (n ∷ rest) ≤ most)

  record NoHeavier (most : ℕ) : Type 0 where
    pub each : (n : ℕ) (f : Function) (rest : List ℕ) → IsFunction all n f → IsChain all (n ∷ rest) → chain_weight weight all (n ∷ rest) ≤ most

  behind_struct : (chains : Chains) (most at_ : ℕ) (s : _) → slice_get all at_ ≡ Some (AStruct s) → Below chains most at_ → Below chains most (at_ + 1)
  behind_struct chains most at_ s here b = record {
    each = λ n f rest h e c. elim (below_or n at_ h) [
      | inl l ↦ b.each n f rest l e c
      | inr q ↦ (let there : slice_get all at_ ≡ Some (AFunction f) = subst (λ (k : ℕ). slice_get all k ≡ Some (AFunction f)) q e in let bad : Some (AStruct s) ≡ Some (AFunction f) = sym here ∙ there in absurd cc)
    ];
  }

  module _ (chains : Chains) (most at_ : ℕ) (f : Function) (here : slice_get all at_ ≡ Some (AFunction f)) (b : Below chains most at_) where
    weighs : (n : ℕ) → n ≡ at_ → weight_in weight (slice_get all n) ≡ weight f
    weighs n e = ap (λ k. weight_in weight (slice_get all k)) e ∙ ap (weight_in weight) here

    -- a chain that begins with the function
    own : (n : ℕ) (rest : List ℕ) → n ≡ at_ → IsChain all (n ∷ rest) → chain_weight weight all (n ∷ rest) ≤ weight f + block_chain chains f.body
    own n [] e c = let w = weighs n e in omega (arith, w)
    own n (k ∷ more) e c =
        let call = c.0 in
        let there : slice_get all at_ ≡ Some (AFunction call.caller) = subst (λ (j : ℕ). slice_get all j ≡ Some (AFunction call.caller)) e call.stands in
        let same : call.caller ≡ f = one_function call.caller f (sym there ∙ here) in
        let earlier : k < at_ = subst (λ (j : ℕ). k < j) e call.before in
        let tail = (b.each k call.callee more earlier call.called c.1).0 in
        let by_name : block_calls f.body call.callee.name ≡ true = subst (λ (h : Function). block_calls h.body call.callee.name ≡ true) same call.by_name in
        let le = block_below chains call.callee.name f.body by_name in
        let w = weighs n e in
        omega (arith, w, tail, le)

    behind_function : ((n : ℕ) (g : Function) → n < at_ → IsFunction all n g → bytes_eq f.name g.name ≡ false) → Below (with_chain f.name (weight f + block_chain chains f.body) chains) (max most (weight f + block_chain chains f.body)) (at_ + 1)
    behind_function fresh = record { each = λ n g rest h e c. by_place n g rest (below_or n at_ h) e c }
      where
        known_as : (g : Function) (t : Bool) (m : ℕ) → bytes_eq f.name g.name ≡ t → m ≤ (if t then weight f + block_chain chains f.body else chains g.name) → m ≤ with_chain f.name (weight f + block_chain chains f.body) chains g.name
        known_as g t m e le = subst (λ (x : Bool). m ≤ (if x then weight f + block_chain chains f.body else chains g.name)) (sym e) le

        by_place : (n : ℕ) (g : Function) (rest : List ℕ) → (n < at_) ⊎ (n ≡ at_) → IsFunction all n g → IsChain all (n ∷ rest) →
            (chain_weight weight all (n ∷ rest) ≤ with_chain f.name (weight f + block_chain chains f.body) chains g.name) × (chain_weight weight all (n ∷ rest) ≤ max most (weight f + block_chain chains f.body))
        by_place n g rest (inl l) e c =
            let two = b.each n g rest l e c in
            let most_of = two.1 in
            (known_as g false (chain_weight weight all (n ∷ rest)) (fresh n g l e) two.0, omega (arith, most_of))
        by_place n g rest (inr q) e c =
            let there : slice_get all at_ ≡ Some (AFunction g) = subst (λ (k : ℕ). slice_get all k ≡ Some (AFunction g)) q e in
            let same : f ≡ g = one_function f g (sym here ∙ there) in
            let le = own n rest q c in
            let named : bytes_eq f.name g.name ≡ true = subst (λ (h : Function). bytes_eq f.name h.name ≡ true) same (same_bytes f.name) in
            (known_as g true (chain_weight weight all (n ∷ rest)) named le, omega (arith, le))

  from_items : (before items : List CItem) (at_ : ℕ) (chains : Chains) (most : ℕ) → before ++ items ≡ all → length before ≡ at_ → faults_from before items at_ ≡ [] → Below chains most at_ → NoHeavier (heaviest_from weight chains most items)
  from_items before [] at_ chains most whole long faults b =
      let same : before ≡ all = sym (append-nil before) ∙ whole in
      let ends : length all ≡ at_ = ap length (sym same) ∙ long in
      record { each = λ n f rest e c. (let within = get_within all n (AFunction f) e in (b.each n f rest (omega (arith, within, ends)) e c).1) }
  from_items before (AStruct s ∷ is) at_ chains most whole long faults b =
      let here : slice_get all at_ ≡ Some (AStruct s) = subst (λ (k : ℕ). slice_get all k ≡ Some (AStruct s)) long (subst (λ (l : List CItem). slice_get l (length before) ≡ Some (AStruct s)) whole (get_behind before (AStruct s) is)) in
      from_items (before ++ AStruct s ∷ []) is (at_ + 1) chains most (append_assoc before (AStruct s ∷ []) is ∙ whole) (length_more before (AStruct s) ∙ ap (λ k. k + 1) long)
      (back_nil (item_faults before (AStruct s) (AStruct s ∷ is) at_) (faults_from (before ++ AStruct s ∷ []) is (at_ + 1)) faults) (behind_struct chains most at_ s here b)
  from_items before (AFunction f ∷ is) at_ chains most whole long faults b =
      let here : slice_get all at_ ≡ Some (AFunction f) = subst (λ (k : ℕ). slice_get all k ≡ Some (AFunction f)) long (subst (λ (l : List CItem). slice_get l (length before) ≡ Some (AFunction f)) whole (get_behind before (AFunction f) is)) in
      let own_one = own_name before f (AFunction f ∷ is) at_ (front_nil (item_faults before (AFunction f) (AFunction f ∷ is) at_) (faults_from (before ++ AFunction f ∷ []) is (at_ + 1)) faults) in
      let fresh : (n : ℕ) (g : Function) → n < at_ → IsFunction all n g → bytes_eq f.name g.name ≡ false = λ n g l e.
      (let within : n < length before = omega (arith, l, long) in
      let there : slice_get (before ++ AFunction f ∷ is) n ≡ Some (AFunction g) = subst (λ (k : List CItem). slice_get k n ≡ Some (AFunction g)) (sym whole) e in
      let stands : slice_get before n ≡ Some (AFunction g) = sym (get_front before (AFunction f ∷ is) n within) ∙ there in
      other_way g.name f.name (other_name before n g f.name stands own_one)) in
      from_items (before ++ AFunction f ∷ []) is (at_ + 1) (with_chain f.name (weight f + block_chain chains f.body) chains) (max most (weight f + block_chain chains f.body)) (append_assoc before (AFunction f ∷ []) is ∙ whole)
      (length_more before (AFunction f) ∙ ap (λ k. k + 1) long) (back_nil (item_faults before (AFunction f) (AFunction f ∷ is) at_) (faults_from (before ++ AFunction f ∷ []) is (at_ + 1)) faults) (behind_function chains most at_ f here b fresh)

first_is : (items : List CItem) (n : ℕ) (rest : List ℕ) → IsChain items (n ∷ rest) → (f : Function) × IsFunction items n f
first_is items n [] c = c
first_is items n (k ∷ more) c = (c.0.caller, c.0.stands)

pub no_heavier_chain : HasNoHeavierChain
no_heavier_chain weight p [] valid c = omega arith
no_heavier_chain weight p (n ∷ rest) valid c =
    let first = first_is p.items n rest c in
    let none : Below weight p.items (λ g. 0) 0 0 = record { each = λ k f more h e d. absurd (omega (arith, h)) } in
    (from_items weight p.items [] p.items 0 (λ g. 0) 0 refl refl valid.sound none).each n first.0 rest first.1 c

pub no_longer_chain : HasNoLongerChain
no_longer_chain p chain valid c = subst (λ (k : ℕ). k ≤ call_depth_of p.items) (weighs_its_length p.items chain c) (no_heavier_chain (λ f. 1) p chain valid c)
