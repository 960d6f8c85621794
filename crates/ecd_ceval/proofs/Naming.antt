-- In a valid program a name is given to one function.
use Rattle.std.proofs.Common.{◌≡◌, ℕ, zero, suc, ◌+◌, Bool, true, false, List, [], ◌∷◌, ◌++◌, take, drop, refl, ap, sym, subst, ◌∙◌, arith}
use Rattle.std.specs.Prelude.{Some, not, ◌||◌, flat_map, slice_get, bytes_eq}
use Rattle.std.proofs.lemmas.List.{take-append-drop}
use Rattle.std.proofs.lemmas.Option.{slice_get_within, get_or_from_slice_get}
use Rattle.std.proofs.lemmas.Slice.Eq.{bytes_eq-Decides}
use Rattle.ecd_cast.specs.declared.tree.CItem.{CItem}
use Rattle.ecd_cast.specs.declared.tree.CItem.TheVariants.{Struct as AStruct, Function as AFunction}
use Rattle.ecd_cast.specs.declared.tree.Function.{Function}
use Rattle.ecd_cast.specs.Memory.{Name}
use Rattle.ecd_cast.specs.Kinds.{unless}
use Rattle.ecd_cast.specs.Kept.{IsNew}
use Rattle.ecd_cast.specs.Meaning.{Place, calls_of}
use Rattle.ecd_cast.specs.Validity.{at_place, is_among, function_names, struct_names, param_broken, block_returns, item_faults, faults_from}
use Rattle.ecd_cast.proofs.Kept.{front_nil, back_nil}
use Rattle.ecd_calculus.proofs.Calculus.{calls_kept}
use Rattle.ecd_ceval.specs.Machines.{meaning_of}
use Rattle.ecd_ceval.specs.Laws.{NumbersMeanNames}
use Rattle.ecd_ceval.proofs.Calling.{meant_here}

-- ---- names among functions

among_more : (before : List CItem) (i : CItem) (g : Name) → is_among (function_names before) g ≡ true → is_among (function_names (before ++ i ∷ [])) g ≡ true
among_more [] i g h = absurd cc
among_more (AStruct s ∷ is) i g h = among_more is i g h
among_more (AFunction f ∷ is) i g h = by (bytes_eq f.name g) (among_more is i g) h
  where
    by : (b : Bool) → (is_among (function_names is) g ≡ true → is_among (function_names (is ++ i ∷ [])) g ≡ true) → (b || is_among (function_names is) g) ≡ true → (b || is_among (function_names (is ++ i ∷ [])) g) ≡ true
    by true k e = refl
    by false k e = k e

same : (x : Name) → bytes_eq x x ≡ true
same x = (bytes_eq-Decides x x).1 refl

among_last : (before : List CItem) (f : Function) → is_among (function_names (before ++ AFunction f ∷ [])) f.name ≡ true
among_last [] f = by (bytes_eq f.name f.name) (same f.name)
  where
    by : (b : Bool) → b ≡ true → (b || false) ≡ true
    by true e = refl
    by false e = absurd cc
among_last (AStruct s ∷ is) f = among_last is f
among_last (AFunction h ∷ is) f = by (bytes_eq h.name f.name) (among_last is f)
  where
    by : (b : Bool) → is_among (function_names (is ++ AFunction f ∷ [])) f.name ≡ true → (b || is_among (function_names (is ++ AFunction f ∷ [])) f.name) ≡ true
    by true k = refl
    by false k = k

-- ---- a valid item behind others

no_rule : (p : Place) (rules : List ℕ) → at_place p rules ≡ [] → rules ≡ []
no_rule p [] e = refl
no_rule p (r ∷ rs) e = absurd cc

held : (b : Bool) (rule : ℕ) → unless (not b) rule ≡ [] → b ≡ false
held true rule e = absurd cc
held false rule e = refl

-- a function that breaks nothing has a name of its own
own_name : (before : List CItem) (f : Function) (from : List CItem) (at : ℕ) → item_faults before (AFunction f) from at ≡ [] → is_among (function_names before) f.name ≡ false
own_name before f from at e =
    let head : Place = record { item = at; statement = 0 } in
    let params : List ℕ = flat_map (λ q. param_broken (struct_names before) q.kind) f.params in
    let rules = no_rule head _ (front_nil _ _ (front_nil _ _ e)) in
    held (is_among (function_names before) f.name) 6 (back_nil (params ++ unless (block_returns f.body) 5) _ rules)

differs : (x g : Name) (names : List Name) → is_among names g ≡ true → is_among names x ≡ false → bytes_eq x g ≡ false
differs x g names h k = by (bytes_eq x g) refl
  where
    by : (b : Bool) → bytes_eq x g ≡ b → b ≡ false
    by false e = refl
    by true e = let is : x ≡ g = (bytes_eq-Decides x g).0 e in let clash : is_among names x ≡ true = subst (λ (y : Name). is_among names y ≡ true) (sym is) h in absurd cc

-- behind a function of a name no other has it
none_behind : (before is : List CItem) (at : ℕ) (g : Name) → is_among (function_names before) g ≡ true → faults_from before is at ≡ [] → IsNew g is
none_behind before [] at g h e = tt
none_behind before (AStruct s ∷ is) at g h e =
    none_behind (before ++ AStruct s ∷ []) is (at + 1) g (among_more before (AStruct s) g h) (back_nil (item_faults before (AStruct s) (AStruct s ∷ is) at) _ e)
none_behind before (AFunction f ∷ is) at g h e =
    let own = own_name before f (AFunction f ∷ is) at (front_nil _ _ e) in (
      differs f.name g (function_names before) h own,
      none_behind (before ++ AFunction f ∷ []) is (at + 1) g (among_more before (AFunction f) g h) (back_nil (item_faults before (AFunction f) (AFunction f ∷ is) at) _ e),
    )

pub behind_it : (before items : List CItem) (at number : ℕ) (f : Function) → faults_from before items at ≡ [] → slice_get items number ≡ Some (AFunction f) → IsNew f.name (drop (suc number) items)
behind_it before [] at number f e h = absurd cc
behind_it before (i ∷ is) at zero f e h =
    let this : i ≡ AFunction f = cc in
    let later = back_nil (item_faults before i (i ∷ is) at) (faults_from (before ++ i ∷ []) is (at + 1)) e in
    none_behind (before ++ AFunction f ∷ []) is (at + 1) f.name (among_last before f) (subst (λ (j : CItem). faults_from (before ++ j ∷ []) is (at + 1) ≡ []) this later)
behind_it before (i ∷ is) at (suc number) f e h =
    behind_it (before ++ i ∷ []) is (at + 1) number f (back_nil (item_faults before i (i ∷ is) at) (faults_from (before ++ i ∷ []) is (at + 1)) e) h

pub numbers_mean_names : NumbersMeanNames
numbers_mean_names p number f vs m v h =
    let items = p.items in
    let new = behind_it [] items 0 number f v.sound h in
    let lt = slice_get_within items number (AFunction f) h in
    let there = get_or_from_slice_get items number (AFunction f) (AFunction f) h in
    let split : take (suc number) items ++ drop (suc number) items ≡ items = take-append-drop (suc number) items in
    let by_name : calls_of items f.name vs m ≡ calls_of (take (suc number) items) f.name vs m =
    ap (λ l. calls_of l f.name vs m) (sym split) ∙ calls_kept (take (suc number) items) (drop (suc number) items) f.name vs m new in
    ap (λ o. meaning_of items number o vs m) h ∙ sym (by_name ∙ meant_here items number (suc number) (AFunction f) f.name vs m (omega arith) lt f there (same f.name))
