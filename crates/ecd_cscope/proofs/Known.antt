-- The variables that are known.
use Rattle.std.proofs.Common.{◌≡◌, ℕ, zero, suc, ◌-◌, ◌<◌, ◌≤◌, List, [], ◌∷◌, ◌++◌, length, get_or, drop, refl, ap, sym, ◌∙◌, arith, append-nil, append_assoc, length-append, Bool, true, false}
use Rattle.std.specs.Prelude.{Option, Some, None, if◌then◌else◌, bytes_eq, ◌||◌, is_some}
use Rattle.std.specs.BTreeMap.{BTreeMap, Updates}
use Rattle.std.specs.Cmp.Lexicographic.{slice_cmp}
use Rattle.std.specs.Ordering.{nat_cmp}
use denote.Ref.{Bor}
use Rattle.ecd_cscope.specs.declared.kind.Kind.{Kind as Seen}
use Rattle.ecd_cscope.specs.declared.variables.Declared.{Declared}
use Rattle.ecd_cast.specs.declared.tree.Param.{Param}
use Rattle.ecd_cast.specs.declared.tree.Stmt.{Stmt}
use Rattle.ecd_cast.specs.declared.tree.Stmt.TheVariants.{Number as DeclNumber, Pointer as DeclPointer, Assign, Store, SetCell, If', For', Return}
use Rattle.ecd_cast.specs.Memory.{Name}
use Rattle.ecd_cast.specs.Kinds.{Kind, Known, kind_in, param_kind}
use Rattle.ecd_cast.specs.Validity.{is_among, known_after, params_known}
use Rattle.ecd_cscope.specs.Surroundings.{known_behind}
use Rattle.ecd_cscope.specs.Variables.{kind_as, kind_if, known_in, KeepBefore, IsKept, names_of}
use Rattle.ecd_cast.specs.ByName.{named}
use Rattle.ecd_cast.proofs.Names.{changed, same-name, same-bytes}

-- ---- variables and what their names had before

pub known-append : (vs : List Declared) (v : Declared) → known_in (vs ++ v ∷ []) ≡ (v.name.now, kind_as v.kind) ∷ known_in vs
known-append [] v = refl
known-append (w ∷ vs) v = ap (λ (l : Known). l ++ (w.name.now, kind_as w.kind) ∷ []) (known-append vs v)

pub known-length : (vs : List Declared) → length vs ≡ length (known_in vs)
known-length [] = refl
known-length (v ∷ vs) = let h = known-length vs in let more = length-append (known_in vs) ((v.name.now, kind_as v.kind) ∷ []) in omega (arith, h, more)

moved : (vs : List Declared) (w : Declared) (known : Known) (x : Name) → kind_in (known_in (w ∷ vs) ++ known) x ≡ kind_in (known_in vs ++ ((w.name.now, kind_as w.kind) ∷ known)) x
moved vs w known x = ap (λ (l : Known). kind_in l x) (append_assoc (known_in vs) ((w.name.now, kind_as w.kind) ∷ []) known)

keep-append : (known : Known) (vs : List Declared) (v : Declared) → KeepBefore known vs → kind_if v.before ≡ kind_in (known_in vs ++ known) v.name.now → KeepBefore known (vs ++ v ∷ [])
keep-append known [] v h e = (e, tt)
keep-append known (w ∷ vs) v h e = (h.0, keep-append ((w.name.now, kind_as w.kind) ∷ known) vs v h.1 (e ∙ moved vs w known v.name.now))

keep-front : (known : Known) (vs : List Declared) (v : Declared) → KeepBefore known (vs ++ v ∷ []) → KeepBefore known vs
keep-front known [] v h = tt
keep-front known (w ∷ vs) v h = (h.0, keep-front ((w.name.now, kind_as w.kind) ∷ known) vs v h.1)

keep-last : (known : Known) (vs : List Declared) (v : Declared) → KeepBefore known (vs ++ v ∷ []) → kind_if v.before ≡ kind_in (known_in vs ++ known) v.name.now
keep-last known [] v h = h.0
keep-last known (w ∷ vs) v h = keep-last ((w.name.now, kind_as w.kind) ∷ known) vs v h.1 ∙ sym (moved vs w known v.name.now)

-- ---- a variable more, and one less

module _ (vs : List Declared) (v : Declared) where
  one-more : (x : Name) → kind_in (known_in (vs ++ v ∷ [])) x ≡ (if bytes_eq v.name.now x then Some (kind_as v.kind) else kind_in (known_in vs) x)
  one-more x = ap (λ (l : Known). kind_in l x) (known-append vs v)

  module _ (m n : BTreeMap (Bor (List ℕ)) Seen) where
    pub kept_more : IsKept vs m → v.before ≡ named m v.name.now → Updates (λ a b. slice_cmp nat_cmp a.now b.now) m n v.name (Some v.kind) → IsKept (vs ++ v ∷ []) n
    kept_more h e u = record {
      looks = λ x. ap kind_if (changed (λ (k : Bor (List ℕ)). k.now) m n v.name.now (Some v.kind) u x) ∙ (by_test x (bytes_eq v.name.now x) ∙ sym (one-more x));
      befores = keep-append [] vs v h.befores (ap kind_if e ∙ (h.looks v.name.now ∙ ap (λ (l : Known). kind_in l v.name.now) (sym (append-nil (known_in vs)))));
    }
      where
        by_test : (x : Name) (b : Bool) → kind_if (if b then Some v.kind else named m x) ≡ (if b then Some (kind_as v.kind) else kind_in (known_in vs) x)
        by_test x true = refl
        by_test x false = h.looks x

    pub kept_less : IsKept (vs ++ v ∷ []) m → ((x : Name) → named n x ≡ (if bytes_eq v.name.now x then v.before else named m x)) → IsKept vs n
    kept_less h u = record { looks = λ x. ap kind_if (u x) ∙ by_test x (bytes_eq v.name.now x) refl; befores = keep-front [] vs v h.befores }
      where
        by_test : (x : Name) (b : Bool) → bytes_eq v.name.now x ≡ b → kind_if (if b then v.before else named m x) ≡ kind_in (known_in vs) x
        by_test x true t = keep-last [] vs v h.befores ∙ (λ j. kind_in (append-nil (known_in vs) j) (same-name v.name.now x t j))
        by_test x false t = h.looks x ∙ (one-more x ∙ ap (λ b. if b then Some (kind_as v.kind) else kind_in (known_in vs) x) t)

    -- the name of the last variable stands in the map
    pub kept_there : IsKept (vs ++ v ∷ []) m → named m v.name.now ≡ None → ⊥
    kept_there h e =
        let some : kind_in (known_in (vs ++ v ∷ [])) v.name.now ≡ Some (kind_as v.kind) = one-more v.name.now ∙ ap (λ b. if b then Some (kind_as v.kind) else kind_in (known_in vs) v.name.now) (same-bytes v.name.now) in
        let none : kind_in (known_in (vs ++ v ∷ [])) v.name.now ≡ None = sym (h.looks v.name.now) ∙ ap kind_if e in
        let both : Some (kind_as v.kind) ≡ None = sym some ∙ none in
        cc

-- whether a name is among those of variables
pub known-among : (known : Known) (x : Name) → is_some (kind_in known x) ≡ is_among (names_of known) x
known-among [] x = refl
known-among (v ∷ known) x = by_test (bytes_eq v.0 x) (known-among known x)
  where
    by_test : (b : Bool) → is_some (kind_in known x) ≡ is_among (names_of known) x → is_some (if b then Some v.1 else kind_in known x) ≡ (b || is_among (names_of known) x)
    by_test true h = refl
    by_test false h = h

pub some-kind : (o : Option Seen) → is_some o ≡ is_some (kind_if o)
some-kind None = refl
some-kind (Some k) = refl

-- ---- variables in front of others

pub record Over (old new : Known) : Type 0 where
  pub low : length old ≤ length new
  pub left : drop (length new - length old) new ≡ old

pub over_self : (old : Known) → Over old old
over_self old = let none : length old - length old ≡ 0 = omega arith in record { low = omega arith; left = ap (λ k. drop k old) none }

pub over_more : (old new : Known) (v : Name × Kind) → Over old new → Over old (v ∷ new)
over_more old new v h =
    let more : suc (length new) - length old ≡ suc (length new - length old) = omega (arith, h.low) in
    record { low = omega (arith, h.low); left = ap (λ k. drop k (v ∷ new)) more ∙ h.left }

over_after : (s : Stmt) (old new : Known) → Over old new → Over old (known_after s new)
over_after (DeclNumber x e) old new h = over_more old new _ h
over_after (DeclPointer x e) old new h = over_more old new _ h
over_after (Assign x e) old new h = h
over_after (Store x i e) old new h = h
over_after (SetCell x c e) old new h = h
over_after (If' t s ys u ns) old new h = h
over_after (For' x b s body) old new h = h
over_after (Return e) old new h = h

pub over_behind : (xs : List Stmt) (old new : Known) → Over old new → Over old (known_behind xs new)
over_behind [] old new h = h
over_behind (s ∷ xs) old new h = over_behind xs old (known_after s new) (over_after s old new h)

-- what is known behind a block that is left
pub left_block : (xs : List Stmt) (old k new : Known) (n : ℕ) → n ≡ length old → k ≡ known_behind xs old → new ≡ drop (length k - n) k → new ≡ old
left_block xs old k new n e h l = l ∙ ((λ j. drop (length (h j) - e j) (h j)) ∙ (over_behind xs old old (over_self old)).left)

-- ---- parameters, the last one first

drop-suc : {X : Type 0} (xs : List X) (k : ℕ) (x : X) → k < length xs → x ≡ get_or xs k x → drop k xs ≡ x ∷ drop (suc k) xs
drop-suc [] k x h e = absurd (omega arith)
drop-suc (y ∷ xs) zero x h e = ap (λ z. z ∷ xs) (sym e)
drop-suc (y ∷ xs) (suc k) x h e = drop-suc xs k x (omega arith) e

pub params-more : (params : List Param) (n : ℕ) (x : Param) (old new : Known) (name : Name) (kind : Kind) → 0 < n → n ≤ length params → x ≡ get_or params (n - 1) x → old ≡ params_known (drop n params) →
    new ≡ (name, kind) ∷ old → name ≡ x.name → kind ≡ param_kind x.kind → new ≡ params_known (drop (n - 1) params)
params-more params n x old new name kind pos le e known made same like =
    let back : suc (n - 1) ≡ n = omega arith in
    let lt : n - 1 < length params = omega arith in
    let split : drop (n - 1) params ≡ x ∷ drop n params = drop-suc params (n - 1) x lt e ∙ ap (λ k. x ∷ drop k params) back in
    made ∙ ((λ j. (same j, like j) ∷ known j) ∙ sym (ap params_known split))
