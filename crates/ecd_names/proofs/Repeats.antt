-- Parameters under their names, and those that repeat a name.
use Rattle.std.proofs.Common.{ℕ, ◌+◌, ◌≡◌, ◌<◌, Bool, true, List, [], ◌∷◌, ◌++◌, length, take, get_or, refl, ap, sym, ◌∙◌, subst, zero-add, arith}
use Rattle.std.specs.Prelude.{Option, Some, None, is_some, if◌then◌else◌, bytes_eq, slice_get}
use Rattle.std.specs.List.{position_from}
use Rattle.std.proofs.lemmas.List.{take_more, length-take-le}
use Rattle.std.proofs.lemmas.Option.{slice_get_read}
use Rattle.ecd_syntax.specs.declared.tree.Name.{Name}
use Rattle.ecd_bodies.specs.Named.{is_parameter, parameter_number}
use Rattle.ecd_first.specs.declared.first.Broken.{Broken}
use Rattle.ecd_names.specs.declared.parameters.Parameters.{Parameters}
use Rattle.ecd_first.specs.Firsts.{offset, Sees, When}
use Rattle.ecd_names.specs.Parameters.{under, or_first, comes_before, AreParameters, RepeatedAt}
use Rattle.ecd_names.proofs.Positions.{from-push, from-some, from-before}
use Rattle.ecd_first.proofs.Seeing.{sees_same}

-- one more parameter
pub first-more : (params : List Name) (i : ℕ) (param : Name) (text name : List ℕ) (old new : Option ℕ) → i < length params → param ≡ get_or params i param → text ≡ param.text →
    old ≡ parameter_number (take i params) name → new ≡ or_first old (if bytes_eq text name then Some i else None) → new ≡ parameter_number (take (i + 1) params) name
first-more params i param text name old new h e t before more =
    let is_named : Name → Bool = λ p. bytes_eq p.text name in
    let taken : take (i + 1) params ≡ take i params ++ param ∷ [] = take_more params i param h ∙ ap (λ (p : Name). take i params ++ p ∷ []) (sym e) in
    let count : 0 + length (take i params) ≡ i = zero-add (length (take i params)) ∙ length-take-le i params (omega arith) in
    more ∙ (ap (λ o. or_first o (if bytes_eq text name then Some i else None)) before
    ∙ (ap (λ (x : List ℕ). or_first (parameter_number (take i params) name) (if bytes_eq x name then Some i else None)) t
    ∙ (ap (λ n. or_first (parameter_number (take i params) name) (if is_named param then Some n else None)) (sym count)
    ∙ (sym (from-push is_named 0 (take i params) param) ∙ ap (position_from is_named 0) (sym taken)))))

module _ (params : List Name) (known : Parameters) (are : AreParameters params known) where
  -- a name is there where it is a parameter
  pub has-parameter : (name : List ℕ) → is_some (under known.firsts name) ≡ is_parameter params name
  has-parameter name = ap is_some (are.firsts name) ∙ from-some (λ p. bytes_eq p.text name) 0 params

  -- and before a number where an earlier one has it
  pub has_before-parameter : (name : List ℕ) (i : ℕ) → comes_before (under known.firsts name) i ≡ is_parameter (take i params) name
  has_before-parameter name i = ap (λ o. comes_before o i) (are.firsts name) ∙ (ap (comes_before (parameter_number params name)) (sym (zero-add i)) ∙ from-before (λ p. bytes_eq p.text name) 0 i params)

  pub sees_repeated : (old new : Option (Broken ℕ)) (i : ℕ) (param : Name) (text : List ℕ) (repeats : Bool) → i < length params → param ≡ get_or params i param → text ≡ param.text →
      repeats ≡ comes_before (under known.firsts text) i → Sees offset old new (When repeats param.at 1) → Sees offset old new (RepeatedAt params i)
  sees_repeated old new i param text repeats h e t test s = sees_same offset old new (When repeats param.at 1) (RepeatedAt params i) to from s
    where
      tests : repeats ≡ is_parameter (take i params) param.text
      tests = test ∙ (has_before-parameter text i ∙ ap (is_parameter (take i params)) t)

      stands : slice_get params i ≡ Some param
      stands = slice_get_read params (length params) i param refl h e

      to : (place number : ℕ) → When repeats param.at 1 place number → RepeatedAt params i place number
      to place number w = record { param = param; repeated = record { stands = stands; named_before = sym tests ∙ w.so }; place_is = w.place_is; number_is = w.rule_is }

      from : (place number : ℕ) → RepeatedAt params i place number → When repeats param.at 1 place number
      from place number r =
          let same : r.param ≡ param = some_same (sym r.repeated.stands ∙ stands) in
          record { so = tests ∙ subst (λ (p : Name). is_parameter (take i params) p.text ≡ true) same r.repeated.named_before; place_is = r.place_is ∙ ap (λ (p : Name). p.at) same; rule_is = r.number_is }
        where
          some_same : {x y : Name} → Some x ≡ Some y → x ≡ y
          some_same q = cc
