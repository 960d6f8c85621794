-- Arguments and calls.
use Rattle.std.proofs.Common.{◌≡◌, ℕ, zero, suc, ◌+◌, ◌<◌, ◌≤◌, List, [], ◌∷◌, ◌++◌, length, get_or, take, drop, refl, ap, sym, ◌∙◌, arith, Bool, true, false, append-nil, add-one}
use Rattle.std.specs.Prelude.{Option, Some, None, flat_map, slice_get, ◌&&◌, nat_le}
use Rattle.std.proofs.lemmas.List.{take_more}
use Rattle.std.proofs.lemmas.Grind.{flat_map-append}
use Rattle.std.proofs.lemmas.Bool.{leb-true, leb-false}
use Rattle.ecd_cast.specs.declared.tree.Expr.{Expr}
use Rattle.ecd_cast.specs.declared.tree.Param.{Param}
use Rattle.ecd_cast.specs.declared.tree.StructDecl.{StructDecl}
use Rattle.ecd_cscope.specs.declared.directory.Surroundings.{Surroundings}
use Rattle.ecd_cscope.specs.declared.directory.Found.{Found}
use Rattle.ecd_cast.specs.Memory.{Name}
use Rattle.ecd_cast.specs.Kinds.{Known, takes, kind_of, param_kind, args_fit, unless}
use Rattle.ecd_cast.specs.Validity.{call_broken, function_named, functions_of}
use Rattle.ecd_cscope.specs.Surroundings.{IsFound, IsFoundAs, around_as, structs_before, called_broken, takes_at, params_in}
use Rattle.ecd_cbuild.proofs.Heaviest.{take_whole}

pub flat-more : {X Y : Type 0} (f : X → List Y) (xs : List X) (i : ℕ) (x : X) → i < length xs → x ≡ get_or xs i x → flat_map f (take (i + 1) xs) ≡ flat_map f (take i xs) ++ f x
flat-more f xs i x h e =
    ap (flat_map f) (take_more xs i x h) ∙ (flat_map-append f (take i xs) (get_or xs i x ∷ []) ∙ (ap (λ l. flat_map f (take i xs) ++ l) (append-nil (f (get_or xs i x))) ∙ ap (λ y. flat_map f (take i xs) ++ f y) (sym e)))

and_assoc : (a b c : Bool) → (a && (b && c)) ≡ ((a && b) && c)
and_assoc true b c = refl
and_assoc false b c = refl

and_true : (a : Bool) → (a && true) ≡ a
and_true true = refl
and_true false = refl

and_false : (a : Bool) → (a && false) ≡ false
and_false true = refl
and_false false = refl

module _ (structs : List StructDecl) (known : Known) where
  fit-suc : (i : ℕ) (ps : List Param) (es : List Expr) (e : Expr) → i < length es → e ≡ get_or es i e →
      args_fit structs known (take (suc i) ps) (take (suc i) es) ≡ (args_fit structs known (take i ps) (take i es) && takes_at (slice_get ps i) (kind_of structs known e))
  fit-suc i ps [] e h k = absurd (omega arith)
  fit-suc zero [] (x ∷ es) e h k = refl
  fit-suc zero (p ∷ ps) (x ∷ es) e h k = and_true (takes (param_kind p.kind) (kind_of structs known x)) ∙ ap (λ y. takes (param_kind p.kind) (kind_of structs known y)) (sym k)
  fit-suc (suc i) [] (x ∷ es) e h k = refl
  fit-suc (suc i) (p ∷ ps) (x ∷ es) e h k =
      ap (λ b. takes (param_kind p.kind) (kind_of structs known x) && b) (fit-suc i ps es e (omega arith) k) ∙
      and_assoc (takes (param_kind p.kind) (kind_of structs known x)) (args_fit structs known (take i ps) (take i es)) (takes_at (slice_get ps i) (kind_of structs known e))

  pub fit-more : (i : ℕ) (ps : List Param) (es : List Expr) (e : Expr) → i < length es → e ≡ get_or es i e →
      args_fit structs known (take (i + 1) ps) (take (i + 1) es) ≡ (args_fit structs known (take i ps) (take i es) && takes_at (slice_get ps i) (kind_of structs known e))
  fit-more i ps es e h k = rw add-one (fit-suc i ps es e h k)

  fit-short : (ps : List Param) (es : List Expr) → length es < length ps → args_fit structs known ps es ≡ false
  fit-short [] es h = absurd (omega arith)
  fit-short (p ∷ ps) [] h = refl
  fit-short (p ∷ ps) (e ∷ es) h = ap (λ b. takes (param_kind p.kind) (kind_of structs known e) && b) (fit-short ps es (omega arith)) ∙ and_false (takes (param_kind p.kind) (kind_of structs known e))

  pub fit-whole : (fit : Bool) (n : ℕ) (ps : List Param) (es : List Expr) → length es ≤ n → n ≤ length es → fit ≡ args_fit structs known (take n ps) (take n es) → (fit && nat_le (length ps) (length es)) ≡ args_fit structs known ps es
  fit-whole fit n ps es h k e = by_test (nat_le (length ps) (length es)) refl
    where
      by_test : (b : Bool) → nat_le (length ps) (length es) ≡ b → (fit && b) ≡ args_fit structs known ps es
      by_test true t =
          let le = leb-true (length ps) (length es) t in
          let same : take n ps ≡ ps = take_whole ps n (omega (arith, le)) in
          and_true fit ∙ (e ∙ (λ i. args_fit structs known (same i) (take_whole es n h i)))
      by_test false t = and_false fit ∙ sym (fit-short ps es (leb-false (length ps) (length es) t))

pub call-found : (s : Surroundings) (loops known : Known) (args : List Expr) (g : Name) (found : Option Found) (fit : Bool) → IsFound s g found → fit ≡ args_fit (structs_before s) known (params_in found) args →
    called_broken found fit ≡ call_broken (around_as s loops) known args g (function_named (functions_of (take s.at_ s.items.now)) g)
call-found s loops known args g None fit h e = rw (h.0, h.1)
call-found s loops known args g (Some f) fit h e = by_test f.is_earlier h
  where
    by_test : (b : Bool) → IsFoundAs (functions_of (take s.at_ s.items.now)) (functions_of (drop s.at_ s.items.now)) g f.function.now b →
        unless fit 2 ++ unless b 3 ≡ call_broken (around_as s loops) known args g (function_named (functions_of (take s.at_ s.items.now)) g)
    by_test true k = rw k (append-nil (unless fit 2) ∙ ap (λ b. unless b 2) e)
    by_test false k = rw (k.0, k.1) (ap (λ b. unless b 2 ++ 3 ∷ []) e)
