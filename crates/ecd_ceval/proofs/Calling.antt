-- Functions by name, and the frames that they begin with.
use Rattle.std.proofs.Common.{◌≡◌, ℕ, ◌+◌, ◌<◌, ◌≤◌, Bool, true, false, List, [], ◌∷◌, length, get_or, take, drop, min, refl, ap, ◌∙◌, arith}
use Rattle.std.specs.Prelude.{bytes_eq}
use Rattle.std.proofs.lemmas.List.{take_more, length-take, drop_all}
use Rattle.ecd_cast.specs.declared.tree.CItem.{CItem}
use Rattle.ecd_cast.specs.declared.tree.CItem.TheVariants.{Struct as AStruct, Function as AFunction}
use Rattle.ecd_cast.specs.declared.tree.StructDecl.{StructDecl}
use Rattle.ecd_cast.specs.declared.tree.Function.{Function}
use Rattle.ecd_cast.specs.declared.tree.Param.{Param}
use Rattle.ecd_cast.specs.declared.value.Value.{Value}
use Rattle.ecd_cast.specs.Memory.{Name, Memory}
use Rattle.ecd_cast.specs.Meaning.{Run, calls_of, no_calls, with_item, called, frame_of}
use Rattle.ecd_calculus.proofs.Calculus.{calls_append}

-- one more item
calls_more : (items : List CItem) (at n : ℕ) (d : CItem) → n ≡ at + 1 → at < length items → calls_of (take n items) ≡ with_item (calls_of (take at items)) at (get_or items at d)
calls_more items at n d e lt =
    let long : length (take at items) ≡ min at (length items) = length-take at items in
    let same : 0 + length (take at items) ≡ at = omega arith in
    ap (λ k. calls_of (take k items)) e ∙
    (ap calls_of (take_more items at d lt) ∙ (calls_append no_calls 0 (take at items) (get_or items at d ∷ []) ∙ ap (λ k. with_item (calls_of (take at items)) k (get_or items at d)) same))

hit : (b : Bool) (x y : Run) → b ≡ true → elim b [ true ↦ x | false ↦ y ] ≡ x
hit true x y e = refl
hit false x y e = absurd cc

miss : (b : Bool) (x y : Run) → b ≡ false → elim b [ true ↦ x | false ↦ y ] ≡ y
miss true x y e = absurd cc
miss false x y e = refl

module _ (items : List CItem) (at n : ℕ) (d : CItem) (g : Name) (vs : List Value) (m : Memory) (e : n ≡ at + 1) (lt : at < length items) where
  at_item : (i : CItem) → get_or items at d ≡ i → calls_of (take n items) g vs m ≡ with_item (calls_of (take at items)) at i g vs m
  at_item i h = ap (λ c. c g vs m) (calls_more items at n d e lt ∙ ap (with_item (calls_of (take at items)) at) h)

  pub meant_here : (f : Function) → get_or items at d ≡ AFunction f → bytes_eq f.name g ≡ true → calls_of (take n items) g vs m ≡ called (calls_of (take at items)) at f vs m
  meant_here f h k = at_item (AFunction f) h ∙ hit (bytes_eq f.name g) (called (calls_of (take at items)) at f vs m) (calls_of (take at items) g vs m) k

  pub meant_before : (f : Function) → get_or items at d ≡ AFunction f → bytes_eq f.name g ≡ false → calls_of (take n items) g vs m ≡ calls_of (take at items) g vs m
  meant_before f h k = at_item (AFunction f) h ∙ miss (bytes_eq f.name g) (called (calls_of (take at items)) at f vs m) (calls_of (take at items) g vs m) k

  pub struct_before : (s : StructDecl) → get_or items at d ≡ AStruct s → calls_of (take n items) g vs m ≡ calls_of (take at items) g vs m
  struct_before s h = at_item (AStruct s) h

pub frame_ends : (ps : List Param) (vs : List Value) (n : ℕ) → length vs ≤ n → frame_of (drop n ps) (drop n vs) ≡ []
frame_ends ps vs n le = ap (frame_of (drop n ps)) (drop_all n vs le) ∙ none (drop n ps)
  where
    none : (qs : List Param) → frame_of qs [] ≡ []
    none [] = refl
    none (q ∷ qs) = refl

pub params_end : (ps : List Param) (vs : List Value) (n : ℕ) → length ps ≤ n → frame_of (drop n ps) (drop n vs) ≡ []
params_end ps vs n le = ap (λ l. frame_of l (drop n vs)) (drop_all n ps le)
