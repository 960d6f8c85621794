-- A builder's items stay what they are with one more.
use Rattle.std.proofs.Common.{◌≡◌, ℕ, ◌+◌, List, [], ◌∷◌, ◌++◌, length, sym, ◌∙◌, subst, false, arith}
use Rattle.ecd_cast.specs.declared.tree.StructDecl.{StructDecl}
use Rattle.ecd_cast.specs.declared.tree.Function.{Function}
use Rattle.ecd_cast.specs.declared.tree.CItem.{CItem}
use Rattle.ecd_cast.specs.declared.tree.CItem.TheVariants.{Struct as AStructDecl, Function as AFunction}
use Rattle.std.proofs.Common.{◌<◌, ◌^◌, Bool, true, ap}
use Rattle.std.specs.Prelude.{Result, Ok, Err, is_err, OnOk, max, Option, Some, if◌then◌else◌, bytes_eq}
use Rattle.std.specs.BTreeMap.{BTreeMap, Updates}
use Rattle.std.specs.Ordering.{nat_cmp}
use Rattle.std.specs.Cmp.Lexicographic.{slice_cmp}
use Rattle.std.specs.declared.vec.Vec.{Vec}
use Rattle.ecd_cbuild.specs.declared.chains.Reach.{Reach}
use Rattle.ecd_cast.specs.Memory.{Name}
use Rattle.ecd_cast.specs.Validity.{IsValidAfter, faults_from, item_faults, block_chain, variables_of, heaviest_of}
use Rattle.ecd_cbuild.specs.Chains.{chains_behind, calls_in, variables_in}
use Rattle.ecd_cast.specs.ByName.{under}
use Rattle.ecd_cast.specs.Spelling.{IsSpelledItem, AreSpelledItems}
use Rattle.std.proofs.Common.{get_or, take}
use Rattle.std.proofs.lemmas.List.{take_more}
use Rattle.ecd_cbuild.specs.Built.{IsBuilt, Tallied}
use Rattle.ecd_cast.proofs.Kept.{items_grow}
use Rattle.ecd_cbuild.proofs.Heaviest.{heaviest_with_struct, heaviest_with_function, chains_with_struct, chains_with_function}
use Rattle.ecd_cast.proofs.Names.{under-put}

spelled_grow : (items : List CItem) (item : CItem) → AreSpelledItems items → IsSpelledItem item → AreSpelledItems (items ++ item ∷ [])
spelled_grow [] item h k = (k, tt)
spelled_grow (i ∷ is) item h k = (h.0, spelled_grow is item h.1 k)

sound_grow : (items : List CItem) (item : CItem) → faults_from [] items 0 ≡ [] → IsValidAfter items item → faults_from [] (items ++ item ∷ []) 0 ≡ []
sound_grow items item h k =
    let places : length items ≡ 0 + length items = omega arith in
    items_grow [] items item 0 h (subst (λ (n : ℕ). item_faults items item (item ∷ []) n ≡ []) places k.sound)

-- ---- a struct

heaviest_same : (weight : Function → ℕ) (items : List CItem) (s : StructDecl) → heaviest_of weight items ≡ heaviest_of weight (items ++ AStructDecl s ∷ [])
heaviest_same weight items s = sym (heaviest_with_struct weight (λ g. 0) 0 items s)

chains_same : (weight : Function → ℕ) (items : List CItem) (s : StructDecl) (g : Name) → chains_behind weight (λ h. 0) items g ≡ chains_behind weight (λ h. 0) (items ++ AStructDecl s ∷ []) g
chains_same weight items s g = λ i. sym (chains_with_struct weight (λ h. 0) items s) i g

pub built_struct : {A : Type 0} (items new : List CItem) (s : StructDecl) (depth spaces : ℕ) (reaches : BTreeMap (Vec ℕ A) Reach) → IsBuilt items depth spaces reaches →
    IsValidAfter items (AStructDecl s) → IsSpelledItem (AStructDecl s) → length new < 2 ^ 32 → new ≡ items ++ AStructDecl s ∷ [] → IsBuilt new depth spaces reaches
built_struct items new s depth spaces reaches b v p count e =
    let few : length (items ++ AStructDecl s ∷ []) < 2 ^ 32 = subst (λ (xs : List CItem). length xs < 2 ^ 32) e count in
    let grown : IsBuilt (items ++ AStructDecl s ∷ []) depth spaces reaches = record {
      sound = sound_grow items (AStructDecl s) b.sound v;
      spelled = spelled_grow items (AStructDecl s) b.spelled p;
      counted = few;
      depth_is = b.depth_is ∙ heaviest_same (λ f. 1) items s;
      spaces_are = b.spaces_are ∙ heaviest_same variables_of items s;
      reached = record {
        calls_are = λ g. b.reached.calls_are g ∙ chains_same (λ f. 1) items s g;
        variables_are = λ g. b.reached.variables_are g ∙ chains_same variables_of items s g;
      };
    } in
    subst (λ (xs : List CItem). IsBuilt xs depth spaces reaches) (sym e) grown

-- ---- a function

-- what stands under each name, with one more
module _ {A : Type 0} (read : Option Reach → ℕ) (weight : Function → ℕ) (items : List CItem) (f : Function) (old new : BTreeMap (Vec ℕ A) Reach) (k : Vec ℕ A) (r : Reach) where
  grown_chains : ((g : Name) → read (under old g) ≡ chains_behind weight (λ h. 0) items g) → k.items ≡ f.name → Updates (λ x y. slice_cmp nat_cmp x.items y.items) old new k (Some r) →
      read (Some r) ≡ weight f + block_chain (λ g. read (under old g)) f.body → (g : Name) → read (under new g) ≡ chains_behind weight (λ h. 0) (items ++ AFunction f ∷ []) g
  grown_chains known named h e g =
      let chains : (λ (l : Name). read (under old l)) ≡ chains_behind weight (λ l. 0) items = λ i l. known l i in
      let here : read (Some r) ≡ weight f + block_chain (chains_behind weight (λ l. 0) items) f.body = e ∙ (λ i. weight f + block_chain (chains i) f.body) in
      let look : under new g ≡ (if bytes_eq f.name g then Some r else under old g) = subst (λ (n : Name). under new g ≡ (if bytes_eq n g then Some r else under old g)) named (under-put old new k r h g) in
      ap read look ∙ (by_test (bytes_eq f.name g) here ∙ λ i. sym (chains_with_function weight (λ l. 0) items f) i g)
    where
      by_test : (b : Bool) → read (Some r) ≡ weight f + block_chain (chains_behind weight (λ l. 0) items) f.body →
          read (if b then Some r else under old g) ≡ (if b then weight f + block_chain (chains_behind weight (λ l. 0) items) f.body else chains_behind weight (λ l. 0) items g)
      by_test true here = here
      by_test false here = known g

  grown_heaviest : (most : ℕ) → ((g : Name) → read (under old g) ≡ chains_behind weight (λ h. 0) items g) → read (Some r) ≡ weight f + block_chain (λ g. read (under old g)) f.body →
      most ≡ heaviest_of weight items → max most (read (Some r)) ≡ heaviest_of weight (items ++ AFunction f ∷ [])
  grown_heaviest most known e h =
      let chains : (λ (l : Name). read (under old l)) ≡ chains_behind weight (λ l. 0) items = λ i l. known l i in
      let here : read (Some r) ≡ weight f + block_chain (chains_behind weight (λ l. 0) items) f.body = e ∙ (λ i. weight f + block_chain (chains i) f.body) in
      (λ i. max (h i) (here i)) ∙ sym (heaviest_with_function weight (λ g. 0) 0 items f)

pub built_function : {A : Type 0} (items new : List CItem) (f : Function) (depth spaces d s : ℕ) (old reaches : BTreeMap (Vec ℕ A) Reach) (k : Vec ℕ A) (r : Reach) → IsBuilt items depth spaces old →
    IsValidAfter items (AFunction f) → IsSpelledItem (AFunction f) → length new < 2 ^ 32 → new ≡ items ++ AFunction f ∷ [] →
    k.items ≡ f.name → Updates (λ x y. slice_cmp nat_cmp x.items y.items) old reaches k (Some r) →
    r.calls ≡ 1 + block_chain (λ g. calls_in (under old g)) f.body → r.variables ≡ variables_of f + block_chain (λ g. variables_in (under old g)) f.body →
    d ≡ max depth r.calls → s ≡ max spaces r.variables → IsBuilt new d s reaches
built_function items new f depth spaces d s old reaches k r b v p count e named h calls variables deep wide =
    let few : length (items ++ AFunction f ∷ []) < 2 ^ 32 = subst (λ (xs : List CItem). length xs < 2 ^ 32) e count in
    let grown : IsBuilt (items ++ AFunction f ∷ []) d s reaches = record {
      sound = sound_grow items (AFunction f) b.sound v;
      spelled = spelled_grow items (AFunction f) b.spelled p;
      counted = few;
      depth_is = deep ∙ grown_heaviest calls_in (λ g. 1) items f old reaches k r depth b.reached.calls_are calls b.depth_is;
      spaces_are = wide ∙ grown_heaviest variables_in variables_of items f old reaches k r spaces b.reached.variables_are variables b.spaces_are;
      reached = record {
        calls_are = grown_chains calls_in (λ g. 1) items f old reaches k r b.reached.calls_are named h calls;
        variables_are = grown_chains variables_in variables_of items f old reaches k r b.reached.variables_are named h variables;
      };
    } in
    subst (λ (xs : List CItem). IsBuilt xs d s reaches) (sym e) grown

-- what a call ensures where it is not refused
pub on_ok : {X Y : Type 0} (r : Result X Y) (P : Type 0) → is_err r ≡ false → OnOk r P → P
on_ok (Ok x) P e h = h
on_ok (Err x) P e h = absurd cc

-- ---- the chains of all items

pub tallied_struct : {A : Type 0} (items : List CItem) (s : StructDecl) (reaches : BTreeMap (Vec ℕ A) Reach) (most : Reach) → Tallied items reaches most → Tallied (items ++ AStructDecl s ∷ []) reaches most
tallied_struct items s reaches most b = record {
  reached = record {
    calls_are = λ g. b.reached.calls_are g ∙ chains_same (λ f. 1) items s g;
    variables_are = λ g. b.reached.variables_are g ∙ chains_same variables_of items s g;
  };
  calls_are = b.calls_are ∙ heaviest_same (λ f. 1) items s;
  variables_are = b.variables_are ∙ heaviest_same variables_of items s;
}

pub tallied_function : {A : Type 0} (items : List CItem) (f : Function) (old reaches : BTreeMap (Vec ℕ A) Reach) (k : Vec ℕ A) (r most next : Reach) → Tallied items old most → k.items ≡ f.name →
    Updates (λ x y. slice_cmp nat_cmp x.items y.items) old reaches k (Some r) →
    r.calls ≡ 1 + block_chain (λ g. calls_in (under old g)) f.body → r.variables ≡ variables_of f + block_chain (λ g. variables_in (under old g)) f.body →
    next.calls ≡ max most.calls r.calls → next.variables ≡ max most.variables r.variables → Tallied (items ++ AFunction f ∷ []) reaches next
tallied_function items f old reaches k r most next b named h calls variables deep wide = record {
  reached = record {
    calls_are = grown_chains calls_in (λ g. 1) items f old reaches k r b.reached.calls_are named h calls;
    variables_are = grown_chains variables_in variables_of items f old reaches k r b.reached.variables_are named h variables;
  };
  calls_are = deep ∙ grown_heaviest calls_in (λ g. 1) items f old reaches k r most.calls b.reached.calls_are calls b.calls_are;
  variables_are = wide ∙ grown_heaviest variables_in variables_of items f old reaches k r most.variables b.reached.variables_are variables b.variables_are;
}

pub one_item : (items : List CItem) (i : ℕ) (x y : CItem) → i < length items → x ≡ get_or items i x → x ≡ y → take i items ++ y ∷ [] ≡ take (i + 1) items
one_item items i x y h e k = ap (λ z. take i items ++ z ∷ []) (sym k ∙ e) ∙ sym (take_more items i x h)
