-- The three parameters of a reader.
use Rattle.std.proofs.Common.{◌≡◌, ℕ, List, [], ◌∷◌, length, get_or, arith, refl, ap, sym, ◌∙◌}
use Rattle.std.specs.Prelude.{Some, slice_get}
use Rattle.ecd_cast.specs.declared.tree.Param.{Param}
use Rattle.ecd_cast.specs.declared.tree.ParamKind.TheVariants.{Number, ReadPointer, Struct}
use Rattle.ecd_cast.specs.declared.tree.Function.{Function}
use Rattle.ecd_cast.specs.declared.tree.CItem.{CItem}
use Rattle.ecd_cast.specs.declared.tree.CItem.TheVariants.{Function as AFunction}
use Rattle.ecd_cast.specs.Memory.{Name}
use Rattle.ecd_cbuild.specs.Lookup.{AreReaderParams}
use Rattle.ecd_commands.specs.Calls.{TakesStruct}

pub three_are : (xs : List Param) (a b c : Param) → length xs ≡ 3 → a ≡ get_or xs 0 a → b ≡ get_or xs 1 b → c ≡ get_or xs 2 c → xs ≡ a ∷ b ∷ c ∷ []
three_are [] a b c n e f g = absurd (omega (arith, n))
three_are (x ∷ []) a b c n e f g = absurd (omega (arith, n))
three_are (x ∷ y ∷ []) a b c n e f g = absurd (omega (arith, n))
three_are (x ∷ y ∷ z ∷ []) a b c n e f g = λ i. sym e i ∷ sym f i ∷ sym g i ∷ []
three_are (x ∷ y ∷ z ∷ w ∷ more) a b c n e f g = absurd (omega (arith, n))

pub takes_struct : (items : List CItem) (number : ℕ) (f : Function) (a b c : Param) (name : Name) → slice_get items number ≡ Some (AFunction f) → f.params ≡ a ∷ b ∷ c ∷ []
    → a.kind ≡ ReadPointer → b.kind ≡ Number → c.kind ≡ Struct name → TakesStruct items number name
takes_struct items number f a b c name stands are reads counts fills = record {
  function = f;
  stands = stands;
  takes = record { buffer = a; length_ = b; cells = c; are = are; reads = reads; counts = counts; struct_ = name; fills = fills };
  is = refl;
}

-- the kinds of three parameters that are a reader's
pub record AreKinds (a b c : Param) (name : Name) : Type 0 where
  pub reads : a.kind ≡ ReadPointer
  pub counts : b.kind ≡ Number
  pub fills : c.kind ≡ Struct name

pub kinds_of : (items : List CItem) (number : ℕ) (f g : Function) (a b c : Param) → slice_get items number ≡ Some (AFunction f) → f.params ≡ a ∷ b ∷ c ∷ [] → slice_get items number ≡ Some (AFunction g)
    → (takes : AreReaderParams g.params) → AreKinds a b c takes.struct_
kinds_of items number f g a b c stands are there takes =
    let both : Some (AFunction f) ≡ Some (AFunction g) = sym stands ∙ there in
    let same : f ≡ g = cc in
    let lists : a ∷ b ∷ c ∷ [] ≡ takes.buffer ∷ takes.length_ ∷ takes.cells ∷ [] = sym are ∙ ap (λ (h : Function). h.params) same ∙ takes.are in
    let first : a ≡ takes.buffer = cc in
    let second : b ≡ takes.length_ = cc in
    let third : c ≡ takes.cells = cc in
    record {
      reads = ap (λ (p : Param). p.kind) first ∙ takes.reads;
      counts = ap (λ (p : Param). p.kind) second ∙ takes.counts;
      fills = ap (λ (p : Param). p.kind) third ∙ takes.fills;
    }
