-- Kinds, parts and entries by rows are those by lists.
use Rattle.std.proofs.Common.{◌≡◌, ℕ, List, ap, sym, ◌∙◌, rules}
use Rattle.ecd_core.specs.declared.shape.Kind.{Kind, Choice', Tag', Cbor', AnyTag', Array', Map', Row_of-Shape, items-the_row-Shape, items-the_row-MapEntry, roll-Kind, roll-out-Kind, the_lemmas}
use Rattle.ecd_core.specs.declared.shape.Kind.TheVariants as k
use Rattle.ecd_core.specs.declared.shape.Kind.TheViews as views
use Rattle.ecd_core.specs.declared.shape.Kind.TheBlock as block
use Rattle.ecd_core.specs.declared.shape.Shape.{Shape}
use Rattle.ecd_core.specs.declared.shape.Group.{items-the_row-Part}
use Rattle.ecd_core.specs.declared.shape.Part.{Part, Opt', Many', Alt', items-the_row-Way}
use Rattle.ecd_core.specs.declared.shape.Part.TheVariants as p
use Rattle.ecd_core.specs.declared.shape.Way.{Way}
use Rattle.ecd_core.specs.declared.shape.MapEntry.{MapEntry}
use Rattle.ecd_core.proofs.Layers.{parts-shown, shapes-shown, entries-shown}

pub Tag-row : (n : ℕ) (s : Unit {0}) (r : Row_of-Shape 1) → Tag' n s r ≡ k.Tag n (block.shown-the_row-Shape-0 s r)
Tag-row n s r = sym (roll-out-Kind (Tag' n s r)) ∙ (ap roll-Kind (views.outs-Tag' n s r) ∙ k.rolls-Tag n _)

pub AnyTag-row : (s : Unit {0}) (r : Row_of-Shape 1) → AnyTag' s r ≡ k.AnyTag (block.shown-the_row-Shape-0 s r)
AnyTag-row s r = sym (roll-out-Kind (AnyTag' s r)) ∙ (ap roll-Kind (views.outs-AnyTag' s r) ∙ k.rolls-AnyTag _)

pub Cbor-row : (s : Unit {0}) (r : Row_of-Shape 1) → Cbor' s r ≡ k.Cbor (block.shown-the_row-Shape-0 s r)
Cbor-row s r = sym (roll-out-Kind (Cbor' s r)) ∙ (ap roll-Kind (views.outs-Cbor' s r) ∙ k.rolls-Cbor _)

pub Choice-row : (s : List (Unit {0})) (r : _) → Choice' s r ≡ k.Choice (items-the_row-Shape _ r)
Choice-row s r = sym (roll-out-Kind (Choice' s r)) ∙ (ap roll-Kind (views.outs-Choice' s r) ∙ (k.rolls-Choice _ ∙ ap (λ (x : List Shape). k.Choice x) (shapes-shown s r)))

pub Array-row : (s : List (Unit {0})) (r : _) → Array' s r ≡ k.Array (record { parts = items-the_row-Part _ r })
Array-row s r = sym (roll-out-Kind (Array' s r)) ∙ (ap roll-Kind (views.outs-Array' s r) ∙ (k.rolls-Array _ ∙ ap (λ (x : List Part). k.Array (record { parts = x })) (parts-shown s r)))

pub Map-row : (s : List (Unit {0})) (r : _) → Map' s r ≡ k.Map (items-the_row-MapEntry _ r)
Map-row s r = sym (roll-out-Kind (Map' s r)) ∙ (ap roll-Kind (views.outs-Map' s r) ∙ (k.rolls-Map _ ∙ ap (λ (x : List MapEntry). k.Map x) (entries-shown s r)))

pub Opt-row : (at : ℕ) (s : List (Unit {0})) (r : _) → Opt' at s r ≡ p.Opt at (record { parts = items-the_row-Part _ r })
Opt-row at s r = sym (views.roll-out-Part (Opt' at s r)) ∙ (ap views.roll-Part (views.outs-Opt' at s r) ∙ (p.rolls-Opt at _ ∙ ap (λ (x : List Part). p.Opt at (record { parts = x })) (parts-shown s r)))

pub Many-row : (at lo hi : ℕ) (s : List (Unit {0})) (r : _) → Many' at lo hi s r ≡ p.Many at lo hi (record { parts = items-the_row-Part _ r })
Many-row at lo hi s r =
    sym (views.roll-out-Part (Many' at lo hi s r)) ∙ (ap views.roll-Part (views.outs-Many' at lo hi s r) ∙ (p.rolls-Many at lo hi _ ∙ ap (λ (x : List Part). p.Many at lo hi (record { parts = x })) (parts-shown s r)))

pub Alt-row : (at : ℕ) (s : List (Unit {0})) (r : _) → Alt' at s r ≡ p.Alt at (items-the_row-Way _ r)
Alt-row at s r =
    let same : block.shown-the_row-Way-4 s r ≡ items-the_row-Way _ r = search (rules, the_lemmas) in
    sym (views.roll-out-Part (Alt' at s r)) ∙ (ap views.roll-Part (views.outs-Alt' at s r) ∙ (p.rolls-Alt at _ ∙ ap (λ (x : List Way). p.Alt at x) same))
