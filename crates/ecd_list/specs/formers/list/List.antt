-- How a `List` stores its elements, so that a type may hold itself through one.
use mathlib.Core.Former.{Former, children, list, this, via}
use mathlib.Core.List.{List, []}
use mathlib.Core.Path.{◌≡◌, refl, sym}
use base.Stored.{code_map}
use denote.Hole.Carrier.{list-listed, listed}
use denote.Hole.Fix.{over}
use denote.HoleLaws.{Alike}
use denote.HolePlaces.{Recodes, laid, struct_places}
use denote.Model.Placed.{view_places}
use denote.Param.Weighed.{Weighed, w_list}
use denote.RattleType.{RattleType}
use Rattle.std.specs.contracts.alloc.Global as global
use Rattle.std.specs.contracts.impls.GlobalAllocator.TheImpl.{ghosts}
use Rattle.std.specs.declared.alloc.Global.{Global}
use Rattle.std.specs.formers.vec.Vec as std_vec
use Rattle.ecd_list.specs.contracts.list.List as outer
use Rattle.ecd_list.specs.contracts.list.List.TheInside as inner
use Rattle.ecd_list.specs.declared.list.List.TheInside.{Inside}
use Rattle.ecd_list.specs.declared.list.List.TheView.{invariant, view}

-- a list is its elements, in order
abbrev pub the_former : Former {0} → Former {0}
the_former element = list element

abbrev pub the_weighed : {element : Former {0}} → Weighed element → Weighed (the_former element)
the_weighed weight = w_list weight

pub the_empty : List ⊥
the_empty = []

abbrev pub the_items : (X : Type 0) → List X → List X
the_items X elements = elements

pub the_items_listed : (X : Type 0) (elements : List X) → listed _ (children (the_former this) X elements) ≡ the_items X elements
the_items_listed X elements = list-listed X elements

-- the one field is a vector
abbrev parts : Former {0}
parts = via (std_vec.the_former this Global) Inside (λ X whole. whole.elements) (λ X vector. record { elements = vector }) (λ X whole. refl) (λ X vector. refl)

module _ (From To : RattleType) (change : From.Denot → To.Denot) where
  pub the_places : Alike From To change → Alike (outer.the_row From) (outer.the_row To) ((the_former this).map From.Denot To.Denot change)
  the_places like = view_places parts (list this) view (λ X Y k u. refl) (λ X u. refl) From.Denot To.Denot change (outer.the_row From).coded (outer.the_row To).coded
      (invariant From.Denot) (invariant To.Denot) (λ u p q. refl) (λ u p q. refl) (λ u e. tt) (λ u e. tt)
      (over (inner.the_row From)) (over (inner.the_row To))
      (struct_places (inner.the_type From) (inner.the_type To) (std_vec.mapped change, tt) _ (λ d. refl) refl (laid _ _ _ (std_vec.the_places global.the_row ghosts From To change like), tt))

  pub the_codes_placed : Recodes From To change → Recodes (outer.the_row From) (outer.the_row To) ((the_former this).map From.Denot To.Denot change)
  the_codes_placed codes elements = sym (code_map From.coded.code To.coded.code change (λ x. sym (codes x)) elements)
