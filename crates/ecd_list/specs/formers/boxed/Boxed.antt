-- How a `Boxed` stores its value, so that a type may hold itself through one.
use mathlib.Core.Path.{refl}
use mathlib.Core.Former.{Former, this, const, pair, via}
use base.Fml.{ftrue}
use base.Stored.{gnil}
use denote.Hole.Fix.{over}
use denote.HoleLaws.{Alike}
use denote.HolePlaces.{Recodes, laid, one_value, struct_places}
use denote.Memory.{part_of}
use denote.Model.Placed.{view_places}
use denote.Param.Weighed.{Weighed}
use denote.RattleType.{RattleType}
use denote.RawPtr.{Ptr}
use denote.Sharing.{nothing}
use Rattle.std.specs.contracts.alloc.Global as global
use Rattle.std.specs.contracts.boxed.Box as std_box
use Rattle.std.specs.contracts.impls.GlobalAllocator.TheImpl.{ghosts}
use Rattle.std.specs.declared.alloc.Global.{Global}
use Rattle.std.specs.declared.boxed.Box.{Box}
use Rattle.ecd_list.specs.contracts.boxed.Boxed as outer
use Rattle.ecd_list.specs.contracts.boxed.Boxed.TheInside as inner
use Rattle.ecd_list.specs.declared.boxed.Boxed.TheInside.{Inside}
use Rattle.ecd_list.specs.declared.boxed.Boxed.TheView.{invariant, view}

-- a box is its one value
abbrev pub the_former : Former {0} → Former {0}
the_former value = value

abbrev pub the_weighed : {value : Former {0}} → Weighed value → Weighed (the_former value)
the_weighed weight = weight

-- the fields are a pointer, an allocator and the value
abbrev parts : Former {0}
parts =
    via (pair (const (Ptr × Global)) this) Inside (λ X whole. ((whole.place.ptr, whole.place.alloc), whole.place.value))
    (λ X split. record { place = record { ptr = split.0.0; alloc = split.0.1; value = split.1 } }) (λ X whole. refl) (λ X split. refl)

-- the same box round another value
abbrev around : {X Y : Type 0} → Box X Global → Y → Box Y Global
around b y = record { ptr = b.ptr; alloc = b.alloc; value = y }

abbrev boxing : RattleType → RattleType
boxing T = std_box.the_row T global.the_row ghosts

module _ (From To : RattleType) (change : From.Denot → To.Denot) where
  placed_in_box : Alike From To change → Alike (boxing From) (boxing To) (λ b. around b (change b.value))
  unfolding part_of
  placed_in_box like = record {
    mir_same = λ i. (boxing (one_value From (like.mir_same i) (λ _. ftrue) (λ _ _. nothing) gnil)).mir;
    own_same = λ b i. (boxing (one_value From (like.mir_same i) (like.own_same b.value i) (like.shr_same b.value i) gnil)).own_val (around b tt);
    shr_same = λ b i. (boxing (one_value From (like.mir_same i) (like.own_same b.value i) (like.shr_same b.value i) gnil)).shr_at (around b tt);
  }

  pub the_places : Alike From To change → Alike (outer.the_row From) (outer.the_row To) ((the_former this).map From.Denot To.Denot change)
  the_places like = view_places parts this view (λ X Y k u. refl) (λ X u. refl) From.Denot To.Denot change (outer.the_row From).coded (outer.the_row To).coded
      (invariant From.Denot) (invariant To.Denot) (λ u p q. refl) (λ u p q. refl) (λ u e. tt) (λ u e. tt)
      (over (inner.the_row From)) (over (inner.the_row To))
      (struct_places (inner.the_type From) (inner.the_type To) ((λ b. around b (change b.value)), tt) _ (λ d. refl) refl (laid _ _ _ (placed_in_box like), tt))

  pub the_codes_placed : Recodes From To change → Recodes (outer.the_row From) (outer.the_row To) ((the_former this).map From.Denot To.Denot change)
  the_codes_placed codes value = codes value
