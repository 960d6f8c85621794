-- The laws of splits, over the lists of the source.
use Rattle.std.proofs.Common.{List, [], ◌++◌, refl, sym, ◌∙◌, subst}
use Rattle.ecd_keyorder.specs.declared.Order.{Order}
use Rattle.ecd_item_laws.specs.declared.item.Item.{Item}
use Rattle.ecd_core.specs.declared.shape.Kind.{Kind}
use Rattle.ecd_core.specs.declared.shape.Kind.TheBlock as block
use Rattle.ecd_core.specs.declared.shape.Part.{Part}
use Rattle.ecd_core.specs.declared.value.Value.{Value}
use Rattle.ecd_core.specs.Listed.{PartsHave}
use Rattle.ecd_core.specs.Values.{PartsGive}
use Rattle.ecd_core.proofs.Layers.{bwd, parts-list}
use Rattle.ecd_shape_rules.specs.Listed.{starts_of, follow_of}
use Rattle.ecd_shape_rules.proofs.Kept.{Kept}
use Rattle.ecd_shape_rules.proofs.DifferentKeys.{kept_parts_differ}
use Rattle.ecd_shape_rules.proofs.Listed.{empty-list, starts-list, follow-list, demand-list}
use Rattle.ecd_one_value.specs.Splits.{Follows, AllDiffer, PartsSplitOnce, BeginWithStart, EmptyMayBe, MayFollow, NoneWhereAbsent, StartsDiffer}
use Rattle.ecd_one_value.proofs.Starts.{starts_differ, follow_differs, empty_parts, begin, part_followed, are_apart}
use Rattle.ecd_one_value.proofs.OneValue.{parts_one}

given : (order : Order) (parts : List Part) (items : List Item) (values : List Value) → PartsHave order parts items values → PartsGive order (block.hidden-the_row-Part-2 parts) items values
given order parts items values p = bwd (parts-list order parts items values) p

pub parts_split_once : PartsSplitOnce
parts_split_once order parts after d c xs ys r s us ws p q fr fs e =
    parts_one order (block.hidden-the_row-Part-2 parts) after d (subst Kept (sym (demand-list parts after)) c) xs ys r s us ws (given order parts xs us p) (given order parts ys ws q) fr fs e

pub begin_with_start : BeginWithStart
begin_with_start order parts items values p =
    subst (λ (l : List Kind). Follows order l items) (starts-list parts) (begin order (block.hidden-the_row-Part-2 parts) items values (given order parts items values p))

pub empty_may_be : EmptyMayBe
empty_may_be order parts values p = sym (empty-list parts) ∙ empty_parts order (block.hidden-the_row-Part-2 parts) [] values (given order parts [] values p) refl

pub may_follow : MayFollow
may_follow order rest after front behind values p f =
    subst (λ (l : List Kind). Follows order l (front ++ behind)) (follow-list rest after) (part_followed order (block.hidden-the_row-Part-2 rest) after front behind values (given order rest front values p) f)

pub none_where_absent : NoneWhereAbsent
none_where_absent order body rest after item items front behind values d f apart under e p followed =
    are_apart order (starts_of body) (follow_of rest after) item d f apart under (subst (Follows order (follow_of rest after)) (sym e) (may_follow order rest after front behind values p followed))

pub have_starts_differ : StartsDiffer
have_starts_differ parts after c =
    let d = kept_parts_differ (block.hidden-the_row-Part-2 parts) after (subst Kept (sym (demand-list parts after)) c) in (
      subst AllDiffer (starts-list parts) (starts_differ (block.hidden-the_row-Part-2 parts) d),
      (λ h. subst AllDiffer (follow-list parts after) (follow_differs (block.hidden-the_row-Part-2 parts) after d h)),
    )
