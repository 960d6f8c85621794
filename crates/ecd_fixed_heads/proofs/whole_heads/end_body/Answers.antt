use Rattle.std.proofs.Common.{refl}
use Rattle.ecd_fixed_heads.proofs.whole_heads.end_body.Goals as goal

pub returns : goal.returns
returns c = rw (
  c.in_ok-push-8.ensures.ok,
  c.in_ok-push-7.ensures.ok,
  c.in_ok-push-6.ensures.ok,
  c.in_ok-push-5.ensures.ok,
  c.in_ok-push-4.ensures.ok,
  c.in_ok-push-3.ensures.ok,
  c.in_ok-push-2.ensures.ok,
  c.in_ok-push.ensures.ok,
  c.in_ok-body.ensures,
  c.in_ok-none_by.ensures,
  c.in_ok-let_number.ensures,
  c.in_ok-byte_here.ensures,
  c.in_ok-let_by_first.ensures,
  c.in_ok-none_without.ensures,
  c.in_ok-none_where_cut.ensures,
  c.in_ok-let_argument.ensures,
  c.in_ok-let_by_first-2.ensures,
  c.in_ok-none_by-2.ensures,
  c.in_ok-behind_head.ensures,
) refl
