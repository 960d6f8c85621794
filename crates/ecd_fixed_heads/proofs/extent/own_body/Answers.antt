use Rattle.std.proofs.Common.{refl}
use Rattle.ecd_fixed_heads.proofs.extent.own_body.Goals as goal

pub returns : goal.returns
returns c = rw (
  c.in_ok-push-4.ensures.ok,
  c.in_ok-push-3.ensures.ok,
  c.in_ok-push-2.ensures.ok,
  c.in_ok-push.ensures.ok,
  c.in_ok-body.ensures,
  c.in_ok-let_argument.ensures,
  c.in_ok-none_where_short.ensures,
  c.in_ok-where_number.ensures,
  c.in_ok-var.ensures,
  c.in_ok-of_two.ensures,
) refl
