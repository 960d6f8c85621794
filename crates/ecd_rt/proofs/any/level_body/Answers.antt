use Rattle.std.proofs.Common.{refl}
use Rattle.ecd_rt.proofs.any.level_body.Goals as goal

pub returns : goal.returns
returns c = rw (
  c.in_ok-push-5.ensures.ok,
  c.in_ok-push-4.ensures.ok,
  c.in_ok-push-3.ensures.ok,
  c.in_ok-push-2.ensures.ok,
  c.in_ok-push.ensures.ok,
  c.in_ok-body.ensures,
  c.in_ok-where_major.ensures,
  c.in_ok-let_argument.ensures,
  c.in_ok-where_major-2.ensures,
  c.in_ok-declare_call.ensures,
  c.in_ok-give_variable.ensures,
  c.in_ok-content.ensures,
  c.in_ok-args.ensures,
  c.in_ok-pairs.ensures,
  c.in_ok-items.ensures,
  c.in_ok-counted_args.ensures,
  c.in_ok-counted_args-2.ensures,
) refl
