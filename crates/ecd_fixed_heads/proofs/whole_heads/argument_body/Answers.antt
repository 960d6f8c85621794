use Rattle.std.proofs.Common.{refl}
use Rattle.ecd_fixed_heads.proofs.whole_heads.argument_body.Goals as goal

pub returns : goal.returns
returns c = rw (
  c.in_ok-push-4.ensures.ok,
  c.in_ok-push-3.ensures.ok,
  c.in_ok-push-2.ensures.ok,
  c.in_ok-push.ensures.ok,
  c.in_ok-body.ensures,
  c.in_ok-where_wide.ensures,
  c.in_ok-where_wide-2.ensures,
  c.in_ok-let_call.ensures,
  c.in_ok-later_args.ensures,
  c.in_ok-give_variable.ensures,
) refl
