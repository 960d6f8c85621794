use Rattle.std.proofs.Common.{refl}
use Rattle.ecd_fixed_heads.proofs.whole_heads.within_body.Goals as goal

pub returns : goal.returns
returns c = rw (
  c.in_ok-push-6.ensures.ok,
  c.in_ok-push-5.ensures.ok,
  c.in_ok-push-4.ensures.ok,
  c.in_ok-push-3.ensures.ok,
  c.in_ok-push-2.ensures.ok,
  c.in_ok-push.ensures.ok,
  c.in_ok-body.ensures,
  c.in_ok-let_call.ensures,
  c.in_ok-args.ensures,
  c.in_ok-none_without.ensures,
  c.in_ok-other_major.ensures,
  c.in_ok-let_argument.ensures,
  c.in_ok-none_by.ensures,
  c.in_ok-none_by-2.ensures,
  c.in_ok-give_variable.ensures,
) refl
