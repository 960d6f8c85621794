use Rattle.std.proofs.Common.{refl}
use Rattle.ecd_rt.proofs.runs.key_turn.Goals as goal

pub returns : goal.returns
returns c = rw (
  c.in_ok-push-4.ensures.ok,
  c.in_ok-push-3.ensures.ok,
  c.in_ok-push-2.ensures.ok,
  c.in_ok-push.ensures.ok,
  c.in_ok-turn.ensures,
  c.in_ok-declare_call.ensures,
  c.in_ok-where_number.ensures,
  c.in_ok-let_number.ensures,
  c.in_ok-let_call.ensures,
  c.in_ok-where_number-2.ensures,
  c.in_ok-callee.ensures,
  c.in_ok-args.ensures,
  c.in_ok-size.ensures,
  c.in_ok-key_args.ensures,
) refl
