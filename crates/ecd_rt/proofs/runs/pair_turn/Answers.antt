use Rattle.std.proofs.Common.{refl}
use Rattle.ecd_rt.proofs.runs.pair_turn.Goals as goal

pub returns : goal.returns
returns c = rw (
  c.in_ok-push-4.ensures.ok,
  c.in_ok-push-3.ensures.ok,
  c.in_ok-push-2.ensures.ok,
  c.in_ok-push.ensures.ok,
  c.in_ok-turn.ensures,
  c.in_ok-assign.ensures,
  c.in_ok-assign-2.ensures,
  c.in_ok-end_by.ensures,
  c.in_ok-where_number.ensures,
  c.in_ok-callee.ensures,
  c.in_ok-var.ensures,
  c.in_ok-var-2.ensures,
) refl
