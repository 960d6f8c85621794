use Rattle.std.proofs.Common.{refl}
use Rattle.ecd_rt.proofs.runs.pairs_body.Goals as goal

pub returns : goal.returns
returns c = rw (
  c.in_ok-push-4.ensures.ok,
  c.in_ok-push-3.ensures.ok,
  c.in_ok-push-2.ensures.ok,
  c.in_ok-push.ensures.ok,
  c.in_ok-body.ensures,
  c.in_ok-let_number.ensures,
  c.in_ok-let_number-2.ensures,
  c.in_ok-let_number-3.ensures,
  c.in_ok-count_times.ensures,
  c.in_ok-pair_turn.ensures,
  c.in_ok-give_variable.ensures,
  c.in_ok-var.ensures,
  c.in_ok-var-2.ensures,
) refl
