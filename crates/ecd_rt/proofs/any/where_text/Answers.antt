use Rattle.ecd_rt.proofs.any.where_text.Goals as goal

pub returns : goal.returns
returns c = rw (
  c.in_ok-name.ensures,
  c.in_ok-push.ensures.ok,
  c.in_ok-args.ensures,
  c.in_ok-var.ensures,
) at c.where_major.ensures
