use Rattle.ecd_bodies.proofs.Bodies.{untouched_keep_bodies, prelude_gives_one_body, floats_have_no_body, undefined_have_no_body}
use Rattle.ecd_bodies.proofs.laws.bodies.Goals as goal

pub returns : goal.returns
returns c = record {
  untouched = untouched_keep_bodies;
  prelude = prelude_gives_one_body;
  floats = floats_have_no_body;
  undefined = undefined_have_no_body;
}
