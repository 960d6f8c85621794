use Rattle.std.proofs.Common.{[], ◌∷◌}
use Rattle.ecd_commands.specs.Asked.{compile}
use Rattle.ecd_commands.specs.Commands.{schema_asked}
use Rattle.ecd_commands.specs.Causes.{request_for}
use Rattle.ecd_commands.specs.Answers.{outcome_of}
use Rattle.ecd_commands.proofs.Texts.{refused_has_none}
use Rattle.ecd_commands.proofs.commands.compile_text.Goals as goal

pub returns-in-Err-clause-none : goal.returns-in-Err-clause-none
returns-in-Err-clause-none g c =
    let f = g.F.Files in
    let s = schema_asked c.args.words.now in
    refused_has_none (f.told c.args.files.now) (compile s) (request_for c.in_ok-schema.schema s) (c.in_ok-schema.schema ∷ []) (f.faults c.args.files.now) (f.faults c.contents_of.new.files) (f.begun c.contents_of.new.files) (f.left c.contents_of.new.files) (outcome_of c.in-Err.answer)
    (c.in_ok-schema.ensures.is_read, tt) (λ is. is) (rw c.as_slice.ensures at c.in-Err.ensures.refused)

pub returns-clause-text : goal.returns-clause-text
returns-clause-text g c = record {
  contents = c.in_ok-schema.schema ∷ [];
  are_read = (c.in_ok-schema.ensures.is_read, tt);
  is = record { program = c.in-Ok.compiled.program; compiled = rw c.as_slice.ensures at c.in-Ok.ensures.compiled };
}
