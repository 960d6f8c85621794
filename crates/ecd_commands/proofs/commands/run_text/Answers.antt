use Rattle.std.proofs.Common.{[], ◌∷◌}
use Rattle.ecd_commands.specs.Answers.{outcome_of}
use Rattle.ecd_commands.proofs.Texts.{not_run_has_none, c_refused, c_halted}
use Rattle.ecd_commands.proofs.commands.run_text.Goals as goal

pub returns-in-Err-program_of-clause-none : goal.returns-in-Err-program_of-clause-none
returns-in-Err-program_of-clause-none g c =
    let f = g.F.Files in
    let o = outcome_of c.in-Err-program_of.answer in
    not_run_has_none (f.told c.args.files.now) c.args.c_file.now c.args.function.now c.args.name.now c.args.steps c.in_ok-c_text.c_text c.in-Ok.input (f.faults c.args.files.now) (f.faults c.contents_of-2.new.files) (f.begun c.contents_of-2.new.files) (f.left c.contents_of-2.new.files) o
    (c.in_ok-c_text.ensures.is_read, (rw c.contents_of.ensures.told at c.in-Ok.ensures.is_read, tt))
    (c_refused c.in_ok-c_text.c_text c.args.function.now c.in-Ok.input c.args.steps o (rw c.as_slice.ensures at c.in-Err-program_of.ensures.refused))

pub returns-clause-none : goal.returns-clause-none
returns-clause-none g c =
    let f = g.F.Files in
    let o = outcome_of c.in-Err-returned.answer in
    let program = rw c.as_slice.ensures at c.in-Ok-program_of.ensures.program in
    not_run_has_none (f.told c.args.files.now) c.args.c_file.now c.args.function.now c.args.name.now c.args.steps c.in_ok-c_text.c_text c.in-Ok.input (f.faults c.args.files.now) (f.faults c.contents_of-2.new.files) (f.begun c.contents_of-2.new.files) (f.left c.contents_of-2.new.files) o
    (c.in_ok-c_text.ensures.is_read, (rw c.contents_of.ensures.told at c.in-Ok.ensures.is_read, tt))
    (c_halted c.in_ok-c_text.c_text c.in-Ok-program_of.program c.args.function.now c.in-Ok.input c.args.steps o program.0 program.1 (rw c.as_slice-2.ensures at c.in-Err-returned.ensures.halted))

pub returns-in-Ok-returned-clause-text : goal.returns-in-Ok-returned-clause-text
returns-in-Ok-returned-clause-text g c =
    let program = rw c.as_slice.ensures at c.in-Ok-program_of.ensures.program in
    record {
      contents = c.in_ok-c_text.c_text ∷ c.in-Ok.input ∷ [];
      are_read = (c.in_ok-c_text.ensures.is_read, (rw c.contents_of.ensures.told at c.in-Ok.ensures.is_read, tt));
      is = (c.in-Ok-program_of.program, record { spells = program.0; valid = program.1 }, rw c.as_slice-2.ensures at c.in-Ok-returned.ensures.text);
    }
