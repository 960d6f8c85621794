use Rattle.std.proofs.Common.{◌≡◌, ⊎_elim, inl, [], ◌∷◌, refl, arith}
use Rattle.std.specs.Prelude.{codes}
use Rattle.ecd_commands.specs.Asked.{read}
use Rattle.ecd_commands.specs.Commands.{schema_asked}
use Rattle.ecd_commands.specs.Causes.{request_for, IsText}
use Rattle.ecd_reader.specs.Takes.{BeginsWith, Takes}
use Rattle.ecd_commands.specs.Answers.{outcome_of}
use Rattle.ecd_commands.proofs.Texts.{refused_has_none, none_has_none, ok_text}
use Rattle.ecd_commands.proofs.commands.read_text.Goals as goal

pub returns-in-Err-compile_schema-clause-none : goal.returns-in-Err-compile_schema-clause-none
returns-in-Err-compile_schema-clause-none g c =
    let f = g.F.Files in
    let s = schema_asked c.args.words.now in
    refused_has_none (f.told c.args.files.now) (read s c.args.name.now) (request_for c.in_ok-schema.schema s) (c.in_ok-schema.schema ∷ c.in-Ok.input ∷ []) (f.faults c.args.files.now) (f.faults c.contents_of-2.new.files) (f.begun c.contents_of-2.new.files) (f.left c.contents_of-2.new.files)
    (outcome_of c.in-Err-compile_schema.answer)
    (c.in_ok-schema.ensures.is_read, (rw c.contents_of.ensures.told at c.in-Ok.ensures.is_read, tt)) (λ is. inl is) (rw c.as_slice.ensures at c.in-Err-compile_schema.ensures.refused)

pub returns-then-taken-eq0-clause-none : goal.returns-then-taken-eq0-clause-none
returns-then-taken-eq0-clause-none g c =
    let f = g.F.Files in
    let s = schema_asked c.args.words.now in
    let compiled = rw c.as_slice.ensures at c.in-Ok-compile_schema.ensures.compiled in
    let takes : Takes compiled.number c.in-Ok.input c.in-Ok-consumed.taken = rw c.as_slice-2.ensures at c.in-Ok-consumed.ensures compiled.number compiled.reads in
    let zero_taken : c.in-Ok-consumed.taken ≡ 0 = c.if-taken-eq0.true in
    let no : BeginsWith compiled.number c.in-Ok.input → ⊥ = ⊎_elim (λ (x : (c.in-Ok-consumed.taken ≡ 1) × BeginsWith compiled.number c.in-Ok.input). absurd (omega (arith, x.0, zero_taken)))
    (λ (x : (c.in-Ok-consumed.taken ≡ 0) × (BeginsWith compiled.number c.in-Ok.input → ⊥)). x.1) takes in
    none_has_none (f.told c.args.files.now) s c.args.name.now c.in_ok-schema.schema c.in-Ok.input (f.faults c.args.files.now) (f.faults c.contents_of-2.new.files) (f.begun c.contents_of-2.new.files) (f.left c.contents_of-2.new.files)
    (c.in_ok-schema.ensures.is_read, (rw c.contents_of.ensures.told at c.in-Ok.ensures.is_read, tt))
    (compiled.number, compiled.is_number, no)

pub returns-clause-text : goal.returns-clause-text
returns-clause-text g c =
    let f = g.F.Files in
    let s = schema_asked c.args.words.now in
    let compiled = rw c.as_slice.ensures at c.in-Ok-compile_schema.ensures.compiled in
    let takes : Takes compiled.number c.in-Ok.input c.in-Ok-consumed.taken = rw c.as_slice-2.ensures at c.in-Ok-consumed.ensures compiled.number compiled.reads in
    let begins : BeginsWith compiled.number c.in-Ok.input = ⊎_elim (λ (x : (c.in-Ok-consumed.taken ≡ 1) × BeginsWith compiled.number c.in-Ok.input). x.1)
    (λ (x : (c.in-Ok-consumed.taken ≡ 0) × (BeginsWith compiled.number c.in-Ok.input → ⊥)). absurd (c.if-taken-eq0.false x.0)) takes in
    ok_text c.text.result (codes "1 _\n") (λ text. IsText (f.told c.args.files.now) (read s c.args.name.now) text) c.text.ensures.text
    record {
      contents = c.in_ok-schema.schema ∷ c.in-Ok.input ∷ [];
      are_read = (c.in_ok-schema.ensures.is_read, (rw c.contents_of.ensures.told at c.in-Ok.ensures.is_read, tt));
      is = ((compiled.number, compiled.is_number, begins), refl);
    }
