use Rattle.std.proofs.Common.{◌≡◌, ap, ◌∙◌, refl}
use Rattle.ecd_cast.specs.declared.tree.Program.{Program}
use Rattle.ecd_commands.proofs.Calling.{none_named, none_taken, none_declared, reader_is}
use Rattle.ecd_commands.proofs.cfiles.reader_of.Goals as goal

pub returns-in_err-function : goal.returns-in_err-function
returns-in_err-function c = rw c.from_residual.ensures (none_named c.args.program.now c.args.name.now c.in_err-function.ensures)

pub returns-in_err-taken : goal.returns-in_err-taken
returns-in_err-taken c =
    let items : c.as_slice-items.result.now ≡ c.args.program.now.items = c.as_slice-items.ensures ∙ ap (λ (p : Program). p.items) c.program.ensures.same in
    rw c.from_residual-in_err-taken.ensures
    (none_taken c.args.program.now c.args.name.now c.in_ok-function.function c.requires c.in_ok-function.ensures (rw items at c.in_err-taken.ensures))

pub returns-in_err-place : goal.returns-in_err-place
returns-in_err-place c =
    let items : c.as_slice-items.result.now ≡ c.args.program.now.items = c.as_slice-items.ensures ∙ ap (λ (p : Program). p.items) c.program.ensures.same in
    rw c.from_residual-in_err-place.ensures
    (none_declared c.args.program.now c.args.name.now c.in_ok-taken.taken.now c.in_ok-function.function c.requires c.in_ok-function.ensures (rw items at c.in_ok-taken.ensures) (rw items at c.in_err-place.ensures))

pub returns : goal.returns
returns c =
    let items : c.as_slice-items.result.now ≡ c.args.program.now.items = c.as_slice-items.ensures ∙ ap (λ (p : Program). p.items) c.program.ensures.same in
    let found = rw items at c.in_ok-place.ensures in
    (refl, reader_is c.args.program.now c.args.name.now c.in_ok-taken.taken.now c.in_ok-function.function c.in_ok-place.place c.in_ok-place.declaration.now c.in_ok-function.ensures (rw items at c.in_ok-taken.ensures) found.0 found.1)
