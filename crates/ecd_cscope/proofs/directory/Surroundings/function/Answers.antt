use Rattle.std.proofs.Common.{◌≡◌, sym, ◌∙◌, subst, ap, arith, ◌≤◌, length}
use Rattle.std.specs.Prelude.{Some, None, Option}
use Rattle.std.specs.Option.{option_copied}
use Rattle.ecd_cscope.specs.declared.directory.Found.{Found}
use Rattle.ecd_cast.specs.ByName.{under}
use Rattle.ecd_cscope.specs.Surroundings.{IsFound}
use Rattle.ecd_cscope.proofs.Directs.{function_there, function_nowhere, function_stands}
use Rattle.ecd_cscope.proofs.directory.Surroundings.function.Goals as goal

pub returns-in_err-number : goal.returns-in_err-number
returns-in_err-number c =
    let e : under c.args.self.now.directory.now.functions c.args.name.now ≡ None = sym c.get.ensures.value ∙ ap option_copied c.in_err-number.was in
    let there : c.args.self.now.at_ ≤ length c.args.self.now.items.now = omega (arith, c.requires.there) in
    subst (λ (o : Option Found). IsFound c.args.self.now c.args.name.now o) (sym c.from_residual.ensures)
    (function_nowhere c.args.self.now.items.now c.args.self.now.at_ there c.args.name.now (sym (c.requires.directs.functions_are c.args.name.now) ∙ e))

pub returns : goal.returns
returns c =
    let e : under c.args.self.now.directory.now.functions c.args.name.now ≡ Some c.in_ok-number.field-0.now = sym c.get.ensures.value ∙ ap option_copied c.in_ok-number.was in
    let there : c.args.self.now.at_ ≤ length c.args.self.now.items.now = omega (arith, c.requires.there) in
    function_there c.args.self.now.items.now c.args.self.now.at_ there c.args.name.now c.in_ok-number.field-0.now (sym (c.requires.directs.functions_are c.args.name.now) ∙ e) c.in_ok-function.function.now (sym c.function_numbered.ensures ∙ ap option_copied c.in_ok-function.was)

pub returns-in_err-function : goal.returns-in_err-function
returns-in_err-function c =
    let e : under c.args.self.now.directory.now.functions c.args.name.now ≡ Some c.in_ok-number.field-0.now = sym c.get.ensures.value ∙ ap option_copied c.in_ok-number.was in
    let there : c.args.self.now.at_ ≤ length c.args.self.now.items.now = omega (arith, c.requires.there) in
    absurd (function_stands c.args.self.now.items.now c.args.self.now.at_ there c.args.name.now c.in_ok-number.field-0.now (sym (c.requires.directs.functions_are c.args.name.now) ∙ e) (sym c.function_numbered.ensures ∙ ap option_copied c.in_err-function.was))
