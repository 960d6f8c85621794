use Rattle.std.proofs.Common.{◌≡◌, sym, ◌∙◌, ap, arith, ◌≤◌, length}
use Rattle.std.specs.Prelude.{Some, None}
use Rattle.std.specs.Option.{option_copied}
use Rattle.ecd_cast.specs.ByName.{under}
use Rattle.ecd_cscope.proofs.Directs.{knows_struct_so, knows_no_struct}
use Rattle.ecd_cscope.proofs.directory.Surroundings.knows_struct.Goals as goal

pub returns-in-Some : goal.returns-in-Some
returns-in-Some c =
    let e : under c.args.self.now.directory.now.structs c.args.name.now ≡ Some c.in-Some.number.now = sym c.get.ensures.value ∙ ap option_copied c.in-Some.is in
    let there : c.args.self.now.at_ ≤ length c.args.self.now.items.now = omega (arith, c.requires.there) in
    knows_struct_so c.args.self.now.items.now c.args.self.now.at_ there c.args.name.now c.in-Some.number.now (sym (c.requires.directs.structs_are c.args.name.now) ∙ e)

pub returns-in-None : goal.returns-in-None
returns-in-None c =
    let e : under c.args.self.now.directory.now.structs c.args.name.now ≡ None = sym c.get.ensures.value ∙ ap option_copied c.in-None.is in
    let there : c.args.self.now.at_ ≤ length c.args.self.now.items.now = omega (arith, c.requires.there) in
    knows_no_struct c.args.self.now.items.now c.args.self.now.at_ there c.args.name.now (sym (c.requires.directs.structs_are c.args.name.now) ∙ e)
