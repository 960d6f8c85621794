use Rattle.std.proofs.Common.{◌≡◌, false, true, refl, ap, sym, ◌∙◌}
use Rattle.std.specs.List.{Contains}
use Rattle.std.specs.Option.{option_copied}
use Rattle.ecd_prelude.specs.Prelude.{float_names}
use Rattle.ecd_bodies.specs.Named.{bodies_of}
use Rattle.ecd_bodies.proofs.Tabling.{arity_some, arity_none, float-takes_none, others-take}
use Rattle.ecd_bodies.proofs.table.RuleTable.arity.Goals as goal

pub returns-then-is_float_name : goal.returns-then-is_float_name
returns-then-is_float_name c = float-takes_none c.args.self.now c.args.name.now (c.if-is_float_name.ensures.0 refl)

pub returns-in-Some : goal.returns-in-Some
returns-in-Some c =
    let no_float : Contains float_names c.args.name.now → ⊥ = λ f. let bad : false ≡ true = c.if-is_float_name.ensures.1 f in absurd cc in
    c.len.ensures ∙ arity_some (bodies_of c.args.self.now c.args.name.now) c.in-Some.rule.now (sym c.body.ensures ∙ ap option_copied c.in-Some.is) ∙ sym (others-take c.args.self.now c.args.name.now no_float)

pub returns-in-None : goal.returns-in-None
returns-in-None c =
    let no_float : Contains float_names c.args.name.now → ⊥ = λ f. let bad : false ≡ true = c.if-is_float_name.ensures.1 f in absurd cc in
    arity_none (bodies_of c.args.self.now c.args.name.now) (sym c.body.ensures ∙ ap option_copied c.in-None.is) ∙ sym (others-take c.args.self.now c.args.name.now no_float)
