use Rattle.std.proofs.Common.{◌≡◌, ◌∙◌, sym, ap, subst, List, ◌∷◌, ◌++◌, [], drop}
use Rattle.std.specs.Prelude.{option_to_list}
use Rattle.ecd_cscope.specs.declared.variables.Declared.{Declared}
use Rattle.ecd_cast.specs.Kinds.{Known}
use Rattle.ecd_cscope.specs.Variables.{known_in, IsKept}
use Rattle.ecd_cscope.proofs.Known.{known-append, kept_less, kept_there}
use Rattle.ecd_cscope.proofs.variables.Variables.forget.Goals as goal

pub invariant_of-self : goal.invariant_of-self
invariant_of-self c =
    let whole : c.self.inside.declared.items ≡ c.pop.new.self.items ++ c.in-Some.last ∷ [] = c.pop.ensures.items ∙ ap (λ o. c.pop.new.self.items ++ option_to_list o) c.in-Some.is in
    let kept = subst (λ (l : List Declared). IsKept l c.self.inside.kinds) whole c.self.invariant in
    kept_less c.pop.new.self.items c.in-Some.last c.self.inside.kinds c.put_back.new.kinds kept c.in_ok-put_back.ensures.ok

pub invariant_of-self-in_err-put_back : goal.invariant_of-self-in_err-put_back
invariant_of-self-in_err-put_back c =
    let whole : c.self.inside.declared.items ≡ c.pop.new.self.items ++ c.in-Some.last ∷ [] = c.pop.ensures.items ∙ ap (λ o. c.pop.new.self.items ++ option_to_list o) c.in-Some.is in
    let kept = subst (λ (l : List Declared). IsKept l c.self.inside.kinds) whole c.self.invariant in
    absurd (kept_there c.pop.new.self.items c.in-Some.last c.self.inside.kinds c.put_back.new.kinds kept c.in_err-put_back.ensures.err)

pub returns-in_ok-put_back : goal.returns-in_ok-put_back
returns-in_ok-put_back c =
    let whole : c.self.inside.declared.items ≡ c.pop.new.self.items ++ c.in-Some.last ∷ [] = c.pop.ensures.items ∙ ap (λ o. c.pop.new.self.items ++ option_to_list o) c.in-Some.is in
    ap (λ (k : Known). drop 1 k) (sym (known-append c.pop.new.self.items c.in-Some.last) ∙ (ap known_in (sym whole) ∙ c.self.view_is))
