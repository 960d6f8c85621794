use Rattle.std.proofs.Common.{◌≡◌, ◌+◌, ℕ, drop, ap, sym, ◌∙◌, subst}
use Rattle.ecd_clex.specs.Scan.{blanks_len}
use Rattle.ecd_clex.specs.Tokens.{Lexed, Ends}
use Rattle.ecd_clex.proofs.Standing.{one_more, ends}
use Rattle.ecd_clex.proofs.text.lex.Goals as goal

pub loop-token-preserved : goal.loop-token-preserved
loop-token-preserved c =
    let text = c.args.text.now in
    let more = one_more text c.args.from c.loop-token.tokens c.loop-token.at c.in-Some.token c.loop-token.invariant.0 c.in-Some.ensures.token in
    (subst (λ ts. Lexed text c.args.from ts c.in-Some.token.end) (sym c.in_ok-push.ensures.ok) more, c.in-Some.ensures.within)

pub returns : goal.returns
returns c =
    let text = c.args.text.now in
    let at : ℕ = c.loop-token.at in
    let same : at + blanks_len (drop at text) ≡ at + c.blanks_len.result = ap (λ (n : ℕ). at + n) (sym (c.blanks_len.ensures.value ∙ ap blanks_len c.behind.ensures)) in
    record { last = at; lexed = c.loop-token.invariant.0; ends = subst (Ends text at) same (ends text at (at + blanks_len (drop at text)) c.in_default.ensures.end) }
