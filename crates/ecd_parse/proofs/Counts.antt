-- Counting open brackets, one token after the other.
use Rattle.std.proofs.Common.{◌≡◌, ℕ, zero, suc, ◌+◌, ◌<◌, ◌≤◌, List, [], ◌∷◌, ◌++◌, length, take, get_or, refl, ap, sym, ◌∙◌, subst, arith}
use Rattle.std.proofs.lemmas.List.{take_more}
use Rattle.ecd_lex.specs.declared.token.Token.{Token}
use Rattle.ecd_lex.specs.declared.token.TokenKind.{TokenKind}
use Rattle.ecd_lex.specs.declared.token.TokenKind.TheVariants as kinds
use Rattle.ecd_lex.specs.declared.token.Sign.TheVariants as signs
use Rattle.ecd_syntax.specs.Faults.{open_behind, open_after, StaysWithin}

after_append : (a b : List Token) (n : ℕ) → open_after (a ++ b) n ≡ open_after b (open_after a n)
after_append [] b n = refl
after_append (t ∷ a) b n = after_append a b (open_behind t.kind n)

within_append : (a b : List Token) (n : ℕ) → StaysWithin a n → StaysWithin b (open_after a n) → StaysWithin (a ++ b) n
within_append [] b n h g = g
within_append (t ∷ a) b n h g = (h.0, within_append a b (open_behind t.kind n) h.1 g)

-- one token more
pub one_opened : (tokens : List Token) (at : ℕ) (d : Token) → at < length tokens → open_after (take (at + 1) tokens) 0 ≡ open_behind (get_or tokens at d).kind (open_after (take at tokens) 0)
one_opened tokens at d lt = ap (λ (ts : List Token). open_after ts 0) (take_more tokens at d lt) ∙ after_append (take at tokens) (get_or tokens at d ∷ []) 0

pub one_within : (tokens : List Token) (at n : ℕ) (d : Token) → at < length tokens → StaysWithin (take at tokens) 0 → n ≡ open_after (take at tokens) 0 → n ≤ 48 → open_behind (get_or tokens at d).kind n ≤ 48 → StaysWithin (take (at + 1) tokens) 0
one_within tokens at n d lt h e few le =
    subst (λ (ts : List Token). StaysWithin ts 0) (sym (take_more tokens at d lt))
    (within_append (take at tokens) (get_or tokens at d ∷ []) 0 h (subst (λ (k : ℕ). (k ≤ 48) × (open_behind (get_or tokens at d).kind k ≤ 48)) e (few, le)))

within_start : (tokens : List Token) (n : ℕ) → StaysWithin tokens n → n ≤ 48
within_start [] n h = h
within_start (t ∷ tokens) n h = h.0

-- fewer tokens stay within as well
pub within_take : (tokens : List Token) (n k : ℕ) → StaysWithin tokens n → StaysWithin (take k tokens) n
within_take tokens n zero h = within_start tokens n h
within_take [] n (suc k) h = h
within_take (t ∷ tokens) n (suc k) h = (h.0, within_take tokens (open_behind t.kind n) k h.1)

-- one token opens no more than one bracket
pub open_le : (kind : TokenKind) (n : ℕ) → open_behind kind n ≤ n + 1
open_le (kinds.Sign signs.OpenParen) n = omega arith
open_le (kinds.Sign signs.OpenBracket) n = omega arith
open_le (kinds.Sign signs.OpenBrace) n = omega arith
open_le (kinds.Sign signs.CloseParen) n = omega arith
open_le (kinds.Sign signs.CloseBracket) n = omega arith
open_le (kinds.Sign signs.CloseBrace) n = omega arith
open_le _ n = omega arith
