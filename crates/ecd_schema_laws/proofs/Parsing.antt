-- Tokens are read as a tree, or up to the first that is unexpected or the bracket that is one too many.
use Rattle.std.proofs.Common.{◌≡◌, ℕ, suc, ◌+◌, ◌<◌, ◌≤◌, ◌⊎◌, inl, inr, List, [], ◌∷◌, length, take, drop, Result, Ok, Err, refl, ap, sym, ◌∙◌, arith}
use Rattle.std.proofs.lemmas.Bool.{cases_lt}
use Rattle.std.proofs.Math.Seq.{drop-append_seam}
use Rattle.ecd_lex.specs.declared.token.Token.{Token}
use Rattle.ecd_syntax.specs.declared.tree.Rule.{Rule}
use Rattle.ecd_syntax.specs.declared.tree.Tree.{Tree}
use Rattle.ecd_syntax.specs.Marks.{Mark, marks}
use Rattle.ecd_syntax.specs.Grammar.{Spells}
use Rattle.ecd_syntax.specs.Reading.{Taken, Halted, Stuck, Deep, taken, stuck, rules_at, choice_at}
use Rattle.ecd_syntax.specs.Faults.{open_behind, open_after, StaysWithin, IsWithin, place_or, UnexpectedAt, TooNestedAt}
use Rattle.ecd_syntax.proofs.Schemas.{good_schema}
use Rattle.ecd_syntax.proofs.Verdicts.{tree_of}
use Rattle.ecd_parse.proofs.Counts.{open_le}
use Rattle.ecd_parse.proofs.Verdicts.{all_read, all_stuck, front_stuck, front_read, front_ends}
use Rattle.ecd_schema_laws.specs.Laws.{TokensAreParsed}
use Rattle.ecd_schema_laws.proofs.Levels.{never_deep, takes_all}

-- ---- brackets

-- a token at the number opens the 49th, where so many are open before
pub record OneTooMany (tokens : List Token) (opened : ℕ) : Type 0 where
  pub at : ℕ
  pub inside : at < length tokens
  pub within : StaysWithin (take at tokens) opened
  pub opens : open_after (take (at + 1) tokens) opened ≡ 49

counted : (tokens : List Token) (n : ℕ) → n ≤ 48 → StaysWithin tokens n ⊎ OneTooMany tokens n
counted [] n le = inl le
counted (t ∷ ts) n le = elim (cases_lt 48 (open_behind t.kind n)) [
  | inl many ↦ inr (record { at = 0; inside = omega arith; within = le; opens = let few = open_le t.kind n in omega arith })
  | inr few ↦ behind (counted ts (open_behind t.kind n) few)
]
  where
    behind : StaysWithin ts (open_behind t.kind n) ⊎ OneTooMany ts (open_behind t.kind n) → StaysWithin (t ∷ ts) n ⊎ OneTooMany (t ∷ ts) n
    behind (inl w) = inl (le, w)
    behind (inr m) =
        let next : suc m.at + 1 ≡ suc (m.at + 1) = omega arith in
        inr (record { at = suc m.at; inside = omega (arith, m.inside); within = (le, m.within); opens = ap (λ (i : ℕ). open_after (take i (t ∷ ts)) n) next ∙ m.opens })

-- ---- reading marks to an end

abbrev enough : List Mark → ℕ
enough ms = suc (length ms)

-- all are taken, or reading is stuck at the number
abbrev Ends : ℕ → List Mark → Type 0
Ends n ms = ((rules : List Rule) × (rules_at (choice_at n) ms ≡ taken rules [])) ⊎ ((at : ℕ) × (rules_at (choice_at n) ms ≡ stuck (drop at ms)))

ends : (n : ℕ) (ms : List Mark) → length ms < n → Ends n ms
ends n ms lt = by (rules_at (choice_at n) ms) refl
  where
    by : (o : Result (Taken (List Rule)) Halted) → rules_at (choice_at n) ms ≡ o → Ends n ms
    by (Ok x) e = inl (x.value, e ∙ ap (taken x.value) (takes_all n ms x.rest x.value e))
    by (Err (Stuck rest)) e =
        let s = (good_schema n).stops ms rest e in
        let left : drop (length s.front) ms ≡ rest = ap (drop (length s.front)) s.whole ∙ drop-append_seam s.front rest in
        inr (length s.front, e ∙ ap stuck (sym left))
    by (Err Deep) e = absurd (never_deep n ms lt e)

-- ---- what the tokens are

abbrev Parsed : List Token → ℕ → Type 0
Parsed tokens end = ((tree : Tree) × Spells tree tokens × IsWithin tokens) ⊎ (((place : ℕ) × UnexpectedAt tokens end place) ⊎ ((place : ℕ) × TooNestedAt tokens place))

all_within : (tokens : List Token) (end : ℕ) → IsWithin tokens → Ends (enough (marks tokens)) (marks tokens) → Parsed tokens end
all_within tokens end within (inl r) = let a = all_read (enough (marks tokens)) tokens r.0 within r.1 in inl (tree_of r.0, a.0, a.1)
all_within tokens end within (inr s) = inr (inl (place_or end (drop s.0 tokens), all_stuck (enough (marks tokens)) s.0 end (place_or end (drop s.0 tokens)) tokens within s.1 refl))

module _ (tokens : List Token) (end : ℕ) (m : OneTooMany tokens 0) where
  front : List Token
  front = take (m.at + 1) tokens

  at_bracket : ℕ
  at_bracket = place_or 0 (drop m.at tokens)

  up_to_bracket : Ends (enough (marks front)) (marks front) → Parsed tokens end
  unfolding front at_bracket
  up_to_bracket (inl r) = inr (inr (at_bracket, front_read (enough (marks front)) m.at tokens m.inside m.within m.opens r.0 front at_bracket refl r.1 refl))
  up_to_bracket (inr s) = elim (cases_lt m.at s.0) [
    | inl behind ↦ inr (inr (at_bracket, front_ends (enough (marks front)) m.at tokens m.inside m.within m.opens s.0 front at_bracket refl behind s.1 refl))
    | inr le ↦ inr (inl (place_or end (drop s.0 tokens), front_stuck (enough (marks front)) m.at tokens m.inside m.within m.opens s.0 end (place_or end (drop s.0 tokens)) front refl le s.1 refl))
  ]

  too_many : Parsed tokens end
  too_many = up_to_bracket (ends (enough (marks front)) (marks front) (omega arith))

pub tokens_are_parsed : TokensAreParsed
tokens_are_parsed tokens end = elim (counted tokens 0 (omega arith)) [
  | inl within ↦ all_within tokens end within (ends (enough (marks tokens)) (marks tokens) (omega arith))
  | inr m ↦ too_many tokens end m
]
