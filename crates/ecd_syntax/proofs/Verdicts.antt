-- What a reading of all marks says of the tokens.
use Rattle.std.proofs.Common.{◌≡◌, ℕ, zero, suc, ◌+◌, ◌<◌, ◌≤◌, ◌⊎◌, inl, inr, Bool, true, false, List, [], ◌∷◌, ◌++◌, length, take, drop, map, None, Err, refl, ap, sym, ◌∙◌, subst, arith, append_assoc}
use Rattle.std.specs.Prelude.{◌&&◌}
use Rattle.std.proofs.lemmas.Bool.{cases_order}
use Rattle.std.proofs.lemmas.List.{length-append, append-nil, append_cancel_right, take-append-drop}
use Rattle.ecd_lex.specs.declared.token.Token.{Token}
use Rattle.ecd_syntax.specs.declared.tree.Rule.{Rule}
use Rattle.ecd_syntax.specs.declared.tree.Tree.{Tree}
use Rattle.ecd_syntax.specs.Marks.{Mark, marks, mark_behind, marks_behind, six_after, is_six, is_open_paren}
use Rattle.ecd_syntax.specs.Grammar.{RulesSpelled, ChoiceWithin, Spells}
use Rattle.ecd_syntax.specs.Reading.{Deep, taken, stuck, rules_at, choice_at}
use Rattle.ecd_syntax.specs.Faults.{Completes, NoneGoesOn, IsUnexpected, open_behind, open_after, StaysWithin, IsWithin, place_or, UnexpectedAt, TooNestedAt}
use Rattle.ecd_reading.proofs.Readers.{ok_is}
use Rattle.ecd_syntax.proofs.Readers.{Plain}
use Rattle.ecd_syntax.proofs.Schemas.{good_schema}
use Rattle.ecd_syntax.proofs.Complete.{schema_is}
use Rattle.ecd_syntax.proofs.Grows.{schema_grows}

-- ---- marks of tokens

marks_append : (six : Bool) (xs ys : List Token) → marks_behind six (xs ++ ys) ≡ marks_behind six xs ++ marks_behind (six_after six xs) ys
marks_append six [] ys = refl
marks_append six (t ∷ xs) ys = ap (λ (ms : List Mark). mark_behind six t ∷ ms) (marks_append (is_six t.kind) xs ys)

-- tokens that have these marks
abbrev token_like : Mark → Token
token_like m = record { at = m.at; end = 0; glued = false; kind = m.kind }

no_tag : (six b : Bool) → (six && false && b) ≡ false
no_tag true b = refl
no_tag false b = refl

marks_like : (six : Bool) (ms : List Mark) → Plain ms → marks_behind six (map token_like ms) ≡ ms
marks_like six [] h = refl
marks_like six (m ∷ ms) h = rw (no_tag six (is_open_paren m.kind), marks_like (is_six m.kind) ms h.1, sym h.0.0) refl

-- ---- a spelling

abbrev pub tree_of : List Rule → Tree
tree_of rules = record { rules = rules }

deep_or : (n m : ℕ) → n < m → (k : ℕ) (rs : List Rule) (ms : List Mark) → RulesSpelled (ChoiceWithin n) rs ms → (rules_at (choice_at k) ms ≡ Err Deep) ⊎ (rules_at (choice_at k) ms ≡ taken rs [])
deep_or n m lt k rs ms h = elim (schema_grows k m ms) [ inl e ↦ inl e | inr e ↦ inr (e ∙ schema_is n (m + k) (omega arith) rs ms h) ]

-- what is spelled is read, unless it stands too deep
pub is_read : (k : ℕ) (tree : Tree) (tokens : List Token) → Spells tree tokens → (rules_at (choice_at k) (marks tokens) ≡ Err Deep) ⊎ (rules_at (choice_at k) (marks tokens) ≡ taken tree.rules [])
is_read k tree tokens h = deep_or h.levels (suc h.levels) (omega arith) k tree.rules (marks tokens) h.spelled

pub one_spelled : (a b : Tree) (tokens : List Token) → Spells a tokens → Spells b tokens → a ≡ b
one_spelled a b tokens g h =
    let n : ℕ = suc (g.levels + h.levels) in
    let x = schema_is g.levels n (omega arith) a.rules (marks tokens) g.spelled in
    let y = schema_is h.levels n (omega arith) b.rules (marks tokens) h.spelled in
    ap tree_of (ok_is a.rules b.rules [] [] (sym x ∙ y)).0

-- what is read is spelled
pub is_spelled : (k : ℕ) (rules : List Rule) (tokens : List Token) → rules_at (choice_at k) (marks tokens) ≡ taken rules [] → Spells (tree_of rules) tokens
is_spelled k rules tokens h =
    let r = (good_schema k).sound (marks tokens) [] rules h in
    record { levels = k; spelled = subst (RulesSpelled (ChoiceWithin k) rules) (sym (r.whole ∙ append-nil r.front)) r.spells }

-- ---- the first unexpected token

stuck_not_taken : (k : ℕ) (rs : List Rule) (ms rest : List Mark) → rules_at (choice_at k) ms ≡ stuck rest → rules_at (choice_at k) ms ≡ taken rs [] → ⊥
stuck_not_taken k rs ms rest h e = let g = sym h ∙ e in cc

stuck_not_deep : (k : ℕ) (ms rest : List Mark) → rules_at (choice_at k) ms ≡ stuck rest → rules_at (choice_at k) ms ≡ Err Deep → ⊥
stuck_not_deep k ms rest h e = let g = sym h ∙ e in cc

-- no schema is stuck
no_schema : (k : ℕ) (tree : Tree) (tokens : List Token) (rest : List Mark) → rules_at (choice_at k) (marks tokens) ≡ stuck rest → Spells tree tokens → ⊥
no_schema k tree tokens rest h s = elim (is_read k tree tokens s) [ inl e ↦ stuck_not_deep k (marks tokens) rest h e | inr e ↦ stuck_not_taken k tree.rules (marks tokens) rest h e ]

module _ (k : ℕ) (before rest : List Token) where
  abbrev left : List Mark
  left = marks_behind (six_after false before) rest

  split : marks (before ++ rest) ≡ marks before ++ left
  unfolding marks
  split = marks_append false before rest

  begins_schema : rules_at (choice_at k) (marks (before ++ rest)) ≡ stuck left → Completes before
  unfolding marks
  begins_schema h =
      let s = (good_schema k).stops (marks (before ++ rest)) left h in
      let front : s.front ≡ marks before = append_cancel_right s.front (marks before) left (sym s.whole ∙ split) in
      let more = map token_like s.more in
      let same : marks (before ++ more) ≡ s.front ++ s.more = marks_append false before more ∙ ap (λ (ms : List Mark). marks before ++ ms) (marks_like (six_after false before) s.more s.plain) ∙ ap (λ (ms : List Mark). ms ++ s.more) (sym front) in
      record { more = more; tree = tree_of s.value; spells = record { levels = k; spelled = subst (RulesSpelled (ChoiceWithin k) s.value) (sym same) s.spells } }

none_behind : (k : ℕ) (before rest : List Token) → rules_at (choice_at k) (marks (before ++ rest)) ≡ stuck (marks_behind (six_after false before) rest) → NoneGoesOn before rest
none_behind k before [] h = λ tree s. no_schema k tree before [] (ap (λ (ts : List Token). rules_at (choice_at k) (marks ts)) (sym (append-nil before)) ∙ h) s
none_behind k before (t ∷ rest) h = λ c. no_schema k c.tree ((before ++ t ∷ []) ++ c.more) (m ∷ marks_behind (is_six t.kind) c.more) (stuck_too c.more) c.spells
  where
    m : Mark
    m = mark_behind (six_after false before) t

    split_at : (more : List Token) → marks (before ++ t ∷ more) ≡ (marks before ++ m ∷ []) ++ marks_behind (is_six t.kind) more
    split_at more = split k before (t ∷ more) ∙ sym (append_assoc (marks before) (m ∷ []) (marks_behind (is_six t.kind) more))

    stuck_too : (more : List Token) → rules_at (choice_at k) (marks ((before ++ t ∷ []) ++ more)) ≡ stuck (m ∷ marks_behind (is_six t.kind) more)
    stuck_too more =
        let front = marks before ++ m ∷ [] in
        let first : rules_at (choice_at k) (front ++ marks_behind (is_six t.kind) rest) ≡ stuck ((m ∷ []) ++ marks_behind (is_six t.kind) rest) = ap (rules_at (choice_at k)) (sym (split_at rest)) ∙ h in
        let second = (good_schema k).local front (marks_behind (is_six t.kind) rest) (marks_behind (is_six t.kind) more) (m ∷ []) None (omega (arith, length-append (marks before) (m ∷ []))) (omega arith) first in
        ap (λ (ts : List Token). rules_at (choice_at k) (marks ts)) (append_assoc before (t ∷ []) more) ∙ ap (rules_at (choice_at k)) (split_at more) ∙ second

-- where reading is stuck, the first token that is left is unexpected
pub is_unexpected : (k : ℕ) (before rest : List Token) → rules_at (choice_at k) (marks (before ++ rest)) ≡ stuck (marks_behind (six_after false before) rest) → IsUnexpected (before ++ rest) before rest
is_unexpected k before rest h = record { whole = refl; begins = begins_schema k before rest h; ends = none_behind k before rest h }

drop_marks_behind : (six : Bool) (j : ℕ) (tokens : List Token) → drop j (marks_behind six tokens) ≡ marks_behind (six_after six (take j tokens)) (drop j tokens)
drop_marks_behind six zero tokens = refl
drop_marks_behind six (suc j) [] = refl
drop_marks_behind six (suc j) (t ∷ tokens) = drop_marks_behind (is_six t.kind) j tokens

-- the same by the number of tokens before it
pub unexpected_at : (k j : ℕ) (tokens : List Token) → rules_at (choice_at k) (marks tokens) ≡ stuck (drop j (marks tokens)) → IsUnexpected tokens (take j tokens) (drop j tokens)
unfolding marks
unexpected_at k j tokens h =
    let whole : take j tokens ++ drop j tokens ≡ tokens = take-append-drop j tokens in
    let stops : rules_at (choice_at k) (marks (take j tokens ++ drop j tokens)) ≡ stuck (marks_behind (six_after false (take j tokens)) (drop j tokens)) =
    ap (λ (ts : List Token). rules_at (choice_at k) (marks ts)) whole ∙ h ∙ ap stuck (drop_marks_behind false j tokens) in
    subst (λ (ts : List Token). IsUnexpected ts (take j tokens) (drop j tokens)) whole (is_unexpected k (take j tokens) (drop j tokens) stops)

-- ---- no two answers

-- of two fronts of one list the shorter begins the longer
prefix_of : (a b r s : List Token) → a ++ r ≡ b ++ s → length a ≤ length b → (mid : List Token) × (b ≡ a ++ mid) × (r ≡ mid ++ s)
prefix_of [] b r s e le = (b, refl, e)
prefix_of (x ∷ a) [] r s e le = absurd (omega arith)
prefix_of (x ∷ a) (y ∷ b) r s e le =
    let head : x ≡ y = cc in
    let tails : a ++ r ≡ b ++ s = cc in
    let p = prefix_of a b r s tails (omega arith) in
    (p.0, rw head (ap (λ (ts : List Token). y ∷ ts) p.1), p.2)

begins_front : (a b : List Token) → Completes (a ++ b) → Completes a
begins_front a b c = record { more = b ++ c.more; tree = c.tree; spells = subst (Spells c.tree) (append_assoc a b c.more) c.spells }

-- what goes on behind an unexpected token begins no schema
no_longer : (tokens before rest longer more : List Token) → IsUnexpected tokens before rest → tokens ≡ longer ++ more → Completes longer → length before < length longer → ⊥
no_longer tokens before rest longer more u e c lt = at_mid (prefix_of before longer rest more (sym u.whole ∙ e) (omega arith))
  where
    at_rest : (mid rest : List Token) → NoneGoesOn before rest → longer ≡ before ++ mid → rest ≡ mid ++ more → ⊥
    at_rest [] rest n f g = omega (arith, ap length f, length-append before [])
    at_rest (t ∷ mid) [] n f g = absurd cc
    at_rest (t ∷ mid) (s ∷ rest) n f g =
        let same : s ≡ t = cc in
        let whole : longer ≡ (before ++ t ∷ []) ++ mid = f ∙ sym (append_assoc before (t ∷ []) mid) in
        n (rw same (begins_front (before ++ t ∷ []) mid (subst Completes whole c)))

    at_mid : (mid : List Token) × (longer ≡ before ++ mid) × (rest ≡ mid ++ more) → ⊥
    at_mid p = at_rest p.0 rest u.ends p.1 p.2

pub unexpected_no_schema : (tree : Tree) (tokens before rest : List Token) → IsUnexpected tokens before rest → Spells tree tokens → ⊥
unexpected_no_schema tree tokens before [] u s = u.ends tree (subst (Spells tree) (u.whole ∙ append-nil before) s)
unexpected_no_schema tree tokens before (t ∷ rest) u s = u.ends (record { more = rest; tree = tree; spells = subst (Spells tree) (u.whole ∙ sym (append_assoc before (t ∷ []) rest)) s })

within_start : (tokens : List Token) (n : ℕ) → StaysWithin tokens n → n ≤ 48
within_start [] n h = h
within_start (t ∷ tokens) n h = h.0

within_front : (a b : List Token) (n : ℕ) → StaysWithin (a ++ b) n → open_after a n ≤ 48
within_front [] b n h = within_start b n h
within_front (t ∷ a) b n h = within_front a b (open_behind t.kind n) h.1

pub nested_not_within : (tokens : List Token) (place : ℕ) → TooNestedAt tokens place → IsWithin tokens → ⊥
nested_not_within tokens place h w =
    let whole : tokens ≡ (h.before ++ h.bracket ∷ []) ++ h.rest = h.whole ∙ sym (append_assoc h.before (h.bracket ∷ []) h.rest) in
    omega (arith, h.opens, within_front (h.before ++ h.bracket ∷ []) h.rest 0 (subst (λ (ts : List Token). StaysWithin ts 0) whole w))

order : (a b : ℕ) → (a < b) ⊎ ((b < a) ⊎ (a ≡ b))
order a b = elim (cases_order a b) [ inl e ↦ inr (inr e) | inr s ↦ elim s [ inl lt ↦ inl lt | inr gt ↦ inr (inl gt) ] ]

pub one_unexpected : (tokens : List Token) (end p q : ℕ) → UnexpectedAt tokens end p → UnexpectedAt tokens end q → p ≡ q
one_unexpected tokens end p q a b = elim (order (length a.before) (length b.before)) [
  | inl lt ↦ absurd (no_longer tokens a.before a.rest b.before b.rest a.unexpected b.unexpected.whole b.unexpected.begins lt)
  | inr s ↦ elim s [
    | inl lt ↦ absurd (no_longer tokens b.before b.rest a.before a.rest b.unexpected a.unexpected.whole a.unexpected.begins lt)
    | inr e ↦
        let m = prefix_of a.before b.before a.rest b.rest (sym a.unexpected.whole ∙ b.unexpected.whole) (omega arith) in
        a.stands ∙ ap (place_or end) (no_mid m.0 a.before b.before a.rest b.rest m.1 m.2 e) ∙ sym b.stands
  ]
]
  where
    no_mid : (mid x y r s : List Token) → y ≡ x ++ mid → r ≡ mid ++ s → length x ≡ length y → r ≡ s
    no_mid [] x y r s f g e = g
    no_mid (t ∷ mid) x y r s f g e = absurd (omega (arith, ap length f, length-append x (t ∷ mid)))

pub nested_not_unexpected : (tokens : List Token) (end p q : ℕ) → TooNestedAt tokens p → UnexpectedAt tokens end q → ⊥
nested_not_unexpected tokens end p q h u = elim (order (length u.before) (length through)) [
  | inl lt ↦ no_longer tokens u.before u.rest through h.rest u.unexpected whole h.begins lt
  | inr s ↦ too_many (elim s [ inl lt ↦ omega arith | inr e ↦ omega arith ])
]
  where
    through : List Token
    through = h.before ++ h.bracket ∷ []

    whole : tokens ≡ through ++ h.rest
    whole = h.whole ∙ sym (append_assoc h.before (h.bracket ∷ []) h.rest)

    too_many : length through ≤ length u.before → ⊥
    too_many le =
        let m = prefix_of through u.before h.rest u.rest (sym whole ∙ u.unexpected.whole) le in
        omega (arith, h.opens, within_front through m.0 0 (subst (λ (ts : List Token). StaysWithin ts 0) m.1 u.within))

pub one_nested : (tokens : List Token) (p q : ℕ) → TooNestedAt tokens p → TooNestedAt tokens q → p ≡ q
one_nested tokens p q a b = elim (order (length a.before) (length b.before)) [
  | inl lt ↦ absurd (too_early a b lt)
  | inr s ↦ elim s [
    | inl lt ↦ absurd (too_early b a lt)
    | inr e ↦ a.stands ∙ ap (λ (t : Token). t.at) (same_bracket (prefix_of a.before b.before (a.bracket ∷ a.rest) (b.bracket ∷ b.rest) (sym a.whole ∙ b.whole) (omega arith)) e) ∙ sym b.stands
  ]
]
  where
    too_early : {x y : ℕ} (c : TooNestedAt tokens x) (d : TooNestedAt tokens y) → length c.before < length d.before → ⊥
    too_early c d lt =
        let through = c.before ++ c.bracket ∷ [] in
        let whole : tokens ≡ through ++ c.rest = c.whole ∙ sym (append_assoc c.before (c.bracket ∷ []) c.rest) in
        let m = prefix_of through d.before c.rest (d.bracket ∷ d.rest) (sym whole ∙ d.whole) (omega (arith, length-append c.before (c.bracket ∷ []))) in
        omega (arith, c.opens, within_front through m.0 0 (subst (λ (ts : List Token). StaysWithin ts 0) m.1 d.within))

    same_bracket : (mid : List Token) × (b.before ≡ a.before ++ mid) × (a.bracket ∷ a.rest ≡ mid ++ (b.bracket ∷ b.rest)) → length a.before ≡ length b.before → a.bracket ≡ b.bracket
    same_bracket m e = no_mid m.0 m.1 m.2
      where
        no_mid : (mid : List Token) → b.before ≡ a.before ++ mid → a.bracket ∷ a.rest ≡ mid ++ (b.bracket ∷ b.rest) → a.bracket ≡ b.bracket
        no_mid [] f g = cc
        no_mid (t ∷ mid) f g = absurd (omega (arith, ap length f, length-append a.before (t ∷ mid)))
