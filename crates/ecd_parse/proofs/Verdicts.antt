-- What a reading of all tokens, or of those up to a bracket, says of the answer.
use Rattle.std.proofs.Common.{◌≡◌, ℕ, zero, suc, ◌+◌, ◌<◌, ◌≤◌, inl, inr, List, [], ◌∷◌, ◌++◌, length, take, drop, get_or, Result, Ok, Err, refl, ap, sym, ◌∙◌, subst, arith}
use Rattle.std.proofs.lemmas.List.{take_more, take-append-drop, append-nil, length-take}
use Rattle.ecd_lex.specs.declared.token.Token.{Token}
use Rattle.ecd_syntax.specs.declared.tree.Rule.{Rule}
use Rattle.ecd_syntax.specs.declared.tree.Tree.{Tree}
use Rattle.ecd_syntax.specs.Marks.{marks}
use Rattle.ecd_syntax.specs.Grammar.{Spells}
use Rattle.ecd_syntax.specs.Reading.{taken, stuck, rules_at, choice_at}
use Rattle.ecd_syntax.specs.Faults.{Completes, NoneGoesOn, IsUnexpected, open_after, StaysWithin, IsWithin, place_or, UnexpectedAt, TooNestedAt}
use Rattle.ecd_syntax.proofs.Verdicts.{tree_of, is_spelled, unexpected_at, one_spelled, one_unexpected, one_nested, unexpected_no_schema, nested_not_within, nested_not_unexpected}
use Rattle.ecd_parse.specs.declared.fault.ParseFault.{ParseFault}
use Rattle.ecd_parse.specs.declared.fault.ParseFault.TheVariants as faults
use Rattle.ecd_parse.specs.Answers.{Answers, Is}
use Rattle.ecd_parse.proofs.Counts.{within_take}

-- ---- with no bracket too many

pub all_read : (k : ℕ) (tokens : List Token) (rules : List Rule) → IsWithin tokens → rules_at (choice_at k) (marks tokens) ≡ taken rules [] → Spells (tree_of rules) tokens × IsWithin tokens
all_read k tokens rules w h = (is_spelled k rules tokens h, w)

pub all_stuck : (k at end place : ℕ) (tokens : List Token) → IsWithin tokens → rules_at (choice_at k) (marks tokens) ≡ stuck (drop at (marks tokens)) → place ≡ place_or end (drop at tokens) → UnexpectedAt tokens end place
all_stuck k at end place tokens w h e = record { before = take at tokens; rest = drop at tokens; unexpected = unexpected_at k at tokens h; within = within_take tokens 0 at w; stands = e }

-- ---- up to a bracket that is one too many

take_take : {A : Type 0} (n m : ℕ) (xs : List A) → n ≤ m → take n (take m xs) ≡ take n xs
take_take zero m xs le = refl
take_take (suc n) zero xs le = absurd (omega arith)
take_take (suc n) (suc m) [] le = refl
take_take (suc n) (suc m) (x ∷ xs) le = ap (λ (ys : List _). x ∷ ys) (take_take n m xs (omega arith))

drop_take : {A : Type 0} (n m : ℕ) (xs : List A) → n < m → n < length xs → (x : A) × (ys zs : List A) × (drop n (take m xs) ≡ x ∷ ys) × (drop n xs ≡ x ∷ zs)
drop_take n zero xs lt le = absurd (omega arith)
drop_take n (suc m) [] lt le = absurd (omega arith)
drop_take zero (suc m) (x ∷ xs) lt le = (x, take m xs, xs, refl, refl)
drop_take (suc n) (suc m) (x ∷ xs) lt le = drop_take n m xs (omega arith) (omega arith)

-- what is unexpected in a front is so in the whole
unexpected_front : (tokens front : List Token) (at n : ℕ) → front ≡ take n tokens → at < n → at < length tokens → IsUnexpected front (take at front) (drop at front) → IsUnexpected tokens (take at tokens) (drop at tokens)
unexpected_front tokens front at n e lt le u =
    let d = drop_take at n tokens lt le in
    let before : take at front ≡ take at tokens = ap (take at) e ∙ take_take at n tokens (omega arith) in
    let first : drop at front ≡ d.0 ∷ d.1 = ap (drop at) e ∙ d.3 in
    record {
      whole = sym (take-append-drop at tokens);
      begins = subst Completes before u.begins;
      ends = rw d.4 (subst (λ (ts : List Token). NoneGoesOn ts (d.0 ∷ d.1)) before (subst (NoneGoesOn (take at front)) first u.ends));
    }

module _ (k bracket : ℕ) (tokens : List Token) (within : bracket < length tokens) (before : StaysWithin (take bracket tokens) 0) (opens : open_after (take (bracket + 1) tokens) 0 ≡ 49) where
  pub front_stuck : (at end place : ℕ) (front : List Token) → front ≡ take (bracket + 1) tokens → at ≤ bracket → rules_at (choice_at k) (marks front) ≡ stuck (drop at (marks front)) → place ≡ place_or end (drop at tokens) → UnexpectedAt tokens end place
  front_stuck at end place front e le h i = record {
    before = take at tokens;
    rest = drop at tokens;
    unexpected = unexpected_front tokens front at (bracket + 1) e (omega arith) (omega arith) (unexpected_at k at front h);
    within = subst (λ (ts : List Token). StaysWithin ts 0) (take_take at bracket tokens le) (within_take (take bracket tokens) 0 at before);
    stands = i;
  }

  bracket_at : (d : Token) → drop bracket tokens ≡ get_or tokens bracket d ∷ drop (bracket + 1) tokens
  bracket_at d = at_bracket bracket tokens within
    where
      at_bracket : (n : ℕ) (ts : List Token) → n < length ts → drop n ts ≡ get_or ts n d ∷ drop (n + 1) ts
      at_bracket n [] lt = absurd (omega arith)
      at_bracket zero (t ∷ ts) lt = refl
      at_bracket (suc n) (t ∷ ts) lt = let e : suc n + 1 ≡ suc (n + 1) = omega arith in rw e (at_bracket n ts (omega arith))

  nested : (d : Token) → Completes (take (bracket + 1) tokens) → TooNestedAt tokens (get_or tokens bracket d).at
  nested d c =
      let through : take (bracket + 1) tokens ≡ take bracket tokens ++ get_or tokens bracket d ∷ [] = take_more tokens bracket d within in
      record {
        before = take bracket tokens;
        bracket = get_or tokens bracket d;
        rest = drop (bracket + 1) tokens;
        whole = sym (take-append-drop bracket tokens) ∙ ap (λ (ts : List Token). take bracket tokens ++ ts) (bracket_at d);
        begins = subst Completes through c;
        within = before;
        opens = ap (λ (ts : List Token). open_after ts 0) (sym through) ∙ opens;
        stands = refl;
      }

  nested_at : (place : ℕ) → Completes (take (bracket + 1) tokens) → place ≡ place_or 0 (drop bracket tokens) → TooNestedAt tokens place
  nested_at place c e = with_token (drop bracket tokens) refl e
    where
      with_token : (ts : List Token) → drop bracket tokens ≡ ts → place ≡ place_or 0 ts → TooNestedAt tokens place
      with_token [] f g = absurd (no_token bracket tokens within f)
        where
          no_token : (n : ℕ) (ts : List Token) → n < length ts → drop n ts ≡ [] → ⊥
          no_token n [] lt h = omega arith
          no_token zero (t ∷ ts) lt h = cc
          no_token (suc n) (t ∷ ts) lt h = no_token n ts (omega arith) h
      with_token (t ∷ ts) f g =
          let same : get_or tokens bracket t ≡ t = first_is (sym (bracket_at t) ∙ f) in
          subst (TooNestedAt tokens) (ap (λ (u : Token). u.at) same ∙ sym g) (nested t c)
        where
          first_is : get_or tokens bracket t ∷ drop (bracket + 1) tokens ≡ t ∷ ts → get_or tokens bracket t ≡ t
          first_is h = cc

  -- what is read up to the bracket goes on
  pub front_read : (rules : List Rule) (front : List Token) (place : ℕ) → front ≡ take (bracket + 1) tokens → rules_at (choice_at k) (marks front) ≡ taken rules [] → place ≡ place_or 0 (drop bracket tokens) → TooNestedAt tokens place
  front_read rules front place e h i =
      nested_at place (subst Completes e (record { more = []; tree = tree_of rules; spells = subst (Spells (tree_of rules)) (sym (append-nil front)) (is_spelled k rules front h) })) i

  pub front_ends : (at : ℕ) (front : List Token) (place : ℕ) → front ≡ take (bracket + 1) tokens → bracket < at → rules_at (choice_at k) (marks front) ≡ stuck (drop at (marks front)) → place ≡ place_or 0 (drop bracket tokens) → TooNestedAt tokens place
  front_ends at front place e lt h i =
      let short : length front ≤ at = omega (arith, ap length e, length-take (bracket + 1) tokens) in
      nested_at place (subst Completes (all_taken at front short ∙ e) (unexpected_at k at front h).begins) i
    where
      all_taken : (n : ℕ) (ts : List Token) → length ts ≤ n → take n ts ≡ ts
      all_taken zero [] le = refl
      all_taken (suc n) [] le = refl
      all_taken zero (t ∷ ts) le = absurd (omega arith)
      all_taken (suc n) (t ∷ ts) le = ap (λ (us : List Token). t ∷ us) (all_taken n ts (omega arith))

-- ---- no other answer

abbrev unexpected_at_place : ℕ → Result Tree ParseFault
unexpected_at_place place = Err (faults.Unexpected place)

abbrev nested_at_place : ℕ → Result Tree ParseFault
nested_at_place place = Err (faults.TooNested place)

pub only_tree : (tokens : List Token) (end : ℕ) (result : Result Tree ParseFault) → Answers tokens end result → (tree : Tree) → Spells tree tokens → IsWithin tokens → Is result (Ok tree)
only_tree tokens end (Ok other) h tree s w = inl (ap (λ (t : Tree). Ok t) (one_spelled other tree tokens h.0 s))
only_tree tokens end (Err (faults.Unexpected place)) h tree s w = absurd (unexpected_no_schema tree tokens h.before h.rest h.unexpected s)
only_tree tokens end (Err (faults.TooNested place)) h tree s w = absurd (nested_not_within tokens place h w)
only_tree tokens end (Err faults.OutOfMemory) h tree s w = inr refl

pub only_unexpected : (tokens : List Token) (end : ℕ) (result : Result Tree ParseFault) → Answers tokens end result → (place : ℕ) → UnexpectedAt tokens end place → Is result (unexpected_at_place place)
only_unexpected tokens end (Ok other) h place u = absurd (unexpected_no_schema other tokens u.before u.rest u.unexpected h.0)
only_unexpected tokens end (Err (faults.Unexpected other)) h place u = inl (ap unexpected_at_place (one_unexpected tokens end other place h u))
only_unexpected tokens end (Err (faults.TooNested other)) h place u = absurd (nested_not_unexpected tokens end other place h u)
only_unexpected tokens end (Err faults.OutOfMemory) h place u = inr refl

pub only_nested : (tokens : List Token) (end : ℕ) (result : Result Tree ParseFault) → Answers tokens end result → (place : ℕ) → TooNestedAt tokens place → Is result (nested_at_place place)
only_nested tokens end (Ok other) h place n = absurd (nested_not_within tokens place n h.1)
only_nested tokens end (Err (faults.Unexpected other)) h place n = absurd (nested_not_unexpected tokens end place other n h)
only_nested tokens end (Err (faults.TooNested other)) h place n = inl (ap nested_at_place (one_nested tokens other place h n))
only_nested tokens end (Err faults.OutOfMemory) h place n = inr refl
