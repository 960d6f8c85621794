-- The marks from a place on.
use Rattle.std.proofs.Common.{Bor, ltb, ◌≡◌, ℕ, zero, suc, ◌+◌, ◌-◌, ◌<◌, ◌≤◌, Bool, true, false, List, [], ◌∷◌, length, take, drop, get_or, Option, Some, None, refl, ap, sym, ◌∙◌, arith}
use Rattle.std.specs.Prelude.{slice_get, MatchOption, is_some, IfSome}
use Rattle.std.specs.Option.{option_copied}
use Rattle.std.proofs.lemmas.Option.{slice_get_past, slice_get-get_or}
use Rattle.std.proofs.lemmas.Bool.{ltb-true, ltb-false}
use Rattle.ecd_lex.specs.declared.token.Token.{Token}
use Rattle.ecd_syntax.specs.Marks.{Mark, marks, marks_behind, mark_behind, six_after, is_six, sign_of}
use Rattle.ecd_lex.specs.declared.token.Sign.TheVariants as signs
use Rattle.ecd_syntax.specs.Reading.{peek, colon_behind, is_more}
use Rattle.ecd_reading.proofs.Loops.{more_at}
use Rattle.ecd_parse.specs.Reads.{passed}

mark_at : (six : Bool) (at : ℕ) (tokens : List Token) (t : Token) → slice_get tokens at ≡ Some t → drop at (marks_behind six tokens) ≡ mark_behind (six_after six (take at tokens)) t ∷ drop (suc at) (marks_behind six tokens)
mark_at six zero [] t h = absurd cc
mark_at six zero (u ∷ tokens) t h = let e : u ≡ t = cc in ap (λ (v : Token). mark_behind six v ∷ marks_behind (is_six u.kind) tokens) e
mark_at six (suc at) [] t h = absurd cc
mark_at six (suc at) (u ∷ tokens) t h = mark_at (is_six u.kind) at tokens t h

no_mark : (six : Bool) (at : ℕ) (tokens : List Token) → slice_get tokens at ≡ None → drop at (marks_behind six tokens) ≡ []
no_mark six zero [] h = refl
no_mark six zero (u ∷ tokens) h = absurd cc
no_mark six (suc at) [] h = refl
no_mark six (suc at) (u ∷ tokens) h = no_mark (is_six u.kind) at tokens h

-- what an answer of get says of the marks
marks_at : (tokens : List Token) (at : ℕ) (o : Option Token) → o ≡ slice_get tokens at → MatchOption o (drop at (marks tokens) ≡ []) (λ t. drop at (marks tokens) ≡ mark_behind (six_after false (take at tokens)) t ∷ drop (at + 1) (marks tokens))
unfolding marks
marks_at tokens at None h = no_mark false at tokens (sym h)
marks_at tokens at (Some t) h = let e : at + 1 ≡ suc at = omega arith in rw e (mark_at false at tokens t (sym h))

six_at : (six : Bool) (n : ℕ) (tokens : List Token) (d : Token) → n < length tokens → six_after six (take (suc n) tokens) ≡ is_six (get_or tokens n d).kind
six_at six n [] d lt = absurd (omega arith)
six_at six zero (t ∷ tokens) d lt = refl
six_at six (suc n) (t ∷ tokens) d lt = six_at (is_six t.kind) n tokens d (omega arith)

-- the token before a place
pub six_before : (tokens : List Token) (at : ℕ) (d : Token) → 0 < at → at < length tokens → is_six (get_or tokens (at - 1) d).kind ≡ six_after false (take at tokens)
six_before tokens at d lt le = let e : at ≡ suc (at - 1) = omega arith in sym (six_at false (at - 1) tokens d (omega arith)) ∙ ap (λ (n : ℕ). six_after false (take n tokens)) (sym e)

pub marks_got : (tokens : List Token) (at : ℕ) (o : Option (Bor Token)) → is_some o ≡ ltb at (length tokens) → IfSome o (λ x. x.now ≡ get_or tokens at x.now)
    → MatchOption (option_copied o) (drop at (marks tokens) ≡ []) (λ t. drop at (marks tokens) ≡ mark_behind (six_after false (take at tokens)) t ∷ drop (at + 1) (marks tokens))
marks_got tokens at None e h = marks_at tokens at None (sym (slice_get_past tokens at (ltb-false at (length tokens) (sym e))))
marks_got tokens at (Some x) e h = marks_at tokens at (Some x.now) (ap Some h ∙ sym (slice_get-get_or tokens at x.now (ltb-true at (length tokens) (sym e))))

drop_suc : {A : Type 0} (n : ℕ) (ys : List A) → drop 1 (drop n ys) ≡ drop (suc n) ys
drop_suc zero ys = refl
drop_suc (suc n) [] = refl
drop_suc (suc n) (y ∷ ys) = drop_suc n ys

pub drop_one : {A : Type 0} (at : ℕ) (xs : List A) → drop 1 (drop at xs) ≡ drop (at + 1) xs
drop_one at xs = let e : at + 1 ≡ suc at = omega arith in rw e (drop_suc at xs)

pub length_marks : (tokens : List Token) → length (marks tokens) ≡ length tokens
unfolding marks
length_marks tokens = count false tokens
  where
    count : (six : Bool) (tokens : List Token) → length (marks_behind six tokens) ≡ length tokens
    count six [] = refl
    count six (t ∷ tokens) = ap suc (count (is_six t.kind) tokens)

pub is_passed : (ms : List Mark) (o : Option ℕ) → is_some (passed ms o) ≡ is_some o
is_passed ms None = refl
is_passed ms (Some n) = refl

-- whether a colon stands behind the first mark
pub colon_here : (ms : List Mark) (at : ℕ) (o : Option ℕ) → passed ms o ≡ peek (sign_of signs.Colon) (drop (at + 1) ms) → is_some o ≡ colon_behind (drop at ms)
colon_here ms at o h = sym (is_passed ms o) ∙ ap is_some h ∙ ap (λ (rest : List Mark). is_some (peek (sign_of signs.Colon) rest)) (sym (drop_one at ms))

none_of : (n : ℕ) (ms : List Mark) → length ms ≤ n → drop n ms ≡ []
none_of zero [] le = refl
none_of (suc n) [] le = refl
none_of zero (m ∷ ms) le = absurd (omega arith)
none_of (suc n) (m ∷ ms) le = none_of n ms (omega arith)

-- whether there is a mark from a place on
pub more_here : (tokens : List Token) (at : ℕ) → at < length tokens → is_more (drop at (marks tokens)) ≡ true
more_here tokens at lt = more_at at (marks tokens) (omega (arith, length_marks tokens))

pub rest_none : (tokens : List Token) (at : ℕ) → length tokens ≤ at → drop at (marks tokens) ≡ []
rest_none tokens at le = none_of at (marks tokens) (omega (arith, length_marks tokens))

pub none_here : (tokens : List Token) (at : ℕ) → length tokens ≤ at → is_more (drop at (marks tokens)) ≡ false
none_here tokens at le = ap is_more (rest_none tokens at le)
