-- What is scanned is a token, or the end of all.
use Rattle.std.proofs.Common.{◌≡◌, ℕ, ◌+◌, ◌-◌, ◌<◌, ◌≤◌, Bool, true, false, List, [], ◌∷◌, ◌++◌, length, take, drop, refl, ap, sym, ◌∙◌, subst, arith, one-add}
use Rattle.std.specs.List.{prefix_len}
use Rattle.std.proofs.lemmas.List.{length-drop, drop-drop, take-append-drop}
use Rattle.ecd_cast.specs.Lexemes.{IsLongest, is_blank}
use Rattle.ecd_cgrammar.specs.Faults.{begins_blank}
use Rattle.ecd_clex.specs.declared.token.Token.{Token}
use Rattle.ecd_clex.specs.Scan.{blanks_len, front_len, IsNext, IsLast}
use Rattle.ecd_clex.specs.Tokens.{lexeme_of, Stands, Lexed, Ends}
use Rattle.ecd_clex.proofs.Scanned.{run_passes, front_known, longest_front, no_front}

-- the blanks from a place on, and what is behind them
past_blanks : (text : List ℕ) (from to : ℕ) → to ≡ from + prefix_len is_blank (drop from text) → drop from text ≡ take (prefix_len is_blank (drop from text)) (drop from text) ++ drop to text
past_blanks text from to e =
    let rest : List ℕ = drop from text in
    let n : ℕ = prefix_len is_blank rest in
    sym (take-append-drop n rest) ∙ ap (λ (r : List ℕ). take n rest ++ r) (drop-drop n from text ∙ ap (λ (k : ℕ). drop k text) (sym e))

stands : (text : List ℕ) (from : ℕ) (t : Token) → IsNext text from t → Stands text from t
unfolding lexeme_of blanks_len
stands text from t s =
    let rest : List ℕ = drop from text in
    let front : List ℕ = drop t.at text in
    let n : ℕ = front_len front in
    let size : t.end - t.at ≡ n = omega (arith, s.ends) in
    let some : 0 < n = omega (arith, s.ends, s.some) in
    let fits : n ≤ length front = omega (arith, s.ends, s.within, length-drop t.at text) in
    let behind : drop n front ≡ drop t.end text = drop-drop n t.at text ∙ ap (λ (k : ℕ). drop k text) (sym s.ends) in
    record {
      blanks = take (prefix_len is_blank rest) rest;
      blank = run_passes is_blank rest;
      gap = past_blanks text from t.at s.begins;
      whole = sym (take-append-drop n front) ∙ ap (λ (k : ℕ). take k front ++ drop n front) (sym size) ∙ ap (λ (r : List ℕ). take (t.end - t.at) front ++ r) behind;
      known = rw size (front_known front some);
      longest = rw size (subst (IsLongest (take n front)) behind (longest_front front fits));
      within = s.within;
    }

run_stops : (xs : List ℕ) → begins_blank (drop (prefix_len is_blank xs) xs) ≡ false
run_stops [] = refl
run_stops (c ∷ cs) = by_test (is_blank c) refl (run_stops cs)
  where
    by_test : (b : Bool) → is_blank c ≡ b → begins_blank (drop (prefix_len is_blank cs) cs) ≡ false → begins_blank (drop (prefix_len is_blank (c ∷ cs)) (c ∷ cs)) ≡ false
    by_test true e h = rw (e, one-add (prefix_len is_blank cs)) h
    by_test false e h = rw e e

pub ends : (text : List ℕ) (from to : ℕ) → IsLast text from to → Ends text from to
unfolding blanks_len
ends text from to e =
    let rest : List ℕ = drop from text in
    let n : ℕ = prefix_len is_blank rest in
    record {
      blanks = take n rest;
      blank = run_passes is_blank rest;
      gap = past_blanks text from to e.gap;
      clear = subst (λ (r : List ℕ). begins_blank r ≡ false) (drop-drop n from text ∙ ap (λ (k : ℕ). drop k text) (sym e.gap)) (run_stops rest);
      none = no_front (drop to text) e.none;
      within = e.within;
    }

-- one token more
more : (text : List ℕ) (from : ℕ) (ts : List Token) (to : ℕ) (t : Token) → Lexed text from ts to → Stands text to t → Lexed text from (ts ++ t ∷ []) t.end
more text from [] to t h s = (subst (λ (k : ℕ). Stands text k t) (sym h) s, refl)
more text from (u ∷ ts) to t h s = (h.0, more text u.end ts to t h.1 s)

pub one_more : (text : List ℕ) (from : ℕ) (ts : List Token) (to : ℕ) (t : Token) → Lexed text from ts to → IsNext text to t → Lexed text from (ts ++ t ∷ []) t.end
one_more text from ts to t h s = more text from ts to t h (stands text to t s)
