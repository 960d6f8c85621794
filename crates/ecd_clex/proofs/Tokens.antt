-- The lexemes of tokens from a number on.
use Rattle.std.proofs.Common.{◌≡◌, ℕ, zero, suc, ◌+◌, ◌<◌, ◌≤◌, true, false, List, [], ◌∷◌, length, drop, get_or, map, Some, None, refl, ap, sym, ◌∙◌, arith}
use Rattle.std.specs.Prelude.{slice_get}
use Rattle.std.proofs.lemmas.Option.{slice_get_past, slice_get-get_or}
use Rattle.std.proofs.lemmas.List.{length-map}
use Rattle.ecd_cgrammar.specs.Reading.{is_more}
use Rattle.ecd_reading.proofs.Loops.{more_at}
use Rattle.ecd_clex.specs.declared.token.Token.{Token}
use Rattle.ecd_clex.specs.Tokens.{lexeme_of, lexemes}

module _ (text : List ℕ) where
  there : (at : ℕ) (tokens : List Token) (t : Token) → slice_get tokens at ≡ Some t → drop at (lexemes text tokens) ≡ lexeme_of text t ∷ drop (suc at) (lexemes text tokens)
  unfolding lexemes
  there zero [] t h = absurd cc
  there zero (u ∷ tokens) t h = let e : u ≡ t = cc in ap (λ (v : Token). lexeme_of text v ∷ map (lexeme_of text) tokens) e
  there (suc at) [] t h = absurd cc
  there (suc at) (u ∷ tokens) t h = there at tokens t h

  not_there : (at : ℕ) (tokens : List Token) → slice_get tokens at ≡ None → drop at (lexemes text tokens) ≡ []
  unfolding lexemes
  not_there zero [] h = refl
  not_there zero (u ∷ tokens) h = absurd cc
  not_there (suc at) [] h = refl
  not_there (suc at) (u ∷ tokens) h = not_there at tokens h

  -- what an answer of get says of the lexemes
  pub got : (tokens : List Token) (at : ℕ) (t : Token) → at < length tokens → t ≡ get_or tokens at t → drop at (lexemes text tokens) ≡ lexeme_of text t ∷ drop (at + 1) (lexemes text tokens)
  got tokens at t lt e =
      let h : at + 1 ≡ suc at = omega arith in
      rw h (there at tokens t (slice_get-get_or tokens at t lt ∙ ap Some (sym e)))

  pub got_none : (tokens : List Token) (at : ℕ) → length tokens ≤ at → drop at (lexemes text tokens) ≡ []
  got_none tokens at le = not_there at tokens (slice_get_past tokens at le)

  pub length_lexemes : (tokens : List Token) → length (lexemes text tokens) ≡ length tokens
  unfolding lexemes
  length_lexemes tokens = length-map tokens (lexeme_of text)

  -- whether there is a lexeme from a number on
  pub more_here : (tokens : List Token) (at : ℕ) → at < length tokens → is_more (drop at (lexemes text tokens)) ≡ true
  more_here tokens at lt = more_at at (lexemes text tokens) (omega (arith, length_lexemes tokens))

  pub rest_none : (tokens : List Token) (at : ℕ) → length tokens ≤ at → drop at (lexemes text tokens) ≡ []
  rest_none tokens at le = got_none tokens at le

  pub none_here : (tokens : List Token) (at : ℕ) → length tokens ≤ at → is_more (drop at (lexemes text tokens)) ≡ false
  none_here tokens at le = ap is_more (got_none tokens at le)
