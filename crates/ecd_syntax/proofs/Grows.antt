-- A reader that may go deeper reads the same, unless it stood too deep.
use Rattle.std.proofs.Common.{◌≡◌, ℕ, zero, suc, ◌+◌, ◌⊎◌, inl, inr, Bool, true, false, cond, List, [], ◌∷◌, length, Option, Some, None, Result, Ok, Err, refl, ap, arith}
use Rattle.ecd_lex.specs.declared.token.Bound.{Bound}
use Rattle.ecd_lex.specs.declared.token.Sign.{Sign}
use Rattle.ecd_lex.specs.declared.token.Sign.TheVariants as signs
use Rattle.ecd_syntax.specs.declared.tree.Alts.{Alts}
use Rattle.ecd_syntax.specs.declared.tree.Assign.{Assign}
use Rattle.ecd_syntax.specs.declared.tree.Assign.TheVariants.{Define, TypeMore, GroupMore}
use Rattle.ecd_syntax.specs.declared.tree.Entry.{Entry}
use Rattle.ecd_syntax.specs.declared.tree.Form.{Form}
use Rattle.ecd_syntax.specs.declared.tree.Form.TheVariants.{Lit, Named, Paren, MapOf, ArrayOf, Unwrap, Enum, EnumName, Tagged, Hash}
use Rattle.ecd_syntax.specs.declared.tree.Key.{Key}
use Rattle.ecd_syntax.specs.declared.tree.Key.TheVariants as keys
use Rattle.ecd_syntax.specs.declared.tree.Name.{Name}
use Rattle.ecd_syntax.specs.declared.tree.Rule.{Rule}
use Rattle.ecd_syntax.specs.declared.tree.Type1.{Type1}
use Rattle.ecd_syntax.specs.declared.tree.WayTree.{WayTree}
use Rattle.ecd_syntax.specs.Marks.{Mark, place, name_of, literal_of, hash_of, operator_of, assign_of, sign_of, tag_of}
use Rattle.ecd_syntax.specs.Reading.{Taken, Halted, Deep, Reader, ◌>>=◌, taken, stuck, peek, choose, on, token, begins, behind, many, each, more_listed, listed, angled, made, type_at, alts_of, occur_at, colon_behind, body_behind, behind_choice, open_body, colon_body, keyed_body, body_at, entry_at, skip_comma, entry_in_way, goes_on, ways_at, group_at, name_and_args, six_major, tag_at, behind_hash, bracket_at, behind_ampersand, prefixed_at, form_at, operand_at, operation_at, choice_layer, choice_at, assigned, rule_at, is_more, rules_at, operand_of, operation_of, choice_of, way_of, group_of, entry_of, rule_of}
use Rattle.ecd_reading.specs.Reading.{after}

abbrev deep : {A : Type 0} → Result (Taken A) Halted
deep = Err Deep

pub record Grows {A : Type 0} (p q : List Mark → Result (Taken A) Halted) : Type 0 where
  pub at : (ms : List Mark) → (p ms ≡ deep) ⊎ (p ms ≡ q ms)

same : {A : Type 0} (p : Reader A) → Grows p p
same p = record { at = λ ms. inr refl }

after_grows : {A B : Type 0} (p p' : Reader A) (q q' : A → Reader B) → Grows p p' → ((x : A) → Grows (q x) (q' x)) → Grows (after p q) (after p' q')
after_grows {A} {B} p p' q q' g h = record { at = λ ms. elim (g.at ms) [ inl e ↦ inl (ap (λ (o : Result (Taken A) Halted). o >>= λ x. q x.value x.rest) e) | inr e ↦ rw e (at_result (p' ms)) ] }
  where
    at_result : (o : Result (Taken A) Halted) → ((o >>= λ x. q x.value x.rest) ≡ deep) ⊎ ((o >>= λ x. q x.value x.rest) ≡ (o >>= λ x. q' x.value x.rest))
    at_result (Err z) = inr refl
    at_result (Ok x) = (h x.value).at x.rest

made_grows : {A B : Type 0} (f : A → B) (p p' : Reader A) → Grows p p' → Grows (made f p) (made f p')
made_grows f p p' g = after_grows p p' (λ x. taken (f x)) (λ x. taken (f x)) g (λ x. same (taken (f x)))

on_grows : {A B : Type 0} (table : Mark → Option A) (p p' : A → Reader B) (q q' : Reader B) → ((x : A) → Grows (p x) (p' x)) → Grows q q' → Grows (on table p q) (on table p' q')
on_grows {A} {B} table p p' q q' g h = record { at = λ ms. at_peek (peek table ms) ms }
  where
    at_peek : (o : Option (Taken A)) (ms : List Mark) → (choose o p q ms ≡ deep) ⊎ (choose o p q ms ≡ choose o p' q' ms)
    at_peek None ms = h.at ms
    at_peek (Some t) ms = (g t.value).at t.rest

if_grows : {A : Type 0} (test : List Mark → Bool) (p p' q q' : Reader A) → Grows p p' → Grows q q' → Grows (λ ms. cond (test ms) (p ms) (q ms)) (λ ms. cond (test ms) (p' ms) (q' ms))
if_grows {A} test p p' q q' g h = record { at = λ ms. at_test (test ms) ms }
  where
    at_test : (b : Bool) (ms : List Mark) → (cond b (p ms) (q ms) ≡ deep) ⊎ (cond b (p ms) (q ms) ≡ cond b (p' ms) (q' ms))
    at_test true ms = g.at ms
    at_test false ms = h.at ms

placed_grows : {A : Type 0} (p p' : ℕ → Reader A) → ((at : ℕ) → Grows (p at) (p' at)) → Grows (λ ms. p (place ms) ms) (λ ms. p' (place ms) ms)
placed_grows p p' g = record { at = λ ms. (g (place ms)).at ms }

many_grows : {A : Type 0} (test : List Mark → Bool) (p p' : Reader A) → Grows p p' → (n : ℕ) → Grows (many test p (taken []) n) (many test p' (taken []) n)
unfolding many
many_grows test p p' g zero = same (taken [])
many_grows test p p' g (suc n) =
    if_grows test (after p (λ x. after (many test p (taken []) n) (λ xs. taken (x ∷ xs)))) (after p' (λ x. after (many test p' (taken []) n) (λ xs. taken (x ∷ xs)))) (taken []) (taken [])
    (after_grows p p' (λ x. after (many test p (taken []) n) (λ xs. taken (x ∷ xs))) (λ x. after (many test p' (taken []) n) (λ xs. taken (x ∷ xs))) g
    (λ x. after_grows (many test p (taken []) n) (many test p' (taken []) n) (λ xs. taken (x ∷ xs)) (λ xs. taken (x ∷ xs)) (many_grows test p p' g n) (λ xs. same (taken (x ∷ xs)))))
    (same (taken []))

each_grows : {A : Type 0} (test : List Mark → Bool) (p p' : Reader A) → Grows p p' → Grows (each test p) (each test p')
each_grows test p p' g = record { at = λ ms. (many_grows test p p' g (suc (length ms))).at ms }

behind_grows : {A B : Type 0} (table : Mark → Option A) (p p' : Reader B) → Grows p p' → Grows (behind table p) (behind table p')
behind_grows table p p' g = after_grows (token table) (token table) (λ _. p) (λ _. p') (same (token table)) (λ _. g)

module _ {A : Type 0} (p p' : Reader A) (g : Grows p p') where
  more_listed_grows : (sign : Sign) (x : A) → Grows (more_listed sign p x) (more_listed sign p' x)
  more_listed_grows sign x = made_grows (λ xs. x ∷ xs) (each (begins (sign_of sign)) (behind (sign_of sign) p)) (each (begins (sign_of sign)) (behind (sign_of sign) p')) (each_grows (begins (sign_of sign)) (behind (sign_of sign) p) (behind (sign_of sign) p') (behind_grows (sign_of sign) p p' g))

  listed_grows : (sign : Sign) → Grows (listed sign p) (listed sign p')
  listed_grows sign = after_grows p p' (λ x. more_listed sign p x) (λ x. more_listed sign p' x) g (λ x. more_listed_grows sign x)

  angled_grows : Grows (angled p) (angled p')
  unfolding angled
  angled_grows = on_grows (sign_of signs.Less) (λ _. after (listed signs.Comma p) (λ xs. after (token (sign_of signs.Greater)) (λ _. taken xs))) (λ _. after (listed signs.Comma p') (λ xs. after (token (sign_of signs.Greater)) (λ _. taken xs))) (taken []) (taken [])
      (λ _. after_grows (listed signs.Comma p) (listed signs.Comma p') (λ xs. after (token (sign_of signs.Greater)) (λ _. taken xs)) (λ xs. after (token (sign_of signs.Greater)) (λ _. taken xs)) (listed_grows signs.Comma) (λ xs. same (after (token (sign_of signs.Greater)) (λ _. taken xs))))
      (same (taken []))

module _ (p p' : Reader Type1) (g : Grows p p') where
  type_grows : Grows (type_at p) (type_at p')
  unfolding type_at
  type_grows = placed_grows (λ at. made (alts_of at) (listed signs.Slash p)) (λ at. made (alts_of at) (listed signs.Slash p')) (λ at. made_grows (alts_of at) (listed signs.Slash p) (listed signs.Slash p') (listed_grows p p' g signs.Slash))

  behind_key_grows : (key : Key) → Grows (body_behind p key) (body_behind p' key)
  behind_key_grows key = made_grows (λ t. (key, t)) (type_at p) (type_at p') type_grows

  abbrev keyless : Reader Type1 → ℕ → Type1 → Reader (Key × Alts)
  keyless one at x = after (more_listed signs.Slash one x) (λ xs. taken (keys.Missing, alts_of at xs))

  abbrev behind_arrow : Reader Type1 → ℕ → Type1 → Reader (Key × Alts)
  behind_arrow one at x = on (sign_of signs.Arrow) (λ _. body_behind one (keys.Arrow x false)) (keyless one at x)

  behind_choice_grows : (at : ℕ) (x : Type1) → Grows (behind_choice p at x) (behind_choice p' at x)
  unfolding behind_choice
  behind_choice_grows at x =
      on_grows (sign_of signs.Caret) (λ _. after (token (sign_of signs.Arrow)) (λ _. body_behind p (keys.Arrow x true))) (λ _. after (token (sign_of signs.Arrow)) (λ _. body_behind p' (keys.Arrow x true))) (behind_arrow p at x) (behind_arrow p' at x)
      (λ _. after_grows (token (sign_of signs.Arrow)) (token (sign_of signs.Arrow)) (λ _. body_behind p (keys.Arrow x true)) (λ _. body_behind p' (keys.Arrow x true)) (same (token (sign_of signs.Arrow))) (λ _. behind_key_grows (keys.Arrow x true)))
      (on_grows (sign_of signs.Arrow) (λ _. body_behind p (keys.Arrow x false)) (λ _. body_behind p' (keys.Arrow x false)) (keyless p at x) (keyless p' at x) (λ _. behind_key_grows (keys.Arrow x false))
      (made_grows (λ xs. (keys.Missing, alts_of at xs)) (more_listed signs.Slash p x) (more_listed signs.Slash p' x) (more_listed_grows p p' g signs.Slash x)))

  open_grows : Grows (open_body p) (open_body p')
  unfolding open_body
  open_grows = placed_grows (λ at. after p (λ x. behind_choice p at x)) (λ at. after p' (λ x. behind_choice p' at x)) (λ at. after_grows p p' (λ x. behind_choice p at x) (λ x. behind_choice p' at x) g (λ x. behind_choice_grows at x))

  colon_grows : (key : Key) → Grows (colon_body p key) (colon_body p' key)
  colon_grows key = after_grows (token (sign_of signs.Colon)) (token (sign_of signs.Colon)) (λ _. body_behind p key) (λ _. body_behind p' key) (same (token (sign_of signs.Colon))) (λ _. behind_key_grows key)

  abbrev literal_body : Reader Type1 → ℕ → Reader (Key × Alts)
  literal_body one at = on literal_of (λ l. colon_body one (keys.Lit at l)) (open_body one)

  keyed_grows : Grows (keyed_body p) (keyed_body p')
  unfolding keyed_body
  keyed_grows = placed_grows (λ at. on name_of (λ n. colon_body p (keys.Word n)) (literal_body p at)) (λ at. on name_of (λ n. colon_body p' (keys.Word n)) (literal_body p' at))
      (λ at. on_grows name_of (λ n. colon_body p (keys.Word n)) (λ n. colon_body p' (keys.Word n)) (literal_body p at) (literal_body p' at) (λ n. colon_grows (keys.Word n))
      (on_grows literal_of (λ l. colon_body p (keys.Lit at l)) (λ l. colon_body p' (keys.Lit at l)) (open_body p) (open_body p') (λ l. colon_grows (keys.Lit at l)) open_grows))

  body_grows : Grows (body_at p) (body_at p')
  unfolding body_at
  body_grows = if_grows colon_behind (keyed_body p) (keyed_body p') (open_body p) (open_body p') keyed_grows open_grows

  entry_grows : Grows (entry_at p) (entry_at p')
  unfolding entry_at
  entry_grows = placed_grows (λ at. after occur_at (λ o. after (body_at p) (λ k. taken (entry_of at o k.0 k.1)))) (λ at. after occur_at (λ o. after (body_at p') (λ k. taken (entry_of at o k.0 k.1))))
      (λ at. after_grows occur_at occur_at (λ o. after (body_at p) (λ k. taken (entry_of at o k.0 k.1))) (λ o. after (body_at p') (λ k. taken (entry_of at o k.0 k.1))) (same occur_at)
      (λ o. made_grows (λ k. entry_of at o k.0 k.1) (body_at p) (body_at p') body_grows))

  in_way_grows : Grows (entry_in_way p) (entry_in_way p')
  unfolding entry_in_way
  in_way_grows = after_grows (entry_at p) (entry_at p') (λ e. skip_comma e) (λ e. skip_comma e) entry_grows (λ e. same (skip_comma e))

  abbrev entries : Reader Type1 → Sign → Reader (List Entry)
  entries one close = each (goes_on close) (entry_in_way one)

  abbrev behind_entries : Sign → Reader (List WayTree) → ℕ → List Entry → Reader (List WayTree)
  behind_entries close ways at es = on (sign_of signs.DoubleSlash) (λ _. after ways (λ ws. taken (way_of at es ∷ ws))) (after (token (sign_of close)) (λ _. taken (way_of at es ∷ [])))

  ways_grows : (close : Sign) (n : ℕ) → Grows (ways_at p close n) (ways_at p' close n)
  unfolding ways_at
  ways_grows close zero = same stuck
  ways_grows close (suc n) = placed_grows (λ at. after (entries p close) (behind_entries close (ways_at p close n) at)) (λ at. after (entries p' close) (behind_entries close (ways_at p' close n) at))
      (λ at. after_grows (entries p close) (entries p' close) (behind_entries close (ways_at p close n) at) (behind_entries close (ways_at p' close n) at) (each_grows (goes_on close) (entry_in_way p) (entry_in_way p') in_way_grows)
      (λ es. on_grows (sign_of signs.DoubleSlash) (λ _. after (ways_at p close n) (λ ws. taken (way_of at es ∷ ws))) (λ _. after (ways_at p' close n) (λ ws. taken (way_of at es ∷ ws))) (after (token (sign_of close)) (λ _. taken (way_of at es ∷ []))) (after (token (sign_of close)) (λ _. taken (way_of at es ∷ [])))
      (λ _. made_grows (λ ws. way_of at es ∷ ws) (ways_at p close n) (ways_at p' close n) (ways_grows close n)) (same (after (token (sign_of close)) (λ _. taken (way_of at es ∷ []))))))

  abbrev all_ways : Reader Type1 → Sign → Reader (List WayTree)
  all_ways one close ms = ways_at one close (suc (length ms)) ms

  group_grows : (close : Sign) → Grows (group_at p close) (group_at p' close)
  unfolding group_at
  group_grows close = placed_grows (λ at. made (group_of at) (all_ways p close)) (λ at. made (group_of at) (all_ways p' close))
      (λ at. made_grows (group_of at) (all_ways p close) (all_ways p' close) (record { at = λ ms. (ways_grows close (suc (length ms))).at ms }))

  name_and_args_grows : (f : Name → List Type1 → Form) → Grows (name_and_args p f) (name_and_args p' f)
  unfolding name_and_args
  name_and_args_grows f = after_grows (token name_of) (token name_of) (λ n. made (f n) (angled p)) (λ n. made (f n) (angled p')) (same (token name_of)) (λ n. made_grows (f n) (angled p) (angled p') (angled_grows p p' g))

  tag_grows : (number : Bound) → Grows (tag_at p number) (tag_at p' number)
  unfolding tag_at
  tag_grows number = after_grows (type_at p) (type_at p') (λ t. after (token (sign_of signs.CloseParen)) (λ _. taken (Tagged number t))) (λ t. after (token (sign_of signs.CloseParen)) (λ _. taken (Tagged number t))) type_grows (λ t. same (after (token (sign_of signs.CloseParen)) (λ _. taken (Tagged number t))))

  hash_grows : (hash : Option ℕ × Bound) → Grows (behind_hash p hash) (behind_hash p' hash)
  unfolding behind_hash
  hash_grows hash = if_grows (λ _. six_major hash.0) (on tag_of (λ _. tag_at p hash.1) (taken (Hash hash.0 hash.1))) (on tag_of (λ _. tag_at p' hash.1) (taken (Hash hash.0 hash.1))) (taken (Hash hash.0 hash.1)) (taken (Hash hash.0 hash.1))
      (on_grows tag_of (λ _. tag_at p hash.1) (λ _. tag_at p' hash.1) (taken (Hash hash.0 hash.1)) (taken (Hash hash.0 hash.1)) (λ _. tag_grows hash.1) (same (taken (Hash hash.0 hash.1))))
      (same (taken (Hash hash.0 hash.1)))

  abbrev in_brackets : Reader Type1 → Reader Form
  in_brackets one = on (sign_of signs.OpenBracket) (λ _. made ArrayOf (group_at one signs.CloseBracket)) stuck

  abbrev in_braces : Reader Type1 → Reader Form
  in_braces one = on (sign_of signs.OpenBrace) (λ _. made MapOf (group_at one signs.CloseBrace)) (in_brackets one)

  bracket_grows : Grows (bracket_at p) (bracket_at p')
  unfolding bracket_at
  bracket_grows =
      on_grows (sign_of signs.OpenParen) (λ _. made Paren (group_at p signs.CloseParen)) (λ _. made Paren (group_at p' signs.CloseParen)) (in_braces p) (in_braces p') (λ _. made_grows Paren (group_at p signs.CloseParen) (group_at p' signs.CloseParen) (group_grows signs.CloseParen))
      (on_grows (sign_of signs.OpenBrace) (λ _. made MapOf (group_at p signs.CloseBrace)) (λ _. made MapOf (group_at p' signs.CloseBrace)) (in_brackets p) (in_brackets p') (λ _. made_grows MapOf (group_at p signs.CloseBrace) (group_at p' signs.CloseBrace) (group_grows signs.CloseBrace))
      (on_grows (sign_of signs.OpenBracket) (λ _. made ArrayOf (group_at p signs.CloseBracket)) (λ _. made ArrayOf (group_at p' signs.CloseBracket)) stuck stuck (λ _. made_grows ArrayOf (group_at p signs.CloseBracket) (group_at p' signs.CloseBracket) (group_grows signs.CloseBracket)) (same stuck)))

  ampersand_grows : Grows (behind_ampersand p) (behind_ampersand p')
  unfolding behind_ampersand
  ampersand_grows = on_grows (sign_of signs.OpenParen) (λ _. made Enum (group_at p signs.CloseParen)) (λ _. made Enum (group_at p' signs.CloseParen)) (name_and_args p EnumName) (name_and_args p' EnumName) (λ _. made_grows Enum (group_at p signs.CloseParen) (group_at p' signs.CloseParen) (group_grows signs.CloseParen)) (name_and_args_grows EnumName)

  abbrev behind_tilde : Reader Type1 → Reader Form
  behind_tilde one = on (sign_of signs.Ampersand) (λ _. behind_ampersand one) (bracket_at one)

  prefixed_grows : Grows (prefixed_at p) (prefixed_at p')
  unfolding prefixed_at
  prefixed_grows = on_grows (sign_of signs.Tilde) (λ _. name_and_args p Unwrap) (λ _. name_and_args p' Unwrap) (behind_tilde p) (behind_tilde p') (λ _. name_and_args_grows Unwrap)
      (on_grows (sign_of signs.Ampersand) (λ _. behind_ampersand p) (λ _. behind_ampersand p') (bracket_at p) (bracket_at p') (λ _. ampersand_grows) bracket_grows)

  abbrev hash_or : Reader Type1 → Reader Form
  hash_or one = on hash_of (behind_hash one) (prefixed_at one)

  abbrev name_or : Reader Type1 → Reader Form
  name_or one = on name_of (λ n. made (Named n) (angled one)) (hash_or one)

  form_grows : Grows (form_at p) (form_at p')
  unfolding form_at
  form_grows = on_grows literal_of (λ l. taken (Lit l)) (λ l. taken (Lit l)) (name_or p) (name_or p') (λ l. same (taken (Lit l)))
      (on_grows name_of (λ n. made (Named n) (angled p)) (λ n. made (Named n) (angled p')) (hash_or p) (hash_or p') (λ n. made_grows (Named n) (angled p) (angled p') (angled_grows p p' g))
      (on_grows hash_of (behind_hash p) (behind_hash p') (prefixed_at p) (prefixed_at p') (λ hash. hash_grows hash) prefixed_grows))

  operand_grows : Grows (operand_at p) (operand_at p')
  unfolding operand_at
  operand_grows = placed_grows (λ at. made (operand_of at) (form_at p)) (λ at. made (operand_of at) (form_at p')) (λ at. made_grows (operand_of at) (form_at p) (form_at p') form_grows)

  operation_grows : Grows (operation_at p) (operation_at p')
  unfolding operation_at
  operation_grows = on_grows operator_of (λ k. made (λ t. Some (operation_of k.0 k.1 t)) (operand_at p)) (λ k. made (λ t. Some (operation_of k.0 k.1 t)) (operand_at p')) (taken None) (taken None) (λ k. made_grows (λ t. Some (operation_of k.0 k.1 t)) (operand_at p) (operand_at p') operand_grows) (same (taken None))

  layer_grows : Grows (choice_layer p) (choice_layer p')
  unfolding choice_layer
  layer_grows = placed_grows (λ at. after (operand_at p) (λ t. after (operation_at p) (λ o. taken (choice_of at t o)))) (λ at. after (operand_at p') (λ t. after (operation_at p') (λ o. taken (choice_of at t o))))
      (λ at. after_grows (operand_at p) (operand_at p') (λ t. after (operation_at p) (λ o. taken (choice_of at t o))) (λ t. after (operation_at p') (λ o. taken (choice_of at t o))) operand_grows (λ t. made_grows (choice_of at t) (operation_at p) (operation_at p') operation_grows))

  assigned_grows : (a : Assign) → Grows (assigned p a) (assigned p' a)
  unfolding assigned
  assigned_grows Define = entry_grows
  assigned_grows TypeMore = placed_grows (λ at. made (entry_of at None keys.Missing) (type_at p)) (λ at. made (entry_of at None keys.Missing) (type_at p')) (λ at. made_grows (entry_of at None keys.Missing) (type_at p) (type_at p') type_grows)
  assigned_grows GroupMore = entry_grows

  abbrev behind_params : Reader Type1 → ℕ → Name → List Name → Reader Rule
  behind_params one at n ps = after (token assign_of) (λ a. made (rule_of at n ps a) (assigned one a))

  rule_grows : Grows (rule_at p) (rule_at p')
  unfolding rule_at
  rule_grows = placed_grows (λ at. after (token name_of) (λ n. after (angled (token name_of)) (λ ps. behind_params p at n ps))) (λ at. after (token name_of) (λ n. after (angled (token name_of)) (λ ps. behind_params p' at n ps)))
      (λ at. after_grows (token name_of) (token name_of) (λ n. after (angled (token name_of)) (λ ps. behind_params p at n ps)) (λ n. after (angled (token name_of)) (λ ps. behind_params p' at n ps)) (same (token name_of))
      (λ n. after_grows (angled (token name_of)) (angled (token name_of)) (λ ps. behind_params p at n ps) (λ ps. behind_params p' at n ps) (same (angled (token name_of)))
      (λ ps. after_grows (token assign_of) (token assign_of) (λ a. made (rule_of at n ps a) (assigned p a)) (λ a. made (rule_of at n ps a) (assigned p' a)) (same (token assign_of))
      (λ a. made_grows (rule_of at n ps a) (assigned p a) (assigned p' a) (assigned_grows a)))))

  rules_grows : Grows (rules_at p) (rules_at p')
  unfolding rules_at
  rules_grows = after_grows (rule_at p) (rule_at p') (λ r. after (each is_more (rule_at p)) (λ rs. taken (r ∷ rs))) (λ r. after (each is_more (rule_at p')) (λ rs. taken (r ∷ rs))) rule_grows
      (λ r. made_grows (λ rs. r ∷ rs) (each is_more (rule_at p)) (each is_more (rule_at p')) (each_grows is_more (rule_at p) (rule_at p') rule_grows))

choice_grows : (n k : ℕ) → Grows (choice_at n) (choice_at (k + n))
unfolding choice_at
choice_grows zero k = record { at = λ ms. inl refl }
choice_grows (suc n) k = let e : k + suc n ≡ suc (k + n) = omega arith in rw e (layer_grows (choice_at n) (choice_at (k + n)) (choice_grows n k))

-- what is found with some depth is found with more
pub schema_grows : (n k : ℕ) (ms : List Mark) → (rules_at (choice_at n) ms ≡ deep) ⊎ (rules_at (choice_at n) ms ≡ rules_at (choice_at (k + n)) ms)
schema_grows n k ms = (rules_grows (choice_at n) (choice_at (k + n)) (choice_grows n k)).at ms
