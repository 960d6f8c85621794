-- A reading of marks with more levels than there are marks is never too deep, and takes all marks where it takes some.
use Rattle.std.proofs.Common.{◌≡◌, ℕ, zero, suc, ◌<◌, inl, inr, true, false, List, [], ◌∷◌, length, Option, Some, None, Err, refl, subst, arith}
use Rattle.ecd_lex.specs.declared.token.Bound.{Bound}
use Rattle.ecd_lex.specs.declared.token.Sign.{Sign}
use Rattle.ecd_lex.specs.declared.token.Sign.TheVariants as signs
use Rattle.ecd_syntax.specs.declared.tree.Alts.{Alts}
use Rattle.ecd_syntax.specs.declared.tree.Assign.{Assign}
use Rattle.ecd_syntax.specs.declared.tree.Assign.TheVariants.{Define, TypeMore, GroupMore}
use Rattle.ecd_syntax.specs.declared.tree.Entry.{Entry}
use Rattle.ecd_syntax.specs.declared.tree.Form.{Form}
use Rattle.ecd_syntax.specs.declared.tree.Form.TheVariants.{Lit, Named, Paren, MapOf, ArrayOf, Unwrap, Enum, EnumName, Tagged, Hash}
use Rattle.ecd_syntax.specs.declared.tree.Key.{Key}
use Rattle.ecd_syntax.specs.declared.tree.Key.TheVariants as keys
use Rattle.ecd_syntax.specs.declared.tree.Name.{Name}
use Rattle.ecd_syntax.specs.declared.tree.Rule.{Rule}
use Rattle.ecd_syntax.specs.declared.tree.Type1.{Type1}
use Rattle.ecd_syntax.specs.declared.tree.WayTree.{WayTree}
use Rattle.ecd_syntax.specs.Marks.{Mark, place, name_of, literal_of, occur_of, hash_of, operator_of, assign_of, sign_of, tag_of}
use Rattle.ecd_syntax.specs.Reading.{Deep, Reader, ◌>>=◌, taken, stuck, on, token, begins, behind, each, more_listed, listed, angled, made, type_at, alts_of, occur_at, colon_behind, body_behind, behind_choice, open_body, colon_body, keyed_body, body_at, entry_at, skip_comma, entry_in_way, goes_on, ways_at, group_at, name_and_args, six_major, tag_at, behind_hash, bracket_at, behind_ampersand, prefixed_at, form_at, operand_at, operation_at, choice_layer, choice_at, assigned, rule_at, is_more, rules_at, operand_of, operation_of, choice_of, way_of, group_of, entry_of, rule_of}
use Rattle.ecd_reading.specs.Reading.{after}
use Rattle.ecd_reading.proofs.Readers.{ok_is, bind_cases}
use Rattle.ecd_schema_laws.proofs.Shallow.{Shallow, shallow_taken, shallow_stuck, shallow_after, shallow_past, shallow_on, shallow_token, shallow_if, shallow_each, Progresses, progress_token, each_ends}

shallow_made : {A B : Type 0} (k : ℕ) (f : A → B) (p : Reader A) → Shallow k p → Shallow k (made f p)
shallow_made k f p s = shallow_after k p (λ x. taken (f x)) s (λ x. shallow_taken k (f x))

shallow_placed : {A : Type 0} (k : ℕ) (p : ℕ → Reader A) → ((at : ℕ) → Shallow k (p at)) → Shallow k (λ ms. p (place ms) ms)
shallow_placed k p s = record { not_deep = λ ms lt h. (s (place ms)).not_deep ms lt h; no_longer = λ ms rest x h. (s (place ms)).no_longer ms rest x h }

-- a sign, and then the other
shallow_sign : {A : Type 0} (k : ℕ) (sign : Sign) (p : Reader A) → Shallow k p → Shallow k (after (token (sign_of sign)) (λ _. p))
shallow_sign k sign p s = shallow_after k (token (sign_of sign)) (λ _. p) (shallow_token k (sign_of sign)) (λ _. s)

-- ---- lists

module _ {A : Type 0} (k : ℕ) (p : Reader A) (s : Shallow k p) where
  shallow_more : (sign : Sign) (x : A) → Shallow k (more_listed sign p x)
  shallow_more sign x = shallow_made k (λ xs. x ∷ xs) (each (begins (sign_of sign)) (behind (sign_of sign) p)) (shallow_each k (begins (sign_of sign)) (behind (sign_of sign) p) (shallow_sign k sign p s))

  shallow_listed : (sign : Sign) → Shallow k (listed sign p)
  shallow_listed sign = shallow_after k p (λ x. more_listed sign p x) s (λ x. shallow_more sign x)

  shallow_angled : Shallow k (angled p)
  unfolding angled
  shallow_angled =
      shallow_on k (sign_of signs.Less) (λ _. after (listed signs.Comma p) (λ xs. after (token (sign_of signs.Greater)) (λ _. taken xs))) (taken [])
      (λ _. shallow_after k (listed signs.Comma p) (λ xs. after (token (sign_of signs.Greater)) (λ _. taken xs)) (shallow_listed signs.Comma) (λ xs. shallow_sign k signs.Greater (taken xs) (shallow_taken k xs)))
      (shallow_taken k [])

-- ---- types and entries

module _ (k : ℕ) (p : Reader Type1) (s : Shallow k p) where
  shallow_type : Shallow k (type_at p)
  unfolding type_at
  shallow_type = shallow_placed k (λ at. made (alts_of at) (listed signs.Slash p)) (λ at. shallow_made k (alts_of at) (listed signs.Slash p) (shallow_listed k p s signs.Slash))

  shallow_body_behind : (key : Key) → Shallow k (body_behind p key)
  shallow_body_behind key = shallow_made k (λ t. (key, t)) (type_at p) shallow_type

  abbrev keyless : ℕ → Type1 → Reader (Key × Alts)
  keyless at x = after (more_listed signs.Slash p x) (λ xs. taken (keys.Missing, alts_of at xs))

  shallow_behind_choice : (at : ℕ) (x : Type1) → Shallow k (behind_choice p at x)
  unfolding behind_choice
  shallow_behind_choice at x =
      shallow_on k (sign_of signs.Caret) (λ _. after (token (sign_of signs.Arrow)) (λ _. body_behind p (keys.Arrow x true))) (on (sign_of signs.Arrow) (λ _. body_behind p (keys.Arrow x false)) (keyless at x))
      (λ _. shallow_sign k signs.Arrow (body_behind p (keys.Arrow x true)) (shallow_body_behind (keys.Arrow x true)))
      (shallow_on k (sign_of signs.Arrow) (λ _. body_behind p (keys.Arrow x false)) (keyless at x) (λ _. shallow_body_behind (keys.Arrow x false))
      (shallow_made k (λ xs. (keys.Missing, alts_of at xs)) (more_listed signs.Slash p x) (shallow_more k p s signs.Slash x)))

  shallow_open : Shallow k (open_body p)
  unfolding open_body
  shallow_open = shallow_placed k (λ at. after p (λ x. behind_choice p at x)) (λ at. shallow_after k p (λ x. behind_choice p at x) s (λ x. shallow_behind_choice at x))

  shallow_colon : (key : Key) → Shallow k (colon_body p key)
  shallow_colon key = shallow_sign k signs.Colon (body_behind p key) (shallow_body_behind key)

  abbrev literal_body : ℕ → Reader (Key × Alts)
  literal_body at = on literal_of (λ l. colon_body p (keys.Lit at l)) (open_body p)

  shallow_keyed : Shallow k (keyed_body p)
  unfolding keyed_body
  shallow_keyed =
      shallow_placed k (λ at. on name_of (λ n. colon_body p (keys.Word n)) (literal_body at))
      (λ at. shallow_on k name_of (λ n. colon_body p (keys.Word n)) (literal_body at) (λ n. shallow_colon (keys.Word n)) (shallow_on k literal_of (λ l. colon_body p (keys.Lit at l)) (open_body p) (λ l. shallow_colon (keys.Lit at l)) shallow_open))

  shallow_body : Shallow k (body_at p)
  unfolding body_at
  shallow_body = shallow_if k colon_behind (keyed_body p) (open_body p) shallow_keyed shallow_open

  shallow_occur : Shallow k occur_at
  unfolding occur_at
  shallow_occur = shallow_on k occur_of (λ o. taken (Some o)) (taken None) (λ o. shallow_taken k (Some o)) (shallow_taken k None)

  shallow_entry : Shallow k (entry_at p)
  unfolding entry_at
  shallow_entry =
      shallow_placed k (λ at. after occur_at (λ o. after (body_at p) (λ b. taken (entry_of at o b.0 b.1))))
      (λ at. shallow_after k occur_at (λ o. after (body_at p) (λ b. taken (entry_of at o b.0 b.1))) shallow_occur (λ o. shallow_made k (λ b. entry_of at o b.0 b.1) (body_at p) shallow_body))

  shallow_in_way : Shallow k (entry_in_way p)
  unfolding entry_in_way
  shallow_in_way = shallow_after k (entry_at p) (λ e. skip_comma e) shallow_entry (λ e. shallow_on k (sign_of signs.Comma) (λ _. taken e) (taken e) (λ _. shallow_taken k e) (shallow_taken k e))

  -- ---- groups

  abbrev entries : Sign → Reader (List Entry)
  entries close = each (goes_on close) (entry_in_way p)

  abbrev last_way : Sign → ℕ → List Entry → Reader (List WayTree)
  last_way close at es = after (token (sign_of close)) (λ _. taken (way_of at es ∷ []))

  abbrev behind_entries : Sign → Reader (List WayTree) → ℕ → List Entry → Reader (List WayTree)
  behind_entries close ways at es = on (sign_of signs.DoubleSlash) (λ _. after ways (λ ws. taken (way_of at es ∷ ws))) (last_way close at es)

  shallow_ways : (close : Sign) (n : ℕ) → Shallow k (ways_at p close n)
  unfolding ways_at
  shallow_ways close zero = shallow_stuck Mark (List WayTree) k
  shallow_ways close (suc n) =
      shallow_placed k (λ at. after (entries close) (behind_entries close (ways_at p close n) at))
      (λ at. shallow_after k (entries close) (behind_entries close (ways_at p close n) at) (shallow_each k (goes_on close) (entry_in_way p) shallow_in_way)
      (λ es. shallow_on k (sign_of signs.DoubleSlash) (λ _. after (ways_at p close n) (λ ws. taken (way_of at es ∷ ws))) (last_way close at es)
      (λ _. shallow_made k (λ ws. way_of at es ∷ ws) (ways_at p close n) (shallow_ways close n)) (shallow_sign k close (taken (way_of at es ∷ [])) (shallow_taken k (way_of at es ∷ [])))))

  abbrev all_ways : Sign → Reader (List WayTree)
  all_ways close ms = ways_at p close (suc (length ms)) ms

  shallow_all_ways : (close : Sign) → Shallow k (all_ways close)
  shallow_all_ways close = record { not_deep = λ ms lt h. (shallow_ways close (suc (length ms))).not_deep ms lt h; no_longer = λ ms rest x h. (shallow_ways close (suc (length ms))).no_longer ms rest x h }

  shallow_group : (close : Sign) → Shallow k (group_at p close)
  unfolding group_at
  shallow_group close = shallow_placed k (λ at. made (group_of at) (all_ways close)) (λ at. shallow_made k (group_of at) (all_ways close) (shallow_all_ways close))

  -- ---- operands: each begins with a mark of its own

  shallow_name_and_args : (f : Name → List Type1 → Form) → Shallow k (name_and_args p f)
  unfolding name_and_args
  shallow_name_and_args f = shallow_after k (token name_of) (λ n. made (f n) (angled p)) (shallow_token k name_of) (λ n. shallow_made k (f n) (angled p) (shallow_angled k p s))

  shallow_tag : (number : Bound) → Shallow k (tag_at p number)
  unfolding tag_at
  shallow_tag number =
      shallow_after k (type_at p) (λ t. after (token (sign_of signs.CloseParen)) (λ _. taken (Tagged number t))) shallow_type (λ t. shallow_sign k signs.CloseParen (taken (Tagged number t)) (shallow_taken k (Tagged number t)))

  shallow_hash : (hash : Option ℕ × Bound) → Shallow k (behind_hash p hash)
  unfolding behind_hash
  shallow_hash hash =
      shallow_if k (λ _. six_major hash.0) (on tag_of (λ _. tag_at p hash.1) (taken (Hash hash.0 hash.1))) (taken (Hash hash.0 hash.1))
      (shallow_on k tag_of (λ _. tag_at p hash.1) (taken (Hash hash.0 hash.1)) (λ _. shallow_tag hash.1) (shallow_taken k (Hash hash.0 hash.1)))
      (shallow_taken k (Hash hash.0 hash.1))

  shallow_made_group : (f : _ → Form) (close : Sign) → Shallow k (made f (group_at p close))
  shallow_made_group f close = shallow_made k f (group_at p close) (shallow_group close)

  abbrev in_brackets : Reader Form
  in_brackets = on (sign_of signs.OpenBracket) (λ _. made ArrayOf (group_at p signs.CloseBracket)) stuck

  abbrev in_braces : Reader Form
  in_braces = on (sign_of signs.OpenBrace) (λ _. made MapOf (group_at p signs.CloseBrace)) in_brackets

  shallow_bracket : Shallow (suc k) (bracket_at p)
  unfolding bracket_at
  shallow_bracket =
      shallow_past k (sign_of signs.OpenParen) (λ _. made Paren (group_at p signs.CloseParen)) in_braces (λ _. shallow_made_group Paren signs.CloseParen)
      (shallow_past k (sign_of signs.OpenBrace) (λ _. made MapOf (group_at p signs.CloseBrace)) in_brackets (λ _. shallow_made_group MapOf signs.CloseBrace)
      (shallow_past k (sign_of signs.OpenBracket) (λ _. made ArrayOf (group_at p signs.CloseBracket)) stuck (λ _. shallow_made_group ArrayOf signs.CloseBracket) (shallow_stuck Mark Form (suc k))))

  shallow_ampersand : Shallow k (behind_ampersand p)
  unfolding behind_ampersand
  shallow_ampersand = shallow_on k (sign_of signs.OpenParen) (λ _. made Enum (group_at p signs.CloseParen)) (name_and_args p EnumName) (λ _. shallow_made_group Enum signs.CloseParen) (shallow_name_and_args EnumName)

  shallow_prefixed : Shallow (suc k) (prefixed_at p)
  unfolding prefixed_at
  shallow_prefixed =
      shallow_past k (sign_of signs.Tilde) (λ _. name_and_args p Unwrap) (on (sign_of signs.Ampersand) (λ _. behind_ampersand p) (bracket_at p)) (λ _. shallow_name_and_args Unwrap)
      (shallow_past k (sign_of signs.Ampersand) (λ _. behind_ampersand p) (bracket_at p) (λ _. shallow_ampersand) shallow_bracket)

  shallow_form : Shallow (suc k) (form_at p)
  unfolding form_at
  shallow_form =
      shallow_past k literal_of (λ l. taken (Lit l)) (on name_of (λ n. made (Named n) (angled p)) (on hash_of (behind_hash p) (prefixed_at p))) (λ l. shallow_taken k (Lit l))
      (shallow_past k name_of (λ n. made (Named n) (angled p)) (on hash_of (behind_hash p) (prefixed_at p)) (λ n. shallow_made k (Named n) (angled p) (shallow_angled k p s))
      (shallow_past k hash_of (behind_hash p) (prefixed_at p) shallow_hash shallow_prefixed))

  shallow_operand : Shallow (suc k) (operand_at p)
  unfolding operand_at
  shallow_operand = shallow_placed (suc k) (λ at. made (operand_of at) (form_at p)) (λ at. shallow_made (suc k) (operand_of at) (form_at p) shallow_form)

  shallow_operation : Shallow (suc k) (operation_at p)
  unfolding operation_at
  shallow_operation =
      shallow_on (suc k) operator_of (λ o. made (λ t. Some (operation_of o.0 o.1 t)) (operand_at p)) (taken None) (λ o. shallow_made (suc k) (λ t. Some (operation_of o.0 o.1 t)) (operand_at p) shallow_operand) (shallow_taken (suc k) None)

  shallow_layer : Shallow (suc k) (choice_layer p)
  unfolding choice_layer
  shallow_layer =
      shallow_placed (suc k) (λ at. after (operand_at p) (λ t. after (operation_at p) (λ o. taken (choice_of at t o))))
      (λ at. shallow_after (suc k) (operand_at p) (λ t. after (operation_at p) (λ o. taken (choice_of at t o))) shallow_operand (λ t. shallow_made (suc k) (choice_of at t) (operation_at p) shallow_operation))

  -- ---- rules

  shallow_assigned : (a : Assign) → Shallow k (assigned p a)
  unfolding assigned
  shallow_assigned Define = shallow_entry
  shallow_assigned TypeMore = shallow_placed k (λ at. made (entry_of at None keys.Missing) (type_at p)) (λ at. shallow_made k (entry_of at None keys.Missing) (type_at p) shallow_type)
  shallow_assigned GroupMore = shallow_entry

  abbrev behind_params : ℕ → Name → List Name → Reader Rule
  behind_params at n ps = after (token assign_of) (λ a. made (rule_of at n ps a) (assigned p a))

  abbrev behind_rule_name : ℕ → Name → Reader Rule
  behind_rule_name at n = after (angled (token name_of)) (λ ps. behind_params at n ps)

  shallow_rule_name : (at : ℕ) (n : Name) → Shallow k (behind_rule_name at n)
  shallow_rule_name at n =
      shallow_after k (angled (token name_of)) (λ ps. behind_params at n ps) (shallow_angled k (token name_of) (shallow_token k name_of))
      (λ ps. shallow_after k (token assign_of) (λ a. made (rule_of at n ps a) (assigned p a)) (shallow_token k assign_of) (λ a. shallow_made k (rule_of at n ps a) (assigned p a) (shallow_assigned a)))

  shallow_rule : Shallow k (rule_at p)
  unfolding rule_at
  shallow_rule = shallow_placed k (λ at. after (token name_of) (λ n. behind_rule_name at n)) (λ at. shallow_after k (token name_of) (λ n. behind_rule_name at n) (shallow_token k name_of) (λ n. shallow_rule_name at n))

  shallow_rules : Shallow k (rules_at p)
  unfolding rules_at
  shallow_rules =
      shallow_after k (rule_at p) (λ r. after (each is_more (rule_at p)) (λ rs. taken (r ∷ rs))) shallow_rule
      (λ r. shallow_made k (λ rs. r ∷ rs) (each is_more (rule_at p)) (shallow_each k is_more (rule_at p) shallow_rule))

  progress_rule : Progresses (rule_at p)
  unfolding rule_at
  progress_rule ms rest r h = progress_token k name_of (λ n. behind_rule_name (place ms) n) (λ n. shallow_rule_name (place ms) n) ms rest r h

  -- what is taken is all there is
  rules_end : (ms rest : List Mark) (rs : List Rule) → rules_at p ms ≡ taken rs rest → rest ≡ []
  unfolding rules_at
  rules_end ms rest rs h = elim (bind_cases (rule_at p ms) (λ r. each is_more (rule_at p) r.rest >>= λ rs. taken (r.value ∷ rs.value) rs.rest) (Some rs) rest h) [
    | inl w ↦ elim (bind_cases (each is_more (rule_at p) w.0.rest) (λ rs. taken (w.0.value ∷ rs.value) rs.rest) (Some rs) rest w.2) [
      | inl v ↦ none_left rest (subst (λ (l : List Mark). is_more l ≡ false) (ok_is (w.0.value ∷ v.0.value) rs v.0.rest rest v.2).1 (each_ends is_more (rule_at p) progress_rule w.0.rest v.0.rest v.0.value v.1))
      | inr v ↦ absurd cc
    ]
    | inr w ↦ absurd cc
  ]
    where
      none_left : (ms : List Mark) → is_more ms ≡ false → ms ≡ []
      none_left [] e = refl
      none_left (m ∷ ms) e = absurd cc

shallow_choice : (n : ℕ) → Shallow n (choice_at n)
unfolding choice_at
shallow_choice zero = record { not_deep = λ ms lt h. omega arith; no_longer = λ ms rest x h. absurd cc }
shallow_choice (suc n) = shallow_layer n (choice_at n) (shallow_choice n)

pub never_deep : (n : ℕ) (ms : List Mark) → length ms < n → rules_at (choice_at n) ms ≡ Err Deep → ⊥
never_deep n ms lt h = (shallow_rules n (choice_at n) (shallow_choice n)).not_deep ms lt h

pub takes_all : (n : ℕ) (ms rest : List Mark) (rs : List Rule) → rules_at (choice_at n) ms ≡ taken rs rest → rest ≡ []
takes_all n ms rest rs h = rules_end n (choice_at n) (shallow_choice n) ms rest rs h
