-- What is spelled is read.
use Rattle.std.proofs.Common.{◌≡◌, ◌≢◌, ℕ, zero, suc, ◌<◌, ◌≤◌, ◌⊎◌, inl, inr, Bool, true, false, cond, List, [], ◌∷◌, ◌++◌, length, Option, Some, None, refl, ap, sym, ◌∙◌, subst, arith}
use Rattle.std.specs.Prelude.{not, ◌||◌}
use Rattle.std.proofs.lemmas.List.{length-append, append-nil}
use Rattle.ecd_lex.specs.declared.token.Bound.{Bound}
use Rattle.ecd_lex.specs.declared.token.Sign.{Sign}
use Rattle.ecd_lex.specs.declared.token.Sign.TheVariants as signs
use Rattle.ecd_syntax.specs.declared.tree.Alts.{Alts, out-Alts, roll-out-Alts}
use Rattle.ecd_syntax.specs.declared.tree.Assign.{Assign}
use Rattle.ecd_syntax.specs.declared.tree.Assign.TheVariants.{Define, TypeMore, GroupMore}
use Rattle.ecd_syntax.specs.declared.tree.Entry.{Entry, out-Entry, roll-out-Entry}
use Rattle.ecd_syntax.specs.declared.tree.Form.{Form, out-Form, roll-Form, roll-out-Form}
use Rattle.ecd_syntax.specs.declared.tree.Form.TheOpen as forms
use Rattle.ecd_syntax.specs.declared.tree.Form.TheVariants.{Lit, Named, Paren, MapOf, ArrayOf, Unwrap, Enum, EnumName, Tagged, Hash, rolls-Lit, rolls-Named, rolls-Paren, rolls-MapOf, rolls-ArrayOf, rolls-Unwrap, rolls-Enum, rolls-EnumName, rolls-Tagged, rolls-Hash}
use Rattle.ecd_syntax.specs.declared.tree.GroupTree.{GroupTree, out-GroupTree, roll-out-GroupTree}
use Rattle.ecd_syntax.specs.declared.tree.Key.{Key, out-Key, roll-Key, roll-out-Key}
use Rattle.ecd_syntax.specs.declared.tree.Key.TheVariants as keys
use Rattle.ecd_syntax.specs.declared.tree.Key.TheVariants.{rolls-Arrow, rolls-Missing, rolls-Word}
use Rattle.ecd_syntax.specs.declared.tree.Key.TheVariants.{rolls-Lit as rolls-key-Lit}
use Rattle.ecd_syntax.specs.declared.tree.Literal.{Literal}
use Rattle.ecd_syntax.specs.declared.tree.Name.{Name}
use Rattle.ecd_syntax.specs.declared.tree.Occur.{Occur}
use Rattle.ecd_syntax.specs.declared.tree.Operation.{Operation, out-Operation, roll-out-Operation}
use Rattle.ecd_syntax.specs.declared.tree.OpKind.{OpKind}
use Rattle.ecd_syntax.specs.declared.tree.Rule.{Rule}
use Rattle.ecd_syntax.specs.declared.tree.Type1.{Type1, out-Type1, roll-out-Type1}
use Rattle.ecd_syntax.specs.declared.tree.Type2.{Type2, out-Type2, roll-out-Type2}
use Rattle.ecd_syntax.specs.declared.tree.WayTree.{WayTree, out-WayTree, roll-out-WayTree}
use Rattle.ecd_syntax.specs.Marks.{Mark, place, name_of, literal_of, occur_of, hash_of, operator_of, assign_of, sign_of, tag_of, number_of}
use Rattle.ecd_syntax.specs.Grammar.{One, OneSign, Then, At, Each, Listed, Angled, TypeSpelled, OccurSpelled, CutSpelled, KeySpelled, AKey, AForm, EntrySpelled, MaybeComma, EntriesSpelled, WaysSpelled, GroupSpelled, NamedSpelled, FormSpelled, OperandSpelled, OperationSpelled, ChoiceSpelled, ChoiceWithin, TypeAlone, BodySpelled, RuleSpelled, RulesSpelled}
use Rattle.ecd_syntax.specs.Reading.{Reader, taken, stuck, on, token, begins, each, more_listed, listed, angled, made, type_at, alts_of, occur_at, colon_behind, body_behind, behind_choice, open_body, colon_body, keyed_body, body_at, entry_at, skip_comma, entry_in_way, goes_on, ways_at, group_at, name_and_args, six_major, tag_at, behind_hash, bracket_at, behind_ampersand, prefixed_at, form_at, operand_at, operation_at, choice_layer, choice_at, assigned, rule_at, is_more, rules_at, operand_of, operation_of, choice_of, way_of, group_of, entry_of, rule_of}
use Rattle.ecd_reading.specs.Reading.{after}
use Rattle.ecd_syntax.proofs.Readers.{place_front}
use Rattle.ecd_syntax.proofs.Classes.{lead, Told, name_class, literal_class, occur_class, hash_class, operator_class, assign_class, sign_class_of, tag_class, on_no}
use Rattle.ecd_syntax.proofs.Follows.{AfterOperand, AfterChoice, AfterType, AfterEntry, AfterInWay, Begins, after_is, made_is, token_is, one_lead, on_one, then_is, lead_some, each_fol, each_is, begins_yes, begins_no, more_fol, more_listed_is, listed_is, told_less, told_comma, angled_is, told_slash, told_caret, told_arrow, told_colon}

-- ---- types and entries

some_lead : (ms : List Mark) → 16 < lead (ms ++ []) → 0 < length ms
some_lead [] h = absurd (omega arith)
some_lead (m ∷ ms) h = omega arith

-- it is no key before a colon
abbrev NoColon : List Mark → Type 0
NoColon ms = (colon_behind ms ≡ false) ⊎ ((lead ms ≢ 22) × (lead ms ≢ 23))

-- what may stand behind a choice before an arrow
abbrev InArrow : ℕ → Type 0
InArrow n = (n ≢ 12) × (n ≢ 3) × (n ≢ 6) × (n ≢ 10)

-- what may stand behind the first choice of a type that may be a key
abbrev InEntry : ℕ → Type 0
InEntry n = (n ≢ 12) × (n ≢ 3) × (n ≢ 6) × (n ≢ 8) × (n ≢ 9) × (n ≢ 10)

unfoldable pub key_from : AKey → Key
key_from forms.Missing = keys.Missing
key_from (forms.Arrow of cut) = keys.Arrow of cut
key_from (forms.Word name) = keys.Word name
key_from (forms.Key::Lit at of) = keys.Lit at of

key_rolls : (k : AKey) → roll-Key k ≡ key_from k
unfolding key_from
key_rolls forms.Missing = rolls-Missing
key_rolls (forms.Arrow of cut) = rolls-Arrow of cut
key_rolls (forms.Word name) = rolls-Word name
key_rolls (forms.Key::Lit at of) = rolls-key-Lit at of

pub key_back : (k : Key) → key_from (out-Key k) ≡ k
key_back k = sym (key_rolls (out-Key k)) ∙ roll-out-Key k

unfoldable pub form_from : AForm → Form
form_from (forms.Form::Lit literal) = Lit literal
form_from (forms.Named name args) = Named name args
form_from (forms.Paren g) = Paren g
form_from (forms.MapOf g) = MapOf g
form_from (forms.ArrayOf g) = ArrayOf g
form_from (forms.Unwrap name args) = Unwrap name args
form_from (forms.Enum g) = Enum g
form_from (forms.EnumName name args) = EnumName name args
form_from (forms.Tagged number body) = Tagged number body
form_from (forms.Hash major arg) = Hash major arg

form_rolls : (f : AForm) → roll-Form f ≡ form_from f
unfolding form_from
form_rolls (forms.Form::Lit literal) = rolls-Lit literal
form_rolls (forms.Named name args) = rolls-Named name args
form_rolls (forms.Paren g) = rolls-Paren g
form_rolls (forms.MapOf g) = rolls-MapOf g
form_rolls (forms.ArrayOf g) = rolls-ArrayOf g
form_rolls (forms.Unwrap name args) = rolls-Unwrap name args
form_rolls (forms.Enum g) = rolls-Enum g
form_rolls (forms.EnumName name args) = rolls-EnumName name args
form_rolls (forms.Tagged number body) = rolls-Tagged number body
form_rolls (forms.Hash major arg) = rolls-Hash major arg

pub form_back : (f : Form) → form_from (out-Form f) ≡ f
form_back f = sym (form_rolls (out-Form f)) ∙ roll-out-Form f

told_paren : Told 17
told_paren = (omega arith, omega arith, omega arith)

told_bracket : Told 18
told_bracket = (omega arith, omega arith, omega arith)

told_brace : Told 19
told_brace = (omega arith, omega arith, omega arith)

told_tilde : Told 20
told_tilde = (omega arith, omega arith, omega arith)

told_ampersand : Told 21
told_ampersand = (omega arith, omega arith, omega arith)

told_close_paren : Told 14
told_close_paren = (omega arith, omega arith, omega arith)

-- ---- what begins a choice

module _ (C : Type1 → List Mark → Type 0) where
  sign_first : (sign : Sign) (told : Told (number_of sign)) (P : List Mark → Type 0) (ms rest : List Mark) → Then (OneSign sign) P ms → lead (ms ++ rest) ≡ number_of sign
  sign_first sign told P ms rest h = rw (then_is (OneSign sign) P ms rest h) (one_lead (sign_of sign) (number_of sign) (sign_class_of sign told) tt h.front (h.back ++ rest) h.first)

  -- the first mark of a form, which is no name and no value unless it stands alone or before arguments
  form_first : (f : AForm) (ms rest : List Mark) → FormSpelled C f ms → lead rest ≢ 10 → Begins (lead (ms ++ rest)) × NoColon (ms ++ rest)
  form_first (forms.Form::Lit l) ms rest h f = let k = one_lead literal_of 23 literal_class l ms rest h in ((omega arith, omega arith), inl (rw h.alone (begins_no (sign_of signs.Colon) 10 (sign_class_of signs.Colon told_colon) rest f)))
  form_first (forms.Named name args) ms rest h f = rw (then_is (One name_of name) (Angled C args) ms rest h) (name_first name args h.front h.back rest h.first h.second f)
    where
      args_lead : (args : List Type1) (b rest : List Mark) → Angled C args b → lead rest ≢ 10 → lead (b ++ rest) ≢ 10
      args_lead [] b rest g f = rw g f
      args_lead (x ∷ xs) b rest g f = let k = sign_first signs.Less told_less (Then (Listed signs.Comma C (x ∷ xs)) (OneSign signs.Greater)) b rest g in omega arith

      name_first : (name : Name) (args : List Type1) (a b rest : List Mark) → One name_of name a → Angled C args b → lead rest ≢ 10 → Begins (lead (a ++ (b ++ rest))) × NoColon (a ++ (b ++ rest))
      name_first name args a b rest g i f =
          let k = one_lead name_of 22 name_class name a (b ++ rest) g in
          ((omega arith, omega arith), inl (rw g.alone (begins_no (sign_of signs.Colon) 10 (sign_class_of signs.Colon told_colon) (b ++ rest) (args_lead args b rest i f))))
  form_first (forms.Paren g) ms rest h f = let k = sign_first signs.OpenParen told_paren (GroupSpelled C signs.CloseParen g) ms rest h in ((omega arith, omega arith), inr (omega arith, omega arith))
  form_first (forms.MapOf g) ms rest h f = let k = sign_first signs.OpenBrace told_brace (GroupSpelled C signs.CloseBrace g) ms rest h in ((omega arith, omega arith), inr (omega arith, omega arith))
  form_first (forms.ArrayOf g) ms rest h f = let k = sign_first signs.OpenBracket told_bracket (GroupSpelled C signs.CloseBracket g) ms rest h in ((omega arith, omega arith), inr (omega arith, omega arith))
  form_first (forms.Unwrap name args) ms rest h f = let k = sign_first signs.Tilde told_tilde (NamedSpelled C name args) ms rest h in ((omega arith, omega arith), inr (omega arith, omega arith))
  form_first (forms.Enum g) ms rest h f = let k = sign_first signs.Ampersand told_ampersand (Then (OneSign signs.OpenParen) (GroupSpelled C signs.CloseParen g)) ms rest h in ((omega arith, omega arith), inr (omega arith, omega arith))
  form_first (forms.EnumName name args) ms rest h f = let k = sign_first signs.Ampersand told_ampersand (NamedSpelled C name args) ms rest h in ((omega arith, omega arith), inr (omega arith, omega arith))
  form_first (forms.Tagged number body) ms rest h f =
      let k : lead (ms ++ rest) ≡ 25 = ap lead (then_is (One hash_of (Some 6, number)) (Then (One tag_of tt) (Then (TypeSpelled C body) (OneSign signs.CloseParen))) ms rest h) ∙ one_lead hash_of 25 hash_class (Some 6, number) h.front (h.back ++ rest) h.first in
      ((omega arith, omega arith), inr (omega arith, omega arith))
  form_first (forms.Hash major arg) ms rest h f = let k = one_lead hash_of 25 hash_class (major, arg) ms rest h in ((omega arith, omega arith), inr (omega arith, omega arith))

  operation_lead : (o : Option Operation) (ms rest : List Mark) → OperationSpelled C o ms → lead rest ≢ 10 → lead (ms ++ rest) ≢ 10
  operation_lead None ms rest h f = rw h f
  operation_lead (Some o) ms rest h f =
      let k : lead (ms ++ rest) ≡ 6 = ap lead (then_is (One operator_of ((out-Operation o).at, (out-Operation o).kind)) (OperandSpelled C (out-Operation o).right) ms rest h) ∙ one_lead operator_of 6 operator_class ((out-Operation o).at, (out-Operation o).kind) h.front (h.back ++ rest) h.first in
      omega arith

  choice_first : (t : Type1) (ms rest : List Mark) → ChoiceSpelled C t ms → lead rest ≢ 10 → Begins (lead (ms ++ rest)) × NoColon (ms ++ rest)
  choice_first t ms rest h f =
      let b = h.spells in
      rw (then_is (OperandSpelled C (out-Type1 t).left) (OperationSpelled C (out-Type1 t).op) ms rest b)
      (form_first (out-Form (out-Type2 (out-Type1 t).left).form) b.front (b.back ++ rest) b.first.spells (operation_lead (out-Type1 t).op b.back rest b.second f))

  choice_starts : (t : Type1) (ms rest : List Mark) → ChoiceSpelled C t ms → Begins (lead (ms ++ rest))
  choice_starts t ms rest h =
      let s : Begins (lead (ms ++ [])) = (choice_first t ms [] h (omega arith)).0 in
      let lt : 0 < lead ms = subst (λ (u : List Mark). 0 < lead u) (append-nil ms) (omega arith) in
      let k : lead ms ≡ lead (ms ++ []) = ap lead (sym (append-nil ms)) in
      rw (lead_some ms rest lt ∙ k) s

module _ (C : Type1 → List Mark → Type 0) (one : Reader Type1) (reads : (t : Type1) (ms rest : List Mark) → C t ms → AfterChoice (lead rest) → one (ms ++ rest) ≡ taken t rest)
    (start : (t : Type1) (ms rest : List Mark) → C t ms → Begins (lead (ms ++ rest))) (no_colon : (t : Type1) (ms rest : List Mark) → C t ms → lead rest ≢ 10 → NoColon (ms ++ rest)) where
  have : (t : Type1) (ms : List Mark) → C t ms → 0 < length ms
  have t ms h = some_lead ms (start t ms [] h).0

  listed_begins : (sign : Sign) (xs : List Type1) (ms rest : List Mark) → Listed sign C xs ms → Begins (lead (ms ++ rest))
  listed_begins sign [] ms rest h = absurd h
  listed_begins sign (x ∷ xs) ms rest h = rw (then_is (C x) (Each (λ y. Then (OneSign sign) (C y)) xs) ms rest h) (start x h.front (h.back ++ rest) h.first)

  type_begins : (t : Alts) (ms rest : List Mark) → TypeSpelled C t ms → Begins (lead (ms ++ rest))
  type_begins t ms rest h = listed_begins signs.Slash (out-Alts t).choices ms rest h.spells

  alts_is : (t : Alts) (ms rest : List Mark) → place ms ≡ (out-Alts t).at → 0 < length ms → alts_of (place (ms ++ rest)) (out-Alts t).choices ≡ t
  alts_is t ms rest e lt = rw (place_front ms rest lt, e) (roll-out-Alts t)

  type_is : (t : Alts) (ms rest : List Mark) → TypeSpelled C t ms → AfterType (lead rest) → type_at one (ms ++ rest) ≡ taken t rest
  unfolding type_at
  type_is t ms rest h f =
      let lt : 0 < length ms = some_lead ms (type_begins t ms [] h).0 in
      made_is (alts_of (place (ms ++ rest))) (listed signs.Slash one) (out-Alts t).choices (ms ++ rest) rest
      (listed_is C one AfterChoice have reads signs.Slash told_slash (omega arith, omega arith, omega arith) (out-Alts t).choices ms rest h.spells (f.0, f.1, f.2) f.3)
      ∙ ap (λ (u : Alts). taken u rest) (alts_is t ms rest h.starts lt)

  occur_is : (o : Option Occur) (ms rest : List Mark) → OccurSpelled o ms → lead rest ≢ 24 → occur_at (ms ++ rest) ≡ taken o rest
  unfolding occur_at
  occur_is None ms rest h apart = rw h (on_no occur_of 24 occur_class (λ o. taken (Some o)) (taken None) rest apart)
  occur_is (Some o) ms rest h apart = on_one occur_of (λ o. taken (Some o)) (taken None) o ms rest h

  body_behind_is : (key : Key) (t : Alts) (ms rest : List Mark) → TypeSpelled C t ms → AfterType (lead rest) → body_behind one key (ms ++ rest) ≡ taken (key, t) rest
  body_behind_is key t ms rest h f = made_is (λ u. (key, u)) (type_at one) t (ms ++ rest) rest (type_is t ms rest h f)

  not_keyed : (ms : List Mark) (b : Bool) → colon_behind ms ≡ b → NoColon ms → cond b (keyed_body one ms) (open_body one ms) ≡ open_body one ms
  unfolding keyed_body
  not_keyed ms false e h = refl
  not_keyed ms true e (inl h) = absurd cc
  not_keyed ms true e (inr h) =
      on_no name_of 22 name_class (λ n. colon_body one (keys.Word n)) (on literal_of (λ l. colon_body one (keys.Lit (place ms) l)) (open_body one)) ms h.0
      ∙ on_no literal_of 23 literal_class (λ l. colon_body one (keys.Lit (place ms) l)) (open_body one) ms h.1

  open_is : (ms : List Mark) → NoColon ms → body_at one ms ≡ open_body one ms
  unfolding body_at
  open_is ms h = not_keyed ms (colon_behind ms) refl h

  in_entry : (t : Type1) (ms rest : List Mark) → C t ms → InEntry (lead rest) → one (ms ++ rest) ≡ taken t rest
  in_entry t ms rest h f = reads t ms rest h (f.0, f.1, f.2)

  -- a type with no key
  keyless_is : (xs : List Type1) (ms rest : List Mark) → Listed signs.Slash C xs ms → AfterEntry (lead rest) → body_at one (ms ++ rest) ≡ taken (keys.Missing, alts_of (place (ms ++ rest)) xs) rest
  unfolding open_body behind_choice
  keyless_is [] ms rest h f = absurd h
  keyless_is (x ∷ xs) ms rest h f =
      let split = then_is (C x) (Each (λ y. Then (OneSign signs.Slash) (C y)) xs) ms rest h in
      let more : InEntry (lead (h.back ++ rest)) = more_fol C one InEntry have in_entry signs.Slash told_slash (omega arith, omega arith, omega arith, omega arith, omega arith, omega arith) xs h.back rest h.second (f.0, f.1, f.2, f.4, f.5, f.6) in
      let at = place (h.front ++ (h.back ++ rest)) in
      rw split (open_is (h.front ++ (h.back ++ rest)) (no_colon x h.front (h.back ++ rest) h.first more.5)
      ∙ after_is one (λ y. behind_choice one at y) x (h.front ++ (h.back ++ rest)) (h.back ++ rest) (in_entry x h.front (h.back ++ rest) h.first more)
      ∙ on_no (sign_of signs.Caret) 9 (sign_class_of signs.Caret told_caret) (λ _. after (token (sign_of signs.Arrow)) (λ _. body_behind one (keys.Arrow x true)))
      (on (sign_of signs.Arrow) (λ _. body_behind one (keys.Arrow x false)) (after (more_listed signs.Slash one x) (λ ys. taken (keys.Missing, alts_of at ys)))) (h.back ++ rest) more.4
      ∙ on_no (sign_of signs.Arrow) 8 (sign_class_of signs.Arrow told_arrow) (λ _. body_behind one (keys.Arrow x false)) (after (more_listed signs.Slash one x) (λ ys. taken (keys.Missing, alts_of at ys))) (h.back ++ rest) more.3
      ∙ after_is (more_listed signs.Slash one x) (λ ys. taken (keys.Missing, alts_of at ys)) (x ∷ xs) (h.back ++ rest) rest
      (more_listed_is C one InEntry have in_entry signs.Slash told_slash (omega arith, omega arith, omega arith, omega arith, omega arith, omega arith) x xs h.back rest h.second (f.0, f.1, f.2, f.4, f.5, f.6) f.3))

  abbrev behind_arrow : ℕ → Type1 → Reader (Key × Alts)
  behind_arrow at x = on (sign_of signs.Arrow) (λ _. body_behind one (keys.Arrow x false)) (after (more_listed signs.Slash one x) (λ ys. taken (keys.Missing, alts_of at ys)))

  -- a choice before an arrow, with what is left of the key and the type
  arrow_is : (x : Type1) (cut : Bool) (t : Alts) (at : ℕ) (c a ms rest : List Mark) → CutSpelled cut c → OneSign signs.Arrow a → TypeSpelled C t ms → AfterType (lead rest) → behind_choice one at x (c ++ (a ++ (ms ++ rest))) ≡ taken (keys.Arrow x cut, t) rest
  unfolding behind_choice
  arrow_is x true t at c a ms rest g i h f =
      on_one (sign_of signs.Caret) (λ _. after (token (sign_of signs.Arrow)) (λ _. body_behind one (keys.Arrow x true))) (behind_arrow at x) tt c (a ++ (ms ++ rest)) g
      ∙ after_is (token (sign_of signs.Arrow)) (λ _. body_behind one (keys.Arrow x true)) tt (a ++ (ms ++ rest)) (ms ++ rest) (token_is (sign_of signs.Arrow) tt a (ms ++ rest) i)
      ∙ body_behind_is (keys.Arrow x true) t ms rest h f
  arrow_is x false t at c a ms rest g i h f =
      let l : lead (a ++ (ms ++ rest)) ≡ 8 = one_lead (sign_of signs.Arrow) 8 (sign_class_of signs.Arrow told_arrow) tt a (ms ++ rest) i in
      let l9 : lead (a ++ (ms ++ rest)) ≢ 9 = omega arith in
      rw g (on_no (sign_of signs.Caret) 9 (sign_class_of signs.Caret told_caret) (λ _. after (token (sign_of signs.Arrow)) (λ _. body_behind one (keys.Arrow x true))) (behind_arrow at x) (a ++ (ms ++ rest)) l9
      ∙ on_one (sign_of signs.Arrow) (λ _. body_behind one (keys.Arrow x false)) (after (more_listed signs.Slash one x) (λ ys. taken (keys.Missing, alts_of at ys))) tt a (ms ++ rest) i
      ∙ body_behind_is (keys.Arrow x false) t ms rest h f)

  cut_lead : (cut : Bool) (c a rest : List Mark) → CutSpelled cut c → OneSign signs.Arrow a → InArrow (lead (c ++ (a ++ rest)))
  cut_lead true c a rest g i = let l : lead (c ++ (a ++ rest)) ≡ 9 = one_lead (sign_of signs.Caret) 9 (sign_class_of signs.Caret told_caret) tt c (a ++ rest) g in (omega arith, omega arith, omega arith, omega arith)
  cut_lead false c a rest g i = let l : lead (a ++ rest) ≡ 8 = one_lead (sign_of signs.Arrow) 8 (sign_class_of signs.Arrow told_arrow) tt a rest i in rw g (omega arith, omega arith, omega arith, omega arith)

  colon_is : (key : Key) (t : Alts) (c ms rest : List Mark) → OneSign signs.Colon c → TypeSpelled C t ms → AfterType (lead rest) → colon_body one key (c ++ (ms ++ rest)) ≡ taken (key, t) rest
  colon_is key t c ms rest i h f =
      after_is (token (sign_of signs.Colon)) (λ _. body_behind one key) tt (c ++ (ms ++ rest)) (ms ++ rest) (token_is (sign_of signs.Colon) tt c (ms ++ rest) i) ∙ body_behind_is key t ms rest h f

  -- a mark before a colon
  before_colon : {A : Type 0} (table : Mark → Option A) (x : A) (a c rest : List Mark) → One table x a → OneSign signs.Colon c → colon_behind (a ++ (c ++ rest)) ≡ true
  before_colon table x a c rest g i = rw g.alone (begins_yes (sign_of signs.Colon) tt c rest i)

  word_is : (n : Name) (t : Alts) (a c ms rest : List Mark) → One name_of n a → OneSign signs.Colon c → TypeSpelled C t ms → AfterType (lead rest) → body_at one (a ++ (c ++ (ms ++ rest))) ≡ taken (keys.Word n, t) rest
  unfolding body_at keyed_body
  word_is n t a c ms rest g i h f =
      rw (before_colon name_of n a c (ms ++ rest) g i)
      (on_one name_of (λ n. colon_body one (keys.Word n)) (on literal_of (λ l. colon_body one (keys.Lit (place (a ++ (c ++ (ms ++ rest)))) l)) (open_body one)) n a (c ++ (ms ++ rest)) g ∙ colon_is (keys.Word n) t c ms rest i h f)

  literal_is : (at : ℕ) (l : Literal) (t : Alts) (a c ms rest : List Mark) → place a ≡ at → One literal_of l a → OneSign signs.Colon c → TypeSpelled C t ms → AfterType (lead rest) → body_at one (a ++ (c ++ (ms ++ rest))) ≡ taken (keys.Lit at l, t) rest
  unfolding body_at keyed_body
  literal_is at l t a c ms rest p g i h f =
      let here : place (a ++ (c ++ (ms ++ rest))) ≡ at = place_front a (c ++ (ms ++ rest)) (omega (arith, ap length g.alone)) ∙ p in
      let l23 : lead (a ++ (c ++ (ms ++ rest))) ≡ 23 = one_lead literal_of 23 literal_class l a (c ++ (ms ++ rest)) g in
      let l22 : lead (a ++ (c ++ (ms ++ rest))) ≢ 22 = omega arith in
      rw (before_colon literal_of l a c (ms ++ rest) g i)
      (on_no name_of 22 name_class (λ n. colon_body one (keys.Word n)) (on literal_of (λ l. colon_body one (keys.Lit (place (a ++ (c ++ (ms ++ rest)))) l)) (open_body one)) (a ++ (c ++ (ms ++ rest))) l22
      ∙ on_one literal_of (λ l. colon_body one (keys.Lit (place (a ++ (c ++ (ms ++ rest)))) l)) (open_body one) l a (c ++ (ms ++ rest)) g
      ∙ rw here (colon_is (keys.Lit at l) t c ms rest i h f))

  body_is : (k : AKey) (t : Alts) (a ms rest : List Mark) → KeySpelled C k a → TypeSpelled C t ms → AfterEntry (lead rest) → body_at one (a ++ (ms ++ rest)) ≡ taken (key_from k, t) rest
  unfolding open_body key_from
  body_is forms.Missing t a ms rest g h f = rw g (keyless_is (out-Alts t).choices ms rest h.spells f ∙ ap (λ (u : Alts). taken (keys.Missing, u) rest) (alts_is t ms rest h.starts (some_lead ms (type_begins t ms [] h).0)))
  body_is (forms.Arrow of cut) t a ms rest g h f =
      let s = g.second in
      let more = cut_lead cut s.front s.back (ms ++ rest) s.first s.second in
      let split : a ++ (ms ++ rest) ≡ g.front ++ (s.front ++ (s.back ++ (ms ++ rest))) = then_is (C of) (Then (CutSpelled cut) (OneSign signs.Arrow)) a (ms ++ rest) g ∙ ap (λ (u : List Mark). g.front ++ u) (then_is (CutSpelled cut) (OneSign signs.Arrow) g.back (ms ++ rest) s) in
      rw split (open_is (g.front ++ (s.front ++ (s.back ++ (ms ++ rest)))) (no_colon of g.front (s.front ++ (s.back ++ (ms ++ rest))) g.first more.3)
      ∙ after_is one (λ y. behind_choice one (place (g.front ++ (s.front ++ (s.back ++ (ms ++ rest))))) y) of (g.front ++ (s.front ++ (s.back ++ (ms ++ rest)))) (s.front ++ (s.back ++ (ms ++ rest)))
      (reads of g.front (s.front ++ (s.back ++ (ms ++ rest))) g.first (more.0, more.1, more.2))
      ∙ arrow_is of cut t (place (g.front ++ (s.front ++ (s.back ++ (ms ++ rest))))) s.front s.back ms rest s.first s.second h (f.0, f.1, f.2, f.3))
  body_is (forms.Word name) t a ms rest g h f =
      rw (then_is (One name_of name) (OneSign signs.Colon) a (ms ++ rest) g) (word_is name t g.front g.back ms rest g.first g.second h (f.0, f.1, f.2, f.3))
  body_is (forms.Key::Lit at of) t a ms rest g h f =
      rw (then_is (At at (One literal_of of)) (OneSign signs.Colon) a (ms ++ rest) g) (literal_is at of t g.front g.back ms rest g.first.starts g.first.spells g.second h (f.0, f.1, f.2, f.3))

  key_begins : (k : AKey) (t : Alts) (a ms rest : List Mark) → KeySpelled C k a → TypeSpelled C t ms → Begins (lead (a ++ (ms ++ rest)))
  key_begins forms.Missing t a ms rest g h = rw g (type_begins t ms rest h)
  key_begins (forms.Arrow of cut) t a ms rest g h = rw (then_is (C of) (Then (CutSpelled cut) (OneSign signs.Arrow)) a (ms ++ rest) g) (start of g.front (g.back ++ (ms ++ rest)) g.first)
  key_begins (forms.Word name) t a ms rest g h =
      rw (then_is (One name_of name) (OneSign signs.Colon) a (ms ++ rest) g) (let l = one_lead name_of 22 name_class name g.front (g.back ++ (ms ++ rest)) g.first in (omega arith, omega arith))
  key_begins (forms.Key::Lit at of) t a ms rest g h =
      rw (then_is (At at (One literal_of of)) (OneSign signs.Colon) a (ms ++ rest) g) (let l = one_lead literal_of 23 literal_class of g.front (g.back ++ (ms ++ rest)) g.first.spells in (omega arith, omega arith))

  entry_again : (e : Entry) (at : ℕ) → at ≡ (out-Entry e).at → entry_of at (out-Entry e).occur (out-Entry e).key (out-Entry e).body ≡ e
  entry_again e at h = rw h (roll-out-Entry e)

  occur_begins : (o : Option Occur) (a more : List Mark) → OccurSpelled o a → Begins (lead more) → 16 < lead (a ++ more)
  occur_begins None a more g b = rw g b.0
  occur_begins (Some o) a more g b = let l = one_lead occur_of 24 occur_class o a more g in omega arith

  keyed_begins : (e : Entry) (ms rest : List Mark) → Then (KeySpelled C (out-Key (out-Entry e).key)) (TypeSpelled C (out-Entry e).body) ms → Begins (lead (ms ++ rest))
  keyed_begins e ms rest b = rw (then_is (KeySpelled C (out-Key (out-Entry e).key)) (TypeSpelled C (out-Entry e).body) ms rest b) (key_begins (out-Key (out-Entry e).key) (out-Entry e).body b.front b.back rest b.first b.second)

  abbrev Keyed : Entry → List Mark → Type 0
  Keyed e = Then (KeySpelled C (out-Key (out-Entry e).key)) (TypeSpelled C (out-Entry e).body)

  entry_begins : (e : Entry) (ms rest : List Mark) → EntrySpelled C e ms → 16 < lead (ms ++ rest)
  entry_begins e ms rest h =
      rw (then_is (OccurSpelled (out-Entry e).occur) (Keyed e) ms rest h.spells)
      (occur_begins (out-Entry e).occur h.spells.front (h.spells.back ++ rest) h.spells.first (keyed_begins e h.spells.back rest h.spells.second))

  entry_have : (e : Entry) (ms : List Mark) → EntrySpelled C e ms → 0 < length ms
  entry_have e ms h = some_lead ms (entry_begins e ms [] h)

  entry_is : (e : Entry) (ms rest : List Mark) → EntrySpelled C e ms → AfterEntry (lead rest) → entry_at one (ms ++ rest) ≡ taken e rest
  unfolding entry_at
  entry_is e ms rest h f =
      let o = h.spells in
      let b = o.second in
      let at = place (ms ++ rest) in
      let here : place (ms ++ rest) ≡ (out-Entry e).at = place_front ms rest (entry_have e ms h) ∙ h.starts in
      let key : key_from (out-Key (out-Entry e).key) ≡ (out-Entry e).key = key_back (out-Entry e).key in
      let split : ms ++ rest ≡ o.front ++ (o.back ++ rest) = then_is (OccurSpelled (out-Entry e).occur) (Keyed e) ms rest o in
      let body : body_at one (o.back ++ rest) ≡ taken ((out-Entry e).key, (out-Entry e).body) rest =
      ap (body_at one) (then_is (KeySpelled C (out-Key (out-Entry e).key)) (TypeSpelled C (out-Entry e).body) o.back rest b) ∙ body_is (out-Key (out-Entry e).key) (out-Entry e).body b.front b.back rest b.first b.second f ∙ ap (λ (k : Key). taken (k, (out-Entry e).body) rest) key in
      let first : occur_at (ms ++ rest) ≡ taken (out-Entry e).occur (o.back ++ rest) = ap occur_at split ∙ occur_is (out-Entry e).occur o.front (o.back ++ rest) o.first (keyed_begins e o.back rest b).1 in
      after_is occur_at (λ o. after (body_at one) (λ k. taken (entry_of at o k.0 k.1))) (out-Entry e).occur (ms ++ rest) (o.back ++ rest) first
      ∙ after_is (body_at one) (λ k. taken (entry_of at (out-Entry e).occur k.0 k.1)) ((out-Entry e).key, (out-Entry e).body) (o.back ++ rest) rest body
      ∙ ap (λ (x : Entry). taken x rest) (entry_again e at here)

  told_double : Told 5
  told_double = (omega arith, omega arith, omega arith)

  in_way_is : (e : Entry) (ms rest : List Mark) → MaybeComma (EntrySpelled C e) ms → AfterInWay (lead rest) → entry_in_way one (ms ++ rest) ≡ taken e rest
  unfolding entry_in_way
  in_way_is e ms rest (inl h) f =
      after_is (entry_at one) (λ e. skip_comma e) e (ms ++ rest) rest (entry_is e ms rest h (f.0, f.1, f.2, f.3, f.4, f.5, f.6))
      ∙ on_no (sign_of signs.Comma) 11 (sign_class_of signs.Comma told_comma) (λ _. taken e) (taken e) rest f.7
  in_way_is e ms rest (inr h) f =
      let l : lead (h.back ++ rest) ≡ 11 = one_lead (sign_of signs.Comma) 11 (sign_class_of signs.Comma told_comma) tt h.back rest h.second in
      let g : AfterEntry (lead (h.back ++ rest)) = (omega arith, omega arith, omega arith, omega arith, omega arith, omega arith, omega arith) in
      rw (then_is (EntrySpelled C e) (OneSign signs.Comma) ms rest h)
      (after_is (entry_at one) (λ e. skip_comma e) e (h.front ++ (h.back ++ rest)) (h.back ++ rest) (entry_is e h.front (h.back ++ rest) h.first g)
      ∙ on_one (sign_of signs.Comma) (λ _. taken e) (taken e) tt h.back rest h.second)

  in_way_begins : (e : Entry) (ms rest : List Mark) → MaybeComma (EntrySpelled C e) ms → 16 < lead (ms ++ rest)
  in_way_begins e ms rest (inl h) = entry_begins e ms rest h
  in_way_begins e ms rest (inr h) = rw (then_is (EntrySpelled C e) (OneSign signs.Comma) ms rest h) (entry_begins e h.front (h.back ++ rest) h.first)

  in_way_have : (e : Entry) (ms rest : List Mark) → MaybeComma (EntrySpelled C e) ms → 0 < length ms
  in_way_have e ms rest h = some_lead ms (in_way_begins e ms [] h)

  -- ---- groups

  module _ (close : Sign) (closes : (13 < number_of close) × (number_of close ≤ 16)) where
    told_close : Told (number_of close)
    told_close = (omega arith, omega arith, omega arith)

    way_goes_on : (ms : List Mark) → 16 < lead ms → goes_on close ms ≡ true
    way_goes_on ms lt = rw (begins_no (sign_of signs.DoubleSlash) 5 (sign_class_of signs.DoubleSlash told_double) ms (omega arith), begins_no (sign_of close) (number_of close) (sign_class_of close told_close) ms (omega arith)) refl

    in_way_goes : (e : Entry) (ms rest : List Mark) → MaybeComma (EntrySpelled C e) ms → (goes_on close (ms ++ rest) ≡ true) × AfterInWay (lead (ms ++ rest))
    in_way_goes e ms rest h =
        let lt = in_way_begins e ms rest h in
        (way_goes_on (ms ++ rest) lt, (omega arith, omega arith, omega arith, omega arith, omega arith, omega arith, omega arith, omega arith))

    entries_are : (es : List Entry) (ms rest : List Mark) → EntriesSpelled C es ms → AfterInWay (lead rest) → goes_on close rest ≡ false → each (goes_on close) (entry_in_way one) (ms ++ rest) ≡ taken es rest
    entries_are es ms rest h f apart = each_is (λ e. MaybeComma (EntrySpelled C e)) (goes_on close) (entry_in_way one) AfterInWay in_way_have in_way_is in_way_goes es ms rest h f apart

    stops_at : {A : Type 0} (table : Mark → Option A) (x : A) (ms rest : List Mark) → One table x ms → begins table (ms ++ rest) ≡ true
    stops_at table x ms rest h = begins_yes table x ms rest h

    or_true : (a : Bool) → (a || true) ≡ true
    or_true true = refl
    or_true false = refl

    abbrev behind_entries : Reader (List WayTree) → ℕ → List Entry → Reader (List WayTree)
    behind_entries ways at es = on (sign_of signs.DoubleSlash) (λ _. after ways (λ ws. taken (way_of at es ∷ ws))) (after (token (sign_of close)) (λ _. taken (way_of at es ∷ [])))

    way_again : (w : WayTree) (at : ℕ) → at ≡ (out-WayTree w).at → way_of at (out-WayTree w).entries ≡ w
    way_again w at h = rw h (roll-out-WayTree w)

    ways_are : (ws : List WayTree) (ms rest : List Mark) (n : ℕ) → WaysSpelled C close ws ms → length ms < n → ways_at one close n (ms ++ rest) ≡ taken ws rest
    unfolding ways_at
    ways_are ws ms rest zero h lt = absurd (omega arith)
    ways_are [] ms rest (suc n) h lt = absurd h
    ways_are (w ∷ []) ms rest (suc n) h lt =
        let es = (out-WayTree w).entries in
        let b = h.spells in
        let at = place (ms ++ rest) in
        let l : lead (b.back ++ rest) ≡ number_of close = one_lead (sign_of close) (number_of close) (sign_class_of close told_close) tt b.back rest b.second in
        let some : 0 < length ms = omega (arith, ap length b.whole, length-append b.front b.back, ap length b.second.alone) in
        let here : place (ms ++ rest) ≡ (out-WayTree w).at = place_front ms rest some ∙ h.starts in
        let stop : goes_on close (b.back ++ rest) ≡ false = ap (λ (v : Bool). not (begins (sign_of signs.DoubleSlash) (b.back ++ rest) || v)) (begins_yes (sign_of close) tt b.back rest b.second) ∙ ap not (or_true (begins (sign_of signs.DoubleSlash) (b.back ++ rest))) in
        let f : AfterInWay (lead (b.back ++ rest)) = (omega arith, omega arith, omega arith, omega arith, omega arith, omega arith, omega arith, omega arith) in
        let n5 : lead (b.back ++ rest) ≢ 5 = omega arith in
        after_is (each (goes_on close) (entry_in_way one)) (behind_entries (ways_at one close n) at) es (ms ++ rest) (b.back ++ rest)
        (ap (each (goes_on close) (entry_in_way one)) (then_is (EntriesSpelled C es) (OneSign close) ms rest b) ∙ entries_are es b.front (b.back ++ rest) b.first f stop)
        ∙ on_no (sign_of signs.DoubleSlash) 5 (sign_class_of signs.DoubleSlash told_double) (λ _. after (ways_at one close n) (λ ws. taken (way_of at es ∷ ws))) (after (token (sign_of close)) (λ _. taken (way_of at es ∷ []))) (b.back ++ rest) n5
        ∙ after_is (token (sign_of close)) (λ _. taken (way_of at es ∷ [])) tt (b.back ++ rest) rest (token_is (sign_of close) tt b.back rest b.second)
        ∙ ap (λ (v : WayTree). taken (v ∷ []) rest) (way_again w at here)
    ways_are (w ∷ v ∷ ws) ms rest (suc n) h lt =
        let es = (out-WayTree w).entries in
        let b = h.spells in
        let c = b.second in
        let at = place (ms ++ rest) in
        let back : b.back ++ rest ≡ c.front ++ (c.back ++ rest) = then_is (OneSign signs.DoubleSlash) (WaysSpelled C close (v ∷ ws)) b.back rest c in
        let l : lead (b.back ++ rest) ≡ 5 = ap lead back ∙ one_lead (sign_of signs.DoubleSlash) 5 (sign_class_of signs.DoubleSlash told_double) tt c.front (c.back ++ rest) c.first in
        let some : 0 < length ms = omega (arith, ap length b.whole, length-append b.front b.back, ap length c.whole, length-append c.front c.back, ap length c.first.alone) in
        let less : length c.back < n = omega (arith, ap length b.whole, length-append b.front b.back, ap length c.whole, length-append c.front c.back, ap length c.first.alone) in
        let here : place (ms ++ rest) ≡ (out-WayTree w).at = place_front ms rest some ∙ h.starts in
        let double : begins (sign_of signs.DoubleSlash) (b.back ++ rest) ≡ true = ap (begins (sign_of signs.DoubleSlash)) back ∙ begins_yes (sign_of signs.DoubleSlash) tt c.front (c.back ++ rest) c.first in
        let stop : goes_on close (b.back ++ rest) ≡ false = ap (λ (v : Bool). not (v || begins (sign_of close) (b.back ++ rest))) double in
        let f : AfterInWay (lead (b.back ++ rest)) = (omega arith, omega arith, omega arith, omega arith, omega arith, omega arith, omega arith, omega arith) in
        after_is (each (goes_on close) (entry_in_way one)) (behind_entries (ways_at one close n) at) es (ms ++ rest) (b.back ++ rest)
        (ap (each (goes_on close) (entry_in_way one)) (then_is (EntriesSpelled C es) (Then (OneSign signs.DoubleSlash) (WaysSpelled C close (v ∷ ws))) ms rest b) ∙ entries_are es b.front (b.back ++ rest) b.first f stop)
        ∙ ap (behind_entries (ways_at one close n) at es) back
        ∙ on_one (sign_of signs.DoubleSlash) (λ _. after (ways_at one close n) (λ ws. taken (way_of at es ∷ ws))) (after (token (sign_of close)) (λ _. taken (way_of at es ∷ []))) tt c.front (c.back ++ rest) c.first
        ∙ after_is (ways_at one close n) (λ ws. taken (way_of at es ∷ ws)) (v ∷ ws) (c.back ++ rest) rest (ways_are (v ∷ ws) c.back rest n c.second less)
        ∙ ap (λ (u : WayTree). taken (u ∷ v ∷ ws) rest) (way_again w at here)

    ways_have : (ws : List WayTree) (ms : List Mark) → WaysSpelled C close ws ms → 0 < length ms
    ways_have [] ms h = absurd h
    ways_have (w ∷ []) ms h = let b = h.spells in omega (arith, ap length b.whole, length-append b.front b.back, ap length b.second.alone)
    ways_have (w ∷ v ∷ ws) ms h = let b = h.spells in let c = b.second in omega (arith, ap length b.whole, length-append b.front b.back, ap length c.whole, length-append c.front c.back, ap length c.first.alone)

    group_is : (g : GroupTree) (ms rest : List Mark) → GroupSpelled C close g ms → group_at one close (ms ++ rest) ≡ taken g rest
    unfolding group_at
    group_is g ms rest h =
        let here : place (ms ++ rest) ≡ (out-GroupTree g).at = place_front ms rest (ways_have (out-GroupTree g).ways ms h.spells) ∙ h.starts in
        made_is (group_of (place (ms ++ rest))) (λ ms. ways_at one close (suc (length ms)) ms) (out-GroupTree g).ways (ms ++ rest) rest
        (ways_are (out-GroupTree g).ways ms rest (suc (length (ms ++ rest))) h.spells (omega (arith, length-append ms rest)))
        ∙ ap (λ (u : GroupTree). taken u rest) (rw here (roll-out-GroupTree g))

  -- ---- forms

  args_are : (args : List Type1) (ms rest : List Mark) → Angled C args ms → lead rest ≢ 12 → angled one (ms ++ rest) ≡ taken args rest
  args_are args ms rest h f = angled_is C one AfterChoice have reads (omega arith, omega arith, omega arith) (omega arith, omega arith, omega arith) args ms rest h f

  name_and_args_is : (f : Name → List Type1 → Form) (name : Name) (args : List Type1) (ms rest : List Mark) → NamedSpelled C name args ms → lead rest ≢ 12 → name_and_args one f (ms ++ rest) ≡ taken (f name args) rest
  unfolding name_and_args
  name_and_args_is f name args ms rest h g =
      rw (then_is (One name_of name) (Angled C args) ms rest h)
      (after_is (token name_of) (λ n. made (f n) (angled one)) name (h.front ++ (h.back ++ rest)) (h.back ++ rest) (token_is name_of name h.front (h.back ++ rest) h.first)
      ∙ made_is (f name) (angled one) args (h.back ++ rest) rest (args_are args h.back rest h.second g))

  to_prefixed : (ms : List Mark) → lead ms ≢ 22 → lead ms ≢ 23 → lead ms ≢ 25 → form_at one ms ≡ prefixed_at one ms
  unfolding form_at
  to_prefixed ms a b c =
      on_no literal_of 23 literal_class (λ l. taken (Lit l)) (on name_of (λ n. made (Named n) (angled one)) (on hash_of (behind_hash one) (prefixed_at one))) ms b
      ∙ on_no name_of 22 name_class (λ n. made (Named n) (angled one)) (on hash_of (behind_hash one) (prefixed_at one)) ms a
      ∙ on_no hash_of 25 hash_class (behind_hash one) (prefixed_at one) ms c

  to_bracket : (ms : List Mark) → 16 < lead ms → lead ms < 20 → form_at one ms ≡ bracket_at one ms
  unfolding prefixed_at
  to_bracket ms a b =
      let n22 : lead ms ≢ 22 = omega arith in
      let n23 : lead ms ≢ 23 = omega arith in
      let n25 : lead ms ≢ 25 = omega arith in
      let n20 : lead ms ≢ 20 = omega arith in
      let n21 : lead ms ≢ 21 = omega arith in
      to_prefixed ms n22 n23 n25
      ∙ on_no (sign_of signs.Tilde) 20 (sign_class_of signs.Tilde told_tilde) (λ _. name_and_args one Unwrap) (on (sign_of signs.Ampersand) (λ _. behind_ampersand one) (bracket_at one)) ms n20
      ∙ on_no (sign_of signs.Ampersand) 21 (sign_class_of signs.Ampersand told_ampersand) (λ _. behind_ampersand one) (bracket_at one) ms n21

  abbrev Bracketed : Sign → Sign → GroupTree → List Mark → Type 0
  Bracketed opening close g = Then (OneSign opening) (GroupSpelled C close g)

  abbrev in_brackets : Reader Form
  in_brackets = on (sign_of signs.OpenBracket) (λ _. made ArrayOf (group_at one signs.CloseBracket)) stuck

  abbrev in_braces : Reader Form
  in_braces = on (sign_of signs.OpenBrace) (λ _. made MapOf (group_at one signs.CloseBrace)) in_brackets

  paren_is : (g : GroupTree) (ms rest : List Mark) → Bracketed signs.OpenParen signs.CloseParen g ms → form_at one (ms ++ rest) ≡ taken (Paren g) rest
  unfolding bracket_at
  paren_is g ms rest h =
      let l = one_lead (sign_of signs.OpenParen) 17 (sign_class_of signs.OpenParen told_paren) tt h.front (h.back ++ rest) h.first in
      rw (then_is (OneSign signs.OpenParen) (GroupSpelled C signs.CloseParen g) ms rest h)
      (to_bracket (h.front ++ (h.back ++ rest)) (omega arith) (omega arith)
      ∙ on_one (sign_of signs.OpenParen) (λ _. made Paren (group_at one signs.CloseParen)) in_braces tt h.front (h.back ++ rest) h.first
      ∙ made_is Paren (group_at one signs.CloseParen) g (h.back ++ rest) rest (group_is signs.CloseParen (omega arith, omega arith) g h.back rest h.second))

  map_is : (g : GroupTree) (ms rest : List Mark) → Bracketed signs.OpenBrace signs.CloseBrace g ms → form_at one (ms ++ rest) ≡ taken (MapOf g) rest
  unfolding bracket_at
  map_is g ms rest h =
      let l = one_lead (sign_of signs.OpenBrace) 19 (sign_class_of signs.OpenBrace told_brace) tt h.front (h.back ++ rest) h.first in
      let n17 : lead (h.front ++ (h.back ++ rest)) ≢ 17 = omega arith in
      rw (then_is (OneSign signs.OpenBrace) (GroupSpelled C signs.CloseBrace g) ms rest h)
      (to_bracket (h.front ++ (h.back ++ rest)) (omega arith) (omega arith)
      ∙ on_no (sign_of signs.OpenParen) 17 (sign_class_of signs.OpenParen told_paren) (λ _. made Paren (group_at one signs.CloseParen)) in_braces (h.front ++ (h.back ++ rest)) n17
      ∙ on_one (sign_of signs.OpenBrace) (λ _. made MapOf (group_at one signs.CloseBrace)) in_brackets tt h.front (h.back ++ rest) h.first
      ∙ made_is MapOf (group_at one signs.CloseBrace) g (h.back ++ rest) rest (group_is signs.CloseBrace (omega arith, omega arith) g h.back rest h.second))

  array_is : (g : GroupTree) (ms rest : List Mark) → Bracketed signs.OpenBracket signs.CloseBracket g ms → form_at one (ms ++ rest) ≡ taken (ArrayOf g) rest
  unfolding bracket_at
  array_is g ms rest h =
      let l = one_lead (sign_of signs.OpenBracket) 18 (sign_class_of signs.OpenBracket told_bracket) tt h.front (h.back ++ rest) h.first in
      let n17 : lead (h.front ++ (h.back ++ rest)) ≢ 17 = omega arith in
      let n19 : lead (h.front ++ (h.back ++ rest)) ≢ 19 = omega arith in
      rw (then_is (OneSign signs.OpenBracket) (GroupSpelled C signs.CloseBracket g) ms rest h)
      (to_bracket (h.front ++ (h.back ++ rest)) (omega arith) (omega arith)
      ∙ on_no (sign_of signs.OpenParen) 17 (sign_class_of signs.OpenParen told_paren) (λ _. made Paren (group_at one signs.CloseParen)) in_braces (h.front ++ (h.back ++ rest)) n17
      ∙ on_no (sign_of signs.OpenBrace) 19 (sign_class_of signs.OpenBrace told_brace) (λ _. made MapOf (group_at one signs.CloseBrace)) in_brackets (h.front ++ (h.back ++ rest)) n19
      ∙ on_one (sign_of signs.OpenBracket) (λ _. made ArrayOf (group_at one signs.CloseBracket)) stuck tt h.front (h.back ++ rest) h.first
      ∙ made_is ArrayOf (group_at one signs.CloseBracket) g (h.back ++ rest) rest (group_is signs.CloseBracket (omega arith, omega arith) g h.back rest h.second))

  unwrap_is : (name : Name) (args : List Type1) (ms rest : List Mark) → Then (OneSign signs.Tilde) (NamedSpelled C name args) ms → lead rest ≢ 12 → form_at one (ms ++ rest) ≡ taken (Unwrap name args) rest
  unfolding prefixed_at
  unwrap_is name args ms rest h f =
      let l = one_lead (sign_of signs.Tilde) 20 (sign_class_of signs.Tilde told_tilde) tt h.front (h.back ++ rest) h.first in
      let n22 : lead (h.front ++ (h.back ++ rest)) ≢ 22 = omega arith in
      let n23 : lead (h.front ++ (h.back ++ rest)) ≢ 23 = omega arith in
      let n25 : lead (h.front ++ (h.back ++ rest)) ≢ 25 = omega arith in
      rw (then_is (OneSign signs.Tilde) (NamedSpelled C name args) ms rest h)
      (to_prefixed (h.front ++ (h.back ++ rest)) n22 n23 n25
      ∙ on_one (sign_of signs.Tilde) (λ _. name_and_args one Unwrap) (on (sign_of signs.Ampersand) (λ _. behind_ampersand one) (bracket_at one)) tt h.front (h.back ++ rest) h.first
      ∙ name_and_args_is Unwrap name args h.back rest h.second f)

  to_ampersand : (ms rest : List Mark) → OneSign signs.Ampersand ms → form_at one (ms ++ rest) ≡ behind_ampersand one rest
  unfolding prefixed_at
  to_ampersand ms rest h =
      let l = one_lead (sign_of signs.Ampersand) 21 (sign_class_of signs.Ampersand told_ampersand) tt ms rest h in
      let n20 : lead (ms ++ rest) ≢ 20 = omega arith in
      let n22 : lead (ms ++ rest) ≢ 22 = omega arith in
      let n23 : lead (ms ++ rest) ≢ 23 = omega arith in
      let n25 : lead (ms ++ rest) ≢ 25 = omega arith in
      to_prefixed (ms ++ rest) n22 n23 n25
      ∙ on_no (sign_of signs.Tilde) 20 (sign_class_of signs.Tilde told_tilde) (λ _. name_and_args one Unwrap) (on (sign_of signs.Ampersand) (λ _. behind_ampersand one) (bracket_at one)) (ms ++ rest) n20
      ∙ on_one (sign_of signs.Ampersand) (λ _. behind_ampersand one) (bracket_at one) tt ms rest h

  enum_is : (g : GroupTree) (ms rest : List Mark) → Then (OneSign signs.Ampersand) (Bracketed signs.OpenParen signs.CloseParen g) ms → form_at one (ms ++ rest) ≡ taken (Enum g) rest
  unfolding behind_ampersand
  enum_is g ms rest h =
      let b = h.second in
      rw (then_is (OneSign signs.Ampersand) (Bracketed signs.OpenParen signs.CloseParen g) ms rest h)
      (to_ampersand h.front (h.back ++ rest) h.first
      ∙ ap (behind_ampersand one) (then_is (OneSign signs.OpenParen) (GroupSpelled C signs.CloseParen g) h.back rest b)
      ∙ on_one (sign_of signs.OpenParen) (λ _. made Enum (group_at one signs.CloseParen)) (name_and_args one EnumName) tt b.front (b.back ++ rest) b.first
      ∙ made_is Enum (group_at one signs.CloseParen) g (b.back ++ rest) rest (group_is signs.CloseParen (omega arith, omega arith) g b.back rest b.second))

  enum_name_is : (name : Name) (args : List Type1) (ms rest : List Mark) → Then (OneSign signs.Ampersand) (NamedSpelled C name args) ms → lead rest ≢ 12 → form_at one (ms ++ rest) ≡ taken (EnumName name args) rest
  unfolding behind_ampersand
  enum_name_is name args ms rest h f =
      let b = h.second in
      let split : h.back ++ rest ≡ b.front ++ (b.back ++ rest) = then_is (One name_of name) (Angled C args) h.back rest b in
      let l : lead (h.back ++ rest) ≡ 22 = ap lead split ∙ one_lead name_of 22 name_class name b.front (b.back ++ rest) b.first in
      let n17 : lead (h.back ++ rest) ≢ 17 = omega arith in
      rw (then_is (OneSign signs.Ampersand) (NamedSpelled C name args) ms rest h)
      (to_ampersand h.front (h.back ++ rest) h.first
      ∙ on_no (sign_of signs.OpenParen) 17 (sign_class_of signs.OpenParen told_paren) (λ _. made Enum (group_at one signs.CloseParen)) (name_and_args one EnumName) (h.back ++ rest) n17
      ∙ name_and_args_is EnumName name args h.back rest b f)

  literal_form_is : (l : Literal) (ms rest : List Mark) → One literal_of l ms → form_at one (ms ++ rest) ≡ taken (Lit l) rest
  unfolding form_at
  literal_form_is l ms rest h = on_one literal_of (λ l. taken (Lit l)) (on name_of (λ n. made (Named n) (angled one)) (on hash_of (behind_hash one) (prefixed_at one))) l ms rest h

  named_is : (name : Name) (args : List Type1) (ms rest : List Mark) → NamedSpelled C name args ms → lead rest ≢ 12 → form_at one (ms ++ rest) ≡ taken (Named name args) rest
  unfolding form_at
  named_is name args ms rest h f =
      let l = one_lead name_of 22 name_class name h.front (h.back ++ rest) h.first in
      let n23 : lead (h.front ++ (h.back ++ rest)) ≢ 23 = omega arith in
      rw (then_is (One name_of name) (Angled C args) ms rest h)
      (on_no literal_of 23 literal_class (λ l. taken (Lit l)) (on name_of (λ n. made (Named n) (angled one)) (on hash_of (behind_hash one) (prefixed_at one))) (h.front ++ (h.back ++ rest)) n23
      ∙ on_one name_of (λ n. made (Named n) (angled one)) (on hash_of (behind_hash one) (prefixed_at one)) name h.front (h.back ++ rest) h.first
      ∙ made_is (Named name) (angled one) args (h.back ++ rest) rest (args_are args h.back rest h.second f))

  to_hash : (hash : Option ℕ × Bound) (ms rest : List Mark) → One hash_of hash ms → form_at one (ms ++ rest) ≡ behind_hash one hash rest
  unfolding form_at
  to_hash hash ms rest h =
      let l = one_lead hash_of 25 hash_class hash ms rest h in
      let n23 : lead (ms ++ rest) ≢ 23 = omega arith in
      let n22 : lead (ms ++ rest) ≢ 22 = omega arith in
      on_no literal_of 23 literal_class (λ l. taken (Lit l)) (on name_of (λ n. made (Named n) (angled one)) (on hash_of (behind_hash one) (prefixed_at one))) (ms ++ rest) n23
      ∙ on_no name_of 22 name_class (λ n. made (Named n) (angled one)) (on hash_of (behind_hash one) (prefixed_at one)) (ms ++ rest) n22
      ∙ on_one hash_of (behind_hash one) (prefixed_at one) hash ms rest h

  bare_hash : (hash : Option ℕ × Bound) (rest : List Mark) (b : Bool) → lead rest ≢ 3 → cond b (on tag_of (λ _. tag_at one hash.1) (taken (Hash hash.0 hash.1)) rest) (taken (Hash hash.0 hash.1) rest) ≡ taken (Hash hash.0 hash.1) rest
  bare_hash hash rest true f = on_no tag_of 3 tag_class (λ _. tag_at one hash.1) (taken (Hash hash.0 hash.1)) rest f
  bare_hash hash rest false f = refl

  hash_is : (hash : Option ℕ × Bound) (ms rest : List Mark) → One hash_of hash ms → lead rest ≢ 3 → form_at one (ms ++ rest) ≡ taken (Hash hash.0 hash.1) rest
  unfolding behind_hash
  hash_is hash ms rest h f = to_hash hash ms rest h ∙ bare_hash hash rest (six_major hash.0) f

  tagged_is : (number : Bound) (body : Alts) (ms rest : List Mark) → FormSpelled C (forms.Tagged number body) ms → form_at one (ms ++ rest) ≡ taken (Tagged number body) rest
  unfolding behind_hash tag_at
  tagged_is number body ms rest h =
      let t = h.second in
      let b = t.second in
      let l : lead (b.back ++ rest) ≡ 14 = one_lead (sign_of signs.CloseParen) 14 (sign_class_of signs.CloseParen told_close_paren) tt b.back rest b.second in
      let f : AfterType (lead (b.back ++ rest)) = (omega arith, omega arith, omega arith, omega arith) in
      rw (then_is (One hash_of (Some 6, number)) (Then (One tag_of tt) (Then (TypeSpelled C body) (OneSign signs.CloseParen))) ms rest h)
      (to_hash (Some 6, number) h.front (h.back ++ rest) h.first
      ∙ ap (on tag_of (λ _. after (type_at one) (λ t. after (token (sign_of signs.CloseParen)) (λ _. taken (Tagged number t)))) (taken (Hash (Some 6) number))) (then_is (One tag_of tt) (Then (TypeSpelled C body) (OneSign signs.CloseParen)) h.back rest t)
      ∙ on_one tag_of (λ _. after (type_at one) (λ t. after (token (sign_of signs.CloseParen)) (λ _. taken (Tagged number t)))) (taken (Hash (Some 6) number)) tt t.front (t.back ++ rest) t.first
      ∙ ap (after (type_at one) (λ t. after (token (sign_of signs.CloseParen)) (λ _. taken (Tagged number t)))) (then_is (TypeSpelled C body) (OneSign signs.CloseParen) t.back rest b)
      ∙ after_is (type_at one) (λ t. after (token (sign_of signs.CloseParen)) (λ _. taken (Tagged number t))) body (b.front ++ (b.back ++ rest)) (b.back ++ rest) (type_is body b.front (b.back ++ rest) b.first f)
      ∙ after_is (token (sign_of signs.CloseParen)) (λ _. taken (Tagged number body)) tt (b.back ++ rest) rest (token_is (sign_of signs.CloseParen) tt b.back rest b.second))

  form_is : (f : AForm) (ms rest : List Mark) → FormSpelled C f ms → AfterOperand (lead rest) → form_at one (ms ++ rest) ≡ taken (form_from f) rest
  unfolding form_from
  form_is (forms.Form::Lit l) ms rest h f = literal_form_is l ms rest h
  form_is (forms.Named name args) ms rest h f = named_is name args ms rest h f.0
  form_is (forms.Paren g) ms rest h f = paren_is g ms rest h
  form_is (forms.MapOf g) ms rest h f = map_is g ms rest h
  form_is (forms.ArrayOf g) ms rest h f = array_is g ms rest h
  form_is (forms.Unwrap name args) ms rest h f = unwrap_is name args ms rest h f.0
  form_is (forms.Enum g) ms rest h f = enum_is g ms rest h
  form_is (forms.EnumName name args) ms rest h f = enum_name_is name args ms rest h f.0
  form_is (forms.Tagged number body) ms rest h f = tagged_is number body ms rest h
  form_is (forms.Hash major arg) ms rest h f = hash_is (major, arg) ms rest h f.1

  -- ---- choices of a type

  operand_begins : (t : Type2) (ms : List Mark) → OperandSpelled C t ms → 0 < length ms
  operand_begins t ms h = some_lead ms (form_first C (out-Form (out-Type2 t).form) ms [] h.spells (omega arith)).0.0

  operand_is : (t : Type2) (ms rest : List Mark) → OperandSpelled C t ms → AfterOperand (lead rest) → operand_at one (ms ++ rest) ≡ taken t rest
  unfolding operand_at
  operand_is t ms rest h f =
      let here : place (ms ++ rest) ≡ (out-Type2 t).at = place_front ms rest (operand_begins t ms h) ∙ h.starts in
      let form : form_from (out-Form (out-Type2 t).form) ≡ (out-Type2 t).form = form_back (out-Type2 t).form in
      let again : operand_of (place (ms ++ rest)) (form_from (out-Form (out-Type2 t).form)) ≡ t = ap (λ (n : ℕ). operand_of n (form_from (out-Form (out-Type2 t).form))) here ∙ ap (operand_of (out-Type2 t).at) form ∙ roll-out-Type2 t in
      made_is (operand_of (place (ms ++ rest))) (form_at one) (form_from (out-Form (out-Type2 t).form)) (ms ++ rest) rest (form_is (out-Form (out-Type2 t).form) ms rest h.spells f)
      ∙ ap (λ (u : Type2). taken u rest) again

  operation_is : (o : Option Operation) (ms rest : List Mark) → OperationSpelled C o ms → AfterChoice (lead rest) → operation_at one (ms ++ rest) ≡ taken o rest
  unfolding operation_at
  operation_is None ms rest h f = rw h (on_no operator_of 6 operator_class (λ k. made (λ t. Some (operation_of k.0 k.1 t)) (operand_at one)) (taken None) rest f.2)
  operation_is (Some o) ms rest h f =
      let x : ℕ × OpKind = ((out-Operation o).at, (out-Operation o).kind) in
      let right = (out-Operation o).right in
      ap (on operator_of (λ k. made (λ t. Some (operation_of k.0 k.1 t)) (operand_at one)) (taken None)) (then_is (One operator_of x) (OperandSpelled C right) ms rest h)
      ∙ on_one operator_of (λ k. made (λ t. Some (operation_of k.0 k.1 t)) (operand_at one)) (taken None) x h.front (h.back ++ rest) h.first
      ∙ made_is (λ t. Some (operation_of x.0 x.1 t)) (operand_at one) right (h.back ++ rest) rest (operand_is right h.back rest h.second (f.0, f.1))
      ∙ ap (λ (u : Operation). taken (Some u) rest) (roll-out-Operation o)

  behind_operand : (o : Option Operation) (ms rest : List Mark) → OperationSpelled C o ms → AfterChoice (lead rest) → AfterOperand (lead (ms ++ rest))
  behind_operand None ms rest h f = rw h (f.0, f.1)
  behind_operand (Some o) ms rest h f =
      let x : ℕ × OpKind = ((out-Operation o).at, (out-Operation o).kind) in
      let k : lead (ms ++ rest) ≡ 6 = ap lead (then_is (One operator_of x) (OperandSpelled C (out-Operation o).right) ms rest h) ∙ one_lead operator_of 6 operator_class x h.front (h.back ++ rest) h.first in
      (omega arith, omega arith)

  layer_is : (t : Type1) (ms rest : List Mark) → ChoiceSpelled C t ms → AfterChoice (lead rest) → choice_layer one (ms ++ rest) ≡ taken t rest
  unfolding choice_layer
  layer_is t ms rest h f =
      let b = h.spells in
      let left = (out-Type1 t).left in
      let op = (out-Type1 t).op in
      let at = place (ms ++ rest) in
      let some : 0 < length ms = omega (arith, ap length b.whole, length-append b.front b.back, operand_begins left b.front b.first) in
      let here : place (ms ++ rest) ≡ (out-Type1 t).at = place_front ms rest some ∙ h.starts in
      after_is (operand_at one) (λ t. after (operation_at one) (λ o. taken (choice_of at t o))) left (ms ++ rest) (b.back ++ rest)
      (ap (operand_at one) (then_is (OperandSpelled C left) (OperationSpelled C op) ms rest b) ∙ operand_is left b.front (b.back ++ rest) b.first (behind_operand op b.back rest b.second f))
      ∙ after_is (operation_at one) (λ o. taken (choice_of at left o)) op (b.back ++ rest) rest (operation_is op b.back rest b.second f)
      ∙ ap (λ (u : Type1). taken u rest) (rw here (roll-out-Type1 t))

-- ---- at every depth

none_reads : (one : Reader Type1) (t : Type1) (ms rest : List Mark) → ⊥ → AfterChoice (lead rest) → one (ms ++ rest) ≡ taken t rest
none_reads one t ms rest h f = absurd h

within_starts : (n : ℕ) (t : Type1) (ms rest : List Mark) → ChoiceWithin n t ms → Begins (lead (ms ++ rest))
unfolding ChoiceWithin
within_starts zero = choice_starts (λ _ _. ⊥)
within_starts (suc n) = choice_starts (ChoiceWithin n)

within_no_colon : (n : ℕ) (t : Type1) (ms rest : List Mark) → ChoiceWithin n t ms → lead rest ≢ 10 → NoColon (ms ++ rest)
unfolding ChoiceWithin
within_no_colon zero t ms rest h f = (choice_first (λ _ _. ⊥) t ms rest h f).1
within_no_colon (suc n) t ms rest h f = (choice_first (ChoiceWithin n) t ms rest h f).1

within_is : (n m : ℕ) → n < m → (t : Type1) (ms rest : List Mark) → ChoiceWithin n t ms → AfterChoice (lead rest) → choice_at m (ms ++ rest) ≡ taken t rest
unfolding ChoiceWithin choice_at
within_is n zero lt t ms rest h f = absurd (omega arith)
within_is zero (suc m) lt t ms rest h f = layer_is (λ _ _. ⊥) (choice_at m) (none_reads (choice_at m)) (λ t ms rest h. absurd h) (λ t ms rest h f. absurd h) t ms rest h f
within_is (suc n) (suc m) lt t ms rest h f = layer_is (ChoiceWithin n) (choice_at m) (within_is n m (omega arith)) (within_starts n) (within_no_colon n) t ms rest h f

-- ---- rules

name_begins : (n : Name) (ms : List Mark) → One name_of n ms → 0 < length ms
name_begins n ms h = omega (arith, ap length h.alone)

abbrev Anything : ℕ → Type 0
Anything n = Unit {0}

token_name_is : (n : Name) (ms rest : List Mark) → One name_of n ms → Anything (lead rest) → token name_of (ms ++ rest) ≡ taken n rest
token_name_is n ms rest h f = token_is name_of n ms rest h

-- what stands behind a rule: another, or nothing
abbrev BehindRule : ℕ → Type 0
BehindRule n = (n ≡ 0) ⊎ (n ≡ 22)

module _ (C : Type1 → List Mark → Type 0) (one : Reader Type1) (reads : (t : Type1) (ms rest : List Mark) → C t ms → AfterChoice (lead rest) → one (ms ++ rest) ≡ taken t rest)
    (start : (t : Type1) (ms rest : List Mark) → C t ms → Begins (lead (ms ++ rest))) (no_colon : (t : Type1) (ms rest : List Mark) → C t ms → lead rest ≢ 10 → NoColon (ms ++ rest)) where
  behind_rule : (n : ℕ) → BehindRule n → AfterEntry n
  behind_rule n (inl h) = (omega arith, omega arith, omega arith, omega arith, omega arith, omega arith, omega arith)
  behind_rule n (inr h) = (omega arith, omega arith, omega arith, omega arith, omega arith, omega arith, omega arith)

  alone_is : (e : Entry) (ms rest : List Mark) → TypeAlone C e ms → AfterType (lead rest) → assigned one TypeMore (ms ++ rest) ≡ taken e rest
  unfolding assigned
  alone_is e ms rest h f =
      let b = h.body in
      let body = (out-Entry e).body in
      let some : 0 < length ms = some_lead ms (type_begins C one reads start no_colon body ms [] b.spells).0 in
      let here : place (ms ++ rest) ≡ (out-Entry e).at = place_front ms rest some ∙ b.starts in
      let key : keys.Missing ≡ (out-Entry e).key = sym rolls-Missing ∙ ap roll-Key (sym h.key) ∙ roll-out-Key (out-Entry e).key in
      made_is (entry_of (place (ms ++ rest)) None keys.Missing) (type_at one) body (ms ++ rest) rest (type_is C one reads start no_colon body ms rest b.spells f)
      ∙ ap (λ (u : Entry). taken u rest) (ap (λ (k : Key). entry_of (place (ms ++ rest)) None k body) key ∙ ap (λ (o : Option Occur). entry_of (place (ms ++ rest)) o (out-Entry e).key body) (sym h.occur) ∙ rw here (roll-out-Entry e))

  body_of_rule : (a : Assign) (e : Entry) (ms rest : List Mark) → BodySpelled C a e ms → AfterEntry (lead rest) → assigned one a (ms ++ rest) ≡ taken e rest
  unfolding assigned
  body_of_rule Define e ms rest h f = entry_is C one reads start no_colon e ms rest h f
  body_of_rule TypeMore e ms rest h f = alone_is e ms rest h (f.0, f.1, f.2, f.3)
  body_of_rule GroupMore e ms rest h f = entry_is C one reads start no_colon e ms rest h f

  rule_lead : (r : Rule) (ms rest : List Mark) → RuleSpelled C r ms → lead (ms ++ rest) ≡ 22
  rule_lead r ms rest h = ap lead (then_is (One name_of r.name) (Then (Angled (One name_of) r.params) (Then (One assign_of r.assign) (BodySpelled C r.assign r.body))) ms rest h.spells) ∙ one_lead name_of 22 name_class r.name h.spells.front (h.spells.back ++ rest) h.spells.first

  rule_is : (r : Rule) (ms rest : List Mark) → RuleSpelled C r ms → BehindRule (lead rest) → rule_at one (ms ++ rest) ≡ taken r rest
  unfolding rule_at
  rule_is r ms rest h f =
      let n = h.spells in
      let p = n.second in
      let a = p.second in
      let at = place (ms ++ rest) in
      let some : 0 < length ms = omega (arith, ap length n.whole, length-append n.front n.back, ap length n.first.alone) in
      let here : place (ms ++ rest) ≡ r.at = place_front ms rest some ∙ h.starts in
      let k : lead (p.back ++ rest) ≡ 1 = ap lead (then_is (One assign_of r.assign) (BodySpelled C r.assign r.body) p.back rest a) ∙ one_lead assign_of 1 assign_class r.assign a.front (a.back ++ rest) a.first in
      let k12 : lead (p.back ++ rest) ≢ 12 = omega arith in
      after_is (token name_of) (λ n. after (angled (token name_of)) (λ ps. after (token assign_of) (λ a. made (rule_of at n ps a) (assigned one a)))) r.name (ms ++ rest) (n.back ++ rest)
      (ap (token name_of) (then_is (One name_of r.name) (Then (Angled (One name_of) r.params) (Then (One assign_of r.assign) (BodySpelled C r.assign r.body))) ms rest n) ∙ token_is name_of r.name n.front (n.back ++ rest) n.first)
      ∙ after_is (angled (token name_of)) (λ ps. after (token assign_of) (λ a. made (rule_of at r.name ps a) (assigned one a))) r.params (n.back ++ rest) (p.back ++ rest)
      (ap (angled (token name_of)) (then_is (Angled (One name_of) r.params) (Then (One assign_of r.assign) (BodySpelled C r.assign r.body)) n.back rest p) ∙ angled_is (One name_of) (token name_of) Anything name_begins token_name_is tt tt r.params p.front (p.back ++ rest) p.first k12)
      ∙ after_is (token assign_of) (λ a. made (rule_of at r.name r.params a) (assigned one a)) r.assign (p.back ++ rest) (a.back ++ rest)
      (ap (token assign_of) (then_is (One assign_of r.assign) (BodySpelled C r.assign r.body) p.back rest a) ∙ token_is assign_of r.assign a.front (a.back ++ rest) a.first)
      ∙ made_is (rule_of at r.name r.params r.assign) (assigned one r.assign) r.body (a.back ++ rest) rest (body_of_rule r.assign r.body a.back rest a.second (behind_rule (lead rest) f))
      ∙ ap (λ (n : ℕ). taken (rule_of n r.name r.params r.assign r.body) rest) here

  rule_goes : (r : Rule) (ms rest : List Mark) → RuleSpelled C r ms → (is_more (ms ++ rest) ≡ true) × BehindRule (lead (ms ++ rest))
  rule_goes r ms rest h = (more_is (ms ++ rest) (omega (arith, rule_lead r ms rest h)), inr (rule_lead r ms rest h))
    where
      more_is : (ms : List Mark) → 0 < lead ms → is_more ms ≡ true
      more_is [] lt = absurd (omega arith)
      more_is (m ∷ ms) lt = refl

  rule_have : (r : Rule) (ms rest : List Mark) → RuleSpelled C r ms → 0 < length ms
  rule_have r ms rest h = let n = h.spells in omega (arith, ap length n.whole, length-append n.front n.back, ap length n.first.alone)

  rules_are : (rs : List Rule) (ms : List Mark) → RulesSpelled C rs ms → rules_at one ms ≡ taken rs []
  unfolding rules_at
  rules_are [] ms h = absurd h
  rules_are (r ∷ rs) ms h =
      let follows : BehindRule (lead (h.back ++ [])) = each_fol (RuleSpelled C) is_more (rule_at one) BehindRule rule_goes rs h.back [] h.second (inl refl) in
      let split : ms ≡ h.front ++ (h.back ++ []) = sym (append-nil ms) ∙ then_is (RuleSpelled C r) (Each (RuleSpelled C) rs) ms [] h in
      after_is (rule_at one) (λ r. after (each is_more (rule_at one)) (λ rs. taken (r ∷ rs))) r ms (h.back ++ []) (ap (rule_at one) split ∙ rule_is r h.front (h.back ++ []) h.first follows)
      ∙ after_is (each is_more (rule_at one)) (λ rs. taken (r ∷ rs)) rs (h.back ++ []) [] (each_is (RuleSpelled C) is_more (rule_at one) BehindRule rule_have rule_is rule_goes rs h.back [] h.second (inl refl) refl)

pub schema_is : (n m : ℕ) → n < m → (rs : List Rule) (ms : List Mark) → RulesSpelled (ChoiceWithin n) rs ms → rules_at (choice_at m) ms ≡ taken rs []
schema_is n m lt rs ms h = rules_are (ChoiceWithin n) (choice_at m) (within_is n m lt) (within_starts n) (within_no_colon n) rs ms h
