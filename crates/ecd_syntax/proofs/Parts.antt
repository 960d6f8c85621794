-- Every reader of a part of a tree keeps what readers keep.
use Rattle.std.proofs.Common.{◌≡◌, ℕ, zero, suc, ◌<◌, ◌≤◌, inl, inr, Bool, true, false, cond, List, [], ◌∷◌, ◌++◌, length, Option, Some, None, Result, Ok, Err, refl, ap, sym, ◌∙◌, subst, arith, append_assoc}
use Rattle.std.proofs.lemmas.List.{length-append, append-nil}
use Rattle.std.proofs.lemmas.Bool.{eq-eqb, eqb-true}
use Rattle.ecd_lex.specs.declared.token.Sign.{Sign}
use Rattle.ecd_lex.specs.declared.token.Sign.TheVariants as signs
use Rattle.ecd_lex.specs.declared.token.TokenKind.{TokenKind}
use Rattle.ecd_lex.specs.declared.token.TokenKind.TheVariants as kinds
use Rattle.ecd_syntax.specs.declared.tree.Alts.{Alts, out-Alts, out-roll-Alts}
use Rattle.ecd_syntax.specs.declared.tree.Type1.{Type1, out-Type1, out-roll-Type1}
use Rattle.ecd_syntax.specs.declared.tree.Key.{Key, out-Key}
use Rattle.ecd_syntax.specs.declared.tree.Key.TheVariants as keys
use Rattle.ecd_syntax.specs.declared.tree.Key.TheVariants.{outs-Arrow, outs-Missing, outs-Word, outs-Lit}
use Rattle.ecd_syntax.specs.declared.tree.Name.{Name}
use Rattle.ecd_syntax.specs.declared.tree.Occur.{Occur}
use Rattle.ecd_syntax.specs.declared.tree.Type2.{Type2, out-Type2, out-roll-Type2}
use Rattle.ecd_syntax.specs.declared.tree.Operation.{Operation, out-roll-Operation}
use Rattle.ecd_syntax.specs.declared.tree.OpKind.{OpKind}
use Rattle.ecd_syntax.specs.declared.tree.Form.TheOpen as forms
use Rattle.ecd_syntax.specs.Grammar.{AForm}
use Rattle.ecd_syntax.specs.declared.tree.Form.{Form, out-Form}
use Rattle.ecd_syntax.specs.declared.tree.Form.TheVariants.{Lit, Named, Paren, MapOf, ArrayOf, Unwrap, Enum, EnumName, Tagged, Hash, outs-Named, outs-Paren, outs-MapOf, outs-ArrayOf, outs-Unwrap, outs-Enum, outs-EnumName, outs-Tagged, outs-Hash}
use Rattle.ecd_syntax.specs.declared.tree.Form.TheVariants.{outs-Lit as outs-form-Lit}
use Rattle.ecd_lex.specs.declared.token.Bound.{Bound}
use Rattle.ecd_syntax.specs.declared.tree.WayTree.{WayTree, out-roll-WayTree}
use Rattle.ecd_syntax.specs.declared.tree.GroupTree.{GroupTree, out-roll-GroupTree}
use Rattle.ecd_syntax.specs.declared.tree.Entry.{Entry, out-Entry, out-roll-Entry}
use Rattle.ecd_syntax.specs.declared.tree.Literal.{Literal}
use Rattle.ecd_syntax.specs.Marks.{Mark, place, name_of, literal_of, occur_of, hash_of, operator_of, sign_of, tag_of, number_of, said}
use Rattle.ecd_syntax.specs.Grammar.{One, OneSign, Then, At, Listed, Angled, TypeSpelled, OccurSpelled, CutSpelled, KeySpelled, EntrySpelled, MaybeComma, EntriesSpelled, WaysSpelled, GroupSpelled, NamedSpelled, FormSpelled, OperandSpelled, OperationSpelled, ChoiceSpelled}
use Rattle.ecd_syntax.specs.Reading.{Taken, Halted, Reader, ◌>>=◌, taken, stuck, with_rest, choose, on, token, begins, behind, each, more_listed, listed, angled, made, type_at, alts_of, occur_at, colon_behind, body_behind, behind_choice, open_body, colon_body, keyed_body, body_at, entry_at, skip_comma, entry_in_way, goes_on, ways_at, group_at, name_and_args, six_major, tag_at, behind_hash, bracket_at, behind_ampersand, prefixed_at, form_at, operand_at, operation_at, choice_layer, operand_of, operation_of, choice_of, way_of, group_of, entry_of}
use Rattle.ecd_reading.specs.Reading.{after}
use Rattle.ecd_reading.proofs.Readers.{if_reads, if_stopped, if_first, bind_cases, ended, good_bind, good_weak, good_taken, good_stuck, good_on, TestsFirst, begun, begins_tests, left_of}
use Rattle.ecd_syntax.proofs.Readers.{Example, Good, Late, good_token, good_each, good_fueled, good_placed, NonEmpty}

-- ---- examples of single marks

abbrev pub example_mark : TokenKind → Mark
example_mark kind = record { at = 0; kind = kind; opens_tag = false }

abbrev pub single : {A : Type 0} (table : Mark → Option A) (x : A) (kind : TokenKind) → table (example_mark kind) ≡ Some x → Example (One table)
single table x kind e = record { value = x; text = example_mark kind ∷ []; plain = ((refl, refl), tt); spells = record { mark = example_mark kind; alone = refl; is = e } }

sign_example : (sign : Sign) → sign_of sign (example_mark (kinds.Sign sign)) ≡ Some tt
sign_example sign = ap said (eq-eqb (number_of sign) (number_of sign) refl)

pub good_sign : (sign : Sign) → Good (One (sign_of sign)) (token (sign_of sign))
good_sign sign = good_token (sign_of sign) (single (sign_of sign) tt (kinds.Sign sign) (sign_example sign))

pub good_name : Good (One name_of) (token name_of)
good_name = good_token name_of (single name_of (record { at = 0; text = [] }) (kinds.Name []) refl)

pub none_if : {A : Type 0} (o : Option A) → ((x : A) → o ≡ Some x → ⊥) → o ≡ None
none_if None h = refl
none_if (Some x) h = absurd (h x refl)

-- ---- what has a mark

pub one_some : {A : Type 0} {table : Mark → Option A} (x : A) (ms : List Mark) → One table x ms → 0 < length ms
one_some x ms h = omega (arith, ap length h.alone)

pub then_first : {P Q : List Mark → Type 0} (ms : List Mark) → Then P Q ms → ((a : List Mark) → P a → 0 < length a) → 0 < length ms
then_first ms h some = omega (arith, ap length h.whole, length-append h.front h.back, some h.front h.first)

pub then_second : {P Q : List Mark → Type 0} (ms : List Mark) → Then P Q ms → ((a : List Mark) → Q a → 0 < length a) → 0 < length ms
then_second ms h some = omega (arith, ap length h.whole, length-append h.front h.back, some h.back h.second)

pub form_some_at : (C : Type1 → List Mark → Type 0) (f : AForm) (ms : List Mark) → FormSpelled C f ms → 0 < length ms
form_some_at C (forms.Form::Lit l) ms h = one_some l ms h
form_some_at C (forms.Named name args) ms h = then_first ms h (λ a g. one_some name a g)
form_some_at C (forms.Paren g) ms h = then_first ms h (λ a g. one_some tt a g)
form_some_at C (forms.MapOf g) ms h = then_first ms h (λ a g. one_some tt a g)
form_some_at C (forms.ArrayOf g) ms h = then_first ms h (λ a g. one_some tt a g)
form_some_at C (forms.Unwrap name args) ms h = then_first ms h (λ a g. one_some tt a g)
form_some_at C (forms.Enum g) ms h = then_first ms h (λ a g. one_some tt a g)
form_some_at C (forms.EnumName name args) ms h = then_first ms h (λ a g. one_some tt a g)
form_some_at C (forms.Tagged number body) ms h = then_first ms h (λ a g. one_some (Some 6, number) a g)
form_some_at C (forms.Hash major arg) ms h = one_some (major, arg) ms h

pub operand_some : (C : Type1 → List Mark → Type 0) → NonEmpty (OperandSpelled C)
operand_some C t ms h = form_some_at C (out-Form (out-Type2 t).form) ms h.spells

pub layer_some : (C : Type1 → List Mark → Type 0) → NonEmpty (ChoiceSpelled C)
layer_some C t ms h = then_first ms h.spells (operand_some C (out-Type1 t).left)

-- ---- what is made of what was read

pub record Made {A B : Type 0} (f : A → B) (G : A → List Mark → Type 0) (y : B) (ms : List Mark) : Type 0 where
  pub value : A
  pub is : y ≡ f value
  pub spells : G value ms

pub good_made : {A B : Type 0} {G : A → List Mark → Type 0} (f : A → B) (p : Reader A) → Good G p → Good (Made f G) (made f p)
good_made {A} {B} {G} f p good = good_bind p (λ x. taken (f x)) good (λ x. good_taken (f x) (λ a g. record { value = x; is = refl; spells = rw append-nil g }))

pub good_made_as : {A B : Type 0} {G : A → List Mark → Type 0} {K : B → List Mark → Type 0} (f : A → B) (p : Reader A) → ((x : A) (ms : List Mark) → G x ms → K (f x) ms) → Good G p → Good K (made f p)
good_made_as {A} {B} {G} {K} f p conv good = good_bind p (λ x. taken (f x)) good (λ x. good_taken (f x) (λ a g. rw append-nil (conv x a g)))

-- ---- lists

module _ {A : Type 0} (G : A → List Mark → Type 0) (one : Reader A) (good : Good G one) (some : NonEmpty G) where
  listed_some : (sign : Sign) (xs : List A) (ms : List Mark) → Listed sign G xs ms → 0 < length ms
  listed_some sign [] ms h = absurd h
  listed_some sign (x ∷ xs) ms h = then_first ms h (some x)

  next : Sign → A → List Mark → Type 0
  next sign y = Then (OneSign sign) (G y)

  good_next : (sign : Sign) → Good (λ y. Then (OneSign sign) (G y)) (behind (sign_of sign) one)
  good_next sign = good_bind (token (sign_of sign)) (λ _. one) (good_sign sign) (λ u. good_weak one (λ y b g. λ a s. record { front = a; back = b; whole = refl; first = s; second = g }) good)

  good_more_listed : (sign : Sign) (x : A) → Good (λ ys b. (a : List Mark) → G x a → Listed sign G ys (a ++ b)) (more_listed sign one x)
  good_more_listed sign x =
      good_bind (each (begins (sign_of sign)) (behind (sign_of sign) one)) (λ xs. taken (x ∷ xs))
      (good_each (begins (sign_of sign)) (behind (sign_of sign) one) (begins_tests (sign_of sign)) (λ y ms h. then_first ms h (λ a s. one_some tt a s)) (good_next sign))
      (λ xs. good_taken (x ∷ xs) (λ b h a g. record { front = a; back = b; whole = ap (λ (t : List Mark). a ++ t) (append-nil b); first = g; second = h }))

  good_listed : (sign : Sign) → Good (Listed sign G) (listed sign one)
  good_listed sign = good_bind one (λ x. more_listed sign one x) good (λ x. good_more_listed sign x)

  angled_made : (xs : List A) (m : Mark) (a c : List Mark) → sign_of signs.Less m ≡ Some tt → Listed signs.Comma G xs a → OneSign signs.Greater c → Angled G xs (m ∷ (a ++ (c ++ [])))
  angled_made [] m a c e h g = absurd h
  angled_made (x ∷ xs) m a c e h g = record {
    front = m ∷ [];
    back = a ++ (c ++ []);
    whole = refl;
    first = record { mark = m; alone = refl; is = e };
    second = record { front = a; back = c; whole = ap (λ (t : List Mark). a ++ t) (append-nil c); first = h; second = g };
  }

  pub good_angled : Good (Angled G) (angled one)
  unfolding angled
  good_angled =
      good_on (sign_of signs.Less) (λ _. after (listed signs.Comma one) (λ xs. after (token (sign_of signs.Greater)) (λ _. taken xs))) (taken [])
      (λ u. good_bind (listed signs.Comma one) (λ xs. after (token (sign_of signs.Greater)) (λ _. taken xs)) (good_listed signs.Comma)
      (λ xs. good_bind (token (sign_of signs.Greater)) (λ _. taken xs) (good_sign signs.Greater) (λ v. good_taken xs (λ c g a h m e. angled_made xs m a c e h g))))
      (good_taken [] refl)

-- ---- types and entries

module _ (C : Type1 → List Mark → Type 0) (one : Reader Type1) (good : Good C one) (some : NonEmpty C) where
  type_starts : (at : ℕ) (t : Alts) (ms : List Mark) → Made (alts_of at) (Listed signs.Slash C) t ms → (0 < length ms) × (place ms ≡ at → TypeSpelled C t ms)
  type_starts at t ms h = (listed_some C one good some signs.Slash h.value ms h.spells, λ e. rw (h.is, out-roll-Alts) (record { starts = e; spells = h.spells }))

  pub type_some : NonEmpty (TypeSpelled C)
  type_some t ms h = listed_some C one good some signs.Slash (out-Alts t).choices ms h.spells

  pub good_type : Good (TypeSpelled C) (type_at one)
  unfolding type_at
  good_type = good_placed (λ at. made (alts_of at) (listed signs.Slash one)) (λ at. good_made (alts_of at) (listed signs.Slash one) (good_listed C one good some signs.Slash)) type_starts

  good_occur : Good OccurSpelled occur_at
  unfolding occur_at
  good_occur = good_on occur_of (λ o. taken (Some o)) (taken None) (λ o. good_taken (Some o) (λ m e. record { mark = m; alone = refl; is = e })) (good_taken None refl)

  -- a key and what it is for
  KeyAndType : Key × Alts → List Mark → Type 0
  KeyAndType k = Then (KeySpelled C (out-Key k.0)) (TypeSpelled C k.1)

  -- where what stands before it is spelled so
  Behind : (List Mark → Type 0) → ℕ → Key × Alts → List Mark → Type 0
  Behind P at k b = (a : List Mark) → P a → (0 < length a) × (place a ≡ at → KeyAndType k (a ++ b))

  good_body_behind : (P : List Mark → Type 0) (key : Key) → ((a : List Mark) → P a → KeySpelled C (out-Key key) a) → Good (λ k b. (a : List Mark) → P a → KeyAndType k (a ++ b)) (body_behind one key)
  unfolding KeyAndType
  good_body_behind P key conv = good_bind (type_at one) (λ t. taken (key, t)) good_type (λ t. good_taken (key, t) (λ b g a p. record { front = a; back = b; whole = ap (λ (t : List Mark). a ++ t) (append-nil b); first = conv a p; second = g }))

  -- a key and its type, whose first mark stands there
  KeyAt : ℕ → Key × Alts → List Mark → Type 0
  KeyAt at k ms = (0 < length ms) × (place ms ≡ at → KeyAndType k ms)

  key_at_some : NonEmpty KeyAndType
  unfolding KeyAndType
  key_at_some k ms h = then_second ms h (type_some k.1)

  key_at : (at : ℕ) (k : Key × Alts) (ms : List Mark) → KeyAndType k ms → KeyAt at k ms
  unfolding KeyAt
  key_at at k ms h = (key_at_some k ms h, λ e. h)

  good_key : (key : Key) → Good (λ k b. (a : List Mark) → KeySpelled C (out-Key key) a → KeyAndType k (a ++ b)) (body_behind one key)
  good_key key = good_body_behind (KeySpelled C (out-Key key)) key (λ a p. p)

  arrow_key : (x : Type1) (cut : Bool) (a c s : List Mark) → C x a → CutSpelled cut c → OneSign signs.Arrow s → KeySpelled C (out-Key (keys.Arrow x cut)) (a ++ (c ++ s))
  arrow_key x cut a c s g h k = rw (outs-Arrow x cut) (record { front = a; back = c ++ s; whole = refl; first = g; second = record { front = c; back = s; whole = refl; first = h; second = k } })

  module _ (at : ℕ) (x : Type1) where
    good_cut : Good (λ k b. (m : Mark) → sign_of signs.Caret m ≡ Some tt → (a : List Mark) → C x a → KeyAt at k (a ++ (m ∷ b))) (after (token (sign_of signs.Arrow)) (λ _. body_behind one (keys.Arrow x true)))
    good_cut = good_bind (token (sign_of signs.Arrow)) (λ _. body_behind one (keys.Arrow x true)) (good_sign signs.Arrow) (λ v. good_weak (body_behind one (keys.Arrow x true))
        (λ k b h s i m e a g. key_at at k (a ++ (m ∷ (s ++ b))) (subst (KeyAndType k) (append_assoc a (m ∷ s) b) (h (a ++ (m ∷ s)) (arrow_key x true a (m ∷ []) s g (record { mark = m; alone = refl; is = e }) i))))
        (good_key (keys.Arrow x true)))

    good_arrow : Good (λ k b. (m : Mark) → sign_of signs.Arrow m ≡ Some tt → (a : List Mark) → C x a → KeyAt at k (a ++ (m ∷ b))) (body_behind one (keys.Arrow x false))
    good_arrow = good_weak (body_behind one (keys.Arrow x false))
        (λ k b h m e a g. key_at at k (a ++ (m ∷ b)) (subst (KeyAndType k) (append_assoc a (m ∷ []) b) (h (a ++ (m ∷ [])) (arrow_key x false a [] (m ∷ []) g refl (record { mark = m; alone = refl; is = e })))))
        (good_key (keys.Arrow x false))

    no_key : (xs : List Type1) (a : List Mark) → Listed signs.Slash C xs a → KeyAt at (keys.Missing, alts_of at xs) a
    unfolding KeyAt KeyAndType
    no_key xs a h = (listed_some C one good some signs.Slash xs a h, λ e. record { front = []; back = a; whole = refl; first = rw outs-Missing refl; second = rw out-roll-Alts (record { starts = e; spells = h }) })

    good_keyless : Good (λ k b. (a : List Mark) → C x a → KeyAt at k (a ++ b)) (after (more_listed signs.Slash one x) (λ xs. taken (keys.Missing, alts_of at xs)))
    good_keyless = good_bind (more_listed signs.Slash one x) (λ xs. taken (keys.Missing, alts_of at xs)) (good_more_listed C one good some signs.Slash x)
        (λ xs. good_taken (keys.Missing, alts_of at xs) (λ b h a g. rw append-nil (no_key xs (a ++ b) (h a g))))

    good_behind_choice : Good (λ k b. (a : List Mark) → C x a → KeyAt at k (a ++ b)) (behind_choice one at x)
    unfolding behind_choice
    good_behind_choice =
        good_on (sign_of signs.Caret) (λ _. after (token (sign_of signs.Arrow)) (λ _. body_behind one (keys.Arrow x true)))
        (on (sign_of signs.Arrow) (λ _. body_behind one (keys.Arrow x false)) (after (more_listed signs.Slash one x) (λ xs. taken (keys.Missing, alts_of at xs))))
        (λ u. good_cut)
        (good_on (sign_of signs.Arrow) (λ _. body_behind one (keys.Arrow x false)) (after (more_listed signs.Slash one x) (λ xs. taken (keys.Missing, alts_of at xs))) (λ u. good_arrow) good_keyless)

  good_open : Good KeyAndType (open_body one)
  unfolding open_body KeyAt
  good_open = good_placed (λ at. after one (λ x. behind_choice one at x)) (λ at. good_bind one (λ x. behind_choice one at x) good (λ x. good_behind_choice at x)) (λ at k ms h. h)

  word_key : (n : Name) (m : Mark) (s : List Mark) → name_of m ≡ Some n → OneSign signs.Colon s → KeySpelled C (out-Key (keys.Word n)) (m ∷ s)
  word_key n m s e h = rw (outs-Word n) (record { front = m ∷ []; back = s; whole = refl; first = record { mark = m; alone = refl; is = e }; second = h })

  literal_key : (l : Literal) (m : Mark) (s : List Mark) → literal_of m ≡ Some l → OneSign signs.Colon s → KeySpelled C (out-Key (keys.Lit m.at l)) (m ∷ s)
  literal_key l m s e h = rw (outs-Lit m.at l) (record { front = m ∷ []; back = s; whole = refl; first = record { starts = refl; spells = record { mark = m; alone = refl; is = e } }; second = h })

  good_colon : (key : Key) (P : Mark → Type 0) → ((m : Mark) (s : List Mark) → P m → OneSign signs.Colon s → KeySpelled C (out-Key key) (m ∷ s)) → Good (λ k b. (m : Mark) → P m → KeyAndType k (m ∷ b)) (colon_body one key)
  good_colon key P conv = good_bind (token (sign_of signs.Colon)) (λ _. body_behind one key) (good_sign signs.Colon) (λ u. good_weak (body_behind one key) (λ k b h s i m p. h (m ∷ s) (conv m s p i)) (good_key key))

  good_keyed : Good KeyAndType (keyed_body one)
  unfolding keyed_body KeyAt
  good_keyed = good_placed (λ at. on name_of (λ n. colon_body one (keys.Word n)) (on literal_of (λ l. colon_body one (keys.Lit at l)) (open_body one)))
      (λ at. good_on name_of (λ n. colon_body one (keys.Word n)) (on literal_of (λ l. colon_body one (keys.Lit at l)) (open_body one))
      (λ n. good_weak (colon_body one (keys.Word n)) (λ k b h m e. key_at at k (m ∷ b) (h m e)) (good_colon (keys.Word n) (λ m. name_of m ≡ Some n) (λ m s e h. word_key n m s e h)))
      (good_on literal_of (λ l. colon_body one (keys.Lit at l)) (open_body one)
      (λ l. good_weak (colon_body one (keys.Lit at l)) (λ k b h m e. (omega arith, λ p. h m (e, p)))
      (good_colon (keys.Lit at l) (λ m. (literal_of m ≡ Some l) × (m.at ≡ at)) (λ m s e h. subst (λ (n : ℕ). KeySpelled C (out-Key (keys.Lit n l)) (m ∷ s)) e.1 (literal_key l m s e.0 h))))
      (good_weak (open_body one) (λ k b h. key_at at k b h) good_open)))
      (λ at k ms h. h)

  module _ (late_name : Late name_of one) (late_literal : Late literal_of one) where
    late_open : {A : Type 0} (table : Mark → Option A) → Late table one → Late table (open_body one)
    unfolding open_body
    late_open table late m x rest left e h = elim (bind_cases (one (m ∷ rest)) (λ y. behind_choice one m.at y.value y.rest) None left h) [
      | inl w ↦
          let r = good.sound (m ∷ rest) w.0.rest w.0.value w.1 in
          let t = left_of (good_behind_choice m.at w.0.value) w.0.rest left None w.2 in
          omega (arith, ap length r.whole, length-append r.front w.0.rest, ap length t.1, length-append t.0 left, some w.0.value r.front r.spells)
      | inr w ↦ late m x rest left e w.1
    ]

    behind_first : {A : Type 0} {K : A → List Mark → Type 0} (p : Reader A) → Good K p → (rest left : List Mark) → p rest ≡ stuck left → length left ≤ length rest
    behind_first p good rest left h = let t = left_of good rest left None h in omega (arith, ap length t.1, length-append t.0 left)

    -- what the first mark is to a body: a name, a value, or neither
    at_literal : (m : Mark) (rest left : List Mark) (l : Option Literal) → literal_of m ≡ l → length rest < length left
        → choose (with_rest rest l) (λ l. colon_body one (keys.Lit m.at l)) (open_body one) (m ∷ rest) ≡ stuck left → (l ≡ None) × (open_body one (m ∷ rest) ≡ stuck left)
    at_literal m rest left (Some l) f lt h = absurd (omega (arith, behind_first (colon_body one (keys.Lit m.at l)) (good_colon (keys.Lit m.at l) (λ k. (literal_of k ≡ Some l) × (k.at ≡ m.at)) (λ k s e h. subst (λ (n : ℕ). KeySpelled C (out-Key (keys.Lit n l)) (k ∷ s)) e.1 (literal_key l k s e.0 h))) rest left h))
    at_literal m rest left None f lt h = (refl, h)

    at_name : (m : Mark) (rest left : List Mark) (n : Option Name) → name_of m ≡ n → length rest < length left
        → choose (with_rest rest n) (λ n. colon_body one (keys.Word n)) (on literal_of (λ l. colon_body one (keys.Lit m.at l)) (open_body one)) (m ∷ rest) ≡ stuck left
        → (n ≡ None) × (literal_of m ≡ None) × (open_body one (m ∷ rest) ≡ stuck left)
    at_name m rest left (Some n) e lt h = absurd (omega (arith, behind_first (colon_body one (keys.Word n)) (good_colon (keys.Word n) (λ m. name_of m ≡ Some n) (λ m s e h. word_key n m s e h)) rest left h))
    at_name m rest left None e lt h = let t = at_literal m rest left (literal_of m) refl lt h in (refl, t.0, t.1)

    first_stuck : (m : Mark) (rest left : List Mark) (b : Bool) → length rest < length left → cond b (keyed_body one (m ∷ rest)) (open_body one (m ∷ rest)) ≡ stuck left
        → (name_of m ≡ None) × (literal_of m ≡ None) × (open_body one (m ∷ rest) ≡ stuck left)
    unfolding keyed_body
    first_stuck m rest left true lt h = at_name m rest left (name_of m) refl lt h
    first_stuck m rest left false lt h =
        (none_if (name_of m) (λ x e. omega (arith, late_open name_of late_name m x rest left e h)), none_if (literal_of m) (λ x e. omega (arith, late_open literal_of late_literal m x rest left e h)), h)

    both_stuck : (m : Mark) (other left : List Mark) (b : Bool) → name_of m ≡ None → literal_of m ≡ None → open_body one (m ∷ other) ≡ stuck left → cond b (keyed_body one (m ∷ other)) (open_body one (m ∷ other)) ≡ stuck left
    unfolding keyed_body
    both_stuck m other left true e f h = rw (e, f) h
    both_stuck m other left false e f h = h

    body_local : (front rest other left : List Mark) (e : Option (Key × Alts)) → 0 < length front → 0 < length left → body_at one (front ++ rest) ≡ ended e (left ++ rest) → body_at one (front ++ other) ≡ ended e (left ++ other)
    unfolding body_at
    body_local [] rest other left e have lt h = absurd (omega arith)
    body_local (m ∷ n ∷ front) rest other left e have lt h =
        let same : begins (sign_of signs.Colon) (n ∷ (front ++ other)) ≡ begins (sign_of signs.Colon) (n ∷ (front ++ rest)) = begun (sign_of signs.Colon n) (front ++ other) (front ++ rest) in
        rw same (if_first (keyed_body one) (open_body one) good_keyed good_open (m ∷ n ∷ front) rest other left e (begins (sign_of signs.Colon) (n ∷ (front ++ rest))) have lt h)
    body_local (m ∷ []) rest other left (Some k) have lt h =
        let r = if_reads (keyed_body one) (open_body one) good_keyed good_open (m ∷ rest) (left ++ rest) k (colon_behind (m ∷ rest)) h in
        absurd (omega (arith, ap length r.whole, length-append r.front (left ++ rest), length-append left rest, key_at_some k r.front r.spells))
    body_local (m ∷ []) rest other left None have lt h =
        let t = first_stuck m rest (left ++ rest) (colon_behind (m ∷ rest)) (omega (arith, length-append left rest)) h in
        both_stuck m other (left ++ other) (colon_behind (m ∷ other)) t.0 t.1 (good_open.local (m ∷ []) rest other left None have lt t.2)

    good_body : Good KeyAndType (body_at one)
    unfolding body_at
    good_body = record {
      sound = λ ms rest x h. if_reads (keyed_body one) (open_body one) good_keyed good_open ms rest x (colon_behind ms) h;
      stops = λ ms rest h. if_stopped (keyed_body one) (open_body one) good_keyed good_open ms rest (colon_behind ms) h;
      local = body_local;
      some = good_open.some;
    }

    entry_made : (at : ℕ) (o : Option Occur) (k : Key × Alts) (a b ms : List Mark) → OccurSpelled o a → KeyAndType k b → ms ≡ a ++ b → place ms ≡ at → EntrySpelled C (entry_of at o k.0 k.1) ms
    unfolding KeyAndType
    entry_made at o k a b ms g h i e = rw out-roll-Entry (record { starts = e; spells = record { front = a; back = b; whole = i; first = g; second = h } })

    EntryAt : ℕ → Entry → List Mark → Type 0
    EntryAt at e ms = (0 < length ms) × (place ms ≡ at → EntrySpelled C e ms)

    pub entry_some : NonEmpty (EntrySpelled C)
    entry_some e ms h = then_second ms h.spells (λ a g. then_second a g (type_some (out-Entry e).body))

    pub good_entry : Good (EntrySpelled C) (entry_at one)
    unfolding entry_at EntryAt
    good_entry = good_placed (λ at. after occur_at (λ o. after (body_at one) (λ k. taken (entry_of at o k.0 k.1))))
        (λ at. good_bind occur_at (λ o. after (body_at one) (λ k. taken (entry_of at o k.0 k.1))) good_occur
        (λ o. good_bind (body_at one) (λ k. taken (entry_of at o k.0 k.1)) good_body
        (λ k. good_taken {K = λ y b. (c : List Mark) → KeyAndType k c → (a : List Mark) → OccurSpelled o a → EntryAt at y (a ++ (c ++ b))} (entry_of at o k.0 k.1)
        (λ c h a g. (omega (arith, length-append a (c ++ []), ap length (append-nil c), key_at_some k c h), λ e. entry_made at o k a c (a ++ (c ++ [])) g h (ap (λ (t : List Mark). a ++ t) (append-nil c)) e)))))
        (λ at e ms h. h)

    in_way_some : NonEmpty (λ e. MaybeComma (EntrySpelled C e))
    in_way_some e ms h = elim h [ inl g ↦ entry_some e ms g | inr g ↦ then_first ms g (entry_some e) ]

    good_in_way : Good (λ e. MaybeComma (EntrySpelled C e)) (entry_in_way one)
    unfolding entry_in_way
    good_in_way = good_bind (entry_at one) (λ e. skip_comma e) good_entry
        (λ e. good_on (sign_of signs.Comma) (λ _. taken e) (taken e)
        (λ u. good_taken e (λ m i a g. inr (record { front = a; back = m ∷ []; whole = refl; first = g; second = record { mark = m; alone = refl; is = i } })))
        (good_taken e (λ a g. inl (rw append-nil g))))

    -- ---- groups

    goes_on_tests : (close : Sign) → TestsFirst (goes_on close)
    goes_on_tests close front rest other have = rw (begins_tests (sign_of signs.DoubleSlash) front rest other have, begins_tests (sign_of close) front rest other have) refl

    module _ (close : Sign) where
      abbrev entries : Reader (List Entry)
      entries = each (goes_on close) (entry_in_way one)

      good_entries : Good (EntriesSpelled C) (each (goes_on close) (entry_in_way one))
      good_entries = good_each (goes_on close) (entry_in_way one) (goes_on_tests close) in_way_some good_in_way

      WaysAt : ℕ → List WayTree → List Mark → Type 0
      WaysAt at ws ms = (0 < length ms) × (place ms ≡ at → WaysSpelled C close ws ms)

      last_way : (at : ℕ) (es : List Entry) (a c : List Mark) → EntriesSpelled C es a → OneSign close c → WaysAt at (way_of at es ∷ []) (a ++ c)
      unfolding WaysAt
      last_way at es a c g h = (omega (arith, length-append a c, one_some tt c h), λ e. rw out-roll-WayTree (record { starts = e; spells = record { front = a; back = c; whole = refl; first = g; second = h } }))

      more_ways : (at : ℕ) (es : List Entry) (ws : List WayTree) (m : Mark) (a c : List Mark) → EntriesSpelled C es a → sign_of signs.DoubleSlash m ≡ Some tt → WaysSpelled C close ws c → WaysAt at (way_of at es ∷ ws) (a ++ (m ∷ c))
      unfolding WaysAt
      more_ways at es [] m a c g i h = absurd h
      more_ways at es (v ∷ ws) m a c g i h = (
        omega (arith, length-append a (m ∷ c)),
        λ e. rw out-roll-WayTree (record {
          starts = e;
          spells = record { front = a; back = m ∷ c; whole = refl; first = g; second = record { front = m ∷ []; back = c; whole = refl; first = record { mark = m; alone = refl; is = i }; second = h } };
        }),
      )

      ways_example : Example (WaysSpelled C close)
      unfolding WaysAt
      ways_example = record {
        value = way_of 0 [] ∷ [];
        text = example_mark (kinds.Sign close) ∷ [];
        plain = ((refl, refl), tt);
        spells = (last_way 0 [] [] (example_mark (kinds.Sign close) ∷ []) refl (record { mark = example_mark (kinds.Sign close); alone = refl; is = sign_example close })).1 refl;
      }

      abbrev behind_entries : Reader (List WayTree) → ℕ → List Entry → Reader (List WayTree)
      behind_entries ways at es = on (sign_of signs.DoubleSlash) (λ _. after ways (λ ws. taken (way_of at es ∷ ws))) (after (token (sign_of close)) (λ _. taken (way_of at es ∷ [])))

      good_ways : (n : ℕ) → Good (WaysSpelled C close) (ways_at one close n)
      unfolding ways_at WaysAt
      good_ways zero = good_stuck ways_example
      good_ways (suc n) = good_placed (λ at. after entries (behind_entries (ways_at one close n) at))
          (λ at. good_bind entries (behind_entries (ways_at one close n) at) good_entries
          (λ es. good_on (sign_of signs.DoubleSlash) (λ _. after (ways_at one close n) (λ ws. taken (way_of at es ∷ ws))) (after (token (sign_of close)) (λ _. taken (way_of at es ∷ [])))
          (λ u. good_bind (ways_at one close n) (λ ws. taken (way_of at es ∷ ws)) (good_ways n)
          (λ ws. good_taken {K = λ y b. (c : List Mark) → WaysSpelled C close ws c → (m : Mark) → sign_of signs.DoubleSlash m ≡ Some tt → (a : List Mark) → EntriesSpelled C es a → WaysAt at y (a ++ (m ∷ (c ++ b)))} (way_of at es ∷ ws)
          (λ c h m i a g. rw append-nil (more_ways at es ws m a c g i h))))
          (good_bind (token (sign_of close)) (λ _. taken (way_of at es ∷ [])) (good_sign close)
          (λ u. good_taken {K = λ y b. (c : List Mark) → OneSign close c → (a : List Mark) → EntriesSpelled C es a → WaysAt at y (a ++ (c ++ b))} (way_of at es ∷ [])
          (λ c h a g. rw append-nil (last_way at es a c g h))))))
          (λ at ws ms h. h)

      same_behind : (f g : Reader (List WayTree)) (at : ℕ) (es : List Entry) (ms : List Mark) → ((rest : List Mark) → length rest < length ms → f rest ≡ g rest) → behind_entries f at es ms ≡ behind_entries g at es ms
      same_behind f g at es [] same = refl
      same_behind f g at es (m ∷ ms) same = at_mark (sign_of signs.DoubleSlash m)
        where
          at_mark : (o : Option (Unit {0})) → choose (with_rest ms o) (λ _. after f (λ ws. taken (way_of at es ∷ ws))) (after (token (sign_of close)) (λ _. taken (way_of at es ∷ []))) (m ∷ ms)
              ≡ choose (with_rest ms o) (λ _. after g (λ ws. taken (way_of at es ∷ ws))) (after (token (sign_of close)) (λ _. taken (way_of at es ∷ []))) (m ∷ ms)
          at_mark None = refl
          at_mark (Some u) = rw (same ms (omega arith)) refl

      same_ways : (f g : Reader (List WayTree)) (at : ℕ) (ms : List Mark) → ((rest : List Mark) → length rest < length ms → f rest ≡ g rest) → (o : Result (Taken (List Entry)) Halted) → entries ms ≡ o → (o >>= λ es. behind_entries f at es.value es.rest) ≡ (o >>= λ es. behind_entries g at es.value es.rest)
      same_ways f g at ms same (Err z) e = refl
      same_ways f g at ms same (Ok es) e =
          let t = left_of good_entries ms es.rest (Some es.value) e in
          same_behind f g at es.value es.rest (λ rest lt. same rest (omega (arith, ap length t.1, length-append t.0 es.rest)))

      ways_fuel : (n m : ℕ) (ms : List Mark) → length ms < n → length ms < m → ways_at one close n ms ≡ ways_at one close m ms
      unfolding ways_at
      ways_fuel zero m ms lt le = absurd (omega arith)
      ways_fuel (suc n) zero ms lt le = absurd (omega arith)
      ways_fuel (suc n) (suc m) ms lt le = same_ways (ways_at one close n) (ways_at one close m) (place ms) ms (λ rest s. ways_fuel n m rest (omega arith) (omega arith)) (entries ms) refl

      ways_some : NonEmpty (WaysSpelled C close)
      ways_some [] ms h = absurd h
      ways_some (w ∷ []) ms h = then_second ms h.spells (λ a g. one_some tt a g)
      ways_some (w ∷ v ∷ ws) ms h = then_second ms h.spells (λ a g. then_first a g (λ b i. one_some tt b i))

      group_starts : (at : ℕ) (g : GroupTree) (ms : List Mark) → Made (group_of at) (WaysSpelled C close) g ms → (0 < length ms) × (place ms ≡ at → GroupSpelled C close g ms)
      group_starts at g ms h = (ways_some h.value ms h.spells, λ e. rw (h.is, out-roll-GroupTree) (record { starts = e; spells = h.spells }))

      good_group : Good (GroupSpelled C close) (group_at one close)
      unfolding group_at
      good_group = good_placed (λ at. made (group_of at) (λ ms. ways_at one close (suc (length ms)) ms)) (λ at. good_made (group_of at) (λ ms. ways_at one close (suc (length ms)) ms) (good_fueled (ways_at one close) good_ways ways_fuel)) group_starts

    -- ---- forms

    FormText : Form → List Mark → Type 0
    FormText form = FormSpelled C (out-Form form)

    literal_form : (l : Literal) (m : Mark) → literal_of m ≡ Some l → FormText (Lit l) (m ∷ [])
    unfolding FormText
    literal_form l m e = rw outs-form-Lit (record { mark = m; alone = refl; is = e })

    good_args : Good (Angled C) (angled one)
    good_args = good_angled C one good some

    good_named : (n : Name) → Good (λ f b. (m : Mark) → name_of m ≡ Some n → FormText f (m ∷ b)) (made (Named n) (angled one))
    unfolding FormText
    good_named n = good_made_as (Named n) (angled one) (λ args b g m e. rw outs-Named (record { front = m ∷ []; back = b; whole = refl; first = record { mark = m; alone = refl; is = e }; second = g })) good_args

    good_name_and_args : (K : Form → List Mark → Type 0) (f : Name → List Type1 → Form) → ((n : Name) (args : List Type1) (ms : List Mark) → NamedSpelled C n args ms → K (f n args) ms) → Good K (name_and_args one f)
    unfolding name_and_args
    good_name_and_args K f conv = good_bind (token name_of) (λ n. made (f n) (angled one)) good_name
        (λ n. good_made_as (f n) (angled one) (λ args b g a h. conv n args (a ++ b) (record { front = a; back = b; whole = refl; first = h; second = g })) good_args)

    six_is : (major : Option ℕ) → six_major major ≡ true → major ≡ Some 6
    six_is None h = absurd cc
    six_is (Some n) h = ap Some (eqb-true n 6 h)

    hash_form : (hash : Option ℕ × Bound) (m : Mark) → hash_of m ≡ Some hash → FormText (Hash hash.0 hash.1) (m ∷ [])
    unfolding FormText
    hash_form hash m e = rw outs-Hash (record { mark = m; alone = refl; is = e })

    tag_form : (hash : Option ℕ × Bound) (body : Alts) (m t : Mark) (a c : List Mark) → six_major hash.0 ≡ true → hash_of m ≡ Some hash → tag_of t ≡ Some tt → TypeSpelled C body a → OneSign signs.CloseParen c → FormText (Tagged hash.1 body) (m ∷ (t ∷ (a ++ c)))
    unfolding FormText
    tag_form hash body m t a c six e i g h = rw outs-Tagged (record {
      front = m ∷ [];
      back = t ∷ (a ++ c);
      whole = refl;
      first = record { mark = m; alone = refl; is = e ∙ ap (λ (k : Option ℕ). Some (k, hash.1)) (six_is hash.0 six) };
      second = record { front = t ∷ []; back = a ++ c; whole = refl; first = record { mark = t; alone = refl; is = i }; second = record { front = a; back = c; whole = refl; first = g; second = h } };
    })

    HashText : Option ℕ × Bound → Form → List Mark → Type 0
    HashText hash f b = (m : Mark) → hash_of m ≡ Some hash → FormText f (m ∷ b)

    good_tag : (hash : Option ℕ × Bound) → six_major hash.0 ≡ true → Good (λ f b. (t : Mark) → tag_of t ≡ Some tt → HashText hash f (t ∷ b)) (tag_at one hash.1)
    unfolding tag_at HashText
    good_tag hash six = good_bind (type_at one) (λ t. after (token (sign_of signs.CloseParen)) (λ _. taken (Tagged hash.1 t))) good_type
        (λ body. good_bind (token (sign_of signs.CloseParen)) (λ _. taken (Tagged hash.1 body)) (good_sign signs.CloseParen)
        (λ u. good_taken {K = λ y b. (c : List Mark) → OneSign signs.CloseParen c → (a : List Mark) → TypeSpelled C body a → (t : Mark) → tag_of t ≡ Some tt → (m : Mark) → hash_of m ≡ Some hash → FormText y (m ∷ (t ∷ (a ++ (c ++ b))))} (Tagged hash.1 body)
        (λ c h a g t i m e. rw append-nil (tag_form hash body m t a c six e i g h))))

    good_behind_six : (hash : Option ℕ × Bound) (b : Bool) → six_major hash.0 ≡ b → Good (HashText hash) (λ ms. cond b (on tag_of (λ _. tag_at one hash.1) (taken (Hash hash.0 hash.1)) ms) (taken (Hash hash.0 hash.1) ms))
    unfolding HashText
    good_behind_six hash true six = good_on tag_of (λ _. tag_at one hash.1) (taken (Hash hash.0 hash.1)) (λ u. good_tag hash six) (good_taken (Hash hash.0 hash.1) (λ m e. hash_form hash m e))
    good_behind_six hash false six = good_taken (Hash hash.0 hash.1) (λ m e. hash_form hash m e)

    good_behind_hash : (hash : Option ℕ × Bound) → Good (HashText hash) (behind_hash one hash)
    unfolding behind_hash
    good_behind_hash hash = good_behind_six hash (six_major hash.0) refl

    example_spells : FormText (Named (record { at = 0; text = [] }) []) (example_mark (kinds.Name []) ∷ [])
    unfolding FormText
    example_spells = rw outs-Named (record { front = example_mark (kinds.Name []) ∷ []; back = []; whole = refl; first = record { mark = example_mark (kinds.Name []); alone = refl; is = refl }; second = refl })

    form_example : Example FormText
    form_example = record { value = Named (record { at = 0; text = [] }) []; text = example_mark (kinds.Name []) ∷ []; plain = ((refl, refl), tt); spells = example_spells }

    -- a group in brackets
    good_bracketed : (opening close : Sign) (f : GroupTree → Form) → ((g : GroupTree) (m : Mark) (b : List Mark) → sign_of opening m ≡ Some tt → GroupSpelled C close g b → FormText (f g) (m ∷ b)) → Good (λ y b. (m : Mark) → sign_of opening m ≡ Some tt → FormText y (m ∷ b)) (made f (group_at one close))
    good_bracketed opening close f conv = good_made_as f (group_at one close) (λ g b h m e. conv g m b e h) (good_group close)

    good_bracket : Good FormText (bracket_at one)
    unfolding bracket_at FormText
    good_bracket =
        good_on (sign_of signs.OpenParen) (λ _. made Paren (group_at one signs.CloseParen)) (on (sign_of signs.OpenBrace) (λ _. made MapOf (group_at one signs.CloseBrace)) (on (sign_of signs.OpenBracket) (λ _. made ArrayOf (group_at one signs.CloseBracket)) stuck))
        (λ u. good_bracketed signs.OpenParen signs.CloseParen Paren (λ g m b e h. rw outs-Paren (record { front = m ∷ []; back = b; whole = refl; first = record { mark = m; alone = refl; is = e }; second = h })))
        (good_on (sign_of signs.OpenBrace) (λ _. made MapOf (group_at one signs.CloseBrace)) (on (sign_of signs.OpenBracket) (λ _. made ArrayOf (group_at one signs.CloseBracket)) stuck)
        (λ u. good_bracketed signs.OpenBrace signs.CloseBrace MapOf (λ g m b e h. rw outs-MapOf (record { front = m ∷ []; back = b; whole = refl; first = record { mark = m; alone = refl; is = e }; second = h })))
        (good_on (sign_of signs.OpenBracket) (λ _. made ArrayOf (group_at one signs.CloseBracket)) stuck
        (λ u. good_bracketed signs.OpenBracket signs.CloseBracket ArrayOf (λ g m b e h. rw outs-ArrayOf (record { front = m ∷ []; back = b; whole = refl; first = record { mark = m; alone = refl; is = e }; second = h })))
        (good_stuck form_example)))

    AmpersandText : Form → List Mark → Type 0
    AmpersandText f b = (m : Mark) → sign_of signs.Ampersand m ≡ Some tt → FormText f (m ∷ b)

    good_ampersand : Good AmpersandText (behind_ampersand one)
    unfolding behind_ampersand AmpersandText FormText
    good_ampersand =
        good_on (sign_of signs.OpenParen) (λ _. made Enum (group_at one signs.CloseParen)) (name_and_args one EnumName)
        (λ u. good_made_as Enum (group_at one signs.CloseParen) (λ g b h n i m e. rw outs-Enum (record { front = m ∷ []; back = n ∷ b; whole = refl; first = record { mark = m; alone = refl; is = e }; second = record { front = n ∷ []; back = b; whole = refl; first = record { mark = n; alone = refl; is = i }; second = h } })) (good_group signs.CloseParen))
        (good_name_and_args AmpersandText EnumName (λ n args b h m e. rw outs-EnumName (record { front = m ∷ []; back = b; whole = refl; first = record { mark = m; alone = refl; is = e }; second = h })))

    good_prefixed : Good FormText (prefixed_at one)
    unfolding prefixed_at FormText AmpersandText
    good_prefixed =
        good_on (sign_of signs.Tilde) (λ _. name_and_args one Unwrap) (on (sign_of signs.Ampersand) (λ _. behind_ampersand one) (bracket_at one))
        (λ u. good_name_and_args (λ f b. (m : Mark) → sign_of signs.Tilde m ≡ Some tt → FormText f (m ∷ b)) Unwrap (λ n args b h m e. rw outs-Unwrap (record { front = m ∷ []; back = b; whole = refl; first = record { mark = m; alone = refl; is = e }; second = h })))
        (good_on (sign_of signs.Ampersand) (λ _. behind_ampersand one) (bracket_at one) (λ u. good_ampersand) good_bracket)

    good_form : Good FormText (form_at one)
    unfolding form_at HashText
    good_form =
        good_on literal_of (λ l. taken (Lit l)) (on name_of (λ n. made (Named n) (angled one)) (on hash_of (behind_hash one) (prefixed_at one)))
        (λ l. good_taken (Lit l) (λ m e. literal_form l m e))
        (good_on name_of (λ n. made (Named n) (angled one)) (on hash_of (behind_hash one) (prefixed_at one))
        (λ n. good_named n)
        (good_on hash_of (behind_hash one) (prefixed_at one) (λ hash. good_behind_hash hash) good_prefixed))

    -- ---- choices of a type

    form_some : NonEmpty FormText
    unfolding FormText
    form_some f ms h = form_some_at C (out-Form f) ms h

    operand_made : (at : ℕ) (f : Form) (ms : List Mark) → place ms ≡ at → FormSpelled C (out-Form f) ms → OperandSpelled C (operand_of at f) ms
    operand_made at f ms e h = subst (λ (x : _). At x.at (FormSpelled C (out-Form x.form)) ms) (sym (out-roll-Type2 (record { at = at; form = f }))) (record { starts = e; spells = h })

    operation_made : (at : ℕ) (k : OpKind) (t : Type2) (ms : List Mark) → Then (One operator_of (at, k)) (OperandSpelled C t) ms → OperationSpelled C (Some (operation_of at k t)) ms
    operation_made at k t ms h = subst (λ (x : _). Then (One operator_of (x.at, x.kind)) (OperandSpelled C x.right) ms) (sym (out-roll-Operation (record { at = at; kind = k; right = t }))) h

    operand_starts : (at : ℕ) (t : Type2) (ms : List Mark) → Made (operand_of at) FormText t ms → (0 < length ms) × (place ms ≡ at → OperandSpelled C t ms)
    unfolding FormText
    operand_starts at t ms h = (form_some h.value ms h.spells, λ e. rw h.is (operand_made at h.value ms e h.spells))

    good_operand : Good (OperandSpelled C) (operand_at one)
    unfolding operand_at
    good_operand = good_placed (λ at. made (operand_of at) (form_at one)) (λ at. good_made (operand_of at) (form_at one) good_form) operand_starts

    good_operation : Good (OperationSpelled C) (operation_at one)
    unfolding operation_at
    good_operation = good_on operator_of (λ k. made (λ t. Some (operation_of k.0 k.1 t)) (operand_at one)) (taken None)
        (λ k. good_made_as (λ t. Some (operation_of k.0 k.1 t)) (operand_at one) (λ t b h m e. operation_made k.0 k.1 t (m ∷ b) (record { front = m ∷ []; back = b; whole = refl; first = record { mark = m; alone = refl; is = e }; second = h })) good_operand)
        (good_taken None refl)

    ChoiceAt : ℕ → Type1 → List Mark → Type 0
    ChoiceAt at t ms = (0 < length ms) × (place ms ≡ at → ChoiceSpelled C t ms)

    choice_made : (at : ℕ) (t : Type2) (o : Option Operation) (a b : List Mark) → OperandSpelled C t a → OperationSpelled C o b → ChoiceAt at (choice_of at t o) (a ++ b)
    unfolding ChoiceAt
    choice_made at t o a b g h = (omega (arith, length-append a b, operand_some C t a g), λ e. rw out-roll-Type1 (record { starts = e; spells = record { front = a; back = b; whole = refl; first = g; second = h } }))

    good_behind_operand : (at : ℕ) (t : Type2) → Good (λ y b. (a : List Mark) → OperandSpelled C t a → ChoiceAt at y (a ++ b)) (after (operation_at one) (λ o. taken (choice_of at t o)))
    good_behind_operand at t = good_bind (operation_at one) (λ o. taken (choice_of at t o)) good_operation
        (λ o. good_taken {K = λ y b. (c : List Mark) → OperationSpelled C o c → (a : List Mark) → OperandSpelled C t a → ChoiceAt at y (a ++ (c ++ b))} (choice_of at t o) (λ c h a g. rw append-nil (choice_made at t o a c g h)))

    pub good_layer : Good (ChoiceSpelled C) (choice_layer one)
    unfolding choice_layer ChoiceAt
    good_layer = good_placed (λ at. after (operand_at one) (λ t. after (operation_at one) (λ o. taken (choice_of at t o))))
        (λ at. good_bind (operand_at one) (λ t. after (operation_at one) (λ o. taken (choice_of at t o))) good_operand
        (λ t. good_behind_operand at t))
        (λ at t ms h. h)

    late_made : {A B D : Type 0} (table : Mark → Option A) (f : B → D) (p : Reader B) → Late table p → Late table (made f p)
    late_made table f p late m x rest left e h = elim (bind_cases (p (m ∷ rest)) (λ y. taken (f y.value) y.rest) None left h) [ inl w ↦ absurd (let g = w.2 in cc) | inr w ↦ late m x rest left e w.1 ]

    pub late_form_name : Late name_of (form_at one)
    unfolding form_at
    late_form_name m n rest left e h = at_kind (literal_of m) h
      where
        at_kind : (l : Option Literal) → choose (with_rest rest l) (λ l. taken (Lit l)) (on name_of (λ n. made (Named n) (angled one)) (on hash_of (behind_hash one) (prefixed_at one))) (m ∷ rest) ≡ stuck left → length left ≤ length rest
        at_kind (Some l) h = absurd cc
        at_kind None h = behind_first (made (Named n) (angled one)) (good_named n) rest left (rw e at h)

    pub late_form_literal : Late literal_of (form_at one)
    unfolding form_at
    late_form_literal m l rest left e h = let g = rw e at h in absurd cc

    pub late_layer : {A : Type 0} (table : Mark → Option A) → Late table (form_at one) → Late table (choice_layer one)
    unfolding choice_layer operand_at
    late_layer table late m x rest left e h = elim (bind_cases (operand_at one (m ∷ rest)) (λ t. operation_at one t.rest >>= λ o. taken (choice_of m.at t.value o.value) o.rest) None left h) [
      | inl w ↦
          let r = good_operand.sound (m ∷ rest) w.0.rest w.0.value w.1 in
          let t = left_of (good_behind_operand m.at w.0.value) w.0.rest left None w.2 in
          omega (arith, ap length r.whole, length-append r.front w.0.rest, ap length t.1, length-append t.0 left, operand_some C w.0.value r.front r.spells)
      | inr w ↦ late_made table (operand_of m.at) (form_at one) late m x rest left e w.1
    ]
