-- The readers of choices at every depth, and those of rules, keep what readers keep.
use Rattle.std.proofs.Common.{◌≡◌, ℕ, zero, suc, ◌<◌, List, [], ◌∷◌, ◌++◌, length, Option, Some, None, Result, Err, refl, ap, sym, subst, arith}
use Rattle.std.proofs.lemmas.List.{length-append, append-nil}
use Rattle.ecd_lex.specs.declared.token.Sign.TheVariants as signs
use Rattle.ecd_lex.specs.declared.token.TokenKind.TheVariants as kinds
use Rattle.ecd_syntax.specs.declared.tree.Assign.{Assign}
use Rattle.ecd_syntax.specs.declared.tree.Assign.TheVariants.{Define, TypeMore, GroupMore}
use Rattle.ecd_syntax.specs.declared.tree.Entry.{Entry, out-roll-Entry}
use Rattle.ecd_syntax.specs.declared.tree.Form.{out-Form}
use Rattle.ecd_syntax.specs.declared.tree.Form.TheVariants.{Named, outs-Named}
use Rattle.ecd_syntax.specs.declared.tree.Key.TheVariants as keys
use Rattle.ecd_syntax.specs.declared.tree.Key.TheVariants.{outs-Missing}
use Rattle.ecd_syntax.specs.declared.tree.Name.{Name}
use Rattle.ecd_syntax.specs.declared.tree.Rule.{Rule}
use Rattle.ecd_syntax.specs.declared.tree.Type1.{Type1, out-roll-Type1}
use Rattle.ecd_syntax.specs.declared.tree.Type2.{out-roll-Type2}
use Rattle.ecd_syntax.specs.Marks.{Mark, place, name_of, literal_of, assign_of}
use Rattle.ecd_syntax.specs.Grammar.{One, At, Angled, TypeSpelled, OperandSpelled, FormSpelled, ChoiceSpelled, ChoiceWithin, TypeAlone, BodySpelled, RuleSpelled, RulesSpelled}
use Rattle.ecd_syntax.specs.Reading.{Taken, Halted, Deep, Reader, taken, stuck, token, each, angled, made, type_at, choice_at, assigned, rule_at, is_more, rules_at, operand_of, choice_of, entry_of, rule_of}
use Rattle.ecd_reading.specs.Reading.{after}
use Rattle.ecd_reading.proofs.Readers.{good_bind, good_taken, more_tests, ended}
use Rattle.ecd_syntax.proofs.Readers.{Good, Late, good_token, good_each, good_placed, NonEmpty}
use Rattle.ecd_syntax.proofs.Parts.{example_mark, single, good_name, one_some, then_first, Made, good_made, good_made_as, good_angled, good_type, type_some, good_entry, good_layer, layer_some, late_layer, late_form_name, late_form_literal}

abbrev halted : {A : Type 0} → Halted → Result (Taken A) Halted
halted z = Err z

deep_is_none : {A : Type 0} (ms rest : List Mark) → halted {A = A} Deep ≡ stuck rest → ⊥
deep_is_none ms rest h = cc

-- ---- a name alone is a choice

plain_name : Name
plain_name = record { at = 0; text = [] }

plain_mark : Mark
plain_mark = example_mark (kinds.Name [])

module _ (C : Type1 → List Mark → Type 0) where
  plain_operand : OperandSpelled C (operand_of 0 (Named plain_name [])) (plain_mark ∷ [])
  unfolding plain_name plain_mark
  plain_operand = subst (λ (x : _). At x.at (FormSpelled C (out-Form x.form)) (plain_mark ∷ [])) (sym (out-roll-Type2 (record { at = 0; form = Named plain_name [] })))
      (record { starts = refl; spells = rw outs-Named (record { front = plain_mark ∷ []; back = []; whole = refl; first = record { mark = plain_mark; alone = refl; is = refl }; second = refl }) })

  plain_choice : ChoiceSpelled C (choice_of 0 (operand_of 0 (Named plain_name [])) None) (plain_mark ∷ [])
  unfolding plain_mark
  plain_choice = rw out-roll-Type1 (record { starts = refl; spells = record { front = plain_mark ∷ []; back = []; whole = refl; first = plain_operand; second = refl } })

deep_is_left : {A : Type 0} (rest : List Mark) (e : Option A) → halted Deep ≡ ended e rest → ⊥
deep_is_left rest None h = deep_is_none rest rest h
deep_is_left rest (Some x) h = cc

-- ---- choices

pub record Knot (n : ℕ) : Type 0 where
  pub good : Good (ChoiceWithin n) (choice_at n)
  pub some : NonEmpty (ChoiceWithin n)
  pub late_name : Late name_of (choice_at n)
  pub late_literal : Late literal_of (choice_at n)

layers_some : (n : ℕ) → NonEmpty (ChoiceWithin n)
unfolding ChoiceWithin
layers_some zero = layer_some (λ _ _. ⊥)
layers_some (suc n) = layer_some (ChoiceWithin n)

no_choice : Good (ChoiceWithin zero) (choice_at zero)
unfolding ChoiceWithin choice_at plain_mark
no_choice = record {
  sound = λ ms rest x h. absurd cc;
  stops = λ ms rest h. absurd (deep_is_none ms rest h);
  local = λ front rest other left e have lt h. absurd (deep_is_left (left ++ rest) e h);
  some = record { value = choice_of 0 (operand_of 0 (Named plain_name [])) None; text = plain_mark ∷ []; plain = ((refl, refl), tt); spells = plain_choice (λ _ _. ⊥) };
}

pub knot : (n : ℕ) → Knot n
unfolding choice_at ChoiceWithin
knot zero = record {
  good = no_choice;
  some = layers_some zero;
  late_name = λ m x rest left e h. absurd (deep_is_none (m ∷ rest) left h);
  late_literal = λ m x rest left e h. absurd (deep_is_none (m ∷ rest) left h);
}
knot (suc n) =
    let k = knot n in
    let C = ChoiceWithin n in
    let one = choice_at n in
    record {
      good = good_layer C one k.good k.some k.late_name k.late_literal;
      some = layers_some (suc n);
      late_name = late_layer C one k.good k.some k.late_name k.late_literal name_of (late_form_name C one k.good k.some k.late_name k.late_literal);
      late_literal = late_layer C one k.good k.some k.late_name k.late_literal literal_of (late_form_literal C one k.good k.some k.late_name k.late_literal);
    }

-- ---- rules

module _ (C : Type1 → List Mark → Type 0) (one : Reader Type1) (good : Good C one) (some : NonEmpty C) (late_name : Late name_of one) (late_literal : Late literal_of one) where
  alone_starts : (at : ℕ) (e : Entry) (ms : List Mark) → Made (entry_of at None keys.Missing) (TypeSpelled C) e ms → (0 < length ms) × (place ms ≡ at → TypeAlone C e ms)
  alone_starts at e ms h = (type_some C one good some h.value ms h.spells, λ i. rw (h.is) (record { occur = rw out-roll-Entry refl; key = rw (out-roll-Entry, outs-Missing) refl; body = rw out-roll-Entry (record { starts = i; spells = h.spells }) }))

  good_assigned : (a : Assign) → Good (BodySpelled C a) (assigned one a)
  unfolding assigned
  good_assigned Define = good_entry C one good some late_name late_literal
  good_assigned TypeMore = good_placed (λ at. made (entry_of at None keys.Missing) (type_at one)) (λ at. good_made (entry_of at None keys.Missing) (type_at one) (good_type C one good some)) alone_starts
  good_assigned GroupMore = good_entry C one good some late_name late_literal

  good_assign : Good (One assign_of) (token assign_of)
  good_assign = good_token assign_of (single assign_of Define (kinds.Sign signs.Define) refl)

  RuleAt : ℕ → Rule → List Mark → Type 0
  RuleAt at r ms = (0 < length ms) × (place ms ≡ at → RuleSpelled C r ms)

  rule_made : (at : ℕ) (n : Name) (ps : List Name) (a : Assign) (e : Entry) (x y z w : List Mark) → One name_of n x → Angled (One name_of) ps y → One assign_of a z → BodySpelled C a e w → RuleAt at (rule_of at n ps a e) (x ++ (y ++ (z ++ w)))
  unfolding RuleAt
  rule_made at n ps a e x y z w g h i k = (
    omega (arith, length-append x (y ++ (z ++ w)), one_some n x g),
    λ p. record {
      starts = p;
      spells = record { front = x; back = y ++ (z ++ w); whole = refl; first = g; second = record { front = y; back = z ++ w; whole = refl; first = h; second = record { front = z; back = w; whole = refl; first = i; second = k } } };
    },
  )

  good_rule : Good (RuleSpelled C) (rule_at one)
  unfolding rule_at RuleAt
  good_rule = good_placed (λ at. after (token name_of) (λ n. after (angled (token name_of)) (λ ps. after (token assign_of) (λ a. made (rule_of at n ps a) (assigned one a)))))
      (λ at. good_bind (token name_of) (λ n. after (angled (token name_of)) (λ ps. after (token assign_of) (λ a. made (rule_of at n ps a) (assigned one a)))) good_name
      (λ n. good_bind (angled (token name_of)) (λ ps. after (token assign_of) (λ a. made (rule_of at n ps a) (assigned one a))) (good_angled (One name_of) (token name_of) good_name one_some)
      (λ ps. good_bind (token assign_of) (λ a. made (rule_of at n ps a) (assigned one a)) good_assign
      (λ a. good_made_as {K = λ r b. (z : List Mark) → One assign_of a z → (y : List Mark) → Angled (One name_of) ps y → (x : List Mark) → One name_of n x → RuleAt at r (x ++ (y ++ (z ++ b)))} (rule_of at n ps a) (assigned one a)
      (λ e w k z i y h x g. rule_made at n ps a e x y z w g h i k) (good_assigned a)))))
      (λ at r ms h. h)

  rule_some : NonEmpty (RuleSpelled C)
  rule_some r ms h = then_first ms h.spells (λ a g. one_some r.name a g)

  pub good_rules : Good (RulesSpelled C) (rules_at one)
  unfolding rules_at
  good_rules = good_bind (rule_at one) (λ r. after (each is_more (rule_at one)) (λ rs. taken (r ∷ rs))) good_rule
      (λ r. good_bind (each is_more (rule_at one)) (λ rs. taken (r ∷ rs)) (good_each is_more (rule_at one) more_tests rule_some good_rule)
      (λ rs. good_taken (r ∷ rs) (λ b h a g. record { front = a; back = b; whole = ap (λ (t : List Mark). a ++ t) (append-nil b); first = g; second = h })))

pub good_schema : (n : ℕ) → Good (RulesSpelled (ChoiceWithin n)) (rules_at (choice_at n))
good_schema n = let k = knot n in good_rules (ChoiceWithin n) (choice_at n) k.good k.some k.late_name k.late_literal
