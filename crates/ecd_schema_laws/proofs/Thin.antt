-- Whether rules are one rule with one small number is decided.
use Rattle.std.proofs.Common.{◌≡◌, ℕ, ◌≤◌, ◌⊎◌, inl, inr, List, [], ◌∷◌, refl, ap, sym, ◌∙◌, subst, arith}
use Rattle.std.specs.Prelude.{Option, Some, None, pos, negsuc, bytes_eq}
use Rattle.std.proofs.lemmas.Bool.{cases_lt}
use Rattle.std.proofs.lemmas.Slice.Eq.{bytes_eq-Decides}
use Rattle.ecd_syntax.specs.declared.tree.Alts.{out-Alts}
use Rattle.ecd_syntax.specs.declared.tree.Entry.{Entry, out-Entry}
use Rattle.ecd_syntax.specs.declared.tree.Form.{out-Form}
use Rattle.ecd_syntax.specs.declared.tree.Form.TheOpen as forms
use Rattle.ecd_syntax.specs.declared.tree.Key.{out-Key}
use Rattle.ecd_syntax.specs.declared.tree.Literal.{Literal}
use Rattle.ecd_syntax.specs.declared.tree.Literal.TheVariants.{Int, Float, Text, Bytes}
use Rattle.ecd_syntax.specs.declared.tree.Name.{Name}
use Rattle.ecd_syntax.specs.declared.tree.Occur.{Occur}
use Rattle.ecd_syntax.specs.declared.tree.Operation.{Operation}
use Rattle.ecd_syntax.specs.declared.tree.Rule.{Rule}
use Rattle.ecd_syntax.specs.declared.tree.Type1.{Type1, out-Type1}
use Rattle.ecd_syntax.specs.declared.tree.Type2.{out-Type2}
use Rattle.ecd_syntax.specs.Grammar.{AKey, AForm}
use Rattle.ecd_compile.specs.Thin.{IsSmall, IsLoneNumber, Defines, IsThin}
use Rattle.ecd_schema_laws.proofs.Deciding.{Decided, decided_test, decided_as, decided_both}
use Rattle.ecd_schema_laws.proofs.Naming.{decided_define}

-- a number of which it holds, or none
abbrev pub Numbered : (ℕ → Type 0) → Type 0
Numbered P = ((n : ℕ) × P n) ⊎ ((n : ℕ) → P n → ⊥)

-- ---- an entry that is a small number

small : (l : Literal) → Numbered (IsSmall l)
small (Int (Some (pos n))) = elim (cases_lt n 24) [
  | inl lt ↦ inl (n, record { is = refl; small = lt })
  | inr ge ↦ inr (λ m s. let same : n ≡ m = cc in omega (arith, s.small, same, ge))
]
small (Int (Some (negsuc n))) = inr (λ m s. cc)
small (Int None) = inr (λ m s. cc)
small Float = inr (λ m s. cc)
small (Text bytes) = inr (λ m s. cc)
small (Bytes bytes) = inr (λ m s. cc)

module _ (e : Entry) where
  abbrev form_of : Type1 → AForm
  form_of choice = out-Form (out-Type2 (out-Type1 choice).left).form

  module _ (no_occurrence : (out-Entry e).occur ≡ None) (no_key : out-Key (out-Entry e).key ≡ forms.Missing) (choice : Type1) (alone : (out-Alts (out-Entry e).body).choices ≡ choice ∷ []) where
    same_choice : (n : ℕ) (l : IsLoneNumber e n) → l.choice ≡ choice
    same_choice n l = let both : l.choice ∷ [] ≡ choice ∷ [] = sym l.alone ∙ alone in cc

    by_literal : (out-Type1 choice).op ≡ None → (literal : Literal) → form_of choice ≡ forms.Form::Lit literal → Numbered (IsSmall literal) → Numbered (IsLoneNumber e)
    by_literal no_op literal is (inl s) = inl (s.0, record { choice = choice; literal = literal; no_occurrence = no_occurrence; no_key = no_key; alone = alone; no_operator = no_op; is = is; small = s.1 })
    by_literal no_op literal is (inr none) = inr (λ n l.
        let both : forms.Form::Lit l.literal ≡ forms.Form::Lit literal = sym l.is ∙ (ap form_of (same_choice n l) ∙ is) in
        let same : l.literal ≡ literal = cc in
        none n (subst (λ (x : Literal). IsSmall x n) same l.small))

    by_form : (out-Type1 choice).op ≡ None → (form : AForm) → form_of choice ≡ form → Numbered (IsLoneNumber e)
    by_form no_op (forms.Form::Lit literal) is = by_literal no_op literal is (small literal)
    by_form no_op form is = inr (λ n l. let both : forms.Form::Lit l.literal ≡ form = sym l.is ∙ (ap form_of (same_choice n l) ∙ is) in cc)

    by_op : (op : Option Operation) → (out-Type1 choice).op ≡ op → Numbered (IsLoneNumber e)
    by_op None is = by_form is (form_of choice) refl
    by_op (Some o) is = inr (λ n l. let both : None ≡ Some o = sym l.no_operator ∙ (ap (λ (c : Type1). (out-Type1 c).op) (same_choice n l) ∙ is) in cc)

  by_choices : (out-Entry e).occur ≡ None → out-Key (out-Entry e).key ≡ forms.Missing → (choices : List Type1) → (out-Alts (out-Entry e).body).choices ≡ choices → Numbered (IsLoneNumber e)
  by_choices no_occurrence no_key [] is = inr (λ n l. let both : l.choice ∷ [] ≡ [] = sym l.alone ∙ is in cc)
  by_choices no_occurrence no_key (c ∷ []) is = by_op no_occurrence no_key c is (out-Type1 c).op refl
  by_choices no_occurrence no_key (c ∷ d ∷ more) is = inr (λ n l. let both : l.choice ∷ [] ≡ c ∷ d ∷ more = sym l.alone ∙ is in cc)

  by_key : (out-Entry e).occur ≡ None → (key : AKey) → out-Key (out-Entry e).key ≡ key → Numbered (IsLoneNumber e)
  by_key no_occurrence forms.Missing is = by_choices no_occurrence is (out-Alts (out-Entry e).body).choices refl
  by_key no_occurrence key is = inr (λ n l. let both : forms.Missing ≡ key = sym l.no_key ∙ is in cc)

  by_occur : (occur : Option Occur) → (out-Entry e).occur ≡ occur → Numbered (IsLoneNumber e)
  by_occur None is = by_key is (out-Key (out-Entry e).key) refl
  by_occur (Some o) is = inr (λ n l. let both : None ≡ Some o = sym l.no_occurrence ∙ is in cc)

lone : (e : Entry) → Numbered (IsLoneNumber e)
lone e = by_occur e (out-Entry e).occur refl

-- ---- a rule that defines the root

decided_below : (m n : ℕ) → Decided (m ≤ n)
decided_below m n = elim (cases_lt n m) [ inl lt ↦ inr (λ le. omega arith) | inr le ↦ inl le ]

decided_bytes : (a b : List ℕ) → Decided (a ≡ b)
decided_bytes a b = let d = bytes_eq-Decides a b in decided_as d.0 d.1 (decided_test (bytes_eq a b))

decided_none : (names : List Name) → Decided (names ≡ [])
decided_none [] = inl refl
decided_none (n ∷ names) = inr (λ e. cc)

defines : (rule : Rule) (root : List ℕ) → Decided (Defines rule root)
defines rule [] = inr (λ d. cc)
defines rule (c ∷ []) =
    decided_as
    (λ h. record { letter = c; low = h.0.0; high = h.0.1; root_is = refl; named = h.1.0; no_parameters = h.1.1.0; defines = h.1.1.1 })
    (λ d. let same : c ≡ d.letter = cc in ((omega (arith, d.low), omega (arith, d.high)), (d.named, (d.no_parameters, d.defines))))
    (decided_both (decided_both (decided_below 97 c) (decided_below c 122)) (decided_both (decided_bytes rule.name.text (c ∷ [])) (decided_both (decided_none rule.params) (decided_define rule.assign))))
defines rule (c ∷ e ∷ root) = inr (λ d. cc)

-- ---- rules

by_rule : (rule : Rule) (root : List ℕ) → Decided (Defines rule root) → Numbered (IsLoneNumber rule.body) → Numbered (IsThin (rule ∷ []) root)
by_rule rule root (inl d) (inl l) = inl (l.0, record { rule = rule; alone = refl; defines = d; number = l.1 })
by_rule rule root (inr other) l = inr (λ n t. let same : t.rule ≡ rule = cc in other (subst (λ (r : Rule). Defines r root) same t.defines))
by_rule rule root d (inr none) = inr (λ n t. let same : t.rule ≡ rule = cc in none n (subst (λ (r : Rule). IsLoneNumber r.body n) same t.number))

pub thin : (rules : List Rule) (root : List ℕ) → Numbered (IsThin rules root)
thin [] root = inr (λ n t. cc)
thin (rule ∷ []) root = by_rule rule root (defines rule root) (lone rule.body)
thin (rule ∷ other ∷ more) root = inr (λ n t. cc)
