-- The names of the prelude take no arguments, and are types.
use Rattle.std.proofs.Common.{ℕ, zero, suc, ◌≡◌, ◌⊎◌, inl, inr, Bool, true, false, ◌||◌, ◌&&◌, List, [], ◌∷◌, ◌++◌, length, map, refl, ap, sym, ◌∙◌, subst}
use Rattle.std.specs.Prelude.{Option, Some, None, is_some, IsSome, if◌then◌else◌}
use Rattle.std.specs.List.{Contains, AllByRecursion, filter, list_any}
use Rattle.std.proofs.lemmas.Bool.{cond-true}
use Rattle.std.proofs.lemmas.Cmp.{nat_list_eq_equiv}
use Rattle.std.proofs.lemmas.List.Elements.{All-from_recursion, All-contains, Contains-append_cases}
use Rattle.std.proofs.lemmas.Map.Views.{list_any-from_Contains}
use Rattle.ecd_prelude.specs.Laws.{name_in, IsNoSocket, DefinesType}
use Rattle.ecd_prelude.specs.Prelude.{prelude_rules, float_names, defines, either, only, choice, named, name_of}
use Rattle.ecd_prelude.proofs.Names.{names-are_no_sockets}
use Rattle.ecd_prelude.proofs.Rules.{each_defines_type}
use Rattle.ecd_syntax.specs.declared.tree.Alts.{Alts}
use Rattle.ecd_syntax.specs.declared.tree.Assign.TheVariants.{Define, GroupMore}
use Rattle.ecd_syntax.specs.declared.tree.Form.{Form}
use Rattle.ecd_syntax.specs.declared.tree.Key.TheVariants as keys
use Rattle.ecd_syntax.specs.declared.tree.Name.{Name}
use Rattle.ecd_syntax.specs.declared.tree.Rule.{Rule}
use Rattle.ecd_syntax.specs.Reading.{entry_of}
use Rattle.ecd_uses.specs.declared.site.Lead.TheVariants as leads
use Rattle.ecd_uses.specs.Leads.{entry_lead, only_or, lead_of, type_lead, choice_lead, form_lead}
use Rattle.ecd_uses.specs.Listed.{operated_lead}
use Rattle.ecd_uses.proofs.Layers.{entry-lead, type-lead, choice-lead, named-lead, tag-lead, hash-lead}
use Rattle.ecd_bodies.specs.Kinds.{LeadsToGroup, MakesGroup, GroupWithin}
use Rattle.ecd_bodies.specs.Named.{all_rules, bodies_of, first_of, first_arity, is_float, is_named}
use Rattle.ecd_prelude.specs.Sockets.{is_socket, is_group_socket}
use Rattle.ecd_names.specs.Breaks.{IsOfPrelude, OfPrelude, BreaksNone, AtName, Duplicate}
use Rattle.ecd_names.specs.Laws.{PreludeTakesNone, PreludeIsOfTypes}
use Rattle.ecd_names.proofs.Nodes.{position-some, node-named}
use Rattle.ecd_names.proofs.Preludes.{alts-out, choice-out, operand-out, entry-out}
use Rattle.ecd_names.proofs.Walking.{none_in, element_at, at_element}

-- ---- no arguments

-- where one of these rules passes the test, the first rule that does has no parameters
first-none : (p : Rule → Bool) (rules text : List Rule) → AllByRecursion DefinesType rules → list_any p (rules ++ []) ≡ true → first_arity (filter p (rules ++ text)) ≡ 0
first-none p [] text all some = absurd cc
first-none p (rule ∷ rules) text all some = by_test (p rule) some (first-none p rules text all.1)
  where
    by_test : (b : Bool) → (b || list_any p (rules ++ [])) ≡ true → (list_any p (rules ++ []) ≡ true → first_arity (filter p (rules ++ text)) ≡ 0) → first_arity (if b then rule ∷ filter p (rules ++ text) else filter p (rules ++ text)) ≡ 0
    by_test true e rest = ap length all.0.params
    by_test false e rest = rest e

pub takes-none : PreludeTakesNone
takes-none text name (inr c) = cond-true (is_float name) 0 (first_arity (bodies_of text name)) (list_any-from_Contains nat_list_eq_equiv name float_names c)
takes-none text name (inl s) = by_test (is_float name)
  where
    by_test : (b : Bool) → (if b then 0 else first_arity (bodies_of text name)) ≡ 0
    by_test true = refl
    by_test false = first-none (is_named name) prelude_rules text each_defines_type (sym (position-some (is_named name) (all_rules [])) ∙ s)

-- ---- no sockets

found : (name : List ℕ) → IsSome (first_of [] name) → (rule : Rule) × Contains prelude_rules rule × (rule.name.text ≡ name)
found name s = by_node (first_of [] name) refl s
  where
    in_front : (rule : Rule) → Contains prelude_rules rule ⊎ Contains [] rule → Contains prelude_rules rule
    in_front rule (inl c) = c
    in_front rule (inr c) = absurd (none_in rule c)

    by_node : (o : Option ℕ) → first_of [] name ≡ o → is_some o ≡ true → (rule : Rule) × Contains prelude_rules rule × (rule.name.text ≡ name)
    by_node None e s = absurd cc
    by_node (Some n) e s =
        let at = node-named (all_rules []) name n e in
        (at.0, in_front at.0 (Contains-append_cases prelude_rules [] at.0 (element_at (all_rules []) n at.0 at.1)), at.2)

each-name : (rules : List Rule) (others : List (List ℕ)) → AllByRecursion IsNoSocket (map name_in rules ++ others) → AllByRecursion (λ rule. IsNoSocket rule.name.text) rules × AllByRecursion IsNoSocket others
each-name [] others all = (tt, all)
each-name (rule ∷ rules) others all = let rest = each-name rules others all.1 in ((all.0, rest.0), rest.1)

no-socket : (name : List ℕ) → IsOfPrelude name → is_socket name ≡ false
no-socket name of = by_place of (each-name prelude_rules float_names names-are_no_sockets)
  where
    by_place : IsOfPrelude name → AllByRecursion (λ (rule : Rule). IsNoSocket rule.name.text) prelude_rules × AllByRecursion IsNoSocket float_names → is_socket name ≡ false
    by_place (inr c) both = All-contains IsNoSocket float_names name (All-from_recursion IsNoSocket float_names both.1) c
    by_place (inl s) both =
        let f = found name s in
        subst IsNoSocket f.2 (All-contains (λ rule. IsNoSocket rule.name.text) prelude_rules f.0 (All-from_recursion (λ rule. IsNoSocket rule.name.text) prelude_rules both.0) f.1)

no-group_socket : (name : List ℕ) → is_socket name ≡ false → is_group_socket name ≡ true → ⊥
no-group_socket [] other socket = cc
no-group_socket (c ∷ rest) other socket = let both : (false && is_socket rest) ≡ true = ap (λ (b : Bool). b && is_socket rest) (sym other) ∙ socket in cc

-- ---- where the bodies of the prelude lead

-- to a type, or to a name of the prelude
data LeadsOn (rule : Rule) : Type 0 where
  ToType : lead_of rule.body ≡ leads.Type → LeadsOn rule
  ToName : (name : Name) → lead_of rule.body ≡ leads.Named name → IsOfPrelude name.text → LeadsOn rule

rule-lead : (name : List ℕ) (body : Alts) → lead_of (defines name body).body ≡ type_lead body
rule-lead name body = entry-lead (entry_of 0 None keys.Missing body) ∙ ap (λ e. entry_lead e.occur e.key (type_lead e.body)) (entry-out keys.Missing body)

choice-form : (form : Form) → choice_lead (choice form) ≡ form_lead form
choice-form form = choice-lead (choice form) ∙ (ap (λ c. operated_lead c.left c.op) (choice-out form) ∙ ap (λ t. form_lead t.form) (operand-out form))

only-form : (name : List ℕ) (form : Form) → lead_of (defines name (only form)).body ≡ form_lead form
only-form name form = rule-lead name (only form) ∙ (type-lead (only form) ∙ (ap (λ a. only_or leads.Type (map choice_lead a.choices)) (alts-out (choice form ∷ [])) ∙ choice-form form))

one_form : (name : List ℕ) (form : Form) → form_lead form ≡ leads.Type → LeadsOn (defines name (only form))
one_form name form e = ToType (only-form name form ∙ e)

one_name : (name a : List ℕ) → IsOfPrelude a → LeadsOn (defines name (only (named a)))
one_name name a of = ToName (name_of a) (only-form name (named a) ∙ named-lead (name_of a) []) of

two_names : (name a b : List ℕ) → LeadsOn (defines name (either a b))
two_names name a b = ToType (rule-lead name (either a b) ∙ (type-lead (either a b) ∙ ap (λ t. only_or leads.Type (map choice_lead t.choices)) (alts-out (choice (named a) ∷ choice (named b) ∷ []))))

each_leads_on : AllByRecursion LeadsOn prelude_rules
each_leads_on = (one_form _ _ (hash-lead _ _), (one_form _ _ (hash-lead _ _), (one_form _ _ (hash-lead _ _), (two_names _ _ _, (one_form _ _ (hash-lead _ _), (one_name _ _ (inl refl), (one_form _ _ (hash-lead _ _), (one_name _ _ (inl refl), (one_form _ _ (tag-lead _ _), (one_form _ _ (tag-lead _ _), (one_form _ _ (tag-lead _ _), (two_names _ _ _, (two_names _ _ _, (two_names _ _ _, (one_form _ _ (tag-lead _ _), (one_form _ _ (tag-lead _ _), (one_form _ _ (tag-lead _ _), (one_form _ _ (tag-lead _ _), (one_form _ _ (tag-lead _ _), (one_form _ _ (tag-lead _ _), (one_form _ _ (tag-lead _ _), (one_form _ _ (tag-lead _ _), (one_form _ _ (tag-lead _ _), (one_form _ _ (tag-lead _ _), (one_form _ _ (tag-lead _ _), (one_form _ _ (tag-lead _ _), (one_form _ _ (hash-lead _ _), (one_form _ _ (hash-lead _ _), (two_names _ _ _, (one_form _ _ (hash-lead _ _), (one_name _ _ (inl refl), (one_form _ _ (hash-lead _ _), tt))))))))))))))))))))))))))))))))

-- ---- types

-- a rule of the prelude makes its name no group, where the names of the prelude are none
makes-none : (Groups : List ℕ → Type 0) → ((name : List ℕ) → IsOfPrelude name → Groups name → ⊥) → (rule : Rule) → rule.assign ≡ Define → LeadsOn rule → MakesGroup Groups rule → ⊥
makes-none Groups never rule define lead (inl more) = let bad : Define ≡ GroupMore = sym define ∙ more in absurd cc
makes-none Groups never rule define (ToType e) (inr group) = subst (LeadsToGroup Groups rule.params) e group
makes-none Groups never rule define (ToName name e of) (inr group) =
    let beside = subst (LeadsToGroup Groups rule.params) e group in
    never name.text of beside.1

module _ (text : List Rule) (none : BreaksNone text) where
  none-in_text : (name : List ℕ) (rule : Rule) → IsOfPrelude name → Contains text rule → rule.name.text ≡ name → ⊥
  none-in_text name rule of c same =
      let place = at_element text rule c in
      none rule.name.at 1 (record { index = place.0; rule = rule; stands = place.1; broken = AtName refl (Duplicate refl (OfPrelude (subst IsOfPrelude (sym same) of))) })

  never-within : (steps : ℕ) (name : List ℕ) → IsOfPrelude name → GroupWithin text steps name → ⊥
  never-within zero name of group = group
  never-within (suc steps) name of (inl socket) = no-group_socket name (no-socket name of) socket
  never-within (suc steps) name of (inr group) = by_place (never-within steps) (Contains-append_cases prelude_rules text group.1.rule group.1.among)
    where
      by_place : ((n : List ℕ) → IsOfPrelude n → GroupWithin text steps n → ⊥) → Contains prelude_rules group.1.rule ⊎ Contains text group.1.rule → ⊥
      by_place never (inl c) =
          let rule = group.1.rule in
          let define = All-contains DefinesType prelude_rules rule (All-from_recursion DefinesType prelude_rules each_defines_type) c in
          let lead = All-contains LeadsOn prelude_rules rule (All-from_recursion LeadsOn prelude_rules each_leads_on) c in
          makes-none (GroupWithin text steps) never rule define.assign lead group.1.makes
      by_place never (inr c) = none-in_text name group.1.rule of c group.1.named

pub is-type : PreludeIsOfTypes
is-type text name none of group = never-within text none group.steps name of group.shown
