-- Of the rules of names that a text breaks, there is none or a first.
use Rattle.std.proofs.Common.{ℕ, ◌≡◌, ◌≢◌, ◌⊎◌, inl, inr, true, List, [], length, take, refl}
use Rattle.std.specs.Prelude.{Some, slice_get}
use Rattle.std.proofs.lemmas.Bool.{cases_eq}
use Rattle.std.proofs.lemmas.Option.{slice_get_within}
use Rattle.std.proofs.lemmas.List.Elements.{Contains-append_right}
use Rattle.ecd_first.specs.Firsts.{Faults, EachOf, AnyBelow}
use Rattle.ecd_syntax.specs.declared.tree.Assign.{Assign}
use Rattle.ecd_syntax.specs.declared.tree.Assign.TheVariants.{Define, TypeMore, GroupMore}
use Rattle.ecd_syntax.specs.declared.tree.Name.{Name}
use Rattle.ecd_syntax.specs.declared.tree.Rule.{Rule}
use Rattle.ecd_uses.specs.declared.site.Asked.{Asked}
use Rattle.ecd_uses.specs.declared.site.Asked.TheVariants.{Anything, AType, AGroup}
use Rattle.ecd_uses.specs.declared.site.Site.{Site}
use Rattle.ecd_uses.specs.declared.site.Site.TheVariants.{Use, Parenthesis}
use Rattle.ecd_uses.specs.Leads.{lead_of}
use Rattle.ecd_uses.specs.Sites.{sites_of}
use Rattle.ecd_prelude.specs.Prelude.{prelude_rules}
use Rattle.ecd_prelude.specs.Sockets.{is_socket, is_group_socket, IsTypeSocket}
use Rattle.ecd_bodies.specs.Kinds.{IsGroup, LeadsToGroup}
use Rattle.ecd_bodies.specs.Named.{all_rules, first_of, arity_of, is_in_text, is_parameter}
use Rattle.ecd_names.specs.Breaks.{IsOfPrelude, IsGroupIn, IsDuplicate, IsUndefined, IsRecursive, arity_in, IsOtherKind, IsOtherAssign, UseBreaks, SiteBreaks, NameBreaks, RuleBreaks, Breaks}
use Rattle.ecd_names.specs.Breaks.{OfPrelude, Again, GroupForType, TypeForGroup, TypeForGroupName, GroupForTypeSocket, GroupAsTypeSocket, TypeForGroupSocket, Undefined, Recursive, OtherArity, OtherKind, Duplicate, OtherParameters, OtherAssign, AtName, AtParameter, AtSite}
use Rattle.ecd_names.proofs.Nodes.{node-of}
use Rattle.ecd_names.proofs.Walking.{element_at}
use Rattle.ecd_schema_laws.specs.Laws.{NamesAreJudged}
use Rattle.ecd_schema_laws.proofs.Deciding.{Decided, decided_test, decided_false, decided_as, decided_not, decided_both, decided_either}
use Rattle.ecd_schema_laws.proofs.Naming.{decided_define, decided_defined, decided_group, decided_beside, decided_lead, decided_back}
use Rattle.ecd_schema_laws.proofs.Least.{Found, found_one, found_two, found_as, AtIndex, found_at, found_below, found_each}

-- ---- kinds of assignments, and what is asked

decided_type_more : (a : Assign) → Decided (a ≡ TypeMore)
decided_type_more Define = inr (λ e. cc)
decided_type_more TypeMore = inl refl
decided_type_more GroupMore = inr (λ e. cc)

decided_group_more : (a : Assign) → Decided (a ≡ GroupMore)
decided_group_more Define = inr (λ e. cc)
decided_group_more TypeMore = inr (λ e. cc)
decided_group_more GroupMore = inl refl

decided_a_type : (a : Asked) → Decided (a ≡ AType)
decided_a_type Anything = inr (λ e. cc)
decided_a_type AType = inl refl
decided_a_type AGroup = inr (λ e. cc)

decided_a_group : (a : Asked) → Decided (a ≡ AGroup)
decided_a_group Anything = inr (λ e. cc)
decided_a_group AType = inr (λ e. cc)
decided_a_group AGroup = inl refl

decided_type_socket : (name : List ℕ) → Decided (IsTypeSocket name)
decided_type_socket name = decided_as (λ h. record { socket = h.0; single = h.1 }) (λ s. (s.socket, s.single)) (decided_both (decided_test (is_socket name)) (decided_false (is_group_socket name)))

-- ---- each rule

decided_duplicate : (before : List Rule) (rule : Rule) → Decided (IsDuplicate before rule)
decided_duplicate before rule = decided_as to from (decided_either (decided_defined [] rule.name.text) (decided_both (decided_define rule.assign) (decided_test (is_in_text before rule.name.text))))
  where
    to : IsOfPrelude rule.name.text ⊎ ((rule.assign ≡ Define) × (is_in_text before rule.name.text ≡ true)) → IsDuplicate before rule
    to (inl p) = OfPrelude p
    to (inr h) = Again h.0 h.1

    from : IsDuplicate before rule → IsOfPrelude rule.name.text ⊎ ((rule.assign ≡ Define) × (is_in_text before rule.name.text ≡ true))
    from (OfPrelude p) = inl p
    from (Again d h) = inr (d, h)

module _ (text : List Rule) (rule : Rule) where
  decided_undefined : (name : List ℕ) → Decided (IsUndefined text rule name)
  decided_undefined name =
      decided_as (λ h. record { free = h.0.0; no_rule = h.0.1; no_socket = h.1 }) (λ u. ((u.free, u.no_rule), u.no_socket))
      (decided_both (decided_both (decided_false (is_parameter rule.params name)) (decided_not (decided_defined text name))) (decided_false (is_socket name)))

  decided_recursive : (name : List ℕ) (node : ℕ) → first_of text rule.name.text ≡ Some node → Decided (IsRecursive text rule name)
  decided_recursive name node is =
      decided_as (λ h. record { free = h.0; back = h.1 }) (λ r. (r.free, r.back))
      (decided_both (decided_false (is_parameter rule.params name)) (decided_back text name rule.name.text node is))

  decided_other_kind : (name : List ℕ) (asked : Asked) → Decided (IsOtherKind text rule name asked)
  decided_other_kind name asked =
      decided_as to from
      (decided_either (decided_both (decided_a_type asked) (decided_beside text rule.params name)) (decided_both (decided_a_group asked) (decided_not (decided_beside text rule.params name))))
    where
      to : ((asked ≡ AType) × IsGroupIn text rule name) ⊎ ((asked ≡ AGroup) × (IsGroupIn text rule name → ⊥)) → IsOtherKind text rule name asked
      to (inl h) = GroupForType h.0 h.1
      to (inr h) = TypeForGroup h.0 h.1

      from : IsOtherKind text rule name asked → ((asked ≡ AType) × IsGroupIn text rule name) ⊎ ((asked ≡ AGroup) × (IsGroupIn text rule name → ⊥))
      from (GroupForType a g) = inl (a, g)
      from (TypeForGroup a n) = inr (a, n)

  abbrev Ways : Type 0
  Ways = (((rule.assign ≡ TypeMore) × IsGroup text rule.name.text) ⊎ ((rule.assign ≡ GroupMore) × IsTypeSocket rule.name.text))
      ⊎ (((rule.assign ≡ Define) × (LeadsToGroup (IsGroup text) rule.params (lead_of rule.body) × IsTypeSocket rule.name.text)) ⊎ ((rule.assign ≡ TypeMore) × (is_group_socket rule.name.text ≡ true)))

  decided_other_assign : Decided (IsOtherAssign text rule)
  decided_other_assign =
      decided_as to from
      (decided_either
      (decided_either (decided_both (decided_type_more rule.assign) (decided_group text rule.name.text)) (decided_both (decided_group_more rule.assign) (decided_type_socket rule.name.text)))
      (decided_either (decided_both (decided_define rule.assign) (decided_both (decided_lead text rule.params (lead_of rule.body)) (decided_type_socket rule.name.text))) (decided_both (decided_type_more rule.assign) (decided_test (is_group_socket rule.name.text)))))
    where
      to : Ways → IsOtherAssign text rule
      to (inl (inl h)) = TypeForGroupName h.0 h.1
      to (inl (inr h)) = GroupForTypeSocket h.0 h.1
      to (inr (inl h)) = GroupAsTypeSocket h.0 h.1.0 h.1.1
      to (inr (inr h)) = TypeForGroupSocket h.0 h.1

      from : IsOtherAssign text rule → Ways
      from (TypeForGroupName a g) = inl (inl (a, g))
      from (GroupForTypeSocket a s) = inl (inr (a, s))
      from (GroupAsTypeSocket a g s) = inr (inl (a, (g, s)))
      from (TypeForGroupSocket a s) = inr (inr (a, s))

-- ---- a use

-- one rule at one place
abbrev At : (at rule : ℕ) → Type 0 → Faults ℕ
At at rule P place number = (place ≡ at) × (number ≡ rule) × P

found_here : (at rule : ℕ) (P : Type 0) → Decided P → Found (At at rule P)
found_here at rule P d = found_one (At at rule P) at rule (λ p n f. (f.0, f.1)) (decided_as (λ h. (refl, refl, h)) (λ f. f.2) d)

abbrev Either : Faults ℕ → Faults ℕ → Faults ℕ
Either F G place number = F place number ⊎ G place number

found_either : (F G : Faults ℕ) → Found F → Found G → Found (Either F G)
found_either F G = found_two (Either F G) F G (λ p n f. inl f) (λ p n f. inr f) (λ p n f. f)

module _ (text : List Rule) (rule : Rule) (node : ℕ) (is : first_of text rule.name.text ≡ Some node) where
  module _ (name : Name) (args : ℕ) (asked : Asked) where
    abbrev Four : Faults ℕ
    Four = Either (Either (At name.at 2 (IsUndefined text rule name.text)) (At name.at 3 (IsRecursive text rule name.text))) (Either (At name.at 4 (args ≢ arity_in text rule name.text)) (At name.at 5 (IsOtherKind text rule name.text asked)))

    found_four : Found Four
    found_four =
        found_either _ _
        (found_either _ _ (found_here name.at 2 _ (decided_undefined text rule name.text)) (found_here name.at 3 _ (decided_recursive text rule name.text node is)))
        (found_either _ _ (found_here name.at 4 _ (decided_not (cases_eq args (arity_in text rule name.text)))) (found_here name.at 5 _ (decided_other_kind text rule name.text asked)))

    use_is : (place number : ℕ) → Four place number → SiteBreaks text rule (Use name args asked) place number
    use_is place number (inl (inl f)) = (f.0, Undefined f.1 f.2)
    use_is place number (inl (inr f)) = (f.0, Recursive f.1 f.2)
    use_is place number (inr (inl f)) = (f.0, OtherArity f.1 f.2)
    use_is place number (inr (inr f)) = (f.0, OtherKind f.1 f.2)

    is_use : (place number : ℕ) → SiteBreaks text rule (Use name args asked) place number → Four place number
    is_use place number s = by s.1
      where
        by : UseBreaks text rule name.text args asked number → Four place number
        by (Undefined e h) = inl (inl (s.0, e, h))
        by (Recursive e h) = inl (inr (s.0, e, h))
        by (OtherArity e h) = inr (inl (s.0, e, h))
        by (OtherKind e h) = inr (inr (s.0, e, h))

  found_site : (site : Site) → Found (SiteBreaks text rule site)
  found_site (Use name args asked) = found_as (Four name args asked) (SiteBreaks text rule (Use name args asked)) (use_is name args asked) (is_use name args asked) (found_four name args asked)
  found_site (Parenthesis at lead) = found_here at 5 (LeadsToGroup (IsGroup text) rule.params lead) (decided_lead text rule.params lead)

-- ---- a rule

module _ (text before : List Rule) (rule : Rule) where
  abbrev OfName : Faults ℕ
  OfName = Either (At rule.name.at 1 (IsDuplicate before rule)) (Either (At rule.name.at 4 (length rule.params ≢ arity_of text rule.name.text)) (At rule.name.at 5 (IsOtherAssign text rule)))

  found_name : Found OfName
  found_name =
      found_either _ _ (found_here rule.name.at 1 _ (decided_duplicate before rule))
      (found_either _ _ (found_here rule.name.at 4 _ (decided_not (cases_eq (length rule.params) (arity_of text rule.name.text)))) (found_here rule.name.at 5 _ (decided_other_assign text rule)))

  -- a parameter of the number that repeats one before it
  abbrev Repeats : ℕ → Faults ℕ
  Repeats index = AtIndex (λ (param : Name). At param.at 1 (is_parameter (take index rule.params) param.text ≡ true)) rule.params index

  found_repeats : (index : ℕ) → Found (Repeats index)
  found_repeats index = found_at (λ (param : Name). At param.at 1 (is_parameter (take index rule.params) param.text ≡ true)) rule.params index (λ param e. found_here param.at 1 _ (decided_test (is_parameter (take index rule.params) param.text)))

  abbrev Three : Faults ℕ
  Three = Either OfName (Either (AnyBelow Repeats (length rule.params)) (EachOf (SiteBreaks text rule) (sites_of rule)))

  rule_is : (place number : ℕ) → Three place number → RuleBreaks text before rule place number
  rule_is place number (inl (inl f)) = AtName f.0 (Duplicate f.1 f.2)
  rule_is place number (inl (inr (inl f))) = AtName f.0 (OtherParameters f.1 f.2)
  rule_is place number (inl (inr (inr f))) = AtName f.0 (OtherAssign f.1 f.2)
  rule_is place number (inr (inl f)) = let b = f.broken in AtParameter f.index b.one b.broken.0 b.broken.1 (record { stands = b.stands; named_before = b.broken.2 })
  rule_is place number (inr (inr f)) = AtSite f.one f.among f.broken

  is_rule : (place number : ℕ) → RuleBreaks text before rule place number → Three place number
  is_rule place number (AtName p b) = inl (by b)
    where
      by : NameBreaks text before rule number → OfName place number
      by (Duplicate e h) = inl (p, e, h)
      by (OtherParameters e h) = inr (inl (p, e, h))
      by (OtherAssign e h) = inr (inr (p, e, h))
  is_rule place number (AtParameter index param p e r) = inr (inl (record { index = index; below = slice_get_within rule.params index param r.stands; broken = record { one = param; stands = r.stands; broken = (p, e, r.named_before) } }))
  is_rule place number (AtSite site among b) = inr (inr (record { one = site; among = among; broken = b }))

  found_rule : (node : ℕ) → first_of text rule.name.text ≡ Some node → Found (RuleBreaks text before rule)
  found_rule node is =
      found_as Three (RuleBreaks text before rule) rule_is is_rule
      (found_either _ _ found_name (found_either _ _ (found_below Repeats (length rule.params) (λ i lt. found_repeats i)) (found_each (SiteBreaks text rule) (sites_of rule) (found_site text rule node is))))

-- ---- a text

module _ (text : List Rule) where
  abbrev OfRule : ℕ → Faults ℕ
  OfRule index = AtIndex (RuleBreaks text (take index text)) text index

  found_of_rule : (index : ℕ) → Found (OfRule index)
  found_of_rule index = found_at (RuleBreaks text (take index text)) text index by
    where
      by : (rule : Rule) → slice_get text index ≡ Some rule → Found (RuleBreaks text (take index text) rule)
      by rule e = let node = node-of (all_rules text) rule (Contains-append_right prelude_rules text rule (element_at text index rule e)) in found_rule text (take index text) rule node.0 node.1

  found_text : Found (Breaks text)
  found_text =
      found_as (AnyBelow OfRule (length text)) (Breaks text)
      (λ p n f. record { index = f.index; rule = f.broken.one; stands = f.broken.stands; broken = f.broken.broken })
      (λ p n b. record { index = b.index; below = slice_get_within text b.index b.rule b.stands; broken = record { one = b.rule; stands = b.stands; broken = b.broken } })
      (found_below OfRule (length text) (λ i lt. found_of_rule i))

pub names_are_judged : NamesAreJudged
names_are_judged text = elim (found_text text) [
  | inl none ↦ inl none
  | inr first ↦ inr (first.place, first.number, record { broken = first.broken; first = first.first })
]
