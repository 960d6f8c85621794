-- What a rule breaks, from its parts.
use Rattle.std.proofs.Common.{ℕ, ◌≡◌, ◌≢◌, ◌≤◌, inl, inr, Bool, true, false, List, length, take, refl, sym, ◌∙◌, subst, arith}
use Rattle.std.specs.Prelude.{Option, Some, nat_eq, not, slice_get}
use Rattle.std.specs.List.{Contains}
use Rattle.std.proofs.lemmas.Bool.Decides.{nat_tests}
use Rattle.std.proofs.lemmas.List.Elements.{Contains-append_right}
use Rattle.std.proofs.lemmas.Option.{slice_get_within}
use Rattle.ecd_prelude.specs.Prelude.{prelude_rules}
use Rattle.ecd_syntax.specs.declared.tree.Assign.TheVariants.{Define, TypeMore, GroupMore}
use Rattle.ecd_syntax.specs.declared.tree.Name.{Name}
use Rattle.ecd_syntax.specs.declared.tree.Rule.{Rule}
use Rattle.ecd_uses.specs.declared.site.Asked.{Asked}
use Rattle.ecd_uses.specs.declared.site.Site.{Site}
use Rattle.ecd_uses.specs.declared.site.Site.TheVariants.{Use}
use Rattle.ecd_uses.specs.Sites.{sites_of}
use Rattle.ecd_bodies.specs.Named.{arity_of, is_parameter}
use Rattle.ecd_bodies.specs.Kinds.{IsGroup}
use Rattle.ecd_prelude.specs.Sockets.{is_group_socket}
use Rattle.ecd_bodies.specs.Reaching.{Uses}
use Rattle.ecd_first.specs.declared.first.Broken.{Broken}
use Rattle.ecd_names.specs.Breaks.{IsDuplicate, IsUndefined, IsRecursive, arity_in, IsOtherKind, IsOtherAssign, UseBreaks, NameBreaks, RuleBreaks, SiteBreaks}
use Rattle.ecd_names.specs.Breaks.{Undefined, Recursive, OtherArity, OtherKind, Duplicate, OtherParameters, OtherAssign, AtName, AtParameter, AtSite, TypeForGroupName, GroupForTypeSocket, GroupAsTypeSocket, TypeForGroupSocket}
use Rattle.ecd_first.specs.Firsts.{Faults, offset, Sees, When, EachOf}
use Rattle.ecd_names.specs.Parameters.{RepeatsOne}
use Rattle.ecd_names.specs.Scenes.{NameFaults}
use Rattle.ecd_first.proofs.Seeing.{Either, sees_then, sees_same}
use Rattle.ecd_names.proofs.Walking.{element_at, take-all}

differs : (a b : ℕ) → not (nat_eq a b) ≡ true → a ≢ b
differs a b e = grind (arith, nat_tests)

differing : (a b : ℕ) → a ≢ b → not (nat_eq a b) ≡ true
differing a b n = grind (arith, nat_tests)

-- ---- a use

module _ (text : List Rule) (rule : Rule) (name : Name) (args : ℕ) (asked : Asked) (a b c d e : Option (Broken ℕ)) (undefined recursive kind : Bool) (arity : ℕ) where
  pub sees_use : ((undefined ≡ true → IsUndefined text rule name.text) × (IsUndefined text rule name.text → undefined ≡ true)) →
      ((recursive ≡ true → IsRecursive text rule name.text) × (IsRecursive text rule name.text → recursive ≡ true)) →
      arity ≡ arity_in text rule name.text →
      ((kind ≡ true → IsOtherKind text rule name.text asked) × (IsOtherKind text rule name.text asked → kind ≡ true)) →
      Sees offset a b (When undefined name.at 2) → Sees offset b c (When recursive name.at 3) → Sees offset c d (When (not (nat_eq args arity)) name.at 4) → Sees offset d e (When kind name.at 5) →
      Sees offset a e (SiteBreaks text rule (Use name args asked))
  sees_use u r n k s t v w =
      sees_same offset a e _ (SiteBreaks text rule (Use name args asked)) to from
      (sees_then offset a d e _ (When kind name.at 5) (sees_then offset a c d _ (When (not (nat_eq args arity)) name.at 4) (sees_then offset a b c (When undefined name.at 2) (When recursive name.at 3) s t) v) w)
    where
      to : (place number : ℕ) → Either (Either (Either (When undefined name.at 2) (When recursive name.at 3)) (When (not (nat_eq args arity)) name.at 4)) (When kind name.at 5) place number → SiteBreaks text rule (Use name args asked) place number
      to place number (inl (inl (inl x))) = (x.place_is, Undefined x.rule_is (u.0 x.so))
      to place number (inl (inl (inr x))) = (x.place_is, Recursive x.rule_is (r.0 x.so))
      to place number (inl (inr x)) = (x.place_is, OtherArity x.rule_is (λ same. differs args arity x.so (same ∙ sym n)))
      to place number (inr x) = (x.place_is, OtherKind x.rule_is (k.0 x.so))

      breaks : (place number : ℕ) → place ≡ name.at → UseBreaks text rule name.text args asked number → Either (Either (Either (When undefined name.at 2) (When recursive name.at 3)) (When (not (nat_eq args arity)) name.at 4)) (When kind name.at 5) place number
      breaks place number p (Undefined e x) = inl (inl (inl (record { so = u.1 x; place_is = p; rule_is = e })))
      breaks place number p (Recursive e x) = inl (inl (inr (record { so = r.1 x; place_is = p; rule_is = e })))
      breaks place number p (OtherArity e x) = inl (inr (record { so = differing args arity (λ same. x (same ∙ n)); place_is = p; rule_is = e }))
      breaks place number p (OtherKind e x) = inr (record { so = k.1 x; place_is = p; rule_is = e })

      from : (place number : ℕ) → SiteBreaks text rule (Use name args asked) place number → Either (Either (Either (When undefined name.at 2) (When recursive name.at 3)) (When (not (nat_eq args arity)) name.at 4)) (When kind name.at 5) place number
      from place number x = breaks place number x.0 x.1

-- a free use in a rule of the text
pub uses_it : (text : List Rule) (index : ℕ) (rule : Rule) (site : Site) (name : Name) (args : ℕ) (asked : Asked) → slice_get text index ≡ Some rule → Contains (sites_of rule) site → site ≡ Use name args asked → is_parameter rule.params name.text ≡ false → Uses text rule.name.text name.text
uses_it text index rule site name args asked stands among e free = record {
  rule = rule;
  among = Contains-append_right prelude_rules text rule (element_at text index rule stands);
  named = refl;
  name = name;
  args = args;
  asked = asked;
  used = record { among = subst (λ (s : Site). Contains (sites_of rule) s) e among; free = free };
  is = refl;
}

-- all sites
pub sees_all : (faults : Site → Faults ℕ) (old new : Option (Broken ℕ)) (xs ys : List Site) (n : ℕ) → length xs ≤ n → xs ≡ ys → Sees offset old new (EachOf faults (take n xs)) → Sees offset old new (EachOf faults ys)
sees_all faults old new xs ys n h e s = subst (λ (l : List Site). Sees offset old new (EachOf faults l)) (take-all xs n h ∙ e) s

-- ---- the name of a rule

module _ (text before : List Rule) (rule : Rule) (a b c d : Option (Broken ℕ)) (duplicate other : Bool) (params arity : ℕ) where
  pub sees_name : ((duplicate ≡ true → IsDuplicate before rule) × (IsDuplicate before rule → duplicate ≡ true)) → params ≡ length rule.params → arity ≡ arity_of text rule.name.text →
      ((other ≡ true → IsOtherAssign text rule) × (IsOtherAssign text rule → other ≡ true)) →
      Sees offset a b (When duplicate rule.name.at 1) → Sees offset b c (When (not (nat_eq params arity)) rule.name.at 4) → Sees offset c d (When other rule.name.at 5) → Sees offset a d (NameFaults text before rule)
  sees_name u m n o s t v =
      sees_same offset a d _ (NameFaults text before rule) to (λ place number x. from place number x.place_is x.broken)
      (sees_then offset a c d _ (When other rule.name.at 5) (sees_then offset a b c (When duplicate rule.name.at 1) (When (not (nat_eq params arity)) rule.name.at 4) s t) v)
    where
      to : (place number : ℕ) → Either (Either (When duplicate rule.name.at 1) (When (not (nat_eq params arity)) rule.name.at 4)) (When other rule.name.at 5) place number → NameFaults text before rule place number
      to place number (inl (inl x)) = record { place_is = x.place_is; broken = Duplicate x.rule_is (u.0 x.so) }
      to place number (inl (inr x)) = record { place_is = x.place_is; broken = OtherParameters x.rule_is (λ same. differs params arity x.so (m ∙ (same ∙ sym n))) }
      to place number (inr x) = record { place_is = x.place_is; broken = OtherAssign x.rule_is (o.0 x.so) }

      from : (place number : ℕ) → place ≡ rule.name.at → NameBreaks text before rule number → Either (Either (When duplicate rule.name.at 1) (When (not (nat_eq params arity)) rule.name.at 4)) (When other rule.name.at 5) place number
      from place number p (Duplicate e x) = inl (inl (record { so = u.1 x; place_is = p; rule_is = e }))
      from place number p (OtherParameters e x) = inl (inr (record { so = differing params arity (λ same. x (sym m ∙ (same ∙ n))); place_is = p; rule_is = e }))
      from place number p (OtherAssign e x) = inr (record { so = o.1 x; place_is = p; rule_is = e })

-- `/=` on a group
module _ (text : List Rule) (rule : Rule) (assign : rule.assign ≡ TypeMore) where
  socket_group : is_group_socket rule.name.text ≡ true → IsGroup text rule.name.text
  socket_group s = record { steps = 1; shown = inl s }

  pub type_more-other : (is_group : Bool) → ((is_group ≡ true → IsGroup text rule.name.text) × (IsGroup text rule.name.text → is_group ≡ true)) → (is_group ≡ true → IsOtherAssign text rule) × (IsOtherAssign text rule → is_group ≡ true)
  type_more-other is_group h = (λ e. TypeForGroupName assign (h.0 e), from)
    where
      from : IsOtherAssign text rule → is_group ≡ true
      from (TypeForGroupName a g) = h.1 g
      from (GroupForTypeSocket a s) = let bad : TypeMore ≡ GroupMore = sym assign ∙ a in absurd cc
      from (GroupAsTypeSocket a g s) = let bad : TypeMore ≡ Define = sym assign ∙ a in absurd cc
      from (TypeForGroupSocket a s) = h.1 (socket_group s)

-- ---- the whole rule

module _ (text before : List Rule) (rule : Rule) (a b c d : Option (Broken ℕ)) where
  pub sees_rule : Sees offset a b (NameFaults text before rule) → Sees offset b c (RepeatsOne rule.params) → Sees offset c d (EachOf (SiteBreaks text rule) (sites_of rule)) → Sees offset a d (RuleBreaks text before rule)
  sees_rule s t v = sees_same offset a d _ (RuleBreaks text before rule) to from (sees_then offset a c d _ (EachOf (SiteBreaks text rule) (sites_of rule)) (sees_then offset a b c (NameFaults text before rule) (RepeatsOne rule.params) s t) v)
    where
      to : (place number : ℕ) → Either (Either (NameFaults text before rule) (RepeatsOne rule.params)) (EachOf (SiteBreaks text rule) (sites_of rule)) place number → RuleBreaks text before rule place number
      to place number (inl (inl x)) = AtName x.place_is x.broken
      to place number (inl (inr x)) = AtParameter x.index x.broken.param x.broken.place_is x.broken.number_is x.broken.repeated
      to place number (inr x) = AtSite x.one x.among x.broken

      from : (place number : ℕ) → RuleBreaks text before rule place number → Either (Either (NameFaults text before rule) (RepeatsOne rule.params)) (EachOf (SiteBreaks text rule) (sites_of rule)) place number
      from place number (AtName p x) = inl (inl (record { place_is = p; broken = x }))
      from place number (AtParameter index param p n r) = inl (inr (record { index = index; below = slice_get_within rule.params index param r.stands; broken = record { param = param; repeated = r; place_is = p; number_is = n } }))
      from place number (AtSite site among x) = inr (record { one = site; among = among; broken = x })
