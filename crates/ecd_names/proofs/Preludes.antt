-- Each rule of the prelude uses only names of rules before it.
use Rattle.std.proofs.Common.{ℕ, suc, ◌≡◌, ◌<◌, Bool, true, false, ◌&&◌, ◌||◌, List, [], ◌∷◌, ◌++◌, refl, ap, ◌∙◌, subst, append-nil, rules, arith}
use Rattle.std.specs.Prelude.{Option, Some, None, nat_lt, flat_map}
use Rattle.std.specs.List.{Contains, AllByRecursion, position_from, list_all}
use Rattle.std.proofs.lemmas.Bool.Decides.{nat_tests}
use Rattle.std.proofs.lemmas.List.Elements.{All-from_recursion, All-contains}
use Rattle.ecd_lex.specs.declared.token.Bound.{Bound}
use Rattle.ecd_prelude.specs.Prelude.{prelude_rules, defines, either, only, choice, named, name_of, tag, tagged_pair, member}
use Rattle.ecd_syntax.specs.declared.tree.Alts.{out-Alts}
use Rattle.ecd_syntax.specs.declared.tree.Entry.{Entry, out-Entry}
use Rattle.ecd_syntax.specs.declared.tree.Form.{Form, the_lemmas}
use Rattle.ecd_syntax.specs.declared.tree.Form.TheVariants as forms
use Rattle.ecd_syntax.specs.declared.tree.GroupTree.{out-GroupTree}
use Rattle.ecd_syntax.specs.declared.tree.Key.{Key}
use Rattle.ecd_syntax.specs.declared.tree.Key.TheVariants as keys
use Rattle.ecd_syntax.specs.declared.tree.Alts.{Alts}
use Rattle.ecd_syntax.specs.declared.tree.Name.{Name}
use Rattle.ecd_syntax.specs.declared.tree.Rule.{Rule}
use Rattle.ecd_syntax.specs.declared.tree.Type1.{Type1, out-Type1}
use Rattle.ecd_syntax.specs.declared.tree.Type2.{out-Type2}
use Rattle.ecd_syntax.specs.declared.tree.WayTree.{WayTree, out-WayTree}
use Rattle.ecd_syntax.specs.Reading.{alts_of, operand_of, way_of, group_of, entry_of}
use Rattle.ecd_uses.specs.declared.site.Asked.{Asked}
use Rattle.ecd_uses.specs.declared.site.Asked.TheVariants.{AType}
use Rattle.ecd_uses.specs.declared.site.Site.{Site}
use Rattle.ecd_uses.specs.declared.site.Site.TheVariants.{Use, Parenthesis}
use Rattle.ecd_uses.specs.Sites.{sites_of, type_asked, is_keyed, are_several, entry_sites, key_sites, type_sites, choice_sites, form_sites}
use Rattle.ecd_uses.specs.Listed.{operated_sites, choices_listed, entries_listed, way_listed}
use Rattle.ecd_uses.proofs.Layers.{entry-sites, key-sites, type-sites, choice-sites, named-sites, array-sites, tag-sites, hash-sites, group-sites}
use Rattle.ecd_bodies.specs.Named.{is_named}

-- ---- the sites of each form

pub alts-out : (choices : List Type1) → out-Alts (alts_of 0 choices) ≡ record { at = 0; choices = choices }
alts-out choices = search (rules, the_lemmas)

pub choice-out : (form : Form) → out-Type1 (choice form) ≡ record { at = 0; left = operand_of 0 form; op = None }
choice-out form = search (rules, the_lemmas)

pub operand-out : (form : Form) → out-Type2 (operand_of 0 form) ≡ record { at = 0; form = form }
operand-out form = search (rules, the_lemmas)

group-out : (ways : List WayTree) → out-GroupTree (group_of 0 ways) ≡ record { at = 0; ways = ways }
group-out ways = search (rules, the_lemmas)

way-out : (entries : List Entry) → out-WayTree (way_of 0 entries) ≡ record { at = 0; entries = entries }
way-out entries = search (rules, the_lemmas)

pub entry-out : (key : Key) (body : Alts) → out-Entry (entry_of 0 None key body) ≡ record { at = 0; occur = None; key = key; body = body }
entry-out key body = search (rules, the_lemmas)

choice-one : (asked : Bool) (form : Form) → choice_sites asked (choice form) ≡ form_sites asked 0 form
choice-one asked form =
    choice-sites asked (choice form)
    ∙ (ap (λ c. operated_sites asked c.left c.op) (choice-out form)
    ∙ ap (λ t. form_sites asked t.at t.form) (operand-out form))

only-one : (asked : Bool) (form : Form) → type_sites asked (only form) ≡ choice_sites (asked || false) (choice form)
only-one asked form =
    type-sites asked (only form)
    ∙ (ap (λ a. choices_listed (asked || are_several a.choices) a.choices) (alts-out (choice form ∷ []))
    ∙ append-nil (choice_sites (asked || false) (choice form)))

type-one : (form : Form) → type_sites false (only form) ≡ form_sites false 0 form
type-one form = only-one false form ∙ choice-one false form

asked-one : (form : Form) → type_sites true (only form) ≡ form_sites true 0 form
asked-one form = only-one true form ∙ choice-one true form

named-one : (asked : Bool) (name : List ℕ) → form_sites asked 0 (named name) ≡ Use (name_of name) 0 (type_asked asked) ∷ []
named-one asked name = named-sites asked 0 (name_of name) []

rule-sites : (name : List ℕ) (body : Alts) → sites_of (defines name body) ≡ type_sites false body
rule-sites name body =
    entry-sites false (entry_of 0 None keys.Missing body)
    ∙ (ap (λ e. key_sites e.key ++ type_sites (false || is_keyed e.key) e.body) (entry-out keys.Missing body)
    ∙ ap (λ (l : List Site). l ++ type_sites false body) key-sites.0)

either-sites : (a b : List ℕ) → type_sites false (either a b) ≡ Use (name_of a) 0 AType ∷ Use (name_of b) 0 AType ∷ []
either-sites a b =
    type-sites false (either a b)
    ∙ (ap (λ t. choices_listed (false || are_several t.choices) t.choices) (alts-out (choice (named a) ∷ choice (named b) ∷ []))
    ∙ (ap (λ (l : List Site). l ++ (choice_sites true (choice (named b)) ++ [])) (choice-one true (named a) ∙ named-one true a)
    ∙ ap (λ (l : List Site). Use (name_of a) 0 AType ∷ (l ++ [])) (choice-one true (named b) ∙ named-one true b)))

tag-one : (n : ℕ) (name : List ℕ) → form_sites false 0 (tag n name) ≡ Use (name_of name) 0 AType ∷ []
tag-one n name = tag-sites false 0 _ (only (named name)) ∙ (asked-one (named name) ∙ named-one true name)

member-one : (word name : List ℕ) → entry_sites false (member word name) ≡ Use (name_of name) 0 AType ∷ []
member-one word name =
    entry-sites false (member word name)
    ∙ (ap (λ e. key_sites e.key ++ type_sites (false || is_keyed e.key) e.body) (entry-out (keys.Word (name_of word)) (only (named name)))
    ∙ (ap (λ (l : List Site). l ++ type_sites (false || is_keyed (keys.Word (name_of word))) (only (named name))) (key-sites.2 (name_of word))
    ∙ (asked-one (named name) ∙ named-one true name)))

pair-sites : (n : ℕ) (v a w b : List ℕ) → form_sites false 0 (tagged_pair n (member v a) (member w b)) ≡ Use (name_of a) 0 AType ∷ Use (name_of b) 0 AType ∷ []
pair-sites n v a w b =
    tag-sites false 0 _ (only (forms.ArrayOf (group_of 0 (way_of 0 entries ∷ []))))
    ∙ (asked-one (forms.ArrayOf (group_of 0 (way_of 0 entries ∷ [])))
    ∙ (array-sites true 0 (group_of 0 (way_of 0 entries ∷ []))
    ∙ (group-sites (group_of 0 (way_of 0 entries ∷ []))
    ∙ (ap (λ g. listed g.ways) (group-out (way_of 0 entries ∷ []))
    ∙ (append-nil (way_listed (way_of 0 entries))
    ∙ (ap (λ x. entries_listed x.entries) (way-out entries)
    ∙ (ap (λ (l : List Site). l ++ (entry_sites false (member w b) ++ [])) (member-one v a)
    ∙ ap (λ (l : List Site). Use (name_of a) 0 AType ∷ (l ++ [])) (member-one w b))))))))
  where
    entries : List Entry
    entries = member v a ∷ member w b ∷ []

    listed : List WayTree → List Site
    listed ways = flat_map way_listed ways

-- ---- ranks

-- one more than the number of the name's rule, and 0 where it has none
abbrev number_in : Option ℕ → ℕ
number_in None = 0
number_in (Some n) = suc n

abbrev pub prelude_rank : List ℕ → ℕ
prelude_rank name = number_in (position_from (is_named name) 0 prelude_rules)

-- a rule uses only names of lower rank
pub record Falls (rule : Rule) : Type 0 where
  pub falls : (name : Name) (args : ℕ) (asked : Asked) → Contains (sites_of rule) (Use name args asked) → prelude_rank name.text < prelude_rank rule.name.text

abbrev is_earlier : List ℕ → Site → Bool
is_earlier rule (Use name args asked) = nat_lt (prelude_rank name.text) (prelude_rank rule)
is_earlier rule (Parenthesis at lead) = true

both : (a b : Bool) → (a && b) ≡ true → (a ≡ true) × (b ≡ true)
both true b h = (refl, h)
both false b h = absurd cc

each_passes : {A : Type 0} (p : A → Bool) (xs : List A) → list_all p xs ≡ true → AllByRecursion (λ y. p y ≡ true) xs
each_passes p [] h = tt
each_passes p (y ∷ ys) h = let two = both (p y) (list_all p ys) h in (two.0, each_passes p ys two.1)

one_passes : {A : Type 0} (p : A → Bool) (xs : List A) (x : A) → list_all p xs ≡ true → Contains xs x → p x ≡ true
one_passes p xs x e c = All-contains (λ y. p y ≡ true) xs x (All-from_recursion (λ y. p y ≡ true) xs (each_passes p xs e)) c

falls_by : (name : List ℕ) (body : Alts) (sites : List Site) → sites_of (defines name body) ≡ sites → list_all (is_earlier name) sites ≡ true → Falls (defines name body)
falls_by name body sites e all = record { falls = falls }
  where
    below : (a b : ℕ) → nat_lt a b ≡ true → a < b
    below a b h = grind (arith, nat_tests)

    falls : (used : Name) (args : ℕ) (asked : Asked) → Contains (sites_of (defines name body)) (Use used args asked) → prelude_rank used.text < prelude_rank name
    falls used args asked c = below (prelude_rank used.text) (prelude_rank name) (one_passes (is_earlier name) sites (Use used args asked) all (subst (λ (l : List Site). Contains l (Use used args asked)) e c))

-- a rule of one form
no_name : (name : List ℕ) (major : Option ℕ) (arg : Bound) → Falls (defines name (only (forms.Hash major arg)))
no_name name major arg = falls_by name (only (forms.Hash major arg)) [] (rule-sites name (only (forms.Hash major arg)) ∙ (type-one (forms.Hash major arg) ∙ hash-sites false 0 major arg)) refl

one_name : (name a : List ℕ) → list_all (is_earlier name) (Use (name_of a) 0 (type_asked false) ∷ []) ≡ true → Falls (defines name (only (named a)))
one_name name a = falls_by name (only (named a)) _ (rule-sites name (only (named a)) ∙ (type-one (named a) ∙ named-one false a))

two_names : (name a b : List ℕ) → list_all (is_earlier name) (Use (name_of a) 0 AType ∷ Use (name_of b) 0 AType ∷ []) ≡ true → Falls (defines name (either a b))
two_names name a b = falls_by name (either a b) _ (rule-sites name (either a b) ∙ either-sites a b)

tagged_name : (name : List ℕ) (n : ℕ) (a : List ℕ) → list_all (is_earlier name) (Use (name_of a) 0 AType ∷ []) ≡ true → Falls (defines name (only (tag n a)))
tagged_name name n a = falls_by name (only (tag n a)) _ (rule-sites name (only (tag n a)) ∙ (type-one (tag n a) ∙ tag-one n a))

tagged_names : (name : List ℕ) (n : ℕ) (v a w b : List ℕ) → list_all (is_earlier name) (Use (name_of a) 0 AType ∷ Use (name_of b) 0 AType ∷ []) ≡ true → Falls (defines name (only (tagged_pair n (member v a) (member w b))))
tagged_names name n v a w b = falls_by name (only (tagged_pair n (member v a) (member w b))) _ (rule-sites name (only (tagged_pair n (member v a) (member w b))) ∙ (type-one (tagged_pair n (member v a) (member w b)) ∙ pair-sites n v a w b))

each_falls : AllByRecursion Falls prelude_rules
each_falls = (
  no_name _ _ _,
  (
    no_name _ _ _,
    (
      no_name _ _ _,
      (
        two_names _ _ _ refl,
        (
          no_name _ _ _,
          (
            one_name _ _ refl,
            (
              no_name _ _ _,
              (
                one_name _ _ refl,
                (
                  tagged_name _ _ _ refl,
                  (
                    tagged_name _ _ _ refl,
                    (
                      tagged_name _ _ _ refl,
                      (
                        two_names _ _ _ refl,
                        (
                          two_names _ _ _ refl,
                          (
                            two_names _ _ _ refl,
                            (
                              tagged_names _ _ _ _ _ _ refl,
                              (
                                tagged_names _ _ _ _ _ _ refl,
                                (
                                  tagged_name _ _ _ refl,
                                  (
                                    tagged_name _ _ _ refl,
                                    (
                                      tagged_name _ _ _ refl,
                                      (
                                        tagged_name _ _ _ refl,
                                        (
                                          tagged_name _ _ _ refl,
                                          (
                                            tagged_name _ _ _ refl,
                                            (
                                              tagged_name _ _ _ refl,
                                              (
                                                tagged_name _ _ _ refl,
                                                (
                                                  tagged_name _ _ _ refl,
                                                  (
                                                    tagged_name _ _ _ refl,
                                                    (no_name _ _ _, (no_name _ _ _, (two_names _ _ _ refl, (no_name _ _ _, (one_name _ _ refl, (no_name _ _ _, tt)))))),
                                                  ),
                                                ),
                                              ),
                                            ),
                                          ),
                                        ),
                                      ),
                                    ),
                                  ),
                                ),
                              ),
                            ),
                          ),
                        ),
                      ),
                    ),
                  ),
                ),
              ),
            ),
          ),
        ),
      ),
    ),
  ),
)

pub prelude-falls : (rule : Rule) → Contains prelude_rules rule → Falls rule
prelude-falls rule c = All-contains Falls prelude_rules rule (All-from_recursion Falls prelude_rules each_falls) c
