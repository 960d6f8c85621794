-- The sites of what some marks spell stand at places of these marks.
use Rattle.std.proofs.Common.{◌≡◌, ℕ, zero, suc, ◌<◌, ⊎_elim, Bool, true, false, ◌||◌, List, [], ◌∷◌, ◌++◌, Option, Some, None, refl, ap, sym, ◌∙◌, subst, arith}
use Rattle.std.specs.Prelude.{flat_map}
use Rattle.std.specs.List.{AllByRecursion}
use Rattle.ecd_lex.specs.declared.token.Token.{Token}
use Rattle.ecd_lex.specs.declared.token.TokenKind.{TokenKind}
use Rattle.ecd_lex.specs.declared.token.TokenKind.TheVariants as kinds
use Rattle.ecd_lex.specs.declared.token.Sign.{Sign}
use Rattle.ecd_lex.specs.declared.token.Sign.TheVariants as signs
use Rattle.ecd_lex.specs.Lexemes.{IsInside}
use Rattle.ecd_syntax.specs.declared.tree.Alts.{Alts, out-Alts}
use Rattle.ecd_syntax.specs.declared.tree.Assign.{Assign}
use Rattle.ecd_syntax.specs.declared.tree.Assign.TheVariants.{Define, TypeMore, GroupMore}
use Rattle.ecd_syntax.specs.declared.tree.Entry.{Entry, out-Entry}
use Rattle.ecd_syntax.specs.declared.tree.Form.{Form, out-Form}
use Rattle.ecd_syntax.specs.declared.tree.Form.TheVariants as f
use Rattle.ecd_syntax.specs.declared.tree.Form.TheOpen as forms
use Rattle.ecd_syntax.specs.declared.tree.GroupTree.{GroupTree, out-GroupTree}
use Rattle.ecd_syntax.specs.declared.tree.Key.{Key, out-Key}
use Rattle.ecd_syntax.specs.declared.tree.Key.TheVariants as keys
use Rattle.ecd_syntax.specs.declared.tree.Name.{Name}
use Rattle.ecd_syntax.specs.declared.tree.Operation.{Operation, out-Operation}
use Rattle.ecd_syntax.specs.declared.tree.Rule.{Rule}
use Rattle.ecd_syntax.specs.declared.tree.Type1.{Type1, out-Type1}
use Rattle.ecd_syntax.specs.declared.tree.Type2.{Type2, out-Type2}
use Rattle.ecd_syntax.specs.declared.tree.WayTree.{WayTree, out-WayTree}
use Rattle.ecd_syntax.specs.Marks.{Mark, marks, marks_behind, is_six, place, name_of, name_in, hash_of, tag_of, operator_of, assign_of}
use Rattle.ecd_syntax.specs.Grammar.{One, OneSign, Then, Each, Listed, Angled, TypeSpelled, OccurSpelled, CutSpelled, AKey, KeySpelled, EntrySpelled, MaybeComma, EntriesSpelled, WaysSpelled, GroupSpelled, AForm, NamedSpelled, FormSpelled, OperandSpelled, OperationSpelled, ChoiceSpelled, ChoiceWithin, TypeAlone, BodySpelled, RuleSpelled, RulesSpelled}
use Rattle.ecd_syntax.proofs.Complete.{key_from, key_back, form_from, form_back}
use Rattle.ecd_uses.specs.declared.site.Asked.{Asked}
use Rattle.ecd_uses.specs.declared.site.Asked.TheVariants.{AType, AGroup}
use Rattle.ecd_uses.specs.declared.site.Lead.{Lead}
use Rattle.ecd_uses.specs.declared.site.Site.{Site}
use Rattle.ecd_uses.specs.Sites.{asks_type, are_several, is_keyed, type_asked, parenthesis, entry_sites, key_sites, type_sites, choice_sites, form_sites, group_sites}
use Rattle.ecd_uses.specs.Listed.{lead_in, operand_sites, operated_sites, choices_listed, entries_listed, way_listed, named_sites}
use Rattle.ecd_uses.specs.Places.{site_place, IsRuleInside, RulesStandInside}
use Rattle.ecd_uses.proofs.Layers.{entry-sites, key-sites, type-sites, choice-sites, value-sites, named-sites, parenthesis-sites, map-sites, array-sites, unwrap-sites, enum-sites, enum_name-sites, tag-sites, hash-sites, group-sites}

-- ---- marks and sites in a text of so many bytes

abbrev Marks : ℕ → List Mark → Type 0
Marks whole = AllByRecursion (λ m. m.at < whole)

abbrev Sites : ℕ → List Site → Type 0
Sites whole = AllByRecursion (λ s. site_place s < whole)

all_front : {A : Type 0} (P : A → Type 0) (xs ys : List A) → AllByRecursion P (xs ++ ys) → AllByRecursion P xs
all_front P [] ys all = tt
all_front P (x ∷ xs) ys all = (all.0, all_front P xs ys all.1)

all_back : {A : Type 0} (P : A → Type 0) (xs ys : List A) → AllByRecursion P (xs ++ ys) → AllByRecursion P ys
all_back P [] ys all = all
all_back P (x ∷ xs) ys all = all_back P xs ys all.1

all_joined : {A : Type 0} (P : A → Type 0) (xs ys : List A) → AllByRecursion P xs → AllByRecursion P ys → AllByRecursion P (xs ++ ys)
all_joined P [] ys a b = b
all_joined P (x ∷ xs) ys a b = (a.0, all_joined P xs ys a.1 b)

marks_inside : (whole : ℕ) (six : Bool) (tokens : List Token) → AllByRecursion (IsInside whole) tokens → Marks whole (marks_behind six tokens)
marks_inside whole six [] all = tt
marks_inside whole six (t ∷ ts) all = (omega (arith, all.0.0, all.0.1), marks_inside whole (is_six t.kind) ts all.1)

name_at : (at : ℕ) (kind : TokenKind) (name : Name) → name_in at kind ≡ Some name → name.at ≡ at
name_at at (kinds.Name text) name e = cc
name_at at (kinds.Int n) name e = cc
name_at at kinds.Float name e = cc
name_at at (kinds.Occur lo hi) name e = cc
name_at at (kinds.Text bytes) name e = cc
name_at at (kinds.Bytes bytes) name e = cc
name_at at (kinds.Hash major arg) name e = cc
name_at at (kinds.Control text) name e = cc
name_at at (kinds.Sign sign) name e = cc

module _ (whole : ℕ) where
  abbrev In : List Mark → Type 0
  In = Marks whole

  front_in : (P Q : List Mark → Type 0) (ms : List Mark) (h : Then P Q ms) → In ms → In h.front
  front_in P Q ms h all = all_front (λ m. m.at < whole) h.front h.back (subst (λ (x : List Mark). In x) h.whole all)

  back_in : (P Q : List Mark → Type 0) (ms : List Mark) (h : Then P Q ms) → In ms → In h.back
  back_in P Q ms h all = all_back (λ m. m.at < whole) h.front h.back (subst (λ (x : List Mark). In x) h.whole all)

  joined : (xs ys : List Site) → Sites whole xs → Sites whole ys → Sites whole (xs ++ ys)
  joined = all_joined (λ s. site_place s < whole)

  moved : (xs ys : List Site) → xs ≡ ys → Sites whole ys → Sites whole xs
  moved xs ys e h = subst (λ (x : List Site). Sites whole x) (sym e) h

  name_inside : (name : Name) (ms : List Mark) → One name_of name ms → In ms → name.at < whole
  name_inside name ms h all =
      let e : name.at ≡ h.mark.at = name_at h.mark.at h.mark.kind name h.is in
      let i = subst (λ (x : List Mark). In x) h.alone all in
      omega (arith, e, i.0)

  names_inside : (sign : Sign) (names : List Name) (ms : List Mark) → Each (λ y. Then (OneSign sign) (One name_of y)) names ms → In ms → AllByRecursion (λ p. p.at < whole) names
  names_inside sign [] ms h all = tt
  names_inside sign (p ∷ ps) ms h all =
      let front = front_in (Then (OneSign sign) (One name_of p)) (Each (λ y. Then (OneSign sign) (One name_of y)) ps) ms h all in
      let back = back_in (Then (OneSign sign) (One name_of p)) (Each (λ y. Then (OneSign sign) (One name_of y)) ps) ms h all in
      (name_inside p h.first.back h.first.second (back_in (OneSign sign) (One name_of p) h.front h.first front), names_inside sign ps h.back h.second back)

  params_inside : (names : List Name) (ms : List Mark) → Angled (One name_of) names ms → In ms → AllByRecursion (λ p. p.at < whole) names
  params_inside [] ms h all = tt
  params_inside (p ∷ ps) ms h all =
      let inner = back_in (OneSign signs.Less) (Then (Listed signs.Comma (One name_of) (p ∷ ps)) (OneSign signs.Greater)) ms h all in
      let list = front_in (Listed signs.Comma (One name_of) (p ∷ ps)) (OneSign signs.Greater) h.back h.second inner in
      let l = h.second.first in
      let more = Each (λ y. Then (OneSign signs.Comma) (One name_of y)) ps in (
        name_inside p l.front l.first (front_in (One name_of p) more h.second.front l list),
        names_inside signs.Comma ps l.back l.second (back_in (One name_of p) more h.second.front l list),
      )

  -- ---- where the sites of each choice of a type stand inside
  module _ (one : Type1 → List Mark → Type 0) (inner : (asked : Bool) (c : Type1) (ms : List Mark) → one c ms → In ms → Sites whole (choice_sites asked c)) where
    more_inside : (asked : Bool) (sign : Sign) (cs : List Type1) (ms : List Mark) → Each (λ y. Then (OneSign sign) (one y)) cs ms → In ms → Sites whole (choices_listed asked cs)
    more_inside asked sign [] ms h all = tt
    more_inside asked sign (c ∷ cs) ms h all =
        let rest = Each (λ y. Then (OneSign sign) (one y)) cs in
        let front = front_in (Then (OneSign sign) (one c)) rest ms h all in
        joined (choice_sites asked c) (choices_listed asked cs)
        (inner asked c h.first.back h.first.second (back_in (OneSign sign) (one c) h.front h.first front))
        (more_inside asked sign cs h.back h.second (back_in (Then (OneSign sign) (one c)) rest ms h all))

    listed_inside : (asked : Bool) (sign : Sign) (cs : List Type1) (ms : List Mark) → Listed sign one cs ms → In ms → Sites whole (choices_listed asked cs)
    listed_inside asked sign [] ms h all = absurd h
    listed_inside asked sign (c ∷ cs) ms h all =
        let rest = Each (λ y. Then (OneSign sign) (one y)) cs in
        joined (choice_sites asked c) (choices_listed asked cs)
        (inner asked c h.front h.first (front_in (one c) rest ms h all))
        (more_inside asked sign cs h.back h.second (back_in (one c) rest ms h all))

    angled_inside : (cs : List Type1) (ms : List Mark) → Angled one cs ms → In ms → Sites whole (choices_listed true cs)
    angled_inside [] ms h all = tt
    angled_inside (c ∷ cs) ms h all =
        let list = Listed signs.Comma one (c ∷ cs) in
        let within = back_in (OneSign signs.Less) (Then list (OneSign signs.Greater)) ms h all in
        listed_inside true signs.Comma (c ∷ cs) h.second.front h.second.first (front_in list (OneSign signs.Greater) h.back h.second within)

    named_inside : (asked : Asked) (name : Name) (args : List Type1) (ms : List Mark) → NamedSpelled one name args ms → In ms → Sites whole (named_sites asked name args)
    named_inside asked name args ms h all =
        (name_inside name h.front h.first (front_in (One name_of name) (Angled one args) ms h all), angled_inside args h.back h.second (back_in (One name_of name) (Angled one args) ms h all))

    type_inside : (asked : Bool) (t : Alts) (ms : List Mark) → TypeSpelled one t ms → In ms → Sites whole (type_sites asked t)
    type_inside asked t ms h all =
        moved (type_sites asked t) (choices_listed (asked || are_several (out-Alts t).choices) (out-Alts t).choices) (type-sites asked t)
        (listed_inside (asked || are_several (out-Alts t).choices) signs.Slash (out-Alts t).choices ms h.spells all)

    key_inside : (key : AKey) (ms : List Mark) → KeySpelled one key ms → In ms → Sites whole (key_sites (key_from key))
    unfolding key_from
    key_inside forms.Missing ms h all = moved (key_sites keys.Missing) [] key-sites.0 tt
    key_inside (forms.Arrow of cut) ms h all =
        moved (key_sites (keys.Arrow of cut)) (choice_sites true of) (key-sites.1 of cut)
        (inner true of h.front h.first (front_in (one of) (Then (CutSpelled cut) (OneSign signs.Arrow)) ms h all))
    key_inside (forms.Word name) ms h all = moved (key_sites (keys.Word name)) [] (key-sites.2 name) tt
    key_inside (forms.Key::Lit at of) ms h all = moved (key_sites (keys.Lit at of)) [] (key-sites.3 at of) tt

    entry_inside : (asked : Bool) (e : Entry) (ms : List Mark) → EntrySpelled one e ms → In ms → Sites whole (entry_sites asked e)
    entry_inside asked e ms h all =
        let key = (out-Entry e).key in
        let body = (out-Entry e).body in
        let behind = Then (KeySpelled one (out-Key key)) (TypeSpelled one body) in
        let within = back_in (OccurSpelled (out-Entry e).occur) behind ms h.spells all in
        let k = h.spells.second in
        let keyed : Sites whole (key_sites key) = subst (λ (x : Key). Sites whole (key_sites x)) (key_back key)
        (key_inside (out-Key key) k.front k.first (front_in (KeySpelled one (out-Key key)) (TypeSpelled one body) h.spells.back k within)) in
        let typed : Sites whole (type_sites (asked || is_keyed key) body) =
        type_inside (asked || is_keyed key) body k.back k.second (back_in (KeySpelled one (out-Key key)) (TypeSpelled one body) h.spells.back k within) in
        moved (entry_sites asked e) (key_sites key ++ type_sites (asked || is_keyed key) body) (entry-sites asked e)
        (joined (key_sites key) (type_sites (asked || is_keyed key) body) keyed typed)

    entries_inside : (es : List Entry) (ms : List Mark) → EntriesSpelled one es ms → In ms → Sites whole (entries_listed es)
    entries_inside [] ms h all = tt
    entries_inside (e ∷ es) ms h all =
        let P = MaybeComma (EntrySpelled one e) in
        let front = front_in P (EntriesSpelled one es) ms h all in
        let own : Sites whole (entry_sites false e) = ⊎_elim
        (λ (a : EntrySpelled one e h.front). entry_inside false e h.front a front)
        (λ (b : Then (EntrySpelled one e) (OneSign signs.Comma) h.front). entry_inside false e b.front b.first (front_in (EntrySpelled one e) (OneSign signs.Comma) h.front b front))
        h.first in
        joined (entry_sites false e) (entries_listed es) own (entries_inside es h.back h.second (back_in P (EntriesSpelled one es) ms h all))

    ways_inside : (close : Sign) (ws : List WayTree) (ms : List Mark) → WaysSpelled one close ws ms → In ms → Sites whole (flat_map way_listed ws)
    ways_inside close [] ms h all = absurd h
    ways_inside close (w ∷ []) ms h all =
        let es = (out-WayTree w).entries in
        joined (way_listed w) [] (entries_inside es h.spells.front h.spells.first (front_in (EntriesSpelled one es) (OneSign close) ms h.spells all)) tt
    ways_inside close (w ∷ v ∷ ws) ms h all =
        let es = (out-WayTree w).entries in
        let rest = Then (OneSign signs.DoubleSlash) (WaysSpelled one close (v ∷ ws)) in
        let back = back_in (EntriesSpelled one es) rest ms h.spells all in
        joined (way_listed w) (flat_map way_listed (v ∷ ws))
        (entries_inside es h.spells.front h.spells.first (front_in (EntriesSpelled one es) rest ms h.spells all))
        (ways_inside close (v ∷ ws) h.spells.second.back h.spells.second.second (back_in (OneSign signs.DoubleSlash) (WaysSpelled one close (v ∷ ws)) h.spells.back h.spells.second back))

    group_inside : (close : Sign) (g : GroupTree) (ms : List Mark) → GroupSpelled one close g ms → In ms → Sites whole (group_sites g)
    group_inside close g ms h all = moved (group_sites g) (flat_map way_listed (out-GroupTree g).ways) (group-sites g) (ways_inside close (out-GroupTree g).ways ms h.spells all)

    bracket_inside : (opening close : Sign) (g : GroupTree) (ms : List Mark) → Then (OneSign opening) (GroupSpelled one close g) ms → In ms → Sites whole (group_sites g)
    bracket_inside opening close g ms h all = group_inside close g h.back h.second (back_in (OneSign opening) (GroupSpelled one close g) ms h all)

    parenthesis_inside : (asked : Bool) (at : ℕ) (lead : Lead) (g : GroupTree) (ms : List Mark) → at ≡ place ms → Then (OneSign signs.OpenParen) (GroupSpelled one signs.CloseParen g) ms → In ms → Sites whole (parenthesis asked at lead)
    parenthesis_inside false at lead g ms starts h all = tt
    parenthesis_inside true at lead g ms starts h all =
        let own = subst (λ (x : List Mark). In x) h.first.alone (front_in (OneSign signs.OpenParen) (GroupSpelled one signs.CloseParen g) ms h all) in
        let first : place ms ≡ h.first.mark.at = rw (h.whole, h.first.alone) refl in
        (omega (arith, starts, first, own.0), tt)

    form_inside : (asked : Bool) (at : ℕ) (form : AForm) (ms : List Mark) → at ≡ place ms → FormSpelled one form ms → In ms → Sites whole (form_sites asked at (form_from form))
    unfolding form_from
    form_inside asked at (forms.Form::Lit literal) ms starts h all = moved (form_sites asked at (f.Lit literal)) [] (value-sites asked at literal) tt
    form_inside asked at (forms.Named name args) ms starts h all =
        moved (form_sites asked at (f.Named name args)) (named_sites (type_asked asked) name args) (named-sites asked at name args) (named_inside (type_asked asked) name args ms h all)
    form_inside asked at (forms.Paren g) ms starts h all =
        moved (form_sites asked at (f.Paren g)) (parenthesis asked at (lead_in g) ++ group_sites g) (parenthesis-sites asked at g)
        (joined (parenthesis asked at (lead_in g)) (group_sites g) (parenthesis_inside asked at (lead_in g) g ms starts h all) (bracket_inside signs.OpenParen signs.CloseParen g ms h all))
    form_inside asked at (forms.MapOf g) ms starts h all = moved (form_sites asked at (f.MapOf g)) (group_sites g) (map-sites asked at g) (bracket_inside signs.OpenBrace signs.CloseBrace g ms h all)
    form_inside asked at (forms.ArrayOf g) ms starts h all = moved (form_sites asked at (f.ArrayOf g)) (group_sites g) (array-sites asked at g) (bracket_inside signs.OpenBracket signs.CloseBracket g ms h all)
    form_inside asked at (forms.Unwrap name args) ms starts h all =
        moved (form_sites asked at (f.Unwrap name args)) (named_sites AType name args) (unwrap-sites asked at name args)
        (named_inside AType name args h.back h.second (back_in (OneSign signs.Tilde) (NamedSpelled one name args) ms h all))
    form_inside asked at (forms.Enum g) ms starts h all =
        moved (form_sites asked at (f.Enum g)) (group_sites g) (enum-sites asked at g)
        (bracket_inside signs.OpenParen signs.CloseParen g h.back h.second (back_in (OneSign signs.Ampersand) (Then (OneSign signs.OpenParen) (GroupSpelled one signs.CloseParen g)) ms h all))
    form_inside asked at (forms.EnumName name args) ms starts h all =
        moved (form_sites asked at (f.EnumName name args)) (named_sites AGroup name args) (enum_name-sites asked at name args)
        (named_inside AGroup name args h.back h.second (back_in (OneSign signs.Ampersand) (NamedSpelled one name args) ms h all))
    form_inside asked at (forms.Tagged number body) ms starts h all =
        let tail = Then (TypeSpelled one body) (OneSign signs.CloseParen) in
        let behind_hash = back_in (One hash_of (Some 6, number)) (Then (One tag_of tt) tail) ms h all in
        let behind_tag = back_in (One tag_of tt) tail h.back h.second behind_hash in
        moved (form_sites asked at (f.Tagged number body)) (type_sites true body) (tag-sites asked at number body)
        (type_inside true body h.second.second.front h.second.second.first (front_in (TypeSpelled one body) (OneSign signs.CloseParen) h.second.back h.second.second behind_tag))
    form_inside asked at (forms.Hash major arg) ms starts h all = moved (form_sites asked at (f.Hash major arg)) [] (hash-sites asked at major arg) tt

    operand_inside : (asked : Bool) (t : Type2) (ms : List Mark) → OperandSpelled one t ms → In ms → Sites whole (operand_sites asked t)
    operand_inside asked t ms h all =
        subst (λ (x : Form). Sites whole (form_sites asked (out-Type2 t).at x)) (form_back (out-Type2 t).form) (form_inside asked (out-Type2 t).at (out-Form (out-Type2 t).form) ms (sym h.starts) h.spells all)

    operation_inside : (asked : Bool) (left : Type2) (op : Option Operation) (ms : List Mark) → Then (OperandSpelled one left) (OperationSpelled one op) ms → In ms → Sites whole (operated_sites asked left op)
    operation_inside asked left None ms h all = operand_inside asked left h.front h.first (front_in (OperandSpelled one left) (OperationSpelled one None) ms h all)
    operation_inside asked left (Some o) ms h all =
        let right = (out-Operation o).right in
        let behind = back_in (OperandSpelled one left) (OperationSpelled one (Some o)) ms h all in
        joined (operand_sites true left) (operand_sites true right)
        (operand_inside true left h.front h.first (front_in (OperandSpelled one left) (OperationSpelled one (Some o)) ms h all))
        (operand_inside true right h.second.back h.second.second (back_in (One operator_of ((out-Operation o).at, (out-Operation o).kind)) (OperandSpelled one right) h.back h.second behind))

    layer_inside : (asked : Bool) (c : Type1) (ms : List Mark) → ChoiceSpelled one c ms → In ms → Sites whole (choice_sites asked c)
    layer_inside asked c ms h all =
        moved (choice_sites asked c) (operated_sites asked (out-Type1 c).left (out-Type1 c).op) (choice-sites asked c) (operation_inside asked (out-Type1 c).left (out-Type1 c).op ms h.spells all)

    alone_inside : (e : Entry) (ms : List Mark) → TypeAlone one e ms → In ms → Sites whole (entry_sites true e)
    unfolding key_from
    alone_inside e ms h all =
        let key = (out-Entry e).key in
        let missing : key ≡ keys.Missing = sym (key_back key) ∙ ap key_from h.key in
        let keyed : Sites whole (key_sites key) = subst (λ (x : Key). Sites whole (key_sites x)) (sym missing) (moved (key_sites keys.Missing) [] key-sites.0 tt) in
        moved (entry_sites true e) (key_sites key ++ type_sites true (out-Entry e).body) (entry-sites true e)
        (joined (key_sites key) (type_sites true (out-Entry e).body) keyed (type_inside true (out-Entry e).body ms h.body.spells all))

    body_inside : (assign : Assign) (e : Entry) (ms : List Mark) → BodySpelled one assign e ms → In ms → Sites whole (entry_sites (asks_type assign) e)
    body_inside Define e ms h all = entry_inside false e ms h all
    body_inside TypeMore e ms h all = alone_inside e ms h all
    body_inside GroupMore e ms h all = entry_inside false e ms h all

    rule_inside : (r : Rule) (ms : List Mark) → RuleSpelled one r ms → In ms → IsRuleInside whole r
    rule_inside r ms h all =
        let last = Then (One assign_of r.assign) (BodySpelled one r.assign r.body) in
        let rest = Then (Angled (One name_of) r.params) last in
        let s = h.spells in
        let behind_name = back_in (One name_of r.name) rest ms s all in
        let behind_params = back_in (Angled (One name_of) r.params) last s.back s.second behind_name in
        let behind_assign = back_in (One assign_of r.assign) (BodySpelled one r.assign r.body) s.second.back s.second.second behind_params in
        record {
          name = name_inside r.name s.front s.first (front_in (One name_of r.name) rest ms s all);
          params = params_inside r.params s.second.front s.second.first (front_in (Angled (One name_of) r.params) last s.back s.second behind_name);
          sites = body_inside r.assign r.body s.second.second.back s.second.second.second behind_assign;
        }

    each_inside : (rs : List Rule) (ms : List Mark) → Each (RuleSpelled one) rs ms → In ms → AllByRecursion (IsRuleInside whole) rs
    each_inside [] ms h all = tt
    each_inside (r ∷ rs) ms h all =
        (rule_inside r h.front h.first (front_in (RuleSpelled one r) (Each (RuleSpelled one) rs) ms h all), each_inside rs h.back h.second (back_in (RuleSpelled one r) (Each (RuleSpelled one) rs) ms h all))

    spelled_inside : (rs : List Rule) (ms : List Mark) → RulesSpelled one rs ms → In ms → AllByRecursion (IsRuleInside whole) rs
    spelled_inside [] ms h all = absurd h
    spelled_inside (r ∷ rs) ms h all = each_inside (r ∷ rs) ms h all

  -- ---- the layers inside each other
  choice_inside : (levels : ℕ) (asked : Bool) (c : Type1) (ms : List Mark) → ChoiceWithin levels c ms → In ms → Sites whole (choice_sites asked c)
  unfolding ChoiceWithin
  choice_inside zero asked c ms h all = layer_inside (λ _ _. ⊥) (λ a d ns e i. absurd e) asked c ms h all
  choice_inside (suc n) asked c ms h all = layer_inside (ChoiceWithin n) (choice_inside n) asked c ms h all

pub rules_inside : RulesStandInside
unfolding marks
rules_inside tree tokens whole h all = spelled_inside whole (ChoiceWithin h.levels) (choice_inside whole h.levels) tree.rules (marks tokens) h.spelled (marks_inside whole false tokens all)
