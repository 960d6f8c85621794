-- An answer with a cause is the only one, and its place is one of the schema.
use Rattle.std.proofs.Common.{◌≡◌, ℕ, ◌<◌, ◌≤◌, ◌⊎◌, ⊎_elim, inl, inr, List, [], ◌∷◌, ◌++◌, length, refl, subst, arith}
use Rattle.std.specs.Prelude.{Some, zero, suc, take, get_or, slice_get, Result, Ok, Err, IfOk, IfErr, MatchResult}
use Rattle.std.specs.List.{AllByRecursion, Contains}
use Rattle.ecd_lex.specs.declared.token.Token.{Token}
use Rattle.ecd_lex.specs.Lexemes.{IsInside}
use Rattle.ecd_syntax.specs.declared.tree.Tree.{Tree}
use Rattle.ecd_syntax.specs.Faults.{UnexpectedAt, TooNestedAt, place_or}
use Rattle.ecd_judge.specs.declared.refusal.Refusal.{Refusal}
use Rattle.ecd_judge.specs.declared.refusal.Refusal.TheVariants.{NotUtf8, Lex, Parse, Name, NotBuilt, OutOfMemory}
use Rattle.ecd_parse.specs.declared.fault.ParseFault.{ParseFault}
use Rattle.ecd_parse.specs.declared.fault.ParseFault.TheVariants as parses
use Rattle.ecd_judge.specs.Refusals.{of_grammar_is, of_names_is}
use Rattle.ecd_keyorder.specs.declared.Order.{Order}
use Rattle.ecd_judge.specs.Request.{Request, request}
use Rattle.ecd_judge.specs.Schema.{IsSchema, IsSound, HasCause, IsTold, StandsWithin}
use Rattle.ecd_syntax.specs.declared.tree.Name.{Name as AName}
use Rattle.ecd_syntax.specs.declared.tree.Rule.{Rule}
use Rattle.ecd_uses.specs.declared.site.Site.{Site}
use Rattle.ecd_uses.specs.declared.site.Site.TheVariants.{Use, Parenthesis}
use Rattle.ecd_uses.specs.Sites.{sites_of}
use Rattle.ecd_uses.specs.Places.{site_place, IsRuleInside}
use Rattle.ecd_names.specs.declared.fault.NameFault.{NameFault}
use Rattle.ecd_names.specs.declared.fault.NameFault.TheVariants as names
use Rattle.ecd_names.specs.Names.{HasCause as HasNameCause}
use Rattle.ecd_names.specs.Breaks.{Breaks, RuleBreaks, AtName, AtParameter, AtSite, SiteBreaks}
use Rattle.ecd_judge.proofs.Causes.{one_cause, never_refused}

pub told_or_wants : (r : Refusal) → IsTold r ⊎ (r ≡ OutOfMemory)
told_or_wants (NotUtf8 place) = inl tt
told_or_wants (Lex place rule) = inl tt
told_or_wants (Parse place rule) = inl tt
told_or_wants (Name place rule) = inl tt
told_or_wants NotBuilt = inl tt
told_or_wants OutOfMemory = inr refl

-- ---- what holds for every root, depth and order

pub only_cause : {A : Type 0} (result : Result A Refusal) (rules_in : A → List Rule) (schema root : List ℕ) (depth : ℕ) (order : Order)
    → IfOk result (λ a. (other_root : List ℕ) (other_depth : ℕ) (other_order : Order) → IsSound (request schema other_root other_depth other_order) (rules_in a))
    → IfErr result (λ r. (other_root : List ℕ) (other_depth : ℕ) (other_order : Order) → HasCause (request schema other_root other_depth other_order) r)
    → (cause : Refusal) → IsTold cause → HasCause (request schema root depth order) cause → MatchResult result (λ _. ⊥) (λ r. (r ≡ cause) ⊎ (r ≡ OutOfMemory))
only_cause (Ok a) rules_in schema root depth order ok err cause told has = never_refused (request schema root depth order) (rules_in a) cause (ok root depth order) told has
only_cause (Err r) rules_in schema root depth order ok err cause told has =
    ⊎_elim (λ (t : IsTold r). inl (one_cause (request schema root depth order) r cause t told (err root depth order) has)) (λ (e : r ≡ OutOfMemory). inr e) (told_or_wants r)

pub only_wants : {A : Type 0} (result : Result A Refusal) (schema root : List ℕ) (depth : ℕ) (order : Order) (rules : List Rule)
    → IfErr result (λ r. (other_root : List ℕ) (other_depth : ℕ) (other_order : Order) → HasCause (request schema other_root other_depth other_order) r)
    → IsSound (request schema root depth order) rules → IfErr result (λ r. r ≡ OutOfMemory)
only_wants (Ok a) schema root depth order rules err is = tt
only_wants (Err r) schema root depth order rules err is =
    ⊎_elim (λ (t : IsTold r). absurd (never_refused (request schema root depth order) rules r is t (err root depth order))) (λ (e : r ≡ OutOfMemory). e) (told_or_wants r)

-- ---- places

suffix_within : (before rest : List Token) (end : ℕ) → AllByRecursion (IsInside end) (before ++ rest) → place_or end rest ≤ end
suffix_within [] [] end all = omega arith
suffix_within [] (t ∷ ts) end all = omega (arith, all.0.0, all.0.1)
suffix_within (b ∷ bs) rest end all = suffix_within bs rest end all.1

pub unexpected_within : (tokens : List Token) (end place : ℕ) → AllByRecursion (IsInside end) tokens → UnexpectedAt tokens end place → place ≤ end
unexpected_within tokens end place all u =
    let inside = subst (λ (ts : List Token). AllByRecursion (IsInside end) ts) u.unexpected.whole all in
    omega (arith, u.stands, suffix_within u.before u.rest end inside)

pub nested_within : (tokens : List Token) (end place : ℕ) → AllByRecursion (IsInside end) tokens → TooNestedAt tokens place → place ≤ end
nested_within tokens end place all n =
    let inside = subst (λ (ts : List Token). AllByRecursion (IsInside end) ts) n.whole all in
    omega (arith, n.stands, suffix_within n.before (n.bracket ∷ n.rest) end inside)

pub grammar_within : (fault : ParseFault) (tokens : List Token) (end : ℕ) → AllByRecursion (IsInside end) tokens
    → ((place : ℕ) → fault ≡ parses.Unexpected place → UnexpectedAt tokens end place) → ((place : ℕ) → fault ≡ parses.TooNested place → TooNestedAt tokens place)
    → StandsWithin end (of_grammar_is fault)
grammar_within (parses.Unexpected place) tokens end all unexpected nested = unexpected_within tokens end place all (unexpected place refl)
grammar_within (parses.TooNested place) tokens end all unexpected nested = nested_within tokens end place all (nested place refl)
grammar_within parses.OutOfMemory tokens end all unexpected nested = tt

-- ---- places of names

at_number : {A : Type 0} (P : A → Type 0) (xs : List A) (i : ℕ) (x : A) → AllByRecursion P xs → slice_get xs i ≡ Some x → P x
at_number P [] i x all e = absurd cc
at_number P (y ∷ ys) zero x all e = let same : y ≡ x = cc in subst P same all.0
at_number P (y ∷ ys) (suc i) x all e = at_number P ys i x all.1 e

at_index : {A : Type 0} (P : A → Type 0) (xs : List A) (i : ℕ) (x : A) → AllByRecursion P xs → i < length xs → get_or xs i x ≡ x → P x
at_index P [] i x all lt e = absurd (omega (arith, lt))
at_index P (y ∷ ys) zero x all lt e = subst P e all.0
at_index P (y ∷ ys) (suc i) x all lt e = at_index P ys i x all.1 (omega (arith, lt)) e

among_all : {A : Type 0} (P : A → Type 0) (xs : List A) (x : A) → AllByRecursion P xs → Contains xs x → P x
among_all P xs x all c = at_index P xs c.0 x all c.1 c.2

site_inside : (text : List Rule) (rule : Rule) (site : Site) (whole place number : ℕ) → SiteBreaks text rule site place number → site_place site < whole → place ≤ whole
site_inside text rule (Use name args asked) whole place number h lt = omega (arith, h.0, lt)
site_inside text rule (Parenthesis at lead) whole place number h lt = omega (arith, h.0, lt)

rule_inside : (text before : List Rule) (rule : Rule) (whole place number : ℕ) → IsRuleInside whole rule → RuleBreaks text before rule place number → place ≤ whole
rule_inside text before rule whole place number inside (AtName e broken) = omega (arith, e, inside.name)
rule_inside text before rule whole place number inside (AtParameter index param e is repeated) =
    let lt : param.at < whole = at_number (λ (p : AName). p.at < whole) rule.params index param inside.params repeated.stands in omega (arith, e, lt)
rule_inside text before rule whole place number inside (AtSite site among broken) =
    site_inside text rule site whole place number broken (among_all (λ (s : Site). site_place s < whole) (sites_of rule) site inside.sites among)

broken_inside : (rules : List Rule) (whole place number : ℕ) → AllByRecursion (IsRuleInside whole) rules → Breaks rules place number → place ≤ whole
broken_inside rules whole place number all b = rule_inside rules (take b.index rules) b.rule whole place number (at_number (IsRuleInside whole) rules b.index b.rule all b.stands) b.broken

pub names_within : (rules : List Rule) (whole : ℕ) (fault : NameFault) → AllByRecursion (IsRuleInside whole) rules → HasNameCause rules fault → StandsWithin whole (of_names_is fault)
names_within rules whole (names.At place rule) all first = broken_inside rules whole place rule all first.broken
names_within rules whole names.OutOfMemory all first = tt

pub names_cause : (q : Request) (tree : Tree) (fault : NameFault) → IsSchema q.schema tree → HasNameCause tree.rules fault → HasCause q (of_names_is fault)
names_cause q tree (names.At place rule) parsed first = record { tree = tree; schema = parsed; first = first }
names_cause q tree names.OutOfMemory parsed first = tt
