-- Each cause of a refusal rules out the others.
use Rattle.std.proofs.Common.{◌≡◌, ℕ, ◌<◌, ◌≤◌, ⊎_elim, List, length, refl, ap, sym, ◌∙◌, subst, arith}
use Rattle.std.proofs.lemmas.Bool.{cases_lt}
use Rattle.std.specs.Str.{IsValidUpTo}
use Rattle.ecd_lex.specs.declared.token.Token.{Token}
use Rattle.ecd_lex.proofs.Determined.{one_list, no_list_and_fault, one_fault}
use Rattle.ecd_syntax.specs.declared.tree.Tree.{Tree}
use Rattle.ecd_syntax.specs.Grammar.{Spells}
use Rattle.ecd_syntax.specs.Faults.{IsWithin, UnexpectedAt, TooNestedAt}
use Rattle.ecd_syntax.proofs.Verdicts.{one_spelled, one_unexpected, one_nested, nested_not_within, nested_not_unexpected, unexpected_no_schema}
use Rattle.ecd_judge.specs.declared.refusal.Refusal.TheVariants.{NotUtf8, Lex, Parse, Name, NotBuilt, OutOfMemory}
use Rattle.ecd_judge.specs.Schema.{IsSchema, IsSyntaxFault, IsNoSchema, BreaksLexemes, BreaksNames, HasOneCause, SoundHasNoCause, HasOneMeaning}
use Rattle.ecd_names.specs.Breaks.{BreaksNone, IsFirst}
use Rattle.ecd_names.proofs.Resolving.{one-first, none-first}

-- the longest front that is UTF-8 is one
not_longer : (text : List ℕ) (p q : ℕ) → IsValidUpTo text p → IsValidUpTo text q → p < q → ⊥
not_longer text p q a b lt = a.longest q lt b.front

one_front : (text : List ℕ) (p q : ℕ) → IsValidUpTo text p → IsValidUpTo text q → p ≡ q
one_front text p q a b =
    ⊎_elim (λ (lt : p < q). absurd (not_longer text p q a b lt)) (λ (le : q ≤ p). ⊎_elim (λ (gt : q < p). absurd (not_longer text q p b a gt)) (λ (ge : p ≤ q). let e : p ≡ q = omega arith in e) (cases_lt q p)) (cases_lt p q)

syntax_same : (tokens : List Token) (end p q r s : ℕ) → IsSyntaxFault tokens end p r → IsSyntaxFault tokens end q s → Parse p r ≡ Parse q s
syntax_same tokens end p q r s a b =
    ⊎_elim
    (λ (x : (r ≡ 1) × UnexpectedAt tokens end p). ⊎_elim
    (λ (y : (s ≡ 1) × UnexpectedAt tokens end q). λ i. Parse (one_unexpected tokens end p q x.1 y.1 i) ((x.0 ∙ sym y.0) i))
    (λ (y : (s ≡ 2) × TooNestedAt tokens q). absurd (nested_not_unexpected tokens end q p y.1 x.1)) b)
    (λ (x : (r ≡ 2) × TooNestedAt tokens p). ⊎_elim
    (λ (y : (s ≡ 1) × UnexpectedAt tokens end q). absurd (nested_not_unexpected tokens end p q x.1 y.1))
    (λ (y : (s ≡ 2) × TooNestedAt tokens q). λ i. Parse (one_nested tokens p q x.1 y.1 i) ((x.0 ∙ sym y.0) i)) b)
    a

syntax_or_schema : (tokens : List Token) (tree : Tree) (end p r : ℕ) → IsSyntaxFault tokens end p r → Spells tree tokens → IsWithin tokens → ⊥
syntax_or_schema tokens tree end p r a s w =
    ⊎_elim (λ (x : (r ≡ 1) × UnexpectedAt tokens end p). unexpected_no_schema tree tokens x.1.before x.1.rest x.1.unexpected s) (λ (x : (r ≡ 2) × TooNestedAt tokens p). nested_not_within tokens p x.1 w) a

no_schema_or_schema : (text : List ℕ) (tree : Tree) (p r : ℕ) → IsNoSchema text p r → IsSchema text tree → ⊥
no_schema_or_schema text tree p r a b =
    let same : a.tokens ≡ b.tokens = one_list text a.tokens b.tokens a.lexemes b.lexemes in
    syntax_or_schema b.tokens tree (length text) p r (subst (λ (ts : List Token). IsSyntaxFault ts (length text) p r) same a.fault) b.spells b.within

no_schema_same : (text : List ℕ) (p q r s : ℕ) → IsNoSchema text p r → IsNoSchema text q s → Parse p r ≡ Parse q s
no_schema_same text p q r s a b =
    let same : a.tokens ≡ b.tokens = one_list text a.tokens b.tokens a.lexemes b.lexemes in
    syntax_same b.tokens (length text) p q r s (subst (λ (ts : List Token). IsSyntaxFault ts (length text) p r) same a.fault) b.fault

lexemes_same : (text : List ℕ) (p q r s : ℕ) → BreaksLexemes text p r → BreaksLexemes text q s → Lex p r ≡ Lex q s
lexemes_same text p q r s a b = let e = one_fault text p q r s a.first b.first in λ i. Lex (e.0 i) (e.1 i)

pub same_tree : (text : List ℕ) (t u : Tree) → IsSchema text t → IsSchema text u → t ≡ u
same_tree text t u a b =
    let same : a.tokens ≡ b.tokens = one_list text a.tokens b.tokens a.lexemes b.lexemes in
    one_spelled t u b.tokens (subst (λ (ts : List Token). Spells t ts) same a.spells) b.spells

names_same : (text : List ℕ) (p q r s : ℕ) → BreaksNames text p r → BreaksNames text q s → Name p r ≡ Name q s
names_same text p q r s a b =
    let same : b.tree ≡ a.tree = same_tree text b.tree a.tree b.schema a.schema in
    let e = one-first a.tree.rules p r q s a.first (subst (λ (t : Tree). IsFirst t.rules q s) same b.first) in
    λ i. Name (e.0 i) (e.1 i)

sound_or_names : (text : List ℕ) (tree : Tree) (p r : ℕ) → BreaksNames text p r → IsSchema text tree → BreaksNone tree.rules → ⊥
sound_or_names text tree p r a parsed sound =
    let same : a.tree ≡ tree = same_tree text a.tree tree a.schema parsed in
    none-first tree.rules p r sound (subst (λ (t : Tree). IsFirst t.rules p r) same a.first)

pub one_cause : HasOneCause
one_cause w (NotUtf8 p) (NotUtf8 q) x y a b = ap NotUtf8 (one_front w.schema p q a.stands b.stands)
one_cause w (NotUtf8 p) (Lex q s) x y a b = absurd (a.bad b.utf8)
one_cause w (NotUtf8 p) (Parse q s) x y a b = absurd (a.bad b.utf8)
one_cause w (NotUtf8 p) (Name q s) x y a b = absurd (a.bad b.schema.utf8)
one_cause w (NotUtf8 p) NotBuilt x y a b = absurd b
one_cause w (NotUtf8 p) OutOfMemory x y a b = absurd y
one_cause w (Lex p r) (NotUtf8 q) x y a b = absurd (b.bad a.utf8)
one_cause w (Lex p r) (Lex q s) x y a b = lexemes_same w.schema p q r s a b
one_cause w (Lex p r) (Parse q s) x y a b = absurd (no_list_and_fault w.schema b.tokens p r b.lexemes a.first)
one_cause w (Lex p r) (Name q s) x y a b = absurd (no_list_and_fault w.schema b.schema.tokens p r b.schema.lexemes a.first)
one_cause w (Lex p r) NotBuilt x y a b = absurd b
one_cause w (Lex p r) OutOfMemory x y a b = absurd y
one_cause w (Parse p r) (NotUtf8 q) x y a b = absurd (b.bad a.utf8)
one_cause w (Parse p r) (Lex q s) x y a b = absurd (no_list_and_fault w.schema a.tokens q s a.lexemes b.first)
one_cause w (Parse p r) (Parse q s) x y a b = no_schema_same w.schema p q r s a b
one_cause w (Parse p r) (Name q s) x y a b = absurd (no_schema_or_schema w.schema b.tree p r a b.schema)
one_cause w (Parse p r) NotBuilt x y a b = absurd b
one_cause w (Parse p r) OutOfMemory x y a b = absurd y
one_cause w (Name p r) (NotUtf8 q) x y a b = absurd (b.bad a.schema.utf8)
one_cause w (Name p r) (Lex q s) x y a b = absurd (no_list_and_fault w.schema a.schema.tokens q s a.schema.lexemes b.first)
one_cause w (Name p r) (Parse q s) x y a b = absurd (no_schema_or_schema w.schema a.tree q s b a.schema)
one_cause w (Name p r) (Name q s) x y a b = names_same w.schema p q r s a b
one_cause w (Name p r) NotBuilt x y a b = absurd b
one_cause w (Name p r) OutOfMemory x y a b = absurd y
one_cause w NotBuilt s x y a b = absurd a
one_cause w OutOfMemory s x y a b = absurd x

pub never_refused : SoundHasNoCause
never_refused w rules (NotUtf8 p) is x a = a.bad is.parsed.utf8
never_refused w rules (Lex p s) is x a = no_list_and_fault w.schema is.parsed.tokens p s is.parsed.lexemes a.first
never_refused w rules (Parse p s) is x a = no_schema_or_schema w.schema is.tree p s a is.parsed
never_refused w rules (Name p s) is x a = sound_or_names w.schema is.tree p s a is.parsed is.sound
never_refused w rules NotBuilt is x a = a
never_refused w rules OutOfMemory is x a = x

pub one_meaning : HasOneMeaning
one_meaning w rules others a b = a.is ∙ (ap (λ (t : Tree). t.rules) (same_tree w.schema a.tree b.tree a.parsed b.parsed) ∙ sym b.is)
