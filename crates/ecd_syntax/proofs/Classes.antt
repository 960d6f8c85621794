-- What the first mark of each part of a tree is: a number for each kind of mark.
use Rattle.std.proofs.Common.{◌≡◌, ◌≢◌, ℕ, ◌<◌, Bool, true, false, List, [], ◌∷◌, Option, Some, None, refl, ap, sym, ◌∙◌, subst, arith}
use Rattle.std.specs.Prelude.{◌&&◌, not}
use Rattle.std.proofs.lemmas.Bool.{eqb-true}
use Rattle.ecd_lex.specs.declared.token.Sign.{Sign}
use Rattle.ecd_lex.specs.declared.token.Sign.TheVariants as signs
use Rattle.ecd_lex.specs.declared.token.TokenKind.{TokenKind}
use Rattle.ecd_lex.specs.declared.token.TokenKind.TheVariants as kinds
use Rattle.ecd_syntax.specs.Marks.{Mark, name_of, literal_of, occur_of, hash_of, operator_of, assign_of, sign_of, tag_of, number_of, said, name_in, literal_in, occur_in, hash_in, operator_in, assign_in, at_place, is_sign, is_open_paren}
use Rattle.ecd_syntax.specs.Reading.{Reader, on, peek, choose}
use Rattle.ecd_syntax.proofs.Parts.{none_if}

-- assignments are 1, operators 6, tags 3, and no other sign of these numbers is told apart here
abbrev pub sign_class : Bool → Sign → ℕ
sign_class tag signs.Define = 1
sign_class tag signs.TypeMore = 1
sign_class tag signs.GroupMore = 1
sign_class true signs.Slash = 2
sign_class false signs.Slash = 4
sign_class true signs.DoubleSlash = 2
sign_class false signs.DoubleSlash = 5
sign_class tag signs.RangeClosed = 6
sign_class tag signs.RangeHalf = 6
sign_class true signs.Arrow = 2
sign_class false signs.Arrow = 8
sign_class true signs.Caret = 2
sign_class false signs.Caret = 9
sign_class true signs.Colon = 2
sign_class false signs.Colon = 10
sign_class true signs.Comma = 2
sign_class false signs.Comma = 11
sign_class true signs.Less = 2
sign_class false signs.Less = 12
sign_class true signs.Greater = 2
sign_class false signs.Greater = 13
sign_class true signs.CloseParen = 2
sign_class false signs.CloseParen = 14
sign_class true signs.CloseBracket = 2
sign_class false signs.CloseBracket = 15
sign_class true signs.CloseBrace = 2
sign_class false signs.CloseBrace = 16
sign_class true signs.OpenParen = 3
sign_class false signs.OpenParen = 17
sign_class true signs.OpenBracket = 2
sign_class false signs.OpenBracket = 18
sign_class true signs.OpenBrace = 2
sign_class false signs.OpenBrace = 19
sign_class true signs.Tilde = 2
sign_class false signs.Tilde = 20
sign_class true signs.Ampersand = 2
sign_class false signs.Ampersand = 21

-- a name is 22, a value 23, an occurrence 24, a hash 25
abbrev pub kind_class : Bool → TokenKind → ℕ
kind_class tag (kinds.Name text) = 22
kind_class tag (kinds.Int n) = 23
kind_class tag kinds.Float = 23
kind_class tag (kinds.Text bytes) = 23
kind_class tag (kinds.Bytes bytes) = 23
kind_class tag (kinds.Occur lo hi) = 24
kind_class tag (kinds.Hash major arg) = 25
kind_class tag (kinds.Control text) = 6
kind_class tag (kinds.Sign sign) = sign_class tag sign

unfoldable pub class : Mark → ℕ
class m = kind_class m.opens_tag m.kind

-- that of the first, or 0
abbrev pub lead : List Mark → ℕ
lead [] = 0
lead (m ∷ ms) = class m

-- of what marks the table says something
abbrev pub Classed : {A : Type 0} → (Mark → Option A) → ℕ → Type 0
Classed {A} table k = (m : Mark) (x : A) → table m ≡ Some x → class m ≡ k

name_kind : (at : ℕ) (tag : Bool) (kind : TokenKind) (x : _) → name_in at kind ≡ Some x → kind_class tag kind ≡ 22
name_kind at tag (kinds.Name text) x h = refl
name_kind at tag (kinds.Int n) x h = absurd cc
name_kind at tag kinds.Float x h = absurd cc
name_kind at tag (kinds.Text bytes) x h = absurd cc
name_kind at tag (kinds.Bytes bytes) x h = absurd cc
name_kind at tag (kinds.Occur lo hi) x h = absurd cc
name_kind at tag (kinds.Hash major arg) x h = absurd cc
name_kind at tag (kinds.Control text) x h = absurd cc
name_kind at tag (kinds.Sign sign) x h = absurd cc

pub name_class : Classed name_of 22
unfolding class
name_class m x h = name_kind m.at m.opens_tag m.kind x h

literal_kind : (tag : Bool) (kind : TokenKind) (x : _) → literal_in kind ≡ Some x → kind_class tag kind ≡ 23
literal_kind tag (kinds.Name text) x h = absurd cc
literal_kind tag (kinds.Int n) x h = refl
literal_kind tag kinds.Float x h = refl
literal_kind tag (kinds.Text bytes) x h = refl
literal_kind tag (kinds.Bytes bytes) x h = refl
literal_kind tag (kinds.Occur lo hi) x h = absurd cc
literal_kind tag (kinds.Hash major arg) x h = absurd cc
literal_kind tag (kinds.Control text) x h = absurd cc
literal_kind tag (kinds.Sign sign) x h = absurd cc

pub literal_class : Classed literal_of 23
unfolding class
literal_class m x h = literal_kind m.opens_tag m.kind x h

occur_kind : (tag : Bool) (kind : TokenKind) (x : _) → occur_in kind ≡ Some x → kind_class tag kind ≡ 24
occur_kind tag (kinds.Name text) x h = absurd cc
occur_kind tag (kinds.Int n) x h = absurd cc
occur_kind tag kinds.Float x h = absurd cc
occur_kind tag (kinds.Text bytes) x h = absurd cc
occur_kind tag (kinds.Bytes bytes) x h = absurd cc
occur_kind tag (kinds.Occur lo hi) x h = refl
occur_kind tag (kinds.Hash major arg) x h = absurd cc
occur_kind tag (kinds.Control text) x h = absurd cc
occur_kind tag (kinds.Sign sign) x h = absurd cc

pub occur_class : Classed occur_of 24
unfolding class
occur_class m x h = occur_kind m.opens_tag m.kind x h

hash_kind : (tag : Bool) (kind : TokenKind) (x : _) → hash_in kind ≡ Some x → kind_class tag kind ≡ 25
hash_kind tag (kinds.Name text) x h = absurd cc
hash_kind tag (kinds.Int n) x h = absurd cc
hash_kind tag kinds.Float x h = absurd cc
hash_kind tag (kinds.Text bytes) x h = absurd cc
hash_kind tag (kinds.Bytes bytes) x h = absurd cc
hash_kind tag (kinds.Occur lo hi) x h = absurd cc
hash_kind tag (kinds.Hash major arg) x h = refl
hash_kind tag (kinds.Control text) x h = absurd cc
hash_kind tag (kinds.Sign sign) x h = absurd cc

pub hash_class : Classed hash_of 25
unfolding class
hash_class m x h = hash_kind m.opens_tag m.kind x h

operator_kind : (at : ℕ) (tag : Bool) (kind : TokenKind) (x : _) → operator_in at kind ≡ Some x → kind_class tag kind ≡ 6
operator_kind at tag (kinds.Name text) x h = absurd cc
operator_kind at tag (kinds.Int n) x h = absurd cc
operator_kind at tag kinds.Float x h = absurd cc
operator_kind at tag (kinds.Text bytes) x h = absurd cc
operator_kind at tag (kinds.Bytes bytes) x h = absurd cc
operator_kind at tag (kinds.Occur lo hi) x h = absurd cc
operator_kind at tag (kinds.Hash major arg) x h = absurd cc
operator_kind at tag (kinds.Control text) x h = refl
operator_kind at tag (kinds.Sign signs.Define) x h = absurd cc
operator_kind at tag (kinds.Sign signs.TypeMore) x h = absurd cc
operator_kind at tag (kinds.Sign signs.GroupMore) x h = absurd cc
operator_kind at tag (kinds.Sign signs.Slash) x h = absurd cc
operator_kind at tag (kinds.Sign signs.DoubleSlash) x h = absurd cc
operator_kind at tag (kinds.Sign signs.RangeClosed) x h = refl
operator_kind at tag (kinds.Sign signs.RangeHalf) x h = refl
operator_kind at tag (kinds.Sign signs.Arrow) x h = absurd cc
operator_kind at tag (kinds.Sign signs.Caret) x h = absurd cc
operator_kind at tag (kinds.Sign signs.Colon) x h = absurd cc
operator_kind at tag (kinds.Sign signs.Comma) x h = absurd cc
operator_kind at tag (kinds.Sign signs.Less) x h = absurd cc
operator_kind at tag (kinds.Sign signs.Greater) x h = absurd cc
operator_kind at tag (kinds.Sign signs.CloseParen) x h = absurd cc
operator_kind at tag (kinds.Sign signs.CloseBracket) x h = absurd cc
operator_kind at tag (kinds.Sign signs.CloseBrace) x h = absurd cc
operator_kind at tag (kinds.Sign signs.OpenParen) x h = absurd cc
operator_kind at tag (kinds.Sign signs.OpenBracket) x h = absurd cc
operator_kind at tag (kinds.Sign signs.OpenBrace) x h = absurd cc
operator_kind at tag (kinds.Sign signs.Tilde) x h = absurd cc
operator_kind at tag (kinds.Sign signs.Ampersand) x h = absurd cc

placed_some : (at : ℕ) (o : Option _) (x : _) → at_place at o ≡ Some x → (k : _) × (o ≡ Some k)
placed_some at None x h = absurd cc
placed_some at (Some k) x h = (k, refl)

pub operator_class : Classed operator_of 6
unfolding class
operator_class m x h = let p = placed_some m.at (operator_in m.at m.kind) x h in operator_kind m.at m.opens_tag m.kind p.0 p.1

assign_kind : (tag : Bool) (kind : TokenKind) (x : _) → assign_in kind ≡ Some x → kind_class tag kind ≡ 1
assign_kind tag (kinds.Name text) x h = absurd cc
assign_kind tag (kinds.Int n) x h = absurd cc
assign_kind tag kinds.Float x h = absurd cc
assign_kind tag (kinds.Text bytes) x h = absurd cc
assign_kind tag (kinds.Bytes bytes) x h = absurd cc
assign_kind tag (kinds.Occur lo hi) x h = absurd cc
assign_kind tag (kinds.Hash major arg) x h = absurd cc
assign_kind tag (kinds.Control text) x h = absurd cc
assign_kind tag (kinds.Sign signs.Define) x h = refl
assign_kind tag (kinds.Sign signs.TypeMore) x h = refl
assign_kind tag (kinds.Sign signs.GroupMore) x h = refl
assign_kind tag (kinds.Sign signs.Slash) x h = absurd cc
assign_kind tag (kinds.Sign signs.DoubleSlash) x h = absurd cc
assign_kind tag (kinds.Sign signs.RangeClosed) x h = absurd cc
assign_kind tag (kinds.Sign signs.RangeHalf) x h = absurd cc
assign_kind tag (kinds.Sign signs.Arrow) x h = absurd cc
assign_kind tag (kinds.Sign signs.Caret) x h = absurd cc
assign_kind tag (kinds.Sign signs.Colon) x h = absurd cc
assign_kind tag (kinds.Sign signs.Comma) x h = absurd cc
assign_kind tag (kinds.Sign signs.Less) x h = absurd cc
assign_kind tag (kinds.Sign signs.Greater) x h = absurd cc
assign_kind tag (kinds.Sign signs.CloseParen) x h = absurd cc
assign_kind tag (kinds.Sign signs.CloseBracket) x h = absurd cc
assign_kind tag (kinds.Sign signs.CloseBrace) x h = absurd cc
assign_kind tag (kinds.Sign signs.OpenParen) x h = absurd cc
assign_kind tag (kinds.Sign signs.OpenBracket) x h = absurd cc
assign_kind tag (kinds.Sign signs.OpenBrace) x h = absurd cc
assign_kind tag (kinds.Sign signs.Tilde) x h = absurd cc
assign_kind tag (kinds.Sign signs.Ampersand) x h = absurd cc

pub assign_class : Classed assign_of 1
unfolding class
assign_class m x h = assign_kind m.opens_tag m.kind x h

-- ---- signs

said_is : (b : Bool) (u : Unit {0}) → said b ≡ Some u → b ≡ true
said_is true u h = refl
said_is false u h = absurd cc

both_true : (a b : Bool) → (a && b) ≡ true → (a ≡ true) × (b ≡ true)
both_true true b h = (refl, h)
both_true false b h = absurd cc

not_true : (a : Bool) → not a ≡ true → a ≡ false
not_true true h = absurd cc
not_true false h = refl

-- a sign that is told apart
abbrev pub Told : ℕ → Type 0
Told n = (3 < n) × (n ≢ 6) × (n ≢ 7)

untagged : (sign : Sign) → Told (number_of sign) → sign_class false sign ≡ number_of sign
untagged signs.Define h = absurd (omega (arith, h.0, h.1, h.2))
untagged signs.TypeMore h = absurd (omega (arith, h.0, h.1, h.2))
untagged signs.GroupMore h = absurd (omega (arith, h.0, h.1, h.2))
untagged signs.Slash h = refl
untagged signs.DoubleSlash h = refl
untagged signs.RangeClosed h = absurd (omega (arith, h.0, h.1, h.2))
untagged signs.RangeHalf h = absurd (omega (arith, h.0, h.1, h.2))
untagged signs.Arrow h = refl
untagged signs.Caret h = refl
untagged signs.Colon h = refl
untagged signs.Comma h = refl
untagged signs.Less h = refl
untagged signs.Greater h = refl
untagged signs.CloseParen h = refl
untagged signs.CloseBracket h = refl
untagged signs.CloseBrace h = refl
untagged signs.OpenParen h = refl
untagged signs.OpenBracket h = refl
untagged signs.OpenBrace h = refl
untagged signs.Tilde h = refl
untagged signs.Ampersand h = refl

sign_kind : (sign : Sign) (tag : Bool) (kind : TokenKind) → Told (number_of sign) → tag ≡ false → is_sign sign kind ≡ true → kind_class tag kind ≡ number_of sign
sign_kind sign tag (kinds.Name text) told e h = absurd cc
sign_kind sign tag (kinds.Int n) told e h = absurd cc
sign_kind sign tag kinds.Float told e h = absurd cc
sign_kind sign tag (kinds.Text bytes) told e h = absurd cc
sign_kind sign tag (kinds.Bytes bytes) told e h = absurd cc
sign_kind sign tag (kinds.Occur lo hi) told e h = absurd cc
sign_kind sign tag (kinds.Hash major arg) told e h = absurd cc
sign_kind sign tag (kinds.Control text) told e h = absurd cc
sign_kind sign tag (kinds.Sign other) told e h =
    let same : number_of sign ≡ number_of other = eqb-true (number_of sign) (number_of other) h in
    rw e (untagged other (subst Told same told) ∙ sym same)

pub sign_class_of : (sign : Sign) → Told (number_of sign) → Classed (sign_of sign) (number_of sign)
unfolding class
sign_class_of sign told m u h =
    let b = both_true (not m.opens_tag) (is_sign sign m.kind) (said_is (not m.opens_tag && is_sign sign m.kind) u h) in
    sign_kind sign m.opens_tag m.kind told (not_true m.opens_tag b.0) b.1

tag_kind : (tag : Bool) (kind : TokenKind) → tag ≡ true → is_open_paren kind ≡ true → kind_class tag kind ≡ 3
tag_kind tag (kinds.Name text) e h = absurd cc
tag_kind tag (kinds.Int n) e h = absurd cc
tag_kind tag kinds.Float e h = absurd cc
tag_kind tag (kinds.Text bytes) e h = absurd cc
tag_kind tag (kinds.Bytes bytes) e h = absurd cc
tag_kind tag (kinds.Occur lo hi) e h = absurd cc
tag_kind tag (kinds.Hash major arg) e h = absurd cc
tag_kind tag (kinds.Control text) e h = absurd cc
tag_kind tag (kinds.Sign signs.Define) e h = absurd cc
tag_kind tag (kinds.Sign signs.TypeMore) e h = absurd cc
tag_kind tag (kinds.Sign signs.GroupMore) e h = absurd cc
tag_kind tag (kinds.Sign signs.Slash) e h = absurd cc
tag_kind tag (kinds.Sign signs.DoubleSlash) e h = absurd cc
tag_kind tag (kinds.Sign signs.RangeClosed) e h = absurd cc
tag_kind tag (kinds.Sign signs.RangeHalf) e h = absurd cc
tag_kind tag (kinds.Sign signs.Arrow) e h = absurd cc
tag_kind tag (kinds.Sign signs.Caret) e h = absurd cc
tag_kind tag (kinds.Sign signs.Colon) e h = absurd cc
tag_kind tag (kinds.Sign signs.Comma) e h = absurd cc
tag_kind tag (kinds.Sign signs.Less) e h = absurd cc
tag_kind tag (kinds.Sign signs.Greater) e h = absurd cc
tag_kind tag (kinds.Sign signs.CloseParen) e h = absurd cc
tag_kind tag (kinds.Sign signs.CloseBracket) e h = absurd cc
tag_kind tag (kinds.Sign signs.CloseBrace) e h = absurd cc
tag_kind tag (kinds.Sign signs.OpenParen) e h = rw e refl
tag_kind tag (kinds.Sign signs.OpenBracket) e h = absurd cc
tag_kind tag (kinds.Sign signs.OpenBrace) e h = absurd cc
tag_kind tag (kinds.Sign signs.Tilde) e h = absurd cc
tag_kind tag (kinds.Sign signs.Ampersand) e h = absurd cc

pub tag_class : Classed tag_of 3
unfolding class
tag_class m u h =
    let b = both_true m.opens_tag (is_open_paren m.kind) (said_is (m.opens_tag && is_open_paren m.kind) u h) in
    tag_kind m.opens_tag m.kind b.0 b.1

-- ---- readers by the first mark

pub peek_none : {A : Type 0} (table : Mark → Option A) (k : ℕ) → Classed table k → (ms : List Mark) → lead ms ≢ k → peek table ms ≡ None
peek_none table k classed [] h = refl
peek_none table k classed (m ∷ ms) h = rw (none_if (table m) (λ x e. h (classed m x e))) refl

pub on_no : {A B : Type 0} (table : Mark → Option A) (k : ℕ) → Classed table k → (p : A → Reader B) (q : Reader B) (ms : List Mark) → lead ms ≢ k → on table p q ms ≡ q ms
on_no table k classed p q ms h = ap (λ (o : Option _). choose o p q ms) (peek_none table k classed ms h)

pub on_yes : {A B : Type 0} (table : Mark → Option A) (p : A → Reader B) (q : Reader B) (m : Mark) (x : A) (ms : List Mark) → table m ≡ Some x → on table p q (m ∷ ms) ≡ p x ms
on_yes table p q m x ms h = rw h refl
