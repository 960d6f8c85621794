-- Reading marks from left to right, up to the first that cannot be taken.
use Rattle.std.specs.Prelude.{ℕ, zero, suc, Bool, true, false, not, ◌||◌, List, [], ◌∷◌, length, drop, Option, Some, None, Err, nat_eq, if◌then◌else◌}
use Rattle.ecd_lex.specs.declared.token.Bound.{Bound}
use Rattle.ecd_lex.specs.declared.token.Sign.{Sign}
use Rattle.ecd_lex.specs.declared.token.Sign.TheVariants as signs
use Rattle.ecd_reading.specs.Reading as read
pub use Rattle.ecd_reading.specs.Reading.{Stuck, Deep, ◌>>=◌, taken, stuck, with_rest, peek, choose, on, token, begins, is_more, behind, each}
unfoldable pub use Rattle.ecd_reading.specs.Reading.{many}
use Rattle.ecd_syntax.specs.declared.tree.Alts.{Alts, roll-Alts}
use Rattle.ecd_syntax.specs.declared.tree.Assign.{Assign}
use Rattle.ecd_syntax.specs.declared.tree.Assign.TheVariants.{Define, TypeMore, GroupMore}
use Rattle.ecd_syntax.specs.declared.tree.Entry.{Entry, roll-Entry}
use Rattle.ecd_syntax.specs.declared.tree.Form.{Form}
use Rattle.ecd_syntax.specs.declared.tree.Form.TheVariants.{Lit, Named, Paren, MapOf, ArrayOf, Unwrap, Enum, EnumName, Tagged, Hash}
use Rattle.ecd_syntax.specs.declared.tree.GroupTree.{GroupTree, roll-GroupTree}
use Rattle.ecd_syntax.specs.declared.tree.Key.{Key}
use Rattle.ecd_syntax.specs.declared.tree.Key.TheVariants as keys
use Rattle.ecd_syntax.specs.declared.tree.Name.{Name}
use Rattle.ecd_syntax.specs.declared.tree.Occur.{Occur}
use Rattle.ecd_syntax.specs.declared.tree.OpKind.{OpKind}
use Rattle.ecd_syntax.specs.declared.tree.Operation.{Operation, roll-Operation}
use Rattle.ecd_syntax.specs.declared.tree.Rule.{Rule}
use Rattle.ecd_syntax.specs.declared.tree.Type1.{Type1, roll-Type1}
use Rattle.ecd_syntax.specs.declared.tree.Type2.{Type2, roll-Type2}
use Rattle.ecd_syntax.specs.declared.tree.WayTree.{WayTree, roll-WayTree}
use Rattle.ecd_syntax.specs.Marks.{Mark, place, name_of, literal_of, occur_of, hash_of, operator_of, assign_of, sign_of, tag_of}

abbrev pub Taken : Type 0 → Type 0
Taken A = read.Taken Mark A

abbrev pub Halted : Type 0
Halted = read.Halted Mark

abbrev pub Reader : Type 0 → Type 0
Reader A = read.Reader Mark A

abbrev pub more_listed : {A : Type 0} → Sign → Reader A → A → Reader (List A)
more_listed sign one x ms = each (begins (sign_of sign)) (behind (sign_of sign) one) ms >>= λ xs. taken (x ∷ xs.value) xs.rest

abbrev pub listed : {A : Type 0} → Sign → Reader A → Reader (List A)
listed sign one ms = one ms >>= λ x. more_listed sign one x.value x.rest

unfoldable pub angled : {A : Type 0} → Reader A → Reader (List A)
angled one = on (sign_of signs.Less) (λ _ ms. listed signs.Comma one ms >>= λ xs. token (sign_of signs.Greater) xs.rest >>= λ e. taken xs.value e.rest) (taken [])

-- ---- the parts of a tree, from what they are made of

abbrev pub alts_of : ℕ → List Type1 → Alts
alts_of at choices = roll-Alts record { at = at; choices = choices }

abbrev pub operand_of : ℕ → Form → Type2
operand_of at form = roll-Type2 record { at = at; form = form }

abbrev pub operation_of : ℕ → OpKind → Type2 → Operation
operation_of at kind right = roll-Operation record { at = at; kind = kind; right = right }

abbrev pub choice_of : ℕ → Type2 → Option Operation → Type1
choice_of at left op = roll-Type1 record { at = at; left = left; op = op }

abbrev pub way_of : ℕ → List Entry → WayTree
way_of at entries = roll-WayTree record { at = at; entries = entries }

abbrev pub group_of : ℕ → List WayTree → GroupTree
group_of at ways = roll-GroupTree record { at = at; ways = ways }

abbrev pub entry_of : ℕ → Option Occur → Key → Alts → Entry
entry_of at occur key body = roll-Entry record { at = at; occur = occur; key = key; body = body }

abbrev pub rule_of : ℕ → Name → List Name → Assign → Entry → Rule
rule_of at name params assign body = record { at = at; name = name; params = params; assign = assign; body = body }

-- ---- reading each part, where a choice of a type is read so

unfoldable pub type_at : Reader Type1 → Reader Alts
type_at one ms = listed signs.Slash one ms >>= λ xs. taken (alts_of (place ms) xs.value) xs.rest

unfoldable pub occur_at : Reader (Option Occur)
occur_at = on occur_of (λ o. taken (Some o)) (taken None)

abbrev pub colon_behind : List Mark → Bool
colon_behind ms = begins (sign_of signs.Colon) (drop 1 ms)

abbrev pub body_behind : Reader Type1 → Key → Reader (Key × Alts)
body_behind one key ms = type_at one ms >>= λ t. taken (key, t.value) t.rest

unfoldable pub behind_choice : Reader Type1 → ℕ → Type1 → Reader (Key × Alts)
behind_choice one at x =
    on (sign_of signs.Caret) (λ _ ms. token (sign_of signs.Arrow) ms >>= λ a. body_behind one (keys.Arrow x true) a.rest)
    (on (sign_of signs.Arrow) (λ _. body_behind one (keys.Arrow x false))
    (λ ms. more_listed signs.Slash one x ms >>= λ xs. taken (keys.Missing, alts_of at xs.value) xs.rest))

unfoldable pub open_body : Reader Type1 → Reader (Key × Alts)
open_body one ms = one ms >>= λ x. behind_choice one (place ms) x.value x.rest

abbrev pub colon_body : Reader Type1 → Key → Reader (Key × Alts)
colon_body one key ms = token (sign_of signs.Colon) ms >>= λ c. body_behind one key c.rest

unfoldable pub keyed_body : Reader Type1 → Reader (Key × Alts)
keyed_body one ms =
    on name_of (λ n. colon_body one (keys.Word n))
    (on literal_of (λ l. colon_body one (keys.Lit (place ms) l))
    (open_body one)) ms

unfoldable pub body_at : Reader Type1 → Reader (Key × Alts)
body_at one ms = if colon_behind ms then keyed_body one ms else open_body one ms

unfoldable pub entry_at : Reader Type1 → Reader Entry
entry_at one ms = occur_at ms >>= λ o. body_at one o.rest >>= λ b. taken (entry_of (place ms) o.value b.value.0 b.value.1) b.rest

abbrev pub skip_comma : {A : Type 0} → A → Reader A
skip_comma x = on (sign_of signs.Comma) (λ _. taken x) (taken x)

unfoldable pub entry_in_way : Reader Type1 → Reader Entry
entry_in_way one ms = entry_at one ms >>= λ e. skip_comma e.value e.rest

-- whether a way goes on
abbrev pub goes_on : Sign → List Mark → Bool
goes_on close ms = not (begins (sign_of signs.DoubleSlash) ms || begins (sign_of close) ms)

unfoldable pub ways_at : Reader Type1 → Sign → ℕ → Reader (List WayTree)
ways_at one close zero ms = stuck ms
ways_at one close (suc n) ms = each (goes_on close) (entry_in_way one) ms >>= λ es.
    on (sign_of signs.DoubleSlash)
    (λ _ rest. ways_at one close n rest >>= λ ws. taken (way_of (place ms) es.value ∷ ws.value) ws.rest)
    (λ rest. token (sign_of close) rest >>= λ e. taken (way_of (place ms) es.value ∷ []) e.rest)
    es.rest

abbrev pub all_ways : Reader Type1 → Sign → Reader (List WayTree)
all_ways one close ms = ways_at one close (suc (length ms)) ms

unfoldable pub group_at : Reader Type1 → Sign → Reader GroupTree
group_at one close ms = all_ways one close ms >>= λ ws. taken (group_of (place ms) ws.value) ws.rest

abbrev pub made : {A B : Type 0} → (A → B) → Reader A → Reader B
made f p ms = p ms >>= λ x. taken (f x.value) x.rest

unfoldable pub name_and_args : Reader Type1 → (Name → List Type1 → Form) → Reader Form
name_and_args one f ms = token name_of ms >>= λ n. made (f n.value) (angled one) n.rest

abbrev pub six_major : Option ℕ → Bool
six_major None = false
six_major (Some major) = nat_eq major 6

unfoldable pub tag_at : Reader Type1 → Bound → Reader Form
tag_at one number ms = type_at one ms >>= λ t. token (sign_of signs.CloseParen) t.rest >>= λ e. taken (Tagged number t.value) e.rest

unfoldable pub behind_hash : Reader Type1 → Option ℕ × Bound → Reader Form
behind_hash one hash ms = if six_major hash.0 then on tag_of (λ _. tag_at one hash.1) (taken (Hash hash.0 hash.1)) ms else taken (Hash hash.0 hash.1) ms

unfoldable pub bracket_at : Reader Type1 → Reader Form
bracket_at one =
    on (sign_of signs.OpenParen) (λ _. made Paren (group_at one signs.CloseParen))
    (on (sign_of signs.OpenBrace) (λ _. made MapOf (group_at one signs.CloseBrace))
    (on (sign_of signs.OpenBracket) (λ _. made ArrayOf (group_at one signs.CloseBracket))
    stuck))

unfoldable pub behind_ampersand : Reader Type1 → Reader Form
behind_ampersand one =
    on (sign_of signs.OpenParen) (λ _. made Enum (group_at one signs.CloseParen))
    (name_and_args one EnumName)

unfoldable pub prefixed_at : Reader Type1 → Reader Form
prefixed_at one =
    on (sign_of signs.Tilde) (λ _. name_and_args one Unwrap)
    (on (sign_of signs.Ampersand) (λ _. behind_ampersand one)
    (bracket_at one))

unfoldable pub form_at : Reader Type1 → Reader Form
form_at one =
    on literal_of (λ l. taken (Lit l))
    (on name_of (λ n. made (Named n) (angled one))
    (on hash_of (behind_hash one)
    (prefixed_at one)))

unfoldable pub operand_at : Reader Type1 → Reader Type2
operand_at one ms = made (operand_of (place ms)) (form_at one) ms

unfoldable pub operation_at : Reader Type1 → Reader (Option Operation)
operation_at one = on operator_of (λ k. made (λ t. Some (operation_of k.0 k.1 t)) (operand_at one)) (taken None)

unfoldable pub choice_layer : Reader Type1 → Reader Type1
choice_layer one ms = operand_at one ms >>= λ t. operation_at one t.rest >>= λ o. taken (choice_of (place ms) t.value o.value) o.rest

-- a choice of a type, inside which no more than so many others stand inside each other
unfoldable pub choice_at : ℕ → Reader Type1
choice_at zero ms = Err Deep
choice_at (suc n) ms = choice_layer (choice_at n) ms

unfoldable pub assigned : Reader Type1 → Assign → Reader Entry
assigned one Define = entry_at one
assigned one TypeMore = λ ms. made (entry_of (place ms) None keys.Missing) (type_at one) ms
assigned one GroupMore = entry_at one

unfoldable pub rule_at : Reader Type1 → Reader Rule
rule_at one ms = token name_of ms >>= λ n. angled (token name_of) n.rest >>= λ ps. token assign_of ps.rest >>= λ a. made (rule_of (place ms) n.value ps.value a.value) (assigned one a.value) a.rest

-- a rule and those behind it
abbrev pub more_rules : Reader Type1 → Rule → Reader (List Rule)
more_rules one rule ms = each is_more (rule_at one) ms >>= λ rs. taken (rule ∷ rs.value) rs.rest

-- one rule or more, up to the end
unfoldable pub rules_at : Reader Type1 → Reader (List Rule)
rules_at one ms = rule_at one ms >>= λ r. more_rules one r.value r.rest
