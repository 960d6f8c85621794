-- The parts of a schema, by what their openings lead to.
use Rattle.std.proofs.Common.{◌≡◌, ℕ, List, drop, Option, Some, None, Result, Ok, refl, sym, ap, subst, ◌∙◌}
use Rattle.ecd_lex.specs.declared.token.Bound.{Bound}
use Rattle.ecd_lex.specs.declared.token.Sign.{Sign}
use Rattle.ecd_lex.specs.declared.token.Sign.TheVariants as signs
use Rattle.ecd_syntax.specs.declared.tree.Alts.{Alts}
use Rattle.ecd_syntax.specs.declared.tree.Entry.{Entry}
use Rattle.ecd_syntax.specs.declared.tree.Form.{Form}
use Rattle.ecd_syntax.specs.declared.tree.Form.TheVariants as forms
use Rattle.ecd_syntax.specs.declared.tree.Key.{Key}
use Rattle.ecd_syntax.specs.declared.tree.Type1.{Type1}
use Rattle.ecd_syntax.specs.declared.tree.WayTree.{WayTree}
use Rattle.ecd_syntax.specs.Marks.{Mark, place, sign_of}
use Rattle.ecd_syntax.specs.Reading.{Taken, Halted, Reader, ◌>>=◌, taken, token, made, form_at, operand_at, operand_of, type_at, tag_at, body_at, open_body, behind_choice, body_behind, skip_comma, entry_at, entry_in_way, all_ways, group_at, group_of}
use Rattle.ecd_parse.specs.Reads.{Fails, LeadsOr}
use Rattle.ecd_parse.specs.Openings.{behind_opening}
use Rattle.ecd_parse.specs.declared.cursor.Halt.{Halt}
use Rattle.ecd_parse.specs.declared.cursor.Halt.TheVariants as halts
use Rattle.ecd_parse.specs.declared.opening.Opening.{Opening}

-- what halts a reader halts what goes on behind it
pub fails_then : {A B : Type 0} (all : List Mark) (e : Halt) (read : Result (Taken A) Halted) (f : Taken A → Result (Taken B) Halted) → Fails all e read → Fails all e (read >>= f)
fails_then all halts.OutOfMemory read f h = tt
fails_then all (halts.Unexpected at) read f h = rw h refl

pub fails_same : {A : Type 0} (all : List Mark) (e : Halt) (read other : Result (Taken A) Halted) → read ≡ other → Fails all e other → Fails all e read
fails_same all e read other h f = subst (λ (r : Result (Taken _) Halted). Fails all e r) (sym h) f

pub operand_gives : (one : Reader Type1) (ms rest : List Mark) (at : ℕ) (form : Form) → at ≡ place ms → form_at one ms ≡ taken form rest → operand_at one ms ≡ taken (operand_of at form) rest
unfolding operand_at
operand_gives one ms rest at form e h = rw (e, h) refl

pub operand_fails : (one : Reader Type1) (all : List Mark) (e : Halt) (ms : List Mark) → Fails all e (form_at one ms) → Fails all e (operand_at one ms)
unfolding operand_at
operand_fails one all e ms h = fails_then all e (form_at one ms) (λ x. taken (operand_of (place ms) x.value) x.rest) h

pub entry_passed : (one : Reader Type1) (ms rest left : List Mark) (entry : Entry) → entry_at one ms ≡ taken entry rest → skip_comma entry rest ≡ taken entry left → entry_in_way one ms ≡ taken entry left
unfolding entry_in_way
entry_passed one ms rest left entry h skips = rw h skips

pub entry_fails : (one : Reader Type1) (all : List Mark) (e : Halt) (ms : List Mark) → Fails all e (entry_at one ms) → Fails all e (entry_in_way one ms)
unfolding entry_in_way
entry_fails one all e ms h = fails_then all e (entry_at one ms) (λ x. skip_comma x.value x.rest) h

pub group_gives : (one : Reader Type1) (close : Sign) (ms rest : List Mark) (at : ℕ) (ways : List WayTree) → at ≡ place ms → all_ways one close ms ≡ taken ways rest → group_at one close ms ≡ taken (group_of at ways) rest
unfolding group_at
group_gives one close ms rest at ways e h = rw (e, h) refl

pub group_fails : (one : Reader Type1) (close : Sign) (all : List Mark) (e : Halt) (ms : List Mark) → Fails all e (all_ways one close ms) → Fails all e (group_at one close ms)
unfolding group_at
group_fails one close all e ms h = fails_then all e (all_ways one close ms) (λ ws. taken (group_of (place ms) ws.value) ws.rest) h

pub made_gives : {A B : Type 0} (f : A → B) (p : Reader A) (ms rest : List Mark) (x : A) (y : B) → y ≡ f x → p ms ≡ taken x rest → made f p ms ≡ taken y rest
made_gives f p ms rest x y e h = rw h (ap (λ z. taken z rest) (sym e))

pub made_fails : {A B : Type 0} (f : A → B) (p : Reader A) (all : List Mark) (e : Halt) (ms : List Mark) → Fails all e (p ms) → Fails all e (made f p ms)
made_fails f p all e ms h = fails_then all e (p ms) (λ x. taken (f x.value) x.rest) h

-- ---- an operand behind its opening

pub operand_behind : (one : Reader Type1) (ms start rest : List Mark) (at : ℕ) (opening : Opening) (form : Form) → at ≡ place ms → form_at one ms ≡ behind_opening one opening start → behind_opening one opening start ≡ taken form rest → operand_at one ms ≡ taken (operand_of at form) rest
operand_behind one ms start rest at opening form e h g = operand_gives one ms rest at form e (h ∙ g)

pub operand_stops : (one : Reader Type1) (all : List Mark) (e : Halt) (ms start : List Mark) (opening : Opening) → form_at one ms ≡ behind_opening one opening start → Fails all e (behind_opening one opening start) → Fails all e (operand_at one ms)
operand_stops one all e ms start opening h f = operand_fails one all e ms (fails_same all e (form_at one ms) (behind_opening one opening start) h f)

pub tag_gives : (one : Reader Type1) (ms mid rest : List Mark) (number : Bound) (body : Alts) → type_at one ms ≡ taken body mid → token (sign_of signs.CloseParen) mid ≡ taken tt rest → tag_at one number ms ≡ taken (forms.Tagged number body) rest
unfolding tag_at
tag_gives one ms mid rest number body h g = rw (h, g) refl

pub tag_fails : (one : Reader Type1) (all : List Mark) (e : Halt) (ms : List Mark) (number : Bound) → Fails all e (type_at one ms) → Fails all e (tag_at one number ms)
unfolding tag_at
tag_fails one all e ms number h = fails_then all e (type_at one ms) (λ t. token (sign_of signs.CloseParen) t.rest >>= λ c. taken (forms.Tagged number t.value) c.rest) h

pub tag_unclosed : (one : Reader Type1) (all : List Mark) (e : Halt) (ms mid : List Mark) (number : Bound) (body : Alts) → type_at one ms ≡ taken body mid → Fails all e (token (sign_of signs.CloseParen) mid) → Fails all e (tag_at one number ms)
unfolding tag_at
tag_unclosed one all e ms mid number body h f = rw h (fails_then all e (token (sign_of signs.CloseParen) mid) (λ c. taken (forms.Tagged number body) c.rest) f)

-- ---- the body of an entry with no key before `:`

pub leads_none : {A B : Type 0} (ms : List Mark) (o : Option (A × ℕ)) (next : A → Reader B) (other read : Result (Taken B) Halted) → o ≡ None → LeadsOr ms (Ok o) next other read → read ≡ other
leads_none ms None next other read e h = h
leads_none ms (Some x) next other read e h = absurd cc

pub leads_some : {A B : Type 0} (ms : List Mark) (o : Option (A × ℕ)) (x : A × ℕ) (next : A → Reader B) (other read : Result (Taken B) Halted) → o ≡ Some x → LeadsOr ms (Ok o) next other read → read ≡ next x.0 (drop x.1 ms)
leads_some ms None x next other read e h = absurd cc
leads_some ms (Some y) x next other read e h = let i : y ≡ x = cc in subst (λ z. read ≡ next z.0 (drop z.1 ms)) i h

pub body_opens : (one : Reader Type1) (ms mid : List Mark) (at : ℕ) (first : Type1) → at ≡ place ms → body_at one ms ≡ open_body one ms → one ms ≡ taken first mid → body_at one ms ≡ behind_choice one at first mid
unfolding open_body
body_opens one ms mid at first e h g = rw (h, g, e) refl

pub body_unopened : (one : Reader Type1) (all : List Mark) (e : Halt) (ms : List Mark) → body_at one ms ≡ open_body one ms → Fails all e (one ms) → Fails all e (body_at one ms)
unfolding open_body
body_unopened one all e ms h f = rw h (fails_then all e (one ms) (λ x. behind_choice one (place ms) x.value x.rest) f)

pub behind_gives : (one : Reader Type1) (ms rest : List Mark) (key : Key) (body : Alts) → type_at one ms ≡ taken body rest → body_behind one key ms ≡ taken (key, body) rest
behind_gives one ms rest key body h = rw h refl

pub behind_fails : (one : Reader Type1) (all : List Mark) (e : Halt) (ms : List Mark) (key : Key) → Fails all e (type_at one ms) → Fails all e (body_behind one key ms)
behind_fails one all e ms key h = fails_then all e (type_at one ms) (λ t. taken (key, t.value) t.rest) h
