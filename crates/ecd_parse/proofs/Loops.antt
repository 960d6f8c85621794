-- Reading one part after the other, as a loop does.
use Rattle.std.proofs.Common.{◌≡◌, ℕ, suc, Bool, true, false, List, [], ◌∷◌, ◌++◌, drop, Option, Some, None, Result, Ok, Err, refl, sym, ap, ◌∙◌, append_assoc}
use Rattle.std.specs.Prelude.{is_some}
use Rattle.std.proofs.lemmas.List.{append-nil}
use Rattle.ecd_lex.specs.declared.token.Sign.{Sign}
use Rattle.ecd_lex.specs.declared.token.Sign.TheVariants as signs
use Rattle.ecd_syntax.specs.declared.tree.Entry.{Entry}
use Rattle.ecd_syntax.specs.declared.tree.Type1.{Type1}
use Rattle.ecd_syntax.specs.declared.tree.WayTree.{WayTree}
use Rattle.ecd_syntax.specs.Marks.{Mark, place, sign_of}
use Rattle.ecd_syntax.specs.Reading.{Taken, Halted, Stuck, Reader, ◌>>=◌, taken, peek, choose, on, token, begins, behind, many, each, goes_on, entry_in_way, ways_at, way_of}
use Rattle.ecd_reading.proofs.Loops.{with_front, halted}
use Rattle.ecd_parse.specs.Reads.{Fails, passed}
use Rattle.ecd_parse.specs.declared.cursor.Halt.{Halt}
use Rattle.ecd_parse.specs.declared.cursor.Halt.TheVariants as halts

-- what halts one part halts all
pub ends : {A : Type 0} (test : List Mark → Bool) (one : Reader A) (all : List Mark) (e : Halt) (n m : ℕ) (front : List A) (ms : List Mark) (total : Result (Taken (List A)) Halted) → n ≡ suc m → test ms ≡ true → Fails all e (one ms)
    → with_front front (many test one (taken []) n ms) ≡ total → Fails all e total
ends test one all halts.OutOfMemory n m front ms total i yes_ fails so_far = tt
ends test one all (halts.Unexpected at) n m front ms total i yes_ fails so_far = halted (taken []) test one (Stuck (drop at all)) n m front ms total i yes_ fails so_far

-- ---- a sign before each

passed_none : (ms : List Mark) (o : Option ℕ) → o ≡ None → passed ms o ≡ None
passed_none ms o h = rw h refl

pub sign_here : (all : List Mark) (sign : Sign) (ms : List Mark) (next : ℕ) → passed all (Some next) ≡ peek (sign_of sign) ms → begins (sign_of sign) ms ≡ true
sign_here all sign ms next h = ap is_some (sym h)

pub no_sign_here : (all : List Mark) (sign : Sign) (ms : List Mark) → passed all None ≡ peek (sign_of sign) ms → begins (sign_of sign) ms ≡ false
no_sign_here all sign ms h = ap is_some (sym h)

pub behind_sign : {A : Type 0} (all : List Mark) (sign : Sign) (one : Reader A) (ms : List Mark) (next : ℕ) → passed all (Some next) ≡ peek (sign_of sign) ms → behind (sign_of sign) one ms ≡ one (drop next all)
behind_sign all sign one ms next h = rw (← h) refl

-- ---- the ways of a group

module _ (one : Reader Type1) (close : Sign) where
  abbrev pub entries : Reader (List Entry)
  entries = each (goes_on close) (entry_in_way one)

  -- what is read behind a way
  abbrev pub behind_way : ℕ → Reader (List WayTree)
  behind_way n = on (sign_of signs.DoubleSlash) (λ _. ways_at one close n) (λ ms. token (sign_of close) ms >>= λ e. taken [] e.rest)

  first_way_at : (n at : ℕ) (es : List Entry) (ms : List Mark) (o : Option (Taken (Unit {0}))) →
      choose o (λ _ rest. ways_at one close n rest >>= λ ws. taken (way_of at es ∷ ws.value) ws.rest) (λ rest. token (sign_of close) rest >>= λ e. taken (way_of at es ∷ []) e.rest) ms
      ≡ with_front (way_of at es ∷ []) (choose o (λ _. ways_at one close n) (λ ms. token (sign_of close) ms >>= λ e. taken [] e.rest) ms)
  first_way_at n at es ms None = closing (token (sign_of close) ms)
    where
      closing : (r : Result (Taken (Unit {0})) Halted) → (r >>= λ e. taken (way_of at es ∷ []) e.rest) ≡ with_front (way_of at es ∷ []) (r >>= λ e. taken [] e.rest)
      closing (Ok e) = refl
      closing (Err z) = refl
  first_way_at n at es ms (Some t) = more (ways_at one close n t.rest)
    where
      more : (r : Result (Taken (List WayTree)) Halted) → (r >>= λ ws. taken (way_of at es ∷ ws.value) ws.rest) ≡ with_front (way_of at es ∷ []) r
      more (Ok ws) = refl
      more (Err z) = refl

  pub first_way : (n : ℕ) (es : List Entry) (ms rest : List Mark) → entries ms ≡ taken es rest → ways_at one close (suc n) ms ≡ with_front (way_of (place ms) es ∷ []) (behind_way n rest)
  unfolding ways_at
  first_way n es ms rest h = rw h (first_way_at n (place ms) es rest (peek (sign_of signs.DoubleSlash) rest))

  pub first_fails : (all : List Mark) (e : Halt) (n : ℕ) (ms : List Mark) → Fails all e (entries ms) → Fails all e (ways_at one close (suc n) ms)
  unfolding ways_at
  first_fails all halts.OutOfMemory n ms h = tt
  first_fails all (halts.Unexpected at) n ms h = rw h refl

  front_twice : {A : Type 0} (front more : List A) (r : Result (Taken (List A)) Halted) → with_front front (with_front more r) ≡ with_front (front ++ more) r
  front_twice front more (Ok x) = ap (λ (xs : List _). taken xs x.rest) (sym (append_assoc front more x.value))
  front_twice front more (Err z) = refl

  to_next : (all : List Mark) (n next : ℕ) (ms : List Mark) → passed all (Some next) ≡ peek (sign_of signs.DoubleSlash) ms → behind_way n ms ≡ ways_at one close n (drop next all)
  to_next all n next ms h = rw (← h) refl

  pub way_goes : (all : List Mark) (n m next : ℕ) (front : List WayTree) (es : List Entry) (ms rest : List Mark) (total : Result (Taken (List WayTree)) Halted) → n ≡ suc m → passed all (Some next) ≡ peek (sign_of signs.DoubleSlash) ms → entries (drop next all) ≡ taken es rest
      → with_front front (behind_way n ms) ≡ total → with_front (front ++ way_of (place (drop next all)) es ∷ []) (behind_way m rest) ≡ total
  way_goes all n m next front es ms rest total e h first so_far =
      sym (front_twice front (way_of (place (drop next all)) es ∷ []) (behind_way m rest))
      ∙ ap (with_front front) (sym (to_next all n next ms h ∙ ap (λ (k : ℕ). ways_at one close k (drop next all)) e ∙ first_way m es (drop next all) rest first))
      ∙ so_far

  pub way_ends : (all : List Mark) (e : Halt) (n m next : ℕ) (front : List WayTree) (ms : List Mark) (total : Result (Taken (List WayTree)) Halted) → n ≡ suc m → passed all (Some next) ≡ peek (sign_of signs.DoubleSlash) ms → Fails all e (entries (drop next all))
      → with_front front (behind_way n ms) ≡ total → Fails all e total
  way_ends all halts.OutOfMemory n m next front ms total i h fails so_far = tt
  way_ends all (halts.Unexpected at) n m next front ms total i h fails so_far =
      sym so_far ∙ ap (with_front front) (to_next all n next ms h ∙ ap (λ (k : ℕ). ways_at one close k (drop next all)) i ∙ first_fails all (halts.Unexpected at) m (drop next all) fails)

  to_close : (all : List Mark) (n : ℕ) (ms : List Mark) → passed all None ≡ peek (sign_of signs.DoubleSlash) ms → behind_way n ms ≡ (token (sign_of close) ms >>= λ e. taken [] e.rest)
  to_close all n ms h = rw (← h) refl

  pub ways_done : (all : List Mark) (n : ℕ) (front : List WayTree) (ms rest : List Mark) (total : Result (Taken (List WayTree)) Halted) → passed all None ≡ peek (sign_of signs.DoubleSlash) ms → token (sign_of close) ms ≡ taken tt rest
      → with_front front (behind_way n ms) ≡ total → total ≡ taken front rest
  ways_done all n front ms rest total h closes so_far =
      sym so_far ∙ ap (with_front front) (to_close all n ms h ∙ ap (λ (r : Result (Taken (Unit {0})) Halted). r >>= λ e. taken [] e.rest) closes) ∙ ap (λ (ws : List WayTree). taken ws rest) (append-nil front)

  pub ways_stuck : (all : List Mark) (e : Halt) (n : ℕ) (front : List WayTree) (ms : List Mark) (total : Result (Taken (List WayTree)) Halted) → passed all None ≡ peek (sign_of signs.DoubleSlash) ms → Fails all e (token (sign_of close) ms)
      → with_front front (behind_way n ms) ≡ total → Fails all e total
  ways_stuck all halts.OutOfMemory n front ms total h fails so_far = tt
  ways_stuck all (halts.Unexpected at) n front ms total h fails so_far =
      sym so_far ∙ ap (with_front front) (to_close all n ms h ∙ ap (λ (r : Result (Taken (Unit {0})) Halted). r >>= λ e. taken [] e.rest) fails)
