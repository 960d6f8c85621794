-- What the functions that find the end of an item answer.
use Rattle.std.proofs.Common.{◌≡◌, ℕ, suc, ◌+◌, ◌-◌, ◌*◌, ◌/◌, ◌%◌, ◌<◌, ◌≤◌, List, [], ◌∷◌, refl, ap, sym, subst, ◌∙◌, arith, true, false, drop, get_or, length-drop}
use Rattle.std.specs.Prelude.{codes, nat_eq, nat_lt, Result, Ok, Err}
use Rattle.std.proofs.lemmas.Bool.{eqb-true, eqb-false, ltb-true, ltb-false}
use Rattle.std.proofs.lemmas.Bool.Decides.{nat_tests}
use denote.Hole.Carrier.{hidden}
use Rattle.ecd_cast.specs.declared.tree.Expr.TheBlock as exprs
use Rattle.ecd_cast.specs.declared.tree.Expr.TheVariants.{Number}
use Rattle.ecd_cast.specs.declared.tree.Stmt.TheVariants.{Return}
use Rattle.ecd_cast.specs.declared.value.Value.TheVariants.{Number as Num, Bytes as Ptr}
use Rattle.ecd_cast.specs.Memory.{Memory}
use Rattle.ecd_cast.specs.Expressions.{Scopes, modulus}
use Rattle.ecd_cast.specs.Meaning.{Calls, called, leave}
use Rattle.ecd_calculus.specs.Ends.{Answers}
use Rattle.ecd_calculus.specs.Rules.{Goes, Works}
use Rattle.ecd_calculus.proofs.Rules.{return_rule, let_rule, call_rule, guard_rule, called_rule, call_goes, guard_goes, assign_goes, nil_goes}
use Rattle.ecd_head.specs.declared.HeadFault.{HeadFault}
use Rattle.ecd_head.specs.declared.Head.{Head}
use Rattle.ecd_head.specs.Fault.{head_at}
use Rattle.ecd_emit.specs.Variables as v
use Rattle.ecd_emit.specs.Windows.{Window, IsEnd, placed, asked}
use Rattle.ecd_fixed_heads.specs.Meanings.{HeadArgument, HeadEnd, end_of}
use Rattle.ecd_fixed_heads.specs.Framed.{ItemStands}
use Rattle.ecd_fixed_heads.specs.Extents.{own_end, items_inside, item_end, item_turn, inside, own_end_of, OwnEnd, ItemsInside, AnswersWithin, looked_at}
use Rattle.ecd_emit.proofs.Windows.{small, long, one_byte}
use Rattle.ecd_fixed_heads.proofs.Arguments.{read_there}
use Rattle.ecd_fixed_heads.proofs.Ends.{is_ok}
use Rattle.ecd_fixed_heads.proofs.Owing.{Owes, owed_long, string_fits}
use Rattle.ecd_fixed_heads.proofs.Within.{answers_most, called_within, let_within, for_within}
use Rattle.ecd_fixed_heads.proofs.Meeting.{met, inside_few, forth, back, none, met_within, no_end, one_end}

-- a difference that is not negative
taken : (a b : ℕ) → b ≤ a → a < modulus → (a + modulus - b) % modulus ≡ a - b
taken a b le lt = omega arith

-- ---- which of its causes an answer of own_end has

no_own : (len at : ℕ) (r : Result (Head × ℕ) HeadFault) → ((h : Head) (n : ℕ) → r ≡ Ok (h, n) → 0 < n) → end_of at r ≡ 0 → 0 ≡ own_end_of len at r
no_own len at (Err fault) some e = refl
no_own len at (Ok x) some e = absurd (let pos = some x.0 x.1 refl in omega arith)

module _ (len at size n M : ℕ) (head : Head) (is_major : M ≡ head.major) (is_end : n ≡ at + size) (room : n ≤ len) where
  own_below : nat_lt M 2 ≡ true → n ≡ own_end_of len at (Ok (head, size))
  own_below h = grind (arith, nat_tests, h)

  own_above : nat_lt M 2 ≡ false → nat_lt 5 M ≡ true → n ≡ own_end_of len at (Ok (head, size))
  own_above h1 h = grind (arith, nat_tests, h1, h)

  own_short : (a : ℕ) → a ≡ head.arg → nat_lt M 2 ≡ false → nat_lt 5 M ≡ false → nat_lt (len - n) a ≡ true → 0 ≡ own_end_of len at (Ok (head, size))
  own_short a ea h1 h2 h = grind (arith, nat_tests, h1, h2, h)

  own_items : (a : ℕ) → a ≡ head.arg → nat_lt M 2 ≡ false → nat_lt 5 M ≡ false → nat_lt (len - n) a ≡ false → nat_lt 3 M ≡ true → n ≡ own_end_of len at (Ok (head, size))
  own_items a ea h1 h2 h3 h = grind (arith, nat_tests, h1, h2, h3, h)

  own_string : (a : ℕ) → a ≡ head.arg → nat_lt M 2 ≡ false → nat_lt 5 M ≡ false → nat_lt (len - n) a ≡ false → nat_lt 3 M ≡ false → n + a ≡ own_end_of len at (Ok (head, size))
  own_string a ea h1 h2 h3 h4 = grind (arith, nat_tests, h1, h2, h3, h4)

-- ---- which case the number of items inside is

module _ (M a : ℕ) (head : Head) (is_major : M ≡ head.major) where
  inside_low : nat_lt M 4 ≡ true → 0 ≡ inside head
  inside_low h = grind (arith, nat_tests, h)

  inside_high : nat_lt 6 M ≡ true → 0 ≡ inside head
  inside_high h = grind (arith, nat_tests, h)

  inside_tag : nat_eq M 6 ≡ true → 1 ≡ inside head
  inside_tag h = grind (arith, nat_tests, h)

  inside_array : a ≡ head.arg → nat_eq M 4 ≡ true → a ≡ inside head
  inside_array ea h = grind (arith, nat_tests, h)

  inside_map : a ≡ head.arg → nat_lt M 4 ≡ false → nat_lt 6 M ≡ false → nat_eq M 6 ≡ false → nat_eq M 4 ≡ false → a + a ≡ inside head
  inside_map ea h1 h2 h3 h4 = grind (arith, nat_tests, h1, h2, h3, h4)

-- ---- the bodies without a loop

module _ (calls : Calls) (k block offset len at : ℕ) (m : Memory) (bytes : List ℕ) (w : Window m block offset len bytes) where
  sized : (h : Head) (n : ℕ) → head_at (drop at bytes) ≡ Ok (h, n) → 0 < n
  sized h n e = let o = read_there block offset len at m bytes w h n e in omega (arith, o.0, o.3)

  pub own_answers : HeadEnd (calls (codes "head_end")) → HeadArgument (calls (codes "head_argument")) → at ≤ len → Answers (called calls k own_end (asked block offset len at) m) (λ n. n ≡ own_end_of len at (head_at (drop at bytes))) 97
  unfolding own_end exprs.shape-the_row-Expr-0 exprs.hidden-the_row-Expr-0 hidden
  own_answers ends arguments le =
      let b = get_or bytes at 0 in
      called_rule calls m k own_end (asked block offset len at) (λ n. n ≡ own_end_of len at (head_at (drop at bytes))) 97 (
      call_rule {c = 61} {k = 35} (Ptr block offset ∷ Num len ∷ Num at ∷ []) (λ n. n ≡ end_of at (head_at (drop at bytes))) (record { hands = λ p f. refl }) (ends.answers block offset len at m bytes w le) (λ n en.
      guard_rule {k = 33} (nat_eq n 0) 0 (record { tells = refl }) (record { is = refl }) (λ h. no_own len at (head_at (drop at bytes)) sized (sym en ∙ eqb-true n 0 h)) (λ h1.
      let got = is_ok at (head_at (drop at bytes)) (λ z. eqb-false n 0 h1 (en ∙ z)) in
      let head = got.0 in
      let size = got.1 in
      let o = read_there block offset len at m bytes w head size got.2 in
      let is_n : n ≡ at + size = en ∙ ap (end_of at) got.2 in
      let is_major : b / 32 ≡ head.major = sym (ap (λ (x : Head). x.major) o.2) in
      let here : at < len = omega (arith, o.0, o.1) in
      let room : n ≤ len = omega (arith, is_n, o.1, o.3) in
      let_rule {n = b / 32} {k = 32} (record { is = rw (w.there, one_byte w at here) refl }) (
      guard_rule {k = 30} (nat_lt (b / 32) 2) n (record { tells = refl }) (record { is = refl }) (λ h. rw got.2 (own_below len at size n (b / 32) head is_major is_n room h)) (λ h2.
      guard_rule {k = 28} (nat_lt 5 (b / 32)) n (record { tells = refl }) (record { is = refl }) (λ h. rw got.2 (own_above len at size n (b / 32) head is_major is_n room h2 h)) (λ h3.
      call_rule {c = 22} {k = 5} (Ptr block offset ∷ Num at ∷ []) (λ a. a ≡ head.arg) (record { hands = λ p f. refl }) (arguments.answers block offset len at size m bytes head w got.2) (λ a ea.
      let less : (len + modulus - n) % modulus ≡ len - n = taken len n room (omega (arith, w.short)) in
      guard_rule {k = 3} (nat_lt (len - n) a) 0 (record { tells = rw less refl }) (record { is = refl }) (λ h. rw got.2 (own_short len at size n (b / 32) head is_major is_n room a ea h2 h3 h)) (λ h4.
      guard_rule {k = 1} (nat_lt 3 (b / 32)) n (record { tells = refl }) (record { is = refl }) (λ h. rw got.2 (own_items len at size n (b / 32) head is_major is_n room a ea h2 h3 h4 h)) (λ h5.
      let fits : n + a ≤ len = omega (arith, room, ltb-false (len - n) a h4) in
      let sum : (n + a) % modulus ≡ n + a = small (n + a) (omega (arith, fits, w.short)) in
      return_rule {n = n + a} (record { is = rw sum refl }) (rw got.2 (own_string len at size n (b / 32) head is_major is_n room a ea h2 h3 h4 h5)))))))))))

  pub inside_answers : (size : ℕ) (head : Head) → HeadArgument (calls (codes "head_argument")) → head_at (drop at bytes) ≡ Ok (head, size) → inside head < modulus → Answers (called calls k items_inside (placed block offset at) m) (λ n. n ≡ inside head) 33
  unfolding items_inside exprs.shape-the_row-Expr-0 exprs.hidden-the_row-Expr-0 hidden
  inside_answers size head arguments read lt =
      let b = get_or bytes at 0 in
      let o = read_there block offset len at m bytes w head size read in
      let is_major : b / 32 ≡ head.major = sym (ap (λ (x : Head). x.major) o.2) in
      let here : at < len = omega (arith, o.0, o.1) in
      called_rule calls m k items_inside (placed block offset at) (λ n. n ≡ inside head) 33 (
      let_rule {n = b / 32} {k = 32} (record { is = rw (w.there, one_byte w at here) refl }) (
      guard_rule {k = 30} (nat_lt (b / 32) 4) 0 (record { tells = refl }) (record { is = refl }) (inside_low (b / 32) 0 head is_major) (λ h1.
      guard_rule {k = 28} (nat_lt 6 (b / 32)) 0 (record { tells = refl }) (record { is = refl }) (inside_high (b / 32) 0 head is_major) (λ h2.
      guard_rule {k = 26} (nat_eq (b / 32) 6) 1 (record { tells = refl }) (record { is = refl }) (inside_tag (b / 32) 0 head is_major) (λ h3.
      call_rule {c = 22} {k = 3} (Ptr block offset ∷ Num at ∷ []) (λ a. a ≡ head.arg) (record { hands = λ p f. refl }) (arguments.answers block offset len at size m bytes head w read) (λ a ea.
      guard_rule {k = 1} (nat_eq (b / 32) 4) a (record { tells = refl }) (record { is = refl }) (inside_array (b / 32) a head is_major ea) (λ h4.
      let both = inside_map (b / 32) a head is_major ea h1 h2 h3 h4 in
      let sum : (a + a) % modulus ≡ a + a = small (a + a) (omega (arith, both, lt)) in
      return_rule {n = a + a} (record { is = rw sum refl }) both)))))))

-- ---- the loop

abbrev scopes_at : (block offset len at here owed : ℕ) → Scopes
scopes_at block offset len at here owed = ((v.owed, Num owed) ∷ (v.end, Num here) ∷ (v.buf, Ptr block offset) ∷ (v.len, Num len) ∷ (v.at, Num at) ∷ []) ∷ []

-- before the turn i so many items are owed from a place on, and what is behind them is what is behind the one item
record Before (block offset len at : ℕ) (bytes : List ℕ) (i : ℕ) (env : Scopes) : Type 0 where
  pub here : ℕ
  pub owed : ℕ
  pub left : ℕ
  pub is : env ≡ scopes_at block offset len at here owed
  pub one_more : owed ≡ suc left
  pub ahead : at + i ≤ here
  pub within : here ≤ len
  pub few : owed ≤ len + 1
  pub down : (rest : List ℕ) → Owes (drop at bytes) 1 rest → Owes (drop here bytes) owed rest
  pub up : (rest : List ℕ) → Owes (drop here bytes) owed rest → Owes (drop at bytes) 1 rest

module _ (calls : Calls) (k block offset len at : ℕ) (m : Memory) (bytes : List ℕ) (w : Window m block offset len bytes) (le : at ≤ len) where
  abbrev scopes : (here owed : ℕ) → Scopes
  scopes here owed = scopes_at block offset len at here owed

  -- what the turn i may answer
  abbrev InTurn : ℕ → ℕ → Type 0
  InTurn i a = IsEnd (ItemStands bytes at) a × (suc (suc i * 141) ≤ 142 + 144 * looked_at len at a)

  none_in : (i : ℕ) → at + i ≤ len → ((rest : List ℕ) → Owes (drop at bytes) 1 rest → ⊥) → InTurn i 0
  none_in i lt h = (no_end bytes len w.each (long w) at le h, omega arith)

  found_in : (i next : ℕ) → nat_eq next 0 ≡ false → at + i < next → next ≤ len → ((rest : List ℕ) → Owes (drop at bytes) 1 rest → Owes (drop next bytes) 0 rest) → ((rest : List ℕ) → Owes (drop next bytes) 0 rest → Owes (drop at bytes) 1 rest) → InTurn i next
  found_in i next h lt room down up = (one_end bytes len w.each (long w) at le next room down up, rw h (omega arith))

  turn : (i : ℕ) (env : Scopes) (b : Before block offset len at bytes i env) → i < len → OwnEnd (calls (codes "own_end")) → ItemsInside (calls (codes "items_inside")) →
      Goes calls m item_turn (((v.turn, Num i) ∷ []) ∷ scopes b.here b.owed) (InTurn i) (λ env'. Before block offset len at bytes (i + 1) (leave env')) 140
  unfolding exprs.shape-the_row-Expr-0 exprs.hidden-the_row-Expr-0 hidden
  turn i env b lt own parts =
      let here = b.here in
      let owed = b.owed in
      let left = b.left in
      let read = head_at (drop here bytes) in
      let is_long = long w in
      let short = w.short in
      call_goes {c = 97} {k = 42} (Ptr block offset ∷ Num len ∷ Num here ∷ []) (λ x. x ≡ own_end_of len here read) (record { hands = λ p f. refl }) (own.answers block offset len here m bytes w b.within) (λ x ex.
      guard_goes {k = 40} (nat_eq x 0) 0 (record { tells = refl }) (record { is = refl })
      (λ h. none_in i (omega (arith, b.ahead, b.within)) (λ rest o. none bytes len w.each is_long here left rest (sym (eqb-true x 0 h) ∙ ex) (subst (λ (n : ℕ). Owes (drop here bytes) n rest) b.one_more (b.down rest o)))) (λ h1.
      let t = met len here read x (eqb-false x 0 h1) ex in
      let room = met_within bytes len w.each is_long here x b.within t in
      let few : inside t.head ≤ len + len + 1 = omega (arith, inside_few t.head, room) in
      let past : here < x = omega (arith, t.is, sized calls k block offset len here m bytes w t.head t.size t.read) in
      let fits : x ≤ len = omega (arith, t.is, room, string_fits t.head) in
      call_goes {c = 33} {k = 6} (Ptr block offset ∷ Num here ∷ []) (λ y. y ≡ inside t.head) (record { hands = λ p f. refl }) (parts.answers block offset len here t.size m bytes t.head w t.read (omega (arith, few, short))) (λ y ey.
      let less : (owed + modulus - 1) % modulus ≡ left = omega (arith, b.one_more, b.few, short) in
      let sum : (left + y) % modulus ≡ left + y = small (left + y) (omega (arith, b.one_more, b.few, short, ey, few)) in
      let down : (rest : List ℕ) → Owes (drop at bytes) 1 rest → Owes (drop x bytes) (left + y) rest =
      λ rest o. subst (λ (n : ℕ). Owes (drop x bytes) (left + n) rest) (sym ey) (forth bytes len w.each is_long here x left rest t (subst (λ (n : ℕ). Owes (drop here bytes) n rest) b.one_more (b.down rest o))) in
      let up : (rest : List ℕ) → Owes (drop x bytes) (left + y) rest → Owes (drop at bytes) 1 rest =
      λ rest o. b.up rest (subst (λ (n : ℕ). Owes (drop here bytes) n rest) (sym b.one_more) (back bytes len w.each is_long here x left rest t (subst (λ (n : ℕ). Owes (drop x bytes) (left + n) rest) ey o))) in
      assign_goes {n = left + y} {k = 5} (record { is = rw (less, sum) refl }) (
      assign_goes {n = x} {k = 4} (record { is = refl }) (
      guard_goes {k = 2} (nat_eq (left + y) 0) x (record { tells = refl }) (record { is = refl })
      (λ h.
      let zero : left + y ≡ 0 = eqb-true (left + y) 0 h in
      found_in i x h1 (omega (arith, b.ahead, past)) fits (λ rest o. subst (λ (n : ℕ). Owes (drop x bytes) n rest) zero (down rest o)) (λ rest o. up rest (subst (λ (n : ℕ). Owes (drop x bytes) n rest) (sym zero) o))) (λ h2.
      let rest_fits : (len + modulus - x) % modulus ≡ len - x = taken len x fits (omega (arith, short)) in
      guard_goes {k = 0} (nat_lt (len - x) (left + y)) 0 (record { tells = rw rest_fits refl }) (record { is = refl })
      (λ h. none_in i (omega (arith, b.ahead, b.within)) (λ rest o. absurd (omega (arith, owed_long (drop x bytes) (left + y) rest (down rest o), length-drop x bytes, is_long, ltb-true (len - x) (left + y) h)))) (λ h3.
      nil_goes (record {
        here = x;
        owed = left + y;
        left = left + y - 1;
        is = refl;
        one_more = omega (arith, eqb-false (left + y) 0 h2);
        ahead = omega (arith, b.ahead, past);
        within = fits;
        few = omega (arith, ltb-false (len - x) (left + y) h3);
        down = down;
        up = up;
      }))))))))

  behind : (env : Scopes) → Before block offset len at bytes len env → Works calls m (Return (Number 0) ∷ []) env (λ a. IsEnd (ItemStands bytes at) a × (suc (len * 141 + 1) ≤ 142 + 144 * looked_at len at a)) 1
  behind env b =
      return_rule {n = 0} (record { is = refl })
      (no_end bytes len w.each (long w) at le (λ rest o. absurd (omega (arith, owed_long (drop b.here bytes) b.owed rest (b.down rest o), b.one_more, b.ahead, b.within, length-drop b.here bytes, long w))), omega (arith, b.ahead, b.within))

  pub item_answers : OwnEnd (calls (codes "own_end")) → ItemsInside (calls (codes "items_inside")) → AnswersWithin (called calls k item_end (asked block offset len at) m) (IsEnd (ItemStands bytes at)) (λ a. 144 * (looked_at len at a + 1))
  unfolding item_end exprs.shape-the_row-Expr-0 exprs.hidden-the_row-Expr-0 hidden
  item_answers own parts =
      answers_most (called calls k item_end (asked block offset len at) m) (IsEnd (ItemStands bytes at)) (λ a. suc (suc (142 + 144 * looked_at len at a))) (λ a. 144 * (looked_at len at a + 1)) (λ a. omega arith) (
      called_within calls m k item_end (asked block offset len at) (IsEnd (ItemStands bytes at)) (λ a. suc (suc (142 + 144 * looked_at len at a))) (
      let_within {n = at} {most = λ a. suc (142 + 144 * looked_at len at a)} (record { is = refl }) (
      let_within {n = 1} {most = λ a. 142 + 144 * looked_at len at a} (record { is = refl }) (
      for_within len 140 1 (Before block offset len at bytes) refl
      (record { here = at; owed = 1; left = 0; is = refl; one_more = refl; ahead = omega arith; within = le; few = omega arith; down = λ rest o. o; up = λ rest o. o })
      (λ i env lt b. subst (λ (s : Scopes). Goes calls m item_turn (((v.turn, Num i) ∷ []) ∷ s) (InTurn i) (λ e. Before block offset len at bytes (i + 1) (leave e)) 140) (sym b.is) (turn i env b lt own parts))
      behind))))
