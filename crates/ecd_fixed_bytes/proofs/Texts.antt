-- What the functions that check UTF-8 answer, and that they are valid behind any items.
use Rattle.std.proofs.Common.{◌≡◌, ℕ, suc, ◌+◌, ◌*◌, ◌<◌, List, [], ◌∷◌, ◌++◌, length, refl, ap, sym, subst, ◌∙◌, arith, Bool, true, false, drop, get_or, add-one, rules}
use Rattle.std.specs.Prelude.{codes, nat_eq, nat_lt, ◌&&◌}
use Rattle.std.specs.Str.{is_utf8}
use Rattle.std.proofs.lemmas.List.{drop_all}
use denote.Hole.Carrier.{hidden}
use Rattle.ecd_cast.specs.declared.tree.Expr.TheBlock as exprs
use Rattle.ecd_cast.specs.declared.tree.Stmt.TheBlock as stmts
use Rattle.ecd_cast.specs.declared.tree.CItem.{CItem}
use Rattle.ecd_cast.specs.declared.tree.CItem.TheVariants.{Function as AFunction}
use Rattle.ecd_cast.specs.declared.value.Value.TheVariants.{Number as Num, Truth, Bytes as Ptr}
use Rattle.ecd_cast.specs.Memory.{Memory}
use Rattle.ecd_cast.specs.Expressions.{Scopes, Gives, both}
use Rattle.ecd_cast.specs.Meaning.{Calls, called, calls_of, leave}
use Rattle.ecd_cast.specs.Validity.{IsValidAfter}
use Rattle.ecd_cast.specs.Spelling.{IsSpelledItem}
use Rattle.ecd_calculus.specs.Ends.{Answers}
use Rattle.ecd_calculus.specs.Rules.{Goes, Works}
use Rattle.ecd_calculus.proofs.Rules.{return_rule, let_rule, call_rule, if_rule, guard_rule, for_rule, let_goes, assign_call_goes, guard_goes, nil_goes, called_rule, works_within}
use Rattle.ecd_emit.specs.Variables as v
use Rattle.ecd_emit.specs.Windows.{Window}
use Rattle.ecd_fixed_bytes.specs.Utf8.{begun, gone_on, next_state, state_behind, one_where, utf8_begin, utf8_next, utf8_valid, valid_turn, valid_end, utf8_names, utf8_functions, BeginsUtf8, GoesOnUtf8, ChecksUtf8}
use Rattle.ecd_emit.specs.Among.{AreNew, IsAmong}
use Rattle.ecd_fixed_bytes.specs.Standing.{Utf8IsThere, Utf8Means}
use Rattle.ecd_emit.proofs.Windows.{long, one_byte, from_at}
use Rattle.ecd_emit.specs.Among.{IsFree}
use Rattle.ecd_emit.proofs.Placed.{placed_last, kept, free_behind, among}
use Rattle.ecd_fixed_bytes.proofs.States.{text_is}

-- ---- one byte on

both_is : (t u : Bool) → both (Truth t) (λ _. Gives (Truth u)) ≡ Gives (Truth (t && u))
both_is true true = refl
both_is true false = refl
both_is false u = refl

pub begin_answers : (calls : Calls) (k b : ℕ) (m : Memory) → Answers (called calls k utf8_begin (Num b ∷ []) m) (λ n. n ≡ begun b) 19
unfolding utf8_begin begun exprs.shape-the_row-Expr-0 exprs.hidden-the_row-Expr-0 hidden
begin_answers calls k b m = called_rule calls m k utf8_begin (Num b ∷ []) (λ n. n ≡ begun b) 19 (
    guard_rule (nat_lt b 128) 0 (record { tells = refl }) (record { is = refl }) (λ h. rw h refl) (λ h1.
    guard_rule (nat_lt b 194) 8 (record { tells = refl }) (record { is = refl }) (λ h. rw (h1, h) refl) (λ h2.
    guard_rule (nat_lt b 224) 1 (record { tells = refl }) (record { is = refl }) (λ h. rw (h1, h2, h) refl) (λ h3.
    guard_rule (nat_eq b 224) 4 (record { tells = refl }) (record { is = refl }) (λ h. rw (h1, h2, h3, h) refl) (λ h4.
    guard_rule (nat_eq b 237) 5 (record { tells = refl }) (record { is = refl }) (λ h. rw (h1, h2, h3, h4, h) refl) (λ h5.
    guard_rule (nat_lt b 240) 2 (record { tells = refl }) (record { is = refl }) (λ h. rw (h1, h2, h3, h4, h5, h) refl) (λ h6.
    guard_rule (nat_eq b 240) 6 (record { tells = refl }) (record { is = refl }) (λ h. rw (h1, h2, h3, h4, h5, h6, h) refl) (λ h7.
    guard_rule (nat_lt b 244) 3 (record { tells = refl }) (record { is = refl }) (λ h. rw (h1, h2, h3, h4, h5, h6, h7, h) refl) (λ h8.
    guard_rule (nat_eq b 244) 7 (record { tells = refl }) (record { is = refl }) (λ h. rw (h1, h2, h3, h4, h5, h6, h7, h8, h) refl) (λ h9.
    return_rule {n = 8} (record { is = refl }) (rw (h1, h2, h3, h4, h5, h6, h7, h8, h9) refl)))))))))))

pub next_answers : (calls : Calls) (k s b : ℕ) (m : Memory) → BeginsUtf8 (calls (codes "utf8_begin")) → Answers (called calls k utf8_next (Num s ∷ Num b ∷ []) m) (λ n. n ≡ next_state s b) 22
unfolding utf8_next next_state gone_on exprs.shape-the_row-Expr-0 exprs.hidden-the_row-Expr-0 hidden
next_answers calls k s b m begins = called_rule calls m k utf8_next (Num s ∷ Num b ∷ []) (λ n. n ≡ next_state s b) 22 (
    if_rule {k = 21} (nat_eq s 0) (record { tells = refl })
    (λ h. call_rule {c = 19} {k = 1} (Num b ∷ []) (λ n. n ≡ begun b) (record { hands = λ p f. refl }) (begins.answers b m) (λ x ex. return_rule {n = x} (record { is = refl }) (rw h ex))) (λ h0.
    guard_rule {k = 19} (nat_lt b 128) 8 (record { tells = refl }) (record { is = refl }) (λ h. rw (h0, h) refl) (λ h1.
    guard_rule {k = 17} (nat_lt 191 b) 8 (record { tells = refl }) (record { is = refl }) (λ h. rw (h0, h1, h) refl) (λ h2.
    guard_rule {k = 15} (nat_eq s 4 && nat_lt b 160) 8 (record { tells = both_is (nat_eq s 4) (nat_lt b 160) }) (record { is = refl }) (λ h. rw (h0, h1, h2, h) refl) (λ h3.
    guard_rule {k = 13} (nat_eq s 5 && nat_lt 159 b) 8 (record { tells = both_is (nat_eq s 5) (nat_lt 159 b) }) (record { is = refl }) (λ h. rw (h0, h1, h2, h3, h) refl) (λ h4.
    guard_rule {k = 11} (nat_eq s 6 && nat_lt b 144) 8 (record { tells = both_is (nat_eq s 6) (nat_lt b 144) }) (record { is = refl }) (λ h. rw (h0, h1, h2, h3, h4, h) refl) (λ h5.
    guard_rule {k = 9} (nat_eq s 7 && nat_lt 143 b) 8 (record { tells = both_is (nat_eq s 7) (nat_lt 143 b) }) (record { is = refl }) (λ h. rw (h0, h1, h2, h3, h4, h5, h) refl) (λ h6.
    guard_rule {k = 7} (nat_eq s 1) 0 (record { tells = refl }) (record { is = refl }) (λ h. rw (h0, h1, h2, h3, h4, h5, h6, h) refl) (λ h7.
    guard_rule {k = 5} (nat_eq s 2) 1 (record { tells = refl }) (record { is = refl }) (λ h. rw (h0, h1, h2, h3, h4, h5, h6, h7, h) refl) (λ h8.
    guard_rule {k = 3} (nat_eq s 3) 2 (record { tells = refl }) (record { is = refl }) (λ h. rw (h0, h1, h2, h3, h4, h5, h6, h7, h8, h) refl) (λ h9.
    guard_rule {k = 1} (nat_lt s 6) 1 (record { tells = refl }) (record { is = refl }) (λ h. rw (h0, h1, h2, h3, h4, h5, h6, h7, h8, h9, h) refl) (λ h10.
    return_rule {n = 2} (record { is = refl }) (rw (h0, h1, h2, h3, h4, h5, h6, h7, h8, h9, h10) refl)))))))))))))

-- ---- all bytes

module _ (calls : Calls) (k block offset len : ℕ) (m : Memory) (bytes : List ℕ) (w : Window m block offset len bytes) (nexts : GoesOnUtf8 (calls (codes "utf8_next"))) where
  abbrev scopes : ℕ → Scopes
  scopes s = ((v.state, Num s) ∷ (v.text, Ptr block offset) ∷ (v.len, Num len) ∷ []) ∷ []

  abbrev Answer : ℕ → Type 0
  Answer n = n ≡ one_where (nat_eq (state_behind 0 bytes) 0)

  -- before the turn i the state is the one behind the bytes before i
  abbrev Before : ℕ → Scopes → Type 0
  Before i env = (s : ℕ) × (env ≡ scopes s) × (state_behind s (drop i bytes) ≡ state_behind 0 bytes)

  there_at : (i : ℕ) → i < len → drop i bytes ≡ get_or bytes i 0 ∷ drop (i + 1) bytes
  there_at i lt = rw add-one (from_at w i lt)

  turn : (i s : ℕ) → i < len → state_behind s (drop i bytes) ≡ state_behind 0 bytes → Goes calls m valid_turn (((v.at, Num i) ∷ []) ∷ scopes s) Answer (λ env. Before (i + 1) (leave env)) 26
  unfolding exprs.shape-the_row-Expr-0 exprs.hidden-the_row-Expr-0 hidden
  turn i s lt e =
      let x = get_or bytes i 0 in
      let is_there = there_at i lt in
      let_goes {n = x} {k = 25} (record { is = rw (w.there, one_byte w i lt) refl }) (
      assign_call_goes {c = 22} {k = 2} (Num s ∷ Num x ∷ []) (λ n. n ≡ next_state s x) (record { hands = λ p f. refl }) (nexts.answers s x m) (λ n en.
      guard_goes {k = 0} (nat_eq n 8) 0 (record { tells = refl }) (record { is = refl })
      (λ h.
      let bad : nat_eq (next_state s x) 8 ≡ true = ap (λ (y : ℕ). nat_eq y 8) (sym en) ∙ h in
      let over : state_behind s (drop i bytes) ≡ 8 = rw (is_there, bad) refl in
      ap (λ (y : ℕ). one_where (nat_eq y 0)) (sym over ∙ e)) (λ h.
      let good : nat_eq (next_state s x) 8 ≡ false = ap (λ (y : ℕ). nat_eq y 8) (sym en) ∙ h in
      let on : state_behind s (drop i bytes) ≡ state_behind (next_state s x) (drop (i + 1) bytes) = rw (is_there, good) refl in
      let same : state_behind n (drop (i + 1) bytes) ≡ state_behind 0 bytes = ap (λ (y : ℕ). state_behind y (drop (i + 1) bytes)) en ∙ (sym on ∙ e) in
      nil_goes (n, refl, same))))

  behind : (s : ℕ) → state_behind s (drop len bytes) ≡ state_behind 0 bytes → Works calls m valid_end (scopes s) Answer 3
  unfolding exprs.shape-the_row-Expr-0 exprs.hidden-the_row-Expr-0 hidden
  behind s e =
      let none : drop len bytes ≡ [] = drop_all len bytes (omega (arith, long w)) in
      let last : s ≡ state_behind 0 bytes = (rw none refl) ∙ e in
      guard_rule {k = 1} (nat_eq s 0) 1 (record { tells = refl }) (record { is = refl })
      (λ h. let z : nat_eq (state_behind 0 bytes) 0 ≡ true = ap (λ (y : ℕ). nat_eq y 0) (sym last) ∙ h in rw z refl)
      (λ h. return_rule {n = 0} (record { is = refl }) (let z : nat_eq (state_behind 0 bytes) 0 ≡ false = ap (λ (y : ℕ). nat_eq y 0) (sym last) ∙ h in rw z refl))

  states_answer : Answers (called calls k utf8_valid (Ptr block offset ∷ Num len ∷ []) m) Answer (27 * (len + 1))
  unfolding utf8_valid exprs.shape-the_row-Expr-0 exprs.hidden-the_row-Expr-0 hidden
  states_answer = called_rule calls m k utf8_valid (Ptr block offset ∷ Num len ∷ []) Answer (27 * (len + 1)) (
      works_within (suc (suc (len * 27 + 3))) (27 * (len + 1)) (omega arith) (
      let_rule {n = 0} {k = suc (len * 27 + 3)} (record { is = refl }) (
      for_rule len 26 3 Before refl (0, refl, refl)
      (λ i env lt h. subst (λ (s : Scopes). Goes calls m valid_turn (((v.at, Num i) ∷ []) ∷ s) Answer (λ e. Before (i + 1) (leave e)) 26) (sym h.1) (turn i h.0 lt h.2))
      (λ env h. subst (λ (s : Scopes). Works calls m valid_end s Answer 3) (sym h.1) (behind h.0 h.2)))))

  pub valid_answers : Answers (called calls k utf8_valid (Ptr block offset ∷ Num len ∷ []) m) (λ n. n ≡ one_where (is_utf8 bytes)) (27 * (len + 1))
  valid_answers = let a = states_answer in record { answer = a.answer; does = a.does; has = a.has ∙ text_is bytes }

-- ---- behind any items

abbrev pub first_1 : List CItem
first_1 = AFunction utf8_begin ∷ []

abbrev pub first_2 : List CItem
first_2 = AFunction utf8_begin ∷ AFunction utf8_next ∷ []

begin_item : (before : List CItem) → IsFree (codes "utf8_begin") before → IsValidAfter before (AFunction utf8_begin)
unfolding utf8_begin exprs.shape-the_row-Expr-0 exprs.hidden-the_row-Expr-0 hidden stmts.shape-the_row-Stmt-0 stmts.hidden-the_row-Stmt-0
begin_item before free = record { sound = rw free refl }

next_item : (before : List CItem) → IsFree (codes "utf8_next") before → IsAmong utf8_begin before → IsValidAfter before (AFunction utf8_next)
unfolding utf8_begin utf8_next exprs.shape-the_row-Expr-0 exprs.hidden-the_row-Expr-0 hidden stmts.shape-the_row-Stmt-0 stmts.hidden-the_row-Stmt-0
next_item before free part = record { sound = rw (free, part) refl }

valid_item : (before : List CItem) → IsFree (codes "utf8_valid") before → IsAmong utf8_next before → IsValidAfter before (AFunction utf8_valid)
unfolding utf8_next utf8_valid exprs.shape-the_row-Expr-0 exprs.hidden-the_row-Expr-0 hidden stmts.shape-the_row-Stmt-0 stmts.hidden-the_row-Stmt-0
valid_item before free part = record { sound = rw (free, part) refl }

pub begin_spelled : IsSpelledItem (AFunction utf8_begin)
unfolding utf8_begin exprs.shape-the_row-Expr-0 exprs.hidden-the_row-Expr-0 hidden stmts.shape-the_row-Stmt-0 stmts.hidden-the_row-Stmt-0
begin_spelled = search rules

pub next_spelled : IsSpelledItem (AFunction utf8_next)
unfolding utf8_next exprs.shape-the_row-Expr-0 exprs.hidden-the_row-Expr-0 hidden stmts.shape-the_row-Stmt-0 stmts.hidden-the_row-Stmt-0
next_spelled = search rules

pub valid_spelled : IsSpelledItem (AFunction utf8_valid)
unfolding utf8_valid exprs.shape-the_row-Expr-0 exprs.hidden-the_row-Expr-0 hidden stmts.shape-the_row-Stmt-0 stmts.hidden-the_row-Stmt-0
valid_spelled = search rules

module _ (old : List CItem) where
  begin_means : BeginsUtf8 (calls_of (old ++ first_1) (codes "utf8_begin"))
  unfolding utf8_begin
  begin_means = placed_last BeginsUtf8 old [] utf8_begin (record { answers = λ byte m. begin_answers (calls_of (old ++ [])) (0 + length (old ++ [])) byte m })

  next_means : GoesOnUtf8 (calls_of (old ++ first_2) (codes "utf8_next"))
  unfolding utf8_next
  next_means = placed_last GoesOnUtf8 old first_1 utf8_next (record { answers = λ s b m. next_answers (calls_of (old ++ first_1)) (0 + length (old ++ first_1)) s b m begin_means })

  valid_means : ChecksUtf8 (calls_of (old ++ utf8_functions) (codes "utf8_valid"))
  unfolding utf8_valid
  valid_means = placed_last ChecksUtf8 old first_2 utf8_valid (record { answers = λ block offset len m bytes w. valid_answers (calls_of (old ++ first_2)) (0 + length (old ++ first_2)) block offset len m bytes w next_means })

  pub utf8_means : Utf8Means (old ++ utf8_functions)
  unfolding utf8_next utf8_valid
  utf8_means = record {
    begins = kept BeginsUtf8 old first_1 (AFunction utf8_next ∷ AFunction utf8_valid ∷ []) (codes "utf8_begin") (refl, (refl, tt)) begin_means;
    goes_on = kept GoesOnUtf8 old first_2 (AFunction utf8_valid ∷ []) (codes "utf8_next") (refl, tt) next_means;
    valid = valid_means;
  }

module _ (old : List CItem) (new : AreNew utf8_names old) where
  pub begin_valid : IsValidAfter (old ++ []) (AFunction utf8_begin)
  begin_valid = begin_item (old ++ []) (free_behind old [] (codes "utf8_begin") new.0 tt)

  pub next_valid : IsValidAfter (old ++ first_1) (AFunction utf8_next)
  unfolding utf8_begin
  next_valid = next_item (old ++ first_1) (free_behind old first_1 (codes "utf8_next") new.1.0 (refl, tt)) (among old first_1 utf8_begin (codes "utf8_begin") refl new.0 refl)

  pub valid_valid : IsValidAfter (old ++ first_2) (AFunction utf8_valid)
  unfolding utf8_begin utf8_next
  valid_valid = valid_item (old ++ first_2) (free_behind old first_2 (codes "utf8_valid") new.1.1.0 (refl, (refl, tt))) (among old first_2 utf8_next (codes "utf8_next") refl new.1.0 refl)

  pub utf8_there : Utf8IsThere (old ++ utf8_functions)
  unfolding utf8_begin utf8_next utf8_valid
  utf8_there = record {
    begins = among old utf8_functions utf8_begin (codes "utf8_begin") refl new.0 refl;
    goes_on = among old utf8_functions utf8_next (codes "utf8_next") refl new.1.0 refl;
    valid = among old utf8_functions utf8_valid (codes "utf8_valid") refl new.1.1.0 refl;
  }
