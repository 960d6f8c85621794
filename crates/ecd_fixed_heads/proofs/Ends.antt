-- The place behind a head.
use Rattle.std.proofs.Common.{◌≡◌, ℕ, ◌+◌, ◌%◌, ◌/◌, ◌<◌, ◌≤◌, List, [], ◌∷◌, refl, ap, sym, ◌∙◌, arith, Bool, true, false, cond, drop, get_or}
use Rattle.std.specs.Prelude.{codes, nat_eq, nat_lt, nat_le, not, ◌≢◌, Result, Ok, Err}
use Rattle.std.proofs.lemmas.Bool.{eqb-true, eqb-false, ltb-true, ltb-false}
use Rattle.std.proofs.lemmas.Bool.Decides.{nat_tests}
use Rattle.std.proofs.lemmas.List.{drop_all}
use denote.Hole.Carrier.{hidden}
use Rattle.ecd_cast.specs.declared.tree.Expr.TheBlock as exprs
use Rattle.ecd_cast.specs.declared.value.Value.TheVariants.{Number as Num, Bytes as Ptr}
use Rattle.ecd_cast.specs.Memory.{Memory}
use Rattle.ecd_cast.specs.Expressions.{modulus}
use Rattle.ecd_cast.specs.Meaning.{Calls, called}
use Rattle.ecd_calculus.specs.Ends.{Answers}
use Rattle.ecd_calculus.proofs.Rules.{return_rule, let_rule, call_rule, guard_rule, called_rule}
use Rattle.ecd_head.specs.declared.HeadFault.{HeadFault}
use Rattle.ecd_head.specs.declared.Head.{Head}
use Rattle.ecd_head.specs.Fault.{head_at, argument_of}
use Rattle.ecd_emit.specs.Windows.{Window, asked}
use Rattle.ecd_fixed_heads.specs.Firsts.{size_from, least_from}
use Rattle.ecd_fixed_heads.specs.Meanings.{OfFirst, HeadArgument, HeadEnd, end_of, end_within}
use Rattle.ecd_fixed_heads.specs.Heads.{head_end, head_within}
use Rattle.ecd_emit.proofs.Windows.{small, long, one_byte}
use Rattle.ecd_fixed_heads.proofs.Arguments.{no_size, too_short, too_small, head_is, size_small, behind, left, read_there}

-- ---- which of its causes an answer of 0 has

in_both : (t : Bool) (n : ℕ) → n ≡ cond t n n
in_both true n = refl
in_both false n = refl

zero_within : (major lo hi at : ℕ) (r : Result (Head × ℕ) HeadFault) → end_of at r ≡ 0 → 0 ≡ end_within major lo hi at r
zero_within major lo hi at (Err fault) e = refl
zero_within major lo hi at (Ok x) e = rw e (in_both _ 0)

other_within : (major lo hi at size : ℕ) (head : Head) → nat_eq head.major major ≡ false → 0 ≡ end_within major lo hi at (Ok (head, size))
other_within major lo hi at size head h = rw h refl

low_within : (major lo hi at size : ℕ) (head : Head) → nat_lt head.arg lo ≡ true → 0 ≡ end_within major lo hi at (Ok (head, size))
low_within major lo hi at size head h = grind (arith, nat_tests, h)

high_within : (major lo hi at size : ℕ) (head : Head) → nat_lt hi head.arg ≡ true → 0 ≡ end_within major lo hi at (Ok (head, size))
high_within major lo hi at size head h = grind (arith, nat_tests, h)

good_within : (major lo hi at size : ℕ) (head : Head) → nat_eq head.major major ≡ true → nat_lt head.arg lo ≡ false → nat_lt hi head.arg ≡ false → at + size ≡ end_within major lo hi at (Ok (head, size))
good_within major lo hi at size head h1 h2 h3 = grind (arith, nat_tests, h1, h2, h3)

not-true : (t : Bool) → not t ≡ true → t ≡ false
not-true true e = absurd cc
not-true false e = refl

not-false : (t : Bool) → not t ≡ false → t ≡ true
not-false true e = refl
not-false false e = absurd cc

pub is_ok : (at : ℕ) (r : Result (Head × ℕ) HeadFault) → end_of at r ≢ 0 → (h : Head) × (n : ℕ) × (r ≡ Ok (h, n))
is_ok at (Err fault) ne = absurd (ne refl)
is_ok at (Ok x) ne = (x.0, x.1, refl)

-- ---- the bodies

module _ (calls : Calls) (k block offset len at : ℕ) (m : Memory) (bytes : List ℕ) (w : Window m block offset len bytes) where
  past : len ≤ at → 0 ≡ end_of at (head_at (drop at bytes))
  unfolding head_at
  past le = let none : drop at bytes ≡ [] = drop_all at bytes (omega (arith, long w)) in rw none refl

  pub end_answers : OfFirst size_from 14 (calls (codes "head_size")) → OfFirst least_from 12 (calls (codes "head_least")) → HeadArgument (calls (codes "head_argument")) → at ≤ len →
      Answers (called calls k head_end (asked block offset len at) m) (λ n. n ≡ end_of at (head_at (drop at bytes))) 61
  unfolding head_end exprs.shape-the_row-Expr-0 exprs.hidden-the_row-Expr-0 hidden
  end_answers sizes leasts arguments le =
      let b = get_or bytes at 0 in
      let rest = drop (at + 1) bytes in
      called_rule calls m k head_end (asked block offset len at) (λ n. n ≡ end_of at (head_at (drop at bytes))) 61 (
      guard_rule {k = 59} (nat_le len at) 0 (record { tells = refl }) (record { is = refl }) (λ h. past (grind (arith, nat_tests, h))) (λ h1.
      let here : at < len = grind (arith, nat_tests, h1) in
      let byte : get_or bytes at 0 < 256 = w.each at in
      let is_there = behind block offset len at m bytes w here in
      let room = left block offset len at m bytes w here in
      let_rule {n = b} {k = 58} (record { is = rw (w.there, one_byte w at here) refl }) (
      call_rule {c = 14} {k = 43} (Num b ∷ []) (λ n. n ≡ size_from b) (record { hands = λ p f. refl }) (sizes.answers b m) (λ s es.
      let short = w.short in
      guard_rule {k = 41} (nat_eq s 0) 0 (record { tells = refl }) (record { is = refl }) (λ h. rw is_there (sym (no_size b rest at byte (sym es ∙ eqb-true s 0 h)))) (λ h2.
      let some : size_from b ≢ 0 = λ z. eqb-false s 0 h2 (es ∙ z) in
      let sum : (at + s) % modulus ≡ at + s = small (at + s) (omega (arith, es, size_small b)) in
      guard_rule {k = 39} (nat_lt len (at + s)) 0 (record { tells = rw sum refl }) (record { is = refl }) (λ h. rw is_there (sym (too_short b rest at byte (omega (arith, ltb-true len (at + s) h, es))))) (λ h3.
      let fits : at + s ≤ len = ltb-false len (at + s) h3 in
      call_rule {c = 22} {k = 16} (Ptr block offset ∷ Num at ∷ []) (λ n. n ≡ argument_of (b % 32) rest) (record { hands = λ p f. refl }) (arguments.carried block offset len at m bytes w some (omega (arith, es, fits))) (λ a ea.
      call_rule {c = 12} {k = 3} (Num b ∷ []) (λ n. n ≡ least_from b) (record { hands = λ p f. refl }) (leasts.answers b m) (λ l el.
      guard_rule {k = 1} (nat_lt a l) 0 (record { tells = refl }) (record { is = refl }) (λ h. rw is_there (sym (too_small b rest at byte (omega (arith, ltb-true a l h, ea, el)) some))) (λ h4.
      let good = head_is b rest byte some (omega (arith, es, fits)) (omega (arith, ltb-false a l h4, ea, el)) in
      return_rule {n = at + s} (record { is = rw sum refl }) (rw (is_there, good) (ap (λ (x : ℕ). at + x) es)))))))))))

  pub within_answers : (major lo hi : ℕ) → HeadEnd (calls (codes "head_end")) → HeadArgument (calls (codes "head_argument")) → at ≤ len →
      Answers (called calls k head_within (Ptr block offset ∷ Num len ∷ Num at ∷ Num major ∷ Num lo ∷ Num hi ∷ []) m) (λ n. n ≡ end_within major lo hi at (head_at (drop at bytes))) 94
  unfolding head_within exprs.shape-the_row-Expr-0 exprs.hidden-the_row-Expr-0 hidden
  within_answers major lo hi ends arguments le =
      let b = get_or bytes at 0 in
      called_rule calls m k head_within (Ptr block offset ∷ Num len ∷ Num at ∷ Num major ∷ Num lo ∷ Num hi ∷ []) (λ n. n ≡ end_within major lo hi at (head_at (drop at bytes))) 94 (
      call_rule {c = 61} {k = 32} (Ptr block offset ∷ Num len ∷ Num at ∷ []) (λ n. n ≡ end_of at (head_at (drop at bytes))) (record { hands = λ p f. refl }) (ends.answers block offset len at m bytes w le) (λ n en.
      guard_rule {k = 30} (nat_eq n 0) 0 (record { tells = refl }) (record { is = refl }) (λ h. zero_within major lo hi at (head_at (drop at bytes)) (sym en ∙ eqb-true n 0 h)) (λ h1.
      let got = is_ok at (head_at (drop at bytes)) (λ z. eqb-false n 0 h1 (en ∙ z)) in
      let head = got.0 in
      let size = got.1 in
      let o = read_there block offset len at m bytes w head size got.2 in
      let is_n : n ≡ at + size = en ∙ ap (end_of at) got.2 in
      let is_major : b / 32 ≡ head.major = sym (ap (λ (x : Head). x.major) o.2) in
      let here : at < len = omega (arith, o.0, o.1) in
      guard_rule {k = 28} (not (nat_eq (b / 32) major)) 0 (record { tells = rw (w.there, one_byte w at here) refl }) (record { is = refl })
      (λ h. rw got.2 (other_within major lo hi at size head (ap (λ (x : ℕ). nat_eq x major) (sym is_major) ∙ not-true (nat_eq (b / 32) major) h))) (λ h2.
      call_rule {c = 22} {k = 5} (Ptr block offset ∷ Num at ∷ []) (λ a. a ≡ head.arg) (record { hands = λ p f. refl }) (arguments.answers block offset len at size m bytes head w got.2) (λ a ea.
      guard_rule {k = 3} (nat_lt a lo) 0 (record { tells = refl }) (record { is = refl }) (λ h. rw got.2 (low_within major lo hi at size head (ap (λ (x : ℕ). nat_lt x lo) (sym ea) ∙ h))) (λ h3.
      guard_rule {k = 1} (nat_lt hi a) 0 (record { tells = refl }) (record { is = refl }) (λ h. rw got.2 (high_within major lo hi at size head (ap (λ (x : ℕ). nat_lt hi x) (sym ea) ∙ h))) (λ h4.
      return_rule {n = n} (record { is = refl }) (rw got.2 (is_n ∙ good_within major lo hi at size head
      (ap (λ (x : ℕ). nat_eq x major) (sym is_major) ∙ not-false (nat_eq (b / 32) major) h2) (ap (λ (x : ℕ). nat_lt x lo) (sym ea) ∙ h3) (ap (λ (x : ℕ). nat_lt hi x) (sym ea) ∙ h4))))))))))
