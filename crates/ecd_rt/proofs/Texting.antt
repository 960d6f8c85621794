-- What the function that looks into a text answers.
use Rattle.std.proofs.Common.{◌≡◌, ℕ, suc, ◌+◌, ◌-◌, ◌*◌, ◌%◌, ◌≤◌, List, [], ◌∷◌, take, drop, refl, sym, subst, ◌∙◌, arith, Bool, true, false}
use Rattle.std.specs.Prelude.{codes, nat_eq, Ok}
use Rattle.std.specs.Str.{is_utf8}
use denote.Hole.Carrier.{hidden}
use Rattle.ecd_cast.specs.declared.tree.Expr.TheBlock as exprs
use Rattle.ecd_cast.specs.declared.value.Value.TheVariants.{Number as Num, Bytes as Ptr}
use Rattle.ecd_cast.specs.Memory.{Memory}
use Rattle.ecd_cast.specs.Expressions.{modulus}
use Rattle.ecd_cast.specs.Meaning.{Calls, called}
use Rattle.ecd_calculus.specs.Ends.{Answers}
use Rattle.ecd_calculus.proofs.Rules.{return_rule, call_rule, guard_rule, called_rule, works_within}
use Rattle.ecd_head.specs.declared.Head.{Head}
use Rattle.ecd_head.specs.Fault.{head_at}
use Rattle.ecd_emit.specs.Windows.{Window}
use Rattle.ecd_fixed_heads.specs.Meanings.{HeadArgument}
use Rattle.ecd_fixed_bytes.specs.Utf8.{ChecksUtf8, one_where}
use Rattle.ecd_rt.specs.Trees.{text_end}
use Rattle.ecd_rt.specs.Meanings.{text_place}
use Rattle.ecd_rt.proofs.Windows.{part, inside}
use Rattle.ecd_rt.proofs.Pairing.{taken}

is_text : (b : Bool) (n end : ℕ) → n ≡ one_where b → nat_eq n 0 ≡ false → end ≡ text_place b end
is_text true n end e h = refl
is_text false n end e h = absurd (let t : nat_eq n 0 ≡ true = rw e refl in cc)

no_text : (b : Bool) (n end : ℕ) → n ≡ one_where b → nat_eq n 0 ≡ true → 0 ≡ text_place b end
no_text true n end e h = absurd (let t : nat_eq n 0 ≡ false = rw e refl in cc)
no_text false n end e h = refl

module _ (calls : Calls) (k block offset len at size end : ℕ) (m : Memory) (bytes : List ℕ) (head : Head) (w : Window m block offset len bytes) (read : head_at (drop at bytes) ≡ Ok (head, size)) (is_end : end ≡ at + size + head.arg) (fits : end ≤ len) where
  pub text_answers : HeadArgument (calls (codes "head_argument")) → ChecksUtf8 (calls (codes "utf8_valid")) →
      Answers (called calls k text_end (Ptr block offset ∷ Num at ∷ Num end ∷ []) m) (λ n. n ≡ text_place (is_utf8 (take head.arg (drop (at + size) bytes))) end) (27 * (head.arg + 1) + 27)
  unfolding text_end exprs.shape-the_row-Expr-0 exprs.hidden-the_row-Expr-0 hidden
  text_answers arguments checks =
      let from : ℕ = at + size in
      let text : List ℕ = take head.arg (drop from bytes) in
      let short = w.short in
      called_rule calls m k text_end (Ptr block offset ∷ Num at ∷ Num end ∷ []) (λ n. n ≡ text_place (is_utf8 text) end) (27 * (head.arg + 1) + 27) (
      works_within (suc (22 + suc (27 * (head.arg + 1) + 3))) (27 * (head.arg + 1) + 27) (omega arith) (
      call_rule {c = 22} {k = suc (27 * (head.arg + 1) + 3)} (Ptr block offset ∷ Num at ∷ []) (λ a. a ≡ head.arg) (record { hands = λ p f. refl }) (arguments.answers block offset len at size m bytes head w read) (λ a ea.
      let less : (end + modulus - a) % modulus ≡ from = taken end a (omega (arith, is_end, ea)) (omega (arith, fits, short)) ∙ (let d : end - a ≡ from = omega (arith, is_end, ea) in d) in
      call_rule {c = 27 * (head.arg + 1)} {k = 3} (Ptr block (offset + from) ∷ Num a ∷ []) (λ n. n ≡ one_where (is_utf8 text)) (record { hands = λ p f. rw (less, w.there, inside w from (omega (arith, is_end, fits))) refl })
      (subst (λ (x : ℕ). Answers (calls (codes "utf8_valid") (Ptr block (offset + from) ∷ Num x ∷ []) m) (λ n. n ≡ one_where (is_utf8 text)) (27 * (head.arg + 1))) (sym ea)
      (checks.answers block (offset + from) head.arg m text (part w from head.arg (omega (arith, is_end, fits))))) (λ n en.
      guard_rule {k = 1} (nat_eq n 0) 0 (record { tells = refl }) (record { is = refl }) (no_text (is_utf8 text) n end en) (λ h.
      return_rule {n = end} (record { is = refl }) (is_text (is_utf8 text) n end en h))))))
