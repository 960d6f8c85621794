-- What the functions over the first byte of a head answer.
use Rattle.std.proofs.Common.{◌≡◌, ℕ, ◌%◌, [], ◌∷◌, refl, ap}
use Rattle.std.specs.Prelude.{nat_eq, nat_lt}
use Rattle.std.specs.Int.Bits.{bit_and}
use Rattle.std.proofs.lemmas.Nat.{and_mask}
use denote.Hole.Carrier.{hidden}
use Rattle.ecd_cast.specs.declared.tree.Expr.TheBlock as exprs
use Rattle.ecd_cast.specs.declared.value.Value.TheVariants.{Number as Num}
use Rattle.ecd_cast.specs.Memory.{Memory}
use Rattle.ecd_cast.specs.Expressions.{Gives}
use Rattle.ecd_cast.specs.Meaning.{Calls, called}
use Rattle.ecd_calculus.specs.Ends.{Answers}
use Rattle.ecd_calculus.proofs.Rules.{return_rule, let_rule, guard_rule, called_rule}
use Rattle.ecd_fixed_heads.specs.Firsts.{size_from, least_from}
use Rattle.ecd_fixed_heads.specs.Heads.{head_size, head_least}

pub low_bits : (b : ℕ) → bit_and b 31 ≡ b % 32
low_bits b = and_mask b 5

pub size_answers : (calls : Calls) (k b : ℕ) (m : Memory) → Answers (called calls k head_size (Num b ∷ []) m) (λ n. n ≡ size_from b) 14
unfolding head_size size_from exprs.shape-the_row-Expr-0 exprs.hidden-the_row-Expr-0 hidden
size_answers calls k b m = called_rule calls m k head_size (Num b ∷ []) (λ n. n ≡ size_from b) 14 (
    let_rule {n = b % 32} (record { is = ap (λ (x : ℕ). Gives (Num x)) (low_bits b) }) (
    guard_rule (nat_lt (b % 32) 24) 1 (record { tells = refl }) (record { is = refl }) (λ h. rw h refl) (λ h1.
    guard_rule (nat_eq (b % 32) 24) 2 (record { tells = refl }) (record { is = refl }) (λ h. rw (h1, h) refl) (λ h2.
    guard_rule (nat_lt 223 b) 0 (record { tells = refl }) (record { is = refl }) (λ h. rw (h1, h2, h) refl) (λ h3.
    guard_rule (nat_eq (b % 32) 25) 3 (record { tells = refl }) (record { is = refl }) (λ h. rw (h1, h2, h3, h) refl) (λ h4.
    guard_rule (nat_eq (b % 32) 26) 5 (record { tells = refl }) (record { is = refl }) (λ h. rw (h1, h2, h3, h4, h) refl) (λ h5.
    guard_rule (nat_eq (b % 32) 27) 9 (record { tells = refl }) (record { is = refl }) (λ h. rw (h1, h2, h3, h4, h5, h) refl) (λ h6.
    return_rule {n = 0} (record { is = refl }) (rw (h1, h2, h3, h4, h5, h6) refl)))))))))

pub least_answers : (calls : Calls) (k b : ℕ) (m : Memory) → Answers (called calls k head_least (Num b ∷ []) m) (λ n. n ≡ least_from b) 12
unfolding head_least least_from exprs.shape-the_row-Expr-0 exprs.hidden-the_row-Expr-0 hidden
least_answers calls k b m = called_rule calls m k head_least (Num b ∷ []) (λ n. n ≡ least_from b) 12 (
    let_rule {n = b % 32} (record { is = ap (λ (x : ℕ). Gives (Num x)) (low_bits b) }) (
    guard_rule (nat_lt (b % 32) 24) 0 (record { tells = refl }) (record { is = refl }) (λ h. rw h refl) (λ h1.
    guard_rule (nat_eq b 248) 32 (record { tells = refl }) (record { is = refl }) (λ h. rw (h1, h) refl) (λ h2.
    guard_rule (nat_eq (b % 32) 24) 24 (record { tells = refl }) (record { is = refl }) (λ h. rw (h1, h2, h) refl) (λ h3.
    guard_rule (nat_eq (b % 32) 25) 256 (record { tells = refl }) (record { is = refl }) (λ h. rw (h1, h2, h3, h) refl) (λ h4.
    guard_rule (nat_eq (b % 32) 26) 65536 (record { tells = refl }) (record { is = refl }) (λ h. rw (h1, h2, h3, h4, h) refl) (λ h5.
    return_rule {n = 4294967296} (record { is = refl }) (rw (h1, h2, h3, h4, h5) refl))))))))
