-- The word of a depth and an order tells both.
use Rattle.std.proofs.Common.{◌≡◌, ℕ, ◌<◌, ◌≤◌, ◌^◌, List, [], ◌∷◌, ◌++◌, refl, arith, sym, subst, ◌∙◌}
use Rattle.std.specs.Prelude.{codes, decimal, ◌≢◌}
use Rattle.std.specs.Str.Parse.{AllDigits}
use Rattle.std.proofs.lemmas.Fmt.{decimal_is_IsNumeral, decimal_injective}
use Rattle.std.proofs.lemmas.Str.Parse.{digit_at}
use Rattle.std.proofs.lemmas.List.{append_cancel_right}
use Rattle.ecd_keyorder.specs.declared.Order.{Order}
use Rattle.ecd_keyorder.specs.declared.Order.TheVariants.{Bytewise, LengthFirst}
use Rattle.ecd_commands.specs.Asked.{with_order, depth_word}

abbrev suffix : List ℕ
suffix = codes ",length-first"

-- no comma stands among digits
no_comma : (ds rest : List ℕ) → AllDigits 10 (ds ++ 44 ∷ rest) → ⊥
no_comma [] rest h = let r = digit_at (44 ∷ rest) 0 h (omega arith) in absurd (omega (arith, r.0))
no_comma (d ∷ ds) rest h = no_comma ds rest h.1

no_order : (ds : List ℕ) (n : ℕ) → n ≤ 32 → ds ++ suffix ≡ decimal n → ⊥
no_order ds n le e = no_comma ds _ (subst (AllDigits 10) (sym e) (decimal_is_IsNumeral n (omega (arith, le))).0.1)

number_same : (a b : ℕ) → a ≤ 32 → b ≤ 32 → decimal a ≡ decimal b → a ≡ b
number_same a b p q e = decimal_injective a b (omega (arith, p)) (omega (arith, q)) e

pub depth_same : (m n : ℕ) (o p : Order) → m ≤ 32 → n ≤ 32 → depth_word m o ≡ depth_word n p → (m ≡ n) × (o ≡ p)
depth_same m n Bytewise Bytewise lm ln e = (number_same m n lm ln e, refl)
depth_same m n Bytewise LengthFirst lm ln e = absurd (no_order (decimal n) m lm (sym e))
depth_same m n LengthFirst Bytewise lm ln e = absurd (no_order (decimal m) n ln e)
depth_same m n LengthFirst LengthFirst lm ln e = (number_same m n lm ln (append_cancel_right (decimal m) (decimal n) suffix e), refl)

-- where a word has these digits and this order, it is the word of no other depth
pub digits_same : (word digits : List ℕ) (o : Order) (n : ℕ) (p : Order) → n ≤ 32 → word ≡ with_order digits o → (o ≡ Bytewise → (front : List ℕ) → word ≢ front ++ suffix) → word ≡ depth_word n p → digits ≡ decimal n
digits_same word digits Bytewise n Bytewise le is whole e = sym is ∙ e
digits_same word digits Bytewise n LengthFirst le is whole e = absurd (whole refl (decimal n) e)
digits_same word digits LengthFirst n Bytewise le is whole e = absurd (no_order digits n le (sym is ∙ e))
digits_same word digits LengthFirst n LengthFirst le is whole e = append_cancel_right digits (decimal n) suffix (sym is ∙ e)
