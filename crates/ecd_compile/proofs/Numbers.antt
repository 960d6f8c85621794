-- The encoding of a small number.
use Rattle.std.proofs.Common.{◌≡◌, ℕ, ◌+◌, ◌*◌, ◌<◌, List, [], ◌∷◌, ◌∙◌, ap, arith}
use Rattle.ecd_head.proofs.Heads.{head_bytes-1}
use Rattle.ecd_item_laws.specs.declared.item.Item.TheVariants.{Uint}
use Rattle.ecd_item_laws.specs.Encoding.{encoding}
use Rattle.ecd_compile.specs.Reads.{IsEncodingOfNumber}

small_is_encoded : (n : ℕ) → n < 24 → encoding (Uint n) ≡ n ∷ []
unfolding encoding
small_is_encoded n small = head_bytes-1 0 n small ∙ ap (λ (x : ℕ). x ∷ []) (same n)
  where
    same : (n : ℕ) → 32 * 0 + n ≡ n
    same n = omega arith

pub number_is_encoded : IsEncodingOfNumber
number_is_encoded q n is = small_is_encoded n is.thin.number.small.small
