-- Literals beside each other.
use Rattle.ecd_core.specs.declared.shape.Kind.{Kind}
use Rattle.ecd_core.specs.declared.shape.Kind.TheVariants as k
use Rattle.ecd_apart.specs.Apart.{IsOtherBytes, IsOtherText}

-- Both are byte strings of certain bytes, or both texts of certain bytes, and these differ.
abbrev pub LiteralsDiffer : Kind → Kind → Type 0
LiteralsDiffer (k.BytesIs bytes) other = IsOtherBytes bytes other
LiteralsDiffer (k.TextIs bytes) other = IsOtherText bytes other
LiteralsDiffer _ other = ⊥
