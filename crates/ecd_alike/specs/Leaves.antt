-- Shapes that hold no other shape, beside each other.
use Rattle.std.specs.Prelude.{◌≡◌, ◌⊎◌}
use Rattle.ecd_core.specs.declared.shape.Kind.{Kind, Choice', Tag', Cbor', AnyTag', Array', Map'}
use Rattle.ecd_core.specs.declared.shape.Kind.TheVariants as k

-- The first is a range of numbers or lengths, and the other is the same one.
abbrev pub RangeAlike : Kind → Kind → Type 0
RangeAlike (k.Uint lo hi) other = other ≡ k.Uint lo hi
RangeAlike (k.Nint lo hi) other = other ≡ k.Nint lo hi
RangeAlike (k.Bytes lo hi) other = other ≡ k.Bytes lo hi
RangeAlike (k.Text lo hi) other = other ≡ k.Text lo hi
RangeAlike _ other = ⊥

-- The first is one string or simple value, or is any item, and the other is the same.
abbrev pub SingleAlike : Kind → Kind → Type 0
SingleAlike (k.BytesIs bytes) other = other ≡ k.BytesIs bytes
SingleAlike (k.TextIs bytes) other = other ≡ k.TextIs bytes
SingleAlike (k.Simple n) other = other ≡ k.Simple n
SingleAlike (k.Any depth) other = other ≡ k.Any depth
SingleAlike (k.AnyOf major depth) other = other ≡ k.AnyOf major depth
SingleAlike _ other = ⊥

abbrev pub LeafAlike : Kind → Kind → Type 0
LeafAlike kind other = RangeAlike kind other ⊎ SingleAlike kind other
