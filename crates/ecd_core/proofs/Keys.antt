-- The key of a field is the one item of its key's shape.
use Rattle.std.proofs.Common.{◌≡◌, ℕ, ◌<◌, ◌≤◌, ◌^◌, ◌⊎◌, ◌↔◌, Bool, true, false, ◌&&◌, ◌||◌, nat_lt, nat_le, Some, refl, ap, sym, ◌∙◌, subst, arith}
use Rattle.std.specs.Str.{is_utf8}
use Rattle.std.proofs.lemmas.Bool.{eqb-true, ltb-true}
use Rattle.std.proofs.lemmas.Bool.Decides.{nat_tests}
use Rattle.std.proofs.lemmas.Str.{IsUtf8-from_is_utf8}
use Rattle.ecd_keyorder.specs.declared.Order.{Order}
use Rattle.ecd_item_laws.specs.declared.item.Item.{Item}
use Rattle.ecd_item_laws.specs.declared.item.Item.TheVariants as i
use Rattle.ecd_item_laws.specs.Valid.{IsValid}
use Rattle.ecd_core.specs.declared.shape.Kind.{Kind, Choice', Tag', Cbor', AnyTag', Array', Map'}
use Rattle.ecd_core.specs.declared.shape.Kind.TheVariants as k
use Rattle.ecd_core.specs.declared.value.Value.{Value}
use Rattle.ecd_core.specs.declared.value.Value.TheVariants as v
use Rattle.ecd_core.specs.Laws.{HasOneKey}
use Rattle.ecd_core.specs.Values.{Gives, literal, key_of, numbered}

some_item : (b : Bool) (x y : Item) → literal b x ≡ Some y → (b ≡ true) × (x ≡ y)
some_item true x y e = (refl, cc)
some_item false x y e = absurd cc

both : (a b : Bool) → a && b ≡ true → (a ≡ true) × (b ≡ true)
both true b e = (refl, e)
both false b e = absurd cc

simple_held : (n : ℕ) → nat_lt n 24 || (nat_le 32 n && nat_lt n 256) ≡ true → (n < 24) ⊎ ((32 ≤ n) × (n < 256))
simple_held n e = grind (arith, nat_tests)

module _ (order : Order) (key item : Item) where
  one_of : (kind : Kind) → key_of kind ≡ Some key → ((value : Value) × Gives order kind item value) ↔ (item ≡ key)
  unfolding Gives IsValid
  one_of (k.Uint lo hi) e =
      let s = some_item _ (i.Uint lo) key e in
      let t = both _ _ s.0 in
      let same = eqb-true lo hi t.0 in
      let fits = ltb-true lo (2 ^ 64) t.1 in (
        (λ h. let g = h.1 in g.1 ∙ (ap i.Uint (omega (arith, g.2.1.0, g.2.1.1, same)) ∙ s.1)),
        λ f. (numbered lo hi lo, (lo, f ∙ sym s.1, (fits, (omega arith, omega (arith, same))), refl)),
      )
  one_of (k.Nint lo hi) e =
      let s = some_item _ (i.Nint lo) key e in
      let t = both _ _ s.0 in
      let same = eqb-true lo hi t.0 in
      let fits = ltb-true lo (2 ^ 64) t.1 in (
        (λ h. let g = h.1 in g.1 ∙ (ap i.Nint (omega (arith, g.2.1.0, g.2.1.1, same)) ∙ s.1)),
        λ f. (numbered lo hi lo, (lo, f ∙ sym s.1, (fits, (omega arith, omega (arith, same))), refl)),
      )
  one_of (k.Bytes lo hi) e = absurd cc
  one_of (k.Text lo hi) e = absurd cc
  one_of (k.BytesIs bytes) e = let same : i.Bytes bytes ≡ key = cc in ((λ h. h.1.0 ∙ same), λ f. (v.Unit, (f ∙ sym same, refl)))
  one_of (k.TextIs bytes) e = let s = some_item (is_utf8 bytes) (i.Text bytes) key e in ((λ h. h.1.0 ∙ s.1), λ f. (v.Unit, (f ∙ sym s.1, IsUtf8-from_is_utf8 bytes s.0, refl)))
  one_of (k.Simple n) e =
      let s = some_item _ (i.Simple n) key e in
      ((λ h. h.1.0 ∙ s.1), λ f. (v.Unit, (f ∙ sym s.1, subst (IsValid order) (sym (f ∙ sym s.1)) (simple_held n s.0), refl)))
  one_of (Tag' n _ inner) e = absurd cc
  one_of (AnyTag' _ inner) e = absurd cc
  one_of (k.Any depth) e = absurd cc
  one_of (k.AnyOf major depth) e = absurd cc
  one_of (Cbor' _ inner) e = absurd cc
  one_of (Choice' _ ways) e = absurd cc
  one_of (Array' _ parts) e = absurd cc
  one_of (Map' _ entries) e = absurd cc

pub has_one_key : HasOneKey
has_one_key order shape key item e = one_of order key item shape.kind e
