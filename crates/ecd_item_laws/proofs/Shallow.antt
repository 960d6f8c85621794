-- An item nests no deeper than its encoding is long.
use Rattle.std.proofs.Common.{ℕ, ◌≤◌, List, [], ◌∷◌, length, map, arith, length-append}
use Rattle.std.proofs.lemmas.Bool.Decides.{nat_tests}
use Rattle.std.specs.List.{AllByRecursion}
use Rattle.ecd_head.specs.Head.{head_bytes}
use Rattle.ecd_item_laws.specs.declared.item.Item.{Item}
use Rattle.ecd_item_laws.specs.declared.item.Pair.{Pair}
use Rattle.ecd_item_laws.specs.Encoding.{encoding, pair_bytes, joined}
use Rattle.ecd_item_laws.specs.Valid.{depth}
use Rattle.ecd_item_laws.specs.Laws.{IsNoDeeperThanLong}
use Rattle.ecd_item_laws.proofs.Layers as layers

head_some : (major n : ℕ) → 1 ≤ length (head_bytes major n)
unfolding head_bytes
head_some major n = grind (arith, nat_tests)

abbrev Shallow : Item → Type 0
Shallow item = depth item ≤ length (encoding item)

shallow_items : (xs : List Item) → AllByRecursion Shallow xs → layers.greatest (map depth xs) ≤ length (joined (map encoding xs))
shallow_items [] h = omega arith
shallow_items (x ∷ xs) h = omega (arith, h.0, shallow_items xs h.1, length-append (encoding x) (joined (map encoding xs)))

shallow_pairs : (ps : List Pair) → AllByRecursion (λ p. Shallow p.key × Shallow p.value) ps → layers.greatest (map layers.pair_depth ps) ≤ length (joined (map pair_bytes ps))
shallow_pairs [] h = omega arith
shallow_pairs (p ∷ ps) h = omega (arith, h.0.0, h.0.1, shallow_pairs ps h.1, length-append (pair_bytes p) (joined (map pair_bytes ps)), length-append (encoding p.key) (encoding p.value))

shallow_cases : layers.Cases Shallow
unfolding depth
shallow_cases = record {
  uint = λ n. omega arith;
  nint = λ n. omega arith;
  bytes = λ bs. omega arith;
  text = λ bs. omega arith;
  array = λ xs h. rw (layers.depth-Array xs, layers.encoding-Array xs) (omega (arith, head_some 4 (length xs), shallow_items xs h, length-append (head_bytes 4 (length xs)) (joined (map encoding xs))));
  pairs = λ ps h. rw (layers.depth-Map ps, layers.encoding-Map ps) (omega (arith, head_some 5 (length ps), shallow_pairs ps h, length-append (head_bytes 5 (length ps)) (joined (map pair_bytes ps))));
  tag = λ n x h. rw (layers.depth-Tag n x, layers.encoding-Tag n x) (omega (arith, head_some 6 n, h, length-append (head_bytes 6 n) (encoding x)));
  simple = λ n. omega arith;
}

pub shallow : IsNoDeeperThanLong
shallow item = layers.item_ind Shallow shallow_cases item
