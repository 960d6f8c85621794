-- How many items a group has taken.
use Rattle.std.proofs.Common.{◌≡◌, ℕ, zero, suc, ◌+◌, ◌*◌, ◌≤◌, inl, inr, List, [], ◌∷◌, length, ap, sym, subst, arith}
use Rattle.std.proofs.lemmas.List.{length-append}
use Rattle.std.proofs.lemmas.Nat.{mul-le}
use Rattle.ecd_keyorder.specs.declared.Order.{Order}
use Rattle.ecd_item_laws.specs.declared.item.Item.{Item}
use Rattle.ecd_core.specs.declared.shape.Group.{Row_of-Part, end_of-Part, more_of-Part}
use Rattle.ecd_core.specs.declared.shape.Part.{Part, One', Opt', Many', Alt', Row_of-Way, end_of-Way, more_of-Way}
use Rattle.ecd_core.specs.declared.value.Value.{Value}
use Rattle.ecd_core.specs.Lists.{Each}
use Rattle.ecd_core.specs.Values.{Run, run_items, Gives, PartsGive, PartGives, WayGives}
use Rattle.ecd_apart.specs.Counts.{top, cap, least, part_least, ways_least, greatest, part_greatest, ways_greatest}

-- ---- numbers that stop at the greatest argument

pub cap_grows : (a b : ℕ) → a ≤ b → cap a ≤ cap b
unfolding cap
cap_grows a b h = omega arith

pub cap_below : (a : ℕ) → cap a ≤ a
unfolding cap
cap_below a = omega arith

pub cap_of_top : (a : ℕ) → cap a ≤ cap top
unfolding cap
cap_of_top a = omega arith

pub cap_again : (a b : ℕ) → cap a ≤ b → cap a ≤ cap b
unfolding cap
cap_again a b h = omega arith

pub cap_sum : (a b x y : ℕ) → cap a ≤ x → cap b ≤ y → cap (a + b) ≤ cap (x + y)
unfolding cap
cap_sum a b x y h g = omega arith

cap_one_more : (a b g m : ℕ) → cap a ≤ g → cap b ≤ cap m → cap (a + b) ≤ cap (g + m)
unfolding cap
cap_one_more a b g m h e = omega arith

-- ---- runs

module _ (P : List Item → List Value → Type 0) (n : ℕ) where
  runs_least : ((items : List Item) (values : List Value) → P items values → n ≤ length items) → (runs : List Run) → Each (λ run. P run.0 run.1) runs → length runs * n ≤ length (run_items runs)
  runs_least h [] p = omega arith
  runs_least h (run ∷ runs) p =
      let a = h run.0 run.1 p.0 in
      let b = runs_least h runs p.1 in
      let e : suc (length runs) * n ≡ n + length runs * n = omega arith in
      omega (arith, a, b, e, length-append run.0 (run_items runs))

  runs_greatest : ((items : List Item) (values : List Value) → P items values → cap (length items) ≤ n) → (runs : List Run) → Each (λ run. P run.0 run.1) runs → cap (length (run_items runs)) ≤ cap (length runs * n)
  runs_greatest h [] p = cap_grows 0 _ (omega arith)
  runs_greatest h (run ∷ runs) p =
      let a = h run.0 run.1 p.0 in
      let b = runs_greatest h runs p.1 in
      let e : suc (length runs) * n ≡ n + length runs * n = omega arith in
      let l = length-append run.0 (run_items runs) in
      subst (λ (x : ℕ). cap x ≤ cap (suc (length runs) * n)) (sym l) (subst (λ (x : ℕ). cap (length run.0 + length (run_items runs)) ≤ cap x) (sym e) (cap_one_more _ _ _ _ a b))

-- ---- at least

mutual
  unfolding Gives least

  pub at_least : {m : _} (order : Order) (row : Row_of-Part m) (items : List Item) (values : List Value) → PartsGive order row items values → least row ≤ length items
  at_least order end_of-Part items values p = omega arith
  at_least order (more_of-Part part rest) items values p =
      let a = part_at_least order part p.0 p.2 p.6 in
      let b = at_least order rest p.1 p.3 p.7 in
      omega (arith, a, b, cap_below (part_least part + least rest), length-append p.0 p.1, ap length p.4)

  part_at_least : (order : Order) (part : Part) (items : List Item) (value : Value) → PartGives order part items value → part_least part ≤ length items
  part_at_least order (One' at kind) items value p = omega (arith, ap length p.1)
  part_at_least order (Opt' at _ body) items value p = omega arith
  part_at_least order (Many' at lo hi _ body) items value p =
      let a = runs_least (PartsGive order body) (least body) (λ xs us q. at_least order body xs us q) p.0 p.4 in
      let b : lo * least body ≤ length p.0 * least body = mul-le lo (least body) (length p.0) (least body) p.3.0 (omega arith) in
      omega (arith, a, b, cap_below (lo * least body), ap length p.1)
  part_at_least order (Alt' at _ ways) items value p = ways_at_least order ways p.0 items p.1 p.3

  ways_at_least : {m : _} (order : Order) (row : Row_of-Way m) (number : ℕ) (items : List Item) (values : List Value) → WayGives order row number items values → ways_least row ≤ length items
  ways_at_least order end_of-Way number items values p = absurd p
  ways_at_least order (more_of-Way at _ body rest) zero items values p = let a = at_least order body items values p in omega (arith, a)
  ways_at_least order (more_of-Way at _ body rest) (suc number) items values p = let a = ways_at_least order rest number items values p in omega (arith, a)

-- ---- at most

mutual
  unfolding Gives greatest

  pub at_most : {m : _} (order : Order) (row : Row_of-Part m) (items : List Item) (values : List Value) → PartsGive order row items values → cap (length items) ≤ greatest row
  at_most order end_of-Part items values p = omega (arith, cap_below (length items), ap length p.0)
  at_most order (more_of-Part part rest) items values p =
      let a = part_at_most order part p.0 p.2 p.6 in
      let b = at_most order rest p.1 p.3 p.7 in
      let l : length p.0 + length p.1 ≡ length items = omega (arith, length-append p.0 p.1, ap length p.4) in
      subst (λ (x : ℕ). cap x ≤ cap (part_greatest part + greatest rest)) l (cap_sum _ _ _ _ a b)

  part_at_most : (order : Order) (part : Part) (items : List Item) (value : Value) → PartGives order part items value → cap (length items) ≤ part_greatest part
  part_at_most order (One' at kind) items value p = omega (arith, cap_below (length items), ap length p.1)
  part_at_most order (Opt' at _ body) items value (inl p) = omega (arith, cap_below (length items), ap length p.0)
  part_at_most order (Opt' at _ body) items value (inr p) = at_most order body items p.0 p.2
  part_at_most order (Many' at lo hi _ body) items value p =
      let a = runs_greatest (PartsGive order body) (greatest body) (λ xs us q. at_most order body xs us q) p.0 p.4 in
      let b : length p.0 * greatest body ≤ hi * greatest body = mul-le (length p.0) (greatest body) hi (greatest body) p.3.1 (omega arith) in
      let c = cap_grows _ _ b in
      omega (arith, subst (λ (x : List Item). cap (length x) ≤ cap (length p.0 * greatest body)) (sym p.1) a, c)
  part_at_most order (Alt' at _ ways) items value p = ways_at_most order ways p.0 items p.1 p.3

  ways_at_most : {m : _} (order : Order) (row : Row_of-Way m) (number : ℕ) (items : List Item) (values : List Value) → WayGives order row number items values → cap (length items) ≤ ways_greatest row
  ways_at_most order end_of-Way number items values p = absurd p
  ways_at_most order (more_of-Way at _ body rest) zero items values p = let a = at_most order body items values p in omega (arith, a)
  ways_at_most order (more_of-Way at _ body rest) (suc number) items values p = let a = ways_at_most order rest number items values p in omega (arith, a)
