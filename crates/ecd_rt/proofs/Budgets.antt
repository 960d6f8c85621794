-- Sums of steps. A byte costs so many steps at the level below; x bytes are passed, and steps are spent for them.
use Rattle.std.proofs.Common.{◌≡◌, ℕ, suc, ◌+◌, ◌-◌, ◌*◌, ◌<◌, ◌≤◌, arith}

pub more_bytes : (c a b : ℕ) → a ≤ b → c * a ≤ c * b
more_bytes c a b le = grind arith

-- ---- items

pub items_stop : (c x y used : ℕ) → used ≤ (c + 4) * x → used + suc (suc (c * suc y + 2)) ≤ (c + 4) * suc (x + y) + 1
items_stop c x y used h = grind arith

pub items_go : (c x b used : ℕ) → used ≤ (c + 4) * x → 0 < b → used + suc (suc (c * b + 2)) ≤ (c + 4) * (x + b)
items_go c x b used h lt = grind arith

-- ---- pairs: s is the size of the key before, and b that of the key

pub key_stop : (c x y s used : ℕ) → used + 7 * s ≤ (c + 27) * x → used + suc (suc (c * suc y + 2)) ≤ (c + 27) * suc (x + y) + 1
key_stop c x y s used h = grind arith

pub order_stop : (c x b z s used : ℕ) → used + 7 * s ≤ (c + 27) * x → used + suc (suc (c * b + (2 + suc (suc (7 * (s + 1) + 2))))) ≤ (c + 27) * suc (x + (b + z)) + 1
order_stop c x b z s used h = grind arith

pub value_stop : (c x b z s used : ℕ) → used + 7 * s ≤ (c + 27) * x → used + suc (suc (c * b + (2 + suc (suc (7 * (s + 1) + (2 + suc (suc (suc (c * suc z + 2))))))))) ≤ (c + 27) * suc (x + (b + z)) + 1
value_stop c x b z s used h = grind arith

pub pair_paid : (c x b v s used : ℕ) → used + 7 * s ≤ (c + 27) * x → 0 < v → used + suc (suc (c * b + (2 + suc (suc (7 * (s + 1) + (2 + suc (suc (suc (c * v + 2))))))))) + 7 * b ≤ (c + 27) * (x + (b + v))
pair_paid c x b v s used h lt = grind arith

-- ---- a level: p bytes are paid for inside an item of more bytes

pub whole_paid : (c paid most : ℕ) → (c + 162) * paid ≤ most → 162 * paid ≤ most
whole_paid c paid most h = grind arith

pub tag_paid : (c p paid most : ℕ) → p + 1 ≤ paid → (c + 162) * paid ≤ most → suc (c * p + 1) ≤ most - 107
tag_paid c p paid most le h =
    let more : (c + 162) * (p + 1) ≤ (c + 162) * paid = more_bytes (c + 162) (p + 1) paid le in
    let sum : (c + 162) * (p + 1) ≡ c * p + (162 * p + (c + 162)) = grind arith in
    omega arith

pub items_paid : (c p paid most : ℕ) → p + 1 ≤ paid → (c + 162) * paid ≤ most → suc ((c + 4) * p + 3 + 1) ≤ most - 131
items_paid c p paid most le h =
    let more : (c + 162) * (p + 1) ≤ (c + 162) * paid = more_bytes (c + 162) (p + 1) paid le in
    let sum : (c + 162) * (p + 1) ≡ c * p + (162 * p + (c + 162)) = grind arith in
    let parts : (c + 4) * p ≡ c * p + 4 * p = grind arith in
    omega arith

pub pairs_paid : (c p paid most : ℕ) → p + 1 ≤ paid → (c + 162) * paid ≤ most → suc ((c + 27) * p + 5 + 1) ≤ most - 131
pairs_paid c p paid most le h =
    let more : (c + 162) * (p + 1) ≤ (c + 162) * paid = more_bytes (c + 162) (p + 1) paid le in
    let sum : (c + 162) * (p + 1) ≡ c * p + (162 * p + (c + 162)) = grind arith in
    let parts : (c + 27) * p ≡ c * p + 27 * p = grind arith in
    omega arith
