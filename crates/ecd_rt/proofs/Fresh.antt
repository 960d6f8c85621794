-- The names of the fixed functions are all different.
use Rattle.std.proofs.Common.{◌≡◌, ℕ, zero, suc, ◌<◌, ◌≤◌, Bool, true, false, ◌&&◌, List, [], ◌∷◌, ◌++◌, refl, sym, subst, arith}
use Rattle.std.specs.Prelude.{codes, not, bytes_eq, nat_eq}
use Rattle.std.proofs.lemmas.Bool.{eqb-true, eqb-false}
use Rattle.ecd_cast.specs.declared.tree.CItem.{CItem}
use Rattle.ecd_cast.specs.declared.tree.CItem.TheVariants.{Struct as AStruct, Function as AFunction}
use Rattle.ecd_cast.specs.Memory.{Name}
use Rattle.ecd_cast.specs.Kept.{IsNew}
use Rattle.ecd_fixed_heads.specs.Heads.{load_be16, load_be32, load_be64, head_size, head_least, head_argument, head_end, head_within, head_functions, head_names}
use Rattle.ecd_fixed_heads.specs.Extents.{own_end, items_inside, item_end, extent_functions, extent_names}
use Rattle.ecd_fixed_bytes.specs.Utf8.{utf8_begin, utf8_next, utf8_valid, utf8_functions, utf8_names}
use Rattle.ecd_keyorder.specs.declared.Order.{Order}
use Rattle.ecd_fixed_bytes.specs.Compare.{compare_bytes}
use Rattle.ecd_fixed_bytes.specs.HeadWriter.{head_length, store_be16, store_be32, store_be64, put_head, put_functions, put_names}
use Rattle.ecd_fixed_bytes.specs.Copier.{copy_bytes}
use Rattle.ecd_emit.specs.Among.{AreNew}
use Rattle.ecd_emit.proofs.Placed.{new_behind}
use Rattle.ecd_rt.specs.Names.{any_name, items_name, pairs_name}
use Rattle.ecd_rt.specs.Trees.{text_end, items_end, pairs_end, any_end, level_functions, level_names, any_functions, any_names}
use Rattle.ecd_rt.specs.Runtime.{front_functions, front_names, writing_functions, writing_names}
use Rattle.ecd_rt.proofs.Naming.{other_any, other_items, other_pairs, items_any, items_pairs, pairs_any, pairs_items, any_items, any_pairs, inside_items, items_inside_not}

-- ---- lists of names

pub first_names : (xs ys : List Name) (items : List CItem) → AreNew (xs ++ ys) items → AreNew xs items
first_names [] ys items h = tt
first_names (x ∷ xs) ys items h = (h.0, first_names xs ys items h.1)

pub last_names : (xs ys : List Name) (items : List CItem) → AreNew (xs ++ ys) items → AreNew ys items
last_names [] ys items h = h
last_names (x ∷ xs) ys items h = last_names xs ys items h.1

pub both_names : (xs ys : List Name) (items : List CItem) → AreNew xs items → AreNew ys items → AreNew (xs ++ ys) items
both_names [] ys items h k = k
both_names (x ∷ xs) ys items h k = (h.0, both_names xs ys items h.1 k)

pub new_in_both : (names : List Name) (old more : List CItem) → AreNew names old → AreNew names more → AreNew names (old ++ more)
new_in_both [] old more h k = tt
new_in_both (g ∷ names) old more h k = (new_behind old more g h.0 k.0, new_in_both names old more h.1 k.1)

pub new_in_none : (names : List Name) → AreNew names []
new_in_none [] = tt
new_in_none (g ∷ names) = (tt, new_in_none names)

-- ---- names that are all written out

abbrev is_new : Name → List CItem → Bool
is_new g [] = true
is_new g (AStruct s ∷ is) = is_new g is
is_new g (AFunction f ∷ is) = not (bytes_eq f.name g) && is_new g is

abbrev are_new : List Name → List CItem → Bool
are_new [] items = true
are_new (g ∷ names) items = is_new g items && are_new names items

both_true : (a b : Bool) → (a && b) ≡ true → (a ≡ true) × (b ≡ true)
both_true true true e = (refl, refl)
both_true true false e = absurd cc
both_true false b e = absurd cc

not_true : (a : Bool) → not a ≡ true → a ≡ false
not_true true e = absurd cc
not_true false e = refl

new_by : (g : Name) (items : List CItem) → is_new g items ≡ true → IsNew g items
new_by g [] e = tt
new_by g (AStruct s ∷ is) e = new_by g is e
new_by g (AFunction f ∷ is) e = let t = both_true (not (bytes_eq f.name g)) (is_new g is) e in (not_true (bytes_eq f.name g) t.0, new_by g is t.1)

all_new_by : (names : List Name) (items : List CItem) → are_new names items ≡ true → AreNew names items
all_new_by [] items e = tt
all_new_by (g ∷ names) items e = let t = both_true (is_new g items) (are_new names items) e in (new_by g items t.0, all_new_by names items t.1)

pub extents_behind_heads : AreNew extent_names head_functions
unfolding load_be16 load_be32 load_be64 head_size head_least head_argument head_end head_within
extents_behind_heads = all_new_by extent_names head_functions refl

pub utf8_behind : AreNew utf8_names (head_functions ++ extent_functions)
unfolding load_be16 load_be32 load_be64 head_size head_least head_argument head_end head_within own_end items_inside item_end
utf8_behind = all_new_by utf8_names (head_functions ++ extent_functions) refl

pub comparison_behind : IsNew (codes "compare_bytes") (head_functions ++ (extent_functions ++ utf8_functions))
unfolding load_be16 load_be32 load_be64 head_size head_least head_argument head_end head_within own_end items_inside item_end utf8_begin utf8_next utf8_valid
comparison_behind = new_by (codes "compare_bytes") (head_functions ++ (extent_functions ++ utf8_functions)) refl

pub heads_before : (order : Order) → AreNew head_names (extent_functions ++ (utf8_functions ++ AFunction (compare_bytes order) ∷ []))
unfolding own_end items_inside item_end utf8_begin utf8_next utf8_valid compare_bytes
heads_before order = all_new_by head_names (extent_functions ++ (utf8_functions ++ AFunction (compare_bytes order) ∷ [])) refl

pub extents_before : (order : Order) → AreNew extent_names (utf8_functions ++ AFunction (compare_bytes order) ∷ [])
unfolding utf8_begin utf8_next utf8_valid compare_bytes
extents_before order = all_new_by extent_names (utf8_functions ++ AFunction (compare_bytes order) ∷ []) refl

pub utf8_before : (order : Order) → AreNew utf8_names (AFunction (compare_bytes order) ∷ [])
unfolding compare_bytes
utf8_before order = all_new_by utf8_names (AFunction (compare_bytes order) ∷ []) refl

pub writing_behind_front : (order : Order) → AreNew writing_names (front_functions order)
unfolding load_be16 load_be32 load_be64 head_size head_least head_argument head_end head_within own_end items_inside item_end utf8_begin utf8_next utf8_valid compare_bytes
writing_behind_front order = all_new_by writing_names (front_functions order) refl

pub copier_behind : IsNew (codes "copy_bytes") put_functions
unfolding head_length store_be16 store_be32 store_be64 put_head
copier_behind = new_by (codes "copy_bytes") put_functions refl

pub puts_before : AreNew put_names (AFunction copy_bytes ∷ [])
unfolding copy_bytes
puts_before = all_new_by put_names (AFunction copy_bytes ∷ []) refl

pub front_before_writing : AreNew front_names writing_functions
unfolding head_length store_be16 store_be32 store_be64 put_head copy_bytes
front_before_writing = all_new_by front_names writing_functions refl

-- ---- names with a depth, behind the functions that have none

any_behind : (order : Order) (n : ℕ) → IsNew (any_name n) (front_functions order)
unfolding any_name load_be16 load_be32 load_be64 head_size head_least head_argument head_end head_within own_end items_inside item_end utf8_begin utf8_next utf8_valid compare_bytes
any_behind order n = new_by (any_name n) (front_functions order) refl

pairs_behind : (order : Order) (n : ℕ) → IsNew (pairs_name n) (front_functions order)
unfolding pairs_name load_be16 load_be32 load_be64 head_size head_least head_argument head_end head_within own_end items_inside item_end utf8_begin utf8_next utf8_valid compare_bytes
pairs_behind order n = new_by (pairs_name n) (front_functions order) refl

items_after_heads : (n : ℕ) → IsNew (items_name n) head_functions
unfolding items_name load_be16 load_be32 load_be64 head_size head_least head_argument head_end head_within
items_after_heads n = new_by (items_name n) head_functions refl

own_items : (n : ℕ) → bytes_eq (codes "own_end") (items_name n) ≡ false
unfolding items_name
own_items n = refl

end_items : (n : ℕ) → bytes_eq (codes "item_end") (items_name n) ≡ false
unfolding items_name
end_items n = refl

items_after_extents : (n : ℕ) → n ≤ 32 → IsNew (items_name n) extent_functions
unfolding own_end items_inside item_end
items_after_extents n le = (own_items n, (inside_items n le, (end_items n, tt)))

items_after_others : (order : Order) (n : ℕ) → IsNew (items_name n) (utf8_functions ++ AFunction (compare_bytes order) ∷ [])
unfolding items_name utf8_begin utf8_next utf8_valid compare_bytes
items_after_others order n = new_by (items_name n) (utf8_functions ++ AFunction (compare_bytes order) ∷ []) refl

items_behind : (order : Order) (n : ℕ) → n ≤ 32 → IsNew (items_name n) (front_functions order)
items_behind order n le = new_behind head_functions (extent_functions ++ (utf8_functions ++ AFunction (compare_bytes order) ∷ [])) (items_name n) (items_after_heads n)
    (new_behind extent_functions (utf8_functions ++ AFunction (compare_bytes order) ∷ []) (items_name n) (items_after_extents n le) (items_after_others order n))

text_behind : (order : Order) → IsNew (codes "text_end") (front_functions order)
unfolding load_be16 load_be32 load_be64 head_size head_least head_argument head_end head_within own_end items_inside item_end utf8_begin utf8_next utf8_valid compare_bytes
text_behind order = new_by (codes "text_end") (front_functions order) refl

pub any_behind_front : (order : Order) (depth : ℕ) → depth ≤ 32 → AreNew (any_names depth) (front_functions order)
any_behind_front order zero le = (text_behind order, (any_behind order 0, tt))
any_behind_front order (suc below) le =
    both_names (any_names below) (level_names below) (front_functions order) (any_behind_front order below (omega arith)) (items_behind order below (omega arith), (pairs_behind order below, (any_behind order (suc below), tt)))

-- ---- and behind each other

items_base : (n : ℕ) → IsNew (items_name n) (any_functions 0)
unfolding items_name any_name text_end any_end
items_base n = (refl, (refl, tt))

pairs_base : (n : ℕ) → IsNew (pairs_name n) (any_functions 0)
unfolding pairs_name any_name text_end any_end
pairs_base n = (refl, (refl, tt))

text_any : (n : ℕ) → bytes_eq (codes "text_end") (any_name n) ≡ false
unfolding any_name
text_any n = refl

module _ (n : ℕ) (le : n ≤ 32) where
  items_of_level : (k : ℕ) → k < n → IsNew (items_name n) (level_functions k)
  unfolding items_end pairs_end any_end
  items_of_level k lt = (other_items k n (omega arith) le (λ e. omega arith), (pairs_items k n, (any_items (suc k) n, tt)))

  items_after : (k : ℕ) → k ≤ n → IsNew (items_name n) (any_functions k)
  items_after zero lt = items_base n
  items_after (suc k) lt = new_behind (any_functions k) (level_functions k) (items_name n) (items_after k (omega arith)) (items_of_level k (omega arith))

  pairs_of_level : (k : ℕ) → k < n → IsNew (pairs_name n) (level_functions k)
  unfolding items_end pairs_end any_end
  pairs_of_level k lt = (items_pairs k n, (other_pairs k n (omega arith) le (λ e. omega arith), (any_pairs (suc k) n, tt)))

  pairs_after : (k : ℕ) → k ≤ n → IsNew (pairs_name n) (any_functions k)
  pairs_after zero lt = pairs_base n
  pairs_after (suc k) lt = new_behind (any_functions k) (level_functions k) (pairs_name n) (pairs_after k (omega arith)) (pairs_of_level k (omega arith))

  pub any_of_level : (k : ℕ) → suc k ≤ 32 → (suc k ≡ n → ⊥) → IsNew (any_name n) (level_functions k)
  unfolding items_end pairs_end any_end
  any_of_level k lt ne = (items_any k n, (pairs_any k n, (other_any (suc k) n lt le ne, tt)))

  any_base : 0 < n → IsNew (any_name n) (any_functions 0)
  unfolding text_end any_end
  any_base lt = (text_any n, (other_any 0 n (omega arith) le (λ e. omega arith), tt))

  any_after : (k : ℕ) → k < n → IsNew (any_name n) (any_functions k)
  any_after zero lt = any_base lt
  any_after (suc k) lt = new_behind (any_functions k) (level_functions k) (any_name n) (any_after k (omega arith)) (any_of_level k (omega arith) (λ e. omega arith))

-- the names of the next level
pub level_after : (k : ℕ) → k < 32 → AreNew (level_names k) (any_functions k)
level_after k lt = (items_after k (omega arith) k (omega arith), (pairs_after k (omega arith) k (omega arith), (any_after (suc k) lt k (omega arith), tt)))

-- the names of one level among all
among_step : (depth k : ℕ) (items : List CItem) → (k < depth → AreNew (level_names k) items) → AreNew (level_names depth) items → k < suc depth → (b : Bool) → nat_eq depth k ≡ b → AreNew (level_names k) items
among_step depth k items ih last lt true e = subst (λ (n : ℕ). AreNew (level_names n) items) (eqb-true depth k e) last
among_step depth k items ih last lt false e = ih (omega (arith, eqb-false depth k e))

pub level_among : (depth k : ℕ) → k < depth → (items : List CItem) → AreNew (any_names depth) items → AreNew (level_names k) items
level_among zero k lt items h = absurd (omega arith)
level_among (suc depth) k lt items h =
    among_step depth k items (λ less. level_among depth k less items (first_names (any_names depth) (level_names depth) items h)) (last_names (any_names depth) (level_names depth) items h) lt (nat_eq depth k) refl

-- the names up to a lower depth
below_step : (depth k : ℕ) (items : List CItem) → (k ≤ depth → AreNew (any_names k) items) → AreNew (any_names (suc depth)) items → k ≤ suc depth → (b : Bool) → nat_eq k (suc depth) ≡ b → AreNew (any_names k) items
below_step depth k items ih all le true e = subst (λ (n : ℕ). AreNew (any_names n) items) (sym (eqb-true k (suc depth) e)) all
below_step depth k items ih all le false e = ih (omega (arith, eqb-false k (suc depth) e))

pub names_below : (depth k : ℕ) → k ≤ depth → (items : List CItem) → AreNew (any_names depth) items → AreNew (any_names k) items
names_below zero zero le items h = h
names_below zero (suc k) le items h = absurd (omega arith)
names_below (suc depth) k le items h =
    below_step depth k items (λ less. names_below depth k less items (first_names (any_names depth) (level_names depth) items h)) h le (nat_eq k (suc depth)) refl

-- ---- other names behind those with a depth

heads_level : (k : ℕ) → AreNew head_names (level_functions k)
unfolding items_end pairs_end any_end any_name items_name pairs_name
heads_level k = all_new_by head_names (level_functions k) refl

own_level : (k : ℕ) → IsNew (codes "own_end") (level_functions k)
unfolding items_end pairs_end any_end any_name items_name pairs_name
own_level k = new_by (codes "own_end") (level_functions k) refl

end_level : (k : ℕ) → IsNew (codes "item_end") (level_functions k)
unfolding items_end pairs_end any_end any_name items_name pairs_name
end_level k = new_by (codes "item_end") (level_functions k) refl

pairs_inside : (k : ℕ) → bytes_eq (pairs_name k) (codes "items_inside") ≡ false
unfolding pairs_name
pairs_inside k = refl

any_inside : (k : ℕ) → bytes_eq (any_name k) (codes "items_inside") ≡ false
unfolding any_name
any_inside k = refl

inside_level : (k : ℕ) → k ≤ 32 → IsNew (codes "items_inside") (level_functions k)
unfolding items_end pairs_end any_end
inside_level k le = (items_inside_not k le, (pairs_inside k, (any_inside (suc k), tt)))

others_level : (k : ℕ) → AreNew (utf8_names ++ codes "compare_bytes" ∷ []) (level_functions k)
unfolding items_end pairs_end any_end any_name items_name pairs_name
others_level k = all_new_by (utf8_names ++ codes "compare_bytes" ∷ []) (level_functions k) refl

front_level : (k : ℕ) → k ≤ 32 → AreNew front_names (level_functions k)
front_level k le =
    both_names head_names (extent_names ++ (utf8_names ++ codes "compare_bytes" ∷ [])) (level_functions k) (heads_level k) (own_level k, (inside_level k le, (end_level k, others_level k)))

front_base : AreNew front_names (any_functions 0)
unfolding text_end any_end any_name
front_base = all_new_by front_names (any_functions 0) refl

pub front_any : (depth : ℕ) → depth ≤ 32 → AreNew front_names (any_functions depth)
front_any zero le = front_base
front_any (suc k) le = new_in_both front_names (any_functions k) (level_functions k) (front_any k (omega arith)) (front_level k (omega arith))

writing_level : (k : ℕ) → AreNew writing_names (level_functions k)
unfolding items_end pairs_end any_end any_name items_name pairs_name
writing_level k = all_new_by writing_names (level_functions k) refl

writing_base : AreNew writing_names (any_functions 0)
unfolding text_end any_end any_name
writing_base = all_new_by writing_names (any_functions 0) refl

pub writing_any : (depth : ℕ) → AreNew writing_names (any_functions depth)
writing_any zero = writing_base
writing_any (suc k) = new_in_both writing_names (any_functions k) (level_functions k) (writing_any k) (writing_level k)

level_writing : (k : ℕ) → AreNew (level_names k) writing_functions
unfolding any_name items_name pairs_name head_length store_be16 store_be32 store_be64 put_head copy_bytes
level_writing k = all_new_by (level_names k) writing_functions refl

base_writing : AreNew (any_names 0) writing_functions
unfolding any_name head_length store_be16 store_be32 store_be64 put_head copy_bytes
base_writing = all_new_by (any_names 0) writing_functions refl

pub any_before_writing : (depth : ℕ) → AreNew (any_names depth) writing_functions
any_before_writing zero = base_writing
any_before_writing (suc k) = both_names (any_names k) (level_names k) writing_functions (any_before_writing k) (level_writing k)
