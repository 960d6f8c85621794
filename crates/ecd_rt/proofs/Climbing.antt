-- All functions with a depth up to one, behind old items: level by level.
use Rattle.std.proofs.Common.{◌≡◌, ℕ, zero, suc, ◌+◌, ◌*◌, ◌<◌, ◌≤◌, Bool, true, false, List, [], ◌++◌, refl, ap, sym, subst, ◌∙◌, arith, add-one, append_assoc}
use Rattle.std.specs.Prelude.{nat_eq}
use Rattle.std.proofs.lemmas.Bool.{eqb-true, eqb-false}
use Rattle.ecd_cast.specs.declared.tree.CItem.{CItem}
use Rattle.ecd_cast.specs.Meaning.{calls_of}
use Rattle.ecd_calculus.specs.Ends.{Does}
use Rattle.ecd_keyorder.specs.declared.Order.{Order}
use Rattle.ecd_item_laws.specs.Reading.{item_at}
use Rattle.ecd_emit.specs.Windows.{Callee, IsEnd, asked}
use Rattle.ecd_fixed_heads.specs.Heads.{head_argument}
use Rattle.ecd_fixed_heads.specs.Extents.{own_end}
use Rattle.ecd_fixed_bytes.proofs.Kept.{comparison_is_kept}
use Rattle.ecd_emit.specs.Among.{AreNew, IsAmong}
use Rattle.ecd_emit.proofs.Kept.{callee_kept, among_kept}
use Rattle.ecd_rt.specs.Names.{any_name}
use Rattle.ecd_rt.specs.Trees.{text_end, any_end, level_functions, level_names, any_functions, any_names}
use Rattle.ecd_rt.specs.Meanings.{IsAny, WholeStands, paid_by}
use Rattle.ecd_rt.specs.Standing.{FrontIsThere, FrontMeans, LevelIsThere, AnyIsThere, AnyMeans}
use Rattle.ecd_rt.proofs.Readers.{item_ends}
use Rattle.ecd_rt.proofs.Following.{Follows}
use Rattle.ecd_rt.proofs.Fresh.{any_of_level, level_after, level_among, names_below, new_in_both}
use Rattle.ecd_rt.proofs.Chaining.{text_among_2, leaf_among, last_any, LevelMeans, base_means, level_means}

-- ---- they are there

-- what stands behind some levels stands behind one more
one_more : (old : List CItem) (k : ℕ) (P : List CItem → Type 0) → P ((old ++ any_functions k) ++ level_functions k) → P (old ++ any_functions (suc k))
one_more old k P h = subst P (append_assoc old (any_functions k) (level_functions k)) h

module _ (old : List CItem) (there : FrontIsThere old) where
  text_there : AreNew (any_names 0) old → (k : ℕ) → IsAmong text_end (old ++ any_functions k)
  text_there new zero = text_among_2 old there new
  text_there new (suc k) = one_more old k (IsAmong text_end) (among_kept text_end (old ++ any_functions k) (level_functions k) (text_there new k))

  level_new : (k : ℕ) → k < 32 → AreNew (any_names (suc k)) old → AreNew (level_names k) (old ++ any_functions k)
  level_new k lt new = new_in_both (level_names k) old (any_functions k) (level_among (suc k) k (omega arith) old new) (level_after k lt)

  level_there : (k : ℕ) → AreNew (any_names 0) old → IsAmong (any_end k) (old ++ any_functions k) → LevelIsThere k (old ++ any_functions k)
  level_there k new any = record {
    own = among_kept own_end old (any_functions k) there.extents.own;
    argument = among_kept head_argument old (any_functions k) there.heads.argument;
    comparison = comparison_is_kept.there old (any_functions k) there.comparison;
    text = text_there new k;
    any = any;
  }

  top_there : (k : ℕ) → k ≤ 32 → AreNew (any_names k) old → IsAmong (any_end k) (old ++ any_functions k)
  top_there zero le new = leaf_among old there new
  top_there (suc k) le new =
      let before = names_below (suc k) k (omega arith) old new in
      one_more old k (IsAmong (any_end (suc k))) (last_any k (old ++ any_functions k) (level_there k (names_below (suc k) 0 (omega arith) old new) (top_there k (omega arith) before)) (level_new k (omega arith) new))

  -- what the next level asks for
  pub next_there : (depth k : ℕ) → k < depth → depth ≤ 32 → AreNew (any_names depth) old → LevelIsThere k (old ++ any_functions k)
  next_there depth k lt le new = level_there k (names_below depth 0 (omega arith) old new) (top_there k (omega arith) (names_below depth k (omega arith) old new))

  pub next_new : (depth k : ℕ) → k < depth → depth ≤ 32 → AreNew (any_names depth) old → AreNew (level_names k) (old ++ any_functions k)
  next_new depth k lt le new = level_new k (omega arith) (names_below depth (suc k) lt old new)

  below_there : (depth k : ℕ) → IsAmong (any_end k) (old ++ any_functions depth) → IsAmong (any_end k) (old ++ any_functions (suc depth))
  below_there depth k h = one_more old depth (IsAmong (any_end k)) (among_kept (any_end k) (old ++ any_functions depth) (level_functions depth) h)

  there_step : (depth k : ℕ) → k ≤ suc depth → suc depth ≤ 32 → AreNew (any_names (suc depth)) old → (k ≤ depth → IsAmong (any_end k) (old ++ any_functions depth)) → (b : Bool) → nat_eq k (suc depth) ≡ b → IsAmong (any_end k) (old ++ any_functions (suc depth))
  there_step depth k le deep new ih true e = subst (λ (n : ℕ). IsAmong (any_end n) (old ++ any_functions (suc depth))) (sym (eqb-true k (suc depth) e)) (top_there (suc depth) deep new)
  there_step depth k le deep new ih false e = below_there depth k (ih (omega (arith, eqb-false k (suc depth) e)))

  any_there : (depth : ℕ) → depth ≤ 32 → AreNew (any_names depth) old → (k : ℕ) → k ≤ depth → IsAmong (any_end k) (old ++ any_functions depth)
  any_there zero deep new zero le = top_there 0 deep new
  any_there zero deep new (suc k) le = absurd (omega arith)
  any_there (suc depth) deep new k le =
      there_step depth k le deep new (λ less. any_there depth (omega arith) (names_below (suc depth) depth (omega arith) old new) k less) (nat_eq k (suc depth)) refl

  pub chain_there : (depth : ℕ) → depth ≤ 32 → AreNew (any_names depth) old → AnyIsThere depth (old ++ any_functions depth)
  chain_there depth deep new = record { text = text_there (names_below depth 0 (omega arith) old new) depth; each = any_there depth deep new }

-- ---- and mean what they are to mean

is_any : (order : Order) (d : ℕ) (callee : Callee) → Follows (item_at order d) (162 * (d + 1)) callee → IsAny order d callee
is_any order d callee f = record {
  answers = λ block offset len at m bytes w le.
      let a = f.answers block offset len at m bytes w le in
      record {
        answer = a.answer;
        does = subst (λ (n : ℕ). Does (callee (asked block offset len at) m) a.answer [] (162 * (d + 1) * paid_by len at n)) (sym a.has) a.does;
        has = subst (IsEnd (WholeStands order d bytes at)) (sym a.has) (item_ends order d at bytes w.each);
      };
}

module _ (order : Order) (old : List CItem) (mean : FrontMeans order old) where
  top_means : (k : ℕ) → LevelMeans order k (old ++ any_functions k)
  top_means zero = base_means order old mean
  top_means (suc k) = one_more old k (LevelMeans order (suc k)) (level_means order k (old ++ any_functions k) (top_means k))

  abbrev Means : (depth k : ℕ) → Type 0
  Means depth k = IsAny order k (calls_of (old ++ any_functions depth) (any_name k))

  top_any : (k : ℕ) → Means k k
  top_any k = is_any order k (calls_of (old ++ any_functions k) (any_name k)) (top_means k).any

  below_means : (depth k : ℕ) → k ≤ depth → suc depth ≤ 32 → Means depth k → Means (suc depth) k
  below_means depth k le deep h =
      one_more old depth (λ (items : List CItem). IsAny order k (calls_of items (any_name k))) (callee_kept (IsAny order k) (old ++ any_functions depth) (level_functions depth) (any_name k) (any_of_level k (omega arith) depth deep (λ e. omega arith)) h)

  means_step : (depth k : ℕ) → k ≤ suc depth → suc depth ≤ 32 → (k ≤ depth → Means depth k) → (b : Bool) → nat_eq k (suc depth) ≡ b → Means (suc depth) k
  means_step depth k le deep ih true e = subst (λ (n : ℕ). Means (suc depth) n) (sym (eqb-true k (suc depth) e)) (top_any (suc depth))
  means_step depth k le deep ih false e = let less : k ≤ depth = omega (arith, eqb-false k (suc depth) e) in below_means depth k less deep (ih less)

  any_means : (depth : ℕ) → depth ≤ 32 → (k : ℕ) → k ≤ depth → Means depth k
  any_means zero deep zero le = top_any 0
  any_means zero deep (suc k) le = absurd (omega arith)
  any_means (suc depth) deep k le = means_step depth k le deep (any_means depth (omega arith) k) (nat_eq k (suc depth)) refl

  pub chain_means : (depth : ℕ) → depth ≤ 32 → AnyMeans order depth (old ++ any_functions depth)
  chain_means depth deep = record { text = (top_means depth).text; each = any_means depth deep }

-- ---- the items, one level after the other

pub grown_level : (old before after : List CItem) (k : ℕ) → before ≡ old ++ any_functions k → after ≡ before ++ level_functions k → after ≡ old ++ any_functions (k + 1)
grown_level old before after k e h =
    rw add-one (h ∙ (ap (λ (l : List CItem). l ++ level_functions k) e ∙ append_assoc old (any_functions k) (level_functions k)))

pub base_new : (depth : ℕ) (old : List CItem) → AreNew (any_names depth) old → AreNew (any_names 0) old
base_new depth old new = names_below depth 0 (omega arith) old new
