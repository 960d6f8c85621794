-- The functions with a depth behind other items: each is valid there, and means what it is to mean.
use Rattle.std.proofs.Common.{◌≡◌, ℕ, suc, ◌+◌, ◌*◌, ◌<◌, ◌≤◌, true, false, List, [], ◌∷◌, ◌++◌, length, None, refl, sym, subst, ◌∙◌, arith, rules, append_assoc}
use Rattle.std.specs.Prelude.{codes, bytes_eq}
use Rattle.std.proofs.lemmas.Slice.Eq.{bytes_eq-Decides}
use denote.Hole.Carrier.{hidden}
use Rattle.ecd_cast.specs.declared.tree.Expr.TheBlock as exprs
use Rattle.ecd_cast.specs.declared.tree.Stmt.TheBlock as stmts
use Rattle.ecd_cast.specs.declared.tree.Function.{Function}
use Rattle.ecd_cast.specs.declared.tree.CItem.{CItem}
use Rattle.ecd_cast.specs.declared.tree.CItem.TheVariants.{Function as AFunction}
use Rattle.ecd_cast.specs.Memory.{Name}
use Rattle.ecd_cast.specs.Kept.{IsNew}
use Rattle.ecd_cast.specs.Meaning.{calls_of}
use Rattle.ecd_cast.specs.Validity.{IsValidAfter}
use Rattle.ecd_cast.specs.Spelling.{IsSpelledItem, IsName}
use Rattle.ecd_keyorder.specs.declared.Order.{Order}
use Rattle.ecd_item_laws.specs.Reading.{item_at, many, pairs}
use Rattle.ecd_fixed_heads.specs.Meanings.{HeadArgument}
use Rattle.ecd_fixed_heads.specs.Heads.{head_argument}
use Rattle.ecd_fixed_heads.specs.Extents.{own_end, OwnEnd}
use Rattle.ecd_fixed_bytes.specs.Utf8.{utf8_valid, ChecksUtf8}
use Rattle.ecd_fixed_bytes.specs.Compare.{compare_bytes, ComparesBytes}
use Rattle.ecd_emit.specs.Among.{AreNew, IsAmong}
use Rattle.ecd_fixed_bytes.specs.Standing.{ComparisonIsThere}
use Rattle.ecd_fixed_bytes.proofs.Kept.{comparison_is_kept}
use Rattle.ecd_emit.proofs.Kept.{callee_kept, among_kept}
use Rattle.ecd_emit.specs.Among.{IsFree}
use Rattle.ecd_emit.proofs.Placed.{placed_last, kept, free_behind, named_behind, new_behind}
use Rattle.ecd_rt.specs.Names.{any_name, items_name, pairs_name}
use Rattle.ecd_rt.specs.Trees.{text_end, items_end, pairs_end, any_end, level_functions, level_names, any_functions, any_names}
use Rattle.ecd_rt.specs.Standing.{FrontIsThere, FrontMeans, LevelIsThere}
use Rattle.ecd_rt.proofs.Naming.{any_is, items_is, pairs_is, items_any, pairs_any, items_pairs, pairs_items}
use Rattle.ecd_rt.proofs.Readers.{item_advances}
use Rattle.ecd_rt.proofs.Following.{Follows, FollowsMany, items_answers}
use Rattle.ecd_rt.proofs.Pairing.{pairs_answers}
use Rattle.ecd_rt.specs.Meanings.{TextEnd}
use Rattle.ecd_rt.proofs.Texting.{text_answers}
use Rattle.ecd_rt.proofs.Deepening.{leaf_follows, level_follows}

-- ---- valid

pub text_valid : (before : List CItem) → IsFree (codes "text_end") before → IsAmong head_argument before → IsAmong utf8_valid before → IsValidAfter before (AFunction text_end)
unfolding head_argument utf8_valid text_end exprs.shape-the_row-Expr-0 exprs.hidden-the_row-Expr-0 hidden stmts.shape-the_row-Stmt-0 stmts.hidden-the_row-Stmt-0
text_valid before free argument utf8 = record { sound = rw (free, argument, utf8) refl }

pub items_valid : (below : ℕ) (before : List CItem) → IsFree (items_name below) before → IsAmong (any_end below) before → IsValidAfter before (AFunction (items_end below))
unfolding any_end items_end exprs.shape-the_row-Expr-0 exprs.hidden-the_row-Expr-0 hidden stmts.shape-the_row-Stmt-0 stmts.hidden-the_row-Stmt-0
items_valid below before free any = record { sound = rw (free, any) refl }

pub pairs_valid : (below : ℕ) (before : List CItem) → IsFree (pairs_name below) before → IsAmong (any_end below) before → ComparisonIsThere before → IsValidAfter before (AFunction (pairs_end below))
unfolding any_end pairs_end compare_bytes exprs.shape-the_row-Expr-0 exprs.hidden-the_row-Expr-0 hidden stmts.shape-the_row-Stmt-0 stmts.hidden-the_row-Stmt-0
pairs_valid below before free any compare = record { sound = rw (free, any, compare.there) refl }

pub leaf_valid : (before : List CItem) → IsFree (any_name 0) before → IsAmong own_end before → IsAmong text_end before → IsValidAfter before (AFunction (any_end 0))
unfolding own_end text_end any_end exprs.shape-the_row-Expr-0 exprs.hidden-the_row-Expr-0 hidden stmts.shape-the_row-Stmt-0 stmts.hidden-the_row-Stmt-0
leaf_valid before free own text = record { sound = rw (free, own, text) refl }

pub any_valid : (below : ℕ) (before : List CItem) → IsFree (any_name (suc below)) before → IsAmong own_end before → IsAmong text_end before → IsAmong head_argument before → IsAmong (any_end below) before → IsAmong (items_end below) before → IsAmong (pairs_end below) before →
    IsValidAfter before (AFunction (any_end (suc below)))
unfolding own_end text_end head_argument any_end items_end pairs_end exprs.shape-the_row-Expr-0 exprs.hidden-the_row-Expr-0 hidden stmts.shape-the_row-Stmt-0 stmts.hidden-the_row-Stmt-0
any_valid below before free own text argument any items all_pairs = record { sound = rw (free, own, text, argument, any, items, all_pairs) refl }

-- ---- spelled

pub text_spelled : IsSpelledItem (AFunction text_end)
unfolding text_end exprs.shape-the_row-Expr-0 exprs.hidden-the_row-Expr-0 hidden stmts.shape-the_row-Stmt-0 stmts.hidden-the_row-Stmt-0
text_spelled = search rules

items_spelled_by : (below : ℕ) → IsName (items_name below) → IsName (any_name below) → IsSpelledItem (AFunction (items_end below))
unfolding items_end exprs.shape-the_row-Expr-0 exprs.hidden-the_row-Expr-0 hidden stmts.shape-the_row-Stmt-0 stmts.hidden-the_row-Stmt-0
items_spelled_by below h k = search (rules, h, k)

pub items_spelled : (below : ℕ) → below ≤ 32 → IsSpelledItem (AFunction (items_end below))
items_spelled below le = items_spelled_by below (items_is below le) (any_is below le)

pairs_spelled_by : (below : ℕ) → IsName (pairs_name below) → IsName (any_name below) → IsSpelledItem (AFunction (pairs_end below))
unfolding pairs_end exprs.shape-the_row-Expr-0 exprs.hidden-the_row-Expr-0 hidden stmts.shape-the_row-Stmt-0 stmts.hidden-the_row-Stmt-0
pairs_spelled_by below h k = search (rules, h, k)

pub pairs_spelled : (below : ℕ) → below ≤ 32 → IsSpelledItem (AFunction (pairs_end below))
pairs_spelled below le = pairs_spelled_by below (pairs_is below le) (any_is below le)

leaf_spelled_by : IsName (any_name 0) → IsSpelledItem (AFunction (any_end 0))
unfolding any_end exprs.shape-the_row-Expr-0 exprs.hidden-the_row-Expr-0 hidden stmts.shape-the_row-Stmt-0 stmts.hidden-the_row-Stmt-0
leaf_spelled_by h = search (rules, h)

pub leaf_spelled : IsSpelledItem (AFunction (any_end 0))
leaf_spelled = leaf_spelled_by (any_is 0 (omega arith))

any_spelled_by : (below : ℕ) → IsName (any_name (suc below)) → IsName (any_name below) → IsName (items_name below) → IsName (pairs_name below) → IsSpelledItem (AFunction (any_end (suc below)))
unfolding any_end exprs.shape-the_row-Expr-0 exprs.hidden-the_row-Expr-0 hidden stmts.shape-the_row-Stmt-0 stmts.hidden-the_row-Stmt-0
any_spelled_by below h k l n = search (rules, h, k, l, n)

pub any_spelled : (below : ℕ) → below < 32 → IsSpelledItem (AFunction (any_end (suc below)))
any_spelled below lt = any_spelled_by below (any_is (suc below) (omega arith)) (any_is below (omega arith)) (items_is below (omega arith)) (pairs_is below (omega arith))

-- ---- put behind others

same_name : (g : Name) → bytes_eq g g ≡ true
same_name g = (bytes_eq-Decides g g).1 refl

-- a function that is put last is the first of its name
pub put_last : (items : List CItem) (f : Function) (g : Name) → f.name ≡ g → IsNew g items → IsAmong f (items ++ AFunction f ∷ [])
put_last items f g e new =
    let new_2 : IsNew f.name items = subst (λ (x : Name). IsNew x items) (sym e) new in
    named_behind items (AFunction f ∷ []) f.name new_2 ∙ rw (same_name f.name) refl

abbrev pub one_leaf : List CItem
one_leaf = AFunction text_end ∷ []

abbrev pub one_level : ℕ → List CItem
one_level below = AFunction (items_end below) ∷ []

abbrev pub two_levels : ℕ → List CItem
two_levels below = AFunction (items_end below) ∷ AFunction (pairs_end below) ∷ []

module _ (old : List CItem) (there : FrontIsThere old) (new : AreNew (any_names 0) old) where
  pub valid_text : IsValidAfter (old ++ []) (AFunction text_end)
  valid_text = text_valid (old ++ []) (free_behind old [] (codes "text_end") new.0 tt) (among_kept head_argument old [] there.heads.argument) (among_kept utf8_valid old [] there.utf8.valid)

  text_among : IsAmong text_end (old ++ one_leaf)
  unfolding text_end
  text_among = put_last old text_end (codes "text_end") refl new.0

  pub text_among_2 : IsAmong text_end (old ++ any_functions 0)
  text_among_2 = subst (IsAmong text_end) (append_assoc old one_leaf (AFunction (any_end 0) ∷ [])) (among_kept text_end (old ++ one_leaf) (AFunction (any_end 0) ∷ []) text_among)

  leaf_new : IsNew (any_name 0) one_leaf
  unfolding text_end any_name
  leaf_new = (refl, tt)

  pub valid_leaf : IsValidAfter (old ++ one_leaf) (AFunction (any_end 0))
  valid_leaf = leaf_valid (old ++ one_leaf) (free_behind old one_leaf (any_name 0) new.1.0 leaf_new) (among_kept own_end old one_leaf there.extents.own) text_among

  pub leaf_among : IsAmong (any_end 0) (old ++ any_functions 0)
  unfolding any_end
  leaf_among = subst (IsAmong (any_end 0)) (append_assoc old one_leaf (AFunction (any_end 0) ∷ [])) (put_last (old ++ one_leaf) (any_end 0) (any_name 0) refl (new_behind old one_leaf (any_name 0) new.1.0 leaf_new))

module _ (below : ℕ) (base : List CItem) (there : LevelIsThere below base) (new : AreNew (level_names below) base) where
  pub valid_items : IsValidAfter (base ++ []) (AFunction (items_end below))
  valid_items = items_valid below (base ++ []) (free_behind base [] (items_name below) new.0 tt) (among_kept (any_end below) base [] there.any)

  pairs_new : IsNew (pairs_name below) (one_level below)
  unfolding items_end
  pairs_new = (items_pairs below below, tt)

  pub valid_pairs : IsValidAfter (base ++ one_level below) (AFunction (pairs_end below))
  valid_pairs = pairs_valid below (base ++ one_level below) (free_behind base (one_level below) (pairs_name below) new.1.0 pairs_new) (among_kept (any_end below) base (one_level below) there.any) (comparison_is_kept.there base (one_level below) there.comparison)

  any_new : IsNew (any_name (suc below)) (two_levels below)
  unfolding items_end pairs_end
  any_new = (items_any below (suc below), (pairs_any below (suc below), tt))

  items_among : IsAmong (items_end below) (base ++ one_level below)
  unfolding items_end
  items_among = put_last base (items_end below) (items_name below) refl new.0

  pairs_among : IsAmong (pairs_end below) ((base ++ one_level below) ++ AFunction (pairs_end below) ∷ [])
  unfolding pairs_end
  pairs_among = put_last (base ++ one_level below) (pairs_end below) (pairs_name below) refl (new_behind base (one_level below) (pairs_name below) new.1.0 pairs_new)

  items_among_2 : IsAmong (items_end below) (base ++ two_levels below)
  items_among_2 = subst (IsAmong (items_end below)) (append_assoc base (one_level below) (AFunction (pairs_end below) ∷ [])) (among_kept (items_end below) (base ++ one_level below) (AFunction (pairs_end below) ∷ []) items_among)

  pairs_among_2 : IsAmong (pairs_end below) (base ++ two_levels below)
  pairs_among_2 = subst (IsAmong (pairs_end below)) (append_assoc base (one_level below) (AFunction (pairs_end below) ∷ [])) pairs_among

  pub valid_any : IsValidAfter (base ++ two_levels below) (AFunction (any_end (suc below)))
  valid_any = any_valid below (base ++ two_levels below) (free_behind base (two_levels below) (any_name (suc below)) new.1.1.0 any_new) (among_kept own_end base (two_levels below) there.own) (among_kept text_end base (two_levels below) there.text)
      (among_kept head_argument base (two_levels below) there.argument) (among_kept (any_end below) base (two_levels below) there.any) items_among_2 pairs_among_2

  pub last_any : IsAmong (any_end (suc below)) (base ++ level_functions below)
  unfolding any_end
  last_any = subst (IsAmong (any_end (suc below))) (append_assoc base (two_levels below) (AFunction (any_end (suc below)) ∷ []))
      (put_last (base ++ two_levels below) (any_end (suc below)) (any_name (suc below)) refl (new_behind base (two_levels below) (any_name (suc below)) new.1.1.0 any_new))

-- ---- what they mean there

-- what a level means that others stand on
pub record LevelMeans (order : Order) (below : ℕ) (base : List CItem) : Type 0 where
  pub own : OwnEnd (calls_of base (codes "own_end"))
  pub argument : HeadArgument (calls_of base (codes "head_argument"))
  pub compare : ComparesBytes order (calls_of base (codes "compare_bytes"))
  pub text : TextEnd (calls_of base (codes "text_end"))
  pub any : Follows (item_at order below) (162 * (below + 1)) (calls_of base (any_name below))

module _ (order : Order) (old : List CItem) (mean : FrontMeans order old) where
  text_means : TextEnd (calls_of (old ++ one_leaf) (codes "text_end"))
  unfolding text_end
  text_means =
      let before : List CItem = old ++ [] in
      let arguments : HeadArgument (calls_of before (codes "head_argument")) = callee_kept HeadArgument old [] (codes "head_argument") tt mean.heads.argument in
      let checks : ChecksUtf8 (calls_of before (codes "utf8_valid")) = callee_kept ChecksUtf8 old [] (codes "utf8_valid") tt mean.utf8.valid in
      placed_last TextEnd old [] text_end (record {
        answers = λ block offset len at size end m bytes head w read is_end fits. text_answers (calls_of before) (0 + length before) block offset len at size end m bytes head w read is_end fits arguments checks;
      })

  own_text : bytes_eq (text_end.name) (codes "own_end") ≡ false
  unfolding text_end
  own_text = refl

  argument_text : bytes_eq (text_end.name) (codes "head_argument") ≡ false
  unfolding text_end
  argument_text = refl

  compare_text : bytes_eq (text_end.name) (codes "compare_bytes") ≡ false
  unfolding text_end
  compare_text = refl

  leaf_means : Follows (item_at order 0) (162 * (0 + 1)) (calls_of (old ++ any_functions 0) (any_name 0))
  unfolding any_end
  leaf_means =
      let before : List CItem = old ++ one_leaf in
      let own : OwnEnd (calls_of before (codes "own_end")) = callee_kept OwnEnd old one_leaf (codes "own_end") (own_text, tt) mean.extents.own in
      let arguments : HeadArgument (calls_of before (codes "head_argument")) = callee_kept HeadArgument old one_leaf (codes "head_argument") (argument_text, tt) mean.heads.argument in
      placed_last (Follows (item_at order 0) (162 * (0 + 1))) old one_leaf (any_end 0) (leaf_follows order (calls_of before) (0 + length before) own text_means arguments)

  leaf_tail : IsNew (codes "text_end") (AFunction (any_end 0) ∷ [])
  unfolding any_end any_name
  leaf_tail = (refl, tt)

  own_leaf : IsNew (codes "own_end") (any_functions 0)
  unfolding text_end any_end any_name
  own_leaf = (refl, (refl, tt))

  argument_leaf : IsNew (codes "head_argument") (any_functions 0)
  unfolding text_end any_end any_name
  argument_leaf = (refl, (refl, tt))

  compare_leaf : IsNew (codes "compare_bytes") (any_functions 0)
  unfolding text_end any_end any_name
  compare_leaf = (refl, (refl, tt))

  pub base_means : LevelMeans order 0 (old ++ any_functions 0)
  base_means = record {
    own = callee_kept OwnEnd old (any_functions 0) (codes "own_end") own_leaf mean.extents.own;
    argument = callee_kept HeadArgument old (any_functions 0) (codes "head_argument") argument_leaf mean.heads.argument;
    compare = callee_kept (ComparesBytes order) old (any_functions 0) (codes "compare_bytes") compare_leaf mean.comparison;
    text = kept TextEnd old one_leaf (AFunction (any_end 0) ∷ []) (codes "text_end") leaf_tail text_means;
    any = leaf_means;
  }

own_of_level : (k : ℕ) → IsNew (codes "own_end") (level_functions k)
unfolding items_end pairs_end any_end any_name items_name pairs_name
own_of_level k = (refl, (refl, (refl, tt)))

argument_of_level : (k : ℕ) → IsNew (codes "head_argument") (level_functions k)
unfolding items_end pairs_end any_end any_name items_name pairs_name
argument_of_level k = (refl, (refl, (refl, tt)))

compare_of_level : (k : ℕ) → IsNew (codes "compare_bytes") (level_functions k)
unfolding items_end pairs_end any_end any_name items_name pairs_name
compare_of_level k = (refl, (refl, (refl, tt)))

text_of_level : (k : ℕ) → IsNew (codes "text_end") (level_functions k)
unfolding items_end pairs_end any_end any_name items_name pairs_name
text_of_level k = (refl, (refl, (refl, tt)))

module _ (order : Order) (below : ℕ) (base : List CItem) (mean : LevelMeans order below base) where
  abbrev each : ℕ
  each = 162 * (below + 1)

  items_mean : FollowsMany (many (item_at order below)) (each + 4) 3 (calls_of (base ++ one_level below) (items_name below))
  unfolding items_end
  items_mean =
      let before : List CItem = base ++ [] in
      let any : Follows (item_at order below) each (calls_of before (any_name below)) = callee_kept (Follows (item_at order below) each) base [] (any_name below) tt mean.any in
      placed_last (FollowsMany (many (item_at order below)) (each + 4) 3) base [] (items_end below) (record {
        answers = λ block offset len at count m bytes w le. items_answers (item_at order below) (item_advances order below) each below (calls_of before) (0 + length before) block offset len at count m bytes w le any;
      })

  any_items_new : IsNew (any_name below) (one_level below)
  unfolding items_end
  any_items_new = (items_any below below, tt)

  compare_items_new : IsNew (codes "compare_bytes") (one_level below)
  unfolding items_end items_name
  compare_items_new = (refl, tt)

  pairs_mean : FollowsMany (λ n. pairs order (item_at order below) None n) (each + 27) 5 (calls_of (base ++ two_levels below) (pairs_name below))
  unfolding pairs_end
  pairs_mean =
      let before : List CItem = base ++ one_level below in
      let any : Follows (item_at order below) each (calls_of before (any_name below)) = callee_kept (Follows (item_at order below) each) base (one_level below) (any_name below) any_items_new mean.any in
      let compares : ComparesBytes order (calls_of before (codes "compare_bytes")) = callee_kept (ComparesBytes order) base (one_level below) (codes "compare_bytes") compare_items_new mean.compare in
      placed_last (FollowsMany (λ n. pairs order (item_at order below) None n) (each + 27) 5) base (one_level below) (pairs_end below) (record {
        answers = λ block offset len at count m bytes w le. pairs_answers order (item_at order below) (item_advances order below) each below (calls_of before) (0 + length before) block offset len at count m bytes w le any compares;
      })

  items_pairs_new : IsNew (items_name below) (AFunction (pairs_end below) ∷ [])
  unfolding pairs_end
  items_pairs_new = (pairs_items below below, tt)

  any_two_new : IsNew (any_name below) (two_levels below)
  unfolding items_end pairs_end
  any_two_new = (items_any below below, (pairs_any below below, tt))

  own_two : IsNew (codes "own_end") (two_levels below)
  unfolding items_end pairs_end items_name pairs_name
  own_two = (refl, (refl, tt))

  argument_two : IsNew (codes "head_argument") (two_levels below)
  unfolding items_end pairs_end items_name pairs_name
  argument_two = (refl, (refl, tt))

  text_two : IsNew (codes "text_end") (two_levels below)
  unfolding items_end pairs_end items_name pairs_name
  text_two = (refl, (refl, tt))

  next_means : Follows (item_at order (suc below)) (162 * (suc below + 1)) (calls_of (base ++ level_functions below) (any_name (suc below)))
  unfolding any_end
  next_means =
      let before : List CItem = base ++ two_levels below in
      let own : OwnEnd (calls_of before (codes "own_end")) = callee_kept OwnEnd base (two_levels below) (codes "own_end") own_two mean.own in
      let text : TextEnd (calls_of before (codes "text_end")) = callee_kept TextEnd base (two_levels below) (codes "text_end") text_two mean.text in
      let argument : HeadArgument (calls_of before (codes "head_argument")) = callee_kept HeadArgument base (two_levels below) (codes "head_argument") argument_two mean.argument in
      let any : Follows (item_at order below) each (calls_of before (any_name below)) = callee_kept (Follows (item_at order below) each) base (two_levels below) (any_name below) any_two_new mean.any in
      let items = kept (FollowsMany (many (item_at order below)) (each + 4) 3) base (one_level below) (AFunction (pairs_end below) ∷ []) (items_name below) items_pairs_new items_mean in
      placed_last (Follows (item_at order (suc below)) (162 * (suc below + 1))) base (two_levels below) (any_end (suc below)) (level_follows order (calls_of before) (0 + length before) own text argument below any items pairs_mean)

  pub level_means : LevelMeans order (suc below) (base ++ level_functions below)
  level_means = record {
    own = callee_kept OwnEnd base (level_functions below) (codes "own_end") (own_of_level below) mean.own;
    argument = callee_kept HeadArgument base (level_functions below) (codes "head_argument") (argument_of_level below) mean.argument;
    compare = callee_kept (ComparesBytes order) base (level_functions below) (codes "compare_bytes") (compare_of_level below) mean.compare;
    text = callee_kept TextEnd base (level_functions below) (codes "text_end") (text_of_level below) mean.text;
    any = next_means;
  }
