-- The functions that find the end of an item behind other items: each is valid there, and means what it is to mean.
use Rattle.std.proofs.Common.{◌+◌, List, [], ◌∷◌, ◌++◌, length, refl, rules}
use Rattle.std.specs.Prelude.{codes}
use denote.Hole.Carrier.{hidden}
use Rattle.ecd_cast.specs.declared.tree.Expr.TheBlock as exprs
use Rattle.ecd_cast.specs.declared.tree.Stmt.TheBlock as stmts
use Rattle.ecd_cast.specs.declared.tree.CItem.{CItem}
use Rattle.ecd_cast.specs.declared.tree.CItem.TheVariants.{Function as AFunction}
use Rattle.ecd_cast.specs.Meaning.{calls_of}
use Rattle.ecd_cast.specs.Validity.{IsValidAfter}
use Rattle.ecd_cast.specs.Spelling.{IsSpelledItem}
use Rattle.ecd_fixed_heads.specs.Meanings.{HeadArgument, HeadEnd}
use Rattle.ecd_fixed_heads.specs.Heads.{head_functions, load_be16, load_be32, load_be64, head_size, head_least, head_argument, head_end, head_within}
use Rattle.ecd_emit.specs.Among.{AreNew, IsAmong}
use Rattle.ecd_fixed_heads.specs.Standing.{HeadsAreThere, HeadsMean}
use Rattle.ecd_fixed_heads.specs.Extents.{own_end, items_inside, item_end, extent_functions, extent_names, OwnEnd, ItemsInside, ItemEnd}
use Rattle.ecd_fixed_heads.specs.ExtentsStanding.{ExtentsAreThere, ExtentsMean, ExtentsAreKept}
use Rattle.ecd_emit.proofs.Kept.{callee_kept, among_kept}
use Rattle.ecd_emit.specs.Among.{IsFree}
use Rattle.ecd_emit.proofs.Placed.{placed_last, kept, free_behind, among}
use Rattle.ecd_fixed_heads.proofs.Extending.{own_answers, inside_answers, item_answers}

-- ---- valid, and spelled

own_valid : (before : List CItem) → IsFree (codes "own_end") before → IsAmong head_end before → IsAmong head_argument before → IsValidAfter before (AFunction own_end)
unfolding head_end head_argument own_end exprs.shape-the_row-Expr-0 exprs.hidden-the_row-Expr-0 hidden stmts.shape-the_row-Stmt-0 stmts.hidden-the_row-Stmt-0
own_valid before free ends argument = record { sound = rw (free, ends, argument) refl }

inside_valid : (before : List CItem) → IsFree (codes "items_inside") before → IsAmong head_argument before → IsValidAfter before (AFunction items_inside)
unfolding head_argument items_inside exprs.shape-the_row-Expr-0 exprs.hidden-the_row-Expr-0 hidden stmts.shape-the_row-Stmt-0 stmts.hidden-the_row-Stmt-0
inside_valid before free argument = record { sound = rw (free, argument) refl }

item_valid : (before : List CItem) → IsFree (codes "item_end") before → IsAmong own_end before → IsAmong items_inside before → IsValidAfter before (AFunction item_end)
unfolding own_end items_inside item_end exprs.shape-the_row-Expr-0 exprs.hidden-the_row-Expr-0 hidden stmts.shape-the_row-Stmt-0 stmts.hidden-the_row-Stmt-0
item_valid before free own parts = record { sound = rw (free, own, parts) refl }

pub own_spelled : IsSpelledItem (AFunction own_end)
unfolding own_end exprs.shape-the_row-Expr-0 exprs.hidden-the_row-Expr-0 hidden stmts.shape-the_row-Stmt-0 stmts.hidden-the_row-Stmt-0
own_spelled = search rules

pub inside_spelled : IsSpelledItem (AFunction items_inside)
unfolding items_inside exprs.shape-the_row-Expr-0 exprs.hidden-the_row-Expr-0 hidden stmts.shape-the_row-Stmt-0 stmts.hidden-the_row-Stmt-0
inside_spelled = search rules

pub item_spelled : IsSpelledItem (AFunction item_end)
unfolding item_end exprs.shape-the_row-Expr-0 exprs.hidden-the_row-Expr-0 hidden stmts.shape-the_row-Stmt-0 stmts.hidden-the_row-Stmt-0
item_spelled = search rules

-- ---- one behind the other

abbrev pub one_extent : List CItem
one_extent = AFunction own_end ∷ []

abbrev pub two_extents : List CItem
two_extents = AFunction own_end ∷ AFunction items_inside ∷ []

module _ (old : List CItem) (there : HeadsAreThere old) (new : AreNew extent_names old) where
  pub valid_own : IsValidAfter (old ++ []) (AFunction own_end)
  valid_own = own_valid (old ++ []) (free_behind old [] (codes "own_end") new.0 tt) (among_kept head_end old [] there.end) (among_kept head_argument old [] there.argument)

  pub valid_inside : IsValidAfter (old ++ one_extent) (AFunction items_inside)
  unfolding own_end
  valid_inside = inside_valid (old ++ one_extent) (free_behind old one_extent (codes "items_inside") new.1.0 (refl, tt)) (among_kept head_argument old one_extent there.argument)

  pub valid_item : IsValidAfter (old ++ two_extents) (AFunction item_end)
  unfolding own_end items_inside
  valid_item = item_valid (old ++ two_extents) (free_behind old two_extents (codes "item_end") new.1.1.0 (refl, (refl, tt)))
      (among old two_extents own_end (codes "own_end") refl new.0 refl) (among old two_extents items_inside (codes "items_inside") refl new.1.0 refl)

  pub extents_are_there : ExtentsAreThere (old ++ extent_functions)
  unfolding own_end items_inside item_end
  extents_are_there = record {
    own = among old extent_functions own_end (codes "own_end") refl new.0 refl;
    inside = among old extent_functions items_inside (codes "items_inside") refl new.1.0 refl;
    end = among old extent_functions item_end (codes "item_end") refl new.1.1.0 refl;
  }

-- ---- what they mean there

module _ (old : List CItem) (mean : HeadsMean old) where
  own_means : OwnEnd (calls_of (old ++ one_extent) (codes "own_end"))
  unfolding own_end
  own_means =
      let before : List CItem = old ++ [] in
      let ends : HeadEnd (calls_of before (codes "head_end")) = callee_kept HeadEnd old [] (codes "head_end") tt mean.end in
      let arguments : HeadArgument (calls_of before (codes "head_argument")) = callee_kept HeadArgument old [] (codes "head_argument") tt mean.argument in
      placed_last OwnEnd old [] own_end (record { answers = λ block offset len at m bytes w le. own_answers (calls_of before) (0 + length before) block offset len at m bytes w ends arguments le })

  inside_means : ItemsInside (calls_of (old ++ two_extents) (codes "items_inside"))
  unfolding own_end items_inside
  inside_means =
      let before : List CItem = old ++ one_extent in
      let arguments : HeadArgument (calls_of before (codes "head_argument")) = callee_kept HeadArgument old one_extent (codes "head_argument") (refl, tt) mean.argument in
      placed_last ItemsInside old one_extent items_inside (record {
        answers = λ block offset len at size m bytes head w read lt. inside_answers (calls_of before) (0 + length before) block offset len at m bytes w size head arguments read lt;
      })

  item_means : ItemEnd (calls_of (old ++ extent_functions) (codes "item_end"))
  unfolding items_inside item_end
  item_means =
      let before : List CItem = old ++ two_extents in
      let own = kept OwnEnd old one_extent (AFunction items_inside ∷ []) (codes "own_end") (refl, tt) own_means in
      placed_last ItemEnd old two_extents item_end (record { answers = λ block offset len at m bytes w le. item_answers (calls_of before) (0 + length before) block offset len at m bytes w le own inside_means })

  pub extents_mean : ExtentsMean (old ++ extent_functions)
  unfolding items_inside item_end
  extents_mean = record {
    own = kept OwnEnd old one_extent (AFunction items_inside ∷ AFunction item_end ∷ []) (codes "own_end") (refl, (refl, tt)) own_means;
    inside = kept ItemsInside old two_extents (AFunction item_end ∷ []) (codes "items_inside") (refl, tt) inside_means;
    end = item_means;
  }

-- ---- and stay so

there_kept : (items more : List CItem) → ExtentsAreThere items → ExtentsAreThere (items ++ more)
there_kept items more h = record {
  own = among_kept own_end items more h.own;
  inside = among_kept items_inside items more h.inside;
  end = among_kept item_end items more h.end;
}

mean_kept : (items more : List CItem) → AreNew extent_names more → ExtentsMean items → ExtentsMean (items ++ more)
mean_kept items more new h = record {
  own = callee_kept OwnEnd items more (codes "own_end") new.0 h.own;
  inside = callee_kept ItemsInside items more (codes "items_inside") new.1.0 h.inside;
  end = callee_kept ItemEnd items more (codes "item_end") new.1.1.0 h.end;
}

pub extents_are_kept : ExtentsAreKept
extents_are_kept = record { there = there_kept; mean = mean_kept }

-- the names are none of those over heads
pub new_behind_heads : AreNew extent_names head_functions
unfolding load_be16 load_be32 load_be64 head_size head_least head_argument head_end head_within
new_behind_heads =
    ((refl, (refl, (refl, (refl, (refl, (refl, (refl, (refl, tt)))))))), ((refl, (refl, (refl, (refl, (refl, (refl, (refl, (refl, tt)))))))), ((refl, (refl, (refl, (refl, (refl, (refl, (refl, (refl, tt)))))))), tt)))
