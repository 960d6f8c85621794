-- Each function over heads is valid where it is put, and has a spelling.
use Rattle.std.proofs.Common.{List, refl, rules}
use Rattle.std.specs.Prelude.{codes}
use denote.Hole.Carrier.{hidden}
use Rattle.ecd_cast.specs.declared.tree.Expr.TheBlock as exprs
use Rattle.ecd_cast.specs.declared.tree.Stmt.TheBlock as stmts
use Rattle.ecd_cast.specs.declared.tree.CItem.{CItem}
use Rattle.ecd_cast.specs.declared.tree.CItem.TheVariants.{Function as AFunction}
use Rattle.ecd_cast.specs.Validity.{IsValidAfter}
use Rattle.ecd_cast.specs.Spelling.{IsSpelledItem}
use Rattle.ecd_fixed_heads.specs.Heads.{load_be16, load_be32, load_be64, head_size, head_least, head_argument, head_end, head_within}
use Rattle.ecd_emit.specs.Among.{IsAmong}
use Rattle.ecd_emit.specs.Among.{IsFree}

pub be16_valid : (before : List CItem) → IsFree (codes "load_be16") before → IsValidAfter before (AFunction load_be16)
unfolding load_be16 exprs.shape-the_row-Expr-0 exprs.hidden-the_row-Expr-0 hidden stmts.shape-the_row-Stmt-0 stmts.hidden-the_row-Stmt-0
be16_valid before free = record { sound = rw free refl }

pub be32_valid : (before : List CItem) → IsFree (codes "load_be32") before → IsAmong load_be16 before → IsValidAfter before (AFunction load_be32)
unfolding load_be16 load_be32 exprs.shape-the_row-Expr-0 exprs.hidden-the_row-Expr-0 hidden stmts.shape-the_row-Stmt-0 stmts.hidden-the_row-Stmt-0
be32_valid before free part = record { sound = rw (free, part) refl }

pub be64_valid : (before : List CItem) → IsFree (codes "load_be64") before → IsAmong load_be32 before → IsValidAfter before (AFunction load_be64)
unfolding load_be32 load_be64 exprs.shape-the_row-Expr-0 exprs.hidden-the_row-Expr-0 hidden stmts.shape-the_row-Stmt-0 stmts.hidden-the_row-Stmt-0
be64_valid before free part = record { sound = rw (free, part) refl }

pub size_valid : (before : List CItem) → IsFree (codes "head_size") before → IsValidAfter before (AFunction head_size)
unfolding head_size exprs.shape-the_row-Expr-0 exprs.hidden-the_row-Expr-0 hidden stmts.shape-the_row-Stmt-0 stmts.hidden-the_row-Stmt-0
size_valid before free = record { sound = rw free refl }

pub least_valid : (before : List CItem) → IsFree (codes "head_least") before → IsValidAfter before (AFunction head_least)
unfolding head_least exprs.shape-the_row-Expr-0 exprs.hidden-the_row-Expr-0 hidden stmts.shape-the_row-Stmt-0 stmts.hidden-the_row-Stmt-0
least_valid before free = record { sound = rw free refl }

pub argument_valid : (before : List CItem) → IsFree (codes "head_argument") before → IsAmong load_be16 before → IsAmong load_be32 before → IsAmong load_be64 before → IsValidAfter before (AFunction head_argument)
unfolding load_be16 load_be32 load_be64 head_argument exprs.shape-the_row-Expr-0 exprs.hidden-the_row-Expr-0 hidden stmts.shape-the_row-Stmt-0 stmts.hidden-the_row-Stmt-0
argument_valid before free be16 be32 be64 = record { sound = rw (free, be16, be32, be64) refl }

pub end_valid : (before : List CItem) → IsFree (codes "head_end") before → IsAmong head_size before → IsAmong head_least before → IsAmong head_argument before → IsValidAfter before (AFunction head_end)
unfolding head_size head_least head_argument head_end exprs.shape-the_row-Expr-0 exprs.hidden-the_row-Expr-0 hidden stmts.shape-the_row-Stmt-0 stmts.hidden-the_row-Stmt-0
end_valid before free size least argument = record { sound = rw (free, size, least, argument) refl }

pub within_valid : (before : List CItem) → IsFree (codes "head_within") before → IsAmong head_end before → IsAmong head_argument before → IsValidAfter before (AFunction head_within)
unfolding head_argument head_end head_within exprs.shape-the_row-Expr-0 exprs.hidden-the_row-Expr-0 hidden stmts.shape-the_row-Stmt-0 stmts.hidden-the_row-Stmt-0
within_valid before free end argument = record { sound = rw (free, end, argument) refl }

pub be16_spelled : IsSpelledItem (AFunction load_be16)
unfolding load_be16 exprs.shape-the_row-Expr-0 exprs.hidden-the_row-Expr-0 hidden stmts.shape-the_row-Stmt-0 stmts.hidden-the_row-Stmt-0
be16_spelled = search rules

pub be32_spelled : IsSpelledItem (AFunction load_be32)
unfolding load_be32 exprs.shape-the_row-Expr-0 exprs.hidden-the_row-Expr-0 hidden stmts.shape-the_row-Stmt-0 stmts.hidden-the_row-Stmt-0
be32_spelled = search rules

pub be64_spelled : IsSpelledItem (AFunction load_be64)
unfolding load_be64 exprs.shape-the_row-Expr-0 exprs.hidden-the_row-Expr-0 hidden stmts.shape-the_row-Stmt-0 stmts.hidden-the_row-Stmt-0
be64_spelled = search rules

pub size_spelled : IsSpelledItem (AFunction head_size)
unfolding head_size exprs.shape-the_row-Expr-0 exprs.hidden-the_row-Expr-0 hidden stmts.shape-the_row-Stmt-0 stmts.hidden-the_row-Stmt-0
size_spelled = search rules

pub least_spelled : IsSpelledItem (AFunction head_least)
unfolding head_least exprs.shape-the_row-Expr-0 exprs.hidden-the_row-Expr-0 hidden stmts.shape-the_row-Stmt-0 stmts.hidden-the_row-Stmt-0
least_spelled = search rules

pub argument_spelled : IsSpelledItem (AFunction head_argument)
unfolding head_argument exprs.shape-the_row-Expr-0 exprs.hidden-the_row-Expr-0 hidden stmts.shape-the_row-Stmt-0 stmts.hidden-the_row-Stmt-0
argument_spelled = search rules

pub end_spelled : IsSpelledItem (AFunction head_end)
unfolding head_end exprs.shape-the_row-Expr-0 exprs.hidden-the_row-Expr-0 hidden stmts.shape-the_row-Stmt-0 stmts.hidden-the_row-Stmt-0
end_spelled = search rules

pub within_spelled : IsSpelledItem (AFunction head_within)
unfolding head_within exprs.shape-the_row-Expr-0 exprs.hidden-the_row-Expr-0 hidden stmts.shape-the_row-Stmt-0 stmts.hidden-the_row-Stmt-0
within_spelled = search rules
