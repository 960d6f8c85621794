use Rattle.std.proofs.Common.{List, [], ◌∷◌, ◌++◌, ap, sym, ◌∙◌}
use Rattle.ecd_core.specs.declared.shape.Kind.{Kind}
use Rattle.ecd_core.specs.declared.shape.Part.{Part}
use Rattle.ecd_core.specs.declared.shape.Way.{Way}
use Rattle.ecd_shape_rules.specs.Starts.{part_starts}
use Rattle.ecd_shape_rules.specs.Listed.{starts_of, ways_start}
use Rattle.ecd_shape_rules.proofs.Listed.{starts_over_lists}
use Rattle.ecd_starts.specs.Kinds.{kinds_of}
use Rattle.ecd_starts.proofs.Steps.{kinds-append}
use Rattle.ecd_starts.proofs.starts.+starts.Goals as goal

pub push_part-returns-in_ok-push-in-One : goal.push_part-returns-in_ok-push-in-One
push_part-returns-in_ok-push-in-One t c =
    let e = starts_over_lists.one c.in-One.shape in
    let old = kinds_of c.args.starts.now.items in
    ap kinds_of c.in_ok-push-in-One.ensures.items ∙ (kinds-append c.args.starts.now.items (_ ∷ []) ∙ ap (λ (l : List Kind). old ++ l) (sym (ap part_starts c.in-One.is ∙ e.1)))

pub push_part-returns-in_ok-push_starts-in-Opt : goal.push_part-returns-in_ok-push_starts-in-Opt
push_part-returns-in_ok-push_starts-in-Opt t c =
    let e = starts_over_lists.opt c.in-Opt.at c.in-Opt.body in
    let old = kinds_of c.args.starts.now.items in
    c.in_ok-push_starts-in-Opt.ensures ∙ ap (λ (l : List Kind). old ++ l) (ap starts_of c.as_slice.ensures ∙ sym (ap part_starts c.in-Opt.is ∙ e.1))

pub push_part-returns-in_ok-push_starts-in-Many : goal.push_part-returns-in_ok-push_starts-in-Many
push_part-returns-in_ok-push_starts-in-Many t c =
    let e = starts_over_lists.many c.in-Many.at c.in-Many.lo c.in-Many.hi c.in-Many.body in
    let old = kinds_of c.args.starts.now.items in
    c.in_ok-push_starts-in-Many.ensures ∙ ap (λ (l : List Kind). old ++ l) (ap starts_of c.as_slice-in-Many.ensures ∙ sym (ap part_starts c.in-Many.is ∙ e.1))

pub push_part-returns-in_ok-push_ways-in-Alt : goal.push_part-returns-in_ok-push_ways-in-Alt
push_part-returns-in_ok-push_ways-in-Alt t c =
    let e = starts_over_lists.alt c.in-Alt.at c.in-Alt.ways in
    let old = kinds_of c.args.starts.now.items in
    c.in_ok-push_ways-in-Alt.ensures ∙ ap (λ (l : List Kind). old ++ l) (ap ways_start c.as_slice-in-Alt.ensures ∙ sym (ap part_starts c.in-Alt.is ∙ e.1))
