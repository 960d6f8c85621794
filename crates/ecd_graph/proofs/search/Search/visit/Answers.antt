use Rattle.std.proofs.Common.{refl, sym, ◌∙◌}
use Rattle.ecd_graph.specs.declared.search.Mark.TheVariants.{Unseen}
use Rattle.ecd_graph.proofs.Reaching.{read_mark}
use Rattle.ecd_graph.proofs.search.Search.visit.Goals as goal

pub search_from-requires-clause-unseen : goal.search_from-requires-clause-unseen
search_from-requires-clause-unseen c = read_mark c.args.self.now.marks.items c.args.node c.index.result.now Unseen c.requires.among c.index.ensures c.in-Unseen.is

pub returns-in_default-clause-met : goal.returns-in_default-clause-met
returns-in_default-clause-met c = λ u. c.in_default.not-Unseen (sym (read_mark c.args.self.now.marks.items c.args.node c.index.result.now c.index.result.now c.requires.among c.index.ensures refl) ∙ u)
