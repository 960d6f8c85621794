use Rattle.std.proofs.Common.{rules}
use Rattle.ecd_graph.proofs.Entering.{entered_by}
use Rattle.ecd_graph.proofs.search.Search.enter.Goals as goal

pub returns-clause-held : goal.returns-clause-held
returns-clause-held c = entered_by _ _ _ _ _ _ _ c.requires.held _ c.requires.among c.requires.unseen c.requires.reached _ _ _ _ (search rules) (search rules) (search rules) (search rules)
