use Rattle.std.proofs.Common.{◌+◌, ◌-◌, ◌*◌, drop}
use Rattle.ecd_cast.specs.Meaning.{block, turns}
use Rattle.ecd_ceval.specs.Following.{memory_in}
use Rattle.ecd_ceval.specs.Places.{calls_in, place_in}
use Rattle.ecd_ceval.proofs.Running.{Onward}
use Rattle.ecd_ceval.proofs.statements.+statements.Given as goal

abbrev pub decreases-assign : goal.decreases-assign
decreases-assign l = 6 * l.context.levels + 1

abbrev pub decreases-begin : goal.decreases-begin
decreases-begin l = 6 * l.context.levels + 2

abbrev pub decreases-block : goal.decreases-block
decreases-block l = 6 * l.context.levels + 3

abbrev pub decreases-call : goal.decreases-call
decreases-call l = 6 * l.context.levels

abbrev pub decreases-called : goal.decreases-called
decreases-called l = 6 * l.context.levels + 4

abbrev pub decreases-choice : goal.decreases-choice
decreases-choice l = 6 * l.context.levels + 1

abbrev pub decreases-declare_number : goal.decreases-declare_number
decreases-declare_number l = 6 * l.context.levels + 1

abbrev pub decreases-named : goal.decreases-named
decreases-named l = 6 * l.context.levels + 5

abbrev pub decreases-repeat : goal.decreases-repeat
decreases-repeat l = 6 * l.context.levels + 1

abbrev pub decreases-scoped : goal.decreases-scoped
decreases-scoped l = 6 * l.context.levels + 4

abbrev pub decreases-turn : goal.decreases-turn
decreases-turn l = 6 * l.context.levels + 4

abbrev pub invariant-block-loop-statement : goal.invariant-block-loop-statement
invariant-block-loop-statement l =
    Onward (block (calls_in l.context) l.body (place_in l.context l.first) l.initial.variables (memory_in l.initial.state)) l.initial.state
    (block (calls_in l.context) (drop l.statement-index l.body) (place_in l.context l.number) l.variables (memory_in l.state)) l.state

abbrev pub invariant-repeat-loop-count : goal.invariant-repeat-loop-count
invariant-repeat-loop-count l =
    Onward (turns l.turns 0 l.name (block (calls_in l.inner) l.body (place_in l.inner l.first)) l.initial.variables (memory_in l.initial.state)) l.initial.state
    (turns (l.turns - l.count) l.count l.name (block (calls_in l.inner) l.body (place_in l.inner l.first)) l.variables (memory_in l.state)) l.state
