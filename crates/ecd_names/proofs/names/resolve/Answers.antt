use Rattle.std.proofs.Common.{List, inl, subst, sym}
use Rattle.ecd_syntax.specs.declared.tree.Rule.{Rule}
use Rattle.ecd_names.specs.Breaks.{BreaksNone, IsFirst}
use Rattle.ecd_names.proofs.Resolving.{none-broken, first-broken, only-broken, none-first}
use Rattle.ecd_names.proofs.names.resolve.Goals as goal

pub invariant_of-result : goal.invariant_of-result
invariant_of-result c =
    let found = c.in_ok-first_broken.ensures in
    record { none = none-broken c.in_ok-table.table c.in_ok-first_broken.field-0 found.first c.in-None.is; ranked = found.ranked c.in-None.is; few = found.few }

pub returns-in-None-clause-none : goal.returns-in-None-clause-none
returns-in-None-clause-none c =
    subst (λ (t : List Rule). BreaksNone t) c.in_ok-table.ensures (none-broken c.in_ok-table.table c.in_ok-first_broken.field-0 c.in_ok-first_broken.ensures.first c.in-None.is)

pub returns-in-None-clause-only_refused : goal.returns-in-None-clause-only_refused
returns-in-None-clause-only_refused c = λ place number.
    none-first c.args.tree.rules place number (subst (λ (t : List Rule). BreaksNone t) c.in_ok-table.ensures (none-broken c.in_ok-table.table c.in_ok-first_broken.field-0 c.in_ok-first_broken.ensures.first c.in-None.is))

pub returns-in-Some-clause-refused : goal.returns-in-Some-clause-refused
returns-in-Some-clause-refused c =
    subst (λ (t : List Rule). IsFirst t c.in-Some.broken.place c.in-Some.broken.rule) c.in_ok-table.ensures (first-broken c.in_ok-table.table c.in_ok-first_broken.field-0 c.in_ok-first_broken.ensures.first c.in-Some.broken c.in-Some.is)

pub returns-in-Some-clause-only_refused : goal.returns-in-Some-clause-only_refused
returns-in-Some-clause-only_refused c = λ place number first.
    inl (only-broken c.in_ok-table.table c.in_ok-first_broken.field-0 c.in_ok-first_broken.ensures.first c.in-Some.broken c.in-Some.is place number (subst (λ (t : List Rule). IsFirst t place number) (sym c.in_ok-table.ensures) first))
