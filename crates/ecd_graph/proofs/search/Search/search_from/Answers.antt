use Rattle.std.proofs.Common.{sym, ◌∙◌, ◌-◌, ap, length}
use Rattle.std.specs.Prelude.{slice_get}
use Rattle.std.proofs.lemmas.List.{get_or-set_same}
use Rattle.ecd_graph.specs.declared.search.Mark.TheVariants.{Unseen, Open}
use Rattle.ecd_graph.specs.Searches.{mark}
use Rattle.ecd_graph.proofs.Reaching.{at_end, open_unseen}
use Rattle.ecd_graph.proofs.Completing.{sound_stays, stays_on}
use Rattle.ecd_graph.proofs.search.Search.search_from.Goals as goal

pub loop-last-init : goal.loop-last-init
loop-last-init c =
    let e = c.in_ok-enter.ensures in
    let s = c.args.self.now in
    record {
      held = e.held;
      sound = sound_stays s c.enter.new.self c.requires.sound e.stays;
      stays = e.stays;
      met = λ h. open_unseen (length s.pending.items) (sym (ap (λ ms. mark ms c.args.node) e.entered.marks ∙ get_or-set_same s.marks.items c.args.node (Open (length s.pending.items)) Unseen c.requires.among) ∙ h);
    }

pub step-requires-clause-top : goal.step-requires-clause-top
step-requires-clause-top c =
    let path = c.loop-last.self.path.items in
    let end = at_end path c.in-Some.field-0.now (c.in-Some.ensures.value ∙ ap (λ xs. slice_get xs (length xs - 1)) c.deref.ensures.value) in
    record { last = length path - 1; size = end.0; is = end.1 }

pub loop-last-preserved : goal.loop-last-preserved
loop-last-preserved c =
    let h = c.loop-last.invariant in
    let e = c.in_ok-step.ensures in
    record {
      held = e.held;
      sound = sound_stays c.loop-last.self c.step.new.self h.sound e.stays;
      stays = stays_on c.args.self.now c.loop-last.self c.step.new.self h.stays e.stays;
      met = λ u. h.met (e.stays.seen c.args.node u);
    }
