use Rattle.std.proofs.Common.{◌≡◌, ℕ, suc, ◌+◌, ◌-◌, ◌∷◌, ◌++◌, [], length, drop, ap, sym, refl, ◌∙◌, arith}
use Rattle.std.proofs.lemmas.List.{length-append, length-drop}
use Rattle.std.proofs.lemmas.Result.{err_from_is_err_and}
use Rattle.ecd_lex.specs.declared.token.Sign.{Sign}
use Rattle.ecd_lex.specs.declared.token.Sign.TheVariants.{Slash}
use Rattle.ecd_syntax.specs.declared.tree.Form.TheVariants as forms
use Rattle.ecd_syntax.specs.declared.tree.Key.TheVariants as keys
use Rattle.ecd_syntax.specs.Marks.{marks, sign_of}
use Rattle.ecd_syntax.specs.Reading.{many, taken, begins, behind, more_listed, choice_at, each, goes_on, entry_in_way, all_ways, way_of, made, group_at, body_behind, open_body, body_at, behind_choice, alts_of}
use Rattle.ecd_parse.proofs.Tokens.{length_marks}
use Rattle.ecd_reading.proofs.Loops.{with_front, goes, done}
use Rattle.ecd_parse.proofs.Loops.{ends, sign_here, no_sign_here, behind_sign, first_way, first_fails, way_goes, way_ends, ways_done, ways_stuck, behind_way}
use Rattle.ecd_parse.proofs.Parts.{made_gives, made_fails, operand_fails, operand_behind, operand_stops, tag_gives, tag_fails, tag_unclosed, fails_same, leads_none, leads_some, body_opens, body_unopened, behind_gives, behind_fails, entry_passed, entry_fails, group_gives, group_fails}
use Rattle.ecd_parse.specs.Openings.{named_form, group_form, close_of, arguments, behind_opening}
use Rattle.ecd_parse.specs.declared.opening.Opening.{Opening}
use Rattle.ecd_parse.proofs.read.+reading.Goals as goal

-- ---- a list of choices

pub read_more-returns-in_err-choice-clause-gives : goal.read_more-returns-in_err-choice-clause-gives
read_more-returns-in_err-choice-clause-gives t c =
    let p = err_from_is_err_and c.from_residual-in_err-choice.result c.from_residual-in_err-choice.ensures.1 in
    let ms = marks c.args.tokens.now in
    let one = choice_at c.args.levels in
    let here = drop c.loop-next.here ms in
    let fuel : ℕ = suc (suc (length (drop c.args.at ms))) - length c.loop-next.choices in
    rw (p.1, p.2) (ends (begins (sign_of c.args.sign)) (behind (sign_of c.args.sign) one) ms c.in_err-choice.field-0.0 fuel (fuel - 1) c.loop-next.choices here (more_listed c.args.sign one c.args.first (drop c.args.at ms))
    (omega (arith, length-drop c.args.at ms, length_marks c.args.tokens.now, c.in-Some.ensures.within, c.loop-next.invariant.count))
    (sign_here ms c.args.sign here c.in-Some.next c.in-Some.ensures.found)
    (rw (behind_sign ms c.args.sign one here c.in-Some.next c.in-Some.ensures.found) c.in_err-choice.ensures.gives)
    c.loop-next.invariant.gives)

pub read_more-loop-next-preserved : goal.read_more-loop-next-preserved
read_more-loop-next-preserved t c =
    let ms = marks c.args.tokens.now in
    let one = choice_at c.args.levels in
    let here = drop c.loop-next.here ms in
    let fuel : ℕ = suc (suc (length (drop c.args.at ms))) - length c.loop-next.choices in
    let longer : length c.push-in-Some.new.self ≡ length c.loop-next.choices + 1 = ap length c.in_ok-push-2.ensures.ok ∙ length-append c.loop-next.choices (c.in_ok-choice.choice ∷ []) in
    let less : fuel ≡ suc (suc (suc (length (drop c.args.at ms))) - length c.push-in-Some.new.self) = omega (arith, length-drop c.args.at ms, length_marks c.args.tokens.now, c.in-Some.ensures.within, c.loop-next.invariant.count) in
    record {
      within = c.in_ok-choice.ensures.within;
      after = omega (arith, c.in-Some.ensures.within, c.in_ok-choice.ensures.after, c.loop-next.invariant.after);
      count = omega (arith, c.in-Some.ensures.within, c.in_ok-choice.ensures.after, c.loop-next.invariant.count);
      gives = ap (λ choices. with_front choices (many (begins (sign_of c.args.sign)) (behind (sign_of c.args.sign) one) (taken []) (suc (suc (length (drop c.args.at ms))) - length c.push-in-Some.new.self) (drop c.in_ok-choice.end ms))) c.in_ok-push-2.ensures.ok
          ∙ goes (taken []) (begins (sign_of c.args.sign)) (behind (sign_of c.args.sign) one) fuel (suc (suc (length (drop c.args.at ms))) - length c.push-in-Some.new.self) c.loop-next.choices here (drop c.in_ok-choice.end ms) c.in_ok-choice.choice (more_listed c.args.sign one c.args.first (drop c.args.at ms))
          less
          (sign_here ms c.args.sign here c.in-Some.next c.in-Some.ensures.found)
          (behind_sign ms c.args.sign one here c.in-Some.next c.in-Some.ensures.found ∙ c.in_ok-choice.ensures.gives)
          c.loop-next.invariant.gives;
    }

pub read_more-returns-clause-gives : goal.read_more-returns-clause-gives
read_more-returns-clause-gives t c =
    let ms = marks c.args.tokens.now in
    let one = choice_at c.args.levels in
    let here = drop c.loop-next.here ms in
    let fuel : ℕ = suc (suc (length (drop c.args.at ms))) - length c.loop-next.choices in
    done (taken []) (begins (sign_of c.args.sign)) (behind (sign_of c.args.sign) one) fuel (fuel - 1) c.loop-next.choices here (more_listed c.args.sign one c.args.first (drop c.args.at ms))
    (omega (arith, length-drop c.args.at ms, length_marks c.args.tokens.now, c.loop-next.invariant.within, c.loop-next.invariant.count))
    (no_sign_here ms c.args.sign here c.in_default.ensures.found)
    c.loop-next.invariant.gives

-- ---- the entries of a way

pub read_entries-returns-in_err-entry-clause-gives : goal.read_entries-returns-in_err-entry-clause-gives
read_entries-returns-in_err-entry-clause-gives t c =
    let p = err_from_is_err_and c.from_residual.result c.from_residual.ensures.1 in
    let ms = marks c.args.tokens.now in
    let one = entry_in_way (choice_at c.args.levels) in
    let here = drop c.loop-alloc.here ms in
    let fuel : ℕ = suc (length (drop c.args.at ms)) - length c.loop-alloc.entries in
    rw (p.1, p.2) (ends (goes_on c.args.close) one ms c.in_err-entry.field-0.0 fuel (fuel - 1) c.loop-alloc.entries here (each (goes_on c.args.close) one (drop c.args.at ms))
    (omega (arith, length-drop c.args.at ms, length_marks c.args.tokens.now, c.loop-alloc.invariant.within, c.loop-alloc.invariant.count))
    (sym c.is_in_way.ensures ∙ c.loop-alloc-test.true)
    (entry_fails (choice_at c.args.levels) ms c.in_err-entry.field-0.0 here c.in_err-entry.ensures.gives)
    c.loop-alloc.invariant.gives)

pub read_entries-loop-alloc-preserved : goal.read_entries-loop-alloc-preserved
read_entries-loop-alloc-preserved t c =
    let ms = marks c.args.tokens.now in
    let one = entry_in_way (choice_at c.args.levels) in
    let here = drop c.loop-alloc.here ms in
    let fuel : ℕ = suc (length (drop c.args.at ms)) - length c.loop-alloc.entries in
    let longer : length c.push.new.self ≡ length c.loop-alloc.entries + 1 = ap length c.in_ok-push.ensures.ok ∙ length-append c.loop-alloc.entries (c.in_ok-entry.entry ∷ []) in
    let less : fuel ≡ suc (suc (length (drop c.args.at ms)) - length c.push.new.self) = omega (arith, length-drop c.args.at ms, length_marks c.args.tokens.now, c.in_ok-entry.ensures.within, c.in_ok-entry.ensures.after, c.loop-alloc.invariant.count) in
    record {
      within = c.behind_comma-here.ensures.within.0;
      after = omega (arith, c.behind_comma-here.ensures.within, c.in_ok-entry.ensures.after, c.loop-alloc.invariant.after);
      count = omega (arith, c.behind_comma-here.ensures.within, c.in_ok-entry.ensures.after, c.loop-alloc.invariant.count);
      gives = ap (λ entries. with_front entries (many (goes_on c.args.close) one (taken []) (suc (length (drop c.args.at ms)) - length c.push.new.self) (drop c.behind_comma-here.result ms))) c.in_ok-push.ensures.ok
          ∙ goes (taken []) (goes_on c.args.close) one fuel (suc (length (drop c.args.at ms)) - length c.push.new.self) c.loop-alloc.entries here (drop c.behind_comma-here.result ms) c.in_ok-entry.entry (each (goes_on c.args.close) one (drop c.args.at ms))
          less
          (sym c.is_in_way.ensures ∙ c.loop-alloc-test.true)
          (entry_passed (choice_at c.args.levels) here (drop c.in_ok-entry.behind ms) (drop c.behind_comma-here.result ms) c.in_ok-entry.entry c.in_ok-entry.ensures.gives (c.behind_comma-here.ensures.skips c.in_ok-entry.entry))
          c.loop-alloc.invariant.gives;
    }

pub read_entries-returns-clause-gives : goal.read_entries-returns-clause-gives
read_entries-returns-clause-gives t c =
    let ms = marks c.args.tokens.now in
    let one = entry_in_way (choice_at c.args.levels) in
    let here = drop c.loop-alloc.here ms in
    let fuel : ℕ = suc (length (drop c.args.at ms)) - length c.loop-alloc.entries in
    done (taken []) (goes_on c.args.close) one fuel (fuel - 1) c.loop-alloc.entries here (each (goes_on c.args.close) one (drop c.args.at ms))
    (omega (arith, length-drop c.args.at ms, length_marks c.args.tokens.now, c.loop-alloc.invariant.within, c.loop-alloc.invariant.count))
    (sym c.is_in_way.ensures ∙ c.loop-alloc-test.false)
    c.loop-alloc.invariant.gives

-- ---- the ways of a group

pub read_group-returns-in_err-entries-clause-gives : goal.read_group-returns-in_err-entries-clause-gives
read_group-returns-in_err-entries-clause-gives t c =
    let p = err_from_is_err_and c.from_residual.result c.from_residual.ensures.1 in
    let ms = marks c.args.tokens.now in
    let one = choice_at c.args.levels in
    rw (p.1, p.2) (group_fails one c.args.close ms c.in_err-entries.field-0.0 (drop c.args.at ms)
    (first_fails one c.args.close ms c.in_err-entries.field-0.0 (length (drop c.args.at ms)) (drop c.args.at ms) c.in_err-entries.ensures.gives))

pub read_group-loop-next-init : goal.read_group-loop-next-init
read_group-loop-next-init t c =
    let ms = marks c.args.tokens.now in
    let one = choice_at c.args.levels in
    let start = drop c.args.at ms in
    let way = way_of c.place_at-place.result c.in_ok-entries.entries in
    let whole : c.push.new.self ≡ way ∷ [] = c.in_ok-push.ensures.ok ∙ ap (λ ways. ways ++ way ∷ []) c.new-ways.ensures in
    let fuel : suc (length start) - length c.push.new.self ≡ length start = omega (arith, ap length whole) in
    record {
      within = c.in_ok-entries.ensures.within;
      after = c.in_ok-entries.ensures.after;
      count = omega (arith, ap length whole, c.in_ok-entries.ensures.after);
      gives = ap (λ ways. with_front ways (behind_way one c.args.close (suc (length start) - length c.push.new.self) (drop c.in_ok-entries.behind ms))) whole
          ∙ ap (λ (n : ℕ). with_front (way ∷ []) (behind_way one c.args.close n (drop c.in_ok-entries.behind ms))) fuel
          ∙ ap (λ (n : ℕ). with_front (way_of n c.in_ok-entries.entries ∷ []) (behind_way one c.args.close (length start) (drop c.in_ok-entries.behind ms))) c.place_at-place.ensures
          ∙ sym (first_way one c.args.close (length start) c.in_ok-entries.entries start (drop c.in_ok-entries.behind ms) c.in_ok-entries.ensures.gives);
    }

pub read_group-returns-in_err-entries-2-clause-gives : goal.read_group-returns-in_err-entries-2-clause-gives
read_group-returns-in_err-entries-2-clause-gives t c =
    let p = err_from_is_err_and c.from_residual-in_err-entries-2.result c.from_residual-in_err-entries-2.ensures.1 in
    let ms = marks c.args.tokens.now in
    let one = choice_at c.args.levels in
    let fuel : ℕ = suc (length (drop c.args.at ms)) - length c.loop-next.ways in
    rw (p.1, p.2) (group_fails one c.args.close ms c.in_err-entries-2.field-0.0 (drop c.args.at ms)
    (way_ends one c.args.close ms c.in_err-entries-2.field-0.0 fuel (fuel - 1) c.in-Some.next c.loop-next.ways (drop c.loop-next.here ms) (all_ways one c.args.close (drop c.args.at ms))
    (omega (arith, length-drop c.args.at ms, length_marks c.args.tokens.now, c.in-Some.ensures.within, c.loop-next.invariant.count))
    c.in-Some.ensures.found
    c.in_err-entries-2.ensures.gives
    c.loop-next.invariant.gives))

pub read_group-loop-next-preserved : goal.read_group-loop-next-preserved
read_group-loop-next-preserved t c =
    let ms = marks c.args.tokens.now in
    let one = choice_at c.args.levels in
    let start = drop c.args.at ms in
    let way = way_of c.place_at-start.result c.in_ok-entries-2.entries in
    let longer : length c.push-in-Some.new.self ≡ length c.loop-next.ways + 1 = ap length c.in_ok-push-2.ensures.ok ∙ length-append c.loop-next.ways (way ∷ []) in
    let fuel : ℕ = suc (length start) - length c.loop-next.ways in
    let less : fuel ≡ suc (suc (length start) - length c.push-in-Some.new.self) = omega (arith, length-drop c.args.at ms, length_marks c.args.tokens.now, c.in-Some.ensures.within, c.loop-next.invariant.count) in
    record {
      within = c.in_ok-entries-2.ensures.within;
      after = omega (arith, c.in-Some.ensures.within, c.in_ok-entries-2.ensures.after, c.loop-next.invariant.after);
      count = omega (arith, c.in-Some.ensures.within, c.in_ok-entries-2.ensures.after, c.loop-next.invariant.count);
      gives = ap (λ ways. with_front ways (behind_way one c.args.close (suc (length start) - length c.push-in-Some.new.self) (drop c.in_ok-entries-2.behind ms))) c.in_ok-push-2.ensures.ok
          ∙ ap (λ (n : ℕ). with_front (c.loop-next.ways ++ way_of n c.in_ok-entries-2.entries ∷ []) (behind_way one c.args.close (suc (length start) - length c.push-in-Some.new.self) (drop c.in_ok-entries-2.behind ms))) c.place_at-start.ensures
          ∙ way_goes one c.args.close ms fuel (suc (length start) - length c.push-in-Some.new.self) c.in-Some.next c.loop-next.ways c.in_ok-entries-2.entries (drop c.loop-next.here ms) (drop c.in_ok-entries-2.behind ms) (all_ways one c.args.close start)
          less
          c.in-Some.ensures.found
          c.in_ok-entries-2.ensures.gives
          c.loop-next.invariant.gives;
    }

pub read_group-returns-in_err-end-clause-gives : goal.read_group-returns-in_err-end-clause-gives
read_group-returns-in_err-end-clause-gives t c =
    let p = err_from_is_err_and c.from_residual-in_err-end.result c.from_residual-in_err-end.ensures.1 in
    let ms = marks c.args.tokens.now in
    let one = choice_at c.args.levels in
    rw (p.1, p.2) (group_fails one c.args.close ms c.in_err-end.field-0.0 (drop c.args.at ms)
    (ways_stuck one c.args.close ms c.in_err-end.field-0.0 (suc (length (drop c.args.at ms)) - length c.loop-next.ways) c.loop-next.ways (drop c.loop-next.here ms) (all_ways one c.args.close (drop c.args.at ms))
    c.in_default.ensures.found
    c.in_err-end.ensures.gives
    c.loop-next.invariant.gives))

pub read_group-returns-clause-gives : goal.read_group-returns-clause-gives
read_group-returns-clause-gives t c =
    let ms = marks c.args.tokens.now in
    let one = choice_at c.args.levels in
    group_gives one c.args.close (drop c.args.at ms) (drop c.in_ok-end.end ms) c.place_at-place.result c.loop-next.ways c.place_at-place.ensures
    (ways_done one c.args.close ms (suc (length (drop c.args.at ms)) - length c.loop-next.ways) c.loop-next.ways (drop c.loop-next.here ms) (drop c.in_ok-end.end ms) (all_ways one c.args.close (drop c.args.at ms))
    c.in_default.ensures.found
    c.in_ok-end.ensures.gives
    c.loop-next.invariant.gives)

-- ---- an operand

pub read_operand-returns-in_err-opening-clause-gives : goal.read_operand-returns-in_err-opening-clause-gives
read_operand-returns-in_err-opening-clause-gives t c =
    let p = err_from_is_err_and c.from_residual.result c.from_residual.ensures.1 in
    let ms = marks c.args.tokens.now in
    let one = choice_at c.args.levels in
    rw (p.1, p.2) (operand_fails one ms c.in_err-opening.field-0.0 (drop c.args.at ms) (c.in_err-opening.ensures.opens one))

pub read_operand-returns-in_err-args-in-Args-clause-gives : goal.read_operand-returns-in_err-args-in-Args-clause-gives
read_operand-returns-in_err-args-in-Args-clause-gives t c =
    let p = err_from_is_err_and c.from_residual-in_err-args-in-Args.result c.from_residual-in_err-args-in-Args.ensures.1 in
    let ms = marks c.args.tokens.now in
    let one = choice_at c.args.levels in
    rw (p.1, p.2) (operand_stops one ms c.in_err-args-in-Args.field-0.0 (drop c.args.at ms) (drop c.in_ok-opening.behind ms) c.in_ok-opening.opening (c.in_ok-opening.ensures.opens one)
    (rw c.in-Args.is (made_fails (named_form c.in-Args.kind c.in-Args.name) (arguments one) ms c.in_err-args-in-Args.field-0.0 (drop c.in_ok-opening.behind ms) c.in_err-args-in-Args.ensures.gives)))

pub read_operand-returns-in_err-body-in-Tag-clause-gives : goal.read_operand-returns-in_err-body-in-Tag-clause-gives
read_operand-returns-in_err-body-in-Tag-clause-gives t c =
    let p = err_from_is_err_and c.from_residual-in_err-body-in-Tag.result c.from_residual-in_err-body-in-Tag.ensures.1 in
    let ms = marks c.args.tokens.now in
    let one = choice_at c.args.levels in
    rw (p.1, p.2) (operand_stops one ms c.in_err-body-in-Tag.field-0.0 (drop c.args.at ms) (drop c.in_ok-opening.behind ms) c.in_ok-opening.opening (c.in_ok-opening.ensures.opens one)
    (rw c.in-Tag.is (tag_fails one ms c.in_err-body-in-Tag.field-0.0 (drop c.in_ok-opening.behind ms) c.in-Tag.number c.in_err-body-in-Tag.ensures.gives)))

pub read_operand-returns-in_err-end-in-Tag-clause-gives : goal.read_operand-returns-in_err-end-in-Tag-clause-gives
read_operand-returns-in_err-end-in-Tag-clause-gives t c =
    let p = err_from_is_err_and c.from_residual-in_err-end-in-Tag.result c.from_residual-in_err-end-in-Tag.ensures.1 in
    let ms = marks c.args.tokens.now in
    let one = choice_at c.args.levels in
    rw (p.1, p.2) (operand_stops one ms c.in_err-end-in-Tag.field-0.0 (drop c.args.at ms) (drop c.in_ok-opening.behind ms) c.in_ok-opening.opening (c.in_ok-opening.ensures.opens one)
    (rw c.in-Tag.is (tag_unclosed one ms c.in_err-end-in-Tag.field-0.0 (drop c.in_ok-opening.behind ms) (drop c.in_ok-body-in-Tag.behind ms) c.in-Tag.number c.in_ok-body-in-Tag.body c.in_ok-body-in-Tag.ensures.gives c.in_err-end-in-Tag.ensures.gives)))

pub read_operand-returns-in_err-group-in-Group-clause-gives : goal.read_operand-returns-in_err-group-in-Group-clause-gives
read_operand-returns-in_err-group-in-Group-clause-gives t c =
    let p = err_from_is_err_and c.from_residual-in_err-group-in-Group.result c.from_residual-in_err-group-in-Group.ensures.1 in
    let ms = marks c.args.tokens.now in
    let one = choice_at c.args.levels in
    rw (p.1, p.2) (operand_stops one ms c.in_err-group-in-Group.field-0.0 (drop c.args.at ms) (drop c.in_ok-opening.behind ms) c.in_ok-opening.opening (c.in_ok-opening.ensures.opens one)
    (rw c.in-Group.is (made_fails (group_form c.in-Group.kind) (group_at one (close_of c.in-Group.kind)) ms c.in_err-group-in-Group.field-0.0 (drop c.in_ok-opening.behind ms) (rw (← c.close_of.ensures) c.in_err-group-in-Group.ensures.gives))))

pub read_operand-returns-in-Whole-clause-gives : goal.read_operand-returns-in-Whole-clause-gives
read_operand-returns-in-Whole-clause-gives t c =
    let ms = marks c.args.tokens.now in
    let one = choice_at c.args.levels in
    let start = drop c.in_ok-opening.behind ms in
    operand_behind one (drop c.args.at ms) start (drop c.in_ok-opening.behind ms) c.place_at-place.result c.in_ok-opening.opening (c.in-Whole.form) c.place_at-place.ensures (c.in_ok-opening.ensures.opens one)
    (ap (λ (o : Opening). behind_opening one o start) c.in-Whole.is)

pub read_operand-returns-in_ok-args-in-Args-clause-gives : goal.read_operand-returns-in_ok-args-in-Args-clause-gives
read_operand-returns-in_ok-args-in-Args-clause-gives t c =
    let ms = marks c.args.tokens.now in
    let one = choice_at c.args.levels in
    let start = drop c.in_ok-opening.behind ms in
    operand_behind one (drop c.args.at ms) start (drop c.in_ok-args-in-Args.end ms) c.place_at-place.result c.in_ok-opening.opening (c.named_form-form.result) c.place_at-place.ensures (c.in_ok-opening.ensures.opens one)
    (ap (λ (o : Opening). behind_opening one o start) c.in-Args.is ∙ made_gives (named_form c.in-Args.kind c.in-Args.name) (arguments one) start (drop c.in_ok-args-in-Args.end ms) c.in_ok-args-in-Args.args c.named_form-form.result c.named_form-form.ensures c.in_ok-args-in-Args.ensures.gives)

pub read_operand-returns-in_ok-end-in-Tag-clause-gives : goal.read_operand-returns-in_ok-end-in-Tag-clause-gives
read_operand-returns-in_ok-end-in-Tag-clause-gives t c =
    let ms = marks c.args.tokens.now in
    let one = choice_at c.args.levels in
    let start = drop c.in_ok-opening.behind ms in
    operand_behind one (drop c.args.at ms) start (drop c.in_ok-end-in-Tag.end ms) c.place_at-place.result c.in_ok-opening.opening (forms.Tagged c.in-Tag.number c.in_ok-body-in-Tag.body) c.place_at-place.ensures (c.in_ok-opening.ensures.opens one)
    (ap (λ (o : Opening). behind_opening one o start) c.in-Tag.is ∙ tag_gives one start (drop c.in_ok-body-in-Tag.behind ms) (drop c.in_ok-end-in-Tag.end ms) c.in-Tag.number c.in_ok-body-in-Tag.body c.in_ok-body-in-Tag.ensures.gives c.in_ok-end-in-Tag.ensures.gives)

pub read_operand-returns-in_ok-group-in-Group-clause-gives : goal.read_operand-returns-in_ok-group-in-Group-clause-gives
read_operand-returns-in_ok-group-in-Group-clause-gives t c =
    let ms = marks c.args.tokens.now in
    let one = choice_at c.args.levels in
    let start = drop c.in_ok-opening.behind ms in
    operand_behind one (drop c.args.at ms) start (drop c.in_ok-group-in-Group.end ms) c.place_at-place.result c.in_ok-opening.opening (c.group_form-form.result) c.place_at-place.ensures (c.in_ok-opening.ensures.opens one)
    (ap (λ (o : Opening). behind_opening one o start) c.in-Group.is ∙ made_gives (group_form c.in-Group.kind) (group_at one (close_of c.in-Group.kind)) start (drop c.in_ok-group-in-Group.end ms) c.in_ok-group-in-Group.group c.group_form-form.result c.group_form-form.ensures (ap (λ (s : Sign). group_at one s start) (sym c.close_of.ensures) ∙ c.in_ok-group-in-Group.ensures.gives))

-- ---- the body of an entry

pub read_body-returns-in_err-first-clause-gives : goal.read_body-returns-in_err-first-clause-gives
read_body-returns-in_err-first-clause-gives t c =
    let p = err_from_is_err_and c.from_residual-in_err-first.result c.from_residual-in_err-first.ensures.1 in
    let ms = marks c.args.tokens.now in
    let one = choice_at c.args.levels in
    rw (p.1, p.2) (body_unopened one ms c.in_err-first.field-0.0 (drop c.args.at ms) (leads_none ms c.in_ok-key.field-0 (body_behind one) (open_body one (drop c.args.at ms)) (body_at one (drop c.args.at ms)) c.in_default.is (c.in_ok-key.ensures.leads one)) c.in_err-first.ensures.gives)

pub read_body-returns-in_err-cut-clause-gives : goal.read_body-returns-in_err-cut-clause-gives
read_body-returns-in_err-cut-clause-gives t c =
    let p = err_from_is_err_and c.from_residual-in_err-cut.result c.from_residual-in_err-cut.ensures.1 in
    let ms = marks c.args.tokens.now in
    let one = choice_at c.args.levels in
    rw (p.1, p.2) (fails_same ms c.in_err-cut.field-0.0 (body_at one (drop c.args.at ms)) (behind_choice one c.place_at-place.result c.in_ok-first.first (drop c.in_ok-first.behind ms)) (body_opens one (drop c.args.at ms) (drop c.in_ok-first.behind ms) c.place_at-place.result c.in_ok-first.first c.place_at-place.ensures (leads_none ms c.in_ok-key.field-0 (body_behind one) (open_body one (drop c.args.at ms)) (body_at one (drop c.args.at ms)) c.in_default.is (c.in_ok-key.ensures.leads one)) c.in_ok-first.ensures.gives) (c.in_err-cut.ensures.leads one c.place_at-place.result c.in_ok-first.first))

pub read_body-returns-in_err-body-2-clause-gives : goal.read_body-returns-in_err-body-2-clause-gives
read_body-returns-in_err-body-2-clause-gives t c =
    let p = err_from_is_err_and c.from_residual-in_err-body-2.result c.from_residual-in_err-body-2.ensures.1 in
    let ms = marks c.args.tokens.now in
    let one = choice_at c.args.levels in
    rw (p.1, p.2) (fails_same ms c.in_err-body-2.field-0.0 (body_at one (drop c.args.at ms)) (body_behind one (keys.Arrow c.in_ok-first.first c.in-Some-2.cut) (drop c.in-Some-2.next ms)) ((body_opens one (drop c.args.at ms) (drop c.in_ok-first.behind ms) c.place_at-place.result c.in_ok-first.first c.place_at-place.ensures (leads_none ms c.in_ok-key.field-0 (body_behind one) (open_body one (drop c.args.at ms)) (body_at one (drop c.args.at ms)) c.in_default.is (c.in_ok-key.ensures.leads one)) c.in_ok-first.ensures.gives) ∙ (leads_some ms c.in_ok-cut.field-0 (c.in-Some-2.cut, c.in-Some-2.next) (λ cut. body_behind one (keys.Arrow c.in_ok-first.first cut)) (made (λ choices. (keys.Missing, alts_of c.place_at-place.result choices)) (more_listed Slash one c.in_ok-first.first) (drop c.in_ok-first.behind ms)) (behind_choice one c.place_at-place.result c.in_ok-first.first (drop c.in_ok-first.behind ms)) c.in-Some-2.is (c.in_ok-cut.ensures.leads one c.place_at-place.result c.in_ok-first.first))) (behind_fails one ms c.in_err-body-2.field-0.0 (drop c.in-Some-2.next ms) (keys.Arrow c.in_ok-first.first c.in-Some-2.cut) c.in_err-body-2.ensures.gives))

pub read_body-returns-in-Some-2-clause-gives : goal.read_body-returns-in-Some-2-clause-gives
read_body-returns-in-Some-2-clause-gives t c =
    let ms = marks c.args.tokens.now in
    let one = choice_at c.args.levels in
    (body_opens one (drop c.args.at ms) (drop c.in_ok-first.behind ms) c.place_at-place.result c.in_ok-first.first c.place_at-place.ensures (leads_none ms c.in_ok-key.field-0 (body_behind one) (open_body one (drop c.args.at ms)) (body_at one (drop c.args.at ms)) c.in_default.is (c.in_ok-key.ensures.leads one)) c.in_ok-first.ensures.gives) ∙ (leads_some ms c.in_ok-cut.field-0 (c.in-Some-2.cut, c.in-Some-2.next) (λ cut. body_behind one (keys.Arrow c.in_ok-first.first cut)) (made (λ choices. (keys.Missing, alts_of c.place_at-place.result choices)) (more_listed Slash one c.in_ok-first.first) (drop c.in_ok-first.behind ms)) (behind_choice one c.place_at-place.result c.in_ok-first.first (drop c.in_ok-first.behind ms)) c.in-Some-2.is (c.in_ok-cut.ensures.leads one c.place_at-place.result c.in_ok-first.first)) ∙ behind_gives one (drop c.in-Some-2.next ms) (drop c.in_ok-body-2.end ms) (keys.Arrow c.in_ok-first.first c.in-Some-2.cut) c.in_ok-body-2.body c.in_ok-body-2.ensures.gives

pub read_body-returns-in_err-choices-clause-gives : goal.read_body-returns-in_err-choices-clause-gives
read_body-returns-in_err-choices-clause-gives t c =
    let p = err_from_is_err_and c.from_residual-in_err-choices.result c.from_residual-in_err-choices.ensures.1 in
    let ms = marks c.args.tokens.now in
    let one = choice_at c.args.levels in
    rw (p.1, p.2) (fails_same ms c.in_err-choices.field-0.0 (body_at one (drop c.args.at ms)) (made (λ choices. (keys.Missing, alts_of c.place_at-place.result choices)) (more_listed Slash one c.in_ok-first.first) (drop c.in_ok-first.behind ms)) ((body_opens one (drop c.args.at ms) (drop c.in_ok-first.behind ms) c.place_at-place.result c.in_ok-first.first c.place_at-place.ensures (leads_none ms c.in_ok-key.field-0 (body_behind one) (open_body one (drop c.args.at ms)) (body_at one (drop c.args.at ms)) c.in_default.is (c.in_ok-key.ensures.leads one)) c.in_ok-first.ensures.gives) ∙ (leads_none ms c.in_ok-cut.field-0 (λ cut. body_behind one (keys.Arrow c.in_ok-first.first cut)) (made (λ choices. (keys.Missing, alts_of c.place_at-place.result choices)) (more_listed Slash one c.in_ok-first.first) (drop c.in_ok-first.behind ms)) (behind_choice one c.place_at-place.result c.in_ok-first.first (drop c.in_ok-first.behind ms)) c.in_default-2.is (c.in_ok-cut.ensures.leads one c.place_at-place.result c.in_ok-first.first))) (made_fails (λ choices. (keys.Missing, alts_of c.place_at-place.result choices)) (more_listed Slash one c.in_ok-first.first) ms c.in_err-choices.field-0.0 (drop c.in_ok-first.behind ms) c.in_err-choices.ensures.gives))

pub read_body-returns-clause-gives : goal.read_body-returns-clause-gives
read_body-returns-clause-gives t c =
    let ms = marks c.args.tokens.now in
    let one = choice_at c.args.levels in
    (body_opens one (drop c.args.at ms) (drop c.in_ok-first.behind ms) c.place_at-place.result c.in_ok-first.first c.place_at-place.ensures (leads_none ms c.in_ok-key.field-0 (body_behind one) (open_body one (drop c.args.at ms)) (body_at one (drop c.args.at ms)) c.in_default.is (c.in_ok-key.ensures.leads one)) c.in_ok-first.ensures.gives) ∙ (leads_none ms c.in_ok-cut.field-0 (λ cut. body_behind one (keys.Arrow c.in_ok-first.first cut)) (made (λ choices. (keys.Missing, alts_of c.place_at-place.result choices)) (more_listed Slash one c.in_ok-first.first) (drop c.in_ok-first.behind ms)) (behind_choice one c.place_at-place.result c.in_ok-first.first (drop c.in_ok-first.behind ms)) c.in_default-2.is (c.in_ok-cut.ensures.leads one c.place_at-place.result c.in_ok-first.first)) ∙ made_gives (λ choices. (keys.Missing, alts_of c.place_at-place.result choices)) (more_listed Slash one c.in_ok-first.first) (drop c.in_ok-first.behind ms) (drop c.in_ok-choices.end ms) c.in_ok-choices.choices (keys.Missing, alts_of c.place_at-place.result c.in_ok-choices.choices) refl c.in_ok-choices.ensures.gives
