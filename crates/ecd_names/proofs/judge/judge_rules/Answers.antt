use Rattle.std.proofs.Common.{◌+◌, ◌-◌, length, ap, arith}
use Rattle.ecd_prelude.specs.Prelude.{prelude_rules}
use Rattle.ecd_bodies.specs.Named.{all_rules}
use Rattle.ecd_names.specs.Names.{BreaksAt}
use Rattle.ecd_first.specs.Firsts.{offset}
use Rattle.ecd_first.proofs.Seeing.{sees_one_more}
use Rattle.ecd_names.proofs.Scoping.{scope_at, scopes-each}
use Rattle.ecd_names.proofs.Resolving.{sees_at, sees_text}
use Rattle.ecd_names.proofs.Counting.{count-before, count-within, stands-text, stands-all}
use Rattle.ecd_names.proofs.judge.judge_rules.Goals as goal

pub bounds-scopes-prelude : goal.bounds-scopes-prelude
bounds-scopes-prelude c =
    let text = c.args.table.now in
    omega (
      arith,
      scopes-each (all_rules text) c.args.scopes.now c.requires.scopes,
      c.rule_count.ensures,
      count-within prelude_rules text c.text_rules-rules.result.now c.text_rules-rules.ensures c.rule_count.result c.rule_count.ensures c.loop-index.index c.index-rules-index.result c.loop-index-test.true,
    )

pub judge_rule-requires : goal.judge_rule-requires
judge_rule-requires c =
    let text = c.args.table.now in
    let rules = c.text_rules-rules.result.now in
    let same = c.text_rules-rules.ensures in
    let count = c.rule_count.result in
    let rule = c.index-rules-index.result in
    record {
      stands = stands-text prelude_rules text rules same count c.rule_count.ensures c.loop-index.index rule c.loop-index-test.true c.index-rules-index.is;
      scope = scope_at (all_rules text) (count - length rules + c.loop-index.index) rule c.args.scopes.now c.index-scopes-prelude.result c.requires.scopes
          (stands-all prelude_rules text rules same count c.rule_count.ensures c.loop-index.index rule c.loop-index-test.true c.index-rules-index.is) c.index-scopes-prelude.is;
      components = c.requires.components;
      prelude = count-before prelude_rules text rules same count c.rule_count.ensures;
      counted = omega (arith, c.rule_count.type_inv, count-within prelude_rules text rules same count c.rule_count.ensures c.loop-index.index rule c.loop-index-test.true);
    }

pub loop-index-preserved : goal.loop-index-preserved
loop-index-preserved c =
    let text = c.args.table.now in
    sees_one_more offset (BreaksAt text) _ _ _ c.loop-index.index c.loop-index.invariant
    (sees_at text _ _ c.loop-index.index c.index-rules-index.result
    (stands-text prelude_rules text c.text_rules-rules.result.now c.text_rules-rules.ensures c.rule_count.result c.rule_count.ensures c.loop-index.index c.index-rules-index.result c.loop-index-test.true c.index-rules-index.is)
    c.in_ok-judge_rule.ensures)

pub returns : goal.returns
returns c = sees_text c.args.table.now _ _ c.loop-index.index (omega (arith, c.loop-index-test.false, ap length c.text_rules-rules.ensures)) c.loop-index.invariant
