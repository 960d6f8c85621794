use Rattle.std.proofs.Common.{◌≡◌, ◌≢◌, length, [], ◌∷◌, ap, sym, ◌∙◌}
use Rattle.ecd_uses.specs.declared.site.Lead.TheVariants as leads
use Rattle.ecd_syntax.specs.declared.tree.Alts.{out-Alts}
use Rattle.ecd_syntax.specs.declared.tree.Entry.{out-Entry}
use Rattle.ecd_syntax.specs.declared.tree.GroupTree.{out-GroupTree}
use Rattle.ecd_syntax.specs.declared.tree.Type1.{out-Type1}
use Rattle.ecd_uses.specs.Leads.{only_or, group_lead, type_lead, choice_lead, form_lead}
use Rattle.ecd_uses.specs.Listed.{operated_lead, way_listed_leads}
use Rattle.ecd_uses.proofs.Layers.{entry-lead, type-lead, choice-lead, group-lead, named-lead, parenthesis-lead, value-lead, map-lead, array-lead, unwrap-lead, enum-lead, enum_name-lead, tag-lead, hash-lead}
use Rattle.ecd_uses.proofs.Only.{if_ok, only_one, only_none, occurs, keyed, bare}
use Rattle.ecd_uses.proofs.leading.+leading.Goals as goal
use Rattle.ecd_uses.proofs.leading.+leading.Goals.{entry_lead-then-is_some-via-then-is_some, entry_lead-then-is_some-via-else-is_some+then-is_keyed}

pub choice_lead-returns-in-None : goal.choice_lead-returns-in-None
choice_lead-returns-in-None t c =
    if_ok c.operand_lead.result _ _ (sym (choice-lead c.args.choice.now ∙ ap (operated_lead (out-Type1 c.args.choice.now).left) c.in-None.is)) c.operand_lead.ensures

pub choice_lead-returns-in-Some : goal.choice_lead-returns-in-Some
choice_lead-returns-in-Some t c = sym (choice-lead c.args.choice.now ∙ ap (operated_lead (out-Type1 c.args.choice.now).left) c.in-Some.is)

pub entry_lead-returns-then-is_some : goal.entry_lead-returns-then-is_some
entry_lead-returns-then-is_some t c =
    let e = c.args.entry.now in
    elim c.then-is_some.branch [
      | entry_lead-then-is_some-via-then-is_some w ↦ occurs (out-Entry e).occur (out-Entry e).key (type_lead (out-Entry e).body) (w.if-is_some.ensures) ∙ sym (entry-lead e)
      | entry_lead-then-is_some-via-else-is_some+then-is_keyed w ↦ keyed (out-Entry e).occur (out-Entry e).key (type_lead (out-Entry e).body) (w.if-is_keyed.ensures) ∙ sym (entry-lead e)
    ]

pub entry_lead-returns : goal.entry_lead-returns
entry_lead-returns t c =
    let e = c.args.entry.now in
    if_ok c.type_lead.result _ _ (bare (out-Entry e).occur (out-Entry e).key (type_lead (out-Entry e).body) (c.if-is_some.ensures) (c.if-is_keyed.ensures) ∙ sym (entry-lead e)) c.type_lead.ensures

pub group_lead-returns-in-Some : goal.group_lead-returns-in-Some
group_lead-returns-in-Some t c =
    let ways = (out-GroupTree c.args.group.now).ways in
    let one : ways ≡ c.in-Some.way.now ∷ [] = sym c.as_slice.ensures ∙ c.in-Some.ensures in
    if_ok c.way_lead.result _ _ (sym (ap group_lead (group-lead c.args.group.now) ∙ ap (only_or leads.Group) (only_one way_listed_leads [] ways c.in-Some.way.now one))) c.way_lead.ensures

pub group_lead-returns-in-None : goal.group_lead-returns-in-None
group_lead-returns-in-None t c =
    let ways = (out-GroupTree c.args.group.now).ways in
    let none : length ways ≢ 1 = λ e. c.in-None.ensures (ap length c.as_slice.ensures ∙ e) in
    sym (ap group_lead (group-lead c.args.group.now) ∙ ap (only_or leads.Group) (only_none way_listed_leads [] ways none))

pub operand_lead-returns-in_ok-copied-in-Named : goal.operand_lead-returns-in_ok-copied-in-Named
operand_lead-returns-in_ok-copied-in-Named t c = ap leads.Named c.in_ok-copied-in-Named.ensures ∙ sym (ap form_lead c.in-Named.is ∙ named-lead c.in-Named.name c.in-Named.args)

pub operand_lead-returns-in-Paren : goal.operand_lead-returns-in-Paren
operand_lead-returns-in-Paren t c = if_ok c.group_lead.result _ _ (sym (ap form_lead c.in-Paren.is ∙ parenthesis-lead c.in-Paren.group)) c.group_lead.ensures

pub operand_lead-returns-in-Lit : goal.operand_lead-returns-in-Lit
operand_lead-returns-in-Lit t c = sym (ap form_lead c.in-Lit.is ∙ value-lead c.in-Lit.field-0)

pub operand_lead-returns-in-MapOf : goal.operand_lead-returns-in-MapOf
operand_lead-returns-in-MapOf t c = sym (ap form_lead c.in-MapOf.is ∙ map-lead c.in-MapOf.field-0)

pub operand_lead-returns-in-ArrayOf : goal.operand_lead-returns-in-ArrayOf
operand_lead-returns-in-ArrayOf t c = sym (ap form_lead c.in-ArrayOf.is ∙ array-lead c.in-ArrayOf.field-0)

pub operand_lead-returns-in-Unwrap : goal.operand_lead-returns-in-Unwrap
operand_lead-returns-in-Unwrap t c = sym (ap form_lead c.in-Unwrap.is ∙ unwrap-lead c.in-Unwrap.name c.in-Unwrap.args)

pub operand_lead-returns-in-Enum : goal.operand_lead-returns-in-Enum
operand_lead-returns-in-Enum t c = sym (ap form_lead c.in-Enum.is ∙ enum-lead c.in-Enum.field-0)

pub operand_lead-returns-in-EnumName : goal.operand_lead-returns-in-EnumName
operand_lead-returns-in-EnumName t c = sym (ap form_lead c.in-EnumName.is ∙ enum_name-lead c.in-EnumName.name c.in-EnumName.args)

pub operand_lead-returns-in-Tagged : goal.operand_lead-returns-in-Tagged
operand_lead-returns-in-Tagged t c = sym (ap form_lead c.in-Tagged.is ∙ tag-lead c.in-Tagged.number c.in-Tagged.body)

pub operand_lead-returns-in-Hash : goal.operand_lead-returns-in-Hash
operand_lead-returns-in-Hash t c = sym (ap form_lead c.in-Hash.is ∙ hash-lead c.in-Hash.major c.in-Hash.arg)

pub type_lead-returns-in-Some : goal.type_lead-returns-in-Some
type_lead-returns-in-Some t c =
    let choices = (out-Alts c.args.alts.now).choices in
    let one : choices ≡ c.in-Some.choice.now ∷ [] = sym c.as_slice.ensures ∙ c.in-Some.ensures in
    if_ok c.choice_lead.result _ _ (sym (type-lead c.args.alts.now ∙ only_one choice_lead leads.Type choices c.in-Some.choice.now one)) c.choice_lead.ensures

pub type_lead-returns-in-None : goal.type_lead-returns-in-None
type_lead-returns-in-None t c =
    let choices = (out-Alts c.args.alts.now).choices in
    let none : length choices ≢ 1 = λ e. c.in-None.ensures (ap length c.as_slice.ensures ∙ e) in
    sym (type-lead c.args.alts.now ∙ only_none choice_lead leads.Type choices none)
