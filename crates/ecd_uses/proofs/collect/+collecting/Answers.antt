use Rattle.std.proofs.Common.{◌≡◌, ◌++◌, true, false, ◌||◌, ap, sym, ◌∙◌, refl}
use Rattle.std.specs.Prelude.{flat_map}
use Rattle.ecd_syntax.specs.declared.tree.Alts.{out-Alts}
use Rattle.ecd_syntax.specs.declared.tree.Entry.{out-Entry}
use Rattle.ecd_syntax.specs.declared.tree.Type1.{out-Type1}
use Rattle.ecd_syntax.specs.declared.tree.Type2.{out-Type2}
use Rattle.ecd_uses.specs.declared.site.Asked.TheVariants.{AType, AGroup}
use Rattle.ecd_uses.specs.Sites.{are_several, is_keyed, type_asked, parenthesis, entry_sites, key_sites, type_sites, choice_sites, form_sites, group_sites}
use Rattle.ecd_uses.specs.Listed.{lead_in, operated_sites, operand_sites, choices_listed, way_listed, named_sites}
use Rattle.ecd_uses.proofs.Layers.{entry-sites, key-sites, type-sites, choice-sites, value-sites, named-sites, parenthesis-sites, map-sites, array-sites, unwrap-sites, enum-sites, enum_name-sites, tag-sites, hash-sites, group-sites}
use Rattle.ecd_uses.proofs.Pushing.{none, same, behind, begin, grow, finish, either_first, either_second}
use Rattle.ecd_uses.proofs.collect.+collecting.Goals as goal
use Rattle.ecd_uses.proofs.collect.+collecting.Goals.{add_entry-then-a_type, add_entry-else-a_type, add_type-then-a_type, add_type-else-a_type}

-- ---- entries and keys

pub add_entry-returns : goal.add_entry-returns
add_entry-returns t c =
    let e = out-Entry c.args.entry.now in
    let asked : c.if-a_type.a_type ≡ (c.args.a_type || is_keyed e.key) = elim c.if-a_type.branch [
      | add_entry-then-a_type w ↦ either_first _ _ _ w.if-a_type.true (w.a_type-is ∙ w.if-a_type.true)
      | add_entry-else-a_type w ↦ either_second _ _ _ _ w.if-a_type.false w.a_type-is w.is_keyed-a_type.ensures
    ] in
    behind c.add_type.result c.add_type.new.found c.args.found.now c.add_key.new.found (key_sites e.key) (type_sites c.if-a_type.a_type e.body) _
    c.in_ok-add_key.ensures
    (ap (λ a. key_sites e.key ++ type_sites a e.body) asked ∙ sym (entry-sites c.args.a_type c.args.entry.now))
    c.add_type.ensures

pub add_key-returns-in-Arrow : goal.add_key-returns-in-Arrow
add_key-returns-in-Arrow t c =
    same c.add_choice.result c.add_choice.new.found c.args.found.now _ _ (sym (ap key_sites c.in-Arrow.is ∙ key-sites.1 c.in-Arrow.of c.in-Arrow.cut)) c.add_choice.ensures

pub add_key-returns-in-Missing : goal.add_key-returns-in-Missing
add_key-returns-in-Missing t c = none c.args.found.now _ (ap key_sites c.in-Missing.is ∙ key-sites.0)

pub add_key-returns-in-Word : goal.add_key-returns-in-Word
add_key-returns-in-Word t c = none c.args.found.now _ (ap key_sites c.in-Word.is ∙ key-sites.2 c.in-Word.field-0)

pub add_key-returns-in-Lit : goal.add_key-returns-in-Lit
add_key-returns-in-Lit t c = none c.args.found.now _ (ap key_sites c.in-Lit.is ∙ key-sites.3 c.in-Lit.at c.in-Lit.of)

-- ---- choices

pub add_type-returns : goal.add_type-returns
add_type-returns t c =
    let choices = (out-Alts c.args.alts.now).choices in
    let asked : c.if-a_type.a_type ≡ (c.args.a_type || are_several choices) = elim c.if-a_type.branch [
      | add_type-then-a_type w ↦ either_first _ _ _ w.if-a_type.true (w.a_type-is ∙ w.if-a_type.true)
      | add_type-else-a_type w ↦ either_second _ _ _ _ w.if-a_type.false w.a_type-is (w.are_several-a_type.ensures ∙ ap are_several c.as_slice-choices.ensures)
    ] in
    same c.add_choices.result c.add_choices.new.found c.args.found.now _ _
    (ap (choices_listed c.if-a_type.a_type) c.as_slice-choices.ensures ∙ (ap (λ a. choices_listed a choices) asked ∙ sym (type-sites c.args.a_type c.args.alts.now)))
    c.add_choices.ensures

pub add_choices-loop-choice-init : goal.add_choices-loop-choice-init
add_choices-loop-choice-init t c = begin (choice_sites c.args.a_type) c.args.found.now c.args.choices.now

pub add_choices-loop-choice-preserved : goal.add_choices-loop-choice-preserved
add_choices-loop-choice-preserved t c =
    grow (choice_sites c.args.a_type) c.args.found.now c.args.choices.now c.loop-choice.found c.add_choice.new.found c.loop-choice.choice-index c.choice-item.result c.loop-choice-test.true c.choice-item.is c.loop-choice.invariant c.in_ok-add_choice.ensures

pub add_choices-returns : goal.add_choices-returns
add_choices-returns t c = finish (choice_sites c.args.a_type) c.args.found.now c.args.choices.now c.loop-choice.found _ c.loop-choice.choice-index c.loop-choice-test.false refl c.loop-choice.invariant

pub add_choice-returns-in-None : goal.add_choice-returns-in-None
add_choice-returns-in-None t c =
    same c.add_operand.result c.add_operand.new.found c.args.found.now _ _ (sym (choice-sites c.args.a_type c.args.choice.now ∙ ap (operated_sites c.args.a_type (out-Type1 c.args.choice.now).left) c.in-None.is)) c.add_operand.ensures

pub add_choice-returns-in_ok-add_operand-in-Some : goal.add_choice-returns-in_ok-add_operand-in-Some
add_choice-returns-in_ok-add_operand-in-Some t c =
    let left = (out-Type1 c.args.choice.now).left in
    behind c.add_operand-in-Some-2.result c.add_operand-in-Some-2.new.found c.args.found.now c.add_operand-in-Some.new.found (operand_sites true left) (operand_sites true c.in-Some.operation.right) _
    c.in_ok-add_operand-in-Some.ensures
    (sym (choice-sites c.args.a_type c.args.choice.now ∙ ap (operated_sites c.args.a_type left) c.in-Some.is))
    c.add_operand-in-Some-2.ensures

-- ---- operands

pub add_operand-returns-in-Lit : goal.add_operand-returns-in-Lit
add_operand-returns-in-Lit t c =
    let o = out-Type2 c.args.operand.now in
    none c.args.found.now _ (ap (form_sites c.args.a_type o.at) c.in-Lit.is ∙ value-sites c.args.a_type o.at c.in-Lit.field-0)

pub add_operand-returns-in-Hash : goal.add_operand-returns-in-Hash
add_operand-returns-in-Hash t c =
    let o = out-Type2 c.args.operand.now in
    none c.args.found.now _ (ap (form_sites c.args.a_type o.at) c.in-Hash.is ∙ hash-sites c.args.a_type o.at c.in-Hash.major c.in-Hash.arg)

pub add_operand-returns-in-Named : goal.add_operand-returns-in-Named
add_operand-returns-in-Named t c =
    let o = out-Type2 c.args.operand.now in
    same c.add_named.result c.add_named.new.found c.args.found.now _ _
    (ap (λ a. named_sites a c.in-Named.name c.as_slice.result.now) c.type_asked-asked.ensures
    ∙ (ap (named_sites (type_asked c.args.a_type) c.in-Named.name) c.as_slice.ensures
    ∙ sym (ap (form_sites c.args.a_type o.at) c.in-Named.is ∙ named-sites c.args.a_type o.at c.in-Named.name c.in-Named.args)))
    c.add_named.ensures

pub add_operand-returns-in-Unwrap : goal.add_operand-returns-in-Unwrap
add_operand-returns-in-Unwrap t c =
    let o = out-Type2 c.args.operand.now in
    same c.add_named-in-Unwrap.result c.add_named-in-Unwrap.new.found c.args.found.now _ _
    (ap (named_sites AType c.in-Unwrap.name) c.as_slice-in-Unwrap.ensures
    ∙ sym (ap (form_sites c.args.a_type o.at) c.in-Unwrap.is ∙ unwrap-sites c.args.a_type o.at c.in-Unwrap.name c.in-Unwrap.args))
    c.add_named-in-Unwrap.ensures

pub add_operand-returns-in-EnumName : goal.add_operand-returns-in-EnumName
add_operand-returns-in-EnumName t c =
    let o = out-Type2 c.args.operand.now in
    same c.add_named-in-EnumName.result c.add_named-in-EnumName.new.found c.args.found.now _ _
    (ap (named_sites AGroup c.in-EnumName.name) c.as_slice-in-EnumName.ensures
    ∙ sym (ap (form_sites c.args.a_type o.at) c.in-EnumName.is ∙ enum_name-sites c.args.a_type o.at c.in-EnumName.name c.in-EnumName.args))
    c.add_named-in-EnumName.ensures

pub add_operand-returns-in_ok-add_parenthesis-in-Paren : goal.add_operand-returns-in_ok-add_parenthesis-in-Paren
add_operand-returns-in_ok-add_parenthesis-in-Paren t c =
    let o = out-Type2 c.args.operand.now in
    let g = c.in-Paren.group in
    behind c.add_group.result c.add_group.new.found c.args.found.now c.add_parenthesis.new.found (parenthesis c.args.a_type o.at (lead_in g)) (group_sites g) _
    c.in_ok-add_parenthesis-in-Paren.ensures
    (sym (ap (form_sites c.args.a_type o.at) c.in-Paren.is ∙ parenthesis-sites c.args.a_type o.at g))
    c.add_group.ensures

pub add_operand-returns-in-MapOf : goal.add_operand-returns-in-MapOf
add_operand-returns-in-MapOf t c =
    let o = out-Type2 c.args.operand.now in
    same c.add_group-in-MapOf.result c.add_group-in-MapOf.new.found c.args.found.now _ _ (sym (ap (form_sites c.args.a_type o.at) c.in-MapOf.is ∙ map-sites c.args.a_type o.at c.in-MapOf.group)) c.add_group-in-MapOf.ensures

pub add_operand-returns-in-ArrayOf : goal.add_operand-returns-in-ArrayOf
add_operand-returns-in-ArrayOf t c =
    let o = out-Type2 c.args.operand.now in
    same c.add_group-in-ArrayOf.result c.add_group-in-ArrayOf.new.found c.args.found.now _ _ (sym (ap (form_sites c.args.a_type o.at) c.in-ArrayOf.is ∙ array-sites c.args.a_type o.at c.in-ArrayOf.group)) c.add_group-in-ArrayOf.ensures

pub add_operand-returns-in-Enum : goal.add_operand-returns-in-Enum
add_operand-returns-in-Enum t c =
    let o = out-Type2 c.args.operand.now in
    same c.add_group-in-Enum.result c.add_group-in-Enum.new.found c.args.found.now _ _ (sym (ap (form_sites c.args.a_type o.at) c.in-Enum.is ∙ enum-sites c.args.a_type o.at c.in-Enum.group)) c.add_group-in-Enum.ensures

pub add_operand-returns-in-Tagged : goal.add_operand-returns-in-Tagged
add_operand-returns-in-Tagged t c =
    let o = out-Type2 c.args.operand.now in
    same c.add_type.result c.add_type.new.found c.args.found.now _ _ (sym (ap (form_sites c.args.a_type o.at) c.in-Tagged.is ∙ tag-sites c.args.a_type o.at c.in-Tagged.number c.in-Tagged.body)) c.add_type.ensures

-- ---- groups

pub add_group-loop-way-init : goal.add_group-loop-way-init
add_group-loop-way-init t c = begin way_listed c.args.found.now c.as_slice-way-items.result.now

pub add_group-loop-way-preserved : goal.add_group-loop-way-preserved
add_group-loop-way-preserved t c =
    grow way_listed c.args.found.now c.as_slice-way-items.result.now c.loop-way.found c.add_way.new.found c.loop-way.way-index c.way-item.result c.loop-way-test.true c.way-item.is c.loop-way.invariant c.in_ok-add_way.ensures

pub add_group-returns : goal.add_group-returns
add_group-returns t c =
    finish way_listed c.args.found.now c.as_slice-way-items.result.now c.loop-way.found _ c.loop-way.way-index c.loop-way-test.false
    (ap (flat_map way_listed) c.as_slice-way-items.ensures ∙ sym (group-sites c.args.group.now))
    c.loop-way.invariant

pub add_way-loop-entry-init : goal.add_way-loop-entry-init
add_way-loop-entry-init t c = begin (entry_sites false) c.args.found.now c.as_slice-entry-items.result.now

pub add_way-loop-entry-preserved : goal.add_way-loop-entry-preserved
add_way-loop-entry-preserved t c =
    grow (entry_sites false) c.args.found.now c.as_slice-entry-items.result.now c.loop-entry.found c.add_entry.new.found c.loop-entry.entry-index c.entry-item.result c.loop-entry-test.true c.entry-item.is c.loop-entry.invariant c.in_ok-add_entry.ensures

pub add_way-returns : goal.add_way-returns
add_way-returns t c =
    finish (entry_sites false) c.args.found.now c.as_slice-entry-items.result.now c.loop-entry.found _ c.loop-entry.entry-index c.loop-entry-test.false
    (ap (flat_map (entry_sites false)) c.as_slice-entry-items.ensures)
    c.loop-entry.invariant
