use Rattle.std.proofs.Common.{◌≡◌, [], ◌∷◌, ◌++◌, ◌∙◌, ap, sym, subst, List, arith}
use Rattle.ecd_cast.specs.declared.tree.CItem.{CItem}
use Rattle.ecd_cast.specs.declared.tree.CItem.TheVariants.{Struct as AStructDecl, Function as AFunction}
use Rattle.ecd_cast.specs.declared.tree.Function.{Function}
use Rattle.ecd_cast.specs.declared.tree.StructDecl.{StructDecl}
use Rattle.ecd_cast.specs.Validity.{IsValidAfter, call_depth_of}
use Rattle.ecd_cast.specs.Spelling.{IsSpelledItem}
use Rattle.ecd_compile.specs.Reader.{unit_struct, reader_items}
use Rattle.ecd_compile.proofs.ByteReader.{reader_reads, reader_serves, reader_valid, reader_spelled}
use Rattle.ecd_compile.proofs.reader.reader.Goals as goal

first : (empty items : List CItem) (s : StructDecl) → items ≡ empty ++ AStructDecl s ∷ [] → empty ≡ [] → s ≡ unit_struct → items ≡ AStructDecl unit_struct ∷ []
first empty items s e h k = e ∙ (ap (λ (l : List CItem). l ++ AStructDecl s ∷ []) h ∙ ap (λ t. AStructDecl t ∷ []) k)

pub push-requires-2-clause-valid : goal.push-requires-2-clause-valid
push-requires-2-clause-valid c =
    let items = first c.new-builder.result c.push.new.self c.in_ok-unit_struct.field-0 c.in_ok-push.ensures.ok c.new-builder.ensures c.in_ok-unit_struct.ensures in
    subst (λ (l : List CItem). IsValidAfter l (AFunction c.in_ok-function.field-0)) (sym items)
    (subst (λ (f : Function). IsValidAfter (AStructDecl unit_struct ∷ []) (AFunction f)) (sym c.in_ok-function.ensures) (reader_valid c.args.number))

pub push-requires-2-clause-spelled : goal.push-requires-2-clause-spelled
push-requires-2-clause-spelled c = subst (λ (f : Function). IsSpelledItem (AFunction f)) (sym c.in_ok-function.ensures) (reader_spelled c.args.number (omega arith))

all_items : (c : goal.After-finish) → c.finish.result.items ≡ reader_items c.args.number
all_items c =
    let items = first c.new-builder.result c.push.new.self c.in_ok-unit_struct.field-0 c.in_ok-push.ensures.ok c.new-builder.ensures c.in_ok-unit_struct.ensures in
    c.finish.ensures.items
    ∙ (c.in_ok-push-2.ensures.ok ∙ (ap (λ (l : List CItem). l ++ AFunction c.in_ok-function.field-0 ∷ []) items ∙ ap (λ (f : Function). AStructDecl unit_struct ∷ (AFunction f ∷ [])) c.in_ok-function.ensures))

pub returns-clause-reads : goal.returns-clause-reads
returns-clause-reads c = reader_reads c.args.number c.finish.result (all_items c) (c.finish.ensures.depth ∙ ap call_depth_of (sym c.finish.ensures.items))

pub returns-clause-interface : goal.returns-clause-interface
returns-clause-interface c = reader_serves c.args.number c.finish.result (all_items c)
