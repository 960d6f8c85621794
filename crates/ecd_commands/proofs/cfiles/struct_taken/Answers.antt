use Rattle.std.proofs.Common.{◌≡◌, arith, length, refl, ap, sym, ◌∙◌, subst}
use Rattle.std.specs.Prelude.{Some, slice_get}
use Rattle.std.proofs.lemmas.Option.{slice_get_read}
use Rattle.ecd_cast.specs.declared.tree.CItem.TheVariants.{Function as AFunction}
use Rattle.ecd_cast.specs.Memory.{Name}
use Rattle.ecd_commands.specs.Calls.{TakesStruct}
use Rattle.ecd_commands.proofs.Params.{three_are, takes_struct, kinds_of}
use Rattle.ecd_commands.proofs.cfiles.struct_taken.Goals as goal
use Rattle.ecd_commands.proofs.cfiles.struct_taken.Goals.{in_default-2-via-in-ReadPointer+in-Number+in_default, in_default-2-via-in-ReadPointer+in_default, in_default-2-via-in_default}

pub returns-in-ReadPointer-Number-Struct : goal.returns-in-ReadPointer-Number-Struct
returns-in-ReadPointer-Number-Struct c =
    let f = c.in-Some-Function.function in
    let stands : slice_get c.args.items.now c.args.function ≡ Some (AFunction f) =
    slice_get_read c.args.items.now (length c.args.items.now) c.args.function c.in-Some-Function.field-0.now refl c.in-Some-Function.ensures.lookup.3.0 c.in-Some-Function.ensures.lookup.1
    ∙ ap Some c.in-Some-Function.field-0-is in
    let three : length c.as_slice.result.now ≡ 3 = omega arith in
    let are = three_are c.as_slice.result.now c.buffer-item.result c.length-item.result c.cells-item.result three c.buffer-item.is c.length-item.is c.cells-item.is in
    subst (λ (n : Name). TakesStruct c.args.items.now c.args.function n) (sym c.as_slice-in-ReadPointer-Number-Struct.ensures)
    (takes_struct c.args.items.now c.args.function f c.buffer-item.result c.length-item.result c.cells-item.result c.in-ReadPointer-Number-Struct.name stands
    (sym c.as_slice.ensures ∙ are) c.in-ReadPointer-Number-Struct.is-0 c.in-ReadPointer-Number-Struct.is-1 c.in-ReadPointer-Number-Struct.is-2)

pub returns-in_default-2 : goal.returns-in_default-2
returns-in_default-2 c = λ f stands takes.
    let own : slice_get c.args.items.now c.args.function ≡ Some (AFunction c.in-Some-Function.function) =
    slice_get_read c.args.items.now (length c.args.items.now) c.args.function c.in-Some-Function.field-0.now refl c.in-Some-Function.ensures.lookup.3.0 c.in-Some-Function.ensures.lookup.1
    ∙ ap Some c.in-Some-Function.field-0-is in
    let three : length c.as_slice.result.now ≡ 3 = omega arith in
    let are = three_are c.as_slice.result.now c.buffer-item.result c.length-item.result c.cells-item.result three c.buffer-item.is c.length-item.is c.cells-item.is in
    let kinds = kinds_of c.args.items.now c.args.function c.in-Some-Function.function f c.buffer-item.result c.length-item.result c.cells-item.result own (sym c.as_slice.ensures ∙ are) stands takes in
    elim c.in_default-2.branch [
      | in_default-2-via-in-ReadPointer+in-Number+in_default w ↦ w.in_default-2.not-Struct-2 takes.struct_ kinds.fills
      | in_default-2-via-in-ReadPointer+in_default w ↦ w.in_default-2.not-Number-1 kinds.counts
      | in_default-2-via-in_default w ↦ w.in_default-2.not-ReadPointer-0 kinds.reads
    ]
