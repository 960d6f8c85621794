use Rattle.std.proofs.Common.{◌≡◌, ◌+◌, ℕ, sym, ◌∙◌, subst, true, false}
use Rattle.std.specs.Prelude.{bytes_eq}
use Rattle.ecd_commands.proofs.Structs.{Searched, past_function, past_struct, at_struct}
use Rattle.ecd_commands.proofs.cfiles.struct_of.Goals as goal
use Rattle.ecd_commands.proofs.cfiles.struct_of.Goals.{in-Struct+else-eq, in_default}

pub returns-then-eq : goal.returns-then-eq
returns-then-eq c =
    let same : bytes_eq c.in-Struct.declaration.name c.args.name.now ≡ true = rw c.as_slice.ensures at (sym c.eq.ensures ∙ c.if-eq.true) in
    let found = at_struct c.args.items.now c.args.name.now c.loop-item.item-index c.loop-item.number c.item-item.result c.in-Struct.declaration c.loop-item-test.true c.item-item.is c.in-Struct.is same c.loop-item.invariant in
    (found.declared, found.placed)

pub loop-item-preserved : goal.loop-item-preserved
loop-item-preserved c =
    elim c.match-item.branch [
      | in-Struct+else-eq w ↦
          let other : bytes_eq w.in-Struct.declaration.name c.args.name.now ≡ false = rw w.as_slice.ensures at (sym w.eq.ensures ∙ w.if-eq.false) in
          subst (λ (n : ℕ). Searched c.args.items.now c.args.name.now (c.loop-item.item-index + 1) n) (sym w.number-is)
          (past_struct c.args.items.now c.args.name.now c.loop-item.item-index c.loop-item.number c.item-item.result w.in-Struct.declaration c.loop-item-test.true c.item-item.is w.in-Struct.is other c.loop-item.invariant)
      | in_default w ↦
          subst (λ (n : ℕ). Searched c.args.items.now c.args.name.now (c.loop-item.item-index + 1) n) (sym w.number-is)
          (past_function c.args.items.now c.args.name.now c.loop-item.item-index c.loop-item.number c.item-item.result w.in_default.field-0 c.loop-item-test.true c.item-item.is w.in_default.is c.loop-item.invariant)
    ]
