use Rattle.std.proofs.Common.{◌+◌, arith, ap, ◌≡◌, eqb, true, false, get_or, Some, None}
use Rattle.ecd_lex.specs.Forms.{is_unit, escape_of}
use Rattle.std.proofs.lemmas.Bool.Decides.{nat_tests}
use Rattle.ecd_lex.specs.Scan.{placed}
use Rattle.ecd_lex.proofs.Bodies.{piece_plain, piece_unit, piece_no_unit, piece_escape, piece_no_escape}
use Rattle.ecd_lex.proofs.string.decode_piece.Goals as goal

pub returns-then-first-ne92-clause-ok : goal.returns-then-first-ne92-clause-ok
returns-then-first-ne92-clause-ok c =
    let t : eqb (get_or c.args.body.now c.args.at 0) 92 ≡ false = grind (arith, nat_tests) in
    let p = piece_plain c.args.quote c.args.body.now c.args.bytes.now c.args.at c.requires t in
    grind (arith, p)

pub returns-in_default-clause-err : goal.returns-in_default-clause-err
returns-in_default-clause-err c =
    let t : eqb (get_or c.args.body.now c.args.at 0) 92 ≡ true = grind (arith, nat_tests) in
    let u : eqb (get_or c.args.body.now (c.args.at + 1) 0) 117 ≡ true = grind (arith, nat_tests) in
    let v : is_unit (get_or c.args.body.now (c.args.at + 2) 0) (get_or c.args.body.now (c.args.at + 3) 0) (get_or c.args.body.now (c.args.at + 4) 0) (get_or c.args.body.now (c.args.at + 5) 0) ≡ false = grind arith in
    let p = piece_no_unit c.args.quote c.args.body.now c.args.bytes.now c.args.at c.requires t u v in
    grind (arith, ap (placed 1 3) p)

pub returns-then-second-eq117-clause-ok : goal.returns-then-second-eq117-clause-ok
returns-then-second-eq117-clause-ok c =
    let t : eqb (get_or c.args.body.now c.args.at 0) 92 ≡ true = grind (arith, nat_tests) in
    let u : eqb (get_or c.args.body.now (c.args.at + 1) 0) 117 ≡ true = grind (arith, nat_tests) in
    let v : is_unit (get_or c.args.body.now (c.args.at + 2) 0) (get_or c.args.body.now (c.args.at + 3) 0) (get_or c.args.body.now (c.args.at + 4) 0) (get_or c.args.body.now (c.args.at + 5) 0) ≡ true = grind arith in
    let p = piece_unit c.args.quote c.args.body.now c.args.bytes.now c.args.at c.requires t u v in
    grind (arith, p)

pub returns-in_default-escape_of-clause-err : goal.returns-in_default-escape_of-clause-err
returns-in_default-escape_of-clause-err c =
    let t : eqb (get_or c.args.body.now c.args.at 0) 92 ≡ true = grind (arith, nat_tests) in
    let u : eqb (get_or c.args.body.now (c.args.at + 1) 0) 117 ≡ false = grind (arith, nat_tests) in
    let v : escape_of c.args.quote (get_or c.args.body.now (c.args.at + 1) 0) ≡ None = grind arith in
    let p = piece_no_escape c.args.quote c.args.body.now c.args.bytes.now c.args.at c.requires t u v in
    grind (arith, ap (placed 1 3) p)

pub returns-clause-ok : goal.returns-clause-ok
returns-clause-ok c =
    let t : eqb (get_or c.args.body.now c.args.at 0) 92 ≡ true = grind (arith, nat_tests) in
    let u : eqb (get_or c.args.body.now (c.args.at + 1) 0) 117 ≡ false = grind (arith, nat_tests) in
    let v : escape_of c.args.quote (get_or c.args.body.now (c.args.at + 1) 0) ≡ Some c.in-Some-escape_of.character = grind arith in
    let p = piece_escape c.args.quote c.args.body.now c.args.bytes.now c.args.at c.in-Some-escape_of.character c.requires t u v in
    grind (arith, p)
