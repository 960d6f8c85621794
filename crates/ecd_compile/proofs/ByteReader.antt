-- The reader of one number is valid and reads that number.
use Rattle.std.proofs.Common.{◌≡◌, ℕ, ◌+◌, ◌<◌, ◌≤◌, ◌^◌, List, [], ◌∷◌, length, refl, ap, sym, ◌∙◌, arith, subst, add-zero, get_or, ⊎_elim, Bool, true, false, rules}
use Rattle.std.specs.Prelude.{◌≢◌, nat_lt, nat_eq, codes, slice_get, Some}
use Rattle.std.proofs.lemmas.Bool.{cases_lt, lt-ltb, le-ltb, eq-eqb, eqb-true}
use Rattle.std.proofs.lemmas.Option.{slice_get-get_or}
use denote.Hole.Carrier.{hidden}
use Rattle.ecd_cast.specs.declared.tree.Program.{Program}
use Rattle.ecd_cast.specs.declared.tree.CItem.TheVariants.{Struct as AStructDecl, Function as AFunction}
use Rattle.ecd_cast.specs.declared.tree.Expr.TheBlock as exprs
use Rattle.ecd_cast.specs.declared.tree.Stmt.TheBlock as stmts
use Rattle.ecd_cast.specs.declared.value.Cell.TheVariants.{Number as HoldsNumber}
use Rattle.ecd_cast.specs.Memory.{Step, Enters, Leaves, WritesCell, Bytes, Memory}
use Rattle.ecd_cast.specs.Meaning.{Returns}
use Rattle.ecd_cast.specs.Validity.{IsValidAfter, call_depth_of}
use Rattle.ecd_cast.specs.Spelling.{IsSpelledItem}
use Rattle.ecd_compile.specs.Reader.{reader_items, reader, unit_struct}
use Rattle.ecd_compile.specs.Reads.{Gives, reading, ReadsByte, HasInterface}

pub struct_valid : IsValidAfter [] (AStructDecl unit_struct)
struct_valid = record { sound = refl }

pub struct_spelled : IsSpelledItem (AStructDecl unit_struct)
struct_spelled = (refl, omega arith, (refl, tt))

pub reader_valid : (n : ℕ) → IsValidAfter (AStructDecl unit_struct ∷ []) (AFunction (reader n))
unfolding exprs.shape-the_row-Expr-0 exprs.hidden-the_row-Expr-0 hidden stmts.shape-the_row-Stmt-0 stmts.hidden-the_row-Stmt-0
reader_valid n = record { sound = refl }

pub reader_spelled : (n : ℕ) → n < 256 → IsSpelledItem (AFunction (reader n))
unfolding exprs.shape-the_row-Expr-0 exprs.hidden-the_row-Expr-0 hidden stmts.shape-the_row-Stmt-0 stmts.hidden-the_row-Stmt-0
reader_spelled n h = let fits : n < 2 ^ 64 = omega arith in search (rules, fits)

depth_one : (n : ℕ) → call_depth_of (reader_items n) ≡ 1
unfolding exprs.shape-the_row-Expr-0 exprs.hidden-the_row-Expr-0 hidden stmts.shape-the_row-Stmt-0 stmts.hidden-the_row-Stmt-0
depth_one n = refl

-- ---- the three ways through the body

module _ (n block offset len out : ℕ) (m : Memory) where
  short_way : nat_lt len 1 ≡ true → reading (reader_items n) block offset len out m ≡ Returns 0 (Enters ∷ Step ∷ Step ∷ Leaves ∷ [])
  unfolding exprs.shape-the_row-Expr-0 exprs.hidden-the_row-Expr-0 hidden stmts.shape-the_row-Stmt-0 stmts.hidden-the_row-Stmt-0
  short_way e = rw e

  other_way : (b : ℕ) (bytes : List ℕ) → nat_lt len 1 ≡ false → slice_get m block ≡ Some (Bytes bytes) → slice_get bytes (offset + 0) ≡ Some b → nat_eq b n ≡ false →
      reading (reader_items n) block offset len out m ≡ Returns 0 (Enters ∷ Step ∷ Step ∷ Step ∷ Leaves ∷ [])
  unfolding exprs.shape-the_row-Expr-0 exprs.hidden-the_row-Expr-0 hidden stmts.shape-the_row-Stmt-0 stmts.hidden-the_row-Stmt-0
  other_way b bytes e f g h = rw (e, f, g, h)

  taken_way : (b : ℕ) (bytes : List ℕ) → nat_lt len 1 ≡ false → slice_get m block ≡ Some (Bytes bytes) → slice_get bytes (offset + 0) ≡ Some b → nat_eq b n ≡ true →
      reading (reader_items n) block offset len out m ≡ Returns 1 (Enters ∷ Step ∷ Step ∷ Step ∷ WritesCell out (codes "unit") (HoldsNumber 0) ∷ Step ∷ Leaves ∷ [])
  unfolding exprs.shape-the_row-Expr-0 exprs.hidden-the_row-Expr-0 hidden stmts.shape-the_row-Stmt-0 stmts.hidden-the_row-Stmt-0
  taken_way b bytes e f g h = rw (e, f, g, h)

gives_short : (n block offset len out : ℕ) (m : Memory) → nat_lt len 1 ≡ true → Gives (reading (reader_items n) block offset len out m) 0 [] 1
gives_short n block offset len out m e = record { events = Enters ∷ Step ∷ Step ∷ Leaves ∷ []; returns = short_way n block offset len out m e; wrote = refl; within = omega arith }

gives_other : (n block offset len out b : ℕ) (m : Memory) (bytes : List ℕ) → nat_lt len 1 ≡ false → slice_get m block ≡ Some (Bytes bytes) → slice_get bytes (offset + 0) ≡ Some b → nat_eq b n ≡ false →
    Gives (reading (reader_items n) block offset len out m) 0 [] 1
gives_other n block offset len out b m bytes e f g h = record { events = Enters ∷ Step ∷ Step ∷ Step ∷ Leaves ∷ []; returns = other_way n block offset len out m b bytes e f g h; wrote = refl; within = omega arith }

gives_taken : (n block offset len out b : ℕ) (m : Memory) (bytes : List ℕ) → nat_lt len 1 ≡ false → slice_get m block ≡ Some (Bytes bytes) → slice_get bytes (offset + 0) ≡ Some b → nat_eq b n ≡ true →
    Gives (reading (reader_items n) block offset len out m) 1 (WritesCell out (codes "unit") (HoldsNumber 0) ∷ []) 1
gives_taken n block offset len out b m bytes e f g h = record {
  events = Enters ∷ Step ∷ Step ∷ Step ∷ WritesCell out (codes "unit") (HoldsNumber 0) ∷ Step ∷ Leaves ∷ [];
  returns = taken_way n block offset len out m b bytes e f g h;
  wrote = refl;
  within = omega arith;
}

-- ---- which way it goes

first_byte : (offset len : ℕ) (bytes : List ℕ) → offset + len ≤ length bytes → 1 ≤ len → slice_get bytes (offset + 0) ≡ Some (get_or bytes offset 0)
first_byte offset len bytes fit long = rw add-zero (slice_get-get_or bytes offset 0 (omega arith))

refused : (n block offset len out : ℕ) (m : Memory) (bytes : List ℕ) → slice_get m block ≡ Some (Bytes bytes) → offset + len ≤ length bytes → (1 ≤ len → slice_get bytes offset ≢ Some n) →
    Gives (reading (reader_items n) block offset len out m) 0 [] 1
refused n block offset len out m bytes f fit miss = ⊎_elim
    (λ short. gives_short n block offset len out m (lt-ltb len 1 short))
    (λ long. by_byte (nat_eq (get_or bytes offset 0) n) refl long)
    (cases_lt len 1)
  where
    by_byte : (same : Bool) → nat_eq (get_or bytes offset 0) n ≡ same → 1 ≤ len → Gives (reading (reader_items n) block offset len out m) 0 [] 1
    by_byte false e long = gives_other n block offset len out (get_or bytes offset 0) m bytes (le-ltb len 1 long) f (first_byte offset len bytes fit long) e
    by_byte true e long =
        let there : slice_get bytes offset ≡ Some (get_or bytes offset 0) = slice_get-get_or bytes offset 0 (omega arith) in
        absurd (miss long (there ∙ ap Some (eqb-true (get_or bytes offset 0) n e)))

items_read : (n : ℕ) → ReadsByte n (record { depth = 1; items = reader_items n })
items_read n = record {
  takes = λ block offset len out m bytes f fit small long hit. gives_taken n block offset len out n m bytes (le-ltb len 1 long) f (rw add-zero hit) (eq-eqb n n refl);
  refuses = λ block offset len out m bytes f fit small miss. refused n block offset len out m bytes f fit miss;
}

has_interface : (n : ℕ) → HasInterface (reader_items n)
has_interface n = record { structs = refl; names = refl; params = refl }

pub reader_serves : (n : ℕ) (p : Program) → p.items ≡ reader_items n → HasInterface p.items
reader_serves n p e = subst HasInterface (sym e) (has_interface n)

pub reader_reads : (n : ℕ) (p : Program) → p.items ≡ reader_items n → p.depth ≡ call_depth_of p.items → ReadsByte n p
reader_reads n p e d =
    let one : p.depth ≡ 1 = d ∙ (ap call_depth_of e ∙ depth_one n) in
    let same : record { depth = 1; items = reader_items n } ≡ p = λ i. record { depth = sym one i; items = sym e i } in
    subst (λ (q : Program). ReadsByte n q) same (items_read n)
