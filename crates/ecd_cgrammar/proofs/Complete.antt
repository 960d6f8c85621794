-- What is spelled is read, unless it stands too deep.
use Rattle.std.proofs.Common.{◌≡◌, ℕ, zero, suc, ◌<◌, true, false, List, [], ◌∷◌, ◌++◌, length, None, refl, arith, append_assoc}
use Rattle.std.specs.Prelude.{codes, flat_map}
use denote.Hole.Carrier.{shown}
use Rattle.ecd_cast.specs.declared.tree.Op.{Op}
use Rattle.ecd_cast.specs.declared.tree.Op.TheVariants.{Add, Sub, Mul, Shl, Shr, BitAnd, BitOr, Eq, Ne, Lt, Le, Gt, Ge, And, Or}
use Rattle.ecd_cast.specs.declared.tree.Expr.{Expr, Row_of-Expr, end_of-Expr, more_of-Expr}
use Rattle.ecd_cast.specs.declared.tree.Expr.TheBlock as exprs
use Rattle.ecd_cast.specs.declared.tree.Expr.TheVariants.{Number, Var, Cell as CellOf, Load', Binary', Not'}
use Rattle.ecd_cast.specs.declared.tree.Source.{Source}
use Rattle.ecd_cast.specs.declared.tree.Source.TheVariants.{Value as FromValue, Call as FromCall}
use Rattle.ecd_cast.specs.declared.tree.Stmt.{Stmt, Row_of-Stmt, end_of-Stmt, more_of-Stmt, items-the_row-Stmt}
use Rattle.ecd_cast.specs.declared.tree.Stmt.TheVariants.{Number as DeclNumber, Pointer as DeclPointer, Assign, Store, SetCell, If, If', For, For', Return}
use Rattle.ecd_cast.specs.Memory.{Name}
use Rattle.ecd_cast.specs.Lexemes.{Lexeme, is_name}
use Rattle.ecd_cast.specs.Spelling.{sign, literal, expr_lexemes, operand_lexemes, with_commas, source_lexemes, stmt_lexemes, row_lexemes, IsName, IsSpelledExpr, IsSpelledOperand, AreSpelled, IsSpelledSource, IsSpelledStmt, IsSpelledRow}
use Rattle.ecd_cgrammar.specs.Reading.{Reader, taken, deep, after, expect, peek, same, begins, literal_of, op_of, is_before, many, up_to, one_or_more, separated, listed, behind_name, load_at, not_at, binary_at, behind_open, expr_layer, expr_at, source_behind, source_at, number_at, pointer_at, assign_at, store_at, set_cell_at, behind_target, block_at, if_at, bound_at, turn_at, for_at, return_at, stmt_layer, stmt_at}
use Rattle.ecd_cgrammar.proofs.Layers.{Load-row, Binary-row, Not-row, If-row, For-row}
use Rattle.ecd_cgrammar.proofs.Tables.{literal_read, literal_no_name, op_read, name_not, literal_not}
use Rattle.ecd_cgrammar.proofs.Fine.{Fine, fine_taken, fine_deep, fine_after, fine_expect, fine_named, fine_here, fine_past, fine_on_name, fine_on, fine_off, fine_token, fine_stop, fine_more, fine_many}

-- ---- what may stand behind an expression

abbrev pub NoArrow : List Lexeme → Type 0
NoArrow ms = peek (same (codes "->")) ms ≡ None

no_arrow_sign : (op : Op) (rest : List Lexeme) → NoArrow (sign op ∷ rest)
no_arrow_sign Add rest = refl
no_arrow_sign Sub rest = refl
no_arrow_sign Mul rest = refl
no_arrow_sign Shl rest = refl
no_arrow_sign Shr rest = refl
no_arrow_sign BitAnd rest = refl
no_arrow_sign BitOr rest = refl
no_arrow_sign Eq rest = refl
no_arrow_sign Ne rest = refl
no_arrow_sign Lt rest = refl
no_arrow_sign Le rest = refl
no_arrow_sign Gt rest = refl
no_arrow_sign Ge rest = refl
no_arrow_sign And rest = refl
no_arrow_sign Or rest = refl

-- ---- expressions

fine_name : (x : Name) (rest : List Lexeme) → NoArrow rest → Fine (behind_name x) rest (Var x) rest
unfolding behind_name
fine_name x rest h = fine_past _ _ (codes "->") rest _ _ h (fine_taken (Var x) rest)

fine_cell : (x c : Name) (rest : List Lexeme) → IsName c → Fine (behind_name x) (codes "->" ∷ c ∷ rest) (CellOf x c) rest
unfolding behind_name
fine_cell x c rest n = fine_here _ _ (codes "->") (c ∷ rest) _ _ (fine_named _ c rest _ _ n (fine_taken (CellOf x c) rest))

-- read so wherever it stands
abbrev IsRead : Expr → Type 0
IsRead e = (n : ℕ) (rest : List Lexeme) → NoArrow rest → Fine (expr_at n) (expr_lexemes e ++ rest) e rest

abbrev RowRead : {k : _} → Row_of-Expr k → Type 0
RowRead end_of-Expr = Unit {0}
RowRead (more_of-Expr e row) = IsRead e

one_read : (s : Unit {0}) (r : Row_of-Expr 1) → RowRead r → (n : ℕ) (rest : List Lexeme) → NoArrow rest → Fine (expr_at n) (operand_lexemes r ++ rest) (exprs.shown-the_row-Expr-0 s r) rest
unfolding exprs.shown-the_row-Expr-0 shown
one_read s (more_of-Expr e end_of-Expr) h n rest f = h n rest f

-- a lexeme that begins no expression
record BeginsNone (l : Lexeme) : Type 0 where
  no_name : is_name l ≡ false
  no_literal : literal_of l ≡ None
  no_bracket : same l (codes "(") ≡ None

none_of : (l m : Lexeme) (ms : List Lexeme) → same l m ≡ None → peek (same l) (m ∷ ms) ≡ None
none_of l m ms e = rw e refl

not_first : (l : Lexeme) → BeginsNone l → (e : Expr) → IsSpelledExpr e → (rest : List Lexeme) → peek (same l) (expr_lexemes e ++ rest) ≡ None
not_first l b (Number k) h rest = none_of l (literal k) rest (literal_not l k b.no_literal h)
not_first l b (Var x) h rest = none_of l x rest (name_not l x b.no_name h)
not_first l b (CellOf x c) h rest = none_of l x (codes "->" ∷ c ∷ rest) (name_not l x b.no_name h.0)
not_first l b (Load' x s i) h rest = none_of l (codes "(") _ b.no_bracket
not_first l b (Binary' op s a t c) h rest = none_of l (codes "(") _ b.no_bracket
not_first l b (Not' s a) h rest = none_of l (codes "(") _ b.no_bracket

not_first_row : (l : Lexeme) → BeginsNone l → (r : Row_of-Expr 1) → IsSpelledOperand r → (rest : List Lexeme) → peek (same l) (operand_lexemes r ++ rest) ≡ None
not_first_row l b (more_of-Expr e end_of-Expr) h rest = not_first l b e h rest

type_begins_none : BeginsNone (codes "uint64_t")
type_begins_none = record { no_name = refl; no_literal = refl; no_bracket = refl }

bang_begins_none : BeginsNone (codes "!")
bang_begins_none = record { no_name = refl; no_literal = refl; no_bracket = refl }

pub two_parts : (a b rest : List Lexeme) (m : Lexeme) → (a ++ m ∷ b) ++ rest ≡ a ++ m ∷ (b ++ rest)
two_parts a b rest m = append_assoc a (m ∷ b) rest

module _ (n : ℕ) where
  fine_load : (x : Name) (s : Unit {0}) (i : Row_of-Expr 1) → IsName x → RowRead i → (rest : List Lexeme) →
      Fine (load_at (expr_at n)) (codes ")" ∷ x ∷ codes "[" ∷ ((operand_lexemes i ++ codes "]" ∷ []) ++ rest)) (Load' x s i) rest
  unfolding load_at
  fine_load x s i h r rest =
      rw (two_parts (operand_lexemes i) [] rest (codes "]"), Load-row x s i)
      (fine_expect _ (codes ")") _ _ _ (fine_named _ x _ _ _ h (fine_expect _ (codes "[") _ _ _
      (fine_after _ _ _ _ _ _ _ (one_read s i r n (codes "]" ∷ rest) refl) (fine_expect _ (codes "]") _ _ _ (fine_taken _ rest))))))

  fine_not : (s : Unit {0}) (a : Row_of-Expr 1) → RowRead a → (rest : List Lexeme) → Fine (not_at (expr_at n)) ((operand_lexemes a ++ codes ")" ∷ []) ++ rest) (Not' s a) rest
  unfolding not_at
  fine_not s a r rest =
      rw (two_parts (operand_lexemes a) [] rest (codes ")"), Not-row s a)
      (fine_after _ _ _ _ _ _ _ (one_read s a r n (codes ")" ∷ rest) refl) (fine_expect _ (codes ")") _ _ _ (fine_taken _ rest)))

  fine_binary : (op : Op) (s : Unit {0}) (a : Row_of-Expr 1) (t : Unit {0}) (b : Row_of-Expr 1) → RowRead a → RowRead b → (rest : List Lexeme) →
      Fine (binary_at (expr_at n)) ((operand_lexemes a ++ sign op ∷ (operand_lexemes b ++ codes ")" ∷ [])) ++ rest) (Binary' op s a t b) rest
  unfolding binary_at
  fine_binary op s a t b p q rest =
      rw (two_parts (operand_lexemes a) (operand_lexemes b ++ codes ")" ∷ []) rest (sign op), two_parts (operand_lexemes b) [] rest (codes ")"), Binary-row op s a t b)
      (fine_after _ _ _ _ _ _ _ (one_read s a p n _ (no_arrow_sign op _)) (fine_after _ _ _ _ _ _ _ (fine_token op_of (sign op) op _ (op_read op))
      (fine_after _ _ _ _ _ _ _ (one_read t b q n (codes ")" ∷ rest) refl) (fine_expect _ (codes ")") _ _ _ (fine_taken _ rest)))))

  behind_bracket : (e : Expr) (ms rest : List Lexeme) → Fine (behind_open (expr_at n)) ms e rest → Fine (expr_layer (expr_at n)) (codes "(" ∷ ms) e rest
  unfolding expr_layer
  behind_bracket e ms rest f = fine_off _ _ _ (codes "(") ms _ _ refl (fine_off _ _ _ (codes "(") ms _ _ refl (fine_expect _ (codes "(") ms _ _ f))

mutual
  unfolding expr_at expr_layer behind_open

  pub fine_expr : (e : Expr) → IsSpelledExpr e → IsRead e
  fine_expr e h zero rest f = fine_deep e _ rest
  fine_expr (Number k) h (suc n) rest f = fine_off _ _ _ (literal k) rest _ _ (literal_no_name k h) (fine_on _ _ _ (literal k) k rest _ _ (literal_read k h) (fine_taken (Number k) rest))
  fine_expr (Var x) h (suc n) rest f = fine_on_name _ _ x rest _ _ h (fine_name x rest f)
  fine_expr (CellOf x c) h (suc n) rest f = fine_on_name _ _ x _ _ _ h.0 (fine_cell x c rest h.1)
  fine_expr (Load' x s i) h (suc n) rest f = behind_bracket n _ _ rest (fine_here _ _ (codes "uint64_t") _ _ _ (fine_load n x s i h.0 (fine_row i h.1) rest))
  fine_expr (Binary' op s a t b) h (suc n) rest f =
      behind_bracket n _ _ rest (fine_past _ _ (codes "uint64_t") _ _ _ (not_there (codes "uint64_t") type_begins_none) (fine_past _ _ (codes "!") _ _ _ (not_there (codes "!") bang_begins_none) (fine_binary n op s a t b (fine_row a h.0) (fine_row b h.1) rest)))
    where
      not_there : (l : Lexeme) → BeginsNone l → peek (same l) ((operand_lexemes a ++ sign op ∷ (operand_lexemes b ++ codes ")" ∷ [])) ++ rest) ≡ None
      not_there l begins = rw (two_parts (operand_lexemes a) (operand_lexemes b ++ codes ")" ∷ []) rest (sign op)) (not_first_row l begins a h.0 _)
  fine_expr (Not' s a) h (suc n) rest f = behind_bracket n _ _ rest (fine_past _ _ (codes "uint64_t") _ _ _ refl (fine_here _ _ (codes "!") _ _ _ (fine_not n s a (fine_row a h) rest)))

  fine_row : {k : _} (r : Row_of-Expr k) → IsSpelledOperand r → RowRead r
  fine_row end_of-Expr h = tt
  fine_row (more_of-Expr e row) h = fine_expr e h

-- ---- lists

module _ (size n : ℕ) where
  more_args : (es : List Expr) → AreSpelled es → (rest : List Lexeme) → (k : ℕ) → Fine (many (begins (same (codes ","))) (expect (codes ",") (expr_at n)) deep k) (flat_map (λ e. codes "," ∷ expr_lexemes e) es ++ codes ")" ∷ rest) es (codes ")" ∷ rest)
  more_args es h rest k =
      fine_many (λ e. codes "," ∷ expr_lexemes e) IsSpelledExpr AreSpelled (λ x xs g. (g.0, g.1)) NoArrow (λ x r. refl) (begins (same (codes ","))) (expect (codes ",") (expr_at n))
      (λ x r v f. fine_expect _ (codes ",") _ _ _ (fine_expr x v n r f)) (λ x r v. refl) es (codes ")" ∷ rest) h refl refl k

  after_first : (es : List Expr) (rest : List Lexeme) → NoArrow (flat_map (λ e. codes "," ∷ expr_lexemes e) es ++ codes ")" ∷ rest)
  after_first [] rest = refl
  after_first (e ∷ es) rest = refl

  fine_args : (args : List Expr) → 0 < length args → AreSpelled args → (rest : List Lexeme) → Fine (listed (expr_at n) size) ((with_commas expr_lexemes args ++ codes ")" ∷ []) ++ rest) args rest
  unfolding listed separated one_or_more
  fine_args [] lt h rest = absurd (omega arith)
  fine_args (e ∷ es) lt h rest =
      let more : List Lexeme = flat_map (λ y. codes "," ∷ expr_lexemes y) es in
      rw (two_parts (expr_lexemes e ++ more) [] rest (codes ")"), append_assoc (expr_lexemes e) more (codes ")" ∷ rest))
      (fine_after _ _ _ _ _ _ _ (fine_after _ _ _ _ _ _ _ (fine_expr e h.0 n _ (after_first es rest)) (fine_after _ _ _ _ _ _ _ (more_args es h.1 rest size) (fine_taken _ _))) (fine_expect _ (codes ")") _ _ _ (fine_taken _ rest)))

  -- ---- sources

  fine_behind : (x : Name) (rest : List Lexeme) → Fine (source_behind size (expr_at n) x) (codes ";" ∷ rest) (FromValue (Var x)) (codes ";" ∷ rest)
  unfolding source_behind
  fine_behind x rest = fine_past _ _ (codes "(") _ _ _ refl (fine_after _ _ _ _ _ _ _ (fine_name x (codes ";" ∷ rest) refl) (fine_taken _ _))

  fine_source : (s : Source) → IsSpelledSource s → (rest : List Lexeme) → Fine (source_at size (expr_at n)) (source_lexemes s ++ codes ";" ∷ rest) s (codes ";" ∷ rest)
  unfolding source_at source_behind
  fine_source (FromCall g args) h rest =
      fine_on_name _ _ g _ _ _ h.0 (fine_here _ _ (codes "(") _ _ _ (fine_after _ _ _ _ _ _ _ (fine_args args h.1 h.2 (codes ";" ∷ rest)) (fine_taken _ _)))
  fine_source (FromValue (Number k)) h rest = fine_off _ _ _ (literal k) _ _ _ (literal_no_name k h) (from (Number k) h)
    where
      from : (e : Expr) → IsSpelledExpr e → Fine (after (expr_at n) (λ v. taken (FromValue v))) (expr_lexemes e ++ codes ";" ∷ rest) (FromValue e) (codes ";" ∷ rest)
      from e g = fine_after _ _ _ _ _ _ _ (fine_expr e g n (codes ";" ∷ rest) refl) (fine_taken _ _)
  fine_source (FromValue (Var x)) h rest = fine_on_name _ _ x _ _ _ h (fine_past _ _ (codes "(") _ _ _ refl (fine_after _ _ _ _ _ _ _ (fine_name x (codes ";" ∷ rest) refl) (fine_taken _ _)))
  fine_source (FromValue (CellOf x c)) h rest = fine_on_name _ _ x _ _ _ h.0 (fine_past _ _ (codes "(") _ _ _ refl (fine_after _ _ _ _ _ _ _ (fine_cell x c (codes ";" ∷ rest) h.1) (fine_taken _ _)))
  fine_source (FromValue (Load' x s i)) h rest = fine_off _ _ _ (codes "(") _ _ _ refl (fine_after _ _ _ _ _ _ _ (fine_expr (Load' x s i) h n (codes ";" ∷ rest) refl) (fine_taken _ _))
  fine_source (FromValue (Binary' op s a t b)) h rest = fine_off _ _ _ (codes "(") _ _ _ refl (fine_after _ _ _ _ _ _ _ (fine_expr (Binary' op s a t b) h n (codes ";" ∷ rest) refl) (fine_taken _ _))
  fine_source (FromValue (Not' s a)) h rest = fine_off _ _ _ (codes "(") _ _ _ refl (fine_after _ _ _ _ _ _ _ (fine_expr (Not' s a) h n (codes ";" ∷ rest) refl) (fine_taken _ _))

-- ---- statements

goes_on : (x : Name) (ms : List Lexeme) → IsName x → is_before (codes "}") (x ∷ ms) ≡ true
goes_on x ms n = rw (name_not (codes "}") x refl n) refl

pub stmt_goes : (s : Stmt) → IsSpelledStmt s → (rest : List Lexeme) → is_before (codes "}") (stmt_lexemes s ++ rest) ≡ true
stmt_goes (DeclNumber x e) h rest = refl
stmt_goes (DeclPointer x e) h rest = refl
stmt_goes (Assign x e) h rest = goes_on x _ h.0
stmt_goes (Store x i e) h rest = goes_on x _ h.0
stmt_goes (SetCell x c e) h rest = goes_on x _ h.0
stmt_goes (If' t s ys u ns) h rest = refl
stmt_goes (For' x b s body) h rest = refl
stmt_goes (Return e) h rest = refl

-- an expression and one lexeme behind it
fine_value : {B : Type 0} (n : ℕ) (e : Expr) → IsSpelledExpr e → (m : Lexeme) → same (codes "->") m ≡ None → (q : Expr → Reader B) (y : B) (rest left : List Lexeme) → Fine (q e) rest y left → Fine (after (expr_at n) (λ v. expect m (q v))) (expr_lexemes e ++ m ∷ rest) y left
fine_value n e h m apart q y rest left f = fine_after _ _ _ _ _ _ _ (fine_expr e h n (m ∷ rest) (none_of (codes "->") m rest apart)) (fine_expect _ m _ _ _ f)

module _ (size n : ℕ) where
  fine_number : (x : Name) (v : Source) → IsName x → IsSpelledSource v → (rest : List Lexeme) → Fine (number_at size (expr_at n)) (x ∷ codes "=" ∷ ((source_lexemes v ++ codes ";" ∷ []) ++ rest)) (DeclNumber x v) rest
  unfolding number_at
  fine_number x v h g rest =
      rw (two_parts (source_lexemes v) [] rest (codes ";"))
      (fine_named _ x _ _ _ h (fine_expect _ (codes "=") _ _ _ (fine_after _ _ _ _ _ _ _ (fine_source size n v g rest) (fine_expect _ (codes ";") _ _ _ (fine_taken _ rest)))))

  fine_pointer : (x : Name) (e : Expr) → IsName x → IsSpelledExpr e → (rest : List Lexeme) → Fine (pointer_at (expr_at n)) (codes "uint8_t" ∷ codes "*" ∷ x ∷ codes "=" ∷ ((expr_lexemes e ++ codes ";" ∷ []) ++ rest)) (DeclPointer x e) rest
  unfolding pointer_at
  fine_pointer x e h g rest =
      rw (two_parts (expr_lexemes e) [] rest (codes ";"))
      (fine_expect _ (codes "uint8_t") _ _ _ (fine_expect _ (codes "*") _ _ _ (fine_named _ x _ _ _ h (fine_expect _ (codes "=") _ _ _ (fine_value n e g (codes ";") refl _ _ rest rest (fine_taken _ rest))))))

  fine_assign : (x : Name) (v : Source) → IsSpelledSource v → (rest : List Lexeme) → Fine (assign_at size (expr_at n) x) ((source_lexemes v ++ codes ";" ∷ []) ++ rest) (Assign x v) rest
  unfolding assign_at
  fine_assign x v g rest = rw (two_parts (source_lexemes v) [] rest (codes ";")) (fine_after _ _ _ _ _ _ _ (fine_source size n v g rest) (fine_expect _ (codes ";") _ _ _ (fine_taken _ rest)))

  fine_store : (x : Name) (i e : Expr) → IsSpelledExpr i → IsSpelledExpr e → (rest : List Lexeme) →
      Fine (store_at (expr_at n) x) ((expr_lexemes i ++ codes "]" ∷ codes "=" ∷ codes "(" ∷ codes "uint8_t" ∷ codes ")" ∷ (expr_lexemes e ++ codes ";" ∷ [])) ++ rest) (Store x i e) rest
  unfolding store_at
  fine_store x i e h g rest =
      rw (two_parts (expr_lexemes i) (codes "=" ∷ codes "(" ∷ codes "uint8_t" ∷ codes ")" ∷ (expr_lexemes e ++ codes ";" ∷ [])) rest (codes "]"), two_parts (expr_lexemes e) [] rest (codes ";"))
      (fine_value n i h (codes "]") refl _ _ _ rest (fine_expect _ (codes "=") _ _ _ (fine_expect _ (codes "(") _ _ _ (fine_expect _ (codes "uint8_t") _ _ _ (fine_expect _ (codes ")") _ _ _
      (fine_value n e g (codes ";") refl _ _ rest rest (fine_taken _ rest)))))))

  fine_set_cell : (x c : Name) (e : Expr) → IsName c → IsSpelledExpr e → (rest : List Lexeme) → Fine (set_cell_at (expr_at n) x) (c ∷ codes "=" ∷ ((expr_lexemes e ++ codes ";" ∷ []) ++ rest)) (SetCell x c e) rest
  unfolding set_cell_at
  fine_set_cell x c e h g rest = rw (two_parts (expr_lexemes e) [] rest (codes ";")) (fine_named _ c _ _ _ h (fine_expect _ (codes "=") _ _ _ (fine_value n e g (codes ";") refl _ _ rest rest (fine_taken _ rest))))

  fine_return : (e : Expr) → IsSpelledExpr e → (rest : List Lexeme) → Fine (return_at (expr_at n)) ((expr_lexemes e ++ codes ";" ∷ []) ++ rest) (Return e) rest
  unfolding return_at
  fine_return e h rest = rw (two_parts (expr_lexemes e) [] rest (codes ";")) (fine_value n e h (codes ";") refl _ _ rest rest (fine_taken _ rest))

-- the statements of a block are read wherever they stand
abbrev ListIsRead : ℕ → ℕ → List Lexeme → List Stmt → Type 0
ListIsRead size n text ss = (rest : List Lexeme) (m : ℕ) → Fine (many (is_before (codes "}")) (stmt_at size n) deep m) (text ++ codes "}" ∷ rest) ss (codes "}" ∷ rest)

module _ (size n : ℕ) where
  pub fine_block : (text : List Lexeme) (ss : List Stmt) → ListIsRead size n text ss → (rest : List Lexeme) → Fine (block_at size (stmt_at size n)) (codes "{" ∷ (text ++ codes "}" ∷ rest)) ss rest
  unfolding block_at up_to
  fine_block text ss r rest = fine_expect _ (codes "{") _ _ _ (fine_after _ _ _ _ _ _ _ (r rest size) (fine_expect _ (codes "}") _ _ _ (fine_taken ss rest)))

  fine_if : (t : Expr) (ys ns : List Lexeme) (yes_ no_ : List Stmt) → IsSpelledExpr t → ListIsRead size n ys yes_ → ListIsRead size n ns no_ → (rest : List Lexeme) →
      Fine (if_at size (expr_at n) (stmt_at size n)) ((expr_lexemes t ++ codes "{" ∷ (ys ++ codes "}" ∷ codes "else" ∷ codes "{" ∷ (ns ++ codes "}" ∷ []))) ++ rest) (If t yes_ no_) rest
  unfolding if_at
  fine_if t ys ns yes_ no_ h p q rest =
      rw (two_parts (expr_lexemes t) (ys ++ codes "}" ∷ codes "else" ∷ codes "{" ∷ (ns ++ codes "}" ∷ [])) rest (codes "{"), two_parts ys (codes "else" ∷ codes "{" ∷ (ns ++ codes "}" ∷ [])) rest (codes "}"), two_parts ns [] rest (codes "}"))
      (fine_after _ _ _ _ _ _ _ (fine_expr t h n _ refl) (fine_after _ _ _ _ _ _ _ (fine_block ys yes_ p _) (fine_expect _ (codes "else") _ _ _ (fine_after _ _ _ _ _ _ _ (fine_block ns no_ q rest) (fine_taken _ rest)))))

  fine_bound : (x b : Name) → IsName b → (rest : List Lexeme) → Fine (bound_at x) (codes "=" ∷ codes "0ull" ∷ codes ";" ∷ x ∷ codes "<" ∷ b ∷ rest) b rest
  unfolding bound_at
  fine_bound x b h rest =
      fine_expect _ (codes "=") _ _ _ (fine_expect _ (codes "0ull") _ _ _ (fine_expect _ (codes ";") _ _ _ (fine_expect _ x _ _ _ (fine_expect _ (codes "<") _ _ _ (fine_named _ b _ _ _ h (fine_taken b rest))))))

  fine_turn : (x : Name) (rest : List Lexeme) → Fine (turn_at x) (codes ";" ∷ x ∷ codes "+=" ∷ codes "1ull" ∷ codes ")" ∷ rest) tt rest
  unfolding turn_at
  fine_turn x rest = fine_expect _ (codes ";") _ _ _ (fine_expect _ x _ _ _ (fine_expect _ (codes "+=") _ _ _ (fine_expect _ (codes "1ull") _ _ _ (fine_expect _ (codes ")") _ _ _ (fine_taken tt rest)))))

  fine_for : (x b : Name) (text : List Lexeme) (body : List Stmt) → IsName x → IsName b → ListIsRead size n text body → (rest : List Lexeme) →
      Fine (for_at size (stmt_at size n)) (codes "(" ∷ codes "uint64_t" ∷ x ∷ codes "=" ∷ codes "0ull" ∷ codes ";" ∷ x ∷ codes "<" ∷ b ∷ codes ";" ∷ x ∷ codes "+=" ∷ codes "1ull" ∷ codes ")" ∷ codes "{" ∷ ((text ++ codes "}" ∷ []) ++ rest)) (For x b body) rest
  unfolding for_at
  fine_for x b text body h g p rest =
      rw (two_parts text [] rest (codes "}"))
      (fine_expect _ (codes "(") _ _ _ (fine_expect _ (codes "uint64_t") _ _ _ (fine_named _ x _ _ _ h (fine_after _ _ _ _ _ _ _ (fine_bound x b g _) (fine_after _ _ _ _ _ _ _ (fine_turn x _) (fine_after _ _ _ _ _ _ _ (fine_block text body p rest) (fine_taken _ rest)))))))

mutual
  unfolding stmt_at stmt_layer behind_target

  pub fine_stmt : (s : Stmt) → IsSpelledStmt s → (size n : ℕ) (rest : List Lexeme) → Fine (stmt_at size n) (stmt_lexemes s ++ rest) s rest
  fine_stmt s h size zero rest = fine_deep s _ rest
  fine_stmt (DeclNumber x v) h size (suc n) rest = fine_off _ _ _ (codes "uint64_t") _ _ _ refl (fine_here _ _ (codes "uint64_t") _ _ _ (fine_number size n x v h.0 h.1 rest))
  fine_stmt (DeclPointer x e) h size (suc n) rest = fine_off _ _ _ (codes "const") _ _ _ refl (fine_past _ _ (codes "uint64_t") _ _ _ refl (fine_here _ _ (codes "const") _ _ _ (fine_pointer size n x e h.0 h.1 rest)))
  fine_stmt (Assign x v) h size (suc n) rest = fine_on_name _ _ x _ _ _ h.0 (fine_here _ _ (codes "=") _ _ _ (fine_assign size n x v h.1 rest))
  fine_stmt (Store x i e) h size (suc n) rest = fine_on_name _ _ x _ _ _ h.0 (fine_past _ _ (codes "=") _ _ _ refl (fine_here _ _ (codes "[") _ _ _ (fine_store size n x i e h.1 h.2 rest)))
  fine_stmt (SetCell x c e) h size (suc n) rest = fine_on_name _ _ x _ _ _ h.0 (fine_past _ _ (codes "=") _ _ _ refl (fine_past _ _ (codes "[") _ _ _ refl (fine_expect _ (codes "->") _ _ _ (fine_set_cell size n x c e h.1 h.2 rest))))
  fine_stmt (If' t s ys u ns) h size (suc n) rest =
      rw (If-row t s ys u ns)
      (fine_off _ _ _ (codes "if") _ _ _ refl (fine_past _ _ (codes "uint64_t") _ _ _ refl (fine_past _ _ (codes "const") _ _ _ refl (fine_here _ _ (codes "if") _ _ _
      (fine_if size n t (row_lexemes ys) (row_lexemes ns) _ _ h.0 (stmts_read ys h.1 size n) (stmts_read ns h.2 size n) rest)))))
  fine_stmt (For' x b s body) h size (suc n) rest =
      rw (For-row x b s body)
      (fine_off _ _ _ (codes "for") _ _ _ refl (fine_past _ _ (codes "uint64_t") _ _ _ refl (fine_past _ _ (codes "const") _ _ _ refl (fine_past _ _ (codes "if") _ _ _ refl (fine_here _ _ (codes "for") _ _ _
      (fine_for size n x b (row_lexemes body) _ h.0 h.1 (stmts_read body h.2 size n) rest))))))
  fine_stmt (Return e) h size (suc n) rest =
      fine_off _ _ _ (codes "return") _ _ _ refl (fine_past _ _ (codes "uint64_t") _ _ _ refl (fine_past _ _ (codes "const") _ _ _ refl (fine_past _ _ (codes "if") _ _ _ refl (fine_past _ _ (codes "for") _ _ _ refl (fine_expect _ (codes "return") _ _ _ (fine_return size n e h rest))))))

  pub stmts_read : {k : _} (r : Row_of-Stmt k) → IsSpelledRow r → (size n : ℕ) → ListIsRead size n (row_lexemes r) (items-the_row-Stmt k r)
  stmts_read end_of-Stmt h size n rest m = fine_stop _ _ m (codes "}" ∷ rest) refl
  stmts_read (more_of-Stmt s row) h size n rest m =
      rw (append_assoc (stmt_lexemes s) (row_lexemes row) (codes "}" ∷ rest))
      (fine_more _ _ s _ _ _ _ (stmt_goes s h.0 _) (fine_stmt s h.0 size n _) (stmts_read row h.1 size n rest) m)
