-- Every reader of a part of a program keeps what readers keep.
use Rattle.std.proofs.Common.{◌≡◌, ℕ, zero, suc, ◌<◌, ◌^◌, List, [], ◌∷◌, ◌++◌, length, refl, ap, sym, ◌∙◌, arith, append_assoc, append-nil}
use Rattle.std.specs.Prelude.{codes, decimal, flat_map}
use Rattle.ecd_cast.specs.declared.tree.Op.TheVariants.{Add}
use Rattle.ecd_cast.specs.declared.tree.Expr.{Expr}
use Rattle.ecd_cast.specs.declared.tree.Expr.TheVariants.{Number, Var, Cell as CellOf, Load, Binary, Not}
use Rattle.ecd_cast.specs.declared.tree.Source.{Source}
use Rattle.ecd_cast.specs.declared.tree.Source.TheVariants.{Value as FromValue, Call as FromCall}
use Rattle.ecd_cast.specs.declared.tree.Stmt.{Stmt}
use Rattle.ecd_cast.specs.declared.tree.Stmt.TheVariants.{Number as DeclNumber, Pointer as DeclPointer, Assign, Store, SetCell, If, For, Return}
use Rattle.ecd_cast.specs.declared.tree.Param.{Param}
use Rattle.ecd_cast.specs.declared.tree.ParamKind.TheVariants.{Number as NumberParam, ReadPointer as ReadPointerParam, WritePointer as WritePointerParam, Struct as StructParam}
use Rattle.ecd_cast.specs.declared.tree.CellInfo.{CellInfo}
use Rattle.ecd_cast.specs.declared.tree.CellKind.TheVariants.{Number as NumberCell, Pointer as PointerCell}
use Rattle.ecd_cast.specs.declared.tree.CItem.{CItem}
use Rattle.ecd_cast.specs.declared.tree.CItem.TheVariants.{Struct as AStructDecl, Function as AFunction}
use Rattle.ecd_cast.specs.Memory.{Name}
use Rattle.ecd_cast.specs.Lexemes.{Lexeme}
use Rattle.ecd_cast.specs.Spelling.{sign, literal, expr_lexemes, with_commas, source_lexemes, stmt_lexemes, stmts_lexemes, param_lexemes, cell_lexemes, item_lexemes, program_lexemes, IsName, IsSpelledExpr, AreSpelled, IsSpelledSource, IsSpelledStmt, IsSpelledBlock, IsSpelledParamKind, AreSpelledParams, AreSpelledCells, IsSpelledItem, AreSpelledItems, IsSpelledProgram}
use Rattle.ecd_cast.proofs.Layers.{lexemes-Load, lexemes-Binary, lexemes-Not, lexemes-If, lexemes-For}
use Rattle.ecd_cgrammar.specs.Reading.{Reader, expect, token, same, begins, op_of, depth_of, is_before, is_more, up_to, one_or_more, separated, listed, behind_name, load_at, not_at, binary_at, behind_open, expr_layer, expr_at, source_behind, source_at, number_at, pointer_at, assign_at, store_at, set_cell_at, behind_target, block_at, if_at, bound_at, turn_at, for_at, return_at, stmt_layer, stmt_at, param, param_at, cell, cell_at, cells_at, struct_at, function_at, item_at, depth_at, program_at}
use Rattle.ecd_cgrammar.proofs.Layers.{spelled-Load, spelled-Binary, spelled-Not, spelled-If, spelled-For}
use Rattle.ecd_cgrammar.proofs.Tables.{number_is, literal_is, op_is}
use Rattle.ecd_reading.proofs.Readers.{good_weak, good_taken, good_deep, begins_tests, more_tests}
use Rattle.ecd_cgrammar.proofs.Readers.{Example, Good, Spelled, good_after, good_bind, good_on, good_on_name, good_when, good_expect, good_named, good_many, good_table, before_tests}

-- ---- lists

pub good_comma : {A : Type 0} (f : A → List Lexeme) (V : A → Type 0) (one : Reader A) → Good (Spelled f V) one → Good (Spelled (λ y. codes "," ∷ f y) V) (expect (codes ",") one)
good_comma f V one good = good_expect (codes ",") (good_weak one (λ y ms g. (ap (λ (t : List Lexeme). codes "," ∷ t) g.0, g.1)) good)

module _ {A : Type 0} (f : A → List Lexeme) (V : A → Type 0) (Vs : List A → Type 0) (none : Vs []) (more : (x : A) (xs : List A) → V x → Vs xs → Vs (x ∷ xs)) (one : Reader A) (good : Good (Spelled f V) one) where
  good_up_to : (close : Lexeme) (size : ℕ) → Good (Spelled (λ xs. flat_map f xs ++ close ∷ []) Vs) (up_to close one size)
  unfolding up_to
  good_up_to close size = good_after (good_many f V Vs none more (is_before close) one (before_tests close) good size) (λ xs v. good_expect close (good_taken xs (refl, v)))

  good_separated : (size : ℕ) → Good (Spelled (with_commas f) (λ xs. (0 < length xs) × Vs xs)) (separated one size)
  unfolding separated one_or_more
  good_separated size =
      good_after good (λ x v. good_after (good_many (λ y. codes "," ∷ f y) V Vs none more (begins (same (codes ","))) _ (begins_tests (same (codes ","))) (good_comma f V one good) size)
      (λ xs vs. good_taken (x ∷ xs) (ap (λ (t : List Lexeme). f x ++ t) (append-nil (flat_map (λ y. codes "," ∷ f y) xs)), (omega arith, more x xs v vs))))

  good_listed : (size : ℕ) → Good (Spelled (λ xs. with_commas f xs ++ codes ")" ∷ []) (λ xs. (0 < length xs) × Vs xs)) (listed one size)
  unfolding listed
  good_listed size = good_after (good_separated size) (λ xs v. good_expect (codes ")") (good_taken xs (refl, v)))

-- ---- single lexemes

good_op : Good (Spelled (λ op. sign op ∷ []) (λ op. Unit {0})) (token op_of)
good_op = good_table op_of (λ op. sign op ∷ []) (λ op. Unit {0}) (λ op m e. (ap (λ (t : Lexeme). t ∷ []) (op_is m op e), tt)) (record { value = Add; text = sign Add ∷ []; plain = (tt, tt); spells = (refl, tt) })

good_depth : Good (Spelled (λ n. decimal n ∷ []) (λ n. n < 2 ^ 32)) (token depth_of)
good_depth = good_table depth_of (λ n. decimal n ∷ []) (λ n. n < 2 ^ 32) (λ n m e. let r = number_is (2 ^ 32) (omega arith) m n e in (ap (λ (t : Lexeme). t ∷ []) r.0, r.1)) (record { value = 0; text = decimal 0 ∷ []; plain = (tt, tt); spells = (refl, omega arith) })

-- ---- expressions

abbrev E : Expr → List Lexeme → Type 0
E = Spelled expr_lexemes IsSpelledExpr

good_behind_name : (x : Name) → IsName x → Good (λ e b. E e (x ∷ b)) (behind_name x)
unfolding behind_name
good_behind_name x n = good_when (codes "->") (good_named (λ c m. good_taken (CellOf x c) (refl, (n, m)))) (good_taken (Var x) (refl, n))

module _ (one : Reader Expr) (good : Good E one) where
  good_load : Good (λ e b. E e (codes "(" ∷ codes "uint64_t" ∷ b)) (load_at one)
  unfolding load_at
  good_load = good_expect (codes ")") (good_named (λ x n. good_expect (codes "[") (good_after good (λ i h. good_expect (codes "]") (good_taken (Load x i) (sym (lexemes-Load x i), spelled-Load x i n h))))))

  good_not : Good (λ e b. E e (codes "(" ∷ codes "!" ∷ b)) (not_at one)
  unfolding not_at
  good_not = good_after good (λ a h. good_expect (codes ")") (good_taken (Not a) (sym (lexemes-Not a), spelled-Not a h)))

  good_binary : Good (λ e b. E e (codes "(" ∷ b)) (binary_at one)
  unfolding binary_at
  good_binary =
      good_after good (λ a g. good_after good_op (λ op _. good_after good (λ b h. good_expect (codes ")") (good_taken (Binary op a b) (sym (lexemes-Binary op a b), spelled-Binary op a b g h)))))

  good_open : Good (λ e b. E e (codes "(" ∷ b)) (behind_open one)
  unfolding behind_open
  good_open = good_when (codes "uint64_t") good_load (good_when (codes "!") good_not good_binary)

  good_layer : Good E (expr_layer one)
  unfolding expr_layer
  good_layer =
      good_on_name (λ x n. good_behind_name x n)
      (good_on (λ k m e. let r = literal_is m k e in good_taken (Number k) (ap (λ (t : Lexeme). t ∷ []) r.0, r.1))
      (good_expect (codes "(") good_open))

an_expr : Example E
an_expr = record { value = Number 0; text = literal 0 ∷ []; plain = (tt, tt); spells = (refl, omega arith) }

pub good_expr : (n : ℕ) → Good E (expr_at n)
unfolding expr_at
good_expr zero = good_deep an_expr
good_expr (suc n) = good_layer (expr_at n) (good_expr n)

-- ---- statements

abbrev S : Stmt → List Lexeme → Type 0
S = Spelled stmt_lexemes IsSpelledStmt

abbrev F : Source → List Lexeme → Type 0
F = Spelled source_lexemes IsSpelledSource

-- a block, with its brackets
abbrev block_lexemes : List Stmt → List Lexeme
block_lexemes ss = codes "{" ∷ (stmts_lexemes ss ++ codes "}" ∷ [])

good_block : (size : ℕ) (one : Reader Stmt) → Good S one → Good (Spelled block_lexemes IsSpelledBlock) (block_at size one)
unfolding block_at
good_block size one each =
    good_expect (codes "{") (good_weak (up_to (codes "}") one size) (λ ss ms g. (ap (λ (t : List Lexeme). codes "{" ∷ t) g.0, g.1)) (good_up_to stmt_lexemes IsSpelledStmt IsSpelledBlock tt (λ x xs g h. (g, h)) one each (codes "}") size))

module _ (size : ℕ) (e : Reader Expr) (good : Good E e) where
  good_args : Good (Spelled (λ args. with_commas expr_lexemes args ++ codes ")" ∷ []) (λ args. (0 < length args) × AreSpelled args)) (listed e size)
  good_args = good_listed expr_lexemes IsSpelledExpr AreSpelled tt (λ x xs g h. (g, h)) e good size

  good_source_behind : (x : Name) → IsName x → Good (λ s b. F s (x ∷ b)) (source_behind size e x)
  unfolding source_behind
  good_source_behind x n =
      good_when (codes "(") (good_after good_args (λ args h. good_taken (FromCall x args) (rw append-nil refl, (n, h.0, h.1))))
      (good_bind (good_behind_name x n) (λ v a g. good_taken (FromValue v) (rw append-nil g.0, g.1)))

  good_source : Good F (source_at size e)
  unfolding source_at
  good_source = good_on_name (λ x n. good_source_behind x n) (good_after good (λ v h. good_taken (FromValue v) (rw append-nil refl, h)))

  good_number : Good (λ s b. S s (codes "uint64_t" ∷ b)) (number_at size e)
  unfolding number_at
  good_number = good_named (λ x n. good_expect (codes "=") (good_after good_source (λ v h. good_expect (codes ";") (good_taken (DeclNumber x v) (refl, (n, h))))))

  good_pointer : Good (λ s b. S s (codes "const" ∷ b)) (pointer_at e)
  unfolding pointer_at
  good_pointer =
      good_expect (codes "uint8_t") (good_expect (codes "*") (good_named (λ x n. good_expect (codes "=") (good_after good (λ v h. good_expect (codes ";") (good_taken (DeclPointer x v) (refl, (n, h))))))))

  good_assign : (x : Name) → IsName x → Good (λ s b. S s (x ∷ codes "=" ∷ b)) (assign_at size e x)
  unfolding assign_at
  good_assign x n = good_after good_source (λ v h. good_expect (codes ";") (good_taken (Assign x v) (refl, (n, h))))

  good_store : (x : Name) → IsName x → Good (λ s b. S s (x ∷ codes "[" ∷ b)) (store_at e x)
  unfolding store_at
  good_store x n =
      good_after good (λ i h. good_expect (codes "]") (good_expect (codes "=") (good_expect (codes "(") (good_expect (codes "uint8_t") (good_expect (codes ")")
      (good_after good (λ v k. good_expect (codes ";") (good_taken (Store x i v) (refl, (n, h, k))))))))))

  good_set_cell : (x : Name) → IsName x → Good (λ s b. S s (x ∷ codes "->" ∷ b)) (set_cell_at e x)
  unfolding set_cell_at
  good_set_cell x n = good_named (λ c m. good_expect (codes "=") (good_after good (λ v h. good_expect (codes ";") (good_taken (SetCell x c v) (refl, (n, m, h))))))

  good_target : (x : Name) → IsName x → Good (λ s b. S s (x ∷ b)) (behind_target size e x)
  unfolding behind_target
  good_target x n = good_when (codes "=") (good_assign x n) (good_when (codes "[") (good_store x n) (good_expect (codes "->") (good_set_cell x n)))

  good_return : Good (λ s b. S s (codes "return" ∷ b)) (return_at e)
  unfolding return_at
  good_return = good_after good (λ v h. good_expect (codes ";") (good_taken (Return v) (refl, h)))

  module _ (one : Reader Stmt) (each : Good S one) where
    if_text : (t : Expr) (ys ns : List Stmt) → codes "if" ∷ (expr_lexemes t ++ (block_lexemes ys ++ (codes "else" ∷ (block_lexemes ns ++ [])))) ≡ stmt_lexemes (If t ys ns)
    if_text t ys ns =
        ap (λ (r : List Lexeme). codes "if" ∷ (expr_lexemes t ++ codes "{" ∷ r)) (append_assoc (stmts_lexemes ys) (codes "}" ∷ []) (codes "else" ∷ (block_lexemes ns ++ [])))
        ∙ ap (λ (r : List Lexeme). codes "if" ∷ (expr_lexemes t ++ codes "{" ∷ (stmts_lexemes ys ++ codes "}" ∷ codes "else" ∷ r))) (append-nil (block_lexemes ns))
        ∙ sym (lexemes-If t ys ns)

    good_if : Good (λ s b. S s (codes "if" ∷ b)) (if_at size e one)
    unfolding if_at
    good_if = good_after good (λ t g. good_after (good_block size one each) (λ ys h. good_expect (codes "else") (good_after (good_block size one each) (λ ns k. good_taken (If t ys ns) (if_text t ys ns, spelled-If t ys ns g h k)))))

    good_bound : (x : Name) → Good (Spelled (λ b. codes "=" ∷ codes "0ull" ∷ codes ";" ∷ x ∷ codes "<" ∷ b ∷ []) IsName) (bound_at x)
    unfolding bound_at
    good_bound x = good_expect (codes "=") (good_expect (codes "0ull") (good_expect (codes ";") (good_expect x (good_expect (codes "<") (good_named (λ b n. good_taken b (refl, n)))))))

    good_turn : (x : Name) → Good (Spelled (λ _. codes ";" ∷ x ∷ codes "+=" ∷ codes "1ull" ∷ codes ")" ∷ []) (λ _. Unit {0})) (turn_at x)
    unfolding turn_at
    good_turn x = good_expect (codes ";") (good_expect x (good_expect (codes "+=") (good_expect (codes "1ull") (good_expect (codes ")") (good_taken tt (refl, tt))))))

    for_text : (x b : Name) (body : List Stmt) →
        codes "for" ∷ codes "(" ∷ codes "uint64_t" ∷ x ∷ codes "=" ∷ codes "0ull" ∷ codes ";" ∷ x ∷ codes "<" ∷ b ∷ codes ";" ∷ x ∷ codes "+=" ∷ codes "1ull" ∷ codes ")" ∷ (block_lexemes body ++ []) ≡ stmt_lexemes (For x b body)
    for_text x b body = rw append-nil (sym (lexemes-For x b body))

    good_for : Good (λ s b. S s (codes "for" ∷ b)) (for_at size one)
    unfolding for_at
    good_for =
        good_expect (codes "(") (good_expect (codes "uint64_t") (good_named (λ x n. good_after (good_bound x) (λ b m. good_after (good_turn x) (λ _ _. good_after (good_block size one each) (λ body h. good_taken (For x b body) (for_text x b body, spelled-For x b body n m h)))))))

    good_stmt_layer : Good S (stmt_layer size e one)
    unfolding stmt_layer
    good_stmt_layer =
        good_on_name (λ x n. good_target x n)
        (good_when (codes "uint64_t") good_number
        (good_when (codes "const") good_pointer
        (good_when (codes "if") good_if
        (good_when (codes "for") good_for
        (good_expect (codes "return") good_return)))))

a_stmt : Example S
a_stmt = record { value = Return (Number 0); text = codes "return" ∷ literal 0 ∷ codes ";" ∷ []; plain = (tt, (tt, (tt, tt))); spells = (refl, omega arith) }

pub good_stmt : (size n : ℕ) → Good S (stmt_at size n)
unfolding stmt_at
good_stmt size zero = good_deep a_stmt
good_stmt size (suc n) = good_stmt_layer size (expr_at n) (good_expr n) (stmt_at size n) (good_stmt size n)

-- ---- items

abbrev pub fits_param : Param → Type 0
fits_param q = IsName q.name × IsSpelledParamKind q.kind

pub good_param : Good (Spelled param_lexemes fits_param) param_at
unfolding param_at
good_param =
    good_when (codes "uint64_t") (good_named (λ x n. good_taken (param x NumberParam) (refl, (n, tt))))
    (good_when (codes "const") (good_expect (codes "uint8_t") (good_expect (codes "*") (good_named (λ x n. good_taken (param x ReadPointerParam) (refl, (n, tt))))))
    (good_when (codes "uint8_t") (good_expect (codes "*") (good_named (λ x n. good_taken (param x WritePointerParam) (refl, (n, tt)))))
    (good_expect (codes "struct") (good_named (λ s m. good_expect (codes "*") (good_named (λ x n. good_taken (param x (StructParam s)) (refl, (n, m)))))))))

abbrev pub fits_cell : CellInfo → Type 0
fits_cell c = IsName c.name

pub good_cell : Good (Spelled cell_lexemes fits_cell) cell_at
unfolding cell_at
good_cell =
    good_when (codes "uint64_t") (good_named (λ x n. good_expect (codes ";") (good_taken (cell x NumberCell) (refl, n))))
    (good_expect (codes "const") (good_expect (codes "uint8_t") (good_expect (codes "*") (good_named (λ x n. good_expect (codes ";") (good_taken (cell x PointerCell) (refl, n)))))))

abbrev I : CItem → List Lexeme → Type 0
I = Spelled item_lexemes IsSpelledItem

good_cells : (size : ℕ) → Good (Spelled (flat_map cell_lexemes) (λ cs. (0 < length cs) × AreSpelledCells cs)) (cells_at size)
unfolding cells_at one_or_more
good_cells size =
    good_after good_cell (λ c g. good_after (good_many cell_lexemes fits_cell AreSpelledCells tt (λ x xs h k. (h, k)) (is_before (codes "}")) cell_at (before_tests (codes "}")) good_cell size)
    (λ cs h. good_taken (c ∷ cs) (ap (λ (t : List Lexeme). cell_lexemes c ++ t) (append-nil (flat_map cell_lexemes cs)), (omega arith, (g, h)))))

good_struct : (size : ℕ) → Good (λ i b. I i (codes "struct" ∷ b)) (struct_at size)
unfolding struct_at
good_struct size =
    good_named (λ x n. good_expect (codes "{") (good_after (good_cells size) (λ cs h. good_expect (codes "}") (good_expect (codes ";") (good_taken (AStructDecl (record { name = x; cells = cs })) (refl, (n, h.0, h.1)))))))

good_params : (size : ℕ) → Good (Spelled (λ qs. with_commas param_lexemes qs ++ codes ")" ∷ []) (λ qs. (0 < length qs) × AreSpelledParams qs)) (listed param_at size)
good_params size = good_listed param_lexemes fits_param AreSpelledParams tt (λ q qs g h. (g.0, g.1, h)) param_at good_param size

function_text : (f : Name) (qs : List Param) (body : List Stmt) → codes "uint64_t" ∷ f ∷ codes "(" ∷ ((with_commas param_lexemes qs ++ codes ")" ∷ []) ++ (block_lexemes body ++ [])) ≡ item_lexemes (AFunction (record { name = f; params = qs; body = body }))
function_text f qs body =
    ap (λ (r : List Lexeme). codes "uint64_t" ∷ f ∷ codes "(" ∷ r) (append_assoc (with_commas param_lexemes qs) (codes ")" ∷ []) (block_lexemes body ++ []))
    ∙ ap (λ (r : List Lexeme). codes "uint64_t" ∷ f ∷ codes "(" ∷ (with_commas param_lexemes qs ++ codes ")" ∷ r)) (append-nil (block_lexemes body))

module _ (size : ℕ) (one : Reader Stmt) (each : Good S one) where
  good_function : Good (λ i b. I i (codes "uint64_t" ∷ b)) (function_at size one)
  unfolding function_at
  good_function =
      good_named (λ f n. good_expect (codes "(") (good_after (good_params size) (λ qs g. good_after (good_block size one each) (λ body h. good_taken (AFunction (record { name = f; params = qs; body = body })) (function_text f qs body, (n, g.0, g.1, h))))))

  pub good_item : Good I (item_at size one)
  unfolding item_at
  good_item = good_when (codes "struct") (good_struct size) (good_expect (codes "uint64_t") good_function)

good_depth_at : Good (Spelled (λ d. codes "enum" ∷ codes "{" ∷ codes "call_depth" ∷ codes "=" ∷ decimal d ∷ codes "}" ∷ codes ";" ∷ []) (λ d. d < 2 ^ 32)) depth_at
unfolding depth_at
good_depth_at =
    good_expect (codes "enum") (good_expect (codes "{") (good_expect (codes "call_depth") (good_expect (codes "=") (good_after good_depth (λ d h. good_expect (codes "}") (good_expect (codes ";") (good_taken d (refl, h))))))))

pub good_program : (size levels : ℕ) → Good (Spelled program_lexemes IsSpelledProgram) (program_at size levels)
unfolding program_at
good_program size levels =
    good_after good_depth_at (λ d g. good_after (good_many item_lexemes IsSpelledItem AreSpelledItems tt (λ i is g h. (g, h)) is_more (item_at size (stmt_at size levels)) more_tests (good_item size (stmt_at size levels) (good_stmt size levels)) size)
    (λ items h. good_taken (record { depth = d; items = items }) (rw append-nil refl, record { fits = g; items_are = h })))
