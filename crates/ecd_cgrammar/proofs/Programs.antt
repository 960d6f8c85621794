-- What is spelled is read: items and programs.
use Rattle.std.proofs.Common.{◌≡◌, ℕ, ◌<◌, ◌^◌, true, List, [], ◌∷◌, ◌++◌, length, refl, subst, arith, append_assoc, append-nil}
use Rattle.std.specs.Prelude.{codes, flat_map}
use Rattle.ecd_cast.specs.declared.tree.Stmt.{Stmt}
use Rattle.ecd_cast.specs.declared.tree.Param.{Param}
use Rattle.ecd_cast.specs.declared.tree.ParamKind.{ParamKind}
use Rattle.ecd_cast.specs.declared.tree.ParamKind.TheVariants.{Number as NumberParam, ReadPointer as ReadPointerParam, WritePointer as WritePointerParam, Struct as StructParam}
use Rattle.ecd_cast.specs.declared.tree.CellInfo.{CellInfo}
use Rattle.ecd_cast.specs.declared.tree.CellKind.{CellKind}
use Rattle.ecd_cast.specs.declared.tree.CellKind.TheVariants.{Number as NumberCell, Pointer as PointerCell}
use Rattle.ecd_cast.specs.declared.tree.CItem.{CItem}
use Rattle.ecd_cast.specs.declared.tree.CItem.TheVariants.{Struct as AStructDecl, Function as AFunction}
use Rattle.ecd_cast.specs.declared.tree.Program.{Program}
use Rattle.ecd_cast.specs.Memory.{Name}
use Rattle.ecd_cast.specs.Lexemes.{Lexeme}
use Rattle.ecd_cast.specs.Spelling.{with_commas, stmt_lexemes, stmts_lexemes, param_lexemes, cell_lexemes, item_lexemes, program_lexemes, IsName, IsSpelledStmt, IsSpelledBlock, IsSpelledParamKind, AreSpelledParams, AreSpelledCells, IsSpelledItem, AreSpelledItems, IsSpelledProgram}
use Rattle.ecd_cgrammar.specs.Reading.{deep, same, begins, expect, depth_of, is_before, is_more, many, one_or_more, separated, listed, stmt_at, param, param_at, cell, cell_at, cells_at, struct_at, function_at, item_at, depth_at, program_at}
use Rattle.ecd_cgrammar.proofs.Tables.{number_read}
use Rattle.ecd_cgrammar.proofs.Fine.{Fine, fine_taken, fine_after, fine_expect, fine_named, fine_here, fine_past, fine_token, fine_many}
use Rattle.ecd_cgrammar.proofs.Complete.{fine_stmt, stmt_goes, two_parts, fine_block}

abbrev Anything : List Lexeme → Type 0
Anything ms = Unit {0}

-- ---- parameters

abbrev fits_param : Param → Type 0
fits_param q = IsName q.name × IsSpelledParamKind q.kind

fine_kind : (x : Name) (k : ParamKind) → IsName x → IsSpelledParamKind k → (rest : List Lexeme) → Fine param_at (param_lexemes (param x k) ++ rest) (param x k) rest
unfolding param_at
fine_kind x NumberParam n h rest = fine_here _ _ (codes "uint64_t") _ _ _ (fine_named _ x _ _ _ n (fine_taken _ rest))
fine_kind x ReadPointerParam n h rest =
    fine_past _ _ (codes "uint64_t") _ _ _ refl (fine_here _ _ (codes "const") _ _ _ (fine_expect _ (codes "uint8_t") _ _ _ (fine_expect _ (codes "*") _ _ _ (fine_named _ x _ _ _ n (fine_taken _ rest)))))
fine_kind x WritePointerParam n h rest =
    fine_past _ _ (codes "uint64_t") _ _ _ refl (fine_past _ _ (codes "const") _ _ _ refl (fine_here _ _ (codes "uint8_t") _ _ _ (fine_expect _ (codes "*") _ _ _ (fine_named _ x _ _ _ n (fine_taken _ rest)))))
fine_kind x (StructParam s) n h rest =
    fine_past _ _ (codes "uint64_t") _ _ _ refl (fine_past _ _ (codes "const") _ _ _ refl (fine_past _ _ (codes "uint8_t") _ _ _ refl (fine_expect _ (codes "struct") _ _ _
    (fine_named _ s _ _ _ h (fine_expect _ (codes "*") _ _ _ (fine_named _ x _ _ _ n (fine_taken _ rest)))))))

fine_param : (q : Param) → fits_param q → (rest : List Lexeme) → Fine param_at (param_lexemes q ++ rest) q rest
fine_param q h rest = fine_kind q.name q.kind h.0 h.1 rest

fine_params : (size : ℕ) (qs : List Param) → 0 < length qs → AreSpelledParams qs → (rest : List Lexeme) → Fine (listed param_at size) ((with_commas param_lexemes qs) ++ codes ")" ∷ rest) qs rest
unfolding listed separated one_or_more
fine_params size [] lt h rest = absurd (omega arith)
fine_params size (q ∷ qs) lt h rest =
    let more : List Lexeme = flat_map (λ y. codes "," ∷ param_lexemes y) qs in
    rw (append_assoc (param_lexemes q) more (codes ")" ∷ rest))
    (fine_after _ _ _ _ _ _ _ (fine_after _ _ _ _ _ _ _ (fine_param q (h.0, h.1) _) (fine_after _ _ _ _ _ _ _
    (fine_many (λ y. codes "," ∷ param_lexemes y) fits_param AreSpelledParams (λ x xs g. ((g.0, g.1), g.2)) Anything (λ x r. tt) (begins (same (codes ","))) (expect (codes ",") param_at)
    (λ x r v f. fine_expect _ (codes ",") _ _ _ (fine_param x v r)) (λ x r v. refl) qs (codes ")" ∷ rest) h.2 tt refl size) (fine_taken _ _)))
    (fine_expect _ (codes ")") _ _ _ (fine_taken _ rest)))

-- ---- cells

abbrev fits_cell : CellInfo → Type 0
fits_cell c = IsName c.name

fine_cell_kind : (x : Name) (k : CellKind) → IsName x → (rest : List Lexeme) → Fine cell_at (cell_lexemes (cell x k) ++ rest) (cell x k) rest
unfolding cell_at
fine_cell_kind x NumberCell n rest = fine_here _ _ (codes "uint64_t") _ _ _ (fine_named _ x _ _ _ n (fine_expect _ (codes ";") _ _ _ (fine_taken _ rest)))
fine_cell_kind x PointerCell n rest =
    fine_past _ _ (codes "uint64_t") _ _ _ refl (fine_expect _ (codes "const") _ _ _ (fine_expect _ (codes "uint8_t") _ _ _ (fine_expect _ (codes "*") _ _ _ (fine_named _ x _ _ _ n (fine_expect _ (codes ";") _ _ _ (fine_taken _ rest))))))

fine_cell : (c : CellInfo) → fits_cell c → (rest : List Lexeme) → Fine cell_at (cell_lexemes c ++ rest) c rest
fine_cell c h rest = fine_cell_kind c.name c.kind h rest

cell_goes : (x : Name) (k : CellKind) (rest : List Lexeme) → is_before (codes "}") (cell_lexemes (cell x k) ++ rest) ≡ true
cell_goes x NumberCell rest = refl
cell_goes x PointerCell rest = refl

fine_cells : (size : ℕ) (cs : List CellInfo) → 0 < length cs → AreSpelledCells cs → (rest : List Lexeme) → Fine (cells_at size) (flat_map cell_lexemes cs ++ codes "}" ∷ rest) cs (codes "}" ∷ rest)
unfolding cells_at one_or_more
fine_cells size [] lt h rest = absurd (omega arith)
fine_cells size (c ∷ cs) lt h rest =
    rw (append_assoc (cell_lexemes c) (flat_map cell_lexemes cs) (codes "}" ∷ rest))
    (fine_after _ _ _ _ _ _ _ (fine_cell c h.0 _) (fine_after _ _ _ _ _ _ _
    (fine_many cell_lexemes fits_cell AreSpelledCells (λ x xs g. (g.0, g.1)) Anything (λ x r. tt) (is_before (codes "}")) cell_at (λ x r v f. fine_cell x v r) (λ x r v. cell_goes x.name x.kind r) cs (codes "}" ∷ rest) h.1 tt refl size)
    (fine_taken _ _)))

-- ---- items

fine_struct : (size : ℕ) (x : Name) (cs : List CellInfo) → IsName x → 0 < length cs → AreSpelledCells cs → (rest : List Lexeme) →
    Fine (struct_at size) (x ∷ codes "{" ∷ ((flat_map cell_lexemes cs ++ codes "}" ∷ codes ";" ∷ []) ++ rest)) (AStructDecl (record { name = x; cells = cs })) rest
unfolding struct_at
fine_struct size x cs n lt h rest =
    rw (two_parts (flat_map cell_lexemes cs) (codes ";" ∷ []) rest (codes "}"))
    (fine_named _ x _ _ _ n (fine_expect _ (codes "{") _ _ _ (fine_after _ _ _ _ _ _ _ (fine_cells size cs lt h (codes ";" ∷ rest)) (fine_expect _ (codes "}") _ _ _ (fine_expect _ (codes ";") _ _ _ (fine_taken _ rest))))))

stmts_fine : (size n : ℕ) (ss : List Stmt) → IsSpelledBlock ss → (rest : List Lexeme) (m : ℕ) → Fine (many (is_before (codes "}")) (stmt_at size n) deep m) (stmts_lexemes ss ++ codes "}" ∷ rest) ss (codes "}" ∷ rest)
stmts_fine size n ss h rest m =
    fine_many stmt_lexemes IsSpelledStmt IsSpelledBlock (λ x xs g. (g.0, g.1)) Anything (λ x r. tt) (is_before (codes "}")) (stmt_at size n) (λ x r v f. fine_stmt x v size n r) (λ x r v. stmt_goes x v r) ss (codes "}" ∷ rest) h tt refl m

fine_function : (size n : ℕ) (f : Name) (qs : List Param) (body : List Stmt) → IsName f → 0 < length qs → AreSpelledParams qs → IsSpelledBlock body → (rest : List Lexeme) →
    Fine (function_at size (stmt_at size n)) (f ∷ codes "(" ∷ ((with_commas param_lexemes qs ++ codes ")" ∷ codes "{" ∷ (stmts_lexemes body ++ codes "}" ∷ [])) ++ rest)) (AFunction (record { name = f; params = qs; body = body })) rest
unfolding function_at
fine_function size n f qs body g lt h k rest =
    rw (two_parts (with_commas param_lexemes qs) (codes "{" ∷ (stmts_lexemes body ++ codes "}" ∷ [])) rest (codes ")"), two_parts (stmts_lexemes body) [] rest (codes "}"))
    (fine_named _ f _ _ _ g (fine_expect _ (codes "(") _ _ _ (fine_after _ _ _ _ _ _ _ (fine_params size qs lt h _) (fine_after _ _ _ _ _ _ _ (fine_block size n (stmts_lexemes body) body (stmts_fine size n body k) rest) (fine_taken _ rest)))))

fine_item : (size n : ℕ) (i : CItem) → IsSpelledItem i → (rest : List Lexeme) → Fine (item_at size (stmt_at size n)) (item_lexemes i ++ rest) i rest
unfolding item_at
fine_item size n (AStructDecl s) h rest = fine_here _ _ (codes "struct") _ _ _ (fine_struct size s.name s.cells h.0 h.1 h.2 rest)
fine_item size n (AFunction f) h rest = fine_past _ _ (codes "struct") _ _ _ refl (fine_expect _ (codes "uint64_t") _ _ _ (fine_function size n f.name f.params f.body h.0 h.1 h.2 h.3 rest))

item_goes : (i : CItem) (rest : List Lexeme) → is_more (item_lexemes i ++ rest) ≡ true
item_goes (AStructDecl s) rest = refl
item_goes (AFunction f) rest = refl

fine_items : (size n : ℕ) (is : List CItem) → AreSpelledItems is → Fine (many is_more (item_at size (stmt_at size n)) deep size) (flat_map item_lexemes is) is []
fine_items size n is h =
    subst (λ (ms : List Lexeme). Fine (many is_more (item_at size (stmt_at size n)) deep size) ms is []) (append-nil (flat_map item_lexemes is))
    (fine_many item_lexemes IsSpelledItem AreSpelledItems (λ x xs g. (g.0, g.1)) Anything (λ x r. tt) is_more (item_at size (stmt_at size n)) (λ x r v f. fine_item size n x v r) (λ x r v. item_goes x r) is [] h tt refl size)

-- what is spelled is read, unless it stands too deep
pub fine_program : (size n : ℕ) (p : Program) → IsSpelledProgram p → Fine (program_at size n) (program_lexemes p) p []
unfolding program_at depth_at
fine_program size n p h =
    fine_after _ _ _ _ _ _ _ (fine_expect _ (codes "enum") _ _ _ (fine_expect _ (codes "{") _ _ _ (fine_expect _ (codes "call_depth") _ _ _ (fine_expect _ (codes "=") _ _ _
    (fine_after _ _ _ _ _ _ _ (fine_token depth_of _ p.depth _ (number_read (2 ^ 32) (omega arith) p.depth h.fits)) (fine_expect _ (codes "}") _ _ _ (fine_expect _ (codes ";") _ _ _ (fine_taken p.depth _))))))))
    (fine_after _ _ _ _ _ _ _ (fine_items size n p.items h.items_are) (fine_taken p []))
