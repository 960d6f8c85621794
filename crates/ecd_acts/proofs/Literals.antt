-- Comparisons with literals, by single bytes and by numbers of two, four and eight.
use Rattle.std.proofs.Common.{◌≡◌, ℕ, suc, ◌+◌, ◌<◌, ◌≤◌, List, [], ◌∷◌, ◌++◌, length, refl, ap, sym, ◌∙◌, subst, arith, Bool, true, false, take, drop, get_or, length-take}
use Rattle.std.specs.Prelude.{nat_eq, not, ◌&&◌, if◌then◌else◌, Some}
use Rattle.std.specs.Int.{Width, w16, w32, w64, byte_len, from_be_bytes, to_be_bytes}
use Rattle.std.proofs.lemmas.List.{take-append-drop}
use Rattle.std.proofs.lemmas.Nat.{be_bytes_2, be_bytes_4, be_bytes_8}
use Rattle.std.proofs.lemmas.Bool.{eqb-true, eqb-false, eq-eqb}
use denote.Hole.Carrier.{hidden}
use Rattle.ecd_cast.specs.declared.tree.Expr.{Expr}
use Rattle.ecd_cast.specs.declared.tree.Expr.TheBlock as exprs
use Rattle.ecd_cast.specs.declared.tree.Expr.TheVariants.{Number, Var, Binary}
use Rattle.ecd_cast.specs.declared.tree.Stmt.{Stmt}
use Rattle.ecd_cast.specs.declared.value.Value.{Value}
use Rattle.ecd_cast.specs.declared.value.Value.TheVariants.{Number as Num, Truth}
use Rattle.ecd_cast.specs.Memory.{Name, Memory}
use Rattle.ecd_cast.specs.Expressions.{Scopes, lookup}
use Rattle.ecd_cast.specs.Meaning.{Calls, assign}
use Rattle.ecd_emit.specs.Shorthands.{guard}
use Rattle.ecd_cast.specs.declared.tree.Op.TheVariants.{Ne}
use Rattle.ecd_emit.specs.Windows.{IsBytes}
use Rattle.ecd_acts.specs.Acts.{Known, Acts, Returns_with, Is, Hands}
use Rattle.ecd_acts.specs.Ends.{Silent}
use Rattle.ecd_acts.specs.Literals.{begins, ComparedAs, where_other, LiteralsByParts, ComparingWide}
use Rattle.ecd_acts.proofs.Statements.{assign_ask_rule, silent_quiet, guard_rule}
use Rattle.ecd_acts.proofs.Windows.{bytes_front}
use Rattle.ecd_acts.proofs.Names.{assigned_found}

-- ---- whether bytes begin with a literal

chosen : (b : Bool) (x y : Bool) → (if b then x && y else false) ≡ ((if b then x else false) && y)
chosen true x y = refl
chosen false x y = refl

pub begins_joined : (bytes first second : List ℕ) → begins bytes (first ++ second) ≡ (begins bytes first && begins (drop (length first) bytes) second)
begins_joined bytes [] second = refl
begins_joined [] (c ∷ first) second = refl
begins_joined (b ∷ bytes) (c ∷ first) second = ap (λ t. if nat_eq b c then t else false) (begins_joined bytes first second) ∙ chosen (nat_eq b c) (begins bytes first) (begins (drop (length first) bytes) second)

begins_same : (literal rest : List ℕ) → begins (literal ++ rest) literal ≡ true
begins_same [] rest = refl
begins_same (c ∷ literal) rest = let same : nat_eq c c ≡ true = eq-eqb c c refl in rw same (begins_same literal rest)

by_first : (b c : ℕ) (bytes literal : List ℕ) (t : Bool) → nat_eq b c ≡ t → (begins bytes literal ≡ true → take (length literal) bytes ≡ literal) → (if t then begins bytes literal else false) ≡ true → b ∷ take (length literal) bytes ≡ c ∷ literal
by_first b c bytes literal true e ih k = let first = eqb-true b c e in let rest = ih k in λ i. first i ∷ rest i
by_first b c bytes literal false e ih k = absurd (cc k)

begins_taken : (bytes literal : List ℕ) → begins bytes literal ≡ true → take (length literal) bytes ≡ literal
begins_taken bytes [] h = refl
begins_taken [] (c ∷ literal) h = absurd (cc h)
begins_taken (b ∷ bytes) (c ∷ literal) h = by_first b c bytes literal (nat_eq b c) refl (begins_taken bytes literal) h

-- ---- numbers

-- what a width's bytes are told back from
abbrev ToldBack : Width → Type 0
ToldBack w = (bs : List ℕ) (n : ℕ) → length bs ≡ byte_len w → ((i : ℕ) → get_or bs i 0 < 256) → n ≡ from_be_bytes w bs → to_be_bytes w n ≡ bs

compared : (w : Width) → ToldBack w → ComparedAs w
compared w back bytes literal are lits long enough = by_test (nat_eq (from_be_bytes w (take (byte_len w) bytes)) (from_be_bytes w literal)) refl (begins bytes literal) refl
  where
    by_test : (t : Bool) → nat_eq (from_be_bytes w (take (byte_len w) bytes)) (from_be_bytes w literal) ≡ t → (u : Bool) → begins bytes literal ≡ u → t ≡ u
    by_test true e true k = refl
    by_test false e false k = refl
    by_test true e false k =
        let front : List ℕ = take (byte_len w) bytes in
        let count : length (take (byte_len w) bytes) ≡ byte_len w = omega (arith, length-take (byte_len w) bytes, enough) in
        let same : take (byte_len w) bytes ≡ literal =
        sym (back front (from_be_bytes w front) count (bytes_front (byte_len w) bytes are) refl) ∙ back literal (from_be_bytes w front) long lits (eqb-true (from_be_bytes w front) (from_be_bytes w literal) e) in
        let all : begins bytes literal ≡ true = ap (λ (l : List ℕ). begins l literal) (sym (take-append-drop (byte_len w) bytes) ∙ ap (λ (l : List ℕ). l ++ drop (byte_len w) bytes) same) ∙ begins_same literal (drop (byte_len w) bytes) in
        absurd (cc (all, k))
    by_test false e true k =
        let same : take (byte_len w) bytes ≡ literal = ap (λ (n : ℕ). take n bytes) (sym long) ∙ begins_taken bytes literal k in
        absurd (eqb-false (from_be_bytes w (take (byte_len w) bytes)) (from_be_bytes w literal) e (ap (from_be_bytes w) same))

pub compared_16 : ComparedAs w16
compared_16 = compared w16 be_bytes_2

pub compared_32 : ComparedAs w32
compared_32 = compared w32 be_bytes_4

pub compared_64 : ComparedAs w64
compared_64 = compared w64 be_bytes_8

pub literal_parts : LiteralsByParts
literal_parts = record { joined = begins_joined; two = compared_16; four = compared_32; eight = compared_64 }

-- ---- the statements

differs : (b c : Bool) → not b ≡ c → b ≡ not c
differs true c e = ap not e
differs false c e = ap not e

pub wide_rule : {calls : Calls} {m : Memory} {x g : Name} {args : List Expr} {e : Expr} {rest : List Stmt} {env : Scopes} {P : Known ℕ} {F : Known Scopes} (w : Width) (vs : List Value) (old : Value) (bytes literal : List ℕ) (most n : ℕ) →
    ComparedAs w → IsBytes bytes → IsBytes literal → length literal ≡ byte_len w → byte_len w ≤ length bytes → lookup env x ≡ Some old →
    Hands args env m vs → Returns_with (calls g vs m) (Silent (λ loaded. loaded ≡ from_be_bytes w (take (byte_len w) bytes)) most) → ((loaded : ℕ) → Is e ([] ∷ assign x (Num loaded) env) m (Num n)) →
    ((k : ℕ) → k ≤ most → begins bytes literal ≡ false → P n [] (suc (k + 2))) →
    ((k : ℕ) → k ≤ most → begins bytes literal ≡ true → Acts calls m rest (assign x (Num (from_be_bytes w literal)) env) (λ r ws j. P r ws (suc (k + suc j))) (λ next ws j. F next ws (suc (k + suc j)))) →
    Acts calls m (where_other x g args (from_be_bytes w literal) e rest) env P F
unfolding exprs.shape-the_row-Expr-0 exprs.hidden-the_row-Expr-0 hidden
wide_rule {calls} {m} {x} {g} {args} {e} {rest} {env} {P} {F} w vs old bytes literal most n tells are lits long enough found hands loads answer miss hit =
    let number : ℕ = from_be_bytes w literal in
    let loaded : ℕ = from_be_bytes w (take (byte_len w) bytes) in
    let tests : nat_eq loaded number ≡ begins bytes literal = tells bytes literal are lits long enough in
    assign_ask_rule vs (λ l k. (l ≡ loaded) × (k ≤ most)) hands (silent_quiet loads) (λ r k z.
    let here : Scopes = assign x (Num loaded) env in
    let test : Is (Binary Ne (Var x) (Number number)) here m (Truth (not (nat_eq loaded number))) = record { is = rw (assigned_found env x old (Num loaded) found) refl } in
    subst (λ (l : ℕ). Acts calls m (guard Ne (Var x) (Number number) e ∷ rest) (assign x (Num l) env) (λ a ws j. P a ws (suc (k + j))) (λ next ws j. F next ws (suc (k + j)))) (sym z.0)
    (guard_rule (not (nat_eq loaded number)) n test (answer loaded)
    (λ t. miss k z.1 (sym tests ∙ differs (nat_eq loaded number) true t))
    (λ t.
    let is : loaded ≡ number = eqb-true loaded number (differs (nat_eq loaded number) false t) in
    subst (λ (l : ℕ). Acts calls m rest (assign x (Num l) env) (λ a ws j. P a ws (suc (k + suc j))) (λ next ws j. F next ws (suc (k + suc j)))) (sym is) (hit k z.1 (sym tests ∙ differs (nat_eq loaded number) false t)))))

pub comparing_wide : (P : Known ℕ) (F : Known Scopes) → ComparingWide P F
comparing_wide P F = record { wide = wide_rule }
