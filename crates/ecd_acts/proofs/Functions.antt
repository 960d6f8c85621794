-- A whole function is valid by its parts.
use Rattle.std.proofs.Common.{◌≡◌, ℕ, zero, suc, ◌+◌, ◌<◌, ◌≤◌, List, [], ◌∷◌, ◌++◌, length, refl, ap, sym, ◌∙◌, subst, arith, true, false, map, append-nil}
use Rattle.std.specs.Prelude.{◌^◌, flat_map}
use Rattle.std.proofs.lemmas.List.{map-append}
use Rattle.ecd_cast.specs.declared.tree.Expr.{Expr}
use Rattle.ecd_cast.specs.declared.tree.Stmt.{Stmt, Row_of-Stmt, end_of-Stmt, more_of-Stmt, items-the_row-Stmt, items_hidden-the_row-Stmt-0}
use Rattle.ecd_cast.specs.declared.tree.Stmt.TheVariants.{If, For}
use Rattle.ecd_cast.specs.declared.tree.Stmt.TheBlock as stmts
use Rattle.ecd_cast.specs.declared.tree.Param.{Param}
use Rattle.ecd_cast.specs.declared.tree.Function.{Function}
use Rattle.ecd_cast.specs.declared.tree.CItem.{CItem}
use Rattle.ecd_cast.specs.declared.tree.CItem.TheVariants.{Function as AFunction}
use Rattle.ecd_cast.specs.Memory.{Name}
use Rattle.ecd_cast.specs.Kinds.{Known, ANumber, ATruth, asked, broken_as, kind_in}
use Rattle.ecd_cast.specs.Meaning.{Place, shifted, count_of, count_all}
use Rattle.ecd_cast.specs.Validity.{Fault, Around, Naming, in_loop, is_among, known_after, stmt_faults, row_faults, block_faults, block_returns, named_by, named_in, named_in_row, twice, head_names, params_known, param_broken, struct_names, item_faults, IsValidAfter}
use Rattle.ecd_cast.proofs.Layers.{count-hidden}
use Rattle.ecd_cast.proofs.Kept.{items_grow, both_nil}
use Rattle.ecd_emit.specs.Among.{IsFree}
use Rattle.ecd_acts.specs.Names.{numbered}
use Rattle.ecd_acts.specs.Parts.{known_behind}
use Rattle.ecd_acts.specs.Functions.{AreSound, Declare, AreDifferent, earlier_behind, numbered_from, AreBelow, round_body, SoundByParts, DeclaredByParts, ValidByFunctions}
use Rattle.ecd_acts.proofs.Names.{numbers_apart}
use Rattle.ecd_acts.proofs.Parts.{faults_append, names_append}

-- ---- sound statements

pub sound_joined : (around : Around) (known : Known) (xs ys : List Stmt) → AreSound around known xs → AreSound around (known_behind xs known) ys → AreSound around known (xs ++ ys)
sound_joined around known xs ys h k = record { sound = λ p. faults_append around known xs ys p ∙ both_nil (block_faults around known xs p) (block_faults around (known_behind xs known) ys (shifted p (count_all xs))) (h.sound p) (k.sound (shifted p (count_all xs))) }

faults-row : {n : _} (around : Around) (known : Known) (r : Row_of-Stmt n) (p : Place) → row_faults around known r p ≡ block_faults around known (items-the_row-Stmt n r) p
faults-row around known end_of-Stmt p = refl
faults-row around known (more_of-Stmt s rest) p = ap (λ (l : List Fault). stmt_faults around known s p ++ l) (faults-row around (known_after s known) rest (shifted p (count_of s)))

faults-hidden : (around : Around) (known : Known) (xs : List Stmt) (p : Place) → row_faults around known (stmts.hidden-the_row-Stmt-0 xs) p ≡ block_faults around known xs p
faults-hidden around known xs p = faults-row around known (stmts.hidden-the_row-Stmt-0 xs) p ∙ ap (λ (l : List Stmt). block_faults around known l p) (items_hidden-the_row-Stmt-0 xs)

no_faults : (around : Around) (known : Known) (xs : List Stmt) → AreSound around known xs → (p : Place) → row_faults around known (stmts.hidden-the_row-Stmt-0 xs) p ≡ []
no_faults around known xs h p = faults-hidden around known xs p ∙ h.sound p

pub sound_choice : (around : Around) (known : Known) (t : Expr) (ys ns : List Stmt) → broken_as ATruth around.structs known t ≡ [] → AreSound around known ys → AreSound around known ns → AreSound around known (If t ys ns ∷ [])
sound_choice around known t ys ns e h k = record { sound = λ p. rw (e, no_faults around known ys h (shifted p 1), no_faults around known ns k) refl }

pub sound_loop : (around : Around) (known : Known) (x b : Name) (body : List Stmt) → asked ANumber (kind_in known b) ≡ [] → AreSound (in_loop around x b) ((x, ANumber) ∷ known) body → AreSound around known (For x b body ∷ [])
sound_loop around known x b body e h = record { sound = λ p. rw (e, no_faults (in_loop around x b) ((x, ANumber) ∷ known) body h (shifted p 1)) refl }

pub sound_parts : SoundByParts
sound_parts = record { joined = sound_joined; choice = sound_choice; loop = sound_loop }

-- ---- names

abbrev names_of : List Naming → List Name
names_of ns = map (λ n. n.name) ns

pub declare_joined : (xs ys : List Stmt) (a b : List Name) → Declare xs a → Declare ys b → Declare (xs ++ ys) (a ++ b)
declare_joined xs ys a b h k = record {
  declare = λ p.
      let q : Place = shifted p (count_all xs) in
      ap names_of (names_append xs ys p) ∙ (map-append (λ (n : Naming). n.name) (named_in xs p) (named_in ys q) ∙ rw (h.declare p, k.declare q) refl);
}

named-row : {n : _} (r : Row_of-Stmt n) (p : Place) → named_in_row r p ≡ named_in (items-the_row-Stmt n r) p
named-row end_of-Stmt p = refl
named-row (more_of-Stmt s rest) p = ap (λ (l : List Naming). named_by s p ++ l) (named-row rest (shifted p (count_of s)))

named-hidden : (xs : List Stmt) (p : Place) → named_in_row (stmts.hidden-the_row-Stmt-0 xs) p ≡ named_in xs p
named-hidden xs p = named-row (stmts.hidden-the_row-Stmt-0 xs) p ∙ ap (λ (l : List Stmt). named_in l p) (items_hidden-the_row-Stmt-0 xs)

pub declare_choice : (t : Expr) (ys ns : List Stmt) (a b : List Name) → Declare ys a → Declare ns b → Declare (If t ys ns ∷ []) (a ++ b)
declare_choice t ys ns a b h k = record {
  declare = λ p.
      let q : Place = shifted p (1 + count_all ys) in
      let first = named-hidden ys (shifted p 1) in
      let second = named-hidden ns q in
      let both : names_of (named_in (If t ys ns ∷ []) p) ≡ names_of (named_in ys (shifted p 1) ++ named_in ns q) = rw (count-hidden ys, first, second, append-nil) refl in
      both ∙ (map-append (λ (n : Naming). n.name) (named_in ys (shifted p 1)) (named_in ns q) ∙ rw (h.declare (shifted p 1), k.declare q) refl);
}

pub declare_loop : (x b : Name) (body : List Stmt) (a : List Name) → Declare body a → Declare (For x b body ∷ []) (x ∷ a)
declare_loop x b body a h = record {
  declare = λ p.
      let q : Place = shifted p 1 in
      let inner : named_in_row (stmts.hidden-the_row-Stmt-0 body) (shifted p 1) ++ [] ≡ named_in body (shifted p 1) = append-nil (named_in_row (stmts.hidden-the_row-Stmt-0 body) (shifted p 1)) ∙ named-hidden body (shifted p 1) in
      ap (λ (l : List Naming). x ∷ names_of l) inner ∙ ap (λ (l : List Name). x ∷ l) (h.declare q);
}

pub different_joined : (earlier xs ys : List Name) → AreDifferent earlier xs → AreDifferent (earlier_behind xs earlier) ys → AreDifferent earlier (xs ++ ys)
different_joined earlier [] ys h k = k
different_joined earlier (x ∷ xs) ys h k = (h.0, different_joined (x ∷ earlier) xs ys h.1 k)

none_among : (word : Name) (n : ℕ) (names : List Name) → n < 2 ^ 64 → AreBelow word n names → is_among names (numbered word n) ≡ false
none_among word n [] lt h = refl
none_among word n (x ∷ names) lt h = let here = h.0 n (omega arith) lt in let there = none_among word n names lt h.1 in rw (here, there) refl

below_next : (word : Name) (n : ℕ) (names : List Name) → AreBelow word n names → AreBelow word (suc n) names
below_next word n [] h = tt
below_next word n (x ∷ names) h = ((λ k le lt. h.0 k (omega (arith, le)) lt), below_next word n names h.1)

pub different_numbers : (word : Name) (first count : ℕ) (earlier : List Name) → first + count ≤ 2 ^ 64 → AreBelow word first earlier → AreDifferent earlier (numbered_from word first count)
different_numbers word first zero earlier le h = tt
different_numbers word first (suc count) earlier le h =
    let lt : first < 2 ^ 64 = omega (arith, le) in
    (none_among word first earlier lt h, different_numbers word (suc first) count (numbered word first ∷ earlier) (omega (arith, le)) ((λ k up small. numbers_apart word first k lt small (λ e. absurd (omega (arith, up, e)))), below_next word first earlier h))

pub declared_parts : DeclaredByParts
declared_parts = record { joined = declare_joined; choice = declare_choice; loop = declare_loop; different = different_joined; numbers = different_numbers }

-- ---- functions

none_twice : (earlier : List Name) (ns : List Naming) → AreDifferent earlier (names_of ns) → twice earlier ns ≡ []
none_twice earlier [] h = refl
none_twice earlier (n ∷ ns) h = rw h.0 (none_twice (n.name ∷ earlier) ns h.1)

heads_named : (p : Place) (params : List Param) → names_of (head_names p (map (λ q. q.name) params)) ≡ map (λ q. q.name) params
heads_named p [] = refl
heads_named p (q ∷ params) = ap (λ (l : List Name). q.name ∷ l) (heads_named p params)

pub function_valid : (before : List CItem) (f : Function) (names : List Name) → flat_map (λ q. param_broken (struct_names before) q.kind) f.params ≡ [] → block_returns f.body ≡ true → IsFree f.name before →
    Declare f.body names → AreDifferent [] (map (λ q. q.name) f.params ++ names) → AreSound (round_body before f) (params_known f.params) f.body → IsValidAfter before (AFunction f)
function_valid before f names params returned free declared different are_sound =
    let head : Place = record { item = length before; statement = 0 } in
    let first : Place = record { item = length before; statement = 1 } in
    let given : List Naming = head_names head (map (λ q. q.name) f.params) in
    let all : names_of (given ++ named_in f.body first) ≡ map (λ q. q.name) f.params ++ names =
    map-append (λ (n : Naming). n.name) given (named_in f.body first) ∙ rw (heads_named head f.params, declared.declare first) refl in
    let once = none_twice [] (given ++ named_in f.body first) (subst (λ (l : List Name). AreDifferent [] l) (sym all) different) in
    record { sound = rw (params, returned, free, once, are_sound.sound first) refl }

pub valid_functions : ValidByFunctions
valid_functions = record {
  function = function_valid;
  program = λ p item h k.
      let places : length p.items ≡ 0 + length p.items = omega arith in
      record { sound = items_grow [] p.items item 0 h.sound (subst (λ (n : ℕ). item_faults p.items item (item ∷ []) n ≡ []) places k.sound); depth = refl };
}
