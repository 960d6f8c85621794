-- A whole function that is put together is valid by its parts: rules C1 to C6, without a place in them.
use Rattle.std.specs.Prelude.{ℕ, zero, suc, ◌+◌, ◌<◌, ◌≤◌, ◌^◌, ◌≡◌, true, false, List, [], ◌∷◌, ◌++◌, map, flat_map, bytes_eq}
use Rattle.ecd_cast.specs.declared.tree.Expr.{Expr}
use Rattle.ecd_cast.specs.declared.tree.Stmt.{Stmt}
use Rattle.ecd_cast.specs.declared.tree.Stmt.TheVariants.{If, For}
use Rattle.ecd_cast.specs.declared.tree.Function.{Function}
use Rattle.ecd_cast.specs.declared.tree.CItem.{CItem}
use Rattle.ecd_cast.specs.declared.tree.CItem.TheVariants.{Function as AFunction}
use Rattle.ecd_cast.specs.declared.tree.Program.{Program}
use Rattle.ecd_cast.specs.Memory.{Name}
use Rattle.ecd_cast.specs.Kinds.{Known, ANumber, ATruth, asked, broken_as, kind_in}
use Rattle.ecd_cast.specs.Meaning.{Place}
use Rattle.ecd_cast.specs.Validity.{Around, in_loop, is_among, block_faults, block_returns, named_in, params_known, param_broken, structs_of, struct_names, functions_of, IsValidAfter, IsValid, call_depth_of}
use Rattle.ecd_emit.specs.Among.{IsFree}
use Rattle.ecd_acts.specs.Names.{numbered}
use Rattle.ecd_acts.specs.Parts.{known_behind}

-- the statements break none of C1 to C4, wherever they stand
pub record AreSound (around : Around) (known : Known) (body : List Stmt) : Type 0 where
  pub sound : (p : Place) → block_faults around known body p ≡ []

-- they declare these variables in this order, wherever they stand
pub record Declare (body : List Stmt) (names : List Name) : Type 0 where
  pub declare : (p : Place) → map (λ n. n.name) (named_in body p) ≡ names

-- none of the names is among the earlier ones, or stands before itself
abbrev pub AreDifferent : (earlier names : List Name) → Type 0
AreDifferent earlier [] = Unit {0}
AreDifferent earlier (x ∷ names) = (is_among earlier x ≡ false) × AreDifferent (x ∷ earlier) names

abbrev pub earlier_behind : List Name → List Name → List Name
earlier_behind [] earlier = earlier
earlier_behind (x ∷ names) earlier = earlier_behind names (x ∷ earlier)

-- the word with so many numbers behind it, from one on
abbrev pub numbered_from : Name → ℕ → ℕ → List Name
numbered_from word first zero = []
numbered_from word first (suc count) = numbered word first ∷ numbered_from word (suc first) count

-- no name is the word with a number from this one on
abbrev pub AreBelow : Name → ℕ → List Name → Type 0
AreBelow word first [] = Unit {0}
AreBelow word first (x ∷ names) = ((n : ℕ) → first ≤ n → n < 2 ^ 64 → bytes_eq x (numbered word n) ≡ false) × AreBelow word first names

-- what stands round the body of a function that is put behind these items
abbrev pub round_body : List CItem → Function → Around
round_body before f = record { structs = structs_of before; earlier = functions_of before; later = f ∷ []; loops = [] }

-- ---- laws

pub record SoundByParts : Type 0 where
  pub joined : (around : Around) (known : Known) (xs ys : List Stmt) → AreSound around known xs → AreSound around (known_behind xs known) ys → AreSound around known (xs ++ ys)
  pub choice :
      (around : Around) (known : Known) (t : Expr) (ys ns : List Stmt) → broken_as ATruth around.structs known t ≡ [] → AreSound around known ys → AreSound around known ns → AreSound around known (If t ys ns ∷ [])
  pub loop : (around : Around) (known : Known) (x b : Name) (body : List Stmt) → asked ANumber (kind_in known b) ≡ [] → AreSound (in_loop around x b) ((x, ANumber) ∷ known) body → AreSound around known (For x b body ∷ [])

pub record DeclaredByParts : Type 0 where
  pub joined : (xs ys : List Stmt) (a b : List Name) → Declare xs a → Declare ys b → Declare (xs ++ ys) (a ++ b)
  pub choice : (t : Expr) (ys ns : List Stmt) (a b : List Name) → Declare ys a → Declare ns b → Declare (If t ys ns ∷ []) (a ++ b)
  pub loop : (x b : Name) (body : List Stmt) (a : List Name) → Declare body a → Declare (For x b body ∷ []) (x ∷ a)
  pub different : (earlier xs ys : List Name) → AreDifferent earlier xs → AreDifferent (earlier_behind xs earlier) ys → AreDifferent earlier (xs ++ ys)
  pub numbers : (word : Name) (first count : ℕ) (earlier : List Name) → first + count ≤ 2 ^ 64 → AreBelow word first earlier → AreDifferent earlier (numbered_from word first count)

-- a function whose parts are sound and whose names differ is valid behind the items, and a valid program with it behind its items, and the longest chain told anew, is valid
pub record ValidByFunctions : Type 0 where
  pub function :
      (before : List CItem) (f : Function) (names : List Name) →
      flat_map (λ q. param_broken (struct_names before) q.kind) f.params ≡ [] → block_returns f.body ≡ true → IsFree f.name before →
      Declare f.body names → AreDifferent [] (map (λ q. q.name) f.params ++ names) → AreSound (round_body before f) (params_known f.params) f.body → IsValidAfter before (AFunction f)
  pub program : (p : Program) (item : CItem) → IsValid p → IsValidAfter p.items item → IsValid (record { items = p.items ++ item ∷ []; depth = call_depth_of (p.items ++ item ∷ []) })
