-- The rules of validity at a body that is put together: its faults are those of its parts.
use Rattle.std.specs.Prelude.{◌+◌, ◌≡◌, List, [], ◌∷◌, ◌++◌}
use Rattle.ecd_cast.specs.declared.tree.Stmt.{Stmt}
use Rattle.ecd_cast.specs.Memory.{Name}
use Rattle.ecd_cast.specs.Kinds.{Known}
use Rattle.ecd_cast.specs.Meaning.{Place, shifted, count_all}
use Rattle.ecd_cast.specs.Validity.{Around, Naming, known_after, block_faults, block_returns, named_in, twice}

-- what is known behind statements in their block
abbrev pub known_behind : List Stmt → Known → Known
known_behind [] known = known
known_behind (s ∷ rest) known = known_behind rest (known_after s known)

-- the names behind more of them
abbrev pub names_behind : List Naming → List Name → List Name
names_behind [] earlier = earlier
names_behind (n ∷ ns) earlier = names_behind ns (n.name ∷ earlier)

-- ---- a law

pub record ValidByParts : Type 0 where
  pub count : (xs ys : List Stmt) → count_all (xs ++ ys) ≡ count_all xs + count_all ys
  pub faults : (around : Around) (known : Known) (xs ys : List Stmt) (p : Place) → block_faults around known (xs ++ ys) p ≡ block_faults around known xs p ++ block_faults around (known_behind xs known) ys (shifted p (count_all xs))
  pub known_rest : (xs ys : List Stmt) (known : Known) → known_behind (xs ++ ys) known ≡ known_behind ys (known_behind xs known)
  pub names : (xs ys : List Stmt) (p : Place) → named_in (xs ++ ys) p ≡ named_in xs p ++ named_in ys (shifted p (count_all xs))
  pub given_twice : (earlier : List Name) (ns ms : List Naming) → twice earlier (ns ++ ms) ≡ twice earlier ns ++ twice (names_behind ns earlier) ms
  pub returns_last : (xs : List Stmt) (y : Stmt) (ys : List Stmt) → block_returns (xs ++ y ∷ ys) ≡ block_returns (y ∷ ys)
