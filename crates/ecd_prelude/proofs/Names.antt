-- The names of the prelude.
use Rattle.std.proofs.Common.{◌≡◌, ◌↔◌, ℕ, Bool, true, false, ◌||◌, IsTrue, List, [], ◌∷◌, ◌∙◌, sym, refl}
use Rattle.std.specs.List.{Contains, list_any, AllByRecursion}
use Rattle.std.specs.Str.{bytes_eq}
use Rattle.std.proofs.lemmas.Cmp.{nat_list_eq_equiv}
use Rattle.std.proofs.lemmas.Map.Made.{IsDistinct-from_count, AllPairs-from_IsDistinct}
use Rattle.std.proofs.lemmas.Map.Views.{Contains-from_any, list_any-from_Contains}
use Rattle.std.proofs.lemmas.Slice.Eq.{bytes_eq-Decides}
use Rattle.ecd_prelude.specs.Prelude.{float_names}
use Rattle.ecd_prelude.specs.Laws.{all_names, NamesDiffer, IsNoSocket, NamesAreNoSockets}
use Rattle.ecd_prelude.specs.Sockets.{is_socket}

pub listed : (name : List ℕ) (answer : Bool) → answer ≡ list_any (bytes_eq name) float_names → IsTrue answer ↔ Contains float_names name
listed name answer e = (λ t. Contains-from_any (λ x y. (bytes_eq-Decides x y).0) name float_names (sym e ∙ t), λ h. e ∙ list_any-from_Contains nat_list_eq_equiv name float_names h)

pub names-differ : NamesDiffer
names-differ = AllPairs-from_IsDistinct bytes_eq-Decides all_names (IsDistinct-from_count nat_list_eq_equiv all_names refl)

neither : (a b : Bool) → (a || b) ≡ false → (a ≡ false) × (b ≡ false)
neither true b e = cc
neither false b e = (refl, e)

no_sockets : (names : List (List ℕ)) → list_any is_socket names ≡ false → AllByRecursion IsNoSocket names
no_sockets [] e = tt
no_sockets (name ∷ names) e = let both = neither (is_socket name) (list_any is_socket names) e in (both.0, no_sockets names both.1)

pub names-are_no_sockets : NamesAreNoSockets
names-are_no_sockets = no_sockets all_names refl
