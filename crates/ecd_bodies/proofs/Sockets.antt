-- Names that begin with `$`.
use Rattle.std.proofs.Common.{◌≡◌, ℕ, Bool, false, ◌&&◌, List, [], ◌∷◌, refl, ap}
use Rattle.ecd_prelude.specs.Sockets.{is_socket, is_group_socket}

-- what is no socket is none of a group
pub no_group_socket : (name : List ℕ) → is_socket name ≡ false → is_group_socket name ≡ false
no_group_socket [] h = refl
no_group_socket (c ∷ rest) h = ap (λ (b : Bool). b && is_socket rest) h
