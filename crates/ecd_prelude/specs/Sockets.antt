-- Names that are sockets (RFC 8610, section 3.9): those that begin with `$`.
use Rattle.std.specs.Prelude.{ℕ, ◌≡◌, Bool, true, false, ◌&&◌, List, [], ◌∷◌, nat_eq}

-- whether the name begins with `$`
abbrev pub is_socket : List ℕ → Bool
is_socket [] = false
is_socket (c ∷ rest) = nat_eq c 36

-- whether the name begins with `$$`, which makes it a socket of a group
abbrev pub is_group_socket : List ℕ → Bool
is_group_socket [] = false
is_group_socket (c ∷ rest) = nat_eq c 36 && is_socket rest

-- a name that begins with one `$` alone
pub record IsTypeSocket (name : List ℕ) : Type 0 where
  pub socket : is_socket name ≡ true
  pub single : is_group_socket name ≡ false
