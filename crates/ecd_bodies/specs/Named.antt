-- The rules of a schema under their names (RFC 8610, sections 2.2.2, 3.1, 3.9 and 3.10).
use Rattle.std.specs.Prelude.{ℕ, Bool, ◌⊎◌, if◌then◌else◌, List, [], ◌∷◌, ◌++◌, Option, IsSome, length, bytes_eq}
use Rattle.std.specs.List.{Contains, filter, position, position_from, list_any}
use Rattle.ecd_syntax.specs.declared.tree.Name.{Name}
use Rattle.ecd_syntax.specs.declared.tree.Rule.{Rule}
use Rattle.ecd_prelude.specs.Prelude.{prelude_rules, float_names}

-- the rules that count, in order: those of the prelude (RFC 8610, Appendix D), then those of the text
abbrev pub all_rules : List Rule → List Rule
all_rules text = prelude_rules ++ text

abbrev pub is_named : List ℕ → Rule → Bool
is_named name rule = bytes_eq rule.name.text name

-- the rules of a name, in order: each gives it one body
abbrev pub bodies_of : List Rule → List ℕ → List Rule
bodies_of text name = filter (is_named name) (all_rules text)

-- the number of the name's first rule
abbrev pub first_of : List Rule → List ℕ → Option ℕ
first_of text name = position (is_named name) (all_rules text)

-- the number of parameters of the first of these rules, and 0 where there is none
abbrev pub first_arity : List Rule → ℕ
first_arity [] = 0
first_arity (rule ∷ rules) = length rule.params

-- whether this is one of the prelude's names of floats
abbrev pub is_float : List ℕ → Bool
is_float name = list_any (bytes_eq name) float_names

-- the number of parameters of a name: those of its first rule, and none of a name of floats, also where the text has a rule for it
abbrev pub arity_of : List Rule → List ℕ → ℕ
arity_of text name = if is_float name then 0 else first_arity (bodies_of text name)

-- the name has a rule, or is one of the prelude's floats, to which the prelude gives none
abbrev pub IsDefined : List Rule → List ℕ → Type 0
IsDefined text name = IsSome (first_of text name) ⊎ Contains float_names name

-- whether a rule of the text has the name
abbrev pub is_in_text : List Rule → List ℕ → Bool
is_in_text text name = list_any (is_named name) text

-- whether this is one of the parameters
abbrev pub is_parameter : List Name → List ℕ → Bool
is_parameter params name = list_any (λ p. bytes_eq p.text name) params

-- the number of the first parameter of the name
abbrev pub parameter_number : List Name → List ℕ → Option ℕ
parameter_number params name = position_from (λ p. bytes_eq p.text name) 0 params
