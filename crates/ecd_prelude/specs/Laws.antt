-- What holds of the prelude.
use Rattle.std.specs.Prelude.{◌≡◌, ◌≢◌, ℕ, false, List, [], ◌++◌, map, None}
use Rattle.std.specs.List.{AllPairs, AllByRecursion}
use Rattle.ecd_syntax.specs.declared.tree.Assign.TheVariants.{Define}
use Rattle.ecd_syntax.specs.declared.tree.Entry.{out-Entry}
use Rattle.ecd_syntax.specs.declared.tree.Key.TheVariants as keys
use Rattle.ecd_syntax.specs.declared.tree.Rule.{Rule}
use Rattle.ecd_prelude.specs.Prelude.{prelude_rules, float_names}
use Rattle.ecd_prelude.specs.Sockets.{is_socket}

abbrev pub name_in : Rule → List ℕ
name_in rule = rule.name.text

-- the names with a rule, and then those of floats
abbrev pub all_names : List (List ℕ)
all_names = map name_in prelude_rules ++ float_names

abbrev pub NamesDiffer : Type 0
NamesDiffer = AllPairs (λ x y. x ≢ y) all_names

abbrev pub IsNoSocket : List ℕ → Type 0
IsNoSocket name = is_socket name ≡ false

abbrev pub NamesAreNoSockets : Type 0
NamesAreNoSockets = AllByRecursion IsNoSocket all_names

-- the rule is a definition without parameters, of an entry without occurrence and key
pub record DefinesType (rule : Rule) : Type 0 where
  pub params : rule.params ≡ []
  pub assign : rule.assign ≡ Define
  pub occur : (out-Entry rule.body).occur ≡ None
  pub key : (out-Entry rule.body).key ≡ keys.Missing

abbrev pub EachDefinesType : Type 0
EachDefinesType = AllByRecursion DefinesType prelude_rules
