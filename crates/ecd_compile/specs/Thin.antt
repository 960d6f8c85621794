-- The schemas that are compiled so far: one rule for the root, with one small number.
use Rattle.std.specs.Prelude.{ℕ, pos, ◌≡◌, ◌<◌, ◌≤◌, List, [], ◌∷◌, Option, Some, None}
use Rattle.ecd_syntax.specs.declared.tree.Rule.{Rule}
use Rattle.ecd_syntax.specs.declared.tree.Assign.TheVariants.{Define}
use Rattle.ecd_syntax.specs.declared.tree.Entry.{Entry, out-Entry}
use Rattle.ecd_syntax.specs.declared.tree.Key.{out-Key}
use Rattle.ecd_syntax.specs.declared.tree.Alts.{out-Alts}
use Rattle.ecd_syntax.specs.declared.tree.Type1.{Type1, out-Type1}
use Rattle.ecd_syntax.specs.declared.tree.Type2.{out-Type2}
use Rattle.ecd_syntax.specs.declared.tree.Form.{out-Form}
use Rattle.ecd_syntax.specs.declared.tree.Form.TheOpen as forms
use Rattle.ecd_syntax.specs.declared.tree.Literal.{Literal}
use Rattle.ecd_syntax.specs.declared.tree.Literal.TheVariants.{Int}

-- an integer from 0 to 23
pub record IsSmall (literal : Literal) (n : ℕ) : Type 0 where
  pub is : literal ≡ Int (Some (pos n))
  pub small : n < 24

-- an entry without occurrence and key, whose only choice is a small number without an operator
pub record IsLoneNumber (entry : Entry) (n : ℕ) : Type 0 where
  pub choice : Type1
  pub literal : Literal
  pub no_occurrence : (out-Entry entry).occur ≡ None
  pub no_key : out-Key (out-Entry entry).key ≡ forms.Missing
  pub alone : (out-Alts (out-Entry entry).body).choices ≡ choice ∷ []
  pub no_operator : (out-Type1 choice).op ≡ None
  pub is : out-Form (out-Type2 (out-Type1 choice).left).form ≡ forms.Form::Lit literal
  pub small : IsSmall literal n

-- a rule that defines the root, a letter a to z, without parameters
pub record Defines (rule : Rule) (root : List ℕ) : Type 0 where
  pub letter : ℕ
  pub low : 97 ≤ letter
  pub high : letter ≤ 122
  pub root_is : root ≡ letter ∷ []
  pub named : rule.name.text ≡ root
  pub no_parameters : rule.params ≡ []
  pub defines : rule.assign ≡ Define

-- one rule alone, which defines the root as a small number
pub record IsThin (rules : List Rule) (root : List ℕ) (n : ℕ) : Type 0 where
  pub rule : Rule
  pub alone : rules ≡ rule ∷ []
  pub defines : Defines rule root
  pub number : IsLoneNumber rule.body n

-- the number that is found, and none exactly where there is none
abbrev pub IsFound : (ℕ → Type 0) → Option ℕ → Type 0
IsFound P (Some n) = P n
IsFound P None = (n : ℕ) → P n → ⊥
