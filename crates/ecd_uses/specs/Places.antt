-- The places of a tree stand inside the text that its tokens come from.
use Rattle.std.specs.Prelude.{ℕ, ◌<◌, List}
use Rattle.std.specs.List.{AllByRecursion}
use Rattle.ecd_lex.specs.declared.token.Token.{Token}
use Rattle.ecd_lex.specs.Lexemes.{IsInside}
use Rattle.ecd_syntax.specs.declared.tree.Rule.{Rule}
use Rattle.ecd_syntax.specs.declared.tree.Tree.{Tree}
use Rattle.ecd_syntax.specs.Grammar.{Spells}
use Rattle.ecd_uses.specs.declared.site.Site.{Site}
use Rattle.ecd_uses.specs.declared.site.Site.TheVariants.{Use, Parenthesis}
use Rattle.ecd_uses.specs.Sites.{sites_of}

-- the place of a site: that of the name, or of the opening parenthesis
abbrev pub site_place : Site → ℕ
site_place (Use name args asked) = name.at
site_place (Parenthesis at lead) = at

-- the rule's name, its parameters and its sites stand in a text of so many bytes
pub record IsRuleInside (whole : ℕ) (rule : Rule) : Type 0 where
  pub name : rule.name.at < whole
  pub params : AllByRecursion (λ p. p.at < whole) rule.params
  pub sites : AllByRecursion (λ s. site_place s < whole) (sites_of rule)

-- ---- law

-- where the tokens stand in a text, so do the rules that they spell
abbrev pub RulesStandInside : Type 0
RulesStandInside = (tree : Tree) (tokens : List Token) (whole : ℕ) → Spells tree tokens → AllByRecursion (IsInside whole) tokens → AllByRecursion (IsRuleInside whole) tree.rules
