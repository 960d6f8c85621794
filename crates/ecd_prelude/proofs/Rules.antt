-- Each rule of the prelude defines a type.
use Rattle.std.proofs.Common.{◌≡◌, ℕ, List, Option, None, refl, ap, rules}
use Rattle.ecd_syntax.specs.declared.tree.Alts.{Alts}
use Rattle.ecd_syntax.specs.declared.tree.Entry.{out-Entry}
use Rattle.ecd_syntax.specs.declared.tree.Form.{the_lemmas}
use Rattle.ecd_syntax.specs.declared.tree.Key.{Key}
use Rattle.ecd_syntax.specs.declared.tree.Key.TheVariants as keys
use Rattle.ecd_syntax.specs.declared.tree.Occur.{Occur}
use Rattle.ecd_syntax.specs.Reading.{entry_of}
use Rattle.ecd_prelude.specs.Prelude.{defines}
use Rattle.ecd_prelude.specs.Laws.{DefinesType, EachDefinesType}

entry-out : (at : ℕ) (occur : Option Occur) (key : Key) (body : Alts) → out-Entry (entry_of at occur key body) ≡ record { at = at; occur = occur; key = key; body = body }
entry-out at occur key body = search (rules, the_lemmas)

type_rule : (name : List ℕ) (body : Alts) → DefinesType (defines name body)
type_rule name body = let entry = entry-out 0 None keys.Missing body in record { params = refl; assign = refl; occur = ap (λ e. e.occur) entry; key = ap (λ e. e.key) entry }

pub each_defines_type : EachDefinesType
each_defines_type = (type_rule _ _, (type_rule _ _, (type_rule _ _, (type_rule _ _, (type_rule _ _, (type_rule _ _, (type_rule _ _, (type_rule _ _, (type_rule _ _, (type_rule _ _, (type_rule _ _, (type_rule _ _, (type_rule _ _, (type_rule _ _, (type_rule _ _, (type_rule _ _, (type_rule _ _, (type_rule _ _, (type_rule _ _, (type_rule _ _, (type_rule _ _, (type_rule _ _, (type_rule _ _, (type_rule _ _, (type_rule _ _, (type_rule _ _, (type_rule _ _, (type_rule _ _, (type_rule _ _, (type_rule _ _, (type_rule _ _, (type_rule _ _, tt))))))))))))))))))))))))))))))))
