-- What a row of the prelude's table stands for.
use denote.Ref.{Bor}
use Rattle.std.specs.Prelude.{ℕ, List, codes}
use Rattle.ecd_syntax.specs.declared.tree.Alts.{Alts}
use Rattle.ecd_syntax.specs.declared.tree.Rule.{Rule}
use Rattle.ecd_prelude.specs.declared.row.Body.{Body}
use Rattle.ecd_prelude.specs.declared.row.Body.TheVariants.{Any, Major, Simple, Name, Either, Tag, Fraction}
use Rattle.ecd_prelude.specs.Prelude.{defines, only, anything, major, simple, named, either, tag, member, tagged_pair}

abbrev pub body_of : Body → Alts
body_of Any = only anything
body_of (Major number) = only (major number)
body_of (Simple number) = only (simple number)
body_of (Name name) = only (named name.now)
body_of (Either first second) = either first.now second.now
body_of (Tag number name) = only (tag number name.now)
body_of (Fraction number word) = only (tagged_pair number (member word.now (codes "int")) (member (codes "m") (codes "integer")))

abbrev pub rule_of : Bor (List ℕ) × Body → Rule
rule_of (name, body) = defines name.now (body_of body)
