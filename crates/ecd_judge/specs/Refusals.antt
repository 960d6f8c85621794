-- Faults of the parts as refusals of the compiler.
use Rattle.ecd_lex.specs.declared.text.LexFault.{LexFault}
use Rattle.ecd_lex.specs.declared.text.LexFault.TheVariants as lexes
use Rattle.ecd_parse.specs.declared.fault.ParseFault.{ParseFault}
use Rattle.ecd_parse.specs.declared.fault.ParseFault.TheVariants as parses
use Rattle.ecd_names.specs.declared.fault.NameFault.{NameFault}
use Rattle.ecd_names.specs.declared.fault.NameFault.TheVariants as names
use Rattle.ecd_judge.specs.declared.refusal.Refusal.{Refusal}
use Rattle.ecd_judge.specs.declared.refusal.Refusal.TheVariants.{Lex, Parse, Name, OutOfMemory}

abbrev pub of_lexemes_is : LexFault → Refusal
of_lexemes_is (lexes.At place rule) = Lex place rule
of_lexemes_is lexes.OutOfMemory = OutOfMemory

abbrev pub of_grammar_is : ParseFault → Refusal
of_grammar_is (parses.Unexpected place) = Parse place 1
of_grammar_is (parses.TooNested place) = Parse place 2
of_grammar_is parses.OutOfMemory = OutOfMemory

abbrev pub of_names_is : NameFault → Refusal
of_names_is (names.At place rule) = Name place rule
of_names_is names.OutOfMemory = OutOfMemory
