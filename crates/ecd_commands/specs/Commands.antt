-- What the words of a command ask for.
use Rattle.ecd_commands.specs.Asked.{Asked, SchemaAsked, check, compile, read, write, copy, run, sample}
use Rattle.ecd_commands.specs.declared.words.SchemaWords.{SchemaWords}
use Rattle.ecd_commands.specs.declared.words.Command.{Command}
use Rattle.ecd_commands.specs.declared.words.Command.TheVariants as commands

abbrev pub schema_asked : SchemaWords → SchemaAsked
schema_asked words = record { file = words.file.now; root = words.root.now; depth = words.depth; order = words.order }

abbrev pub asked_by : Command → Asked
asked_by (commands.Check schema) = check (schema_asked schema)
asked_by (commands.Compile schema) = compile (schema_asked schema)
asked_by (commands.Read schema file) = read (schema_asked schema) file.now
asked_by (commands.Write schema value cap) = write (schema_asked schema) value.now cap
asked_by (commands.Copy schema file cap) = copy (schema_asked schema) file.now cap
asked_by (commands.Run file function input steps) = run file.now function.now input.now steps
asked_by (commands.Sample entries) = sample entries
