use Rattle.std.proofs.Common.{◌≡◌, ap, sym, ◌∙◌}
use Rattle.std.specs.Prelude.{decimal, string_bytes}
use Rattle.ecd_commands.specs.Asked.{bytes_of, depth_word}
use Rattle.ecd_commands.proofs.Tables.{is_read, four}
use Rattle.ecd_commands.proofs.words.read_words.Goals as goal

pub returns-in_default-schema_words-clause-none : goal.returns-in_default-schema_words-clause-none
returns-in_default-schema_words-clause-none c = λ asked asks.
    let words = four c.args.words.now c.file-item.result c.root-item.result c.depth-item.result c.data-item.result c.in-len4.len_at_least c.in-len4.len_below c.file-item.is c.root-item.is c.depth-item.is c.data-item.is in
    let asked_for = is_read (bytes_of c.args.words.now) asked asks in
    let same = sym (ap bytes_of words) ∙ asked_for.2 in
    let digits : string_bytes c.depth-item.result ≡ depth_word asked_for.0.depth asked_for.0.order = cc in
    c.in_default-schema_words.ensures.none asked_for.0.depth asked_for.0.order asked_for.3 (c.as_str-3.ensures.value ∙ digits)
