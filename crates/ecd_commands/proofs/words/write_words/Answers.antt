use Rattle.std.proofs.Common.{◌≡◌, ap, sym, ◌∙◌, arith}
use Rattle.std.specs.Prelude.{decimal, string_bytes}
use Rattle.ecd_commands.specs.Asked.{bytes_of, depth_word}
use Rattle.ecd_commands.proofs.Tables.{is_write, five}
use Rattle.ecd_commands.proofs.words.write_words.Goals as goal

pub returns-in_default-schema_words-clause-none : goal.returns-in_default-schema_words-clause-none
returns-in_default-schema_words-clause-none c = λ asked asks.
    let words = five c.args.words.now c.file-item.result c.root-item.result c.depth-item.result c.value-item.result c.cap-item.result c.in-len5.len_at_least c.in-len5.len_below c.file-item.is c.root-item.is c.depth-item.is c.value-item.is c.cap-item.is in
    let asked_for = is_write (bytes_of c.args.words.now) asked asks in
    let same = sym (ap bytes_of words) ∙ asked_for.3 in
    let digits : string_bytes c.depth-item.result ≡ depth_word asked_for.0.depth asked_for.0.order = cc in
    c.in_default-schema_words.ensures.none asked_for.0.depth asked_for.0.order asked_for.4 (c.as_str-3.ensures.value ∙ digits)

pub returns-in_default-number_in-clause-none : goal.returns-in_default-number_in-clause-none
returns-in_default-number_in-clause-none c = λ asked asks.
    let words = five c.args.words.now c.file-item.result c.root-item.result c.depth-item.result c.value-item.result c.cap-item.result c.in-len5.len_at_least c.in-len5.len_below c.file-item.is c.root-item.is c.depth-item.is c.value-item.is c.cap-item.is in
    let asked_for = is_write (bytes_of c.args.words.now) asked asks in
    let same = sym (ap bytes_of words) ∙ asked_for.3 in
    let digits : string_bytes c.cap-item.result ≡ decimal asked_for.2 = cc in
    c.in_default-number_in.ensures.none asked_for.2 (omega arith) asked_for.5 (c.as_str-4.ensures.value ∙ digits)
