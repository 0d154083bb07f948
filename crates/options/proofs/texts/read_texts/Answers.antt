use Rattle.std.proofs.Common.{◌∙◌, ap, map, string_bytes}
use Rattle.clap.specs.Words.{app_of, found_of}
use Rattle.clap.specs.Simple.{is_simple}
use Rattle.clap.specs.Faults.{is_simple_and_free}
use Rattle.options.proofs.Built.{simple, simple_and_free}
use Rattle.options.proofs.Taken.{utf8_words, read_given, read_each, read_usage}
use Rattle.options.proofs.texts.read_texts.Goals as goal

pub returns-in-Ok : goal.returns-in-Ok
returns-in-Ok c =
    let words = map string_bytes c.args.words.now in
    let a = app_of c.in_ok-told.told in
    let is = c.in_ok-told.ensures in
    let f = found_of c.in-Ok.matches in
    let rows = (c.in-Ok.ensures.matches (ap is_simple is ∙ simple)).0 in
    let none = c.in-Ok.ensures.kinds (ap is_simple_and_free is ∙ simple_and_free) in
    record {
      given = read_given a words f c.texts_of.result is (utf8_words c.args.words.now) none rows c.texts_of.ensures;
      each = read_each a words f c.texts_of.result is rows c.texts_of.ensures;
      usage = tt;
    }

pub returns-in-Err : goal.returns-in-Err
returns-in-Err c =
    let words = map string_bytes c.args.words.now in
    let a = app_of c.in_ok-told.told in
    let is = c.in_ok-told.ensures in
    record {
      given = tt;
      each = tt;
      usage = λ u. read_usage a words c.in-Err.error is (c.in-Err.ensures.kinds (ap is_simple_and_free is ∙ simple_and_free)) (c.error_of.ensures u);
    }
