use Rattle.std.proofs.Common.{◌∙◌, sym}
use Rattle.c_pre.specs.Views.{macros_in}
use Rattle.c_pre.specs.Known.{fates_in, findings, findings_of, is_in}
use Rattle.c_pre.proofs.Noted.{none_of}
use Rattle.c_pre.proofs.Told.{told_added, learns_added}
use Rattle.c_pre.proofs.noting.note_lasting.Goals as goal

pub returns-in_ok-add-in-Some-clause-learns : goal.returns-in_ok-add-in-Some-clause-learns
returns-in_ok-add-in-Some-clause-learns c =
    learns_added c.args.bytes.now (macros_in c.args.macros.now.entries) c.args.known.now c.add.new.known c.mark_all.new.used.keys c.args.name.now c.in-Some.body.tokens.now c.requires.knows
    (sym c.fate_of.ensures ∙ none_of c.fate_of.result (sym c.is_some.ensures ∙ c.if-is_some.false)) (sym c.in-Some.ensures) c.in_ok-mark_all-in-Some.ensures.others c.in_ok-mark_all-in-Some.ensures.marked
    c.in_ok-add-in-Some.ensures.adds c.in_ok-add-in-Some.ensures.used

pub returns-in_ok-add-in-Some-clause-told : goal.returns-in_ok-add-in-Some-clause-told
returns-in_ok-add-in-Some-clause-told c =
    let known = c.args.known.now in
    told_added c.args.bytes.now (macros_in c.args.macros.now.entries) (findings (fates_in known.fates.entries) known.nodes.items (is_in c.mark_all.new.used.keys)) (findings_of c.add.new.known) c.args.name.now c.in-Some.body.tokens.now
    c.in_ok-add-in-Some.ensures.adds
