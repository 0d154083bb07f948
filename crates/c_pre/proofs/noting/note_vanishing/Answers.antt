use Rattle.std.proofs.Common.{ℕ, List, ◌∙◌, Some, sym, ap, refl}
use Rattle.c_pre.specs.declared.known.Fate.TheVariants.{Vanishes}
use Rattle.c_pre.specs.Views.{macros_in}
use Rattle.c_pre.specs.Known.{fates_in, with_fate}
use Rattle.c_pre.proofs.Noted.{none_of}
use Rattle.c_pre.proofs.Told.{learns_vanishing}
use Rattle.c_pre.proofs.noting.note_vanishing.Goals as goal

pub returns-in_ok-note-in-Some : goal.returns-in_ok-note-in-Some
returns-in_ok-note-in-Some c =
    let known = c.args.known.now in
    let key = c.in_ok-key-in-Some.ensures.items_if_clones_equal (λ y h e. e) in
    record {
      learns = learns_vanishing c.args.bytes.now (macros_in c.args.macros.now.entries) known _ c.mark_all.new.used.keys c.args.name.now known.ranks
          c.in-Some.body.tokens.now c.requires.knows (sym c.fate_of.ensures ∙ none_of c.fate_of.result (sym c.is_some.ensures ∙ c.if-is_some.false)) (sym c.in-Some.ensures)
          c.in_ok-mark_all-in-Some.ensures.others c.in_ok-mark_all-in-Some.ensures.marked (sym c.if-not-are_below.ensures)
          (c.in_ok-note-in-Some.ensures ∙ ap (λ (n : List ℕ). with_fate n (Some (Vanishes known.ranks)) (fates_in known.fates.entries)) key) refl refl;
    }
