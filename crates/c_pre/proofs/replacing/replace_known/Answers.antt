use Rattle.std.proofs.Common.{List, [], ◌∷◌, ◌++◌, None, map, sym, ap, ◌∙◌}
use Rattle.std.proofs.lemmas.List.{append-nil}
use Rattle.c_pre.specs.Views.{macros_in}
use Rattle.c_pre.specs.Waiting.{rest_of, rests_of}
use Rattle.c_pre.specs.Known.{fates_in, findings_of, opens_of}
use Rattle.c_pre.specs.declared.replacing.Rest.{Rest}
use Rattle.c_pre.proofs.Opened.{none_open}
use Rattle.c_pre.proofs.Leading.{wholes_first, wholes_done, wholes_step, out_more, too_many}
use Rattle.c_pre.proofs.Totals.{entries_wait}
use Rattle.c_pre.proofs.Told.{rests_opened}
use Rattle.c_pre.proofs.replacing.replace_known.Goals as goal

pub loop-init : goal.loop-init
loop-init c = record {
  few = c.requires.few;
  told = rests_opened c.args.bytes.now (macros_in c.args.macros.now.entries) (fates_in c.args.known.now.fates.entries) c.args.text.now None [] (rests_of c.put.new.rests.items)
      (ap (λ (xs : List Rest). map rest_of xs) c.in_ok-put.ensures ∙ ap (λ (rs : List Rest). (c.args.text.now, None) ∷ rests_of rs) c.new.ensures.items) c.requires.told tt;
  opened = none_open (findings_of c.args.known.now) c.new-2.result.entries c.new-2.ensures.empty;
  gone = (
    [],
    sym (append-nil c.args.out.now.items),
    wholes_first c.args.bytes.now (macros_in c.args.macros.now.entries) c.args.known.now.nodes.items c.args.text.now c.new.result.items (rests_of c.put.new.rests.items) (opens_of c.new-2.result.entries)
        c.new.ensures.items (ap opens_of c.new-2.ensures.empty) (ap (λ (xs : List Rest). map rest_of xs) c.in_ok-put.ensures),
  );
}

pub returns-in-None-clause-given : goal.returns-in-None-clause-given
returns-in-None-clause-given c =
    let gone = c.loop.invariant.gone in (
      gone.0,
      wholes_done c.args.bytes.now (macros_in c.args.macros.now.entries) c.args.known.now.nodes.items c.args.text.now c.loop.replacing.rests.items (opens_of c.loop.replacing.opened.entries) gone.0
          (sym c.loop.replacing.rests.ok.0 ∙ c.in-None.ensures.cases.0) gone.2,
      gone.1,
    )

pub returns-in-Err-clause-many : goal.returns-in-Err-clause-many
returns-in-Err-clause-many c = λ no_memory.
    let gone = c.loop.invariant.gone in
    let many = c.in-Err.ensures.many no_memory in
    let nodes = c.args.known.now.nodes.items in
    let rests = rests_of c.step.new.self.rests.items in
    let opens = opens_of c.step.new.self.opened.entries in
    let whole = wholes_step c.args.bytes.now (macros_in c.args.macros.now.entries) nodes c.args.text.now c.loop.replacing.rests.items c.pop.new.self.items c.in-Some.rest (opens_of c.loop.replacing.opened.entries)
    rests opens gone.0 many.1.0 c.in-Some.ensures.items gone.2 many.1.2 in
    let found = entries_wait c.args.bytes.now c.args.macros.now.entries nodes rests opens in
    (many.0, ((gone.0 ++ many.1.0) ++ found.0, whole found.0 found.1, too_many c.args.out.now.items c.loop.out.items gone.0 found.0 many.1.0 gone.1 many.1.1))

pub loop-preserved : goal.loop-preserved
loop-preserved c =
    let gone = c.loop.invariant.gone in
    let goes = c.in-Ok.ensures.goes in
    record {
      few = c.in-Ok.ensures.few;
      told = c.in-Ok.ensures.rests;
      opened = c.in-Ok.ensures.opened;
      gone = (
        gone.0 ++ goes.0,
        out_more c.args.out.now.items c.loop.out.items gone.0 goes.0 c.step.new.out.items gone.1 goes.1,
        wholes_step c.args.bytes.now (macros_in c.args.macros.now.entries) c.args.known.now.nodes.items c.args.text.now c.loop.replacing.rests.items c.pop.new.self.items c.in-Some.rest (opens_of c.loop.replacing.opened.entries)
            (rests_of c.step.new.self.rests.items) (opens_of c.step.new.self.opened.entries) gone.0 goes.0 c.in-Some.ensures.items gone.2 goes.2,
      );
    }
