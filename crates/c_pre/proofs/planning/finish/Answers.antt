use Rattle.std.proofs.Common.{ℕ, List, Vec, Option, ap, subst, sym, ◌∙◌}
use Rattle.std.specs.Prelude.{option_map}
use Rattle.std.specs.Global.{Global}
use Rattle.c_pre.specs.Views.{macros_in}
use Rattle.c_pre.specs.Known.{fates_in, IsTold}
use Rattle.c_pre.proofs.Marked.{no_place}
use Rattle.c_pre.proofs.Told.{learns_more, below_next, suffices_learnt}
use Rattle.c_pre.proofs.planning.finish.Goals as goal

pub returns-in-None-clause-suffices : goal.returns-in-None-clause-suffices
returns-in-None-clause-suffices c =
    let known = c.loop-index.known in
    suffices_learnt c.args.bytes.now (macros_in c.args.macros.now.entries) c.args.known.now known c.loop-index.index c.loop-index.invariant.learns
    (no_place known.used.keys c.loop-index.index c.in_ok-met_at.field-0 c.in-None.is c.in_ok-met_at.ensures) c.loop-index.invariant.told

pub loop-index-preserved : goal.loop-index-preserved
loop-index-preserved c =
    let macros = macros_in c.args.macros.now.entries in
    let before = c.loop-index.known in
    let after = c.note_lasting.new.known in
    let learns = c.in_ok-note_lasting-in-Some.ensures.learns in
    record {
      learns = learns_more c.args.bytes.now macros c.args.known.now before after c.loop-index.invariant.learns learns;
      told = below_next macros (fates_in before.fates.entries) (fates_in after.fates.entries) before.used.keys after.used.keys c.loop-index.index c.in-Some.name.items learns.kept learns.met c.loop-index.invariant.told
          (sym c.in_ok-met_at.ensures ∙ ap (λ (o : Option (Vec ℕ Global)). option_map (λ (k : Vec ℕ Global). k.items) o) c.in-Some.is)
          (subst (λ (n : List ℕ). IsTold macros (fates_in after.fates.entries) n) c.deref.ensures.value c.in_ok-note_lasting-in-Some.ensures.told);
    }
