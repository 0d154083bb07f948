use Rattle.std.proofs.Common.{ℕ, List, subst}
use Rattle.c_pre.specs.Views.{macros_in}
use Rattle.c_pre.specs.Known.{fates_in, IsTold}
use Rattle.c_pre.proofs.Told.{learns_more, tells_next, tells_done}
use Rattle.c_pre.proofs.planning.plan_text.Goals as goal

pub loop-token-preserved : goal.loop-token-preserved
loop-token-preserved c =
    let macros = macros_in c.args.macros.now.entries in
    let before = c.loop-token.known in
    let after = c.plan.new.known in
    let learns = c.in_ok-plan.ensures.learns in
    record {
      learns = learns_more c.args.bytes.now macros c.args.known.now before after c.loop-token.invariant.learns learns;
      tells = tells_next c.args.bytes.now macros (fates_in before.fates.entries) (fates_in after.fates.entries) c.args.text.now c.loop-token.rest.now c.in-Some.behind.now c.in-Some.token c.loop-token.invariant.tells learns.kept
          (subst (λ (n : List ℕ). IsTold macros (fates_in after.fates.entries) n) c.text_at.ensures c.in_ok-plan.ensures.told) c.in-Some.ensures;
    }

pub returns-clause-told : goal.returns-clause-told
returns-clause-told c =
    tells_done c.args.bytes.now (macros_in c.args.macros.now.entries) (fates_in c.loop-token.known.fates.entries) c.args.text.now c.loop-token.rest.now c.loop-token.invariant.tells c.in_default.ensures
