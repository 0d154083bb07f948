use Rattle.std.proofs.Common.{List, map, subst, arith}
use Rattle.c_token.specs.declared.token.Token.{Token}
use Rattle.c_pre.specs.Views.{tokens_of, state_at, setting_in}
use Rattle.c_pre.proofs.Carried.{Completes, completes_end}
use Rattle.c_pre.proofs.Flags.{behind_end, length_flags}
use Rattle.c_pre.proofs.Lined.{line_stops, line_done}
use Rattle.c_pre.proofs.carrying.carry_all.Goals as goal

pub bounds-flags-i : goal.bounds-flags-i
bounds-flags-i c = omega (arith, c.loop-i-test.true, length_flags c.args.frame.bytes.now c.args.flags.now c.args.lines.now c.requires)

pub returns-in-Err-clause-stop : goal.returns-in-Err-clause-stop
returns-in-Err-clause-stop c = λ no_memory.
    line_stops (setting_in c.args.frame) c.args.flags.now c.args.lines.now c.loop-i.i _ _ (state_at c.loop-i.place) c.in-Err.error c.loop-i.out.items c.requires c.loop-i-test.true
    (c.in-Err.ensures.stop no_memory) c.loop-i.invariant.completes

pub loop-i-preserved : goal.loop-i-preserved
loop-i-preserved c = record {
  few = c.in-Ok.ensures.few;
  recalls = c.in-Ok.ensures.recalls;
  completes = line_done (setting_in c.args.frame) c.args.flags.now c.args.lines.now c.loop-i.i _ _ (state_at c.loop-i.place) (state_at c.carry.new.self) c.loop-i.out.items c.carry.new.out.items
      c.requires c.loop-i-test.true c.in-Ok.ensures.done c.in-Ok.ensures.few c.loop-i.invariant.completes;
}

pub returns-clause-tokens : goal.returns-clause-tokens
returns-clause-tokens c =
    let setting = setting_in c.args.frame in
    let lines = c.args.lines.now in
    let state = state_at c.loop-i.place in
    let given = c.loop-i.out.items in
    completes_end setting (map tokens_of lines) state given
    (subst (λ (ls : List (List Token)). Completes setting (map tokens_of lines) ls state given) (behind_end lines c.loop-i.i c.loop-i-test.false) c.loop-i.invariant.completes)
