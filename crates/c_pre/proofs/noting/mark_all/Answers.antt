use Rattle.std.proofs.Common.{ap, sym, ◌∙◌}
use Rattle.c_pre.specs.Known.{is_in}
use Rattle.c_pre.proofs.Marked.{precedes_self, precedes_more, precedes_covers, marks_first, marks_next, marks_done}
use Rattle.c_pre.proofs.noting.mark_all.Goals as goal

pub loop-token-init : goal.loop-token-init
loop-token-init c = record {
  marks = marks_first c.args.bytes.now (is_in c.args.used.now.keys) c.args.body.now;
  others = precedes_self c.args.used.now.keys;
}

pub loop-token-preserved : goal.loop-token-preserved
loop-token-preserved c =
    let before = c.loop-token.used.keys in
    let after = c.mark.new.used.keys in
    record {
      marks = marks_next c.args.bytes.now (is_in before) (is_in after) c.args.body.now c.loop-token.rest.now c.in-Some.behind.now c.in-Some.token c.loop-token.invariant.marks
          (precedes_covers before after c.in_ok-mark.ensures.others) (ap (is_in after) (sym c.text_at.ensures) ∙ c.in_ok-mark.ensures.marked) c.in-Some.ensures;
      others = precedes_more c.args.used.now.keys before after c.loop-token.invariant.others c.in_ok-mark.ensures.others;
    }

pub returns-clause-marked : goal.returns-clause-marked
returns-clause-marked c = marks_done c.args.bytes.now (is_in c.loop-token.used.keys) c.args.body.now c.loop-token.rest.now c.loop-token.invariant.marks c.in_default.ensures
