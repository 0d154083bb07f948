use Rattle.std.proofs.Common.{◌≡◌, ◌+◌, ◌*◌, sym, ap, subst, ◌∙◌}
use Rattle.c_values.specs.Variables.{low_bytes, put_bytes, drawn_count}
use Rattle.actions.specs.Behaviour.{answered}
use Rattle.goto_prog.specs.Meaning.{with_blocks, first_count}
use Rattle.goto_prog.specs.Running.{Running, flow_thread}
use Rattle.goto_prog.proofs.Exchanges.{word_taken}
use Rattle.goto_prog.proofs.Stepping.{takes_word}
use Rattle.goto_prog.proofs.runner.Runner.receive_word.Goals as goal

pub returns : goal.returns
returns c =
    let r = c.args.self.now in
    let m = r.memory in
    let k = c.args.into.0 in
    let q = c.args.into.1 in
    let size = first_count m k q in
    let new : c.fill_word.new.self ≡ record r { memory = word_taken m k size c.args.words c.args.answer.now } =
    c.fill_word.ensures.is ∙ ap (λ bits. record r { memory = with_blocks m (put_bytes m.blocks k (8 * c.args.words) (low_bytes (drawn_count size (8 * c.args.words)) bits)) }) c.word_of.ensures in
    let same = sym (ap (λ (x : Running). first_count x.memory k q) new) ∙ c.fill_word.ensures.same in
    subst (λ (x : Running). flow_thread (record { runner = x; words = c.args.words + 1 }) ≡ answered (flow_thread (record { runner = r; words = c.args.words })) c.args.answer.now) (sym new)
    (takes_word r c.args.i c.requires.found c.args.answer.now c.args.words c.requires.fits k q c.requires.is c.requires.more same)
